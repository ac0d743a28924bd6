mod Held
mod Adjusted

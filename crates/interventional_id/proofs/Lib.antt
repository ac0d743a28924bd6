mod Products
mod Found
pub mod Drawing

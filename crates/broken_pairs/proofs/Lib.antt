pub mod Apart
mod Walking

pub mod Lists
pub mod Right

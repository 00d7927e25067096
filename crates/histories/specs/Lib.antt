pub mod Lists
pub mod Performing

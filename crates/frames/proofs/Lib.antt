pub mod Found
pub mod Written

pub mod Status
pub mod Calls
pub mod Histories

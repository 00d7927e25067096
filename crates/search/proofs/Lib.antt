pub mod Enters
pub mod Explores
pub mod Halves
pub mod Order
pub mod Retraces
pub mod Stages
pub mod Zeros

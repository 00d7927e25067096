pub mod Ready
pub mod Legality

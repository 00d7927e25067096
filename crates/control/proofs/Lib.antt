pub mod Audits
pub mod Kept
pub mod Sound
pub mod Strings
pub mod Arrangements

pub mod Ranges
pub mod Setup
pub mod Problems
pub mod Systems
pub mod Strings
pub mod Audits
pub mod Arrangements

pub mod Bounds
pub mod Verdicts
pub mod Tied
pub mod Spelling
pub mod Writing

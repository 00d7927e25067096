pub mod Rules
pub mod Counterexamples
pub mod Tuples
pub mod Estimates
pub mod Theorems
pub mod Example

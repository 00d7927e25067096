pub mod Sets
pub mod StepSets
pub mod Closed
pub mod Worklist
pub mod Exact
pub mod Chains
pub mod Masking
pub mod Voting

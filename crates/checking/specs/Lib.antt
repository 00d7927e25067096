pub mod Sizes
pub mod Answers
pub mod Decisions
pub mod Traces

pub mod Shapes
pub mod Steps
pub mod Unique

pub mod Digits
pub mod Lines
pub mod Frames
pub mod Replies

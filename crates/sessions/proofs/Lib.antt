pub mod Gates
pub mod Running
pub mod Keeping
pub mod Promised
pub mod Rooms
pub mod Mapped

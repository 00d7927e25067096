pub mod Answering
pub mod Fronts
pub mod Playing
pub mod Rooms
pub mod Unique
pub mod Verdicts

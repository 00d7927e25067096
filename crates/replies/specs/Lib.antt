pub mod Lines
pub mod Writing
pub mod Plays
pub mod Decks

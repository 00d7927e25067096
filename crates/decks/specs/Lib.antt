pub mod Said
pub mod Order
pub mod Reader
pub mod Decks

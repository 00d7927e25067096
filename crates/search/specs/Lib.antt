pub mod Digraphs
pub mod Queue
pub mod Ranks
pub mod Rings
pub mod Runs
pub mod Searches

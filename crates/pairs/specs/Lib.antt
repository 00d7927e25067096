pub mod Numbers
pub mod Numbered

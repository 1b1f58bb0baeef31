pub mod Meanings
pub mod Loads
pub mod Steps

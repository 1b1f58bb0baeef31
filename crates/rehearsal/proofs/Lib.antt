pub mod Following
pub mod Books
pub mod Making
pub mod Rehearsing
pub mod Lawful

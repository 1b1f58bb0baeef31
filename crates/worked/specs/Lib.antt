pub mod Coded
pub mod Entries
pub mod Examples

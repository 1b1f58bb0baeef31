pub mod Runs
pub mod Book
pub mod Law
pub mod Making

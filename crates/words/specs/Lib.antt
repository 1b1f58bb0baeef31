pub mod Texts
pub mod Steps
pub mod Faults
pub mod Tellings
pub mod Explaining

pub mod Parked
pub mod Linked
pub mod Tuned

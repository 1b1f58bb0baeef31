pub mod Derived
pub mod Composed
pub mod Ascending
pub mod Exactly
pub mod Lawfulness

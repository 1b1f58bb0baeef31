pub mod Rows
pub mod Loading
pub mod States
pub mod Meaning
pub mod Stepping

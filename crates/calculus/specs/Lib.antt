pub mod Calculus
pub mod Exactness
pub mod Lawfulness

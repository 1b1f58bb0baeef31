pub mod Faults
pub mod Sides
pub mod Jobs
pub mod Verdicts

pub mod Facing
pub mod Settling

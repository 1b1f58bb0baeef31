pub mod Nets
pub mod Ways
pub mod Landings
pub mod Copies
pub mod Receivings

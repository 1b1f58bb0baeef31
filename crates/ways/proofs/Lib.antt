pub mod Chosen
pub mod Copied
pub mod Put
pub mod Taken
pub mod Summed
pub mod Received

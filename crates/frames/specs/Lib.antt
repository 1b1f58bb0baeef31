pub mod Kinds
pub mod Frames
pub mod Payloads

pub mod Deciding
pub mod Groups
pub mod Layouts
mod Texts

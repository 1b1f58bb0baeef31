pub mod Tables
pub mod Layouts
pub mod Judging
pub mod Numbers
pub mod Pinned

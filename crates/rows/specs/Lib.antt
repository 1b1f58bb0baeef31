pub mod Units
pub mod Layouts
pub mod Programs

pub mod Admitting
pub mod Changing
pub mod Faults
pub mod LinkRecords
pub mod LinkRules
pub mod Parkings
pub mod Places
pub mod Tuners

pub mod NamedSpots
pub mod Reported
pub mod Reports

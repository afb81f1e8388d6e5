pub mod Agreement
pub mod OpenPlaces
pub mod Following
pub mod Logs
pub mod OtherHeaders

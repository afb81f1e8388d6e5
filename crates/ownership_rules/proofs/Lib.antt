pub mod Among
pub mod ProperLeases
pub mod Covered
pub mod LeaseSet
pub mod WorkedTraces
pub mod WorkedLeases
pub mod Examples
pub mod Words

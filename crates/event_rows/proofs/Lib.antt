pub mod TransferEvents
pub mod CommandCompletions
pub mod Words
pub mod Laws
pub mod LowerLaws

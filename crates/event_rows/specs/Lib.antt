pub mod TransferEvents
pub mod CommandCompletions

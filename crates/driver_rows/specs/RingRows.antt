pub mod RingSteps
pub mod Withdrawing
pub mod GivenCommands

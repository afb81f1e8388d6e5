pub mod GivenUp
pub mod LostEvents
pub mod ResetKeeps
pub mod Resets

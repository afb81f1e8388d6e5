pub mod Answers
pub mod Telling
pub mod Replays
pub mod Keeping
pub mod Inputs

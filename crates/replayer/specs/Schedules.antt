pub mod Harmful
pub mod Verdicts
pub mod Floors
pub mod Making
pub mod Attempts
pub mod Eager
pub mod Tried

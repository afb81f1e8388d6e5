pub mod Progress
pub mod Links
pub mod Writes
pub mod Played
pub mod RingRules

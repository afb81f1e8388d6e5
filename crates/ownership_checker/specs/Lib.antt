pub mod Verdicts
pub mod Streams
pub mod JudgedRows
pub mod RingPasses
pub mod Following

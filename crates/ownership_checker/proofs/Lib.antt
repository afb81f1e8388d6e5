pub mod Streams
pub mod JudgedRows
pub mod RingPasses
pub mod Words
pub mod LowerLaws
pub mod MiddleLaws
pub mod Laws

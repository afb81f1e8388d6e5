pub mod Bits
pub mod Holding
pub mod Marks

pub mod Cuts
pub mod Counts
pub mod Digits
pub mod DigitLanes
pub mod SideBySide
pub mod Joins
pub mod Words

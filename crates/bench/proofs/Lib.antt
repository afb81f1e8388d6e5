pub mod RowsBeside
pub mod FourWords
pub mod Words

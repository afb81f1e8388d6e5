pub mod Followed
pub mod Touching
pub mod Ringing

pub mod Clean
pub mod Passing
pub mod Accepted
pub mod Reading
pub mod KeptRows

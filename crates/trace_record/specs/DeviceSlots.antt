pub mod Endpoints
pub mod Devices
pub mod Counts
pub mod Indices
pub mod Unfinished
pub mod Addressing
pub mod Holders

pub mod WriteTests
pub mod Allowed

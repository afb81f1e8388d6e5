pub mod Standing
pub mod Shown
pub mod Rings
pub mod Waiting

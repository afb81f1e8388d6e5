pub mod Writing
pub mod Told
pub mod Held
pub mod Words
pub mod Laws

pub mod Benches
pub mod Lives

pub mod Contexts
pub mod Bindings
pub mod Slots
pub mod Dropped

pub mod Memory
pub mod Tree
pub mod Page

pub mod Keeping
pub mod Kinds
pub mod EventRows
pub mod DoorbellRows

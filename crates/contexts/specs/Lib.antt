pub mod Contexts
pub mod View
pub mod OnLiterals

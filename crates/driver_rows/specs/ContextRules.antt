pub mod Contents
pub mod Entries

pub mod Naming
pub mod Subjects

pub mod Courses
pub mod Words
pub mod Laws

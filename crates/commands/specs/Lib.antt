pub mod Command
pub mod States
pub mod Changes
pub mod SideBySide
pub mod OnLiterals

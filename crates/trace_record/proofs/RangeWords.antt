pub mod AnyTests
pub mod BitTests
pub mod Counts
pub mod AreaLists
pub mod MarkedWords
pub mod WholeGroups
pub mod WordTests

pub mod Given
pub mod GivenTests
pub mod OnRing
pub mod CommandsOn
pub mod RingWrites
pub mod BesideOthers
pub mod WriteSteps

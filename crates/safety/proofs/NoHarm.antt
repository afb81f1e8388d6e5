pub mod SameCommand
pub mod AtSpots
pub mod Descriptors
pub mod NoWait
pub mod RingMemory
pub mod SafeContext
pub mod Safe
pub mod ContextWords

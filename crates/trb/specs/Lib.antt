pub mod Bits
pub mod Kind
pub mod Block
pub mod Blocks
pub mod CompletionCode
pub mod Descriptor
pub mod Flags
pub mod RingKind

pub mod Areas
pub mod Posting
pub mod Posted
pub mod EventRead
pub mod Other
pub mod Scribble

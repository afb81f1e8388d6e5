pub mod RegisterTests
pub mod StartRules
pub mod RegisterRows
pub mod RegisterReads

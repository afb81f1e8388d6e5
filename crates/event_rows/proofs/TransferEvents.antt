pub mod EventCounts
pub mod Reports
pub mod Noted

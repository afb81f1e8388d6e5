pub mod EventReads

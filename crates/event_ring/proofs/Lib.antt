pub mod DequeueLemmas
pub mod CountLemmas
pub mod TableLemmas
pub mod Words

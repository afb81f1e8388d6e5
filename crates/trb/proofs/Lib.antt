pub mod BitLemmas
pub mod BlockLemmas
pub mod ChainLemmas
pub mod Examples
pub mod FlagLemmas
pub mod KindLemmas
pub mod Words
pub mod Laws

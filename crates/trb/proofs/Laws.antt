-- What the answers cite: the words, and this crate's lemmas
pub use Rattle.trb.proofs.BitLemmas.{lowest_bit-by_mask}
pub use Rattle.trb.proofs.ChainLemmas.{is_chain-by_last}
pub use Rattle.trb.proofs.FlagLemmas.{has_flag-at_places}
pub use Rattle.trb.proofs.KindLemmas.{kind_numbered-unnamed}
pub use Rattle.trb.proofs.Words.{Fits-lt-pow, [], arith, nat_tests, sym, word}
unfoldable pub use Rattle.trb.proofs.Words.{known_from}

-- What the answers cite: the words, and this crate's lemmas
pub use Rattle.verifier.proofs.Streams.{is_refused, is_whole, unverified, verified}
pub use Rattle.verifier.proofs.Words.{FollowsCertificate, err_from_is_err_and, false, kept_whole, lents, opened_bad, subst}

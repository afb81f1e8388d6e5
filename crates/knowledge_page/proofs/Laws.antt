-- What the answers cite: the words, and this crate's lemmas
pub use Rattle.knowledge_page.proofs.BaseWords.{IsRange, Some, ap, arith, err_from_is_err_and, inl, inr, length, text_of, trace_verdict, ◌-◌, ◌≡◌}
pub use Rattle.knowledge_page.proofs.RowsFit.{first_fit, rows_fit}
pub use Rattle.knowledge_page.proofs.Verdicts.{behind_broken, is_there, not_there, range_of_all, range_to}

-- What the answers cite: the words, and this crate's lemmas
pub use Rattle.answers.proofs.Told.{plain_answer, plain_device, told_right}
pub use Rattle.answers.proofs.Words.{Appends, Device, codes, IsBlockAnswer, IsNote, IsPageAnswer, IsPlainNote, List, inl, inr, [], arith, cut, drop, length, length-drop, named_err, refl, rules, string_bytes, subst, sym, take, whole, ℕ, ◌≤◌}
pub use Rattle.answers.proofs.Writing.{device_noted, kept, more, nothing_begun, rest_of, told_note}

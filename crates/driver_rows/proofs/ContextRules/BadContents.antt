-- The rules of what an input context says, by the words of memory
use Rattle.driver_rows.proofs.Words.{rules, ◌≡◌, ℕ, sym, ◌∙◌, Command, Header, Known, has_bad_content, is_bad_added, type_in, adds_bad, has_bad_content_by, is_bad_added_in, lacks_control}

pub bad_content : (h : Header) (k : Known) (memory : ℕ → ℕ) (c : Command) → ((a : ℕ) → k.memory a ≡ memory a) → has_bad_content_by h k memory c ≡ has_bad_content h k c
unfolding has_bad_content is_bad_added type_in lacks_control adds_bad is_bad_added_in
bad_content h k memory c words = sym (λ i. has_bad_content_by h k (λ a. words a i) c) ∙ (search rules)

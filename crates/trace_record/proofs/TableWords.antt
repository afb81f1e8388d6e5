-- Whether the segment table, which is under lease, has a word
use Rattle.trace_record.proofs.LowerLaws.{◌≡◌, ◌∙◌, ℕ, Bool, false, Option, Some, None, ap, sym, list_any, Evt, overlap, table_bytes, Header, event_ring, event_shape, shape_or, base_address, covers, table_range, lease_start, lease_bytes, or_false}

pub has_word : (h : Header) (a : ℕ) (o : Option ℕ) (v : ℕ) (b : Bool) → o ≡ Some v → b ≡ overlap a 4 (base_address v) (table_bytes (event_shape h)) → b ≡ list_any (covers h a 4) (table_range h o)
unfolding table_range covers lease_start lease_bytes
has_word h a o v b is says = says ∙ sym (or_false _) ∙ ap (λ x. list_any (covers h a 4) (table_range h x)) (sym is)

pub no_word : (h : Header) (a : ℕ) (o : Option ℕ) → o ≡ None → false ≡ list_any (covers h a 4) (table_range h o)
unfolding table_range
no_word h a o is = ap (λ x. list_any (covers h a 4) (table_range h x)) (sym is)

pub no_bytes : (h : Header) → event_ring h ≡ None → 0 ≡ table_bytes (event_shape h)
unfolding event_shape
no_bytes h none = ap (λ o. table_bytes (shape_or Evt o)) (sym none)

-- One turn of the pass that fills the needs into the notes
use Rattle.replayer.proofs.Words.{◌≡◌, ◌+◌, ◌<◌, ◌∷◌, ◌++◌, ◌∙◌, ℕ, List, [], length, take, drop, slice_index, replicate, sym, ap, arith, get_or, add-one, append_assoc, get_or-take, length-take-le, append-nil, take_all, set, get_or-append, set-append_seam, take_more, get_or-replicate, drop_all, Note, need_before, need_in, with_need, filled, IsTable}
use Rattle.std.proofs.Math.Seq.{drop-cons}

-- the notes, of which those from position i on are filled
abbrev pub filled_from : ℕ → List Note → List Note
filled_from i notes = take i notes ++ filled (drop i notes)

pub one_left : (s : List Note) (i : ℕ) (d : Note) → i < length s → get_or (filled_from (i + 1) s) i d ≡ get_or s i d
one_left s i d lt = grind (arith, length-take-le, get_or-append, get_or-take)

behind : (s : List Note) (i : ℕ) (d : Note) → i < length s → drop i s ≡ get_or s i d ∷ drop (i + 1) s
behind s i d lt = drop-cons s i d lt ∙ ap (λ n. get_or s i d ∷ drop n s) (sym (add-one i))

set_at_seam : (a b : List Note) (x y : Note) (i : ℕ) → length a ≡ i → set (a ++ x ∷ b) i y ≡ a ++ y ∷ b
set_at_seam a b x y i size = ap (λ n. set (a ++ x ∷ b) n y) (sym size) ∙ set-append_seam a x b y

pub one_filled : (s : List Note) (i : ℕ) (d : Note) → i < length s →
    set (filled_from (i + 1) s) i (with_need (need_in (drop (i + 1) s)) (get_or s i d)) ≡ filled_from i s
unfolding filled
one_filled s i d lt =
    let x : Note = get_or s i d in
    let rest : List Note = filled (drop (i + 1) s) in
    let y : Note = with_need (need_in (drop (i + 1) s)) x in
    ap (λ (l : List Note). set (l ++ rest) i y) (take_more s i d lt)
    ∙ ap (λ (l : List Note). set l i y) (append_assoc (take i s) (x ∷ []) rest)
    ∙ set_at_seam (take i s) rest x y i (length-take-le i s (omega arith))
    ∙ ap (λ (l : List Note). take i s ++ filled l) (sym (behind s i d lt))

pub need_from : (s : List Note) (i : ℕ) (d : Note) (r : ℕ) → i < length s → need_before (get_or s i d) r (need_in (drop (i + 1) s) r) ≡ need_in (drop i s) r
unfolding need_in
need_from s i d r lt = ap (λ (l : List Note). need_in l r) (sym (behind s i d lt))

-- ---- a turn in terms of the code

pub none_filled : (s : List Note) → s ≡ filled_from (length s) s
unfolding filled
none_filled s = sym (ap (λ (l : List Note). take (length s) s ++ filled l) (drop_all (length s) s (omega arith)) ∙ append-nil (take (length s) s) ∙ take_all (length s) s (omega arith))

pub all_zero : (s : List Note) (t : List ℕ) → t ≡ replicate 256 0 → IsTable t (need_in (drop (length s) s))
unfolding need_in
all_zero s t zeros r lt =
    ap (λ l. slice_index l r) zeros ∙ get_or-replicate 256 r 0 0 lt ∙ sym (ap (λ (l : List Note). need_in l r) (drop_all (length s) s (omega arith)))

module _ (s now : List Note) (i left : ℕ) (inside : i < length s) (one : left ≡ i + 1) (is : now ≡ filled_from left s) where
  pub turn_notes : (x y d : Note) → x ≡ get_or now i d → y ≡ with_need (need_in (drop left s)) x → set now i y ≡ filled_from i s
  turn_notes x y d read same = rw (same, read, is, one, one_left s i d inside) (one_filled s i d inside)

  pub turn_table : (t : List ℕ) (x d : Note) → x ≡ get_or now i d → IsTable t (λ r. need_before x r (need_in (drop left s) r)) → IsTable t (need_in (drop i s))
  turn_table t x d read table r lt = table r lt ∙ rw (read, is, one, one_left s i d inside) (need_from s i d r inside)

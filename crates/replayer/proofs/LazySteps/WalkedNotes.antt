-- The steps of the notes, one by one
use Rattle.replayer.proofs.LowerLaws.{◌≡◌, ◌+◌, ◌<◌, ◌≤◌, ◌++◌, ◌∙◌, ℕ, List, [], length, drop, replicate, refl, ap, get_or, zero, suc, append_assoc, append-nil, fun_ext, drop_all, Spot, Data, Header, Step, Note, Row, note_steps, pointers_behind, header_behind, rows_behind, steps_of, spot_in, from_here}

-- the steps so far, and those of the notes from position i on
abbrev pub steps_with : Header → List Row → List Step → (ℕ → Spot) → ℕ → List Note → List Step
steps_with h rows made p i notes = made ++ steps_of h rows p (drop i notes)

module _ (h : Header) (rows : List Row) where
  pub one_note : (notes : List Note) (i : ℕ) (note : Note) (p q : ℕ → Spot) (made now : List Step) → i < length notes → note ≡ get_or notes i note →
      now ≡ made ++ note_steps h p note → q ≡ pointers_behind h p note → steps_with (header_behind h rows note) (rows_behind rows note) now q (i + 1) notes ≡ steps_with h rows made p i notes
  unfolding steps_of
  one_note notes i note p q made now inside item looked moved = rw (from_here notes i note inside item, looked, moved) (append_assoc made _ _)

  pub no_note : (notes : List Note) (i : ℕ) (p : ℕ → Spot) (made : List Step) → length notes ≤ i → steps_with h rows made p i notes ≡ made
  unfolding steps_of
  no_note notes i p made past = ap (λ (l : List Note). made ++ steps_of h rows p l) (drop_all i notes past) ∙ append-nil made

all_alike : (n r : ℕ) (s : Spot) → get_or (replicate n s) r s ≡ s
all_alike zero r s = refl
all_alike (suc n) zero s = refl
all_alike (suc n) (suc r) s = all_alike n r s

-- all pointers at the beginnings, and no steps
pub first_notes : (h : Header) (rows : List Row) (notes : List Note) (made : List Step) → made ≡ [] →
    steps_with h rows made (spot_in (replicate 256 (Data 0))) 0 notes ≡ steps_of h rows (λ r. Data 0) notes
first_notes h rows notes made none = rw none (ap (λ (p : ℕ → Spot). steps_of h rows p notes) (fun_ext (λ r. all_alike 256 r (Data 0))))

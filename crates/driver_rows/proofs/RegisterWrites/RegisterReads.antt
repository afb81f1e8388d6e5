-- A register that was read
use Rattle.driver_rows.proofs.Words.{rules, ◌≡◌, ◌∙◌, ◌||◌, ℕ, [], ◌∷◌, Bool, true, false, refl, Header, Register, Known, learned, older, stricter, broken, lenient_tests, tests, first_of, first_broken, first_broken-is, nothing_broken, TraceRecord, FollowsTrace, IsLeast, IsRowStep, is_impossible_read, read_tests, ImpossibleRead, RegRead}

module _ (h : Header) (r : Register) (v : ℕ) (k : Known) (on : k.stopped ≡ false) where
  abbrev impossible : Bool
  impossible = stricter h k (RegRead r v) ImpossibleRead || is_impossible_read h k r v

  -- older versions refuse nothing more
  as_defined : impossible ≡ is_impossible_read h k r v
  unfolding stricter older
  as_defined = refl

  rules_are : first_of (broken h k (RegRead r v)) ≡ first_broken ((ImpossibleRead, impossible) ∷ [])
  unfolding broken tests lenient_tests read_tests
  rules_are = search (rules, first_broken-is)

  pub bad_read : is_impossible_read h k r v ≡ true → IsLeast h k (RegRead r v) ImpossibleRead
  bad_read bad = rules_are ∙ rw (as_defined ∙ bad) refl

  pub read_is : is_impossible_read h k r v ≡ false → (t : TraceRecord) (m : ℕ → ℕ) → FollowsTrace h (learned h k (RegRead r v)) t m → IsRowStep h k (RegRead r v) t m
  read_is fine t m f = record { clean = nothing_broken _ (rules_are ∙ rw (as_defined ∙ fine) refl); followed = f }

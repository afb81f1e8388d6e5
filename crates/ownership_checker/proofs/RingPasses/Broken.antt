-- The one rule of a ring that comes or goes, and of a descriptor that is withdrawn: where it is broken, and where none is
use Rattle.ownership_checker.proofs.Words.{frees_badly, ◌≡◌, ◌∷◌, ◌∙◌, Bool, true, false, [], List, Some, refl, ap, inl, inr, cases_Bool, if◌then◌else◌, Header, Known, Ring, broken_of, first_of, Refusal, AfterStop, BadFree, BadRing, BadWithdraw, RingRow, FreeRow, NopRow, is_bad_ring, withdraws_badly, row_broken, broken, tests, lenient_tests, stricter, older, restored_on, ring_restored, is_left, some_flips, ℕ}

-- no other rule is tested
abbrev broken_alone : Known → Refusal → Bool → List Refusal
broken_alone k c bad = if k.stopped then AfterStop ∷ [] else broken_of ((c, bad) ∷ [])

module _ (h : Header) (k : Known) where
  pub coming_alone : (ring : Ring) → row_broken h k (RingRow ring) ≡ broken_alone k BadRing (is_bad_ring h k ring)
  unfolding broken tests lenient_tests stricter older restored_on ring_restored is_left some_flips
  coming_alone ring = elim (cases_Bool k.stopped) [ inl off ↦ rw off refl | inr on ↦ rw on refl ]

  pub going_alone : (id : ℕ) → row_broken h k (FreeRow id) ≡ broken_alone k BadFree (frees_badly h k id)
  unfolding broken tests lenient_tests stricter older restored_on ring_restored is_left some_flips
  going_alone id = elim (cases_Bool k.stopped) [ inl off ↦ rw off refl | inr on ↦ rw on refl ]

  pub withdrawing_alone : (r p : ℕ) → row_broken h k (NopRow r p) ≡ broken_alone k BadWithdraw (withdraws_badly h k r p)
  unfolding broken tests lenient_tests stricter restored_on ring_restored is_left some_flips withdraws_badly
  withdrawing_alone r p = elim (cases_Bool k.stopped) [ inl off ↦ rw off refl | inr on ↦ rw on refl ]

module _ (k : Known) (cs : List Refusal) (c : Refusal) (bad : Bool) (is : cs ≡ broken_alone k c bad) where
  pub none_broken : (k.stopped ≡ false) × (bad ≡ false) → cs ≡ []
  none_broken (on, good) = is ∙ rw (on, good) refl

  pub least_broken : k.stopped ≡ false → bad ≡ true → first_of cs ≡ Some c
  least_broken on broken = ap first_of is ∙ rw (on, broken) refl

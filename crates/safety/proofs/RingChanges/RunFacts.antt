-- What a run has of the rings that live: which are active, and that a controller that runs has its command ring and its event ring
use Rattle.safety.proofs.UpperLaws.{◌≡◌, ◌<◌, ◌∙◌, ℕ, true, false, None, Some, Option, arith, sym, ap, subst, inl, inr, cases_Bool, cases_eq, cases_option, false≢true, none-some, Header, Ring, IsHeader, ring_with, command_id, event_shape, World, Known, DriverKeeps, Runs, all_read, is_done, is_named, is_value, command_is_ring, TakesAreRight, place_count, not-false, command_ring, event_ring, event_size, id_or_none, shape_or, Evt, none_has_256}
use Rattle.safety.proofs.DriverHistories.{run_keeps}

pub no_room : (o : Option Ring) → o ≡ None → 0 < place_count (shape_or Evt o) → ⊥
no_room o none some = grind (arith, place_count)

module _ (g : Header) (headed : IsHeader g) (k : Known) (keeps : DriverKeeps g k) (w : World) (run : Runs g k w) where
  abbrev pub later : Known
  later = all_read g k run.unread

  pub later_keeps : DriverKeeps g later
  later_keeps = run_keeps g headed k w keeps run

  pub had : (s i r : ℕ) → w.ring_of s i ≡ Some r → (q : Ring) × (ring_with g r ≡ Some q)
  had s i r at = let t = later_keeps.states.transfer s i r (sym (run.agrees.matches.ring_of s i) ∙ at) in (t.ring, t.found)

  -- a ring that may be looked at is there
  pub active : (r : ℕ) → w.is_active r ≡ true → (q : Ring) × (ring_with g r ≡ Some q)
  active r on =
      elim (cases_eq r (command_id g)) [
        | inl same ↦ subst (λ n. (q : Ring) × (ring_with g n ≡ Some q)) (sym same) (elim (cases_Bool (is_named later)) [
          | inl named ↦ let t = command_is_ring g later later_keeps named in (t.ring, t.found)
          | inr off ↦ absurd (false≢true (sym (run.agrees.matches.before off).rests.inactive ∙ ap w.is_active (sym same) ∙ on))
        ])
        | inr other ↦ elim (run.agrees.matches.rings r other) [
          | inl bound ↦ let t = later_keeps.states.transfer bound.slot bound.index r bound.bound in (t.ring, t.found)
          | inr free ↦ absurd (false≢true (sym free.rests.inactive ∙ on))
        ]
      ]

  -- what was taken of any ring was right
  pub takes_right : (r : ℕ) → TakesAreRight g r (w.events r)
  takes_right r =
      elim (cases_eq r (command_id g)) [
        | inl same ↦ subst (λ n. TakesAreRight g n (w.events n)) (sym same) (elim (cases_Bool (is_named later)) [
          | inl named ↦ let c = (run.agrees.matches.command named).ring in (c.in_order, c.as_declared)
          | inr off ↦ let rests = (run.agrees.matches.before off).rests in (rests.in_order, rests.as_declared)
        ])
        | inr other ↦ elim (run.agrees.matches.rings r other) [
          | inl bound ↦ (bound.matches.in_order, bound.matches.as_declared)
          | inr free ↦ (free.rests.in_order, free.rests.as_declared)
        ]
      ]

  -- ---- the command ring and the event ring of a controller that runs

  pub command_there : is_named later ≡ true → (q : Ring) × (command_ring g ≡ Some q)
  unfolding command_id
  command_there named =
      let t = later_keeps.run.named named in
      elim (cases_option (command_ring g)) [
        | inl none ↦ absurd (none_has_256 g headed t.ring (ap (λ o. ring_with g (id_or_none o)) (sym none) ∙ t.found))
        | inr some ↦ some
      ]

  pub runs_named : w.started ≡ true → w.halted ≡ false → is_named later ≡ true
  runs_named started on =
      later_keeps.run.running (sym run.agrees.stands.started ∙ started)
      (elim (cases_Bool (is_done later.halt)) [ inl done ↦ absurd (false≢true (sym on ∙ run.agrees.stands.halted done)) | inr not_yet ↦ not_yet ])

  pub event_there : w.started ≡ true → (q : Ring) × (event_ring g ≡ Some q)
  unfolding event_size event_shape
  event_there started =
      let some = later_keeps.sized (later_keeps.erstsz_written (sym run.agrees.stands.started ∙ started)) in
      elim (cases_option (event_ring g)) [ inl none ↦ absurd (no_room (event_ring g) none some) | inr there ↦ there ]

  -- ---- one that wasn't started looks at nothing

  used_open : (o : Option ℕ) → o ≡ None → is_value 0 o ≡ true → ⊥
  used_open o none is_first = grind (arith, false≢true)

  pub looks_at_none : w.started ≡ false → (r : ℕ) → w.is_active r ≡ false
  looks_at_none before r =
      let off : later.started ≡ false = sym run.agrees.stands.started ∙ before in
      elim (cases_Bool (w.is_active r)) [
        | inr idle ↦ idle
        | inl on ↦ elim (cases_eq r (command_id g)) [
          | inl same ↦ elim (cases_Bool (is_named later)) [
            | inl named ↦
                let c = (run.agrees.matches.command named).ring in
                absurd (used_open (later.ring (command_id g)).held (c.opened (ap w.is_active (sym same) ∙ on)) (not-false (is_value 0 (later.ring (command_id g)).held) (later_keeps.run.unused off named)))
            | inr none ↦ absurd (false≢true (sym (run.agrees.matches.before none).rests.inactive ∙ ap w.is_active (sym same) ∙ on))
          ]
          | inr other ↦ elim (run.agrees.matches.rings r other) [
            | inl bound ↦ absurd (none-some r (sym ((later_keeps.unstarted off).rings bound.slot bound.index) ∙ bound.bound))
            | inr free ↦ free.rests.inactive
          ]
        ]
      ]

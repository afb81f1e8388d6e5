-- The command ring's first doorbell beneath an event that isn't read yet: the two may change places
use Rattle.safety.proofs.UpperLaws.{[], ◌≡◌, ◌==◌, ◌&&◌, if◌then◌else◌, ◌∙◌, ℕ, Bool, true, false, not, Some, is_none, arith, refl, sym, ap, subst, inl, ltb-true, eqb-true, rules, MayCome, none-some, false≢true, and_parts, or_from, not-false, not_from_true, cond-true, cond-false, Block, BlockKind, TransferEvent, CommandCompletion, kind, is_transfer_event, is_command_completion, Opens, ceiling, is_open, ceiling_held, is_stop_of, Header, Bell, Read, IsHeader, shape_of, command_id, Known, on_ring, command_at, next_command, endpoint_rung, rung, event_read, learned, is_in_profile, may_be_taken, is_stopping_now, is_impossible_by_kind, is_bad_bell, is_bad_doorbell, doorbell_tests, lenient_tests, lenient, DriverKeeps, HeldMore, is_open_if, Square, clean_tests, event_still, EventFacts, event_facts, bell_facts, endpoints_of, transfer_command, ring_here, ring_elsewhere, SameDriver, on_ring_same, both_drivers, Woken, completion_facts, read_same, read_both, flip_driver, woken_more, transfer_woken, is_asked}
use Rattle.safety.proofs.DriverHistories.{kept_driver}
use Rattle.safety.proofs.AlikeEvents.HeldFurther.{counted}

-- the same events may be read, and leave the ring woken
pub record ReadWoken (h : Header) (r : ℕ) (S : ℕ → ℕ → Bool) (k l : Known) (e : Block) : Type 0 where
  pub possible : lenient h l (Read e) ≡ []
  pub after : Woken h r S (learned h k (Read e)) (learned h l (Read e))

module _ (h : Header) (r : ℕ) (S : ℕ → ℕ → Bool) where
  -- the event's own kind apart, it reads what the driver did
  pub read_woken : (k l : Known) (e : Block) → SameDriver k l → l.isochronous ≡ k.isochronous → lenient h k (Read e) ≡ [] →
      (is_impossible_by_kind h l (kind e) e ≡ false) × Woken h r S (event_read h k (kind e) e) (event_read h l (kind e) e) → ReadWoken h r S k l e
  unfolding learned
  read_woken k l b d isochronous clean here = search (rules, here.1, event_still, d.started, d.stopped, d.reads)

module _ (h : Header) where
  -- no endpoint
  abbrev none_of : ℕ → ℕ → Bool
  none_of s i = false

  abbrev command_rung : Known → Known
  command_rung k = on_ring h k (command_id h) Opens

  bell_command : (k : Known) (s t : ℕ) → (s == 0) ≡ true → learned h k (Bell s t) ≡ command_rung k
  unfolding learned rung
  bell_command k s t first = cond-true (s == 0) (command_rung k) (endpoint_rung h k s t (k.ring_of s t)) first

  pub bell_clean : (k : Known) (s t : ℕ) → k.stopped ≡ false → k.started ≡ true → is_asked k.halt ≡ false → (if s == 0 then not (t == 0) else is_bad_bell h k s t) ≡ false → lenient h k (Bell s t) ≡ []
  unfolding lenient lenient_tests doorbell_tests is_bad_doorbell
  bell_clean k s t on started goes good = search (rules, cond-false, or_from, not_from_true)

  module _ (is : IsHeader h) (k : Known) (d : DriverKeeps h k) (first : (k.ring (command_id h)).held ≡ Some 0) where
    -- no command was taken yet
    none_taken : may_be_taken h k ≡ true → ⊥
    unfolding may_be_taken
    none_taken may = search (rules, ltb-true, next_command, ceiling, shape_of, command_id, k.ring, ceiling_held)

    none_stops : (s i : ℕ) → is_stopping_now h k s i ≡ true → is_stopping_now h (command_rung k) s i ≡ true
    unfolding is_stopping_now
    none_stops s i stops = absurd (none_taken (and_parts (may_be_taken h k) (is_stop_of s i (command_at h k (next_command h k))) stops).0)

    held_first : is_open (k.ring (command_id h)) ≡ false
    unfolding is_open
    held_first = ap is_none first

    kind_woken : (e : Block) → lenient h k (Read e) ≡ [] → (n : BlockKind) → kind e ≡ n → is_impossible_by_kind h k n e ≡ false → (is_transfer_event n && not (is_in_profile h k e)) ≡ false →
        (is_impossible_by_kind h (command_rung k) n e ≡ false) × Woken h (command_id h) none_of (event_read h k n e) (event_read h (command_rung k) n e)
    unfolding is_impossible_by_kind event_read on_ring
    kind_woken e may TransferEvent at possible inside =
        transfer_woken h (command_id h) none_of k (command_rung k) (search (rules, command_rung, ring_here, ring_elsewhere, false≢true)) held_first
        (omega (arith, ceiling_held (shape_of h (command_id h)) (k.ring (command_id h)) 0 first)) (λ s i in_it. absurd (false≢true in_it)) none_stops
        (on_ring_same h k (command_id h) Opens tt) e possible (not-false (is_in_profile h k e) inside)
    kind_woken e may CommandCompletion at possible inside =
        absurd (let below = (completion_facts h k e (ap is_command_completion at) (event_facts h k e may).possible).below in omega (arith, below, ceiling_held (shape_of h (command_id h)) (k.ring (command_id h)) 0 first))
    kind_woken e may _ at possible inside = (refl, search (rules, command_rung, ring_here, ring_elsewhere, false≢true))

    -- an event leaves the command ring as it is
    ring_kind : (e : Block) → lenient h k (Read e) ≡ [] → (n : BlockKind) → kind e ≡ n → is_impossible_by_kind h k n e ≡ false → (event_read h k n e).ring (command_id h) ≡ k.ring (command_id h)
    unfolding event_read is_impossible_by_kind
    ring_kind e may TransferEvent at possible = transfer_command h is k (endpoints_of h k d.states) e
    ring_kind e may CommandCompletion at possible =
        absurd (let below = (completion_facts h k e (ap is_command_completion at) (event_facts h k e may).possible).below in omega (arith, below, ceiling_held (shape_of h (command_id h)) (k.ring (command_id h)) 0 first))
    ring_kind e may _ at possible = refl

    ring_still : (e : Block) → lenient h k (Read e) ≡ [] → (learned h k (Read e)).ring (command_id h) ≡ k.ring (command_id h)
    unfolding learned
    ring_still e may = ring_kind e may (kind e) refl (event_facts h k e may).possible

    pub command_square : (s t : ℕ) (e : Block) → (s == 0) ≡ true → MayCome h k (Bell s t) → lenient h k (Read e) ≡ [] → Square h k (Bell s t) e
    unfolding on_ring
    command_square s t e slot clean may =
        let facts : EventFacts h k e = event_facts h k e may in
        let l : Known = command_rung k in
        let k_read : Known = learned h k (Read e) in
        let l_read : Known = learned h l (Read e) in
        let same : SameDriver (counted h k) k_read = read_same h k e in
        let driver : SameDriver k l = on_ring_same h k (command_id h) Opens tt in
        let read : ReadWoken h (command_id h) none_of k l e = read_woken h (command_id h) none_of k l e driver refl may (kind_woken e may (kind e) refl facts.possible facts.inside) in
        let read_keeps : DriverKeeps h k_read = kept_driver h is k (Read e) d (may, tt) (same.stopped ∙ (clean_tests h k (Read e) may).0) in
        let good : (if s == 0 then not (t == 0) else is_bad_bell h k_read s t) ≡ false =
        cond-true (s == 0) (not (t == 0)) (is_bad_bell h k_read s t) slot ∙ sym (cond-true (s == 0) (not (t == 0)) (is_bad_bell h k s t) slot) ∙ (bell_facts h k s t clean.0).good in
        record {
          event = subst (λ x. lenient h x (Read e) ≡ []) (sym (bell_command k s t slot)) read.possible;
          row = (
            bell_clean k_read s t (same.stopped ∙ (clean_tests h k (Read e) may).0) (same.started ∙ facts.started) (ap is_asked same.halt ∙ (bell_facts h k s t clean.0).on) good,
            λ r has. absurd (none-some r (sym (read_keeps.states.no_endpoint s t (inl (eqb-true s 0 slot))) ∙ has)),
          );
          after = subst (λ x. HeldMore x (learned h (learned h k (Bell s t)) (Read e))) (sym (bell_command k_read s t slot))
              (subst (λ x. HeldMore (command_rung k_read) (learned h x (Read e))) (sym (bell_command k s t slot))
              (woken_more h (command_id h) none_of k_read (command_rung k_read) l_read (search (rules, command_rung, ring_here, ring_elsewhere, false≢true)) read.after
              (both_drivers (command_rung k_read) k_read l_read (flip_driver k_read (command_rung k_read) (on_ring_same h k_read (command_id h) Opens tt)) (read_both h k l e driver))));
          awake = cond-true (s == 0) (is_open (k_read.ring (command_id h))) (is_open_if k_read (k_read.ring_of s t)) slot ∙ ap is_open (ring_still e may) ∙ held_first;
        }

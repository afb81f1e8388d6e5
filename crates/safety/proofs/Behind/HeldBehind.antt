-- An event leaves an endpoint whose ring is held, where no unfinished command touches it: its doorbell stays one that may be rung
use Rattle.safety.proofs.UpperLaws.{code_told, [], ◌≡◌, ◌==◌, ◌&&◌, ◌∙◌, ℕ, not, nat_lt, true, false, is_none, Option, None, Some, refl, sym, ap, subst, eqb-true, eq-eqb, rules, cases_Bool, cond-true, and_parts, and_from, or_parts, or_from, not-false, false≢true, same_Some, Block, BlockKind, TransferEvent, CommandCompletion, kind, slot, endpoint, is_transfer_event, is_command_completion, is_success, Spot, is_open, Header, Read, IsHeader, Known, RingSpot, event_at, transferred, transferred_at, transfer_read, event_read, learned, is_touched, is_bad_bell, is_in_profile, is_working, can_report, can_report_at, is_impossible_by_kind, lenient, DriverKeeps, EventFacts, event_facts, event_ring_of, completion_facts, transferred_leaves, EndpointHolds, same_holds, works_there}
use Rattle.safety.proofs.StatesKeep.StatesTransfer.{reported}
use Rattle.safety.proofs.Beneath.StillRings.{passed_holds, other_holds, untouched_behind}
use Rattle.safety.proofs.Behind.UntouchedCompletion.{completion_holds}

module _ (h : Header) (k : Known) (s i r : ℕ) (held : is_open (k.ring r) ≡ false) where
  own_holds : (c : ℕ) (t : Spot) → can_report h k c s i r t ≡ true → EndpointHolds k (transferred h k c s i r t) s i
  unfolding transferred can_report is_working
  own_holds c t can = subst (λ l. EndpointHolds k l s i) (sym (cond-true (is_success c) _ _ (search (rules, works_there, false≢true, and_parts)))) (passed_holds h k s i r t)

module _ (h : Header) (is : IsHeader h) (k : Known) (d : DriverKeeps h k) (s i r : ℕ) (has : k.ring_of s i ≡ Some r) (held : is_open (k.ring r) ≡ false)
    (untouched : is_touched h k s i ≡ false) where
  -- a Transfer Event, for the endpoint of slot t at index j and its ring q
  transferred_holds : (c t j q : ℕ) (spot : Spot) → k.ring_of t j ≡ Some q → can_report h k c t j q spot ≡ true → EndpointHolds k (transferred h k c t j q spot) s i
  transferred_holds c t j q spot bound can =
      search (rules, and_parts, eqb-true, same_Some, can_report, transferred, own_holds, is_open, other_holds, and_from, eq-eqb, transferred_leaves, cases_Bool (s == t && i == j))

  at_holds : (b : Block) (o : Option RingSpot) → event_at h k b ≡ o → can_report_at h k b o ≡ true → EndpointHolds k (transferred_at h k b o) s i
  unfolding transferred_at can_report_at
  at_holds b None found can = same_holds k s i
  at_holds b (Some at) found can = transferred_holds (code_told h k b) (slot b) (endpoint b) at.ring at.spot (event_ring_of h k b at found) can

  -- any event
  event_holds : (b : Block) → k.started ≡ true → (n : BlockKind) → kind b ≡ n → is_impossible_by_kind h k n b ≡ false → (is_transfer_event n && not (is_in_profile h k b)) ≡ false →
      EndpointHolds k (event_read h k n b) s i
  unfolding event_read is_impossible_by_kind transfer_read
  event_holds b started TransferEvent at possible inside = at_holds b (event_at h k b) refl (reported h is k d b possible (not-false (is_in_profile h k b) inside))
  event_holds b started CommandCompletion at possible inside =
      completion_holds h s i is k d b started (completion_facts h k b (ap is_command_completion at) (ap (λ m. is_impossible_by_kind h k m b) at ∙ possible)) untouched
  event_holds b started _ at possible inside = same_holds k s i

  read_counts : (e : Block) → EndpointHolds k (event_read h k (kind e) e) s i → EndpointHolds k (learned h k (Read e)) s i
  unfolding learned
  read_counts e holds = record { state = holds.state; ring_of = holds.ring_of; must_move = holds.must_move; held = holds.held }

  pub read_holds : (e : Block) → lenient h k (Read e) ≡ [] → EndpointHolds k (learned h k (Read e)) s i
  read_holds e clean =
      let facts : EventFacts h k e = event_facts h k e clean in
      read_counts e (event_holds e facts.started (kind e) refl facts.possible facts.inside)

  -- behind the event its ring is held still
  pub still_held : (e : Block) → lenient h k (Read e) ≡ [] → is_open ((learned h k (Read e)).ring r) ≡ false
  unfolding is_open
  still_held e clean = ap is_none ((read_holds e clean).held r has) ∙ held

  -- and it may still be rung
  pub good_behind : (e : Block) → lenient h k (Read e) ≡ [] → is_bad_bell h k s i ≡ false → is_bad_bell h (learned h k (Read e)) s i ≡ false
  unfolding is_bad_bell
  good_behind e clean good = search (rules, read_holds, or_parts, or_from, nat_lt, untouched_behind)

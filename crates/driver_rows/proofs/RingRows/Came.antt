-- A ring that comes: the header is one still, and what the record of it rests on
use Rattle.driver_rows.proofs.LowerLaws.{rules, Bool, ◌≡◌, ◌*◌, ◌==◌, ◌∷◌, ◌++◌, ◌∙◌, ◌&&◌, true, false, [], None, Option, nat_lt, refl, sym, ap, lt-ltb, list_all, cases_Bool, inl, inr, and_from, and_left, and_right, or_from, false≢true, is_some, is_shape, rings_overlap, Header, Ring, RingKind, IsHeader, clash, is_command_kind, is_event_kind, event_ring, may_stand_together, ring_with, touches_ring, Known, IsIn, DriverKeeps, ring_untouched, header_parts, fails_in, IsComing, forgotten, is_bad_ring, with_ring, all_more, none_found, overlaps_none, together_more, bad_same, f_keeps, fresh, segment_some, cleared, IsClear, find, command_ring, Comes, HasNoEvents, SameCommands, other_commands, same_twice, Cmd, Evt, Xfer, absent, no_command, no_event, commands_come, events_come}
use Rattle.safety.proofs.RingChanges.EventRings as events
use Rattle.safety.proofs.RingChanges.Forgotten as forgets
use Rattle.safety.proofs.RingChanges.NewRings as comes

pub none_of : {X : Type 0} (o : Option X) → is_some o ≡ false → o ≡ None
none_of o none = search (rules, false≢true)

module _ (h : Header) (is : IsHeader h) (r : Ring) (coming : IsComing r) where
  pub clear_together : IsClear h r → (list_all (λ q. nat_lt q.id 256 && is_shape q.shape) (h.rings ++ r ∷ []) ≡ true) × (may_stand_together (h.rings ++ r ∷ []) ≡ true)
  unfolding touches_ring command_ring event_ring
  clear_together clear =
      let was = header_parts h is in
      let own : (nat_lt r.id 256 && is_shape r.shape) ≡ true = and_from (nat_lt r.id 256) (is_shape r.shape) (lt-ltb r.id 256 coming.low) coming.shape in
      let apart : (q : Ring) → IsIn q h.rings → clash q r ≡ false = λ q at.
      or_from _ (is_event_kind q.shape.kind && is_event_kind r.shape.kind)
      (or_from _ (is_command_kind q.shape.kind && is_command_kind r.shape.kind)
      (or_from (q.id == r.id) (rings_overlap q.shape r.shape) (none_found (λ x. x.id == r.id) h.rings clear.unnamed q at)
      (overlaps_none q.shape r.shape (segment_some r.shape coming.shape)
      (λ t in_it. ring_untouched h t.base (16 * t.count) (fails_in (λ s. touches_ring h s.base (16 * s.count)) r.shape.segments t clear.untouched in_it) q at)))
      (one_alone (λ x. is_command_kind x.shape.kind) q at clear.commands))
      (one_alone (λ x. is_event_kind x.shape.kind) q at clear.events) in
      (all_more (λ q. nat_lt q.id 256 && is_shape q.shape) h.rings r was.0 own, together_more h.rings r was.1 apart)
    where
      -- of a kind of which but one is there
      one_alone : (test : Ring → Bool) (q : Ring) → IsIn q h.rings → (test r ≡ true → find test h.rings ≡ None) → (test q && test r) ≡ false
      one_alone test q at alone =
          elim (cases_Bool (test r)) [
            | inl it ↦ and_left (test q) (test r) (none_found test h.rings (alone it) q at)
            | inr other ↦ and_right (test q) (test r) other
          ]

  pub clear_header : IsClear h r → IsHeader (with_ring h r)
  unfolding with_ring
  clear_header clear = search (rules, clear_together, and_from)

  module _ (k : Known) (d : DriverKeeps h k) (good : is_bad_ring h k r ≡ false) where
    none_there : ring_with h r.id ≡ None
    none_there = absent h is r coming k d good

    abbrev z : Known
    z = forgotten k r.id

    transfers_come : r.shape.kind ≡ Xfer → SameCommands h k (with_ring h r) z
    unfolding with_ring forgotten
    transfers_come kind =
        let kept = f_keeps h is r coming kind k d none_there in
        let new = fresh h is r coming kind k d none_there in
        let well = bad_same h is r coming kind k d none_there ∙ good in
        same_twice h h (with_ring h r) k z z
        (other_commands h h.rings k (cleared r.id k.ring) d (forgets.others h is k d r.id coming.low none_there))
        (other_commands h (h.rings ++ r ∷ []) z z.ring kept (comes.others h is z kept r coming kind new well))

    same_by : (kind : RingKind) → r.shape.kind ≡ kind → SameCommands h k (with_ring h r) z
    same_by Xfer at = transfers_come at
    same_by Cmd at = let it = ap (λ n. is_command_kind n) at in commands_come h is k r coming.low none_there it (no_command h is r coming k d good it)
    same_by Evt at = events_come h is k r coming.low none_there (ap (λ n. is_event_kind n) at)

    events_by : (kind : RingKind) → r.shape.kind ≡ kind → is_event_kind r.shape.kind ≡ true → HasNoEvents h k
    events_by Evt at it =
        let off = d.unstarted (events.parts h is k d r coming at good).before in
        record { none = no_event h is r coming k d good it; reads = off.reads; dequeue = off.dequeue }
    events_by _ at it = absurd (false≢true (sym (ap (λ n. is_event_kind n) at) ∙ it))

    pub comes_so : Comes h k r
    comes_so = record { unnamed = none_there; same = same_by r.shape.kind refl; events = events_by r.shape.kind refl }

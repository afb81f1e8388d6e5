-- A ring that comes or goes beneath an event that isn't read yet: the two may change places
use Rattle.safety.proofs.UpperLaws.{Xfer, [], ◌≡◌, ◌≢◌, ◌*◌, ◌==◌, ◌||◌, ◌++◌, ◌∷◌, ◌∙◌, ℕ, not, Bool, true, false, Some, filter, get_or, is_some, refl, sym, ap, inl, inr, eq-eqb, ne_eqb, rules, put, Segment, new_ring, IsComing, forgotten, is_bad_free, is_bad_ring, is_bad_segment, is_had, shows_first_lap, with_ring, without_ring, cases_eq, cases_option, cond-true, cond-false, false≢true, false_from_ne_true, or_from, fun_ext, All-weaker, All-get_or, some_of, range_with_len, list_any, Block, RingView, Header, Read, IsHeader, Ring, ring_with, ring_having, touches_ring, is_in_range_lease, is_soiled, open_ranges, covers, is_ring, is_being_bound, Known, learned, lenient, Binding, binds, ring_bound, is_placed, DriverKeeps, ring_is, transfer_ring, having_transfer, HasKept, HavesAlike, IsGood, each_good, event_behind, Behind, none_fewer, ranges_fewer, BindsAlike, read_possible, KeepsRings, is_bad_kind, IsTransferRing, goes_badly, next_kept, NextAlike}
use Rattle.safety.proofs.Behind.BoundBehind.{bound_before}
use Rattle.safety.proofs.RingChanges.ReadAlike.{read_alike}
use Rattle.safety.proofs.RingChanges.NewRings as new
use Rattle.safety.proofs.RingChanges.GoneRings as gone

-- ---- all rings but one

module _ (id : ℕ) where
  abbrev pub cleared : (ℕ → RingView) → ℕ → RingView
  cleared m = put m id new_ring

  abbrev pub Other : ℕ → Type 0
  Other r = r ≢ id

  pub cleared_apart : (m : ℕ → RingView) (r : ℕ) → r ≢ id → cleared m r ≡ m r
  cleared_apart m r other = cond-false (r == id) new_ring (m r) (ne_eqb r id other)

  pub cleared_here : (m : ℕ → RingView) → cleared m id ≡ new_ring
  cleared_here m = cond-true (id == id) new_ring (m id) (eq-eqb id id refl)

  -- one that is as new is cleared already
  cleared_new : (m : ℕ → RingView) → m id ≡ new_ring → cleared m ≡ m
  cleared_new m new = search (rules, fun_ext, cases_eq, cleared, cleared_here, cleared_apart)

  pub cleared_put : (m : ℕ → RingView) (r : ℕ) (v : RingView) → r ≢ id → cleared (put m r v) ≡ put (cleared m) r v
  cleared_put m r v other = search (rules, cleared, ne_eqb, cond-true, eq-eqb, cond-false, cleared_apart)

-- ---- behind an event

module _ (h : Header) (is : IsHeader h) (k : Known) (d : DriverKeeps h k) (e : Block) (may : lenient h k (Read e) ≡ []) where
  abbrev behind : Known
  behind = learned h k (Read e)

  -- a segment that a ring may have it may have still
  pub segment_still : (s : Segment) → IsGood h k s → is_bad_segment h behind s ≡ false
  unfolding is_bad_segment is_in_range_lease is_soiled shows_first_lap
  segment_still s g =
      let b : Behind h k behind = event_behind h is k d e may in
      or_from (touches_ring h s.base (16 * s.count) || is_in_range_lease h behind s.base (16 * s.count) || is_soiled behind s.base (16 * s.count)) (shows_first_lap behind s)
      (or_from (touches_ring h s.base (16 * s.count) || is_in_range_lease h behind s.base (16 * s.count)) (is_soiled behind s.base (16 * s.count))
      (or_from (touches_ring h s.base (16 * s.count)) (is_in_range_lease h behind s.base (16 * s.count)) g.rings
      (none_fewer (covers h s.base (16 * s.count)) (open_ranges h k) (open_ranges h behind) (ranges_fewer h is k behind b) g.leases))
      (ap (λ f. is_soiled (let x : Known = record k { soiled = f } in x) s.base (16 * s.count)) b.driver.soiled ∙ g.clean))
      (ap (λ f. shows_first_lap (let x : Known = record k { memory = f } in x) s) b.driver.memory ∙ g.shows)

-- ---- a ring that comes

module _ (h : Header) (is : IsHeader h) (k : Known) (d : DriverKeeps h k) (r : Ring) (coming : IsComing r) (kind : r.shape.kind ≡ Xfer) (fresh : k.ring r.id ≡ new_ring) (good : is_bad_ring h k r ≡ false) (e : Block)
    (may : lenient h k (Read e) ≡ []) where
  abbrev l : Known
  l = learned h k (Read e)

  rings_new : KeepsRings h (h.rings ++ r ∷ []) (cleared r.id) (λ values. values) (Other r.id)
  rings_new = search (rules, new.shape_same, cleared_apart, cleared_put, new.events_same, new.size_same)

  rings_old : KeepsRings h h.rings (cleared r.id) (λ values. values) (Other r.id)
  rings_old = search (rules, cleared_apart, cleared_put)

  next_new : NextAlike h (h.rings ++ r ∷ []) (cleared r.id) (λ values. values) (Other r.id) k
  next_new = next_kept h (h.rings ++ r ∷ []) (cleared r.id) (λ values. values) (Other r.id) rings_new (new.command_same h is k d r coming kind fresh good) (new.no_command h is k d r coming kind fresh good) k

  next_old : NextAlike h h.rings (cleared r.id) (λ values. values) (Other r.id) k
  next_old = next_kept h h.rings (cleared r.id) (λ values. values) (Other r.id) rings_old refl (new.no_command h is k d r coming kind fresh good) k

  has_others : (s i x : ℕ) → k.ring_of s i ≡ Some x → x ≢ r.id
  has_others s i x at = let ring = d.states.transfer s i x at in new.another h is k d r coming kind fresh good x ring.ring ring.found

  having_other : (p s : ℕ) → ring_having h p ≡ Some s → s ≢ r.id
  having_other p s names = let ring = transfer_ring h s (having_transfer h is p s names) in new.another h is k d r coming kind fresh good s ring.ring ring.found

  haves : (b : Binding) → is_placed h k (ring_bound h b) b ≡ true → HavesAlike h (h.rings ++ r ∷ []) (cleared r.id) (λ values. values) (Other r.id) b.pointer
  unfolding is_placed ring_bound
  haves b placed =
      elim (cases_option (ring_having h b.pointer)) [
        | inl none ↦ absurd (false≢true (sym (ap (λ q. is_placed h k q b) none) ∙ placed))
        | inr some ↦ (new.having_same h is k d r coming kind fresh good b.pointer some.0 some.1 ∙ sym some.1, having_other b.pointer)
      ]

  binds_new : BindsAlike h (h.rings ++ r ∷ []) (cleared r.id) (λ values. values) (Other r.id) rings_new k
  binds_new p c u =
      All-weaker (λ b. is_placed h k (ring_bound h b) b ≡ true) (λ b. HavesAlike h (h.rings ++ r ∷ []) (cleared r.id) (λ values. values) (Other r.id) b.pointer) haves (binds h k c) (d.unfinished p c u).binds

  binds_old : BindsAlike h h.rings (cleared r.id) (λ values. values) (Other r.id) rings_old k
  binds_old p c u i b low = (refl, having_other (get_or (binds h k c) i b).pointer)

  same : record k { ring = cleared r.id k.ring } ≡ k
  same = λ j. record k { ring = cleared_new r.id k.ring fresh j }

  behind_new : (learned h k (Read e)) ≡ record l { ring = cleared r.id l.ring }
  behind_new = sym (ap (λ x. learned h x (Read e)) same) ∙ (read_alike h h.rings (cleared r.id) (λ values. values) (Other r.id) rings_old is k d next_old has_others binds_old e may).0

  -- the event is possible, and learned, with the ring as without it
  pub read_with : lenient (with_ring h r) k (Read e) ≡ []
  unfolding with_ring
  read_with = ap (λ x. lenient (with_ring h r) x (Read e)) (sym same) ∙ read_possible h (h.rings ++ r ∷ []) (cleared r.id) (λ values. values) (Other r.id) rings_new k next_new e has_others ∙ may

  pub learned_with : learned (with_ring h r) k (Read e) ≡ learned h k (Read e)
  unfolding with_ring
  learned_with =
      ap (λ x. learned (with_ring h r) x (Read e)) (sym same) ∙ (read_alike h (h.rings ++ r ∷ []) (cleared r.id) (λ values. values) (Other r.id) rings_new is k d next_new has_others binds_new e may).0 ∙ sym behind_new

  xfer_never : is_bad_kind h l Xfer ≡ false
  unfolding is_bad_kind
  xfer_never = refl

  -- it may come behind the event too
  pub still_comes : is_bad_ring h l r ≡ false
  unfolding is_bad_ring
  still_comes =
      let bad = new.parts h is k d r coming kind fresh good in
      or_from (is_some (ring_with h r.id) || is_bad_kind h l r.shape.kind) (list_any (is_bad_segment h l) r.shape.segments)
      (or_from (is_some (ring_with h r.id)) (is_bad_kind h l r.shape.kind) bad.0 (ap (is_bad_kind h l) kind ∙ xfer_never))
      (false_from_ne_true (list_any (is_bad_segment h l) r.shape.segments) (λ some. let s = some_of (is_bad_segment h l) r.shape.segments some in false≢true (sym (segment_still h is k d e may s.0 (each_good h k r.shape coming.shape bad.1 s.0 s.1)) ∙ s.2)))

-- ---- a ring that goes

module _ (h : Header) (is : IsHeader h) (k : Known) (d : DriverKeeps h k) (id : ℕ) (transfer : IsTransferRing h id) (good : is_bad_free h k id ≡ false) (e : Block) (may : lenient h k (Read e) ≡ []) where
  abbrev keep : Ring → Bool
  keep q = not (q.id == id)

  abbrev m : Known
  m = learned h k (Read e)

  rings_gone : KeepsRings h (filter keep h.rings) (cleared id) (λ values. values) (Other id)
  rings_gone = record {
    shape = gone.shape_same h is k d id transfer good;
    view = cleared_apart id;
    changes = cleared_put id;
    events = gone.events_same h is k d id transfer good;
    version = refl;
    size = gone.size_same h is k d id transfer good;
    config = λ values. refl;
  }

  next_gone : NextAlike h (filter keep h.rings) (cleared id) (λ values. values) (Other id) k
  next_gone = next_kept h (filter keep h.rings) (cleared id) (λ values. values) (Other id) rings_gone (gone.command_same h is k d id transfer good) (gone.no_command h is k d id transfer good) k

  haves_gone : (b : Binding) → is_placed h k (ring_bound h b) b ≡ true → is_ring id (ring_bound h b) ≡ false → HavesAlike h (filter keep h.rings) (cleared id) (λ values. values) (Other id) b.pointer
  unfolding is_placed ring_bound
  haves_gone b placed unbound = search (rules, cases_option, false≢true, gone.having_same, eq-eqb)

  binds_gone : BindsAlike h (filter keep h.rings) (cleared id) (λ values. values) (Other id) rings_gone k
  binds_gone p c u i b low =
      haves_gone (get_or (binds h k c) i b) (All-get_or (λ x. is_placed h k (ring_bound h x) x ≡ true) (binds h k c) i b low (d.unfinished p c u).binds) (gone.none_binds h is k d id transfer good p c u i b low)

  pub read_without : lenient (without_ring h id) (forgotten k id) (Read e) ≡ []
  unfolding without_ring forgotten
  read_without = read_possible h (filter keep h.rings) (cleared id) (λ values. values) (Other id) rings_gone k next_gone e (gone.not_had h is k d id transfer good) ∙ may

  both : (learned (without_ring h id) (forgotten k id) (Read e) ≡ forgotten (learned h k (Read e)) id) × HasKept h (filter keep h.rings) (cleared id) (λ values. values) (Other id) m
  unfolding without_ring forgotten
  both = read_alike h (filter keep h.rings) (cleared id) (λ values. values) (Other id) rings_gone is k d next_gone (gone.not_had h is k d id transfer good) binds_gone e may

  pub learned_without : learned (without_ring h id) (forgotten k id) (Read e) ≡ forgotten (learned h k (Read e)) id
  learned_without = both.0

  -- it may go behind the event too
  pub still_goes : is_bad_free h m id ≡ false
  unfolding is_bad_free goes_badly is_had
  still_goes =
      let p = gone.parts h is k d id transfer good in
      ap (goes_badly h m id) transfer.found
      ∙ gone.use_is h m id transfer.ring.shape.kind transfer.kind
      ∙ or_from (is_had m id) (is_being_bound h m id)
      (false_from_ne_true (is_had m id) (λ t.
      let s = some_of (λ s. list_any (λ i. is_ring id (m.ring_of s i)) (range_with_len 1 31)) (range_with_len 1 255) t in
      let i = some_of (λ i. is_ring id (m.ring_of s.0 i)) (range_with_len 1 31) s.2 in
      both.1 s.0 i.0 id (ring_is id (m.ring_of s.0 i.0) i.2) refl))
      (false_from_ne_true (is_being_bound h m id) (λ t. false≢true (sym p.1 ∙ bound_before h is k d e may id t)))

-- A ring that goes: what a driver keeps it keeps still
use Rattle.safety.proofs.MiddleLaws.{◌≡◌, ◌≢◌, ◌<◌, ◌==◌, ◌∙◌, ℕ, not, Bool, true, false, List, Some, find, filter, get_or, length, nat_lt, arith, refl, sym, ap, subst, inl, inr, eq-eqb, ne_eqb, rules, put, new_ring, emptied, forgotten, is_bad_free, is_had, without_ring, list_all, and_from, is_shape, may_stand_together, Block, World, Agrees, Evt, Xfer, RingKind, same_Some, cases_eq, list_any, list_any_at, range_with_len, cond-true, cond-false, false≢true, false_from_ne_true, none-some, or_parts, is_inside, place_count, RingView, RingKeeps, Command, device_context_bytes, input_context_bytes, Header, Ring, IsHeader, is_command_kind, is_event_kind, is_transfer_kind, is_ring, ring_with, shape_of, shape_or, command_ring, command_id, event_ring, event_shape, event_size, ring_having, id_of, id_or_none, touches_ring, Known, entry_of, Binding, binds, ring_bound, binds_ring, is_being_bound, any_of, is_transfer_ring, IsDriverRing, IsTransferRing, IsUnfinished, DriverKeeps, touches, context_lies, transfer_ring, header_parts, transfer_not_command, having_transfer, in_range, unfinished_fails, ◌||◌, ◌&&◌, None, fun_ext, and_right, Crcr, is_in_use, goes_badly, known_gone, event_id, same_register, event_no_transfer, forgetting_agrees, OtherRings, IsAsBefore, BindsAsBefore, other_rings_keep, none_kept, all_kept, together_kept}
pub use Rattle.safety.proofs.RingChanges.ListedRings.{find_kept, found_kept}
use Rattle.safety.proofs.RingChanges.LeftOut as left

transfer_no_command : (kind : RingKind) → is_transfer_kind kind ≡ true → is_command_kind kind ≡ false
transfer_no_command o t = grind (arith, false≢true)

transfer_no_event : (kind : RingKind) → is_transfer_kind kind ≡ true → is_event_kind kind ≡ false
transfer_no_event o t = grind (arith, false≢true)

-- what is asked of a transfer ring
pub use_is : (h : Header) (k : Known) (id : ℕ) (kind : RingKind) → is_transfer_kind kind ≡ true → is_in_use h k id kind ≡ (is_had k id || is_being_bound h k id)
unfolding is_in_use
use_is h k id o transfer = grind (arith, false≢true)

module _ (h : Header) (is : IsHeader h) (k : Known) (d : DriverKeeps h k) (id : ℕ) (gone : IsTransferRing h id) (good : is_bad_free h k id ≡ false) where
  abbrev keep : Ring → Bool
  keep q = not (q.id == id)

  abbrev g : Header
  g = record h { rings = filter keep h.rings }

  abbrev views : ℕ → RingView
  views = put k.ring id new_ring

  pub parts : (is_had k id ≡ false) × (is_being_bound h k id ≡ false)
  unfolding is_bad_free goes_badly
  parts = or_parts (is_had k id) (is_being_bound h k id) (sym (use_is h k id gone.ring.shape.kind gone.kind) ∙ sym (ap (goes_badly h k id) gone.found) ∙ good)

  -- ---- other rings are found as before

  stays : (q : Ring) → q.id ≢ id → keep q ≡ true
  stays q other = left.stays h is id gone.ring gone.found q other

  pub ring_same : (s : ℕ) → s ≢ id → ring_with g s ≡ ring_with h s
  unfolding without_ring
  ring_same s other = left.ring_same h is id gone.ring gone.found s other

  pub shape_same : (s : ℕ) → s ≢ id → shape_of g s ≡ shape_of h s
  unfolding shape_of
  shape_same s other = ap (λ o. shape_or Xfer o) (ring_same s other)

  -- it isn't there any more
  pub not_there : (s : ℕ) (q : Ring) → ring_with g s ≡ Some q → s ≢ id
  unfolding without_ring
  not_there s q found = left.not_there h is id gone.ring gone.found s q found

  driver_before : (s : ℕ) → IsDriverRing g s → IsDriverRing h s
  driver_before s ring = record { ring = ring.ring; found = sym (ring_same s (not_there s ring.ring ring.found)) ∙ ring.found; kind = ring.kind }

  view_same : (s : ℕ) → s ≢ id → views s ≡ k.ring s
  view_same s other = cond-false (s == id) new_ring (k.ring s) (ne_eqb s id other)

  transfer_still : (s : ℕ) → s ≢ id → IsTransferRing h s → IsAsBefore h (filter keep h.rings) k views s
  transfer_still s other ring = search (rules, views, ring_same, shape_same, view_same)

  command_ring_same : command_ring g ≡ command_ring h
  unfolding without_ring
  command_ring_same = left.command_still h is id gone.ring gone.found (transfer_no_command gone.ring.shape.kind gone.kind)

  pub event_ring_same : event_ring g ≡ event_ring h
  unfolding without_ring
  event_ring_same = left.event_still h is id gone.ring gone.found (transfer_no_event gone.ring.shape.kind gone.kind)

  pub command_same : command_id g ≡ command_id h
  unfolding command_id
  command_same = ap id_or_none command_ring_same

  pub events_same : event_shape g ≡ event_shape h
  unfolding event_shape
  events_same = ap (λ o. shape_or Evt o) event_ring_same

  pub size_same : event_size g ≡ event_size h
  unfolding event_size
  size_same = ap place_count events_same

  pub no_command : command_id h ≢ id
  no_command same = transfer_not_command h is id gone (sym same)

  -- ---- no endpoint has it, and no unfinished command binds it

  pub not_had : (s i r : ℕ) → k.ring_of s i ≡ Some r → r ≢ id
  unfolding is_had
  not_had s i r has same =
      let low = d.numbered s i r has in
      let some_slot : 0 < s = grind (arith, d.states.no_endpoint s i, none-some r) in
      let some_index : 0 < i = grind (arith, d.states.no_endpoint s i, none-some r) in
      let row : ℕ → Bool = λ t. list_any (λ j. is_ring id (k.ring_of t j)) (range_with_len 1 31) in
      let inner : row s ≡ true = any_of (λ j. is_ring id (k.ring_of s j)) (range_with_len 1 31) i (in_range 1 31 i (omega arith) (omega (arith, low.1))) (ap (is_ring id) has ∙ eq-eqb r id same) in
      false≢true (sym parts.0 ∙ any_of row (range_with_len 1 255) s (in_range 1 255 s (omega arith) (omega (arith, low.0))) inner)

  pub having_same : (p s : ℕ) → s ≢ id → ring_having h p ≡ Some s → ring_having g p ≡ Some s
  unfolding ring_having
  having_same p s other names = search (rules, none-some, id_of, found_kept, h.rings, stays, same_Some, is_transfer_kind, is_inside, find)

  bound_same : (b : Binding) → is_ring id (ring_bound h b) ≡ false → BindsAsBefore h (filter keep h.rings) k views b
  unfolding ring_bound
  bound_same b unbound = λ s names.
      let other : s ≢ id = λ same. false≢true (sym unbound ∙ ap (is_ring id) names ∙ eq-eqb s id same) in
      (having_same b.pointer s other names, transfer_still s other (transfer_ring h s (having_transfer h is b.pointer s names)))

  pub none_binds : (p : ℕ) (c : Command) → IsUnfinished h k p c → (i : ℕ) (b : Binding) → i < length (binds h k c) → is_ring id (ring_bound h (get_or (binds h k c) i b)) ≡ false
  unfolding is_being_bound binds_ring
  none_binds p c u i b low =
      false_from_ne_true (is_ring id (ring_bound h (get_or (binds h k c) i b))) (λ t.
      false≢true (sym (unfinished_fails h k (binds_ring h k id) p c parts.1 u) ∙ list_any_at (λ x. is_ring id (ring_bound h x)) (binds h k c) i b low t))

  area_apart : (from len : ℕ) → touches_ring h from len ≡ false → touches_ring g from len ≡ false
  unfolding touches_ring
  area_apart from len none = none_kept keep (λ q. touches q.shape from len) h.rings none

  pub others : OtherRings h (filter keep h.rings) k views
  others = record {
    command = command_same;
    command_ring = λ ring. record { ring = ring.ring; found = ring_same (command_id h) no_command ∙ ring.found; kind = ring.kind };
    command_shape = ap (λ n. shape_of g n) command_same ∙ shape_same (command_id h) no_command;
    command_view = ap views command_same ∙ view_same (command_id h) no_command;
    events = events_same;
    version = refl;
    size = size_same;
    keeps = λ s ring.
        let other = not_there s ring.ring ring.found in
        subst (λ v. RingKeeps (shape_of g s) k.memory v) (sym (view_same s other)) (subst (λ x. RingKeeps x k.memory (k.ring s)) (sym (shape_same s other)) (d.rings s (driver_before s ring)));
    clean = λ s a ring word inside. d.clean s a (driver_before s ring) word (ap (λ x. is_inside x a) (sym (shape_same s (not_there s ring.ring ring.found))) ∙ inside);
    had = λ s i r at. transfer_still r (not_had s i r at) (d.states.transfer s i r at);
    each = λ s. elim (cases_eq s id) [ inl here ↦ inr (cond-true (s == id) new_ring (k.ring s) (eq-eqb s id here)) | inr other ↦ inl (view_same s other) ];
    devices = λ s e at. let device = d.devices s e at in (area_apart e (device_context_bytes h.context_size) device.rings, area_apart (entry_of k s) 8 device.entry_rings);
    contexts = λ p n c u at. area_apart n (input_context_bytes h.context_size) (context_lies h k d p n c u at).rings;
    binds = λ p c u i b low. bound_same (get_or (binds h k c) i b) (none_binds p c u i b low);
  }

  -- it isn't the event ring
  no_event : event_id h ≢ id
  no_event same = event_no_transfer h is (ap (λ n. is_transfer_ring (ring_with h n)) same ∙ ap is_transfer_ring gone.found ∙ gone.kind)

  -- nothing else is forgotten of it than of any ID
  pub gone_is : known_gone h k id ≡ forgotten k id
  unfolding known_gone forgotten
  gone_is = λ j. record k {
    ring = put k.ring id new_ring;
    register = fun_ext (λ q. cond-false (same_register q Crcr && id == command_id h) None (k.register q) (and_right (same_register q Crcr) (id == command_id h) (ne_eqb id (command_id h) (λ same. no_command (sym same))))) j;
    soiled = fun_ext (λ a. ap (λ b. k.soiled a || (b && touches (event_shape h) a 4)) (ne_eqb id (event_id h) (λ same. no_event (sym same))) ∙ or_false (k.soiled a)) j;
  }
    where
      or_false : (b : Bool) → (b || false) ≡ b
      or_false o = grind arith

  -- what a driver keeps, without the ring that goes
  pub gone_ring_kept : DriverKeeps (without_ring h id) (forgotten k id)
  unfolding without_ring forgotten
  gone_ring_kept = other_rings_keep h (filter keep h.rings) k views d others

  -- ---- the header is one still

  pub gone_ring_header : IsHeader (without_ring h id)
  unfolding without_ring
  gone_ring_header = search (rules, header_parts, and_from, list_all, nat_lt, is_shape, filter, keep, may_stand_together, all_kept, together_kept)

  -- ---- a world that forgets it too

  pub gone_ring_agrees : (w : World) (unread : List Block) → Agrees h k unread w → Agrees (without_ring h id) (forgotten k id) unread (emptied w id)
  unfolding without_ring forgotten emptied
  gone_ring_agrees w unread a = forgetting_agrees h (filter keep h.rings) k id shape_same no_command not_had w d others unread a

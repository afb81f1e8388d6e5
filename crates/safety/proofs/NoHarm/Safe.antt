-- A world that agrees with what a rule-keeping driver's rows lead to is safe: harm by harm
use Rattle.safety.proofs.LowerLaws.{[], ◌≡◌, ◌+◌, ◌-◌, ◌<◌, ◌≤◌, ◌==◌, ◌&&◌, ◌∷◌, ◌∙◌, ℕ, Bool, false, not, List, nat_lt, nat_le, None, find, arith, refl, sym, ap, subst, inl, inr, eq-eqb, le-ltb, rules, list_any, cases_Bool, cases_eq, and_left, and_right, or_from, lt-leb, not_from_true, Block, block_at, cycle, number, spot_address, Spot, Header, Ring, IsHeader, shape_of, command_id, event_size, Harm, TakenOutOfOrder, TakenOtherWords, WaitsInsideDescriptor, LooksOutside, PostsOverUnread, InputContextChanged, World, is_out_of_order, has_other_words, is_inside_descriptor, waits, harms, harm_of, IsSafe, has_changed_context, Known, IsDriverRing, DriverKeeps, Stands, RingMatches, state_of, Agrees, Runs, all_read, transfer_driver, ring_shape, MayStand, ceiling_given, inside_given, cycle_inside, block_at_spot, changed_none, command_is_ring, under_way_unchanged, ◌||◌, is_named}
use Rattle.std.proofs.Common.{option_map}
use Rattle.traces.specs.Header.{some_ring}

no_ring : (rings : List Ring) (test : ℕ → Bool) → ((r : ℕ) → test r ≡ false) → list_any (λ r. test r.id) rings ≡ false
no_ring [] test none = refl
no_ring (r ∷ rest) test none = or_from (test r.id) (list_any (λ r. test r.id) rest) (none r.id) (no_ring rest test none)

pub no_some_ring : (h : Header) (test : ℕ → Bool) → ((r : ℕ) → test r ≡ false) → some_ring h test ≡ false
unfolding some_ring
no_some_ring h test none = no_ring h.rings test none

waits_not : (w : World) (r : ℕ) → cycle (block_at w.memory (w.pointer_of r)) ≡ w.cycle_state r → waits w r ≡ false
unfolding waits
waits_not w r same = search (rules, and_right, not_from_true, eq-eqb)

waits_inactive : (w : World) (r : ℕ) → w.is_active r ≡ false → waits w r ≡ false
unfolding waits
waits_inactive w r off = and_left (w.is_active r) (not (cycle (block_at w.memory (w.pointer_of r)) == w.cycle_state r)) off

-- events posted and not yet read are fewer than the ring has places
fits : (size posted reads dequeue : ℕ) → dequeue ≤ reads → reads ≤ posted → (0 < posted → posted + 1 ≤ dequeue + size) → (nat_lt 0 size && nat_le size (posted - reads)) ≡ false
fits size posted reads dequeue low read room = search (rules, nat_lt, nat_le, and_left, le-ltb, and_right, lt-leb)

room_left : (nowhere : Bool) (size posted reads dequeue : ℕ) → nowhere ≡ false → dequeue ≤ reads → reads ≤ posted → (0 < posted → posted + 1 ≤ dequeue + size) →
    (nowhere || (nat_lt 0 size && nat_le size (posted - reads))) ≡ false
room_left nowhere size posted reads dequeue there low read room = or_from nowhere (nat_lt 0 size && nat_le size (posted - reads)) there (fits size posted reads dequeue low read room)

module _ (h : Header) (is : IsHeader h) (k : Known) (w : World) (d : DriverKeeps h k) (s : Stands h k w) where
  -- the pointer of a ring stands where it may
  pub stands_at : (r : ℕ) (t : Spot) → IsDriverRing h r → RingMatches (shape_of h r) (k.ring r) (state_of w r) t → MayStand (shape_of h r) (k.ring r) t
  stands_at r t ring m =
      let low = ceiling_given (shape_of h r) (ring_shape h is r ring).is k.memory (k.ring r) (d.rings r ring) in
      record { is_spot = m.is_spot; reached = m.reached; below = omega (arith, m.below); way = m.way }

  -- what the controller finds at its pointer is what is known to stand there
  pub block_found : (r : ℕ) (t : Spot) → IsDriverRing h r → RingMatches (shape_of h r) (k.ring r) (state_of w r) t → block_at w.memory (w.pointer_of r) ≡ block_at k.memory (spot_address (shape_of h r) t)
  block_found r t ring m = ap (λ a. block_at w.memory a) m.pointer ∙ block_at_spot h is k w d s r t ring m.is_spot

  -- no wait inside a descriptor
  matched_no_wait : (r : ℕ) (t : Spot) → IsDriverRing h r → RingMatches (shape_of h r) (k.ring r) (state_of w r) t → (waits w r && is_inside_descriptor (w.events r)) ≡ false
  matched_no_wait r t ring m =
      elim (cases_Bool (w.is_active r)) [
        | inr off ↦ and_left (waits w r) (is_inside_descriptor (w.events r)) (waits_inactive w r off)
        | inl on ↦ elim (cases_Bool (is_inside_descriptor (w.events r))) [
          | inr outside ↦ and_right (waits w r) (is_inside_descriptor (w.events r)) outside
          | inl inside ↦
              let keeps = d.rings r ring in
              let given = inside_given (shape_of h r) (k.ring r) (number t) (w.events r) m.newest inside in
              let cycle_is = cycle_inside (shape_of h r) ((ring_shape h is r ring).is) k.memory (k.ring r) keeps t (stands_at r t ring m) given (keeps.open_restored (m.opened on) (number t)) in
              and_left (waits w r) (is_inside_descriptor (w.events r)) (waits_not w r (ap (λ b. cycle b) (block_found r t ring m) ∙ cycle_is ∙ sym m.cycle))
        ]
      ]

nothing_found : (a b c d e f : Bool) → a ≡ false → b ≡ false → c ≡ false → d ≡ false → e ≡ false → f ≡ false →
    option_map (λ (t : Harm × Bool). t.0) (find (λ (t : Harm × Bool). t.1) ((TakenOutOfOrder, a) ∷ (TakenOtherWords, b) ∷ (WaitsInsideDescriptor, c) ∷ (LooksOutside, d) ∷ (PostsOverUnread, e) ∷ (InputContextChanged, f) ∷ [])) ≡ None
nothing_found a b c d e f ha hb hc hd he hf = rw (ha, hb, hc, hd, he, hf) refl

pub safe_from : (h : Header) (w : World) → some_ring h (λ r. is_out_of_order (shape_of h r) (w.events r)) ≡ false →
    some_ring h (λ r. has_other_words (shape_of h r) (w.events r)) ≡ false → some_ring h (λ r. waits w r && is_inside_descriptor (w.events r)) ≡ false →
    w.looked_outside ≡ false → (w.posted_nowhere || (nat_lt 0 (event_size h) && nat_le (event_size h) (w.posted - w.reads))) ≡ false → has_changed_context h w w.under_way ≡ false → IsSafe h w
unfolding harm_of harms
safe_from h w a b c d e f = nothing_found _ _ _ _ _ _ a b c d e f

module _ (h : Header) (is : IsHeader h) (k : Known) (unread : List Block) (w : World) (d : DriverKeeps h k) (g : Agrees h k unread w) where
  -- what is safe of a ring
  record IsSafeRing (r : ℕ) : Type 0 where
    in_order : is_out_of_order (shape_of h r) (w.events r) ≡ false
    as_declared : has_other_words (shape_of h r) (w.events r) ≡ false
    no_wait : (waits w r && is_inside_descriptor (w.events r)) ≡ false

  matched_safe : (r : ℕ) (t : Spot) → IsDriverRing h r → RingMatches (shape_of h r) (k.ring r) (state_of w r) t → IsSafeRing r
  matched_safe r t ring m = record { in_order = m.in_order; as_declared = m.as_declared; no_wait = matched_no_wait h is k w d g.stands r t ring m }

  idle_safe : (r : ℕ) → w.is_active r ≡ false → is_out_of_order (shape_of h r) (w.events r) ≡ false → has_other_words (shape_of h r) (w.events r) ≡ false → IsSafeRing r
  idle_safe r off order words = record { in_order = order; as_declared = words; no_wait = and_left (waits w r) (is_inside_descriptor (w.events r)) (waits_inactive w r off) }

  command_safe : IsSafeRing (command_id h)
  command_safe =
      elim (cases_Bool (is_named k)) [
        | inl on ↦ let c = g.matches.command on in matched_safe (command_id h) c.spot (command_is_ring h k d on) c.ring
        | inr off ↦ let b = g.matches.before off in idle_safe (command_id h) b.rests.inactive b.rests.in_order b.rests.as_declared
      ]

  ring_safe : (r : ℕ) → IsSafeRing r
  ring_safe r =
      elim (cases_eq r (command_id h)) [
        | inl command ↦ subst IsSafeRing (sym command) command_safe
        | inr other ↦ elim (g.matches.rings r other) [
          | inl bound ↦ matched_safe r bound.spot (transfer_driver h r (d.states.transfer bound.slot bound.index r bound.bound)) bound.matches
          | inr free ↦ idle_safe r free.rests.inactive free.rests.in_order free.rests.as_declared
        ]
      ]

  pub agreed_safe : IsSafe h w
  agreed_safe = search (rules, safe_from, no_some_ring, (λ (r : ℕ). (ring_safe r).in_order), (λ (r : ℕ). (ring_safe r).as_declared), (λ (r : ℕ). (ring_safe r).no_wait), room_left, under_way_unchanged, command_is_ring, changed_none)

-- each world of a run is safe
pub safe : (h : Header) → IsHeader h → (now : Known) (w : World) (r : Runs h now w) → DriverKeeps h (all_read h now r.unread) → IsSafe h w
safe h is now w r d = agreed_safe h is (all_read h now r.unread) r.unread w d r.agrees

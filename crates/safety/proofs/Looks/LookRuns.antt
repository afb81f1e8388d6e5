-- Behind a look the run goes on
use Rattle.safety.proofs.LowerLaws.{◌≡◌, ◌≢◌, ◌∙◌, ℕ, List, Some, sym, ap, inl, inr, cases_Bool, cases_eq, false≢true, Block, Header, IsHeader, command_id, World, looked, counted, Known, DriverKeeps, Agrees, Runs, all_read, ◌==◌, ◌&&◌, ◌||◌, ◌⊎◌, Bool, true, false, not, Option, None, is_some, slice_get, arith, refl, subst, eq-eqb, eqb-true, rules, cond-true, and_cases, or_cases, same_Some, Spot, Data, Link, is_inside, cycle_of_bit, Command, AddressDevice, command_of, shape_of, UnderWay, seen_by_look, crossed, taken_on, command_begun, may_scribble, next_command, was_stop_seen, IsDriverRing, IsUnfinished, RingState, state_of, RingMatches, CommandMatches, UnderWayMatches, TakenCommand, add-zero, ne_eqb, cond-false, or_from, not_from_true, after, spot_address, DeclaredBlock, declared_at, next_take, Unreported, BoundRing, Matches, looked_is, LookEnds, only_seen, only_crossed, only_taken, only_begun, behind_link, behind_block, command_of-with_cycle, AtFloor, at_floor, command_is_ring, command_at_is, OnlyRing, matches_command, stands_only, events_only, late_only, read_only, matches_transfer, transfer_driver, ring_shape, spot_lies, agrees_counted, number_after, crossed_unreported, taken_unreported, is_named, is_used, is_value}
use Rattle.safety.proofs.Looks.LookKinds.{seen}
use Rattle.world_state.specs.Looks.{taken}
use Rattle.safety.proofs.Looks.LookSpots.{CrossDone, cross_done, TakeDone, take_done}

-- The controller looks at the block at a ring's pointer, and waits, follows a Link or takes it: the run goes on

-- what a look leaves beside its ring
pub record LookRest (h : Header) (w v : World) (r : ℕ) : Type 0 where
  pub under_way : v.under_way ≡ w.under_way
  pub scribbles : v.scribbles ≡ w.scribbles
  pub outside : v.looked_outside ≡ (w.looked_outside || not (is_inside (shape_of h r) (w.pointer_of r)))

pub seen_rest : (h : Header) (w : World) (r : ℕ) → LookRest h w (seen_by_look h w r) r
unfolding seen_by_look
seen_rest h w r = record { under_way = refl; scribbles = refl; outside = refl }

pub crossed_rest : (h : Header) (w : World) (r : ℕ) (b : Block) → LookRest h w (crossed h (seen_by_look h w r) r b) r
unfolding seen_by_look crossed
crossed_rest h w r b = record { under_way = refl; scribbles = refl; outside = refl }

taken_rest : (h : Header) (w : World) (r : ℕ) (b : Block) → LookRest h w (taken_on h (seen_by_look h w r) r b) r
unfolding seen_by_look taken_on
taken_rest h w r b = record { under_way = refl; scribbles = refl; outside = refl }

-- what is declared at the position of the next take
abbrev pub declared_then : Header → World → ℕ → Option DeclaredBlock
declared_then h w r = declared_at (w.queue r) (w.lengths r) (next_take (shape_of h r) (w.events r))

module _ (h : Header) (is : IsHeader h) (k : Known) (unread : List Block) (w : World) (d : DriverKeeps h k) (g : Agrees h k unread w) (r : ℕ) where
  -- the look is inside
  pub inside_still : IsDriverRing h r → (t : Spot) → RingMatches (shape_of h r) (k.ring r) (state_of w r) t → (w.looked_outside || not (is_inside (shape_of h r) (w.pointer_of r))) ≡ false
  inside_still ring t m =
      let lies = spot_lies (shape_of h r) (ring_shape h is r ring).is t m.is_spot in
      or_from w.looked_outside (not (is_inside (shape_of h r) (w.pointer_of r))) g.matches.inside
      (not_from_true (is_inside (shape_of h r) (w.pointer_of r)) (ap (λ a. is_inside (shape_of h r) a) (m.pointer ∙ sym (add-zero (spot_address (shape_of h r) t))) ∙ lies.inside 0 (omega arith)))

  pub agrees_only : (v : World) (s : RingState) → OnlyRing w v r s → Matches h k v → Agrees h k unread (counted h v)
  agrees_only v s o m =
      agrees_counted h k unread v (stands_only h k w v r s o g.stands) (events_only h k w v r s o unread g.events) m (read_only h k w v r s o g.read)
      (late_only h k w v r s o (λ a. omega (arith, g.stamps a)))

  -- ---- a ring that an endpoint has

  module _ (other : r ≢ command_id h) (b : BoundRing (shape_of h r) k.ring_of (k.ring r) (state_of w r) r) (on : w.is_active r ≡ true) where
    its_ring : IsDriverRing h r
    its_ring = transfer_driver h r (d.states.transfer b.slot b.index r b.bound)

    now_at : (s : RingState) (t : Spot) → RingMatches (shape_of h r) (k.ring r) s t → Unreported (shape_of h r) (k.ring r) s t → BoundRing (shape_of h r) k.ring_of (k.ring r) s r
    now_at s t m u = record { slot = b.slot; index = b.index; bound = b.bound; spot = t; matches = m; takes = u }

    transfer_waits : Agrees h k unread (counted h (seen_by_look h w r))
    transfer_waits =
        let o = only_seen h w r in
        let rest = seen_rest h w r in
        agrees_only (seen_by_look h w r) (state_of w r) o
        (matches_transfer h k w (seen_by_look h w r) r (state_of w r) o d g.matches other b rest.under_way rest.scribbles (rest.outside ∙ inside_still its_ring b.spot b.matches))

    transfer_crosses : CrossDone h is k w d g.stands r its_ring b.spot → Agrees h k unread (counted h (crossed h (seen_by_look h w r) r (seen w r)))
    transfer_crosses c =
        let v : World = crossed h (seen_by_look h w r) r (seen w r) in
        let o = only_crossed h w r (seen w r) in
        let rest = crossed_rest h w r (seen w r) in
        let u = crossed_unreported (shape_of h r) (ring_shape h is r its_ring).is k.memory (k.ring r) (state_of w r) c.number
        (subst (λ t. Unreported (shape_of h r) (k.ring r) (state_of w r) t) c.was b.takes) (behind_link h w r (seen w r)).pointer (behind_link h w r (seen w r)).cycle in
        agrees_only v (behind_link h w r (seen w r)) o
        (matches_transfer h k w v r (behind_link h w r (seen w r)) o d g.matches other (now_at (behind_link h w r (seen w r)) (Data c.number) c.matches u)
        rest.under_way rest.scribbles (rest.outside ∙ inside_still its_ring b.spot b.matches))

    transfer_takes : TakeDone h is k w d g.stands r its_ring b.spot → Agrees h k unread (counted h (taken_on h (seen_by_look h w r) r (seen w r)))
    transfer_takes c =
        let v : World = taken_on h (seen_by_look h w r) r (seen w r) in
        let o = only_taken h w r (seen w r) in
        let rest = taken_rest h w r (seen w r) in
        let allowed = ring_shape h is r its_ring in
        let u = taken_unreported (shape_of h r) allowed.is allowed.other k.memory (k.ring r) (state_of w r) c.number
        (subst (λ t. RingMatches (shape_of h r) (k.ring r) (state_of w r) t) c.was b.matches)
        (subst (λ t. Unreported (shape_of h r) (k.ring r) (state_of w r) t) c.was b.takes) c.block (behind_block h w r (seen w r)).pointer (seen w r) (declared_then h w r) c.found in
        agrees_only v (behind_block h w r (seen w r)) o
        (matches_transfer h k w v r (behind_block h w r (seen w r)) o d g.matches other (now_at (behind_block h w r (seen w r)) (after (shape_of h r) c.number) c.matches u)
        rest.under_way rest.scribbles (rest.outside ∙ inside_still its_ring b.spot b.matches))

    pub transfer_looks : (v : World) → LookEnds h w v r → Agrees h k unread (counted h v)
    unfolding taken
    transfer_looks v (inl waits) = subst (λ u. Agrees h k unread (counted h u)) waits.is transfer_waits
    transfer_looks v (inr (inl link)) =
        subst (λ u. Agrees h k unread (counted h u)) link.is (transfer_crosses (cross_done h is k w d g.stands r its_ring b.spot b.matches on link.cycle_is link.link))
    transfer_looks v (inr (inr block)) =
        subst (λ u. Agrees h k unread (counted h u)) (sym (cond-false (r == command_id h) _ _ (ne_eqb r (command_id h) other)) ∙ block.is)
        (transfer_takes (take_done h is k w d g.stands r its_ring b.spot b.matches on block.cycle_is block.link))

-- The controller looks at the command ring: it waits, follows a Link, or takes the next command
same_spot_number : (h : Header) (k : Known) (n : ℕ) (o : Option UnderWay) → UnderWayMatches h k (Link n) o → UnderWayMatches h k (Data n) o
same_spot_number h k n o u = grind arith

not_seen : (k : Known) (c : Command) → ((s i : ℕ) → k.stop_seen s i ≡ false) → was_stop_seen k c ≡ false
unfolding was_stop_seen
not_seen k o none = grind arith

-- a command that is taken lets the controller write the device context of an Address Device's slot
scribbles_more : (h : Header) (w : World) (o : Option Command) (q : ℕ) → may_scribble h o w q ≡ true →
    (w.scribbles q ≡ true) ⊎ ((n : ℕ) × (bsr : Bool) × (o ≡ Some (AddressDevice q bsr n)))
unfolding may_scribble
scribbles_more h w o q on = grind (arith, or_cases, w.scribbles, eqb-true)

-- the world behind a command that is taken
begun : Header → World → World
begun h w = command_begun h (taken_on h (seen_by_look h w (command_id h)) (command_id h) (seen w (command_id h))) (w.pointer_of (command_id h)) (seen w (command_id h))

scribble_same : (h : Header) (w u : World) (o : Option Command) (q : ℕ) → u.scribbles ≡ w.scribbles → may_scribble h o u q ≡ may_scribble h o w q
unfolding may_scribble
scribble_same h w u o q same = grind arith

taken_scribbles : (h : Header) (w : World) (r : ℕ) (b : Block) → (taken_on h (seen_by_look h w r) r b).scribbles ≡ w.scribbles
unfolding seen_by_look taken_on
taken_scribbles h w r b = refl

begun_scribbles : (h : Header) (w : World) (q : ℕ) → (begun h w).scribbles q ≡ may_scribble h (command_of (seen w (command_id h))) w q
unfolding begun command_begun
begun_scribbles h w q = scribble_same h w (taken_on h (seen_by_look h w (command_id h)) (command_id h) (seen w (command_id h))) (command_of (seen w (command_id h))) q (taken_scribbles h w (command_id h) (seen w (command_id h)))

begun_outside : (h : Header) (w : World) → (begun h w).looked_outside ≡ (w.looked_outside || not (is_inside (shape_of h (command_id h)) (w.pointer_of (command_id h))))
unfolding begun command_begun seen_by_look taken_on
begun_outside h w = refl

same_pointer : (h : Header) (w : World) → (seen_by_look h w (command_id h)).pointer_of (command_id h) ≡ w.pointer_of (command_id h)
unfolding seen_by_look
same_pointer h w = refl

begun_is : (h : Header) (w : World) → taken h (seen_by_look h w (command_id h)) (command_id h) (seen w (command_id h)) ≡ begun h w
unfolding begun taken
begun_is h w = cond-true (command_id h == command_id h) _ _ (eq-eqb (command_id h) (command_id h) refl) ∙ ap (λ a. command_begun h (taken_on h (seen_by_look h w (command_id h)) (command_id h) (seen w (command_id h))) a (seen w (command_id h))) (same_pointer h w)

only_begins : (h : Header) (w : World) → OnlyRing w (begun h w) (command_id h) (behind_block h w (command_id h) (seen w (command_id h)))
unfolding begun
only_begins h w = search (rules, only_begun, only_taken)

open_used : (h : Header) (k : Known) → is_used h k ≡ false → (k.ring (command_id h)).held ≡ None → ⊥
open_used h k unused none = false≢true (sym unused ∙ ap (λ o. not (is_value 0 o)) none)

no_one : (o : Option UnderWay) (c : ℕ) → (c == c && is_some o) ≡ false → o ≡ None
no_one o c free = grind (arith, is_some, and_cases, false≢true, eq-eqb)

module _ (h : Header) (is : IsHeader h) (k : Known) (unread : List Block) (w : World) (d : DriverKeeps h k) (g : Agrees h k unread w) (on : is_named k ≡ true) (active : w.is_active (command_id h) ≡ true) where
  ring : IsDriverRing h (command_id h)
  ring = command_is_ring h k d on

  c : CommandMatches h k w
  c = g.matches.command on

  -- the command ring at another spot, and which command is under way
  command_now : (v : World) (s : RingState) (t : Spot) → OnlyRing w v (command_id h) s → RingMatches (shape_of h (command_id h)) (k.ring (command_id h)) s t →
      UnderWayMatches h k t v.under_way → ((q : ℕ) → v.scribbles q ≡ true → k.device q ≢ None) →
      v.looked_outside ≡ (w.looked_outside || not (is_inside (shape_of h (command_id h)) (w.pointer_of (command_id h)))) → Agrees h k unread (counted h v)
  command_now v s t o m u scribbles outside =
      agrees_only h is k unread w d g (command_id h) v s o
      (matches_command h k w v (command_id h) s o g.matches refl on
      (record { spot = t; ring = subst (λ x. RingMatches (shape_of h (command_id h)) (k.ring (command_id h)) x t) (sym o.here) m; under_way = u })
      (λ unused. absurd (open_used h k unused (c.ring.opened active)))
      scribbles (outside ∙ (inside_still h is k unread w d g (command_id h) ring c.spot c.ring)))

  command_waits : Agrees h k unread (counted h (seen_by_look h w (command_id h)))
  command_waits =
      let rest = seen_rest h w (command_id h) in
      command_now (seen_by_look h w (command_id h)) (state_of w (command_id h)) c.spot (only_seen h w (command_id h)) c.ring
      (subst (λ x. UnderWayMatches h k c.spot x) (sym rest.under_way) c.under_way) (λ q may. g.matches.scribbles q (ap (λ f. f q) (sym rest.scribbles) ∙ may)) rest.outside

  command_crosses : CrossDone h is k w d g.stands (command_id h) ring c.spot → Agrees h k unread (counted h (crossed h (seen_by_look h w (command_id h)) (command_id h) (seen w (command_id h))))
  command_crosses x =
      let rest = crossed_rest h w (command_id h) (seen w (command_id h)) in
      command_now (crossed h (seen_by_look h w (command_id h)) (command_id h) (seen w (command_id h))) (behind_link h w (command_id h) (seen w (command_id h))) (Data x.number)
      (only_crossed h w (command_id h) (seen w (command_id h))) x.matches
      (subst (λ o. UnderWayMatches h k (Data x.number) o) (sym rest.under_way) (same_spot_number h k x.number w.under_way (subst (λ t. UnderWayMatches h k t w.under_way) x.was c.under_way)))
      (λ q may. g.matches.scribbles q (ap (λ f. f q) (sym rest.scribbles) ∙ may)) rest.outside

  -- the command that is taken
  module _ (x : TakeDone h is k w d g.stands (command_id h) ring c.spot) (free : w.under_way ≡ None) where
    here : x.number ≡ next_command h k
    here = (subst (λ o. UnderWayMatches h k (Data x.number) o) free (subst (λ t. UnderWayMatches h k t w.under_way) x.was c.under_way)).0

    taken_command : TakenCommand h k (record { address = w.pointer_of (command_id h); block = seen w (command_id h); has_stopped = false })
    taken_command = search (rules, seen, shape_of, command_id, state_of, c, here, same_Some, slice_get, ring, not_seen)

    -- it is unfinished, so what its giving asked for still holds
    floor : AtFloor h k
    floor = at_floor h is k d ring (omega (arith, x.block.below, here))

    command_there : (e : Command) → command_of (seen w (command_id h)) ≡ Some e → IsUnfinished h k (next_command h k) e
    command_there e at =
        let words = taken_command.words floor.block floor.queued in
        search (rules, floor, command_at_is, next_command, command_of-with_cycle, cycle_of_bit, shape_of, command_id, command_of)

    may_still : (q : ℕ) → (begun h w).scribbles q ≡ true → k.device q ≢ None
    may_still q may =
        elim (scribbles_more h w (command_of (seen w (command_id h))) q (sym (begun_scribbles h w q) ∙ may)) [
          | inl old ↦ g.matches.scribbles q old
          | inr new ↦ (d.unfinished (next_command h k) (AddressDevice q new.1 new.0) (command_there (AddressDevice q new.1 new.0) new.2)).device q new.0 new.1 refl
        ]

    command_takes : Agrees h k unread (counted h (begun h w))
    unfolding begun command_begun
    command_takes = search (rules, command_now, only_begins, number_after, here, taken_command, may_still, begun_outside)

  pub command_looks : (v : World) → LookEnds h w v (command_id h) → Agrees h k unread (counted h v)
  command_looks v (inl waits) = search (rules, command_waits, command_crosses, cross_done, ring, c, begun_is, command_takes, take_done, no_one)
  command_looks v (inr (inl link)) = search (rules, command_waits, command_crosses, cross_done, ring, c, begun_is, command_takes, take_done, no_one)
  command_looks v (inr (inr block)) = search (rules, command_waits, command_crosses, cross_done, ring, c, begun_is, command_takes, take_done, no_one)

module _ (h : Header) (is : IsHeader h) (k : Known) (unread : List Block) (w : World) (d : DriverKeeps h k) (g : Agrees h k unread w) where
  command_agrees : (v : World) → looked h h w (command_id h) ≡ Some v → Agrees h k unread (counted h v)
  command_agrees v at =
      let l = looked_is h w v (command_id h) at in
      elim (cases_Bool (is_named k)) [
        | inl on ↦ command_looks h is k unread w d g on l.0 v l.1
        | inr off ↦ absurd (false≢true (sym (g.matches.before off).rests.inactive ∙ l.0))
      ]

  transfer_agrees : (v : World) (r : ℕ) → r ≢ command_id h → looked h h w r ≡ Some v → Agrees h k unread (counted h v)
  transfer_agrees v r other at =
      let l = looked_is h w v r at in
      elim (g.matches.rings r other) [
        | inl bound ↦ transfer_looks h is k unread w d g r other bound l.0 v l.1
        | inr free ↦ absurd (false≢true (sym free.rests.inactive ∙ l.0))
      ]

  look_agrees : (v : World) (r : ℕ) → looked h h w r ≡ Some v → Agrees h k unread (counted h v)
  look_agrees v r at =
      elim (cases_eq r (command_id h)) [
        | inl command ↦ command_agrees v (ap (λ q. looked h h w q) (sym command) ∙ at)
        | inr other ↦ transfer_agrees v r other at
      ]

pub look_runs : (h : Header) → IsHeader h → (now : Known) (w v : World) (r : ℕ) → (run : Runs h now w) → DriverKeeps h (all_read h now run.unread) →
    looked h h w r ≡ Some v → Runs h now (counted h v)
look_runs h is now w v r run d at =
    record { unread = run.unread; possible = run.possible; blocks = run.blocks; on = run.on; agrees = look_agrees h is (all_read h now run.unread) run.unread w d run.agrees v r at }

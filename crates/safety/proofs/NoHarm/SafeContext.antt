-- The input context of the command under way is as it was when the command was given
use Rattle.safety.proofs.Words.{[], ◌≡◌, ◌+◌, ◌<◌, ◌≤◌, ◌∙◌, ℕ, suc, zero, Bool, true, false, nat_lt, Option, Some, None, option_and_then, slice_get, arith, refl, sym, ap, inl, inr, get_or, le-ltb, rules, list_any, range_with_len, false≢true, or_from, slice_get-get_or, Block, Spot, floor_number, is_due, given_count, ceiling, unwrap_or, cases_Bool, none-some, is_named, is_asked, is_done, HaltState, cycle_of_bit, due_from, given_below, step_is, given_count_declared, given_count_near, Command, command_of, named_context, input_context_bytes, Header, IsHeader, shape_of, command_id, World, UnderWay, is_changed_since, is_context_changed, has_changed_context, Known, command_at, next_command, IsDriverRing, DriverKeeps, RingMatches, state_of, UnderWayMatches, IsUnchanged, Matches}
use Rattle.safety.proofs.HeaderRings.Headers.{ring_shape}
use Rattle.safety.proofs.NoHarm.SameCommand.{command_of-with_cycle}
use Rattle.safety.proofs.NoHarm.NoWait.{ceiling_given}

pub none_in_range : (test : ℕ → Bool) (a n : ℕ) → ((i : ℕ) → a ≤ i → i < a + n → test i ≡ false) → list_any test (range_with_len a n) ≡ false
none_in_range test a zero each = refl
none_in_range test a (suc n) each =
    or_from (test a) (list_any test (range_with_len (a + 1) n)) (each a (omega arith) (omega arith))
    (none_in_range test (a + 1) n (λ i low high. each i (omega arith) (omega arith)))

pub next_is : (h : Header) (k : Known) → next_command h k ≡ floor_number (k.ring (command_id h))
unfolding next_command
next_is h k = refl

pub command_at_is : (h : Header) (k : Known) (p : ℕ) (d : Block) → slice_get (k.ring (command_id h)).queue p ≡ Some d → command_at h k p ≡ command_of d
unfolding command_at
command_at_is h k p d at = rw at refl

unchanged_test : (h : Header) (w : World) (at : ℕ) (c : Option ℕ) → IsUnchanged h w at c → is_context_changed h w (w.written (at + 12)) c ≡ false
unfolding is_context_changed is_changed_since
unchanged_test h w at o same = grind (arith, none_in_range, nat_lt, w.written, w.changed, input_context_bytes, le-ltb)

pub changed_none : (h : Header) (w : World) → has_changed_context h w None ≡ false
unfolding has_changed_context
changed_none h w = refl

changed_some : (h : Header) (w : World) (u : UnderWay) (o : Option Command) → command_of u.block ≡ o →
    has_changed_context h w (Some u) ≡ is_context_changed h w (w.written (u.address + 12)) (option_and_then named_context o)
unfolding has_changed_context
changed_some h w u o is = ap (λ x. is_context_changed h w (w.written (u.address + 12)) (option_and_then named_context x)) is

-- the command ring is declared once CRCR names it
pub command_is_ring : (h : Header) (k : Known) → DriverKeeps h k → is_named k ≡ true → IsDriverRing h (command_id h)
command_is_ring h k d named = d.run.named named

-- and it does while a command is under way
pub under_way_named : (h : Header) (k : Known) (w : World) (u : UnderWay) → Matches h k w → w.under_way ≡ Some u → is_named k ≡ true
under_way_named h k w u m at =
    elim (cases_Bool (is_named k)) [
      | inl named ↦ named
      | inr off ↦ absurd (none-some u (sym (m.before off).none ∙ at))
    ]

-- what isn't to halt hasn't
pub not_done : (o : HaltState) → is_asked o ≡ false → is_done o ≡ false
not_done o on = grind (arith, false≢true)

-- and while the controller runs, also before it was seen to have halted
pub named_in_run : (h : Header) (k : Known) → DriverKeeps h k → k.started ≡ true → is_asked k.halt ≡ false → is_named k ≡ true
named_in_run h k d started on = d.run.running started (not_done k.halt on)

-- and where a command can have been taken
pub named_if_taken : (h : Header) (k : Known) → DriverKeeps h k → k.started ≡ true → next_command h k < ceiling (shape_of h (command_id h)) (k.ring (command_id h)) → is_named k ≡ true
unfolding ceiling
named_if_taken h k d started below =
    d.run.used started (grind (arith, unwrap_or, next_command, (k.ring (command_id h)).held))

-- the command that was taken: what is declared at the floor, given and unfinished
pub record AtFloor (h : Header) (k : Known) : Type 0 where
  pub block : Block
  pub queued : slice_get (k.ring (command_id h)).queue (next_command h k) ≡ Some block
  pub due : is_due (shape_of h (command_id h)) (k.ring (command_id h)).floor (next_command h k) ≡ true
  pub given : (k.ring (command_id h)).given (next_command h k) ≡ true

module _ (h : Header) (is : IsHeader h) (k : Known) (d : DriverKeeps h k) where
  pub at_floor : IsDriverRing h (command_id h) → next_command h k < given_count (shape_of h (command_id h)) (k.ring (command_id h)) → AtFloor h k
  at_floor ring below =
      let allowed = (ring_shape h is (command_id h) ring).is in
      let keeps = d.rings (command_id h) ring in
      let high = given_count_declared (shape_of h (command_id h)) allowed k.memory (k.ring (command_id h)) keeps in
      let near = given_count_near (shape_of h (command_id h)) allowed k.memory (k.ring (command_id h)) keeps in
      let none : Block = record { w = [] } in
      record {
        block = get_or (k.ring (command_id h)).queue (next_command h k) none;
        queued = slice_get-get_or (k.ring (command_id h)).queue (next_command h k) none (omega arith);
        due = due_from (shape_of h (command_id h)) (k.ring (command_id h)).floor (next_command h k) (omega (arith, next_is h k)) (omega (arith, next_is h k));
        given = (step_is (shape_of h (command_id h)) (k.ring (command_id h)) (next_command h k)
            (given_below (shape_of h (command_id h)) (k.ring (command_id h)) (next_command h k) below)).0;
      }

  unchanged_of : (w : World) → Matches h k w → (u : UnderWay) (t : Spot) (f : AtFloor h k) → UnderWayMatches h k t (Some u) → (o : Option Command) → command_of f.block ≡ o →
      has_changed_context h w (Some u) ≡ false
  unfolding is_context_changed
  unchanged_of w m u t f under None none = search (rules, changed_some, command_of-with_cycle, cycle_of_bit, unchanged_test, command_at_is)
  unchanged_of w m u t f under (Some c) some = search (rules, changed_some, command_of-with_cycle, cycle_of_bit, unchanged_test, command_at_is)

  -- the input context of the command under way wasn't changed
  pub under_way_unchanged : (w : World) → Matches h k w → (t : Spot) → IsDriverRing h (command_id h) → RingMatches (shape_of h (command_id h)) (k.ring (command_id h)) (state_of w (command_id h)) t →
      (o : Option UnderWay) → UnderWayMatches h k t o → has_changed_context h w o ≡ false
  under_way_unchanged w m t ring at None under = changed_none h w
  under_way_unchanged w m t ring at (Some u) under =
      let low = ceiling_given (shape_of h (command_id h)) (ring_shape h is (command_id h) ring).is k.memory (k.ring (command_id h)) (d.rings (command_id h) ring) in
      let f = at_floor ring (omega (arith, at.below, under.0)) in
      unchanged_of w m u t f under (command_of f.block) refl

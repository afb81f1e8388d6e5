-- What the rules say of a command that a write gives
use Rattle.safety.proofs.LowerLaws.{[], ◌≡◌, ◌==◌, ◌||◌, ◌∙◌, ℕ, not, Bool, true, false, Some, arith, refl, sym, ap, inl, inr, eqb-true, ◌≢◌, ◌<◌, and_cases, or_parts, not-false, false_from_ne_true, declared, floor_number, is_move, Command, AddressDevice, is_off, Header, Write, IsHeader, shape_of, Known, command_given, binding_in, binds_ring, drops, is_being_bound, is_bad_binding, is_bad_stay, is_bad_move, some_command, write_tests, lenient_tests, lenient, StaysIf, MovesIf, DriverKeeps, none-some, adds_streams, has_bad_content, is_bad_command, is_busy, rules, AllFail, tests_fail, transfer_driver, off_is}
use Rattle.safety.proofs.CommandsKeep.GivenCommands.{GoodBindings, good_bindings, bound_free, content_good, stays, fails_of}
use Rattle.safety.proofs.CommandsKeep.RingsKept.{kept_drops}
use Rattle.safety.proofs.CommandsKeep.CommandsStay.{OwnKeeps}

module _ (h : Header) (k : Known) where
  pub record GivenFacts (c : Command) : Type 0 where
    pub own : OwnKeeps h k c
    pub content : has_bad_content h k c ≡ false
    pub busy : is_busy h k c ≡ false
    pub unshared : (r : ℕ) → binds_ring h k r c ≡ true → is_being_bound h k r ≡ false
    -- nothing waits on the ring of a second Address Device
    pub nothing_left : (s n r : ℕ) (bsr : Bool) → c ≡ AddressDevice s bsr n → k.ring_of s 1 ≡ Some r → declared (k.ring r) ≡ floor_number (k.ring r)

  moves_if : (c : Command) → is_bad_move h k c ≡ false → MovesIf h k c
  moves_if o good = grind arith

  module _ (is : IsHeader h) (d : DriverKeeps h k) where
    -- an endpoint that has a ring which the command binds is dropped
    unkept_if : (c : Command) → GoodBindings h k c → (r s i : ℕ) → binds_ring h k r c ≡ true → k.ring_of s i ≡ Some r → drops k c s i ≡ true
    unkept_if c good r s i bound has =
        let number = d.numbered s i r has in
        kept_drops h k c r (bound_free h k c good r bound).0 s i (some_number s (λ none. none-some r (sym (d.states.no_endpoint s i (inl none)) ∙ has))) number.0
        (some_number i (λ none. none-some r (sym (d.states.no_endpoint s i (inr none)) ∙ has))) number.1 has
      where
        some_number : (n : ℕ) → n ≢ 0 → 0 < n
        some_number n other = omega (arith, other)

    stand_rule : (s n r : ℕ) (bsr : Bool) → is_bad_move h k (AddressDevice s bsr n) ≡ false → k.ring_of s 1 ≡ Some r → is_bad_stay h k (Some r) (binding_in h k n 1) ≡ false
    unfolding is_bad_move
    stand_rule s n r bsr good at =
        search (rules, and_cases, not, is_off, k.endpoint_state, is_bad_stay, k.ring_of, binding_in, d.states.on, off_is, not-false)

    none_left : (s n r : ℕ) (bsr : Bool) → is_bad_move h k (AddressDevice s bsr n) ≡ false → k.ring_of s 1 ≡ Some r → declared (k.ring r) ≡ floor_number (k.ring r)
    unfolding is_bad_stay
    none_left s n r bsr good at =
        let move : ℕ → Bool = λ m. is_move (shape_of h r) (k.ring r) (binding_in h k n 1).pointer (binding_in h k n 1).cycle m m in
        let parts = or_parts (not (declared (k.ring r) == floor_number (k.ring r))) (not (move (declared (k.ring r)))) (stand_rule s n r bsr good at) in
        eqb-true (declared (k.ring r)) (floor_number (k.ring r)) (not-false (declared (k.ring r) == floor_number (k.ring r)) parts.0)

    stays_if : (c : Command) → is_bad_move h k c ≡ false → StaysIf h k c
    unfolding binding_in
    stays_if (AddressDevice s bsr n) good =
        λ r at.
        let end = none_left s n r bsr good at in
        record {
          here = stays h k (binding_in h k n 1) (Some r) r (stand_rule s n r bsr good at) refl;
          nothing = λ p low.
              false_from_ne_true ((k.ring r).given p)
              (λ given. let below = (d.rings r (transfer_driver h r (d.states.transfer s 1 r at))).given_declared p given in absurd (omega arith));
        }
    stays_if _ good = tt

    left_if : (c : Command) → is_bad_move h k c ≡ false → (s n r : ℕ) (bsr : Bool) → c ≡ AddressDevice s bsr n → k.ring_of s 1 ≡ Some r → declared (k.ring r) ≡ floor_number (k.ring r)
    left_if c good s n r bsr at has = none_left s n r bsr (ap (λ x. is_bad_move h k x) (sym at) ∙ good) has

    pub given_facts : (a w : ℕ) (c : Command) → lenient h k (Write a w) ≡ [] → command_given h k a w ≡ Some c → GivenFacts c
    unfolding lenient_tests write_tests some_command
    given_facts a w c clean given =
        let fails : AllFail (write_tests h k a w) = tests_fail h k (Write a w) clean in
        let good = fails_of h k (is_bad_command h k) (command_given h k a w) c fails.1.1.1.1.1.0 given in
        let busy = fails_of h k (is_busy h k) (command_given h k a w) c (or_parts _ _ (or_parts _ _ fails.1.1.1.1.1.1.0).0).0 given in
        let places = fails_of h k (λ c. is_bad_binding h k c || is_bad_move h k c) (command_given h k a w) c fails.1.1.1.1.1.1.1.1.0 given in
        let parts = or_parts (is_bad_binding h k c) (is_bad_move h k c) places in
        let bindings : GoodBindings h k c = good_bindings h k c parts.0 in
        record {
          own = record {
            good = good;
            in_profile = fails_of h k (adds_streams h k) (command_given h k a w) c (or_parts _ _ fails.1.1.1.1.1.1.1.0).0 given;
            placed = bindings.placed;
            repeats = bindings.repeats;
            unkept = unkept_if c bindings;
            moves_on = moves_if c parts.1;
            stays = stays_if c parts.1;
          };
          content = content_good h k c good;
          busy = busy;
          unshared = λ r bound. (bound_free h k c bindings r bound).1;
          nothing_left = left_if c parts.1;
        }

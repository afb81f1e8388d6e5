-- What the checks of rows rest on, of a driver that has kept the rules so far
use Rattle.ownership_checker.proofs.Words.{◌≡◌, ℕ, zero, suc, length, get_or, ◌<◌, List, [], ◌∷◌, true, false, Option, Some, None, refl, arith, inl, inr, is_some, ◌%◌, ◌≤◌, ap, sym, subst, cases_Bool, cases_option, number, RingView, declared, given_count, given_count_declared, given_count_most, Block, BlockKind, aligned, kind, pointer, Command, Header, Ring, IsHeader, command_id, command_ring, event_ring, event_shape, event_size, id_or_none, no_id, shape_of, command_named, command_driver, no_places, ring_shape, ring_with, Known, DriverKeeps, IsDriverRing, command_at, unfinished, IsSetUp, CommandsDeclared, ContextsFit, FitsMemory, nat_tests, input_context_bytes, command_by_kind, command_of, named_context, is_command_left_out, none_has_256, listed_unfinished, area_parts, is_bad_area, has_bad_context, is_bad_command, IsIn}
use Rattle.trb.specs.declared.kind.BlockKind.TheVariants as kinds

-- what holds of each element holds of all
all_in : {X : Type 0} (P : X → Type 0) (xs : List X) → ((x : X) → IsIn x xs → P x) → (n : ℕ) → (d : X) → n < length xs → P (get_or xs n d)
all_in P [] each n d below = absurd (omega (arith, below))
all_in P (x ∷ xs) each zero d below = each x (inl refl)
all_in P (x ∷ xs) each (suc n) d below = all_in P xs (λ y later. each y (inr later)) n d (omega (arith, below))

module _ (h : Header) (headed : IsHeader h) (k : Known) (d : DriverKeeps h k) where
  has_events : 0 < event_size h → is_some (event_ring h) ≡ true
  unfolding event_size event_shape
  has_events some = grind (arith, cases_Bool)

  has_commands : IsDriverRing h (command_id h) → is_some (command_ring h) ≡ true
  unfolding command_id
  has_commands r = by (command_ring h) r.found
    where
      by : (o : Option Ring) → ring_with h (id_or_none o) ≡ Some r.ring → is_some o ≡ true
      by None found = absurd (none_has_256 h headed r.ring found)
      by (Some ring) found = refl

  -- of the command ring no more is given than was declared; where none is there, nothing of its ID
  given_declared : CommandsDeclared h k
  given_declared =
      elim (cases_option (command_ring h)) [
        | inl none ↦ subst (λ n. given_count (shape_of h n) (k.ring n) ≤ declared (k.ring n)) (sym (command_named h headed None none)) none_given
        | inr some ↦
            let ring = command_driver h headed some.0 some.1 in
            given_count_declared (shape_of h (command_id h)) (ring_shape h headed (command_id h) ring).is k.memory (k.ring (command_id h)) (d.rings (command_id h) ring)
      ]
    where
      none_given : given_count (shape_of h no_id) (k.ring no_id) ≤ declared (k.ring no_id)
      none_given =
          let v : RingView = k.ring no_id in
          let nobody = d.nobody no_id refl in
          omega (arith, given_count_most (shape_of h no_id) v, no_places h headed, ap number nobody.floor)

  pub set_up : IsSetUp h k
  set_up = record {
    unread = λ off. (d.unstarted off).reads;
    sized = d.erstsz_written;
    has_events = λ written. has_events (d.sized written);
    has_commands = λ used. has_commands (d.run.absent used);
    declared = given_declared;
  }

sixteenth : (b : Block) (a : ℕ) → Some (aligned (pointer b)) ≡ Some a → a % 4 ≡ 0
sixteenth b a e = grind arith

-- the input context that a command of a block names is a multiple of 16
aligned_by : (n : BlockKind) (b : Block) (c : Command) (a : ℕ) → command_by_kind n b ≡ Some c → named_context c ≡ Some a → a % 4 ≡ 0
aligned_by n b c a is names = grind (arith, sixteenth)

of_block : (b : Block) (c : Command) (a : ℕ) → command_of b ≡ Some c → named_context c ≡ Some a → a % 4 ≡ 0
of_block b c a is names = grind (arith, cases_Bool (is_command_left_out b), aligned_by (kind b) b c a)

module _ (h : Header) (k : Known) (d : DriverKeeps h k) where
  fits : (c : Command) → IsIn c (unfinished h k) → FitsMemory h.context_size c
  unfolding command_at is_bad_command has_bad_context
  fits c among =
      let at = listed_unfinished h k c among in
      λ a names.
      let area : is_bad_area h k a (input_context_bytes h.context_size) ≡ false = grind (arith, (d.unfinished at.0 c at.1).good) in
      let ends = (area_parts h k a (input_context_bytes h.context_size) area).ends in
      ((grind (arith, of_block)), grind (arith, nat_tests, ends))

  pub contexts_fit : ContextsFit h k
  contexts_fit = all_in (FitsMemory h.context_size) (unfinished h k) fits

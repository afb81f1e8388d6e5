-- What a write that breaks no rule gives: a command that nothing excludes, and a device context that lies where it may
use Rattle.driver_rows.proofs.LowerLaws.{rules, ◌≡◌, ℕ, ◌+◌, ◌^◌, ◌≤◌, List, [], ◌∷◌, Option, Some, None, refl, ap, sym, ◌∙◌, arith, inl, subst, Contains, option_and_then, filter_map, eq-eqb, positions_given, gives_is, position_given_is, Command, AddressDevice, Header, Write, IsHeader, shape_of, command_id, Known, unfinished, device_named, entry_of, no_device, taken_device, command_given, slots, lenient, DeviceKeeps, DriverKeeps, ring_shape, due_has_ring, area_parts, taking, after_write, taken, written_device, written_device_none, given_facts, rules_of, written_devices, Inserted, GivesOne, allowed_gives, written_with, written_without, device_contexts, IsInserted, IsWith, MayBeGiven, EntryFits, LiesOnWords, address_taken, given_endpoint, listed_with, nat_tests}
use Rattle.ownership_rules.specs.Commands as commands

inserted : {X : Type 0} (x : X) (old new : List X) → Inserted x old new → IsInserted x old new
inserted x old new i = record { front = i.front; back = i.back; was = i.was; is = i.is }

module _ (h : Header) (is : IsHeader h) (k : Known) (d : DriverKeeps h k) (a w : ℕ) (clean : lenient h k (Write a w) ≡ []) where
  abbrev l : Known
  l = after_write h k a w

  -- ---- the command

  -- the write gives at most one position of the command ring
  at_most_one : (ps : List ℕ) → positions_given (shape_of h (command_id h)) (k.ring (command_id h)) a w ≡ ps → GivesOne h k a w
  at_most_one [] none = inl none
  at_most_one (p ∷ ps) some =
      let here : Contains (positions_given (shape_of h (command_id h)) (k.ring (command_id h)) a w) p = subst (λ xs. Contains xs p) (sym some) (0, omega arith, refl) in
      let gives = (position_given_is (shape_of h (command_id h)) (k.ring (command_id h)) a w p here).1 in
      grind (arith, gives_is, allowed_gives, ring_shape, due_has_ring)

  gives_one : GivesOne h k a w
  gives_one = at_most_one (positions_given (shape_of h (command_id h)) (k.ring (command_id h)) a w) refl

  -- it comes to the unfinished commands
  pub new_command : (o : Option Command) → o ≡ command_given h k a w → IsWith o (unfinished h k) (unfinished h l)
  new_command o e = search (rules, written_without, gives_one, inserted, written_with)

  -- nothing excludes it
  pub may_be_given : (o : Option Command) → o ≡ command_given h k a w → MayBeGiven o (unfinished h k)
  unfolding commands.is_busy
  may_be_given o e = search (rules, given_facts, given_endpoint)

  -- ---- the device context

  entry_ends : (s n : ℕ) → taken h k a w ≡ Some (s, n) → entry_of k s + 8 ≤ 2 ^ 64
  entry_ends s n at = grind (arith, nat_tests, (area_parts h k (entry_of k s) 8 (rules_of h is k d a w clean (s, n) at).entry_area).ends)

  -- where the entry that names it lies
  pub entry_fits : (o : Option Command) → o ≡ command_given h k a w → EntryFits k o
  unfolding taken_device no_device
  entry_fits None at = tt
  entry_fits (Some (AddressDevice s bsr c)) at = λ fresh.
      entry_ends s (device_named k s) (ap (λ o. option_and_then (taken_device k) o) (sym at) ∙ ap (λ o. no_device o s (device_named k s)) fresh)
  entry_fits (Some _) at = tt

  kept_device : (e : ℕ × ℕ) → taken h k a w ≡ Some e → DeviceKeeps h l e.0 e.1
  kept_device e at = written_devices h is k d a w clean e.0 e.1 (ap (λ f. f e.0) (written_device h k a w e at) ∙ rw (eq-eqb e.0 e.0 refl) refl)

  -- where it lies itself
  lies_by : (o : Option (ℕ × ℕ)) → taken h k a w ≡ o → LiesOnWords h.context_size o
  lies_by None at = tt
  lies_by (Some e) at = let kept = kept_device e at in let aligned = kept.aligned in (omega arith, kept.ends)

  pub lies_well : LiesOnWords h.context_size (taken h k a w)
  lies_well = lies_by (taken h k a w) refl

  -- it comes to the device contexts under lease
  device_by : (o : Option (ℕ × ℕ)) → taken h k a w ≡ o → IsWith (address_taken o) (device_contexts k) (device_contexts l)
  unfolding slots
  device_by None at = ap (λ f. filter_map f slots) (written_device_none h k a w at)
  device_by (Some e) at =
      let slot = (kept_device e at).slot in
      subst (λ f. IsInserted e.1 (filter_map k.device slots) (filter_map f slots)) (sym (written_device h k a w e at))
      (listed_with k.device e.0 e.1 1 255 (taking h k a w e clean at).takes.fresh (omega arith) (omega arith))

  pub new_device : IsWith (address_taken (taken h k a w)) (device_contexts k) (device_contexts l)
  new_device = device_by (taken h k a w) refl

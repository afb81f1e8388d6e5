-- Where a command may be unfinished the header has a command ring
use Rattle.safety.proofs.Words.{◌≡◌, ℕ, true, Option, Some, None, find, arith, refl, rules, Spot, place_count, is_due, due_is, cases_option, Header, Ring, IsHeader, shape_of, command_ring, command_id, id_or_none, is_command_kind, IsDriverRing}
use Rattle.safety.proofs.HeaderRings.RingsOfHeader.{found_passes}
use Rattle.safety.proofs.HeaderRings.RingIds.{found_again, together, none_has_256}
use Rattle.safety.proofs.RunKeeps.KeptRegisters.{command_drives}

module _ (h : Header) (is : IsHeader h) where
  pub no_places : place_count (shape_of h 256) ≡ 0
  unfolding shape_of
  no_places = search (rules, cases_option, none_has_256)

  -- nor has it grown
  pub nobodys_unmoved : (shape_of h 256).offset ≡ 0
  unfolding shape_of
  nobodys_unmoved = search (rules, cases_option, none_has_256)

  due_by : (o : Option Ring) → find (λ q. is_command_kind q.shape.kind) h.rings ≡ o → (floor : Spot) (p : ℕ) → is_due (shape_of h (id_or_none o)) floor p ≡ true → IsDriverRing h (id_or_none o)
  due_by None none floor p due = let within = due_is (shape_of h 256) floor p due in absurd (omega (arith, within.0, within.1, no_places))
  due_by (Some c) found floor p due = search (rules, found_again, is_command_kind, together, command_drives, found_passes)

  -- a position of the command ring that is due is one of a ring
  pub due_has_ring : (floor : Spot) (p : ℕ) → is_due (shape_of h (command_id h)) floor p ≡ true → IsDriverRing h (command_id h)
  unfolding command_id command_ring
  due_has_ring floor p due = due_by (find (λ q. is_command_kind q.shape.kind) h.rings) refl floor p due

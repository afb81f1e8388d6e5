-- The command ring is neither moved nor bound
use Rattle.driver_rows.proofs.LowerLaws.{rules, ◌≡◌, ℕ, true, false, Option, Some, None, refl, ap, sym, ◌∙◌, ◌==◌, ◌&&◌, eqb-true, RingKind, is_open, Command, Ring, Header, IsHeader, is_command_kind, is_transfer_kind, is_ring, ring_having, ring_with, Known, unfinished, DriverKeeps, IsTransferRing, false_unless, and_false, any_nowhere, IsAmong, ring_found, having_transfer}
use Rattle.ownership_rules.specs.Moves as moves

-- a ring of commands is no transfer ring
two_kinds : (kind : RingKind) → is_command_kind kind ≡ true → is_transfer_kind kind ≡ true → ⊥
two_kinds kind e f = search rules

some_ring : (r q : Ring) → Some r ≡ Some q → r ≡ q
some_ring r q e = cc

-- the command ring isn't moved, nor bound
module _ (h : Header) (headed : IsHeader h) (k : Known) (keeps : DriverKeeps h k) (r : Ring) (among : IsAmong r h.rings) (command : is_command_kind r.shape.kind ≡ true) where
  no_transfer : (o : Option ℕ) → ((q : ℕ) → o ≡ Some q → IsTransferRing h q) → is_ring r.id o ≡ false
  no_transfer None transfer = refl
  no_transfer (Some q) transfer = false_unless (q == r.id) (λ e.
      let bound : IsTransferRing h q = transfer q refl in
      let same : r ≡ bound.ring = some_ring r bound.ring (sym (ring_found h headed r among) ∙ ap (λ i. ring_with h i) (sym (eqb-true q r.id e)) ∙ bound.found) in
      two_kinds r.shape.kind command (ap (λ (y : Ring). is_transfer_kind y.shape.kind) same ∙ bound.kind))

  moves_none : (c : Command) → moves.moves_ring h k r.id c ≡ false
  unfolding moves.moves_ring
  moves_none c = search (rules, no_transfer, and_false)

  pub stays_put : moves.is_being_moved h k r.id ≡ false
  unfolding moves.is_being_moved
  stays_put = any_nowhere (moves.moves_ring h k r.id) moves_none (unfinished h k)

  binds_none : (c : Command) → moves.binds_ring h k r.id c ≡ false
  unfolding moves.binds_ring moves.ring_bound
  binds_none c = any_nowhere (λ b. is_ring r.id (ring_having h b.pointer)) (λ b. no_transfer (ring_having h b.pointer) (having_transfer h headed b.pointer)) (moves.binds h k c)

  pub awaits_none : moves.awaits_binding h k r.id ≡ false
  unfolding moves.awaits_binding moves.is_being_bound
  awaits_none = ap (λ b. is_open (k.ring r.id) && b) (any_nowhere (moves.binds_ring h k r.id) binds_none (unfinished h k)) ∙ and_false (is_open (k.ring r.id))

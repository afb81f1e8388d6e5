-- Any history keeps endpoints on transfer rings
use Rattle.safety.proofs.LowerLaws.{typed, [], ◌≡◌, ◌≢◌, if◌then◌else◌, ◌∷◌, ◌∙◌, ℕ, Bool, List, Option, None, Some, refl, sym, ap, subst, cond_both, none-some, same_Some, Spot, number, Reaches, Holds, Command, Change, Header, IsHeader, Known, on_ring, set_to, bound_to, moved_to, moved, pointed, disabled, in_state, held_at_ceiling, changed_by, changed_by_all, EndpointsKeep, arith, having_transfer}
use Rattle.safety.specs.EndpointsKeep.{IsTransferRing}
use Rattle.safety.proofs.RingsKeep.DriverRows.{ring_elsewhere}

pub fewer : (b : Bool) (o : Option ℕ) (r : ℕ) → (if b then None else o) ≡ Some r → o ≡ Some r
fewer b o r at = grind (arith, none-some)

module _ (h : Header) where
  -- where no endpoint has another ring than before
  pub leaves_keeps : (k l : Known) → EndpointsKeep h k → ((s i r : ℕ) → l.ring_of s i ≡ Some r → k.ring_of s i ≡ Some r) → EndpointsKeep h l
  leaves_keeps k l keeps endpoints = record { transfer = λ s i r at. keeps.transfer s i r (endpoints s i r at) }

  -- where all endpoints have the rings that they had
  pub same_keeps : (k l : Known) → l.ring_of ≡ k.ring_of → EndpointsKeep h k → EndpointsKeep h l
  same_keeps k l endpoints keeps = leaves_keeps k l keeps (λ s i r at. ap (λ (f : ℕ → ℕ → Option ℕ). f s i) (sym endpoints) ∙ at)

  pub moved_rings : (k : Known) (o : Option ℕ) (p : ℕ) (cycle : Bool) → (moved h k o p cycle).ring_of ≡ k.ring_of
  unfolding moved moved_to set_to on_ring
  moved_rings k o p cycle = grind arith

  pub held_rings : (k : Known) (o : Option ℕ) → (held_at_ceiling h k o).ring_of ≡ k.ring_of
  unfolding held_at_ceiling on_ring
  held_rings k o = grind arith

  -- ---- a binding

  set_elsewhere : (k : Known) (r q : ℕ) (t : Spot) → q ≢ r → (set_to h k r t).ring q ≡ k.ring q
  unfolding set_to
  set_elsewhere k r q t other = ring_elsewhere h (on_ring h k r (Reaches t)) r q (Holds (number t)) other ∙ ring_elsewhere h k r q (Reaches t) other

  -- ---- the success of a command

  pub change_keeps : IsHeader h → (c : Command) (k : Known) (change : Change) → EndpointsKeep h k → EndpointsKeep h (changed_by h c k change)
  unfolding changed_by disabled typed in_state pointed bound_to
  change_keeps is c k change keeps = grind (arith, same_keeps, leaves_keeps, fewer, same_Some, having_transfer, moved_rings, held_rings)

  pub changes_keep : IsHeader h → (c : Command) (k : Known) (all : List Change) → EndpointsKeep h k → EndpointsKeep h (changed_by_all h c k all)
  unfolding changed_by_all
  changes_keep is c k [] keeps = keeps
  changes_keep is c k (change ∷ rest) keeps = changes_keep is c (changed_by h c k change) rest (change_keeps is c k change keeps)

  -- ---- a ring that isn't a transfer ring

  module _ (is : IsHeader h) (q : ℕ) (not_transfer : IsTransferRing h q → ⊥) where
    other_ring : (k : Known) → EndpointsKeep h k → (s i r : ℕ) → k.ring_of s i ≡ Some r → q ≢ r
    other_ring k keeps s i r at same = not_transfer (subst (λ n. IsTransferRing h n) (sym same) (keeps.transfer s i r at))

    pointed_elsewhere : (k : Known) → EndpointsKeep h k → (s i p : ℕ) (cycle : Bool) → (pointed h k s i p cycle).ring q ≡ k.ring q
    unfolding pointed moved moved_to bound_to
    pointed_elsewhere k keeps s i p cycle = grind (arith, cond_both, Option, having_transfer, set_elsewhere, other_ring)

    -- stays as it is
    pub changes_elsewhere : (c : Command) (k : Known) (all : List Change) → EndpointsKeep h k → (changed_by_all h c k all).ring q ≡ k.ring q
    unfolding changed_by_all changed_by disabled typed in_state held_at_ceiling
    changes_elsewhere c k [] keeps = refl
    changes_elsewhere c k (change ∷ rest) keeps = grind (arith, change_keeps, pointed_elsewhere, ring_elsewhere, other_ring, changes_elsewhere c (changed_by h c k change) rest (change_keeps is c k change keeps))

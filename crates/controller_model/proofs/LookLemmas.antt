-- What a look does to what is kept of a ring
use Rattle.controller_model.proofs.Words.{rules, ◌≡◌, ◌∷◌, if◌then◌else◌, ℕ, Option, IsSome, Block, DeclaredBlock, declared_at, Header, shape_of, ring_with, Took, RingState, Declares, Keeps, ShowsHarms, RingHeld, FollowsRing, FollowsHolder, noted_held}

module _ (h : Header) (r : ℕ) (held : RingHeld) (x : RingState) (f : FollowsRing h r held x) where
  pub noted_follows : (after : RingState) (b : Block) (d : Option DeclaredBlock) (p : ℕ) → p ≡ x.history.next → d ≡ declared_at held.queue held.lengths p →
      Keeps (shape_of h r) (Took x.pointer b d ∷ held.events) held.reported after.history →
      (IsSome (ring_with h r) → ShowsHarms (shape_of h r) (Took x.pointer b d ∷ held.events) after.history) →
      Declares after.declared held.queue held.lengths → held.pointer ≡ after.pointer → held.cycle ≡ (if after.cycle then 1 else 0) →
      held.is_active ≡ after.is_active → FollowsHolder held.had_by after.holder → FollowsRing h r (noted_held (shape_of h r) held b) after
  noted_follows after b d p next told keeps shows declared pointer cycle active holder = search rules

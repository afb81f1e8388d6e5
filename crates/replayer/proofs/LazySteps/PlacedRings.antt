-- The rings that an event's command binds or moves, as a list and as a test
use Rattle.replayer.proofs.Words.{arith, ◌≡◌, ◌==◌, ◌&&◌, ◌∷◌, if◌then◌else◌, ◌∙◌, ℕ, Bool, List, [], Option, refl, ap, list_any, or-false, list_any-append, Block, code, slot, Command, Change, Header, is_ring, Known, command_at, next_command, changed_by, is_placed_by_all, is_placed_by, listed, placed_by_all, placed_by, placed}

abbrev pub has : ℕ → List ℕ → Bool
has r rings = list_any (λ q. q == r) rings

pub has_listed : (r : ℕ) (o : Option ℕ) → has r (listed o) ≡ is_ring r o
has_listed r o = grind (arith, or-false)

module _ (h : Header) where
  has_all : (c : Command) (k : Known) (r : ℕ) (l : List Change) → has r (placed_by_all h c k l) ≡ is_placed_by_all h c k r l
  unfolding placed_by_all is_placed_by_all
  has_all c k r [] = refl
  has_all c k r (change ∷ rest) = grind (arith, list_any-append, has_listed, has_all c (changed_by h c k change) r rest)

  if_so : (b : Bool) (r : ℕ) (l : List ℕ) → has r (if b then l else []) ≡ b && has r l
  if_so b r l = grind arith

  pub has_placed : (k : Known) (b : Block) (r : ℕ) → has r (placed h k b) ≡ code b == 1 && is_placed_by h k r (slot b) (command_at h k (next_command h k))
  unfolding placed placed_by is_placed_by
  has_placed k b r = if_so (code b == 1) r _ ∙ ap (λ t. code b == 1 && t) (grind (arith, has_all))

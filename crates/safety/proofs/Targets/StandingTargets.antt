-- A pointer and a cycle state that name a spot at the floor's number
use Rattle.safety.proofs.Words.{◌≡◌, ◌≤◌, ◌∷◌, ◌∙◌, ℕ, Bool, true, false, List, find, Some, arith, sym, subst, rules, cond-true, cond-false, false≢true, same_Some, Spot, Shape, number, RingView, declared, floor_number, ceiling, spots_between, target, is_move, is_placement, placement_still}

find_later : (test : Spot → Bool) (u t : Spot) (rest : List Spot) → find test (u ∷ rest) ≡ Some t → test u ≡ false → find test rest ≡ Some t
find_later test u t rest found none = sym (cond-false (test u) (Some u) (find test rest) none) ∙ found

-- where the spots at the floor's number pass the test of a move, the target is one of them
pub target_here : (shape : Shape) (v : RingView) (p : ℕ) (cycle : Bool) (t : Spot) → floor_number v ≤ declared v → is_move shape v p cycle (floor_number v) (floor_number v) ≡ true →
    target shape v p cycle ≡ Some t → number t ≡ floor_number v
unfolding is_move target spots_between
target_here shape v p cycle t low moves named = search (rules, same_Some, cond-true, find_later, false≢true, find)

-- and where they stand still
pub target_placed : (shape : Shape) (v : RingView) (p : ℕ) (cycle : Bool) (t : Spot) → floor_number v ≤ ceiling shape v → floor_number v ≤ declared v → is_placement shape v p cycle ≡ true →
    target shape v p cycle ≡ Some t → number t ≡ floor_number v
unfolding is_placement
target_placed shape v p cycle t within low placed named =
    target_here shape v p cycle t low (subst (λ n. is_move shape v p cycle n (floor_number v) ≡ true) (omega (arith, placement_still shape v p cycle placed, within)) placed) named

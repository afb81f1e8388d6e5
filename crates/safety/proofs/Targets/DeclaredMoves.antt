-- Spots to which a ring may be moved stay such, behind a declaration too
use Rattle.safety.proofs.Words.{◌≡◌, ℕ, Bool, true, List, unwrap_or, sym, ap, length-append, rules, Block, Shape, RingView, Declares, changed, declared, floor_number, ceiling, is_move, given_count-declares, move-declares, is_placement}

-- spots to which a ring may be moved stay such: at the floor, where it stands still, and from the ceiling up to what is declared
pub record MovesStay (shape : Shape) (v w : RingView) : Type 0 where
  pub standing : (p : ℕ) (cycle : Bool) → is_move shape v p cycle (floor_number v) (floor_number v) ≡ true → is_move shape w p cycle (floor_number w) (floor_number w) ≡ true
  pub placed : (p : ℕ) (cycle : Bool) → is_placement shape v p cycle ≡ true → is_placement shape w p cycle ≡ true
  pub ahead : (p : ℕ) (cycle : Bool) → is_move shape v p cycle (ceiling shape v) (declared v) ≡ true → is_move shape w p cycle (ceiling shape w) (declared w) ≡ true

pub ceiling_declares : (shape : Shape) (v : RingView) (blocks : List Block) → ceiling shape (changed shape v (Declares blocks)) ≡ ceiling shape v
unfolding ceiling
ceiling_declares shape v blocks = ap (λ n. unwrap_or v.held n) (sym (given_count-declares shape v blocks))

pub moves_declares : (shape : Shape) (v : RingView) (blocks : List Block) → MovesStay shape v (changed shape v (Declares blocks))
unfolding is_placement
moves_declares shape v blocks = search (rules, move-declares, ceiling, floor_number, changed, ceiling_declares, length-append)

pub moves_stand : (shape : Shape) (v : RingView) → MovesStay shape v v
moves_stand shape v = record { standing = λ p cycle moves. moves; placed = λ p cycle placed. placed; ahead = λ p cycle moves. moves }

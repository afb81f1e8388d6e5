-- What is lent after the end of a command: what its completion passes and lets go of ends, and nothing begins
use Rattle.leases.proofs.MiddleLaws.{arith, ◌≡◌, ℕ, List, map, Option, Header, Ring, Row, driver_rings, Known, IsIn, ended_where, let_go, Lent, grown, AreOpen, Moves, only_ended, learned_or_reset, Finishes, ranges_narrow, floors, is_left, narrows}

module _ (h : Header) (k : Known) (ts : List Lent) (still : AreOpen h k ts) (row : Row) (n : ℕ) where
  abbrev k' : Known
  k' = learned_or_reset h k row

  -- rings move on by floors, the command ring by the next command; a slot may be left
  pub finish_lent : (left : Option ℕ) → Finishes h k k' left → ((q : Ring) → IsIn q (driver_rings h) → Moves q.shape (k.ring q.id) (k'.ring q.id) (floors k' q.id)) →
      grown h k row n ts ≡ map (ended_where (is_left (floors k) (floors k') (let_go h k left)) n) ts
  finish_lent left f each = grind (arith, only_ended, is_left, floors, let_go, narrows, ranges_narrow)

-- What is lent behind the rows so far is in step with what is open
use Rattle.leases.proofs.MiddleLaws.{◌+◌, ◌≤◌, ◌∷◌, ℕ, List, [], length, arith, Header, Row, without_end, AllUnended, lents, IsInStep, header_now, known_now, open_now, IsOpen, first_open, passed_open, in_step_behind, in_step_first}

module _ (h : Header) (first : ℕ) where
  -- what is lent and not over is open
  pub lent_open : (past : List Row) → first + length past ≤ without_end → AllUnended (λ i l. IsOpen (open_now h past) l) 0 (lents h first past)
  unfolding lents
  lent_open [] room = first_open (open_now h []) 0
  lent_open (row ∷ past) room = passed_open (open_now h past) (open_now h (row ∷ past)) (first + length past) (lents h first past) (omega (arith, room))

  -- and what is open is lent
  pub in_step_now : (past : List Row) → first + length past ≤ without_end → IsInStep (header_now h past) (known_now h past) (lents h first past)
  unfolding lents
  in_step_now [] room = in_step_first h
  in_step_now (row ∷ past) room =
      in_step_behind (header_now h past) (header_now h (row ∷ past)) (known_now h past) (known_now h (row ∷ past)) (first + length past) (lents h first past) (omega (arith, room))
      (in_step_now past (omega (arith, room)))

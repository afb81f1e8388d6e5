-- The controller finishes a Set TR Dequeue with success: the run goes on
use Rattle.safety.proofs.MiddleLaws.{[], ◌≡◌, ℕ, not, Bool, true, false, Option, Some, None, arith, sym, or_parts, not-false, false≢true, ceiling_within, Command, SetTrDequeue, EndpointState, Stopped, Places, changes, is_off, is_at_rest, Header, IsHeader, shape_of, World, Known, next_command, is_bad_dequeue, is_bad_move, DriverKeeps, CommandKeeps, rules, effect, changed_by, succeeded, ring_shape, transfer_driver, StatesMatch}
use Rattle.safety.proofs.Finishes.PlaceKeeps.{MayMove, move_keeps}
use Rattle.safety.proofs.Finishes.FinishSuccess.{EffectKeeps}
use Rattle.safety.proofs.Finishes.FinishGiven.{nothing_keeps, change_then}

rest_on : (state : EndpointState) → is_at_rest state ≡ true → is_off state ≡ false
rest_on state rest = grind (arith, false≢true)

module _ (h : Header) (is : IsHeader h) (k : Known) (d : DriverKeeps h k) (s i p : ℕ) (cycle : Bool) where
  moves_of : (o : Option ℕ) → k.ring_of s i ≡ o → is_bad_dequeue h k o p cycle ≡ false → is_off (k.endpoint_state s i) ≡ false → MayMove h k s i p cycle
  unfolding is_bad_dequeue
  moves_of None had good on = absurd (false≢true (sym good))
  moves_of (Some r) had good on =
      let transfer = d.states.transfer s i r had in
      let driver = transfer_driver h r transfer in
      let within = ceiling_within (shape_of h r) (ring_shape h is r driver).is k.memory (k.ring r) (d.rings r driver) in
      grind (arith, not-false)

  pub may_move : is_bad_move h k (SetTrDequeue s i p cycle) ≡ false → MayMove h k s i p cycle
  unfolding is_bad_move
  may_move good = search (rules, or_parts, not, is_at_rest, k.endpoint_state, is_bad_dequeue, k.ring_of, moves_of, rest_on, not-false)

  pub dequeue_keeps : (w : World) (n : ℕ) → StatesMatch h k w → CommandKeeps h k (next_command h k) (SetTrDequeue s i p cycle) → EffectKeeps h k w n (SetTrDequeue s i p cycle)
  unfolding effect succeeded changes
  dequeue_keeps w n m given =
      let c : Command = SetTrDequeue s i p cycle in
      let may : MayMove h k s i p cycle = may_move given.moves_on in
      change_then h c k w (Places s i p cycle Stopped) [] (λ v at. move_keeps h is c k w v s i p cycle Stopped m (m.within s i may.ring may.had) at may)
      (λ v at states. nothing_keeps h c (changed_by h c k (Places s i p cycle Stopped)) v states)

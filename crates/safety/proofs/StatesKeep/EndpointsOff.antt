-- A slot that a command names has a number above 0, and an endpoint that is off has no ring
use Rattle.safety.proofs.Words.{◌≡◌, ◌<◌, ℕ, true, false, Some, None, arith, cases_lt, or_parts, false≢true, Command, EndpointState, Off, named_slot, is_off, Header, Known, is_bad_command, names_disabled_slot, DriverKeeps, rules}

pub off_is : (state : EndpointState) → is_off state ≡ true → state ≡ Off
off_is state off = grind (arith, false≢true)

module _ (h : Header) (k : Known) where
  -- slot 0 is Disabled, so a command that may be given names another one
  pub slot_above : DriverKeeps h k → (c : Command) (s : ℕ) → is_bad_command h k c ≡ false → named_slot c ≡ Some s → 0 < s
  unfolding is_bad_command names_disabled_slot
  slot_above d c s good at = grind (arith, cases_lt, false≢true, or_parts)

  pub off_none : DriverKeeps h k → (s i : ℕ) → is_off (k.endpoint_state s i) ≡ true → k.ring_of s i ≡ None
  off_none d s i off = search (rules, k.ring_of, d.states.on, off_is, k.endpoint_state)

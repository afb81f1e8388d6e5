-- Which event can end a command
use Rattle.event_rows.proofs.Words.{rules, IsSaid, ◌≡◌, ◌&&◌, ℕ, Bool, true, false, Option, None, Some, refl, not, is_some, IfSome, Block, code, slot, Command, StopEndpoint, SlotState, EndpointState, IsWell, command_well, may_answer_slot, named_endpoint, named_slot, can_succeed, endpoint_meant, endpoint_success, is_slot_enabled, slot_meant, slot_success, Config, register_or_zero, Known, can_finish, was_stop_seen}

-- ---- which event can end a command

pub no_stop : (k : Known) (c : Command) → ((s i : ℕ) → c ≡ StopEndpoint s i → ⊥) → false ≡ was_stop_seen k c
unfolding was_stop_seen
no_stop k c e = search rules

pub none_finishes : (k : Known) (b : Block) → can_finish k b None ≡ false
unfolding can_finish
none_finishes k b = refl

pub succeeds_is : (slots : ℕ → SlotState) (endpoints : ℕ → ℕ → EndpointState) (config n : ℕ) (c : Command) → (x y z : Bool) →
    x ≡ is_some (slot_success c (slots (slot_meant n (named_slot c)))) → y ≡ is_some (endpoint_success c (endpoint_meant endpoints (named_endpoint c))) → z ≡ is_slot_enabled config n c →
    (x && y && z) ≡ can_succeed slots endpoints config n c
unfolding can_succeed
succeeds_is slots endpoints config n c x y z e f g = rw (e, f, g) refl

module _ (k : Known) (b : Block) (c : Command) where
  abbrev Succeeds : Bool
  Succeeds = can_succeed k.slot_state k.endpoint_state (register_or_zero k.register Config) (slot b) c

  pub answers_other : may_answer_slot (Some c) (slot b) ≡ false → false ≡ can_finish k b (Some c)
  unfolding can_finish
  answers_other refused = search rules

  pub on_success : may_answer_slot (Some c) (slot b) ≡ true → code b ≡ 1 → Succeeds ≡ can_finish k b (Some c)
  unfolding can_finish
  on_success may one = search rules

  pub on_failure : may_answer_slot (Some c) (slot b) ≡ true → (code b ≡ 1 → ⊥) → not (was_stop_seen k c) ≡ can_finish k b (Some c)
  unfolding can_finish
  on_failure may other = search rules

-- a command that a block says holds what it may hold
pub said_well : (o : Option Command) → IfSome o IsSaid → IfSome o IsWell
said_well o e = search (rules, command_well)

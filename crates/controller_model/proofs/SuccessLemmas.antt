-- When a command can succeed
use Rattle.controller_model.proofs.MiddleLaws.{arith, rules, ◌≡◌, ◌+◌, ◌≤◌, ◌^◌, ℕ, Bool, true, false, Option, Some, None, is_some, nat_lt, option_and_then, ltb-false, ContextSize, context_pointer, input_context_bytes, Command, AddressDevice, ConfigureEndpoint, SetTrDequeue, named_context, changes, Header, ring_having, World, changed_by, changed_by_all, effect, is_had_by_another, passes_end, succeeded, HasRoom, may_get, gone, may_get_is}

pub one_some : (o : Option World) → is_some (option_and_then (λ v. Some v) o) ≡ is_some o
one_some o = grind arith

-- who has a ring doesn't rest on the states of slots
may_get_gone : (d : Command) (w : World) (s t i : ℕ) (o : Option ℕ) → may_get (gone d w s) t i o ≡ may_get w t i o
unfolding is_had_by_another
may_get_gone d w s t i o = grind arith

pub can_be_addressed : (h : Header) (size : ContextSize) (memory : ℕ → ℕ) (n : ℕ) (d : Command) (w : World) (s c : ℕ) (bsr : Bool) →
    is_some (changed_by_all h d w (changes size memory n (AddressDevice s bsr c))) ≡ may_get w s 1 (ring_having h (context_pointer size memory c 1))
unfolding changes changed_by_all changed_by
can_be_addressed h size memory n d w s c bsr = search (rules, is_some, one_some, gone, may_get_is, may_get_gone)

-- the success of any other command is possible whatever the rings
module _ (h : Header) (size : ContextSize) (memory : ℕ → ℕ) (n : ℕ) (w : World) where
  pub can_always : (d : Command) → ((s : ℕ) (bsr : Bool) (c : ℕ) → d ≡ AddressDevice s bsr c → ⊥) → ((s : ℕ) (dc : Bool) (c : ℕ) → d ≡ ConfigureEndpoint s dc c → ⊥) →
      ((s i p : ℕ) (cycle : Bool) → d ≡ SetTrDequeue s i p cycle → ⊥) → is_some (changed_by_all h d w (changes size memory n d)) ≡ true
  unfolding changes changed_by_all changed_by
  can_always d addresses configures moves = grind arith

-- what is read ends at or below 2^64, where the test of its end says so
not_past : (a : ℕ) → nat_lt (2 ^ 64) a ≡ false → a ≤ 2 ^ 64
not_past a e = ltb-false (2 ^ 64) a e

pub has_room : (h : Header) (c : Command) → passes_end h (named_context c) ≡ false → HasRoom h.context_size c
unfolding passes_end
has_room h (AddressDevice s bsr c) e = not_past (c + input_context_bytes h.context_size) e
has_room h (ConfigureEndpoint s false c) e = not_past (c + input_context_bytes h.context_size) e
has_room h _ e = tt

module _ (h : Header) (w : World) (n : ℕ) (c : Command) where
  -- a success does what its changes say
  pub success_changes : (final : World) → succeeded h w n (Some c) ≡ Some final → changed_by_all h c w (changes h.context_size w.memory n c) ≡ Some final
  unfolding succeeded effect
  success_changes final e = grind arith

pub record IsMade (o : Option World) : Type 0 where
  pub after : World
  pub is : o ≡ Some after

pub some_of : (o : Option World) → is_some o ≡ true → IsMade o
some_of o e = grind arith

pub none_of_test : (o : Option World) → is_some o ≡ false → o ≡ None
none_of_test o e = grind arith

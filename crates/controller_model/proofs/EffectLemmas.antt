-- What the success of each command leads to
use Rattle.controller_model.proofs.Words.{◌≡◌, ℕ, Option, Some, None, subst, same_Some, option_and_then, Command, slot_gone_on, Header, Kept, World, Follows}

-- the slot's state goes on
abbrev pub gone : Command → World → ℕ → World
gone d w s = record w { slot_state = slot_gone_on d w.slot_state s }

pub one : (o : Option World) (final : World) → option_and_then (λ v. Some v) o ≡ Some final → o ≡ Some final
one None final e = absurd (cc)
one (Some v) final e = e

-- what follows the world that a success leads to
pub onward : {h : Header} {words : ℕ → ℕ} {k : Kept} {v final : World} → Some v ≡ Some final → Follows h words k v → Follows h words k final
onward {h = h} {words = words} {k = k} e f = subst (Follows h words k) (same_Some _ _ e) f

-- The rule of a descriptor that is withdrawn, with what the trace's version refuses besides
use Rattle.std.specs.Prelude.{ℕ, ◌||◌, Bool}
use Rattle.traces.specs.declared.header.Header.{Header}
use Rattle.traces.specs.Header.{shape_of}
use Rattle.ring_knowledge.specs.Known.{Known}
use Rattle.ownership_rules.specs.Withdrawals.{is_bad_withdraw, is_passed}

module _ (h : Header) where
  unfoldable pub withdraws_badly : Known → ℕ → ℕ → Bool
  withdraws_badly k r p = is_passed h (shape_of h r) (k.ring r) p || is_bad_withdraw h k r p

use Rattle.driver_rows.proofs.Laws.{◌≡◌, ℕ, list_any, Header, Known, covers, entry_ranges, FollowsTrace, touches_entry, any_left}
use Rattle.driver_rows.proofs.context_rules.leases.touches_entries.Given as goal

-- the answer is that of the slots from this one on
abbrev pub invariant-loop-slot : goal.invariant-loop-slot
invariant-loop-slot l =
    (h : Header) (k : Known) (memory : ℕ → ℕ) → FollowsTrace h k l.t memory →
    list_any (covers h l.from l.len) (entry_ranges k) ≡ any_left (touches_entry k l.from l.len) l.slot 256

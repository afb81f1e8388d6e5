use Rattle.driver_rows.proofs.Words.{◌≡◌, ℕ, ◌-◌, ◌||◌, ◌<◌, ◌≤◌, true, list_any, range_with_len, has_flag, Known, FollowsDevices, is_left, has}
use Rattle.driver_rows.proofs.bindings.dropped.note_dropped.Given as goal

-- with those that are left it comes to the same
abbrev pub invariant-loop-index : goal.invariant-loop-index
invariant-loop-index l =
    (2 ≤ l.index) × (l.index < 32 → has_flag l.flags l.index ≡ true) ×
    ((k : Known) → FollowsDevices k l.devices → (r : ℕ) →
    (has l.rings r || list_any (λ i. is_left k l.flags l.slot i r) (range_with_len l.index (32 - l.index)))
    ≡ (has l.initial.rings r || list_any (λ i. is_left k l.flags l.slot i r) (range_with_len 2 30)))

abbrev pub decreases-loop-index : goal.decreases-loop-index
decreases-loop-index l = 32 - l.index

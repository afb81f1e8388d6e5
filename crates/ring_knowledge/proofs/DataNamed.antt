-- What an event names by a value
use Rattle.ring_knowledge.proofs.Words.{rules, ◌≡◌, ◌-◌, ◌<◌, ◌≤◌, ℕ, true, false, Option, Some, None, MatchOption, option_map, Data, RingView, declared, floor_number, data_at, has_value, named_data}
use Rattle.ring_knowledge.proofs.Ranges.{find_first, find_none}

-- the first position of a run, from the floor on up to what is declared, whose block has the value; none where no block of the run has it
pub data_named : (v : RingView) (value from end : ℕ) (r : Option ℕ) → from ≡ floor_number v → end ≡ declared v →
    MatchOption r ((p : ℕ) → from ≤ p → p < end → floor_number v ≤ p → has_value value (data_at v.queue p) ≡ false)
    (λ p. (from ≤ p) × (p < end) × (floor_number v ≤ p → has_value value (data_at v.queue p) ≡ true) × ((q : ℕ) → from ≤ q → q < p → floor_number v ≤ q → has_value value (data_at v.queue q) ≡ false)) →
    option_map Data r ≡ named_data v value
unfolding named_data
data_named v value from end None low high none = search (rules, option_map, find_none)
data_named v value from end (Some p) low high first =
    search (rules, option_map, find_first (λ q. has_value value (data_at v.queue q)) (floor_number v) (declared v - floor_number v) p)

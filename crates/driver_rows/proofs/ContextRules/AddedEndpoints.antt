-- A test of the endpoints that an input context adds: of those from 2 to 31 whose flag is set
use Rattle.driver_rows.proofs.LowerLaws.{◌≡◌, ℕ, Bool, ◌&&◌, list_any, range_with_len, added_endpoints, input_add_flag, any_filter, any_left}

pub any_added : (memory : ℕ → ℕ) (a : ℕ) (test : ℕ → Bool) → list_any test (added_endpoints memory a) ≡ any_left (λ i. input_add_flag memory a i && test i) 2 32
unfolding added_endpoints any_left
any_added memory a test = any_filter test (input_add_flag memory a) (range_with_len 2 30)

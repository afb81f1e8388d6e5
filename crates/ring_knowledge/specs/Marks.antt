-- Marks, one for each place of a ring, of what is given there
use Rattle.std.specs.Prelude.{◌≡◌, ℕ, ◌+◌, ◌<◌, ◌≤◌, length, ◌&&◌, ◌||◌, Bool, false, List, slice_index_or, nat_lt}

-- number n, which has the mark i, is given: it lies below the least due one, or it is due and its mark is set
unfoldable pub is_noted : ℕ → ℕ → List Bool → ℕ → ℕ → Bool
is_noted least count marks i n = nat_lt n least || (nat_lt n (least + count) && slice_index_or marks i false)

-- the marks of the numbers from one to another are cleared, and all others kept; R says which mark a number has
pub record AreCleared (R : ℕ → ℕ → Type 0) (old new : List Bool) (from to : ℕ) : Type 0 where
  pub as_many : length new ≡ length old
  pub cleared : (n i : ℕ) → from ≤ n → n < to → R n i → slice_index_or new i false ≡ false
  pub kept : (i : ℕ) → ((n : ℕ) → from ≤ n → n < to → R n i → ⊥) → slice_index_or new i false ≡ slice_index_or old i false

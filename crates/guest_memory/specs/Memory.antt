-- Memory as a function from addresses to words, and functions changed at one place
use Rattle.std.specs.Prelude.{ℕ, ◌+◌, ◌*◌, ◌^◌, ◌==◌, ◌&&◌, if◌then◌else◌}

-- f with x at n: the one way in which memory changes
abbrev pub put : {A : Type 0} → (ℕ → A) → ℕ → A → ℕ → A
put f n x m = if m == n then x else f m

-- f with x at the pair s, i
abbrev pub put_pair : {A : Type 0} → (ℕ → ℕ → A) → ℕ → ℕ → A → ℕ → ℕ → A
put_pair f s i x t j = if t == s && j == i then x else f t j

-- the 64-bit number at an address: two words, the lower one first
abbrev pub long_at : (ℕ → ℕ) → ℕ → ℕ
long_at memory a = memory a + 2 ^ 32 * memory (a + 4)

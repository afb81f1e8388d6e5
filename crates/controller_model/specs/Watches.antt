-- What is kept of words that are watched
use Rattle.std.specs.Prelude.{ℕ, ◌+◌, ◌-◌, ◌*◌, ◌/◌, ◌==◌, ◌&&◌, ◌||◌, Bool, nat_le, nat_lt}
use Rattle.std.specs.List.{list_any, range_with_len}

-- one of so many words from an address on was changed after the control word of a block was last written
abbrev pub is_changed_behind : (changed written : ℕ → ℕ) (block first words : ℕ) → Bool
is_changed_behind changed written block first words = list_any (λ i. nat_lt (written (block + 12)) (changed (first + 4 * i))) (range_with_len 0 words)

-- a write of a word is one of the control word, or changes a word that is watched
abbrev pub may_touch : (block first words at : ℕ) → Bool → Bool
may_touch block first words at is_changed =
    (nat_le 12 at && at - 12 == block) || (is_changed && (nat_le first at && nat_lt ((at - first) / 4) words))

-- Which numbers have a type with a name
use Rattle.trb.proofs.Words.{◌≡◌, ℕ, Bool, true, false, not, ◌&&◌, ◌||◌, ◌==◌, nat_le, ap, inl, inr, refl, ◌∙◌, agree_below_at, cases_lt, eqb-true, get_or_past, BlockKind, Unknown, kinds, kind_numbered}

abbrev pub is_unknown : BlockKind → ℕ → Bool
is_unknown (Unknown m) n = m == n
is_unknown _ n = false

pub is_unknown-true : (k : BlockKind) (n : ℕ) → is_unknown k n ≡ true → k ≡ Unknown n
is_unknown-true (Unknown m) n h = ap Unknown (eqb-true m n h)
is_unknown-true _ n h = cc

-- the numbers of the types with a name
abbrev pub is_named : ℕ → Bool
is_named n = (nat_le 1 n && nat_le n 17) || n == 23 || (nat_le 32 n && nat_le n 39)

pub kind_numbered-unnamed : (n : ℕ) → is_named n ≡ false → kind_numbered n ≡ Unknown n
kind_numbered-unnamed n h =
    elim (cases_lt n 40) [
      | inl below ↦
          is_unknown-true (kind_numbered n) n
          (agree_below_at (λ m. is_unknown (kind_numbered m) m) (λ m. not (is_named m)) 40 n refl below ∙ ap not h)
      | inr past ↦ get_or_past kinds n (Unknown n) past
    ]

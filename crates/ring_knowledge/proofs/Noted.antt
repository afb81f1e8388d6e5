-- Which numbers a list of marks notes as given
use Rattle.ring_knowledge.proofs.LowerLaws.{◌≡◌, ◌+◌, ◌<◌, ◌≤◌, ◌==◌, ◌||◌, ℕ, List, Bool, true, false, refl, arith, length, get_or, set, lt-ltb, le-ltb, eq-eqb, ne_eqb, get_or-set_same, get_or-set_other, cases_lt, is_noted, rules, or_false}

pub or_true : (b : Bool) → (b || true) ≡ true
or_true b = grind arith

-- what isn't true is false
pub false_unless : (b : Bool) → (b ≡ true → ⊥) → b ≡ false
false_unless b h = grind arith

module _ (least count : ℕ) (marks : List Bool) (i n : ℕ) where
  -- below the least due one
  pub noted_below : n < least → is_noted least count marks i n ≡ true
  unfolding is_noted
  noted_below h = rw (lt-ltb n least h) refl

  -- a due one
  pub noted_due : least ≤ n → n < least + count → is_noted least count marks i n ≡ get_or marks i false
  unfolding is_noted
  noted_due low high = rw (le-ltb n least low, lt-ltb n (least + count) high) refl

  -- one that isn't due yet
  pub noted_past : least + count ≤ n → is_noted least count marks i n ≡ false
  unfolding is_noted
  noted_past h = rw (le-ltb n least (omega arith), le-ltb n (least + count) h) refl

  -- so a noted one lies below these
  pub noted_within : is_noted least count marks i n ≡ true → n < least + count
  noted_within h = search (rules, cases_lt, noted_past)

-- one mark more notes the due number that has it, and no other
pub noted_more : (least count : ℕ) (marks : List Bool) (i j n m : ℕ) → least ≤ m → m < least + count → j < length marks →
    (n ≡ m → i ≡ j) → (least ≤ n → n < least + count → i ≡ j → n ≡ m) →
    is_noted least count (set marks j true) i n ≡ (is_noted least count marks i n || (n == m))
noted_more least count marks i j n m low high inside same only = grind (arith, set, cases_lt, noted_below, ne_eqb, noted_past, noted_due, eq-eqb, get_or-set_same, or_true, get_or-set_other, or_false)

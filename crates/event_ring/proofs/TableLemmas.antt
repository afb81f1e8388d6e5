-- The segment table, entry by entry
use Rattle.event_ring.proofs.Words.{◌≡◌, ◌+◌, ◌*◌, ◌/◌, ◌%◌, ◌^◌, ◌<◌, ◌==◌, ◌&&◌, ◌∙◌, ℕ, Bool, true, false, not, List, length, ap, arith, refl, drop, get_or, at_drop_more, long_at, Segment, lists}

not_all : (a b rest : Bool) → not (a && b) ≡ true → (a && b && rest) ≡ false
not_all true true rest h = cc
not_all true false rest h = refl
not_all false b rest h = refl

rest_alone : (a b rest : Bool) → not (a && b) ≡ false → (a && b && rest) ≡ rest
rest_alone true true rest h = refl
rest_alone true false rest h = cc
rest_alone false b rest h = cc

module _ (memory : ℕ → ℕ) (base i : ℕ) (ss : List Segment) (d entry : Segment) (inside : i < length ss)
    (entry_base : entry.base ≡ long_at memory (base + 16 * i) / 64 * 64)
    (entry_count : entry.count ≡ memory (base + 16 * i + 8) % 2 ^ 16) where
  abbrev same_base : Bool
  same_base = long_at memory (base + 16 * i) / 64 * 64 == (get_or ss i d).base

  abbrev same_count : Bool
  same_count = memory (base + 16 * i + 8) % 2 ^ 16 == (get_or ss i d).count

  abbrev rest_listed : Bool
  rest_listed = lists memory (base + 16 * i + 16) (drop (i + 1) ss)

  -- entry i, read from memory, names another segment than segment i
  pub lists_other : not (entry.base == (get_or ss i d).base && entry.count == (get_or ss i d).count) ≡ true →
      lists memory (base + 16 * i) (drop i ss) ≡ false
  lists_other other =
      at_drop_more (λ rest. lists memory (base + 16 * i) rest) ss i d inside
      ∙ not_all same_base same_count rest_listed (rw (entry_base, entry_count) at other)

  next : base + 16 * i + 16 ≡ base + 16 * (i + 1)
  next = omega arith

  -- it names segment i
  pub lists_next : not (entry.base == (get_or ss i d).base && entry.count == (get_or ss i d).count) ≡ false →
      lists memory (base + 16 * i) (drop i ss) ≡ lists memory (base + 16 * (i + 1)) (drop (i + 1) ss)
  lists_next same =
      at_drop_more (λ rest. lists memory (base + 16 * i) rest) ss i d inside
      ∙ rest_alone same_base same_count rest_listed (rw (entry_base, entry_count) at same)
      ∙ ap (λ a. lists memory a (drop (i + 1) ss)) next

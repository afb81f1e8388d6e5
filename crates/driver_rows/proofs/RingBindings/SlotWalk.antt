-- The unfinished commands slot by slot
use Rattle.driver_rows.proofs.LowerLaws.{rules, ◌≡◌, ℕ, ◌+◌, ◌<◌, ◌&&◌, ◌||◌, Bool, true, false, List, [], ◌∷◌, Option, Some, None, refl, ap, sym, ◌∙◌, arith, is_some, IfSome, option_and_then, slice_get, cons_option, filter_map, list_any, and_parts, false≢true, nat_tests, Block, BlockKind, slot, Command, command_by_kind, command_of, named_slot, Header, command_id, Known, command_at, unfinished, unfinished_positions, IsOnlyAbout, index_of, is_about, is_slot, names, as_list, is_below, names_below, any_same, any_or, or_none}

-- ---- a command that a block says names a slot below 256

abbrev IsSlot : Option ℕ → Type 0
IsSlot None = Unit {0}
IsSlot (Some s) = s < 256

abbrev HasSlot : Option Command → Type 0
HasSlot None = Unit {0}
HasSlot (Some c) = IsSlot (named_slot c)

slot_fits : (b : Block) → slot b < 256
slot_fits b = omega arith

of_kind : (n : BlockKind) (b : Block) → HasSlot (command_by_kind n b)
of_kind n b = search (rules, slot_fits)

of_block : (b : Block) → HasSlot (command_of b)
of_block b = search (rules, of_kind)

of_declared : (o : Option Block) → HasSlot (option_and_then command_of o)
of_declared o = search (rules, of_block)

has_slot : (h : Header) (k : Known) (n : ℕ) → HasSlot (command_at h k n)
unfolding command_at
has_slot h k n = of_declared (slice_get (k.ring (command_id h)).queue n)

-- what holds of the command, if there is one
pub named_here : (o : Option Command) (c : Command) (P : Command → Type 0) → o ≡ Some c → IfSome o P → P c
named_here o c P e f = search rules

module _ (p : Command → Bool) where
  step_at : (n : ℕ) (o : Option ℕ) (b : Bool) → (is_below (n + 1) o && b) ≡ ((is_below n o && b) || (is_slot n o && b))
  step_at n o b = search (rules, nat_tests)

  -- of no slot at first, and of one slot more
  pub below_none : (all : List Command) → list_any (names_below p 0) all ≡ false
  below_none [] = refl
  below_none (c ∷ all) = search (rules, nat_tests, below_none all)

  pub below_next : (n : ℕ) (all : List Command) → list_any (names_below p (n + 1)) all ≡ (list_any (names_below p n) all || list_any (λ c. names n c && p c) all)
  below_next n all = any_same _ _ all (λ c. step_at n (named_slot c) (p c)) ∙ any_or (names_below p n) (λ c. names n c && p c) all

  -- one of the slot's passes
  pub passes_below : (n : ℕ) (all : List Command) → list_any (λ c. names n c && p c) all ≡ true → list_any p all ≡ true
  passes_below n [] e = absurd (false≢true e)
  passes_below n (c ∷ all) e = search (rules, passes_below n all)

  -- at the end of all, where each command that passes names a slot
  module _ (named : (c : Command) → p c ≡ true → is_some (named_slot c) ≡ true) where
    here : (c : Command) (o : Option ℕ) (b : Bool) → IsSlot o → (b ≡ true → is_some o ≡ true) → (is_below 256 o && b) ≡ b
    here c o b e f = search (rules, nat_tests)

    each : (o : Option Command) (xs : List Command) → HasSlot o → list_any (names_below p 256) xs ≡ list_any p xs →
        list_any (names_below p 256) (cons_option o xs) ≡ list_any p (cons_option o xs)
    each o xs e f = search (rules, here)

    walk : (f : ℕ → Option Command) → ((n : ℕ) → HasSlot (f n)) → (ps : List ℕ) → list_any (names_below p 256) (filter_map f ps) ≡ list_any p (filter_map f ps)
    walk f has [] = refl
    walk f has (n ∷ ps) = each (f n) (filter_map f ps) (has n) (walk f has ps)

    pub below_all : (h : Header) (k : Known) → list_any (names_below p 256) (unfinished h k) ≡ list_any p (unfinished h k)
    unfolding unfinished
    below_all h k = walk (command_at h k) (has_slot h k) (unfinished_positions h k)

  -- what `of_slot` ensures
  abbrev pub Answers : ℕ → List Command → Option Command → Type 0
  Answers s all o = (q : Command → Bool) → IsOnlyAbout s 0 q → list_any q (as_list o) ≡ list_any q all

  -- a command that passes names no endpoint
  module _ (whole : (c : Command) → p c ≡ true → index_of c ≡ 0) where
    only_named : (s : ℕ) → IsOnlyAbout s 0 (λ c. names s c && p c)
    only_named s c e = search (rules, and_parts)

    pub of_none : (s : ℕ) (all : List Command) (o : Option Command) → o ≡ None → Answers s all o → list_any (λ c. names s c && p c) all ≡ false
    of_none s all o is answers = sym (answers (λ c. names s c && p c) (only_named s)) ∙ ap (λ x. list_any (λ c. names s c && p c) (as_list x)) is

    pub of_some : (s : ℕ) (all : List Command) (o : Option Command) (c : Command) → o ≡ Some c → is_about s 0 c ≡ true → Answers s all o →
        list_any (λ c. names s c && p c) all ≡ p c
    of_some s all o c is at answers = search (rules, only_named, and_parts, or_none)

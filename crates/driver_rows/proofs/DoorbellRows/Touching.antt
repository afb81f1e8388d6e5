-- Which endpoints an unfinished command may change
use Rattle.driver_rows.proofs.Words.{rules, common_steps, ◌≡◌, ℕ, zero, suc, ◌+◌, ◌<◌, ◌≤◌, ◌%◌, ◌^◌, List, Bool, true, false, Option, Some, None, ap, sym, ◌∙◌, arith, get_or, ◌==◌, ◌&&◌, ◌||◌, not, nat_le, nat_lt, map, All, IfSome, list_any, range_with_len, lt-ltb, and_parts, nat_tests, list_any_none, ContextSize, added_endpoints, input_add_flag, input_drop_flag, input_context_bytes, Command, ConfigureEndpoint, named_context, placed_by_context, changes, Header, Known, unfinished, and_false, any_map, any_filter, any_nowhere, IsOnlyAbout, is_about, FollowsUnfinished, as_list, UnfinishedCommands, any_either, any_same, touched_about, is_touched, touches_endpoint, FitsMemory}
use Rattle.commands.specs.Changes.{touches}

-- ---- an input context

-- of the numbers from a on one passes a test
any_from : (g : ℕ → Bool) (i a n : ℕ) → list_any (λ j. g j && i == j) (range_with_len a n) ≡ (nat_le a i && nat_lt i (a + n) && g i)
any_from g i a zero = grind (arith, nat_tests)
any_from g i a (suc n) = search (rules, nat_tests, and_false, any_from g i (a + 1) n)

-- the endpoints that it adds
pub added_any : (size : ContextSize) (m : ℕ → ℕ) (s t c i : ℕ) → i < 32 →
    list_any (touches s i) (map (placed_by_context size m t c) (added_endpoints m c)) ≡ (s == t && (nat_le 2 i && input_add_flag m c i))
unfolding added_endpoints
added_any size m s t c i below =
    any_map (touches s i) (placed_by_context size m t c) (added_endpoints m c)
    ∙ any_filter (λ j. s == t && i == j) (input_add_flag m c) (range_with_len 2 30)
    ∙ by (s == t)
  where
    by : (b : Bool) → list_any (λ j. input_add_flag m c j && (b && i == j)) (range_with_len 2 30) ≡ (b && (nat_le 2 i && input_add_flag m c i))
    by true = search (rules, any_from (input_add_flag m c) i 2 30, lt-ltb i 32 below)
    by false = any_nowhere (λ j. input_add_flag m c j && (false && i == j)) (λ j. and_false (input_add_flag m c j)) (range_with_len 2 30)

-- those that a Configure Endpoint with this context drops or adds
pub configured_any : (size : ContextSize) (m : ℕ → ℕ) (s t c i : ℕ) (d : Bool) → i < 32 →
    list_any (touches s i) (changes size m 0 (ConfigureEndpoint t d c)) ≡ (s == t && (nat_le 2 i && (d || (input_drop_flag m c i || input_add_flag m c i))))
unfolding changes
configured_any size m s t c i d e = grind (arith, common_steps, added_any)

-- the context of a Configure Endpoint ends within the address space
pub configured_fits : (size : ContextSize) (c : Command) (t a : ℕ) (d : Bool) → c ≡ ConfigureEndpoint t d a → FitsMemory size c → d ≡ false → (a % 4 ≡ 0) × (a + input_context_bytes size ≤ 2 ^ 64)
configured_fits size c t a d is fits off = fits a (ap named_context (is ∙ ap (λ b. ConfigureEndpoint t b a) off))

-- ---- the unfinished commands of a slot and an endpoint

abbrev fits_at : ContextSize → Option ℕ → Bool
fits_at size None = true
fits_at size (Some a) = a % 4 == 0 && nat_le (a + input_context_bytes size) (2 ^ 64)

fits_true : (size : ContextSize) (o : Option ℕ) → ((a : ℕ) → o ≡ Some a → (a % 4 ≡ 0) × (a + input_context_bytes size ≤ 2 ^ 64)) → fits_at size o ≡ true
fits_true size o e = search rules

true_fits : (size : ContextSize) (o : Option ℕ) → fits_at size o ≡ true → (a : ℕ) → o ≡ Some a → (a % 4 ≡ 0) × (a + input_context_bytes size ≤ 2 ^ 64)
true_fits size o e a f = search (rules, and_parts)

abbrev misfits : ContextSize → ℕ → ℕ → Command → Bool
misfits size s i d = is_about s i d && not (fits_at size (named_context d))

-- what is kept of this among the unfinished commands, if anything is
pub record IsThat (s i : ℕ) (all : List Command) (o : Option Command) : Type 0 where
  pub named : IfSome o (λ c. is_about s i c ≡ true)
  pub one : (p : Command → Bool) → IsOnlyAbout s i p → list_any p (as_list o) ≡ list_any p all

pub that_is : (s i : ℕ) (all : List Command) (u : UnfinishedCommands) (o : Option Command) → FollowsUnfinished all u →
    ((all : List Command) (p : Command → Bool) → FollowsUnfinished all u → IsOnlyAbout s i p → list_any p (as_list o) ≡ list_any p all) →
    IfSome o (λ c. (all : List Command) → FollowsUnfinished all u → is_about s i c ≡ true) → IsThat s i all o
that_is s i all u None f one named = record { named = tt; one = λ p only. one all p f only }
that_is s i all u (Some c) f one named = record { named = named all f; one = λ p only. one all p f only }

-- what each unfinished command names ends within the address space, also what that of a slot or an endpoint names
pub named_fits : (size : ContextSize) (s i : ℕ) (all : List Command) (o : Option Command) → All (FitsMemory size) all → IsThat s i all o → IfSome o (FitsMemory size)
named_fits size s i all None each that = tt
named_fits size s i all (Some c) each that =
    true_fits size (named_context c) (grind (arith, that.named, that.one (misfits size s i) (λ d e. (and_parts (is_about s i d) (not (fits_at size (named_context d))) e).0), none))
  where
    none : list_any (misfits size s i) all ≡ false
    none = list_any_none (misfits size s i) all (λ k d below. search (rules, and_false, fits_true size (named_context (get_or all k d)) (each k d below)))

module _ (s : ℕ) (all : List Command) (p : Command → Bool) where
  abbrev with_test : ℕ → Command → Bool
  with_test j c = is_about s j c && p c

  only_with : (j : ℕ) → IsOnlyAbout s j (with_test j)
  only_with j c e = (and_parts (is_about s j c) (p c) e).0

  -- what holds of the one that is kept of this
  of_one : (j : ℕ) (o : Option Command) → IsThat s j all o → list_any p (as_list o) ≡ list_any (with_test j) all
  of_one j o that = search (rules, only_with)

  -- what holds of commands alone that are about the slot as a whole or an endpoint holds of one of the two
  of_two : (i : ℕ) (slots endpoints : Option Command) → ((c : Command) → p c ≡ true → (is_about s 0 c || is_about s i c) ≡ true) →
      IsThat s 0 all slots → IsThat s i all endpoints → (list_any p (as_list slots) || list_any p (as_list endpoints)) ≡ list_any p all
  of_two i slots endpoints only of_slot of_endpoint =
      (λ j. of_one 0 slots of_slot j || of_one i endpoints of_endpoint j)
      ∙ sym (any_either (with_test 0) (with_test i) all)
      ∙ any_same (λ c. with_test 0 c || with_test i c) p all (λ c. by (is_about s 0 c) (is_about s i c) (p c) (only c))
    where
      by : (x y b : Bool) → (b ≡ true → (x || y) ≡ true) → ((x && b) || (y && b)) ≡ b
      by x y b only = search rules

-- of the unfinished commands those of the slot as a whole and of the endpoint alone can touch it
pub touched_is : (h : Header) (k : Known) (s i : ℕ) (slots endpoints : Option Command) → IsThat s 0 (unfinished h k) slots → IsThat s i (unfinished h k) endpoints →
    (list_any (touches_endpoint h k s i) (as_list slots) || list_any (touches_endpoint h k s i) (as_list endpoints)) ≡ is_touched h k s i
unfolding is_touched touches_endpoint
touched_is h k s i slots endpoints = of_two s (unfinished h k) (touches_endpoint h k s i) i slots endpoints (touched_about h.context_size k.memory s i 0)

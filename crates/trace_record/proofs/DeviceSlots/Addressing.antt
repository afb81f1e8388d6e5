-- The Address Device commands among the unfinished ones, counted by slot
use Rattle.trace_record.proofs.BaseWords.{rules, common_steps, ◌≡◌, ◌<◌, ◌≤◌, ◌&&◌, ◌∙◌, ◌∷◌, if◌then◌else◌, ℕ, suc, Bool, true, List, [], Option, Some, ap, sym, refl, arith, inl, inr, length, get_or, nat_lt, filter, le-ltb, lt-ltb, eq-eqb, list_any, sum_by, cases_Bool, cases_lt, and_parts, false≢true, sum_by-le, sum_by-cons, Command, AddressDevice, KeptCommand, UnfinishedCommands, addressing_count, is_address_device, is_addressing, FollowsUnfinished, as_list, is_about, kept_of, no_command}
use Rattle.trace_record.proofs.DeviceSlots.NamedCommands.{found_about}

-- ---- how many there are

pub at_most_one : (b : Bool) → (if b then 1 else 0) ≤ 1
at_most_one b = search rules

-- no more than slots
pub few_addressing : (xs : List KeptCommand) → length xs ≡ 256 → sum_by addressing_count xs ≤ 256
few_addressing xs many = omega (arith, sum_by-le addressing_count 1 xs (λ k d below. at_most_one (is_addressing (get_or xs k d).command)), many)

-- one is counted, and where one is counted there is one
counted_at : (xs : List KeptCommand) (s : ℕ) → is_addressing (get_or xs s no_command).command ≡ true → 0 < sum_by addressing_count xs
counted_at xs s h1 = grind (arith, common_steps, false≢true, sum_by-cons, addressing_count, is_addressing)

counted_where : (xs : List KeptCommand) → 0 < sum_by addressing_count xs → (s : ℕ) × (is_addressing (get_or xs s no_command).command ≡ true)
counted_where [] some = absurd (omega (arith, some))
counted_where (x ∷ xs) some = elim (cases_Bool (is_addressing x.command)) [
  | inl here ↦ (0, here)
  | inr later ↦ let rest = counted_where xs (grind (arith, some, sum_by-cons addressing_count x xs, later)) in (suc rest.0, rest.1)
]

-- ---- in a list of commands

-- one that passes a test
pub any_gives : {X : Type 0} (p : X → Bool) (xs : List X) → list_any p xs ≡ true → (x : X) × (p x ≡ true) × ((q : X → Bool) → q x ≡ true → list_any q xs ≡ true)
any_gives p [] e = absurd (false≢true e)
any_gives p (x ∷ xs) e = search (rules, cases_Bool (p x), list_any, any_gives p xs)

any_left : {X : Type 0} (p q : X → Bool) (xs : List X) → list_any p (filter q xs) ≡ true → list_any p xs ≡ true
any_left p q [] e = e
any_left p q (x ∷ xs) e = search (rules, list_any, filter, any_left p q xs)

pub first_passes : {X : Type 0} (q : X → Bool) (xs : List X) (y : X) (zs : List X) → filter q xs ≡ y ∷ zs → q y ≡ true
first_passes q [] y zs e = absurd (cc)
first_passes q (x ∷ xs) y zs e = search (rules, filter, first_passes q xs y zs)

-- ---- the unfinished commands

module _ (u : UnfinishedCommands) (all : List Command) (f : FollowsUnfinished all u) where
  -- the command that is kept of an index is about it
  pub kept_names : (s i : ℕ) (c : Command) → kept_of u s i ≡ Some c → is_about s i c ≡ true
  kept_names s i c kept = first_passes (is_about s i) all c [] (f.each s i ∙ ap as_list kept)

  in_kept : (s : ℕ) (o : Option Command) → list_any (λ d. is_about s 0 d && is_address_device d) (as_list o) ≡ true → is_addressing o ≡ true
  in_kept s o h1 = search (rules, false≢true, and_parts, is_about, is_address_device)

  -- an Address Device is kept of its slot as a whole
  kept_of_command : (c : Command) → is_address_device c ≡ true → ((q : Command → Bool) → q c ≡ true → list_any q all ≡ true) → (s : ℕ) × (is_addressing (kept_of u s 0) ≡ true)
  kept_of_command (AddressDevice s bsr n) is holds =
      let about = λ (d : Command). is_about s 0 d && is_address_device d in
      (s, in_kept s _ (found_about u all f s 0 about (λ d e. (and_parts _ _ e).0) ∙ holds about (ap (λ b. (b && true) && true) (eq-eqb s s refl))))
  kept_of_command _ is holds = absurd (false≢true is)

  -- an Address Device is among them exactly if one is counted
  pub addressing_is : nat_lt 0 (sum_by addressing_count u.by_slot.items) ≡ list_any is_address_device all
  addressing_is = elim (cases_lt 0 (sum_by addressing_count u.by_slot.items)) [
    | inl some ↦
        let there = counted_where u.by_slot.items some in
        lt-ltb 0 (sum_by addressing_count u.by_slot.items) some ∙ sym (search (rules, false≢true, any_left is_address_device (is_about there.0 0) all, f.each there.0 0, as_list, list_any))
    | inr none ↦
        search (rules, le-ltb 0 (sum_by addressing_count u.by_slot.items) none, cases_Bool (list_any is_address_device all), any_gives is_address_device all, kept_of_command, counted_at)
  ]

-- Which of the unfinished commands are about a slot or an endpoint
use Rattle.trace_record.proofs.UpperLaws.{rules, ◌≡◌, ◌<◌, ◌+◌, ◌*◌, ◌++◌, ◌||◌, if◌then◌else◌, ◌∙◌, ◌∷◌, ℕ, not, Bool, true, false, List, [], Option, Some, None, All, All-head, All-nil, All-tail, ap, sym, subst, refl, replicate, filter, nat_lt, slice_index_or, is_some, eqb-true, eq-eqb, ne_eqb, lt-ltb, le-ltb, cases_lt, list_any, filter-append, and_parts, or_parts, cases_eq, false≢true, Command, exclude, ◌==◌, name_one_slot, named_endpoint, named_slot, other_endpoint, same_slot, UnfinishedCommands, FollowsUnfinished, IsOnlyAbout, NamesEndpoint, as_list, endpoint_index, index_of, is_about, is_slot, endpoint_count, kept_at, kept_of, names, no_command, alike, all_back, all_with, all_without, alone, any_either, any_filtered, any_more, any_one, any_same, any_same_of, none_passes, not_empty, only_left, cases_Bool}
use Rattle.trace_record.proofs.DeviceSlots.EndpointCounts.{count_none, count_where}
use Rattle.trace_record.proofs.DeviceSlots.AtMostOne.{any_none}
use Rattle.commands.specs.Command.{exclude_by_slot}
use Rattle.commands.specs.SideBySide.{concerns, concerns_named}
use Rattle.commands.specs.declared.command.Command.TheVariants.{ConfigureEndpoint, ResetEndpoint, StopEndpoint, SetTrDequeue}
use Rattle.std.proofs.lemmas.Bool.{false_from_ne_true}

-- with an element in a list that has at most one, none is left without it
none_left : (xs ys : List Command) (c : Command) (o : Option Command) → xs ++ c ∷ ys ≡ as_list o → xs ++ ys ≡ []
none_left xs ys c o h1 = search (rules, not_empty, only_left)

-- ---- two commands of one slot

-- an endpoint that a command names is of the slot that it names
abbrev IsOfSlot : Option ℕ → Option (ℕ × ℕ) → Type 0
IsOfSlot o None = Unit {0}
IsOfSlot o (Some e) = o ≡ Some e.0

of_slot : (c : Command) → IsOfSlot (named_slot c) (named_endpoint c)
of_slot c = search rules

same_named : (c d : Command) (s : ℕ) → named_slot c ≡ Some s → name_one_slot c d ≡ names s d
same_named c d s named = search (rules, same_slot, named_slot, is_slot)

-- a command is about what it names
concerns_own : (memory : ℕ → ℕ) (c : Command) → concerns memory c (index_of c) ≡ true
concerns_own memory (ResetEndpoint t j) = eq-eqb j j refl
concerns_own memory (StopEndpoint t j) = eq-eqb j j refl
concerns_own memory (SetTrDequeue t j p cycle) = eq-eqb j j refl
concerns_own memory (ConfigureEndpoint t true x) = refl
concerns_own memory (ConfigureEndpoint t false x) = refl
concerns_own memory _ = refl

named_alike : (memory : ℕ → ℕ) (c d : Command) (o : Option (ℕ × ℕ)) → named_endpoint d ≡ o → index_of d ≡ index_of c → concerns_named memory c o ≡ true
named_alike memory c d None at same = refl
named_alike memory c d (Some e) at same = ap (concerns memory c) (sym (ap endpoint_index at) ∙ same) ∙ concerns_own memory c

-- two commands that are about the same exclude each other
about_excludes : (memory : ℕ → ℕ) (s i : ℕ) (c d : Command) → is_about s i c ≡ true → is_about s i d ≡ true → exclude memory c d ≡ true
about_excludes memory s i c d here there =
    let p = and_parts (names s c) (index_of c == i) here in
    let q = and_parts (names s d) (index_of d == i) there in
    let one : index_of c ≡ i = eqb-true (index_of c) i p.1 in
    let two : index_of d ≡ i = eqb-true (index_of d) i q.1 in
    rw (slots_alike s c d p.0 q.0, named_alike memory c d (named_endpoint d) refl (two ∙ sym one), named_alike memory d c (named_endpoint c) refl (one ∙ sym two)) refl
  where
    slots_alike : (s : ℕ) (c d : Command) → names s c ≡ true → names s d ≡ true → name_one_slot c d ≡ true
    slots_alike s c d here there = search (rules, same_slot, named_slot, is_slot, eqb-true, eq-eqb, false≢true)

-- where nothing excludes a command, nothing else is about the same
none_about : (memory : ℕ → ℕ) (s i : ℕ) (c : Command) (all : List Command) → is_about s i c ≡ true → list_any (exclude memory c) all ≡ false → filter (is_about s i) all ≡ []
none_about memory s i c [] is free = refl
none_about memory s i c (d ∷ rest) is free =
    let p = or_parts (exclude memory c d) (list_any (exclude memory c) rest) free in
    let other : is_about s i d ≡ false = false_from_ne_true (is_about s i d) (λ same. false≢true (sym p.0 ∙ about_excludes memory s i c d is same)) in
    rw other (none_about memory s i c rest is p.1)

-- ---- one command more, or one less

module _ (s i : ℕ) (c : Command) (xs ys : List Command) where
  parts : filter (is_about s i) (xs ++ c ∷ ys) ≡ filter (is_about s i) xs ++ (if is_about s i c then c ∷ filter (is_about s i) ys else filter (is_about s i) ys)
  parts = filter-append (is_about s i) xs (c ∷ ys)

  -- a command is added, or taken away: b says whether it is about this
  added : (memory : ℕ → ℕ) (b : Bool) (o : Option Command) → is_about s i c ≡ b → list_any (exclude memory c) (xs ++ ys) ≡ false → filter (is_about s i) (xs ++ ys) ≡ as_list o →
      filter (is_about s i) xs ++ (if b then c ∷ filter (is_about s i) ys else filter (is_about s i) ys) ≡ as_list (if b then Some c else o)
  added memory b o h1 h2 h3 = search (rules, alone, filter, is_about, filter-append, none_about)

  taken : (b : Bool) (o : Option Command) → filter (is_about s i) xs ++ (if b then c ∷ filter (is_about s i) ys else filter (is_about s i) ys) ≡ as_list o →
      filter (is_about s i) (xs ++ ys) ≡ as_list (if b then None else o)
  taken b o old = search (rules, cases_Bool b, filter-append (is_about s i) xs ys, none_left (filter (is_about s i) xs) (filter (is_about s i) ys) c o, is_about)

module _ (old new : UnfinishedCommands) (c : Command) (xs ys : List Command) where
  -- what `keep` ensures
  abbrev pub IsKept : Option Command → Type 0
  IsKept o = (s i : ℕ) → kept_of new s i ≡ (if is_about s i c then o else kept_of old s i)

  pub follows_given : (memory : ℕ → ℕ) → NamesEndpoint c → IsKept (Some c) → list_any (exclude memory c) (xs ++ ys) ≡ false → FollowsUnfinished (xs ++ ys) old → FollowsUnfinished (xs ++ c ∷ ys) new
  follows_given memory endpoint kept free f = record {
    each = λ s i. parts s i c xs ys ∙ added s i c xs ys memory (is_about s i c) (kept_of old s i) refl free (f.each s i) ∙ ap as_list (sym (kept s i));
    endpoints = search (rules, all_with NamesEndpoint xs ys c, f.endpoints);
  }

  pub follows_finished : IsKept None → FollowsUnfinished (xs ++ c ∷ ys) old → FollowsUnfinished (xs ++ ys) new
  follows_finished kept f =
      record { each = λ s i. search (rules, taken s i c xs ys (is_about s i c) (kept_of old s i), parts, f.each, kept s i); endpoints = all_without NamesEndpoint xs ys c f.endpoints }

-- the command in the midst of these names an endpoint that a slot has
pub endpoint_of : (u : UnfinishedCommands) (c : Command) (xs ys : List Command) → FollowsUnfinished (xs ++ c ∷ ys) u → NamesEndpoint c
endpoint_of u c xs ys f = All-head NamesEndpoint c ys (all_back NamesEndpoint xs (c ∷ ys) f.endpoints)

-- ---- what is asked of them

module _ (u : UnfinishedCommands) (all : List Command) (f : FollowsUnfinished all u) where
  -- what holds of commands alone that are about this
  pub found_about : (s i : ℕ) (p : Command → Bool) → IsOnlyAbout s i p → list_any p (as_list (kept_of u s i)) ≡ list_any p all
  found_about s i p only = ap (list_any p) (sym (f.each s i)) ∙ any_filtered p (is_about s i) all only

  -- something is kept exactly where a command is about it
  pub kept_about : (s i : ℕ) → is_some (kept_of u s i) ≡ list_any (is_about s i) all
  kept_about s i = search (rules, kept_of, filter, is_about, as_list, is_some, list_any, any_none, any_one)

  -- by its slot a command that names an endpoint is excluded by one that names the slot alone, or the same endpoint
  pub excluded_by : (c : Command) (s i : ℕ) → named_endpoint c ≡ Some (s, i) → (list_any (is_about s 0) all || list_any (is_about s i) all) ≡ list_any (exclude_by_slot c) all
  excluded_by c s i named =
      sym (any_either (is_about s 0) (is_about s i) all)
      ∙ any_same_of NamesEndpoint (λ d. is_about s 0 d || is_about s i d) (exclude_by_slot c) all f.endpoints (λ d fits. sym (each d fits))
    where
      slot : named_slot c ≡ Some s
      slot = subst (IsOfSlot (named_slot c)) named (of_slot c)

      each : (d : Command) → NamesEndpoint d → exclude_by_slot c d ≡ (is_about s 0 d || is_about s i d)
      each d fits = search (rules, cases_Bool (names s d), not, other_endpoint, named_endpoint, same_named, slot, names, index_of, named_slot, of_slot)

  -- a command that names none is excluded by any of its slot
  pub excluded_by_any : (c : Command) → named_endpoint c ≡ None → list_any (name_one_slot c) all ≡ list_any (exclude_by_slot c) all
  excluded_by_any c named = search (rules, any_same, name_one_slot, exclude_by_slot, not, other_endpoint, named_endpoint)

  pub shared_by : (c : Command) (s : ℕ) → named_slot c ≡ Some s → list_any (names s) all ≡ list_any (name_one_slot c) all
  shared_by c s named = any_same (names s) (name_one_slot c) all (λ d. sym (same_named c d s named))

  -- one is kept of some index of the slot: a command names it
  pub some_named : (s i : ℕ) → is_some (kept_of u s i) ≡ true → list_any (names s) all ≡ true
  some_named s i kept = search (rules, any_more, is_about, names, and_parts, index_of, kept_about)

none_named_step : (s : ℕ) (d : Command) (rest : List Command) → NamesEndpoint d → ((i : ℕ) → i < 32 → list_any (is_about s i) (d ∷ rest) ≡ false) → names s d ≡ false
none_named_step s d rest fits none = search (rules, none (index_of d), eq-eqb (index_of d) (index_of d) refl, false≢true, is_about, index_of)

none_named_by : (s : ℕ) (all : List Command) → All NamesEndpoint all → ((i : ℕ) → i < 32 → list_any (is_about s i) all ≡ false) → list_any (names s) all ≡ false
none_named_by s [] fit none = refl
none_named_by s (d ∷ rest) fit none =
    rw (none_named_step s d rest (All-head NamesEndpoint d rest fit) none) (none_named_by s rest (All-tail NamesEndpoint d rest fit) (λ i below. (or_parts _ _ (none i below)).1))

-- nothing is kept of the slot: no command names it
pub none_named : (u : UnfinishedCommands) (all : List Command) (s : ℕ) → FollowsUnfinished all u → ((i : ℕ) → i < 32 → is_some (kept_of u s i) ≡ false) → list_any (names s) all ≡ false
none_named u all s f none = none_named_by s all f.endpoints (λ i below. sym (kept_about u all f s i) ∙ none i below)

-- none is kept of the slot as a whole: a command names it exactly where one is counted of an endpoint
pub counts_named : (u : UnfinishedCommands) (all : List Command) → FollowsUnfinished all u → (s : ℕ) → is_some (kept_of u s 0) ≡ false →
    nat_lt 0 (endpoint_count u.by_endpoint.items s) ≡ list_any (names s) all
counts_named u all f s whole =
    search (rules, cases_lt 0 (endpoint_count u.by_endpoint.items s), count_where u.by_endpoint.items s, lt-ltb 0 (endpoint_count u.by_endpoint.items s), le-ltb, some_named u all f s, none_named u all s f, by, at_endpoint)
  where
    at_endpoint : (i : ℕ) → 0 < i → kept_of u s i ≡ (kept_at u.by_endpoint.items s i).command
    at_endpoint i some = search (rules, slice_index_or, no_command, kept_at, ne_eqb)

    by : (i : ℕ) → i < 32 → endpoint_count u.by_endpoint.items s ≡ 0 → is_some (kept_of u s i) ≡ false
    by i below none = search (rules, cases_eq i 0, whole, is_some, at_endpoint, count_none, below)

pub none_shares : (all : List Command) (c : Command) → named_slot c ≡ None → list_any (name_one_slot c) all ≡ false
none_shares [] c named = refl
none_shares (d ∷ all) c named = λ i. (ap (λ n. same_slot n (named_slot d)) named) i || none_shares all c named i

pub follows_none : (u : UnfinishedCommands) → u.by_slot.items ≡ replicate 256 no_command → u.by_endpoint.items ≡ replicate (256 * 32) no_command → FollowsUnfinished [] u
follows_none u slots endpoints =
    record { each = λ s i. rw (slots, endpoints, alike 256 s no_command, alike (256 * 32) (s * 32 + i) no_command) (search rules); endpoints = All-nil NamesEndpoint }

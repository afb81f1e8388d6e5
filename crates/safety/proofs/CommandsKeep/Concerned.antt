-- What a command is about: of two commands that don't exclude each other nothing is both's
use Rattle.safety.proofs.Words.{◌≡◌, ◌==◌, ◌∙◌, ℕ, true, false, Some, refl, sym, ap, eq-eqb, eqb-true, false_from_ne_true, false≢true, or_right, from_filter, range_with_len, IsIn, added_endpoints, input_add_flag, Command, ResetEndpoint, StopEndpoint, SetTrDequeue, ConfigureEndpoint, named_slot, named_endpoint, same_slot, name_one_slot, exclude, concerns, concerns_named, rules}

-- the slot that it names, and of this the endpoints and the slot as a whole that it is about
abbrev pub Concerns : (ℕ → ℕ) → Command → ℕ → ℕ → Type 0
Concerns memory c s i = (named_slot c ≡ Some s) × (concerns memory c i ≡ true)

-- of its slot it concerns something
pub some_concerned : (memory : ℕ → ℕ) (c : Command) (s : ℕ) → named_slot c ≡ Some s → (i : ℕ) × Concerns memory c s i
some_concerned memory (ResetEndpoint t i) s named = (i, (named, eq-eqb i i refl))
some_concerned memory (StopEndpoint t i) s named = (i, (named, eq-eqb i i refl))
some_concerned memory (SetTrDequeue t i p cycle) s named = (i, (named, eq-eqb i i refl))
some_concerned memory (ConfigureEndpoint t true x) s named = (0, (named, refl))
some_concerned memory (ConfigureEndpoint t false x) s named = (0, (named, refl))
some_concerned memory _ s named = (0, (named, refl))

-- what both are about is about the endpoint that one of them names
named_concerned : (memory : ℕ → ℕ) (c d : Command) (i : ℕ) → concerns memory c i ≡ true → concerns memory d i ≡ true → concerns_named memory c (named_endpoint d) ≡ true
named_concerned memory c (ResetEndpoint t j) i here there = ap (concerns memory c) (eqb-true j i there) ∙ here
named_concerned memory c (StopEndpoint t j) i here there = ap (concerns memory c) (eqb-true j i there) ∙ here
named_concerned memory c (SetTrDequeue t j p cycle) i here there = ap (concerns memory c) (eqb-true j i there) ∙ here
named_concerned memory c _ i here there = refl

one_slot : (c d : Command) (s : ℕ) → named_slot c ≡ Some s → named_slot d ≡ Some s → name_one_slot c d ≡ true
one_slot c d s here there = rw (here, there) (eq-eqb s s refl)

pub not_both : (memory : ℕ → ℕ) (c d : Command) (s i : ℕ) → exclude memory c d ≡ false → Concerns memory c s i → Concerns memory d s i → ⊥
not_both memory c d s i apart here there =
    false≢true (sym apart ∙ (rw (one_slot c d s here.0 there.0, named_concerned memory c d i here.1 there.1, named_concerned memory d c i there.1 here.1) refl))

-- Configure Endpoint is about each endpoint that it adds
pub added_concerned : (memory : ℕ → ℕ) (s x i : ℕ) → IsIn i (added_endpoints memory x) → concerns memory (ConfigureEndpoint s false x) i ≡ true
unfolding added_endpoints
added_concerned memory s x i there = or_right _ (input_add_flag memory x i) (from_filter (input_add_flag memory x) (range_with_len 2 30) i there).1

-- ---- neither excludes the other

eqb_turned : (s t : ℕ) → (s == t) ≡ (t == s)
eqb_turned s t = search (rules, true, eq-eqb, eqb-true, false, false_from_ne_true, false≢true)

slot_turned : (c d : Command) → name_one_slot c d ≡ name_one_slot d c
slot_turned c d = search (rules, eqb_turned, named_slot, same_slot)

pub excludes_turned : (memory : ℕ → ℕ) (c d : Command) → exclude memory c d ≡ exclude memory d c
excludes_turned memory c d = rw (slot_turned c d) (search rules)

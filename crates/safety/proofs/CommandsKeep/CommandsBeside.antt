-- What the rules say of a command holds still where nothing that the command reads has changed
use Rattle.safety.proofs.Words.{[], ◌≡◌, ◌≢◌, ◌<◌, ◌==◌, ◌&&◌, ◌||◌, if◌then◌else◌, ◌∷◌, ◌∙◌, ℕ, not, Bool, false, map, Option, None, Some, is_none, nat_lt, arith, refl, ap, nat_le, rules, list_any, or_parts, or_from, and_left, Command, AddressDevice, ConfigureEndpoint, named_slot, named_context, is_disabled, is_off, added_endpoints, input_add_flag, Header, is_ring, Known, binding_in, binds, ring_bound, binds_ring, drops, adds_streams, has_bad_content, has_bad_context, is_bad_added, is_bad_command, names_disabled_endpoint, names_disabled_slot, streams_in, takes_bad_device, type_in, true, EvaluateContext, named_endpoint, concerns, concerns_named, exclude, List, IsIn, inl, inr, sym, subst}
use Rattle.safety.proofs.CommandsKeep.Concerned.{Concerns, added_concerned}
use Rattle.safety.proofs.CommandsKeep.ContextReads.{AgreeIn, AreIndices, any_same, map_same, added_indices, added_same, add_flag_same, drop_flag_same, type_same, streams_same, pointer_same, cycle_same}

any_same_in : (p q : ℕ → Bool) (xs : List ℕ) → ((i : ℕ) → IsIn i xs → p i ≡ q i) → list_any p xs ≡ list_any q xs
any_same_in p q [] same = refl
any_same_in p q (i ∷ rest) same =
    ap (λ b. b || list_any p rest) (same i (inl refl)) ∙ ap (λ b. q i || b) (any_same_in p q rest (λ j there. same j (inr there)))

index_low : (xs : List ℕ) → AreIndices xs → (i : ℕ) → IsIn i xs → i < 32
index_low [] below i there = absurd there
index_low (x ∷ rest) below i there = elim there [ inl here ↦ subst (λ n. n < 32) (sym here) below.1 | inr later ↦ index_low rest below.0 i later ]

none_is : (o : Option ℕ) → o ≢ None → is_none o ≡ false
none_is o some = grind arith

module _ (h : Header) where
  -- what is known at l is, as far as the command reads it, what was known at k
  pub record Beside (k l : Known) (c : Command) : Type 0 where
    pub memory : (n : ℕ) → named_context c ≡ Some n → AgreeIn h.context_size k.memory l.memory n
    pub context : (n : ℕ) → named_context c ≡ Some n → has_bad_context h l (Some n) ≡ false
    pub slot : (s : ℕ) → named_slot c ≡ Some s → is_disabled (k.slot_state s) ≡ false → is_disabled (l.slot_state s) ≡ false
    pub off : (s i : ℕ) → Concerns k.memory c s i → is_off (l.endpoint_state s i) ≡ is_off (k.endpoint_state s i)
    pub device : (s n : ℕ) (bsr : Bool) → c ≡ AddressDevice s bsr n → l.device s ≢ None

  -- ---- single parts

  module _ (k l : Known) (n : ℕ) (same : AgreeIn h.context_size k.memory l.memory n) where
    with_streams : (i : ℕ) → i < 32 → nat_lt 0 (streams_in h l n i) ≡ nat_lt 0 (streams_in h k n i)
    unfolding streams_in
    with_streams i low = ap (nat_lt 0) (streams_same h.context_size k.memory l.memory n same i low)

    binding : (i : ℕ) → i < 32 → binding_in h l n i ≡ binding_in h k n i
    unfolding binding_in
    binding i low = search (rules, pointer_same, h.context_size, k.memory, l.memory, cycle_same)

    bad_added : (s i : ℕ) → i < 32 → is_off (l.endpoint_state s i) ≡ is_off (k.endpoint_state s i) → is_bad_added h l s n i ≡ is_bad_added h k s n i
    unfolding is_bad_added type_in
    bad_added s i low off = search (rules, type_same, h.context_size, k.memory, l.memory, drop_flag_same)

  -- ---- the rules

  module _ (k l : Known) where
    profile_beside : (c : Command) → Beside k l c → adds_streams h l c ≡ adds_streams h k c
    unfolding adds_streams
    profile_beside (AddressDevice s bsr n) b = with_streams k l n (b.memory n refl) 1 (omega arith)
    profile_beside (ConfigureEndpoint s false n) b =
        let same = b.memory n refl in
        ap (λ xs. list_any (λ i. nat_lt 0 (streams_in h l n i)) xs) (added_same h.context_size k.memory l.memory n same)
        ∙ any_same (λ i. nat_lt 0 (streams_in h l n i)) (λ i. nat_lt 0 (streams_in h k n i)) (added_endpoints k.memory n) (added_indices k.memory n) (with_streams k l n same)
    profile_beside _ b = refl

    pub binds_beside : (c : Command) → Beside k l c → binds h l c ≡ binds h k c
    unfolding binds
    binds_beside (AddressDevice s bsr n) b =
        ap (λ t. if t then binding_in h l n 1 ∷ [] else []) (b.off s 1 (refl, refl))
        ∙ ap (λ x. if is_off (k.endpoint_state s 1) then x ∷ [] else []) (binding k l n (b.memory n refl) 1 (omega arith))
    binds_beside (ConfigureEndpoint s false n) b =
        let same = b.memory n refl in
        ap (λ xs. map (binding_in h l n) xs) (added_same h.context_size k.memory l.memory n same)
        ∙ map_same (binding_in h l n) (binding_in h k n) (added_endpoints k.memory n) (added_indices k.memory n) (binding k l n same)
    binds_beside _ b = refl

    pub binds_ring_beside : (c : Command) → Beside k l c → (r : ℕ) → binds_ring h l r c ≡ binds_ring h k r c
    unfolding binds_ring
    binds_ring_beside c b r = ap (λ bs. list_any (λ x. is_ring r (ring_bound h x)) bs) (binds_beside c b)

    pub drops_beside : (c : Command) → Beside k l c → (s i : ℕ) → drops l c s i ≡ drops k c s i
    unfolding drops
    drops_beside o b s i = grind (arith, false, nat_le, drop_flag_same, h.context_size, k.memory, l.memory, b.memory)

    -- a device context that is under lease isn't taken again
    pub leased_device : (s n : ℕ) → l.device s ≢ None → takes_bad_device h l s n ≡ false
    unfolding takes_bad_device
    leased_device s n some = and_left _ _ (none_is (l.device s) some)

    content_beside : (c : Command) → Beside k l c → has_bad_content h k c ≡ false → has_bad_content h l c ≡ false
    unfolding has_bad_content type_in
    content_beside (AddressDevice s bsr n) b good =
        let same = b.memory n refl in
        let parts = or_parts (not (input_add_flag k.memory n 0 && input_add_flag k.memory n 1) || type_in h k n 1 == 0) (takes_bad_device h k s n) good in
        let a = or_parts (not (input_add_flag k.memory n 0 && input_add_flag k.memory n 1)) (type_in h k n 1 == 0) parts.0 in
        let zero_same = add_flag_same h.context_size k.memory l.memory n same 0 in
        let one_same = add_flag_same h.context_size k.memory l.memory n same 1 in
        or_from (not (input_add_flag l.memory n 0 && input_add_flag l.memory n 1) || type_in h l n 1 == 0) (takes_bad_device h l s n)
        (or_from (not (input_add_flag l.memory n 0 && input_add_flag l.memory n 1)) (type_in h l n 1 == 0)
        (ap (λ t. not (t && input_add_flag l.memory n 1)) zero_same ∙ ap (λ t. not (input_add_flag k.memory n 0 && t)) one_same ∙ a.0)
        (ap (λ t. t == 0) (type_same h.context_size k.memory l.memory n same 1 (omega arith)) ∙ a.1))
        (leased_device s n (b.device s n bsr refl))
    content_beside (ConfigureEndpoint s false n) b good =
        let same = b.memory n refl in
        ap (λ xs. list_any (is_bad_added h l s n) xs) (added_same h.context_size k.memory l.memory n same)
        ∙ any_same_in (is_bad_added h l s n) (is_bad_added h k s n) (added_endpoints k.memory n)
        (λ i there. bad_added k l n same s i (index_low (added_endpoints k.memory n) (added_indices k.memory n) i there) (b.off s i (refl, added_concerned k.memory s n i there)))
        ∙ good
    content_beside _ b good = refl

    pub good_beside : (c : Command) → Beside k l c → is_bad_command h k c ≡ false → is_bad_command h l c ≡ false
    unfolding is_bad_command names_disabled_slot has_bad_context names_disabled_endpoint
    good_beside c b good = search (rules, or_parts, or_from, content_beside)

    pub in_profile_beside : (c : Command) → Beside k l c → adds_streams h k c ≡ false → adds_streams h l c ≡ false
    in_profile_beside c b good = profile_beside c b ∙ good

  -- ---- two commands

  module _ (k l : Known) where
    concerns_beside : (c : Command) → Beside k l c → (i : ℕ) → concerns l.memory c i ≡ concerns k.memory c i
    concerns_beside (ConfigureEndpoint s false n) b i =
        let same = b.memory n refl in
        rw (drop_flag_same h.context_size k.memory l.memory n same i, add_flag_same h.context_size k.memory l.memory n same i) refl
    concerns_beside (EvaluateContext s n) b i = let same = b.memory n refl in rw (add_flag_same h.context_size k.memory l.memory n same i) refl
    concerns_beside (ConfigureEndpoint s true n) b i = refl
    concerns_beside _ b i = refl

    named_beside : (c : Command) → Beside k l c → (o : Option (ℕ × ℕ)) → concerns_named l.memory c o ≡ concerns_named k.memory c o
    named_beside c b None = refl
    named_beside c b (Some e) = concerns_beside c b e.1

    pub exclude_beside : (c d : Command) → Beside k l c → Beside k l d → exclude l.memory c d ≡ exclude k.memory c d
    exclude_beside c d b e = rw (named_beside c b (named_endpoint d), named_beside d e (named_endpoint c)) refl

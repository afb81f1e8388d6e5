-- Which rings are there, and which of them is the command ring, where a ring comes or goes
use Rattle.safety.proofs.UpperLaws.{◌≡◌, ◌≢◌, ◌==◌, ◌&&◌, ◌<◌, ◌⊎◌, ◌∙◌, ℕ, not, true, false, Option, Some, None, filter, is_some, arith, refl, sym, ap, inl, inr, eq-eqb, eqb-true, ltb-true, ne_eqb, nat_lt, cases_Bool, cases_eq, cases_option, false≢true, and_parts, and_from, none-some, not_from_false, same_Some, is_shape, Header, Ring, IsHeader, command_id, ring_with, Known, IsDriverRing, DriverKeeps, IsComing, is_bad_ring, is_bad_free, with_ring, without_ring, is_named, any_of, found_in, header_parts, each_passes, command_named, is_command_ring, IsIn, from_filter, not-true, is_ring, may_be_taken, driver_ring, is_driver_ring, false_from_ne_true, goes_badly, is_in_use, command_ring, id_of, id_or_none, is_command_kind, RingKind, Cmd, command_found, command_with, no_command_ring, is_command, find_kept, found_before, found_new}
use Rattle.safety.proofs.RingChanges.ComingGoing.{absent, no_command}

command_kind : (kind : RingKind) → is_command_kind kind ≡ true → kind ≡ Cmd
command_kind o command = grind (arith, false≢true)

-- a ring that is there has an ID of its own
pub ring_below : (h : Header) → IsHeader h → (r : ℕ) (q : Ring) → ring_with h r ≡ Some q → r < 256
ring_below h is r q found =
    let there = found_in (λ x. x.id == r) h.rings q found in
    let low = and_parts (nat_lt q.id 256) (is_shape q.shape) (each_passes (λ x. nat_lt x.id 256 && is_shape x.shape) h.rings q (header_parts h is).0 there.0) in
    omega (arith, ltb-true q.id 256 low.0, eqb-true q.id r there.1)

own_id : (h : Header) (o : Option Ring) → command_ring h ≡ o → is_some o ≡ true → is_ring (command_id h) (id_of o) ≡ true
unfolding command_id
own_id h None none some = absurd (false≢true some)
own_id h (Some c) at some = eq-eqb c.id (command_id h) (sym (ap id_or_none at))

-- it is found by its kind
pub is_its_own : (h : Header) → is_some (command_ring h) ≡ true → is_ring (command_id h) (id_of (command_ring h)) ≡ true
is_its_own h there = own_id h (command_ring h) refl there

-- a ring with its ID is the command ring
pub is_there : (h : Header) → IsHeader h → IsDriverRing h (command_id h) → is_some (command_ring h) ≡ true
is_there h is ring =
    elim (cases_option (command_ring h)) [
      | inr c ↦ ap (λ o. is_some o) c.1
      | inl none ↦
          let low : command_id h < 256 = ring_below h is (command_id h) ring.ring ring.found in
          let same : command_id h ≡ id_or_none None = command_named h is None none in
          absurd (omega (arith, low, same))
    ]

-- without a command ring CRCR names none
pub unnamed : (h : Header) → IsHeader h → (k : Known) → DriverKeeps h k → command_ring h ≡ None → is_named k ≡ false
unnamed h is k d none = false_from_ne_true (is_named k) (λ named. false≢true (ap (λ o. is_some o) (sym none) ∙ is_there h is (d.run.named named)))

module _ (h g : Header) (id : ℕ) where
  -- it isn't this one, and stays the same
  pub record CommandStays : Type 0 where
    pub same : command_id g ≡ command_id h
    pub there : command_ring g ≡ command_ring h
    pub other : command_id h ≢ id

  -- none is there, or it is this one; and if there is one then, that is this one
  pub record CommandChanges : Type 0 where
    pub before : (command_ring h ≡ None) ⊎ (command_id h ≡ id)
    pub then_it : is_some (command_ring g) ≡ true → command_id g ≡ id

  -- one of the two
  abbrev pub CommandIs : Type 0
  CommandIs = CommandStays ⊎ CommandChanges

none_badly : (h : Header) (k : Known) (id : ℕ) → goes_badly h k id None ≡ true
unfolding goes_badly
none_badly h k id = refl

some_badly : (h : Header) (k : Known) (id : ℕ) (q : Ring) → goes_badly h k id (Some q) ≡ is_in_use h k id q.shape.kind
unfolding goes_badly
some_badly h k id q = refl

-- a ring that is there is none where there is no command ring
not_absent : (h : Header) → command_ring h ≡ None → (r : ℕ) → r < 256 → r ≢ command_id h
unfolding command_id
not_absent h none r low same = let at : command_id h ≡ 256 = ap id_or_none none in omega (arith, low, same, at)

-- nor is one that stays where the command ring comes or goes
pub stays_apart : (h g : Header) (id : ℕ) → IsHeader h → CommandChanges h g id → (r : ℕ) → r ≢ id → is_driver_ring (ring_with h r) ≡ true → (r ≢ command_id h) × (r ≢ command_id g)
stays_apart h g id is c r other driver =
    let d : IsDriverRing h r = driver_ring h r driver in
    let low : r < 256 = ring_below h is r d.ring d.found in (
      λ same. elim c.before [ inl none ↦ not_absent h none r low same | inr here ↦ other (same ∙ here) ],
      λ same. elim (cases_option (command_ring g)) [ inl none ↦ not_absent g none r low same | inr some ↦ other (same ∙ c.then_it (ap (λ o. is_some o) some.1)) ],
    )

module _ (h : Header) (is : IsHeader h) where
  -- ---- a ring comes

  module _ (k : Known) (d : DriverKeeps h k) (r : Ring) (coming : IsComing r) (good : is_bad_ring h k r ≡ false) where
    pub comes_listed : (q : ℕ) → q ≢ r.id → ring_with (with_ring h r) q ≡ ring_with h q
    unfolding with_ring
    comes_listed q other = found_before (λ x. x.id == q) h.rings r (ne_eqb r.id q (λ same. other (sym same)))

    -- another one comes
    other_than : (o : Option Ring) → command_ring h ≡ o → command_id h ≢ r.id
    other_than None none same =
        let low = coming.low in
        let at : command_id h ≡ id_or_none None = command_named h is None none in
        omega (arith, low, at, same)
    other_than (Some c) some same = none-some c (sym (absent h is r coming k d good) ∙ ap (λ n. ring_with h n) (sym same) ∙ command_with h is c some)

    other_comes : is_command r ≡ false → CommandStays h (with_ring h r) r.id
    unfolding with_ring command_ring command_id
    other_comes plain = record {
      same = ap id_or_none (found_before is_command h.rings r plain);
      there = found_before is_command h.rings r plain;
      other = other_than (command_ring h) refl;
    }

    -- the command ring comes where none is there
    none_before : is_command r ≡ true → command_ring h ≡ None
    none_before command = no_command h is r coming k d good command

    command_comes : is_command r ≡ true → CommandChanges h (with_ring h r) r.id
    unfolding with_ring command_ring command_id
    command_comes command = record {
      before = inl (none_before command);
      then_it = λ some. ap id_or_none (found_new is_command h.rings r (none_before command) command);
    }

    pub comes_command : CommandIs h (with_ring h r) r.id
    comes_command = elim (cases_Bool (is_command r)) [ inl command ↦ inr (command_comes command) | inr plain ↦ inl (other_comes plain) ]

    -- no endpoint has it yet
    pub comes_not_had : (s i q : ℕ) → k.ring_of s i ≡ Some q → q ≢ r.id
    comes_not_had s i q has same =
        let t = d.states.transfer s i q has in
        none-some t.ring (sym (absent h is r coming k d good) ∙ ap (λ n. ring_with h n) (sym same) ∙ t.found)

  -- ---- a ring goes

  module _ (id : ℕ) where
    stays : (q : Ring) → q.id ≢ id → not (q.id == id) ≡ true
    stays q other = not_from_false (q.id == id) (ne_eqb q.id id other)

    pub goes_listed : (q : ℕ) → q ≢ id → ring_with (without_ring h id) q ≡ ring_with h q
    unfolding without_ring
    goes_listed q other = find_kept (λ x. x.id == q) (λ x. not (x.id == id)) h.rings (λ x at passes. stays x (λ same. other (sym (eqb-true x.id q passes) ∙ same)))

    -- a command ring is the command ring
    its_id : (q : Ring) → IsIn q h.rings → is_command q ≡ true → q.id ≡ command_id h
    unfolding is_command_ring
    its_id q at command =
        elim (cases_eq q.id (command_id h)) [
          | inl same ↦ same
          | inr other ↦
              let some = any_of (λ x. is_command x && x.id == q.id) h.rings q at (and_from (is_command q) (q.id == q.id) command (eq-eqb q.id q.id refl)) in
              absurd (false≢true (sym (no_command_ring h is q.id other) ∙ some))
        ]

    other_goes : command_id h ≢ id → CommandStays h (without_ring h id) id
    unfolding without_ring command_ring command_id
    other_goes other =
        let there = find_kept is_command (λ x. not (x.id == id)) h.rings (λ q at passes. stays q (λ same. other (sym (its_id q at passes) ∙ same))) in
        record { same = ap id_or_none there; there = there; other = other }

    none_left : command_id h ≡ id → (o : Option Ring) → command_ring (without_ring h id) ≡ o → is_some o ≡ true → ⊥
    unfolding without_ring command_ring
    none_left same None none some = false≢true some
    none_left same (Some q) found some =
        let there = found_in is_command (filter (λ x. not (x.id == id)) h.rings) q found in
        let kept = from_filter (λ x. not (x.id == id)) h.rings q there.0 in
        false≢true (sym (not-true (q.id == id) kept.1) ∙ eq-eqb q.id id (its_id q kept.0 there.1 ∙ same))

    command_goes : command_id h ≡ id → CommandChanges h (without_ring h id) id
    command_goes same = record { before = inr same; then_it = λ some. absurd (none_left same (command_ring (without_ring h id)) refl some) }

    pub goes_command : CommandIs h (without_ring h id) id
    goes_command = elim (cases_eq (command_id h) id) [ inl same ↦ inr (command_goes same) | inr other ↦ inl (other_goes other) ]

    -- the command ring doesn't go while its next command can have been taken
    its_kind : (q : Ring) → ring_with h id ≡ Some q → id ≡ command_id h → is_some (command_ring h) ≡ true → q.shape.kind ≡ Cmd
    its_kind q found same some =
        elim (cases_option (command_ring h)) [
          | inl none ↦ absurd (false≢true (sym (ap (λ o. is_some o) none) ∙ some))
          | inr c ↦
              let one : q ≡ c.0 = same_Some q c.0 (sym found ∙ ap (λ n. ring_with h n) same ∙ command_with h is c.0 c.1) in
              ap (λ (x : Ring). x.shape.kind) one ∙ command_kind c.0.shape.kind (command_found h is c.0 c.1).1
        ]

    not_in_use : (k : Known) → is_in_use h k id Cmd ≡ false → (k.started && may_be_taken h k) ≡ false
    unfolding is_in_use
    not_in_use k unused = grind arith

    pub goes_idle : (k : Known) → id ≡ command_id h → is_some (command_ring h) ≡ true → is_bad_free h k id ≡ false → (k.started && may_be_taken h k) ≡ false
    unfolding is_bad_free
    goes_idle k same some good = by (ring_with h id) refl good
      where
        by : (o : Option Ring) → ring_with h id ≡ o → goes_badly h k id o ≡ false → (k.started && may_be_taken h k) ≡ false
        by None found good = absurd (false≢true (sym good ∙ none_badly h k id))
        by (Some q) found good = not_in_use k (sym (ap (is_in_use h k id) (its_kind q found same some)) ∙ sym (some_badly h k id q) ∙ good)

-- Records piece by piece: those of a piece stand behind those before it, and the first that is none stays the first
use Rattle.certificate.proofs.Records.{same_lease}
use Rattle.certificate.proofs.Words.{◌≡◌, ◌+◌, ◌*◌, ◌/◌, ◌%◌, ◌==◌, ◌≤◌, ◌∷◌, ◌++◌, ◌∙◌, ℕ, suc, zero, true, false, List, [], Option, Some, None, Ok, Err, length, take, drop, add-zero, zero-add, arith, sym, ap, refl, cond, eq-eqb, is_some, drop-append-le, drop-take, length-drop, take-append-le, get_or-take, nat_tests, Lease, BadLease, Length, Field, first_bad, has_lease_fields, lease_in, leases_in, list_all, little_number, records_of}

-- ---- the first that is none

-- all before it are leases, where there is none and where there is one
none_bad : (number : ℕ) (ls : List Lease) → first_bad number ls ≡ None → list_all has_lease_fields ls ≡ true
unfolding first_bad
none_bad number [] h = refl
none_bad number (l ∷ ls) h = let later = none_bad (number + 1) ls in grind (arith, later)

some_bad : (number : ℕ) (ls : List Lease) (b : BadLease) → first_bad number ls ≡ Some b → list_all has_lease_fields ls ≡ false
unfolding first_bad
some_bad number [] b h = absurd (cc)
some_bad number (l ∷ ls) b h = let later = some_bad (number + 1) ls b in grind (arith, later)

-- one lease more
still_bad : (number : ℕ) (ls more : List Lease) (b : BadLease) → first_bad number ls ≡ Some b → first_bad number (ls ++ more) ≡ Some b
unfolding first_bad
still_bad number [] more b h = absurd (cc)
still_bad number (l ∷ ls) more b h = let later = still_bad (number + 1) ls more b in grind (arith, later)

next_bad : (number : ℕ) (ls : List Lease) (l : Lease) → first_bad number ls ≡ None →
    first_bad number (ls ++ l ∷ []) ≡ cond (has_lease_fields l) None (Some (record { number = number + length ls; lease = l }))
unfolding first_bad
next_bad number [] l h = ap (λ m. cond (has_lease_fields l) None (Some (record { number = m; lease = l }))) (sym (add-zero number))
next_bad number (x ∷ ls) l h =
    let at : (number + 1) + length ls ≡ number + length (x ∷ ls) = omega arith in
    let later = next_bad (number + 1) ls l in
    grind (arith, later, at)

-- ---- one lease more, where some were seen

pub bad_stays : (bad : Option BadLease) (items seen : List Lease) (l : Lease) → is_some bad ≡ true → (first_bad 1 seen ≡ bad) × (bad ≡ None → items ≡ seen) →
    (first_bad 1 (seen ++ l ∷ []) ≡ bad) × (bad ≡ None → items ≡ seen ++ l ∷ [])
bad_stays None items seen l some h = absurd (cc)
bad_stays (Some b) items seen l some h = (still_bad 1 seen (l ∷ []) b h.0, λ e. absurd (cc))

pub good_seen : (bad : Option BadLease) (items items' seen : List Lease) (l : Lease) → is_some bad ≡ false → has_lease_fields l ≡ true → items' ≡ items ++ l ∷ [] →
    (first_bad 1 seen ≡ bad) × (bad ≡ None → items ≡ seen) → (first_bad 1 (seen ++ l ∷ []) ≡ bad) × (bad ≡ None → items' ≡ seen ++ l ∷ [])
good_seen (Some b) items items' seen l none good more h = absurd (cc)
good_seen None items items' seen l none good more h =
    (next_bad 1 seen l h.0 ∙ ap (λ b. cond b None (Some (record { number = 1 + length seen; lease = l }))) good, λ e. more ∙ ap (λ xs. xs ++ l ∷ []) (h.1 refl))

pub bad_seen : (bad : Option BadLease) (items seen : List Lease) (l : Lease) (n : ℕ) → is_some bad ≡ false → has_lease_fields l ≡ false → n ≡ length items →
    (first_bad 1 seen ≡ bad) × (bad ≡ None → items ≡ seen) → first_bad 1 (seen ++ l ∷ []) ≡ Some (record { number = n + 1; lease = l })
bad_seen (Some b) items seen l n none bad size h = absurd (cc)
bad_seen None items seen l n none bad size h =
    let same = ap length (h.1 refl) in
    let at : 1 + length seen ≡ n + 1 = omega (arith, same, size) in
    next_bad 1 seen l h.0 ∙ ap (λ b. cond b None (Some (record { number = 1 + length seen; lease = l }))) bad ∙ ap (λ m. Some (record { number = m; lease = l })) at

-- ---- records in two pieces

number4 : (n : ℕ) (bytes : List ℕ) → 4 ≤ n → little_number 4 (take n bytes) ≡ little_number 4 bytes
number4 n bytes long = grind (arith, get_or-take)

number8 : (n : ℕ) (bytes : List ℕ) → 8 ≤ n → little_number 8 (take n bytes) ≡ little_number 8 bytes
number8 n bytes long = grind (arith, get_or-take)

-- a lease is read from its record alone
of_record : (bytes : List ℕ) → lease_in (take 24 bytes) ≡ lease_in bytes
unfolding lease_in
of_record bytes =
    same_lease _ _ _ _ _ _ _ _ _ _
    (number4 24 bytes (omega arith))
    (ap (little_number 4) (drop-take 4 20 bytes) ∙ number4 20 (drop 4 bytes) (omega arith))
    (ap (little_number 8) (drop-take 8 16 bytes) ∙ number8 16 (drop 8 bytes) (omega arith))
    (ap (little_number 4) (drop-take 16 8 bytes) ∙ number4 8 (drop 16 bytes) (omega arith))
    (ap (little_number 4) (drop-take 20 4 bytes) ∙ number4 4 (drop 20 bytes) (omega arith))

read_before : (bytes more : List ℕ) → 24 ≤ length bytes → lease_in (bytes ++ more) ≡ lease_in bytes
read_before bytes more long = sym (of_record (bytes ++ more)) ∙ ap lease_in (take-append-le 24 bytes more long) ∙ of_record bytes

pub leases_in-append : (n m : ℕ) (bytes more : List ℕ) → length bytes ≡ 24 * n → leases_in (bytes ++ more) (n + m) ≡ leases_in bytes n ++ leases_in more m
unfolding leases_in
leases_in-append zero m [] more long = ap (leases_in more) (zero-add m)
leases_in-append zero m (b ∷ bytes) more long = absurd (omega (arith, long))
leases_in-append (suc n) m bytes more long =
    let enough : 24 ≤ length bytes = omega arith in
    let later : length (drop 24 bytes) ≡ 24 * n = omega (arith, length-drop 24 bytes) in
    let one_more : suc n + m ≡ suc (n + m) = omega arith in
    rw (one_more, read_before bytes more enough, drop-append-le 24 bytes more enough, leases_in-append n m (drop 24 bytes) more later) refl

-- ---- what records are

pub cut_short : (records : List ℕ) (n : ℕ) → length records ≡ n → (n % 24 ≡ 0 → ⊥) → records_of records ≡ Err Length
unfolding records_of
cut_short records n size cut = grind (arith, nat_tests, size, cut)

pub kept_bad : (records : List ℕ) (n : ℕ) (bad : BadLease) → length records ≡ n → n % 24 ≡ 0 → first_bad 1 (leases_in records (length records / 24)) ≡ Some bad → records_of records ≡ Err Field
unfolding records_of
kept_bad records n bad size whole is =
    let none = some_bad 1 (leases_in records (length records / 24)) bad is in
    let even : (length records % 24 == 0) ≡ true = eq-eqb _ 0 (omega arith) in
    rw (even, none) refl

pub kept_whole : (records : List ℕ) (n : ℕ) (leases : List Lease) → length records ≡ n → n % 24 ≡ 0 → first_bad 1 (leases_in records (length records / 24)) ≡ None
    → leases ≡ leases_in records (length records / 24) → records_of records ≡ Ok leases
unfolding records_of
kept_whole records n leases size whole none is =
    let all = none_bad 1 (leases_in records (length records / 24)) none in
    let even : (length records % 24 == 0) ≡ true = eq-eqb _ 0 (omega arith) in
    rw (even, all, is) refl

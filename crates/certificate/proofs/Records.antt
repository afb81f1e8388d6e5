-- Records one after another: what is written is read, and what is read is what was written
use Rattle.certificate.proofs.Words.{◌≡◌, ◌+◌, ◌*◌, ◌<◌, ◌≤◌, ◌∷◌, ◌++◌, ◌∙◌, ℕ, suc, zero, true, List, [], length, take, drop, All, arith, sym, ap, refl, add-one, inl, inr, drop-drop, length-drop, get_or-take, get_or-drop, length-take-le, get_or, get_or_past, All-head, All-tail, and_from, cases_lt, le_bytes_4, le_bytes_8, Lease, FitsLease, has_lease_fields, lease_bytes, lease_in, leases_in, flat_map, list_all, take-add, little_bytes, little_number}

-- one record more
pub leases_in-push : (bytes : List ℕ) (n : ℕ) → leases_in bytes (n + 1) ≡ leases_in bytes n ++ lease_in (drop (24 * n) bytes) ∷ []
unfolding leases_in
leases_in-push bytes zero = refl
leases_in-push bytes (suc n) =
    let next : 24 + 24 * n ≡ 24 * suc n = omega arith in
    let later : drop (24 * n) (drop 24 bytes) ≡ drop (24 * suc n) bytes = drop-drop (24 * n) 24 bytes ∙ ap (λ m. drop m bytes) next in
    grind (arith, add-one, leases_in-push (drop 24 bytes) n)

pub same_lease : (k r p f t a b c d e : ℕ) → k ≡ a → r ≡ b → p ≡ c → f ≡ d → t ≡ e →
    ◌≡◌ {A = Lease} (record { kind = k; ring = r; pos = p; from = f; to = t }) (record { kind = a; ring = b; pos = c; from = d; to = e })
same_lease k r p f t a b c d e g h i j l = cc

-- the first record is the first lease
first_read : (l : Lease) (rest : List ℕ) → FitsLease l → lease_in (lease_bytes l ++ rest) ≡ l
unfolding lease_in lease_bytes
first_read l rest fits = grind (arith, same_lease)

rest_read : (l : Lease) (rest : List ℕ) → drop 24 (lease_bytes l ++ rest) ≡ rest
unfolding lease_bytes
rest_read l rest = refl

pub all_read : (ls : List Lease) → All FitsLease ls → leases_in (flat_map lease_bytes ls) (length ls) ≡ ls
unfolding leases_in
all_read [] fits = refl
all_read (l ∷ ls) fits = grind (arith, first_read, All-head, rest_read, All-tail, all_read ls (All-tail FitsLease l ls fits))

-- each record has 24 bytes
pub length_spelled : (ls : List Lease) → length (flat_map lease_bytes ls) ≡ 24 * length ls
unfolding lease_bytes
length_spelled [] = refl
length_spelled (l ∷ ls) = let rest = length_spelled ls in omega arith

pub fields_stand : (ls : List Lease) → All FitsLease ls → list_all has_lease_fields ls ≡ true
fields_stand [] fits = refl
fields_stand (l ∷ ls) fits = grind (arith, and_from, All-head, All-tail, fields_stand ls (All-tail FitsLease l ls fits))

-- ---- what is read, spelled again

abbrev pub AreBytes : List ℕ → Type 0
AreBytes bytes = (i : ℕ) → get_or bytes i 0 < 256

-- what is left out in front, and what is kept, are bytes too
pub dropped : (n : ℕ) (bytes : List ℕ) → AreBytes bytes → AreBytes (drop n bytes)
dropped n bytes fit i = rw (get_or-drop n bytes i 0) (fit (n + i))

kept : (n : ℕ) (bytes : List ℕ) → n ≤ length bytes → AreBytes bytes → AreBytes (take n bytes)
kept n bytes long fit i =
    elim (cases_lt i n) [
      | inl inside ↦ rw (get_or-take n bytes i 0 inside) (fit i)
      | inr past ↦ let size = length-take-le n bytes long in rw (get_or_past (take n bytes) i 0 (omega arith)) (omega arith)
    ]

field4 : (bytes : List ℕ) → 4 ≤ length bytes → AreBytes bytes → little_bytes 4 (little_number 4 bytes) ≡ take 4 bytes
field4 bytes long fit =
    let a = get_or-take 4 bytes 0 0 (omega arith) in
    let b = get_or-take 4 bytes 1 0 (omega arith) in
    let c = get_or-take 4 bytes 2 0 (omega arith) in
    let d = get_or-take 4 bytes 3 0 (omega arith) in
    le_bytes_4 (take 4 bytes) (little_number 4 bytes) (length-take-le 4 bytes long) (kept 4 bytes long fit) (omega (arith, a, b, c, d))

field8 : (bytes : List ℕ) → 8 ≤ length bytes → AreBytes bytes → little_bytes 8 (little_number 8 bytes) ≡ take 8 bytes
field8 bytes long fit =
    let a = get_or-take 8 bytes 0 0 (omega arith) in
    let b = get_or-take 8 bytes 1 0 (omega arith) in
    let c = get_or-take 8 bytes 2 0 (omega arith) in
    let d = get_or-take 8 bytes 3 0 (omega arith) in
    let e = get_or-take 8 bytes 4 0 (omega arith) in
    let f = get_or-take 8 bytes 5 0 (omega arith) in
    let g = get_or-take 8 bytes 6 0 (omega arith) in
    let h = get_or-take 8 bytes 7 0 (omega arith) in
    le_bytes_8 (take 8 bytes) (little_number 8 bytes) (length-take-le 8 bytes long) (kept 8 bytes long fit) (omega (arith, a, b, c, d, e, f, g, h))

cut : (bytes : List ℕ) → take 24 bytes ≡ take 4 bytes ++ take 4 (drop 4 bytes) ++ take 8 (drop 8 bytes) ++ take 4 (drop 16 bytes) ++ take 4 (drop 20 bytes)
cut bytes = grind (arith, take-add)

long_from : (n m : ℕ) (bytes : List ℕ) → n + m ≤ length bytes → m ≤ length (drop n bytes)
long_from n m bytes long = let size = length-drop n bytes in omega arith

-- a record is the spelling of its lease
first_spelled : (bytes : List ℕ) → 24 ≤ length bytes → AreBytes bytes → lease_bytes (lease_in bytes) ≡ take 24 bytes
unfolding lease_in lease_bytes
first_spelled bytes long fit =
    joined (little_bytes 4 (little_number 4 bytes)) (little_bytes 4 (little_number 4 (drop 4 bytes))) (little_bytes 8 (little_number 8 (drop 8 bytes)))
    (little_bytes 4 (little_number 4 (drop 16 bytes))) (little_bytes 4 (little_number 4 (drop 20 bytes)))
    (take 4 bytes) (take 4 (drop 4 bytes)) (take 8 (drop 8 bytes)) (take 4 (drop 16 bytes)) (take 4 (drop 20 bytes))
    (field4 bytes (omega arith) fit)
    (field4 (drop 4 bytes) (long_from 4 4 bytes (omega arith)) (dropped 4 bytes fit))
    (field8 (drop 8 bytes) (long_from 8 8 bytes (omega arith)) (dropped 8 bytes fit))
    (field4 (drop 16 bytes) (long_from 16 4 bytes (omega arith)) (dropped 16 bytes fit))
    (field4 (drop 20 bytes) (long_from 20 4 bytes (omega arith)) (dropped 20 bytes fit))
    ∙ sym (cut bytes)
  where
    joined : (a b c d e p q r s t : List ℕ) → a ≡ p → b ≡ q → c ≡ r → d ≡ s → e ≡ t → (a ++ b ++ c ++ d ++ e) ≡ (p ++ q ++ r ++ s ++ t)
    joined a b c d e p q r s t h i j k l = rw (h, i, j, k, l) refl

pub all_spelled : (bytes : List ℕ) (n : ℕ) → 24 * n ≤ length bytes → AreBytes bytes → flat_map lease_bytes (leases_in bytes n) ≡ take (24 * n) bytes
unfolding leases_in
all_spelled bytes zero long fit = refl
all_spelled bytes (suc n) long fit =
    let size = length-drop 24 bytes in
    let at : 24 + 24 * n ≡ 24 * suc n = omega arith in
    grind (arith, first_spelled, dropped, take-add, all_spelled (drop 24 bytes) n (omega arith) (dropped 24 bytes fit))

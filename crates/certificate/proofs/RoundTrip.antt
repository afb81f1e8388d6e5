-- A list's spelling is read as that list, and bytes that are read as a list are its spelling
use Rattle.certificate.proofs.Words.{◌≡◌, ◌*◌, ◌/◌, ◌%◌, ◌==◌, ◌++◌, ◌∙◌, ℕ, Bool, true, List, length, take, drop, All, Result, Ok, Err, IfOk, arith, sym, ap, refl, cond, inl, inr, eq-eqb, take-append-drop, take_all, cases_Bool, nat_tests, bytes_eq-Decides, Lease, CertFault, Magic, Length, Field, FitsLease, certificate_of, has_lease_fields, lease_bytes, leases_in, magic, records_of, spelling, flat_map, list_all, bytes_eq}
use Rattle.certificate.proofs.Records.{AreBytes, all_read, all_spelled, dropped, fields_stand, length_spelled}

records_reread : (ls : List Lease) → All FitsLease ls → records_of (flat_map lease_bytes ls) ≡ Ok ls
unfolding records_of
records_reread ls fits =
    let size = length_spelled ls in
    let whole : (length (flat_map lease_bytes ls) % 24 == 0) ≡ true = eq-eqb _ 0 (omega arith) in
    let count : length (flat_map lease_bytes ls) / 24 ≡ length ls = omega arith in
    rw (whole, count, all_read ls fits, fields_stand ls fits) refl

pub reread : (ls : List Lease) → All FitsLease ls → certificate_of (spelling ls) ≡ Ok ls
unfolding certificate_of
reread ls fits = records_reread ls fits

-- a choice that gives a list was taken
taken : {E : Type 0} (b : Bool) (x : Result (List Lease) E) (e : E) (ls : List Lease) → cond b x (Err e) ≡ Ok ls → (b ≡ true) × (x ≡ Ok ls)
taken b x e ls h = grind arith

same_list : (xs ls : List Lease) → ◌≡◌ {A = Result (List Lease) CertFault} (Ok xs) (Ok ls) → xs ≡ ls
same_list xs ls h = cc

records_spelled : (records : List ℕ) (ls : List Lease) → AreBytes records → records_of records ≡ Ok ls → flat_map lease_bytes ls ≡ records
unfolding records_of
records_spelled records ls fit read =
    elim (cases_Bool (length records % 24 == 0)) [
      | inl whole ↦
          let n : ℕ = length records / 24 in
          let divided : length records % 24 ≡ 0 = grind (arith, nat_tests, whole) in
          let size : 24 * n ≡ length records = omega arith in
          let inner = taken (list_all has_lease_fields (leases_in records n)) (Ok (leases_in records n)) Field ls (rw whole at read) in
          let is : leases_in records n ≡ ls = same_list (leases_in records n) ls inner.1 in
          ap (λ xs. flat_map lease_bytes xs) (sym is) ∙ all_spelled records n (omega arith) fit ∙ ap (λ m. take m records) size ∙ take_all (length records) records (omega arith)
      | inr parted ↦ absurd (no_list ls (rw parted at read))
    ]
  where
    no_list : (ls : List Lease) → ◌≡◌ {A = Result (List Lease) CertFault} (Err Length) (Ok ls) → ⊥
    no_list ls h = cc

pub respelled : (bytes : List ℕ) (ls : List Lease) → AreBytes bytes → certificate_of bytes ≡ Ok ls → spelling ls ≡ bytes
unfolding certificate_of
respelled bytes ls fit read =
    let inner = taken (bytes_eq (take 8 bytes) magic) (records_of (drop 8 bytes)) Magic ls read in
    let front : take 8 bytes ≡ magic = (bytes_eq-Decides (take 8 bytes) magic).0 inner.0 in
    let rest : flat_map lease_bytes ls ≡ drop 8 bytes = records_spelled (drop 8 bytes) ls (dropped 8 bytes fit) inner.1 in
    joined magic (flat_map lease_bytes ls) (take 8 bytes) (drop 8 bytes) (sym front) rest ∙ take-append-drop 8 bytes
  where
    joined : (a b c d : List ℕ) → a ≡ c → b ≡ d → a ++ b ≡ c ++ d
    joined a b c d e f = rw (e, f) refl

-- of a call's answer
pub respelled_if_read : {X : Type 0} (items : X → List Lease) (bytes : List ℕ) (r : Result X CertFault) → AreBytes bytes →
    IfOk r (λ x. certificate_of bytes ≡ Ok (items x)) → IfOk r (λ x. spelling (items x) ≡ bytes)
respelled_if_read items bytes r fit read = grind (arith, respelled)

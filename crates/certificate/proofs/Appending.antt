-- What stands on a device behind one write after another, where it is known
use Rattle.certificate.proofs.Words.{rules, ◌≡◌, ◌∙◌, ℕ, suc, ◌+◌, ◌-◌, ◌*◌, ◌≤◌, List, [], ◌∷◌, ◌++◌, take, drop, length, Option, Some, None, ap, sym, subst, arith, append_assoc, length-append, length-drop, drop-take, take-append-drop, take-append-le, take-take, take_all, flat_map-append, Appends, Lease, EncodeFault, IsCutBehind, IsCutOff, done_of, lease_bytes, flat_map}
use Rattle.certificate.proofs.Records.{length_spelled}

pub appends_nothing : (a : Option (List ℕ)) → Appends a a []
appends_nothing a = search rules

pub joined : (a b c : Option (List ℕ)) (bs cs : List ℕ) → Appends a b bs → Appends b c cs → Appends a c (bs ++ cs)
joined None b c bs cs h k = tt
joined (Some xs) None c bs cs h k = absurd h
joined (Some xs) (Some ys) None bs cs h k = absurd k
joined (Some xs) (Some ys) (Some zs) bs cs h k = k ∙ ap (λ l. l ++ cs) h ∙ append_assoc xs bs cs

-- ---- a text that is written piece by piece

pub take_both : (bytes : List ℕ) (done n : ℕ) → take done bytes ++ take n (drop done bytes) ≡ take (done + n) bytes
take_both bytes done n =
    let fewer : done ≤ done + n = omega arith in
    ap (λ l. l ++ take n (drop done bytes)) (sym (take-take done (done + n) bytes fewer)) ∙ ap (λ l. take done (take (done + n) bytes) ++ l) (sym (drop-take done n bytes))
    ∙ take-append-drop done (take (done + n) bytes)

-- a write that took some of the bytes behind those that stand there
pub more : (a b c : Option (List ℕ)) (bytes : List ℕ) (done n : ℕ) → Appends a b (take done bytes) → Appends b c (take n (drop done bytes)) →
    Appends a c (take (done + n) bytes)
more a b c bytes done n h k = subst (λ (l : List ℕ). Appends a c l) (take_both bytes done n) (joined a b c (take done bytes) (take n (drop done bytes)) h k)

-- what is left behind the bytes that are done
pub rest_of : (bytes : List ℕ) (done : ℕ) → take (length bytes - done) (drop done bytes) ≡ drop done bytes
rest_of bytes done = let enough : length (drop done bytes) ≤ length bytes - done = omega (arith, length-drop done bytes) in take_all (length bytes - done) (drop done bytes) enough

-- the bytes before a place within a piece are the pieces before it and a beginning of this one
pub within : (sent piece later : List ℕ) (n : ℕ) → n ≤ length piece → take (length sent + n) (sent ++ (piece ++ later)) ≡ sent ++ take n piece
within [] piece later n le = grind (arith, take-append-le)
within (b ∷ sent) piece later n le =
    let at : length (b ∷ sent) + n ≡ suc (length sent + n) = omega arith in
    rw at (ap (λ l. b ∷ l) (within sent piece later n le))

-- a device that fails within a piece fails within the whole
pub cut_off : (a b c : Option (List ℕ)) (sent piece later whole : List ℕ) (before : ℕ) (fault : EncodeFault) → whole ≡ sent ++ (piece ++ later) → before ≡ length sent →
    Appends a b sent → IsCutBehind b c before piece fault → IsCutOff a c whole fault
cut_off a b c sent piece later whole before fault is at h (n, short, done, k) =
    let place : done_of fault ≡ length sent + n = done ∙ ap (λ m. m + n) at in
    let size : length whole ≡ length sent + (length piece + length later) =
    ap length is ∙ length-append sent (piece ++ later) ∙ ap (λ m. length sent + m) (length-append piece later) in
    let front : take (done_of fault) whole ≡ sent ++ take n piece =
    ap (λ l. take (done_of fault) l) is ∙ ap (λ m. take m (sent ++ (piece ++ later))) place ∙ within sent piece later n (omega (arith, short)) in
    (omega (arith, place, size, short), subst (λ (l : List ℕ). Appends a c l) (sym front) (joined a b c sent (take n piece) h k))

-- ---- records

-- records in two parts
pub parted : (ls first later : List Lease) → ls ≡ first ++ later → flat_map lease_bytes ls ≡ flat_map lease_bytes first ++ flat_map lease_bytes later
parted ls first later is = ap (flat_map lease_bytes) is ∙ flat_map-append lease_bytes first later

pub length_behind : (front : List ℕ) (ls : List Lease) → length (front ++ flat_map lease_bytes ls) ≡ length front + 24 * length ls
length_behind front ls = length-append front (flat_map lease_bytes ls) ∙ ap (λ m. length front + m) (length_spelled ls)

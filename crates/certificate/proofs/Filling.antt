-- What a reader gave piece by piece, where its bytes are known
use Rattle.certificate.proofs.Words.{◌≡◌, ◌+◌, ◌-◌, ◌*◌, ◌/◌, ◌<◌, ◌≤◌, ◌++◌, ◌∙◌, ℕ, true, false, List, [], Option, Some, None, Result, Ok, Err, IfOk, IfErr, IfSome, length, take, arith, sym, ap, refl, subst, inl, inr, cases_lt, append-nil, length-append, length-take-le, le_refl, take_all, take-append-le, take-take, bytes_eq, bytes_eq-Decides, Consumes, IsAtEnd, Lease, Records, NoCertificate, OtherMagic, OtherLength, OtherField, Unread, Bytes, Failed, AreSeen, AreUnread, IsUnread, IsShown, IsShownBehind, Magic, certificate_of, leases_in, magic, records_of}
use Rattle.std.proofs.KnownBytes.{Consumes-trans, Consumes-whole}
use Rattle.certificate.proofs.Appending.{within}
use Rattle.certificate.proofs.Pieces.{leases_in-append}
use borrow.Rule.Slice.PartMut.{put_mid}

-- what is so of what a reader has left is so of all that it had
read_front : (a b : Option (List ℕ)) (bs : List ℕ) (P Q : List ℕ → Type 0) → Consumes a b bs → ((ys : List ℕ) → Q ys → P (bs ++ ys)) → IfSome b Q → IfSome a P
read_front None b bs P Q h on is = tt
read_front (Some xs) None bs P Q h on is = absurd h
read_front (Some xs) (Some ys) bs P Q h on is = subst P (sym h) (on ys is)

-- ---- a buffer that is filled

pub filled_front : (from n : ℕ) (buf part : List ℕ) → from ≤ length buf → n ≤ length part → take (from + n) (put_mid from (length buf - from) buf part) ≡ take from buf ++ take n part
filled_front from n buf part long fits =
    ap (λ m. take (m + n) (put_mid from (length buf - from) buf part)) (sym (length-take-le from buf long)) ∙ within (take from buf) part _ n fits

pub kept_front : (from : ℕ) (buf part : List ℕ) → from ≤ length buf → take from (put_mid from (length buf - from) buf part) ≡ take from buf
kept_front from buf part long =
    let front = length-take-le from buf long in
    take-append-le from (take from buf) _ (omega (arith, front)) ∙ take-take from from buf (le_refl from)

-- ---- records in pieces of 170

pub seen_on : (r : Records) (read more : List ℕ) (pieces n : ℕ) → length read ≡ 4080 * pieces → length (read ++ more) / 24 ≡ n → AreSeen r (leases_in read (170 * pieces) ++ leases_in more (length more / 24)) →
    AreSeen r (leases_in (read ++ more) n)
seen_on r read more pieces n size is seen =
    let whole : length read ≡ 24 * (170 * pieces) = omega arith in
    let joined : length (read ++ more) ≡ length read + length more = length-append read more in
    let count : (170 * pieces) + length more / 24 ≡ n = omega arith in
    subst (λ m. AreSeen r (leases_in (read ++ more) m)) count (subst (AreSeen r) (sym (leases_in-append (170 * pieces) (length more / 24) read more whole)) seen)

-- what is so of all records, where the last piece came
pub whole_seen : (r : Records) (a b c : Option (List ℕ)) (read buffer : List ℕ) (pieces count : ℕ) (P : List ℕ → Type 0) → count ≤ length buffer → length read ≡ 4080 * pieces →
    Consumes a b read → Consumes b c (take count buffer) → IsAtEnd c → AreSeen r (leases_in read (170 * pieces) ++ leases_in (take count buffer) (length (take count buffer) / 24)) →
    ((records : List ℕ) → length records ≡ pieces * 4080 + count → AreSeen r (leases_in records (length records / 24)) → P records) → IfSome a P
whole_seen r a b c read buffer pieces count P fits size before came end seen then =
    let more = take count buffer in
    let taken = length-take-le count buffer fits in
    let both = length-append read more in
    Consumes-whole a c (read ++ more) P (Consumes-trans a b c read more before came) end
    (then (read ++ more) (omega (arith, both, taken, size)) (seen_on r read more pieces (length (read ++ more) / 24) size refl seen))

-- ---- the bytes that name the format, in front of records

behind_magic : (first records : List ℕ) → bytes_eq first magic ≡ true → certificate_of (first ++ records) ≡ records_of records
unfolding certificate_of
behind_magic first records named = let is : first ≡ magic = (bytes_eq-Decides first magic).0 named in rw is refl

shown_behind : (first records : List ℕ) (why : NoCertificate) → bytes_eq first magic ≡ true → IsShownBehind records why → IsShown (first ++ records) why
shown_behind first records (OtherMagic bytes count) named shown = absurd shown
shown_behind first records (OtherLength behind) named shown = let is : first ≡ magic = (bytes_eq-Decides first magic).0 named in rw is shown
shown_behind first records (OtherField bad) named shown = let is : first ≡ magic = (bytes_eq-Decides first magic).0 named in rw is shown

pub leases_behind : {X E : Type 0} (items : X → List Lease) (a b : Option (List ℕ)) (first : List ℕ) (r : Result X E) → Consumes a b first → bytes_eq first magic ≡ true →
    IfOk r (λ x. IfSome b (λ records. records_of records ≡ Ok (items x))) → IfOk r (λ x. IfSome a (λ bytes. certificate_of bytes ≡ Ok (items x)))
leases_behind items a b first (Ok x) came named is =
    read_front a b first (λ bytes. certificate_of bytes ≡ Ok (items x)) (λ records. records_of records ≡ Ok (items x)) came (λ records read. behind_magic first records named ∙ read) is
leases_behind items a b first (Err e) came named is = tt

pub unread_behind : {X : Type 0} (a b : Option (List ℕ)) (first : List ℕ) (r : Result X Unread) → Consumes a b first → bytes_eq first magic ≡ true →
    IfErr r (λ unread. IfSome b (λ records. AreUnread records unread)) → IfErr r (λ unread. IfSome a (λ bytes. IsUnread bytes unread))
unread_behind a b first (Ok x) came named is = tt
unread_behind a b first (Err (Bytes why)) came named is =
    read_front a b first (λ bytes. IsUnread bytes (Bytes why)) (λ records. AreUnread records (Bytes why)) came
    (λ records unread. (behind_magic first records named ∙ unread.0, shown_behind first records why named unread.1)) is
unread_behind a b first (Err (Failed error)) came named is =
    read_front a b first (λ bytes. IsUnread bytes (Failed error)) (λ records. AreUnread records (Failed error)) came (λ records unread. tt) is

-- bytes that begin otherwise, or end before
first_eight : (first rest : List ℕ) → length first ≤ 8 → (length first < 8 → rest ≡ []) → take 8 (first ++ rest) ≡ first
first_eight first rest few end =
    elim (cases_lt (length first) 8) [
      | inl short ↦ ap (λ l. take 8 (first ++ l)) (end short) ∙ ap (take 8) (append-nil first) ∙ take_all 8 first few
      | inr long ↦ take-append-le 8 first rest long ∙ take_all 8 first few
    ]

no_magic : (bytes first : List ℕ) → take 8 bytes ≡ first → bytes_eq first magic ≡ false → certificate_of bytes ≡ Err Magic
unfolding certificate_of
no_magic bytes first front other = rw (front, other) refl

pub other_magic : (a b : Option (List ℕ)) (buffer : List ℕ) (count : ℕ) → length buffer ≡ 8 → count ≤ length buffer → Consumes a b (take count buffer) → (count < length buffer → IsAtEnd b) →
    bytes_eq (take count buffer) magic ≡ false → IfSome a (λ bytes. IsUnread bytes (Bytes (OtherMagic buffer count)))
other_magic None b buffer count size fits came end other = tt
other_magic (Some bytes) None buffer count size fits came end other = absurd came
other_magic (Some bytes) (Some rest) buffer count size fits came end other =
    let long = length-take-le count buffer fits in
    let front : take 8 bytes ≡ take count buffer = ap (take 8) came ∙ first_eight (take count buffer) rest (omega (arith, long)) (λ short. end (omega (arith, long, short))) in
    (no_magic bytes (take count buffer) front other, (sym front, sym (ap length front ∙ long)))

-- A list that agrees is whole where it has as many leases, and as many without an end
use Rattle.leases.proofs.BaseWords.{◌≡◌, ◌≤◌, ◌∷◌, true, false, List, [], filter, length, map, arith, refl, eqb-true, eq-eqb, and_parts, and_from, false≢true, Lease, as_lease, Lent, is_unended, lease_of, agree, agrees, begins_as, has_words_of, is_endless, rules}

same_fields : (l m : Lease) → l.kind ≡ m.kind → l.ring ≡ m.ring → l.pos ≡ m.pos → l.from ≡ m.from → l.to ≡ m.to → l ≡ m
same_fields l m k r p f t = search rules

-- the end of what was lent is that of its lease
pub end_is : (t : Lent) → (lease_of t).to ≡ t.to
unfolding lease_of as_lease
end_is t = search rules

-- what agrees: the lease of what is over is its lease, and has an end
pub data Agrees (t : Lent) (l : Lease) : Type 0 where
  over : is_unended t ≡ false → is_endless l ≡ false → l ≡ lease_of t → Agrees t l
  still : is_unended t ≡ true → is_endless l ≡ true → l ≡ lease_of t → Agrees t l
  ends : is_unended t ≡ true → is_endless l ≡ false → Agrees t l

pub agreeing : (t : Lent) (l : Lease) → agrees t l ≡ true → Agrees t l
unfolding agrees is_unended is_endless begins_as has_words_of
agreeing t l e = search (rules, and_parts, same_fields, eqb-true, end_is)

fewer : (ts : List Lent) (ls : List Lease) → agree ts ls ≡ true → length ts ≡ length ls → length (filter is_endless ls) ≤ length (filter is_unended ts)
unfolding agree
fewer [] [] e f = omega arith
fewer (t ∷ ts) (l ∷ ls) e f = grind (arith, and_parts, agreeing t l, fewer ts ls)
fewer _ _ e f = cc

-- the list is the leases of what was lent
pub whole : (ts : List Lent) (ls : List Lease) → agree ts ls ≡ true → length ts ≡ length ls → length (filter is_endless ls) ≡ length (filter is_unended ts) → ls ≡ map lease_of ts
unfolding agree
whole [] [] e f n = refl
whole (t ∷ ts) (l ∷ ls) e f n = grind (arith, and_parts, agreeing t l, fewer ts ls, whole ts ls)
whole _ _ e f n = cc

pub own_agree : (ts : List Lent) → agree ts (map lease_of ts) ≡ true
unfolding agree agrees begins_as has_words_of
own_agree [] = refl
own_agree (t ∷ ts) = and_from (agrees t (lease_of t)) (agree ts (map lease_of ts)) (search (rules, eq-eqb, end_is)) (own_agree ts)

pub own_count : (ts : List Lent) → length (filter is_endless (map lease_of ts)) ≡ length (filter is_unended ts)
unfolding is_endless is_unended
own_count [] = refl
own_count (t ∷ ts) = search (rules, false≢true, end_is, own_count ts)

-- The list is followed when a lease begins, and when one ends
use Rattle.leases.proofs.UpperLaws.{◌≡◌, ◌≢◌, ◌+◌, ◌&&◌, ◌||◌, ◌∷◌, ◌++◌, ◌∙◌, ℕ, suc, Bool, true, false, not, List, [], filter, length, map, slice_get, arith, sym, refl, inl, inr, list_any, cases_Bool, and_parts, false≢true, length-map, Header, Lease, Leased, same_leased, as_lease, without_end, leased_is, IndexTables, AllUnended, Lent, begun_at, ended_where, is_unended, share_a_place, with_begun, FollowedList, agree, begins_as, test_of, FindsPlaces, IsCrossed, IsOnlyAt, RingPlace, has_place, is_open_of, number_at, Begins, Ends, FollowsList, KnowsOpen, rules, all_ended, agree_begun, agree_unended, begun_is_unended, agree_ended, never_ends, none_there, one_fewer, open_alike, first_one, none_less, only_alike, only_more, IsNumbered, share_alike}
use Rattle.leases.proofs.CertificateLogs.Ending.{none_ends}

length_more : (ts : List Lent) (t : Lent) → length (ts ++ t ∷ []) ≡ suc (length ts)
length_more [] t = refl
length_more (s ∷ ts) t = search (rules, length_more ts t)

count_more : (ts : List Lent) (t : Lent) → is_unended t ≡ true → length (filter is_unended (ts ++ t ∷ [])) ≡ suc (length (filter is_unended ts))
count_more [] t e = rw e refl
count_more (s ∷ ts) t e = search (rules, count_more ts t e)

crossed_more : (h : Header) (n : ℕ) (ts : List Lent) (t : Lent) → IsCrossed h t.leased → AllUnended (λ i l. IsCrossed h l) n ts → AllUnended (λ i l. IsCrossed h l) n (ts ++ t ∷ [])
crossed_more h n [] t crossed all = (λ u. crossed, tt)
crossed_more h n (s ∷ ts) t crossed all = (all.0, crossed_more h (n + 1) ts t crossed all.1)

not_both : (a b : Bool) → (not a || not b) ≡ not (a && b)
not_both a b = grind arith

module _ (leases : List Lease) (h : Header) (ts : List Lent) (old : FollowedList) (blocks links : IndexTables) (follows : FollowsList leases h ts old blocks links)
    (l : Leased) (row : ℕ) (new : FollowedList) (new_blocks new_links : IndexTables) where
  pub goes_on : Begins (as_lease row without_end l) old new → IsNumbered h blocks links new_blocks new_links l new.begun → list_any (is_open_of (share_a_place h l)) ts ≡ false → IsCrossed h l →
      FollowsList leases h (with_begun row ts (l ∷ [])) new new_blocks new_links
  unfolding with_begun begun_at
  goes_on begins numbered free crossed = record {
    same = begins.leases ∙ follows.same;
    begun = count ∙ sym (length_more ts (begun_at row l));
    differs = search (rules, begins.differs, follows.differs, follows.same, follows.begun, not_both, more);
    known = λ agreed. knows (and_parts (agree ts leases) (test_of G (slice_get leases (length ts))) (sym more ∙ agreed)).0;
  }
    where
      G : Lease → Bool
      G = λ m. begins_as m (as_lease row without_end l)

      count : new.begun ≡ suc (length ts)
      count = omega (arith, begins.begun, follows.begun)

      more : agree (with_begun row ts (l ∷ [])) leases ≡ (agree ts leases && test_of G (slice_get leases (length ts)))
      more = agree_begun row l ts leases

      places : FindsPlaces h ts blocks links → FindsPlaces h (ts ++ begun_at row l ∷ []) new_blocks new_links
      places found m = elim (cases_Bool (has_place h m l)) [
        | inl shares ↦
            rw (numbered.there m shares ∙ count) (first_one (is_open_of (has_place h m)) (begun_at row l) ts (rw (begun_is_unended row l) shares)
            (none_less (share_a_place h l) (has_place h m) (λ x e. share_alike h m l shares x ∙ e) ts free))
        | inr apart ↦ rw (numbered.others m apart) (only_more (is_open_of (has_place h m)) (begun_at row l) (number_at blocks links m) ts (rw (begun_is_unended row l) apart) (found m))
      ]

      knows : agree ts leases ≡ true → KnowsOpen h (with_begun row ts (l ∷ [])) new new_blocks new_links
      knows agreed =
          let known = follows.known agreed in record {
            count = omega (arith, begins.unended, known.count, count_more ts (begun_at row l) (begun_is_unended row l));
            places = places known.places;
            crossed = crossed_more h 0 ts (begun_at row l) crossed known.crossed;
          }

  abbrev after : List Lent
  after = map (ended_where (same_leased l) row) ts

  disagrees : agree ts leases ≡ false → agree after leases ≡ false
  disagrees e = search (rules, false≢true, agree_unended)

  -- where it isn't lent, nothing ends
  pub stays : (agree ts leases ≡ true → list_any (is_open_of (same_leased l)) ts ≡ false) → FollowsList leases h after old blocks links
  stays none = search (rules, none_ends, length-map, disagrees, false≢true)

  pub never : row ≡ without_end → FollowsList leases h after old blocks links
  never e = search (rules, never_ends)

  module _ (index : ℕ) (early : row ≢ without_end) where
    -- it stands at this index, and has its number in the tables
    pub ends_so : Ends index row old new → IsNumbered h blocks links new_blocks new_links l 0 → (agree ts leases ≡ true → IsOnlyAt (is_open_of (same_leased l)) index ts) →
        (agree ts leases ≡ true → (m : RingPlace) → has_place h m l ≡ true → number_at blocks links m ≡ suc index) → FollowsList leases h after new new_blocks new_links
    ends_so ends numbered only number = search (rules, length-map, agree_unended, agree_ended, disagrees, none_there, only_alike, open_alike, leased_is, one_fewer, all_ended)

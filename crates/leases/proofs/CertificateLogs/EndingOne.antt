-- One lease ends at a row, if it is open
use Rattle.leases.proofs.UpperLaws.{◌≡◌, ◌-◌, ◌<◌, ◌==◌, ◌&&◌, ◌∙◌, ℕ, suc, Bool, true, false, not, List, map, slice_get, arith, sym, ap, eqb-true, eq-eqb, list_any, cases_Bool, and_parts, false≢true, Header, Lease, Leased, same_leased, as_lease, without_end, IndexTables, Lent, ended_where, share_a_place, FollowedList, agree, has_words_of, test_of, IsCrossed, IsOnly, IsOnlyAt, RingPlace, has_place, is_open_of, number_at, Ends, FollowsList, at_less, none_less, apart_less, IsNumbered, number_alike, number_of, places_of, rules}
use Rattle.leases.proofs.CertificateLogs.Following.{ends_so, never, stays}
use Rattle.leases.proofs.CertificateLogs.Words.{HasWords}

module _ (leases : List Lease) (h : Header) (ts : List Lent) (old : FollowedList) (blocks links : IndexTables) (follows : FollowsList leases h ts old blocks links) (l : Leased) (row : ℕ) where
  abbrev after : List Lent
  after = map (ended_where (same_leased l) row) ts

  -- the row has a number, and the list such words at the index
  abbrev is_found : ℕ → Lease → Bool
  is_found index x = not (row == without_end) && test_of (has_words_of x) (slice_get old.leases.now index)

  -- of a test that it passes, and a lease of the list's with its words: it is the one that is open, or none is
  module _ (index : ℕ) (S : Leased → Bool) (less : (x : Leased) → S x ≡ false → same_leased l x ≡ false) (at : agree ts leases ≡ true → IsOnlyAt (is_open_of S) index ts)
      (words : HasWords S (IsCrossed h) l row) (x : Lease) (is : x ≡ as_lease row without_end l) where
    abbrev Decides : Type 0
    Decides = (test_of (has_words_of x) (slice_get leases index) ≡ true → IsOnlyAt (is_open_of (same_leased l)) index ts) ×
        (test_of (has_words_of x) (slice_get leases index) ≡ false → list_any (is_open_of (same_leased l)) ts ≡ false)

    decides : agree ts leases ≡ true → Decides
    decides agreed = at_less S (same_leased l) less (IsCrossed h) (has_words_of x) (λ t m same unended crossed. ap (λ y. has_words_of y m) is
        ∙ words t m same unended crossed) index 0 ts leases agreed (follows.known agreed).crossed (at agreed)

    same_lease : test_of (has_words_of x) (slice_get leases index) ≡ test_of (has_words_of x) (slice_get old.leases.now index)
    same_lease = ap (λ xs. test_of (has_words_of x) (slice_get xs index)) (sym follows.same)

    -- it has other words, or the row has no number
    pub another_there : is_found index x ≡ false → FollowsList leases h after old blocks links
    another_there fails = search (rules, cases_Bool (row == without_end), never leases h ts old blocks links follows l row old blocks links, eqb-true, stays leases h ts old blocks links follows l row old blocks links, decides, same_lease)

    -- it has these words: it ends
    pub this_there : (new : FollowedList) (new_blocks new_links : IndexTables) → is_found index x ≡ true → Ends index row old new → IsNumbered h blocks links new_blocks new_links l 0 →
        (agree ts leases ≡ true → (m : RingPlace) → has_place h m l ≡ true → number_at blocks links m ≡ suc index) → FollowsList leases h after new new_blocks new_links
    this_there new new_blocks new_links holds ends numbered number = search (rules, and_parts, false≢true, eq-eqb, ends_so leases h ts old blocks links follows l row new new_blocks new_links index, decides, same_lease)

  placed : (n : ℕ) → number_of h blocks links l ≡ n → agree ts leases ≡ true → IsOnly (is_open_of (share_a_place h l)) n ts
  placed n numbered agreed = rw (← numbered) (places_of h ts blocks links (follows.known agreed).places l)

  module _ (shares : share_a_place h l l ≡ true) where
    -- its place has no number: none is open there
    pub none_numbered : number_of h blocks links l ≡ 0 → FollowsList leases h after old blocks links
    none_numbered none =
        stays leases h ts old blocks links follows l row old blocks links (λ agreed. none_less (share_a_place h l) (same_leased l) (apart_less h l shares) ts (placed 0 none agreed))

    module _ (words : HasWords (share_a_place h l) (IsCrossed h) l row) (x : Lease) (is : x ≡ as_lease row without_end l) (number : ℕ) (numbered : number_of h blocks links l ≡ number) (some : 0 < number) where
      next : number ≡ suc (number - 1)
      next = omega (arith, some)

      -- the number is that of another lease
      pub another_numbered : is_found (number - 1) x ≡ false → FollowsList leases h after old blocks links
      another_numbered fails =
          another_there (number - 1) (share_a_place h l) (apart_less h l shares) (placed (suc (number - 1)) (numbered ∙ next)) words x is fails

      -- it is that of this one
      pub this_numbered : (new : FollowedList) (new_blocks new_links : IndexTables) → is_found (number - 1) x ≡ true → Ends (number - 1) row old new →
          IsNumbered h blocks links new_blocks new_links l 0 → FollowsList leases h after new new_blocks new_links
      this_numbered new new_blocks new_links holds ends cleared =
          this_there (number - 1) (share_a_place h l) (apart_less h l shares) (placed (suc (number - 1)) (numbered ∙ next)) words x is new new_blocks new_links holds ends cleared
          (λ agreed m alike. number_alike h blocks links m l alike ∙ numbered ∙ next)

-- A lease of the list has the words of what ends
use Rattle.leases.proofs.BaseWords.{◌≡◌, ℕ, ◌<◌, ◌==◌, ◌&&◌, ◌||◌, Bool, true, sym, ◌∙◌, ap, refl, is_open_as, agrees, begins_as, has_words_of, IsCrossed, is_open_of, and_parts, eqb-true, crossing_positive, Header, shape_of, Lease, Leased, Block, Link, Range, Use, same_leased, as_lease, without_end, leased_is, Lent, is_unended, lease_of}
use Rattle.leases.proofs.LeaseBooks.Ending.{IsPositive, block_alike, link_alike}
use Rattle.leases.proofs.LeaseBooks.EndingRange.{range_alike}
use Rattle.leases.proofs.CertificateLogs.Whole.{end_is}

module _ (t : Lent) (m : Lease) (same : agrees t m ≡ true) (unended : is_unended t ≡ true) (x : Lease) where
  -- as the lease of what was lent
  pub words_alike : has_words_of x m ≡ is_open_as x (lease_of t)
  unfolding agrees begins_as has_words_of is_open_as is_unended
  words_alike =
      let all = and_parts (begins_as m (lease_of t)) (is_unended t || m.to == t.to) same in
      let from = and_parts (has_words_of m (lease_of t)) (m.from == (lease_of t).from) all.0 in
      let pos = and_parts (m.kind == (lease_of t).kind && m.ring == (lease_of t).ring) (m.pos == (lease_of t).pos) from.0 in
      let ring = and_parts (m.kind == (lease_of t).kind) (m.ring == (lease_of t).ring) pos.0 in
      let to : ((lease_of t).to == without_end) ≡ true = ap (λ n. n == without_end) (end_is t) ∙ unended in
      rw (to, eqb-true m.kind (lease_of t).kind ring.0, eqb-true m.ring (lease_of t).ring ring.1, eqb-true m.pos (lease_of t).pos pos.1) refl

abbrev pub HasWords : (Leased → Bool) → (Leased → Type 0) → Leased → ℕ → Type 0
HasWords S C l row = (t : Lent) (m : Lease) → agrees t m ≡ true → is_open_of S t ≡ true → C t.leased → has_words_of (as_lease row without_end l) m ≡ is_open_of (same_leased l) t

module _ (h : Header) (row : ℕ) (S : Leased → Bool) where
  unended_of : (t : Lent) → is_open_of S t ≡ true → is_unended t ≡ true
  unended_of t e = (and_parts (is_unended t) (S t.leased) e).0

  positive : (l : Leased) → IsCrossed h l → IsPositive l
  positive (Block r p) crossed = tt
  positive (Link r q) crossed = crossing_positive (shape_of h r) q crossed
  positive (Range n a e) crossed = tt

  pub block_words : (r p : ℕ) → HasWords S (IsCrossed h) (Block r p) row
  block_words r p t m same at crossed =
      words_alike t m same (unended_of t at) (as_lease row without_end (Block r p)) ∙ block_alike r p row without_end t

  pub link_words : (r q : ℕ) → 0 < q → HasWords S (IsCrossed h) (Link r q) row
  link_words r q above t m same at crossed =
      words_alike t m same (unended_of t at) (as_lease row without_end (Link r q)) ∙ link_alike r q row without_end t above (λ u. positive t.leased crossed)

pub range_words : (h : Header) (row n a : ℕ) (e : Use) → HasWords (same_leased (Range n a e)) (IsCrossed h) (Range n a e) row
range_words h row n a e t m same at crossed =
    let parts = and_parts (is_unended t) (same_leased (Range n a e) t.leased) at in
    words_alike t m same parts.0 (as_lease row without_end (Range n a e)) ∙ range_alike row n a e t parts.0 (sym (leased_is (Range n a e) t.leased parts.1)) ∙ sym at

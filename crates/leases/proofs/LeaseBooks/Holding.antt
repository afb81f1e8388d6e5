-- The book still holds what was and is lent, when a lease ends
use Rattle.leases.proofs.BaseWords.{rules, ◌≡◌, ◌<◌, ◌∙◌, ℕ, List, map, arith, sym, ap, place_of, link_of, crossing_positive, Header, shape_of, Lease, Leased, Block, Link, same_leased, as_lease, without_end, LeaseBook, Lent, lease_of, ended_where, index_at, IsFound, HoldsLents, ended_at, is_open_as}
use Rattle.leases.proofs.LeaseBooks.Ending.{IsPositive, block_alike, link_alike, one_ends}

module _ (h : Header) (ts : List Lent) (b : LeaseBook) (known : HoldsLents h ts b) (r p n m : ℕ) (x : Lease) (ys : List Lease) where
  abbrev F : ℕ → Leased → Type 0
  F = IsFound h b.blocks b.links

  positive : (j : ℕ) (l : Leased) → F j l → IsPositive l
  positive j v found = search (rules, crossing_positive, shape_of)

  pub block_ends : m ≡ place_of (shape_of h r) p → x ≡ as_lease n without_end (Block r p) → ys ≡ ended_at x n (index_at b.blocks r m) b.leases.items →
      ys ≡ map lease_of (map (ended_where (same_leased (Block r p)) n) ts)
  block_ends place e f =
      f ∙ ap (ended_at x n (index_at b.blocks r m)) known.list
      ∙ one_ends F (Block r p) n x IsPositive positive (λ t positive. ap (λ y. is_open_as y (lease_of t)) e ∙ block_alike r p n without_end t) 0 (index_at b.blocks r m) ts
      (λ j found. sym found ∙ ap (index_at b.blocks r) (sym place) ∙ omega arith) known.found

  pub link_ends : 0 < p → m ≡ link_of (shape_of h r) p → x ≡ as_lease n without_end (Link r p) → ys ≡ ended_at x n (index_at b.links r m) b.leases.items →
      ys ≡ map lease_of (map (ended_where (same_leased (Link r p)) n) ts)
  link_ends above place e f =
      f ∙ ap (ended_at x n (index_at b.links r m)) known.list
      ∙ one_ends F (Link r p) n x IsPositive positive (λ t positive. ap (λ y. is_open_as y (lease_of t)) e ∙ link_alike r p n without_end t above positive) 0 (index_at b.links r m) ts
      (λ j found. sym found.1 ∙ ap (index_at b.links r) (sym place) ∙ omega arith) known.found

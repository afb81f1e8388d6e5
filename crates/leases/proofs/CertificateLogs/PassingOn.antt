-- The walk along a ring passes a position at which no Link is crossed
use Rattle.leases.proofs.UpperLaws.{rules, false_unless, ◌≡◌, ◌+◌, ◌≤◌, ◌||◌, ◌∙◌, ℕ, Bool, false, not, List, map, sym, false≢true, length-map, is_crossing, Header, shape_of, Lease, Leased, Block, same_leased, IndexTables, Lent, ended_where, is_passed, FollowedList, agree, IsCrossed, FollowsList, ended_alike, passed_block, agree_unended, number_of}

module _ (leases : List Lease) (h : Header) (ts : List Lent) (list : FollowedList) (blocks links : IndexTables) (follows : FollowsList leases h ts list blocks links) (p q : Leased → Bool) (row : ℕ)
    (alike : (l : Leased) → IsCrossed h l → p l ≡ q l) where
  abbrev by_one : List Lent
  by_one = map (ended_where p row) ts

  abbrev by_other : List Lent
  by_other = map (ended_where q row) ts

  differs : (over : Leased → Bool) → agree ts leases ≡ false → agree (map (ended_where over row) ts) leases ≡ false
  differs over e = false_unless _ (λ agreed. false≢true (sym e ∙ agree_unended over row ts leases agreed))

  -- tests that agree on what can be crossed end alike, while the list agrees; another list stays another one
  pub ended_so : (new : FollowedList) (new_blocks new_links : IndexTables) → FollowsList leases h by_one new new_blocks new_links → FollowsList leases h by_other new new_blocks new_links
  ended_so new new_blocks new_links ended = search (rules, agree, ended_alike, IsCrossed, Lent, FollowsList, length-map, ended_where, differs, not, false≢true)

-- a block was passed
pub passed_on : (leases : List Lease) (h : Header) (ts : List Lent) (list : FollowedList) (blocks links : IndexTables) → FollowsList leases h ts list blocks links → (r from n row : ℕ) → from ≤ n →
    is_crossing (shape_of h r) n ≡ false → (new : FollowedList) (new_blocks new_links : IndexTables) →
    FollowsList leases h (map (ended_where (λ l. is_passed r from n l || same_leased (Block r n) l) row) ts) new new_blocks new_links →
    FollowsList leases h (map (ended_where (is_passed r from (n + 1)) row) ts) new new_blocks new_links
passed_on leases h ts list blocks links follows r from n row least none =
    ended_so leases h ts list blocks links follows (λ l. is_passed r from n l || same_leased (Block r n) l) (is_passed r from (n + 1)) row
    (λ l crossed. passed_block h blocks links r from n (number_of h blocks links l) l least none (search rules))

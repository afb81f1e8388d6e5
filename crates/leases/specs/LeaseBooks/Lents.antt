-- How the leases of a trace grow by one row: those that are over end at it, and those that begin follow, by the rings that are there before the
-- row and behind it
use Rattle.std.specs.Prelude.{ℕ, ◌+◌, ◌==◌, ◌&&◌, if◌then◌else◌, Bool, false, not, nat_le, nat_lt, List, [], ◌∷◌, ◌++◌, length, map, filter}
use Rattle.std.specs.List.{list_any}
use Rattle.segments.specs.Places.{place_of}
use Rattle.segments.specs.Givings.{link_of}
use Rattle.traces.specs.declared.header.Header.{Header}
use Rattle.traces.specs.declared.row.Row.{Row}
use Rattle.traces.specs.Header.{shape_of}
use Rattle.ring_knowledge.specs.declared.lease.Lease.{Lease}
use Rattle.ring_knowledge.specs.Known.{Known}
use Rattle.ring_knowledge.specs.Histories.{header_now, known_now}
use Rattle.ring_knowledge.specs.LearnedOrReset.{learned_or_reset}
use Rattle.ownership_rules.specs.OpenLeases.{Leased, Block, Link, Range, is_among, open_leases}
use Rattle.ownership_rules.specs.Leases.{as_lease, comes_before, without_end}

-- what is leased, and between which rows
pub record Lent : Type 0 where
  pub leased : Leased
  pub from : ℕ
  pub to : ℕ

unfoldable pub lease_of : Lent → Lease
lease_of t = as_lease t.from t.to t.leased

-- it isn't over
unfoldable pub is_unended : Lent → Bool
is_unended t = t.to == without_end

unfoldable pub begun_at : ℕ → Leased → Lent
begun_at n l = record { leased = l; from = n; to = without_end }

-- at row n it is over, where the test holds
unfoldable pub ended_where : (Leased → Bool) → ℕ → Lent → Lent
ended_where over n t = if is_unended t && over t.leased then record t { to = n } else t

-- with what begins at row n
unfoldable pub with_begun : ℕ → List Lent → List Leased → List Lent
with_begun n lents begun = lents ++ map (begun_at n) begun

-- what begins at one row stands in the order of its leases: by kind, ring and position
unfoldable pub precedes : Leased → Leased → Bool
precedes a b = comes_before (as_lease 0 0 a) (as_lease 0 0 b)

unfoldable pub with_leased : Leased → List Leased → List Leased
with_leased l [] = l ∷ []
with_leased l (m ∷ rest) = if precedes l m then l ∷ m ∷ rest else m ∷ with_leased l rest

unfoldable pub in_turn : List Leased → List Leased
in_turn [] = []
in_turn (l ∷ rest) = with_leased l (in_turn rest)

-- what is open behind a row and wasn't before it
abbrev pub newly_open : List Leased → List Leased → List Leased
newly_open before after = filter (λ l. not (is_among before l)) after

-- row n more, with what is open before and behind it: what isn't open any more is over, and what is newly open begins
unfoldable pub passed_on : List Leased → List Leased → ℕ → List Lent → List Lent
passed_on before after n lents = with_begun n (map (ended_where (λ l. not (is_among after l)) n) lents) (in_turn (newly_open before after))

module _ (h : Header) where
  -- with row n more, of which no ring comes or goes, and no descriptor is withdrawn
  unfoldable pub grown : Known → Row → ℕ → List Lent → List Lent
  grown k row n lents = passed_on (open_leases h k) (open_leases h (learned_or_reset h k row)) n lents

  -- the leases that are open behind the rows so far, the newest first
  abbrev pub open_now : List Row → List Leased
  open_now past = open_leases (header_now h past) (known_now h past)

  -- what was and is lent behind them; `first` is the number of the oldest
  unfoldable pub lents : ℕ → List Row → List Lent
  lents first [] = with_begun 0 [] (in_turn (open_now []))
  lents first (row ∷ past) = passed_on (open_now past) (open_now (row ∷ past)) (first + length past) (lents first past)

-- the block, or the Link, of a ring is passed on the way from one number to another
abbrev pub is_passed : ℕ → ℕ → ℕ → Leased → Bool
is_passed r from to (Block s p) = r == s && nat_le from p && nat_lt p to
is_passed r from to (Link s q) = r == s && nat_le from q && nat_lt q to
is_passed r from to (Range n a e) = false

-- both are blocks with one place, or Links with one segment, of one ring
abbrev pub share_a_place : Header → Leased → Leased → Bool
share_a_place h (Block r p) (Block s q) = r == s && place_of (shape_of h r) p == place_of (shape_of h s) q
share_a_place h (Link r p) (Link s q) = r == s && link_of (shape_of h r) p == link_of (shape_of h s) q
share_a_place h _ _ = false

-- what is lent and not over shares no place with it
unfoldable pub is_place_free : Header → List Lent → Leased → Bool
is_place_free h lents l = not (list_any (λ t. is_unended t && share_a_place h l t.leased) lents)

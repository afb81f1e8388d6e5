-- Before the first row the event ring's segments are found from index 0 on
use Rattle.leases.proofs.MiddleLaws.{◌≡◌, ℕ, [], Header, RangeIndexes, FindsRanges, lents, open_at_first, segments_begin}

pub first_ranges : (h : Header) (first : ℕ) (x : RangeIndexes) → x.segments ≡ 0 → FindsRanges h (lents h first []) x
unfolding lents
first_ranges h first x none = rw (open_at_first h) (segments_begin h x 0 [] none tt)

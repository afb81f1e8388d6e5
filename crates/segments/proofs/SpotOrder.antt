-- Spots in their order, where they lie, and what the controller's cycle is there
use Rattle.segments.proofs.MiddleLaws.{◌≡◌, ◌+◌, ◌*◌, ◌<◌, ◌≤◌, ◌⊎◌, ℕ, true, false, cases_lt, cond-true, cond-false, false≢true, Evt, Spot, Data, Link, Shape, place_count, place_of, address_of, cycle_of, is_crossing, link_address, IsSpot, rank, number, after, next, spot_address, spot_cycle, IsShape, rules, place_not_link, place_of-next_lap, place_below, same_position, cycle_of-next, crosses, crossed_link, link_address_is, same_crossing_at, link_address-behind, address_of-behind, crossing_at_end}

pub rank_least : (s : Spot) → 2 * number s ≤ rank s
rank_least s = search rules

pub rank_most : (s : Spot) → rank s ≤ 2 * number s + 1
rank_most s = search rules

-- no two spots have one rank
pub same_rank : (s t : Spot) → rank s ≡ rank t → s ≡ t
same_rank s t h3 = search rules

pub after_is : (shape : Shape) (p : ℕ) → ((is_crossing shape (p + 1) ≡ true) × (after shape p ≡ Link (p + 1))) ⊎ ((is_crossing shape (p + 1) ≡ false) × (after shape p ≡ Data (p + 1)))
after_is shape p = search (rules, cond-true, cond-false)

-- the next spot is one
pub next_is_spot : (shape : Shape) (s : Spot) → IsSpot shape (next shape s)
next_is_spot shape s = search (rules, after_is)

-- and it is later
pub next_later : (shape : Shape) (s : Spot) → rank s < rank (next shape s)
next_later shape s = search (rules, after_is)

-- no spot lies between the two
pub next_least : (shape : Shape) (s t : Spot) → IsSpot shape t → rank s < rank t → rank (next shape s) ≤ rank t
next_least shape s t h4 h5 = search (rules, after_is, false≢true)

-- ---- where spots lie

pub data_not_link : (shape : Shape) → IsShape shape → (p q : ℕ) → is_crossing shape q ≡ true → address_of shape p ≡ link_address shape q → ⊥
data_not_link shape is p q crossing same =
    let found = crossed_link shape q crossing in
    search (rules, link_address_is shape q found.0 found.1, place_not_link shape is (place_of shape p) found.0 (place_below shape is p) (crosses shape q found.0 found.1).link)

-- two spots at one address, less than a lap apart, are one
pub same_spot : (shape : Shape) → IsShape shape → (s t : Spot) → IsSpot shape s → IsSpot shape t → rank s ≤ rank t → rank t < rank s + 2 * place_count shape →
    spot_address shape s ≡ spot_address shape t → s ≡ t
same_spot shape h2 s t h5 h6 h7 h8 h9 = search (rules, same_position, data_not_link, same_crossing_at)

-- the spot behind a block lies right behind it
pub spot_address-after : (shape : Shape) → IsShape shape → (shape.kind ≡ Evt → ⊥) → (p : ℕ) → spot_address shape (after shape p) ≡ address_of shape p + 16
spot_address-after shape is other p = search (rules, after_is, link_address-behind, address_of-behind)

-- and the controller's cycle there is the block's
pub spot_cycle-after : (shape : Shape) → IsShape shape → (shape.kind ≡ Evt → ⊥) → (p : ℕ) → spot_cycle shape (after shape p) ≡ cycle_of shape p
spot_cycle-after shape is other p = search (rules, after_is, cases_lt, cycle_of-next, place_of-next_lap, place_below, false≢true, crossing_at_end)

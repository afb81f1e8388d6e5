-- Which positions an address names
use Rattle.controller_model.proofs.Words.{rules, ◌≡◌, ◌+◌, ◌*◌, ◌<◌, ◌≤◌, ◌∙◌, ◌⊎◌, ℕ, true, Some, is_some, sym, ap, arith, eqb-true, cases_lt, false≢true, or_cases, and_parts, Data, Link, Shape, address_of, place_count, place_of, link_crossed, link_address, place_at, IsShape, cases_option, same_in_lap_of, place_at-address_of, place_at-link_address, is_place}

-- the first word of a position's block
pub at_block : (shape : Shape) → IsShape shape → (a p : ℕ) → address_of shape p ≡ a → place_at shape a ≡ Some (Data (place_of shape p) 0)
at_block shape is a p same =
    let here : address_of shape p + 4 * 0 ≡ a = omega (arith, same) in
    ap (λ x. place_at shape x) (sym here) ∙ place_at-address_of shape is p 0 (omega arith)

-- the first word of the Link that is crossed on the way to a position
pub at_crossing : (shape : Shape) → IsShape shape → (a p i : ℕ) → link_crossed shape p ≡ Some i → link_address shape p ≡ a → place_at shape a ≡ Some (Link i 0)
at_crossing shape is a p i crossed same =
    let here : link_address shape p + 4 * 0 ≡ a = omega (arith, same) in
    ap (λ x. place_at shape x) (sym here) ∙ place_at-link_address shape is p i 0 crossed (omega arith)

-- the block of a position, or the Link before it, lies at an address that names it
pub names : (shape : Shape) (a p : ℕ) → is_place shape a p ≡ true →
    (address_of shape p ≡ a) ⊎ ((i : ℕ) × (link_crossed shape p ≡ Some i) × (link_address shape p ≡ a))
unfolding is_place
names shape a p here = search (rules, or_cases, eqb-true, and_parts, cases_option, false≢true, is_some)

-- of the positions of a lap from one on, one alone lies at a place
pub one_in_lap : (shape : Shape) → IsShape shape → (from p q : ℕ) → from ≤ p → p < from + place_count shape → from ≤ q → q < from + place_count shape →
    place_of shape p ≡ place_of shape q → p ≡ q
one_in_lap shape is from p q low high low' high' same = search (rules, cases_lt, same_in_lap_of)

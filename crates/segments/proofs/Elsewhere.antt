-- What happens outside a ring's segments changes nothing of what the rules keep of it
use Rattle.segments.proofs.MiddleLaws.{◌≡◌, ◌+◌, ◌<◌, ◌∙◌, ℕ, true, ap, Shape, place_of, address_of, is_crossing, link_address, is_inside, IsShape, place_inside, link_inside, place_below, crosses, crossed_link, link_address_is}

-- ---- the bytes of places and Links are the ring's

pub address_inside : (shape : Shape) → IsShape shape → (p b : ℕ) → b < 16 → is_inside shape (address_of shape p + b) ≡ true
address_inside shape is p b h = place_inside shape is (place_of shape p) b (place_below shape is p) h

pub link_address_inside : (shape : Shape) → IsShape shape → (q b : ℕ) → is_crossing shape q ≡ true → b < 16 → is_inside shape (link_address shape q + b) ≡ true
link_address_inside shape is q b crossing h =
    let found = crossed_link shape q crossing in
    ap (λ a. is_inside shape (a + b)) (link_address_is shape q found.0 found.1) ∙ link_inside shape is found.0 b (crosses shape q found.0 found.1).link h

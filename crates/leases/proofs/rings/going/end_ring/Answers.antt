use Rattle.leases.proofs.Laws.{◌≡◌, ◌+◌, ◌≤◌, ◌∙◌, true, ap, arith, subst, floor_number, open_leases, place_count, shape_of, is_among, is_passed, ended_alike, is_of_ring, are_shaped, all_passed}
use Rattle.leases.proofs.rings.going.end_ring.Goals as goal

pub returns : goal.returns
returns g c = λ list h k ts headed shaped follows opened held.
    let id = c.args.ring.now.id in
    let floor = c.floor_number-floor.result in
    let end = floor + c.from.result + 1 in
    let from : floor ≡ floor_number (k.ring id) = c.floor_number-floor.ensures.value c.args.ring.now.shape (k.ring id) follows in
    let to : end ≡ floor_number (k.ring id) + (place_count (shape_of h id) + 1) = omega (arith, from, c.from.ensures, c.places.ensures.count, ap place_count shaped) in
    let rising : floor ≤ end = omega arith in
    subst (λ us. g.B.LeaseLog.holds list h us c.end_passed.new.self)
    (ended_alike (λ i l. is_among (open_leases h k) l ≡ true) (is_passed id floor end) (is_of_ring id) c.args.row 0 ts
    (λ i l is_open. (λ j. is_passed id (from j) (to j) l) ∙ all_passed h k id (are_shaped h headed) l is_open) opened)
    (c.end_passed.ensures list h ts shaped rising held)

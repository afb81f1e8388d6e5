-- The leases that a write begins: those of what it gives
use Rattle.leases.proofs.LowerLaws.{◌≡◌, ◌+◌, ◌<◌, ◌≤◌, ◌&&◌, ◌||◌, ◌∷◌, ◌++◌, ◌∙◌, ℕ, Bool, true, not, List, [], filter, map, zero, suc, arith, ap, refl, cond, append-nil, flat_map, range_with_len, and_parts, and_from, or_left, false≢true, filter-append, Shape, is_crossing, place_count, RingView, Writes, changed, crossings_given, due_crossings, due_positions, floor_number, gives, gives_crossing, is_crossing_due, leased_crossings, leased_positions, is_handed_over, positions_given, Header, Ring, driver_rings, shape_of, Known, Given, Position, Crossing, with_word, Leased, Block, Link, is_among, open_leases, open_on, open_ranges, IsIn, among_is, both_ways, in_among, FreeWasGiven, rules, filter_mapped, map_append, map_map, none_new, flat_alike, InOn, block, either_into, link, from_flat_map, in_flat_map, in_left, in_on, in_right, on_in, each_open, open_are_ranges, ring_open}
use Rattle.ring_knowledge.specs.Rings as rings

-- the lease of what is given
abbrev pub lease_given : Given → Leased
lease_given (Position r p) = Block r p
lease_given (Crossing r q) = Link r q

pub filter_flat_map : {X Y : Type 0} (p : Y → Bool) (f : X → List Y) (xs : List X) → filter p (flat_map f xs) ≡ flat_map (λ x. filter p (f x)) xs
filter_flat_map p f [] = refl
filter_flat_map p f (x ∷ xs) = filter-append p (f x) (flat_map f xs) ∙ ap (λ ys. filter p (f x) ++ ys) (filter_flat_map p f xs)

map_flat_map : {X Y Z : Type 0} (f : Y → Z) (g : X → List Y) (xs : List X) → map f (flat_map g xs) ≡ flat_map (λ x. map f (g x)) xs
map_flat_map f g [] = refl
map_flat_map f g (x ∷ xs) = map_append f (g x) (flat_map g xs) ∙ ap (λ ys. map f (g x) ++ ys) (map_flat_map f g xs)

-- of a range of numbers, those that pass two tests one after the other
filter_range : (p q t : ℕ → Bool) (from n : ℕ) → ((x : ℕ) → from ≤ x → x < from + n → (q x && p x) ≡ t x) → filter p (filter q (range_with_len from n)) ≡ filter t (range_with_len from n)
filter_range p q t from zero same = refl
filter_range p q t from (suc n) same = search (rules, cond, filter, range_with_len, filter_range p q t (from + 1) n (λ x l u. same x (omega arith) (omega arith)))

newly_given : (g s f : Bool) → (f ≡ true → g ≡ true) → (((g || s) && not f) && not (g && not f)) ≡ (not g && s)
newly_given g s f only = grind (arith, false≢true)

newly_crossed : (c g s : Bool) → (s ≡ true → c ≡ true) → ((c && (g || s)) && not (c && g)) ≡ (not g && s)
newly_crossed c g s only = grind arith

-- only a crossing is given as one
gives_crossings : (shape : Shape) (v : RingView) (q a w : ℕ) → gives_crossing shape v.floor q a w ≡ true → is_crossing shape q ≡ true
gives_crossings shape v q a w e = (and_parts _ _ (and_parts _ _ (and_parts _ _ (and_parts (is_crossing_due shape v.floor q && _) _ e).0).0).0).0

-- each command or transfer ring has the shape that its ID names
abbrev pub AreShaped : Header → Type 0
AreShaped h = (q : Ring) → IsIn q (driver_rings h) → shape_of h q.id ≡ q.shape

module _ (h : Header) (shaped : AreShaped h) (k : Known) (freed : FreeWasGiven h k) (a w : ℕ) where
  abbrev IsNew : Leased → Bool
  IsNew l = not (is_among (open_leases h k) l)

  abbrev after : Known
  after = with_word h k a w

  module _ (q : Ring) (among : IsIn q (driver_rings h)) where
    view_after : after.ring q.id ≡ changed q.shape (k.ring q.id) (Writes a w)
    unfolding with_word
    view_after = ap (λ s. changed s (k.ring q.id) (Writes a w)) (shaped q among)

    -- a due position is under lease where it was handed over
    block_was : (p : ℕ) → floor_number (k.ring q.id) ≤ p → p < floor_number (k.ring q.id) + place_count q.shape → is_among (open_leases h k) (Block q.id p) ≡ is_handed_over (k.ring q.id) p
    block_was p low high = both_ways _ _ (λ e. each_open h k (λ l. l ≡ Block q.id p → is_handed_over (k.ring q.id) p ≡ true) (λ s at l on e. grind arith)
        (λ l range e. grind (arith, open_are_ranges h k l range)) (Block q.id p) e refl)
        (λ lent. in_among _ (Block q.id p) (ring_open h k (Block q.id p) q among (block p low high lent)))

    -- and a due crossing
    link_was : (c : ℕ) → floor_number (k.ring q.id) ≤ c → c < floor_number (k.ring q.id) + (place_count q.shape + 1) →
        is_among (open_leases h k) (Link q.id c) ≡ (is_crossing q.shape c && (k.ring q.id).crossed c)
    link_was c low high = both_ways _ _ (λ e. each_open h k (λ l. l ≡ Link q.id c → (is_crossing q.shape c && (k.ring q.id).crossed c) ≡ true)
        (λ s at l on e. grind (arith, shaped s at, shaped q among)) (λ l range e. grind (arith, open_are_ranges h k l range)) (Link q.id c) e refl)
        (λ crossed. in_among _ (Link q.id c) (ring_open h k (Link q.id c) q among (link c low high crossed)))

    new_blocks : filter (λ p. IsNew (Block q.id p)) (leased_positions q.shape (changed q.shape (k.ring q.id) (Writes a w))) ≡ positions_given q.shape (k.ring q.id) a w
    unfolding leased_positions due_positions positions_given
    new_blocks = search (rules, filter_range, block_was, newly_given)

    new_links : filter (λ c. IsNew (Link q.id c)) (leased_crossings q.shape (changed q.shape (k.ring q.id) (Writes a w))) ≡ crossings_given q.shape (k.ring q.id) a w
    unfolding leased_crossings due_crossings crossings_given
    new_links = search (rules, filter_range, link_was, newly_crossed, gives_crossings)

    new_on : filter IsNew (open_on h after q) ≡ map lease_given (rings.given_of h k a w q.id)
    unfolding open_on rings.given_of
    new_on = search (rules, view_after, filter-append, filter_mapped, new_blocks, new_links, shaped q among, map_append, map_map)

    -- what was open on the ring still is
    kept_on : (l : Leased) → InOn q (k.ring q.id) l → InOn q (after.ring q.id) l
    kept_on l h2 = grind (arith, and_parts, view_after, block, and_from, or_left, gives, is_crossing, link, gives_crossing)

  -- on all rings
  pub new_on_rings : filter IsNew (flat_map (open_on h after) (driver_rings h)) ≡ map lease_given (rings.given_by h k a w)
  unfolding rings.given_by
  new_on_rings = search (rules, filter_flat_map, open_on, driver_rings, flat_alike, new_on, map_flat_map)

  pub kept_on_rings : (l : Leased) → IsIn l (flat_map (open_on h k) (driver_rings h)) → IsIn l (flat_map (open_on h after) (driver_rings h))
  kept_on_rings l on = search (rules, in_flat_map, on_in, kept_on, in_on, from_flat_map (open_on h k) (driver_rings h) l on)

  module _ (ranges : open_ranges h after ≡ open_ranges h k) where
    no_new_range : filter IsNew (open_ranges h after) ≡ []
    unfolding open_leases
    no_new_range = rw ranges (none_new (open_leases h k) (open_ranges h k) (search (rules, in_among, in_right)))

    pub new_leases : filter IsNew (open_leases h after) ≡ map lease_given (rings.given_by h k a w)
    unfolding open_leases
    new_leases = search (rules, filter-append, open_on, driver_rings, open_ranges, no_new_range, append-nil, new_on_rings)

    pub all_kept : (l : Leased) → is_among (open_leases h k) l ≡ true → is_among (open_leases h after) l ≡ true
    unfolding open_leases
    all_kept l e = in_among _ l (rw ranges (either_into (IsIn l) (in_left l) (in_right l) l (flat_map (open_on h k) (driver_rings h)) (open_ranges h k)
        (flat_map (open_on h after) (driver_rings h)) (open_ranges h k) (kept_on_rings l) (λ x. x) (among_is _ l e)))

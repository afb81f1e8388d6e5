-- What is open behind a descriptor that is withdrawn: what was, without the blocks of it. And behind a ring that is restored: the blocks of it too
-- that were free
use Rattle.leases.proofs.MiddleLaws.{arith, ◌≡◌, ◌≢◌, ◌&&◌, ◌++◌, ◌∷◌, ◌∙◌, ℕ, Bool, true, not, List, [], filter, map, option_and_then, slice_get, refl, sym, ap, inl, append-nil, eq-eqb, ne_eqb, false≢true, filter-append, flat_map, IsIn, Header, IsHeader, Ring, Known, RingView, RingChange, changed, on_ring, driver_rings, is_driver_kind, open_leases, open_on, open_ranges, shape_of, command_id, due_positions, command_of, context_ranges, range_of_command, unfinished_positions, command_at, device_ranges, length_from, unrestored, is_in, Restores, Withdraws, due_crossings, is_handed_over, leased_crossings, leased_positions, ring_elsewhere, Leased, Block, Link, all_from_one, together, Apart, IsAmong, is_freed, is_withdrawn, rules, IsRange, open_are_ranges, entries_kept, flat_alike, filter_alike, filter_mapped, filter_twice, filter_all, filter_none, filter_flat_map}
use Rattle.safety.proofs.RingsKeep.DriverRows.{ring_here}

-- the leases of a ring of which this is known
abbrev on_view : Ring → RingView → List Leased
on_view q v = map (Block q.id) (leased_positions q.shape v) ++ map (Link q.id) (leased_crossings q.shape v)

-- fewer positions are handed over, and all else is the same: the leases of these positions are left out
module _ (q : Ring) (v w : RingView) (T : Leased → Bool) (crossed : w.crossed ≡ v.crossed) (floor : w.floor ≡ v.floor)
    (handed : (p : ℕ) → is_handed_over w p ≡ (is_handed_over v p && T (Block q.id p))) (links : (c : ℕ) → T (Link q.id c) ≡ true) where
  same_links : map (Link q.id) (leased_crossings q.shape w) ≡ filter T (map (Link q.id) (leased_crossings q.shape v))
  unfolding leased_crossings due_crossings
  same_links = rw (crossed, floor) (sym (filter_mapped T (Link q.id) (leased_crossings q.shape v)
      ∙ ap (map (Link q.id)) (filter_all (λ c. T (Link q.id c)) (leased_crossings q.shape v) (λ c at. links c))))

  fewer_on : on_view q w ≡ filter T (on_view q v)
  unfolding leased_positions due_positions
  fewer_on = search (rules, filter_alike, is_handed_over, due_positions, filter_twice, filter_mapped, same_links, filter-append)

-- ---- a change of one ring that isn't the command ring

abbrev AllRanges : (Leased → Bool) → Type 0
AllRanges T = (l : Leased) → IsRange l → T l ≡ true

module _ (h : Header) (k : Known) (r : ℕ) (change : RingChange) (other : r ≢ command_id h) where
  abbrev l : Known
  l = on_ring h k r change

  contexts_of : RingView → List Leased
  contexts_of v = flat_map (λ p. range_of_command h p (option_and_then command_of (slice_get v.queue p))) (filter v.given (due_positions (shape_of h (command_id h)) v))

  contexts_same : context_ranges h l ≡ context_ranges h k
  unfolding context_ranges unfinished_positions command_at contexts_of
  contexts_same = ap contexts_of (ring_elsewhere h k r (command_id h) change (λ same. other (sym same)))

  pub ranges_same : open_ranges h l ≡ open_ranges h k
  unfolding open_ranges device_ranges on_ring
  ranges_same = rw (contexts_same, entries_kept h k l refl (inl refl)) refl

-- what is open with fewer of it on each ring, and the same ranges
fewer_open : (h : Header) (k l : Known) (T : Leased → Bool) → AllRanges T → ((q : Ring) → IsIn q (driver_rings h) → open_on h l q ≡ filter T (open_on h k q)) → open_ranges h l ≡ open_ranges h k →
    open_leases h l ≡ filter T (open_leases h k)
unfolding open_leases
fewer_open h k l T all on ranges = search (rules, flat_alike, open_on, filter, driver_rings, filter_flat_map, filter_all, open_ranges, open_are_ranges, filter-append, flat_map)

-- ---- a descriptor is withdrawn

module _ (h : Header) (k : Known) (r p : ℕ) (other : r ≢ command_id h) where
  abbrev n : ℕ
  n = length_from (k.ring r).lengths 0 p

  abbrev left : Leased → Bool
  left m = not (is_withdrawn r p n m)

  left_ranges : AllRanges left
  left_ranges h1 is = grind arith

  left_on : (q : Ring) → open_on h (on_ring h k r (Withdraws p)) q ≡ filter left (open_on h k q)
  unfolding open_on
  left_on q = search (rules, on_ring, ring_here, fewer_on, is_handed_over, is_in, length_from, eq-eqb, ring_elsewhere, ne_eqb, false≢true)

  pub withdrawn_open : open_leases h (on_ring h k r (Withdraws p)) ≡ filter left (open_leases h k)
  withdrawn_open = fewer_open h k (on_ring h k r (Withdraws p)) left left_ranges (λ q at. left_on q) (ranges_same h k r (Withdraws p) other)

-- ---- a ring is restored

module _ (h : Header) (k : Known) (r : ℕ) (other : r ≢ command_id h) where
  abbrev m : Known
  m = on_ring h k r Restores

  -- the blocks that were free
  abbrev freed : Leased → Bool
  freed = is_freed (k.ring r).free r

  abbrev unfreed : Leased → Bool
  unfreed x = not (freed x)

  unfreed_ranges : AllRanges unfreed
  unfreed_ranges h1 is = grind arith

  restored_here : (s : ℕ) → s ≡ r → m.ring s ≡ changed (shape_of h r) (k.ring s) Restores
  restored_here s same = rw same (ring_here h k r Restores)

  -- what is open before is what is open behind it without these
  pub restored_open : open_leases h k ≡ filter unfreed (open_leases h m)
  unfolding open_on
  restored_open = fewer_open h m k unfreed unfreed_ranges (λ q at. search (rules, restored_here, fewer_on, is_handed_over, eq-eqb, ring_elsewhere, ne_eqb, false≢true)) (sym (ranges_same h k r Restores other))

-- and these are the blocks of what wasn't restored
module _ (h : Header) (headed : IsHeader h) (k : Known) (q : Ring) (among : IsAmong q h.rings) (driver : is_driver_kind q.shape.kind ≡ true)
    (freed_given : (p : ℕ) → (k.ring q.id).free p ≡ true → (k.ring q.id).given p ≡ true) where
  abbrev r : ℕ
  r = q.id

  abbrev after : Known
  after = on_ring h k r Restores

  abbrev test : Leased → Bool
  test = is_freed (k.ring r).free r

  none_there : (s : Ring) → Apart q s → filter test (open_on h after s) ≡ []
  unfolding open_on
  none_there s apart = search (rules, filter-append, filter_mapped, filter_none, ne_eqb)

  both_tests : (g f : Bool) → (f ≡ true → g ≡ true) → ((g && true) && f) ≡ f
  both_tests g f e = grind arith

  ranges_none : filter test (open_ranges h after) ≡ []
  ranges_none = empty_filter (open_ranges h after) (λ x at. open_are_ranges h after x at)
    where
      empty_filter : (xs : List Leased) → ((x : Leased) → IsIn x xs → IsRange x) → filter test xs ≡ []
      empty_filter [] all = refl
      empty_filter (x ∷ xs) all = grind (arith, all x, empty_filter xs)

  pub freed_are : filter test (open_leases h after) ≡ map (Block r) (unrestored q.shape (k.ring r))
  unfolding open_leases driver_rings open_on leased_positions due_positions unrestored
  freed_are = filter-append test (flat_map (open_on h after) (driver_rings h)) (open_ranges h after) ∙ rw (ranges_none, append-nil, filter_flat_map test (open_on h after) (driver_rings h))
      (all_from_one (λ s. filter test (open_on h after s)) h.rings (together h headed) q among driver (λ s at apart. none_there s apart) ∙ append-nil (filter test (open_on h after q))
      ∙ (search (rules, ring_here, filter-append, filter_mapped, filter_twice, eq-eqb, both_tests, filter_none, append-nil)))

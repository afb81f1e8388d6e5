-- From the floor's spot the controller reads whole descriptors as declared, in order, through given Links, and then waits
use Rattle.segments.proofs.UpperLaws.{rules, IsRestored, ◌≡◌, ◌+◌, ◌-◌, ◌<◌, ◌≤◌, ◌∷◌, ◌∙◌, ℕ, suc, zero, not, true, false, List, [], length, All, map, take, filter, arith, refl, sym, ap, inl, inr, take_all, range_with_len, filter_map, cons_option, cases_eq, cond-true, cond-false, false≢true, not_from_true, not_from_false, take-map, All-nil, All-cons, All-map, All-take, All-contains, All-same, All-weaker, Block, Evt, kind, is_link, Spot, Data, Link, Shape, is_inside, link_address, IsSpot, rank, number, next, spot_address, spots_from, IsShape, RingView, floor_number, given_count, RingKeeps, Pointer, WalkReads, block_under, is_shown, behind, looks, walk, data_of, laid, laid_between, standing, rank_least, rank_most, same_rank, next_is_spot, next_later, next_least, number-after, given_count_declared, floor_given, address_inside, link_address_inside}
use Rattle.segments.proofs.GivenBorder.{given_count_border}
use Rattle.segments.proofs.WalkSteps.{ReadAs, IsRead, Waits, waits}

take_none : {X : Type 0} (n : ℕ) → take n (let none : List X = [] in none) ≡ []
take_none n = search rules

length-spots_from : (shape : Shape) (s : Spot) (n : ℕ) → length (spots_from shape s n) ≡ n
length-spots_from shape s zero = refl
length-spots_from shape s (suc n) = ap suc (length-spots_from shape (next shape s) n)

-- ---- one look

no_look : (memory : ℕ → ℕ) (at : Pointer) → looks memory at zero ≡ []
unfolding looks
no_look memory at = refl

look_on : (memory : ℕ → ℕ) (at on : Pointer) (n : ℕ) → is_shown memory at ≡ true → behind at (block_under memory at) ≡ on → looks memory at (suc n) ≡ at ∷ looks memory on n
unfolding looks
look_on memory at on n shown next = search (rules, cond-true, is_shown, looks, behind, block_under, next)

look_last : (memory : ℕ → ℕ) (at : Pointer) (n : ℕ) → is_shown memory at ≡ false → looks memory at (suc n) ≡ at ∷ []
unfolding looks
look_last memory at n hidden = ap (λ ats. at ∷ ats) (cond-false (is_shown memory at) (looks memory (behind at (block_under memory at)) n) [] hidden)

module _ (shape : Shape) (memory : ℕ → ℕ) (v : RingView) (t : Spot) (w : Waits shape memory v t) where
  -- a spot at which a look is made
  record IsLooked (u : Spot) : Type 0 where
    pub is_spot : IsSpot shape u
    pub from : floor_number v ≤ number u
    pub to : rank u ≤ rank t

  -- the walk from s on
  record Path (s : Spot) : Type 0 where
    pub steps : ℕ
    pub spots : (n : ℕ) → looks memory (standing shape s) n ≡ map (standing shape) (take n (spots_from shape s (suc steps)))
    pub shown : (n : ℕ) → filter (is_shown memory) (map (standing shape) (take n (spots_from shape s (suc steps)))) ≡ map (standing shape) (take n (spots_from shape s steps))
    pub blocks : data_of (map (block_under memory) (map (standing shape) (spots_from shape s steps))) ≡ laid_between shape v (number s) (given_count shape v)
    pub looked : All IsLooked (spots_from shape s (suc steps))

  -- where it waits
  at_end : IsLooked t → Path t
  at_end looked = record {
    steps = 0;
    spots = spots_there;
    shown = shown_there;
    blocks = (let left : 0 ≡ given_count shape v - number t = omega (arith, w.at) in ap (λ n. filter_map (laid shape v) (range_with_len (number t) n)) left);
    looked = All-cons IsLooked t [] looked (All-nil IsLooked);
  }
    where
      spots_there : (n : ℕ) → looks memory (standing shape t) n ≡ map (standing shape) (take n (t ∷ []))
      spots_there zero = no_look memory (standing shape t)
      spots_there (suc n) = look_last memory (standing shape t) n w.hidden ∙ ap (λ ts. standing shape t ∷ map (standing shape) ts) (sym (take_none n))

      shown_there : (n : ℕ) → filter (is_shown memory) (map (standing shape) (take n (t ∷ []))) ≡ map (standing shape) (take n (let none : List Spot = [] in none))
      shown_there zero = refl
      shown_there (suc n) = search (rules, filter, is_shown, standing, map, take_none, cond-false)

  data_on : (s : Spot) (rest : List Block) → ReadAs shape memory v s → number s ≤ given_count shape v → data_of rest ≡ laid_between shape v (number (next shape s)) (given_count shape v) →
      data_of (block_under memory (standing shape s) ∷ rest) ≡ laid_between shape v (number s) (given_count shape v)
  data_on (Data p) rest read low is =
      let b : Block = block_under memory (standing shape (Data p)) in
      let one : given_count shape v - p ≡ suc (given_count shape v - (p + 1)) = omega arith in
      search (rules, cond-true, not, is_link, kind, data_of, not_from_false, laid_between, given_count, number-after, one, filter_map, laid, range_with_len, cons_option)
  data_on (Link q) rest read low is = search (rules, Block, block_under, standing, Link, cond-false, not, is_link, kind, data_of, not_from_true)

  number_below : (s : Spot) → rank s ≤ rank t → number s ≤ given_count shape v
  number_below s near = search (rules, number, rank, given_count, rank_least, rank_most)

  number_next : (s : Spot) → number s ≤ number (next shape s)
  number_next s = search (rules, number-after)

  one_on : (s : Spot) → IsLooked s → IsRead shape memory v s → Path (next shape s) → Path s
  one_on s looked read rest = record {
    steps = suc rest.steps;
    spots = spots_there;
    shown = shown_there;
    blocks = data_on s (map (block_under memory) (map (standing shape) (spots_from shape (next shape s) rest.steps))) read.stands (number_below s looked.to) rest.blocks;
    looked = All-cons IsLooked s (spots_from shape (next shape s) (suc rest.steps)) looked rest.looked;
  }
    where
      spots_there : (n : ℕ) → looks memory (standing shape s) n ≡ map (standing shape) (take n (s ∷ spots_from shape (next shape s) (suc rest.steps)))
      spots_there zero = no_look memory (standing shape s)
      spots_there (suc n) = look_on memory (standing shape s) (standing shape (next shape s)) n read.shown read.on ∙ ap (λ ats. standing shape s ∷ ats) (rest.spots n)

      shown_there : (n : ℕ) → filter (is_shown memory) (map (standing shape) (take n (s ∷ spots_from shape (next shape s) (suc rest.steps))))
          ≡ map (standing shape) (take n (s ∷ spots_from shape (next shape s) rest.steps))
      shown_there zero = refl
      shown_there (suc n) = search (rules, cond-true, is_shown, standing)

  path : (m : ℕ) (s : Spot) → IsLooked s → rank t ≤ rank s + m → Path s
  path zero s looked near = search (rules, same_rank, at_end, looked)
  path (suc m) s looked near = elim (cases_eq (rank s) (rank t)) [
    | inl end ↦ search (rules, same_rank s t end, at_end, looked)
    | inr earlier ↦
        let below : rank s < rank t = omega (arith, looked.to) in
        one_on s looked (w.before s looked.is_spot looked.from below) (path m (next shape s)
        (record { is_spot = next_is_spot shape s; from = omega (arith, looked.from, number_next s); to = next_least shape s t w.is_spot below }) (omega (arith, next_later shape s)))
  ]

-- ---- the law

module _ (shape : Shape) (is : IsShape shape) (other : shape.kind ≡ Evt → ⊥) (memory : ℕ → ℕ) (v : RingView) (k : RingKeeps shape memory v) (restored : IsRestored v) where
  given_link : (t : Spot) (w : Waits shape memory v t) (u : Spot) → IsLooked shape memory v t w u →
      is_shown memory (standing shape u) ≡ true → is_link (kind (block_under memory (standing shape u))) ≡ true →
      (q : ℕ) × (floor_number v ≤ q) × (v.crossed q ≡ true) × (spot_address shape u ≡ link_address shape q)
  given_link t w u looked shown link = elim (cases_eq (rank u) (rank t)) [
    | inl end ↦ absurd (false≢true (sym w.hidden ∙ ap (λ s. is_shown memory (standing shape s)) (sym (same_rank u t end)) ∙ shown))
    | inr earlier ↦ crossed u looked.from ((w.before u looked.is_spot looked.from (omega (arith, looked.to))).stands) link
  ]
    where
      crossed : (u : Spot) → floor_number v ≤ number u → ReadAs shape memory v u → is_link (kind (block_under memory (standing shape u))) ≡ true →
          (q : ℕ) × (floor_number v ≤ q) × (v.crossed q ≡ true) × (spot_address shape u ≡ link_address shape q)
      crossed (Data p) from read link = absurd (false≢true (sym read.1 ∙ link))
      crossed (Link q) from read link = (q, from, read.0, refl)

  spot_inside : (u : Spot) → IsSpot shape u → (b : ℕ) → b < 16 → is_inside shape (spot_address shape u + b) ≡ true
  spot_inside (Data p) spot b h = address_inside shape is p b h
  spot_inside (Link q) spot b h = link_address_inside shape is q b spot h

  reads_of : (t : Spot) (w : Waits shape memory v t) (p : Path shape memory v t w v.floor) (n : ℕ) →
      walk memory (standing shape v.floor) n ≡ map (block_under memory) (map (standing shape) (take n (spots_from shape v.floor p.steps)))
  unfolding walk
  reads_of t w p n = ap (λ ats. map (block_under memory) (filter (is_shown memory) ats)) (p.spots n) ∙ ap (map (block_under memory)) (p.shown n)

  reads_from : (t : Spot) (w : Waits shape memory v t) → Path shape memory v t w v.floor → WalkReads shape memory v
  reads_from t w p =
      let at_spots : (n : ℕ) → All (IsLooked shape memory v t w) (take n (spots_from shape v.floor (suc p.steps))) = search (rules, All-take) in
      let each : (P : Pointer → Type 0) → ((u : Spot) → IsLooked shape memory v t w u → P (standing shape u)) → (n : ℕ) → All P (looks memory (standing shape v.floor) n) = λ P of n.
      All-same P (looks memory (standing shape v.floor) n) _ (p.spots n) (All-map P (standing shape) (take n (spots_from shape v.floor (suc p.steps)))
      (All-weaker (IsLooked shape memory v t w) (λ u. P (standing shape u)) of _ (at_spots n))) in
      let walked = reads_of t w p in
      let whole : take p.steps (spots_from shape v.floor p.steps) ≡ spots_from shape v.floor p.steps = take_all p.steps _ (omega (arith, length-spots_from shape v.floor p.steps)) in
      let all : walk memory (standing shape v.floor) p.steps ≡ map (block_under memory) (map (standing shape) (spots_from shape v.floor p.steps)) =
      walked p.steps ∙ ap (λ ts. map (block_under memory) (map (standing shape) ts)) whole in
      let P = λ (at : Pointer). is_shown memory at ≡ true → is_link (kind (block_under memory at)) ≡ true → (q : ℕ) × (floor_number v ≤ q) × (v.crossed q ≡ true) ×
      (at.address ≡ link_address shape q) in
      record {
        border = given_count shape v;
        steps = p.steps;
        from = floor_given shape is memory v k;
        to = given_count_declared shape is memory v k;
        is_border = given_count_border shape is memory v k;
        spots = p.spots;
        reads = search (rules, map, block_under, take-map, standing, take);
        blocks = ap data_of all ∙ p.blocks;
        links = λ n at c. All-contains P (looks memory (standing shape v.floor) n) at (each P (given_link t w) n) c;
        inside = each (λ at. (b : ℕ) → b < 16 → is_inside shape (at.address + b) ≡ true) (λ u looked. spot_inside u looked.is_spot);
      }

  pub walk_reads : WalkReads shape memory v
  walk_reads =
      let found = waits shape is other memory v k restored in
      let w : Waits shape memory v found.0 = found.1 in
      reads_from found.0 w
      (path shape memory v found.0 w (rank found.0) v.floor (record { is_spot = k.is_spot; from = omega arith; to = w.from }) (omega arith))

-- The words beside withdrawn blocks: each is the control word of a Link, and lies in its ring
use Rattle.trace_record.proofs.LowerLaws.{rules, ◌≡◌, ◌∙◌, false≢true, ◌+◌, ◌==◌, ◌&&◌, ◌||◌, ◌%◌, ℕ, Bool, true, false, refl, ap, sym, arith, not, and_parts, eq-eqb, eqb-true, list_any, Shape, IsShape, is_crossing, is_inside, link_address, RingView, due_crossings, leased_crossings, crossed_link, crosses, link_address_is, driver_rings, Ring, Header, Known, any_filter, false_unless}
use Rattle.trace_record.proofs.BaseWords.{list_any_at}
use Rattle.trace_record.proofs.WordsInside.{link_inside}
use Rattle.segments.specs.Places.{links}
use Rattle.ownership_rules.proofs.Among.{some_of, any_of}
use Rattle.ring_knowledge.specs.BesideFree as of_ring
use Rattle.ownership_rules.specs.Older.{stands_beside_free}
use Rattle.ownership_rules.specs.Writes.{is_link_control}

-- what the tests of a changed word come to, where the version stores a word as it stands
pub unchained : (runs beside link clears ranges controllers : Bool) → (beside ≡ true → link ≡ true) → (ranges ≡ false → controllers ≡ false) →
    (not (runs && beside) || (controllers || not (link && clears && not ranges))) ≡ not (runs && clears && beside && not ranges)
unchained false beside link clears ranges controllers control free = refl
unchained true false link clears ranges controllers control free = search rules
unchained true true link clears true controllers control free = search rules
unchained true true link clears false controllers control free = search rules

module _ (shape : Shape) (v : RingView) (a : ℕ) where
  pub link_beside : of_ring.stands_beside_free shape v a ≡ true → (q : ℕ) × (is_crossing shape q ≡ true) × (a ≡ link_address shape q + 12)
  unfolding of_ring.stands_beside_free leased_crossings
  link_beside h =
      let passes : ℕ → Bool = λ (q : ℕ). a == link_address shape q + 12 && of_ring.is_beside_free v q in
      let crossed : ℕ → Bool = λ (q : ℕ). is_crossing shape q && v.crossed q in
      let found = some_of (λ q. crossed q && passes q) (due_crossings shape v) (sym (any_filter passes crossed (due_crossings shape v)) ∙ h) in
      let both = and_parts (crossed found.0) (passes found.0) found.2 in
      (found.0, (and_parts (is_crossing shape found.0) (v.crossed found.0) both.0).0, eqb-true a (link_address shape found.0 + 12) (and_parts (a == link_address shape found.0 + 12) (of_ring.is_beside_free v found.0) both.1).0)

  link_word : of_ring.stands_beside_free shape v a ≡ true → list_any (λ link. a == link + 12) (links shape) ≡ true
  link_word h =
      let at = link_beside h in
      let over = crossed_link shape at.0 at.1 in
      let is = link_address_is shape at.0 over.0 over.1 in
      list_any_at (λ link. a == link + 12) (links shape) over.0 0 (crosses shape at.0 over.0 over.1).link (eq-eqb a _ (at.2 ∙ ap (λ b. b + 12) is))

  -- a word outside the ring is none
  pub not_beside : IsShape shape → a % 4 ≡ 0 → is_inside shape a ≡ false → of_ring.stands_beside_free shape v a ≡ false
  not_beside allowed aligned outside = false_unless _ (λ h. let at = link_beside h in
      false≢true (sym outside ∙ link_inside shape allowed a aligned at.0 at.1 (omega (arith, at.2)) (omega (arith, at.2))))

-- such a word is a Link's control word
pub beside_link : (h : Header) (k : Known) (a : ℕ) → stands_beside_free h k a ≡ true → is_link_control h a ≡ true
unfolding stands_beside_free is_link_control
beside_link h k a stands =
    let found = some_of (λ (r : Ring). of_ring.stands_beside_free r.shape (k.ring r.id) a) (driver_rings h) stands in
    any_of (λ (r : Ring). list_any (λ link. a == link + 12) (links r.shape)) (driver_rings h) found.0 found.1 (link_word found.0.shape (k.ring found.0.id) a found.2)

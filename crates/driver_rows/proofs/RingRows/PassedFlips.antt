-- The ring that a row starts or moves, and the Cycle bits that a write flips, by the ring that has the word
use Rattle.driver_rows.proofs.LowerLaws.{rules, false≢true, ◌≡◌, ◌+◌, ◌%◌, ◌==◌, ◌&&◌, ◌∙◌, ℕ, true, false, not, nat_lt, ap, arith, sym, eqb-true, ceiling, flips_passed, unrestored, address_of, cycle_of, is_inside, touches, RingView, IsShape, Shape, address_inside, Header, Ring, Write, IsHeader, driver_rings, is_driver_kind, is_event_kind, Known, no_driver, one_driver, shape_allowed, together, any_nowhere, false_unless, Apart, IsAmong, same_or_apart, no_driver_event, some_flips, inside_is}
use Rattle.trace_record.proofs.RingFinder.ListTests.{and_left, and_right}

-- a word outside a ring isn't of its blocks
pub flips_outside : (shape : Shape) → IsShape shape → (v : RingView) (a w : ℕ) → is_inside shape a ≡ false → flips_passed shape v a w ≡ false
unfolding flips_passed
flips_outside shape is v a w outside =
    any_nowhere (λ p. nat_lt p (ceiling shape v) && a == address_of shape p + 12 && not (w % 2 == cycle_of shape p)) (λ p. false_unless _ (λ flips.
    let here : a ≡ address_of shape p + 12 = eqb-true a (address_of shape p + 12) (and_right (nat_lt p (ceiling shape v)) _ (and_left (nat_lt p (ceiling shape v) && a == address_of shape p + 12) _ flips)) in
    false≢true (sym outside ∙ ap (is_inside shape) here ∙ address_inside shape is p 12 (omega arith)))) (unrestored shape v)

module _ (h : Header) (headed : IsHeader h) (k : Known) (a w : ℕ) (aligned : a % 4 ≡ 0) where
  none_outside : (q : Ring) → IsAmong q h.rings → is_inside q.shape a ≡ false → flips_passed q.shape (k.ring q.id) a w ≡ false
  none_outside q among outside = flips_outside q.shape (shape_allowed h headed q among) (k.ring q.id) a w outside

  -- no ring has the word
  pub none_flips : ((q : Ring) → IsAmong q h.rings → touches q.shape a 4 ≡ false) → false ≡ some_flips h k (Write a w)
  unfolding some_flips driver_rings
  none_flips none =
      sym (no_driver (λ q. flips_passed q.shape (k.ring q.id) a w) h.rings (λ q among driver. none_outside q among (sym (inside_is h headed k a aligned q among) ∙ none q among)))

  -- one has it
  module _ (r : Ring) (among : IsAmong r h.rings) (has : touches r.shape a 4 ≡ true) where
    outside : (q : Ring) → IsAmong q h.rings → Apart r q → is_inside q.shape a ≡ false
    outside q there apart = false_unless (is_inside q.shape a) (λ e. apart.memory a (sym (inside_is h headed k a aligned r among) ∙ has) e)

    -- the event ring
    pub event_flips : is_event_kind r.shape.kind ≡ true → false ≡ some_flips h k (Write a w)
    unfolding some_flips driver_rings
    event_flips event = search (rules, no_driver, same_or_apart, together, no_driver_event, none_outside, outside)

    -- a command or transfer ring
    pub ring_flips : is_driver_kind r.shape.kind ≡ true → flips_passed r.shape (k.ring r.id) a w ≡ some_flips h k (Write a w)
    unfolding some_flips driver_rings
    ring_flips driver = sym (one_driver (λ q. flips_passed q.shape (k.ring q.id) a w) h.rings (together h headed) r among driver (λ q there apart. none_outside q there (outside q there apart)))

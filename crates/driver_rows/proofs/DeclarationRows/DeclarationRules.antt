-- Which rules a declaration breaks
use Rattle.driver_rows.proofs.Words.{rules, ◌≡◌, ℕ, List, [], ◌∷◌, true, false, Some, refl, ap, sym, ◌∙◌, ◌==◌, not, if◌then◌else◌, Block, RingKind, Ring, Header, Sub, IsHeader, is_driver_kind, is_event_kind, profile_of, ring_with, shape_of, Known, NotDeclared, AfterStop, first_of, first_broken, broken_of, declaration_tests, is_driver_ring, older, stricter, broken, lenient_tests, tests, room_tests, first_broken-is, IsAmong, ring_found, not_found, shape_there}

no_driver : (kind : RingKind) → is_event_kind kind ≡ true → is_driver_kind kind ≡ false
no_driver kind e = search rules

module _ (h : Header) (k : Known) (on : k.stopped ≡ false) (id : ℕ) (blocks : List Block) where
  declared_is : first_of (broken h k (Sub id blocks)) ≡ first_broken (declaration_tests h k id blocks)
  unfolding broken tests lenient_tests older stricter declaration_tests
  declared_is = ap (λ b. first_of (if b then AfterStop ∷ [] else broken_of (declaration_tests h k id blocks))) on ∙ first_broken-is (declaration_tests h k id blocks)

  -- no ring has the ID
  pub declared_nowhere : ((q : Ring) → IsAmong q h.rings → (q.id == id) ≡ false) → first_of (broken h k (Sub id blocks)) ≡ Some NotDeclared
  unfolding declaration_tests is_driver_ring
  declared_nowhere none = declared_is ∙ rw (not_found (λ q. q.id == id) h.rings none) refl

  module _ (headed : IsHeader h) (r : Ring) (among : IsAmong r h.rings) (named : r.id ≡ id) where
    found : ring_with h id ≡ Some r
    found = ap (λ i. ring_with h i) (sym named) ∙ ring_found h headed r among

    -- the event ring has
    pub declared_on_events : is_event_kind r.shape.kind ≡ true → first_of (broken h k (Sub id blocks)) ≡ Some NotDeclared
    unfolding declaration_tests is_driver_ring
    declared_on_events event = declared_is ∙ ap (λ o. first_broken ((NotDeclared, not (is_driver_ring o)) ∷ room_tests (profile_of h.version) (shape_of h id) (k.ring id) blocks)) found ∙ rw (no_driver r.shape.kind event) refl

    -- a command or transfer ring has
    pub declared_on_ring : is_driver_kind r.shape.kind ≡ true → first_of (broken h k (Sub id blocks)) ≡ first_broken (room_tests (profile_of h.version) r.shape (k.ring r.id) blocks)
    unfolding declaration_tests is_driver_ring
    declared_on_ring driver = search (rules, declared_is, ring_found, shape_there)

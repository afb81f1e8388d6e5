-- One endpoint's ring is placed in the world as it is in what is known: both match still
use Rattle.safety.proofs.LowerLaws.{◌≡◌, ◌≢◌, ◌<◌, ◌⊎◌, if◌then◌else◌, ◌∙◌, ℕ, Bool, Option, Some, arith, sym, ap, subst, inl, inr, eqb-true, rules, put_pair_same, cases_eq, and_parts, cond-true, cond-false, same_Some, put_pair, Spot, EndpointState, SlotState, Header, shape_of, command_id, World, Known, state_of, RingMatches, Unreported, EndpointRing, known_changed, StatesMatch, ChangeKeeps, set_view, placed_state}
use Rattle.safety.proofs.Finishes.SlotChanges.{same_put_pair}
use Rattle.safety.proofs.Finishes.PlacedWorld.{placed_world, placed_here, placed_elsewhere}

-- what is known once ring r of an endpoint was placed at a spot
pub record PlacedTo (k l : Known) (s i r : ℕ) (t : Spot) (state : EndpointState) : Type 0 where
  pub here : l.ring r ≡ set_view (k.ring r) t
  pub others : (q : ℕ) → q ≢ r → l.ring q ≡ k.ring q
  pub ring_of : (x j : ℕ) → l.ring_of x j ≡ put_pair k.ring_of s i (Some r) x j
  pub isochronous : l.isochronous ≡ k.isochronous
  pub endpoint_state : l.endpoint_state ≡ put_pair k.endpoint_state s i state
  pub slot_state : l.slot_state ≡ k.slot_state
  pub device : l.device ≡ k.device
  pub rest : l ≡ known_changed k l

module _ (h : Header) (k l : Known) (w : World) (s i r a : ℕ) (c : Bool) (state : EndpointState) (active : ℕ → Bool) (t : Spot) (x : PlacedTo k l s i r t state)
    (not_command : r ≢ command_id h) (had : (q : ℕ) → k.ring_of s i ≡ Some q → q ≡ r) (still : (q : ℕ) → q ≢ r → active q ≡ w.is_active q)
    (only : (y j : ℕ) → k.ring_of y j ≡ Some r → (y ≡ s) × (j ≡ i)) (numbered : (0 < s) × (s < 256) × (0 < i) × (i < 32)) where
  abbrev v : World
  v = placed_world w s i r a c state active

  -- another ring's endpoint has it still
  kept : (y j q : ℕ) → q ≢ r → k.ring_of y j ≡ Some q → l.ring_of y j ≡ Some q
  kept y j q other at = search (rules, and_parts, eqb-true, cond-false)

  none_still : (q : ℕ) → q ≢ r → ((y j : ℕ) → k.ring_of y j ≢ Some q) → (y j : ℕ) → l.ring_of y j ≢ Some q
  none_still q other none y j at = search (rules, same_Some, cond-true, cond-false)

  other_ring : (q : ℕ) → q ≢ r → EndpointRing h k w q → EndpointRing h l v q
  other_ring q other (inl b) = search (rules, v, placed_elsewhere, kept, none_still)
  other_ring q other (inr f) = search (rules, v, placed_elsewhere, kept, none_still)

  -- whose an endpoint's ring is: the one placed, or the one it had
  whose : (y j q : ℕ) → l.ring_of y j ≡ Some q → ((y ≡ s) × (j ≡ i) × (q ≡ r)) ⊎ (k.ring_of y j ≡ Some q)
  whose y j q at = search (rules, and_parts, eqb-true, same_Some, cond-true, cond-false)

  one_still : ((y j z n q : ℕ) → k.ring_of y j ≡ Some q → k.ring_of z n ≡ Some q → (y ≡ z) × (j ≡ n)) → (y j z n q : ℕ) → l.ring_of y j ≡ Some q → l.ring_of z n ≡ Some q → (y ≡ z) × (j ≡ n)
  one_still one y j z n q a b =
      elim (whose y j q a) [
        | inl here ↦ (search (rules, whose))
        | inr there ↦
            elim (whose z n q b) [
              | inl also ↦ let own = only y j (there ∙ ap (λ p. Some p) also.2) in (own.0 ∙ sym also.0, own.1 ∙ sym also.1)
              | inr both ↦ one y j z n q there both
            ]
      ]

  pub placed_keeps : RingMatches (shape_of h r) (set_view (k.ring r) t) (placed_state (state_of w r) a (if c then 1 else 0)) t →
      Unreported (shape_of h r) (set_view (k.ring r) t) (placed_state (state_of w r) a (if c then 1 else 0)) t → StatesMatch h k w → ChangeKeeps h k l w v
  placed_keeps m u y = record {
    states = record {
      slots = λ q. y.slots q ∙ ap (λ (f : ℕ → SlotState). f q) (sym x.slot_state);
      endpoints = λ q j. same_put_pair w.endpoint_state k.endpoint_state s i state y.endpoints q j ∙ ap (λ (f : ℕ → ℕ → EndpointState). f q j) (sym x.endpoint_state);
      ring_of = λ q j. same_put_pair w.ring_of k.ring_of s i (Some r) y.ring_of q j ∙ sym (x.ring_of q j);
      isochronous = λ q j. y.isochronous q j ∙ ap (λ (f : ℕ → ℕ → Bool). f q j) (sym x.isochronous);
      rings = λ q other. elim (cases_eq q r) [
        | inl same ↦ subst (λ n. EndpointRing h l v n) (sym same) (inl (search (rules, state_of, placed_state, placed_here, x.ring_of, put_pair_same, k.ring_of, shape_of, set_view, k.ring)))
        | inr apart ↦ other_ring q apart (y.rings q other)
      ];
      scribbles = λ q may none. y.scribbles q may (ap (λ (f : ℕ → Option ℕ). f q) (sym x.device) ∙ none);
      apart = λ z j q at. elim (whose z j q at) [ inl here ↦ (λ same. not_command (sym here.2 ∙ same)) | inr there ↦ y.apart z j q there ];
      one_endpoint = one_still y.one_endpoint;
      within = λ z j q at. elim (whose z j q at) [ inl here ↦ (omega (arith, here.0), omega (arith, here.0), omega (arith, here.1), omega (arith, here.1)) | inr there ↦ y.within z j q there ];
    };
    rest = search (rules, v, placed_elsewhere);
  }

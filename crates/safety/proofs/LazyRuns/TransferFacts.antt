-- What a Transfer Event says that breaks no rule, by its code: the spot that it names, and what the controller did there
use Rattle.safety.proofs.MiddleLaws.{spot_named, may_have_data, named_no_service, no_service, spot_told, is_code_of_profile, has_isoch, is_of_service, ◌⊎◌, is_off, is_stopping, code_told, [], ◌≡◌, ◌<◌, ◌&&◌, ◌||◌, ◌∙◌, ℕ, not, Bool, true, false, Option, Some, None, sym, ap, ltb-true, rules, and_cases, and_parts, or_parts, or_cases, not-false, not-true, false≢true, none-some, same_Some, Block, kind, code, slot, endpoint, is_transfer_event, is_success, is_halting, is_trb_error, Spot, Data, ceiling, is_data_below, is_open, is_stop_spot, is_running, Header, Read, shape_of, Known, RingSpot, spot_on, is_in_profile, is_working, is_stopping_now, can_report, can_report_at, is_impossible_by_kind, is_impossible_transfer, lenient, event_facts, transfer_kind, chain, spot_is, arith, event_at, may_be_taken, false_from_ne_true, eqb-true, inl, inr, ◌==◌, refl}
use Rattle.std.proofs.Common.{option_map}
use Rattle.safety.proofs.Reports.StopRead.{StopCode}

-- a success and an error are no stop

not_stopping : (c n : ℕ) → (c == n) ≡ true → is_stopping n ≡ false → is_stopping c ≡ false
not_stopping c n same off = ap is_stopping (eqb-true c n same) ∙ off

pub success_goes_on : (c : ℕ) → is_success c ≡ true → is_stopping c ≡ false
success_goes_on c success = elim (or_cases (c == 1) (c == 13) success) [ inl one ↦ not_stopping c 1 one refl | inr short ↦ not_stopping c 13 short refl ]

pub error_goes_on : (c : ℕ) → (is_halting c || is_trb_error c) ≡ true → is_stopping c ≡ false
error_goes_on c breaks = search (rules, or_cases, not_stopping)

module _ (h : Header) where
  -- the ring of its endpoint, and the spot there that it names
  pub record TransferFacts (k : Known) (b : Block) : Type 0 where
    pub ring : ℕ
    pub spot : Spot
    pub bound : k.ring_of (slot b) (endpoint b) ≡ Some ring
    pub named_is : spot_named h k b ring ≡ Some spot
    pub at : event_at h k b ≡ Some (record { ring = ring; spot = spot })
    pub may_data : may_have_data h.version b ≡ true
    pub no_service : is_of_service (code b) ≡ false
    pub may : can_report h k (code_told h k b) (slot b) (endpoint b) ring spot ≡ true

  -- or it tells of the service of its endpoint
  pub record ServiceFacts (k : Known) (b : Block) : Type 0 where
    pub none : event_at h k b ≡ None
    pub may_data : may_have_data h.version b ≡ true
    pub has : has_isoch h.version ≡ true
    pub service : is_of_service (code b) ≡ true
    pub on : is_off (k.endpoint_state (slot b) (endpoint b)) ≡ false

  named_by : (k : Known) (b : Block) (at : RingSpot) → event_at h k b ≡ Some at → can_report_at h k b (Some at) ≡ true → may_have_data h.version b ≡ true → is_of_service (code b) ≡ false →
      TransferFacts k b
  unfolding can_report_at spot_on
  named_by k b at found can may_data no_service = search (rules, none-some, option_map, same_Some, spot_is, spot_told)

  by_kind : (k : Known) (b : Block) → is_transfer_event (kind b) ≡ true → is_impossible_by_kind h k (kind b) b ≡ is_impossible_transfer h k b
  unfolding is_impossible_by_kind
  by_kind k b transfer = ap (λ t. is_impossible_by_kind h k t b) (transfer_kind (kind b) transfer)

  -- a code of service is one of the profile where the version has isochronous transfers alone
  service_has : (k : Known) (b : Block) → is_code_of_profile h k b ≡ true → is_of_service (code b) ≡ true → has_isoch h.version ≡ true
  unfolding is_code_of_profile
  service_has k b inside service = search (rules, or_cases, no_service, and_parts, false≢true)

  facts_at : (k : Known) (b : Block) (o : Option RingSpot) → event_at h k b ≡ o → can_report_at h k b o ≡ true → may_have_data h.version b ≡ true → is_code_of_profile h k b ≡ true →
      is_off (k.endpoint_state (slot b) (endpoint b)) ≡ false → (TransferFacts k b) ⊎ (ServiceFacts k b)
  unfolding can_report_at
  facts_at k b o found can may_data inside on = search (rules, service_has, named_by, named_no_service)

  facts_from : (k : Known) (b : Block) → is_impossible_transfer h k b ≡ false → is_in_profile h k b ≡ true → (TransferFacts k b) ⊎ (ServiceFacts k b)
  unfolding is_impossible_transfer is_in_profile
  facts_from k b possible inside = search (rules, and_parts, and_cases, or_parts, false≢true, facts_at, not-false, not-true)

  pub transfer_facts : (k : Known) (b : Block) → lenient h k (Read b) ≡ [] → is_transfer_event (kind b) ≡ true → (TransferFacts k b) ⊎ (ServiceFacts k b)
  transfer_facts k b clean transfer =
      let f = event_facts h k b clean in
      facts_from k b (sym (by_kind k b transfer) ∙ f.possible) (not-false (is_in_profile h k b) (ap (λ c. c && not (is_in_profile h k b)) (sym transfer) ∙ f.inside))

  -- ---- by its code

  -- the spot is this block, and it is below what the controller may have taken
  pub record NamesBlock (k : Known) (r : ℕ) (t : Spot) : Type 0 where
    pub position : ℕ
    pub is : t ≡ Data position
    pub below : position < ceiling (shape_of h r) (k.ring r)

  -- the endpoint is Running, and its ring is open
  pub record IsAtWork (k : Known) (b : Block) (r : ℕ) : Type 0 where
    pub runs : is_running (k.endpoint_state (slot b) (endpoint b)) ≡ true
    pub opened : is_open (k.ring r) ≡ true

  data_below : (k : Known) (r : ℕ) (t : Spot) → is_data_below (ceiling (shape_of h r) (k.ring r)) t ≡ true → NamesBlock k r t
  unfolding is_data_below
  data_below k r o below = grind (arith, ltb-true, ceiling, shape_of, k.ring, false≢true)

  at_work : (k : Known) (b : Block) (r : ℕ) → is_working k (slot b) (endpoint b) r ≡ true → IsAtWork k b r
  unfolding is_working
  at_work k b r works = let parts = and_parts (is_running (k.endpoint_state (slot b) (endpoint b))) (is_open (k.ring r)) works in record { runs = parts.0; opened = parts.1 }

  module _ (k : Known) (b : Block) (f : TransferFacts k b) where
    below : Bool
    below = is_data_below (ceiling (shape_of h f.ring) (k.ring f.ring)) f.spot

    works : Bool
    works = is_working k (slot b) (endpoint b) f.ring

    stops : Bool
    stops = is_stopping (code_told h k b) && (works && is_stopping_now h k (slot b) (endpoint b) && is_stop_spot (shape_of h f.ring) (k.ring f.ring) f.spot)

    cases : (is_success (code_told h k b) ≡ true → below ≡ true) × (is_success (code_told h k b) ≡ false → (is_halting (code_told h k b) || is_trb_error (code_told h k b)) ≡ true → (below && works) ≡ true)
        × (is_success (code_told h k b) ≡ false → (is_halting (code_told h k b) || is_trb_error (code_told h k b)) ≡ false → stops ≡ true)
    unfolding below works stops can_report
    cases = chain (is_success (code_told h k b)) (is_halting (code_told h k b) || is_trb_error (code_told h k b)) below (below && works) stops f.may

    pub success_names : is_success (code_told h k b) ≡ true → NamesBlock k f.ring f.spot
    unfolding below
    success_names success = data_below k f.ring f.spot (cases.0 success)

    pub error_names : is_success (code_told h k b) ≡ false → (is_halting (code_told h k b) || is_trb_error (code_told h k b)) ≡ true → NamesBlock k f.ring f.spot × IsAtWork k b f.ring
    unfolding below works
    error_names fails breaks = let parts = and_parts below works (cases.1 fails breaks) in (data_below k f.ring f.spot parts.0, at_work k b f.ring parts.1)

    -- a Stop Endpoint for the endpoint is the next command
    pub record StopsThere : Type 0 where
      pub work : IsAtWork k b f.ring
      pub now : is_stopping_now h k (slot b) (endpoint b) ≡ true
      pub there : is_stop_spot (shape_of h f.ring) (k.ring f.ring) f.spot ≡ true

    pub stop_names : is_success (code_told h k b) ≡ false → (is_halting (code_told h k b) || is_trb_error (code_told h k b)) ≡ false → StopsThere
    unfolding stops works
    stop_names fails quiet = search (rules, and_parts, at_work, cases)

    -- a code of the profile that is none of the others is that of a stop
    pub stop_code : is_success (code_told h k b) ≡ false → (is_halting (code_told h k b) || is_trb_error (code_told h k b)) ≡ false → StopCode (code_told h k b)
    unfolding stops
    stop_code fails quiet = grind (arith, or_parts, and_parts, cases)

    -- where it tells of a stop the next command can have been taken
    pub stopping_taken : is_stopping (code_told h k b) ≡ true → may_be_taken h k ≡ true
    unfolding is_stopping_now
    stopping_taken stopping =
        let c : ℕ = code_told h k b in
        let fails : is_success c ≡ false = false_from_ne_true (is_success c) (λ success. false≢true (sym (success_goes_on c success) ∙ stopping)) in
        let quiet : (is_halting c || is_trb_error c) ≡ false = false_from_ne_true (is_halting c || is_trb_error c) (λ breaks. false≢true (sym (error_goes_on c breaks) ∙ stopping)) in
        (and_parts (may_be_taken h k) _ (stop_names fails quiet).now).0

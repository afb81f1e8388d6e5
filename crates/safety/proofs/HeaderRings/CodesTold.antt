-- How the code of a Transfer Event counts, and what it names
use Rattle.safety.proofs.Words.{rules, ◌<◌, below_is, number, ceiling, shape_of, can_report, can_report_at, ◌≡◌, ◌&&◌, ap, ℕ, Bool, true, false, Some, arith, and_from, and_parts, eqb-true, false≢true, not-true, or_cases, none-some, Block, code, slot, endpoint, has_event_data, is_stopping, is_transfer_code, Header, Known, RingSpot, event_at, spot_on, is_in_profile, counted_code, is_of_service, has_isoch, may_have_data, code_told, is_code_of_profile}

-- a code of transfers tells of no service
pub no_service : (isoch : Bool) (c : ℕ) → is_transfer_code (counted_code isoch c) ≡ true → is_of_service c ≡ false
no_service isoch c told = grind (arith, eqb-true)

-- an event that names a spot tells of no service, and names it on its endpoint's ring
pub spot_told : (h : Header) (k : Known) (b : Block) (at : RingSpot) → event_at h k b ≡ Some at → spot_on h k b (k.ring_of (slot b) (endpoint b)) ≡ Some at
unfolding event_at
spot_told h k b at e = grind (arith, none-some)

pub named_no_service : (h : Header) (k : Known) (b : Block) (at : RingSpot) → event_at h k b ≡ Some at → is_of_service (code b) ≡ false
unfolding event_at
named_no_service h k b at e = grind (arith, none-some)

-- what counts as a code of transfers is in the profile
pub in_profile_is : (h : Header) (k : Known) (b : Block) → may_have_data h.version b ≡ true → is_transfer_code (code_told h k b) ≡ true → is_in_profile h k b ≡ true
unfolding is_in_profile is_code_of_profile code_told
in_profile_is h k b may told = search (rules, and_from)

-- an event that tells of a stop tells no value
pub stop_by_address : (h : Header) (k : Known) (b : Block) → may_have_data h.version b ≡ true → is_stopping (code_told h k b) ≡ true → has_event_data b ≡ false
unfolding code_told
stop_by_address h k b may stops = grind (arith, eqb-true, or_cases, and_parts, not-true, false≢true)

-- so a block that an event names by its value lies where the controller may have taken it
pub told_below : (h : Header) (k : Known) (b : Block) (at : RingSpot) → is_in_profile h k b ≡ true → can_report_at h k b (Some at) ≡ true → has_event_data b ≡ true →
    number at.spot < ceiling (shape_of h at.ring) (k.ring at.ring)
unfolding is_in_profile can_report_at can_report
told_below h k b at inside can tells = grind (arith, below_is, and_parts, false≢true, stop_by_address h k b (and_parts (may_have_data h.version b) _ inside).0)

-- where the same endpoints are isochronous, a code counts the same, and the same codes are in the profile
pub told_alike : (h : Header) (k l : Known) (b : Block) → l.isochronous ≡ k.isochronous → code_told h l b ≡ code_told h k b
unfolding code_told
told_alike h k l b same = ap (λ f. counted_code (has_isoch h.version && f (slot b) (endpoint b)) (code b)) same

pub profile_alike : (h : Header) (k l : Known) (b : Block) → l.isochronous ≡ k.isochronous → is_in_profile h l b ≡ is_in_profile h k b
unfolding is_in_profile is_code_of_profile
profile_alike h k l b same = rw same

-- Which rule an event breaks, and what is known behind one that breaks none
use Rattle.ownership_checker.proofs.Words.{◌≡◌, ℕ, [], ◌∷◌, true, false, refl, ap, sym, ◌∙◌, ◌+◌, subst, ◌||◌, ◌&&◌, ◌==◌, not, if◌then◌else◌, Bool, and_parts, false≢true, or_parts, not-false, Block, cycle, kind, IsHeader, event_shape, Header, Read, Known, learned, event_read, AfterStop, ImpossibleEvent, NotInProfile, first_of, first_broken, broken_of, older, stricter, broken, lenient_tests, tests, DriverKeeps, lenient_row, AllFail, tests_fail, TraceRecord, FollowsTrace, IsLeast, IsRowStep, first_broken-is, nothing_broken, OnTrue, TransferEvent, CommandCompletion, cycle_of, is_event, is_transfer_event, transfer_read, completed, event_tests, is_impossible, is_impossible_by_kind, is_impossible_completion, is_impossible_transfer, is_in_profile, is_past_room, event_same, left_out_transfer, rules, arith}

not_true : (b : Bool) → not b ≡ true → b ≡ false
not_true b e = grind arith

pub not_negated : (b c : Bool) → not b ≡ c → b ≡ not c
not_negated b c e = grind arith

-- what is so where a test is passed
pub on_true : (b : Bool) (P Q : Type 0) → (P → Q) → OnTrue b P → OnTrue b Q
on_true b P Q leads p = grind arith

pub when_true : (b : Bool) (P : Type 0) → b ≡ true → OnTrue b P → P
when_true true P is p = p
when_true false P is p = absurd (false≢true is)

module _ (h : Header) (k : Known) (on : k.stopped ≡ false) (b : Block) where
  tested : first_of (broken h k (Read b)) ≡ first_broken (event_tests h k b)
  unfolding broken tests lenient_tests older stricter event_tests
  tested = ap (λ x. first_of (if x then AfterStop ∷ [] else broken_of (event_tests h k b))) on ∙ first_broken-is (event_tests h k b)

  pub impossible : is_impossible h k b ≡ true → IsLeast h k (Read b) ImpossibleEvent
  unfolding event_tests
  impossible is = tested ∙ rw is refl

  module _ (possible : is_impossible h k b ≡ false) where
    pub left_out : (is_transfer_event (kind b) && not (is_in_profile h k b)) ≡ true → IsLeast h k (Read b) NotInProfile
    unfolding event_tests
    left_out is = tested ∙ rw (possible, is) refl

    pub clean_event : (is_transfer_event (kind b) && not (is_in_profile h k b)) ≡ false → broken h k (Read b) ≡ []
    unfolding event_tests
    clean_event is = nothing_broken (broken h k (Read b)) (tested ∙ rw (possible, is) refl)

-- it is counted
pub counted : (h : Header) (k : Known) (b : Block) (after : TraceRecord) (m : ℕ → ℕ) → FollowsTrace h (record (event_read h k (kind b) b) { reads = (event_read h k (kind b) b).reads + 1 }) after m →
    FollowsTrace h (learned h k (Read b)) after m
unfolding learned
counted h k b after m f = subst (λ n. FollowsTrace h (record (event_read h k (kind b) b) { reads = n + 1 }) after m) (event_same h k (kind b) b).reads f

-- what is an event in its place: there is room for it, its Cycle bit is that of its place, and its type is an event's
abbrev pub is_no_event : Header → Known → Block → Bool
is_no_event h k b = not k.started || is_past_room h k || not (cycle b == cycle_of (event_shape h) k.reads) || not (is_event (kind b))

module _ (h : Header) (k : Known) (b : Block) where
  pub by_place : is_no_event h k b ≡ true → true ≡ is_impossible h k b
  unfolding is_impossible
  by_place is = rw is refl

  module _ (placed : is_no_event h k b ≡ false) where
    pub is_started : k.started ≡ true
    is_started = grind (arith, placed)

    pub by_kind : is_impossible h k b ≡ is_impossible_by_kind h k (kind b) b
    unfolding is_impossible
    by_kind = rw placed refl

  pub of_transfer : kind b ≡ TransferEvent → is_impossible_transfer h k b ≡ is_impossible_by_kind h k (kind b) b
  unfolding is_impossible_by_kind
  of_transfer is = ap (λ n. is_impossible_by_kind h k n b) (sym is)

  pub of_completion : kind b ≡ CommandCompletion → is_impossible_completion h k b ≡ is_impossible_by_kind h k (kind b) b
  unfolding is_impossible_by_kind
  of_completion is = ap (λ n. is_impossible_by_kind h k n b) (sym is)

  pub other_possible : (kind b ≡ TransferEvent → ⊥) → (kind b ≡ CommandCompletion → ⊥) → is_impossible_by_kind h k (kind b) b ≡ false
  unfolding is_impossible_by_kind
  other_possible no_transfer no_completion = grind arith

  -- an event that the profile leaves out is possible by its type
  pub left_out_possible : IsHeader h → DriverKeeps h k → (is_transfer_event (kind b) && not (is_in_profile h k b)) ≡ true → is_impossible_by_kind h k (kind b) b ≡ false
  unfolding is_impossible_by_kind
  left_out_possible headed keeps left = search (rules, and_parts, left_out_transfer, not_true)

  pub within_profile : kind b ≡ TransferEvent → (is_transfer_event (kind b) && not (is_in_profile h k b)) ≡ false → is_in_profile h k b ≡ true
  within_profile is within = not-false (is_in_profile h k b) (ap (λ n. is_transfer_event n && not (is_in_profile h k b)) (sym is) ∙ within)

  -- of an event that is possible
  module _ (possible : is_impossible h k b ≡ false) where
    parts : (is_no_event h k b ≡ false) × (is_impossible_by_kind h k (kind b) b ≡ false)
    unfolding is_impossible
    parts = or_parts (is_no_event h k b) (is_impossible_by_kind h k (kind b) b) possible

    pub in_turn : (cycle b == cycle_of (event_shape h) (event_read h k (kind b) b).reads) ≡ true
    in_turn = search (rules, or_parts, parts, event_same, not-false)

    pub transfer_possible : kind b ≡ TransferEvent → is_impossible_transfer h k b ≡ false
    unfolding is_impossible_by_kind
    transfer_possible is = ap (λ n. is_impossible_by_kind h k n b) (sym is) ∙ parts.1

    pub completion_possible : kind b ≡ CommandCompletion → is_impossible_completion h k b ≡ false
    unfolding is_impossible_by_kind
    completion_possible is = ap (λ n. is_impossible_by_kind h k n b) (sym is) ∙ parts.1

-- what is known behind an event, but for its count, by its kind
module _ (h : Header) (k : Known) (b : Block) where
  pub read_transfer : kind b ≡ TransferEvent → transfer_read h k b ≡ event_read h k (kind b) b
  unfolding event_read
  read_transfer is = ap (λ n. event_read h k n b) (sym is)

  pub read_completion : kind b ≡ CommandCompletion → completed h k b ≡ event_read h k (kind b) b
  unfolding event_read
  read_completion is = ap (λ n. event_read h k n b) (sym is)

  pub read_other : (kind b ≡ TransferEvent → ⊥) → (kind b ≡ CommandCompletion → ⊥) → k ≡ event_read h k (kind b) b
  unfolding event_read
  read_other no_transfer no_completion = grind arith

-- an event that breaks no rule is possible and, where it is a Transfer Event, in the profile
module _ (h : Header) (k : Known) (b : Block) (clean : broken h k (Read b) ≡ []) where
  fails : (is_impossible h k b ≡ false) × ((is_transfer_event (kind b) && not (is_in_profile h k b)) ≡ false)
  unfolding lenient_tests event_tests
  fails = let all : AllFail (event_tests h k b) = tests_fail h k (Read b) (lenient_row h k (Read b) clean) in (all.0, all.1.0)

  pub possible : is_impossible h k b ≡ false
  possible = fails.0

  pub in_profile : kind b ≡ TransferEvent → is_in_profile h k b ≡ true
  in_profile is = within_profile h k b is fails.1

-- what is noted of an event, by its kind
module _ (h : Header) (headed : IsHeader h) (k : Known) (b : Block) (keeps : DriverKeeps h k) (clean : broken h k (Read b) ≡ []) (after : TraceRecord) (m : ℕ → ℕ) where
  placed : is_no_event h k b ≡ false
  placed = (parts h k b (possible h k b clean)).0

  pub noted_transfer : kind b ≡ TransferEvent → (is_in_profile h k b ≡ true → is_impossible_transfer h k b ≡ false → FollowsTrace h (transfer_read h k b) after m) →
      FollowsTrace h (event_read h k (kind b) b) after m
  noted_transfer is noted = search (rules, read_transfer, in_profile, transfer_possible, possible)

  pub noted_completion : kind b ≡ CommandCompletion → (k.started ≡ true → is_impossible_completion h k b ≡ false → FollowsTrace h (completed h k b) after m) →
      FollowsTrace h (event_read h k (kind b) b) after m
  noted_completion is noted = rw (← read_completion h k b is) (noted (is_started h k b placed) (completion_possible h k b (possible h k b clean) is))

  pub noted_other : (kind b ≡ TransferEvent → ⊥) → (kind b ≡ CommandCompletion → ⊥) → FollowsTrace h k after m → FollowsTrace h (event_read h k (kind b) b) after m
  noted_other no_transfer no_completion noted = subst (λ (l : Known). FollowsTrace h l after m) (read_other h k b no_transfer no_completion) noted

-- an event that was noted and counted
pub event_step : (h : Header) (k : Known) (on : k.stopped ≡ false) (b : Block) → is_impossible h k b ≡ false → (is_transfer_event (kind b) && not (is_in_profile h k b)) ≡ false → (noted after : TraceRecord) (m : ℕ → ℕ) →
    (broken h k (Read b) ≡ [] → FollowsTrace h (event_read h k (kind b) b) noted m) →
    ((l : Known) → FollowsTrace h l noted m → (cycle b == cycle_of (event_shape h) l.reads) ≡ true → FollowsTrace h (record l { reads = l.reads + 1 }) after m) →
    IsRowStep h k (Read b) after m
event_step h k on b may within noted after m notes counts =
    let clean = clean_event h k on b may within in
    record { clean = clean; followed = counted h k b after m (counts (event_read h k (kind b) b) (notes clean) (in_turn h k b may)) }

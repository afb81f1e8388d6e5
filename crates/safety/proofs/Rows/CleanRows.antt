-- What a register write, a doorbell or an event that breaks no rule says
use Rattle.safety.proofs.Words.{arith, [], ◌≡◌, ◌==◌, ◌&&◌, ◌||◌, if◌then◌else◌, ℕ, not, true, false, or_parts, not-false, Block, kind, cycle, is_transfer_event, is_event, cycle_of, Header, Register, Reg, Bell, Read, event_shape, Known, is_bad_register, is_bad_erdp, register_tests, is_bad_bell, is_bad_doorbell, doorbell_tests, is_in_profile, is_impossible_by_kind, is_past_room, is_impossible, event_tests, lenient_tests, lenient, is_asked}
use Rattle.safety.proofs.RingsKeep.TestsPassed.{AllFail, tests_fail}

pub record RegisterFacts (h : Header) (k : Known) (r : Register) (v : ℕ) : Type 0 where
  pub good : is_bad_register h k r v ≡ false
  pub erdp : is_bad_erdp h k r v ≡ false

pub record BellFacts (h : Header) (k : Known) (s t : ℕ) : Type 0 where
  pub started : k.started ≡ true
  pub on : is_asked k.halt ≡ false
  pub good : (if s == 0 then not (t == 0) else is_bad_bell h k s t) ≡ false

pub record EventFacts (h : Header) (k : Known) (b : Block) : Type 0 where
  pub started : k.started ≡ true
  pub room : is_past_room h k ≡ false
  pub turn : not (cycle b == cycle_of (event_shape h) k.reads) ≡ false
  pub event : not (is_event (kind b)) ≡ false
  pub possible : is_impossible_by_kind h k (kind b) b ≡ false
  pub inside : (is_transfer_event (kind b) && not (is_in_profile h k b)) ≡ false

pub register_facts : (h : Header) (k : Known) (r : Register) (v : ℕ) → lenient h k (Reg r v) ≡ [] → RegisterFacts h k r v
unfolding lenient_tests register_tests
register_facts h k r v clean = grind (arith, AllFail, tests_fail, tests_fail h k (Reg r v) clean)

pub bell_facts : (h : Header) (k : Known) (s t : ℕ) → lenient h k (Bell s t) ≡ [] → BellFacts h k s t
unfolding lenient_tests doorbell_tests is_bad_doorbell
bell_facts h k s t clean =
    let good = or_parts (not k.started || is_asked k.halt) (if s == 0 then not (t == 0) else is_bad_bell h k s t) (tests_fail h k (Bell s t) clean).0 in
    let before = or_parts (not k.started) (is_asked k.halt) good.0 in
    record { started = not-false k.started before.0; on = before.1; good = good.1 }

pub event_facts : (h : Header) (k : Known) (b : Block) → lenient h k (Read b) ≡ [] → EventFacts h k b
unfolding lenient_tests event_tests is_impossible
event_facts h k b clean =
    let fails : AllFail (event_tests h k b) = tests_fail h k (Read b) clean in
    let four = or_parts (not k.started || is_past_room h k || not (cycle b == cycle_of (event_shape h) k.reads) || not (is_event (kind b))) (is_impossible_by_kind h k (kind b) b) fails.0 in
    let three = or_parts (not k.started || is_past_room h k || not (cycle b == cycle_of (event_shape h) k.reads)) (not (is_event (kind b))) four.0 in
    grind (arith, or_parts, not-false)

-- Worked examples of Links that are given: where they lead, which of them toggle the cycle, and what they may not say
use Rattle.ownership_rules.proofs.Words.{◌≡◌, ℕ, ◌+◌, List, [], ◌∷◌, ◌++◌, Option, Some, None, refl, Evt, Xfer, Bytes32, One, Two, Three, Version, Header, Row, Write, nothing, Refusal, WriteToOwned, LinkFault, NotInProfile, verdict_from, rules_on_literals}

-- a transfer ring of two segments, of 3 blocks at 0x30000 and of 2 blocks at 0x31000
abbrev two_segments : Version → Header
two_segments version = record { version = version; context_size = Bytes32; rings = record { id = 2; shape = record { kind = Xfer; segments = record { base = 0x30000; count = 3 } ∷ record { base = 0x31000; count = 2 } ∷ []; offset = 0 } } ∷ [] }

-- the two rows that give a Link: its pointer, then its control word
abbrev link : ℕ → ℕ → ℕ → List Row
link at target control = Write at target ∷ Write (at + 12) control ∷ []

-- the Links of the first and the second segment
abbrev first : ℕ → ℕ → List Row
first target control = link 0x30020 target control

abbrev last : ℕ → ℕ → List Row
last target control = link 0x31010 target control

-- the verdict on a trace with these rows: lines 1 to 3 are the header, the first row is line 4
abbrev verdict_by : Version → List Row → Option (ℕ × Refusal)
verdict_by version rows = verdict_from (two_segments version) nothing 4 rows

abbrev verdict : List Row → Option (ℕ × Refusal)
verdict rows = verdict_by One rows

-- control words: type 6 with the Cycle bit, with Toggle Cycle (TC), with Interrupt On Completion (IOC)
abbrev plain : ℕ
plain = 0x1801

abbrev toggling : ℕ
toggling = 0x1803

-- ---- the Link of the first segment leads to the second, that of the second back with Toggle Cycle

pub both_links : verdict (first 0x31000 plain ++ last 0x30000 toggling) ≡ None
unfolding rules_on_literals
both_links = refl

pub first_link_toggles : verdict (first 0x31000 toggling) ≡ Some (5, LinkFault)
unfolding rules_on_literals
first_link_toggles = refl

pub first_link_leads_back_and_toggles : verdict (first 0x30000 toggling) ≡ Some (5, LinkFault)
unfolding rules_on_literals
first_link_leads_back_and_toggles = refl

pub last_link_does_not_toggle : verdict (first 0x31000 plain ++ last 0x30000 plain) ≡ Some (7, LinkFault)
unfolding rules_on_literals
last_link_does_not_toggle = refl

pub last_link_leads_to_itself : verdict (last 0x31000 toggling) ≡ Some (5, LinkFault)
unfolding rules_on_literals
last_link_leads_to_itself = refl

-- type 5 in place of 6
pub no_link : verdict (first 0x31000 0x1401) ≡ Some (5, LinkFault)
unfolding rules_on_literals
no_link = refl

-- bits 3:0 of word 0 are no part of the pointer
pub pointer_with_low_bits : verdict (first 0x3100f plain) ≡ None
unfolding rules_on_literals
pointer_with_low_bits = refl

-- the other lap's Cycle bit gives no Link, whatever the words say
pub link_not_given : verdict (first 0 0x1802) ≡ None
unfolding rules_on_literals
link_not_given = refl

-- ---- Interrupt On Completion (IOC) is 0

pub link_interrupts : verdict (first 0x31000 0x1821) ≡ Some (5, NotInProfile)
unfolding rules_on_literals
link_interrupts = refl

pub last_link_interrupts : verdict (last 0x30000 0x1823) ≡ Some (5, NotInProfile)
unfolding rules_on_literals
last_link_interrupts = refl

-- the lesser number is told where a Link breaks both rules
pub wrong_link_interrupts : verdict (first 0x31000 0x1823) ≡ Some (5, LinkFault)
unfolding rules_on_literals
wrong_link_interrupts = refl

-- ---- a Link that was given is the controller's

pub link_written_again : verdict (first 0x31000 plain ++ Write 0x30020 0x30000 ∷ []) ≡ Some (6, WriteToOwned)
unfolding rules_on_literals
link_written_again = refl

-- by version 3 it may be written as it stands, by versions 1 and 2 not at all
abbrev stored_again : List Row
stored_again = first 0x31000 plain ++ Write 0x3002c plain ∷ Write 0x30020 0x31000 ∷ []

pub link_stored_again : verdict_by Three stored_again ≡ None
unfolding rules_on_literals
link_stored_again = refl

pub link_stored_again_before : (verdict_by One stored_again ≡ Some (6, WriteToOwned)) × (verdict_by Two stored_again ≡ Some (6, WriteToOwned))
unfolding rules_on_literals
link_stored_again_before = (refl, refl)

pub link_changed : verdict_by Three (first 0x31000 plain ++ Write 0x3002c plain ∷ Write 0x30020 0x30000 ∷ []) ≡ Some (7, WriteToOwned)
unfolding rules_on_literals
link_changed = refl

-- a word of an event segment may not be written at all: here it is 0
abbrev with_events : Header
with_events = record { version = Three; context_size = Bytes32; rings = record { id = 1; shape = record { kind = Evt; segments = record { base = 0x20000; count = 16 } ∷ []; offset = 0 } } ∷ [] }

pub event_word_stored : verdict_from with_events nothing 4 (Write 0x20004 0 ∷ []) ≡ Some (4, WriteToOwned)
unfolding rules_on_literals
event_word_stored = refl

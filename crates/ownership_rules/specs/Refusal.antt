-- The rules by their numbers, and those that are broken
use Rattle.std.specs.Prelude.{ℕ, Bool, List, map, filter}
use Rattle.ownership_rules.specs.declared.refusal.Refusal.{Refusal}
use Rattle.ownership_rules.specs.declared.refusal.Refusal.TheVariants.{WriteToOwned, NotAsSubmitted, NotDeclared, NotWhole, LinkFault, RingFull, BadDescriptor, BadRegister, BadDoorbell, BadCommand, Busy, ImpossibleEvent, BadErdp, NotInProfile, AfterStop, BadMove, BadWithdraw, NotRestored, BadFree, BadRing, ImpossibleRead}

abbrev pub number_of : Refusal → ℕ
number_of WriteToOwned = 10
number_of NotAsSubmitted = 11
number_of NotDeclared = 12
number_of NotWhole = 13
number_of LinkFault = 14
number_of RingFull = 15
number_of BadDescriptor = 16
number_of BadRegister = 17
number_of BadDoorbell = 18
number_of BadCommand = 19
number_of Busy = 20
number_of ImpossibleEvent = 21
number_of BadErdp = 22
number_of NotInProfile = 23
number_of AfterStop = 24
number_of BadMove = 25
number_of BadWithdraw = 32
number_of NotRestored = 33
number_of BadFree = 34
number_of BadRing = 35
number_of ImpossibleRead = 36

-- a rule, and whether a row breaks it
abbrev pub Test : Type 0
Test = Refusal × Bool

-- the rules that are broken
abbrev pub broken_of : List Test → List Refusal
broken_of tests = map (λ t. t.0) (filter (λ t. t.1) tests)

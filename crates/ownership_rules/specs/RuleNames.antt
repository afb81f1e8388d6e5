-- The rules by their names
use Rattle.std.specs.Prelude.{ℕ, List, codes}
use Rattle.ownership_rules.specs.declared.refusal.Refusal.{Refusal}
use Rattle.ownership_rules.specs.declared.refusal.Refusal.TheVariants.{WriteToOwned, NotAsSubmitted, NotDeclared, NotWhole, LinkFault, RingFull, BadDescriptor, BadRegister, BadDoorbell, BadCommand, Busy, ImpossibleEvent, BadErdp, NotInProfile, AfterStop, BadMove, BadWithdraw, NotRestored, BadFree, BadRing, ImpossibleRead}

-- the name that is printed
abbrev pub name_of : Refusal → List ℕ
name_of WriteToOwned = codes "WriteToOwned"
name_of NotAsSubmitted = codes "NotAsSubmitted"
name_of NotDeclared = codes "NotDeclared"
name_of NotWhole = codes "NotWhole"
name_of LinkFault = codes "LinkFault"
name_of RingFull = codes "RingFull"
name_of BadDescriptor = codes "BadDescriptor"
name_of BadRegister = codes "BadRegister"
name_of BadDoorbell = codes "BadDoorbell"
name_of BadCommand = codes "BadCommand"
name_of Busy = codes "Busy"
name_of ImpossibleEvent = codes "ImpossibleEvent"
name_of BadErdp = codes "BadErdp"
name_of NotInProfile = codes "NotInProfile"
name_of AfterStop = codes "AfterStop"
name_of BadMove = codes "BadMove"
name_of BadWithdraw = codes "BadWithdraw"
name_of NotRestored = codes "NotRestored"
name_of BadFree = codes "BadFree"
name_of BadRing = codes "BadRing"
name_of ImpossibleRead = codes "ImpossibleRead"

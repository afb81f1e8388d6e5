-- The versions of a trace, by its first line
use Rattle.std.specs.Prelude.{if◌then◌else◌, ◌&&◌, ◌||◌, not, Bool, true, false}
use Rattle.trb.specs.declared.block.Block.{Block}
use Rattle.trb.specs.Block.{code, has_event_data}
use Rattle.trb.specs.CompletionCode.{may_name_data}
use Rattle.traces.specs.declared.version.Version.{Version}
use Rattle.trb.specs.declared.profile.Profile.{Profile}
use Rattle.trb.specs.declared.profile.Profile.TheVariants.{Basic, Full}
use Rattle.traces.specs.declared.version.Version.TheVariants.{One, Two, Three, Four}

-- the rules that a harm needs; the versions before refuse more
abbrev pub is_lenient : Version → Bool
is_lenient One = false
is_lenient Two = false
is_lenient Three = true
is_lenient Four = true

-- rings come and go behind the first row, and descriptors are withdrawn
abbrev pub has_ring_rows : Version → Bool
has_ring_rows One = false
has_ring_rows Two = true
has_ring_rows Three = true
has_ring_rows Four = true

-- isochronous endpoints are used (xHCI 3.2.11, 4.10.3)
abbrev pub has_isoch : Version → Bool
has_isoch Four = true
has_isoch _ = false

-- the controller may halt and run again; before, the stop ends a trace (xHCI 4.2, 4.23.2)
abbrev pub has_runs : Version → Bool
has_runs Four = true
has_runs _ = false

-- Event Data blocks are used, and events that tell their values (xHCI 4.11.5.2)
abbrev pub has_data : Version → Bool
has_data Four = true
has_data _ = false

-- which transfers there are: those of isochronous endpoints and Event Data come together
abbrev pub profile_of : Version → Profile
profile_of version = if has_isoch version && has_data version then Full else Basic

-- a Transfer Event tells an address; or, by ED, a value, with a code that says that a block was passed
abbrev pub may_have_data : Version → Block → Bool
may_have_data version b = not (has_event_data b) || (has_data version && may_name_data (code b))

-- Replays in which the controller halts and runs again, by evaluation
use Rattle.controller_model.proofs.LowerLaws.{◌≡◌, ◌++◌, ◌∷◌, [], ℕ, Bool, true, false, List, Option, Some, option_map, replicate, refl, Evt, Block, Header, Row, Sub, Write, Reg, Bell, RegRead, RingRow, FreeRow, Usbcmd, Usbsts, Crcr, Erdp, Step, NextRow, Look, Other, Scribble, Halt, Version, Three, Four, World, PostsOverUnread, model_on_literals, scene_reached, scene_replayed, scene_ending, Ending, NoHarm, NotPossible, Harmful, reverse, Seen, addressed_steps, three_rings, Cmd}
use Rattle.controller_model.proofs.WorkedReplays.{addressed}
use Rattle.controller_model.specs.declared.seen.Seen.TheVariants as seen

abbrev rings : Version → Header
rings version = record (three_rings 4) { version = version }

-- a command is declared and given, the controller started, and the command ring's doorbell rung
abbrev begun : List Row → List Row
begun behind = Sub 0 (record { w = 0 ∷ 0 ∷ 0 ∷ 23552 ∷ [] } ∷ []) ∷ Write 65548 23553 ∷ Reg Erdp 131072 ∷ Reg Crcr 65537 ∷ Reg Usbcmd 1 ∷ Bell 0 0 ∷ behind

abbrev first_rows : List Step → List Step
first_rows behind = replicate 6 NextRow ++ behind

abbrev ends : Version → List Row → List Step → Ending
ends version behind steps = scene_ending (rings version) (begun behind) (first_rows steps)

-- what the world has where steps lead
abbrev told : {X : Type 0} → (World → X) → List Row → List Step → Option X
told of behind steps = option_map (λ x. of x.world) (scene_reached (rings Four) (begun behind) (reverse (first_rows steps)))

abbrev shown : List Row → List Step → List Seen
shown behind steps = (scene_replayed (rings Four) (begun behind) (first_rows steps)).seen

-- R/S 0 alone changes nothing; once it has halted the controller looks at nothing, and posts nothing
pub looks_until_it_halts : ends Four (Reg Usbcmd 0 ∷ []) (NextRow ∷ Look 0 ∷ Halt ∷ []) ≡ NoHarm
unfolding model_on_literals
looks_until_it_halts = refl

pub looks_at_nothing : ends Four (Reg Usbcmd 0 ∷ []) (NextRow ∷ Halt ∷ Look 0 ∷ []) ≡ NotPossible 9
unfolding model_on_literals
looks_at_nothing = refl

abbrev port_event : Block
port_event = record { w = 16777216 ∷ 0 ∷ 16777216 ∷ 34817 ∷ [] }

pub posts_nothing : ends Four (Reg Usbcmd 0 ∷ []) (NextRow ∷ Halt ∷ Other port_event ∷ []) ≡ NotPossible 9
unfolding model_on_literals
posts_nothing = refl

-- and may still write device contexts
pub saves : scene_ending (rings Four) (addressed (Reg Usbcmd 0 ∷ [])) (addressed_steps (NextRow ∷ NextRow ∷ Halt ∷ Scribble 458752 1 ∷ [])) ≡ NoHarm
unfolding model_on_literals
saves = refl

-- it halts where R/S is 0 alone, and once
pub halts_in_no_run : ends Four [] (Halt ∷ []) ≡ NotPossible 7
unfolding model_on_literals
halts_in_no_run = refl

pub halts_once : ends Four (Reg Usbcmd 0 ∷ []) (NextRow ∷ Halt ∷ Halt ∷ []) ≡ NotPossible 9
unfolding model_on_literals
halts_once = refl

-- USBSTS shows HCHalted where it has halted, or wasn't started
pub shows_the_halt : ends Four (Reg Usbcmd 0 ∷ RegRead Usbsts 9 ∷ []) (NextRow ∷ Halt ∷ NextRow ∷ []) ≡ NoHarm
unfolding model_on_literals
shows_the_halt = refl

pub shows_no_halt_before : ends Four (Reg Usbcmd 0 ∷ RegRead Usbsts 9 ∷ []) (NextRow ∷ NextRow ∷ []) ≡ NotPossible 8
unfolding model_on_literals
shows_no_halt_before = refl

pub shows_no_run_behind : ends Four (Reg Usbcmd 0 ∷ RegRead Usbsts 8 ∷ []) (NextRow ∷ Halt ∷ NextRow ∷ []) ≡ NotPossible 9
unfolding model_on_literals
shows_no_run_behind = refl

pub shows_that_it_was_not_started : scene_ending (rings Four) (RegRead Usbsts 1 ∷ []) (NextRow ∷ []) ≡ NoHarm
unfolding model_on_literals
shows_that_it_was_not_started = refl

-- R/S 1 lets it go on where it was, with no doorbell
abbrev once_more : List Row
once_more = Reg Usbcmd 0 ∷ RegRead Usbsts 1 ∷ Reg Usbcmd 1 ∷ []

pub goes_on_where_it_was : shown once_more (NextRow ∷ Halt ∷ NextRow ∷ NextRow ∷ Look 0 ∷ [])
    ≡ replicate 7 seen.Row ++ seen.Halted ∷ replicate 2 seen.Row ++ seen.Took 0 65536 (record { w = 0 ∷ 0 ∷ 0 ∷ 23553 ∷ [] }) ∷ []
unfolding model_on_literals
goes_on_where_it_was = refl

-- HCRST resets it once it has halted: no ring is active, and it isn't started
abbrev runs : World → Bool × Bool
runs w = (w.started, w.is_active 0)

pub is_reset : told runs (Reg Usbcmd 0 ∷ Reg Usbcmd 2 ∷ []) (NextRow ∷ Halt ∷ NextRow ∷ []) ≡ Some (false, false)
unfolding model_on_literals
is_reset = refl

pub runs_on : told runs (Reg Usbcmd 0 ∷ Reg Usbcmd 2 ∷ []) (NextRow ∷ NextRow ∷ []) ≡ Some (true, true)
unfolding model_on_literals
runs_on = refl

-- CRCR places the command ring where the controller doesn't run
abbrev placed : World → ℕ × Bool
placed w = (w.pointer_of 0, w.is_active 0)

pub is_placed_behind_the_halt : told placed (Reg Usbcmd 0 ∷ Reg Crcr 65601 ∷ []) (NextRow ∷ Halt ∷ NextRow ∷ []) ≡ Some (65600, false)
unfolding model_on_literals
is_placed_behind_the_halt = refl

pub stays_in_a_run : told placed (Reg Usbcmd 0 ∷ Reg Crcr 65601 ∷ []) (NextRow ∷ NextRow ∷ []) ≡ Some (65536, true)
unfolding model_on_literals
stays_in_a_run = refl

-- a post while no event ring is there is harm
pub posts_nowhere : ends Four (FreeRow 1 ∷ []) (NextRow ∷ Other port_event ∷ []) ≡ Harmful 8 PostsOverUnread
unfolding model_on_literals
posts_nowhere = refl

-- behind a reset it posts into the event ring that came last
abbrev another_event_ring : List Row
another_event_ring =
    Reg Usbcmd 0 ∷ Reg Usbcmd 2 ∷ FreeRow 1
    ∷ RingRow (record { id = 5; shape = record { kind = Evt; segments = record { base = 262144; count = 16 } ∷ []; offset = 0 } })
    ∷ Reg Usbcmd 1 ∷ []

pub posts_into_the_newest : shown another_event_ring (NextRow ∷ Halt ∷ replicate 4 NextRow ++ Other port_event ∷ [])
    ≡ replicate 7 seen.Row ++ seen.Halted ∷ replicate 4 seen.Row ++ seen.Posted 262144 ∷ []
unfolding model_on_literals
posts_into_the_newest = refl

-- a ring that comes isn't looked at, whatever was looked at under its ID before
pub comes_at_rest : told runs (FreeRow 0 ∷ RingRow (record { id = 0; shape = record { kind = Cmd; segments = record { base = 524288; count = 4 } ∷ []; offset = 0 } }) ∷ []) (replicate 2 NextRow)
    ≡ Some (true, false)
unfolding model_on_literals
comes_at_rest = refl

-- in an earlier version the stop is the end
pub stops : ends Three (Reg Usbcmd 0 ∷ []) (NextRow ∷ Look 0 ∷ []) ≡ NotPossible 8
unfolding model_on_literals
stops = refl

pub stops_for_good : ends Three once_more (NextRow ∷ NextRow ∷ []) ≡ NotPossible 8
unfolding model_on_literals
stops_for_good = refl

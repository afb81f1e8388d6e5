-- Completion codes of Transfer Events that the profile has: xHCI 6.4.5, table 6-90
use Rattle.std.specs.Prelude.{ℕ, ◌==◌, ◌||◌, if◌then◌else◌, Bool, true, false, not}

-- Success, Short Packet
abbrev pub is_success : ℕ → Bool
is_success c = c == 1 || c == 13

-- Babble Detected, USB Transaction Error, Stall, Split Transaction Error: the endpoint halts (which codes halt is this project's choice)
abbrev pub is_halting : ℕ → Bool
is_halting c = c == 3 || c == 4 || c == 6 || c == 36

-- TRB Error: the endpoint goes to the Error state
abbrev pub is_trb_error : ℕ → Bool
is_trb_error c = c == 5

-- Stopped, Stopped - Length Invalid, Stopped - Short Packet
abbrev pub is_stopping : ℕ → Bool
is_stopping c = c == 26 || c == 27 || c == 28

abbrev pub is_transfer_code : ℕ → Bool
is_transfer_code c = is_success c || is_halting c || is_trb_error c || is_stopping c

-- ---- isochronous endpoints: xHCI 4.10.2, 4.10.3, 4.14

-- Data Buffer Error, Babble Detected, USB Transaction Error, Bandwidth Overrun, No Ping Response, Isoch Buffer Overrun, Split Transaction Error
abbrev pub is_isoch_error : ℕ → Bool
is_isoch_error c = c == 2 || c == 3 || c == 4 || c == 18 || c == 20 || c == 31 || c == 36

-- Ring Underrun, Ring Overrun, Missed Service Error: they tell of the service, and of no block
abbrev pub is_of_service : ℕ → Bool
is_of_service c = c == 14 || c == 15 || c == 23

-- codes with which an event may tell the value of an Event Data block: those that tell that the block was passed
abbrev pub may_name_data : ℕ → Bool
may_name_data c = not (is_of_service c || is_stopping c)

-- how a code counts: at an isochronous endpoint, which no error halts, the errors tell that a block was passed, as Success does; without a
-- handshake nothing stalls (6), and that is no code there
abbrev pub counted_code : Bool → ℕ → ℕ
counted_code false c = c
counted_code true c = if is_isoch_error c then 1 else if c == 6 then 0 else c

-- Replays with their endings, one for each harm, by evaluation; tests/rows and tests/harms have these and more for the program
use Rattle.controller_model.proofs.Words.{ℕ, ◌++◌, replicate, ◌≡◌, List, [], ◌∷◌, refl, Cmd, Evt, Xfer, One, Bytes32, Header, Row, Sub, Write, Reg, Bell, Read, Usbcmd, Crcr, Dcbaap, Config, Erstsz, Erstba, Erdp, Step, NextRow, Look, Report, Finish, Other, Scribble, TakenOutOfOrder, TakenOtherWords, WaitsInsideDescriptor, LooksOutside, PostsOverUnread, InputContextChanged, model_on_literals, scene_ending, NoHarm, NotPossible, Harmful}

-- a Command Ring and an Event Ring of 16 blocks, alone
abbrev two_rings : Header
two_rings = record { version = One; context_size = Bytes32; rings = record { id = 0; shape = record { kind = Cmd; segments = record { base = 65536; count = 16 } ∷ []; offset = 0 } } ∷ record { id = 1; shape = record { kind = Evt; segments = record { base = 131072; count = 16 } ∷ []; offset = 0 } } ∷ [] }

-- and a Transfer Ring behind them
abbrev pub three_rings : ℕ → Header
three_rings count = record { version = One; context_size = Bytes32; rings = record { id = 0; shape = record { kind = Cmd; segments = record { base = 65536; count = 16 } ∷ []; offset = 0 } } ∷ record { id = 1; shape = record { kind = Evt; segments = record { base = 131072; count = 16 } ∷ []; offset = 0 } } ∷ record { id = 2; shape = record { kind = Xfer; segments = record { base = 196608; count = count } ∷ []; offset = 0 } } ∷ [] }

-- the registers are written, and the controller runs
abbrev started : List Row → List Row
started behind =
    Write 262144 131072
    ∷ Write 262152 16
    ∷ Reg Erstsz 1
    ∷ Reg Erstba 262144
    ∷ Reg Erdp 131072
    ∷ Reg Crcr 65537
    ∷ Reg Dcbaap 327680
    ∷ Reg Config 8
    ∷ Reg Usbcmd 1
    ∷ behind

-- a slot is enabled, and Address Device starts its Default Control Endpoint
abbrev pub addressed : List Row → List Row
addressed behind =
    started
    (Sub 0 (record { w = 0 ∷ 0 ∷ 0 ∷ 9216 ∷ [] } ∷ [])
    ∷ Write 65548 9217
    ∷ Bell 0 0
    ∷ Read (record { w = 65536 ∷ 0 ∷ 16777216 ∷ 16811009 ∷ [] })
    ∷ Write 327688 458752
    ∷ Write 393220 3
    ∷ Write 393284 32
    ∷ Write 393288 196609
    ∷ Sub 0 (record { w = 393216 ∷ 0 ∷ 0 ∷ 16788480 ∷ [] } ∷ [])
    ∷ Write 65552 393216
    ∷ Write 65564 16788481
    ∷ Bell 0 0
    ∷ Read (record { w = 65552 ∷ 0 ∷ 16777216 ∷ 16811009 ∷ [] })
    ∷ behind)

abbrev pub addressed_steps : List Step → List Step
addressed_steps behind = replicate 12 NextRow ++ (Look 0 ∷ Finish (record { w = 65536 ∷ 0 ∷ 16777216 ∷ 16811009 ∷ [] }) ∷ replicate 9 NextRow ++ (Look 0 ∷ Finish (record { w = 65552 ∷ 0 ∷ 16777216 ∷ 16811009 ∷ [] }) ∷ behind))

pub event_ring_fills : scene_ending (three_rings 4) (started []) (replicate 9 NextRow ++ (replicate 16 (Other (record { w = 16777216 ∷ 0 ∷ 16777216 ∷ 34817 ∷ [] })))) ≡ NotPossible 25
unfolding model_on_literals
event_ring_fills = refl

abbrev pub replay_of_a_lazy_schedule_rows : List Row
replay_of_a_lazy_schedule_rows = addressed (Sub 2 (record { w = 0 ∷ 0 ∷ 0 ∷ 8224 ∷ [] } ∷ []) ∷ Write 196620 8225 ∷ Sub 2 (record { w = 0 ∷ 0 ∷ 0 ∷ 8224 ∷ [] } ∷ []) ∷ Write 196636 8225 ∷ Bell 1 1 ∷ Read (record { w = 196608 ∷ 0 ∷ 16777216 ∷ 16875521 ∷ [] }) ∷ Sub 2 (record { w = 0 ∷ 0 ∷ 0 ∷ 8224 ∷ [] } ∷ []) ∷ Write 196652 8225 ∷ [])

abbrev pub replay_of_a_lazy_schedule_steps : List Step
replay_of_a_lazy_schedule_steps = addressed_steps (replicate 6 NextRow ++ (Look 2 ∷ Report (record { w = 196608 ∷ 0 ∷ 16777216 ∷ 16875521 ∷ [] }) ∷ NextRow ∷ NextRow ∷ NextRow ∷ []))

pub replay_of_a_lazy_schedule : scene_ending (three_rings 4) replay_of_a_lazy_schedule_rows replay_of_a_lazy_schedule_steps ≡ NoHarm
unfolding model_on_literals
replay_of_a_lazy_schedule = refl

abbrev pub replay_of_a_write_after_the_doorbell_rows : List Row
replay_of_a_write_after_the_doorbell_rows = addressed (Sub 2 (record { w = 0 ∷ 0 ∷ 0 ∷ 8224 ∷ [] } ∷ []) ∷ Write 196620 8225 ∷ Bell 1 1 ∷ Write 196608 1 ∷ [])

abbrev pub replay_of_a_write_after_the_doorbell_steps : List Step
replay_of_a_write_after_the_doorbell_steps = addressed_steps (replicate 5 NextRow ++ (Look 2 ∷ []))

pub replay_of_a_write_after_the_doorbell : scene_ending (three_rings 4) replay_of_a_write_after_the_doorbell_rows replay_of_a_write_after_the_doorbell_steps ≡ Harmful 31 TakenOtherWords
unfolding model_on_literals
replay_of_a_write_after_the_doorbell = refl

abbrev pub replay_waits_inside_a_descriptor_rows : List Row
replay_waits_inside_a_descriptor_rows = addressed (Sub 2 (record { w = 0 ∷ 0 ∷ 0 ∷ 1040 ∷ [] } ∷ record { w = 0 ∷ 0 ∷ 0 ∷ 1056 ∷ [] } ∷ []) ∷ Write 196620 1041 ∷ Bell 1 1 ∷ [])

abbrev pub replay_waits_inside_a_descriptor_steps : List Step
replay_waits_inside_a_descriptor_steps = addressed_steps (replicate 4 NextRow ++ (Look 2 ∷ []))

pub replay_waits_inside_a_descriptor : scene_ending (three_rings 8) replay_waits_inside_a_descriptor_rows replay_waits_inside_a_descriptor_steps ≡ Harmful 30 WaitsInsideDescriptor
unfolding model_on_literals
replay_waits_inside_a_descriptor = refl

abbrev pub undeclared_blocks_may_be_given_rows : List Row
undeclared_blocks_may_be_given_rows =
    Write 262144 131072
    ∷ Write 262152 16
    ∷ Reg Erstsz 1
    ∷ Reg Erstba 262144
    ∷ Reg Erdp 131072
    ∷ Reg Crcr 65537
    ∷ Reg Usbcmd 1
    ∷ Write 65548 23553
    ∷ Bell 0 0
    ∷ []

abbrev pub undeclared_blocks_may_be_given_steps : List Step
undeclared_blocks_may_be_given_steps = replicate 9 NextRow ++ (Look 0 ∷ [])

pub undeclared_blocks_may_be_given_harmful : scene_ending two_rings undeclared_blocks_may_be_given_rows undeclared_blocks_may_be_given_steps ≡ Harmful 10 TakenOutOfOrder
unfolding model_on_literals
undeclared_blocks_may_be_given_harmful = refl

abbrev pub crcr_may_name_any_address_rows : List Row
crcr_may_name_any_address_rows =
    Write 262144 131072
    ∷ Write 262152 16
    ∷ Reg Erstsz 1
    ∷ Reg Erstba 262144
    ∷ Reg Erdp 131072
    ∷ Reg Crcr 327681
    ∷ Reg Usbcmd 1
    ∷ Bell 0 0
    ∷ []

abbrev pub crcr_may_name_any_address_steps : List Step
crcr_may_name_any_address_steps = replicate 8 NextRow ++ (Look 0 ∷ [])

pub crcr_may_name_any_address_harmful : scene_ending two_rings crcr_may_name_any_address_rows crcr_may_name_any_address_steps ≡ Harmful 9 LooksOutside
unfolding model_on_literals
crcr_may_name_any_address_harmful = refl

abbrev pub device_contexts_over_input_contexts_header : Header
device_contexts_over_input_contexts_header = record { version = One; context_size = Bytes32; rings = record { id = 0; shape = record { kind = Cmd; segments = record { base = 65600; count = 3 } ∷ []; offset = 0 } } ∷ record { id = 1; shape = record { kind = Evt; segments = record { base = 65792; count = 17 } ∷ []; offset = 0 } } ∷ record { id = 2; shape = record { kind = Xfer; segments = record { base = 66080; count = 2 } ∷ record { base = 66128; count = 2 } ∷ record { base = 66160; count = 2 } ∷ []; offset = 0 } } ∷ record { id = 3; shape = record { kind = Xfer; segments = record { base = 66224; count = 4 } ∷ record { base = 66304; count = 4 } ∷ []; offset = 0 } } ∷ record { id = 4; shape = record { kind = Xfer; segments = record { base = 66384; count = 4 } ∷ []; offset = 0 } } ∷ [] }

abbrev pub device_contexts_over_input_contexts_rows : List Row
device_contexts_over_input_contexts_rows =
    Write 66560 65792
    ∷ Reg Config 4
    ∷ Reg Crcr 65601
    ∷ Write 66568 17
    ∷ Reg Dcbaap 66624
    ∷ Reg Erdp 65794
    ∷ Reg Erstsz 1
    ∷ Reg Erstba 66560
    ∷ Reg Usbcmd 1
    ∷ Sub 0 (record { w = 0 ∷ 0 ∷ 0 ∷ 9216 ∷ [] } ∷ [])
    ∷ Write 65612 9217
    ∷ Bell 0 0
    ∷ Read (record { w = 65600 ∷ 0 ∷ 16777216 ∷ 16811009 ∷ [] })
    ∷ Write 75204 3
    ∷ Write 66632 75200
    ∷ Write 75268 4294901792
    ∷ Write 75272 66081
    ∷ Sub 0 (record { w = 75200 ∷ 0 ∷ 0 ∷ 16788480 ∷ [] } ∷ [])
    ∷ Sub 4 (record { w = 0 ∷ 0 ∷ 0 ∷ 8224 ∷ [] } ∷ [])
    ∷ Write 65616 75200
    ∷ Write 65628 16788481
    ∷ []

abbrev pub device_contexts_over_input_contexts_steps : List Step
device_contexts_over_input_contexts_steps = replicate 12 NextRow ++ (Look 0 ∷ Finish (record { w = 65600 ∷ 0 ∷ 16777216 ∷ 16811009 ∷ [] }) ∷ replicate 9 NextRow ++ (Look 0 ∷ Scribble 75712 4294967295 ∷ []))

pub device_contexts_over_input_contexts_harmful : scene_ending device_contexts_over_input_contexts_header device_contexts_over_input_contexts_rows device_contexts_over_input_contexts_steps ≡ Harmful 25 InputContextChanged
unfolding model_on_literals
device_contexts_over_input_contexts_harmful = refl

abbrev pub erdp_past_what_was_read_header : Header
erdp_past_what_was_read_header = record { version = One; context_size = Bytes32; rings = record { id = 0; shape = record { kind = Cmd; segments = record { base = 65600; count = 3 } ∷ []; offset = 0 } } ∷ record { id = 1; shape = record { kind = Evt; segments = record { base = 65792; count = 16 } ∷ []; offset = 0 } } ∷ record { id = 2; shape = record { kind = Xfer; segments = record { base = 66176; count = 7 } ∷ record { base = 66048; count = 7 } ∷ []; offset = 0 } } ∷ record { id = 3; shape = record { kind = Xfer; segments = record { base = 66288; count = 2 } ∷ record { base = 66320; count = 2 } ∷ record { base = 66368; count = 2 } ∷ record { base = 66416; count = 2 } ∷ []; offset = 0 } } ∷ record { id = 4; shape = record { kind = Xfer; segments = record { base = 66496; count = 4 } ∷ []; offset = 0 } } ∷ record { id = 5; shape = record { kind = Xfer; segments = record { base = 66624; count = 2 } ∷ record { base = 66592; count = 2 } ∷ record { base = 66656; count = 2 } ∷ record { base = 66560; count = 2 } ∷ []; offset = 0 } } ∷ record { id = 6; shape = record { kind = Xfer; segments = record { base = 66688; count = 3 } ∷ record { base = 66736; count = 3 } ∷ []; offset = 0 } } ∷ record { id = 7; shape = record { kind = Xfer; segments = record { base = 66832; count = 2 } ∷ record { base = 66896; count = 2 } ∷ record { base = 66800; count = 2 } ∷ []; offset = 0 } } ∷ [] }

abbrev pub erdp_past_what_was_read_rows : List Row
erdp_past_what_was_read_rows =
    Reg Erdp 65800
    ∷ Reg Crcr 65601
    ∷ Write 67072 65792
    ∷ Reg Config 12
    ∷ Write 67080 16
    ∷ Reg Erstsz 1
    ∷ Reg Erstba 67072
    ∷ Reg Usbcmd 1
    ∷ Write 66272 66048
    ∷ Sub 0 (record { w = 0 ∷ 0 ∷ 0 ∷ 9216 ∷ [] } ∷ [])
    ∷ Write 65612 9217
    ∷ Bell 0 0
    ∷ Write 66304 66320
    ∷ Reg Erdp 65884
    ∷ []

abbrev pub erdp_past_what_was_read_steps : List Step
erdp_past_what_was_read_steps = replicate 11 NextRow ++ (Other (record { w = 2315381515 ∷ 1965134629 ∷ 2315381515 ∷ 39937 ∷ [] }) ∷ NextRow ∷ NextRow ∷ Look 0 ∷ Finish (record { w = 65600 ∷ 0 ∷ 16777216 ∷ 16811009 ∷ [] }) ∷ replicate 8 (Other (record { w = 0 ∷ 0 ∷ 16777216 ∷ 34817 ∷ [] })) ++ (NextRow ∷ replicate 6 (Other (record { w = 0 ∷ 0 ∷ 16777216 ∷ 34817 ∷ [] }))))

pub erdp_past_what_was_read_harmful : scene_ending erdp_past_what_was_read_header erdp_past_what_was_read_rows erdp_past_what_was_read_steps ≡ Harmful 31 PostsOverUnread
unfolding model_on_literals
erdp_past_what_was_read_harmful = refl

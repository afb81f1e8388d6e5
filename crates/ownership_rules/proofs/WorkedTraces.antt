-- Traces with rows of each kind and their verdicts, by evaluation; tests/rows has these and more for the program
use Rattle.ownership_rules.proofs.Words.{◌≡◌, List, [], ◌∷◌, Some, None, refl, Cmd, Evt, Xfer, Bytes32, Version, One, Three, Header, Row, Sub, Write, Reg, Bell, Read, Usbcmd, Crcr, Dcbaap, Config, Erstsz, Erstba, Erdp, nothing, WriteToOwned, NotDeclared, NotWhole, RingFull, Busy, BadErdp, verdict_from, rules_on_literals}

abbrev pub control_transfer_header : Header
control_transfer_header = record { version = One; context_size = Bytes32; rings = record { id = 0; shape = record { kind = Cmd; segments = record { base = 65536; count = 16 } ∷ []; offset = 0 } } ∷ record { id = 1; shape = record { kind = Evt; segments = record { base = 131072; count = 16 } ∷ []; offset = 0 } } ∷ record { id = 2; shape = record { kind = Xfer; segments = record { base = 196608; count = 8 } ∷ []; offset = 0 } } ∷ [] }

abbrev pub control_transfer_rows : List Row
control_transfer_rows =
    Write 262144 131072
    ∷ Write 262152 16
    ∷ Reg Erstsz 1
    ∷ Reg Erstba 262144
    ∷ Reg Erdp 131072
    ∷ Reg Crcr 65537
    ∷ Reg Dcbaap 327680
    ∷ Reg Config 8
    ∷ Reg Usbcmd 1
    ∷ Sub 0 (record { w = 0 ∷ 0 ∷ 0 ∷ 9216 ∷ [] } ∷ [])
    ∷ Write 65548 9217
    ∷ Bell 0 0
    ∷ Read (record { w = 65536 ∷ 0 ∷ 16777216 ∷ 16811009 ∷ [] })
    ∷ Write 327688 458752
    ∷ Write 393220 3
    ∷ Write 393284 32
    ∷ Write 393288 196609
    ∷ Sub 0 (record { w = 393216 ∷ 0 ∷ 0 ∷ 16788480 ∷ [] } ∷ [])
    ∷ Write 65552 393216
    ∷ Write 65564 16788481
    ∷ Bell 0 0
    ∷ Read (record { w = 65552 ∷ 0 ∷ 16777216 ∷ 16811009 ∷ [] })
    ∷ Sub 2 (record { w = 16778880 ∷ 524288 ∷ 8 ∷ 198720 ∷ [] } ∷ [])
    ∷ Sub 2 (record { w = 4096 ∷ 0 ∷ 8 ∷ 68612 ∷ [] } ∷ [])
    ∷ Sub 2 (record { w = 0 ∷ 0 ∷ 0 ∷ 4128 ∷ [] } ∷ [])
    ∷ Write 196624 4096
    ∷ Write 196632 8
    ∷ Write 196636 68613
    ∷ Write 196652 4129
    ∷ Write 196608 16778880
    ∷ Write 196612 524288
    ∷ Write 196616 8
    ∷ Write 196620 198721
    ∷ Bell 1 1
    ∷ Read (record { w = 196640 ∷ 0 ∷ 16777216 ∷ 16875521 ∷ [] })
    ∷ []

pub control_transfer : verdict_from control_transfer_header nothing 6 control_transfer_rows ≡ None
unfolding rules_on_literals
control_transfer = refl

abbrev pub dequeue_pointer_past_the_reads_header : Header
dequeue_pointer_past_the_reads_header = record { version = One; context_size = Bytes32; rings = record { id = 0; shape = record { kind = Cmd; segments = record { base = 65536; count = 16 } ∷ []; offset = 0 } } ∷ record { id = 1; shape = record { kind = Evt; segments = record { base = 131072; count = 16 } ∷ []; offset = 0 } } ∷ record { id = 2; shape = record { kind = Xfer; segments = record { base = 196608; count = 4 } ∷ []; offset = 0 } } ∷ [] }

abbrev pub dequeue_pointer_past_the_reads_rows : List Row
dequeue_pointer_past_the_reads_rows =
    Write 262144 131072
    ∷ Write 262152 16
    ∷ Reg Erstsz 1
    ∷ Reg Erstba 262144
    ∷ Reg Erdp 131072
    ∷ Reg Crcr 65537
    ∷ Reg Dcbaap 327680
    ∷ Reg Config 8
    ∷ Reg Usbcmd 1
    ∷ Reg Erdp 131088
    ∷ []

pub dequeue_pointer_past_the_reads : verdict_from dequeue_pointer_past_the_reads_header nothing 6 dequeue_pointer_past_the_reads_rows ≡ Some (15, BadErdp)
unfolding rules_on_literals
dequeue_pointer_past_the_reads = refl

abbrev pub first_block_given_first_header : Header
first_block_given_first_header = record { version = One; context_size = Bytes32; rings = record { id = 2; shape = record { kind = Xfer; segments = record { base = 196608; count = 4 } ∷ []; offset = 0 } } ∷ [] }

abbrev pub first_block_given_first_rows : List Row
first_block_given_first_rows =
    Sub 2 (record { w = 0 ∷ 0 ∷ 0 ∷ 1040 ∷ [] } ∷ record { w = 0 ∷ 0 ∷ 0 ∷ 1056 ∷ [] } ∷ [])
    ∷ Write 196620 1041
    ∷ []

pub first_block_given_first : verdict_from first_block_given_first_header nothing 4 first_block_given_first_rows ≡ Some (5, NotWhole)
unfolding rules_on_literals
first_block_given_first = refl

abbrev pub ring_full_header : Header
ring_full_header = record { version = One; context_size = Bytes32; rings = record { id = 2; shape = record { kind = Xfer; segments = record { base = 196608; count = 4 } ∷ []; offset = 0 } } ∷ [] }

abbrev pub ring_full_rows : List Row
ring_full_rows =
    Sub 2 (record { w = 0 ∷ 0 ∷ 0 ∷ 8224 ∷ [] } ∷ [])
    ∷ Write 196620 8225
    ∷ Sub 2 (record { w = 0 ∷ 0 ∷ 0 ∷ 8224 ∷ [] } ∷ [])
    ∷ Write 196636 8225
    ∷ Sub 2 (record { w = 0 ∷ 0 ∷ 0 ∷ 8224 ∷ [] } ∷ [])
    ∷ []

pub ring_full : verdict_from ring_full_header nothing 4 ring_full_rows ≡ Some (8, RingFull)
unfolding rules_on_literals
ring_full = refl

abbrev pub ring_wraps_header : Header
ring_wraps_header = record { version = One; context_size = Bytes32; rings = record { id = 0; shape = record { kind = Cmd; segments = record { base = 65536; count = 16 } ∷ []; offset = 0 } } ∷ record { id = 1; shape = record { kind = Evt; segments = record { base = 131072; count = 16 } ∷ []; offset = 0 } } ∷ record { id = 2; shape = record { kind = Xfer; segments = record { base = 196608; count = 4 } ∷ []; offset = 0 } } ∷ [] }

abbrev pub ring_wraps_rows : List Row
ring_wraps_rows =
    Write 262144 131072
    ∷ Write 262152 16
    ∷ Reg Erstsz 1
    ∷ Reg Erstba 262144
    ∷ Reg Erdp 131072
    ∷ Reg Crcr 65537
    ∷ Reg Dcbaap 327680
    ∷ Reg Config 8
    ∷ Reg Usbcmd 1
    ∷ Sub 0 (record { w = 0 ∷ 0 ∷ 0 ∷ 9216 ∷ [] } ∷ [])
    ∷ Write 65548 9217
    ∷ Bell 0 0
    ∷ Read (record { w = 65536 ∷ 0 ∷ 16777216 ∷ 16811009 ∷ [] })
    ∷ Write 327688 458752
    ∷ Write 393220 3
    ∷ Write 393284 32
    ∷ Write 393288 196609
    ∷ Sub 0 (record { w = 393216 ∷ 0 ∷ 0 ∷ 16788480 ∷ [] } ∷ [])
    ∷ Write 65552 393216
    ∷ Write 65564 16788481
    ∷ Bell 0 0
    ∷ Read (record { w = 65552 ∷ 0 ∷ 16777216 ∷ 16811009 ∷ [] })
    ∷ Sub 2 (record { w = 0 ∷ 0 ∷ 0 ∷ 8224 ∷ [] } ∷ [])
    ∷ Write 196620 8225
    ∷ Sub 2 (record { w = 0 ∷ 0 ∷ 0 ∷ 8224 ∷ [] } ∷ [])
    ∷ Write 196636 8225
    ∷ Bell 1 1
    ∷ Read (record { w = 196608 ∷ 0 ∷ 16777216 ∷ 16875521 ∷ [] })
    ∷ Sub 2 (record { w = 0 ∷ 0 ∷ 0 ∷ 8224 ∷ [] } ∷ [])
    ∷ Write 196652 8225
    ∷ Read (record { w = 196624 ∷ 0 ∷ 16777216 ∷ 16875521 ∷ [] })
    ∷ Sub 2 (record { w = 0 ∷ 0 ∷ 0 ∷ 8224 ∷ [] } ∷ [])
    ∷ Write 196656 196608
    ∷ Write 196668 6147
    ∷ Write 196620 8224
    ∷ Bell 1 1
    ∷ Read (record { w = 196640 ∷ 0 ∷ 16777216 ∷ 16875521 ∷ [] })
    ∷ Read (record { w = 196608 ∷ 0 ∷ 16777216 ∷ 16875521 ∷ [] })
    ∷ []

pub ring_wraps : verdict_from ring_wraps_header nothing 6 ring_wraps_rows ≡ None
unfolding rules_on_literals
ring_wraps = refl

abbrev pub stall_and_move_header : Header
stall_and_move_header = record { version = One; context_size = Bytes32; rings = record { id = 0; shape = record { kind = Cmd; segments = record { base = 65536; count = 16 } ∷ []; offset = 0 } } ∷ record { id = 1; shape = record { kind = Evt; segments = record { base = 131072; count = 16 } ∷ []; offset = 0 } } ∷ record { id = 2; shape = record { kind = Xfer; segments = record { base = 196608; count = 8 } ∷ []; offset = 0 } } ∷ [] }

abbrev pub stall_and_move_rows : List Row
stall_and_move_rows =
    Write 262144 131072
    ∷ Write 262152 16
    ∷ Reg Erstsz 1
    ∷ Reg Erstba 262144
    ∷ Reg Erdp 131072
    ∷ Reg Crcr 65537
    ∷ Reg Dcbaap 327680
    ∷ Reg Config 8
    ∷ Reg Usbcmd 1
    ∷ Sub 0 (record { w = 0 ∷ 0 ∷ 0 ∷ 9216 ∷ [] } ∷ [])
    ∷ Write 65548 9217
    ∷ Bell 0 0
    ∷ Read (record { w = 65536 ∷ 0 ∷ 16777216 ∷ 16811009 ∷ [] })
    ∷ Write 327688 458752
    ∷ Write 393220 3
    ∷ Write 393284 32
    ∷ Write 393288 196609
    ∷ Sub 0 (record { w = 393216 ∷ 0 ∷ 0 ∷ 16788480 ∷ [] } ∷ [])
    ∷ Write 65552 393216
    ∷ Write 65564 16788481
    ∷ Bell 0 0
    ∷ Read (record { w = 65552 ∷ 0 ∷ 16777216 ∷ 16811009 ∷ [] })
    ∷ Sub 2 (record { w = 0 ∷ 0 ∷ 0 ∷ 1040 ∷ [] } ∷ record { w = 0 ∷ 0 ∷ 0 ∷ 1040 ∷ [] } ∷ record { w = 0 ∷ 0 ∷ 0 ∷ 1056 ∷ [] } ∷ [])
    ∷ Sub 2 (record { w = 0 ∷ 0 ∷ 0 ∷ 8224 ∷ [] } ∷ [])
    ∷ Write 196636 1041
    ∷ Write 196652 1057
    ∷ Write 196668 8225
    ∷ Write 196620 1041
    ∷ Bell 1 1
    ∷ Read (record { w = 196624 ∷ 0 ∷ 100663296 ∷ 16875521 ∷ [] })
    ∷ Sub 0 (record { w = 0 ∷ 0 ∷ 0 ∷ 16857088 ∷ [] } ∷ [])
    ∷ Write 65580 16857089
    ∷ Bell 0 0
    ∷ Read (record { w = 65568 ∷ 0 ∷ 16777216 ∷ 16811009 ∷ [] })
    ∷ Sub 0 (record { w = 196657 ∷ 0 ∷ 0 ∷ 16859136 ∷ [] } ∷ [])
    ∷ Write 65584 196657
    ∷ Write 65596 16859137
    ∷ Bell 0 0
    ∷ Read (record { w = 65584 ∷ 0 ∷ 16777216 ∷ 16811009 ∷ [] })
    ∷ Bell 1 1
    ∷ []

pub stall_and_move : verdict_from stall_and_move_header nothing 6 stall_and_move_rows ≡ None
unfolding rules_on_literals
stall_and_move = refl

abbrev pub two_descriptors_header : Header
two_descriptors_header = record { version = One; context_size = Bytes32; rings = record { id = 2; shape = record { kind = Xfer; segments = record { base = 196608; count = 4 } ∷ []; offset = 0 } } ∷ [] }

abbrev pub two_descriptors_rows : List Row
two_descriptors_rows =
    Sub 2 (record { w = 0 ∷ 0 ∷ 0 ∷ 8224 ∷ [] } ∷ [])
    ∷ Write 196620 8225
    ∷ Sub 2 (record { w = 0 ∷ 0 ∷ 0 ∷ 8224 ∷ [] } ∷ [])
    ∷ Write 196636 8225
    ∷ []

pub two_descriptors : verdict_from two_descriptors_header nothing 4 two_descriptors_rows ≡ None
unfolding rules_on_literals
two_descriptors = refl

abbrev pub undeclared_giving_header : Header
undeclared_giving_header = record { version = One; context_size = Bytes32; rings = record { id = 2; shape = record { kind = Xfer; segments = record { base = 196608; count = 4 } ∷ []; offset = 0 } } ∷ [] }

abbrev pub undeclared_giving_rows : List Row
undeclared_giving_rows =
    Write 196620 8225
    ∷ []

pub undeclared_giving : verdict_from undeclared_giving_header nothing 4 undeclared_giving_rows ≡ Some (4, NotDeclared)
unfolding rules_on_literals
undeclared_giving = refl

abbrev pub write_to_a_given_block_header : Header
write_to_a_given_block_header = record { version = One; context_size = Bytes32; rings = record { id = 2; shape = record { kind = Xfer; segments = record { base = 196608; count = 4 } ∷ []; offset = 0 } } ∷ [] }

abbrev pub write_to_a_given_block_rows : List Row
write_to_a_given_block_rows =
    Sub 2 (record { w = 0 ∷ 0 ∷ 0 ∷ 8224 ∷ [] } ∷ [])
    ∷ Write 196620 8225
    ∷ Write 196620 8225
    ∷ []

pub write_to_a_given_block : verdict_from write_to_a_given_block_header nothing 4 write_to_a_given_block_rows ≡ Some (6, WriteToOwned)
unfolding rules_on_literals
write_to_a_given_block = refl

-- two endpoints of one slot are stopped, and the second Stop Endpoint is given before the first is done
abbrev pub endpoints_stopped_together_header : Version → Header
endpoints_stopped_together_header version = record { version = version; context_size = Bytes32; rings = record { id = 0; shape = record { kind = Cmd; segments = record { base = 65536; count = 16 } ∷ []; offset = 0 } } ∷ record { id = 1; shape = record { kind = Evt; segments = record { base = 131072; count = 16 } ∷ []; offset = 0 } } ∷ record { id = 2; shape = record { kind = Xfer; segments = record { base = 196608; count = 4 } ∷ []; offset = 0 } } ∷ record { id = 3; shape = record { kind = Xfer; segments = record { base = 200704; count = 4 } ∷ []; offset = 0 } } ∷ [] }

abbrev pub endpoints_stopped_together_rows : List Row
endpoints_stopped_together_rows =
    Write 262144 131072
    ∷ Write 262152 16
    ∷ Reg Erstsz 1
    ∷ Reg Erstba 262144
    ∷ Reg Erdp 131072
    ∷ Reg Crcr 65537
    ∷ Reg Dcbaap 327680
    ∷ Reg Config 8
    ∷ Reg Usbcmd 1
    ∷ Sub 0 (record { w = 0 ∷ 0 ∷ 0 ∷ 9216 ∷ [] } ∷ [])
    ∷ Write 65548 9217
    ∷ Bell 0 0
    ∷ Read (record { w = 65536 ∷ 0 ∷ 16777216 ∷ 16811009 ∷ [] })
    ∷ Write 327688 458752
    ∷ Write 393220 3
    ∷ Write 393284 32
    ∷ Write 393288 196609
    ∷ Sub 0 (record { w = 393216 ∷ 0 ∷ 0 ∷ 16788480 ∷ [] } ∷ [])
    ∷ Write 65552 393216
    ∷ Write 65564 16788481
    ∷ Bell 0 0
    ∷ Read (record { w = 65552 ∷ 0 ∷ 16777216 ∷ 16811009 ∷ [] })
    ∷ Write 393220 5
    ∷ Write 393316 16
    ∷ Write 393320 200705
    ∷ Sub 0 (record { w = 393216 ∷ 0 ∷ 0 ∷ 16789504 ∷ [] } ∷ [])
    ∷ Write 65568 393216
    ∷ Write 65580 16789505
    ∷ Bell 0 0
    ∷ Read (record { w = 65568 ∷ 0 ∷ 16777216 ∷ 16811009 ∷ [] })
    ∷ Sub 0 (record { w = 0 ∷ 0 ∷ 0 ∷ 16858112 ∷ [] } ∷ [])
    ∷ Write 65596 16858113
    ∷ Sub 0 (record { w = 0 ∷ 0 ∷ 0 ∷ 16923648 ∷ [] } ∷ [])
    ∷ Write 65612 16923649
    ∷ Bell 0 0
    ∷ Read (record { w = 65584 ∷ 0 ∷ 16777216 ∷ 16811009 ∷ [] })
    ∷ Read (record { w = 65600 ∷ 0 ∷ 16777216 ∷ 16811009 ∷ [] })
    ∷ []

pub endpoints_stopped_together : verdict_from (endpoints_stopped_together_header Three) nothing 7 endpoints_stopped_together_rows ≡ None
unfolding rules_on_literals
endpoints_stopped_together = refl

pub endpoints_stopped_together_before_three : verdict_from (endpoints_stopped_together_header One) nothing 7 endpoints_stopped_together_rows ≡ Some (40, Busy)
unfolding rules_on_literals
endpoints_stopped_together_before_three = refl

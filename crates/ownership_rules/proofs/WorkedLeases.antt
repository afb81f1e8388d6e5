-- The leases of accepted traces, by evaluation
use Rattle.ownership_rules.proofs.Words.{◌≡◌, [], ◌∷◌, refl, leases, rules_on_literals}
use Rattle.ownership_rules.proofs.WorkedTraces as traces

pub control_transfer : leases traces.control_transfer_header 6 traces.control_transfer_rows ≡ record { kind = 2; ring = 256; pos = 131072; from = 0; to = 4294967295 } ∷ record { kind = 2; ring = 16; pos = 262144; from = 9; to = 4294967295 } ∷ record { kind = 0; ring = 0; pos = 0; from = 16; to = 18 } ∷ record { kind = 0; ring = 0; pos = 1; from = 25; to = 27 } ∷ record { kind = 2; ring = 8; pos = 327688; from = 25; to = 4294967295 } ∷ record { kind = 2; ring = 1024; pos = 458752; from = 25; to = 4294967295 } ∷ record { kind = 2; ring = 1056; pos = 393216; from = 25; to = 27 } ∷ record { kind = 0; ring = 2; pos = 1; from = 33; to = 40 } ∷ record { kind = 0; ring = 2; pos = 2; from = 34; to = 40 } ∷ record { kind = 0; ring = 2; pos = 0; from = 38; to = 40 } ∷ []
unfolding rules_on_literals
control_transfer = refl

pub ring_wraps : leases traces.ring_wraps_header 6 traces.ring_wraps_rows ≡ record { kind = 2; ring = 256; pos = 131072; from = 0; to = 4294967295 } ∷ record { kind = 2; ring = 16; pos = 262144; from = 9; to = 4294967295 } ∷ record { kind = 0; ring = 0; pos = 0; from = 16; to = 18 } ∷ record { kind = 0; ring = 0; pos = 1; from = 25; to = 27 } ∷ record { kind = 2; ring = 8; pos = 327688; from = 25; to = 4294967295 } ∷ record { kind = 2; ring = 1024; pos = 458752; from = 25; to = 4294967295 } ∷ record { kind = 2; ring = 1056; pos = 393216; from = 25; to = 27 } ∷ record { kind = 0; ring = 2; pos = 0; from = 29; to = 33 } ∷ record { kind = 0; ring = 2; pos = 1; from = 31; to = 36 } ∷ record { kind = 0; ring = 2; pos = 2; from = 35; to = 42 } ∷ record { kind = 1; ring = 2; pos = 2; from = 39; to = 43 } ∷ record { kind = 0; ring = 2; pos = 3; from = 40; to = 43 } ∷ []
unfolding rules_on_literals
ring_wraps = refl

pub stall_and_move : leases traces.stall_and_move_header 6 traces.stall_and_move_rows ≡ record { kind = 2; ring = 256; pos = 131072; from = 0; to = 4294967295 } ∷ record { kind = 2; ring = 16; pos = 262144; from = 9; to = 4294967295 } ∷ record { kind = 0; ring = 0; pos = 0; from = 16; to = 18 } ∷ record { kind = 0; ring = 0; pos = 1; from = 25; to = 27 } ∷ record { kind = 2; ring = 8; pos = 327688; from = 25; to = 4294967295 } ∷ record { kind = 2; ring = 1024; pos = 458752; from = 25; to = 4294967295 } ∷ record { kind = 2; ring = 1056; pos = 393216; from = 25; to = 27 } ∷ record { kind = 0; ring = 2; pos = 1; from = 30; to = 35 } ∷ record { kind = 0; ring = 2; pos = 2; from = 31; to = 44 } ∷ record { kind = 0; ring = 2; pos = 3; from = 32; to = 4294967295 } ∷ record { kind = 0; ring = 2; pos = 0; from = 33; to = 35 } ∷ record { kind = 0; ring = 0; pos = 2; from = 37; to = 39 } ∷ record { kind = 0; ring = 0; pos = 3; from = 42; to = 44 } ∷ []
unfolding rules_on_literals
stall_and_move = refl

pub two_descriptors : leases traces.two_descriptors_header 4 traces.two_descriptors_rows ≡ record { kind = 0; ring = 2; pos = 0; from = 5; to = 4294967295 } ∷ record { kind = 0; ring = 2; pos = 1; from = 7; to = 4294967295 } ∷ []
unfolding rules_on_literals
two_descriptors = refl

-- The segments of the rings so far, and what else a ring can't share with another
use Rattle.std.specs.Prelude.{◌≡◌, ℕ, ◌+◌, ◌*◌, ◌^◌, ◌<◌, ◌≤◌, ◌==◌, ◌&&◌, ◌||◌, Bool, List, [], ◌∷◌, ⊤}
use Rattle.std.specs.List.{All, flat_map, list_any}
use Rattle.segments.specs.declared.segment.Segment.{Segment}
use Rattle.traces.specs.declared.ring.Ring.{Ring}
use Rattle.traces.specs.Header.{is_command_kind, is_event_kind}

-- segments by their first addresses, each with how many blocks it has: each has one, and they lie one behind the other
abbrev pub LieApart : List (ℕ × ℕ) → Type 0
LieApart [] = ⊤
LieApart (s ∷ rest) = (s.0 < 2 ^ 64) × (0 < s.1) × All (λ t. s.0 + 16 * s.1 ≤ t.0) rest × LieApart rest

abbrev pub segments_of : List Ring → List Segment
segments_of rings = flat_map (λ r. r.shape.segments) rings

-- they are the segments of these rings, in some order
abbrev pub AreSegmentsOf : List Ring → List Segment → Type 0
AreSegmentsOf rings segments = (p : Segment → Bool) → list_any p segments ≡ list_any p (segments_of rings)

-- both have the ID, or both are the command ring, or the event ring
abbrev pub is_second : Ring → Ring → Bool
is_second r q = r.id == q.id || (is_command_kind r.shape.kind && is_command_kind q.shape.kind) || (is_event_kind r.shape.kind && is_event_kind q.shape.kind)

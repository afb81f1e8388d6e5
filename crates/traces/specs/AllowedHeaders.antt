-- Which rings may stand together, and the headers that are allowed
use Rattle.std.specs.Prelude.{◌==◌, ◌&&◌, ◌||◌, Bool, true, not, List, [], ◌∷◌, nat_lt, IsTrue}
use Rattle.std.specs.List.{list_any, list_all}
use Rattle.segments.specs.Shape.{is_shape, rings_overlap}
use Rattle.traces.specs.declared.ring.Ring.{Ring}
use Rattle.traces.specs.declared.header.Header.{Header}
use Rattle.traces.specs.Header.{is_command_kind, is_event_kind}

-- both have the ID, or a segment of one overlaps one of the other, or both are the command ring, or the event ring
abbrev pub clash : Ring → Ring → Bool
clash r q =
    r.id == q.id || rings_overlap r.shape q.shape
    || (is_command_kind r.shape.kind && is_command_kind q.shape.kind) || (is_event_kind r.shape.kind && is_event_kind q.shape.kind)

abbrev pub may_stand_together : List Ring → Bool
may_stand_together [] = true
may_stand_together (r ∷ rest) = not (list_any (clash r) rest) && may_stand_together rest

-- each ring has an allowed shape, and they may stand together
abbrev pub is_header : Header → Bool
is_header h = list_all (λ r. nat_lt r.id 256 && is_shape r.shape) h.rings && may_stand_together h.rings

abbrev pub IsHeader : Header → Type 0
IsHeader h = IsTrue (is_header h)

-- no ring has grown behind its first lap: so it is of those that a trace begins with
abbrev pub are_unmoved : List Ring → Bool
are_unmoved rings = list_all (λ r. r.shape.offset == 0) rings

abbrev pub AreUnmoved : List Ring → Type 0
AreUnmoved rings = IsTrue (are_unmoved rings)

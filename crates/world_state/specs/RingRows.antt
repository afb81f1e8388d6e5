-- Rows by which rings come and go, and descriptors are withdrawn: what they do to lists of rings and to the world: xHCI 4.6.9, 4.9
use Rattle.std.specs.Prelude.{ℕ, ◌==◌, ◌||◌, if◌then◌else◌, Bool, false, not, [], ◌∷◌}
use Rattle.std.specs.List.{list_any}
use Rattle.guest_memory.specs.Memory.{put}
use Rattle.segments.specs.Descriptors.{length_from, no_ops, split_at}
use Rattle.segments.specs.Shape.{rings_overlap}
use Rattle.traces.specs.declared.header.Header.{Header}
use Rattle.traces.specs.declared.ring.Ring.{Ring}
use Rattle.traces.specs.Header.{is_transfer_kind}
use Rattle.traces.specs.LivingRings.{with_ring, without_ring}
use Rattle.world_state.specs.World.{World}

-- the ring is listed, in place of one that had its ID; of command and of event rings the newest stands first, and the controller uses that
unfoldable pub listed : Header → Ring → Header
listed h r = if is_transfer_kind r.shape.kind then with_ring (without_ring h r.id) r else record h { rings = r ∷ (without_ring h r.id).rings }

-- both have the ID, or a segment of one overlaps one of the other
abbrev pub is_in_way : Ring → Ring → Bool
is_in_way r q = q.id == r.id || rings_overlap q.shape r.shape

-- a ring may come where none of these is in its way
unfoldable pub may_come : Header → Ring → Bool
may_come live r = not (list_any (is_in_way r) live.rings)

-- of a ring: nothing is declared on it, and nothing has happened
unfoldable pub emptied : World → ℕ → World
emptied w id = record w { queue = put w.queue id []; lengths = put w.lengths id []; events = put w.events id []; reported = put w.reported id 0 }

-- nor does the controller look at it
unfoldable pub resting : World → ℕ → World
resting w id = record (emptied w id) { is_active = put w.is_active id false }

-- the descriptor that begins at a position is declared as No Ops; what was taken before stays what was declared then
unfoldable pub without_descriptor : World → ℕ → ℕ → World
without_descriptor w r p = record w {
  queue = put w.queue r (no_ops (w.queue r) p (length_from (w.lengths r) 0 p));
  lengths = put w.lengths r (split_at (w.lengths r) 0 p);
}

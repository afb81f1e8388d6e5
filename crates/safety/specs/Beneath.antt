-- A driver's row beneath an event that isn't read yet: the two may change places, told of what is known, without any world
use Rattle.std.specs.Prelude.{◌≡◌, ℕ, ◌≤◌, ◌==◌, ◌⊎◌, if◌then◌else◌, Bool, true, false, [], Option, None, Some}
use Rattle.trb.specs.declared.block.Block.{Block}
use Rattle.segments.specs.RingView.{RingView}
use Rattle.segments.specs.Ceiling.{is_open}
use Rattle.commands.specs.declared.state.EndpointState.TheVariants.{Running, Halted, Error}
use Rattle.traces.specs.declared.header.Header.{Header}
use Rattle.traces.specs.declared.row.Row.{Row}
use Rattle.traces.specs.declared.row.Row.TheVariants.{Reg, Bell, Read}
use Rattle.traces.specs.Header.{command_id}
use Rattle.traces.specs.AllowedHeaders.{IsHeader}
use Rattle.traces.specs.Rows.{IsRow}
use Rattle.ring_knowledge.specs.Known.{Known}
use Rattle.ring_knowledge.specs.Learned.{learned}
use Rattle.ring_knowledge.specs.Resets.{resets}
use Rattle.ownership_rules.specs.LenientRules.{lenient}
use Rattle.ownership_rules.specs.Doorbells.{is_touched}
use Rattle.safety.specs.Restoring.{MayCome}
use Rattle.safety.specs.Keeps.{DriverKeeps}
use Rattle.safety.specs.KeptHistories.{IsDriverRow}

-- held as before, or at a number that isn't smaller
abbrev pub IsHeldMore : Option ℕ → Option ℕ → Type 0
IsHeldMore None None = Unit {0}
IsHeldMore (Some m) (Some n) = m ≤ n
IsHeldMore None (Some n) = ⊥
IsHeldMore (Some m) None = ⊥

-- w is v, but that a ring that is held may be held at a greater number
pub record RingHeldMore (v w : RingView) : Type 0 where
  pub rest : record v { held = w.held } ≡ w
  pub held : IsHeldMore v.held w.held

-- m is k, but that rings that are held may be held at greater numbers
pub record HeldMore (k m : Known) : Type 0 where
  pub rest : record k { ring = m.ring } ≡ m
  pub rings : (r : ℕ) → RingHeldMore (k.ring r) (m.ring r)

abbrev pub is_open_if : Known → Option ℕ → Bool
is_open_if k None = true
is_open_if k (Some r) = is_open (k.ring r)

-- the row resets the controller
abbrev pub resets_by : Known → Row → Bool
resets_by k (Reg r v) = resets k r v
resets_by k _ = false

module _ (h : Header) where
  -- the doorbell of a ring that is open: nothing is learned
  abbrev pub is_idle : Known → Row → Bool
  is_idle k (Bell s t) = if s == 0 then is_open (k.ring (command_id h)) else is_open_if k (k.ring_of s t)
  is_idle k _ = false

  -- the endpoint works on an open ring, or has halted or failed
  abbrev pub IsIdleEndpoint : Known → ℕ → ℕ → Type 0
  IsIdleEndpoint k s i =
      ((k.endpoint_state s i ≡ Running) × ((r : ℕ) → k.ring_of s i ≡ Some r → (k.ring r).held ≡ None))
      ⊎ ((k.endpoint_state s i ≡ Halted) ⊎ (k.endpoint_state s i ≡ Error))

  -- where the doorbell of an endpoint does nothing, now and behind the events that may be posted
  pub record MayRing (k : Known) (s i : ℕ) : Type 0 where
    pub untouched : is_touched h k s i ≡ false
    pub state : IsIdleEndpoint k s i

  -- the row d and the reading of e may change places: each stays possible behind the other, and the order doesn't matter but for
  -- the numbers at which rings are held; nor does the row become idle
  pub record Square (k : Known) (d : Row) (e : Block) : Type 0 where
    pub event : lenient h (learned h k d) (Read e) ≡ []
    pub row : MayCome h (learned h k (Read e)) d
    pub after : HeldMore (learned h (learned h k (Read e)) d) (learned h (learned h k d) (Read e))
    pub awake : is_idle (learned h k (Read e)) d ≡ false

  -- any row but a stop, a reset and an idle doorbell
  abbrev pub SquareLaw : Type 0
  SquareLaw = (k : Known) (d : Row) (e : Block) → IsHeader h → IsRow d → IsDriverRow d → DriverKeeps h k → MayCome h k d → lenient h k (Read e) ≡ [] →
      is_idle k d ≡ false → (learned h k d).stopped ≡ false → resets_by k d ≡ false → Square k d e

  -- where rings are held at greater numbers, the same events are possible, and what they lead to is the same but for these numbers
  abbrev pub MoreLaw : Type 0
  MoreLaw = (k m : Known) (e : Block) → DriverKeeps h k → DriverKeeps h m → HeldMore k m → lenient h k (Read e) ≡ [] →
      (lenient h m (Read e) ≡ []) × HeldMore (learned h k (Read e)) (learned h m (Read e))

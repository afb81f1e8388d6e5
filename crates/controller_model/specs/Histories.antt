-- What is kept of what happened on a ring
use Rattle.std.specs.Prelude.{◌≡◌, ℕ, ◌≤◌, List, length, drop}
use Rattle.segments.specs.ShapeValue.{Shape}
use Rattle.world_state.specs.World.{RingEvent}
use Rattle.world_state.specs.Takes.{takes_of, next_take, was_placed}
use Rattle.world_state.specs.Harms.{is_out_of_order, has_other_words, is_inside_descriptor}
use Rattle.controller_model.specs.declared.history.History.{History}

-- the history keeps what these events decide of later steps; of the takes so many were reported
pub record Keeps (shape : Shape) (events : List RingEvent) (reported : ℕ) (h : History) : Type 0 where
  pub next : next_take shape events ≡ h.next
  pub placed : was_placed events ≡ h.was_placed
  pub inside : is_inside_descriptor events ≡ h.is_inside
  pub unreported : drop reported (takes_of events) ≡ h.unreported.items
  pub few : reported ≤ length (takes_of events)

-- and which harms its takes show
pub record ShowsHarms (shape : Shape) (events : List RingEvent) (h : History) : Type 0 where
  pub order : is_out_of_order shape events ≡ h.out_of_order
  pub words : has_other_words shape events ≡ h.other_words

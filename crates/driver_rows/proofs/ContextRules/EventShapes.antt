-- The event ring of a trace
use Rattle.driver_rows.proofs.Words.{◌≡◌, Option, None, ap, subst, Evt, EventState, Header, event_shape, no_shape, shape_or, Known, FollowsEvents}

-- without one its shape has no segments
pub no_events : (h : Header) (k : Known) (events : Option EventState) → FollowsEvents h k events → events ≡ None → event_shape h ≡ no_shape Evt
unfolding event_shape
no_events h k events f none = ap (shape_or Evt) (subst (λ (o : Option EventState). FollowsEvents h k o) none f)

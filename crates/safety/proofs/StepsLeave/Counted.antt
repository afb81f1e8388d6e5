-- Behind a step, once it is counted
use Rattle.safety.proofs.Words.{◌≡◌, List, rules, Block, Header, World, counted, Known, Stands, EventsStand, Matches, Agrees}
use Rattle.safety.proofs.StepsLeave.Stored.{Late}
use Rattle.world_state.specs.World as of_world

module _ (h : Header) where
  -- what holds of the world behind a step holds once the step is counted
  pub agrees_counted : (k : Known) (unread : List Block) (v : World) → Stands h k v → EventsStand h v unread → Matches h k v → v.posted ≡ k.reads → Late v →
      Agrees h k unread (counted h v)
  unfolding counted of_world.event_at
  agrees_counted k unread v s e m read late = search rules

-- The invariant of a run, told of what is known: the unread events, read on top of that, lead to knowledge that agrees with the world
use Rattle.std.specs.Prelude.{◌≡◌, ◌⊎◌, ◌<◌, true, false, List, [], ◌∷◌, All}
use Rattle.trb.specs.declared.block.Block.{Block}
use Rattle.trb.specs.Block.{IsBlock}
use Rattle.traces.specs.declared.header.Header.{Header}
use Rattle.traces.specs.Header.{event_size}
use Rattle.traces.specs.declared.row.Row.TheVariants.{Read}
use Rattle.world_state.specs.World.{World}
use Rattle.world_state.specs.Harms.{IsSafe}
use Rattle.ring_knowledge.specs.Known.{Known}
use Rattle.ring_knowledge.specs.Learned.{learned}
use Rattle.ownership_rules.specs.LenientRules.{lenient}
use Rattle.safety.specs.Matches.{Agrees}

module _ (h : Header) where
  -- what is known when the events are read too, the oldest first
  abbrev pub all_read : Known → List Block → Known
  all_read k [] = k
  all_read k (e ∷ unread) = all_read (learned h k (Read e)) unread

  -- each of them is possible where it will be read
  abbrev pub ArePossible : Known → List Block → Type 0
  ArePossible k [] = Unit {0}
  ArePossible k (e ∷ unread) = (lenient h k (Read e) ≡ []) × ArePossible (learned h k (Read e)) unread

  pub record Runs (k : Known) (w : World) : Type 0 where
    pub unread : List Block
    pub possible : ArePossible k unread
    pub blocks : All IsBlock unread
    pub on : k.stopped ≡ false
    pub agrees : Agrees h (all_read k unread) unread w

  -- after a stop no clean row follows and no step is possible
  pub record Ended (k : Known) (w : World) : Type 0 where
    pub stopped : k.stopped ≡ true
    pub also : w.stopped ≡ true
    pub ring : 0 < w.posted → 0 < event_size h
    pub safe : IsSafe h w

  abbrev pub Holds : Known → World → Type 0
  Holds k w = Runs k w ⊎ Ended k w

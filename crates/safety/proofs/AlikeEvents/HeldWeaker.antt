-- Where rings may be held at greater numbers, what is known agrees with the world all the more
use Rattle.safety.proofs.LowerLaws.{◌≡◌, ℕ, List, option_and_then, slice_get, refl, ap, subst, rules, Block, RingView, Header, command_id, World, Known, command_at, next_command, Matches, Agrees, HeldMore, held_goes_on}
use Rattle.safety.proofs.StepsLeave.MatchesGoesOn.{same_controller, matches_go_on}

-- of one ring
record SameButHeld (v x : RingView) : Type 0 where
  queue : x.queue ≡ v.queue
  given : x.given ≡ v.given
  floor : x.floor ≡ v.floor

module _ (h : Header) (k m : Known) (more : HeldMore k m) where
  ring_more : (r : ℕ) → SameButHeld (k.ring r) (m.ring r)
  ring_more r = subst (λ y. SameButHeld (k.ring r) y) (more.rings r).rest (record { queue = refl; given = refl; floor = refl })

  pub weaker_matches : (w : World) → Matches h k w → Matches h m w
  unfolding command_at
  weaker_matches w y =
      matches_go_on h k m w w (search (rules, held_goes_on)) (same_controller w)
      (λ u at. ap (λ q. slice_get q (next_command h k)) (ring_more (command_id h)).queue)
      (λ p c u. y.contexts p c (search (rules, ring_more, option_and_then, slice_get))) y

  -- what agrees with the world
  pub weaker : (unread : List Block) (w : World) → Agrees h k unread w → Agrees h m unread w
  weaker unread w g = search (rules, ring_more, weaker_matches)

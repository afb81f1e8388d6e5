-- What is kept of a command that a write gives holds behind an event that is read before the write, but for its device context
use Rattle.safety.proofs.UpperLaws.{[], ◌≡◌, ◌∙◌, ℕ, true, length, Some, slice_get, arith, refl, sym, ap, MayCome, MovesRestored, false≢true, false_from_ne_true, Block, number, declared, floor_number, positions_given, ceiling, is_border, is_placement, GivesMore, move_more, gives_is, position_given_is, Command, named_context, is_disabled, is_off, is_at_rest, Header, Write, Read, IsHeader, shape_of, command_id, Known, command_at, command_given, learned, lenient, IsTransferRing, CommandKeeps, DriverKeeps, has_bad_context, transfer_driver, transfer_not_command, due_has_ring, AgreeIn, GivesCommand, taken, transfer_ring, bound_transfer, Beside, context_good, context_same, OwnKeeps, PlacesStay, RingsBeside, own_keeps, own_beside, still_restored, Alike, ceiling_more, contains_first, and_then_parts, beside_new, read_same, event_behind, Untaken, GivenFacts, given_facts, written_elsewhere}
use Rattle.safety.proofs.Beneath.CommandBeneath.{beneath_keeps, alike_there, rings_there, GivenThere, given_there, given_keeps}

-- the position of a command that is given
pub gives_command : (h : Header) (is : IsHeader h) (k : Known) (a w : ℕ) (c : Command) → command_given h k a w ≡ Some c → (p : ℕ) × GivesCommand h k a w p c
unfolding command_given
gives_command h is k a w c given =
    let first = and_then_parts (command_at h k) (slice_get (positions_given (shape_of h (command_id h)) (k.ring (command_id h)) a w) 0) c given in
    let contained = contains_first (positions_given (shape_of h (command_id h)) (k.ring (command_id h)) a w) first.0 first.1 in
    let here = position_given_is (shape_of h (command_id h)) (k.ring (command_id h)) a w first.0 contained in
    let writes = gives_is (shape_of h (command_id h)) (k.ring (command_id h)).floor first.0 a w here.1 in (
      first.0,
      record { ring = due_has_ring h is (k.ring (command_id h)).floor first.0 writes.due; fresh = here.0; gives = here.1; command = given },
    )

module _ (h : Header) (is : IsHeader h) (k : Known) (d : DriverKeeps h k) (a w : ℕ) (e : Block) (clean : MayCome h k (Write a w)) (may : lenient h k (Read e) ≡ [])
    (c : Command) (given : command_given h k a w ≡ Some c) where
  abbrev l : Known
  l = learned h k (Read e)

  abbrev m : Known
  m = learned h k (Write a w)

  abbrev beneath : Known
  beneath = learned h m (Read e)

  -- behind the event, with the device contexts and the soiled words that the write leads to
  abbrev pub between : Known
  between = record l { device = beneath.device; soiled = beneath.soiled }

  alike : Alike (Untaken (taken h k a w)) l beneath
  alike = alike_there h is k d a w e clean may

  pub keeps : DriverKeeps h beneath
  keeps = beneath_keeps h is k d a w e clean may

  abbrev pub there : GivenThere h is k d a w e clean may c given
  there = given_there h is k d a w e clean may c given

  pub kept : CommandKeeps h beneath there.position c
  kept = given_keeps h is k d a w e clean may c given

  agrees : (f : Command) → Beside h k m f → (n : ℕ) → named_context f ≡ Some n → AgreeIn h.context_size beneath.memory l.memory n
  agrees f b n at x low high =
      ap (λ g. g x) (event_behind h is k d e may).driver.memory ∙ sym (b.memory n at x low high) ∙ sym (ap (λ g. g x) (read_same h m e).memory)

  pub beside : (q : ℕ) (f : Command) → CommandKeeps h beneath q f → Beside h k m f → Beside h beneath between f
  beside q f was b = record {
    memory = agrees f b;
    context = λ n at. ap (λ o. has_bad_context h between o) (sym at) ∙ context_same h beneath between (named_context f) refl refl ∙ context_good h beneath f was.good;
    slot = λ s at on. ap (λ g. is_disabled (g s)) (sym alike.slot_state) ∙ on;
    off = λ s i at. ap (λ g. is_off (g s i)) (sym alike.endpoint_state);
    device = was.device;
  }

  pub facts : GivenFacts h k c
  facts = given_facts h k is d a w c clean.0 given

  pub beside_given : Beside h beneath between c
  beside_given =
      let g = gives_command h is k a w c given in
      beside there.position c kept (beside_new h is k d a w clean.0 g.0 c g.1 facts.own.good)

  -- of another ring than the command ring no more is given
  less : (r : ℕ) → IsTransferRing h r → GivesMore (beneath.ring r) (l.ring r)
  less r t =
      let same = rings_there h is k d a w e clean may r in
      let back = written_elsewhere h is r (command_id h) (transfer_driver h r t) there.ring (transfer_not_command h is r t) (l.ring r) a w there.inside in
      record { given = λ p g. back.given p (ap (λ f. f p) (sym same.given) ∙ g); crossed = λ q g. back.crossed q (ap (λ f. f q) (sym same.crossed) ∙ g) }

  borders : (r q : ℕ) → is_border (beneath.ring r).lengths 0 q ≡ true → is_border (l.ring r).lengths 0 q ≡ true
  borders r q here = ap (λ ns. is_border ns 0 q) (sym (rings_there h is k d a w e clean may r).lengths) ∙ here

  same_declared : (r : ℕ) → declared (beneath.ring r) ≡ declared (l.ring r)
  same_declared r = ap (λ q. length q) (rings_there h is k d a w e clean may r).queue

  same_floor : (r : ℕ) → floor_number (beneath.ring r) ≡ floor_number (l.ring r)
  same_floor r = ap number (alike.rings r).floor

  placed_before : (r : ℕ) → IsTransferRing h r → PlacesStay (shape_of h r) (beneath.ring r) (l.ring r)
  unfolding is_placement
  placed_before r t p cycle placed =
      move_more (shape_of h r) (beneath.ring r) (l.ring r) (less r t) (borders r) p cycle (ceiling (shape_of h r) (beneath.ring r)) (floor_number (beneath.ring r))
      (ceiling (shape_of h r) (l.ring r)) (floor_number (l.ring r)) (ceiling_more (shape_of h r) (l.ring r) (beneath.ring r) (alike.rings r)) (omega (arith, same_floor r)) placed

  rings_beside : RingsBeside h beneath between c
  rings_beside = record {
    ring_of = λ s i at. ap (λ f. f s i) (sym alike.ring_of);
    rest = λ s i p cycle at rests. ap (λ f. is_at_rest (f s i)) (sym alike.endpoint_state) ∙ rests;
    ahead = λ s i p r cycle at has rests.
        λ q b moves.
        move_more (shape_of h r) (beneath.ring r) (l.ring r) (less r (keeps.states.transfer s i r has)) (borders r) q b (ceiling (shape_of h r) (beneath.ring r)) (declared (beneath.ring r))
        (ceiling (shape_of h r) (l.ring r)) (declared (l.ring r)) (ceiling_more (shape_of h r) (l.ring r) (beneath.ring r) (alike.rings r)) (omega (arith, same_declared r)) moves;
    standing = λ s n r bsr at has.
        record {
          here = λ q b moves.
              move_more (shape_of h r) (beneath.ring r) (l.ring r) (less r (keeps.states.transfer s 1 r has)) (borders r) q b (floor_number (beneath.ring r)) (floor_number (beneath.ring r))
              (floor_number (l.ring r)) (floor_number (l.ring r)) (omega (arith, same_floor r)) (omega (arith, same_floor r)) moves;
          nothing = λ nothing q low.
              false_from_ne_true ((l.ring r).given q) (λ on. false≢true (sym (nothing q (omega (arith, same_floor r, low))) ∙ (alike.rings r).more.given q on));
        };
    still = λ r bound p cycle placed. placed_before r (transfer_ring h r (bound_transfer h is beneath r c bound)) p cycle placed;
    kept = λ r s i bound has. ap (λ f. f s i) alike.ring_of ∙ has;
    moved = still_restored beneath between c (λ s i at. ap (λ f. f s i) (sym alike.ring_of)) (λ r. sym (rings_there h is k d a w e clean may r).free);
  }

  pub own_between : OwnKeeps h between c
  own_between = own_beside h beneath between c beside_given rings_beside (own_keeps h beneath there.position c kept)

  -- of a ring that it moves nothing is free
  pub restored_behind : MovesRestored l c
  restored_behind = rings_beside.moved kept.restored

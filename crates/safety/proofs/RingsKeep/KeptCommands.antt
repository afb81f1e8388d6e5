-- The command ring holds commands, each alone in its descriptor, and is open from its first doorbell on: kept by each row
use Rattle.safety.proofs.MiddleLaws.{profile_of, Profile, [], ◌≡◌, ◌-◌, ◌<◌, ◌⊎◌, ◌==◌, ◌&&◌, ◌++◌, ◌∙◌, ℕ, nat_lt, true, false, List, length, All, None, Some, is_some, slice_get, arith, refl, sym, ap, subst, inl, inr, get_or, length-append, eqb-true, ltb-true, rules, list_all, cases_lt, cond-false, and_cases, and_parts, or_parts, not-false, false≢true, slice_get_within, get_or_from_slice_get, get_or-append_right, All-push, All-get_or, Block, BlockKind, RingKind, Cmd, kind, is_command_completion, is_no_command, is_command_left_out, is_bad_descriptor, is_left_out, Data, Shape, is_shape, RingView, Declares, Reaches, changed, after, ceiling, cases_option, slice_get-append, ceiling_held, command_of, Header, Sub, Write, Reg, Bell, Read, IsHeader, may_stand_together, is_command_kind, ring_with, shape_of, command_ring, command_id, Known, on_ring, command_at, next_command, endpoint_rung, rung, finished, completed, event_read, learned, is_driver_ring, declaration_tests, lenient_tests, lenient, CommandRingKeeps, KeptByRows, EndpointsKeep, AllFail, tests_fail, each_fails, HasRing, has_ring, found_allowed, command_found, command_named, shape_is, command_not_transfer, ring_here, ring_elsewhere, finish_elsewhere, endpoints_of, view_after, register_leaves, written_view, transfer_command, event_facts, RegRead, status_leaves, command_with}
use Rattle.safety.specs.DriverRings.{IsDriverRing}
use Rattle.safety.proofs.RingsKeep.KeptRings.{completion_facts}

-- ---- the blocks of a declaration

is_read : (b : Block) → is_no_command b ≡ false → is_command_left_out b ≡ false → is_some (command_of b) ≡ true
is_read b good inside = search (rules, is_some, or_parts, and_cases, not-false, false≢true, cond-false)

command_blocks : (profile : Profile) (t : RingKind) (blocks : List Block) → t ≡ Cmd → is_bad_descriptor profile t blocks ≡ false → is_left_out profile t blocks ≡ false →
    (length blocks ≡ 1) × All (λ b. is_some (command_of b) ≡ true) blocks
command_blocks profile o blocks is good inside = grind (arith, length, is_some, or_parts, each_fails, eqb-true, not-false, is_read, get_or, false≢true)

-- what is declared then is what was declared, or is declared now
declared_then : (P : Block → Type 0) (xs ys : List Block) (p : ℕ) (d : Block) → ((p : ℕ) (d : Block) → slice_get xs p ≡ Some d → P d) → All P ys → slice_get (xs ++ ys) p ≡ Some d → P d
declared_then P xs ys p d old new at =
    elim (cases_lt p (length xs)) [
      | inl was ↦ old p d (sym (slice_get-append xs ys p was) ∙ at)
      | inr is ↦
          let inside = slice_get_within (xs ++ ys) p d at in
          let there : get_or ys (p - length xs) d ≡ d = sym (get_or-append_right xs ys (length xs) p d refl is) ∙ get_or_from_slice_get (xs ++ ys) p d d at in
          subst P there (All-get_or P ys (p - length xs) d (omega (arith, length-append xs ys)) new)
    ]

-- ---- what is said of the command ring's view

pub record ViewOfCommands (shape : Shape) (v : RingView) : Type 0 where
  pub commands : (p : ℕ) (d : Block) → slice_get v.queue p ≡ Some d → is_some (command_of d) ≡ true
  pub alone : All (λ n. n ≡ 1) v.lengths
  pub held : (v.held ≡ None) ⊎ ((v.held ≡ Some 0) × (v.floor ≡ Data 0) × (shape.offset ≡ 0))

view_declares : (shape : Shape) (v : RingView) (blocks : List Block) → (length blocks ≡ 1) × All (λ b. is_some (command_of b) ≡ true) blocks → ViewOfCommands shape v →
    ViewOfCommands shape (changed shape v (Declares blocks))
view_declares shape v blocks good keeps = record {
  commands = λ p d at. declared_then (λ b. is_some (command_of b) ≡ true) v.queue blocks p d keeps.commands good.1 at;
  alone = All-push (λ n. n ≡ 1) v.lengths (length blocks) keeps.alone good.0;
  held = keeps.held;
}

command_is : (t : RingKind) → is_command_kind t ≡ true → t ≡ Cmd
command_is o h = grind (arith, false≢true)

module _ (h : Header) where
  pub view_of : (k : Known) → CommandRingKeeps h k → ViewOfCommands (shape_of h (command_id h)) (k.ring (command_id h))
  view_of k keeps = record { commands = keeps.commands; alone = keeps.alone; held = keeps.held }

  pub from_view : (k : Known) → ViewOfCommands (shape_of h (command_id h)) (k.ring (command_id h)) → CommandRingKeeps h k
  from_view k view = record { commands = view.commands; alone = view.alone; held = view.held }

  -- a command ring that is declared is one
  command_kind : IsHeader h → IsDriverRing h (command_id h) → (shape_of h (command_id h)).kind ≡ Cmd
  command_kind is driver =
      elim (cases_option (command_ring h)) [
        | inl none ↦
            let has : HasRing h (command_id h) = has_ring h (command_id h) driver in
            let named : command_id h ≡ 256 = command_named h is None none in
            let all = (and_parts (list_all (λ q. nat_lt q.id 256 && is_shape q.shape) h.rings) (may_stand_together h.rings) is).0 in
            let allowed = found_allowed (λ q. q.id == command_id h) (λ q. nat_lt q.id 256 && is_shape q.shape) h.rings has.ring has.found all in
            let low : has.ring.id < 256 = ltb-true has.ring.id 256 (and_parts (nat_lt has.ring.id 256) (is_shape has.ring.shape) allowed).0 in
            absurd (omega (arith, has.id))
        | inr found ↦
            ap (λ (s : Shape). s.kind) (shape_is h (command_id h) found.0 (command_with h is found.0 found.1)) ∙ command_is found.0.shape.kind (command_found h is found.0 found.1).1
      ]

  declared_blocks : IsHeader h → (k : Known) (r : ℕ) (blocks : List Block) → lenient h k (Sub r blocks) ≡ [] → command_id h ≡ r →
      (length blocks ≡ 1) × All (λ b. is_some (command_of b) ≡ true) blocks
  unfolding lenient_tests declaration_tests
  declared_blocks is k r blocks clean same =
      let fails : AllFail (declaration_tests h k r blocks) = tests_fail h k (Sub r blocks) clean in
      let driver : IsDriverRing h (command_id h) = ap (λ n. is_driver_ring (ring_with h n)) same ∙ not-false (is_driver_ring (ring_with h r)) fails.0 in
      command_blocks (profile_of h.version) (shape_of h r).kind blocks (ap (λ n. (shape_of h n).kind) (sym same) ∙ command_kind is driver) fails.1.1.0 fails.1.1.1.0

  declared_view : IsHeader h → (k : Known) (r : ℕ) (blocks : List Block) → lenient h k (Sub r blocks) ≡ [] → ViewOfCommands (shape_of h (command_id h)) (k.ring (command_id h)) →
      ViewOfCommands (shape_of h (command_id h)) ((learned h k (Sub r blocks)).ring (command_id h))
  unfolding learned
  declared_view is k r blocks clean keeps =
      view_after h (ViewOfCommands (shape_of h (command_id h))) k r (Declares blocks) (command_id h)
      (λ same. subst (λ n. ViewOfCommands (shape_of h n) (changed (shape_of h r) (k.ring r) (Declares blocks))) (sym same)
      (view_declares (shape_of h r) (k.ring r) blocks (declared_blocks is k r blocks clean same) (subst (λ n. ViewOfCommands (shape_of h n) (k.ring n)) same keeps))) (λ other. keeps)

  -- ---- a doorbell

  -- ---- an event

  -- the next command can be finished where the ring is open alone
  pub open_now : (k : Known) → ViewOfCommands (shape_of h (command_id h)) (k.ring (command_id h)) → next_command h k < ceiling (shape_of h (command_id h)) (k.ring (command_id h)) → (k.ring (command_id h)).held ≡ None
  open_now k view below = search (rules, ceiling_held)

  pub completed_view : IsHeader h → (k : Known) → EndpointsKeep h k → (b : Block) →
      (completed h k b).ring (command_id h) ≡ changed (shape_of h (command_id h)) (k.ring (command_id h)) (Reaches (after (shape_of h (command_id h)) (next_command h k)))
  unfolding completed
  completed_view is k keeps b =
      search (rules, finished, command_at, next_command, after, shape_of, command_id, ring_here, changed, finish_elsewhere)

  held_after : IsHeader h → (k : Known) → EndpointsKeep h k → (b : Block) (t : BlockKind) → ViewOfCommands (shape_of h (command_id h)) (k.ring (command_id h)) →
      (is_command_completion t ≡ true → (k.ring (command_id h)).held ≡ None) → ViewOfCommands (shape_of h (command_id h)) ((event_read h k t b).ring (command_id h))
  unfolding event_read
  held_after is k keeps b o view opened = grind (arith, transfer_command, completed_view)

  read_view : (k : Known) (b : Block) → (learned h k (Read b)).ring ≡ (event_read h k (kind b) b).ring
  unfolding learned
  read_view k b = refl

  written_still : (k : Known) (a w : ℕ) → ViewOfCommands (shape_of h (command_id h)) (k.ring (command_id h)) → ViewOfCommands (shape_of h (command_id h)) ((learned h k (Write a w)).ring (command_id h))
  written_still k a w view = subst (ViewOfCommands (shape_of h (command_id h))) (sym (written_view h k a w (command_id h))) (record { commands = view.commands; alone = view.alone; held = view.held })

  pub kept_command_ring : KeptByRows h (CommandRingKeeps h)
  unfolding learned rung endpoint_rung
  kept_command_ring is k (Sub r blocks) d clean on = from_view (learned h k (Sub r blocks)) (declared_view is k r blocks clean (view_of k d.command_ring))
  kept_command_ring is k (Write a w) d clean on = from_view (learned h k (Write a w)) (written_still k a w (view_of k d.command_ring))
  kept_command_ring is k (Reg r x) d clean on =
      from_view (learned h k (Reg r x)) (subst (λ (f : ℕ → RingView). ViewOfCommands (shape_of h (command_id h)) (f (command_id h))) (sym (register_leaves h k r x).ring) (view_of k d.command_ring))
  kept_command_ring is k (Bell s t) d clean on = from_view (learned h k (Bell s t)) (search (rules, on_ring, command_id, endpoint_rung, k.ring_of, ring_here, ring_elsewhere, command_not_transfer))
  kept_command_ring is k (Read b) d clean on =
      from_view (learned h k (Read b))
      (subst (λ (f : ℕ → RingView). ViewOfCommands (shape_of h (command_id h)) (f (command_id h))) (sym (read_view k b))
      (held_after is k (endpoints_of h k d.states) b (kind b) (view_of k d.command_ring)
      (λ completion. open_now k (view_of k d.command_ring) (completion_facts h k b completion (event_facts h k b clean).possible).below)))
  kept_command_ring is k (RegRead r x) d clean on =
      from_view (learned h k (RegRead r x)) (subst (λ (f : ℕ → RingView). ViewOfCommands (shape_of h (command_id h)) (f (command_id h))) (sym (status_leaves h k r x).ring) (view_of k d.command_ring))
  kept_command_ring is k row d clean on = d.command_ring

-- What the check of a write answers
use Rattle.driver_rows.proofs.MiddleLaws.{rules, ◌≡◌, ℕ, ◌%◌, true, false, Option, None, Some, ap, sym, ◌∙◌, if◌then◌else◌, slice_get, fun_ext, touches, positions_given, crossings_given, Ring, Header, Write, IsHeader, is_command_kind, is_driver_kind, Command, Known, command_given, positions_of, crossings_of, RingGiving, Refusal, first_of, first_broken, writes_to_owned, broken, DriverKeeps, IsAmong, among_at, TraceRecord, FollowsTrace, command_on, given_by_ring, none_nowhere, GivesOnPosition, given_tests, IsAllowed, nothing_broken, inside, inside_is, awaits_none, stays_put, IsStill, nothing_breaks, least_of_ring}

none_some : {X Y : Type 0} (x : X) → None ≡ Some x → Y
none_some x e = cc

-- no ring has the word
pub nowhere_allowed : (h : Header) → IsHeader h → (k : Known) → k.stopped ≡ false → (a w : ℕ) → a % 4 ≡ 0 → writes_to_owned h k a w ≡ false →
    ((q : Ring) → IsAmong q h.rings → touches q.shape a 4 ≡ false) → IsAllowed h k a w None
nowhere_allowed h headed k on a w aligned free none =
    let no_command : command_given h k a w ≡ None = none_nowhere h headed k a w aligned (λ q among. sym (inside_is h headed k a aligned q among) ∙ none q among) in
    record { clean = nothing_broken (broken h k (Write a w)) (nothing_breaks h headed k on a w aligned none free no_command); command = no_command }

-- one has it
module _ (h : Header) (headed : IsHeader h) (a w : ℕ) (aligned : a % 4 ≡ 0) (n : ℕ) (r : Ring) (at : slice_get h.rings n ≡ Some r)
    (driver : is_driver_kind r.shape.kind ≡ true) (has : touches r.shape a 4 ≡ true) (giving : Option RingGiving) (command : Option Command) where
  among : IsAmong r h.rings
  among = among_at h.rings n r at

  -- the command that the write gives, by what it gives of the ring
  by_ring : (k : Known) → positions_given r.shape (k.ring r.id) a w ≡ positions_of giving →
      command_given h k a w ≡ (if is_command_kind r.shape.kind then command_on (k.ring r.id) (positions_of giving) else None)
  by_ring k gives = given_by_ring h headed k a w aligned r among (inside h headed k a aligned r among driver has) giving gives

  pub said_here : (k : Known) (o : Option Command) → o ≡ command_given h k a w → positions_given r.shape (k.ring r.id) a w ≡ positions_of giving →
      o ≡ (if is_command_kind r.shape.kind then command_on (k.ring r.id) (positions_of giving) else None)
  said_here k o is gives = is ∙ by_ring k gives

  -- what the record of the ring tells
  pub record IsTold (k : Known) : Type 0 where
    pub positions : positions_given r.shape (k.ring r.id) a w ≡ positions_of giving
    pub crossings : crossings_given r.shape (k.ring r.id) a w ≡ crossings_of giving
    pub said : command ≡ (if is_command_kind r.shape.kind then command_on (k.ring r.id) (positions_of giving) else None)
    pub quiet : GivesOnPosition giving command

  module _ (k : Known) (t : TraceRecord) (m : ℕ → ℕ) (f : FollowsTrace h k t m) (keeps : DriverKeeps h k) (on : k.stopped ≡ false) (free : writes_to_owned h k a w ≡ false) (told : IsTold k) where
    gives : command_given h k a w ≡ command
    gives = by_ring k told.positions ∙ sym told.said

    still : (c : Command) → command ≡ Some c → IsStill h k a w r
    still c is = search (rules, stays_put, among, awaits_none, none_some)

    pub judged : (o : Option Refusal) → o ≡ first_broken (given_tests h k r m a w giving command) → (first_of (broken h k (Write a w)) ≡ o) × (command_given h k a w ≡ command)
    judged o is = (
      least_of_ring h headed k on a w aligned r among driver has free giving command told.positions told.crossings gives told.quiet still
          ∙ ap (λ words. first_broken (given_tests h k r words a w giving command)) (fun_ext f.words) ∙ sym is,
      gives,
    )

    pub allowed : None ≡ first_broken (given_tests h k r m a w giving command) → IsAllowed h k a w command
    allowed well = record { clean = nothing_broken (broken h k (Write a w)) (judged None well).0; command = gives }

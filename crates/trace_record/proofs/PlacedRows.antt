-- What the place of a row says
use Rattle.trace_record.proofs.UpperLaws.{rules, ◌≡◌, ℕ, true, Bool, Option, None, Some, slice_get, positions_given, crossings_given, Ring, Header, Row, Write, is_driver_kind, is_event_kind, RingGiving, Known, positions_of, crossings_of, RowPlace, IsGivenBy, IsPlaced, Block, Read, ap, command_on, false, is_some, RingKind, is_command_kind, option_and_then, command_by, command_of_place, no_driver_event}

module _ (h : Header) (k : Known) (at word n : ℕ) (ring : Ring) (here : slice_get h.rings n ≡ Some ring) where
  -- of the event ring nothing is given
  pub nothing_of_events : is_event_kind ring.shape.kind ≡ true → IsGivenBy h k at word (Some n) None
  nothing_of_events event = search (rules, no_driver_event)

  -- what is given of a command or transfer ring
  pub given_on : is_driver_kind ring.shape.kind ≡ true → (giving : Option RingGiving) → positions_given ring.shape (k.ring ring.id) at word ≡ positions_of giving →
      crossings_given ring.shape (k.ring ring.id) at word ≡ crossings_of giving → IsGivenBy h k at word (Some n) giving
  given_on driver giving positions crossings = search (rules, no_driver_event)

  -- its command is that of its ring
  pub command_here : (lent : Bool) (giving : Option RingGiving) → command_of_place h k (record { ring = Some n; is_lent = lent; giving = giving; command = None }) ≡ command_by k giving ring
  command_here lent giving = ap (option_and_then (command_by k giving)) here

-- where nothing is given, no command is
pub none_by : (k : Known) (ring : Ring) → command_by k None ring ≡ None
none_by k ring = search (rules, command_on)

pub none_of_place : (h : Header) (k : Known) (p : RowPlace) → p.giving ≡ None → command_of_place h k p ≡ None
none_of_place h k p nothing = search (rules, none_by)

pub nothing_there : (giving : Option RingGiving) → is_some giving ≡ false → giving ≡ None
nothing_there giving none = search rules

pub command_drives : (kind : RingKind) → is_command_kind kind ≡ true → is_driver_kind kind ≡ true
command_drives kind commands = search rules

-- of the command ring it is what stands in its queue
pub command_is : (h : Header) (k : Known) (p : RowPlace) (n : ℕ) (ring : Ring) → slice_get h.rings n ≡ Some ring → p.ring ≡ Some n → is_command_kind ring.shape.kind ≡ true →
    command_of_place h k p ≡ command_on (k.ring ring.id) (positions_of p.giving)
command_is h k p n ring here on commands = search rules

-- nothing is said of a row that neither writes memory nor reads an event
pub placed_other : (h : Header) (k : Known) (row : Row) (p : RowPlace) → ((at word : ℕ) → row ≡ Write at word → ⊥) → ((event : Block) → row ≡ Read event → ⊥) → IsPlaced h k row p
placed_other h k row p h1 h2 = search rules

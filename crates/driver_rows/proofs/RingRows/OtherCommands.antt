-- The same commands are unfinished, and bind the same rings, where other rings are there
use Rattle.driver_rows.proofs.Words.{◌∙◌, ◌≡◌, ℕ, List, filter, option_and_then, slice_get, ap, filter_map, list_any, listed_unfinished, RingView, due_positions, command_of, Header, Ring, Known, command_at, unfinished, unfinished_positions, binds_ring, is_being_bound, DriverKeeps, any_in, OtherRings, bound_still, SameCommands}

module _ (h : Header) (rings : List Ring) (k : Known) (views : ℕ → RingView) (d : DriverKeeps h k) (o : OtherRings h rings k views) where
  abbrev g : Header
  g = record h { rings = rings }

  abbrev l : Known
  l = record k { ring = views }

  commands_same : unfinished g l ≡ unfinished h k
  unfolding unfinished unfinished_positions command_at due_positions
  commands_same =
      λ i. filter_map (λ p. option_and_then command_of (slice_get (o.command_view i).queue p)) (filter (o.command_view i).given (due_positions (o.command_shape i) (o.command_view i)))

  bound_as_before : (r : ℕ) → is_being_bound g l r ≡ is_being_bound h k r
  unfolding is_being_bound
  bound_as_before r =
      ap (λ cs. list_any (binds_ring g l r) cs) commands_same
      ∙ any_in (binds_ring g l r) (binds_ring h k r) (unfinished h k) (λ c at. let u = listed_unfinished h k c at in (bound_still h rings k views d o u.0 c u.1).names r)

  pub other_commands : SameCommands h k g l
  other_commands = record { commands = commands_same; bound = bound_as_before }

pub same_twice : (h g f : Header) (k l m : Known) → SameCommands h k g l → SameCommands g l f m → SameCommands h k f m
same_twice h g f k l m one other = record { commands = other.commands ∙ one.commands; bound = λ r. other.bound r ∙ one.bound r }

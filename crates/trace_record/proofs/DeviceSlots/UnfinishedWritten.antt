-- The unfinished commands behind a write: with the one that it gives, if it gives one
use Rattle.trace_record.proofs.LowerLaws.{rules, ◌≡◌, ◌∙◌, ◌||◌, ◌⊎◌, ◌∷◌, ℕ, List, [], Some, None, ap, sym, inl, inr, filter, option_and_then, slice_get, filter_map, none-some, Shape, IsShape, RingView, Writes, changed, gives, due_positions, positions_given, positions_given-one, Command, command_of, Header, Write, shape_of, command_id, Known, command_at, unfinished_positions, unfinished, command_given, with_device, with_word, written, learned, Inserted, filter_as_before, filter_with_one, mapped_with_one, mapped_as_before}

module _ (h : Header) (k : Known) (a w : ℕ) where
  abbrev shape : Shape
  shape = shape_of h (command_id h)

  abbrev view : RingView
  view = k.ring (command_id h)

  abbrev l : Known
  l = learned h k (Write a w)

  -- what is known of the command ring
  pub written_view : l.ring (command_id h) ≡ changed shape view (Writes a w)
  unfolding learned written with_word with_device
  written_view = search (rules, changed)

  -- the numbers of the positions that are given and due
  pub due_given : unfinished_positions h l ≡ filter (λ p. view.given p || gives shape view.floor p a w) (due_positions shape view)
  unfolding unfinished_positions due_positions
  due_given = ap (λ (v : RingView). filter v.given (due_positions shape v)) written_view

  pub commands_same : command_at h l ≡ command_at h k
  unfolding command_at
  commands_same = λ i p. option_and_then command_of (slice_get (written_view i).queue p)

  -- all commands then, in what is known before
  listed : unfinished h l ≡ filter_map (command_at h k) (filter (λ p. view.given p || gives shape view.floor p a w) (due_positions shape view))
  unfolding unfinished
  listed = λ i. filter_map (commands_same i) (due_given i)

  -- it gives nothing on the command ring
  pub gives_none : positions_given shape view a w ≡ [] → unfinished h l ≡ unfinished h k
  unfolding unfinished unfinished_positions positions_given
  gives_none none = listed ∙ ap (filter_map (command_at h k)) (filter_as_before view.given (λ p. gives shape view.floor p a w) (due_positions shape view) none)

  module _ (p : ℕ) (one : positions_given shape view a w ≡ p ∷ []) where
    pub inserted : Inserted p (unfinished_positions h k) (filter (λ p. view.given p || gives shape view.floor p a w) (due_positions shape view))
    unfolding unfinished_positions positions_given
    inserted = filter_with_one view.given (λ p. gives shape view.floor p a w) p (due_positions shape view) one

    -- it gives one position there, with this command
    pub gives_one : (c : Command) → command_at h k p ≡ Some c → Inserted c (unfinished h k) (unfinished h l)
    unfolding unfinished
    gives_one c at = search (rules, listed, mapped_with_one, inserted)

    -- or with a block that is no command of the profile
    pub gives_other : command_at h k p ≡ None → unfinished h l ≡ unfinished h k
    unfolding unfinished
    gives_other none = search (rules, listed, mapped_as_before, inserted)

  -- at most one position is given
  abbrev pub GivesOne : Type 0
  GivesOne = (positions_given shape view a w ≡ []) ⊎ ((p : ℕ) × (positions_given shape view a w ≡ p ∷ []))

  pub allowed_gives : IsShape shape → GivesOne
  allowed_gives is = positions_given-one shape is view a w

  -- the command of the first of some positions
  given_first : (ps : List ℕ) → positions_given shape view a w ≡ ps → command_given h k a w ≡ option_and_then (command_at h k) (slice_get ps 0)
  unfolding command_given
  given_first ps at = ap (λ l. option_and_then (command_at h k) (slice_get l 0)) at

  -- with the command that is given
  pub written_with : GivesOne → (c : Command) → command_given h k a w ≡ Some c → Inserted c (unfinished h k) (unfinished h l)
  written_with most c at = elim most [ inl none ↦ search (rules, none-some, given_first [] none) | inr one ↦ gives_one one.0 one.1 c (sym (given_first (one.0 ∷ []) one.1) ∙ at) ]

  -- and as before where no command is
  pub written_without : GivesOne → command_given h k a w ≡ None → unfinished h l ≡ unfinished h k
  written_without most at = elim most [ inl none ↦ gives_none none | inr one ↦ gives_other one.0 one.1 (sym (given_first (one.0 ∷ []) one.1) ∙ at) ]

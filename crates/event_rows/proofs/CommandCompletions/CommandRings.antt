-- What the command ring tells of completions
use Rattle.event_rows.proofs.Words.{◌≡◌, ◌∙◌, true, false, None, Some, refl, ap, sym, inl, inr, is_some, cases_option, false≢true, Block, Ring, Header, IsHeader, command_ring, command_id, shape_of, Known, command_at, next_command, shape_there, IsSetUp, is_no_completion, command_id_is, commands_among, untaken}
use Rattle.ownership_rules.specs.Events as events

-- without a command ring no completion is possible
module _ (h : Header) (headed : IsHeader h) (k : Known) (set_up : IsSetUp h k) (b : Block) where
  pub none_completes : command_ring h ≡ None → true ≡ events.is_impossible_completion h k b
  unfolding events.is_impossible_completion
  none_completes none = rw (← untaken h headed k none set_up.has_commands) refl

  pub commands_complete : events.is_impossible_completion h k b ≡ false → is_some (command_ring h) ≡ true
  commands_complete possible =
      elim (cases_option (command_ring h)) [ inl none ↦ absurd (false≢true (sym possible ∙ sym (none_completes none))) | inr some ↦ ap (λ o. is_some o) some.1 ]

module _ (h : Header) (headed : IsHeader h) (k : Known) (ring : Ring) (there : command_ring h ≡ Some ring) (b : Block) where
  completion_on : events.is_impossible_completion h k b ≡ is_no_completion k (shape_of h (command_id h)) (k.ring (command_id h)) b
  unfolding events.is_impossible_completion events.may_be_taken next_command command_at
  completion_on = refl

  -- of a completion the command ring tells whether it is possible
  pub completion_is : events.is_impossible_completion h k b ≡ is_no_completion k ring.shape (k.ring ring.id) b
  completion_is =
      completion_on ∙ ap (λ i. is_no_completion k (shape_of h i) (k.ring i) b) (command_id_is h ring there)
      ∙ ap (λ s. is_no_completion k s (k.ring ring.id) b) (shape_there h headed ring (commands_among h ring there).0)

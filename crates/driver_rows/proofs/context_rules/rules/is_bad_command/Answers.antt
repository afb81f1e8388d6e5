use Rattle.driver_rows.proofs.Laws.{◌≡◌, sym, ◌∙◌, ◌||◌, false, false≢true, Known, FollowsTrace, FitsMemory, named_context, named_endpoint, named_slot, has_bad_context, is_bad_command, names_disabled_endpoint, names_disabled_slot, bad_content, stops, goes_on}
use Rattle.driver_rows.proofs.context_rules.rules.is_bad_command.Goals.{Joined-names_disabled_endpoint, then-names_disabled_slot, else-names_disabled_slot, then-names_disabled_endpoint, else-names_disabled_endpoint}
use Rattle.driver_rows.proofs.context_rules.rules.is_bad_command.Goals as goal

fits : (g : _) (c : Joined-names_disabled_endpoint g) → c.if-names_disabled_endpoint.value ≡ false → FitsMemory c.args.header.now.context_size c.args.command.now
fits g c good = elim c.if-names_disabled_endpoint.branch [
  | then-names_disabled_endpoint w ↦ absurd (false≢true (sym good ∙ w.value-is ∙ w.if-names_disabled_endpoint.true))
  | else-names_disabled_endpoint w ↦ w.has_bad_context.ensures.inside (sym w.value-is ∙ good)
]

-- what the tests before the last one say
before_last : (g : _) (c : Joined-names_disabled_endpoint g) (k : Known) → FollowsTrace c.args.header.now k c.args.t.now (g.M.WordMemory.words c.args.memory.now) →
    c.if-names_disabled_endpoint.value ≡ (names_disabled_slot k (named_slot c.args.command.now) || names_disabled_endpoint k (named_endpoint c.args.command.now) || has_bad_context c.args.header.now k (named_context c.args.command.now))
before_last g c k f =
    let one : c.if-names_disabled_slot.value ≡ (names_disabled_slot k (named_slot c.args.command.now) || names_disabled_endpoint k (named_endpoint c.args.command.now)) = elim c.if-names_disabled_slot.branch [
      | then-names_disabled_slot w ↦ w.value-is ∙ stops _ _ _ (c.names_disabled_slot.ensures k f.devices) w.if-names_disabled_slot.true
      | else-names_disabled_slot w ↦ w.value-is ∙ goes_on _ _ _ _ (c.names_disabled_slot.ensures k f.devices) w.if-names_disabled_slot.false (w.names_disabled_endpoint.ensures k f.devices)
    ] in
    elim c.if-names_disabled_endpoint.branch [
      | then-names_disabled_endpoint w ↦ w.value-is ∙ stops _ _ _ one w.if-names_disabled_endpoint.true
      | else-names_disabled_endpoint w ↦ w.value-is ∙ goes_on _ _ _ _ one w.if-names_disabled_endpoint.false (w.has_bad_context.ensures.rule k _ f)
    ]

pub has_bad_content-requires-clause-fits : goal.has_bad_content-requires-clause-fits
has_bad_content-requires-clause-fits g c = fits g (goal.at.has_bad_content-requires-clause-fits g c).Joined-names_disabled_endpoint c.if-has_bad_context.false

pub returns-then-has_bad_context-clause-rule : goal.returns-then-has_bad_context-clause-rule
unfolding is_bad_command
returns-then-has_bad_context-clause-rule g c = λ k f. stops _ _ _ (before_last g (goal.at.returns-then-has_bad_context-clause-rule g c).Joined-names_disabled_endpoint k f) c.if-has_bad_context.true

pub returns-else-has_bad_context-clause-rule : goal.returns-else-has_bad_context-clause-rule
unfolding is_bad_command
returns-else-has_bad_context-clause-rule g c = λ k f.
    goes_on _ _ _ _ (before_last g (goal.at.returns-else-has_bad_context-clause-rule g c).Joined-names_disabled_endpoint k f) c.if-has_bad_context.false
    (c.has_bad_content.ensures k f ∙ bad_content c.args.header.now k _ c.args.command.now f.words)

pub returns-else-has_bad_context-clause-inside : goal.returns-else-has_bad_context-clause-inside
returns-else-has_bad_context-clause-inside g c = λ good. fits g (goal.at.returns-else-has_bad_context-clause-inside g c).Joined-names_disabled_endpoint c.if-has_bad_context.false

use Rattle.controller_model.proofs.Laws.{◌≡◌, ◌||◌, ◌∙◌, ℕ, Bool, ap, sym, command_of, command_begun, may_scribble, addressed, is_it, may_scribble_is}
use Rattle.controller_model.proofs.looks.begin.Goals as goal

pub returns : goal.returns
unfolding command_begun
returns c = λ h words w f.
    let now = c.allow.ensures h words w f in
    let slot : c.addressed.result ≡ addressed (command_of c.args.block.now) = c.addressed.ensures ∙ ap addressed c.command_of.ensures in
    let same : ◌≡◌ {A = ℕ → Bool} (λ t. w.scribbles t || is_it t c.addressed.result) (may_scribble h (command_of c.args.block.now) w) =
    (λ i t. (ap (λ o. w.scribbles t || is_it t o) slot ∙ sym (may_scribble_is h (command_of c.args.block.now) w t)) i) in
    assumption (rw same at now.slots)

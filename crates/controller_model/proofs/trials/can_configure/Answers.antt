use Rattle.controller_model.proofs.Laws.{◌≡◌, ◌&&◌, ◌∙◌, if◌then◌else◌, None, slice_index, ap, sym, refl, nat_le, eq-eqb, has_flag, has_isochronous, input_add_flag, is_dropped, added_endpoints, changed_by, changed_by_all, changes, disabled, typed, Sees, gone}
use Rattle.controller_model.proofs.trials.can_configure.Goals as goal

pub returns-then-deconfigure : goal.returns-then-deconfigure
unfolding changes changed_by changed_by_all
returns-then-deconfigure g c = λ h words d n w f. simp c.if-deconfigure.true

pub returns : goal.returns
unfolding changes changed_by changed_by_all added_endpoints disabled typed
returns g c = λ h words d n w f.
    let memory = g.M.WordMemory.words c.args.memory.now in
    let s = c.args.slot in
    let u = typed (gone d w s) s (input_add_flag memory c.args.context) (has_isochronous c.args.header.now.context_size memory c.args.context) in
    let v = disabled u s (is_dropped memory c.args.context) in
    let flags : slice_index c.block_at.result.w 0 ≡ memory c.args.context = ap (λ b. slice_index b.w 0) c.block_at.ensures in
    let sees : Sees c.left-rings.result s w v = record {
      own = λ j below.
          (λ k. if eq-eqb s s refl k && (nat_le 2 j && has_flag (sym flags k) j) then None else w.ring_of s j)
          ∙ sym (c.left-rings.ensures h words w f j below);
      others = λ t j apart. ap (λ b. if b && (nat_le 2 j && has_flag (memory c.args.context) j) then None else w.ring_of t j) apart;
    } in
    rw c.if-deconfigure.false (c.can_add_all.ensures h words d w v f sees)

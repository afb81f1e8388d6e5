use Rattle.controller_model.proofs.Laws.{◌≡◌, ◌<◌, ◌≤◌, ◌∙◌, Some, length, slice_get, ap, sym, refl, arith, read_at, withdraws_inside, withdraws_one, withdraws_past}
use Rattle.controller_model.proofs.declared.Declarations.withdraw.Goals as goal

pub returns-in-None : goal.returns-in-None
returns-in-None c = λ queue lengths old.
    let h = c.in-None.ensures.lookup in
    let past : length c.args.self.now.blocks.items ≤ c.args.position = omega (arith, ap length c.deref.ensures.value) in
    withdraws_past c.args.self.now queue lengths c.args.position old past

pub returns-in-Some : goal.returns-in-Some
returns-in-Some c = λ queue lengths old.
    let h = c.in-Some.ensures.lookup in
    let p = c.args.position in
    let x = c.in-Some.declared.now in
    let inside : p < length c.args.self.now.blocks.items = omega (arith, ap length c.deref.ensures.value) in
    let at : slice_get c.args.self.now.blocks.items p ≡ Some x =
    ap (λ xs. slice_get xs p) (sym c.deref.ensures.value) ∙ read_at c.deref.result.now p p x refl (omega (arith, inside, ap length c.deref.ensures.value)) h.1 in
    withdraws_one c.args.self.now queue lengths p old c.withdraw_from.new.self x at c.if-declared.true c.withdraw_from.ensures

pub returns-else-declared : goal.returns-else-declared
returns-else-declared c = λ queue lengths old.
    let h = c.in-Some.ensures.lookup in
    let p = c.args.position in
    let x = c.in-Some.declared.now in
    let inside : p < length c.args.self.now.blocks.items = omega (arith, ap length c.deref.ensures.value) in
    let at : slice_get c.args.self.now.blocks.items p ≡ Some x =
    ap (λ xs. slice_get xs p) (sym c.deref.ensures.value) ∙ read_at c.deref.result.now p p x refl (omega (arith, inside, ap length c.deref.ensures.value)) h.1 in
    withdraws_inside c.args.self.now queue lengths p old x at c.if-declared.false

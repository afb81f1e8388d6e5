use Rattle.driver_rows.proofs.Words.{◌≡◌, ◌&&◌, ◌∙◌, false, Some, sym, subst, cases_lt, arith, inl, inr, list_any, named_slot, is_about}
use Rattle.driver_rows.proofs.MemoryWrites.BesideOthers.{excluded_shares, none_excluded, none_of_slot, none_shares, one_slot_is, some_excluded}
use Rattle.commands.specs.SideBySide.{exclude}
use Rattle.driver_rows.proofs.writes.side_by_side.is_busy.Goals as goal

pub returns-in_default : goal.returns-in_default
returns-in_default g c = λ all f fit fits low.
    sym (none_shares (g.M.WordMemory.words c.args.memory.now) c.args.command.now all (none_of_slot c.args.command.now all (sym c.slot.ensures ∙ c.in_default.is)))

pub returns-then-is_excluded_at : goal.returns-then-is_excluded_at
returns-then-is_excluded_at g c = λ all f fit fits low.
    sym (some_excluded c.in-Some.slot c.loop-index.index (exclude (g.M.WordMemory.words c.args.memory.now) c.args.command.now) all
    (sym (c.is_excluded_at.ensures all f fit fits low) ∙ c.if-is_excluded_at.true))

pub loop-index-preserved : goal.loop-index-preserved
loop-index-preserved g c = λ all f fit fits low j below.
    let i = c.loop-index.index in
    let p = exclude (g.M.WordMemory.words c.args.memory.now) c.args.command.now in
    elim (cases_lt j i) [
      | inl less ↦ c.loop-index.invariant all f fit fits low j less
      | inr least ↦
          let same : i ≡ j = omega (arith, below, least) in
          subst (λ n. list_any (λ d. p d && is_about c.in-Some.slot n d) all ≡ false) same (sym (c.is_excluded_at.ensures all f fit fits low) ∙ c.if-is_excluded_at.false)
    ]

pub returns : goal.returns
returns g c = λ all f fit fits low.
    let memory = g.M.WordMemory.words c.args.memory.now in
    let s = c.in-Some.slot in
    let named : named_slot c.args.command.now ≡ Some s = sym c.slot.ensures ∙ c.in-Some.is in
    sym (none_excluded s (exclude memory c.args.command.now) (λ d both. sym (one_slot_is s c.args.command.now d named) ∙ excluded_shares memory c.args.command.now d both) all f.endpoints
    (λ j below. c.loop-index.invariant all f fit fits low j (omega (arith, below, c.loop-index-test.false))))

use Rattle.knowledge_page.proofs.BaseWords.{[], ◌∙◌, sym, subst, reverse, IsHeader, header_now, leases_lent, lents}
use Rattle.traces.specs.AllowedHeaders.{AreUnmoved}
use Rattle.traces.specs.declared.header.Header.{Header}
use Rattle.knowledge_page.proofs.behind.standing_behind.Goals as goal

pub pass_kept-requires-clause-headed : goal.pass_kept-requires-clause-headed
pass_kept-requires-clause-headed c = subst IsHeader (sym c.in_ok-own.ensures) c.requires.headed

pub pass_kept-requires-clause-unmoved : goal.pass_kept-requires-clause-unmoved
pass_kept-requires-clause-unmoved c = subst (λ (h : Header). AreUnmoved h.rings) (sym c.in_ok-own.ensures) c.requires.unmoved

pub invariant_of-result : goal.invariant_of-result
invariant_of-result c =
    let h = c.in_ok-own.own in
    let past = reverse c.args.rows.now in
    let whole = rw c.in-Whole.is at c.in_ok-pass.ensures.whole in
    record { headed = (c.into_behind-header.ensures.behind h past whole.passed).headed }

pub returns-in-Whole-clause-standing : goal.returns-in-Whole-clause-standing
returns-in-Whole-clause-standing c =
    let h = c.in_ok-own.own in
    let first = c.args.first in
    let past = reverse c.args.rows.now in
    let whole = rw c.in-Whole.is at c.in_ok-pass.ensures.whole in
    let behind = c.into_behind-header.ensures.behind h past whole.passed in
    let kept = c.into_behind-header.ensures.logged [] h first past (whole.logged [] (c.in_ok-book.ensures first)) in
    rw (sym c.in_ok-own.ensures)
    (record {
      clean = behind.clean;
      verdict = whole.verdict;
      header = behind.header;
      followed = behind.followed;
      leased = c.into_leases.ensures (header_now h past) (lents h first past) kept ∙ sym (leases_lent h first c.args.rows.now whole.room);
    })

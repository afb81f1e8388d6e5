use Rattle.driver_rows.proofs.Laws.{◌∙◌, refl, sym, coming_kept, comes_so}
use Rattle.driver_rows.proofs.rings.coming.check_coming.Goals as goal

pub returns-then-is_bad_ring-clause-refused : goal.returns-then-is_bad_ring-clause-refused
returns-then-is_bad_ring-clause-refused g c = (refl, λ k f. sym (c.is_bad_ring.ensures.rule k f) ∙ c.if-is_bad_ring.true)

pub returns-clause-ok : goal.returns-clause-ok
returns-clause-ok g c = λ k f keeps on.
    let h = c.args.header.now in
    let good = sym (c.is_bad_ring.ensures.rule k f) ∙ c.if-is_bad_ring.false in
    record {
      kept = coming_kept h k on c.args.ring good;
      followed = c.in_ok-add_ring.ensures.ok h k _ f (comes_so h c.requires.headed c.args.ring c.requires.coming k keeps good);
    }

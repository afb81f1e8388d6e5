use Rattle.replayer.proofs.Words.{◌≡◌, ◌==◌, ◌<◌, ◌∙◌, [], List, not, filter, ap, length, sym, arith, Header, Ring, length-remove, none_dropped, nothing_listed, one_dropped, without_is, remove}
use Rattle.replayer.proofs.lazy_steps.there.drop_ring.Goals as goal

pub returns-in-None : goal.returns-in-None
returns-in-None c =
    c.loop.invariant.head ∙ without_is c.args.header.now c.args.id c.loop.header.rings (sym (none_dropped c.loop.header.rings c.args.id (sym c.place_of.ensures.value ∙ c.in-None.is)) ∙ c.loop.invariant.rest)

pub loop-preserved : goal.loop-preserved
loop-preserved c =
    let i = c.loop.invariant in
    let rings = c.loop.header.rings in
    let n = c.in-Some.number in
    let found = sym c.place_of.ensures.value ∙ c.in-Some.is in
    let after : c.drop_at.new.header.rings ≡ remove rings n = ap (λ (h : Header). h.rings) c.drop_at.ensures in
    let within : n < length rings = omega (arith, c.in-Some.ensures.below) in
    record {
      head = c.drop_at.ensures ∙ (λ j. record (i.head j) { rings = sym after j });
      rest = ap (λ (xs : List Ring). filter (λ r. not (r.id == c.args.id)) xs) after ∙ one_dropped rings n c.args.id found ∙ i.rest;
      fewer = omega (arith, ap length after, length-remove rings n within, i.fewer);
    }

pub returns : goal.returns
returns c =
    let i = c.loop.invariant in
    let none : c.loop.header.rings ≡ [] = nothing_listed c.loop.header.rings (omega (arith, i.fewer, c.loop-test.false, ap length c.as_slice-end.ensures)) in
    i.head ∙ without_is c.args.header.now c.args.id c.loop.header.rings (none ∙ sym (ap (λ (xs : List Ring). filter (λ r. not (r.id == c.args.id)) xs) none) ∙ i.rest)

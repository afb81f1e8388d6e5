use Rattle.driver_rows.proofs.Laws.{◌≡◌, true, refl, rules, get_or, sym, ◌∙◌, ap, arith, length, ◌==◌, not, eqb-true, slice_get_read, slice_get_within, is_driver_kind, ring_here, none_here, undeclared, on_events, declared_ok, declared_bad}
use Rattle.driver_rows.proofs.declarations.check.check_declaration.Goals as goal

pub returns-in_default-clause-refused : goal.returns-in_default-clause-refused
returns-in_default-clause-refused c = λ k m f on.
    let none = none_here c.args.header.now (λ q. q.id == c.args.id) c.args.header.now.rings (sym (c.ring_named.ensures c.args.header.now.rings c.requires.found) ∙ c.in_default.is) refl in
    undeclared c.args.header.now c.requires.headed c.args.id c.args.blocks.now none k on

pub returns-then-is_event_ring-clause-refused : goal.returns-then-is_event_ring-clause-refused
returns-then-is_event_ring-clause-refused c = λ k m f on.
    let ring = c.index-rings-number.result in
    let here = ring_here c.args.header.now (λ q. q.id == c.args.id) c.args.header.now.rings c.in-Some.number ring (sym (c.ring_named.ensures c.args.header.now.rings c.requires.found) ∙ c.in-Some.is) refl (c.index-rings-number.is ∙ ap (λ xs. get_or xs c.in-Some.number ring) c.as_slice-rings.ensures) in
    on_events c.args.header.now c.requires.headed c.args.id c.args.blocks.now c.in-Some.number ring here.0 (eqb-true ring.id c.args.id here.1) (sym c.is_event_ring.ensures ∙ c.if-is_event_ring.true) k on

pub returns : goal.returns
returns c =
    let ring = c.index-rings-number.result in
    let here = ring_here c.args.header.now (λ q. q.id == c.args.id) c.args.header.now.rings c.in-Some.number ring (sym (c.ring_named.ensures c.args.header.now.rings c.requires.found) ∙ c.in-Some.is) refl (c.index-rings-number.is ∙ ap (λ xs. get_or xs c.in-Some.number ring) c.as_slice-rings.ensures) in
    let driver : is_driver_kind ring.shape.kind ≡ true = ap not (sym c.is_event_ring.ensures ∙ c.if-is_event_ring.false) in
    let items = c.args.kept.now.rings.items in
    let within = slice_get_within c.args.header.now.rings c.in-Some.number ring here.0 in
    let there = slice_get_read items (length items) c.in-Some.number c.index_mut.result.now refl (omega (arith, c.requires.as_many, within)) c.index_mut.ensures.value in
    let same = eqb-true ring.id c.args.id here.1 in
    record {
      ok = declared_ok c.args.header.now c.requires.headed c.args.id c.args.blocks.now c.in-Some.number ring here.0 same driver c.args.kept.now c.index_mut.result.now there
          c.profile-profile.result c.profile-profile.ensures c.declare_on.new.known c.declare_on.result c.declare_on.ensures.ok;
      refused = declared_bad c.args.header.now c.requires.headed c.args.id c.args.blocks.now c.in-Some.number ring here.0 same driver c.args.kept.now c.index_mut.result.now there
          c.profile-profile.result c.profile-profile.ensures c.declare_on.result c.declare_on.ensures.refused;
      events = search rules;
    }

use Rattle.leases.proofs.Laws.{◌≡◌, ◌∙◌, ◌∷◌, List, get_or, refl, sym, subst, ap, Some, [], touches, Lent, with_begun, Block, Link, others_begin, none_here, ring_here, shape_there, among_at, HoldsAll, held_still, on_more, begun_twice, at_ring, command_context_free, command_fits, command_slot_free, given_kind, given_there_is, lent_command, lent_link, lent_none, lent_nowhere, lent_without, link_is_free, place_free, in_events, not_touched, crosses, shape_is}
use Rattle.ring_knowledge.specs.declared.ring_record.RingGiving.TheVariants.{Position, Crossing}
use Rattle.leases.proofs.rows.writes.note_write.Goals as goal

pub returns-in_default : goal.returns-in_default
returns-in_default g c = λ list k ts a w placed next all.
    let h = c.args.header.now in
    let none = none_here h (λ q. touches q.shape a 4) h.rings (sym placed.ring ∙ c.in_default.is) refl in
    held_still h c.requires k ts c.args.book.now c.args.ranges.now _ c.args.number
    (lent_nowhere h c.requires k ts a w c.args.number c.args.t.now _ next placed.aligned (not_touched h c.requires k a placed.aligned w none)) all

pub returns-then-is_event_ring : goal.returns-then-is_event_ring
returns-then-is_event_ring g c = λ list k ts a w placed next all.
    let h = c.args.header.now in
    let q = c.in-Some-get.ring.now in
    let here = ring_here h (λ q. touches q.shape a 4) h.rings c.in-Some.index q (sym placed.ring ∙ c.in-Some.is) refl (c.in-Some-get.ensures.lookup.1 ∙ ap (λ xs. get_or xs c.in-Some.index q) c.as_slice-rings.ensures) in
    held_still h c.requires k ts c.args.book.now c.args.ranges.now _ c.args.number
    (lent_nowhere h c.requires k ts a w c.args.number c.args.t.now _ next placed.aligned
    (in_events h c.requires k a placed.aligned w q (among_at h.rings c.in-Some.index q here.0) (sym c.is_event_ring.ensures ∙ c.if-is_event_ring.true) here.1)) all

pub returns-in-None : goal.returns-in-None
returns-in-None g c = λ list k ts a w placed next all.
    let h = c.args.header.now in
    let q = c.in-Some-get.ring.now in
    let at = at_ring h k c.args.t.now _ next.followed a w c.in-Some.index c.args.place.now q placed c.in-Some.is (c.in-Some-get.ensures.lookup.1 ∙ ap (λ xs. get_or xs c.in-Some.index q) c.as_slice-rings.ensures) (sym c.is_event_ring.ensures ∙ c.if-is_event_ring.false) in
    held_still h c.requires k ts c.args.book.now c.args.ranges.now _ c.args.number (lent_none h c.requires k ts a w c.args.number c.args.t.now _ next placed.aligned q at.among at.driver at.has c.args.place.now.giving at.positions at.crossings c.in-None.is) all

pub returns-in-Some-Crossing : goal.returns-in-Some-Crossing
returns-in-Some-Crossing g c = on_more c.begin_link.result (λ begins. λ list k ts a w placed next all.
    let h = c.args.header.now in
    let q = c.in-Some-get.ring.now in
    let at = at_ring h k c.args.t.now _ next.followed a w c.in-Some.index c.args.place.now q placed c.in-Some.is (c.in-Some-get.ensures.lookup.1 ∙ ap (λ xs. get_or xs c.in-Some.index q) c.as_slice-rings.ensures) (sym c.is_event_ring.ensures ∙ c.if-is_event_ring.false) in
    let x = c.in-Some-Crossing.crossing in
    let crossed : c.in-Some-Crossing.field-0 ≡ Crossing x = rw c.in-Some-Crossing.is at c.in-Some-Crossing.field-0-is in
    let is = c.in-Some-Crossing.is ∙ ap (λ g. Some g) crossed in
    subst (λ (us : List Lent). HoldsAll (g.B.LeaseLog.holds list) h us c.begin_link.new.self c.args.ranges.now) (sym (lent_link h c.requires k ts a w c.args.number c.args.t.now _ next placed.aligned q at.among at.driver at.has c.args.place.now.giving at.positions at.crossings x is))
    (record {
      held = begins list h ts (shape_there h c.requires q at.among) (crosses h c.requires k ts a w c.args.number c.args.t.now _ next placed.aligned q at.among at.driver at.has c.args.place.now.giving at.positions at.crossings at.known at.follows x is) all.held (link_is_free h c.requires k ts a w c.args.number c.args.t.now _ next placed.aligned q at.among at.driver at.has c.args.place.now.giving at.positions at.crossings at.known at.follows x is);
      found = others_begin h c.args.ranges.now c.args.number (Link q.id x) ts (λ g y i. tt) all.found;
    })) c.begin_link.ensures

pub returns-in-None-command_said : goal.returns-in-None-command_said
returns-in-None-command_said g c = λ list k ts a w placed next all.
    let h = c.args.header.now in
    let q = c.in-Some-get.ring.now in
    let at = at_ring h k c.args.t.now _ next.followed a w c.in-Some.index c.args.place.now q placed c.in-Some.is (c.in-Some-get.ensures.lookup.1 ∙ ap (λ xs. get_or xs c.in-Some.index q) c.as_slice-rings.ensures) (sym c.is_event_ring.ensures ∙ c.if-is_event_ring.false) in
    let p = c.in-Some-Position.position in
    let stands : c.in-Some-Position.field-0 ≡ Position p = rw c.in-Some-Position.is at c.in-Some-Position.field-0-is in
    let is = c.in-Some-Position.is ∙ ap (λ g. Some g) stands in
    let none = sym placed.command ∙ sym c.command_said.ensures.same ∙ c.in-None-command_said.is in
    subst (λ (us : List Lent). HoldsAll (g.B.LeaseLog.holds list) h us c.begin_block.new.self c.args.ranges.now) (sym (lent_without h c.requires k ts a w c.args.number c.args.t.now _ next placed.aligned q at.among at.driver at.has c.args.place.now.giving at.positions at.crossings p is none))
    (record {
      held = c.in_ok-begin_block-in-Some-Position.ensures list h ts (shape_there h c.requires q at.among) all.held (place_free h c.requires k ts a w c.args.number c.args.t.now _ next placed.aligned q at.among at.driver at.has c.args.place.now.giving at.positions at.crossings p is);
      found = others_begin h c.args.ranges.now c.args.number (Block q.id p) ts (λ g y i. tt) all.found;
    })

pub returns-in-Some-command_said : goal.returns-in-Some-command_said
returns-in-Some-command_said g c = on_more c.begin_command.result (λ begins. λ list k ts a w placed next all.
    let h = c.args.header.now in
    let q = c.in-Some-get.ring.now in
    let at = at_ring h k c.args.t.now _ next.followed a w c.in-Some.index c.args.place.now q placed c.in-Some.is (c.in-Some-get.ensures.lookup.1 ∙ ap (λ xs. get_or xs c.in-Some.index q) c.as_slice-rings.ensures) (sym c.is_event_ring.ensures ∙ c.if-is_event_ring.false) in
    let p = c.in-Some-Position.position in
    let stands : c.in-Some-Position.field-0 ≡ Position p = rw c.in-Some-Position.is at c.in-Some-Position.field-0-is in
    let is = c.in-Some-Position.is ∙ ap (λ g. Some g) stands in
    let given = sym placed.command ∙ sym c.command_said.ensures.same ∙ c.in-Some-command_said.is in
    let command = given_kind h c.requires k ts a w c.args.number c.args.t.now _ next placed.aligned q at.among at.driver at.has c.args.place.now.giving at.positions at.crossings p is c.in-Some-command_said.command given in
    let some = given_there_is h c.requires k ts a w c.args.number c.args.t.now _ next placed.aligned q at.among at.driver at.has c.args.place.now.giving at.positions at.crossings p is command (Some c.in-Some-command_said.command) given in
    let us : List Lent = with_begun c.args.number ts (Block q.id p ∷ []) in
    subst (λ (us : List Lent). HoldsAll (g.B.LeaseLog.holds list) h us c.begin_command.new.book c.begin_command.new.ranges) (begun_twice c.args.number ts (Block q.id p ∷ []) _ ∙ sym (lent_command h c.requires k ts a w c.args.number c.args.t.now _ next placed.aligned q at.among at.driver at.has c.args.place.now.giving at.positions at.crossings p is command c.in-Some-command_said.command some))
    (begins list k us next.followed (command_fits h c.requires k ts a w c.args.number c.args.t.now _ next placed.aligned q at.among at.driver at.has c.args.place.now.giving at.positions at.crossings p is command c.in-Some-command_said.command some) (shape_is h c.requires k ts a w c.args.number c.args.t.now _ next placed.aligned q at.among at.driver at.has c.args.place.now.giving at.positions at.crossings p is command)
    (command_slot_free h c.requires k ts a w c.args.number c.args.t.now _ next placed.aligned q at.among at.driver at.has c.args.place.now.giving at.positions at.crossings p is command c.in-Some-command_said.command some) (command_context_free h c.requires k ts a w c.args.number c.args.t.now _ next placed.aligned q at.among at.driver at.has c.args.place.now.giving at.positions at.crossings p is command)
    (record {
      held = c.in_ok-begin_block-in-Some-Position.ensures list h ts (shape_there h c.requires q at.among) all.held (place_free h c.requires k ts a w c.args.number c.args.t.now _ next placed.aligned q at.among at.driver at.has c.args.place.now.giving at.positions at.crossings p is);
      found = others_begin h c.args.ranges.now c.args.number (Block q.id p) ts (λ g y i. tt) all.found;
    }))) c.begin_command.ensures

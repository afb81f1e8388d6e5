use Rattle.leases.proofs.Laws.{on_more, ◌<◌, ◌≤◌, ◌∷◌, ◌∙◌, ℕ, List, [], arith, ap, refl, subst, sym, command_id, open_leases, Lent, passed_on, with_begun, shape_there, alone, alone_command, at_end, command_block, command_free, first_restored, freed_given, freed_later, in_rings, last_restored, opened_alone, opened_own, other, own_first, own_step, same_left}
use Rattle.leases.proofs.rings.freeing.note_moving.Goals as goal

pub returns-then-ring-commands : goal.returns-then-ring-commands
returns-then-ring-commands g c = on_more c.begin_block.result (λ begins. λ list h k ts a w x early held.
    let command = c.args.commands.now in
    let q = c.args.ring.now in
    let p = c.args.position in
    let ps = c.args.positions.now in
    let row = c.args.row in
    let lower : q.id < command.id = omega (arith, c.if-ring-commands.true) in
    let less : q.id < command_id h = subst (λ (n : ℕ). q.id < n) x.is_command lower in
    let us : List Lent = passed_on (open_leases h k) (open_leases h (alone h k ts command p q ps a w x)) row ts in
    let first = c.in_ok-note_restoring.ensures list h k ts x.headed x.found x.transfer (freed_given h k ts command p q ps a w x) x.positions x.opened held in
    subst (λ (vs : List Lent). g.B.LeaseLog.holds list h vs c.begin_block.new.self)
    (ap (λ b. with_begun row us (b ∷ [])) (command_block h k ts command p q ps a w x row early) ∙ first_restored h k ts command p q ps a w x row early less ∙ at_end h k ts command p q ps a w x row early)
    (begins list h us (shape_there h x.headed command (in_rings h k ts command p q ps a w x)) first
    (command_free h k ts command p q ps a w x row early (alone h k ts command p q ps a w x) us (opened_alone h k ts command p q ps a w x row early) (alone_command h k ts command p q ps a w x row early)))) c.begin_block.ensures

pub returns : goal.returns
returns g c = on_more c.note_restoring-2.result (λ restores. λ list h k ts a w x early held.
    let command = c.args.commands.now in
    let q = c.args.ring.now in
    let p = c.args.position in
    let ps = c.args.positions.now in
    let row = c.args.row in
    let upper : command.id ≤ q.id = omega (arith, c.if-ring-commands.false) in
    let differs = other h k ts command p q ps a w x in
    let least : command_id h ≤ q.id = subst (λ (n : ℕ). n ≤ q.id) x.is_command upper in
    let less : command_id h < q.id = omega (arith, least, differs) in
    let us : List Lent = passed_on (open_leases h k) (open_leases h (own_step h k ts command p q ps a w x)) row ts in
    let first =
    subst (λ (vs : List Lent). g.B.LeaseLog.holds list h vs c.begin_block-2.new.self)
    (ap (λ b. with_begun row ts (b ∷ [])) (command_block h k ts command p q ps a w x row early) ∙ own_first h k ts command p q ps a w x row early)
    (c.in_ok-begin_block.ensures list h ts (shape_there h x.headed command (in_rings h k ts command p q ps a w x)) held (command_free h k ts command p q ps a w x row early k ts x.opened refl)) in
    subst (λ (vs : List Lent). g.B.LeaseLog.holds list h vs c.note_restoring-2.new.book)
    (last_restored h k ts command p q ps a w x row early less ∙ at_end h k ts command p q ps a w x row early)
    (restores list h (own_step h k ts command p q ps a w x) us x.headed x.found x.transfer (freed_later h k ts command p q ps a w x) (x.positions ∙ sym (same_left h k ts command p q ps a w x))
    (opened_own h k ts command p q ps a w x row early) first)) c.note_restoring-2.ensures

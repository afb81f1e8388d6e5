use Rattle.leases.proofs.Laws.{◌≤◌, ◌∙◌, List, length, map, take, take_all, arith, ap, subst, sym, Block, Lent, with_begun, shape_there, Restoring, among, next_begun, next_free, begun_none, restored_lent}
use Rattle.leases.proofs.rings.freeing.note_restoring.Goals as goal

pub loop-position-init : goal.loop-position-init
loop-position-init g c = λ list h k ts x held. subst (λ (us : List Lent). g.B.LeaseLog.holds list h us c.args.book.now) (sym (begun_none c.args.row ts)) held

pub loop-position-preserved : goal.loop-position-preserved
loop-position-preserved g c = λ list h k ts x held.
    let q = c.args.ring.now in
    let ps = c.args.positions.now in
    let i = c.loop-position.position-index in
    let row = c.args.row in
    subst (λ (us : List Lent). g.B.LeaseLog.holds list h us c.begin_block.new.self) (next_begun h k ts q ps x row i c.loop-position-test.true)
    (c.in_ok-begin_block.ensures list h (with_begun row ts (map (Block q.id) (take i ps))) (shape_there h x.headed q (among h q x.found x.transfer)) (c.loop-position.invariant list h k ts x held)
    (next_free h k ts q ps x row i c.loop-position-test.true))

pub returns : goal.returns
returns g c = λ list h k ts headed found transfer freed_given positions opened held.
    let q = c.args.ring.now in
    let ps = c.args.positions.now in
    let row = c.args.row in
    let x : Restoring h k ts q ps = record { headed = headed; found = found; transfer = transfer; freed_given = freed_given; positions = positions; opened = opened } in
    let all : length ps ≤ c.loop-position.position-index = omega (arith, c.loop-position-test.false) in
    subst (λ (us : List Lent). g.B.LeaseLog.holds list h us c.loop-position.book)
    (ap (λ xs. with_begun row ts (map (Block q.id) xs)) (take_all c.loop-position.position-index ps all) ∙ sym (restored_lent h k ts q ps x row))
    (c.loop-position.invariant list h k ts x held)

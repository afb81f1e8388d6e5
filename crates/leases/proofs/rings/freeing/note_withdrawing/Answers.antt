use Rattle.leases.proofs.Laws.{◌≡◌, ◌≤◌, ◌∙◌, List, map, arith, ap, subst, sym, Lent, ended_where, shape_there, among, ends_none, ends_one, is_between, withdrawn_lent}
use Rattle.leases.proofs.rings.freeing.note_withdrawing.Goals as goal

pub loop-number-init : goal.loop-number-init
loop-number-init g c = λ list h ts shape held.
    subst (λ (us : List Lent). g.B.LeaseLog.holds list h us c.args.book.now) (sym (ends_none c.args.ring.now.id c.args.from c.args.row ts)) held

pub loop-number-preserved : goal.loop-number-preserved
loop-number-preserved g c = λ list h ts shape held.
    let r = c.args.ring.now.id in
    let n = c.loop-number.number in
    let least : c.args.from ≤ n = c.loop-number.auto.number in
    subst (λ (us : List Lent). g.B.LeaseLog.holds list h us c.end_block.new.self) (ends_one r c.args.from n c.args.row ts least)
    (c.end_block.ensures list h (map (ended_where (is_between r c.args.from n) c.args.row) ts) shape (c.loop-number.invariant list h ts shape held))

pub returns : goal.returns
returns g c = λ list h k ts position headed found transfer first last rises opened held.
    let q = c.args.ring.now in
    let most = c.loop-number.auto.number-end rises in
    let end : c.loop-number.number ≡ c.args.to = omega (arith, most, c.loop-number-test.false) in
    subst (λ (us : List Lent). g.B.LeaseLog.holds list h us c.loop-number.book)
    (ap (λ n. map (ended_where (is_between q.id c.args.from n) c.args.row) ts) end ∙ sym (withdrawn_lent h headed k q found transfer ts opened c.args.row position c.args.from c.args.to first last))
    (c.loop-number.invariant list h ts (shape_there h headed q (among h q found transfer)) held)

use Rattle.leases.proofs.Laws.{◌≡◌, ◌≤◌, ◌+◌, ◌∙◌, ◌||◌, ℕ, List, [], map, true, false, sym, ap, subst, arith, is_some, is_crossing, Block, Link, same_leased, LeaseBook, Lent, ended_where, is_passed, HoldsLents, IsFound, all_twice, ended_alike, over_alike, none_over, none_passed, passed_block, passed_crossing}
use Rattle.leases.proofs.book.lease_book.LeaseBookLeaseLog.end_passed.Goals.{then-is_some, else-is_some}
use Rattle.leases.proofs.book.lease_book.LeaseBookLeaseLog.end_passed.Goals as goal

pub loop-number-init : goal.loop-number-init
loop-number-init c = λ h ts shape known.
    subst (λ (us : List Lent). HoldsLents h us c.args.self.now)
    (sym (none_over (is_passed c.args.ring.now.id c.args.from c.args.from) c.args.row ts (λ l. none_passed c.args.ring.now.id c.args.from c.args.from l (omega arith)))) known

pub loop-number-preserved : goal.loop-number-preserved
loop-number-preserved c = λ h ts shape known.
    let r = c.args.ring.now.id in
    let n = c.loop-number.number in
    let row = c.args.row in
    let least : c.args.from ≤ n = c.loop-number.auto.number in
    let passed = is_passed r c.args.from n in
    let before = c.loop-number.invariant h ts shape known in
    let blocks : HoldsLents h (map (ended_where (λ l. passed l || same_leased (Block r n) l) row) ts) c.end_block.new.self =
    subst (λ (us : List Lent). HoldsLents h us c.end_block.new.self) (all_twice (same_leased (Block r n)) passed row ts) (c.end_block.ensures [] h (map (ended_where passed row) ts) shape before) in
    elim c.if-is_some.branch [
      | then-is_some w ↦
          let crossing : is_crossing c.args.ring.now.shape n ≡ true = ap is_some (sym c.crossing.ensures.value) ∙ sym c.is_some.ensures ∙ w.if-is_some.true in
          let ended = w.end_link.ensures h (map (ended_where (λ l. passed l || same_leased (Block r n) l) row) ts) shape blocks in
          subst (λ (b : LeaseBook). HoldsLents h (map (ended_where (is_passed r c.args.from (n + 1)) row) ts) b) (sym w.self-is)
          (subst (λ (us : List Lent). HoldsLents h us w.end_link.new.self)
          (all_twice (same_leased (Link r n)) (λ l. passed l || same_leased (Block r n) l) row ts
          ∙ over_alike (λ l. (passed l || same_leased (Block r n) l) || same_leased (Link r n) l) (is_passed r c.args.from (n + 1)) row ts (λ l. passed_crossing r c.args.from n l least)) ended)
      | else-is_some w ↦
          let none : is_crossing c.args.ring.now.shape n ≡ false = ap is_some (sym c.crossing.ensures.value) ∙ sym c.is_some.ensures ∙ w.if-is_some.false in
          subst (λ (b : LeaseBook). HoldsLents h (map (ended_where (is_passed r c.args.from (n + 1)) row) ts) b) (sym w.self-is)
          (subst (λ (us : List Lent). HoldsLents h us c.end_block.new.self)
          (ended_alike (IsFound h c.args.self.now.blocks c.args.self.now.links) (λ l. passed l || same_leased (Block r n) l) (is_passed r c.args.from (n + 1)) row 0 ts
          (λ j l found. passed_block h c.args.self.now.blocks c.args.self.now.links r c.args.from n j l least (ap (λ s. is_crossing s n) shape ∙ none) found) known.found) blocks)
    ]

pub returns : goal.returns
returns c = λ list h ts shape rises known.
    let most = c.loop-number.auto.number-end rises in
    let end : c.loop-number.number ≡ c.args.to = omega (arith, most, c.loop-number-test.false) in
    subst (λ (n : ℕ). HoldsLents h (map (ended_where (is_passed c.args.ring.now.id c.args.from n) c.args.row) ts) c.loop-number.self) end (c.loop-number.invariant h ts shape known)

use Rattle.controller_model.proofs.Laws.{◌≡◌, ◌≢◌, ◌∙◌, ℕ, true, false, ap, sym, Header, ring_with, with_ring, listed, may_come, with_coming, cond-true, cond-false, listed_alike, coming_lists}
use Rattle.controller_model.proofs.ring_rows.add_ring.Goals as goal

pub returns-then-not-may_come : goal.returns-then-not-may_come
returns-then-not-may_come c = λ rows words x f.
    let is : may_come x.live c.args.ring.now ≡ false = ap (λ h. may_come h c.args.ring.now) f.live ∙ sym c.may_come.ensures ∙ c.if-not-may_come.true in
    rw (cond-false (may_come x.live c.args.ring.now) (with_coming x c.args.ring.now) x is) f

pub returns : goal.returns
returns c = λ rows words x f.
    let r = c.args.ring.now in
    let is : may_come x.live r ≡ true = ap (λ h. may_come h r) f.live ∙ sym c.may_come.ensures ∙ c.if-not-may_come.false in
    let declared : c.list.new.header ≡ listed c.args.rings.now.declared r = c.in_ok-list.ensures in
    let live : c.add.new.header ≡ with_ring c.args.rings.now.live r = c.in_ok-add.ensures in
    let alike : (n : ℕ) → n ≢ r.id → ring_with c.list.new.header n ≡ ring_with c.args.rings.now.declared n = λ n apart.
    ap (λ (h : Header). ring_with h n) declared ∙ listed_alike c.args.rings.now.declared r n apart in
    rw (cond-true (may_come x.live r) (with_coming x r) x is)
    (record {
      header = ap (λ h. listed h r) f.header ∙ sym declared;
      live = ap (λ h. with_ring h r) f.live ∙ sym live;
      lists = λ n q found. ap (λ (h : Header). ring_with h n) declared ∙ coming_lists c.args.rings.now.declared c.args.rings.now.live r (ap (λ h. may_come h r) (sym f.live) ∙ is) f.lists n q (sym (ap (λ (h : Header). ring_with h n) live) ∙ found);
      left = f.left;
      follows = c.empty.ensures c.args.rings.now.declared c.list.new.header words x.world alike f.follows;
    })

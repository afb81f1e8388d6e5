use Rattle.controller_model.proofs.Laws.{◌∙◌, ap, sym, Header, ring_with, without_ring, without_lists}
use Rattle.controller_model.proofs.ring_rows.end_life.Goals as goal

pub returns : goal.returns
returns c = λ rows words k x f.
    record {
      header = f.header;
      live = ap (λ h. without_ring h c.args.id) f.live ∙ sym c.drop_ring.ensures;
      lists = λ r q found. f.lists r q (without_lists c.args.rings.now.live c.args.id r q (sym (ap (λ (h : Header). ring_with h r) c.drop_ring.ensures) ∙ found));
      left = f.left;
      follows = f.follows;
    }

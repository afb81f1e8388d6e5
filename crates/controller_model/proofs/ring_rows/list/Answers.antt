use Rattle.controller_model.proofs.Laws.{◌≡◌, ◌∷◌, ◌∙◌, ap, sym, Header, is_transfer_kind, with_ring, listed_first, listed_last}
use Rattle.controller_model.proofs.ring_rows.list.Goals as goal

pub returns-then-is_transfer_kind : goal.returns-then-is_transfer_kind
returns-then-is_transfer_kind c =
    let r = c.args.ring.now in
    c.in_ok-add.ensures ∙ ap (λ f. with_ring f r) c.drop_ring.ensures
    ∙ sym (listed_last c.args.header.now r (ap is_transfer_kind (sym c.kind.ensures) ∙ sym c.is_transfer_kind.ensures ∙ c.if-is_transfer_kind.true))

pub returns : goal.returns
returns c =
    let r = c.args.ring.now in
    let g = c.drop_ring.new.header in
    let same : c.push_first.new.self ≡ r ∷ g.rings = c.in_ok-push_first.ensures.ok ∙ ap (λ q. q ∷ g.rings) c.in_ok-copy.ensures in
    let one : ◌≡◌ {A = Header} (record g { rings = c.push_first.new.self }) (record g { rings = r ∷ g.rings }) = (λ i. record g { rings = same i }) in
    let P : Header → Header = λ f. record f { rings = r ∷ f.rings } in
    one ∙ ap P c.drop_ring.ensures
    ∙ sym (listed_first c.args.header.now r (ap is_transfer_kind (sym c.kind.ensures) ∙ sym c.is_transfer_kind.ensures ∙ c.if-is_transfer_kind.false))

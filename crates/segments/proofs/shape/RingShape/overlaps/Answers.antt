use Rattle.segments.proofs.UpperLaws.{min, IsLastOf, IsLastStart, ◌≡◌, ◌+◌, ◌-◌, ◌*◌, ◌^◌, ◌∙◌, arith, ap, sym, subst, false, get_or_read, Shape, overlap, touches, segment_at, nothing_touched, touched_last}
use Rattle.segments.proofs.shape.RingShape.overlaps.Goals as goal

pub returns-in_default : goal.returns-in_default
returns-in_default c =
    let shape : Shape = record { kind = c.self.inside.kind; segments = c.self.inside.segments.items; offset = c.self.inside.offset } in
    let end : c.saturating_add-last.result ≡ min (c.args.at + (c.args.len - 1)) (2 ^ 64 - 1) = rw c.saturating_sub.ensures at c.saturating_add-last.ensures in
    let above = subst (λ o. IsLastStart c.self.inside.segments.items c.saturating_add-last.result o) c.in_default.is (c.last_start.ensures c.self.inside.kind c.self.inside.segments.items c.self.invariant.found) in
    let nothing = nothing_touched shape c.self.invariant.allowed c.args.at c.args.len c.saturating_add-last.result (omega (arith, c.if-len-eq0.false)) end above in
    sym (subst (λ s. touches s c.args.at c.args.len ≡ false) c.self.view_is nothing)

pub index-requires : goal.index-requires
index-requires c =
    let of : IsLastOf c.self.inside.segments.items c.saturating_add-last.result c.in-Some.number = subst (λ o. IsLastStart c.self.inside.segments.items c.saturating_add-last.result o) c.in-Some.is (c.last_start.ensures c.self.inside.kind c.self.inside.segments.items c.self.invariant.found) in
    omega (arith, of.number, c.self.inside.segments.ok.0)

pub returns : goal.returns
returns c =
    let shape : Shape = record { kind = c.self.inside.kind; segments = c.self.inside.segments.items; offset = c.self.inside.offset } in
    let end : c.saturating_add-last.result ≡ min (c.args.at + (c.args.len - 1)) (2 ^ 64 - 1) = rw c.saturating_sub.ensures at c.saturating_add-last.ensures in
    let of : IsLastOf c.self.inside.segments.items c.saturating_add-last.result c.in-Some.number = subst (λ o. IsLastStart c.self.inside.segments.items c.saturating_add-last.result o) c.in-Some.is (c.last_start.ensures c.self.inside.kind c.self.inside.segments.items c.self.invariant.found) in
    let here : c.index.result.now ≡ segment_at c.self.inside.segments.items c.in-Some.number = get_or_read c.self.inside.segments.items _ _ of.number c.index.ensures (record { base = 0; count = 0 }) in
    let touched = touched_last shape c.self.invariant.allowed c.args.at c.args.len c.saturating_add-last.result (omega (arith, c.if-len-eq0.false)) end c.in-Some.number of in
    c.touches.ensures ∙ ap (λ s. overlap c.args.at c.args.len s.base (16 * s.count)) here ∙ touched ∙ ap (λ s. touches s c.args.at c.args.len) c.self.view_is

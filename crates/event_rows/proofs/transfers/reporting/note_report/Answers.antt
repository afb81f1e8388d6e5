use Rattle.event_rows.proofs.Words.{refl, sym, ◌∙◌, subst, arith, get_or_from_slice_get, slice_get_within, RingRecord, FollowsRing}
use Rattle.event_rows.proofs.transfers.reporting.note_report.Goals as goal

pub returns-in-Some : goal.returns-in-Some
returns-in-Some c = λ known v at f may.
    let now = c.in-Some.known.now in
    let same = c.in-Some.ensures.value ∙ get_or_from_slice_get c.args.records.now.items c.args.ring known now at in
    record {
      known = c.note_on_ring.new.known;
      items = refl;
      follows = c.note_on_ring.ensures v (subst (λ (r : RingRecord). FollowsRing c.args.shape.now v r) (sym same) f) may;
    }

pub returns-in_default : goal.returns-in_default
returns-in_default c = λ known v at f may.
    let below = slice_get_within c.args.records.now.items c.args.ring known at in
    let past = c.in_default.ensures.item.3 in
    absurd (omega (arith, below, past))

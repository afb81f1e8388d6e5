use Rattle.controller_model.proofs.Laws.{◌+◌, ◌*◌, ℕ, sym, refl, ap, HeaderValue, opening, FollowsRing, ring_held, all_at, replicate_at}
use Rattle.controller_model.proofs.opening.opening.Goals as goal

pub returns : goal.returns
unfolding opening
returns c = λ h words nothing. record {
  progress = record { steps = refl; started = refl; stopped = refl; halting = refl; halted = refl };
  registers = record { dcbaap = refl; config = refl };
  held = (λ i. record {
    memory = λ a. sym (nothing a) i;
    changed = λ a. sym (c.new.ensures.changed a) i;
    written = λ a. sym (c.new.ensures.written a) i;
  });
  beyond = λ a far. nothing a;
  rings = record {
    each = λ r x at.
        all_at (λ y. (h' : HeaderValue) (r' : ℕ) → FollowsRing h' r' (ring_held opening r') y) c.in_ok-rings.field-0.items r x
        c.in_ok-rings.ensures.each at h r;
  };
  slots = record {
    each = λ s x at.
        let e = replicate_at 256 s _ x (rw c.in_ok-slots.ensures at at) in
        (ap (λ y. y.state) e, ap (λ y. y.scribbles) e);
  };
  endpoints = record {
    each = λ s i x low at.
        let e = replicate_at (256 * 32) (s * 32 + i) _ x (rw c.in_ok-endpoints.ensures at at) in
        (ap (λ y. y.state) e, ap (λ y. y.ring) e, ap (λ y. y.is_isochronous) e);
    no_more = λ s i far. refl;
    low = λ s i r e. absurd (cc);
  };
  events = record { posted = refl; reads = refl; dequeue = refl };
  under_way = refl;
  looked = refl;
  nowhere = refl;
}

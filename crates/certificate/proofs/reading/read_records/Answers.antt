use Rattle.certificate.proofs.Laws.{[], ◌++◌, ◌+◌, ◌*◌, ◌∙◌, ◌≡◌, arith, length, length-append, length-take-le, refl, take, Consumes-nil, Consumes-trans, seen_on, whole_seen, AreUnread, Bytes, Ok, leases_in, records_of}
use Rattle.certificate.proofs.reading.read_records.Goals as goal

pub loop-pieces-init : goal.loop-pieces-init
unfolding leases_in
loop-pieces-init g c = ([], Consumes-nil _, refl, c.new-records.ensures, refl)

pub loop-pieces-preserved : goal.loop-pieces-preserved
loop-pieces-preserved g c =
    let read = c.loop-pieces.invariant.0 in
    let more = take c.in_ok-count.count c.fill.new.buffer in
    let long = c.loop-pieces.invariant.4 in
    let fits = c.in_ok-count.ensures.bound in
    let room : length c.fill.new.buffer ≡ 4080 = c.fill.auto.buffer ∙ long in
    let taken = length-take-le c.in_ok-count.count c.fill.new.buffer fits in
    let size : length more ≡ 4080 = omega (arith, taken, room, fits, c.if-count-lt-PIECE.false) in
    let both = length-append read more in
    let whole : length (read ++ more) ≡ 4080 * (c.loop-pieces.pieces + 1) = omega (arith, both, size, c.loop-pieces.invariant.2) in (
      read ++ more,
      Consumes-trans _ _ _ _ _ c.loop-pieces.invariant.1 c.in_ok-count.ensures.bytes,
      whole,
      seen_on c.take.new.self read more c.loop-pieces.pieces (170 * (c.loop-pieces.pieces + 1)) c.loop-pieces.invariant.2 (omega (arith, whole))
          (c.in_ok-take.ensures _ c.loop-pieces.invariant.3),
      room,
    )

pub returns-in-Ok-clause-leases : goal.returns-in-Ok-clause-leases
returns-in-Ok-clause-leases g c =
    let room : length c.fill.new.buffer ≡ 4080 = c.fill.auto.buffer ∙ c.loop-pieces.invariant.4 in
    whole_seen c.take.new.self _ _ _ c.loop-pieces.invariant.0 c.fill.new.buffer c.loop-pieces.pieces c.in_ok-count.count (λ records. records_of records ≡ Ok c.in-Ok.leases.items)
    c.in_ok-count.ensures.bound c.loop-pieces.invariant.2 c.loop-pieces.invariant.1 c.in_ok-count.ensures.bytes (c.in_ok-count.ensures.end (omega (arith, room, c.if-count-lt-PIECE.true)))
    (c.in_ok-take.ensures _ c.loop-pieces.invariant.3) c.in-Ok.ensures.leases

pub returns-in-Err-clause-unread : goal.returns-in-Err-clause-unread
returns-in-Err-clause-unread g c =
    let room : length c.fill.new.buffer ≡ 4080 = c.fill.auto.buffer ∙ c.loop-pieces.invariant.4 in
    whole_seen c.take.new.self _ _ _ c.loop-pieces.invariant.0 c.fill.new.buffer c.loop-pieces.pieces c.in_ok-count.count (λ records. AreUnread records (Bytes c.in-Err.why))
    c.in_ok-count.ensures.bound c.loop-pieces.invariant.2 c.loop-pieces.invariant.1 c.in_ok-count.ensures.bytes (c.in_ok-count.ensures.end (omega (arith, room, c.if-count-lt-PIECE.true)))
    (c.in_ok-take.ensures _ c.loop-pieces.invariant.3) c.in-Err.ensures.fault

use Rattle.driver_rows.proofs.Words.{◌∙◌, ap, sym, refl, is_bad_segment, shows_first_lap}
use Rattle.driver_rows.proofs.rings.new_rings.is_bad_segment.Goals as goal

pub returns-then-touches-clause-rule : goal.returns-then-touches-clause-rule
unfolding is_bad_segment
returns-then-touches-clause-rule g c = λ k f. rw (← c.from-bytes.ensures, ← c.touches.ensures c.args.header.now c.requires.headed c.requires.found, c.if-touches.true) refl

pub returns-then-is_in_range_lease-clause-rule : goal.returns-then-is_in_range_lease-clause-rule
unfolding is_bad_segment
returns-then-is_in_range_lease-clause-rule g c = λ k f.
    rw (← c.from-bytes.ensures, ← c.touches.ensures c.args.header.now c.requires.headed c.requires.found, c.if-touches.false, ← c.is_in_range_lease.ensures k _ f, c.if-is_in_range_lease.true) refl

pub returns-then-is_soiled-clause-rule : goal.returns-then-is_soiled-clause-rule
unfolding is_bad_segment
returns-then-is_soiled-clause-rule g c = λ k f.
    rw (
      ← c.from-bytes.ensures,
      ← c.touches.ensures c.args.header.now c.requires.headed c.requires.found,
      c.if-touches.false,
      ← c.is_in_range_lease.ensures k _ f,
      c.if-is_in_range_lease.false,
      ← c.is_soiled.ensures c.args.header.now k _ f,
      c.if-is_soiled.true,
    ) refl

pub returns-else-is_soiled-clause-rule : goal.returns-else-is_soiled-clause-rule
unfolding is_bad_segment
returns-else-is_soiled-clause-rule g c = λ k f.
    rw (
      ← c.from-bytes.ensures,
      ← c.touches.ensures c.args.header.now c.requires.headed c.requires.found,
      c.if-touches.false,
      ← c.is_in_range_lease.ensures k _ f,
      c.if-is_in_range_lease.false,
      ← c.is_soiled.ensures c.args.header.now k _ f,
      c.if-is_soiled.false,
    )
    (c.shows_first_lap.ensures k f.words ∙ ap (λ n. shows_first_lap k (record { base = c.args.segment.base; count = n })) (sym c.from-bytes.ensures))

use Rattle.certificate.proofs.Laws.{◌∙◌, ap, arith, length, length_behind}
use Rattle.certificate.proofs.writing.write_records.Goals as goal

pub write_all-requires : goal.write_all-requires
write_all-requires g c =
    let size = ap length (c.as_slice.ensures.value ∙ c.records_behind-bytes.ensures) ∙ length_behind c.args.front.now c.args.leases.now in
    omega (arith, size, c.requires.fits)

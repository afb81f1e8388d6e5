use Rattle.certificate.proofs.Words.{◌≡◌, true, false, Result, Ok, Err, IsOk, OnOk}
use Rattle.certificate.proofs.writing.push.Goals as goal

-- what holds of a success holds where there is one
held : {T E : Type 0} {P : Type 0} (r : Result T E) → OnOk r P → IsOk r → P
held (Ok x) p ok = p
held (Err e) p ok = absurd (never ok)
  where
    never : false ≡ true → ⊥
    never h = cc

pub returns-clause-items : goal.returns-clause-items
returns-clause-items c = held c.try_extend_from_slice-fits.result c.try_extend_from_slice-fits.ensures.ok (c.try_extend_from_slice-fits.ensures.variant.1 c.requires)

pub returns-clause-size : goal.returns-clause-size
returns-clause-size c = held c.try_extend_from_slice-fits.result c.try_extend_from_slice-fits.ensures.len (c.try_extend_from_slice-fits.ensures.variant.1 c.requires)

-- What a pass over the rows of a trace says of a list of leases
use Rattle.verifier.proofs.Words.{◌∙◌, ◌≡◌, ◌≢◌, ℕ, Bool, true, false, List, Some, refl, subst, map, reverse, Header, TraceText, Lease, Refusal, Lent, lease_of, CertificateLog, FollowsCertificate, header_now, lents, Passed, Whole, Refused, IsVerified, IfRefusedRow, IfWhole, IsWholeLog, leases_lent, sound_so, trace_verdict}

-- what a pass has answered
pub is_whole : {B : Type 0} (P : B → Type 0) (passed : Passed B) (log : B) → passed ≡ Whole log → IfWhole passed P → P log
is_whole P passed log is so = subst (λ p. IfWhole p P) is so

pub is_refused : {B : Type 0} (P : ℕ → Refusal → Type 0) (passed : Passed B) (row : ℕ) (c : Refusal) → passed ≡ Refused row c → IfRefusedRow passed P → P row c
is_refused P passed row c is so = subst (λ p. IfRefusedRow p P) is so

module _ (trace : TraceText) (leases : List Lease) where
  -- where no row was refused, yes exactly where the list that was followed is whole
  pub verified : (log : CertificateLog) (whole : Bool) →
      ((list : List Lease) (h : Header) (ts : List Lent) → FollowsCertificate list h ts log → whole ≡ true → list ≡ map lease_of ts) →
      ((list : List Lease) (h : Header) (ts : List Lent) → FollowsCertificate list h ts log → whole ≡ false → list ≢ map lease_of ts) →
      IsWholeLog (FollowsCertificate leases) trace log → IsVerified trace leases whole
  verified log true listed unlisted w =
      let past = reverse trace.rows in
      sound_so (FollowsCertificate leases) trace log w leases (listed leases (header_now trace.header past) (lents trace.header trace.first past) w.kept refl)
  verified log false listed unlisted w = λ is.
      let past = reverse trace.rows in
      unlisted leases (header_now trace.header past) (lents trace.header trace.first past) w.kept refl (is.certified ∙ leases_lent trace.header trace.first trace.rows w.room)

  -- where one was, no
  pub unverified : (row : ℕ) (c : Refusal) → trace_verdict trace.header trace.first trace.rows ≡ Some (row, c) → IsVerified trace leases false
  unverified row c refused = λ is. let verdict = is.verdict in cc

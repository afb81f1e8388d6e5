-- The words of std, of the crates below and of this crate's own definitions that its proofs cite, passed on by one file
pub use Rattle.leases.specs.CertificateLogs.Logs.{FollowsCertificate}
pub use Rattle.leases.specs.LeaseBooks.Lents.{Lent}
unfoldable pub use Rattle.leases.specs.LeaseBooks.Lents.{lease_of, lents}
pub use Rattle.leases.specs.declared.log.certificate_log.CertificateLog.{CertificateLog}
pub use Rattle.ownership_checker.proofs.Streams.{kept_whole, leases_lent, opened_bad, sound_so}
pub use Rattle.ownership_checker.specs.RingPasses.Accepted.{IsVerified}
pub use Rattle.ownership_checker.specs.RingPasses.Reading.{IfRefusedRow, IfWhole, IsWholeLog}
pub use Rattle.ownership_rules.specs.Rules.{trace_verdict}
pub use Rattle.ownership_checker.specs.declared.pass.reading.Passed.{Passed}
pub use Rattle.ownership_checker.specs.declared.pass.reading.Passed.TheVariants.{Refused, Whole}
pub use Rattle.ownership_rules.specs.declared.refusal.Refusal.{Refusal}
pub use Rattle.ring_knowledge.specs.declared.lease.Lease.{Lease}
pub use Rattle.ring_knowledge.specs.Histories.{header_now}
pub use Rattle.std.proofs.Common.{Bool, List, Some, false, map, refl, rules, subst, true, ℕ, ◌∙◌, ◌≡◌, ◌≢◌}
pub use Rattle.std.proofs.lemmas.Result.{err_from_is_err_and}
pub use Rattle.std.specs.Prelude.{reverse}
pub use Rattle.traces.specs.declared.header.Header.{Header}
pub use Rattle.trace_reader.specs.TraceOfText.{TraceText}

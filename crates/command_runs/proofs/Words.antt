-- The words of std, of the crates below and of this crate's own definitions that its proofs cite, passed on by one file
pub use Rattle.answers.proofs.Held.{opened_holds}
pub use Rattle.answers.proofs.Told.{failure, told_right}
pub use Rattle.answers.proofs.Writing.{begun}
pub use Rattle.answers.specs.Answers.{answer_of_cert_fault, answer_of_fault, answer_of_stream_fault}
pub use Rattle.answers.specs.Inputs.{opened}
pub use Rattle.answers.specs.Keeping.{IsKept, IsKeptInPart, kept_bytes}
pub use Rattle.answers.specs.declared.answer.Answer.{Answer}
pub use Rattle.answers.specs.declared.answer.Answer.TheVariants.{Accepted, BadLine, Memory, Replayed, Verified}
pub use Rattle.answers.specs.declared.answer.FoundHarm.{FoundHarm}
pub use Rattle.certificate.specs.Pieces.{fault_of}
pub use Rattle.certificate.specs.Spelling.{spelling}
pub use Rattle.certificate.specs.declared.fault.CertFault.TheVariants.{Field, Length, Magic, Memory as NoLeaseMemory}
pub use Rattle.certificate.specs.declared.no_certificate.NoCertificate.{NoCertificate}
pub use Rattle.certificate.specs.declared.no_certificate.NoCertificate.TheVariants.{Field as OtherField, Length as OtherLength, Magic as OtherMagic}
pub use Rattle.certificate.specs.declared.no_certificate.Unread.TheVariants.{Bytes}
pub use Rattle.command_runs.specs.CheckAnswers.{IsCheckAnswer, IsHindered, IsVerdictAlone, answer_of_check_fault}
pub use Rattle.command_runs.specs.FollowAnswers.{IsFollowAnswer, IsToldOfBytes}
pub use Rattle.command_runs.specs.HarmAnswers.{IsHarmFound}
pub use Rattle.command_runs.specs.PlanAnswers.{IsPlanAnswer}
pub use Rattle.command_runs.specs.ReplayAnswers.{IsReplayBeside, IsReplayed}
pub use Rattle.command_runs.specs.ScheduleAnswers.{IsScheduleAnswer, IsScheduled}
pub use Rattle.command_runs.specs.ShowAnswers.{IsPageAnswer, IsShowAnswer}
pub use Rattle.command_runs.specs.TraceTexts.{IsFirstBad, IsTextOf, IsTraceAnswer, IsUnread}
pub use Rattle.command_runs.specs.VerifyAnswers.{IsNoCertificate, IsUncertified, IsVerdictBeside, IsVerified}
pub use Rattle.command_runs.specs.VersionNotes.{in_version, is_behind}
unfoldable pub use Rattle.command_runs.specs.VersionNotes.{breaks_no_rule_of}
pub use Rattle.ownership_checker.specs.Following.{IsToldBad, IsToldSoFar, ToldSoFar, told_as_it_comes}
pub use Rattle.ownership_checker.specs.RingPasses.Accepted.{IsSound}
pub use Rattle.ownership_checker.specs.RingPasses.Reading.{OfTrace}
pub use Rattle.ownership_checker.specs.Streams.{IfBadLineIn, IfRefusedIn}
pub use Rattle.ownership_checker.specs.declared.fault.StreamCheckFault.{StreamCheckFault}
pub use Rattle.ownership_checker.specs.declared.fault.StreamCheckFault.TheVariants.{Refused as RefusedRow, Unread}
pub use Rattle.ownership_rules.specs.Rules.{trace_verdict}
pub use Rattle.ownership_rules.specs.declared.refusal.Refusal.{Refusal}
pub use Rattle.ring_knowledge.specs.declared.lease.Lease.{Lease}
pub use Rattle.std.proofs.Common.{Bool, Err, List, None, Ok, Option, Result, Some, ap, arith, false, inl, inr, length, nat_lt, not, refl, subst, sym, true, ℕ, ◌∙◌, ◌≡◌, ◌≢◌}
pub use Rattle.std.specs.Io.KnownBytes.{Consumes}
pub use Rattle.std.specs.Prelude.{IfErr, IfOk, IfSome, is_some}
pub use Rattle.trace_reader.proofs.Streaming.Streams.{known_text}
pub use Rattle.trace_reader.specs.Entries.{text_of}
pub use Rattle.trace_reader.specs.Reading.{trace_of}
pub use Rattle.trace_reader.specs.Schedules.{schedule_of}
pub use Rattle.trace_reader.specs.Streaming.Streams.{IfBadLine, IsBadLine, OfStream}
pub use Rattle.trace_reader.specs.TraceOfText.{TraceText}
pub use Rattle.trace_reader.specs.declared.fault.LineFault.{LineFault}
pub use Rattle.trace_reader.specs.declared.fault.ReadFault.{ReadFault}
pub use Rattle.trace_reader.specs.declared.fault.ReadFault.TheVariants.{Memory as OutOfMemory}
pub use Rattle.trace_reader.specs.declared.row_reader.fault.StreamFault.{StreamFault}
pub use Rattle.trace_reader.specs.declared.row_reader.fault.StreamFault.TheVariants.{Device as NoDevice, Line, Memory as NoMemory}
pub use Rattle.traces.specs.AllowedHeaders.{IsHeader}
pub use Rattle.traces.specs.declared.header.Header.{Header}
pub use Rattle.traces.specs.declared.schedule.Schedule.{Schedule}
pub use Rattle.traces.specs.declared.version.Version.{Version}

-- What the answers cite: the words, and this crate's lemmas
pub use Rattle.command_runs.proofs.Certified.{uncertified_right}
pub use Rattle.command_runs.proofs.HeldAnswers.{answer_held, check_held, hindered, hindered_held, plan_held, text_held, unread_held}
pub use Rattle.command_runs.proofs.Replayed.{beside_held, beside_right}
pub use Rattle.command_runs.proofs.Streamed.{alone_right, counted_right, cut_right, followed_right, harm_found, kept_right, unaccepted_right, unkept_right, unread_right, verified_right}
pub use Rattle.command_runs.proofs.VersionNotes.{accepted_by, refused_by}
pub use Rattle.command_runs.proofs.Words.{Answer, IsCheckAnswer, IsFollowAnswer, IsPageAnswer, IsPlanAnswer, IsReplayBeside, IsScheduleAnswer, IsScheduled, IsShowAnswer, IsTraceAnswer, IsUncertified, IsUnread, IsVerdictAlone, answer_of_cert_fault, ap, failure, false, inl, inr, is_some, length, not, opened, opened_holds, refl, subst, sym, text_of, told_right, true, ◌∙◌, ◌≡◌}

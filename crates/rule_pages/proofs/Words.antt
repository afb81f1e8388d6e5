-- The words of std, of the crates below and of this crate's own definitions that its proofs cite, passed on by one file
pub use Rattle.certificate.specs.declared.fault.CertFault.TheVariants.{Field as CertField, Length as CertLength, Magic as CertMagic, Memory as CertMemory}
pub use Rattle.ownership_rules.specs.declared.refusal.Refusal.TheVariants.{AfterStop, BadCommand, BadDescriptor, BadDoorbell, BadErdp, BadFree, BadMove, BadRegister, BadRing, BadWithdraw, Busy, ImpossibleEvent, ImpossibleRead, LinkFault, NotAsSubmitted, NotDeclared, NotInProfile, NotRestored, NotWhole, RingFull, WriteToOwned}
pub use Rattle.plan_writer.specs.declared.fault.PlanRefusal.TheVariants.{BadDescriptor as PlanBadDescriptor, NotDeclared as PlanNotDeclared, NotGiven as PlanNotGiven, NotInProfile as PlanNotInProfile, RingFull as PlanRingFull}
pub use Rattle.rule_pages.specs.Naming.{IsCalled}
pub use Rattle.rule_pages.specs.declared.subject.Subject.{Subject}
pub use Rattle.rule_pages.specs.declared.subject.Subject.TheVariants.{Certificate as OfCertificate, Device as OfDevice, Harm as OfHarm, Line as OfLine, Plan as OfPlan, Rule as OfRule}
pub use Rattle.std.proofs.Common.{Bool, List, [], arith, below_more, false, get_or, length, slice_get, subst, sym, true, ℕ, ◌<◌, ◌∙◌, ◌∷◌, ◌≡◌}
pub use Rattle.std.proofs.lemmas.Option.{slice_get-get_or}
pub use Rattle.std.specs.Prelude.{IfSome, IsTrue}
pub use Rattle.trace_reader.specs.declared.fault.LineFault.TheVariants.{Header as LineHeader, Limit as LineLimit, Number as LineNumber, Row as LineRow, Shape as LineShape}
pub use Rattle.world_state.specs.declared.harm.Harm.TheVariants.{InputContextChanged, LooksOutside, PostsOverUnread, TakenOtherWords, TakenOutOfOrder, WaitsInsideDescriptor}

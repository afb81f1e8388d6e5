-- The words of std, of the crates below and of this crate's own definitions that its proofs cite, passed on by one file
pub use Rattle.knowledge_page.specs.Shown.{IfNoRow, IsLast, IsNoRow, IsRange, verdict_on}
pub use Rattle.knowledge_page.specs.declared.shown.ShowFault.{ShowFault}
pub use Rattle.leases.specs.LeaseBooks.Lents.{lents}
pub use Rattle.ownership_checker.proofs.Streams.{leases_lent}
pub use Rattle.ownership_rules.specs.Rules.{row_broken, trace_verdict}
unfoldable pub use Rattle.ownership_rules.specs.Rules.{first_or, verdict_from}
pub use Rattle.ownership_rules.specs.declared.refusal.Refusal.{Refusal}
pub use Rattle.ring_knowledge.specs.Histories.{header_now, known_after}
pub use Rattle.ring_knowledge.specs.Known.{Known, nothing}
pub use Rattle.std.proofs.Common.{List, None, Option, Some, [], ap, arith, inl, inr, length, refl, subst, suc, sym, zero, ℕ, ◌+◌, ◌-◌, ◌<◌, ◌∙◌, ◌∷◌, ◌≡◌, ◌≤◌, ◌⊎◌}
pub use Rattle.std.proofs.lemmas.Grind.{common_steps}
pub use Rattle.std.proofs.lemmas.List.Elements.{All-take, All-weaker}
pub use Rattle.std.proofs.lemmas.Option.{same_Some}
pub use Rattle.std.proofs.lemmas.Result.{err_from_is_err_and}
pub use Rattle.std.specs.Prelude.{All, reverse, take}
pub use Rattle.trace_reader.specs.Entries.{text_of}
pub use Rattle.trace_reader.specs.TraceOfText.{TraceText}
pub use Rattle.traces.specs.AllowedHeaders.{IsHeader}
pub use Rattle.traces.specs.LivingRings.{header_after}
pub use Rattle.traces.specs.TraceRows.{AreRowsOf, IsRowOf, IsTraceRow}
pub use Rattle.traces.specs.declared.header.Header.{Header}
pub use Rattle.traces.specs.declared.row.Row.{Row}
pub use Rattle.traces.specs.declared.version.Version.{Version}

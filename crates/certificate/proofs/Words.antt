-- The words of std, of the crates below and of this crate's own definitions that its proofs cite, passed on by one file
pub use Rattle.byteorder.specs.Endian.{little_bytes, little_number}
pub use Rattle.certificate.specs.Sinks.{IsCutBehind, IsCutOff, done_of}
pub use Rattle.certificate.specs.Spelling.{FitsLease, has_lease_fields, magic, spelling}
pub use Rattle.certificate.specs.Pieces.{AreSeen, AreUnread, IsShown, IsShownBehind, IsUnread}
unfoldable pub use Rattle.certificate.specs.Pieces.{first_bad}
unfoldable pub use Rattle.certificate.specs.Spelling.{certificate_of, lease_bytes, lease_in, leases_in, records_of}
pub use Rattle.certificate.specs.declared.no_certificate.BadLease.{BadLease}
pub use Rattle.certificate.specs.declared.no_certificate.NoCertificate.{NoCertificate}
pub use Rattle.certificate.specs.declared.no_certificate.NoCertificate.TheVariants.{Magic as OtherMagic, Length as OtherLength, Field as OtherField}
pub use Rattle.certificate.specs.declared.no_certificate.Unread.{Unread}
pub use Rattle.certificate.specs.declared.no_certificate.Unread.TheVariants.{Bytes, Failed}
pub use Rattle.certificate.specs.declared.records_so_far.Records.{Records}
pub use Rattle.certificate.specs.declared.fault.CertFault.{CertFault}
pub use Rattle.certificate.specs.declared.fault.CertFault.TheVariants.{Field, Length, Magic}
pub use Rattle.certificate.specs.declared.fault.EncodeFault.{EncodeFault}
pub use Rattle.ring_knowledge.specs.declared.lease.Lease.{Lease}
pub use Rattle.std.proofs.Common.{All, Bool, Err, IfErr, IfOk, IfSome, IsOk, List, None, Ok, OnOk, Option, Result, Some, [], add-one, add-zero, ap, append-nil, append_assoc, arith, cond, drop, drop-drop, eq-eqb, false, get_or, get_or-drop, get_or-take, inl, inr, is_some, length, length-append, length-drop, length-take-le, le_refl, refl, rules, subst, suc, sym, take, true, zero, zero-add, ℕ, ◌%◌, ◌*◌, ◌++◌, ◌+◌, ◌-◌, ◌/◌, ◌<◌, ◌==◌, ◌∙◌, ◌∷◌, ◌≡◌, ◌≤◌}
pub use Rattle.std.proofs.Math.Seq.{take-add}
pub use Rattle.std.proofs.lemmas.Bool.{and_from, cases_Bool, cases_lt}
pub use Rattle.std.proofs.lemmas.Bool.Decides.{nat_tests}
pub use Rattle.std.proofs.lemmas.List.{drop-append-le, drop-take, get_or_past, take-append-drop, take-append-le, take-take, take_all, take_rest}
pub use Rattle.std.proofs.lemmas.List.Concat.{flat_map-append}
pub use Rattle.std.proofs.lemmas.List.Elements.{All-head, All-tail}
pub use Rattle.std.proofs.lemmas.Nat.{le_bytes_4, le_bytes_8}
pub use Rattle.std.proofs.lemmas.Result.{err_from_is_err_and}
pub use Rattle.std.proofs.lemmas.Slice.Eq.{bytes_eq-Decides}
pub use Rattle.std.specs.Io.KnownBytes.{Appends, Consumes, IsAtEnd, Keeps}
pub use Rattle.std.specs.List.{flat_map, list_all}
pub use Rattle.std.specs.Str.{bytes_eq}

-- What the answers cite: the words, and this crate's lemmas
pub use Rattle.certificate.proofs.Appending.{appends_nothing, cut_off, joined, length_behind, more, parted, rest_of}
pub use Rattle.certificate.proofs.Filling.{filled_front, kept_front, leases_behind, other_magic, seen_on, unread_behind, whole_seen}
pub use Rattle.certificate.proofs.Pieces.{bad_seen, bad_stays, cut_short, good_seen, kept_bad, kept_whole, leases_in-append}
pub use Rattle.certificate.proofs.Records.{leases_in-push}
pub use Rattle.certificate.proofs.RoundTrip.{reread, respelled_if_read}
pub use Rattle.std.proofs.KnownBytes.{Consumes-kept, Consumes-nil, Consumes-trans}
pub use Rattle.certificate.proofs.Words.{Appends, AreSeen, AreUnread, Bytes, Consumes, List, [], ap, append-nil, append_assoc, arith, drop, err_from_is_err_and, flat_map, length, length-append, length-drop, length-take-le, magic, refl, rules, spelling, subst, sym, take, take_rest, Ok, ℕ, ◌*◌, ◌++◌, ◌+◌, ◌/◌, ◌∙◌, ◌≡◌, ◌≤◌}
unfoldable pub use Rattle.certificate.proofs.Words.{certificate_of, first_bad, lease_bytes, leases_in, records_of}

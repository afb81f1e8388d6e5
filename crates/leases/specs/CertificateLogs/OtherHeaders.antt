-- Of a header with other rings the log of a certificate holds the same, where the ring of each lease that isn't over has the same shape
use Rattle.std.specs.Prelude.{◌≡◌, ◌+◌, ◌==◌, ◌&&◌, ◌∷◌, ℕ, zero, suc, Bool, true, false, List, []}
use Rattle.std.specs.List.{list_any}
use Rattle.std.proofs.Common.{subst, sym, ap, refl}
use Rattle.std.proofs.lemmas.Bool.{or_from, or_parts}
use Rattle.segments.specs.Givings.{link_of}
use Rattle.segments.specs.Places.{is_crossing, place_of}
use Rattle.traces.specs.declared.header.Header.{Header}
use Rattle.ring_knowledge.specs.declared.lease.Lease.{Lease}
use Rattle.ownership_rules.specs.OpenLeases.{Leased, Block, Link, Range}
use Rattle.leases.specs.LeaseBooks.Books.{AllUnended}
use Rattle.leases.specs.LeaseBooks.Lents.{Lent, is_unended}
use Rattle.leases.specs.LeaseBooks.OtherShapes.{AreShapedAlike, IsShapedAlike, both_told}
use Rattle.leases.specs.declared.log.certificate_log.CertificateLog.{CertificateLog}
use Rattle.leases.specs.CertificateLogs.Following.{KnowsOpen}
use Rattle.leases.specs.CertificateLogs.Logs.{FollowsCertificate}
use Rattle.leases.specs.CertificateLogs.OpenPlaces.{BlockPlace, IsCrossed, IsOnly, IsOnlyAt, LinkPlace, RingPlace, has_place, is_open_of}

module _ (h g : Header) where
  same_place : (m : RingPlace) (l : Leased) → IsShapedAlike h g l → has_place g m l ≡ has_place h m l
  same_place (BlockPlace r i) (Block s p) same = ap (λ shape. r == s && i == place_of shape p) same
  same_place (LinkPlace r i) (Link s q) same = ap (λ shape. r == s && i == link_of shape q) same
  same_place (BlockPlace r i) (Link s q) same = refl
  same_place (BlockPlace r i) (Range n a e) same = refl
  same_place (LinkPlace r i) (Block s p) same = refl
  same_place (LinkPlace r i) (Range n a e) same = refl

  same_crossed : (l : Leased) → IsShapedAlike h g l → IsCrossed h l → IsCrossed g l
  same_crossed (Block r p) same crossed = tt
  same_crossed (Link r q) same crossed = subst (λ s. is_crossing s q ≡ true) (sym same) crossed
  same_crossed (Range n a e) same crossed = tt

  module _ (m : RingPlace) where
    same_open : (t : Lent) (u : Bool) → is_unended t ≡ u → (u ≡ true → IsShapedAlike h g t.leased) → (u && has_place g m t.leased) ≡ (u && has_place h m t.leased)
    same_open t true is same = same_place m t.leased (same refl)
    same_open t false is same = refl

    at_one : (t : Lent) → (is_unended t ≡ true → IsShapedAlike h g t.leased) → is_open_of (has_place g m) t ≡ is_open_of (has_place h m) t
    at_one t same = same_open t (is_unended t) refl same

    none_same : (n : ℕ) (ts : List Lent) → AllUnended (λ i l. IsShapedAlike h g l) n ts → list_any (is_open_of (has_place h m)) ts ≡ false → list_any (is_open_of (has_place g m)) ts ≡ false
    none_same n [] same none = refl
    none_same n (t ∷ ts) same none =
        let parts = or_parts (is_open_of (has_place h m) t) (list_any (is_open_of (has_place h m)) ts) none in
        or_from (is_open_of (has_place g m) t) (list_any (is_open_of (has_place g m)) ts) (subst (λ b. b ≡ false) (sym (at_one t same.0)) parts.0) (none_same (n + 1) ts same.1 parts.1)

    at_same : (n i : ℕ) (ts : List Lent) → AllUnended (λ j l. IsShapedAlike h g l) n ts → IsOnlyAt (is_open_of (has_place h m)) i ts → IsOnlyAt (is_open_of (has_place g m)) i ts
    at_same n i [] same at = at
    at_same n zero (t ∷ ts) same at = (subst (λ b. b ≡ true) (sym (at_one t same.0)) at.0, none_same (n + 1) ts same.1 at.1)
    at_same n (suc i) (t ∷ ts) same at = (subst (λ b. b ≡ false) (sym (at_one t same.0)) at.0, at_same (n + 1) i ts same.1 at.1)

    only_same : (number : ℕ) (ts : List Lent) → AreShapedAlike h g ts → IsOnly (is_open_of (has_place h m)) number ts → IsOnly (is_open_of (has_place g m)) number ts
    only_same zero ts same none = none_same 0 ts same none
    only_same (suc i) ts same at = at_same 0 i ts same at

pub followed_alike : (leases : List Lease) (h g : Header) (ts : List Lent) (b : CertificateLog) → AreShapedAlike h g ts → FollowsCertificate leases h ts b → FollowsCertificate leases g ts b
followed_alike leases h g ts b same follows = record {
  same = follows.same;
  begun = follows.begun;
  differs = follows.differs;
  known = λ agreed.
      let known : KnowsOpen h ts b.list b.blocks b.links = follows.known agreed in
      record {
        count = known.count;
        places = λ m. only_same h g m _ ts same (known.places m);
        crossed = both_told (λ i l. IsShapedAlike h g l) (λ i l. IsCrossed h l) (λ i l. IsCrossed g l) 0 ts (λ i l alike crossed. same_crossed h g l alike crossed) same known.crossed;
      };
}

-- The command ring of a header, and its number
use Rattle.trace_record.proofs.UpperLaws.{rules, ◌≡◌, ◌<◌, ◌∙◌, ◌∷◌, ℕ, List, [], Bool, true, None, Some, refl, ap, sym, get_or, length, position, slice_get, slice_get_read, position-Some, Ring, Header, IsHeader, command_ring, is_command_kind, is_driver_kind, is_some, false≢true, slice_get-get_or, RingKind, command_id, id_or_none, ring_with, IsAmong, among_at, other_number, find_some, id_below, not_found, command_found}

-- the command ring is the driver's
pub driven : (kind : RingKind) → is_command_kind kind ≡ true → is_driver_kind kind ≡ true
driven kind h1 = search rules

pub commands_among : (h : Header) (c : Ring) → command_ring h ≡ Some c → IsAmong c h.rings × (is_command_kind c.shape.kind ≡ true)
unfolding command_ring
commands_among h c there = find_some (λ r. is_command_kind r.shape.kind) h.rings c there

-- the ID of the command ring
pub command_id_is : (h : Header) (ring : Ring) → command_ring h ≡ Some ring → command_id h ≡ ring.id
unfolding command_id
command_id_is h ring there = ap id_or_none there

-- without a command ring no ring has its ID
pub no_ring : (h : Header) → IsHeader h → command_ring h ≡ None → ring_with h (command_id h) ≡ None
unfolding command_id
no_ring h headed none = search (rules, not_found, other_number, id_below)

pub has_commands : {X : Type 0} (h : Header) → is_some (command_ring h) ≡ true → command_ring h ≡ None → X
has_commands h some none = absurd (false≢true (ap (λ o. is_some o) (sym none) ∙ some))

pub found_at : (p : Ring → Bool) (rs : List Ring) (n : ℕ) → position p rs ≡ Some n → (ring : Ring) × (slice_get rs n ≡ Some ring) × (p ring ≡ true)
found_at p [] n e = absurd (cc)
found_at p (x ∷ rest) n e =
    let some = position-Some p (x ∷ rest) n x e in
    (get_or (x ∷ rest) n x, slice_get-get_or (x ∷ rest) n x some.0, some.1)

-- what was read at a number
pub read_at : {X : Type 0} (xs items : List X) (n : ℕ) (x : X) → xs ≡ items → n < length xs → x ≡ get_or xs n x → slice_get items n ≡ Some x
read_at xs items n x same below is = ap (λ ys. slice_get ys n) (sym same) ∙ slice_get_read xs (length xs) n x refl below is

-- the command ring is the one with this number
pub record IsCommandNumber (h : Header) (n : ℕ) : Type 0 where
  pub ring : Ring
  pub at : slice_get h.rings n ≡ Some ring
  pub driver : is_driver_kind ring.shape.kind ≡ true
  pub there : command_ring h ≡ Some ring

pub command_number : (h : Header) → IsHeader h → (n : ℕ) → position (λ r. is_command_kind r.shape.kind) h.rings ≡ Some n → IsCommandNumber h n
command_number h headed n e = search (rules, found_at, is_command_kind, driven, command_found, among_at)

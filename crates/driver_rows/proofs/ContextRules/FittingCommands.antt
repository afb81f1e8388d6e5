-- The input contexts of commands lie on words, and those of commands that may be given within the address space
use Rattle.driver_rows.proofs.Words.{rules, ◌≡◌, ℕ, ◌+◌, ◌*◌, ◌/◌, ◌%◌, ◌^◌, ◌≤◌, if◌then◌else◌, Bool, false, Option, Some, None, subst, arith, ◌||◌, option_and_then, slice_get, ltb-false, Block, BlockKind, kind, is_command_left_out, Command, command_by_kind, command_of, Header, command_id, Known, command_at, is_bad_area, has_bad_context, is_bad_command, FitsMemory, IsAligned, address}

left_false : (a b : Bool) → (a || b) ≡ false → a ≡ false
left_false a b e = search rules

-- an area that isn't bad ends at or below 2^64
pub good_inside : (h : Header) (k : Known) (from len : ℕ) → is_bad_area h k from len ≡ false → from + len ≤ 2 ^ 64
unfolding is_bad_area
good_inside h k from len good = ltb-false (2 ^ 64) (from + len) (left_false _ _ (left_false _ _ good))

-- what a command that isn't bad names ends there
pub good_fits : (h : Header) (k : Known) (c : Command) → is_bad_command h k c ≡ false → IsAligned c → FitsMemory h.context_size c
unfolding is_bad_command has_bad_context
good_fits h k c good on_words a named = search (rules, left_false, good_inside)

-- a command of a block names a context that lies on words
abbrev OnWords : Option Command → Type 0
OnWords None = Unit {0}
OnWords (Some c) = IsAligned c

none_named : (a : ℕ) → None ≡ Some a → a % 4 ≡ 0
none_named a e = absurd (cc)

pointed : (p a : ℕ) → Some (address p) ≡ Some a → a % 4 ≡ 0
pointed p a e = let is : p / 16 * 16 ≡ a = cc in omega arith

by_kind : (kd : BlockKind) (b : Block) → OnWords (command_by_kind kd b)
by_kind kd b = search (rules, none_named, pointed)

by_type : (left_out : Bool) (b : Block) → OnWords (if left_out then None else command_by_kind (kind b) b)
by_type left_out b = search (rules, by_kind)

pub aligned : (b : Block) (c : Command) → command_of b ≡ Some c → IsAligned c
aligned b c is = subst OnWords is (by_type (is_command_left_out b) b)

declared : (o : Option Block) → OnWords (option_and_then command_of o)
declared o = search (rules, by_type)

-- that of a command which is declared at a position lies there too
pub aligned_at : (h : Header) (k : Known) (p : ℕ) (c : Command) → command_at h k p ≡ Some c → IsAligned c
unfolding command_at
aligned_at h k p c at = subst OnWords at (declared (slice_get (k.ring (command_id h)).queue p))

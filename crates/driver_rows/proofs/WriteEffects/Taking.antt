-- The device context that an Address Device takes
use Rattle.driver_rows.proofs.Words.{rules, ◌≡◌, ℕ, ◌+◌, ◌*◌, ◌/◌, ◌%◌, ◌^◌, ◌≤◌, Bool, true, false, Option, Some, None, ap, sym, ◌||◌, is_some, same_Some, long_at, is_in, ContextSize, device_context_bytes, Command, AddressDevice, Header, Dcbaap, register_or_zero, Known, device_named, entry_of, no_device, taken_device, with_device, SoiledWords, HoldsSoiled, LiesOnWords, subst}

-- its words are soiled
pub soiled_with : (h : Header) (k : Known) (size : ContextSize) (s d : ℕ) (before after : SoiledWords) → h.context_size ≡ size → LiesOnWords size (Some (s, d)) →
    ((b : ℕ → Bool) → d % 4 ≡ 0 → d + device_context_bytes size ≤ 2 ^ 64 → HoldsSoiled b before → HoldsSoiled (λ x. is_in x d (device_context_bytes size) || b x) after) →
    HoldsSoiled k.soiled before → HoldsSoiled ((with_device h k (Some (s, d))).soiled) after
unfolding with_device
soiled_with h k size s d before after same lies soils holds =
    subst (λ n. HoldsSoiled (λ x. is_in x d (device_context_bytes n) || k.soiled x) after) (sym same) (soils k.soiled lies.0 lies.1 holds)

-- where the entry of a slot lies
pub entry_is : (k : Known) (s d : ℕ) → d ≡ register_or_zero k.register Dcbaap → entry_of k s ≡ d / 64 * 64 + 8 * s
unfolding entry_of
entry_is k s d is = ap (λ n. n / 64 * 64 + 8 * s) (sym is)

-- and what it names
pub named_is : (k : Known) (s : ℕ) (words : ℕ → ℕ) → ((a : ℕ) → k.memory a ≡ words a) → device_named k s ≡ long_at words (entry_of k s)
unfolding device_named entry_of
named_is k s words same = search rules

-- a slot that has a device context takes none
pub takes_none : (o : Option ℕ) (s n : ℕ) → is_some o ≡ true → no_device o s n ≡ None
unfolding no_device
takes_none o s n e = search rules

pub none_under_lease : (o : Option ℕ) → is_some o ≡ false → o ≡ None
none_under_lease o e = search rules

-- and any other takes the one that is named
pub takes_named : (o : Option ℕ) (s n m : ℕ) → is_some o ≡ false → Some m ≡ Some n → Some (s, m) ≡ no_device o s n
unfolding no_device
takes_named o s n m e f = search (rules, same_Some)

-- another command takes none
pub takes_nothing : (k : Known) (c : Command) → ((s : ℕ) (bsr : Bool) (n : ℕ) → c ≡ AddressDevice s bsr n → ⊥) → None ≡ taken_device k c
unfolding taken_device
takes_nothing k c e = search rules

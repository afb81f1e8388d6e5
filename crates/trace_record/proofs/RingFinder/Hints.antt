-- Where a segment stands that starts on a page
use Rattle.trace_record.proofs.BaseWords.{rules, ◌≡◌, ◌+◌, ◌<◌, ℕ, List, length, length-set, get_or, get_or_default, get_or-set_same, get_or-set_other, set, Start, AreHints, slot_of}

-- one start more
pub one_hint : (starts : List Start) (n : ℕ) (hints : List ℕ) (x : Start) → n < length starts → x ≡ get_or starts n x → AreHints starts n hints →
    AreHints starts (n + 1) (set hints (slot_of x.address) n)
one_hint starts n hints x inside item are = search (rules, length-set, get_or, set, get_or-set_same, get_or-set_other, get_or_default)

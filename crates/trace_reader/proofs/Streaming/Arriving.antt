-- Bytes that come in pieces
use Rattle.trace_reader.proofs.Words.{common_steps, ◌≡◌, ◌+◌, ◌-◌, ◌<◌, ◌≤◌, ◌++◌, ◌∙◌, ℕ, List, true, Option, refl, ap, sym, append_assoc, drop, take, length, length-append, length-drop, arith, drop-drop, drop-take, drop_at, length-take-le, take-append-le, take-take, take-paste, Consumes, has_come, paste, take-append-add}

-- ---- one read

pub some_came : (held held' : Option (List ℕ)) (ahead ahead' piece : List ℕ) (n : ℕ) → 0 < n → n ≤ length piece → Consumes held held' (take n piece) → ahead' ≡ ahead ++ take n piece →
    has_come true held held' ahead ahead'
some_came held held' ahead ahead' piece n some fits read is = grind (arith, common_steps)

-- ---- the bytes that are kept

-- how many are ahead
pub long_ahead : (items : List ℕ) (done end : ℕ) → end ≤ length items → length (drop done (take end items)) ≡ end - done
long_ahead items done end fits = length-drop done (take end items) ∙ ap (λ n. n - done) (length-take-le end items fits)

pub kept : (items front back : List ℕ) (done end count : ℕ) → done ≤ end → end ≤ length items → drop done (take end items) ≡ front ++ back → length back ≡ count →
    drop (end - count) (take end items) ≡ back
kept items front back done end count within fits is size =
    let long : end - done ≡ length front + count = sym (long_ahead items done end fits) ∙ ap length is ∙ length-append front back ∙ ap (λ n. length front + n) size in
    let at : end - count ≡ done + length front = omega (arith, long, within) in
    ap (λ n. drop n (take end items)) at ∙ sym (drop-drop (length front) done (take end items)) ∙ ap (λ l. drop (length front) l) is ∙ drop_at front back (length front) refl

pub moved : (items : List ℕ) (done end : ℕ) → done ≤ end → end ≤ length items → take (end - done) (paste items 0 (drop done items) (end - done)) ≡ drop done (take end items)
moved items done end within fits =
    let whole : done + (end - done) ≡ end = omega (arith, within) in
    let plain : end - done ≡ 0 + (end - done) = omega arith in
    let some : end - done ≤ length (drop done items) = omega (arith, length-drop done items, fits) in
    ap (λ n. take n (paste items 0 (drop done items) (end - done))) plain ∙ take-paste items 0 (drop done items) (end - done) (omega arith) some ∙ sym (drop-take done (end - done) items) ∙ ap (λ n. drop done (take n items)) whole

-- a piece was put behind the bytes
pub come_behind : (done end count len : ℕ) (items old piece post more ahead : List ℕ) → done ≡ 0 → items ≡ old → end ≤ length old → count ≤ length piece → end + count ≤ len → drop done (take end old) ≡ ahead →
    drop done (take (end + count) (take len ((take end items ++ (piece ++ post)) ++ more))) ≡ ahead ++ take count piece
come_behind done end count len items old piece post more ahead front is fits some room before = grind (arith, append_assoc, take-take, length-take-le, take-append-add, take-append-le)

-- What is declared by position once one more descriptor is declared
use Rattle.controller_model.proofs.LowerLaws.{rules, ◌≡◌, ◌+◌, ◌-◌, ◌<◌, ◌==◌, ◌++◌, ◌∷◌, ◌∙◌, ℕ, zero, suc, [], List, Some, length, refl, sym, ap, arith, inl, inr, slice_get, option_map, length-append, append_assoc, subst, take, get_or, eq-eqb, ne_eqb, length-take-le, cases_lt, All-push, slice_get_within, take_at_read, Block, declared_at, Declared, Declarations, Declares, as_declared, entries, blocks_of, is_border-append, is_border-past, is_border-end}

slice_get-left : {X : Type 0} (xs ys : List X) (p : ℕ) → p < length xs → slice_get (xs ++ ys) p ≡ slice_get xs p
slice_get-left [] ys p h = absurd (omega arith)
slice_get-left (x ∷ xs) ys zero h = refl
slice_get-left (x ∷ xs) ys (suc p) h = slice_get-left xs ys p (omega arith)

slice_get-right : {X : Type 0} (xs ys : List X) (k : ℕ) → slice_get (xs ++ ys) (length xs + k) ≡ slice_get ys k
slice_get-right [] ys k = ap (λ n. slice_get ys n) (let e : 0 + k ≡ k = omega arith in e)
slice_get-right (x ∷ xs) ys k = grind (arith, slice_get-right xs ys k)

abbrev entry : ℕ → ℕ → Block → Declared
entry k last b = record { block = b; begins = k == 0; ends = k == last }

slice_get-entries : (j last : ℕ) (bs : List Block) (k : ℕ) → slice_get (entries j last bs) k ≡ option_map (entry (j + k) last) (slice_get bs k)
slice_get-entries j last [] k = refl
slice_get-entries j last (b ∷ bs) zero = ap (λ n. Some (entry n last b)) (let e : j ≡ j + 0 = omega arith in e)
slice_get-entries j last (b ∷ bs) (suc k) = grind (arith, option_map, slice_get-entries (j + 1) last bs k)

pub entries-append : (j last : ℕ) (xs ys : List Block) → entries j last (xs ++ ys) ≡ entries j last xs ++ entries (j + length xs) last ys
entries-append j last [] ys = ap (λ n. entries n last ys) (let e : j ≡ j + 0 = omega arith in e)
entries-append j last (x ∷ xs) ys = grind (arith, entries-append (j + 1) last xs ys)

pub length-entries : (j last : ℕ) (bs : List Block) → length (entries j last bs) ≡ length bs
length-entries j last [] = refl
length-entries j last (b ∷ bs) = ap suc (length-entries (j + 1) last bs)

blocks_of-append : (lengths : List ℕ) (n : ℕ) → blocks_of (lengths ++ n ∷ []) ≡ blocks_of lengths + n
blocks_of-append [] n = omega arith
blocks_of-append (m ∷ lengths) n = omega (arith, blocks_of-append lengths n)

-- the positions of the new descriptor
behind : (bs queue : List Block) (lengths : List ℕ) (k : ℕ) → blocks_of lengths ≡ length queue →
    option_map as_declared (slice_get (entries 0 (length bs - 1) bs) k) ≡ declared_at (queue ++ bs) (lengths ++ length bs ∷ []) (length queue + k)
unfolding declared_at
behind bs queue lengths k whole = search (rules, length, option_map, slice_get, slice_get-entries, slice_get-right, slice_get_within, eq-eqb, is_border-append, is_border-end, ne_eqb, is_border-past)

-- the positions of the new descriptor, behind those of the older ones
behind_old : (old : List Declared) (bs queue : List Block) (lengths : List ℕ) (k : ℕ) → length old ≡ length queue → blocks_of lengths ≡ length queue →
    option_map as_declared (slice_get (old ++ entries 0 (length bs - 1) bs) (length queue + k)) ≡ declared_at (queue ++ bs) (lengths ++ length bs ∷ []) (length queue + k)
behind_old old bs queue lengths k many whole =
    ap (λ n. option_map as_declared (slice_get (old ++ entries 0 (length bs - 1) bs) (n + k))) (sym many)
    ∙ ap (λ o. option_map as_declared o) (slice_get-right old (entries 0 (length bs - 1) bs) k)
    ∙ behind bs queue lengths k whole

pub declares_more : (d e : Declarations) (queue bs : List Block) (lengths : List ℕ) → 0 < length bs →
    e.blocks.items ≡ d.blocks.items ++ entries 0 (length bs - 1) bs → Declares d queue lengths → Declares e (queue ++ bs) (lengths ++ length bs ∷ [])
unfolding declared_at
declares_more d e queue bs lengths some made old = record {
  at = λ p. rw made (elim (cases_lt p (length queue)) [
    | inl h ↦ search (rules, length, option_map, slice_get, slice_get-left, is_border-append, ne_eqb)
    | inr h ↦
        let P : ℕ → Type 0 = λ q. option_map as_declared (slice_get (d.blocks.items ++ entries 0 (length bs - 1) bs) q) ≡ declared_at (queue ++ bs) (lengths ++ length bs ∷ []) q in
        let same : length queue + (p - length queue) ≡ p = omega arith in
        subst P same (behind_old d.blocks.items bs queue lengths (p - length queue) old.many old.whole)
  ]);
  many = ap length made ∙ length-append d.blocks.items (entries 0 (length bs - 1) bs) ∙ (λ i. old.many i + length-entries 0 (length bs - 1) bs i) ∙ sym (length-append queue bs);
  some = All-push (λ n. 0 < n) lengths (length bs) old.some some;
  whole = blocks_of-append lengths (length bs) ∙ ap (λ n. n + length bs) old.whole ∙ sym (length-append queue bs);
}

-- one more block of the new descriptor
pub entries_push : (old : List Declared) (now : List Declared) (bs : List Block) (i last : ℕ) (b : Block) → i < length bs →
    now ≡ old ++ entries 0 last (take i bs) → now ++ entry i last (get_or bs i b) ∷ [] ≡ old ++ entries 0 last (take (i + 1) bs)
entries_push old now bs i last b h made = search (rules, length, take, get_or, append_assoc, take_at_read, entries-append, length-take-le)

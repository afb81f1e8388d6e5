-- The bits of groups, some of which are whole
use Rattle.trace_record.proofs.LowerLaws.{◌≡◌, ◌≢◌, ◌==◌, ◌+◌, ◌-◌, ◌*◌, ◌/◌, ◌%◌, ◌^◌, ◌<◌, ◌≤◌, ◌∙◌, ◌&&◌, ◌||◌, ◌⊎◌, if◌then◌else◌, ℕ, List, Bool, true, false, refl, sym, arith, ap, inl, inr, cond-true, cond-false, cases_eq, cases_Bool, and_parts, eqb-true, false≢true, eq-eqb, ne_eqb, lt-ltb, le-leb, leb-true, ltb-true, nat_le, nat_lt, nat_tests, bit_and, bit_not, bit_or, bit_at, bit_at-zero, bit_at_ones, w64, is_in, is_marked, put, get_or, length, set, get_or-set_same, get_or-set_other, cleared_here, cleared_other, either_bit}
use Rattle.trace_record.proofs.RangeWords.MarkedWords.{put_here, put_other, soiled_part}
use Rattle.std.specs.Result.{OnOk, OnErr}
use Rattle.std.proofs.Common.{Result, Ok, Err}
use Rattle.segments.proofs.Words.{and_from}
use Rattle.trace_record.specs.RangeWords.Marks.{bits_in, is_page_marked, is_whole, mark_of}

pub whole_bits : (f w : ℕ → ℕ) (g : ℕ) → is_whole w g ≡ true → 2 ^ 64 - 1 ≡ bits_in f w g
unfolding bits_in
whole_bits f w g whole = sym (cond-true (is_whole w g) (2 ^ 64 - 1) (f g) whole)

pub own_bits : (f w : ℕ → ℕ) (g : ℕ) → is_whole w g ≡ false → f g ≡ bits_in f w g
unfolding bits_in
own_bits f w g own = sym (cond-false (is_whole w g) (2 ^ 64 - 1) (f g) own)

-- where no bit is 1
pub nothing_in : (f w : ℕ → ℕ) → ((n : ℕ) → f n ≡ 0) → ((n : ℕ) → w n ≡ 0) → (g : ℕ) → bits_in f w g ≡ 0
nothing_in f w none no_whole g = sym (own_bits f w g (ap (λ b. nat_lt 0 (bit_at b (g % 64))) (no_whole (g / 64)) ∙ ap (nat_lt 0) (bit_at-zero (g % 64)))) ∙ none g

-- alike where both are
bits_alike : (f w d x : ℕ → ℕ) (g : ℕ) → d g ≡ f g → is_whole x g ≡ is_whole w g → bits_in d x g ≡ bits_in f w g
unfolding bits_in
bits_alike f w d x g same whole = ap (λ b. if b then 2 ^ 64 - 1 else d g) whole ∙ ap (λ n. if is_whole w g then 2 ^ 64 - 1 else n) same

pub same_bits : (f w x : ℕ → ℕ) → ((b : ℕ) → x b ≡ w b) → (g : ℕ) → bits_in f x g ≡ bits_in f w g
same_bits f w x same g = bits_alike f w f x g refl (ap (λ b. nat_lt 0 (bit_at b (g % 64))) (same (g / 64)))

-- a group has bits of its own
module _ (f w d x : ℕ → ℕ) (group bits bit : ℕ) (is : bit ≡ 2 ^ (group % 64)) (own : (g : ℕ) → d g ≡ put f group bits g)
    (unset : (b : ℕ) → x b ≡ put w (group / 64) (bit_and (w (group / 64)) (bit_not w64 bit)) b) where
  cut : (b : ℕ) → x b ≡ put w (group / 64) (bit_and (w (group / 64)) (bit_not w64 (2 ^ (group % 64)))) b
  cut b = unset b ∙ ap (λ n. put w (group / 64) (bit_and (w (group / 64)) (bit_not w64 n)) b) is

  own_here : is_whole x group ≡ false
  own_here = ap (λ b. nat_lt 0 (bit_at b (group % 64))) (cut (group / 64) ∙ put_here w (group / 64) _ (group / 64) refl) ∙ cleared_here (w (group / 64)) (group % 64) (omega arith)

  as_before : (g : ℕ) → g ≢ group → is_whole x g ≡ is_whole w g
  as_before g other = elim (cases_eq (g / 64) (group / 64)) [
    | inl here ↦
        let apart : g % 64 ≢ group % 64 = omega (arith, other, here) in
        ap (λ b. nat_lt 0 (bit_at b (g % 64))) (cut (g / 64) ∙ put_here w (group / 64) _ (g / 64) here) ∙ cleared_other (w (group / 64)) (group % 64) (omega arith) (g % 64) (omega arith) apart
        ∙ ap (λ b. nat_lt 0 (bit_at (w b) (g % 64))) (sym here)
    | inr there ↦ ap (λ b. nat_lt 0 (bit_at b (g % 64))) (cut (g / 64) ∙ put_other w (group / 64) _ (g / 64) there)
  ]

  pub bits_set : (g : ℕ) → bits_in d x g ≡ put (bits_in f w) group bits g
  bits_set g = elim (cases_eq g group) [
    | inl here ↦ ap (bits_in d x) here ∙ sym (own_bits d x group own_here) ∙ own group ∙ put_here f group bits group refl ∙ sym (put_here (bits_in f w) group bits g here)
    | inr other ↦ bits_alike f w d x g (own g ∙ put_other f group bits g other) (as_before g other) ∙ sym (put_other (bits_in f w) group bits g other)
  ]

-- groups of a block are whole
module _ (f w x : ℕ → ℕ) (block groups was : ℕ) (is : was ≡ w block) (with_them : (b : ℕ) → x b ≡ put w block (bit_or was groups) b) where
  more : (b : ℕ) → x b ≡ put w block (bit_or (w block) groups) b
  more b = with_them b ∙ ap (λ n. put w block (bit_or n groups) b) is

  more_whole : (g : ℕ) → is_whole x g ≡ ((g / 64 == block && nat_lt 0 (bit_at groups (g % 64))) || is_whole w g)
  more_whole g = elim (cases_eq (g / 64) block) [
    | inl here ↦
        ap (λ b. nat_lt 0 (bit_at b (g % 64))) (more (g / 64) ∙ put_here w block _ (g / 64) here) ∙ either_bit (w block) groups (g % 64)
        ∙ swapped (nat_lt 0 (bit_at (w block) (g % 64))) (nat_lt 0 (bit_at groups (g % 64))) (g / 64 == block) (is_whole w g) (eq-eqb (g / 64) block here) (ap (λ b. nat_lt 0 (bit_at (w b) (g % 64))) here)
    | inr there ↦
        ap (λ b. nat_lt 0 (bit_at b (g % 64))) (more (g / 64) ∙ put_other w block _ (g / 64) there)
        ∙ sym (ap (λ b. (b && nat_lt 0 (bit_at groups (g % 64))) || is_whole w g) (ne_eqb (g / 64) block there))
  ]
    where
      swapped : (a b same old : Bool) → same ≡ true → old ≡ a → (a || b) ≡ ((same && b) || old)
      swapped a b same old s o = grind arith

  pub bits_whole : (g : ℕ) → bits_in f x g ≡ (if g / 64 == block && nat_lt 0 (bit_at groups (g % 64)) then 2 ^ 64 - 1 else bits_in f w g)
  unfolding bits_in
  bits_whole g =
      ap (λ b. if b then 2 ^ 64 - 1 else f g) (more_whole g) ∙ either (g / 64 == block && nat_lt 0 (bit_at groups (g % 64))) (is_whole w g) (2 ^ 64 - 1) (f g)
    where
      either : (a b : Bool) (x y : ℕ) → (if a || b then x else y) ≡ (if a then x else if b then x else y)
      either a b x y = grind arith

-- ---- pages

-- behind one mark more
pub mark_more : (marks : List Bool) (n g : ℕ) → n < length marks → is_page_marked marks g ≡ true → is_page_marked (set marks n true) g ≡ true
mark_more marks n g low marked = elim (cases_eq n (mark_of (g / 16))) [
  | inl here ↦ ap (λ i. get_or (set marks n true) i false) (sym here) ∙ get_or-set_same marks n true false low
  | inr other ↦ get_or-set_other marks n (mark_of (g / 16)) true false (λ same. other (sym same)) ∙ marked
]

pub mark_here : (marks : List Bool) (n g : ℕ) → n < length marks → n ≡ mark_of (g / 16) → is_page_marked (set marks n true) g ≡ true
mark_here marks n g low here = ap (λ i. get_or (set marks n true) i false) (sym here) ∙ get_or-set_same marks n true false low

-- a group has bits of its own, and its page is marked
module _ (old new : ℕ → ℕ) (marks : List Bool) (mark group bits : ℕ) (low : mark < length marks) (there : mark ≡ mark_of (group / 16))
    (was : (g : ℕ) → is_page_marked marks g ≡ false → old g ≡ 0) (set_ : (g : ℕ) → new g ≡ put old group bits g) where
  pub still_marked : (g : ℕ) → is_page_marked (set marks mark true) g ≡ false → new g ≡ 0
  still_marked g unmarked = elim (cases_eq g group) [
    | inl here ↦ absurd (false≢true (sym unmarked ∙ mark_here marks mark g low (there ∙ ap (λ n. mark_of (n / 16)) (sym here))))
    | inr other ↦ set_ g ∙ put_other old group bits g other ∙ was g (elim (cases_Bool (is_page_marked marks g)) [
      | inl marked ↦ absurd (false≢true (sym unmarked ∙ mark_more marks mark g low marked))
      | inr none ↦ none
    ])
  ]

-- groups of a block are whole, whose pages are marked
pub whole_marked : (old new : ℕ → ℕ) (marks : List Bool) (block groups : ℕ) → ((g : ℕ) → is_page_marked marks g ≡ false → old g ≡ 0) →
    ((i : ℕ) → i < 64 → nat_lt 0 (bit_at groups i) ≡ true → is_page_marked marks (64 * block + i) ≡ true) →
    ((g : ℕ) → new g ≡ (if g / 64 == block && nat_lt 0 (bit_at groups (g % 64)) then 2 ^ 64 - 1 else old g)) → (g : ℕ) → is_page_marked marks g ≡ false → new g ≡ 0
whole_marked old new marks block groups was marked set_ g unmarked = set_ g ∙ cond-false (g / 64 == block && nat_lt 0 (bit_at groups (g % 64))) (2 ^ 64 - 1) (old g) (outside (cases_Bool (g / 64 == block && nat_lt 0 (bit_at groups (g % 64))))) ∙ was g unmarked
  where
    outside : ((g / 64 == block && nat_lt 0 (bit_at groups (g % 64))) ≡ true) ⊎ ((g / 64 == block && nat_lt 0 (bit_at groups (g % 64))) ≡ false) →
        (g / 64 == block && nat_lt 0 (bit_at groups (g % 64))) ≡ false
    outside (inr out) = out
    outside (inl inside) =
        let parts = and_parts (g / 64 == block) (nat_lt 0 (bit_at groups (g % 64))) inside in
        let here : g / 64 ≡ block = eqb-true (g / 64) block parts.0 in
        let is : 64 * block + g % 64 ≡ g = omega (arith, here) in
        absurd (false≢true (sym unmarked ∙ ap (is_page_marked marks) (sym is) ∙ marked (g % 64) (omega arith) parts.1))

pub either_way : {A E P Q : Type 0} (r : Result A E) → OnOk r P → OnErr r Q → P ⊎ Q
either_way (Ok a) p q = inl p
either_way (Err e) p q = inr q

-- the groups of one block more are whole
pub whole_more : (first old new : ℕ → ℕ) (from end block mask : ℕ) → ((i : ℕ) → i < 64 → nat_lt 0 (bit_at mask i) ≡ (nat_le from (64 * block + i) && nat_lt (64 * block + i) end)) →
    ((g : ℕ) → new g ≡ (if g / 64 == block && nat_lt 0 (bit_at mask (g % 64)) then 2 ^ 64 - 1 else old g)) →
    ((g : ℕ) → old g ≡ (if nat_le from g && nat_lt g end && nat_lt (g / 64) block then 2 ^ 64 - 1 else first g)) →
    (g : ℕ) → new g ≡ (if nat_le from g && nat_lt g end && nat_lt (g / 64) (block + 1) then 2 ^ 64 - 1 else first g)
whole_more first old new from end block mask masked more before g = elim (cases_eq (g / 64) block) [
  | inl here ↦
      let is : 64 * block + g % 64 ≡ g = omega (arith, here) in
      let inside = masked (g % 64) (omega arith) ∙ ap (λ n. nat_le from n && nat_lt n end) is in
      more g ∙ ap (λ n. if g / 64 == block && nat_lt 0 (bit_at mask (g % 64)) then 2 ^ 64 - 1 else n) (before g)
      ∙ by_block (nat_le from g && nat_lt g end) (g / 64 == block) (nat_lt 0 (bit_at mask (g % 64))) (nat_lt (g / 64) block) (nat_lt (g / 64) (block + 1)) (first g) (eq-eqb (g / 64) block here) inside
      (lt-ltb (g / 64) (block + 1) (omega arith))
  | inr other ↦
      more g ∙ ap (λ b. if b && nat_lt 0 (bit_at mask (g % 64)) then 2 ^ 64 - 1 else old g) (ne_eqb (g / 64) block other) ∙ before g
      ∙ ap (λ b. if nat_le from g && nat_lt g end && b then 2 ^ 64 - 1 else first g) (grind (arith, nat_tests, other))
]
  where
    by_block : (inside here masked_ before_ after : Bool) (x : ℕ) → here ≡ true → masked_ ≡ inside → after ≡ true →
        (if here && masked_ then 2 ^ 64 - 1 else if inside && before_ then 2 ^ 64 - 1 else x) ≡ (if inside && after then 2 ^ 64 - 1 else x)
    by_block inside here masked_ before_ after x h m a = grind arith

-- ---- words from an address on, in three parts

-- the words of groups are soiled
soiled_whole : (old new : ℕ → ℕ) (from end a : ℕ) → ((g : ℕ) → new g ≡ (if nat_le from g && nat_lt g end then 2 ^ 64 - 1 else old g)) →
    is_marked new a ≡ ((nat_le from (a / 256) && nat_lt (a / 256) end) || is_marked old a)
soiled_whole old new from end a set_ =
    ap (λ b. nat_lt 0 (bit_at b (a / 4 % 64))) (set_ (a / 256)) ∙ chosen (nat_le from (a / 256) && nat_lt (a / 256) end)
  where
    chosen : (b : Bool) → nat_lt 0 (bit_at (if b then 2 ^ 64 - 1 else old (a / 256)) (a / 4 % 64)) ≡ (b || is_marked old a)
    chosen true = ap (nat_lt 0) (bit_at_ones 64 (a / 4 % 64) (omega arith))
    chosen false = refl

module _ (from words a : ℕ) (aligned : from % 4 ≡ 0) (place : a % 4 ≡ 0) where
  abbrev start : ℕ
  start = from / 4 / 64

  abbrev behind : ℕ
  behind = (from / 4 + words + 63) / 64

  -- where there is one part
  one_part : start + 1 ≡ behind → (is_in a from (4 * words) && a / 256 == start) ≡ is_in a from (4 * words)
  one_part one = elim (cases_Bool (is_in a from (4 * words))) [
    | inl inside ↦
        let low : from ≤ a = leb-true from a (and_parts (nat_le from a) (nat_lt a (from + 4 * words)) inside).0 in
        let high : a < from + 4 * words = ltb-true a (from + 4 * words) (and_parts (nat_le from a) (nat_lt a (from + 4 * words)) inside).1 in
        let here : a / 256 ≡ start = omega (arith, low, high, one, aligned, place) in
        ap (λ b. is_in a from (4 * words) && b) (eq-eqb (a / 256) start here) ∙ and_true (is_in a from (4 * words))
    | inr outside ↦ ap (λ b. b && a / 256 == start) outside ∙ sym outside
  ]
    where
      and_true : (b : Bool) → (b && true) ≡ b
      and_true b = grind arith

  three_parts : (x : Bool) → start < behind →
      ((nat_le (start + 1) (a / 256) && nat_lt (a / 256) (behind - 1)) || ((is_in a from (4 * words) && a / 256 == behind - 1) || ((is_in a from (4 * words) && a / 256 == start) || x)))
      ≡ (is_in a from (4 * words) || x)
  three_parts x some = elim (cases_Bool (is_in a from (4 * words))) [
    | inl inside ↦
        let low : from ≤ a = leb-true from a (and_parts (nat_le from a) (nat_lt a (from + 4 * words)) inside).0 in
        let high : a < from + 4 * words = ltb-true a (from + 4 * words) (and_parts (nat_le from a) (nat_lt a (from + 4 * words)) inside).1 in
        let from_start : start ≤ a / 256 = omega (arith, low) in
        let to_end : a / 256 < behind = omega (arith, high, aligned, place) in
        all_parts (is_in a from (4 * words)) (a / 256) start behind x inside from_start to_end
    | inr outside ↦ no_part (is_in a from (4 * words)) (nat_le (start + 1) (a / 256) && nat_lt (a / 256) (behind - 1)) (a / 256 == behind - 1) (a / 256 == start) x outside
        (elim (cases_Bool (nat_le (start + 1) (a / 256) && nat_lt (a / 256) (behind - 1))) [
          | inr none ↦ none
          | inl between_ ↦
              let parts = and_parts (nat_le (start + 1) (a / 256)) (nat_lt (a / 256) (behind - 1)) between_ in
              let low : start + 1 ≤ a / 256 = leb-true (start + 1) (a / 256) parts.0 in
              let high : a / 256 < behind - 1 = ltb-true (a / 256) (behind - 1) parts.1 in
              let from_a : from ≤ a = omega (arith, low) in
              let below : a < from + 4 * words = omega (arith, high, aligned) in
              absurd (false≢true (sym outside ∙ and_from (nat_le from a) (nat_lt a (from + 4 * words)) (le-leb from a from_a) (lt-ltb a (from + 4 * words) below)))
        ])
  ]
    where
      all_parts : (inside : Bool) (g s e : ℕ) (x : Bool) → inside ≡ true → s ≤ g → g < e → ((nat_le (s + 1) g && nat_lt g (e - 1)) || ((inside && g == e - 1) || ((inside && g == s) || x))) ≡ (inside || x)
      all_parts inside g s e x i low high = grind (arith, nat_tests, i, low, high)

      no_part : (inside mid last first x : Bool) → inside ≡ false → mid ≡ false → (mid || ((inside && last) || ((inside && first) || x))) ≡ (inside || x)
      no_part inside mid last first x i m = grind arith

-- the bits of a group's words from an address on
abbrev pub IsMask : ℕ → ℕ → ℕ → ℕ → Type 0
IsMask from words g mask = (i : ℕ) → i < 64 → nat_lt 0 (bit_at mask i) ≡ (nat_le (from / 4) (64 * g + i) && nat_lt (64 * g + i) (from / 4 + words))

module _ (from words : ℕ) (aligned : from % 4 ≡ 0) (f d : ℕ → ℕ) (m : ℕ) (masked : IsMask from words (from / 4 / 64) m)
    (set_ : (h : ℕ) → d h ≡ put f (from / 4 / 64) (bit_or (f (from / 4 / 64)) m) h) where
  pub soiled_one : from / 4 / 64 + 1 ≡ (from / 4 + words + 63) / 64 → (a : ℕ) → a % 4 ≡ 0 → (is_in a from (4 * words) || is_marked f a) ≡ is_marked d a
  soiled_one one a place =
      ap (λ b. b || is_marked f a) (sym (one_part from words a aligned place one)) ∙ sym (soiled_part f d from words (from / 4 / 64) m a aligned place masked set_)

  pub soiled_three : (x y : ℕ → ℕ) (n : ℕ) → IsMask from words ((from / 4 + words + 63) / 64 - 1) n →
      ((h : ℕ) → x h ≡ put d ((from / 4 + words + 63) / 64 - 1) (bit_or (d ((from / 4 + words + 63) / 64 - 1)) n) h) →
      ((g : ℕ) → y g ≡ (if nat_le (from / 4 / 64 + 1) g && nat_lt g ((from / 4 + words + 63) / 64 - 1) then 2 ^ 64 - 1 else x g)) →
      from / 4 / 64 < (from / 4 + words + 63) / 64 → (a : ℕ) → a % 4 ≡ 0 → (is_in a from (4 * words) || is_marked f a) ≡ is_marked y a
  soiled_three x y n last set_last whole some a place =
      let g : ℕ = from / 4 / 64 in
      let e : ℕ = (from / 4 + words + 63) / 64 - 1 in
      sym (soiled_whole x y (g + 1) e a whole
      ∙ ap (λ b. (nat_le (g + 1) (a / 256) && nat_lt (a / 256) e) || b) (soiled_part d x from words e n a aligned place last set_last
      ∙ ap (λ b. (is_in a from (4 * words) && a / 256 == e) || b) (soiled_part f d from words g m a aligned place masked set_))
      ∙ three_parts from words a aligned place (is_marked f a) some)

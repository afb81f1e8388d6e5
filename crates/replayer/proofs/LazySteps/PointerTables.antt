-- Pointers in a table, by ring ID
use Rattle.replayer.proofs.Words.{refl, ◌≡◌, ◌<◌, if◌then◌else◌, ℕ, true, false, List, length, nat_lt, add-one, arith, eq-eqb, eqb-true, get_or-set_same, get_or-set_other, set, fun_ext, cases_Bool, cond-true, cond-false, false≢true, put, Shape, is_crossing, Spot, Data, Link, rank, behind_blocks, further, spot_in}

pub some_taken : (shape : Shape) (n : ℕ) → 0 < n → (if is_crossing shape n then Link n else Data n) ≡ behind_blocks shape n
unfolding behind_blocks
some_taken shape n more = grind (arith, add-one)

pub none_taken : (shape : Shape) (n : ℕ) → n ≡ 0 → Data 0 ≡ behind_blocks shape n
unfolding behind_blocks
none_taken shape n none = rw none refl

pub put_in : (t : List Spot) (q : ℕ) (s : Spot) → q < length t → spot_in (set t q s) ≡ put (spot_in t) q s
put_in t q s within = fun_ext (λ r. grind (arith, cases_Bool, eqb-true, eq-eqb, get_or-set_same, get_or-set_other, false≢true))

pub further_in : (t : List Spot) (q : ℕ) (s : Spot) → q < length t → nat_lt (rank (spot_in t q)) (rank s) ≡ true →
    spot_in (set t q s) ≡ put (spot_in t) q (further (spot_in t q) s)
unfolding further
further_in t q s within before = rw before (put_in t q s within)

pub no_further : (t : List Spot) (q : ℕ) (s : Spot) → nat_lt (rank (spot_in t q)) (rank s) ≡ false → spot_in t ≡ put (spot_in t) q (further (spot_in t q) s)
unfolding further
no_further t q s past = rw past (fun_ext (λ r. grind (arith, cases_Bool, eqb-true, cond-true, cond-false)))

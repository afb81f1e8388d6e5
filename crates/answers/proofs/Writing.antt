-- What the bytes of a stream are behind one write after another
use Rattle.answers.proofs.Words.{◌≡◌, ◌∙◌, ℕ, ◌+◌, ◌-◌, ◌≤◌, List, [], ◌++◌, take, drop, length, Bool, true, false, Option, Some, None, Result, Ok, Err, ap, sym, subst, arith, append_assoc, length-drop, drop-take, take-append-drop, take-take, take_all, take-length, common_steps, Appends, Keeps, IfOk, IsOk, device_line, Begins}

pub appends_nothing : (known : Option (List ℕ)) → Appends known known []
appends_nothing None = tt
appends_nothing (Some xs) = grind (arith, common_steps)

pub kept : (a b c : Option (List ℕ)) (bs : List ℕ) → Appends a b bs → Keeps b c → Appends a c bs
kept None b c bs h k = tt
kept (Some xs) None c bs h k = absurd h
kept (Some xs) (Some ys) None bs h k = absurd k
kept (Some xs) (Some ys) (Some zs) bs h k = k ∙ h

pub joined : (a b c : Option (List ℕ)) (bs cs : List ℕ) → Appends a b bs → Appends b c cs → Appends a c (bs ++ cs)
joined None b c bs cs h k = tt
joined (Some xs) None c bs cs h k = absurd h
joined (Some xs) (Some ys) None bs cs h k = absurd k
joined (Some xs) (Some ys) (Some zs) bs cs h k = k ∙ ap (λ l. l ++ cs) h ∙ append_assoc xs bs cs

pub take_both : (bytes : List ℕ) (done n : ℕ) → take done bytes ++ take n (drop done bytes) ≡ take (done + n) bytes
take_both bytes done n =
    let fewer : done ≤ done + n = omega arith in
    ap (λ l. l ++ take n (drop done bytes)) (sym (take-take done (done + n) bytes fewer)) ∙ ap (λ l. take done (take (done + n) bytes) ++ l) (sym (drop-take done n bytes))
    ∙ take-append-drop done (take (done + n) bytes)

-- a write that took some of the bytes behind those that stand there
pub more : (a b c : Option (List ℕ)) (bytes : List ℕ) (done n : ℕ) → Appends a b (take done bytes) → Appends b c (take n (drop done bytes)) →
    Appends a c (take (done + n) bytes)
more a b c bytes done n h k = subst (λ (l : List ℕ). Appends a c l) (take_both bytes done n) (joined a b c (take done bytes) (take n (drop done bytes)) h k)

-- what is left behind the bytes that are done
pub rest_of : (bytes : List ℕ) (done : ℕ) → take (length bytes - done) (drop done bytes) ≡ drop done bytes
rest_of bytes done = let enough : length (drop done bytes) ≤ length bytes - done = omega (arith, length-drop done bytes) in take_all (length bytes - done) (drop done bytes) enough

pub begun : (a b : Option (List ℕ)) (bytes : List ℕ) → Appends a b bytes → Begins a b bytes
begun a b bytes h = (length bytes, subst (λ (l : List ℕ). Appends a b l) (sym (take-length bytes)) h)

-- what is told of standard output, with the explanation that could be had
pub device_noted : {N F : Type 0} (bytes : N → List ℕ) (IsRight : List ℕ → Type 0) (note : Result N F) (errs : List ℕ) (a b : Option (List ℕ)) → IsOk note → IfOk note (λ n. IsRight (bytes n)) →
    IfOk note (λ n. errs ≡ device_line ++ bytes n) → Begins a b errs → (x : List ℕ) × IsRight x × Begins a b (device_line ++ x)
device_noted bytes IsRight (Ok n) errs a b ok plain is h = (bytes n, plain, subst (λ (l : List ℕ). Begins a b l) is h)
device_noted bytes IsRight (Err e) errs a b ok plain is h = absurd (never ok)
  where
    never : false ≡ true → ⊥
    never e = cc

-- a beginning of the first text, and nothing behind it
pub noted : (a b : Option (List ℕ)) (text : List ℕ) → Begins a b text → Begins a b (text ++ [])
noted a b text h = subst (λ (l : List ℕ). Begins a b l) (append_nil_is text) h
  where
    append_nil_is : (xs : List ℕ) → xs ≡ xs ++ []
    append_nil_is xs = grind (arith, common_steps)

-- where nothing was written, that is a beginning of any text
pub nothing_begun : (known : Option (List ℕ)) (text : List ℕ) → Begins known known text
nothing_begun known text = (0, appends_nothing known)

-- what is told with the explanation that could be had
pub told_note : {N F : Type 0} (bytes : N → List ℕ) (IsRight : List ℕ → Type 0) (note : Result N F) (text errs : List ℕ) → IsOk note → IfOk note (λ n. IsRight (bytes n)) →
    IfOk note (λ n. errs ≡ text ++ bytes n) → (x : List ℕ) × IsRight x × (errs ≡ text ++ x)
told_note bytes IsRight (Ok n) text errs ok plain is = (bytes n, plain, is)
told_note bytes IsRight (Err e) text errs ok plain is = absurd (never ok)
  where
    never : false ≡ true → ⊥
    never e = cc

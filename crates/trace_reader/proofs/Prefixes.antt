-- What was read so far, before what is still to be read
use Rattle.trace_reader.proofs.Words.{◌≡◌, ◌∷◌, ◌++◌, ◌∙◌, List, [], Option, Some, ap, sym, map, arith, option_map, common_steps, cons}

-- all of them, where the later ones are there
abbrev pub behind : {A : Type 0} → List A → Option (List A) → Option (List A)
behind done later = option_map (λ rest. done ++ rest) later

pub one_more : {A : Type 0} (done : List A) (x : A) (later : Option (List A)) → behind done (cons (Some x) later) ≡ behind (done ++ x ∷ []) later
one_more done x later = grind (arith, common_steps)

pub nothing_behind : {A : Type 0} (done : List A) → behind done (Some []) ≡ Some done
nothing_behind done = ap Some (grind (arith, common_steps))

pub one_mapped : {A B : Type 0} (f : A → B) (done : List A) (x : A) (later : Option (List B)) → behind (map f done) (cons (Some (f x)) later) ≡ behind (map f (done ++ x ∷ [])) later
one_mapped f done x later = one_more (map f done) (f x) later ∙ ap (λ xs. behind xs later) (sym (grind (arith, common_steps)))

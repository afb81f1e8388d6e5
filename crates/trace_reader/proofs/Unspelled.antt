-- A refused text spells no trace
use Rattle.trace_reader.proofs.UpperLaws.{arith, rules, ◌≡◌, ℕ, List, Bool, true, false, Result, Ok, Err, IfOk, IfErr, LineFault, ReadFault, IfBadLine, TraceText, trace_of, spells, IsTrace, read_if_spelled}

-- what is refused is no value that is spelled, where each valid one that is spelled is read
pub none_spelled : {T : Type 0} (reads : Result T (ℕ × LineFault)) (spelled : T → Bool) (Is : T → Type 0) → ((t : T) → spelled t ≡ true → Is t → reads ≡ Ok t) →
    (e : ReadFault) → IfBadLine e (λ line code. reads ≡ Err (line, code)) → IfBadLine e (λ line code. (t : T) → Is t → spelled t ≡ false)
none_spelled reads spelled Is read e refused = grind (arith, Bool)

pub refused_unspelled : (keeps : Bool) (text : List ℕ) (e : ReadFault) → IfBadLine e (λ line code. trace_of keeps text ≡ Err (line, code)) →
    IfBadLine e (λ line code. (trace : TraceText) → IsTrace keeps trace → spells trace text ≡ false)
refused_unspelled keeps text e refused = none_spelled (trace_of keeps text) (λ trace. spells trace text) (IsTrace keeps) (λ trace spelled is. read_if_spelled keeps text trace spelled is) e refused

pub ok_also : {T E : Type 0} {P Q : T → Type 0} (r : Result T E) → ((x : T) → P x → Q x) → IfOk r P → IfOk r Q
ok_also r f is = search rules

pub err_also : {T E : Type 0} {P Q : E → Type 0} (r : Result T E) → ((e : E) → P e → Q e) → IfErr r P → IfErr r Q
err_also r f is = search rules

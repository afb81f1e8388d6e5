-- That what is right of the bytes of an input is right of the input, of which nothing may be known
use Rattle.command_runs.proofs.Words.{arith, Answer, Bool, Err, IfSome, IsCheckAnswer, IsHindered, IsPlanAnswer, IsTextOf, IsTraceAnswer, IsUnread, List, Memory, None, Ok, Option, OutOfMemory, ReadFault, Some, TraceText, answer_of_fault, begun, false, kept_bytes, spelling, subst, trace_of, ℕ, ◌≡◌}
use Rattle.trace_reader.specs.Entries.{IfBadLine}
use Rattle.trace_reader.specs.declared.fault.ReadFault.TheVariants.{Line}

-- ---- traces

pub text_held : (keeps : Bool) (known : Option (List ℕ)) (text : List ℕ) (trace : TraceText) → IfSome known (λ xs. text ≡ xs) → trace_of keeps text ≡ Ok trace → IsTextOf keeps known trace
text_held keeps given2 text trace same read = grind (arith, trace_of)

pub unread_held : (keeps : Bool) (known : Option (List ℕ)) (text : List ℕ) (fault : ReadFault) → IfSome known (λ xs. text ≡ xs) → IfBadLine fault (λ line code. trace_of keeps text ≡ Err (line, code)) →
    IsUnread keeps known (answer_of_fault fault)
unread_held keeps None text (Line line code) same bad = tt
unread_held keeps (Some xs) text (Line line code) same bad = subst (λ (l : List ℕ). trace_of keeps l ≡ Err (line, code)) same bad
unread_held keeps known text OutOfMemory same bad = tt

pub answer_held : (keeps : Bool) (IsRight : TraceText → Answer → Type 0) (known : Option (List ℕ)) (text : List ℕ) (a : Answer) → IfSome known (λ xs. text ≡ xs) → IsTraceAnswer keeps IsRight (Some text) a →
    IsTraceAnswer keeps IsRight known a
answer_held keeps given2 given3 text a same right = grind arith

-- ---- checks

forget_check : {C : Type 0} (keeps shows : Bool) (contents : C → Option (List ℕ)) (before after : Option C) (text : List ℕ) (a : Answer) → IsCheckAnswer keeps shows contents before after (Some text) a → IsCheckAnswer keeps shows contents before after None a
forget_check keeps shows contents before after text given7 right = grind arith

pub check_held : {C : Type 0} (keeps shows : Bool) (contents : C → Option (List ℕ)) (before after : Option C) (known : Option (List ℕ)) (text : List ℕ) (a : Answer) → IfSome known (λ xs. text ≡ xs) →
    IsCheckAnswer keeps shows contents before after (Some text) a → IsCheckAnswer keeps shows contents before after known a
check_held keeps shows contents before after given6 text a same right = grind (arith, forget_check)

pub hindered_held : {C : Type 0} (keeps : Bool) (contents : C → Option (List ℕ)) (before after : Option C) (known : Option (List ℕ)) (text : List ℕ) → IfSome known (λ xs. text ≡ xs) →
    IsHindered keeps contents before after (Some text) → IsHindered keeps contents before after known
hindered_held keeps contents before after known text same hindered = check_held keeps false contents before after known text Memory same hindered

-- where an answer can't be told for want of memory, the certificate may stand there whole
pub hindered : {C : Type 0} (keeps shows : Bool) (contents : C → Option (List ℕ)) (before after : Option C) (known : Option (List ℕ)) (a : Answer) → IsCheckAnswer keeps shows contents before after known a → IsHindered keeps contents before after known
hindered keeps shows contents before after known given7 right = grind (arith, begun, kept_bytes, spelling)

-- ---- plans

pub plan_held : (known : Option (List ℕ)) (text : List ℕ) (a : Answer) → IfSome known (λ xs. text ≡ xs) → IsPlanAnswer (Some text) a → IsPlanAnswer known a
plan_held given1 text a same right = grind arith

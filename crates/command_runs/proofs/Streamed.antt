-- That what is right of the text that a device gave, with what it still holds, is right of the input, of which nothing may be known
use Rattle.command_runs.proofs.Words.{arith, IsFollowAnswer, IsToldBad, IsToldOfBytes, IsToldSoFar, ToldSoFar, ap, told_as_it_comes, None, ◌∙◌, Accepted, Answer, Bool, Err, FoundHarm, IfBadLineIn, IfErr, IfOk, IfRefusedIn, IsBadLine, IsCheckAnswer, IsFirstBad, IsHarmFound, IsHindered, IsKept, IsKeptInPart, IsSound, IsVerdictAlone, IsVerdictBeside, IsVerified, Lease, LineFault, List, OfStream, OfTrace, Ok, Option, Result, Some, StreamCheckFault, StreamFault, TraceText, Unread, Verified, answer_of_check_fault, answer_of_stream_fault, false, inl, inr, is_some, known_text, length, not, refl, trace_verdict, trace_of, true, ℕ, ◌≡◌, Line, NoDevice, NoMemory, IfBadLine, RefusedRow, IsTextOf, IsTraceAnswer, IsUnread}

text_known : (keeps : Bool) (known known' : Option (List ℕ)) (trace : TraceText) → OfStream known known' (λ text. trace_of keeps text ≡ Ok trace) → IsTextOf keeps known trace
text_known keeps given2 known' trace read = grind (arith, known_text, trace_of)

bad_known : (keeps : Bool) (known known' : Option (List ℕ)) (line : ℕ) (fault : LineFault) → IsBadLine keeps known known' line fault → IsFirstBad keeps known line fault
bad_known keeps given2 known' line fault bad = grind (arith, known_text, trace_of)

pub unread_right : (keeps : Bool) (known known' : Option (List ℕ)) (fault : StreamFault) → IfBadLine fault (IsBadLine keeps known known') → IsUnread keeps known (answer_of_stream_fault fault)
unread_right keeps known known' (Line line fault) bad = bad_known keeps known known' line fault bad
unread_right keeps known known' NoDevice bad = tt
unread_right keeps known known' NoMemory bad = tt

-- ---- where no certificate is asked for

pub counted_right : (keeps : Bool) (known known' : Option (List ℕ)) (count : ℕ) → OfTrace keeps known known' (λ trace. (leases : List Lease) × IsSound trace leases × (count ≡ length leases)) →
    IsTraceAnswer keeps IsVerdictAlone known (Accepted count)
counted_right keeps known known' count (trace, read, (leases, sound, counted)) =
    inr (trace, text_known keeps known known' trace read, (leases, sound, counted, tt))

pub unaccepted_right : (keeps : Bool) (known known' : Option (List ℕ)) (fault : StreamCheckFault) →
    IfRefusedIn fault (λ row c. OfTrace keeps known known' (λ trace. trace_verdict trace.header trace.first trace.rows ≡ Some (row, c))) →
    IfBadLineIn fault (IsBadLine keeps known known') → IsTraceAnswer keeps IsVerdictAlone known (answer_of_check_fault fault)
unaccepted_right keeps known known' (RefusedRow row c) refused bad = inr (refused.0, text_known keeps known known' refused.0 refused.1, ((refl, refused.2), refl))
unaccepted_right keeps known known' (Unread fault) refused bad = inl (unread_right keeps known known' fault bad)

-- what is right of a trace alone is right where none is asked for
pub alone_right : {C : Type 0} (keeps : Bool) (contents : C → Option (List ℕ)) (before : Option C) (known : Option (List ℕ)) (a : Answer) → is_some before ≡ not true → IsTraceAnswer keeps IsVerdictAlone known a →
    IsCheckAnswer keeps false contents before before known a
alone_right keeps contents given3 known a none right = grind arith

-- ---- where a trace is judged as it comes

told_known : (known known' : Option (List ℕ)) (told : ToldSoFar) → IsToldSoFar false known known' told → IsToldOfBytes known told
told_known None known' told so = tt
told_known (Some bytes) None told (came, used, all) = absurd used
told_known (Some bytes) (Some left) told (came, used, all) = ap (told_as_it_comes false) used ∙ all left

bad_told_known : (known known' : Option (List ℕ)) (line : ℕ) (fault : LineFault) → IsToldBad false known known' line fault → IsToldOfBytes known (Err (line, fault))
bad_told_known None known' line fault so = tt
bad_told_known (Some bytes) known' line fault so = known_text bytes known' (λ text. told_as_it_comes false text ≡ Err (line, fault)) so

pub followed_right : (known known' : Option (List ℕ)) (fault : StreamCheckFault) → IfRefusedIn fault (λ row c. IsToldSoFar false known known' (Ok (Some (row, c)))) →
    IfBadLineIn fault (IsBadLine false known known') → IfBadLineIn fault (IsToldBad false known known') → IsFollowAnswer known (answer_of_check_fault fault)
followed_right known known' (RefusedRow row c) refused bad before = told_known known known' (Ok (Some (row, c))) refused
followed_right known known' (Unread (Line line fault)) refused bad before = (bad_known false known known' line fault bad, bad_told_known known known' line fault before)
followed_right known known' (Unread NoDevice) refused bad before = tt
followed_right known known' (Unread NoMemory) refused bad before = tt

-- ---- where one is asked for

pub unkept_right : {C : Type 0} (keeps : Bool) (contents : C → Option (List ℕ)) (before : Option C) (known known' : Option (List ℕ)) (fault : StreamCheckFault) →
    IfRefusedIn fault (λ row c. OfTrace keeps known known' (λ trace. trace_verdict trace.header trace.first trace.rows ≡ Some (row, c))) →
    IfBadLineIn fault (IsBadLine keeps known known') → IsCheckAnswer keeps false contents before before known (answer_of_check_fault fault)
unkept_right keeps contents before known known' (RefusedRow row c) refused bad = (refused.0, text_known keeps known known' refused.0 refused.1, ((refl, refused.2), refl))
unkept_right keeps contents before known known' (Unread (Line line fault)) refused bad = (bad_known keeps known known' line fault bad, refl)
unkept_right keeps contents before known known' (Unread NoDevice) refused bad = inl refl
unkept_right keeps contents before known known' (Unread NoMemory) refused bad = inl refl

pub kept_right : {C : Type 0} (keeps : Bool) (contents : C → Option (List ℕ)) (before after : Option C) (known known' : Option (List ℕ)) (leases : List Lease) (count : ℕ) →
    OfTrace keeps known known' (λ trace. IsSound trace leases) → count ≡ length leases → IsKept contents before after leases → IsCheckAnswer keeps false contents before after known (Accepted count)
kept_right keeps contents before after known known' leases count (trace, read, sound) counted kept =
    (trace, text_known keeps known known' trace read, (leases, sound, counted, kept))

pub cut_right : {C T E : Type 0} (keeps : Bool) (contents : C → Option (List ℕ)) (before after : Option C) (known known' : Option (List ℕ)) (leases : List Lease) (r : Result T E) →
    OfTrace keeps known known' (λ trace. IsSound trace leases) → IsKeptInPart contents before after leases → IfErr r (λ e. IsHindered keeps contents before after known)
cut_right keeps contents before after known known' leases (Ok value) sound begun = tt
cut_right keeps contents before after known known' leases (Err e) (trace, read, sound) begun = inr (trace, text_known keeps known known' trace read, (leases, sound.accepted, begun))

-- ---- leases beside a trace

pub verified_right : (leases : List Lease) (known known' : Option (List ℕ)) (holds : Bool) → OfTrace false known known' (λ trace. IsVerified trace leases holds) → IsVerdictBeside leases known (Verified holds)
verified_right leases known known' holds (trace, read, right) = inr (trace, text_known false known known' trace read, right)

-- ---- a run that does harm

pub harm_found : {E : Type 0} (text : List ℕ) (kept : TraceText) (row : ℕ) (r : Result (Option FoundHarm) E) → trace_of true text ≡ Ok kept → IfOk r (λ found. IsHarmFound kept row found) →
    IfOk r (λ found. (trace : TraceText) → trace_of true text ≡ Ok trace → IsHarmFound trace row found)
harm_found text kept row given4 read harms = grind (arith, trace_of)

-- That an answer that is told is right of the input
use Rattle.answers.proofs.Words.{◌≡◌, ◌∙◌, ℕ, List, [], ◌++◌, Bool, Option, Some, None, ◌⊎◌, inl, inr, refl, IfSome, ErrorKind, OutOfMemory, answer_of_kind, IsNoteOnFailure, IsPlainNote, IsTold, Answer, Memory, Device, Status}

-- the answer that was told, or want of memory in its place
pub told_right : (IsRight : Answer → Type 0) (explains : Bool) (a : Answer) (result : Status) (out out' err err' : Option (List ℕ)) → IsRight a → IsRight Memory →
    IsTold explains a result out out' err err' ⊎ IsTold explains Memory result out out' err err' → (x : Answer) × IsRight x × IsTold explains x result out out' err err'
told_right IsRight explains a result out out' err err' right memory (inl told) = (a, right, told)
told_right IsRight explains a result out out' err err' right memory (inr told) = (Memory, memory, told)

-- the bytes of an input are those that were read
pub read_is : (known : Option (List ℕ)) (start text : List ℕ) → start ≡ [] → IfSome known (λ xs. text ≡ start ++ xs) → IfSome known (λ xs. text ≡ xs)
read_is None start text e h = tt
read_is (Some xs) start text e h = h ∙ rw e refl

-- a fault of the input is told as want of memory or as a fault of the device
pub failure : (IsRight : Answer → Type 0) → IsRight Memory → IsRight Device → (kind : ErrorKind) → IsRight (answer_of_kind kind)
failure IsRight memory device OutOfMemory = memory
failure IsRight memory device _ = device

-- what is told of a failure stands behind the answer to it, and behind that a device failed
pub plain_answer : (name : List ℕ) (kind : ErrorKind) (note : List ℕ) → IsNoteOnFailure name kind note → IsPlainNote (answer_of_kind kind) note
plain_answer name OutOfMemory note h = inl h
plain_answer name _ note h = inr (refl, name, h)

pub plain_device : (name : List ℕ) (kind : ErrorKind) (note : List ℕ) → IsNoteOnFailure name kind note → IsPlainNote Device note
plain_device name OutOfMemory note h = inl h
plain_device name _ note h = inr (refl, name, h)

-- What a run writes to the two streams, and how it ends
use Rattle.std.specs.Prelude.{◌≡◌, ◌⊎◌, ℕ, List, [], ◌++◌, take, Bool, true, false, if◌then◌else◌, Option, Result, Ok, is_err, codes}
use Rattle.std.specs.Io.KnownBytes.{Appends}
use Rattle.std.specs.declared.io.ErrorKind.{ErrorKind}
use Rattle.std.specs.declared.io.ErrorKind.TheVariants.{OutOfMemory}
use Rattle.answers.specs.Answers.{device_line, err_text, goes_out, out_text, status_of, text_of}
use Rattle.answers.specs.declared.answer.Answer.{Answer}
use Rattle.answers.specs.declared.answer.Answer.TheVariants.{Device}
use Rattle.answers.specs.declared.answer.Status.{Status}
use Rattle.answers.specs.declared.answer.Status.TheVariants.{Unanswered}

-- a beginning of the text, which may be all of it or nothing, was written behind the bytes before, where these are known
abbrev pub Begins : Option (List ℕ) → Option (List ℕ) → List ℕ → Type 0
Begins before after text = (n : ℕ) × Appends before after (take n text)

-- a line that names what failed, and says why
abbrev pub IsReason : List ℕ → List ℕ → Type 0
IsReason name note = (reason : List ℕ) × (note ≡ codes "xhcitrace: " ++ (name ++ (codes ": " ++ (reason ++ codes "\n"))))

-- what is told of an input or a stream of this name that failed so; want of memory is told without
abbrev pub IsNoteOnFailure : List ℕ → ErrorKind → List ℕ → Type 0
IsNoteOnFailure name OutOfMemory note = note ≡ []
IsNoteOnFailure name _ note = IsReason name note

-- what stands behind an answer where nothing is explained: nothing, or behind a fault of a file or a stream the line that names it
abbrev pub IsPlainNote : Answer → List ℕ → Type 0
IsPlainNote answer note = (note ≡ []) ⊎ ((answer ≡ Device) × (name : List ℕ) × IsReason name note)

-- what stands behind an answer: an explanation only where one was asked for
abbrev pub IsNote : Bool → Answer → List ℕ → Type 0
IsNote explains answer note = explains ≡ false → IsPlainNote answer note

-- how the texts for standard output and for standard error were written: whole; or cut short with status 3, where standard output
-- failed, which standard error is told, unless nobody reads the output any more, or where standard error failed
pub data IsWritten (status : Status) (outs errs : List ℕ) (result : Status) (out out' err err' : Option (List ℕ)) : Type 0 where
  whole : result ≡ status → Appends out out' outs → Appends err err' errs → IsWritten status outs errs result out out' err err'
  output_failed : (note : List ℕ) → IsPlainNote Device note → result ≡ Unanswered → Begins out out' outs → Begins err err' (device_line ++ note)
      → IsWritten status outs errs result out out' err err'
  error_failed : result ≡ Unanswered → Appends out out' outs → Begins err err' errs → IsWritten status outs errs result out out' err err'

-- how an answer was told: its text on its stream, and an explanation behind it on standard error
abbrev pub IsTold : Bool → Answer → Status → Option (List ℕ) → Option (List ℕ) → Option (List ℕ) → Option (List ℕ) → Type 0
IsTold explains answer result out out' err err' =
    (note : List ℕ) × IsNote explains answer note × IsWritten (status_of answer) (out_text answer) (err_text answer ++ note) result out out' err err'

-- the text of the answer to one of several inputs: the input's name stands before it
abbrev pub named_text : List ℕ → Answer → List ℕ
named_text name answer = (name ++ codes ": ") ++ text_of answer

-- what of it goes to standard output, and what to standard error
abbrev pub named_out : List ℕ → Answer → List ℕ
named_out name answer = if goes_out (status_of answer) then named_text name answer else []

abbrev pub named_err : List ℕ → Answer → List ℕ
named_err name answer = if goes_out (status_of answer) then [] else named_text name answer

-- how the answer to one of several inputs was told: whole, with its status, its text on its stream and an explanation behind it on
-- standard error; or, where memory or a stream failed, a beginning of both
pub data IsToldOf {E : Type 0} (name : List ℕ) (explains : Bool) (answer : Answer) (result : Result Status E) (out out' err err' : Option (List ℕ)) : Type 0 where
  whole : (note : List ℕ) → IsNote explains answer note → result ≡ Ok (status_of answer) → Appends out out' (named_out name answer) → Appends err err' (named_err name answer ++ note)
      → IsToldOf name explains answer result out out' err err'
  cut : (note : List ℕ) → IsNote explains answer note → is_err result ≡ true → Begins out out' (named_out name answer) → Begins err err' (named_err name answer ++ note)
      → IsToldOf name explains answer result out out' err err'

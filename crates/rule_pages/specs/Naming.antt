-- How a user calls what there is a page on
use Rattle.std.specs.Prelude.{◌≡◌, ◌⊎◌, ℕ, ◌+◌, ◌/◌, ◌%◌, List, [], ◌∷◌, map, nat_lt, if◌then◌else◌}
use Rattle.std.specs.Char.{to_ascii_lowercase}
use Rattle.rule_pages.specs.Subjects.{harm_name, harm_word, name_of, number_of}
use Rattle.rule_pages.specs.declared.subject.Subject.{Subject}
use Rattle.rule_pages.specs.declared.subject.Subject.TheVariants.{Rule, Line, Certificate, Plan, Device, Harm}

-- the decimal digits of a number below 100
abbrev pub digits_below_100 : ℕ → List ℕ
digits_below_100 n = if nat_lt n 10 then (48 + n) ∷ [] else (48 + n / 10) ∷ (48 + n % 10) ∷ []

-- the word is this one, in upper or lower case
abbrev pub IsSpelled : List ℕ → List ℕ → Type 0
IsSpelled name word = map to_ascii_lowercase word ≡ map to_ascii_lowercase name

-- the word is the number in decimal digits, or the name
abbrev pub IsNumberOrName : ℕ → List ℕ → List ℕ → Type 0
IsNumberOrName number name word = (word ≡ digits_below_100 number) ⊎ IsSpelled name word

-- the word is the number in decimal digits or the name, in upper or lower case; of a harm, whose number another has too, the words that
-- are printed, with a space or a hyphen
abbrev pub IsCalled : Subject → List ℕ → Type 0
IsCalled (Rule rule) word = IsNumberOrName (number_of (Rule rule)) (name_of (Rule rule)) word
IsCalled (Line fault) word = IsNumberOrName (number_of (Line fault)) (name_of (Line fault)) word
IsCalled (Certificate fault) word = IsNumberOrName (number_of (Certificate fault)) (name_of (Certificate fault)) word
IsCalled (Plan refusal) word = IsNumberOrName (number_of (Plan refusal)) (name_of (Plan refusal)) word
IsCalled Device word = IsNumberOrName (number_of Device) (name_of Device) word
IsCalled (Harm harm) word = IsSpelled (harm_name harm) word ⊎ IsSpelled (harm_word harm) word

-- The first of the rules that are broken
use Rattle.std.specs.Prelude.{if◌then◌else◌, List, [], ◌∷◌, Option, Some, None}
use Rattle.ownership_rules.specs.declared.refusal.Refusal.{Refusal}
use Rattle.ownership_rules.specs.Refusal.{Test}

-- the first of the rules that are broken: the least, since a row's rules stand in ascending order
abbrev pub first_of : List Refusal → Option Refusal
first_of [] = None
first_of (c ∷ cs) = Some c

-- the first rule that is broken, test by test
abbrev pub first_broken : List Test → Option Refusal
first_broken [] = None
first_broken (t ∷ ts) = if t.1 then Some t.0 else first_broken ts

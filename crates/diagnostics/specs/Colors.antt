-- The colours of what is told, as rustc has them: escape sequences of terminals (ECMA-48, SGR)
use Rattle.std.specs.Prelude.{ℕ, List, ◌∷◌, ◌++◌, codes}
use Rattle.diagnostics.specs.declared.colors.Colors.{Colors}
use Rattle.diagnostics.specs.declared.colors.Colors.TheVariants.{Plain, Ansi}
use Rattle.diagnostics.specs.declared.colors.Part.{Part}
use Rattle.diagnostics.specs.declared.colors.Part.TheVariants.{Error, Head, Frame, Help}

-- what begins a part: bold, and for all but a head bright red, blue or cyan
abbrev pub begin_of : Part → List ℕ
begin_of Error = 27 ∷ codes "[1;91m"
begin_of Head = 27 ∷ codes "[1m"
begin_of Frame = 27 ∷ codes "[1;94m"
begin_of Help = 27 ∷ codes "[1;96m"

-- a text behind what begins a colour, and what ends it
abbrev pub colored : List ℕ → List ℕ → List ℕ
colored begin text = begin ++ (text ++ (27 ∷ codes "[0m"))

-- a text as such a part: as it is, where there are no colours
abbrev pub painted : Colors → Part → List ℕ → List ℕ
painted Plain part text = text
painted Ansi part text = colored (begin_of part) text

-- What a program is as it is read: its classes stand behind their superclasses, and each under a name of its own, and each method has a class and a text.
use Rattle.std.specs.Prelude.{◌≢◌, ℕ, suc, ◌<◌, List, [], ◌∷◌, length, map, All, Option, IfSome}
use Rattle.std.specs.List.{AllPairs}
use Rattle.st80_program.specs.declared.program.Class.{Class}
use Rattle.st80_program.specs.declared.program.Program.{Program}
use Rattle.st80_program.specs.declared.program.Written.{Written}
use Rattle.st80_program.specs.declared.reading.Reading.{Reading}
use Rattle.st80_program.specs.declared.reading.Reading.TheVariants as reading
use Rattle.st80_program.specs.declared.reading.Next.{Next}
use Rattle.st80_program.specs.declared.reading.Next.TheVariants as next

abbrev pub names_of : List Class → List (List ℕ)
names_of = map (λ class. class.name.items)

abbrev pub superclasses_of : List Class → List (Option ℕ)
superclasses_of = map (λ class. class.superclass)

-- each class, of which the first has this number, has a superclass before it or none
unfoldable pub AreBefore : ℕ → List (Option ℕ) → Type 0
AreBefore n [] = Unit {0}
AreBefore n (above ∷ others) = IfSome above (λ number. number < n) × AreBefore (suc n) others

-- a method has a class of so many, and one of so many texts
abbrev pub IsHoused : ℕ → ℕ → Written → Type 0
IsHoused classes texts written = (written.class < classes) × (written.source < texts)

-- a program of so many texts
pub record IsProgram (texts : ℕ) (program : Program) : Type 0 where
  pub ordered : AreBefore 0 (superclasses_of program.classes.items)
  -- no two classes have one name
  pub apart : AllPairs (λ a b. a ≢ b) (names_of program.classes.items)
  pub housed : All (IsHoused (length program.classes.items) texts) program.methods.items
  pub begins : IfSome program.start (λ written. written.source < texts)

-- what texts are read as
abbrev pub IsRead : ℕ → Reading → Type 0
IsRead texts (reading.Program program) = IsProgram texts program
IsRead texts (reading.Wrong problem) = Unit {0}

-- where methods come next, their class is there
abbrev pub IsNext : ℕ → Next → Type 0
IsNext classes next.Any = Unit {0}
IsNext classes next.Header = Unit {0}
IsNext classes (next.Method class is_meta) = class < classes

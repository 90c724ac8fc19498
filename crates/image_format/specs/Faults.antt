-- Why no record was read.
use Rattle.std.specs.Prelude.{◌≡◌, ℕ, ◌-◌, List, length, Result, Ok, Err}
use Rattle.image_format.specs.declared.fault.Halt.{Halt}
use Rattle.image_format.specs.declared.fault.Break.{Break}
use Rattle.image_format.specs.declared.fault.RecFault.{RecFault}
use Rattle.image_format.specs.declared.fault.RecFault.TheVariants.{Bad, Memory}
use Rattle.image_format.specs.Reading.{record_at}

-- the bytes are refused
abbrev pub IsBad : {A : Type 0} → Result A RecFault → Type 0
IsBad (Ok x) = ⊥
IsBad (Err (Bad rule at)) = Unit {0}
IsBad (Err Memory) = ⊥

-- the rule that broke, and the offset of the field that broke it, of so many bytes
abbrev pub break_of : ℕ → Halt → Break
break_of len h = record { rule = h.rule; place = len - h.left }

-- what was read, or the first break
abbrev pub told : {A : Type 0} → ℕ → Result (A × List ℕ) Halt → Result A Break
told len (Ok x) = Ok x.0
told len (Err h) = Err (break_of len h)

-- a refusal has the first rule that breaks as a record is read, and the offset of the field that breaks it
abbrev pub IsPlaced : {A : Type 0} → Result A RecFault → List ℕ → Type 0
IsPlaced (Ok x) bytes = Unit {0}
IsPlaced (Err (Bad rule at)) bytes = told (length bytes) (record_at bytes) ≡ Err (record { rule = rule; place = at })
IsPlaced (Err Memory) bytes = Unit {0}

-- What the private readers of an image answer.
use Rattle.std.specs.Prelude.{◌≡◌, ℕ, ◌+◌, ◌&&◌, nat_lt, not, Bool, false, List, Option, Some, None, Result, Ok, Err}
use Rattle.long_names.specs.declared.object.Rec.{Rec}
use Rattle.image_format.specs.declared.fault.Halt.{Halt}
use Rattle.image_format.specs.declared.opening.Opening.{Opening}
use Rattle.image_format.specs.Reading.{◌>>=◌}
use Rattle.image_format.specs.Rules.{end_at, records_at}
use Rattle.st80_objects.specs.declared.fault.ImageFault.{ImageFault}
use Rattle.st80_objects.specs.declared.fault.ImageFault.TheVariants.{Broken, Memory}

-- reading so many bytes breaks off at this rule and offset
abbrev pub IsHalted : {X : Type 0} → ℕ → Result (X × List ℕ) Halt → ImageFault → Type 0
IsHalted len read (Broken b) = (h : Halt) × (read ≡ Err h) × (h.rule ≡ b.rule) × (b.place + h.left ≡ len)
IsHalted len read Memory = Unit {0}

-- a rule that breaks at an offset
abbrev pub broken_at : ℕ → ℕ → ImageFault
broken_at rule place = Broken (record { rule = rule; place = place })

-- the name that was read
abbrev pub name_in : Result (ℕ × List ℕ) Halt → Option ℕ
name_in (Ok n) = Some n.0
name_in (Err h) = None

-- a name that isn't above the one before it and below the next name
abbrev pub is_out_of_order : ℕ → ℕ → Option ℕ → Bool
is_out_of_order last next (Some n) = not (nat_lt last n && nat_lt n next)
is_out_of_order last next None = false

-- the objects behind an opening, with nothing behind them
abbrev pub objects_at : Opening → List ℕ → Result (List Rec × List ℕ) Halt
objects_at opening bytes = do
  recs ← records_at opening.objects 0 opening.next bytes
  end ← end_at recs.1
  Ok (recs.0, end.1)

-- What the private readers and writers answer. No public clause stands on it.
use Rattle.std.specs.Prelude.{◌≡◌, ℕ, ◌+◌, ◌-◌, ◌<◌, ◌≤◌, List, ◌++◌, length, Result, Ok, Err}
use Rattle.long_names.specs.declared.object.Rec.{Rec}
use Rattle.long_names.specs.declared.limits.TheConstants.{LONGEST_RECORD}
use Rattle.image_format.specs.declared.fault.Halt.{Halt}
use Rattle.image_format.specs.declared.fault.NoRecord.{NoRecord}
use Rattle.image_format.specs.declared.fault.NoRecord.TheVariants.{Halted, Memory}
use Rattle.image_format.specs.declared.fault.RecFault.{RecFault}
use Rattle.image_format.specs.declared.fault.RecFault.TheVariants as rec_fault
use Rattle.image_format.specs.declared.reading.RecMeasure.{RecMeasure}
use Rattle.image_format.specs.Reading.{record_at}

-- ---- writing

-- what was there, and maybe more
abbrev pub Extends : List ℕ → List ℕ → Type 0
Extends old new = (tail : List ℕ) × (new ≡ old ++ tail)

-- ---- reading

-- what a reader returned, seen by view, with the bytes that it left unread, is what reading gives
abbrev pub Shows : {X Y : Type 0} → (X → Y) → Result X Halt → List ℕ → Result (Y × List ℕ) Halt → Type 0
Shows view (Ok x) unread read = read ≡ Ok (view x, unread)
Shows view (Err h) unread read = read ≡ Err h

abbrev pub Reads : {X : Type 0} → Result X Halt → List ℕ → Result (X × List ℕ) Halt → Type 0
Reads result unread read = Shows (λ x. x) result unread read

-- the same, unless memory ran out
abbrev pub Fails : {X : Type 0} → NoRecord → Result (X × List ℕ) Halt → Type 0
Fails Memory read = Unit {0}
Fails (Halted h) read = read ≡ Err h

abbrev pub Gives : {X : Type 0} → Result X NoRecord → List ℕ → Result (X × List ℕ) Halt → Type 0
Gives (Ok x) unread read = read ≡ Ok (x, unread)
Gives (Err e) unread read = Fails e read

-- what was read isn't kept
abbrev pub Passes : {X : Type 0} → Result (Unit {0}) Halt → List ℕ → Result (X × List ℕ) Halt → Type 0
Passes {X = X} (Ok u) unread read = (x : X) × (read ≡ Ok (x, unread))
Passes (Err h) unread read = read ≡ Err h

-- a record that was read has this length, and what is no record is refused
abbrev pub Decodes : Result (Rec × ℕ) NoRecord → List ℕ → Type 0
Decodes (Ok x) bytes = (rest : List ℕ) × (record_at bytes ≡ Ok (x.0, rest)) × (x.1 + length rest ≡ length bytes)
Decodes (Err e) bytes = Fails e (record_at bytes)

-- the same of one that wasn't kept
abbrev pub Measures : Result RecMeasure Halt → List ℕ → Type 0
Measures (Ok m) bytes = (r : Rec) × (rest : List ℕ) × (record_at bytes ≡ Ok (r, rest)) × (m.len + length rest ≡ length bytes) × (m.name ≡ r.name) × (m.count ≡ r.count)
Measures (Err h) bytes = record_at bytes ≡ Err h

-- reading a record breaks off no later than behind the longest
abbrev pub IsNear : ℕ → NoRecord → Type 0
IsNear len Memory = Unit {0}
IsNear len (Halted h) = (h.left ≤ len) × (len < LONGEST_RECORD + 4 + h.left)

-- what is said of it
abbrev pub refusal : ℕ → NoRecord → RecFault
refusal len Memory = rec_fault.Memory
refusal len (Halted h) = rec_fault.Bad h.rule (len - h.left)

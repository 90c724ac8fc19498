-- What is judged of a whole text, by the names of its objects and by the words that hold them, and how counts are set.
use Rattle.std.specs.Prelude.{◌≡◌, ◌<◌, ◌^◌, ℕ, ◌+◌, ◌||◌, ◌==◌, nat_lt, List, [], ◌∷◌, Option, Some, None, option_map, unwrap_or, if◌then◌else◌}
use Rattle.long_names.specs.Names.{is_known}
use Rattle.loom_host.specs.declared.outside.Host.{Ghosts}
use Rattle.loom_host.specs.Work.{work_of}
use Rattle.disk_objects.specs.declared.rest.DiskRest.{DiskRest}
use Rattle.disk_objects.specs.Disk.{IsDisk, Objects}
use Rattle.disk_objects.specs.Function.{counts_of, disk_of}
use Rattle.image_format.specs.declared.fault.Break.{Break}
use Rattle.image_format.specs.Rules.{break}
use Rattle.image_reader.specs.declared.fault.LoadFault.{LoadFault}
use Rattle.image_reader.specs.declared.fault.LoadFault.TheVariants as load
use Rattle.image_reader.specs.declared.tally.Tally.{Tally}
use Rattle.image_reader.specs.Names.{is_among}
use Rattle.image_reader.specs.Tally.{counted}
use Rattle.text_lines.specs.Grammar.{Head}
use Rattle.image_text.specs.declared.fault.TextFault.{TextFault}
use Rattle.image_text.specs.declared.fault.TextFault.TheVariants.{Bad, Read, Disk, Memory}

-- ---- the first line, and the lines of objects

-- the numbers that the first line states are long words
pub record HasFits (h : Head) : Type 0 where
  pub next : h.next < 2 ^ 32
  pub clock : h.state.clock < 2 ^ 32
  pub display : h.state.display < 2 ^ 32
  pub input : h.state.input < 2 ^ 32
  pub timer : h.state.timer < 2 ^ 32
  pub tick : h.state.tick < 2 ^ 32

-- the line of a name, where these are the names of the objects: line 2 has the first
abbrev pub line_among : List ℕ → ℕ → ℕ
line_among [] name = 2
line_among (n ∷ ns) name = if n == name then 2 else line_among ns name + 1

-- what an object breaks is told with its line, and what is missing with 0
abbrev pub among_lines : List ℕ → Break → Break
among_lines names b = if nat_lt b.rule 12 then break b.rule (line_among names b.place) else break b.rule 0

-- Bad is this break, with the line of the object that breaks it
abbrev pub IsPlaced : List ℕ → Option Break → TextFault → Type 0
IsPlaced names b (Bad line rule) = option_map (among_lines names) b ≡ Some (break rule line)
IsPlaced names b (Read count) = Unit {0}
IsPlaced names b (Disk f) = Unit {0}
IsPlaced names b Memory = Unit {0}

-- ---- words

-- how many words hold a name
abbrev pub words_of : Tally → ℕ → ℕ
words_of t name = unwrap_or (counted t name) 0

-- the first name that no word holds and that isn't known
abbrev pub unheld_among : (ℕ → ℕ) → List ℕ → Option ℕ
unheld_among words [] = None
unheld_among words (n ∷ ns) = if is_known n || nat_lt 0 (words n) then unheld_among words ns else Some n

-- ---- faults

-- what is missing, without its name
abbrev pub unplaced : LoadFault → TextFault
unplaced (load.Bad rule place) = Bad 0 rule
unplaced (load.Read count) = Read count
unplaced (load.Disk f) = Disk f
unplaced load.Memory = Memory

-- a rule broke, or there was no memory
abbrev pub IsTextRule : TextFault → Type 0
IsTextRule (Bad line rule) = Unit {0}
IsTextRule (Read count) = ⊥
IsTextRule (Disk f) = ⊥
IsTextRule Memory = Unit {0}

-- ---- counts

-- objects stand on the disk, and none of them is pending
pub record HasNonePending {H : Type 0} (host : Ghosts H) (now : H) (rest : DiskRest) : Type 0 where
  pub objects : Objects
  pub is : IsDisk rest (work_of host now) objects []

-- a name was given this count; all objects stay, and the counts of other names
pub record SetsCount {H : Type 0} (host : Ghosts H) (old new : H) (rest after : DiskRest) (name count : ℕ) : Type 0 where
  pub none : HasNonePending host new after
  pub objects : disk_of host new after ≡ disk_of host old rest
  pub counts : (n : ℕ) → counts_of host new after n ≡ (if n == name then Some count else counts_of host old rest n)

-- each of these names was given its count; all objects stay, and the counts of other names
pub record SetsCounts {H : Type 0} (host : Ghosts H) (old new : H) (rest after : DiskRest) (counts_are : ℕ → ℕ) (names : List ℕ) : Type 0 where
  pub none : HasNonePending host new after
  pub objects : disk_of host new after ≡ disk_of host old rest
  pub counts : (n : ℕ) → counts_of host new after n ≡ (if is_among n names then Some (counts_are n) else counts_of host old rest n)

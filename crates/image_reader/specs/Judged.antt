-- What is judged of a whole image, by the names that are counted.
use Rattle.std.specs.Prelude.{◌≡◌, ℕ, ◌&&◌, ◌||◌, ◌==◌, nat_lt, ◌≤◌, Bool, false, IsTrue, List, [], ◌∷◌, length, take, drop, Ok, Option, Some, None, is_some, option_map, if◌then◌else◌}
use Rattle.long_names.specs.Names.{is_known, known_names}
use Rattle.long_names.specs.declared.object.Rec.{Rec}
use Rattle.loom_host.specs.declared.outside.Host.{Ghosts}
use Rattle.loom_host.specs.declared.outside.Role.TheVariants.{Image, Work}
use Rattle.disk_objects.specs.declared.rest.DiskRest.{DiskRest}
use Rattle.image_format.specs.declared.fault.Break.{Break}
use Rattle.image_format.specs.declared.head.TheConstants.{MOST_OBJECTS}
use Rattle.image_format.specs.declared.opening.ImageHead.{ImageHead}
use Rattle.image_format.specs.declared.opening.State.{State}
use Rattle.image_format.specs.Rules.{◌or◌, break, first_failing, first_missing, first_lost, has_all, is_counted, lower, image_at, object_in, words_in}
use Rattle.image_reader.specs.declared.fault.LoadFault.{LoadFault}
use Rattle.image_reader.specs.declared.fault.LoadFault.TheVariants.{Bad, Read, Disk, Memory}
use Rattle.image_reader.specs.Inside.{AreListed, IsSeen}
use Rattle.image_reader.specs.Loaded.{IsBroken, IsLoadFault, IsStored, full_of, is_of_whole, names_of, stated_by}
use Rattle.image_reader.specs.Tally.{Raises}
use Rattle.image_reader.specs.declared.tally.Tally.{Tally}
use Rattle.image_reader.specs.Window.{AreBytes}

-- ---- by the counts

-- this count is the stated one, and the name is held, or known
abbrev pub is_exact : Option ℕ → ℕ → ℕ → Bool
is_exact (Some c) name stated = stated == c && (is_known name || nat_lt 0 stated)
is_exact None name stated = false

abbrev pub missing_among : (ℕ → Option ℕ) → List ℕ → Option ℕ
missing_among at [] = None
missing_among at (n ∷ ns) = if is_some (at n) then missing_among at ns else Some n

abbrev pub lost_word : (ℕ → Option ℕ) → ℕ → Option ℕ
lost_word at n = if n == 0 || is_some (at n) then None else Some n

abbrev pub lost_in : (ℕ → Option ℕ) → State → Option ℕ
lost_in at s = lower (lost_word at s.display) (lower (lost_word at s.input) (lost_word at s.timer))

-- rule 12 and then 14
abbrev pub names_missed : (ℕ → Option ℕ) → State → Option Break
names_missed at s = option_map (break 12) (missing_among at known_names) or option_map (break 14) (lost_in at s)

-- ---- the whole image

-- what the records and the state break: `whole_break` of an image that has them
abbrev pub names_broken : List Rec → State → Option Break
names_broken recs s = first_missing (object_in recs) known_names or first_lost (object_in recs) s

abbrev pub fields_broken : List Rec → Option Break
fields_broken recs = first_failing 10 (has_all (object_in recs)) recs

abbrev pub counts_broken : List Rec → Option Break
counts_broken recs = first_failing 11 (is_counted (words_in recs)) recs

abbrev pub words_broken : List Rec → Option Break
words_broken recs = fields_broken recs or counts_broken recs

abbrev pub broken_in : List Rec → State → Option Break
broken_in recs s = fields_broken recs or (counts_broken recs or names_broken recs s)

-- the disk holds these records, and these are their names
pub record AreRead {H : Type 0} (host : Ghosts H) (now : H) (rest : DiskRest) (names : List ℕ) (recs : List Rec) (next : ℕ) : Type 0 where
  pub last : ℕ
  pub names_are : names ≡ names_of recs
  pub listed : AreListed recs last next
  pub stored : IsTrue (host.tells Work) → IsStored host now rest recs

-- these are the names of the records, and beside them the counts that they state
pub record AreStated (names stated : List ℕ) (recs : List Rec) (next : ℕ) : Type 0 where
  pub last : ℕ
  pub names_are : names ≡ names_of recs
  pub stated_are : stated ≡ stated_by recs
  pub listed : AreListed recs last next

-- Bad is what they break first
abbrev pub IsJudged : Option Break → LoadFault → Type 0
IsJudged b (Bad rule place) = b ≡ Some (break rule place)
IsJudged b (Read count) = Unit {0}
IsJudged b (Disk f) = Unit {0}
IsJudged b Memory = Unit {0}

-- the first object that holds a name of none; where there is none, all words are counted
pub record Unclosed (recs : List Rec) (old new : Tally) (name : Option ℕ) : Type 0 where
  pub first : option_map (break 10) name ≡ first_failing 10 (has_all (object_in recs)) recs
  pub all : name ≡ None → Raises (words_in recs) old new

-- a rule that broke is one of the whole image
abbrev pub IsOfWhole : LoadFault → Type 0
IsOfWhole (Bad rule place) = IsTrue (is_of_whole rule)
IsOfWhole (Read count) = Unit {0}
IsOfWhole (Disk f) = Unit {0}
IsOfWhole Memory = Unit {0}

-- The head and the records of Image were read, to its end, and the records put to the disk; these are their names and the counts that they state.
pub record ReadsRecords {H : Type 0} (host : Ghosts H) (old new : H) (room : ℕ) (rest : DiskRest) (head : ImageHead) (names stated : List ℕ) : Type 0 where
  pub recs : List Rec
  pub are : AreRead host new rest names recs head.opening.next
  pub stated_are : stated ≡ stated_by recs
  pub few : length names ≤ MOST_OBJECTS
  pub many : length names ≡ head.opening.objects
  pub seen : IsSeen head
  pub roomy : head.opening.objects ≤ room
  pub read : IsTrue (host.tells Image) → image_at (host.roles old Image).left ≡ Ok (record { head = head; recs = recs }, [])
  pub fits : IsTrue (host.tells Image) → full_of room (host.roles old Image).left ≡ None
  pub end : IsTrue (host.tells Image) → (host.roles new Image).left ≡ []
  pub bytes : IsTrue (host.tells Image) → AreBytes (host.roles old Image).left

-- why it wasn't read
abbrev pub IsReadFault : {H : Type 0} → Ghosts H → H → H → ℕ → LoadFault → Type 0
IsReadFault host old new room (Bad rule place) = IsTrue (host.tells Image) → IsBroken room (host.roles old Image).left (break rule place)
IsReadFault host old new room (Read count) = IsLoadFault host old new room (Read count)
IsReadFault host old new room (Disk f) = IsLoadFault host old new room (Disk f)
IsReadFault host old new room Memory = Unit {0}

-- the first i objects hold only names that are there, and their words are counted
pub record IsClosing (recs : List Rec) (old now : Tally) (i : ℕ) : Type 0 where
  pub raised : Raises (words_in (take i recs)) old now
  pub left : first_failing 10 (has_all (object_in recs)) recs ≡ first_failing 10 (has_all (object_in recs)) (drop i recs)

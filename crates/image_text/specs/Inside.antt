-- What reading a text and judging what it states speak of.
use Rattle.std.specs.Prelude.{◌≡◌, ◌≤◌, ℕ, true, All, IsTrue, List, [], Option, Some, Ok, length, option_map}
use Rattle.long_names.specs.declared.object.Rec.{Rec}
use Rattle.loom_host.specs.declared.outside.Host.{Ghosts}
use Rattle.loom_host.specs.declared.outside.Role.TheVariants.{Image}
use Rattle.disk_objects.specs.declared.rest.DiskRest.{DiskRest}
use Rattle.disk_objects.specs.Disk.{disk_held}
use Rattle.image_format.specs.declared.fault.Break.{Break}
use Rattle.image_format.specs.declared.head.TheConstants.{FEWEST_OBJECTS, MOST_OBJECTS}
use Rattle.image_format.specs.Heads.{is_next}
use Rattle.image_format.specs.Rules.{break}
use Rattle.image_reader.specs.Judged.{AreRead}
use Rattle.image_reader.specs.Loaded.{is_of_whole}
use Rattle.text_lines.specs.Breaks.{at_line, image_of, keeps_state, text_at, text_break}
use Rattle.text_lines.specs.Grammar.{Head}
use Rattle.image_text.specs.declared.fault.TextFault.{TextFault}
use Rattle.image_text.specs.declared.fault.TextFault.TheVariants.{Bad, Read, Disk, Memory}

-- The text of Image was read to its end, and its objects put to the disk with the count 0; these are their names. What it states keeps the rules that are judged line by line.
pub record ReadsText {H : Type 0} (host : Ghosts H) (old new : H) (rest : DiskRest) (head : Head) (names : List ℕ) : Type 0 where
  pub recs : List Rec
  pub are : AreRead host new rest names recs head.next
  pub uncounted : All (λ (r : Rec). r.count ≡ 0) recs
  pub few : length names ≤ MOST_OBJECTS
  pub enough : FEWEST_OBJECTS ≤ length names
  pub next : is_next head.next ≡ true
  pub state : keeps_state head ≡ true
  pub read : IsTrue (host.tells Image) → text_at (host.roles old Image).left ≡ Ok (image_of head recs)
  pub end : IsTrue (host.tells Image) → (host.roles new Image).left ≡ []
  pub held : disk_held rest ≤ length names

-- why it wasn't read: Bad has the line and the rule that break first, of a host that tells Image
abbrev pub IsUnread : {H : Type 0} → Ghosts H → H → TextFault → Type 0
IsUnread host old (Bad line rule) = IsTrue (host.tells Image) → text_break (host.roles old Image).left ≡ Some (break rule line)
IsUnread host old (Read count) = Unit {0}
IsUnread host old (Disk f) = Unit {0}
IsUnread host old Memory = Unit {0}

-- Bad is what the whole image breaks first, with the line of the object that breaks it
abbrev pub IsJudgedAt : List Rec → Option Break → TextFault → Type 0
IsJudgedAt recs b (Bad line rule) = option_map (at_line recs) b ≡ Some (break rule line)
IsJudgedAt recs b (Read count) = Unit {0}
IsJudgedAt recs b (Disk f) = Unit {0}
IsJudgedAt recs b Memory = Unit {0}

-- a rule that broke is one of the whole image
abbrev pub IsTextOfWhole : TextFault → Type 0
IsTextOfWhole (Bad line rule) = IsTrue (is_of_whole rule)
IsTextOfWhole (Read count) = Unit {0}
IsTextOfWhole (Disk f) = Unit {0}
IsTextOfWhole Memory = Unit {0}

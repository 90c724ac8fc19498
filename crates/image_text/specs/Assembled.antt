-- What assembling a text does with a host and its disk, and why it broke off. What listing does is `Puts` of image_writer.
use Rattle.std.specs.Prelude.{◌≡◌, ◌≤◌, ◌⊎◌, ℕ, List, Ok, Err, IsTrue, Some}
use Rattle.loom_host.specs.declared.outside.Host.{Ghosts}
use Rattle.loom_host.specs.declared.outside.Role.TheVariants.{Image, Work}
use Rattle.image_format.specs.declared.fault.Break.{Break}
use Rattle.image_format.specs.declared.opening.State.{State}
use Rattle.image_format.specs.Rules.{Image as WholeImage, break}
use Rattle.image_reader.specs.Frames.{IsDiskFault, IsPartFault}
use Rattle.image_reader.specs.Loaded.{is_of_whole}
use Rattle.image_reader.specs.declared.fault.LoadFault.TheVariants as load
use Rattle.text_lines.specs.Breaks.{text_at, text_break}
use Rattle.image_text.specs.declared.fault.TextFault.{TextFault}
use Rattle.image_text.specs.declared.fault.TextFault.TheVariants.{Bad, Read, Disk, Memory}

-- ---- what was read

-- The text is read to its end as an image that has this next name and this state, and at least so many objects.
pub record IsReadAs (text : List ℕ) (objects next : ℕ) (state : State) : Type 0 where
  pub image : WholeImage
  pub read : text_at text ≡ Ok image
  pub objects_fit : objects ≤ image.head.opening.objects
  pub next_is : next ≡ image.head.opening.next
  pub state_is : state ≡ image.head.state

-- ---- why none was assembled

-- why a part of assembling broke off, other than for a line or a rule: Read comes only where faults of Image rose, and the disk is never full
abbrev pub IsPartTextFault : {H : Type 0} → Ghosts H → H → H → TextFault → Type 0
IsPartTextFault host old new (Bad line rule) = Unit {0}
IsPartTextFault host old new (Read count) = IsPartFault host old new (load.Read count)
IsPartTextFault host old new (Disk f) = IsDiskFault host old new f
IsPartTextFault host old new Memory = Unit {0}

-- texts that no image can be read of: a rule breaks that is judged line by line
abbrev pub IsUnreadText : List ℕ → Type 0
IsUnreadText text = (b : Break) × (text_at text ≡ Err b)

-- Bad has the line that breaks first, where the host tells Image, and the rule; one of the whole image where Work is told too, or no image can
-- be read of the text. The disk is never full.
abbrev pub IsTextFault : {H : Type 0} → Ghosts H → H → H → TextFault → Type 0
IsTextFault host old new (Bad line rule) = IsTrue (host.tells Image) → (IsTrue (is_of_whole rule) → IsTrue (host.tells Work) ⊎ IsUnreadText (host.roles old Image).left) → text_break (host.roles old Image).left ≡ Some (break rule line)
IsTextFault host old new (Read count) = IsPartFault host old new (load.Read count)
IsTextFault host old new (Disk f) = IsDiskFault host old new f
IsTextFault host old new Memory = Unit {0}

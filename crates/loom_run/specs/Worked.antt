-- A run as a worked value: the base image, no events and two bytecodes. Its words, and what a host that tells all means before it and after it.
use Rattle.std.specs.Prelude.{◌≡◌, ℕ, List, [], ◌∷◌, ◌++◌, codes, length, Some}
use Rattle.loom_host.specs.Outside.{RoleState, at_start, puts}
use Rattle.loom_host.specs.declared.outside.Role.{Role}
use Rattle.loom_host.specs.declared.outside.Role.TheVariants.{Image, Events, Work, Saved, Display, Transcript, Notes}
use Rattle.loom_words.specs.Status.{line_of}
use Rattle.loom_words.specs.declared.status.Status.TheVariants.{Done}
use Rattle.loom_run.specs.Base.{base_bytes, base_saved}
use Rattle.loom_run.specs.Ends.{IsWhole}
use Rattle.loom_run.specs.Meanings.{Meanings}

-- `run image events work saved display 4096 512 1024 2`
abbrev pub base_words : List (List ℕ)
base_words = codes "run" ∷ codes "image" ∷ codes "events" ∷ codes "work" ∷ codes "saved" ∷ codes "display" ∷ codes "4096" ∷ codes "512" ∷ codes "1024" ∷ codes "2" ∷ []

-- a role that was attached once, by this word
abbrev pub attached_by : List ℕ → RoleState
attached_by word = record at_start { attaches = 1; name = Some word }

-- Image and Events were read, the second of no bytes; the machine said nothing, and has no display.
abbrev pub base_roles : Role → RoleState
base_roles Image = record (attached_by (codes "image")) { taken = base_bytes 7 }
base_roles Events = attached_by (codes "events")
base_roles Work = attached_by (codes "work")
base_roles Saved = record (attached_by (codes "saved")) { put = base_saved; ended = Some 672 }
base_roles Display = attached_by (codes "display")
base_roles Transcript = at_start
base_roles Notes = puts (line_of (Done 2)) at_start

abbrev pub meaning_of : (Role → RoleState) → Meanings
meaning_of roles = record { roles = roles; faults = λ role. 0; writes = 0 }

abbrev pub base_before : Meanings
base_before = meaning_of (λ role. at_start)

abbrev pub base_after : Meanings
base_after = meaning_of base_roles

-- What a run wrote: these 672 bytes, nothing to Transcript, and no picture.
pub record HasBaseFiles (before now : Meanings) : Type 0 where
  pub saved : IsWhole base_saved (now.roles Saved)
  pub size : length base_saved ≡ 672
  pub transcript : (now.roles Transcript).put ≡ (before.roles Transcript).put ++ []
  pub display : (now.roles Display).put ≡ []

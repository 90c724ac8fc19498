-- The files of a system at one moment, and what a stop or a loss of power may leave of them.
use Rattle.std.specs.Prelude.{◌≡◌, ◌⊎◌, ℕ, ◌+◌, ◌&&◌, Bool, true, false, not, List, [], ◌∷◌, Option, None, Some, slice_index, nat_le, nat_lt, drop, if◌then◌else◌}
use Rattle.std.specs.Option.{option_map}
use Rattle.file_system.specs.declared.system.Kind.{Kind}
use Rattle.file_system.specs.declared.system.Kind.TheVariants.{Regular}
use Rattle.file_system.specs.declared.system.Way.{Way}

-- Where a name stands: in the folder that is the file of this number, under these bytes.
pub record Entry : Type 0 where
  pub folder : ℕ
  pub name : List ℕ

-- ".part", which the name of a file ends with while it is written
abbrev pub part_ending : List ℕ
part_ending = 46 ∷ 112 ∷ 97 ∷ 114 ∷ 116 ∷ []

-- bytes that a loss of power may change: so many from a place on, or all, and with them how many there are
pub data Span : Type 0 where
  Run : (place : ℕ) → (len : ℕ) → Span
  Whole : Span

abbrev pub is_in : ℕ → Span → Bool
is_in i (Run place len) = nat_le place i && nat_lt i (place + len)
is_in i Whole = true

-- no span has the byte at i
abbrev pub is_sure : List Span → ℕ → Bool
is_sure [] i = true
is_sure (span ∷ spans) i = not (is_in i span) && is_sure spans i

abbrev pub is_regular : Kind → Bool
is_regular Regular = true
is_regular _ = false

-- A file by its number, whatever names lead to it. A regular one keeps bytes, and a link the path that it stands for.
pub record FileState : Type 0 where
  pub kind : Kind
  pub bytes : List ℕ
  -- what was changed since the last sync that answered Ok
  pub unsure : List Span
  -- a sync of it failed: then no later one makes anything of it last
  pub spoiled : Bool

-- An open file: which one it is, how it is used, where the next read in order begins, and what was accepted by writes through this descriptor.
-- What keeps no bytes, as a pipe, has those that are still to come.
pub record Opening : Type 0 where
  pub file : ℕ
  -- None of a folder, which is only synced
  pub way : Option Way
  pub place : ℕ
  pub coming : List ℕ
  pub put : List ℕ
  -- it was closed: no call on it answers Ok any more, and its number isn't given again
  pub shut : Bool

pub record World : Type 0 where
  pub files : ℕ → FileState
  -- the file that a name leads to; and to which it led since its folder's last sync that answered Ok
  pub names : Entry → Option ℕ
  pub earlier : Entry → List (Option ℕ)
  -- the open files, by their descriptors
  pub opened : ℕ → Option Opening

-- what reads in order are still to give
abbrev pub left_of : Opening → World → List ℕ
left_of o w = if is_regular (w.files o.file).kind then drop o.place (w.files o.file).bytes else o.coming

-- what was accepted through a descriptor, nothing where it never was one
abbrev pub put_in : Option Opening → List ℕ
put_in None = []
put_in (Some o) = o.put

abbrev pub put_at : ℕ → World → List ℕ
put_at d w = put_in (w.opened d)

-- the bytes of the file that a name leads to
abbrev pub content_at : Entry → World → Option (List ℕ)
content_at e w = option_map (λ i. (w.files i).bytes) (w.names e)

-- ---- what a loss of power may leave. A stop of the process alone leaves all as it is.

abbrev pub IsOneOf : Option ℕ → List (Option ℕ) → Type 0
IsOneOf o [] = ⊥
IsOneOf o (x ∷ xs) = (o ≡ x) ⊎ IsOneOf o xs

-- Of a file: where nothing is unsure these bytes, and else any in the spans, and any number of them.
pub record MayHold (f : FileState) (bytes : List ℕ) : Type 0 where
  pub whole : f.unsure ≡ [] → bytes ≡ f.bytes
  pub sure : (i : ℕ) → is_sure f.unsure i ≡ true → slice_index bytes i ≡ slice_index f.bytes i

-- Each name leads where it leads now, or where it led at one moment since its folder was synced. Names are lost each by itself, and so are files.
pub record MayLeave (w left : World) : Type 0 where
  pub names : (e : Entry) → (left.names e ≡ w.names e) ⊎ IsOneOf (left.names e) (w.earlier e)
  pub files : (i : ℕ) → MayHold (w.files i) (left.files i).bytes

-- ---- moments

-- the files now, and before each call that may have changed them, the newest first
pub record Moments : Type 0 where
  pub now : World
  pub past : List World

abbrev pub all : Moments → List World
all m = m.now ∷ m.past

-- P holds at each moment behind an earlier one
pub data Throughout (P : World → Type 0) (first : List World) : List World → Type 0 where
  Here : Throughout P first first
  Then : {w : World} {ws : List World} → Throughout P first ws → P w → Throughout P first (w ∷ ws)

-- What the words of a body are to those who read them, whatever its fields mean.
use Rattle.std.specs.Prelude.{◌≡◌, ℕ, ◌+◌, ◌-◌, ◌*◌, ◌≤◌, nat_le, List, length, take, drop, slice_get, Option, Some, None, if◌then◌else◌}
use Rattle.long_names.specs.Words.{literal_count}
use Rattle.long_names.specs.declared.object.Kind.{Kind}
use Rattle.long_names.specs.declared.object.Kind.TheVariants as kind
use Rattle.long_names.specs.declared.object.Body.{Body}
use Rattle.object_table.specs.Entries.{place_of}
use Rattle.core_view.specs.Core.{Core}
use Rattle.core_view.specs.Words.{header_in, bytes_in}
use Rattle.core_view.specs.Held.{Disk, object_at}

-- this holds of the body of an entry, over every disk
abbrev pub OfBody : Core → ℕ → (Body → Type 0) → Type 0
OfBody c s P = (disk : Disk) (at : ℕ) → place_of (c.entries s).state ≡ Some at → P (object_at c disk (c.entries s) at).body

-- so many from a place on are this run
abbrev pub HasRun : Option (List ℕ) → ℕ → ℕ → List ℕ → Type 0
HasRun part at count run = (all : List ℕ) × (part ≡ Some all) × (run ≡ take count (drop at all))

-- there are fewer
abbrev pub LacksRun : Option (List ℕ) → ℕ → ℕ → Type 0
LacksRun part at count = (all : List ℕ) → part ≡ Some all → at + count ≤ length all → ⊥

-- the word of a body where its bytes begin, if it has bytes: of a method behind its header and its literals
abbrev pub bytes_from : Kind → List ℕ → Option ℕ
bytes_from kind.Pointers words = None
bytes_from kind.Words words = None
bytes_from kind.Bytes words = Some 0
bytes_from kind.Method words = Some (1 + literal_count (header_in words))

-- how many bytes the header and the literals of a method take, two bytes to a word
abbrev pub code_start : List ℕ → ℕ
code_start words = 2 * (literal_count (header_in words) + 1)

-- the byte at a place among those of a method's words, if it is one of so many of its code
abbrev pub code_from : List ℕ → ℕ → ℕ → Option ℕ
code_from words len place =
    if nat_le (code_start words) place then slice_get (take len (bytes_in (drop (1 + literal_count (header_in words)) words))) (place - code_start words) else None

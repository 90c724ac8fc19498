-- New objects of a core.
use Rattle.std.specs.Prelude.{◌≡◌, ◌≢◌, ℕ, ◌+◌, ◌≤◌, ◌^◌, true, List, [], ◌∷◌, ◌++◌, replicate, None, Some}
use Rattle.long_names.specs.declared.object.Kind.{Kind}
use Rattle.long_names.specs.declared.object.Kind.TheVariants as kind
use Rattle.long_names.specs.declared.value.Value.{Value}
use Rattle.long_names.specs.declared.value.Value.TheVariants.{Ref}
use Rattle.long_names.specs.declared.object.Object.{Object}
use Rattle.long_names.specs.Names.{NIL}
use Rattle.long_names.specs.Heap.{count_of}
use Rattle.long_names.specs.Objects.{Making, OfPointers, OfWords, OfBytes, OfMethod}
use Rattle.object_table.specs.Entries.{put, is_used, place_of}
use Rattle.core_view.specs.Core.{Core}
use Rattle.core_view.specs.Words.{int_of_short}
use Rattle.core_view.specs.Held.{Disk, held}
use Rattle.core_view.specs.Kept.{IsBacked, IsTight, IsValued, Stays}
use Rattle.core_view.specs.Purge.{fresh_of}
use Rattle.leaf_lambda.specs.Making.{body_new}
use Rattle.core_view.specs.Levels.{Levels, heap_of}
use Rattle.purger.specs.declared.room.Pinned.{Pinned}
use Rattle.purger.specs.Marks.{KeepsMarks}
use Rattle.loom_memory.specs.Known.{IsEntryOf}
use Rattle.loom_memory.specs.Gentle.{Remains}
use Rattle.loom_memory.specs.Gentle.{IsCalm, IsStill}

-- what is made of a kind, so many values, words or bytes, and the header word of a method
abbrev pub making_of : Kind → ℕ → ℕ → Making
making_of kind.Pointers len header = OfPointers len
making_of kind.Words len header = OfWords len
making_of kind.Bytes len header = OfBytes len
making_of kind.Method len header = OfMethod (int_of_short header) len

-- the object made, of a class
abbrev pub object_new : ℕ → Kind → ℕ → ℕ → Object
object_new class k len header = record { class = class; body = body_new k len header (Ref NIL) }

-- no word of a heap is counted so often that the words of another object would be too many
abbrev pub HasFew : Levels → Type 0
HasFew t = (q : ℕ) → count_of (heap_of t) q ≤ 2 ^ 48

-- the words of a new object before it is there: so many nils, and its class
abbrev pub words_ahead : ℕ → ℕ → List Value
words_ahead n class = replicate n (Ref NIL) ++ (Ref class ∷ [])

-- Nil has an entry, and counts rose: nothing else differs.
pub record IsReadied (old new : Core) : Type 0 where
  pub calm : (pins : Pinned) → IsCalm pins old new
  pub marks : KeepsMarks old new
  pub stays : Stays old new
  pub tight : IsTight old → IsTight new
  pub fresh : fresh_of new ≡ fresh_of old
  pub live : (t : ℕ) → is_used (old.entries t).state ≡ true → (is_used (new.entries t).state ≡ true) × ((new.entries t).name ≡ (old.entries t).name)
  pub others : (m : ℕ) → m ≢ NIL → new.find m ≡ old.find m
  pub none : Remains new old

-- An object that has no record came into a core, under a name that had no entry.
pub record IsNew (old new : Core) (name class : ℕ) (k : Kind) (len header s : ℕ) : Type 0 where
  pub entry : IsEntryOf new s name
  pub calm : (pins : Pinned) → IsCalm pins old new
  pub marks : KeepsMarks old new
  pub tight : IsTight old → IsTight new
  pub fresh : fresh_of new ≡ fresh_of old + 1
  pub backed : (disk : Disk) → IsBacked old disk → disk name ≡ None → IsBacked new disk
  pub heap : (disk : Disk) → IsBacked old disk → held new disk ≡ put (held old disk) name (Some (object_new (old.entries class).name k len header))
  pub valued : (disk : Disk) → IsBacked old disk → IsValued (held old disk) → IsValued (held new disk)
  pub others : (t p : ℕ) → t ≢ s → place_of (new.entries t).state ≡ Some p → IsStill new old t

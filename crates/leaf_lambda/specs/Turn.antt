-- What is told of one fault, one store and one eviction.
use Rattle.std.specs.Prelude.{◌≡◌, ℕ, List, [], Some}
use Rattle.long_names.specs.Objects.{with_field}
use Rattle.long_names.specs.declared.object.Object.{Object}
use Rattle.object_record.specs.Buffer.{raw_of, HasRecord}
use Rattle.object_record.specs.Objects.{object_in}
use Rattle.object_table.specs.Entries.{put}
use Rattle.core_view.specs.Core.{Core}
use Rattle.core_view.specs.Words.{meant}
use Rattle.core_view.specs.Held.{Disk, held}
use Rattle.core_view.specs.Kept.{IsBacked}

-- over some disk, which has this record for s
pub record IsTold (c : Core) (s : ℕ) (bytes : List ℕ) : Type 0 where
  pub disk : Disk
  pub backed : IsBacked c disk
  pub record_there : HasRecord bytes
  pub name : (raw_of bytes).name ≡ (c.entries s).name
  pub there : disk (c.entries s).name ≡ Some (object_in (raw_of bytes))

-- the held heap with this word's meaning in field i of the object s, once this record of it was written
pub record IsStored (old : Core) (was : Disk) (new : Core) (s i w : ℕ) (o now : Object) : Type 0 where
  pub backed : IsBacked new (put was (old.entries s).name (Some now))
  pub held : held new (put was (old.entries s).name (Some now))
      ≡ put (held old was) (old.entries s).name (Some (record { class = o.class; body = with_field o.body i (meant old.entries [] 0 w) }))

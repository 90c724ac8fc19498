-- The places that Damaged tells: those of the slot or the record that was read, or of the block that would have been taken.
use Rattle.std.specs.Prelude.{◌≡◌, ◌⊎◌, ℕ, ◌≤◌}
use Rattle.object_record.specs.Raw.{RawRecord}
use Rattle.work_directory.specs.Directory.{slots_of}
use Rattle.work_directory.specs.Slots.{IsSlotOf}
use Rattle.work_space.specs.Space.{next_place}
use Rattle.work_space.specs.declared.limits.TheConstants.{LAST_END}
use Rattle.work_space.specs.declared.space.Space.{Space}
use Rattle.disk_objects.specs.declared.rest.DiskRest.{DiskRest}
use Rattle.disk_objects.specs.Disk.{IsSizeClass, record_size}

-- the place of a slot of the directory
abbrev pub IsSlotPlace : DiskRest → ℕ → Type 0
IsSlotPlace rest place = IsSlotOf (slots_of rest.directory) place

-- the place of a slot, or one where a record may begin
abbrev pub IsReadPlace : DiskRest → ℕ → Type 0
IsReadPlace rest place = IsSlotPlace rest place ⊎ (place ≤ LAST_END)

-- the place of the block that would be taken for a record
pub record IsBlockPlace (space : Space) (raw : RawRecord) (place : ℕ) : Type 0 where
  pub class : ℕ
  pub is_class : IsSizeClass class (record_size raw)
  pub next : place ≡ next_place space class

-- damage that a put meets: of a slot or the record of its name, or of a block, and then no name is told
abbrev pub IsPutDamage : DiskRest → RawRecord → ℕ → ℕ → Type 0
IsPutDamage rest raw place about = (IsReadPlace rest place × (about ≡ raw.name)) ⊎ (IsBlockPlace rest.space raw place × (about ≡ 0))

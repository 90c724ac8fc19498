-- What only the crate's own functions say.
use Rattle.std.specs.Prelude.{◌≡◌, ℕ, ◌+◌, ◌*◌, Bool, true, IsTrue, List, ◌++◌, All}
use Rattle.std.specs.List.{flat_map}
use Rattle.byteorder.specs.Endian.{big_bytes}
use Rattle.long_names.specs.Counting.{Rose}
use Rattle.long_names.specs.Heap.{Heap, Has}
use Rattle.loom_host.specs.declared.outside.Host.{Ghosts}
use Rattle.loom_host.specs.declared.outside.Role.TheVariants.{Work}
use Rattle.image_format.specs.Heads.{opening_text, state_text}
use Rattle.image_format.specs.declared.opening.State.{State}
use Rattle.disk_objects.specs.declared.rest.DiskRest.{DiskRest}
use Rattle.image_writer.specs.Inside.{IsHeapOf, opening_of}
use Rattle.image_writer.specs.Puts.{name_text}
use Rattle.checkpoint.specs.Layout.{gate_in, is_bad, number_at}
use Rattle.checkpoint.specs.declared.layout.TheConstants.{GATE_GAP, LENGTH_AT, SERIAL_AT}
use Rattle.checkpoint.specs.declared.point.Point.{Point}
use Rattle.checkpoint.specs.declared.fault.VaultFault.{VaultFault}
use Rattle.checkpoint.specs.declared.fault.VaultFault.TheVariants as fault

-- a call on the vault failed; or, where none failed, this gate is bad
abbrev pub IsGateFault : Bool → ℕ → List ℕ → ℕ → ℕ → VaultFault → Type 0
IsGateFault tells s bytes before now (fault.Failed count) = (count ≡ now) × Rose before now
IsGateFault tells s bytes before now (fault.Bad place) = (now ≡ before) × (place ≡ GATE_GAP * s) × (IsTrue tells → is_bad s (gate_in bytes s) ≡ true)
IsGateFault tells s bytes before now (fault.Disk fault) = ⊥
IsGateFault tells s bytes before now fault.Memory = ⊥

-- serial and length of a point, as a gate has them
abbrev pub head_of : Point → List ℕ
head_of p = big_bytes 8 p.serial ++ big_bytes 8 p.len

-- a gate says this point, whatever its byte is
pub record HasHead (bytes : List ℕ) (s : ℕ) (p : Point) : Type 0 where
  pub serial : number_at bytes (GATE_GAP * s + SERIAL_AT) ≡ p.serial
  pub len : number_at bytes (GATE_GAP * s + LENGTH_AT) ≡ p.len

-- the disk holds the objects of a heap, which has these names
abbrev pub HoldsNamed : {H : Type 0} → Ghosts H → H → DiskRest → List ℕ → Heap → Type 0
HoldsNamed host now rest names h = IsTrue (host.tells Work) → IsHeapOf host now rest h × All (Has h) names

-- the image of the objects of these names
abbrev pub image_text : ℕ → ℕ → State → List ℕ → Heap → List ℕ
image_text objects next kept names h = (opening_text (opening_of objects next) ++ state_text kept) ++ flat_map (name_text h) names

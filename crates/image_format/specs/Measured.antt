-- What is said of a record that was judged and not kept.
use Rattle.std.specs.Prelude.{◌≡◌, ℕ, ◌≤◌, List, length, take}
use Rattle.long_names.specs.Objects.{IsRecord}
use Rattle.long_names.specs.Record.{record_text}
use Rattle.long_names.specs.declared.limits.TheConstants.{LONGEST_RECORD}
use Rattle.long_names.specs.declared.object.Rec.{Rec}
use Rattle.image_format.specs.declared.reading.RecMeasure.{RecMeasure}

-- the bytes begin with the text of a record, of this length, and this is what it states
pub record IsMeasure (bytes : List ℕ) (m : RecMeasure) : Type 0 where
  pub rec : Rec
  pub is : IsRecord rec
  pub text : take m.len bytes ≡ record_text rec
  pub len : length (record_text rec) ≡ m.len
  pub within : m.len ≤ length bytes
  pub longest : m.len ≤ LONGEST_RECORD
  pub name : m.name ≡ rec.name
  pub count : m.count ≡ rec.count

-- Forms, as the code reads them.
use Rattle.std.specs.Prelude.{ℕ, ◌*◌, ◌<◌, ◌≤◌, Bool, true, false, Option, Result}
use Rattle.long_names.specs.declared.limits.TheConstants.{SMALL_INTEGERS, MOST_FIELDS}
use Rattle.long_names.specs.declared.value.Value.{Value}
use Rattle.blue_model.specs.Forms.{row_words, has_rows}
use Rattle.blue_model.specs.Forms as model
use Rattle.blue_model.specs.BitBlt.{has_sixteen}
use Rattle.contexts.specs.declared.stop.Stop.{Stop}
use Rattle.contexts.specs.Serves.{found_by}
use Rattle.forms.specs.declared.form.Extent.{Extent}
use Rattle.forms.specs.declared.form.TheConstants.{HALFTONE_WORDS}

-- numbers that a SmallInteger can say, 1 or more
pub record IsExtent (e : Extent) : Type 0 where
  pub wide : 0 < e.width
  pub narrow : e.width < SMALL_INTEGERS
  pub tall : 0 < e.height
  pub low : e.height < SMALL_INTEGERS

-- the model's records of the same numbers
abbrev pub extent_by : Extent → model.Extent
extent_by e = record { width = e.width; height = e.height }

abbrev pub form_by : Value → Extent → model.Form
form_by bits e = record { bits = bits; width = e.width; height = e.height }

abbrev pub extents_found : Result (Option Extent) Stop → Result (Option model.Extent) Stop
extents_found r = found_by extent_by r

-- what was found, with the bits in a register
abbrev pub forms_found : Result (Option Extent) Stop → Value → Result (Option model.Form) Stop
forms_found r bits = found_by (form_by bits) r

-- so many words are enough for a halftone, and for another form
abbrev pub enough : Bool → model.Extent → ℕ → Bool
enough true = has_sixteen
enough false = has_rows

abbrev pub least_words : Bool → Extent → ℕ
least_words true e = HALFTONE_WORDS
least_words false e = row_words e.width * e.height

-- an object of words has room for as many words as are enough
abbrev pub FitsAnObject : Bool → Extent → Type 0
FitsAnObject halftone e = IsExtent e × (least_words halftone e ≤ MOST_FIELDS)

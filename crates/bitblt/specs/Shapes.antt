-- A form, or nil for none, as the code reads it.
use Rattle.std.specs.Prelude.{ℕ, ◌≤◌, Bool, length, Option, Some, None, Result}
use Rattle.long_names.specs.declared.value.Value.{Value}
use Rattle.long_names.specs.Objects.{words_of}
use Rattle.object_memory.specs.Told.{Told}
use Rattle.object_memory.specs.Shape.{HasPartAt}
use Rattle.blue_model.specs.Forms as model
use Rattle.contexts.specs.declared.stop.Stop.{Stop}
use Rattle.contexts.specs.Serves.{found_by}
use Rattle.forms.specs.declared.form.Extent.{Extent}
use Rattle.forms.specs.Shapes.{form_by, least_words}

abbrev pub optional_by : Value → Option Extent → Option model.Form
optional_by bits None = None
optional_by bits (Some e) = Some (form_by bits e)

-- a form, or none for nil
abbrev pub optional_found : Result (Option (Option Extent)) Stop → Value → Result (Option (Option model.Form)) Stop
optional_found r bits = found_by (optional_by bits) r

-- the bits in a register have enough words, where there is a form
abbrev pub OptionalRoom : Told → ℕ → Bool → Option Extent → Type 0
OptionalRoom t bits halftone None = Unit {0}
OptionalRoom t bits halftone (Some e) = HasPartAt t bits words_of (λ words. least_words halftone e ≤ length words)

-- What a BitBlt asks for, as the code reads it.
use Rattle.std.specs.Prelude.{ℕ, ℤ, ◌+◌, Option, Some, None, Result}
use Rattle.long_names.specs.declared.object.Object.{Object}
use Rattle.blue_model.specs.BitBlt.{blit_number}
use Rattle.blue_model.specs.BitBlt as model
use Rattle.contexts.specs.declared.stop.Stop.{Stop}
use Rattle.contexts.specs.Serves.{found_by}
use Rattle.bitblt.specs.declared.asked.Place.{Place}
use Rattle.bitblt.specs.declared.asked.Asked.{Asked}

-- both, where there are both
abbrev pub both : {A B : Type 0} → Option A → Option B → Option (A × B)
both (Some a) (Some b) = Some (a, b)
both (Some a) None = None
both None b = None

-- the numbers in a field and in the next one
unfoldable pub place_at : ℕ → Object → Option (ℤ × ℤ)
place_at i o = both (blit_number i o) (blit_number (i + 1) o)

abbrev pub numbers_of : Place → ℤ × ℤ
numbers_of p = (p.x, p.y)

abbrev pub places_found : Result (Option Place) Stop → Result (Option (ℤ × ℤ)) Stop
places_found r = found_by numbers_of r

-- the model's record of the same numbers
abbrev pub asked_by : Asked → model.Asked
asked_by q = record { rule = q.rule; dest_x = q.dest.x; dest_y = q.dest.y; width = q.extent.x; height = q.extent.y; source_x = q.source.x; source_y = q.source.y; clip_x = q.clip.x; clip_y = q.clip.y; clip_width = q.clip_extent.x; clip_height = q.clip_extent.y }

abbrev pub asked_found : Result (Option Asked) Stop → Result (Option model.Asked) Stop
asked_found r = found_by asked_by r

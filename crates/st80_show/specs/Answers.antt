-- What is answered to what is asked for.
use Rattle.std.specs.Prelude.{◌≡◌, List, is_some, if◌then◌else◌}
use Rattle.long_names.specs.declared.object.Rec.{Rec}
use Rattle.st80_view.specs.Viewed.{active_context}
use Rattle.st80_show.specs.declared.ask.Asked.{Asked}
use Rattle.st80_show.specs.declared.ask.Asked.TheVariants as asked
use Rattle.st80_show.specs.declared.ask.Found.{Found}
use Rattle.st80_show.specs.declared.ask.Found.TheVariants.{Shown, Nothing}

-- a stack is there where the active process has a context
abbrev pub stack_found : List Rec → Found
stack_found recs = if is_some (active_context recs) then Shown else Nothing

-- an image, its processes and its counts are always there
abbrev pub IsAnswer : List Rec → Asked → Found → Type 0
IsAnswer recs asked.Image found = found ≡ Shown
IsAnswer recs (asked.Object text) found = Unit {0}
IsAnswer recs (asked.Class text) found = Unit {0}
IsAnswer recs (asked.Method class selector) found = Unit {0}
IsAnswer recs asked.Processes found = found ≡ Shown
IsAnswer recs asked.Stack found = found ≡ stack_found recs
IsAnswer recs asked.Counts found = found ≡ Shown

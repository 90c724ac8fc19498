-- What a view shows.
use Rattle.std.specs.Prelude.{ℕ, List, Option, option_and_then}
use Rattle.long_names.specs.Names.{SCHEDULER_ASSOCIATION}
use Rattle.long_names.specs.declared.object.Rec.{Rec}
use Rattle.st80_objects.specs.Images.{name_at_field, objects_of}
use Rattle.st80_objects.specs.declared.image.Image.{Image}
use Rattle.st80_view.specs.declared.view.View.{View}

-- its image
unfoldable pub image_of : View → Image
image_of v = v.image

-- and its objects, by rising name
abbrev pub recs_of : View → List Rec
recs_of v = objects_of (image_of v)

-- ---- processes (chapter 29 of the Blue Book): each field where the objects have it

-- the value of the scheduler's association, object 8
abbrev pub scheduler : List Rec → Option ℕ
scheduler recs = name_at_field recs SCHEDULER_ASSOCIATION 1

-- the process that goes on at a start
abbrev pub active_process : List Rec → Option ℕ
active_process recs = option_and_then (λ n. name_at_field recs n 1) (scheduler recs)

-- and the context in which it goes on
abbrev pub active_context : List Rec → Option ℕ
active_context recs = option_and_then (λ n. name_at_field recs n 1) (active_process recs)

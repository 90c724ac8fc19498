-- Contexts (chapter 27 of the Blue Book): field 3 of a block's context is a number, and its home stands in field 5.
use Rattle.std.specs.Prelude.{◌≡◌, ℕ, ◌+◌, List, Option, Some, is_some, option_and_then, option_map, if◌then◌else◌}
use Rattle.long_names.specs.declared.object.Rec.{Rec}
use Rattle.long_names.specs.declared.value.Value.{Value}
use Rattle.st80_objects.specs.Images.{field_in, name_at_field, number_at_field}
use Rattle.st80_view.specs.declared.processes.Frame.{Frame}
use Rattle.st80_view.specs.declared.processes.TheConstants.{FIRST_TEMPORARY, HOME, METHOD, RECEIVER, SENDER, STACK_POINTER}
use Rattle.st80_view.specs.Names.{not_nil}

-- the context itself, or of a block the one that it was made in
abbrev pub home_of : List Rec → ℕ → Option ℕ
home_of recs n = if is_some (number_at_field recs n METHOD) then name_at_field recs n HOME else Some n

-- home, method and receiver, where all three are there
abbrev pub running_in : List Rec → ℕ → Option (ℕ × ℕ × Value)
running_in recs n =
    option_and_then (λ home.
    option_and_then (λ method.
    option_map (λ receiver. (home, method, receiver)) (field_in recs home RECEIVER)) (name_at_field recs home METHOD)) (home_of recs n)

-- and the other parts of a context
pub record IsFrameOf (recs : List Rec) (n : ℕ) (frame : Frame) : Type 0 where
  pub context : frame.context ≡ n
  pub is_block : frame.is_block ≡ is_some (number_at_field recs n METHOD)
  pub depth : frame.depth ≡ number_at_field recs n STACK_POINTER
  pub sender : frame.sender ≡ option_and_then not_nil (name_at_field recs n SENDER)

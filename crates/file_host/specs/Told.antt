-- What a host over a system tells of Saved.
use Rattle.std.specs.Prelude.{ℕ, Bool, true, false, List, [], Option, None, Some, length}
use Rattle.std.specs.Global.{Vec}
use Rattle.std.specs.Option.{option_map}
use Rattle.loom_host.specs.Outside.{RoleState, at_start}
use Rattle.loom_host.specs.declared.outside.Role.{Role}
use Rattle.loom_host.specs.declared.outside.Role.TheVariants.{Saved}
use Rattle.file_system.specs.World.{World, put_at}
use Rattle.file_host.specs.declared.told.Told.{Told}

-- Saved is told, where the system tells
abbrev pub tells_saved : Bool → Role → Bool
tells_saved b Saved = b
tells_saved b _ = false

abbrev pub put_through : Option ℕ → World → List ℕ
put_through None w = []
put_through (Some d) w = put_at d w

abbrev pub name_in : Option (Vec ℕ) → Option (List ℕ)
name_in name = option_map (λ v. v.items) name

abbrev pub ended_at : Bool → List ℕ → Option ℕ
ended_at true put = Some (length put)
ended_at false put = None

abbrev pub state_with : Told → List ℕ → RoleState
state_with t put = record { attaches = t.attaches; name = name_in t.name; taken = []; left = []; put = put; ended = ended_at t.ended put; contents = [] }

-- what was put is what the descriptor accepted
abbrev pub saved_state : Told → World → RoleState
saved_state t w = state_with t (put_through t.descriptor w)

-- nothing is told over a system that tells nothing
abbrev pub saved_if : Bool → Told → World → RoleState
saved_if true t w = saved_state t w
saved_if false t w = at_start

abbrev pub role_state : Bool → Told → World → Role → RoleState
role_state b t w Saved = saved_if b t w
role_state b t w _ = at_start

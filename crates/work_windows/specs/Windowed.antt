-- A host with windows, as its caller knows it.
use Rattle.std.specs.Prelude.{ℕ, List}
use Rattle.loom_host.specs.Outside.{RoleState, holds}
use Rattle.loom_host.specs.Work.{work_of}
use Rattle.loom_host.specs.declared.outside.Host.{Ghosts}
use Rattle.loom_host.specs.declared.outside.Role.{Role}
use Rattle.loom_host.specs.declared.outside.Role.TheVariants.{Work}
use Rattle.work_windows.specs.Windows.{overlaid}
use Rattle.work_windows.specs.declared.windowed.Windowed.{Windowed}

module _ {H : Type 0} {host : Ghosts H} where
  -- the host inside
  unfoldable pub inside : Windowed H host → H
  inside w = w.inner

  -- how often `write_at` was called, up to the greatest u64
  unfoldable pub written : Windowed H host → ℕ
  written w = w.writes

-- this for Work, and what there is for each other role
abbrev pub with_work : {X : Type 0} → X → (Role → X) → Role → X
with_work x others Work = x
with_work x others role = others role

module _ {H : Type 0} (host : Ghosts H) where
  -- what Work holds: what it holds inside, with what the windows keep back put over it
  unfoldable pub contents_over : Windowed H host → List ℕ
  contents_over w = overlaid (work_of host (inside w)) w.windows.written.items.items w.windows.limit

  -- what it tells is told of the host inside, but for what Work holds
  abbrev pub roles_over : Windowed H host → Role → RoleState
  roles_over w = with_work (holds (contents_over w) (host.roles (inside w) Work)) (host.roles (inside w))

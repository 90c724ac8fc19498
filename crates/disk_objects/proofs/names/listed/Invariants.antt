use Rattle.std.proofs.Common.{◌≡◌, ◌++◌}
use Rattle.std.specs.Vec.Iter.{into_iter_items}
use Rattle.disk_objects.proofs.names.listed.Given as goal

-- the names so far, and those to come
abbrev pub invariant-loop-name : goal.invariant-loop-name
invariant-loop-name l = l.list ++ into_iter_items l.name-iterator ≡ l.fn.names.items

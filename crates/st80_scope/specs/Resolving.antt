-- What a method is resolved to.
use Rattle.std.specs.Prelude.{◌≤◌}
use Rattle.st80_tree.specs.declared.tree.Method.{Method}
use Rattle.st80_scope.specs.declared.methods.Resolved.{Resolved}
use Rattle.st80_scope.specs.declared.methods.Resolved.TheVariants as resolved

-- its arguments are the first of its temporaries, of which there are at most 31
pub record IsFitting (method : Method) : Type 0 where
  pub among : method.arguments ≤ method.temporaries
  pub few : method.temporaries ≤ 31

abbrev pub IsResolved : Resolved → Type 0
IsResolved (resolved.Method found) = IsFitting found.method
IsResolved (resolved.Refused complaint) = Unit {0}

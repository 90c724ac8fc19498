-- The methods of the classes of a view.
use Rattle.std.specs.Prelude.{◌≡◌, ℕ, List, Some, slice_get}
use Rattle.long_names.specs.declared.value.Value.{Value}
use Rattle.st80_view.specs.declared.classes.MethodHome.{MethodHome}
use Rattle.st80_view.specs.declared.view.View.{View}

-- by rising name of the method
unfoldable pub homes_of : View → List MethodHome
homes_of v = v.methods.items

-- it stands in the dictionary of the class under the selector
abbrev pub IsUnder : ℕ → Value → MethodHome → Type 0
IsUnder class selector home = (home.class ≡ class) × (home.selector ≡ selector)

-- and is one of these
pub record IsOwn (homes : List MethodHome) (class : ℕ) (selector : Value) (home : MethodHome) : Type 0 where
  pub place : ℕ
  pub stands : slice_get homes place ≡ Some home
  pub under : IsUnder class selector home

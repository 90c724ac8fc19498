-- What the methods of a program are resolved to: a tree each, in their order, and each message that they send has a selector that some method has.
use Rattle.std.specs.Prelude.{◌≡◌, ℕ, Bool, List, All, map, is_some}
use Rattle.std.specs.List.{AllPairs, Any}
use Rattle.st80_program.specs.declared.program.Program.{Program}
use Rattle.st80_program.specs.declared.program.Written.{Written}
use Rattle.st80_program.specs.declared.trees.Sending.{Sending}
use Rattle.st80_program.specs.declared.trees.Tree.{Tree}
use Rattle.st80_program.specs.declared.trees.Trees.{Trees}
use Rattle.st80_program.specs.declared.trees.Whole.{Whole}
use Rattle.st80_program.specs.declared.trees.Whole.TheVariants as whole

-- whose method it is: the number of a class, and whether it is one of the class itself
abbrev pub home_of : Written → ℕ × Bool
home_of written = (written.class, written.is_meta)

abbrev pub tree_home : Tree → ℕ × Bool
tree_home tree = (tree.class, tree.is_meta)

abbrev pub homes_of : List Tree → List (ℕ × Bool)
homes_of = map tree_home

-- two methods aren't of one class and one selector
abbrev pub AreApart : Tree → Tree → Type 0
AreApart a b = a.class ≡ b.class → a.is_meta ≡ b.is_meta → a.selector ≡ b.selector → ⊥

-- one of the methods has the selector of this number
abbrev pub HasSelector : List Tree → ℕ → Type 0
HasSelector methods selector = Any (λ tree. tree.selector ≡ selector) methods

abbrev pub AreUnderstood : Trees → Type 0
AreUnderstood trees = All (λ sending. HasSelector trees.methods.items sending.selector) trees.sendings.items

-- a message that is sent, and whose selector no method has
abbrev pub IsLost : Trees → Sending → Type 0
IsLost trees sending = Any (λ other. other ≡ sending) trees.sendings.items × (HasSelector trees.methods.items sending.selector → ⊥)

-- the trees of a program
pub record AreOf (program : Program) (trees : Trees) : Type 0 where
  -- each method has its tree, in their order
  pub homes : homes_of trees.methods.items ≡ map home_of program.methods.items
  -- no class has two methods of one selector
  pub apart : AllPairs AreApart trees.methods.items
  -- what the program begins with has its tree
  pub start : is_some trees.start ≡ is_some program.start
  -- each message that is sent has a selector that some method has
  pub understood : AreUnderstood trees

-- what a program is resolved to
abbrev pub IsWhole : Program → Whole → Type 0
IsWhole program (whole.Trees trees) = AreOf program trees
IsWhole program (whole.Wrong problem) = Unit {0}

-- What an answer says of a program.
use Rattle.std.specs.Prelude.{◌≡◌, ◌⊎◌, ℕ, Some, None, length, slice_get}
use Rattle.image_format.specs.Valid.{IsValid}
use Rattle.st80_compile.specs.Compiled.{answers_of, refusal}
use Rattle.st80_compile.specs.declared.bytes.Refusal.{Refusal}
use Rattle.st80_program.specs.declared.trees.Tree.{Tree}
use Rattle.st80_program.specs.declared.trees.Trees.{Trees}
use Rattle.st80_build.specs.declared.codes.NoCode.{NoCode}
use Rattle.st80_build.specs.declared.codes.NoCode.TheVariants as no
use Rattle.st80_build.specs.declared.image.Built.{Built}
use Rattle.st80_build.specs.declared.image.Built.TheVariants as built

-- a tree has no code, and this is the first reason
abbrev pub IsWithoutCode : Tree → Refusal → Type 0
IsWithoutCode tree why = refusal (answers_of tree.method) tree.method ≡ Some why

-- the tree of this number has no code, and this is the first reason. What the program begins with is behind the last method
pub record IsRefused (trees : Trees) (number : ℕ) (why : Refusal) : Type 0 where
  pub tree : Tree
  pub at : (slice_get trees.methods.items number ≡ Some tree) ⊎ ((number ≡ length trees.methods.items) × (trees.start ≡ Some tree))
  pub without : IsWithoutCode tree why

-- why a tree has no code, apart from want of memory
abbrev pub IsNoCodeOf : ℕ → Tree → NoCode → Type 0
IsNoCodeOf n tree no.Memory = Unit {0}
IsNoCodeOf n tree (no.Refused number why) = (number ≡ n) × IsWithoutCode tree why

-- why not all trees have code
abbrev pub IsNoCodeIn : Trees → NoCode → Type 0
IsNoCodeIn trees no.Memory = Unit {0}
IsNoCodeIn trees (no.Refused number why) = IsRefused trees number why

-- what is built of a program is an image. Where a method has no code, its tree has none, and this is the first reason
abbrev pub IsBuiltOf : Trees → Built → Type 0
IsBuiltOf trees (built.Image made) = IsValid made.image
IsBuiltOf trees (built.Refused number why) = IsRefused trees number why
IsBuiltOf trees (built.Literal number) = Unit {0}
IsBuiltOf trees built.Full = Unit {0}
IsBuiltOf trees (built.NoImage rule name) = Unit {0}
IsBuiltOf trees built.NoStart = trees.start ≡ None

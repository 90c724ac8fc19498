-- What a tree has to do with code.
use Rattle.std.specs.Prelude.{◌≡◌}
use Rattle.st80_tree.specs.declared.tree.Method.{Method}
use Rattle.st80_compile.specs.declared.compiler.Compiled.{Compiled}
use Rattle.st80_compile.specs.Compiled.{answers_of, IsCompiled}

-- compiling a tree makes this: its form, its code, its literals in their order, its numbers, and the size of its contexts
abbrev pub HasCode : Compiled → Method → Type 0
HasCode given m = IsCompiled (answers_of m) m given

-- what was made of one method is what was made of another
pub record AreSame (a b : Compiled) : Type 0 where
  pub answers : a.answers ≡ b.answers
  pub arguments : a.arguments ≡ b.arguments
  pub temporaries : a.temporaries ≡ b.temporaries
  pub primitive : a.primitive ≡ b.primitive
  pub is_large : a.is_large ≡ b.is_large
  pub sends_super : a.sends_super ≡ b.sends_super
  pub literals : a.literals.items ≡ b.literals.items
  pub code : a.code.items ≡ b.code.items

-- A function value that resolves an expression to a depth.
use Rattle.std.specs.Prelude.{ℕ}
use denote.Ref.{Bor, MutBor}
use Rattle.st80_syntax.specs.declared.token.Token.{Token}
use Rattle.st80_parser.specs.declared.tree.Expr.{Expr}
use Rattle.st80_scope.specs.declared.scope.Scope.{Scope}

pub record Calls (depth : ℕ) (pre : MutBor Scope → Bor Expr → Token → ℕ → Type 0) : Type 0 where
  pub callable : (scope : MutBor Scope) (expr : Bor Expr) (at : Token) → pre scope expr at depth

-- A function value that reads an expression.
use Rattle.std.specs.Prelude.{ℕ, ◌≡◌, ◌≤◌, List, ◌∷◌, ◌++◌, length, Result, IfOk}
use Rattle.std.specs.declared.alloc.Global.{Global}
use denote.Ref.{MutBor}
use Rattle.st80_parser.specs.declared.cursor.Cursor.{Cursor}
use Rattle.st80_parser.specs.declared.error.ParseError.{ParseError}
use Rattle.st80_parser.specs.declared.tree.Expr.{Expr}
use Rattle.st80_parser.specs.Stands.{Nested, Runs, Symbol}
use Rattle.st80_parser.specs.Written.{expr}

pub record Nests (depth : ℕ) (pre : Global → MutBor Cursor → ℕ → Type 0)
    (post : Global → MutBor Cursor → ℕ → Result Expr ParseError → MutBor Cursor → Type 0) : Type 0 where
  pub callable : (alloc : Global) (old : MutBor Cursor) → pre alloc old depth
  pub reads : (alloc : Global) (old new : MutBor Cursor) (r : Result Expr ParseError) → post alloc old depth r new
      → IfOk r (λ e. old.now.rest.now ≡ expr e ++ new.now.rest.now)
  pub within : (alloc : Global) (old new : MutBor Cursor) (r : Result Expr ParseError) → post alloc old depth r new
      → length new.now.rest.now ≤ length old.now.rest.now
  pub runs : (alloc : Global) (old new : MutBor Cursor) (r : Result Expr ParseError) → post alloc old depth r new
      → (xs : List Symbol) → Runs r (Nested depth ∷ xs) (λ _. xs) old.now.rest.now new.now.rest.now

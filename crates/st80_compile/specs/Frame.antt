-- The literals that a tree needs: in the order in which its code names them, each once.
use Rattle.std.specs.Prelude.{ℕ, ◌+◌, ◌==◌, ◌&&◌, Bool, true, false, not, nat_lt, ◌||◌, List, [], ◌∷◌, ◌++◌, length, suc, if◌then◌else◌}
use Rattle.st80_tree.specs.declared.tree.Variable.{Variable}
use Rattle.st80_tree.specs.declared.tree.Variable.TheVariants.{Temporary, Instance, Shared}
use Rattle.st80_tree.specs.declared.tree.Node.{Node}
use Rattle.st80_tree.specs.declared.tree.Node.TheVariants.{Constant as Fixed, Context, Literal, Variable as Read, Assign', Send', Cascade', Block', Choice', Loop'}
use Rattle.st80_tree.specs.declared.tree.Nodes.{Nodes}
use Rattle.st80_tree.specs.declared.tree.Nodes.TheVariants.{End, More'}
use Rattle.st80_tree.specs.declared.tree.Messages.{Messages}
use Rattle.st80_tree.specs.declared.tree.Messages.TheVariants.{Last', Then'}
use Rattle.st80_tree.specs.declared.tree.Statements.{Statements}
use Rattle.st80_tree.specs.declared.tree.Statements.TheVariants.{Done, Value', Return', Step'}

-- one field more, up to the largest byte
abbrev pub higher : ℕ → ℕ
higher h = if nat_lt h 255 then h + 1 else h

-- the height with so many arguments above it
abbrev pub raised : ℕ → Nodes → ℕ
raised h End = h
raised h (More' p e q rest) = raised (higher h) rest

-- how many arguments a selector with a bytecode of its own has
abbrev pub special_arguments : ℕ → ℕ
special_arguments s =
    if s == 17 then 2 else
    (if (s == 18) || (s == 19) || (s == 21) || (s == 23) || (s == 25) || (s == 28) || (s == 30) || (s == 31) then 0 else 1)

-- such a selector, with as many arguments as it has, and not to super
abbrev pub is_special : Bool → ℕ → ℕ → Bool
is_special to_super s n = not to_super && (nat_lt s 32 && (special_arguments s == n))

-- the number of a literal, or how many there are
abbrev pub index_of : List ℕ → ℕ → ℕ
index_of [] l = 0
index_of (x ∷ xs) l = if x == l then 0 else suc (index_of xs l)

abbrev pub with_literal : List ℕ → ℕ → List ℕ
with_literal frame l = if nat_lt (index_of frame l) (length frame) then frame else frame ++ l ∷ []

abbrev pub with_variable : List ℕ → Variable → List ℕ
with_variable frame (Temporary n) = frame
with_variable frame (Instance n) = frame
with_variable frame (Shared l) = with_literal frame l

-- with a message's selector
abbrev pub with_selector : List ℕ → Bool → ℕ → ℕ → List ℕ
with_selector frame to_super s n = if is_special to_super s n then frame else with_literal frame s

-- with the number of a block's arguments, where it isn't 0, 1 or 2
abbrev pub with_count : List ℕ → ℕ → List ℕ
with_count frame n = if nat_lt n 3 then frame else with_literal frame (42 + n)

abbrev mutual
  pub node_literals : List ℕ → Node → List ℕ
  node_literals frame (Fixed c) = frame
  node_literals frame Context = frame
  node_literals frame (Literal l) = with_literal frame l
  node_literals frame (Read v) = with_variable frame v
  node_literals frame (Assign' v p e) = with_variable (node_literals frame e) v
  node_literals frame (Send' to_super p r s q args) =
      with_selector (argument_literals (node_literals frame r) args) to_super s (raised 0 args)
  node_literals frame (Cascade' to_super p r q ms) = message_literals (node_literals frame r) to_super ms
  node_literals frame (Block' first count p body) = statement_literals (with_count frame count) body
  node_literals frame (Choice' on p t q a r b) = statement_literals (statement_literals (node_literals frame t) a) b
  node_literals frame (Loop' on p t q body) = statement_literals (statement_literals frame t) body

  pub argument_literals : List ℕ → Nodes → List ℕ
  argument_literals frame End = frame
  argument_literals frame (More' p e q rest) = argument_literals (node_literals frame e) rest

  pub message_literals : List ℕ → Bool → Messages → List ℕ
  message_literals frame to_super (Last' s p args) = with_selector (argument_literals frame args) to_super s (raised 0 args)
  message_literals frame to_super (Then' s p args q rest) =
      message_literals (with_selector (argument_literals frame args) to_super s (raised 0 args)) to_super rest

  pub statement_literals : List ℕ → Statements → List ℕ
  statement_literals frame Done = frame
  statement_literals frame (Value' p e) = node_literals frame e
  statement_literals frame (Return' p e) = node_literals frame e
  statement_literals frame (Step' p e q rest) = statement_literals (node_literals frame e) rest

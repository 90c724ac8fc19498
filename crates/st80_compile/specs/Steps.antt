-- The instructions of a tree, by the Blue Book's patterns. Each has the height of the stack before it: how many of the fields behind the
-- first six of its context are in use.
use Rattle.std.specs.Prelude.{ℕ, zero, suc, ◌+◌, ◌==◌, ◌&&◌, Bool, true, false, not, nat_lt, List, [], ◌∷◌, ◌++◌, Option, Some, None, if◌then◌else◌}
use Rattle.st80_tree.specs.declared.tree.Variable.{Variable}
use Rattle.st80_tree.specs.declared.tree.Variable.TheVariants.{Temporary, Instance, Shared}
use Rattle.st80_tree.specs.declared.tree.Constant.{Constant}
use Rattle.st80_tree.specs.declared.tree.Constant.TheVariants as constant
use Rattle.st80_tree.specs.declared.tree.Node.{Node}
use Rattle.st80_tree.specs.declared.tree.Node.TheVariants.{Constant as Fixed, Context, Literal, Variable as Read, Assign', Send', Cascade', Block', Choice', Loop'}
use Rattle.st80_tree.specs.declared.tree.Nodes.{Nodes}
use Rattle.st80_tree.specs.declared.tree.Nodes.TheVariants.{End, More'}
use Rattle.st80_tree.specs.declared.tree.Messages.{Messages}
use Rattle.st80_tree.specs.declared.tree.Messages.TheVariants.{Last', Then'}
use Rattle.st80_tree.specs.declared.tree.Statements.{Statements}
use Rattle.st80_tree.specs.declared.tree.Statements.TheVariants.{Done, Value', Return', Step'}
use Rattle.st80_compile.specs.declared.step.Place.{Place}
use Rattle.st80_compile.specs.declared.step.Place.TheVariants.{OfReceiver, OfHome, OfFrame, OfAssociation}
use Rattle.st80_compile.specs.declared.step.Op.{Op}
use Rattle.st80_compile.specs.declared.step.Op.TheVariants.{Push, PushConstant, PushContext, Store, StorePop, Pop, Duplicate, Message, Special, Jump, Over, Back, Branch, ReturnConstant, ReturnTop, ReturnFromBlock}
use Rattle.st80_compile.specs.declared.step.Step.{Step}
use Rattle.st80_compile.specs.Frame.{higher, raised, is_special, index_of}
use Rattle.st80_compile.specs.Bytes.{width, far}

-- an instruction at a height
abbrev pub one : ℕ → Op → List Step
one h o = record { height = h; op = o } ∷ []

abbrev pub place_of : List ℕ → Variable → Place
place_of frame (Temporary n) = OfHome n
place_of frame (Instance n) = OfReceiver n
place_of frame (Shared l) = OfAssociation (index_of frame l)

abbrev pub message : List ℕ → Bool → ℕ → ℕ → Op
message frame to_super s n = if is_special to_super s n then Special s else Message to_super (index_of frame s) n

-- ---- returns

-- self, true, false and nil are returned by one byte
abbrev pub quick_constant : Constant → Option Constant
quick_constant constant.Receiver = Some constant.Receiver
quick_constant constant.True = Some constant.True
quick_constant constant.False = Some constant.False
quick_constant constant.Nil = Some constant.Nil
quick_constant constant.MinusOne = None
quick_constant constant.Zero = None
quick_constant constant.One = None
quick_constant constant.Two = None

abbrev pub quick : Node → Option Constant
quick (Fixed c) = quick_constant c
quick Context = None
quick (Literal l) = None
quick (Read v) = None
quick (Assign' v p e) = None
quick (Send' to_super p r s q args) = None
quick (Cascade' to_super p r q ms) = None
quick (Block' first count p body) = None
quick (Choice' on p t q a r b) = None
quick (Loop' on p t q body) = None

abbrev pub return_steps : ℕ → Option Constant → List Step → List Step
return_steps h (Some c) value = one h (ReturnConstant c)
return_steps h None value = value ++ one (higher h) ReturnTop

-- whether the last statement is a return
abbrev pub returns : Statements → Bool
returns Done = false
returns (Value' p e) = false
returns (Return' p e) = true
returns (Step' p e q rest) = returns rest

-- ---- blocks

-- what a block is pushed by: it is made by blockCopy:, and its own code jumped over
abbrev pub count_op : List ℕ → ℕ → Op
count_op frame n =
    if n == 0 then PushConstant constant.Zero else
    (if n == 1 then PushConstant constant.One else
    (if n == 2 then PushConstant constant.Two else Push (OfFrame (index_of frame (42 + n)))))

abbrev pub opening : List ℕ → ℕ → ℕ → ℕ → List Step
opening frame h count n =
    one h PushContext ++ (one (higher h) (count_op frame count) ++ (one (higher (higher h)) (Special 24) ++ one (higher h) (Over n)))

-- a block's code begins with its arguments on its stack, the last one on top
abbrev pub stores : ℕ → ℕ → List Step
stores first zero = []
stores first (suc n) = one (suc n) (StorePop (OfHome (first + n))) ++ stores first n

abbrev pub closing : Bool → List Step
closing is_return = if is_return then [] else one 1 ReturnFromBlock

abbrev pub block_steps : List ℕ → ℕ → ℕ → ℕ → Bool → List Step → List Step
block_steps frame h first count is_return body =
    opening frame h count (far (stores first count ++ (body ++ closing is_return))) ++ (stores first count ++ (body ++ closing is_return))

-- ---- jumps

-- the first part ends in a jump over the second, unless it returns or there is nothing to jump over
abbrev pub passes : Bool → ℕ → Bool
passes is_return n = not is_return && nat_lt 0 n

abbrev pub passing : ℕ → Bool → ℕ → List Step
passing h is_return n = if passes is_return n then one h (Jump n) else []

abbrev pub choice_parts : Bool → ℕ → List Step → List Step → List Step
choice_parts on h a b = one h (Branch on (far a)) ++ (a ++ b)

-- a choice behind its test, whose value is the top. k is the height behind the first part
abbrev pub choice_steps : Bool → ℕ → ℕ → Bool → List Step → List Step → List Step
choice_steps on h k is_return a b = choice_parts on h (a ++ passing k is_return (far b)) b

-- a loop: the test, a jump out, the body, and a jump back to the test
abbrev pub loop_steps : Bool → ℕ → List Step → List Step → List Step
loop_steps on h t b =
    t ++ (one (higher h) (Branch on (far b + 2)) ++ (b ++ one h (Back (far t + width (Branch on (far b + 2)) + far b + 2))))

-- ---- trees

abbrev mutual
  -- pushes the value
  pub value_steps : List ℕ → ℕ → Node → List Step
  value_steps frame h (Fixed c) = one h (PushConstant c)
  value_steps frame h Context = one h PushContext
  value_steps frame h (Literal l) = one h (Push (OfFrame (index_of frame l)))
  value_steps frame h (Read v) = one h (Push (place_of frame v))
  value_steps frame h (Assign' v p e) = value_steps frame h e ++ one (higher h) (Store (place_of frame v))
  value_steps frame h (Send' to_super p r s q args) =
      value_steps frame h r ++ (argument_steps frame (higher h) args ++ one (raised (higher h) args) (message frame to_super s (raised 0 args)))
  value_steps frame h (Cascade' to_super p r q ms) = value_steps frame h r ++ message_steps frame to_super (higher h) ms
  value_steps frame h (Block' first count p body) =
      block_steps frame h first count (returns body) (statement_steps frame 0 true body)
  value_steps frame h (Choice' on p t q a r b) =
      value_steps frame h t ++ choice_steps on (higher h) (higher h) (returns a) (statement_steps frame h true a) (statement_steps frame h true b)
  value_steps frame h (Loop' on p t q body) =
      loop_steps on h (statement_steps frame h true t) (statement_steps frame h false body) ++ one h (PushConstant constant.Nil)

  -- leaves the stack as it was
  pub effect_steps : List ℕ → ℕ → Node → List Step
  effect_steps frame h (Fixed c) = []
  effect_steps frame h Context = []
  effect_steps frame h (Literal l) = []
  effect_steps frame h (Read v) = []
  effect_steps frame h (Assign' v p e) = value_steps frame h e ++ one (higher h) (StorePop (place_of frame v))
  effect_steps frame h (Send' to_super p r s q args) =
      (value_steps frame h r ++ (argument_steps frame (higher h) args ++ one (raised (higher h) args) (message frame to_super s (raised 0 args)))) ++ one (higher h) Pop
  effect_steps frame h (Cascade' to_super p r q ms) = (value_steps frame h r ++ message_steps frame to_super (higher h) ms) ++ one (higher h) Pop
  effect_steps frame h (Block' first count p body) = []
  effect_steps frame h (Choice' on p t q a r b) =
      value_steps frame h t ++ choice_steps on (higher h) h (returns a) (statement_steps frame h false a) (statement_steps frame h false b)
  effect_steps frame h (Loop' on p t q body) = loop_steps on h (statement_steps frame h true t) (statement_steps frame h false body)

  pub argument_steps : List ℕ → ℕ → Nodes → List Step
  argument_steps frame h End = []
  argument_steps frame h (More' p e q rest) = value_steps frame h e ++ argument_steps frame (higher h) rest

  -- with the receiver on top: each message but the last gets a copy of it, and its answer is dropped
  pub message_steps : List ℕ → Bool → ℕ → Messages → List Step
  message_steps frame to_super h (Last' s p args) =
      argument_steps frame h args ++ one (raised h args) (message frame to_super s (raised 0 args))
  message_steps frame to_super h (Then' s p args q rest) =
      one h Duplicate ++ (argument_steps frame (higher h) args ++ (one (raised (higher h) args) (message frame to_super s (raised 0 args)) ++ (one (higher h) Pop ++ message_steps frame to_super h rest)))

  -- with the value of the last statement, or without
  pub statement_steps : List ℕ → ℕ → Bool → Statements → List Step
  statement_steps frame h wanted Done = if wanted then one h (PushConstant constant.Nil) else []
  statement_steps frame h wanted (Value' p e) = if wanted then value_steps frame h e else effect_steps frame h e
  statement_steps frame h wanted (Return' p e) = return_steps h (quick e) (value_steps frame h e)
  statement_steps frame h wanted (Step' p e q rest) = effect_steps frame h e ++ statement_steps frame h wanted rest

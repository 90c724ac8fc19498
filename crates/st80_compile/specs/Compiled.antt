-- A method's code, its literals and its form, or the first reason why it has none.
use Rattle.std.specs.Prelude.{◌≡◌, ℕ, ◌+◌, ◌==◌, ◌&&◌, ◌||◌, Bool, true, false, nat_lt, max, List, [], ◌∷◌, ◌++◌, length, Option, Some, None, fold, if◌then◌else◌}
use Rattle.std.specs.List.{list_any}
use Rattle.st80_tree.specs.declared.tree.Variable.{Variable}
use Rattle.st80_tree.specs.declared.tree.Variable.TheVariants.{Temporary, Instance, Shared}
use Rattle.st80_tree.specs.declared.tree.Constant.{Constant}
use Rattle.st80_tree.specs.declared.tree.Constant.TheVariants as constant
use Rattle.st80_tree.specs.declared.tree.Node.{Node}
use Rattle.st80_tree.specs.declared.tree.Node.TheVariants.{Constant as Fixed, Context, Literal, Variable as Read, Assign', Send', Cascade', Block', Choice', Loop'}
use Rattle.st80_tree.specs.declared.tree.Statements.{Statements}
use Rattle.st80_tree.specs.declared.tree.Statements.TheVariants.{Done, Value', Return', Step'}
use Rattle.st80_tree.specs.declared.tree.Method.{Method}
use Rattle.st80_compile.specs.declared.step.Op.{Op}
use Rattle.st80_compile.specs.declared.step.Op.TheVariants.{Push, PushConstant, PushContext, Store, StorePop, Pop, Duplicate, Message, Special, Jump, Over, Back, Branch, ReturnConstant, ReturnTop, ReturnFromBlock}
use Rattle.st80_compile.specs.declared.step.Step.{Step}
use Rattle.st80_compile.specs.declared.bytes.Refusal.{Refusal}
use Rattle.st80_compile.specs.declared.bytes.Refusal.TheVariants.{TooManyArguments, TooManyTemporaries, TooManyLiterals, StackTooDeep}
use Rattle.st80_compile.specs.declared.compiler.Answers.{Answers}
use Rattle.st80_compile.specs.declared.compiler.Answers.TheVariants as form
use Rattle.st80_compile.specs.declared.compiler.Compiled.{Compiled}
use Rattle.st80_compile.specs.declared.compiler.Stop.{Stop}
use Rattle.st80_compile.specs.declared.compiler.Stop.TheVariants.{NoMemory, Refused}
use Rattle.st80_compile.specs.Frame.{special_arguments, statement_literals}
use Rattle.st80_compile.specs.Bytes.{first_of, refusal_of, spelled}
use Rattle.st80_compile.specs.Steps.{one, returns, statement_steps}

-- ---- the stack

-- how many fields above its height an instruction may use. A send without arguments has room for the Message that doesNotUnderstand:
-- takes, a branch for the one behind mustBeBoolean, and a return for the context and the value that cannotReturn: takes
abbrev pub rise : Op → ℕ
rise (Push place) = 1
rise (PushConstant c) = 1
rise PushContext = 1
rise (Store place) = 0
rise (StorePop place) = 0
rise Pop = 0
rise Duplicate = 1
rise (Message to_super i n) = if n == 0 then 1 else 0
rise (Special s) = if special_arguments s == 0 then 1 else 0
rise (Jump n) = 0
rise (Over n) = 0
rise (Back n) = 0
rise (Branch on n) = 1
rise (ReturnConstant c) = 2
rise ReturnTop = 1
rise ReturnFromBlock = 1

-- the fields behind a context's first six that some instruction uses
abbrev pub depth : List Step → ℕ
depth steps = fold (λ d step. max d (step.height + rise step.op)) 0 steps

abbrev pub sends_super : Op → Bool
sends_super (Push place) = false
sends_super (PushConstant c) = false
sends_super PushContext = false
sends_super (Store place) = false
sends_super (StorePop place) = false
sends_super Pop = false
sends_super Duplicate = false
sends_super (Message to_super i n) = to_super
sends_super (Special s) = false
sends_super (Jump n) = false
sends_super (Over n) = false
sends_super (Back n) = false
sends_super (Branch on n) = false
sends_super (ReturnConstant c) = false
sends_super ReturnTop = false
sends_super ReturnFromBlock = false

abbrev pub any_super : List Step → Bool
any_super steps = list_any (λ step. sends_super step.op) steps

-- ---- forms

-- a method that answers self or a field, and has no arguments and no primitive, needs no code
abbrev pub constant_answers : Constant → Answers
constant_answers constant.Receiver = form.Receiver
constant_answers constant.True = form.Code
constant_answers constant.False = form.Code
constant_answers constant.Nil = form.Code
constant_answers constant.MinusOne = form.Code
constant_answers constant.Zero = form.Code
constant_answers constant.One = form.Code
constant_answers constant.Two = form.Code

-- a field's number has five bits
abbrev pub variable_answers : Variable → Answers
variable_answers (Temporary n) = form.Code
variable_answers (Instance n) = if nat_lt n 32 then form.Field n else form.Code
variable_answers (Shared l) = form.Code

abbrev pub node_answers : Node → Answers
node_answers (Fixed c) = constant_answers c
node_answers Context = form.Code
node_answers (Literal l) = form.Code
node_answers (Read v) = variable_answers v
node_answers (Assign' v p e) = form.Code
node_answers (Send' to_super p r s q args) = form.Code
node_answers (Cascade' to_super p r q ms) = form.Code
node_answers (Block' first count p body) = form.Code
node_answers (Choice' on p t q a r b) = form.Code
node_answers (Loop' on p t q body) = form.Code

abbrev pub body_answers : Statements → Answers
body_answers Done = form.Receiver
body_answers (Value' p e) = form.Code
body_answers (Return' p e) = node_answers e
body_answers (Step' p e q rest) = form.Code

abbrev pub answers_of : Method → Answers
answers_of m = if (m.arguments == 0) && (m.primitive == 0) then body_answers m.body.value else form.Code

-- ---- code

-- the literals but for the last two
unfoldable pub frame_of : Method → List ℕ
frame_of m = statement_literals [] m.body.value

-- a method that doesn't return answers self
abbrev pub ended : Bool → ℕ → List Step → List Step
ended is_return h steps = if is_return then steps else steps ++ one h (ReturnConstant constant.Receiver)

-- the stack begins above the temporaries
unfoldable pub steps_of : List ℕ → Method → List Step
steps_of frame m = ended (returns m.body.value) m.temporaries (statement_steps frame m.temporaries false m.body.value)

abbrev pub has_extension : Method → Bool
has_extension m = nat_lt 4 m.arguments || nat_lt 0 m.primitive

-- how many literals stand behind those of the tree: the header's extension and the class, or the class for a send to super
abbrev pub more_literals : Method → List Step → ℕ
more_literals m steps = if has_extension m then 2 else (if any_super steps then 1 else 0)

-- the first reason
unfoldable pub code_refusal : Method → List ℕ → List Step → Option Refusal
code_refusal m frame steps =
    if nat_lt 31 m.arguments then Some TooManyArguments else
    (if nat_lt 31 m.temporaries then Some TooManyTemporaries else
    (if nat_lt 63 (length frame + more_literals m steps) then Some TooManyLiterals else
    first_of (refusal_of m.temporaries (length frame) steps) (if nat_lt 32 (depth steps) then Some StackTooDeep else None)))

-- what was made of a method with code
pub record IsCode (m : Method) (frame : List ℕ) (steps : List Step) (made : Compiled) : Type 0 where
  pub answers : made.answers ≡ form.Code
  -- nothing was refused
  pub accepted : code_refusal m frame steps ≡ None
  pub arguments : made.arguments ≡ m.arguments
  pub temporaries : made.temporaries ≡ m.temporaries
  pub primitive : made.primitive ≡ m.primitive
  -- a context has room for 12 fields, or for 32
  pub large : made.is_large ≡ nat_lt 12 (depth steps)
  pub supers : made.sends_super ≡ any_super steps
  pub literals : made.literals.items ≡ frame
  pub code : made.code.items ≡ spelled steps

-- what was made of one without
pub record IsQuick (quick : Answers) (made : Compiled) : Type 0 where
  pub answers : made.answers ≡ quick
  pub literals : made.literals.items ≡ []
  pub code : made.code.items ≡ []

abbrev pub IsCompiled : Answers → Method → Compiled → Type 0
IsCompiled form.Code m made = IsCode m (frame_of m) (steps_of (frame_of m) m) made
IsCompiled form.Receiver m made = IsQuick form.Receiver made
IsCompiled (form.Field n) m made = IsQuick (form.Field n) made

abbrev pub refusal : Answers → Method → Option Refusal
refusal form.Code m = code_refusal m (frame_of m) (steps_of (frame_of m) m)
refusal form.Receiver m = None
refusal (form.Field n) m = None

-- want of memory alone is free
abbrev pub IsCause : Option Refusal → Stop → Type 0
IsCause r NoMemory = Unit {0}
IsCause r (Refused why) = r ≡ Some why

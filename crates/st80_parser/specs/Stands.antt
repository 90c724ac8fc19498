-- Where the parser stands: what may come, as a list of symbols, and what the next token does to it.
use Rattle.std.specs.Prelude.{ℕ, ◌-◌, ◌==◌, ◌||◌, ◌&&◌, not, Bool, true, false, List, [], ◌∷◌, ◌++◌, ◌≡◌, Option, Some, None, Result, Ok, Err, if◌then◌else◌}
use Rattle.st80_syntax.specs.declared.token.Token.{Token}
use Rattle.st80_syntax.specs.declared.token.Kind.{Kind}
use Rattle.st80_syntax.specs.declared.token.Kind.TheVariants as kind
use Rattle.st80_parser.specs.declared.arrays.TheConstants.{MOST_NESTED}
use Rattle.st80_parser.specs.declared.error.ParseError.{ParseError}
use Rattle.st80_parser.specs.declared.error.ParseError.TheVariants as error
use Rattle.st80_parser.specs.declared.kinds.Opening.{Opening}
use Rattle.st80_parser.specs.declared.kinds.Opening.TheVariants as opening
use Rattle.st80_parser.specs.declared.kinds.Joint.{Joint}
use Rattle.st80_parser.specs.declared.kinds.Joint.TheVariants as joint
use Rattle.st80_parser.specs.declared.kinds.Item.{Item}
use Rattle.st80_parser.specs.declared.kinds.Item.TheVariants as item
use Rattle.st80_parser.specs.declared.tree.Expr.{Expr}
use Rattle.st80_parser.specs.declared.tree.Expr.TheVariants as expr
use Rattle.st80_parser.specs.Kinds.{item_of, joint_of, kind_at, opening_of, same_kind}

-- what an expression is so far: a name by itself, another primary, or a message of which kind; what is sent takes only further messages
pub data State : Type 0 where
  Named : State
  Plain : State
  Unary : State
  Binary : State
  Sent : State

-- of what an expression is part: the operand of an operator, the argument of a keyword, or nothing
pub data Place : Type 0 where
  Operand : Place
  Argument : Place
  Whole : Place

-- what may come; a number is how deep expressions, or arrays, may still nest
pub data Symbol : Type 0 where
  -- a token of this kind
  One : Kind → Symbol
  Names : Symbol
  -- marks of a kind, each with a name
  Marks : Kind → Symbol
  Selector : Symbol
  Temporaries : Symbol
  Primitive : Symbol
  Header : Symbol
  Elements : ℕ → Symbol
  Nested : ℕ → Symbol
  First : Place → ℕ → Symbol
  -- what goes on with an expression
  After : State → Place → ℕ → Symbol
  Keywords : ℕ → Symbol
  Message : ℕ → Symbol
  Others : ℕ → Symbol
  Body : ℕ → Symbol
  -- behind a statement
  Behind : ℕ → Symbol
  -- behind what is returned
  Dot : Symbol

-- what a symbol does with a token: it takes it, and then these may come; it is done; or it can't be
pub data Fed : Type 0 where
  Takes : List Symbol → Fed
  Skips : Fed
  Refuses : Fed

-- ---- expressions

abbrev pub deeper : ℕ → List Symbol → Fed
deeper d more = if d == 0 then Refuses else Takes more

-- what a primary has behind its first token
abbrev pub inside : ℕ → Opening → List Symbol
inside d opening.Name = []
inside d opening.Literal = []
inside d opening.Minus = One kind.Integer ∷ []
inside d opening.Array = Elements MOST_NESTED ∷ One kind.Close ∷ []
inside d opening.Group = Nested d ∷ One kind.Close ∷ []
inside d opening.Block = Header ∷ Body d ∷ One kind.CloseBlock ∷ []

abbrev pub begun : Opening → State
begun opening.Name = Named
begun _ = Plain

abbrev pub is_group : Opening → Bool
is_group opening.Group = true
is_group _ = false

-- an expression, and what stands behind it
abbrev pub primary : Place → ℕ → List Symbol → Opening → Fed
primary place d behind o = if is_group o && d == 0 then Refuses else Takes (inside d o ++ After (begun o) place d ∷ behind)

abbrev pub first : Place → ℕ → List Symbol → Option Opening → Fed
first place d behind None = Refuses
first place d behind (Some o) = primary place d behind o

abbrev pub after_name : State → Place → ℕ → Fed
after_name Binary place d = Skips
after_name Sent place d = Skips
after_name _ place d = Takes (After Unary place d ∷ [])

abbrev pub after_operator : State → Place → ℕ → Fed
after_operator Sent place d = Skips
after_operator _ Operand d = Skips
after_operator _ place d = Takes (First Operand d ∷ After Binary place d ∷ [])

abbrev pub after_keyword : State → Place → ℕ → Fed
after_keyword Sent place d = Skips
after_keyword _ Whole d = Takes (First Argument d ∷ Keywords d ∷ After Sent Whole d ∷ [])
after_keyword _ place d = Skips

abbrev pub after_semicolon : State → Place → ℕ → Fed
after_semicolon Named place d = Skips
after_semicolon Plain place d = Skips
after_semicolon _ Whole d = Takes (Message d ∷ Others d ∷ [])
after_semicolon _ place d = Skips

abbrev pub after_assign : State → Place → ℕ → Fed
after_assign Named Whole d = deeper d (Nested d ∷ [])
after_assign _ _ d = Skips

abbrev pub after : State → Place → ℕ → Joint → Fed
after state place d joint.Name = after_name state place d
after state place d joint.Operator = after_operator state place d
after state place d joint.Keyword = after_keyword state place d
after state place d joint.Semicolon = after_semicolon state place d
after state place d joint.Assign = after_assign state place d
after state place d joint.Nothing = Skips

abbrev pub keywords : ℕ → Joint → Fed
keywords d joint.Keyword = Takes (First Argument d ∷ Keywords d ∷ [])
keywords d _ = Skips

abbrev pub message : ℕ → Joint → Fed
message d joint.Name = Takes []
message d joint.Operator = Takes (First Operand d ∷ [])
message d joint.Keyword = Takes (First Argument d ∷ Keywords d ∷ [])
message d _ = Refuses

abbrev pub others : ℕ → Joint → Fed
others d joint.Semicolon = Takes (Message d ∷ Others d ∷ [])
others d _ = Skips

-- ---- statements and methods

abbrev pub nested : ℕ → List Symbol → Option Opening → Fed
nested d behind o = if d == 0 then Refuses else first Whole (d - 1) behind o

abbrev pub body : ℕ → Bool → Option Opening → Fed
body d returns (Some o) = nested d (Behind d ∷ []) (Some o)
body d returns None = if returns then deeper d (Nested d ∷ Dot ∷ []) else Skips

abbrev pub elements : ℕ → Option Item → Fed
elements d (Some item.One) = Takes (Elements d ∷ [])
elements d (Some item.Nested) = deeper d (Elements (d - 1) ∷ One kind.Close ∷ Elements d ∷ [])
elements d None = Skips

abbrev pub selector : Joint → Fed
selector joint.Name = Takes []
selector joint.Operator = Takes (One kind.Name ∷ [])
selector joint.Keyword = Takes (One kind.Name ∷ Marks kind.Keyword ∷ [])
selector _ = Refuses

-- where a method begins, or statements by themselves
abbrev pub start : Bool → List Symbol
start true = Selector ∷ Temporaries ∷ Primitive ∷ Body MOST_NESTED ∷ []
start false = Temporaries ∷ Primitive ∷ Body MOST_NESTED ∷ []

-- ---- all of them

unfoldable pub feed : Symbol → Kind → Fed
feed (One j) k = if same_kind k j then Takes [] else Refuses
feed Names k = if same_kind k kind.Name then Takes (Names ∷ []) else Skips
feed (Marks j) k = if same_kind k j then Takes (One kind.Name ∷ Marks j ∷ []) else Skips
feed Selector k = selector (joint_of k)
feed Temporaries k = if same_kind k kind.Bar then Takes (Names ∷ One kind.Bar ∷ []) else Skips
feed Primitive k = if same_kind k kind.Binary then Takes (One kind.Keyword ∷ One kind.Integer ∷ One kind.Binary ∷ []) else Skips
feed Header k = if same_kind k kind.Colon then Takes (One kind.Name ∷ Marks kind.Colon ∷ One kind.Bar ∷ []) else Skips
feed (Elements d) k = elements d (item_of k)
feed (Nested d) k = nested d [] (opening_of k)
feed (First place d) k = first place d [] (opening_of k)
feed (After state place d) k = after state place d (joint_of k)
feed (Keywords d) k = keywords d (joint_of k)
feed (Message d) k = message d (joint_of k)
feed (Others d) k = others d (joint_of k)
feed (Body d) k = body d (same_kind k kind.Return) (opening_of k)
feed (Behind d) k = if same_kind k kind.Period then Takes (Body d ∷ []) else Skips
feed Dot k = if same_kind k kind.Period then Takes [] else Skips

-- by what the first symbol does, and what those behind it do
abbrev pub by_first : Fed → List Symbol → Option (List Symbol) → Option (List Symbol)
by_first (Takes more) behind next = Some (more ++ behind)
by_first Skips behind next = next
by_first Refuses behind next = None

-- what may come behind a token
unfoldable pub behind_token : List Symbol → Kind → Option (List Symbol)
behind_token [] k = None
behind_token (x ∷ xs) k = by_first (feed x k) xs (behind_token xs k)

abbrev pub is_done : Fed → Bool
is_done Skips = true
is_done _ = false

-- whether nothing has to come any more
unfoldable pub are_done : List Symbol → Bool
are_done [] = true
are_done (x ∷ xs) = is_done (feed x kind.End) && are_done xs

-- tokens are taken, all of them, or the first of these is refused
pub data Verdict : Type 0 where
  Taken : Verdict
  Stopped : List Token → Verdict

abbrev pub go_on : Option (List Symbol) → (List Symbol → Verdict) → Verdict → Verdict
go_on (Some xs) next stopped = next xs
go_on None next stopped = stopped

unfoldable pub run : List Symbol → List Token → Verdict
run xs [] = if are_done xs then Taken else Stopped []
run xs (t ∷ ts) = go_on (behind_token xs t.kind) (λ ys. run ys ts) (Stopped (t ∷ ts))

-- ---- what is said of a rule

abbrev pub state_of : Expr → State
state_of (expr.Name t) = Named
state_of (expr.Unary' p e t) = Unary
state_of (expr.Binary' p e t q a) = Binary
state_of (expr.Keyword' p e q ps) = Sent
state_of (expr.Cascade' p e q os) = Sent
state_of _ = Plain

abbrev pub is_message : State → Bool
is_message Named = false
is_message Plain = false
is_message _ = true

abbrev pub is_named : State → Bool
is_named Named = true
is_named _ = false

abbrev pub is_sent : State → Bool
is_sent Sent = true
is_sent _ = false

-- whether a unary selector may come
abbrev pub takes_names : State → Bool
takes_names Binary = false
takes_names Sent = false
takes_names _ = true

-- whether other messages to a receiver come
abbrev pub cascades : Joint → State → Bool
cascades joint.Semicolon state = is_message state
cascades _ state = false

-- a message ends where no further part of it comes
abbrev pub EndsMessage : State → Joint → Type 0
EndsMessage state joint.Name = takes_names state ≡ false
EndsMessage state joint.Operator = is_sent state ≡ true
EndsMessage state joint.Keyword = is_sent state ≡ true
EndsMessage state _ = Unit {0}

-- a cascade ends where no further message comes
abbrev pub EndsCascade : State → Joint → Type 0
EndsCascade state joint.Semicolon = is_message state ≡ false
EndsCascade state j = EndsMessage state j

-- a rule is refused where the parser is
abbrev pub Stops : ParseError → List Symbol → List Token → List Token → Type 0
Stops (error.Memory e) xs old new = Unit {0}
Stops (error.Refused expected) xs old new = run xs old ≡ Stopped new

-- what a rule leaves: what may come behind it, or its refusal
abbrev pub Runs : {A : Type 0} → Result A ParseError → List Symbol → (A → List Symbol) → List Token → List Token → Type 0
Runs (Ok a) xs ys old new = run xs old ≡ run (ys a) new
Runs (Err e) xs ys old new = Stops e xs old new

-- Which trees are of the grammar: of which kinds their tokens are, which expression stands where, and how deep they nest.
use Rattle.std.specs.Prelude.{ℕ, ◌-◌, ◌<◌, ◌≤◌, ◌≡◌, ◌≢◌, Bool, true, false, Some, List, [], ◌∷◌, ◌++◌, length, take, drop}
use Rattle.st80_syntax.specs.declared.token.Token.{Token}
use Rattle.st80_syntax.specs.declared.token.Kind.{Kind}
use Rattle.st80_syntax.specs.declared.token.Kind.TheVariants as kind
use Rattle.st80_parser.specs.declared.arrays.TheConstants.{MOST_NESTED}
use Rattle.st80_parser.specs.declared.kinds.Opening.TheVariants as opening
use Rattle.st80_parser.specs.declared.kinds.Joint.TheVariants as joint
use Rattle.st80_parser.specs.declared.kinds.Item.TheVariants as item
use Rattle.st80_parser.specs.declared.tree.Expr.{Expr}
use Rattle.st80_parser.specs.declared.tree.Expr.TheVariants.{Name, Literal, Negative, Array, Group', Block', Assign', Unary', Binary', Keyword', Cascade'}
use Rattle.st80_parser.specs.declared.tree.Parts.{Parts}
use Rattle.st80_parser.specs.declared.tree.Parts.TheVariants as part
use Rattle.st80_parser.specs.declared.tree.Others.{Others}
use Rattle.st80_parser.specs.declared.tree.Others.TheVariants as other
use Rattle.st80_parser.specs.declared.tree.Steps.{Steps}
use Rattle.st80_parser.specs.declared.tree.Steps.TheVariants as step
use Rattle.st80_parser.specs.declared.tree.Last.{Last}
use Rattle.st80_parser.specs.declared.tree.Last.TheVariants as last
use Rattle.st80_parser.specs.declared.tree.Elements.{Elements}
use Rattle.st80_parser.specs.declared.tree.Elements.TheVariants as element
use Rattle.st80_parser.specs.declared.tree.Pairs.{Pairs}
use Rattle.st80_parser.specs.declared.tree.Pairs.TheVariants as pair
use Rattle.st80_parser.specs.declared.tree.Header.{Header}
use Rattle.st80_parser.specs.declared.tree.Header.TheVariants as header
use Rattle.st80_parser.specs.declared.tree.Names.{Names}
use Rattle.st80_parser.specs.declared.tree.Names.TheVariants as name
use Rattle.st80_parser.specs.declared.tree.Temporaries.{Temporaries}
use Rattle.st80_parser.specs.declared.tree.Temporaries.TheVariants as temporaries
use Rattle.st80_parser.specs.declared.tree.Primitive.{Primitive}
use Rattle.st80_parser.specs.declared.tree.Primitive.TheVariants as primitive
use Rattle.st80_parser.specs.declared.tree.Pattern.{Pattern}
use Rattle.st80_parser.specs.declared.tree.Pattern.TheVariants as pattern
use Rattle.st80_parser.specs.declared.tree.Method.{Method}
use Rattle.st80_parser.specs.declared.methods.Parsed.{Parsed}
use Rattle.st80_parser.specs.declared.methods.Parsed.TheVariants as parsed
use Rattle.st80_parser.specs.Kinds.{item_of, joint_of, opening_of}
use Rattle.st80_parser.specs.Stands.{Stopped, Taken, run, start}
use Rattle.st80_parser.specs.Written.{method}

-- ---- lists

-- what stands in a literal array, which may nest so deep
abbrev pub AreElements : ℕ → Elements → Type 0
AreElements d element.Start = Unit {0}
AreElements d (element.One' p es t) = AreElements d es × (item_of t.kind ≡ Some item.One)
AreElements d (element.Nested' p es opening q inner close) =
    AreElements d es × (item_of opening.kind ≡ Some item.Nested) × (d ≢ 0) × AreElements (d - 1) inner × (close.kind ≡ kind.Close)

-- marks of a kind, each with a name
abbrev pub ArePairs : Kind → Pairs → Type 0
ArePairs k pair.Start = Unit {0}
ArePairs k (pair.Pair' p ps mark name) = ArePairs k ps × (mark.kind ≡ k) × (name.kind ≡ kind.Name)

abbrev pub SomePairs : Pairs → Type 0
SomePairs pair.Start = ⊥
SomePairs (pair.Pair' p ps mark name) = Unit {0}

abbrev pub AreNames : Names → Type 0
AreNames name.Start = Unit {0}
AreNames (name.Name' p ns t) = AreNames ns × (t.kind ≡ kind.Name)

abbrev pub IsHeader : Header → Type 0
IsHeader header.Nothing = Unit {0}
IsHeader (header.Of ps bar) = ArePairs kind.Colon ps × SomePairs ps × (bar.kind ≡ kind.Bar)

-- ---- expressions and statements

abbrev pub SomeParts : Parts → Type 0
SomeParts part.Start = ⊥
SomeParts (part.Part' p ps keyword q e) = Unit {0}

abbrev pub SomeOthers : Others → Type 0
SomeOthers other.Start = ⊥
SomeOthers _ = Unit {0}

-- a message, to whose receiver others may go
abbrev pub IsMessage : Expr → Type 0
IsMessage (Unary' p e t) = Unit {0}
IsMessage (Binary' p e t q a) = Unit {0}
IsMessage (Keyword' p e q ps) = Unit {0}
IsMessage _ = ⊥

-- An expression that may be: a primary at 0, a unary message from 1 on, a binary one from 2 on, one with keywords from 3 on, a cascade from 4 on, an assignment at 5.
-- The second number is how deep others may nest in it.
abbrev mutual
  pub IsExpr : ℕ → ℕ → Expr → Type 0
  IsExpr l d (Name t) = opening_of t.kind ≡ Some opening.Name
  IsExpr l d (Literal t) = opening_of t.kind ≡ Some opening.Literal
  IsExpr l d (Negative minus t) = (opening_of minus.kind ≡ Some opening.Minus) × (t.kind ≡ kind.Integer)
  IsExpr l d (Array lead es close) = (opening_of lead.kind ≡ Some opening.Array) × AreElements MOST_NESTED es × (close.kind ≡ kind.Close)
  IsExpr l d (Group' lead p e close) = (opening_of lead.kind ≡ Some opening.Group) × (d ≢ 0) × IsExpr 5 (d - 1) e × (close.kind ≡ kind.Close)
  IsExpr l d (Block' lead h p ss q x close) = (opening_of lead.kind ≡ Some opening.Block) × IsHeader h × AreSteps d ss × IsLast d x × (close.kind ≡ kind.CloseBlock)
  IsExpr l d (Assign' name sign p e) = (4 < l) × (opening_of name.kind ≡ Some opening.Name) × (joint_of sign.kind ≡ joint.Assign) × (d ≢ 0) × IsExpr 5 (d - 1) e
  IsExpr l d (Unary' p e selector) = (0 < l) × IsExpr 1 d e × (joint_of selector.kind ≡ joint.Name)
  IsExpr l d (Binary' p e selector q argument) = (1 < l) × IsExpr 2 d e × (joint_of selector.kind ≡ joint.Operator) × IsExpr 1 d argument
  IsExpr l d (Keyword' p e q ps) = (2 < l) × IsExpr 2 d e × AreParts d ps × SomeParts ps
  IsExpr l d (Cascade' p e q os) = (3 < l) × IsExpr 3 d e × IsMessage e × AreOthers d os × SomeOthers os

  pub AreParts : ℕ → Parts → Type 0
  AreParts d part.Start = Unit {0}
  AreParts d (part.Part' p ps keyword q e) = AreParts d ps × (joint_of keyword.kind ≡ joint.Keyword) × IsExpr 2 d e

  pub AreOthers : ℕ → Others → Type 0
  AreOthers d other.Start = Unit {0}
  AreOthers d (other.Unary' p os semicolon selector) = AreOthers d os × (joint_of semicolon.kind ≡ joint.Semicolon) × (joint_of selector.kind ≡ joint.Name)
  AreOthers d (other.Binary' p os semicolon selector q e) =
      AreOthers d os × (joint_of semicolon.kind ≡ joint.Semicolon) × (joint_of selector.kind ≡ joint.Operator) × IsExpr 1 d e
  AreOthers d (other.Keyword' p os semicolon q ps) = AreOthers d os × (joint_of semicolon.kind ≡ joint.Semicolon) × AreParts d ps × SomeParts ps

  pub AreSteps : ℕ → Steps → Type 0
  AreSteps d step.Start = Unit {0}
  AreSteps d (step.Step' p ss q e period) = AreSteps d ss × (d ≢ 0) × IsExpr 5 (d - 1) e × (period.kind ≡ kind.Period)

  pub IsLast : ℕ → Last → Type 0
  IsLast d last.Nothing = Unit {0}
  IsLast d (last.Value' p e) = (d ≢ 0) × IsExpr 5 (d - 1) e
  IsLast d (last.Return' sign p e) = (sign.kind ≡ kind.Return) × (d ≢ 0) × IsExpr 5 (d - 1) e
  IsLast d (last.Closed' sign p e period) = (sign.kind ≡ kind.Return) × (d ≢ 0) × IsExpr 5 (d - 1) e × (period.kind ≡ kind.Period)

-- ---- methods

abbrev pub AreTemporaries : Temporaries → Type 0
AreTemporaries temporaries.Nothing = Unit {0}
AreTemporaries (temporaries.Of lead ns close) = (lead.kind ≡ kind.Bar) × AreNames ns × (close.kind ≡ kind.Bar)

abbrev pub IsPrimitive : Primitive → Type 0
IsPrimitive primitive.Nothing = Unit {0}
IsPrimitive (primitive.Of lead word number close) = (lead.kind ≡ kind.Binary) × (word.kind ≡ kind.Keyword) × (number.kind ≡ kind.Integer) × (close.kind ≡ kind.Binary)

-- a method has a selector, and statements by themselves have none
abbrev pub IsPattern : Bool → Pattern → Type 0
IsPattern false pattern.Nothing = Unit {0}
IsPattern true (pattern.Unary selector) = joint_of selector.kind ≡ joint.Name
IsPattern true (pattern.Binary selector name) = (joint_of selector.kind ≡ joint.Operator) × (name.kind ≡ kind.Name)
IsPattern true (pattern.Keyword ps) = ArePairs kind.Keyword ps × SomePairs ps
IsPattern _ _ = ⊥

-- a method, or statements by themselves
pub record IsMethod (is_method : Bool) (m : Method) : Type 0 where
  pub pattern : IsPattern is_method m.pattern
  pub temporaries : AreTemporaries m.temporaries
  pub primitive : IsPrimitive m.primitive
  pub steps : AreSteps MOST_NESTED m.steps
  pub last : IsLast MOST_NESTED m.last

-- ---- what is refused

-- what stands next is of one kind in both, or nothing stands in either
abbrev pub SameNext : List Token → List Token → Type 0
SameNext [] [] = Unit {0}
SameNext (t ∷ ts) (u ∷ us) = t.kind ≡ u.kind
SameNext _ _ = ⊥

-- No rule takes the token of this number where the parser stands: no tree is written as the tokens before it and then one of its kind, whatever follows. Behind the last
-- token: no tree is written as all of them.
abbrev pub NothingTakes : Bool → List Token → ℕ → Type 0
NothingTakes is_method tokens n = (m : Method) → IsMethod is_method m → (rest : List Token) → method m ≡ take n tokens ++ rest → SameNext rest (drop n tokens) → ⊥

-- a tree that is written as all of them; or the first token that no rule takes where the parser stands
abbrev pub IsParsed : Bool → List Token → Parsed → Type 0
IsParsed is_method tokens (parsed.Method m) = (tokens ≡ method m) × (run (start is_method) tokens ≡ Taken)
IsParsed is_method tokens (parsed.Refused r) =
    (r.number ≤ length tokens) × (run (start is_method) tokens ≡ Stopped (drop r.number tokens)) × NothingTakes is_method tokens r.number

-- tokens are read as a tree
abbrev pub IsTree : Parsed → Type 0
IsTree (parsed.Method m) = Unit {0}
IsTree (parsed.Refused r) = ⊥

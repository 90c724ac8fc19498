-- The tokens of a tree, from left to right. With the types of the tree this is the grammar: a tree is a derivation of what it is written as.
use Rattle.std.specs.Prelude.{List, [], ◌∷◌, ◌++◌}
use Rattle.st80_syntax.specs.declared.token.Token.{Token}
use Rattle.st80_parser.specs.declared.tree.Expr.{Expr}
use Rattle.st80_parser.specs.declared.tree.Expr.TheVariants.{Name, Literal, Negative, Array, Group', Block', Assign', Unary', Binary', Keyword', Cascade'}
use Rattle.st80_parser.specs.declared.tree.Parts.{Parts}
use Rattle.st80_parser.specs.declared.tree.Parts.TheVariants as part
use Rattle.st80_parser.specs.declared.tree.Others.{Others}
use Rattle.st80_parser.specs.declared.tree.Others.TheVariants as other
use Rattle.st80_parser.specs.declared.tree.Steps.{Steps}
use Rattle.st80_parser.specs.declared.tree.Steps.TheVariants as step
use Rattle.st80_parser.specs.declared.tree.Last.{Last}
use Rattle.st80_parser.specs.declared.tree.Last.TheVariants as last
use Rattle.st80_parser.specs.declared.tree.Elements.{Elements}
use Rattle.st80_parser.specs.declared.tree.Elements.TheVariants as element
use Rattle.st80_parser.specs.declared.tree.Pairs.{Pairs}
use Rattle.st80_parser.specs.declared.tree.Pairs.TheVariants as pair
use Rattle.st80_parser.specs.declared.tree.Header.{Header}
use Rattle.st80_parser.specs.declared.tree.Header.TheVariants as header
use Rattle.st80_parser.specs.declared.tree.Names.{Names}
use Rattle.st80_parser.specs.declared.tree.Names.TheVariants as name
use Rattle.st80_parser.specs.declared.tree.Temporaries.{Temporaries}
use Rattle.st80_parser.specs.declared.tree.Temporaries.TheVariants as temporaries
use Rattle.st80_parser.specs.declared.tree.Primitive.{Primitive}
use Rattle.st80_parser.specs.declared.tree.Primitive.TheVariants as primitive
use Rattle.st80_parser.specs.declared.tree.Pattern.{Pattern}
use Rattle.st80_parser.specs.declared.tree.Pattern.TheVariants as pattern
use Rattle.st80_parser.specs.declared.tree.Method.{Method}

abbrev pub Tokens : Type 0
Tokens = List Token

-- ---- lists

abbrev pub elements : Elements → Tokens
elements element.Start = []
elements (element.One' p es t) = elements es ++ t ∷ []
elements (element.Nested' p es opening q inner close) = elements es ++ opening ∷ (elements inner ++ close ∷ [])

abbrev pub pairs : Pairs → Tokens
pairs pair.Start = []
pairs (pair.Pair' p ps mark name) = pairs ps ++ mark ∷ name ∷ []

abbrev pub names : Names → Tokens
names name.Start = []
names (name.Name' p ns t) = names ns ++ t ∷ []

abbrev pub header_of : Header → Tokens
header_of header.Nothing = []
header_of (header.Of ps bar) = pairs ps ++ bar ∷ []

-- ---- expressions and statements

abbrev mutual
  pub expr : Expr → Tokens
  expr (Name t) = t ∷ []
  expr (Literal t) = t ∷ []
  expr (Negative minus t) = minus ∷ t ∷ []
  expr (Array opening es close) = opening ∷ (elements es ++ close ∷ [])
  expr (Group' opening p e close) = opening ∷ (expr e ++ close ∷ [])
  expr (Block' opening h p ss q l close) = opening ∷ (header_of h ++ ((steps ss ++ last_of l) ++ close ∷ []))
  expr (Assign' name sign p e) = name ∷ sign ∷ expr e
  expr (Unary' p e selector) = expr e ++ selector ∷ []
  expr (Binary' p e selector q argument) = expr e ++ selector ∷ expr argument
  expr (Keyword' p e q ps) = expr e ++ parts ps
  expr (Cascade' p e q os) = expr e ++ others os

  pub parts : Parts → Tokens
  parts part.Start = []
  parts (part.Part' p ps keyword q e) = parts ps ++ keyword ∷ expr e

  pub others : Others → Tokens
  others other.Start = []
  others (other.Unary' p os semicolon selector) = others os ++ semicolon ∷ selector ∷ []
  others (other.Binary' p os semicolon selector q e) = others os ++ semicolon ∷ selector ∷ expr e
  others (other.Keyword' p os semicolon q ps) = others os ++ semicolon ∷ parts ps

  pub steps : Steps → Tokens
  steps step.Start = []
  steps (step.Step' p ss q e period) = steps ss ++ (expr e ++ period ∷ [])

  pub last_of : Last → Tokens
  last_of last.Nothing = []
  last_of (last.Value' p e) = expr e
  last_of (last.Return' sign p e) = sign ∷ expr e
  last_of (last.Closed' sign p e period) = sign ∷ (expr e ++ period ∷ [])

-- ---- methods

abbrev pub temporaries_of : Temporaries → Tokens
temporaries_of temporaries.Nothing = []
temporaries_of (temporaries.Of opening ns close) = opening ∷ (names ns ++ close ∷ [])

abbrev pub primitive_of : Primitive → Tokens
primitive_of primitive.Nothing = []
primitive_of (primitive.Of opening word number close) = opening ∷ word ∷ number ∷ close ∷ []

abbrev pub pattern_of : Pattern → Tokens
pattern_of pattern.Nothing = []
pattern_of (pattern.Unary selector) = selector ∷ []
pattern_of (pattern.Binary selector name) = selector ∷ name ∷ []
pattern_of (pattern.Keyword ps) = pairs ps

-- statements and what stands behind them
abbrev pub body : Steps × Last → Tokens
body b = steps b.0 ++ last_of b.1

unfoldable pub method : Method → Tokens
method m = pattern_of m.pattern ++ (temporaries_of m.temporaries ++ (primitive_of m.primitive ++ (steps m.steps ++ last_of m.last)))

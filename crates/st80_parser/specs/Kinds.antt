-- What the kinds of tokens do: where an expression may begin, where it may go on, and in a literal array.
use Rattle.std.specs.Prelude.{Bool, List, [], ◌∷◌, Option, Some, None}
use denote.Enum.Bare.{sameb}
use Rattle.st80_syntax.specs.declared.token.Token.{Token}
use Rattle.st80_syntax.specs.declared.token.Kind.{Kind}
use Rattle.st80_syntax.specs.declared.token.Kind.TheVariants as kind
use Rattle.st80_syntax.specs.contracts.token.Kind.{the_type}
use Rattle.st80_parser.specs.declared.kinds.Opening.{Opening}
use Rattle.st80_parser.specs.declared.kinds.Opening.TheVariants as opening
use Rattle.st80_parser.specs.declared.kinds.Joint.{Joint}
use Rattle.st80_parser.specs.declared.kinds.Joint.TheVariants as joint
use Rattle.st80_parser.specs.contracts.kinds.Joint as joints
use Rattle.st80_parser.specs.declared.kinds.Item.{Item}
use Rattle.st80_parser.specs.declared.kinds.Item.TheVariants as item

abbrev pub same_kind : Kind → Kind → Bool
same_kind = sameb the_type

abbrev pub same_joint : Joint → Joint → Bool
same_joint = sameb joints.the_type

-- what begins with a token
unfoldable pub opening_of : Kind → Option Opening
opening_of kind.Name = Some opening.Name
opening_of kind.Integer = Some opening.Literal
opening_of kind.Character = Some opening.Literal
opening_of kind.Text = Some opening.Literal
opening_of kind.Symbol = Some opening.Literal
opening_of kind.Minus = Some opening.Minus
opening_of kind.OpenArray = Some opening.Array
opening_of kind.Open = Some opening.Group
opening_of kind.OpenBlock = Some opening.Block
opening_of _ = None

-- how a token goes on with an expression that stands before it
unfoldable pub joint_of : Kind → Joint
joint_of kind.Name = joint.Name
joint_of kind.Binary = joint.Operator
joint_of kind.Minus = joint.Operator
joint_of kind.Bar = joint.Operator
joint_of kind.Keyword = joint.Keyword
joint_of kind.Semicolon = joint.Semicolon
joint_of kind.Assign = joint.Assign
joint_of _ = joint.Nothing

-- what a token is in a literal array
unfoldable pub item_of : Kind → Option Item
item_of kind.OpenArray = Some item.Nested
item_of kind.Open = Some item.Nested
item_of kind.Name = Some item.One
item_of kind.Keyword = Some item.One
item_of kind.Binary = Some item.One
item_of kind.Minus = Some item.One
item_of kind.Bar = Some item.One
item_of kind.Integer = Some item.One
item_of kind.Character = Some item.One
item_of kind.Text = Some item.One
item_of kind.Symbol = Some item.One
item_of _ = None

-- the kind of the next token; behind the last stands the end
abbrev pub kind_at : List Token → Kind
kind_at [] = kind.End
kind_at (t ∷ ts) = t.kind

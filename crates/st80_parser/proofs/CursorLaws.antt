-- What is known of a token that was taken by a test, and where none was.
use Rattle.std.proofs.Common.{◌≡◌, Bool, true, false, List, [], ◌∷◌, length, Option, Some, None, IfSome, IfNone, refl, sym, ap, ◌∙◌, rules, arith}
use denote.Enum.Bare.{same_true}
use Rattle.st80_syntax.specs.declared.token.Token.{Token}
use Rattle.st80_syntax.specs.declared.token.Kind.{Kind}
use Rattle.st80_syntax.specs.declared.token.Kind.TheVariants as kind
use Rattle.st80_parser.specs.declared.kinds.Joint.{Joint}
use Rattle.st80_parser.specs.declared.kinds.Joint.TheVariants as joint
use Rattle.st80_parser.specs.contracts.kinds.Joint.{the_type}
use Rattle.st80_parser.specs.Kinds.{joint_of, kind_at, same_joint, same_kind}

pub one_joint : (a b : Joint) → same_joint a b ≡ true → a ≡ b
one_joint a b e = same_true the_type (search rules) _ _ e

pub is_joined : (old new : List Token) (how : Joint) (o : Option Token) → IfSome o (λ t. old ≡ t ∷ new) → same_joint (joint_of (kind_at old)) how ≡ true → IfSome o (λ t. joint_of t.kind ≡ how)
is_joined old new how (Some t) is e = ap (λ (ts : List Token). joint_of (kind_at ts)) (sym is) ∙ one_joint _ how e
is_joined old new how None is e = tt

pub none_joined : (old : List Token) (o : Option Token) (how : Joint) → IfNone o (length old ≡ 0) → same_joint joint.Nothing how ≡ false → IfNone o (same_joint (joint_of (kind_at old)) how ≡ false)
unfolding joint_of
none_joined old (Some t) how e real = tt
none_joined [] None how e real = real
none_joined (t ∷ ts) None how e real = absurd (omega (arith, e))

pub is_eaten : (old new : List Token) (k : Kind) (o : Option Token) → IfSome o (λ t. old ≡ t ∷ new) → same_kind (kind_at old) k ≡ true → IfSome o (λ t. same_kind t.kind k ≡ true)
is_eaten old new k (Some t) is e = ap (λ (ts : List Token). same_kind (kind_at ts) k) (sym is) ∙ e
is_eaten old new k None is e = tt

pub none_eaten : (old : List Token) (o : Option Token) (k : Kind) → IfNone o (length old ≡ 0) → same_kind kind.End k ≡ false → IfNone o (same_kind (kind_at old) k ≡ false)
none_eaten old (Some t) k e real = tt
none_eaten [] None k e real = real
none_eaten (t ∷ ts) None k e real = absurd (omega (arith, e))

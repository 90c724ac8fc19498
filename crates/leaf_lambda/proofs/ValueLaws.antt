-- Values by their number or name.
use Rattle.std.proofs.Common.{arith, ◌≡◌, ℕ, Some, None, refl, ap}
use Rattle.long_names.specs.Objects.{name_of, int_of}
use Rattle.long_names.specs.Record.{kind_number}
use Rattle.long_names.specs.declared.object.Kind.{Kind}
use Rattle.long_names.specs.declared.object.Kind.TheVariants as kind
use Rattle.long_names.specs.declared.value.Value.{Value}
use Rattle.long_names.specs.declared.value.Value.TheVariants.{Int, Ref}

same-name : (y z : ℕ) → Some y ≡ Some z → y ≡ z
same-name y z e = cc

pub is-ref : (v : Value) (n : ℕ) → name_of v ≡ Some n → v ≡ Ref n
is-ref (Int y) n e = cc
is-ref (Ref m) n e = ap Ref (same-name m n e)

pub neither : (v : Value) → int_of v ≡ None → name_of v ≡ None → ⊥
neither (Int y) e f = cc
neither (Ref n) e f = cc

-- the number of a kind tells it
pub same-kind : (a b : Kind) → kind_number a ≡ kind_number b → a ≡ b
same-kind kind.Pointers kind.Pointers e = refl
same-kind kind.Pointers kind.Words e = absurd (omega arith)
same-kind kind.Pointers kind.Bytes e = absurd (omega arith)
same-kind kind.Pointers kind.Method e = absurd (omega arith)
same-kind kind.Words kind.Pointers e = absurd (omega arith)
same-kind kind.Words kind.Words e = refl
same-kind kind.Words kind.Bytes e = absurd (omega arith)
same-kind kind.Words kind.Method e = absurd (omega arith)
same-kind kind.Bytes kind.Pointers e = absurd (omega arith)
same-kind kind.Bytes kind.Words e = absurd (omega arith)
same-kind kind.Bytes kind.Bytes e = refl
same-kind kind.Bytes kind.Method e = absurd (omega arith)
same-kind kind.Method kind.Pointers e = absurd (omega arith)
same-kind kind.Method kind.Words e = absurd (omega arith)
same-kind kind.Method kind.Bytes e = absurd (omega arith)
same-kind kind.Method kind.Method e = refl

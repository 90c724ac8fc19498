-- What conditions say of values that a register holds later.
use Rattle.std.proofs.Common.{◌≡◌, ℕ, ℤ, pos, ◌%◌, ◌↔◌, Bool, true, false, Option, Some, None, IsTrue, refl, sym, ◌∙◌, ap, subst, arith}
use Rattle.std.specs.Bool.{Decides}
use Rattle.std.specs.Option.{option_and_then}
use Rattle.std.proofs.lemmas.Bool.Decides.{Decides-int_eq, Decides-eqb, same_from_decides}
use Rattle.std.proofs.lemmas.Int.{to_z_pos}
use mir.Val.{to_z}
use mir.Syntax.{w16}
use Rattle.long_names.specs.declared.limits.TheConstants.{SMALL_INTEGERS}
use Rattle.long_names.specs.declared.value.Value.{Value}
use Rattle.long_names.specs.declared.value.Value.TheVariants.{Int, Ref}
use Rattle.long_names.specs.Objects.{name_of, int_of}
use Rattle.long_names.specs.State.{IsRef, name_at}
use Rattle.blue_model.specs.Storage.{is_same, code_size}

-- ---- names

-- no name stands there
pub unnamed : (v w : Value) → v ≡ w → (IsRef v → ⊥) → name_of w ≡ None
unnamed v w e apart = subst (λ x. name_of x ≡ None) e (here v apart)
  where
    here : (v : Value) → (IsRef v → ⊥) → name_of v ≡ None
    here (Int z) apart = refl
    here (Ref n) apart = absurd (apart tt)

-- the name that stands there
pub its_name : (v w : Value) → v ≡ w → IsRef v → name_of w ≡ Some (name_at w)
its_name v w e named = subst (λ x. name_of x ≡ Some (name_at x)) e (here v named)
  where
    here : (v : Value) → IsRef v → name_of v ≡ Some (name_at v)
    here (Int z) named = absurd named
    here (Ref n) named = refl

-- the index of a name as a number that is passed by value
pub index_passed : (n k : ℕ) → n ≡ k → to_z w16 (n % SMALL_INTEGERS) ≡ pos (k % SMALL_INTEGERS)
index_passed n k e = to_z_pos w16 (n % SMALL_INTEGERS) (omega arith) ∙ ap (λ x. pos (x % SMALL_INTEGERS)) e

-- ---- whether two values are the same

Decides-same : (a b : Value) → Decides (is_same a b) (a ≡ b)
Decides-same (Int x) (Int y) = let d = Decides-int_eq x y in (λ e. ap (λ z. Int z) (d.0 e), λ e. d.1 (let same : x ≡ y = cc in same))
Decides-same (Int x) (Ref n) = (λ e. (let no : ◌≡◌ {A = Bool} false true = e in absurd (cc)), λ e. (let no : ◌≡◌ {A = Value} (Int x) (Ref n) = e in absurd (cc)))
Decides-same (Ref n) (Int y) = (λ e. (let no : ◌≡◌ {A = Bool} false true = e in absurd (cc)), λ e. (let no : ◌≡◌ {A = Value} (Ref n) (Int y) = e in absurd (cc)))
Decides-same (Ref n) (Ref k) = let d = Decides-eqb n k in (λ e. ap (λ z. Ref z) (d.0 e), λ e. d.1 (let same : n ≡ k = cc in same))

pub same_is : (a b c : Value) (answer : Bool) → a ≡ b → IsTrue answer ↔ (a ≡ c) → answer ≡ is_same b c
same_is a b c answer e test = sym (subst (λ x. is_same x c ≡ answer) e (same_from_decides (is_same a c) answer (Decides-same a c) test))

-- ---- numbers

-- how many bytes of code a number says
pub coded : (v w : Value) (read : Option ℤ) (found x : Option ℕ) → v ≡ w → read ≡ int_of v → found ≡ option_and_then code_size read → found ≡ x → option_and_then code_size (int_of w) ≡ x
coded v w read found x e number size is = ap (λ u. option_and_then code_size (int_of u)) (sym e) ∙ ap (λ z. option_and_then code_size z) (sym number) ∙ sym size ∙ is

-- What tests and numbers of the code say of values of the model.
use Rattle.std.proofs.Common.{◌≡◌, zero, suc, ℕ, ℤ, pos, negsuc, ◌-ℤ◌, ◌↔◌, Bool, true, false, Option, Some, Result, Ok, Err, OnOk, IsTrue, IfSome, sym, ◌∙◌, ap, subst, subst₂, arith}
use Rattle.std.specs.Int.Signed.{lt_z}
use Rattle.std.proofs.lemmas.Int.{ints}
use Rattle.std.specs.Bool.{Decides}
use Rattle.std.proofs.lemmas.Bool.Decides.{Decides-int_eq, Decides-eqb, same_from_decides}
use mir.Val.{to_z, of_z}
use mir.Syntax.{w16}
use Rattle.long_names.specs.Words.{IsSmallInteger}
use Rattle.long_names.specs.declared.value.Value.{Value}
use Rattle.long_names.specs.declared.value.Value.TheVariants.{Int, Ref}
use Rattle.object_memory.proofs.ShapeLaws.{small_number}
use Rattle.blue_model.specs.Storage.{is_same}
use Rattle.blue_model.specs.Processes.{list_index, one_more}

-- what was found has what all that may be found has
pub of_some : {A : Type 0} {o : Option A} (P : A → Type 0) (a : A) → o ≡ Some a → IfSome o P → P a
of_some {A} {o} P a e p = subst (λ x. IfSome x P) e p

-- what holds of an answer, by what held of it before
pub on_ok : {A E P Q : Type 0} (r : Result A E) → (P → Q) → OnOk r P → OnOk r Q
on_ok (Ok a) f p = f p
on_ok (Err e) f p = p

-- ---- whether two values are the same

Decides-same : (a b : Value) → Decides (is_same a b) (a ≡ b)
Decides-same (Int x) (Int y) = let d = Decides-int_eq x y in (λ e. ap (λ z. Int z) (d.0 e), λ e. d.1 (let same : x ≡ y = cc in same))
Decides-same (Int x) (Ref n) = (λ e. (let no : ◌≡◌ {A = Bool} false true = e in absurd (cc)), λ e. (let no : ◌≡◌ {A = Value} (Int x) (Ref n) = e in absurd (cc)))
Decides-same (Ref n) (Int y) = (λ e. (let no : ◌≡◌ {A = Bool} false true = e in absurd (cc)), λ e. (let no : ◌≡◌ {A = Value} (Ref n) (Int y) = e in absurd (cc)))
Decides-same (Ref n) (Ref k) = let d = Decides-eqb n k in (λ e. ap (λ z. Ref z) (d.0 e), λ e. d.1 (let same : n ≡ k = cc in same))

pub same_is : (a b c : Value) (answer : Bool) → a ≡ b → IsTrue answer ↔ (a ≡ c) → answer ≡ is_same b c
same_is a b c answer e test = sym (subst (λ x. is_same x c ≡ answer) e (same_from_decides (is_same a c) answer (Decides-same a c) test))

-- ---- numbers that are passed by value

pub list_found : (z w : ℤ) (n : ℕ) (found x : Option ℕ) → z ≡ w → found ≡ list_index z n → found ≡ x → list_index w n ≡ x
list_found z w n found x e is same = ap (λ k. list_index k n) (sym e) ∙ sym is ∙ same

pub more_said : (z w r s : ℤ) → z ≡ w → r ≡ one_more z → s ≡ r → Int s ≡ Int (one_more w)
more_said z w r s e is same = ap (λ k. Int k) (same ∙ is ∙ ap one_more e)

one_less_small : (e : ℤ) → IsSmallInteger e → lt_z (pos 0) e ≡ true → IsSmallInteger (e -ℤ pos 1)
one_less_small (pos zero) small above = absurd (cc)
one_less_small (pos (suc n)) small above = let same : (pos (suc n) -ℤ pos 1) ≡ pos n = omega (arith, ints) in subst IsSmallInteger (sym same) (omega (arith, small))
one_less_small (negsuc n) small above = absurd (cc)

pub less_said : (e : ℤ) → IsSmallInteger e → lt_z (pos 0) e ≡ true → Int (to_z w16 (of_z w16 (to_z w16 (of_z w16 e) -ℤ pos 1))) ≡ Int (e -ℤ pos 1)
less_said e small above = ap (λ k. Int k) (ap (λ k. to_z w16 (of_z w16 (k -ℤ pos 1))) (small_number e small) ∙ small_number (e -ℤ pos 1) (one_less_small e small above))

-- a test of two numbers
pub tested : {a b z w : ℤ} {x : Bool} → a ≡ z → b ≡ w → lt_z a b ≡ x → lt_z z w ≡ x
tested {a} {b} {z} {w} {x} e f test = subst₂ (λ j k. lt_z j k ≡ x) e f test

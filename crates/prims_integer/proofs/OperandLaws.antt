-- Receiver and argument are read together, and then used.
-- `both_then`, `not_both` and `both_exit` are the three exits of what goes on with them.
use Rattle.std.proofs.Common.{◌≡◌, ℤ, List, [], ◌++◌, Option, Some, None, Result, Ok, Err, IfSome, refl, sym, ◌∙◌, ap, subst, append_assoc}
use Rattle.std.specs.Result.{IsErrAnd}
use Rattle.long_names.specs.declared.value.Value.{Value}
use Rattle.long_names.specs.Objects.{int_of}
use Rattle.long_names.specs.Words.{IsSmallInteger}
use Rattle.object_memory.specs.Told.{Told}
use Rattle.blue_model.specs.declared.answer.Answer.{Answer}
use Rattle.blue_model.specs.declared.answer.Answer.TheVariants.{Failed}
use Rattle.blue_model.specs.declared.cpu.Cpu.{Cpu}
use Rattle.blue_model.specs.Machine.{Machine, LogRow, Outcome, Go, Halt, Spent, Rule, after, then_do, ◌>>=◌, done}
use Rattle.blue_model.specs.Contexts.{stack}
use Rattle.blue_model.specs.Trials.{where_some, ◌>>?◌}
use Rattle.blue_model.specs.Arithmetic.{of_numbers}
use Rattle.contexts.specs.declared.stop.Stop.{Stop}
use Rattle.contexts.specs.Serves.{Gives, Serves}
use Rattle.contexts.proofs.TrialLaws.{found_then, none_found, finding_exit}
use Rattle.prims_integer.specs.Operations.{both, two_numbers, AreSmall}

after_twice : {A : Type 0} (xs ys : List LogRow) (o : Outcome A) → after xs (after ys o) ≡ after (xs ++ (ys ++ [])) o
after_twice xs ys (Go a m log) = simp append_assoc
after_twice xs ys (Halt c log) = simp append_assoc
after_twice xs ys (Spent log) = simp append_assoc

of_both : (p : ℤ → ℤ → Rule Answer) (a b : Option ℤ) → where_some (both a b) (λ (ab : ℤ × ℤ). p ab.0 ab.1) ≡ where_some a (λ x. where_some b (λ y. p x y))
unfolding where_some
of_both p None b = refl
of_both p (Some x) None = refl
of_both p (Some x) (Some y) = refl

with_argument : (p : ℤ → ℤ → Rule Answer) (r : Value) (rows : List LogRow) (o : Outcome Value) → after rows (then_do o (λ x. where_some (int_of r) (λ a. where_some (int_of x) (λ b. p a b)))) ≡ then_do (after rows (then_do o (λ x. done (both (int_of r) (int_of x))))) (λ o. where_some o (λ (ab : ℤ × ℤ). p ab.0 ab.1))
unfolding done
with_argument p r rows (Go x m log) = after_twice rows log _ ∙ ap (λ (q : Rule Answer). after (rows ++ (log ++ [])) (q m)) (sym (of_both p (int_of r) (int_of x)))
with_argument p r rows (Halt c log) = refl
with_argument p r rows (Spent log) = refl

with_receiver : (p : ℤ → ℤ → Rule Answer) (o : Outcome Value) → then_do o (λ r. stack 0 >>= (λ x. where_some (int_of r) (λ a. where_some (int_of x) (λ b. p a b)))) ≡ then_do (then_do o (λ r. stack 0 >>= (λ x. done (both (int_of r) (int_of x))))) (λ o. where_some o (λ (ab : ℤ × ℤ). p ab.0 ab.1))
unfolding ◌>>=◌
with_receiver p (Go r m log) = with_argument p r log (stack 0 m)
with_receiver p (Halt c log) = refl
with_receiver p (Spent log) = refl

-- A rule of two numbers reads them, and goes on where both are there.
by_both : (p : ℤ → ℤ → Rule Answer) (m : Machine) → of_numbers p m ≡ (two_numbers >>? (λ (ab : ℤ × ℤ). p ab.0 ab.1)) m
unfolding of_numbers two_numbers ◌>>?◌ ◌>>=◌
by_both p m = with_receiver p (stack 1 m)

serves_both : {old new : Told} {cpu now : Cpu} (p : ℤ → ℤ → Rule Answer) {answer : Result Answer Stop} → Serves old cpu new now (two_numbers >>? (λ (ab : ℤ × ℤ). p ab.0 ab.1)) answer → Serves old cpu new now (of_numbers p) answer
serves_both {old} {new} {cpu} {now} p {answer} s = record {
  later = s.later;
  ready = s.ready;
  reason = s.reason;
  counts = s.counts;
  vault = s.vault;
  silent = s.silent;
  model = λ told m st. subst (Gives new now answer) (sym (by_both p m)) (s.model told m st);
}

-- ---- the exits of a call that reads both

pub both_then : {old mid new : Told} {cpu between now : Cpu} (p : ℤ → ℤ → Rule Answer) {found : Option (ℤ × ℤ)} (a b : ℤ) {answer : Result Answer Stop} → found ≡ Some (a, b) → Serves old cpu mid between two_numbers (Ok found) → Serves mid between new now (p a b) answer → Serves old cpu new now (of_numbers p) answer
both_then p a b e f s = serves_both p (found_then (λ (ab : ℤ × ℤ). p ab.0 ab.1) e f s)

pub not_both : {old new : Told} {cpu now : Cpu} (p : ℤ → ℤ → Rule Answer) {found : Option (ℤ × ℤ)} → found ≡ None → Serves old cpu new now two_numbers (Ok found) → Serves old cpu new now (of_numbers p) (Ok Failed)
not_both p e f = serves_both p (none_found (λ (ab : ℤ × ℤ). p ab.0 ab.1) e f)

pub both_exit : {old new : Told} {cpu now : Cpu} (p : ℤ → ℤ → Rule Answer) {e : Stop} (r : Result Answer Stop) → Serves old cpu new now two_numbers (Err e) → IsErrAnd r (λ y. y ≡ e) → Serves old cpu new now (of_numbers p) r
both_exit p r f is = serves_both p (finding_exit (λ (ab : ℤ × ℤ). p ab.0 ab.1) r f is)

-- ---- what was read

pub both_small : (found : Option (ℤ × ℤ)) (a b : ℤ) → found ≡ Some (a, b) → IfSome found AreSmall → IsSmallInteger a × IsSmallInteger b
both_small found a b e small = subst (λ (o : Option (ℤ × ℤ)). IfSome o AreSmall) e small

pub no_receiver : (r v x : Value) → v ≡ r → None ≡ int_of v → None ≡ both (int_of r) (int_of x)
no_receiver r v x e f = ap (λ o. both o (int_of x)) (f ∙ ap int_of e)

lacking : (o : Option ℤ) → None ≡ both o None
lacking None = refl
lacking (Some z) = refl

pub no_argument : (r x : Value) → None ≡ int_of x → None ≡ both (int_of r) (int_of x)
no_argument r x f = lacking (int_of r) ∙ ap (λ o. both (int_of r) o) f

pub has_both : (r v x : Value) (a b y z : ℤ) → v ≡ r → Some a ≡ int_of v → Some b ≡ int_of x → y ≡ a → z ≡ b → Some (y, z) ≡ both (int_of r) (int_of x)
has_both r v x a b y z e f g p q = ap (λ y. both (Some y) (Some z)) p ∙ ap (λ z. both (Some a) (Some z)) q ∙ ap (λ o. both o (Some b)) (f ∙ ap int_of e) ∙ ap (λ o. both (int_of r) o) g

use Rattle.std.proofs.Common.{◌≡◌, ℕ, ◌<◌, Bool, true, false, nat_lt, eqb, cond, List, [], ◌∷◌, Option, Some, None, is_some, refl, sym, ap, subst, arith, inl, inr}
use Rattle.std.proofs.lemmas.Grind.{common_steps}
use Rattle.std.specs.List.{list_any, list_all}
use borrow.Author.Tests.{ltb-true}
use Rattle.long_names.specs.declared.value.Value.{Value}
use Rattle.long_names.specs.declared.value.Value.TheVariants.{Int, Ref}
use Rattle.long_names.specs.declared.object.Object.{Object}
use Rattle.long_names.specs.Names.{SCHEDULER_ASSOCIATION, known_names, is_known}
use Rattle.long_names.specs.Objects.{is_ref, holds, fields_of}
use Rattle.long_names.specs.Heap.{Heap, Has}
use Rattle.long_names.proofs.ThinLemmas.{both, or_cases, holds-cases}
use Rattle.blue_model.specs.Machine.{is_there}
use Rattle.blue_model.specs.Base.{heap_running, array, SCHEDULER, PROCESS, CODE, CONTEXT}
use Rattle.blue_model.proofs.laws.worked_heaps_are_whole.Goals as goal

named : (x y : ℕ) → eqb x y ≡ true → x ≡ y
named x y e = grind (arith, common_steps)

-- ---- known names

some_of : (b : Bool) (x y : Option Object) → is_some x ≡ true → is_some y ≡ true → is_some (cond b x y) ≡ true
some_of true x y e f = e
some_of false x y e f = f

known_there : (code : List ℕ) (n : ℕ) → is_known n ≡ true → Has (heap_running code) n
known_there code n e =
    some_of (eqb n SCHEDULER_ASSOCIATION) _ _ refl (some_of (eqb n SCHEDULER) _ _ refl (some_of (eqb n PROCESS) _ _ refl (some_of (eqb n CODE) _ _ refl (some_of (eqb n CONTEXT) _ _ refl
    (ap (λ b. is_some (cond b (array []) None)) e)))))

-- ---- names are below the next

below_all : (n : ℕ) (names : List ℕ) → list_all (λ k. nat_lt k 68) names ≡ true → list_any (λ k. eqb n k) names ≡ true → n < 68
below_all n [] e f = cc
below_all n (k ∷ names) e f =
    let parts = both (nat_lt k 68) (list_all (λ k. nat_lt k 68) names) e in
    elim (or_cases (eqb n k) (list_any (λ k. eqb n k) names) f) [ inl is ↦ subst (λ x. x < 68) (sym (named n k is)) (ltb-true k 68 parts.0) | inr rest ↦ below_all n names parts.1 rest ]

below_next : (code : List ℕ) (n : ℕ) → Has (heap_running code) n → n < 68
below_next code n there = one (eqb n SCHEDULER_ASSOCIATION) SCHEDULER_ASSOCIATION _ _ refl refl (one (eqb n SCHEDULER) SCHEDULER _ _ refl refl (one (eqb n PROCESS) PROCESS _ _ refl refl (one (eqb n CODE) CODE _ _ refl refl (one (eqb n CONTEXT) CONTEXT _ _ refl refl (last (is_known n) refl))))) there
  where
    one : (b : Bool) (k : ℕ) (x y : Option Object) → eqb n k ≡ b → nat_lt k 68 ≡ true → (is_some y ≡ true → n < 68) → is_some (cond b x y) ≡ true → n < 68
    one true k x y e low next f = subst (λ z. z < 68) (sym (named n k e)) (ltb-true k 68 low)
    one false k x y e low next f = next f

    last : (b : Bool) → is_known n ≡ b → is_some (cond b (array []) None) ≡ true → n < 68
    last true e f = below_all n known_names refl e
    last false e f = let no : ◌≡◌ {A = Bool} false true = f in absurd (cc)

-- ---- what its objects hold is there

value_there : (h : Heap) (k : ℕ) (values : List Value) → list_all (is_there h) values ≡ true → list_any (is_ref k) values ≡ true → Has h k
value_there h k [] e f = cc
value_there h k (v ∷ values) e f =
    let parts = both (is_there h v) (list_all (is_there h) values) e in
    elim (or_cases (is_ref k v) (list_any (is_ref k) values) f) [ inl is ↦ this v is parts.0 | inr rest ↦ value_there h k values parts.1 rest ]
  where
    this : (v : Value) → is_ref k v ≡ true → is_there h v ≡ true → Has h k
    this (Int z) is there = let no : ◌≡◌ {A = Bool} false true = is in absurd (cc)
    this (Ref n) is there = subst (λ x. Has h x) (named n k is) there

all_there : (h : Heap) (o p : Object) (k : ℕ) → Has h o.class → list_all (is_there h) (fields_of o.body) ≡ true → ◌≡◌ {A = Option Object} (Some o) (Some p) → holds p k ≡ true → Has h k
all_there h o p k class fields e held =
    let same : o ≡ p = cc in
    elim (holds-cases o k (subst (λ x. holds x k ≡ true) (sym same) held)) [ inl is ↦ subst (λ x. Has h x) is class | inr f ↦ value_there h k (fields_of o.body) fields f ]

closed_there : (code : List ℕ) (n : ℕ) (p : Object) (k : ℕ) → (heap_running code).at n ≡ Some p → holds p k ≡ true → Has (heap_running code) k
closed_there code n p k e held = one (eqb n SCHEDULER_ASSOCIATION) _ _ refl refl (one (eqb n SCHEDULER) _ _ refl refl (one (eqb n PROCESS) _ _ refl refl (one (eqb n CODE) _ _ refl refl (one (eqb n CONTEXT) _ _ refl refl (last (is_known n)))))) e
  where
    one : (b : Bool) (o : Object) (y : Option Object) → Has (heap_running code) o.class → list_all (is_there (heap_running code)) (fields_of o.body) ≡ true → (y ≡ Some p → Has (heap_running code) k) → cond b (Some o) y ≡ Some p → Has (heap_running code) k
    one true o y class fields next f = all_there (heap_running code) o p k class fields f held
    one false o y class fields next f = next f

    last : (b : Bool) → cond b (array []) None ≡ Some p → Has (heap_running code) k
    last true f = all_there (heap_running code) _ p k refl refl f held
    last false f = let no : ◌≡◌ {A = Option Object} None (Some p) = f in absurd (cc)

pub returns : goal.returns
returns c code = record {
  known = known_there code;
  below = below_next code;
  closed = closed_there code;
  rooted = λ r n e. absurd (cc);
  pinned = λ i n e. absurd (cc);
}

-- What is judged of a whole image: nothing is broken exactly where each part holds.
use Rattle.std.proofs.Common.{◌≡◌, ℕ, zero, suc, min, Bool, true, false, cond, eqb, ltb, ◌||◌, List, [], ◌∷◌, Option, Some, None, is_some, option_map, refl, sym, ap, subst, ◌∙◌, arith, inl, inr, ◌⊎◌}
use Rattle.std.specs.Prelude.{All}
use Rattle.std.specs.List.{list_all, list_any}
use Rattle.std.proofs.lemmas.Bool.{and_parts, and_from, or_cases, eqb-true, eq-eqb, ltb-true, lt-ltb}
use Rattle.std.proofs.lemmas.List.Elements.{All-nil, All-cons, All-head, All-tail}
use Rattle.long_names.specs.Names.{is_known}
use Rattle.long_names.specs.Objects.{fields_of, holds, is_ref}
use Rattle.long_names.specs.declared.value.Value.{Value}
use Rattle.long_names.specs.declared.value.Value.TheVariants.{Int, Ref}
use Rattle.long_names.specs.declared.object.Object.{Object}
use Rattle.long_names.specs.declared.object.Rec.{Rec}
use Rattle.image_format.specs.declared.opening.State.{State}
use Rattle.image_format.specs.Rules.{◌or◌, break, object_of_rec, is_there, has_all, is_counted, first_failing, first_missing, lost_name, lower, first_lost}

nothing : false ≡ true → ⊥
nothing e = cc

abbrev pub some : {X : Type 0} → X → Option X
some x = Some x

pub never : {X P : Type 0} (x : X) → some x ≡ None → P
never x e = absurd cc

pub or_left : (a b : Bool) → a ≡ true → (a || b) ≡ true
or_left a b e = ap (λ (x : Bool). x || b) e

pub or_right : (a b : Bool) → b ≡ true → (a || b) ≡ true
or_right true b e = refl
or_right false b e = e

-- ---- one after the other

pub both_none : {X : Type 0} (a b : Option X) → (a or b) ≡ None → (a ≡ None) × (b ≡ None)
both_none None b e = (refl, e)
both_none (Some x) b e = never x e

pub none_none : {X : Type 0} (a b : Option X) → a ≡ None → b ≡ None → (a or b) ≡ None
none_none a b e f = ap (λ x. x or b) e ∙ f

pub all_pass : (rule : ℕ) (test : Rec → Bool) (recs : List Rec) → first_failing rule test recs ≡ None → All (λ (r : Rec). test r ≡ true) recs
all_pass rule test [] e = All-nil (λ (r : Rec). test r ≡ true)
all_pass rule test (r ∷ rs) e = go (test r) refl e (all_pass rule test rs)
  where
    go : (b : Bool) → test r ≡ b → cond b (first_failing rule test rs) (Some (break rule r.name)) ≡ None → (first_failing rule test rs ≡ None → All (λ (r : Rec). test r ≡ true) rs) → All (λ (r : Rec). test r ≡ true) (r ∷ rs)
    go true is e rest = All-cons (λ (r : Rec). test r ≡ true) r rs is (rest e)
    go false is e rest = never (break rule r.name) e

pub none_fails : (rule : ℕ) (test : Rec → Bool) (recs : List Rec) → All (λ (r : Rec). test r ≡ true) recs → first_failing rule test recs ≡ None
none_fails rule test [] all = refl
none_fails rule test (r ∷ rs) all = rw (All-head (λ (r : Rec). test r ≡ true) r rs all) (none_fails rule test rs (All-tail (λ (r : Rec). test r ≡ true) r rs all))

-- ---- what is held

any_there : (at : ℕ → Option Object) (q : ℕ) (vs : List Value) → list_all (is_there at) vs ≡ true → list_any (is_ref q) vs ≡ true → is_some (at q) ≡ true
any_there at q [] all any = absurd (nothing any)
any_there at q (Int z ∷ vs) all any = any_there at q vs all any
any_there at q (Ref n ∷ vs) all any =
    let both = and_parts (is_some (at n)) (list_all (is_there at) vs) all in
    elim (or_cases (eqb n q) (list_any (is_ref q) vs) any) [
      | inl here ↦ subst (λ (k : ℕ). is_some (at k) ≡ true) (eqb-true n q here) both.0
      | inr there ↦ any_there at q vs both.1 there
    ]

pub held_there : (at : ℕ → Option Object) (r : Rec) (q : ℕ) → has_all at r ≡ true → holds (object_of_rec r) q ≡ true → is_some (at q) ≡ true
held_there at r q e held =
    let two = and_parts (is_some (at r.class)) (list_all (is_there at) (fields_of r.body)) e in
    elim (or_cases (eqb r.class q) (list_any (is_ref q) (fields_of r.body)) held) [
      | inl here ↦ subst (λ (k : ℕ). is_some (at k) ≡ true) (eqb-true r.class q here) two.0
      | inr there ↦ any_there at q (fields_of r.body) two.1 there
    ]

there_all : (at : ℕ → Option Object) (vs : List Value) → ((q : ℕ) → list_any (is_ref q) vs ≡ true → is_some (at q) ≡ true) → list_all (is_there at) vs ≡ true
there_all at [] h = refl
there_all at (Int z ∷ vs) h = there_all at vs h
there_all at (Ref n ∷ vs) h = and_from _ _ (h n (or_left (eqb n n) _ (eq-eqb n n refl))) (there_all at vs (λ q is. h q (or_right (eqb n q) _ is)))

pub there_has : (at : ℕ → Option Object) (r : Rec) → ((q : ℕ) → holds (object_of_rec r) q ≡ true → is_some (at q) ≡ true) → has_all at r ≡ true
there_has at r h = and_from _ _ (h r.class (or_left (eqb r.class r.class) _ (eq-eqb r.class r.class refl))) (there_all at (fields_of r.body) (λ q is. h q (or_right (eqb r.class q) _ is)))

-- ---- counts

pub counted_exact : (counts : ℕ → ℕ) (r : Rec) → is_counted counts r ≡ true → r.count ≡ counts r.name
counted_exact counts r e = eqb-true _ _ (and_parts (eqb r.count (counts r.name)) (is_known r.name || ltb 0 r.count) e).0

pub counted_known : (counts : ℕ → ℕ) (r : Rec) → is_counted counts r ≡ true → r.count ≡ 0 → is_known r.name ≡ true
counted_known counts r e none = elim (or_cases (is_known r.name) (ltb 0 r.count) (and_parts (eqb r.count (counts r.name)) (is_known r.name || ltb 0 r.count) e).1) [
  | inl known ↦ known
  | inr above ↦ absurd (omega (arith, ltb-true 0 r.count above, none))
]

pub counted_from : (counts : ℕ → ℕ) (r : Rec) → r.count ≡ counts r.name → (r.count ≡ 0 → is_known r.name ≡ true) → is_counted counts r ≡ true
counted_from counts r exact known = and_from _ _ (eq-eqb _ _ exact) (go r.count refl)
  where
    go : (k : ℕ) → r.count ≡ k → (is_known r.name || ltb 0 r.count) ≡ true
    go zero e = or_left (is_known r.name) (ltb 0 r.count) (known e)
    go (suc k) e = or_right (is_known r.name) (ltb 0 r.count) (lt-ltb 0 r.count (omega (arith, e)))

-- ---- known objects

pub missing_none : (at : ℕ → Option Object) (ns : List ℕ) → first_missing at ns ≡ None → (n : ℕ) → list_any (λ k. eqb n k) ns ≡ true → is_some (at n) ≡ true
missing_none at [] e n any = absurd (nothing any)
missing_none at (x ∷ xs) e n any = go (is_some (at x)) refl e (λ rest later. missing_none at xs rest n later)
  where
    go : (b : Bool) → is_some (at x) ≡ b → cond b (first_missing at xs) (Some (break 12 x)) ≡ None → (first_missing at xs ≡ None → list_any (λ k. eqb n k) xs ≡ true → is_some (at n) ≡ true) → is_some (at n) ≡ true
    go true there e rest = elim (or_cases (eqb n x) (list_any (λ k. eqb n k) xs) any) [
      | inl here ↦ subst (λ (k : ℕ). is_some (at k) ≡ true) (sym (eqb-true n x here)) there
      | inr later ↦ rest e later
    ]
    go false there e rest = never (break 12 x) e

pub none_missing : (at : ℕ → Option Object) (ns : List ℕ) → ((n : ℕ) → list_any (λ k. eqb n k) ns ≡ true → is_some (at n) ≡ true) → first_missing at ns ≡ None
none_missing at [] h = refl
none_missing at (x ∷ xs) h = rw (h x (or_left (eqb x x) _ (eq-eqb x x refl))) (none_missing at xs (λ n is. h n (or_right (eqb n x) _ is)))

-- ---- the names of the state

abbrev IsKeptWord : (ℕ → Option Object) → ℕ → Type 0
IsKeptWord at n = (n ≡ 0) ⊎ (is_some (at n) ≡ true)

kept_word : (at : ℕ → Option Object) (n : ℕ) → lost_name at n ≡ None → IsKeptWord at n
kept_word at n e = go (eqb n 0 || is_some (at n)) refl e
  where
    go : (b : Bool) → (eqb n 0 || is_some (at n)) ≡ b → cond b None (Some n) ≡ None → IsKeptWord at n
    go true is e = elim (or_cases (eqb n 0) (is_some (at n)) is) [
      | inl none ↦ inl (eqb-true n 0 none)
      | inr there ↦ inr there
    ]
    go false is e = never n e

word_kept : (at : ℕ → Option Object) (n : ℕ) → IsKeptWord at n → lost_name at n ≡ None
word_kept at n (inl none) = rw (or_left (eqb n 0) (is_some (at n)) (eq-eqb n 0 none)) refl
word_kept at n (inr there) = rw (or_right (eqb n 0) (is_some (at n)) there) refl

lower_none : (a b : Option ℕ) → lower a b ≡ None → (a ≡ None) × (b ≡ None)
lower_none None b e = (refl, e)
lower_none (Some x) None e = never x e
lower_none (Some x) (Some y) e = never (min x y) e

mapped_none : (o : Option ℕ) → option_map (break 14) o ≡ None → o ≡ None
mapped_none None e = refl
mapped_none (Some n) e = never (break 14 n) e

-- each of them is 0, or has its object
pub record AreKeptWords (at : ℕ → Option Object) (s : State) : Type 0 where
  pub display : (s.display ≡ 0) ⊎ (is_some (at s.display) ≡ true)
  pub input : (s.input ≡ 0) ⊎ (is_some (at s.input) ≡ true)
  pub timer : (s.timer ≡ 0) ⊎ (is_some (at s.timer) ≡ true)

pub lost_none : (at : ℕ → Option Object) (s : State) → first_lost at s ≡ None → AreKeptWords at s
lost_none at s e =
    let all = lower_none (lost_name at s.display) (lower (lost_name at s.input) (lost_name at s.timer)) (mapped_none (lower (lost_name at s.display) (lower (lost_name at s.input) (lost_name at s.timer))) e) in
    let two = lower_none (lost_name at s.input) (lost_name at s.timer) all.1 in
    record { display = kept_word at s.display all.0; input = kept_word at s.input two.0; timer = kept_word at s.timer two.1 }

pub none_lost : (at : ℕ → Option Object) (s : State) → AreKeptWords at s → first_lost at s ≡ None
none_lost at s kept = rw (word_kept at s.display kept.display, word_kept at s.input kept.input, word_kept at s.timer kept.timer) refl

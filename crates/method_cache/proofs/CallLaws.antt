-- What a cache is after calls.
use Rattle.std.proofs.Common.{◌≡◌, ℕ, ◌==◌, ◌&&◌, ◌⊎◌, inl, inr, cond, Bool, true, false, List, [], ◌∷◌, Option, Some, None, refl, sym, ◌∙◌, ap}
use Rattle.std.proofs.lemmas.Bool.{eqb-true}
use Rattle.method_cache.specs.declared.cache.Cache.{Cache}
use Rattle.method_cache.specs.Found.{found, IsPut}
use Rattle.method_cache.specs.Calls.{Call, Put, Clear, Comes, last_put}
use Rattle.method_cache.proofs.CacheLaws.{and_true, both_same}

nothing : {A : Type 0} {m : ℕ} {o : Option ℕ} → o ≡ None → o ≡ Some m → A
nothing {A} {m} {o} none some = let never : ◌≡◌ {A = Option ℕ} None (Some m) = sym none ∙ some in absurd (cc)

-- one pair was put, and what was found before holds
module _ (before cache : Cache) (class selector method : ℕ) (put : IsPut (found before) (found cache) class selector method) (c s m : ℕ) (e : found cache c s ≡ Some m) where
  found_new : class ≡ c → selector ≡ s → method ≡ m
  found_new p q =
      let same : found cache class selector ≡ Some m = ap (λ k. found cache k selector) p ∙ ap (λ k. found cache c k) q ∙ e in
      let is : ◌≡◌ {A = Option ℕ} (Some method) (Some m) = sym put.here ∙ same in
      cc

  found_old : ((c ≡ class) × (s ≡ selector) → ⊥) → found before c s ≡ Some m
  found_old other = go ((c == put.lost_class) && (s == put.lost_selector)) refl
    where
      go : (b : Bool) → ((c == put.lost_class) && (s == put.lost_selector)) ≡ b → found before c s ≡ Some m
      go true at =
          let both = and_true (c == put.lost_class) (s == put.lost_selector) at in
          lost (eqb-true c put.lost_class both.0) (eqb-true s put.lost_selector both.1) put.lost
        where
          lost : c ≡ put.lost_class → s ≡ put.lost_selector → ((found cache put.lost_class put.lost_selector ≡ None) ⊎ ((put.lost_class ≡ class) × (put.lost_selector ≡ selector))) → found before c s ≡ Some m
          lost p q (inl none) = nothing (ap (λ k. found cache k s) p ∙ ap (λ k. found cache put.lost_class k) q ∙ none) e
          lost p q (inr pair) = absurd (other (p ∙ pair.0, q ∙ pair.1))
      go false at =
          sym (put.others c s other (λ pair. (let never : ◌≡◌ {A = Bool} true false = sym (both_same c put.lost_class s put.lost_selector pair.0 pair.1) ∙ at in absurd (cc)))) ∙ e

put_last : (class selector method c s m : ℕ) (older : Option ℕ) → (b : Bool) → ((class == c) && (selector == s)) ≡ b → (class ≡ c → selector ≡ s → method ≡ m) → (((c ≡ class) × (s ≡ selector) → ⊥) → older ≡ Some m) → cond b (Some method) older ≡ Some m
put_last class selector method c s m older true is new old =
    let both = and_true (class == c) (selector == s) is in
    ap (λ k. Some k) (new (eqb-true class c both.0) (eqb-true selector s both.1))
put_last class selector method c s m older false is new old =
    old (λ pair. (let never : ◌≡◌ {A = Bool} true false = sym (both_same class c selector s (sym pair.0) (sym pair.1)) ∙ is in absurd (cc)))

pub found_was_put : (calls : List Call) (cache : Cache) → Comes calls cache → (c s m : ℕ) → found cache c s ≡ Some m → last_put calls c s ≡ Some m
found_was_put [] cache comes c s m e = nothing (comes c s) e
found_was_put (Clear ∷ calls) cache comes c s m e = nothing (comes c s) e
found_was_put (Put class selector method ∷ calls) cache comes c s m e =
    put_last class selector method c s m (last_put calls c s) ((class == c) && (selector == s)) refl
    (found_new comes.0 cache class selector method comes.2 c s m e)
    (λ other. found_was_put calls comes.0 comes.1 c s m (found_old comes.0 cache class selector method comes.2 c s m e other))

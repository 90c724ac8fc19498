-- Lists that are read by short words.
-- A law takes the index with an equation (`i ≡ s / 2 - 1`), so that an answer passes a clause and rewrites nothing.
use Rattle.std.proofs.Common.{◌≡◌, ◌≢◌, ℕ, ◌+◌, ◌-◌, ◌*◌, ◌/◌, ◌%◌, ◌<◌, ◌≤◌, Bool, true, false, cond, eqb, List, [], ◌∷◌, ◌++◌, length, get_or, refl, sym, ◌∙◌, ap, subst, arith, ⊎_elim}
use Rattle.std.proofs.lemmas.Grind.{common_steps}
use Rattle.std.proofs.lemmas.Bool.{cases_eq, cases_lt}
use Rattle.std.proofs.lemmas.List.{get_or-set_same, get_or-set_other, get_or_append_left, get_or_past, get_or_push, length_push}
use Rattle.std.proofs.Math.Path.{fun_ext}
use Rattle.std.specs.List.{slice_set}
use Rattle.object_table.specs.Entries.{put, is_short}

pub short-even : (s : ℕ) → is_short s ≡ true → (s % 2 ≡ 0) × (0 < s)
short-even s e = (grind (arith, common_steps), grind (arith, common_steps))

-- the place of a short word in a list
pub short-index : (s n i : ℕ) → i ≡ s / 2 - 1 → is_short s ≡ true → s < 2 * n + 2 → i < n
short-index s n i e short low = let parts = short-even s short in omega (arith, parts.0, parts.1)

short-other : (s q : ℕ) → is_short s ≡ true → is_short q ≡ true → q ≢ s → q / 2 - 1 ≢ s / 2 - 1
short-other s q e f away same = let a = short-even s e in let b = short-even q f in away (omega (arith, a.0, a.1, b.0, b.1))

pub short-of : (i : ℕ) → is_short (2 * (i + 1)) ≡ true
short-of i = let even : (2 * (i + 1)) % 2 ≡ 0 = omega arith in let up : 0 < 2 * (i + 1) = omega arith in grind (arith, common_steps)

-- what a list has at a short word
abbrev pub at_short : {X : Type 0} → X → List X → ℕ → X
at_short {X} d l s = cond (is_short s) (get_or l (s / 2 - 1) d) d

pub at_short-is : {X : Type 0} (d : X) (l : List X) (s i : ℕ) → i ≡ s / 2 - 1 → is_short s ≡ true → at_short d l s ≡ get_or l i d
at_short-is d l s i e short = ap (λ b. cond b (get_or l (s / 2 - 1) d) d) short ∙ ap (λ (k : ℕ). get_or l k d) (sym e)

pub at_short-index : {X : Type 0} (d : X) (l : List X) (i : ℕ) → at_short d l (2 * (i + 1)) ≡ get_or l i d
at_short-index d l i = at_short-is d l (2 * (i + 1)) i (omega arith) (short-of i)

-- a list of one value has it everywhere
pub at_short-all : {X : Type 0} (d : X) (l : List X) → ((k : ℕ) → get_or l k d ≡ d) → at_short d l ≡ (λ s. d)
at_short-all {X} d l all = fun_ext (λ s. go s (is_short s))
  where
    go : (s : ℕ) (b : Bool) → cond b (get_or l (s / 2 - 1) d) d ≡ d
    go s true = all (s / 2 - 1)
    go s false = refl

pub at_short-set : {X : Type 0} (d : X) (l : List X) (s i : ℕ) (x : X) → i ≡ s / 2 - 1 → is_short s ≡ true → s < 2 * length l + 2
    → at_short d (slice_set l i x) ≡ put (at_short d l) s x
at_short-set {X} d l s i x e short low = fun_ext go
  where
    here : at_short d (slice_set l i x) s ≡ x
    here = at_short-is d (slice_set l i x) s i e short ∙ get_or-set_same l i x d (short-index s (length l) i e short low)

    away : (q : ℕ) → q ≢ s → is_short q ≡ true → q / 2 - 1 ≢ i
    away q h f same = short-other s q short f h (same ∙ e)

    there : (q : ℕ) → q ≢ s → (b : Bool) → is_short q ≡ b → at_short d (slice_set l i x) q ≡ at_short d l q
    there q h true f = at_short-is d (slice_set l i x) q (q / 2 - 1) refl f ∙ get_or-set_other l i (q / 2 - 1) x d (away q h f) ∙ sym (at_short-is d l q (q / 2 - 1) refl f)
    there q h false f = ap (λ b. cond b (get_or (slice_set l i x) (q / 2 - 1) d) d) f ∙ sym (ap (λ b. cond b (get_or l (q / 2 - 1) d) d) f)

    go : (q : ℕ) → at_short d (slice_set l i x) q ≡ cond (eqb q s) x (at_short d l q)
    go q = ⊎_elim (λ (h : q ≡ s). subst (λ (z : ℕ). at_short d (slice_set l i x) z ≡ cond (eqb z s) x (at_short d l z)) (sym h) (here ∙ sym (same s x (at_short d l s))))
        (λ (h : q ≢ s). there q h (is_short q) refl ∙ sym (other q s x (at_short d l q) h)) (cases_eq q s)
      where
        same : (s : ℕ) (a b : X) → cond (eqb s s) a b ≡ a
        same s a b = grind (arith, common_steps)

        other : (q s : ℕ) (a b : X) → q ≢ s → cond (eqb q s) a b ≡ b
        other q s a b h = grind (arith, common_steps)

-- one more behind all others
pub at_short-push : {X : Type 0} (d : X) (l : List X) (x : X) → at_short d (l ++ x ∷ []) ≡ put (at_short d l) (2 * (length l + 1)) x
at_short-push {X} d l x = fun_ext go
  where
    here : at_short d (l ++ x ∷ []) (2 * (length l + 1)) ≡ x
    here = at_short-index d (l ++ x ∷ []) (length l) ∙ get_or_push l x d (length l) refl

    at : (i : ℕ) → i ≢ length l → get_or (l ++ x ∷ []) i d ≡ get_or l i d
    at i away = ⊎_elim
        (λ (low : i < length l). get_or_append_left l (x ∷ []) d i low)
        (λ (past : length l ≤ i). get_or_past (l ++ x ∷ []) i d (let size = length_push l x in omega arith) ∙ sym (get_or_past l i d past))
        (cases_lt i (length l))

    away : (q : ℕ) → q ≢ 2 * (length l + 1) → is_short q ≡ true → q / 2 - 1 ≢ length l
    away q h f same = let e = short-even q f in h (omega (arith, e.0, e.1))

    there : (q : ℕ) → q ≢ 2 * (length l + 1) → (b : Bool) → is_short q ≡ b → at_short d (l ++ x ∷ []) q ≡ at_short d l q
    there q h true f = at_short-is d (l ++ x ∷ []) q (q / 2 - 1) refl f ∙ at (q / 2 - 1) (away q h f) ∙ sym (at_short-is d l q (q / 2 - 1) refl f)
    there q h false f = ap (λ b. cond b (get_or (l ++ x ∷ []) (q / 2 - 1) d) d) f ∙ sym (ap (λ b. cond b (get_or l (q / 2 - 1) d) d) f)

    same : (s : ℕ) (a b : X) → cond (eqb s s) a b ≡ a
    same s a b = grind (arith, common_steps)

    other : (q s : ℕ) (a b : X) → q ≢ s → cond (eqb q s) a b ≡ b
    other q s a b h = grind (arith, common_steps)

    go : (q : ℕ) → at_short d (l ++ x ∷ []) q ≡ cond (eqb q (2 * (length l + 1))) x (at_short d l q)
    go q = ⊎_elim
        (λ (h : q ≡ 2 * (length l + 1)). ap (at_short d (l ++ x ∷ [])) h ∙ here ∙ sym (ap (λ (z : ℕ). cond (eqb z (2 * (length l + 1))) x (at_short d l q)) h ∙ same (2 * (length l + 1)) x (at_short d l q)))
        (λ (h : q ≢ 2 * (length l + 1)). there q h (is_short q) refl ∙ sym (other q (2 * (length l + 1)) x (at_short d l q) h))
        (cases_eq q (2 * (length l + 1)))

-- a list without the short word
pub at_short-past : {X : Type 0} (d : X) (l : List X) (s i : ℕ) → i ≡ s / 2 - 1 → is_short s ≡ true → length l ≤ i → at_short d l s ≡ d
at_short-past d l s i e short past = at_short-is d l s i e short ∙ get_or_past l i d past

pub at_short-none : {X : Type 0} (d : X) → at_short d [] ≡ (λ s. d)
at_short-none {X} d = at_short-all d [] (λ k. refl)

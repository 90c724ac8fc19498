-- Loops that go along a text, against functions of what is left of it.
use Rattle.std.proofs.Common.{◌≡◌, ◌≤◌, ◌<◌, ℕ, suc, ◌+◌, Bool, true, false, not, cond, List, [], ◌∷◌, length, drop, get_or, Option, Some, None, refl, sym, ap, ◌∙◌, arith, drop-cons, eq-eqb, ne_eqb}
use Rattle.std.proofs.Math.ListN.{drop_of_length-le}
use Rattle.st80_syntax.specs.declared.bytes.Class.{Class}
use Rattle.st80_syntax.specs.Numbers.{figures_behind, go_on, with_figure}
use Rattle.st80_syntax.specs.Bytes.{is_in, more, quoted_by, run_of}

-- ---- one character more

run_step : (c : Class) (b : ℕ) (bs : List ℕ) → is_in c b ≡ true → run_of c (b ∷ bs) ≡ 1 + run_of c bs
unfolding run_of
run_step c b bs e = ap (λ (t : Bool). cond t (1 + run_of c bs) 0) e

run_stop : (c : Class) (b : ℕ) (bs : List ℕ) → is_in c b ≡ false → run_of c (b ∷ bs) ≡ 0
unfolding run_of
run_stop c b bs e = ap (λ (t : Bool). cond t (1 + run_of c bs) 0) e

run_end : (c : Class) → run_of c [] ≡ 0
unfolding run_of
run_end c = refl

-- what is left of a text from a place on
pub left_at : (text : List ℕ) (at : ℕ) → at < length text → drop at text ≡ get_or text at 0 ∷ drop (at + 1) text
left_at text at below = let same : suc at ≡ at + 1 = omega arith in drop-cons text at 0 below ∙ ap (λ (n : ℕ). get_or text at 0 ∷ drop n text) same

pub run_on : (c : Class) (text : List ℕ) (at : ℕ) → at < length text → is_in c (get_or text at 0) ≡ true → run_of c text ≡ at + run_of c (drop at text) → run_of c text ≡ (at + 1) + run_of c (drop (at + 1) text)
run_on c text at below e inv =
    let step : run_of c (drop at text) ≡ 1 + run_of c (drop (at + 1) text) = ap (run_of c) (left_at text at below) ∙ run_step c (get_or text at 0) (drop (at + 1) text) e in
    omega (arith, inv, step)

pub run_stops : (c : Class) (text : List ℕ) (at : ℕ) → at < length text → is_in c (get_or text at 0) ≡ false → run_of c text ≡ at + run_of c (drop at text) → at ≡ run_of c text
run_stops c text at below e inv =
    let step : run_of c (drop at text) ≡ 0 = ap (run_of c) (left_at text at below) ∙ run_stop c (get_or text at 0) (drop (at + 1) text) e in
    omega (arith, inv, step)

pub run_ends : (c : Class) (text : List ℕ) (at : ℕ) → length text ≤ at → run_of c text ≡ at + run_of c (drop at text) → at ≡ run_of c text
run_ends c text at behind inv =
    let step : run_of c (drop at text) ≡ 0 = ap (run_of c) (drop_of_length-le text behind) ∙ run_end c in
    omega (arith, inv, step)

-- ---- strings

more_more : (m n k : ℕ) (o : Option ℕ) → m + n ≡ k → more m (more n o) ≡ more k o
more_more m n k None e = refl
more_more m n k (Some x) e = let same : m + (n + x) ≡ k + x = omega (arith, e) in ap Some same

more_none : (o : Option ℕ) → o ≡ more 0 o
more_none None = refl
more_none (Some x) = let same : x ≡ 0 + x = omega arith in ap Some same

pub quoted_init : (p : Bool) (text : List ℕ) → quoted_by p text ≡ more 0 (quoted_by p (drop 0 text))
quoted_init p text = more_none (quoted_by p text) ∙ ap (λ (s : List ℕ). more 0 (quoted_by p s)) refl

quoted_turn : (p : Bool) (b : ℕ) (bs : List ℕ) → b ≡ 39 → quoted_by p (b ∷ bs) ≡ more 1 (quoted_by (not p) bs)
unfolding quoted_by
quoted_turn p b bs e = ap (λ (t : Bool). cond t (more 1 (quoted_by (not p) bs)) (cond p (Some 0) (more 1 (quoted_by false bs)))) (eq-eqb b 39 e)

quoted_stop : (b : ℕ) (bs : List ℕ) → (b ≡ 39 → ⊥) → quoted_by true (b ∷ bs) ≡ Some 0
unfolding quoted_by
quoted_stop b bs e = ap (λ (t : Bool). cond t (more 1 (quoted_by false bs)) (Some 0)) (ne_eqb b 39 e)

quoted_step : (b : ℕ) (bs : List ℕ) → (b ≡ 39 → ⊥) → quoted_by false (b ∷ bs) ≡ more 1 (quoted_by false bs)
unfolding quoted_by
quoted_step b bs e = ap (λ (t : Bool). cond t (more 1 (quoted_by true bs)) (more 1 (quoted_by false bs))) (ne_eqb b 39 e)

-- what goes on from a place, one character more
goes_on : (whole : Option ℕ) (p q : Bool) (text : List ℕ) (at : ℕ) → at < length text
    → quoted_by p (get_or text at 0 ∷ drop (at + 1) text) ≡ more 1 (quoted_by q (drop (at + 1) text))
    → whole ≡ more at (quoted_by p (drop at text)) → whole ≡ more (at + 1) (quoted_by q (drop (at + 1) text))
goes_on whole p q text at below step inv =
    inv ∙ ap (λ (s : List ℕ). more at (quoted_by p s)) (left_at text at below) ∙ ap (more at) step ∙ more_more at 1 (at + 1) (quoted_by q (drop (at + 1) text)) refl

pub quoted_quote : (whole : Option ℕ) (p : Bool) (text : List ℕ) (at : ℕ) → at < length text → get_or text at 0 ≡ 39
    → whole ≡ more at (quoted_by p (drop at text)) → whole ≡ more (at + 1) (quoted_by (not p) (drop (at + 1) text))
quoted_quote whole p text at below e = goes_on whole p (not p) text at below (quoted_turn p (get_or text at 0) (drop (at + 1) text) e)

pub quoted_other : (whole : Option ℕ) (p : Bool) (text : List ℕ) (at : ℕ) → at < length text → (get_or text at 0 ≡ 39 → ⊥) → p ≡ false
    → whole ≡ more at (quoted_by p (drop at text)) → whole ≡ more (at + 1) (quoted_by p (drop (at + 1) text))
quoted_other whole p text at below e is inv =
    goes_on whole false false text at below (quoted_step (get_or text at 0) (drop (at + 1) text) e) (inv ∙ ap (λ (t : Bool). more at (quoted_by t (drop at text))) is)
    ∙ ap (λ (t : Bool). more (at + 1) (quoted_by t (drop (at + 1) text))) (sym is)

pub quoted_stops : (whole : Option ℕ) (p : Bool) (text : List ℕ) (at : ℕ) → at < length text → (get_or text at 0 ≡ 39 → ⊥) → p ≡ true
    → whole ≡ more at (quoted_by p (drop at text)) → Some at ≡ whole
quoted_stops whole p text at below e is inv =
    let stop : quoted_by p (drop at text) ≡ Some 0 = ap (λ (t : Bool). quoted_by t (drop at text)) is ∙ ap (quoted_by true) (left_at text at below) ∙ quoted_stop (get_or text at 0) (drop (at + 1) text) e in
    let none : at + 0 ≡ at = omega arith in
    sym (inv ∙ ap (more at) stop ∙ ap Some none)

quoted_nil : (p : Bool) (text : List ℕ) (at : ℕ) → length text ≤ at → quoted_by p (drop at text) ≡ cond p (Some 0) None
unfolding quoted_by
quoted_nil p text at behind = ap (quoted_by p) (drop_of_length-le text behind)

pub quoted_ends : (whole : Option ℕ) (p : Bool) (text : List ℕ) (at : ℕ) → length text ≤ at → p ≡ true → whole ≡ more at (quoted_by p (drop at text)) → Some at ≡ whole
quoted_ends whole p text at behind is inv =
    let none : at + 0 ≡ at = omega arith in
    sym (inv ∙ ap (more at) (quoted_nil p text at behind ∙ ap (λ (t : Bool). cond t (Some 0) None) is) ∙ ap Some none)

pub quoted_fails : (whole : Option ℕ) (p : Bool) (text : List ℕ) (at : ℕ) → length text ≤ at → p ≡ false → whole ≡ more at (quoted_by p (drop at text)) → None ≡ whole
quoted_fails whole p text at behind is inv = sym (inv ∙ ap (more at) (quoted_nil p text at behind ∙ ap (λ (t : Bool). cond t (Some 0) None) is))

-- ---- figures

pub figures_none : (radix n : ℕ) (whole : Option ℕ) (figures : List ℕ) (at : ℕ) → at < length figures → None ≡ with_figure radix n (get_or figures at 0)
    → whole ≡ figures_behind radix n (drop at figures) → None ≡ whole
unfolding figures_behind
figures_none radix n whole figures at below e inv =
    sym (inv ∙ ap (figures_behind radix n) (left_at figures at below) ∙ ap (λ (o : Option ℕ). go_on o (λ m. figures_behind radix m (drop (at + 1) figures))) (sym e))

pub figures_more : (radix n m : ℕ) (whole : Option ℕ) (figures : List ℕ) (at : ℕ) → at < length figures → Some m ≡ with_figure radix n (get_or figures at 0)
    → whole ≡ figures_behind radix n (drop at figures) → whole ≡ figures_behind radix m (drop (at + 1) figures)
unfolding figures_behind
figures_more radix n m whole figures at below e inv =
    inv ∙ ap (figures_behind radix n) (left_at figures at below) ∙ ap (λ (o : Option ℕ). go_on o (λ k. figures_behind radix k (drop (at + 1) figures))) (sym e)

pub figures_end : (radix n : ℕ) (whole : Option ℕ) (figures : List ℕ) (at : ℕ) → length figures ≤ at → whole ≡ figures_behind radix n (drop at figures) → Some n ≡ whole
unfolding figures_behind
figures_end radix n whole figures at behind inv = sym (inv ∙ ap (figures_behind radix n) (drop_of_length-le figures behind))

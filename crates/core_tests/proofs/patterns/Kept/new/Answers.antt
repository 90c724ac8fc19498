use Rattle.std.proofs.Common.{◌≡◌, ◌<◌, ◌≤◌, ℕ, List, Option, None, Some, length, replicate, get_or, refl, sym, ap, ◌∙◌, ⊎_elim, arith}
use Rattle.std.proofs.lemmas.Bool.{cases_lt}
use Rattle.std.proofs.lemmas.List.{get_or-replicate, length-replicate, get_or_past}
use Rattle.std.proofs.lemmas.Option.{none-some}
use Rattle.core_segment.specs.declared.segment.Addr.{Addr}
use Rattle.core_tests.proofs.patterns.Kept.new.Goals as goal

-- a copy of None is None
none-only : (C : Option Addr → Type 0) → ((a : Addr) → C (Some a) → ⊥) → (y : Option Addr) → C y → y ≡ None
none-only C differs None e = refl
none-only C differs (Some a) e = absurd (differs a e)

-- what is read of a list of copies, past its end too
none-at : (x : Option Addr) (n k : ℕ) → get_or (replicate n x) k x ≡ x
none-at x n k = ⊎_elim
    (λ (low : k < n). get_or-replicate n k x x low)
    (λ (past : n ≤ k). get_or_past (replicate n x) k x (omega (arith, length-replicate n x)))
    (cases_lt k n)

pub invariant_of-result : goal.invariant_of-result
invariant_of-result c =
    let none = c.in_ok-vec.ensures.items_if_clones_equal (none-only _ (λ a e. e)) in
    let zero = c.in_ok-vec-2.ensures.items_if_clones_equal (λ y e. e) in
    record {
      many = (ap length none ∙ length-replicate c.from.result None ∙ c.from.ensures, ap length zero ∙ length-replicate c.from-2.result 0 ∙ c.from-2.ensures);
      told = λ k a e. absurd (none-some a (sym (none-at None c.from.result k) ∙ ap (λ (xs : List (Option Addr)). get_or xs k None) (sym none) ∙ e));
    }

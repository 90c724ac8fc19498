use Rattle.std.proofs.Common.{◌≡◌, ℕ, Bool, true, false, inr, refl, sym, ap, ◌∙◌, Some, None, Option}
use Rattle.std.specs.List.{list_any}
use Rattle.std.specs.BTreeMap.{is_at}
use Rattle.std.specs.Ordering.{nat_cmp}
use Rattle.std.specs.BTreeSet.{contains}
use Rattle.object_memory.proofs.plain.marks.Marks.touch.Goals as goal

pub returns-then-contains-clause-leaves : goal.returns-then-contains-clause-leaves
returns-then-contains-clause-leaves c = inr record {
  rows = λ k s m. refl;
  marks = λ n e. gone n e;
  path = refl;
  taken = c.args.name;
  was = sym c.contains.ensures ∙ c.if-contains.true;
}
  where
    gone : (n : ℕ) → contains nat_cmp c.clear.new.self n ≡ true → ◌≡◌ {A = Option ℕ} None (Some n)
    gone n e = let no : ◌≡◌ {A = Bool} false true = ap (λ keys. list_any (is_at (nat_cmp n)) keys) (sym c.clear.ensures.empty) ∙ e in cc

use Rattle.std.proofs.Common.{◌≡◌, ℕ, Bool, true, false, cond, eqb, ◌||◌, refl, ap, ◌∙◌, arith}
use Rattle.std.proofs.lemmas.Grind.{common_steps}
use mathlib.Core.Path.{fun_ext}
use Rattle.std.specs.Ordering.{nat_cmp}
use Rattle.std.specs.BTreeMap.{is_at}
use Rattle.object_memory.specs.Told.{Cache}
use Rattle.object_memory.specs.Plain.{cache_of}
use Rattle.object_memory.proofs.plain.marks.Marks.add.Goals as goal

-- a key of the set, or the new one
marked : (name k : ℕ) (before : Bool) → cond (is_at (nat_cmp name) k) true before ≡ (eqb k name || before)
marked name k before = go (is_at (nat_cmp name) k) (same name k)
  where
    same : (a b : ℕ) → is_at (nat_cmp a) b ≡ eqb b a
    same a b = grind (arith, common_steps)

    go : (b : Bool) → b ≡ eqb k name → cond b true before ≡ (eqb k name || before)
    go true e = rw (← e) refl
    go false e = rw (← e) refl

pub returns-clause-ok : goal.returns-clause-ok
returns-clause-ok c =
    let old = cache_of c.args.self.now in
    ap (λ (f : ℕ → Bool). let x : Cache = record { rows = old.rows; marks = f; path = old.path } in x) (fun_ext (λ k. c.in_ok-insert.ensures.updates.0 k ∙ marked c.args.name k (old.marks k)))

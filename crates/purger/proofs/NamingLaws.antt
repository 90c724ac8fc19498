-- Names that came with a use: what calls on bodies leave of counts.
use Rattle.std.proofs.Common.{◌≡◌, ℕ, ◌≤◌, Bool, true, false, List, Option, Some, None, refl, sym, ◌∙◌, ap, arith}
use Rattle.long_names.specs.declared.value.Value.{Value}
use Rattle.object_table.specs.Entries.{is_used}
use Rattle.object_table.specs.declared.entry.Entry.{Entry}
use Rattle.core_view.specs.Core.{Core}
use Rattle.core_view.specs.Counts.{uses, outside, change_by}
use Rattle.core_view.specs.Kept.{IsCore, Keeps, Stays}
use Rattle.core_view.specs.Steps.{IsMove}
use Rattle.leaf_lambda.specs.Parts.{IsNaming, IsWithin}
use Rattle.core_view.specs.Levels.{Levels, records_of}
use Rattle.core_view.specs.Counted.{IsSound}
use Rattle.core_view.specs.LevelSteps.{with_core, IsUncounted}
use Rattle.core_view.proofs.CameLaws.{came-sound}
use Rattle.purger.specs.Marks.{IsUnmarking}
use Rattle.purger.specs.Counts.{KeepsCounts}
use Rattle.purger.proofs.MarkLaws.{unmarked-same}

some-uses : (c : Core) (s : ℕ) → outside c s ≡ 0 → 1 ≤ (c.entries s).refs → 1 ≤ uses c s
unfolding outside
some-uses c s none some = omega arith

none-outside : (c : Core) (s : ℕ) → (c.entries s).refs ≡ 0 → outside c s ≡ 0
unfolding outside
none-outside c s none = omega arith

-- each name that came is used
pub naming-came : (a d : Core) (r : ℕ) → IsCore a → IsCore d → IsNaming a d → IsWithin r a d → IsUncounted a d
naming-came a d r core now naming within = record { changes = within.changes; grew = within.grew; came = came }
  where
    came : (m s : ℕ) → a.find m ≡ None → d.find m ≡ Some s → 1 ≤ uses d s
    came m s absent found = go (is_used (a.entries s).state) refl
      where
        go : (b : Bool) → is_used (a.entries s).state ≡ b → 1 ≤ uses d s
        go true e =
            let name : (a.entries s).name ≡ m = sym (within.live s e).1 ∙ now.named m s found in
            let there : a.find m ≡ Some s = sym (ap a.find name) ∙ core.found s e in
            absurd (cc)
        go false e = some-uses d s (within.same_outside s ∙ none-outside a s (core.free s e)) (naming.came s e (now.used m s found))

-- no name came
pub counts-free : (a d : Core) → KeepsCounts a d → IsUncounted a d
counts-free a d k = record {
  changes = k.changes;
  grew = λ m e. ap (λ (f : ℕ → Option ℕ). f m) (sym k.find) ∙ e;
  came = λ m s absent found. let there : a.find m ≡ Some s = ap (λ (f : ℕ → Option ℕ). f m) (sym k.find) ∙ found in absurd (cc);
}

pub Counts-refl : (c : Core) → KeepsCounts c c
Counts-refl c = record { find = refl; changes = λ m. refl }

pub Counts-trans : (a b c : Core) → KeepsCounts a b → KeepsCounts b c → KeepsCounts a c
Counts-trans a b c x y = record { find = y.find ∙ x.find; changes = λ m. y.changes m ∙ x.changes m }

pub within-counts : (a d : Core) (r : ℕ) → d.find ≡ a.find → IsWithin r a d → KeepsCounts a d
within-counts a d r same within = record { find = same; changes = within.changes }

pub unmarking-counts : (c d : Core) → IsUnmarking c d → KeepsCounts c d
unmarking-counts c d step = record { find = step.find; changes = λ m. ap (λ (f : ℕ → Option ℕ). change_by d.entries (f m)) step.find ∙ go (c.find m) }
  where
    go : (o : Option ℕ) → change_by d.entries o ≡ change_by c.entries o
    go None = refl
    go (Some q) = unmarked-same c d q (λ (e : Entry). e.change) step (λ e. refl)

pub move-counts : (c d : Core) → IsMove c d → KeepsCounts c d
move-counts c d move = record { find = move.find; changes = λ m. ap (λ (f : ℕ → Option ℕ). change_by d.entries (f m)) move.find ∙ go (c.find m) }
  where
    go : (o : Option ℕ) → change_by d.entries o ≡ change_by c.entries o
    go None = refl
    go (Some q) = ap (λ (e : Entry). e.change) (move.entries q)

-- ---- sound levels stay sound

pub brought-sound : (t : Levels) (d : Core) (r : ℕ) (owed : List Value) → IsSound t owed → IsCore d → Keeps (records_of t) t.core d → IsNaming t.core d → IsWithin r t.core d → IsSound (with_core t d) owed
brought-sound t d r owed x now keeps naming within = came-sound t d owed x now keeps (naming-came t.core d r x.core now naming within)

pub quiet-sound : (t : Levels) (d : Core) (owed : List Value) → IsSound t owed → IsCore d → Stays t.core d → KeepsCounts t.core d → IsSound (with_core t d) owed
quiet-sound t d owed x now stays same = came-sound t d owed x now (stays (records_of t) x.backed) (counts-free t.core d same)

-- The table of primitives, row by row.
use Rattle.std.proofs.Common.{◌≡◌, ℕ, List, [], ◌∷◌, Option, Result, Ok, sym, subst}
use borrow.Author.Tests.{eq-eqb, ne_eqb}
use Rattle.object_memory.specs.Told.{Told, IsReady}
use Rattle.blue_model.specs.declared.answer.Answer.{Answer}
use Rattle.blue_model.specs.declared.answer.Answer.TheVariants.{Failed}
use Rattle.blue_model.specs.declared.cpu.Cpu.{Cpu}
use Rattle.blue_model.specs.Trials.{Primitive, with_arguments, primitive_in}
use Rattle.contexts.specs.declared.stop.Stop.{Stop}
use Rattle.contexts.specs.Serves.{ServesAs}
use Rattle.contexts.proofs.Steps.{numbers_then, pick_false}
use Rattle.contexts.proofs.TrialLaws.{true_then, false_fails, failed_serves}

-- a message of as many arguments as the row has
pub row_serves : {w : Option Answer} {old new : Told} {cpu now : Cpu} {answer : Result Answer Stop} (ps : List Primitive) (p : Primitive) (n index : ℕ) → n ≡ index → primitive_in ps index ≡ with_arguments p → cpu.args ≡ p.arguments → ServesAs w old cpu new now p.rule answer → ServesAs w old cpu new now (primitive_in ps n) answer
unfolding with_arguments
row_serves {w} {old} {new} {cpu} {now} {answer} ps p n index e row args s =
    let here : ServesAs w old cpu new now (with_arguments p) answer = numbers_then _ (true_then _ _ (λ told. eq-eqb _ _ args) s) in
    subst (λ k. ServesAs w old cpu new now (primitive_in ps k) answer) (sym e) (subst (λ rule. ServesAs w old cpu new now rule answer) (sym row) here)

-- a message of another number of arguments
pub row_fails : {w : Option Answer} {t : Told} {cpu : Cpu} (ps : List Primitive) (p : Primitive) (n index : ℕ) → n ≡ index → primitive_in ps index ≡ with_arguments p → (cpu.args ≡ p.arguments → ⊥) → IsReady t → ServesAs w t cpu t cpu (primitive_in ps n) (Ok Failed)
unfolding with_arguments
row_fails {w} {t} {cpu} ps p n index e row others ready =
    let here : ServesAs w t cpu t cpu (with_arguments p) (Ok Failed) = numbers_then _ (false_fails _ _ ready (λ told. ne_eqb _ _ others)) in
    subst (λ k. ServesAs w t cpu t cpu (primitive_in ps k) (Ok Failed)) (sym e) (subst (λ rule. ServesAs w t cpu t cpu rule (Ok Failed)) (sym row) here)

-- No row has this index, as the tests of all rows say one after the other.
abbrev pub Missed : Type 0 → List Primitive → ℕ → Type 0
Missed before [] index = before
Missed before (p ∷ ps) index = Missed (before × (index ≡ p.index → ⊥)) ps index

-- the same from the first row on
abbrev Misses : List Primitive → ℕ → Type 0
Misses [] index = Unit {0}
Misses (p ∷ ps) index = (index ≡ p.index → ⊥) × Misses ps index

from_first : (before : Type 0) (ps : List Primitive) (index : ℕ) → Missed before ps index → before × Misses ps index
from_first before [] index missed = (missed, tt)
from_first before (p ∷ ps) index missed = let rest = from_first (before × (index ≡ p.index → ⊥)) ps index missed in (rest.0.0, (rest.0.1, rest.1))

none_here : {w : Option Answer} {t : Told} {cpu : Cpu} (ps : List Primitive) (index : ℕ) → IsReady t → Misses ps index → ServesAs w t cpu t cpu (primitive_in ps index) (Ok Failed)
none_here [] index ready misses = failed_serves ready
none_here (p ∷ ps) index ready misses = pick_false _ _ _ (ne_eqb p.index index (λ e. misses.0 (sym e))) (none_here ps index ready misses.1)

pub none_serves : {w : Option Answer} {t : Told} {cpu : Cpu} (ps : List Primitive) (index : ℕ) → IsReady t → Missed (Unit {0}) ps index → ServesAs w t cpu t cpu (primitive_in ps index) (Ok Failed)
none_serves ps index ready missed = none_here ps index ready (from_first (Unit {0}) ps index missed).1

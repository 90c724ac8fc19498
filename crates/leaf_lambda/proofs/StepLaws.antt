-- The parts as a core after a step.
-- Each call of the parts below is one equation `put f k a`, so a step is `core-is`, then `subst` into a law of core_view. A
-- body of lambdas comes first, then each field is resolved in place: nothing is half done, and the loop's invariant is the
-- memory's. What several calls in a row said is one record over plain cores (`IsOpenRun`, `IsPut`): answers build it, and the
-- laws take it.
use Rattle.std.proofs.Common.{◌≡◌, ℕ, ◌+◌, ◌≤◌, Bool, true, false, cond, Option, Some, None, refl, sym, ◌∙◌, ap, subst, arith}
use Rattle.object_table.specs.declared.entry.Entry.{Entry}
use Rattle.std.specs.Prelude.{IfSome}
use Rattle.object_table.specs.declared.entry.Short.{Short}
use Rattle.object_table.specs.Entries.{is_free, is_used, leaf_entry}
use Rattle.core_view.proofs.Entries.{at-entry}
use Rattle.object_table.specs.Table.{entry_at, bound_of}
use Rattle.core_view.specs.Core.{Core, with_leaf}
use Rattle.core_view.specs.Counts.{uses}
use Rattle.core_view.specs.Kept.{IsCore}
use Rattle.core_view.specs.Steps.{IsSpare}
use Rattle.core_view.proofs.Leaves.{leaf-outside}
use Rattle.core_view.proofs.Others.{Entries-refl, leaf-entries, leaf-marks}
use Rattle.core_view.proofs.Steps.{Stays-refl, RefStep-refl, leaf-stays, leaf-step, leaf-used, leaf-grew, leaf-changes}
use Rattle.core_segment.specs.Segment.{chunk_at}
use Rattle.resident_table.specs.Resident.{short_of}
use Rattle.leaf_lambda.specs.declared.parts.Parts.{Parts}
use Rattle.leaf_lambda.specs.Parts.{core_of, IsLeafStep}

pub core-is : (p : Parts) (c : Core) → entry_at p.names.table ≡ c.entries → short_of p.names.resident ≡ c.find → chunk_at p.segment ≡ c.chunks → bound_of p.names.table ≡ c.bound → core_of p ≡ c
unfolding core_of
core-is p c entries find chunks bound = λ i. record { entries = entries i; find = find i; chunks = chunks i; bound = bound i }

pub more-uses : (c : Core) (s : ℕ) → IsCore c → uses c s ≤ (c.entries s).refs + 1
more-uses c s core = let m = core.counted s in omega arith

pub free-unused : (e : Entry) → is_free e ≡ true → is_used e.state ≡ false
free-unused e h = go (is_used e.state) refl
  where
    go : (b : Bool) → is_used e.state ≡ b → is_used e.state ≡ false
    go false f = f
    go true f = let h' : false ≡ true = sym (ap (λ b. cond b false true) f) ∙ h in cc

-- a leaf came, or nothing
pub leaf-comes : (c : Core) (s n : ℕ) → IsCore c → IsSpare c s n → IsLeafStep c (with_leaf c s n)
leaf-comes c s n core spare = record {
  stays = leaf-stays c s n core spare;
  step = leaf-step c s n spare;
  same_outside = λ t. leaf-outside c s n t core spare;
  used = leaf-used c s n spare;
  grew = λ m e. leaf-grew c s n m e spare.absent;
  changes = leaf-changes c s n core spare;
  others = leaf-entries c s n spare;
  marks = leaf-marks c s n core spare;
}

pub none-comes : (c : Core) → IsLeafStep c c
none-comes c = record { stays = Stays-refl c; step = RefStep-refl c; same_outside = λ t. refl; used = λ q on. refl; grew = λ m e. e; changes = λ m. refl; others = Entries-refl c; marks = λ m. refl }

-- the leaf that came is the one that is answered
pub only-leaf : (a d : Core) (n : ℕ) (result : Option Short) → IfSome result (λ (s : Short). IsSpare a s.0 n × (d ≡ with_leaf a s.0 n)) → IfSome result (λ (s : Short). (q : ℕ) → is_used (a.entries q).state ≡ false → is_used (d.entries q).state ≡ true → q ≡ s.0)
only-leaf a d n None x = x
only-leaf a d n (Some s) x = λ q off. subst (λ (c : Core). is_used (c.entries q).state ≡ true → q ≡ s.0) (sym x.1)
    (at-entry a.entries s.0 (leaf_entry n) (λ r e. is_used (a.entries r).state ≡ false → is_used e.state ≡ true → r ≡ s.0) (λ off on. refl) (λ r away off on. absurd (cc)) q off)

pub same-only : (a : Core) (s q : ℕ) → is_used (a.entries q).state ≡ false → is_used (a.entries q).state ≡ true → q ≡ s
same-only a s q off on = let no : false ≡ true = sym off ∙ on in cc

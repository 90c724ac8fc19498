-- What the type of the two levels keeps of parts stays, step by step.
use Rattle.std.proofs.Common.{◌≡◌, ℕ, true, Option, Some, None, sym, subst}
use Rattle.std.specs.Prelude.{IfSome, IfNone}
use Rattle.long_names.specs.declared.object.Kind.{Kind}
use Rattle.object_table.specs.Entries.{is_used, place_of}
use Rattle.object_table.specs.declared.entry.Short.{Short}
use Rattle.core_view.specs.Core.{with_entry}
use Rattle.core_view.specs.Kept.{IsTight}
use Rattle.core_view.specs.Steps.{IsRefStep, KeepsEntries}
use Rattle.core_view.proofs.Tight.{ref-tight}
use Rattle.leaf_lambda.specs.declared.parts.Parts.{Parts}
use Rattle.leaf_lambda.specs.Parts.{core_of, IsParts, IsWithin}
use Rattle.leaf_lambda.specs.Whole.{IsWhole}
use Rattle.purger.specs.declared.room.Pinned.{Pinned}
use Rattle.purger.specs.Marks.{AreHere, IsUnmarking}
use Rattle.purger.specs.Touches.{IsTouching}
use Rattle.purger.proofs.MarkLaws.{unmarked-here, unmarked-tight}
use Rattle.purger.proofs.PagerLaws.{are-here, whole-of}
use Rattle.purger.proofs.TouchLaws.{touch-here, touch-tight}
use Rattle.loom_memory.specs.Cache.{with_its_mark}
use Rattle.loom_memory.specs.Gentle.{IsCalm}
use Rattle.loom_memory.specs.New.{IsNew, IsReadied}
use Rattle.loom_memory.proofs.CalmLaws.{store-calm, within-calm}
use Rattle.loom_memory.specs.Stores.{IsRecount}
use Rattle.loom_memory.proofs.RecountLaws.{recount-calm, recount-tight}
use Rattle.loom_memory.proofs.RegLaws.{entries-here}
use Rattle.loom_memory.proofs.RowLaws.{marked-here, marked-tight}

none : Pinned
none = record { a = 0; b = 0; d = 0 }

calm-whole : (p q : Parts) → IsWhole p → IsParts q → (IsTight (core_of p) → IsTight (core_of q)) → IsCalm none (core_of p) (core_of q) → IsWhole q
calm-whole p q w parts tight calm = whole-of q parts (tight w.tight) (calm.here (are-here (core_of p) w.marks))

-- references changed, and no more
pub ref-whole : (p q : Parts) → IsWhole p → IsParts q → IsRefStep (core_of p) (core_of q) → KeepsEntries (core_of p) (core_of q) → IsWhole q
ref-whole p q w parts step others = whole-of q parts (ref-tight (core_of p) (core_of q) step w.tight) (entries-here (core_of p) (core_of q) others (are-here (core_of p) w.marks))

-- counts changed
pub recount-whole : (p q : Parts) → IsWhole p → IsParts q → IsRecount (core_of p) (core_of q) → IsWhole q
recount-whole p q w parts step = calm-whole p q w parts (recount-tight (core_of p) (core_of q) step) (recount-calm none (core_of p) (core_of q) step)

-- what was used changed
pub touch-whole : (p q : Parts) → IsWhole p → IsParts q → IsTouching (core_of p) (core_of q) → IsWhole q
touch-whole p q w parts step = whole-of q parts (touch-tight (core_of p) (core_of q) step w.tight) (touch-here (core_of p) (core_of q) step (are-here (core_of p) w.marks))

-- marks went
pub unmark-whole : (p q : Parts) → IsWhole p → IsParts q → IsUnmarking (core_of p) (core_of q) → IsWhole q
unmark-whole p q w parts step = whole-of q parts (unmarked-tight (core_of p) (core_of q) step w.tight) (unmarked-here (core_of p) (core_of q) step (are-here (core_of p) w.marks))

-- an object that is here was marked
pub mark-whole : (p q : Parts) (s at : ℕ) → IsWhole p → IsParts q → place_of ((core_of p).entries s).state ≡ Some at → core_of q ≡ with_entry (core_of p) s (with_its_mark ((core_of p).entries s)) → IsWhole q
mark-whole p q s at w parts there is = whole-of q parts (subst IsTight (sym is) (marked-tight (core_of p) s w.tight)) (subst AreHere (sym is) (marked-here (core_of p) s at there (are-here (core_of p) w.marks)))

-- the body of an object changed
pub store-whole : (p q : Parts) (s at : ℕ) → IsWhole p → IsParts q → IsWithin s (core_of p) (core_of q) → place_of ((core_of p).entries s).state ≡ Some at → place_of ((core_of q).entries s).state ≡ place_of ((core_of p).entries s).state
    → ((core_of q).entries s).name ≡ ((core_of p).entries s).name → IsWhole q
store-whole p q s at w parts within there place name = calm-whole p q w parts within.tight (store-calm none s at (core_of p) (core_of q) w.parts.core parts.core within there place name)

-- a leaf's object came
pub come-whole : (p q : Parts) (s : ℕ) → IsWhole p → IsParts q → IsWithin s (core_of p) (core_of q) → is_used ((core_of p).entries s).state ≡ true → place_of ((core_of p).entries s).state ≡ None → IsWhole q
come-whole p q s w parts within used leaf = calm-whole p q w parts within.tight (within-calm none s (core_of p) (core_of q) w.parts.core parts.core within used leaf)

-- an object was made, or none was
pub made-whole : (r : Option Short) (p q : Parts) (name class : ℕ) (k : Kind) (len header : ℕ) → IsWhole p → IsParts q → IfSome r (λ s. IsNew (core_of p) (core_of q) name class k len header s.0) → IfNone r (IsReadied (core_of p) (core_of q)) → IsWhole q
made-whole (Some s) p q name class k len header w parts new ready = calm-whole p q w parts new.tight (new.calm none)
made-whole None p q name class k len header w parts new ready = calm-whole p q w parts ready.tight (ready.calm none)

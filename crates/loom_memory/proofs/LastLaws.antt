-- The last step of a field's access, over a load that was quiet.
use Rattle.std.proofs.Common.{◌≡◌, ℕ, List, Option, Result, Ok, Err, IsTrue, refl, sym, ◌∙◌, ap, subst}
use Rattle.std.specs.Result.{OnOk, IfErr}
use Rattle.std.specs.Option.{option_map_or}
use Rattle.long_names.specs.declared.value.Value.{Value}
use Rattle.long_names.specs.State.{set_register}
use Rattle.long_names.specs.Thin.{IsWhole}
use Rattle.long_names.proofs.AccessLaws.{whole-after}
use Rattle.long_names.specs.Access.{Field, Nothing, CanDo, brought}
use Rattle.object_memory.specs.declared.fault.MemFault.{MemFault}
use Rattle.object_memory.specs.Told.{Told, Cache, IsReady}
use Rattle.object_memory.specs.Contract.{Accessed, IfBounds, HasCore}
use Rattle.method_cache.specs.Found.{found}
use Rattle.loom_host.specs.declared.outside.Host.{Ghosts}
use Rattle.loom_host.specs.declared.outside.Role.TheVariants.{Work}
use Rattle.disk_objects.specs.declared.rest.DiskRest.{DiskRest}
use Rattle.disk_objects.specs.Function.{disk_of}
use Rattle.core_view.specs.Core.{Core}
use Rattle.core_view.specs.Held.{held}
use Rattle.core_view.specs.Kept.{IsCore}
use Rattle.leaf_lambda.specs.Parts.{IsLeafStep}
use Rattle.purger.specs.Marks.{KeepsMarks}
use Rattle.purger.proofs.MarkLaws.{live-found}
use Rattle.object_table.specs.declared.entry.Entry.{Entry}
use Rattle.object_table.specs.Entries.{is_used}
use Rattle.purger.specs.declared.room.Pinned.{Pinned}
use Rattle.loom_memory.specs.declared.ledger.Ledger.{Ledger}
use Rattle.loom_memory.specs.Cache.{IsCached}
use Rattle.loom_memory.specs.Memory.{told_of, IsTaken, IsRefused}
use Rattle.loom_memory.specs.Gentle.{IsCalm, IsQuiet}
use Rattle.loom_memory.proofs.AccessLaws.{field-answered, same-trans, raised-trans, after-quiet, refused-is, left-ready}
use Rattle.loom_memory.proofs.CacheLaws.{cache-same, left-trans}
use Rattle.loom_memory.proofs.CalmLaws.{calm-told}
use Rattle.loom_memory.proofs.RegLaws.{IsRooted}

-- an object came, and its field into a register
field-came : (t u v : Told) (to of i : ℕ) → IsQuiet t u → IsTaken u v to of i → IfBounds t.bounds (HasCore t (Field to of i)) → Accessed {A = Unit {0}} t v (Field to of i) (λ _. Nothing) (Ok tt)
field-came t u v to of i quiet taken core =
    let is : v ≡ record t { bounds = v.bounds; cache = v.cache; regs = set_register t.regs to taken.value } = taken.same ∙ ap (λ (z : Told). record z { bounds = v.bounds; cache = v.cache; regs = set_register z.regs to taken.value }) quiet.same in
    let tells : u.tells ≡ t.tells = ap (λ (z : Told). z.tells) quiet.same in
    subst (λ (x : Told). Accessed {A = Unit {0}} t x (Field to of i) (λ _. Nothing) (Ok tt)) (sym is)
    (field-answered t v.bounds v.cache to of i taken.value (same-trans t.bounds u.bounds v.bounds quiet.bounds taken.bounds) (raised-trans t.bounds u.bounds v.bounds quiet.counts taken.counts) (left-trans t.cache u.cache v.cache quiet.cache taken.cache)
    (λ told. ap (λ (z : Told). brought z.heap z.regs (Field to of i)) (sym quiet.same) ∙ taken.brings (tells ∙ told))
    core)

pub field-last : (r : Result (Unit {0}) MemFault) (t u v : Told) (to of i : ℕ) → IsQuiet t u → OnOk r (IsTaken u v to of i) → IfErr r (IsRefused u v (Field to of i)) → IfBounds t.bounds (HasCore t (Field to of i)) → Accessed {A = Unit {0}} t v (Field to of i) (λ _. Nothing) r
field-last (Ok x) t u v to of i quiet taken err core = field-came t u v to of i quiet taken core
field-last (Err f) t u v to of i quiet taken err core = refused-is t v (Field to of i) (λ _. Nothing) f (after-quiet t u v (Field to of i) f tt refl quiet err)

-- ---- ready after it

field-then : (u v : Told) (to of i : ℕ) → IsReady u → IsTaken u v to of i → (IsTrue u.tells → CanDo u.heap u.regs (Field to of i)) → IsReady v
field-then u v to of i ready taken can =
    let left = left-ready u v.bounds v.cache taken.cache ready in
    subst (λ (z : Told). IsReady z) (sym taken.same) (record {
      whole = λ told. subst (λ (regs : ℕ → Value). IsWhole u.heap regs u.slots) (ap (λ (o : Option Value). option_map_or (λ w. set_register u.regs to w) o u.regs) (taken.brings told)) (whole-after u.heap u.regs u.slots (ready.whole told) (Field to of i) (can told));
      marked = left.marked;
      cached = left.cached;
    })

pub field-ready : (r : Result (Unit {0}) MemFault) (u v : Told) (to of i : ℕ) → IsReady u → OnOk r (IsTaken u v to of i) → (IsTrue u.tells → CanDo u.heap u.regs (Field to of i)) → OnOk r (IsReady v)
field-ready (Ok x) u v to of i ready taken can = field-then u v to of i ready taken can
field-ready (Err f) u v to of i ready taken can = tt

-- ---- a leaf that nothing refers to

pub leaf-keeps : (x y : Core) → IsCore x → IsCore y → IsLeafStep x y → KeepsMarks x y
leaf-keeps x y core now step = record { marks = step.marks; found = live-found x y core now (λ t on. let same = step.used t on in (ap (λ (e : Entry). is_used e.state) same ∙ on, ap (λ (e : Entry). e.name) same)) }

-- what is told is the same while marks stay and the heap does
pub told-still : {H : Type 0} (host : Ghosts H) (now : H) (rest : DiskRest) (x y : Core) (regs : List ℕ) (pins : Pinned) (k : Ledger) → IsRooted x regs pins → IsCore y → IsCached x (found k.rows) k.mark → IsCalm pins x y → KeepsMarks x y
    → (IsTrue (host.tells Work) → held y (disk_of host now rest) ≡ held x (disk_of host now rest)) → told_of host now rest y regs pins k ≡ told_of host now rest x regs pins k
told-still {H} host now rest x y regs pins k root core cached calm keeps same =
    calm-told host now now rest rest x y regs pins k root calm refl same
    ∙ ap (λ (c : Cache). record (told_of host now rest x regs pins k) { cache = c }) (cache-same x y (found k.rows) k.mark k.begun root.core core keeps cached)

-- A lambda of an object in the core is read into a register.
use Rattle.std.proofs.Common.{zero, suc, ◌≡◌, ℕ, pos, negsuc, ◌-◌, ◌^◌, ◌/◌, ◌%◌, ◌<◌, ◌≤◌, Bool, true, false, cond, eqb, List, [], ◌∷◌, get_or, refl, sym, ◌∙◌, ap, subst, arith, Option, Some, None, IsTrue}
use Rattle.std.proofs.lemmas.Grind.{common_steps}
use Rattle.std.specs.Prelude.{nat_lt, nat_le}
use Rattle.std.specs.List.{slice_get}
use Rattle.std.specs.Option.{option_and_then}
use Rattle.long_names.specs.declared.value.Value.{Value}
use Rattle.long_names.specs.declared.value.Value.TheVariants.{Int, Ref}
use Rattle.long_names.specs.declared.object.Object.{Object}
use Rattle.long_names.specs.Words.{IsValue, value_of, small_integer_of}
use Rattle.long_names.specs.Objects.{field_of}
use Rattle.long_names.specs.Counting.{counted}
use Rattle.long_names.specs.Thin.{IsWhole}
use Rattle.long_names.proofs.ThinLemmas.{holds-field}
use Rattle.loom_memory.specs.Below.{IsBelow}
use Rattle.long_names.specs.State.{set_register}
use Rattle.long_names.specs.Access.{Access, Field, brought}
use Rattle.loom_host.specs.declared.outside.Host.{Ghosts}
use Rattle.loom_host.specs.declared.outside.Role.TheVariants.{Work, Transcript}
use Rattle.loom_host.specs.declared.outside.DiskFault.{DiskFault}
use Rattle.object_memory.specs.declared.fault.MemFault.{MemFault}
use Rattle.object_memory.specs.declared.fault.MemFault.TheVariants.{Damaged}
use Rattle.object_memory.specs.Told.{Told, Bounds, IsReady}
use Rattle.object_memory.specs.Contract.{makes, SameBounds, Raised, LeavesCache, no_names}
use Rattle.purger.proofs.MarkLaws.{Marks-same, Kept-refl, live-found}
use Rattle.loom_memory.proofs.RegLaws.{entries-here}
use Rattle.object_memory.specs.Plain.{refused}
use Rattle.object_record.specs.Objects.{value_in, int_in}
use Rattle.object_table.specs.declared.entry.Entry.{Entry}
use Rattle.object_table.specs.Entries.{is_used, place_of}
use Rattle.loom_host.specs.Work.{IsWorkRead}
use Rattle.disk_objects.specs.declared.rest.DiskRest.{DiskRest}
use Rattle.disk_objects.specs.Disk.{disk_room}
use Rattle.purger.specs.Purge.{IsReadFault}
use Rattle.core_view.specs.Core.{Core}
use Rattle.core_view.specs.Words.{meant}
use Rattle.core_view.specs.Steps.{IsAt}
use Rattle.core_view.specs.Held.{Disk, fields_there, object_at, held}
use Rattle.core_view.specs.Kept.{IsCore}
use Rattle.core_view.proofs.Core.{held-at, placed-used}
use Rattle.core_view.proofs.Words.{field-meant}
use Rattle.core_view.proofs.Steps.{outside-used}
use Rattle.leaf_lambda.specs.declared.parts.Parts.{Parts}
use Rattle.leaf_lambda.specs.Parts.{core_of, IsParts, IsLeafStep}
use Rattle.purger.specs.declared.room.Pinned.{Pinned}
use Rattle.loom_memory.specs.declared.memory.LoomMemory.{LoomMemory}
use Rattle.disk_objects.specs.Function.{disk_of}
use Rattle.loom_memory.specs.Memory.{heap_if, loom_told, told_of, IsSound, IsTaken, IsSilent, IsRefused, IsRefusalOf}
use Rattle.loom_memory.specs.Gentle.{IsCalm, IsQuiet}
use Rattle.core_view.specs.Kept.{IsValued}
use Rattle.loom_memory.proofs.RegLaws.{kept-rooted}
use Rattle.loom_memory.proofs.CalmLaws.{quiet-is}
use Rattle.loom_memory.proofs.AccessLaws.{refused-quiet}
use Rattle.loom_memory.proofs.FieldLaws.{fault-cause, read-only}
use Rattle.loom_memory.proofs.LoadLaws.{object-told}

-- ---- long words that are no value

pub no-value : (long : ℕ) → value_of long ≡ None → IsValue (value_in long) → ⊥
no-value long none is = go (eqb (long % 2) 1) refl
  where
    go : (b : Bool) → eqb (long % 2) 1 ≡ b → ⊥
    go false e = even (eqb long 0) refl
      where
        even : (b : Bool) → eqb long 0 ≡ b → ⊥
        even true f =
            let zero_ : long ≡ 0 = grind (arith, common_steps) in
            let bad : IsValue (Ref 0) = subst (λ (n : ℕ). IsValue (value_in n)) zero_ is in
            let above = bad.0.above in
            omega arith
        even false f = let some : value_of long ≡ Some (Ref long) = ap (λ (b : Bool). cond b (small_integer_of (long / 2)) (cond (eqb long 0) None (Some (Ref long)))) e ∙ ap (λ (b : Bool). cond b None (Some (Ref long))) f in let no_ : None ≡ Some (Ref long) = sym none ∙ some in cc
    go true e = low (nat_lt (long / 2) 16384) refl
      where
        it : small_integer_of (long / 2) ≡ None
        it = sym (ap (λ (b : Bool). cond b (small_integer_of (long / 2)) (cond (eqb long 0) None (Some (Ref long)))) e) ∙ none

        number : IsValue (Int (int_in long))
        number = subst (λ (b : Bool). IsValue (cond b (Int (int_in long)) (Ref long))) e is

        low : (b : Bool) → nat_lt (long / 2) 16384 ≡ b → ⊥
        low true f = let some : small_integer_of (long / 2) ≡ Some (Int (pos (long / 2))) = simp f refl in let no_ : None ≡ Some (Int (pos (long / 2))) = sym it ∙ some in cc
        low false f = high (nat_le (2 ^ 31 - 16384) (long / 2)) refl
          where
            high : (b : Bool) → nat_le (2 ^ 31 - 16384) (long / 2) ≡ b → ⊥
            high true g = let some : small_integer_of (long / 2) ≡ Some (Int (negsuc (2 ^ 31 - 1 - long / 2))) = simp (f, g) refl in let no_ : None ≡ Some (Int (negsuc (2 ^ 31 - 1 - long / 2))) = sym it ∙ some in cc
            high false g = sign (nat_lt (long / 2) (2 ^ 30)) refl
              where
                sign : (b : Bool) → nat_lt (long / 2) (2 ^ 30) ≡ b → ⊥
                sign true h = let small : IsValue (Int (pos (long / 2))) = subst (λ (b : Bool). IsValue (Int (cond b (pos (long / 2)) (negsuc (2 ^ 31 - 1 - long / 2))))) h number in let most : 16384 ≤ long / 2 = grind (arith, common_steps) in omega (arith, small, most)
                sign false h = let small : IsValue (Int (negsuc (2 ^ 31 - 1 - long / 2))) = subst (λ (b : Bool). IsValue (Int (cond b (pos (long / 2)) (negsuc (2 ^ 31 - 1 - long / 2))))) h number in let most : long / 2 < 2 ^ 31 - 16384 = grind (arith, common_steps) in omega (arith, small, most)

-- ---- what a lambda means

get-there : (xs : List Value) (i : ℕ) (v d : Value) → slice_get xs i ≡ Some v → get_or xs i d ≡ v
get-there [] i v d e = cc
get-there (x ∷ xs) zero v d e = cc
get-there (x ∷ xs) (suc i) v d e = get-there xs i v d e

-- the field of an object that is a lambda
field-lambda : (c : Core) (disk : Disk) (s p i : ℕ) (v : Value) → IsAt c s p i 0 → slice_get (fields_there (disk (c.entries s).name)) i ≡ Some v → field_of (object_at c disk (c.entries s) p).body i ≡ Some v
field-lambda c disk s p i v at there = field-meant c disk s p i 0 at ∙ ap Some (get-there (fields_there (disk (c.entries s).name)) i v (Int (pos 0)) there)

pub lambda-told : (b : Bool) (c : Core) (disk : Disk) (next s p to of i : ℕ) (v : Value) (regs : ℕ → Value) → IsTrue b → IsCore c → IsAt c s p i 0 → slice_get (fields_there (disk (c.entries s).name)) i ≡ Some v → regs of ≡ meant c.entries [] 0 s → brought (heap_if b (held c disk) next) regs (Field to of i) ≡ Some v
lambda-told false c disk next s p to of i v regs told core at there is = absurd (cc)
lambda-told true c disk next s p to of i v regs told core at there is =
    ap (λ (o : Option Object). option_and_then (λ (o : Object). field_of o.body i) o) (object-told c disk next s p (regs of) core at.place is) ∙ field-lambda c disk s p i v at there

-- and it is a value
pub lambda-value : (c : Core) (disk : Disk) (s p i : ℕ) (v : Value) → IsCore c → IsValued (held c disk) → IsAt c s p i 0 → slice_get (fields_there (disk (c.entries s).name)) i ≡ Some v → IsValue v
lambda-value c disk s p i v core valued at there =
    valued (c.entries s).name i (object_at c disk (c.entries s) p) v (held-at c disk (c.entries s).name s p (core.found s (placed-used (c.entries s).state p at.place)) at.place) (field-lambda c disk s p i v at there)

-- a name is below the next one
pub lambda-below : (b : Bool) (c : Core) (disk : Disk) (next s p i : ℕ) (v : Value) (regs : ℕ → Value) (slots : ℕ → Option ℕ) → IsTrue b → IsCore c → IsWhole (heap_if b (held c disk) next) regs slots → IsAt c s p i 0 → slice_get (fields_there (disk (c.entries s).name)) i ≡ Some v → IsBelow next v
lambda-below false c disk next s p i v regs slots told core whole at there = absurd (cc)
lambda-below true c disk next s p i v regs slots told core whole at there = λ n is.
    whole.below n (whole.closed (c.entries s).name (object_at c disk (c.entries s) p) n
    (held-at c disk (c.entries s).name s p (core.found s (placed-used (c.entries s).state p at.place)) at.place) (holds-field (object_at c disk (c.entries s) p) i n (field-lambda c disk s p i v at there ∙ ap Some is)))

-- ---- steps that are calm

pub leaf-calm : (pins : Pinned) (x y : Core) → IsCore x → IsCore y → IsLeafStep x y → IsCalm pins x y
leaf-calm pins x y core now step = record {
  marks = Marks-same x y (record { marks = step.marks; found = live-found x y core now (λ t on. let same = step.used t on in (ap (λ (e : Entry). is_used e.state) same ∙ on, ap (λ (e : Entry). e.name) same)) });
  here = entries-here x y step.others;
  bound = step.step.bound;
  same_outside = step.same_outside;
  live = λ t some. ap (λ (e : Entry). e.name) (step.used t (outside-used x t core some));
  pinned = λ t p among there. let same = step.step.bodies t p there in record { at = p; place = ap (λ (e : Entry). place_of e.state) same ∙ there; name = ap (λ (e : Entry). e.name) same };
}

pub still-calm : (pins : Pinned) (c : Core) → IsCalm pins c c
still-calm pins c = record { marks = Marks-same c c (Kept-refl c); here = λ h. h; bound = refl; same_outside = λ t. refl; live = λ t some. refl; pinned = λ t p among at. record { at = p; place = at; name = refl } }

-- Work was read, and the core changed calmly or not at all
pub calm-read : {H : Type 0} (host : Ghosts H) (m : LoomMemory H host) (q : Parts) (new : H) (now : DiskRest) → IsSound host m → IsParts q → IsCalm m.pager.pinned (core_of m.pager.levels.parts) (core_of q) → IsWorkRead host m.pager.levels.disk.host.now new → now ≡ m.pager.levels.disk.rest
    → disk_of host new now ≡ disk_of host m.pager.levels.disk.host.now m.pager.levels.disk.rest → (IsTrue (host.tells Work) → held (core_of q) (disk_of host m.pager.levels.disk.host.now m.pager.levels.disk.rest) ≡ held (core_of m.pager.levels.parts) (disk_of host m.pager.levels.disk.host.now m.pager.levels.disk.rest))
    → IsQuiet (told_of host m.pager.levels.disk.host.now m.pager.levels.disk.rest (core_of m.pager.levels.parts) m.regs m.pager.pinned m.ledger) (told_of host new now (core_of q) m.regs m.pager.pinned m.ledger)
calm-read {H} host m q new now sound parts calm read rest same keeps =
    quiet-is host m.pager.levels.disk.host.now new m.pager.levels.disk.rest now (core_of m.pager.levels.parts) (core_of q) m.regs m.pager.pinned m.ledger (kept-rooted m.pager.levels.parts m.regs m.pager.pinned m.ledger m.pager.levels.whole sound.kept) parts.core sound.kept.cached calm
    (read-only host m.pager.levels.disk.host.now new read) (ap disk_room rest)
    (λ told. ap (λ (k : Disk). held (core_of q) k) same ∙ keeps told)

-- ---- refusals after quiet steps

pub later-back : (t u : Told) → IsQuiet t u → u.refusals ≤ counted u.refusals → t.refusals ≤ counted t.refusals
later-back t u quiet later = subst (λ (z : Told). z.refusals ≤ counted z.refusals) quiet.same later

pub damaged-after : (t u w : Told) (a : Access) (place name : ℕ) (r : MemFault) → IsQuiet t u → w ≡ refused u (Damaged place name) → r ≡ Damaged place name → IsReady t → IsSilent a → makes a ≡ 0 → u.refusals ≤ counted u.refusals → (IsTrue t.tells → ⊥) → IsRefused t w a r
damaged-after t u w a place name r quiet is same ready silent none later untold =
    subst (λ (f : MemFault). IsRefused t w a f) (sym same) (refused-quiet t u w a (Damaged place name) quiet is ready silent none (later-back t u quiet later) untold)

pub fault-after : {H : Type 0} (host : Ghosts H) (m : LoomMemory H host) (n : Told) (c : Core) (new : H) (now : DiskRest) (a : Access) (f : DiskFault) (r x : MemFault) → IsQuiet (loom_told host m) (told_of host new now c m.regs m.pager.pinned m.ledger) → n ≡ refused (told_of host new now c m.regs m.pager.pinned m.ledger) r → x ≡ r → IsReady (loom_told host m) → IsSilent a → makes a ≡ 0
    → m.ledger.refusals ≤ counted m.ledger.refusals → IsReadFault (host.tells Work) (host.faults m.pager.levels.disk.host.now Work) (host.faults new Work) f → IsRefusalOf f r → IsRefused (loom_told host m) n a x
unfolding loom_told
fault-after {H} host m n c new now a f r x quiet is same ready silent none later cause why =
    subst (λ (y : MemFault). IsRefused (loom_told host m) n a y) (sym same)
    (refused-quiet (loom_told host m) (told_of host new now c m.regs m.pager.pinned m.ledger) n a r quiet is ready silent none later
    (fault-cause (loom_told host m) n a f r (host.faults m.pager.levels.disk.host.now Work) (host.faults new Work)
    (record { core = m.ledger.core; entries = m.ledger.entries; room = disk_room m.pager.levels.disk.rest; base = m.ledger.base; made = m.ledger.made; work_faults = host.faults m.pager.levels.disk.host.now Work; said_faults = host.faults m.pager.levels.disk.host.now Transcript })
    (record { core = m.ledger.core; entries = m.ledger.entries; room = disk_room now; base = m.ledger.base; made = m.ledger.made; work_faults = host.faults new Work; said_faults = host.faults new Transcript })
    cause why refl (ap (λ (z : Told). z.bounds) is) refl refl))

-- a quiet step, and then a value into a register
pub taken-quiet : (t u v : Told) (to of i : ℕ) (value : Value) (b : Bounds) → u.bounds ≡ Some b → IsQuiet t u → v ≡ record u { regs = set_register u.regs to value } → (IsTrue t.tells → brought t.heap t.regs (Field to of i) ≡ Some value) → IsTaken t v to of i
taken-quiet t u v to of i value b bound quiet is brings =
    let same : v.bounds ≡ u.bounds = ap (λ (z : Told). z.bounds) is in
    let cache : v.cache ≡ u.cache = ap (λ (z : Told). z.cache) is in
    record {
      value = value;
      same = is ∙ ap (λ (z : Told). record z { regs = set_register z.regs to value }) quiet.same ∙ ap (λ x. record t { bounds = x; cache = u.cache; regs = set_register t.regs to value }) (sym same) ∙ ap (λ x. record t { bounds = v.bounds; cache = x; regs = set_register t.regs to value }) (sym cache);
      cache = subst (λ x. LeavesCache no_names None t.cache t.cache x) (sym cache) quiet.cache;
      bounds = subst (λ x. SameBounds t.bounds x) (sym same) quiet.bounds;
      counts = subst (λ x. Raised 0 t.bounds x) (sym same) quiet.counts;
      brings = brings;
    }

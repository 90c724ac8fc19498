-- Objects that change places.
use Rattle.std.proofs.Common.{◌≡◌, ℕ, ◌≤◌, Bool, true, false, ◌&&◌, cond, ◌++◌, Option, Ok, Err, IsTrue, inl, inr, refl, sym, ◌∙◌, ap, ap₂, subst, arith}
use Rattle.std.proofs.lemmas.Grind.{common_steps}
use Rattle.long_names.specs.declared.value.Value.{Value}
use Rattle.long_names.specs.declared.value.Value.TheVariants.{Int, Ref}
use Rattle.long_names.specs.Kept.{any_below}
use Rattle.long_names.specs.State.{IsRef, name_at}
use Rattle.long_names.specs.declared.limits.TheConstants.{SLOTS}
use Rattle.long_names.specs.Access.{Swap, IsUnpinned}
use Rattle.long_names.specs.Need.{is_pinned}
use Rattle.long_names.proofs.KeptLaws.{any_below-from}
use Rattle.object_memory.specs.declared.fault.MemFault.{MemFault}
use Rattle.object_memory.specs.declared.fault.MemFault.TheVariants.{CoreFull, WorkFull, WorkFault, Damaged, NamesSpent, Said, Memory}
use Rattle.object_memory.specs.Told.{Told, IsReady, has_slot}
use Rattle.object_memory.specs.Contract.{Does, MayDo, Called, HasCause, IsNeedOf}
use Rattle.object_memory.proofs.Callers.{may_swap}
use Rattle.object_memory.proofs.LaterLaws.{IsLater-refl}
use Rattle.object_memory.proofs.LeftLaws.{heap_over}
use Rattle.blue_model.specs.declared.cause.Cause.TheVariants.{Shape}
use Rattle.blue_model.specs.declared.cpu.Cpu.{Cpu}
use Rattle.blue_model.specs.Machine.{Machine, Outcome, rows_at, log_of, is_unpinned, is_free, swapped, swap}
use Rattle.blue_model.proofs.LawSteps.{next_swapped}
use Rattle.contexts.specs.declared.stop.Stop.TheVariants.{Stuck, Mem}
use Rattle.contexts.specs.Serves.{Stands, IsLogged, Gives, Allows, Serves}
use Rattle.contexts.proofs.CacheLaws.{sound_follows}
use Rattle.contexts.proofs.ServesLaws.{fits_later, IsLogged-before, IsLogged-after}
use Rattle.contexts.proofs.ReadLaws.{logged_here, names_object, refused_reason, refused_silent}
use Rattle.contexts.proofs.StoreLaws.{held_there, thinned_here}

-- ---- what the test says

-- a memory's test of a name, in the words of the model
pub unpinned_by : (slots : ℕ → Option ℕ) (v : Value) (b : Bool) → IsRef v → b ≡ has_slot slots (name_at v) → is_unpinned slots v ≡ cond b false true
unpinned_by slots (Int z) b named e = absurd named
unpinned_by slots (Ref n) b named e = ap (λ x. cond x false true) (sym e)

-- a number is none
pub unpinned_number : (slots : ℕ → Option ℕ) (v : Value) → (IsRef v → ⊥) → is_unpinned slots v ≡ false
unpinned_number slots (Int z) unnamed = refl
unpinned_number slots (Ref n) unnamed = absurd (unnamed tt)

-- what passed it is a name that no slot has
pub passed_name : (slots : ℕ → Option ℕ) (v : Value) → is_unpinned slots v ≡ true → IsRef v
passed_name slots (Int z) e = let no : false ≡ true = e in absurd (cc)
passed_name slots (Ref n) e = tt

pub passed_slots : (slots : ℕ → Option ℕ) (v : Value) → is_unpinned slots v ≡ true → IsUnpinned slots (name_at v)
passed_slots slots (Int z) e = let no : false ≡ true = e in absurd (cc)
passed_slots slots (Ref n) e = λ i low is.
    let here : is_pinned n (slots i) ≡ true = ap (λ x. is_pinned n x) is ∙ grind (arith, common_steps) in
    let found : any_below SLOTS (λ i. is_pinned n (slots i)) ≡ true = any_below-from SLOTS (λ i. is_pinned n (slots i)) i low here in
    let no : false ≡ true = sym (ap (λ x. cond x false true) found) ∙ e in
    absurd (cc)

-- two tests that both say yes, and two of which one says no
pub both_say : (x y : Bool) → x ≡ true → y ≡ true → (x && y) ≡ true
both_say x y e f = ap₂ (λ a b. a && b) e f

pub first_says : (x y : Bool) → x ≡ false → (x && y) ≡ false
first_says x y e = ap (λ b. b && y) e

pub second_says : (x y : Bool) → y ≡ false → (x && y) ≡ false
second_says true y e = e
second_says false y e = refl

pub may_swap_unpinned : (t : Told) (a b : ℕ) → IsReady t → is_unpinned t.slots (t.regs a) ≡ true → is_unpinned t.slots (t.regs b) ≡ true → MayDo t (Swap a b)
may_swap_unpinned t a b ready e f = may_swap t a b ready (passed_name t.slots (t.regs a) e) (passed_name t.slots (t.regs b) f) (passed_slots t.slots (t.regs a) e) (passed_slots t.slots (t.regs b) f)

-- the model's test says the same
free_here : (t : Told) (cpu : Cpu) (m : Machine) → IsReady t → IsTrue t.tells → Stands t cpu m → (r : ℕ) → is_free m (t.regs r) ≡ is_unpinned t.slots (t.regs r)
free_here t cpu m ready told st r = ap₂ (λ b slots. b && is_unpinned slots (t.regs r)) (held_there m.heap t.heap t.regs t.slots (thinned_here t cpu m ready told st) r) st.slots

both_free : (t : Told) (cpu : Cpu) (m : Machine) (a b : ℕ) → IsReady t → IsTrue t.tells → Stands t cpu m → (is_free m (t.regs a) && is_free m (t.regs b)) ≡ (is_unpinned t.slots (t.regs a) && is_unpinned t.slots (t.regs b))
both_free t cpu m a b ready told st = ap₂ (λ x y. x && y) (free_here t cpu m ready told st a) (free_here t cpu m ready told st b)

-- ---- the swap

-- one that was answered,
pub swap_serves : {Z : Type 0} {z : Z} {old new : Told} {cpu : Cpu} (a b : ℕ) → IsReady old → IsReady new → is_unpinned old.slots (old.regs a) ≡ true → is_unpinned old.slots (old.regs b) ≡ true → Called old new (Does (Swap a b)) (Ok z) → Serves old cpu new cpu (swap (old.regs a) (old.regs b)) (Ok tt)
unfolding swap
swap_serves {Z} {z} {old} {new} {cpu} a b before ready e f x = record {
  later = x.later;
  ready = ready;
  reason = tt;
  vault = λ may. may;
  counts = (0, record { counts = x.ok.counts; next = λ told. (let same = (x.ok.heap told).next ∙ next_swapped old.heap (old.regs a) (old.regs b) in omega arith) });
  silent = x.ok.transcript;
  model = λ told m st.
      subst (λ y. Gives new cpu (Ok tt) (swapped m (old.regs a) (old.regs b) y)) (sym (both_free old cpu m a b before told st ∙ ap₂ (λ y z. y && z) e f)) (
        refl,
        record {
          heap = heap_over m.heap old new (Swap a b) st.heap before x.ok told;
          regs = λ r low. st.regs r low ∙ sym (ap (λ (g : ℕ → Value). g r) x.ok.regs);
          slots = st.slots ∙ sym x.ok.slots;
          numbers = st.numbers;
          fits = fits_later old.bounds new.bounds m.largest x.later.bounds st.fits;
          transcript = λ speaks. (let spoke = sym x.later.speaks ∙ speaks in x.ok.transcript spoke ∙ st.transcript spoke);
          cache = sound_follows old new (Does (Swap a b)) before ready x.ok told (x.later.tells ∙ told) st.cache;
        },
      );
}

log_swapped : (m : Machine) (v w : Value) (b : Bool) → log_of (swapped m v w b) ≡ rows_at m v ++ rows_at m w
log_swapped m v w true = refl
log_swapped m v w false = refl

-- a fault of it, where the log has both rows
allows_swap : {A : Type 0} (old new : Told) (a b : ℕ) (f : MemFault) (o : Outcome A) (m : Machine) (cpu : Cpu) → IsReady old → IsTrue old.tells → Stands old cpu m → IsRef (old.regs a) → IsRef (old.regs b) → log_of o ≡ rows_at m (old.regs a) ++ rows_at m (old.regs b) → HasCause old new (Does (Swap a b)) f → Allows new f o
allows_swap old new a b (CoreFull need) o m cpu ready told st first second log cause = subst (IsLogged need) (sym log) (go (cause.1 told))
  where
    go : IsNeedOf old (Swap a b) need → IsLogged need (rows_at m (old.regs a) ++ rows_at m (old.regs b))
    go (inl e) = IsLogged-before need (rows_at m (old.regs a)) (rows_at m (old.regs b)) (subst (λ n. IsLogged n (rows_at m (old.regs a))) (sym e) (logged_here old cpu m (old.regs a) (ready.whole told) (names_object old a ready told first) st))
    go (inr e) = IsLogged-after need (rows_at m (old.regs a)) (rows_at m (old.regs b)) (subst (λ n. IsLogged n (rows_at m (old.regs b))) (sym e) (logged_here old cpu m (old.regs b) (ready.whole told) (names_object old b ready told second) st))
allows_swap old new a b (WorkFull live room) o m cpu ready told st first second log cause = let low : 1 ≤ 0 = cause.2 in absurd (omega arith)
allows_swap old new a b (WorkFault count) o m cpu ready told st first second log cause = tt
allows_swap old new a b (Damaged place name) o m cpu ready told st first second log cause = cause told
allows_swap old new a b NamesSpent o m cpu ready told st first second log cause = let low : 1 ≤ 0 = cause.0 in absurd (omega arith)
allows_swap old new a b (Said count) o m cpu ready told st first second log cause = cause.2
allows_swap old new a b Memory o m cpu ready told st first second log cause = tt

-- one that was refused,
pub swap_refused : {Z : Type 0} {old new : Told} {cpu : Cpu} {f : MemFault} (a b : ℕ) → IsReady old → is_unpinned old.slots (old.regs a) ≡ true → is_unpinned old.slots (old.regs b) ≡ true → Called {A = Z} old new (Does (Swap a b)) (Err f) → Serves old cpu new cpu (swap (old.regs a) (old.regs b)) (Err (Mem f))
unfolding swap
swap_refused {Z} {old} {new} {cpu} {f} a b ready first second x = record {
  later = x.later;
  ready = tt;
  reason = refused_reason old new (Swap a b) f ready x.later x.err;
  counts = tt;
  vault = tt;
  silent = refused_silent old new (Swap a b) f (λ says. says) x.err.transcript;
  model = λ told m st. allows_swap old new a b f (swapped m (old.regs a) (old.regs b) (is_free m (old.regs a) && is_free m (old.regs b))) m cpu ready told st (passed_name old.slots (old.regs a) first) (passed_name old.slots (old.regs b) second) (log_swapped m (old.regs a) (old.regs b) _) x.err.cause;
}

-- and one that isn't made, since the test says no
pub swap_stuck : {t : Told} {cpu : Cpu} (a b : ℕ) → IsReady t → (is_unpinned t.slots (t.regs a) && is_unpinned t.slots (t.regs b)) ≡ false → Serves t cpu t cpu (swap (t.regs a) (t.regs b)) (Err (Stuck Shape))
unfolding swap
swap_stuck {t} {cpu} a b ready says = record {
  later = IsLater-refl t;
  ready = tt;
  reason = tt;
  counts = tt;
  vault = tt;
  silent = λ speaks. refl;
  model = λ told m st. subst (λ y. Gives {A = Unit {0}} t cpu (Err (Stuck Shape)) (swapped m (t.regs a) (t.regs b) y)) (sym (both_free t cpu m a b ready told st ∙ says)) refl;
}

-- Reads of one object: a part of it that is there, one that isn't, and an access to it that was refused.
use Rattle.std.proofs.Common.{◌≡◌, ℕ, ◌≤◌, nat_le, true, false, ◌&&◌, ◌||◌, eqb, List, [], ◌∷◌, ◌++◌, Option, Some, None, Result, Ok, Err, IsTrue, inl, refl, sym, ◌∙◌, ap, ap₂, subst, arith}
use borrow.Author.Tests.{le-leb}
use Rattle.std.specs.Option.{option_and_then, option_map_or}
use Rattle.std.specs.List.{list_all}
use Rattle.std.specs.Result.{IsErrAnd}
use Rattle.std.proofs.lemmas.Result.{err_from_is_err_and}
use Rattle.long_names.specs.declared.value.Value.{Value}
use Rattle.long_names.specs.declared.value.Value.TheVariants.{Int, Ref}
use Rattle.long_names.specs.declared.object.Object.{Object}
use Rattle.long_names.specs.Names.{is_known}
use Rattle.long_names.specs.Objects.{field_of}
use Rattle.long_names.specs.Heap.{Heap, Has}
use Rattle.long_names.specs.State.{IsRef, name_at, object_at, part_at}
use Rattle.long_names.specs.Access.{Access, Known, KindOf, Field, Make, Say, target_of, made_by, with_made, object_of, Swap}
use Rattle.long_names.specs.Need.{Row}
use Rattle.long_names.specs.Thin.{IsThinner, IsWhole}
use Rattle.long_names.proofs.ThinLemmas.{has, same-there}
use Rattle.long_names.proofs.AccessLaws.{words_of_row-same, entries_of_row-same}
use Rattle.object_memory.specs.declared.fault.Need.{Need}
use Rattle.object_memory.specs.declared.fault.MemFault.{MemFault}
use Rattle.object_memory.specs.declared.fault.MemFault.TheVariants.{CoreFull, WorkFull, WorkFault, Damaged, NamesSpent, Said, Memory}
use Rattle.object_memory.specs.Told.{Told, IsReady, need_of}
use Rattle.object_memory.specs.Contract.{Does, IsLater, IsMaking, IsSaying, HasCause, SaysRefused, Refuses, Called, IsNeedOf, need_of_access}
use Rattle.object_memory.specs.Shape.{is_among, Looks, ReadsObject}
use Rattle.object_memory.proofs.LaterLaws.{IsLater-refl}
use Rattle.object_memory.proofs.LooksLaws.{neither, Looks-trans, Looks-weaker, Looks-access, part_looked}
use Rattle.blue_model.specs.declared.cause.Cause.{Cause}
use Rattle.blue_model.specs.declared.cause.Cause.TheVariants.{Shape}
use Rattle.blue_model.specs.declared.cpu.Cpu.{Cpu}
use Rattle.blue_model.specs.Machine.{Machine, LogRow, Outcome, Go, Halt, Rule, row_of, rows_at, looked, log_of, then_do, ◌>>=◌, done, halt, given, look, part, known}
use Rattle.long_names.specs.declared.limits.TheConstants.{MACHINE_REGISTERS}
use Rattle.contexts.specs.declared.stop.Stop.{Stop}
use Rattle.contexts.specs.declared.stop.Stop.TheVariants.{Stuck, Mem}
use Rattle.contexts.proofs.RoomLaws.{kept_left, lives_left}
use Rattle.contexts.specs.Serves.{Stands, HasNeed, IsLogged, Allows, Gives, GivesAs, IsCaused, IsRefused, with_before, ServesAs, Serves, with_value}
use Rattle.contexts.proofs.CacheLaws.{sound_looked}
use Rattle.contexts.proofs.ServesLaws.{IsCounted-refl, Gives-after, serves_stop}
use Rattle.contexts.proofs.Steps.{IsQuiet, quiet_looked, read_first, read_last, stuck_last}

-- ---- what a part comes to in one machine

-- there is a part of the object,
part_goes : {A : Type 0} (c : Cause) (f : Object → Option A) (m : Machine) (v : Value) (o : Object) (a : A) → object_at m.heap v ≡ Some o → f o ≡ Some a → part c f v m ≡ Go a m (rows_at m v ++ [])
unfolding part look given done ◌>>=◌
part_goes {A} c f m v o a at is = ap (λ x. then_do (looked m v x) (λ o. given c (f o))) at ∙ ap (λ x. then_do (Go o m (rows_at m v)) (λ o. given c x)) is

-- there is none of it,
part_halts : {A : Type 0} (c : Cause) (f : Object → Option A) (m : Machine) (v : Value) (o : Object) → object_at m.heap v ≡ Some o → f o ≡ None → part c f v m ≡ Halt c (rows_at m v ++ [])
unfolding part look given halt ◌>>=◌
part_halts {A} c f m v o at is = ap (λ x. then_do (looked m v x) (λ o. given c (f o))) at ∙ ap (λ x. then_do (Go o m (rows_at m v)) (λ o. given c x)) is

-- and there is no object.
part_absent : {A : Type 0} (c : Cause) (f : Object → Option A) (m : Machine) (v : Value) → object_at m.heap v ≡ None → part c f v m ≡ Halt Shape (rows_at m v)
unfolding part look ◌>>=◌
part_absent {A} c f m v at = ap (λ x. then_do (looked m v x) (λ o. given c (f o))) at

-- an object that a memory has is in each of its machines
in_machine : (t : Told) (cpu : Cpu) (m : Machine) (v : Value) (o : Object) → Stands t cpu m → object_at t.heap v ≡ Some o → object_at m.heap v ≡ Some o
in_machine t cpu m (Int z) o st at = at
in_machine t cpu m (Ref n) o st at = st.heap.same n o at

-- the object that has a part
with_part : {A : Type 0} (x : Option Object) (f : Object → Option A) (a : A) → option_and_then f x ≡ Some a → (o : Object) × (x ≡ Some o) × (f o ≡ Some a)
with_part {A} None f a e = let no : ◌≡◌ {A = Option A} None (Some a) = e in absurd (cc)
with_part {A} (Some o) f a e = (o, refl, e)

-- a part that a memory's object has, its machines' have, too
goes_here : {A : Type 0} (c : Cause) (f : Object → Option A) (t : Told) (cpu : Cpu) (m : Machine) (v : Value) (a : A) → Stands t cpu m → option_and_then f (object_at t.heap v) ≡ Some a → part c f v m ≡ Go a m (rows_at m v ++ [])
goes_here {A} c f t cpu m v a st e = (let it = with_part (object_at t.heap v) f a e in part_goes c f m v it.0 a (in_machine t cpu m v it.0 st it.1) it.2)

-- and what a memory's object lacks, or a number, a machine is stuck at
stuck_here : {A : Type 0} (f : Object → Option A) (t : Told) (cpu : Cpu) (m : Machine) (v : Value) → ((n : ℕ) → v ≡ Ref n → Has t.heap n) → Stands t cpu m → option_and_then f (object_at t.heap v) ≡ None → Gives {A = A} t cpu (Err (Stuck Shape)) (part Shape f v m)
stuck_here {A} f t cpu m (Int z) rooted st e = subst (Gives {A = A} t cpu (Err (Stuck Shape))) (sym (part_absent Shape f m (Int z) refl)) refl
stuck_here {A} f t cpu m (Ref n) rooted st e =
    let it = has t.heap n (rooted n refl) in
    let none : f it.0 ≡ None = ap (option_and_then f) (sym it.1) ∙ e in
    subst (Gives {A = A} t cpu (Err (Stuck Shape))) (sym (part_halts Shape f m (Ref n) it.0 (st.heap.same n it.0 it.1) none)) refl

-- ---- a part, where the memory stands still

pub part_serves : {A : Type 0} {t : Told} {cpu : Cpu} (c : Cause) (f : Object → Option A) (r : ℕ) (a : A) → IsReady t → (IsTrue t.tells → option_and_then f (object_at t.heap (t.regs r)) ≡ Some a) → Serves t cpu t cpu (part c f (t.regs r)) (Ok a)
part_serves {A} {t} {cpu} c f r a ready e = record {
  later = IsLater-refl t;
  ready = ready;
  reason = tt;
  counts = (0, IsCounted-refl t);
  vault = λ may. may;
  silent = λ speaks. refl;
  model = λ told m st. subst (Gives t cpu (Ok a)) (sym (goes_here c f t cpu m (t.regs r) a st (e told))) (refl, st);
}

-- no such part: a number in the register is a break of the shape, too
pub part_stuck : {A : Type 0} {t : Told} {cpu : Cpu} (f : Object → Option A) (r : ℕ) → IsReady t → (IsTrue t.tells → option_and_then f (object_at t.heap (t.regs r)) ≡ None) → Serves t cpu t cpu (part Shape f (t.regs r)) (Err (Stuck Shape))
part_stuck {A} {t} {cpu} f r ready e = record {
  later = IsLater-refl t;
  ready = tt;
  reason = tt;
  counts = tt;
  vault = tt;
  silent = λ speaks. refl;
  model = λ told m st. stuck_here f t cpu m (t.regs r) ((ready.whole told).rooted r) st (e told);
}

-- a part that is there, whose value the rest of the rule doesn't use
pub part_first : {A B : Type 0} {w : Option B} {t new : Told} {cpu now : Cpu} {rest : Rule B} {answer : Result B Stop} (c : Cause) (f : Object → Option A) (r : ℕ) → (IsTrue t.tells → (a : A) × (option_and_then f (object_at t.heap (t.regs r)) ≡ Some a)) → ServesAs w t cpu new now rest answer → ServesAs w t cpu new now (part c f (t.regs r) >>= (λ _. rest)) answer
unfolding ◌>>=◌
part_first {A} {B} {w} {t} {new} {cpu} {now} {rest} {answer} c f r there s = record {
  later = s.later;
  ready = s.ready;
  reason = s.reason;
  counts = s.counts;
  vault = s.vault;
  silent = s.silent;
  model = λ told m st.
      let it = there told in
      let P : Outcome A → Type 0 = λ o. GivesAs (with_before w t.transcript) new now answer (then_do o (λ _. rest)) in
      subst P (sym (goes_here c f t cpu m (t.regs r) it.0 st it.1)) (Gives-after (with_before w t.transcript) new now (rows_at m (t.regs r) ++ []) (rest m) answer (s.model told m st));
}

-- a part of a part is taken out in two steps
part_by : {A B : Type 0} (c : Cause) (f : Object → Option A) (g : A → Option B) (v : Value) (m : Machine) → part c (λ o. option_and_then g (f o)) v m ≡ (part c f v >>= (λ x. given c (g x))) m
unfolding part look given halt done ◌>>=◌
part_by {A} {B} c f g v m = go v (object_at m.heap v)
  where
    taken : (rows : List LogRow) (o : Object) (x : Option A) → rows ++ [] ≡ rows → then_do (Go o m rows) (λ _. given c (option_and_then g x)) ≡ then_do (then_do (Go o m rows) (λ _. given c x)) (λ y. given c (g y))
    taken rows o None e = refl
    taken rows o (Some a) e = ap (λ (q : List LogRow). then_do (Go o m q) (λ _. given c (g a))) (sym e)

    rows_end : (v : Value) → rows_at m v ++ [] ≡ rows_at m v
    rows_end (Int z) = refl
    rows_end (Ref n) = refl

    go : (v : Value) (x : Option Object) → then_do (looked m v x) (λ o. given c (option_and_then g (f o))) ≡ then_do (then_do (looked m v x) (λ o. given c (f o))) (λ y. given c (g y))
    go v None = refl
    go v (Some o) = taken (rows_at m v) o (f o) (rows_end v)

pub part_steps : {A B : Type 0} {w : Option B} {old new : Told} {cpu now : Cpu} {answer : Result B Stop} (c : Cause) (f : Object → Option A) (g : A → Option B) (v : Value) → ServesAs w old cpu new now (part c f v >>= (λ x. given c (g x))) answer → ServesAs w old cpu new now (part c (λ o. option_and_then g (f o)) v) answer
part_steps {A} {B} {w} {old} {new} {cpu} {now} {answer} c f g v s = record {
  later = s.later;
  ready = s.ready;
  reason = s.reason;
  counts = s.counts;
  vault = s.vault;
  silent = s.silent;
  model = λ told m st. subst (GivesAs (with_before w old.transcript) new now answer) (sym (part_by c f g v m)) (s.model told m st);
}

-- ---- a part, with reads around it

-- a register that is none of the machine's
pub scratch : (r : ℕ) → MACHINE_REGISTERS ≤ r → list_all (λ k. nat_le MACHINE_REGISTERS k) (r ∷ []) ≡ true
scratch r above = ap (λ b. b && true) (le-leb MACHINE_REGISTERS r above)

pub quiet : (xs : List ℕ) (old new : Told) → list_all (λ r. nat_le MACHINE_REGISTERS r) xs ≡ true → IsReady old → IsReady new → Looks xs old new → IsQuiet old new
quiet xs old new above before ready x = quiet_looked xs old new above ready x (λ told s. sound_looked xs old new before ready x told (x.later.tells ∙ told) s)

pub read_serves : {A : Type 0} {old new : Told} {cpu : Cpu} (xs : List ℕ) (c : Cause) (f : Object → Option A) (r : ℕ) (a : A) → list_all (λ k. nat_le MACHINE_REGISTERS k) xs ≡ true → IsReady old → IsReady new → Looks xs old new → (IsTrue old.tells → option_and_then f (object_at old.heap (old.regs r)) ≡ Some a) → Serves old cpu new cpu (part c f (old.regs r)) (Ok a)
read_serves {A} {old} {new} {cpu} xs c f r a above before ready x e = read_last (part_serves c f r a before e) (quiet xs old new above before ready x)

pub read_stuck : {A : Type 0} {old new : Told} {cpu : Cpu} (xs : List ℕ) (f : Object → Option A) (r : ℕ) → list_all (λ k. nat_le MACHINE_REGISTERS k) xs ≡ true → IsReady old → IsReady new → Looks xs old new → (IsTrue old.tells → option_and_then f (object_at old.heap (old.regs r)) ≡ None) → Serves old cpu new cpu (part Shape f (old.regs r)) (Err (Stuck Shape))
read_stuck {A} {old} {new} {cpu} xs f r above before ready x e = stuck_last (part_stuck f r before e) (quiet xs old new above before ready x)

-- ---- the row of an access

-- a row of one object has one need in a heap and in a thinner one
pub need_same : (h s : Heap) (slots : ℕ → Option ℕ) (n : ℕ) → IsThinner h s → Has s n → ((i k : ℕ) → slots i ≡ Some k → Has s k) → need_of h (record { object = n; slots = slots }) ≡ need_of s (record { object = n; slots = slots })
need_same h s slots n thin there pinned =
    let row : Row = record { object = n; slots = slots } in
    let pins : (i k : ℕ) → slots i ≡ Some k → h.at k ≡ s.at k = λ i k e. same-there h s k thin (pinned i k e) in
    ap₂ (λ (w e : ℕ). record { object = n; words = w; entries = e }) (words_of_row-same h s row (same-there h s n thin there) pins) (entries_of_row-same h s row pins)

-- the register whose object is that of its row, of an access that makes and says nothing
abbrev pub reaches : Access → Option ℕ
reaches (Say of) = None
reaches a = target_of a

reached_object : (h : Heap) (regs : ℕ → Value) (a : Access) (of : ℕ) → reaches a ≡ Some of → object_of h regs a ≡ name_at (regs of)
reached_object h regs (Known to name) of e = let no : ◌≡◌ {A = Option ℕ} None (Some of) = e in absurd (cc)
reached_object h regs (Say r) of e = let no : ◌≡◌ {A = Option ℕ} None (Some of) = e in absurd (cc)
reached_object h regs (Swap p q) of e = let no : ◌≡◌ {A = Option ℕ} None (Some of) = e in absurd (cc)
reached_object h regs _ of e = ap (λ (x : Option ℕ). option_map_or (λ r. name_at (regs r)) x h.next) e

reached_made : (regs : ℕ → Value) (a : Access) (of : ℕ) → reaches a ≡ Some of → made_by regs a ≡ None
reached_made regs (Make to class what) of e = let no : ◌≡◌ {A = Option ℕ} None (Some of) = e in absurd (cc)
reached_made regs _ of e = refl

pub reached_need : (t : Told) (a : Access) (of : ℕ) → reaches a ≡ Some of → need_of_access t a ≡ need_of t.heap (record { object = name_at (t.regs of); slots = t.slots })
reached_need t a of e = ap (λ (x : Option Object). need_of (with_made t.heap x) (record { object = object_of t.heap t.regs a; slots = t.slots })) (reached_made t.regs a of e) ∙ ap (λ n. need_of t.heap (record { object = n; slots = t.slots })) (reached_object t.heap t.regs a of e)

-- it has one row
abbrev pub HasOneRow : Access → Type 0
HasOneRow (Swap p q) = ⊥
HasOneRow _ = Unit {0}

one_need : (t : Told) (a : Access) (need : Need) → HasOneRow a → IsNeedOf t a need → need ≡ need_of_access t a
one_need t (Swap p q) need one is = absurd one
one_need t _ need one is = is

pub reached_one : (a : Access) (of : ℕ) → reaches a ≡ Some of → HasOneRow a
reached_one (Swap p q) of e = let no : ◌≡◌ {A = Option ℕ} None (Some of) = e in absurd (cc)
reached_one _ of e = tt

pub reached_making : (a : Access) (of : ℕ) → reaches a ≡ Some of → IsMaking (Does a) → ⊥
reached_making (Make to class what) of e making = let no : ◌≡◌ {A = Option ℕ} None (Some of) = e in absurd (cc)
reached_making _ of e making = let low : 1 ≤ 0 = making in absurd (omega arith)

pub reached_saying : (a : Access) (of : ℕ) → reaches a ≡ Some of → IsSaying (Does a) → ⊥
reached_saying (Say r) of e saying = let no : ◌≡◌ {A = Option ℕ} None (Some of) = e in absurd (cc)
reached_saying _ of e saying = saying

-- ---- refusals

-- why an access was refused, as far as no row is named
pub refused_caused : (old new : Told) (a : Access) (f : MemFault) → IsReady old → IsLater old new → Refuses old new (Does a) f → IsCaused old new f
refused_caused old new a (CoreFull need) ready later x = x.cause.0
refused_caused old new a (WorkFull live room) ready later x = (
  lives_left old new old.bounds new.bounds live room x.counts (λ now. kept_left old new ready x.left later (sym later.tells ∙ now)) (λ now. sym later.tells ∙ now) x.cause.0 x.cause.1,
  (0, record { counts = x.counts; next = λ told. (let same = (x.left.heap told).next in omega arith) }),
)
refused_caused old new a (WorkFault count) ready later x = x.cause
refused_caused old new a (Damaged place name) ready later x = x.cause
refused_caused old new a NamesSpent ready later x = tt
refused_caused old new a (Said count) ready later x = (x.cause.0, x.cause.1)
refused_caused old new a Memory ready later x = x.cause.0

pub refused_reason : (old new : Told) (a : Access) (f : MemFault) → IsReady old → IsLater old new → Refuses old new (Does a) f → IsRefused old new f
refused_reason old new a f ready later x = record { rose = x.rose; last = x.last; cause = refused_caused old new a f ready later x }

-- it said nothing
pub refused_silent : (old new : Told) (a : Access) (f : MemFault) → (IsSaying (Does a) → ⊥) → SaysRefused (Does a) old new f → IsTrue old.speaks → new.transcript ≡ old.transcript
refused_silent old new (Say of) f silent says speaks = absurd (silent tt)
refused_silent old new _ f silent says speaks = says speaks

-- An outcome that has the row of an access which makes nothing allows its faults.
pub allows_row : {A : Type 0} (old new : Told) (a : Access) (f : MemFault) (o : Outcome A) → IsTrue old.tells → HasOneRow a → (IsMaking (Does a) → ⊥) → (IsSaying (Does a) → ⊥) → IsLogged (need_of_access old a) (log_of o) → HasCause old new (Does a) f → Allows new f o
allows_row old new a (CoreFull need) o told one makes says row cause = subst (λ n. IsLogged n (log_of o)) (sym (one_need old a need one (cause.1 told))) row
allows_row old new a (WorkFull live room) o told one makes says row cause = absurd (makes cause.2)
allows_row old new a (WorkFault count) o told one makes says row cause = tt
allows_row old new a (Damaged place name) o told one makes says row cause = cause told
allows_row old new a NamesSpent o told one makes says row cause = absurd (makes cause.0)
allows_row old new a (Said count) o told one makes says row cause = absurd (says cause.2)
allows_row old new a Memory o told one makes says row cause = tt

log_looked : (m : Machine) (v : Value) (x : Option Object) → log_of (looked m v x) ≡ rows_at m v
log_looked m v None = refl
log_looked m v (Some o) = refl

row_has : (need : Need) (m : Machine) (n : ℕ) → need ≡ need_of m.heap (record { object = n; slots = m.slots }) → HasNeed need (row_of m n)
row_has need m n e = record { object = sym (ap (λ (x : Need). x.object) e); words = sym (ap (λ (x : Need). x.words) e); entries = sym (ap (λ (x : Need). x.entries) e) }

-- the value names an object
abbrev pub NamesObject : Heap → Value → Type 0
NamesObject h v = (n : ℕ) × (v ≡ Ref n) × Has h n

-- a row of the object that a value names is in the log of a rule that looks at it
pub logged_here : (t : Told) (cpu : Cpu) (m : Machine) (v : Value) → IsWhole t.heap t.regs t.slots → NamesObject t.heap v → Stands t cpu m → IsLogged (need_of t.heap (record { object = name_at v; slots = t.slots })) (rows_at m v)
logged_here t cpu m (Int z) whole there st = let no = there.1 in absurd (cc)
logged_here t cpu m (Ref n) whole there st =
    let same : there.0 ≡ n = cc in
    let need = need_same m.heap t.heap t.slots n st.heap (subst (Has t.heap) same there.2) whole.pinned in
    inl (row_has (need_of t.heap (record { object = n; slots = t.slots })) m n (sym need ∙ ap (λ (slots : ℕ → Option ℕ). need_of m.heap (record { object = n; slots = slots })) (sym st.slots)))

-- An access to the object that a value names, which makes and says nothing, was refused. The rule has a row of that object.
pub row_refused : {A B : Type 0} {old new : Told} {cpu : Cpu} {rule : Rule B} {f : MemFault} (v : Value) (a : Access) → ((m : Machine) (need : Need) → IsLogged need (rows_at m v) → IsLogged need (log_of (rule m))) → HasOneRow a → (IsMaking (Does a) → ⊥) → (IsSaying (Does a) → ⊥) → need_of_access old a ≡ need_of old.heap (record { object = name_at v; slots = old.slots }) → IsReady old → (IsTrue old.tells → NamesObject old.heap v) → Called {A = A} old new (Does a) (Err f) → Serves {A = B} old cpu new cpu rule (Err (Mem f))
row_refused {A} {B} {old} {new} {cpu} {rule} {f} v a rows one makes says need ready there x = record {
  later = x.later;
  ready = tt;
  reason = refused_reason old new a f ready x.later x.err;
  counts = tt;
  vault = tt;
  silent = refused_silent old new a f says x.err.transcript;
  model = λ told m st.
      let row = subst (λ n. IsLogged n (rows_at m v)) (sym need) (logged_here old cpu m v (ready.whole told) (there told) st) in
      allows_row old new a f (rule m) told one makes says (rows m (need_of_access old a) row) x.err.cause;
}

-- The rule looks at it.
pub look_refused : {A B : Type 0} {old new : Told} {cpu : Cpu} {f : MemFault} (v : Value) (a : Access) (k : Object → Rule B) → HasOneRow a → (IsMaking (Does a) → ⊥) → (IsSaying (Does a) → ⊥) → need_of_access old a ≡ need_of old.heap (record { object = name_at v; slots = old.slots }) → IsReady old → (IsTrue old.tells → NamesObject old.heap v) → Called {A = A} old new (Does a) (Err f) → Serves {A = B} old cpu new cpu (look v >>= k) (Err (Mem f))
unfolding look
look_refused {A} {B} {old} {new} {cpu} {f} v a k one makes says need ready there x = serves_stop k (row_refused v a (λ m n row. subst (IsLogged n) (sym (log_looked m v (object_at m.heap v))) row) one makes says need ready there x)

-- a register that holds a name names an object
pub names_object : (t : Told) (r : ℕ) → IsReady t → IsTrue t.tells → IsRef (t.regs r) → NamesObject t.heap (t.regs r)
names_object t r ready told ref = go (t.regs r) refl ref
  where
    go : (v : Value) → t.regs r ≡ v → IsRef v → NamesObject t.heap v
    go (Int z) e ref = absurd ref
    go (Ref n) e ref = (n, refl, (ready.whole told).rooted r n e)

-- An access to the object of a register was refused, of which the rule has a row.
pub object_refused : {A B : Type 0} {old new : Told} {cpu : Cpu} {rule : Rule B} {f : MemFault} (of : ℕ) (a : Access) → reaches a ≡ Some of → ((m : Machine) (need : Need) → IsLogged need (rows_at m (old.regs of)) → IsLogged need (log_of (rule m))) → IsReady old → (IsTrue old.tells → IsRef (old.regs of)) → Called {A = A} old new (Does a) (Err f) → Serves {A = B} old cpu new cpu rule (Err (Mem f))
object_refused {A} {B} {old} {new} {cpu} {rule} {f} of a e rows ready named x = row_refused (old.regs of) a rows (reached_one a of e) (reached_making a of e) (reached_saying a of e) (reached_need old a of e) ready (λ told. names_object old of ready told (named told)) x

-- The rule wants a part of it.
pub part_refused : {A B : Type 0} {old new : Told} {cpu : Cpu} {f : MemFault} (c : Cause) (g : Object → Option B) (of : ℕ) (a : Access) → reaches a ≡ Some of → IsReady old → (IsTrue old.tells → IsRef (old.regs of)) → Called {A = A} old new (Does a) (Err f) → Serves {A = B} old cpu new cpu (part c g (old.regs of)) (Err (Mem f))
unfolding part
part_refused {A} {B} {old} {new} {cpu} {f} c g of a e ready named x = look_refused (old.regs of) a (λ o. given c (g o)) (reached_one a of e) (reached_making a of e) (reached_saying a of e) (reached_need old a of e) ready (λ told. names_object old of ready told (named told)) x

-- a read of it was refused
pub read_refused : {A B : Type 0} {old new : Told} {cpu : Cpu} {f : MemFault} (c : Cause) (g : Object → Option B) (of : ℕ) → IsReady old → ReadsObject {A = A} old new of (Err f) → Serves {A = B} old cpu new cpu (part c g (old.regs of)) (Err (Mem f))
read_refused {A} {B} {old} {new} {cpu} {f} c g of ready x = part_refused c g of (KindOf of) refl ready (λ told. x.named) x.called

-- an access to it was refused after reads
pub later_refused : {A B : Type 0} {old mid new : Told} {cpu : Cpu} {f : MemFault} (xs : List ℕ) (c : Cause) (g : Object → Option B) (of : ℕ) (a : Access) → list_all (λ k. nat_le MACHINE_REGISTERS k) xs ≡ true → is_among xs of ≡ false → reaches a ≡ Some of → IsReady old → IsReady mid → Looks xs old mid → IsRef (mid.regs of) → Called {A = A} mid new (Does a) (Err f) → Serves {A = B} old cpu new cpu (part c g (old.regs of)) (Err (Mem f))
later_refused {A} {B} {old} {mid} {new} {cpu} {f} xs c g of a above apart e before ready looks named x =
    let here : Serves {A = B} mid cpu new cpu (part c g (mid.regs of)) (Err (Mem f)) = part_refused c g of a e ready (λ told. named) x in
    read_first before (quiet xs old mid above before ready looks) (subst (λ v. Serves {A = B} mid cpu new cpu (part c g v) (Err (Mem f))) (looks.regs of apart) here)

-- ---- a field that was loaded

-- what came into the register was that field of the object, also before the reads that came first
pub loaded : {Z : Type 0} {z : Z} (xs : List ℕ) (old mid new : Told) (to of i : ℕ) → IsReady mid → Looks xs old mid → is_among xs of ≡ false → Called mid new (Does (Field to of i)) (Ok z) → IsTrue old.tells → part_at old.heap (old.regs of) (λ b. field_of b i) ≡ Some (new.regs to)
loaded {Z} {z} xs old mid new to of i ready looks apart x told = sym (part_looked xs old mid of (λ b. field_of b i) ready looks apart told) ∙ x.ok.brings (looks.later.tells ∙ told)

pub looks_loaded : {Z : Type 0} {z : Z} (xs : List ℕ) (old mid new : Told) (to of i : ℕ) → IsReady mid → Looks xs old mid → Called mid new (Does (Field to of i)) (Ok z) → Looks (xs ++ to ∷ []) old new
looks_loaded {Z} {z} xs old mid new to of i ready looks x = Looks-trans xs (to ∷ []) old mid new ready looks (Looks-access mid new (Field to of i) refl x)

-- a register that was filled twice
pub looks_once : (r : ℕ) (old new : Told) → Looks (r ∷ r ∷ []) old new → Looks (r ∷ []) old new
looks_once r old new x = Looks-weaker (r ∷ r ∷ []) (r ∷ []) old new (λ k e. ap (λ b. b || (b || false)) (neither (eqb k r) false e).0) x

-- reads that fill a register, and reads that fill it again
pub looks_again : (r : ℕ) (a b c : Told) → IsReady b → Looks (r ∷ []) a b → Looks (r ∷ []) b c → Looks (r ∷ []) a c
looks_again r a b c ready x y = looks_once r a c (Looks-trans (r ∷ []) (r ∷ []) a b c ready x y)

-- ---- known objects

known_named : (t : Told) (n : ℕ) → IsReady t → is_known n ≡ true → IsTrue t.tells → NamesObject t.heap (Ref n)
known_named t n ready is told = (n, refl, (ready.whole told).known n is)

known_goes : (n : ℕ) (m : Machine) (o : Object) → object_at m.heap (Ref n) ≡ Some o → known n m ≡ Go (Ref n) m (rows_at m (Ref n) ++ [])
unfolding known look done ◌>>=◌
known_goes n m o at = ap (λ x. then_do (looked m (Ref n) x) (λ o. done (Ref n))) at

pub known_here : {t : Told} {cpu : Cpu} (n : ℕ) → is_known n ≡ true → IsReady t → Serves t cpu t cpu (known n) (Ok (Ref n))
known_here {t} {cpu} n is ready = record {
  later = IsLater-refl t;
  ready = ready;
  reason = tt;
  counts = (0, IsCounted-refl t);
  vault = λ may. may;
  silent = λ speaks. refl;
  model = λ told m st. (let it = has t.heap n ((ready.whole told).known n is) in subst (Gives t cpu (Ok (Ref n))) (sym (known_goes n m it.0 (st.heap.same n it.0 it.1))) (refl, st));
}

-- the name of a known object was loaded into a scratch register,
pub known_serves : {Z : Type 0} {z : Z} {old new : Told} {cpu : Cpu} (to n : ℕ) → MACHINE_REGISTERS ≤ to → is_known n ≡ true → IsReady old → IsReady new → new.regs to ≡ Ref n → Called old new (Does (Known to n)) (Ok z) → Serves old cpu new cpu (known n) (Ok (new.regs to))
known_serves {Z} {z} {old} {new} {cpu} to n above is before ready name x =
    subst (λ v. Serves old cpu new cpu (known n) (Ok v)) (sym name) (read_last (known_here n is before) (quiet (to ∷ []) old new (scratch to above) before ready (Looks-access old new (Known to n) refl x)))

-- or refused
pub known_refused : {Z : Type 0} {old new : Told} {cpu : Cpu} {f : MemFault} (to n : ℕ) → is_known n ≡ true → IsReady old → Called {A = Z} old new (Does (Known to n)) (Err f) → Serves old cpu new cpu (known n) (Err (Mem f))
unfolding known
known_refused {Z} {old} {new} {cpu} {f} to n is ready x = look_refused (Ref n) (Known to n) (λ o. done (Ref n)) tt (λ low. (let no : 1 ≤ 0 = low in absurd (omega arith))) (λ says. says) refl ready (known_named old n ready is) x

-- ---- the exit of a `?` where a register has the rule's answer

pub exits_with : {A : Type 0} {old new : Told} {cpu now : Cpu} {rule : Rule A} {e : Stop} (r : Result (Unit {0}) Stop) (v : A) → IsErrAnd r (λ y. y ≡ e) → Serves old cpu new now rule (Err e) → Serves old cpu new now rule (with_value r v)
exits_with {A} {old} {new} {cpu} {now} {rule} {e} r v is s =
    let q = err_from_is_err_and r is in
    subst (λ (x : Result (Unit {0}) Stop). Serves {A = A} old cpu new now rule (with_value x v)) (sym (q.1 ∙ ap (λ y. Err y) q.2)) s

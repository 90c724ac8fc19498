-- Steps of a lookup that marks what it looks at.
-- `Walks` is `Serves` with what the path says: `walks_then` puts two parts together, and a stop needs `Serves` alone (`walks_stop`). A part of
-- one object walks where the object is on the path (`walks_only`); the mark may come before it (`look_before`), since a look that went
-- through leaves the machine.
use Rattle.std.proofs.Common.{◌≡◌, ℕ, Bool, true, false, ◌||◌, eqb, List, [], ◌∷◌, ◌++◌, append-nil, Option, Some, None, Result, Ok, Err, OnOk, IsTrue, ◌⊎◌, inl, inr, refl, sym, ◌∙◌, ap, subst, arith}
use Rattle.std.specs.Result.{IsErrAnd}
use Rattle.std.proofs.lemmas.Result.{err_from_is_err_and}
use Rattle.long_names.specs.declared.value.Value.{Value}
use Rattle.long_names.specs.declared.value.Value.TheVariants.{Int, Ref}
use Rattle.long_names.specs.declared.object.Object.{Object}
use Rattle.long_names.specs.State.{IsRef, name_at, object_at}
use Rattle.long_names.specs.Access.{Mark}
use Rattle.long_names.proofs.ThinLemmas.{has}
use Rattle.object_memory.specs.declared.fault.MemFault.{MemFault}
use Rattle.object_memory.specs.declared.fault.MemFault.TheVariants.{CoreFull, WorkFull, WorkFault, Damaged, NamesSpent, Said, Memory}
use Rattle.object_memory.specs.Told.{Told, IsReady}
use Rattle.object_memory.specs.Contract.{Does, Called, no_names, is_marked, touched_by, marked_by}
use Rattle.object_memory.specs.Shape.{is_among, Looks}
use Rattle.object_memory.proofs.LaterLaws.{IsLater-trans, path_left}
use Rattle.object_memory.proofs.LeftLaws.{heap_over}
use Rattle.object_memory.proofs.LooksLaws.{neither}
use Rattle.blue_model.specs.declared.cause.Cause.{Cause}
use Rattle.blue_model.specs.declared.cause.Cause.TheVariants.{Shape}
use Rattle.blue_model.specs.declared.cpu.Cpu.{Cpu}
use Rattle.blue_model.specs.Machine.{Machine, LogRow, Outcome, Go, Halt, Spent, Rule, log_of, rows_at, after, looked, then_do, ◌>>=◌, done, halt, given, pick, look, part}
use Rattle.contexts.specs.declared.stop.Stop.{Stop}
use Rattle.contexts.specs.declared.stop.Stop.TheVariants.{Stuck, Mem}
use Rattle.contexts.specs.Cache.{IsRead}
use Rattle.contexts.specs.Serves.{Stands, IsLogged, HasMaking, IsGo, Gives, Serves, with_value, with_found}
use Rattle.contexts.proofs.CacheLaws.{sound_follows}
use Rattle.contexts.proofs.LookupLaws.{IsRead-either}
use Rattle.contexts.proofs.ServesLaws.{fits_later, counts_trans, HasReason-earlier, says_later, serves_then, serves_stop, reason_other}
use Rattle.contexts.proofs.Steps.{done_serves}
use Rattle.contexts.proofs.ReadLaws.{names_object, look_refused, reached_one, reached_making, reached_saying, reached_need}
use Rattle.send_lookup.specs.Path.{look_at, KeepsPath, Passes, IsOnPath, Covers, Walks}
use Rattle.send_lookup.proofs.ClassLaws.{serves_same, on_ok}

-- ---- the path

pub KeepsPath-refl : (t : Told) → KeepsPath t t
KeepsPath-refl t = record { path = λ whole. whole; marks = λ whole n is. is }

pub KeepsPath-trans : (a b c : Told) → KeepsPath a b → KeepsPath b c → KeepsPath a c
KeepsPath-trans a b c x y = record { path = λ whole. x.path (y.path whole); marks = λ whole n is. y.marks whole n (x.marks (y.path whole) n is) }

-- reads keep it
pub looks_keep : (xs : List ℕ) (old new : Told) → Looks xs old new → KeepsPath old new
looks_keep xs old new l = record { path = λ whole. (path_left no_names None old.cache new.cache l.cache whole).0; marks = λ whole. (path_left no_names None old.cache new.cache l.cache whole).1 }

-- and so does an access that marks
pub mark_keeps : {Z : Type 0} {z : Z} (old new : Told) (of : ℕ) → Called old new (Does (Mark of)) (Ok z) → KeepsPath old new
mark_keeps {Z} {z} old new of x = record {
  path = λ whole. (path_left (touched_by old.regs (Mark of)) (marked_by old.regs (Mark of)) old.cache new.cache x.ok.cache whole).0;
  marks = λ whole. (path_left (touched_by old.regs (Mark of)) (marked_by old.regs (Mark of)) old.cache new.cache x.ok.cache whole).1;
}

-- what is on the path stays there
pub on_path_later : (old new : Told) (v : Value) → KeepsPath old new → IsOnPath old v → IsOnPath new v
on_path_later old new (Int z) k p = λ whole. p (k.path whole)
on_path_later old new (Ref n) k p = λ whole. k.marks whole n (p (k.path whole))

pub on_path_at : (t : Told) (v w : Value) → v ≡ w → IsOnPath t v → IsOnPath t w
on_path_at t v w e p = subst (IsOnPath t) e p

-- The first class of a chain is on the path: it is this class, or it was there before.
pub first_on_path : (old new : Told) (first class : Value) → (class ≡ first) ⊎ IsOnPath old first → KeepsPath old new → IsOnPath new class → IsOnPath new first
first_on_path old new first class (inl e) keeps on = subst (IsOnPath new) e on
first_on_path old new first class (inr was) keeps on = on_path_later old new first keeps was

-- a name that was marked
pub is_marked_name : (t : Told) (v : Value) → IsRef v → t.cache.marks (name_at v) ≡ true → IsTrue (is_marked t.cache v)
is_marked_name t (Int z) named is = absurd named
is_marked_name t (Ref n) named is = is

-- ---- registers

pub Passes-refl : (xs : List ℕ) (t : Told) → Passes xs t t
Passes-refl xs t = record { regs = λ r e. refl; keeps = KeepsPath-refl t }

pub Passes-trans : (xs : List ℕ) (a b c : Told) → Passes xs a b → Passes xs b c → Passes xs a c
Passes-trans xs a b c x y = record { regs = λ r e. y.regs r e ∙ x.regs r e; keeps = KeepsPath-trans a b c x.keeps y.keeps }

pub passes_looked : (xs : List ℕ) (a b : Told) → Looks xs a b → Passes xs a b
passes_looked xs a b x = record { regs = x.regs; keeps = looks_keep xs a b x }

-- where all registers are as before
pub passes_kept : (xs : List ℕ) (a b : Told) → ((r : ℕ) → b.regs r ≡ a.regs r) → KeepsPath a b → Passes xs a b
passes_kept xs a b regs keeps = record { regs = λ r e. regs r; keeps = keeps }

-- one register more may be filled
pub passes_first : (k : ℕ) (xs : List ℕ) (a b : Told) → Passes (k ∷ []) a b → Passes (k ∷ xs) a b
passes_first k xs a b x = record { regs = λ r e. x.regs r (ap (λ (b : Bool). b || false) (neither (eqb r k) (is_among xs r) e).0); keeps = x.keeps }

pub passes_rest : (k : ℕ) (xs : List ℕ) (a b : Told) → Passes xs a b → Passes (k ∷ xs) a b
passes_rest k xs a b x = record { regs = λ r e. x.regs r (neither (eqb r k) (is_among xs r) e).1; keeps = x.keeps }

-- ---- answers

on_both : {A E P Q R : Type 0} (r : Result A E) → (P → Q → R) → OnOk r P → OnOk r Q → OnOk r R
on_both (Ok a) f p q = f p q
on_both (Err e) f p q = tt

-- a stop serves the rule, and covers nothing
pub walks_stop : {A : Type 0} {old new : Told} {cpu : Cpu} {rule : Rule A} {e : Stop} → Serves old cpu new cpu rule (Err e) → Walks old cpu new rule (Err e)
walks_stop s = record { serves = s; keeps = tt; covers = tt }

-- the exit of a `?`, where a register has the rule's answer,
pub walks_exit_with : {A : Type 0} {old new : Told} {cpu : Cpu} {rule : Rule A} {e : Stop} (r : Result (Unit {0}) Stop) (v : A) → IsErrAnd r (λ y. y ≡ e) → Serves old cpu new cpu rule (Err e) → Walks old cpu new rule (with_value r v)
walks_exit_with {A} {old} {new} {cpu} {rule} {e} r v is s =
    let q = err_from_is_err_and r is in
    subst (λ (x : Result (Unit {0}) Stop). Walks {A = A} old cpu new rule (with_value x v)) (sym (q.1 ∙ ap (λ y. Err y) q.2)) (walks_stop s)

-- or what was found
pub walks_exit_found : {A : Type 0} {old new : Told} {cpu : Cpu} {rule : Rule (Option A)} {e : Stop} (r : Result Bool Stop) (v : A) → IsErrAnd r (λ y. y ≡ e) → Serves old cpu new cpu rule (Err e) → Walks old cpu new rule (with_found r v)
walks_exit_found {A} {old} {new} {cpu} {rule} {e} r v is s =
    let q = err_from_is_err_and r is in
    subst (λ (x : Result Bool Stop). Walks old cpu new rule (with_found x v)) (sym (q.1 ∙ ap (λ y. Err y) q.2)) (walks_stop s)

-- something was found, or nothing
pub walks_one : {A : Type 0} {old new : Told} {cpu : Cpu} {rule : Rule (Option A)} (found : Bool) (v : A) → found ≡ true → Walks old cpu new rule (with_found (Ok found) v) → Walks old cpu new rule (Ok (Some v))
walks_one {A} {old} {new} {cpu} {rule} found v e s = subst (λ b. Walks old cpu new rule (with_found (Ok b) v)) e s

pub walks_none : {A : Type 0} {old new : Told} {cpu : Cpu} {rule : Rule (Option A)} (found : Bool) (v : A) → found ≡ false → Walks old cpu new rule (with_found (Ok found) v) → Walks old cpu new rule (Ok None)
walks_none {A} {old} {new} {cpu} {rule} found v e s = subst (λ b. Walks old cpu new rule (with_found (Ok b) v)) e s

-- ---- rules, one after the other

pub walks_done : {A : Type 0} {t : Told} {cpu : Cpu} (a : A) → IsReady t → Walks t cpu t (done a) (Ok a)
unfolding done
walks_done {A} {t} {cpu} a ready = record { serves = done_serves ready; keeps = KeepsPath-refl t; covers = λ told whole m st n r. absurd r }

read_parts : {B : Type 0} (log : List LogRow) (o : Outcome B) (n : ℕ) → IsRead n (log_of (after log o)) → IsRead n log ⊎ IsRead n (log_of o)
read_parts log (Go b m rows) n h = IsRead-either n log rows h
read_parts log (Halt c rows) n h = IsRead-either n log rows h
read_parts log (Spent rows) n h = IsRead-either n log rows h

-- what a rule read, and the one that followed from the machine that it left
covered : {A B : Type 0} (old mid new : Told) (cpu : Cpu) (p : Rule A) (k : A → Rule B) (a : A) → Walks old cpu mid p (Ok a) → KeepsPath mid new → Covers mid cpu new (k a) → Covers old cpu new (p >>= k)
unfolding ◌>>=◌
covered {A} {B} old mid new cpu p k a f keeps covers = λ told whole m st n r. step told whole (p m) (f.serves.model told m st) (λ j q. keeps.marks whole j (f.covers told (keeps.path whole) m st j q)) n r
  where
    step : IsTrue old.tells → IsTrue new.cache.path → (o : Outcome A) → Gives mid cpu (Ok a) o → ((j : ℕ) → IsRead j (log_of o) → new.cache.marks j ≡ true) → (n : ℕ) → IsRead n (log_of (then_do o k)) → new.cache.marks n ≡ true
    step told whole (Go b m log) g seen n r = elim (read_parts log (k b m) n r) [
      | inl x ↦ seen n x
      | inr y ↦ covers (f.serves.later.tells ∙ told) whole m g.1 n (subst (λ z. IsRead n (log_of (k z m))) g.0 y)
    ]
    step told whole (Halt c log) g seen n r = absurd g
    step told whole (Spent log) g seen n r = absurd g

pub walks_then : {A B : Type 0} {old mid new : Told} {cpu : Cpu} {p : Rule A} (k : A → Rule B) {a : A} {answer : Result B Stop} → Walks old cpu mid p (Ok a) → Walks mid cpu new (k a) answer → Walks old cpu new (p >>= k) answer
walks_then {A} {B} {old} {mid} {new} {cpu} {p} k {a} {answer} f s = record {
  serves = serves_then k f.serves s.serves;
  keeps = on_ok answer (KeepsPath-trans old mid new f.keeps) s.keeps;
  covers = on_both answer (covered old mid new cpu p k a f) s.keeps s.covers;
}

pub walks_pick_true : {A : Type 0} {old new : Told} {cpu : Cpu} (b : Bool) (p q : Rule A) {answer : Result A Stop} → b ≡ true → Walks old cpu new p answer → Walks old cpu new (pick b p q) answer
unfolding pick
walks_pick_true {A} {old} {new} {cpu} b p q {answer} e s = subst (λ x. Walks old cpu new (pick x p q) answer) (sym e) s

pub walks_pick_false : {A : Type 0} {old new : Told} {cpu : Cpu} (b : Bool) (p q : Rule A) {answer : Result A Stop} → b ≡ false → Walks old cpu new q answer → Walks old cpu new (pick b p q) answer
unfolding pick
walks_pick_false {A} {old} {new} {cpu} b p q {answer} e s = subst (λ x. Walks old cpu new (pick x p q) answer) (sym e) s

-- a rule that comes to the same
pub walks_same : {A : Type 0} {old new : Told} {cpu : Cpu} {p q : Rule A} {answer : Result A Stop} → ((m : Machine) → q m ≡ p m) → Walks old cpu new p answer → Walks old cpu new q answer
walks_same {A} {old} {new} {cpu} {p} {q} {answer} same s = record {
  serves = serves_same same s.serves;
  keeps = s.keeps;
  covers = on_ok answer (λ (covers : Covers old cpu new p). λ told whole m st n r. covers told whole m st n (subst (λ (o : Outcome A). IsRead n (log_of o)) (same m) r)) s.covers;
}

-- a rule that looks at one object alone, which is on the path
pub walks_only : {A : Type 0} {old new : Told} {cpu : Cpu} {rule : Rule A} {a : A} (v : Value) → ((m : Machine) (n : ℕ) → IsRead n (log_of (rule m)) → v ≡ Ref n) → Serves old cpu new cpu rule (Ok a) → KeepsPath old new → IsOnPath new v → Walks old cpu new rule (Ok a)
walks_only {A} {old} {new} {cpu} {rule} {a} v only s keeps on = record {
  serves = s;
  keeps = keeps;
  covers = λ told whole m st n r. subst (λ w. IsTrue (is_marked new.cache w)) (only m n r) (on whole);
}

-- ---- what a rule looks at

read_row : (m : Machine) (v : Value) (n : ℕ) → IsRead n (rows_at m v) → v ≡ Ref n
read_row m (Int z) n r = absurd r
read_row m (Ref k) n (inl e) = ap (λ j. Ref j) e
read_row m (Ref k) n (inr r) = absurd r

-- the rows of an object, and nothing after them
read_rows : (m : Machine) (v : Value) (n : ℕ) → IsRead n (rows_at m v ++ []) → v ≡ Ref n
read_rows m v n r = read_row m v n (subst (IsRead n) (append-nil (rows_at m v)) r)

pub part_reads : {A : Type 0} (c : Cause) (f : Object → Option A) (v : Value) (m : Machine) (n : ℕ) → IsRead n (log_of (part c f v m)) → v ≡ Ref n
unfolding part look given done halt ◌>>=◌
part_reads {A} c f v m n r = go (object_at m.heap v) r
  where
    within : (x : Option A) → IsRead n (log_of (after (rows_at m v) (given c x m))) → v ≡ Ref n
    within None r = read_rows m v n r
    within (Some a) r = read_rows m v n r

    go : (x : Option Object) → IsRead n (log_of (then_do (looked m v x) (λ o. given c (f o)))) → v ≡ Ref n
    go None r = read_row m v n r
    go (Some o) r = within (f o) r

-- a part, and then an answer
pub part_reads_then : {A B : Type 0} (c : Cause) (f : Object → Option A) (b : B) (v : Value) (m : Machine) (n : ℕ) → IsRead n (log_of ((part c f v >>= (λ _. done b)) m)) → v ≡ Ref n
unfolding done ◌>>=◌
part_reads_then {A} {B} c f b v m n r = part_reads c f v m n (go (part c f v m) r)
  where
    go : (o : Outcome A) → IsRead n (log_of (then_do o (λ _. done b))) → IsRead n (log_of o)
    go (Go a x log) r = subst (IsRead n) (append-nil log) r
    go (Halt c log) r = r
    go (Spent log) r = r

look_reads : (v : Value) (m : Machine) (n : ℕ) → IsRead n (log_of ((look_at v) m)) → v ≡ Ref n
unfolding look done ◌>>=◌
look_reads v m n r = go (object_at m.heap v) r
  where
    go : (x : Option Object) → IsRead n (log_of (then_do (looked m v x) (λ _. done (tt {0})))) → v ≡ Ref n
    go None r = read_row m v n r
    go (Some o) r = read_rows m v n r

-- ---- a look that is made by a mark

-- it leaves the machine,
looked_through : {old mid : Told} {cpu : Cpu} (v : Value) → Serves old cpu mid cpu (look_at v) (Ok (tt {0})) → IsTrue old.tells → (m : Machine) → Stands old cpu m → Stands mid cpu m
unfolding look done ◌>>=◌
looked_through {old} {mid} {cpu} v s told m st = go (object_at m.heap v) (s.model told m st)
  where
    go : (x : Option Object) → IsGo (tt {0}) (Stands mid cpu) (then_do (looked m v x) (λ _. done (tt {0}))) → Stands mid cpu m
    go None h = absurd h
    go (Some o) h = h.1

-- so it may come before any rule
pub look_before : {A : Type 0} {old mid new : Told} {cpu : Cpu} {rule : Rule A} {answer : Result A Stop} (v : Value) → Serves old cpu mid cpu (look_at v) (Ok (tt {0})) → Serves mid cpu new cpu rule answer → Serves old cpu new cpu rule answer
look_before {A} {old} {mid} {new} {cpu} {rule} {answer} v first s = record {
  later = IsLater-trans old mid new first.later s.later;
  ready = s.ready;
  reason = HasReason-earlier old mid new answer first.later first.counts s.reason;
  counts = counts_trans old mid new answer first.later first.counts s.counts;
  vault = s.vault;
  silent = says_later None old mid new answer first.later first.silent s.silent;
  model = λ told m st. s.model (first.later.tells ∙ told) m (looked_through v first told m st);
}

-- the outcome of a look that stopped there is one of any rule with its row
stopped_there : {A B : Type 0} (new : Told) (now : Cpu) (e : Stop) (a : A) (m : Machine) (log : List LogRow) (o : Outcome B) → log_of o ≡ log → Gives {A = A} new now (Err e) (Go a m log) → Gives {A = B} new now (Err e) o
stopped_there new now (Stuck c) a m log o same h = absurd h
stopped_there new now (Mem (CoreFull need)) a m log o same h = subst (IsLogged need) (sym same) h
stopped_there new now (Mem (WorkFull live room)) a m log o same h = subst (HasMaking new.heap.next) (sym same) h
stopped_there new now (Mem (WorkFault count)) a m log o same h = tt
stopped_there new now (Mem (Damaged place name)) a m log o same h = absurd h
stopped_there new now (Mem NamesSpent) a m log o same h = absurd h
stopped_there new now (Mem (Said count)) a m log o same h = absurd h
stopped_there new now (Mem Memory) a m log o same h = tt

-- and so is that of one that found no object
halted_there : (A B : Type 0) (new : Told) (now : Cpu) (e : Stop) (c : Cause) (log : List LogRow) → Gives {A = A} new now (Err e) (Halt c log) → Gives {A = B} new now (Err e) (Halt c log)
halted_there A B new now (Stuck d) c log h = h
halted_there A B new now (Mem (CoreFull need)) c log h = h
halted_there A B new now (Mem (WorkFull live room)) c log h = h
halted_there A B new now (Mem (WorkFault count)) c log h = tt
halted_there A B new now (Mem (Damaged place name)) c log h = absurd h
halted_there A B new now (Mem NamesSpent) c log h = absurd h
halted_there A B new now (Mem (Said count)) c log h = absurd h
halted_there A B new now (Mem Memory) c log h = tt

-- A mark that stopped serves what wants a part of the object.
pub look_stops : {A : Type 0} {old new : Told} {cpu : Cpu} {e : Stop} (c : Cause) (f : Object → Option A) (v : Value) → Serves old cpu new cpu (look_at v) (Err e) → Serves old cpu new cpu (part c f v) (Err e)
unfolding part look given done halt ◌>>=◌
look_stops {A} {old} {new} {cpu} {e} c f v s = record {
  later = s.later;
  ready = tt;
  reason = reason_other (Unit {0}) A old new e s.reason;
  counts = tt;
  vault = tt;
  silent = s.silent;
  model = λ told m st. go m (object_at m.heap v) (s.model told m st);
}
  where
    rows : (m : Machine) (x : Option A) → log_of (after (rows_at m v) (given c x m)) ≡ rows_at m v ++ []
    rows m None = refl
    rows m (Some a) = refl

    go : (m : Machine) (x : Option Object) → Gives {A = Unit {0}} new cpu (Err e) (then_do (looked m v x) (λ _. done (tt {0}))) → Gives {A = A} new cpu (Err e) (then_do (looked m v x) (λ o. given c (f o)))
    go m None h = halted_there (Unit {0}) A new cpu e Shape (rows_at m v) h
    go m (Some o) h = stopped_there new cpu e (tt {0}) m (rows_at m v ++ []) (after (rows_at m v) (given c (f o) m)) (rows m (f o)) h

-- The object was marked, and then a part of it was read.
pub walks_marked : {A : Type 0} {old mid new : Told} {cpu : Cpu} {a : A} (c : Cause) (f : Object → Option A) (v : Value) → Serves old cpu mid cpu (look_at v) (Ok (tt {0})) → KeepsPath old mid → IsTrue (is_marked mid.cache v) → Serves mid cpu new cpu (part c f v) (Ok a) → KeepsPath mid new → Walks old cpu new (part c f v) (Ok a)
walks_marked {A} {old} {mid} {new} {cpu} {a} c f v first keeps marked s more = walks_only v (part_reads c f v) (look_before v first s) (KeepsPath-trans old mid new keeps more) (on_path_later mid new v more (λ whole. marked))

-- ---- a look whose object the rest of the rule doesn't use

look_then : {B : Type 0} (v : Value) (rest : Rule B) (m : Machine) → (look v >>= (λ _. rest)) m ≡ ((look_at v) >>= (λ _. rest)) m
unfolding look done ◌>>=◌
look_then {B} v rest m = go (object_at m.heap v)
  where
    go : (x : Option Object) → then_do (looked m v x) (λ _. rest) ≡ then_do (then_do (looked m v x) (λ _. done (tt {0}))) (λ _. rest)
    go None = refl
    go (Some o) = ap (λ (log : List LogRow). after log (rest m)) (sym (append-nil (rows_at m v)))

-- It was marked,
pub walks_look : {B : Type 0} {old mid new : Told} {cpu : Cpu} {rest : Rule B} {answer : Result B Stop} (v : Value) → Serves old cpu mid cpu (look_at v) (Ok (tt {0})) → KeepsPath old mid → IsTrue (is_marked mid.cache v) → Walks mid cpu new rest answer → Walks old cpu new (look v >>= (λ _. rest)) answer
walks_look {B} {old} {mid} {new} {cpu} {rest} {answer} v first keeps marked s = walks_same (look_then v rest) (walks_then (λ _. rest) (walks_only v (look_reads v) first keeps (λ whole. marked)) s)

-- and what served the rest marked no more,
pub looked_first : {B : Type 0} {old mid new : Told} {cpu : Cpu} {rest : Rule B} {answer : Result B Stop} (v : Value) → Serves old cpu mid cpu (look_at v) (Ok (tt {0})) → Serves mid cpu new cpu rest answer → Serves old cpu new cpu (look v >>= (λ _. rest)) answer
looked_first {B} {old} {mid} {new} {cpu} {rest} {answer} v first s = serves_same (look_then v rest) (serves_then (λ _. rest) first s)

-- or it was not to be had.
pub look_stopped : {B : Type 0} {old new : Told} {cpu : Cpu} {e : Stop} (rest : Rule B) (v : Value) → Serves old cpu new cpu (look_at v) (Err e) → Serves old cpu new cpu (look v >>= (λ _. rest)) (Err e)
look_stopped rest v s = serves_same (look_then v rest) (serves_stop (λ _. rest) s)

-- ---- a mark

look_goes : (v : Value) (m : Machine) (o : Object) → object_at m.heap v ≡ Some o → (look_at v) m ≡ Go (tt {0}) m (rows_at m v ++ [])
unfolding look done ◌>>=◌
look_goes v m o at = ap (λ (x : Option Object). then_do (looked m v x) (λ _. done (tt {0}))) at

-- It was answered,
pub mark_serves : {Z : Type 0} {z : Z} {old new : Told} {cpu : Cpu} (of : ℕ) → IsReady old → IsReady new → IsRef (old.regs of) → Called old new (Does (Mark of)) (Ok z) → Serves old cpu new cpu (look_at (old.regs of)) (Ok (tt {0}))
mark_serves {Z} {z} {old} {new} {cpu} of before ready named x = record {
  later = x.later;
  ready = ready;
  reason = tt;
  counts = (0, record { counts = x.ok.counts; next = λ told. (let same = (x.ok.heap told).next in omega arith) });
  vault = λ may. may;
  silent = x.ok.transcript;
  model = λ told m st.
      let it = names_object old of before told named in
      let here = has old.heap it.0 it.2 in
      let at : object_at m.heap (old.regs of) ≡ Some here.0 = ap (object_at m.heap) it.1 ∙ st.heap.same it.0 here.0 here.1 in
      subst (Gives new cpu (Ok (tt {0}))) (sym (look_goes (old.regs of) m here.0 at)) (refl, stands told m st);
}
  where
    stands : IsTrue old.tells → (m : Machine) → Stands old cpu m → Stands new cpu m
    stands told m st = record {
      heap = heap_over m.heap old new (Mark of) st.heap before x.ok told;
      regs = λ r low. st.regs r low ∙ sym (ap (λ (g : ℕ → Value). g r) x.ok.regs);
      slots = st.slots ∙ sym x.ok.slots;
      numbers = st.numbers;
      fits = fits_later old.bounds new.bounds m.largest x.later.bounds st.fits;
      transcript = λ speaks. (let spoke = sym x.later.speaks ∙ speaks in x.ok.transcript spoke ∙ st.transcript spoke);
      cache = sound_follows old new (Does (Mark of)) before ready x.ok told (x.later.tells ∙ told) st.cache;
    }

-- or refused,
pub mark_refused : {Z : Type 0} {old new : Told} {cpu : Cpu} {f : MemFault} (of : ℕ) → IsReady old → IsRef (old.regs of) → Called {A = Z} old new (Does (Mark of)) (Err f) → Serves old cpu new cpu (look_at (old.regs of)) (Err (Mem f))
mark_refused {Z} {old} {new} {cpu} {f} of ready named x = look_refused (old.regs of) (Mark of) (λ _. done (tt {0})) (reached_one (Mark of) of refl) (reached_making (Mark of) of refl) (reached_saying (Mark of) of refl) (reached_need old (Mark of) of refl) ready (λ told. names_object old of ready told named) x

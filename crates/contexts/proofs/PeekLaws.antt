-- Parts that a rule looks for: one that is there, one that isn't, and an access that was refused. The counterpart of `ReadLaws`.
use Rattle.std.proofs.Common.{◌≡◌, ℕ, nat_le, Bool, true, false, List, Option, Some, None, Result, Ok, Err, IsTrue, refl, sym, ◌∙◌, ap, subst}
use Rattle.std.specs.Option.{option_and_then}
use Rattle.std.specs.List.{list_all, slice_get}
use Rattle.std.specs.Result.{IsErrAnd}
use Rattle.std.proofs.lemmas.Result.{err_from_is_err_and}
use Rattle.long_names.specs.declared.value.Value.{Value}
use Rattle.long_names.specs.declared.value.Value.TheVariants.{Int, Ref}
use Rattle.long_names.specs.declared.object.Object.{Object}
use Rattle.long_names.specs.Objects.{int_of}
use Rattle.long_names.specs.Heap.{Has}
use Rattle.long_names.specs.State.{IsRef, object_at}
use Rattle.long_names.specs.Access.{Access, KindOf}
use Rattle.long_names.proofs.ThinLemmas.{has}
use Rattle.object_memory.specs.declared.fault.MemFault.{MemFault}
use Rattle.object_memory.specs.Told.{Told, IsReady}
use Rattle.object_memory.specs.Contract.{Does, Called}
use Rattle.object_memory.specs.Shape.{is_among, Looks, ReadsObject}
use Rattle.object_memory.proofs.LaterLaws.{IsLater-refl}
use Rattle.blue_model.specs.declared.cpu.Cpu.{Cpu}
use Rattle.blue_model.specs.Machine.{Machine, Rule, looked, then_do, ◌>>=◌, done, look}
use Rattle.long_names.specs.declared.limits.TheConstants.{MACHINE_REGISTERS}
use Rattle.blue_model.specs.Parts.{shaped, field, number}
use Rattle.blue_model.specs.Trials.{peek}
use Rattle.contexts.specs.declared.stop.Stop.{Stop}
use Rattle.contexts.specs.declared.stop.Stop.TheVariants.{Mem}
use Rattle.contexts.specs.Serves.{Stands, Gives, Serves, with_found}
use Rattle.contexts.proofs.ServesLaws.{IsCounted-refl, serves_then, serves_stop}
use Rattle.contexts.proofs.Steps.{done_serves, read_first, read_last}
use Rattle.contexts.proofs.ReadLaws.{quiet, reaches, reached_one, reached_making, reached_saying, reached_need, look_refused, names_object}

-- ---- where the memory stands still

-- What is found in one machine is what a memory's object has, or lacks. A number is not looked at.
peeks_here : {A : Type 0} (f : Object → Option A) (t : Told) (cpu : Cpu) (m : Machine) (v : Value) (x : Option A) → ((n : ℕ) → v ≡ Ref n → Has t.heap n) → Stands t cpu m → option_and_then f (object_at t.heap v) ≡ x → Gives t cpu (Ok x) (peek f v m)
unfolding peek look done ◌>>=◌
peeks_here {A} f t cpu m (Int z) x rooted st e = (e, st)
peeks_here {A} f t cpu m (Ref n) x rooted st e =
    let it = has t.heap n (rooted n refl) in
    subst (λ (y : Option Object). Gives t cpu (Ok x) (then_do (looked m (Ref n) y) (λ o. done (f o)))) (sym (st.heap.same n it.0 it.1)) (ap (option_and_then f) (sym it.1) ∙ e, st)

pub peek_here : {A : Type 0} {t : Told} {cpu : Cpu} (f : Object → Option A) (r : ℕ) (x : Option A) → IsReady t → (IsTrue t.tells → option_and_then f (object_at t.heap (t.regs r)) ≡ x) → Serves t cpu t cpu (peek f (t.regs r)) (Ok x)
peek_here {A} {t} {cpu} f r x ready e = record {
  later = IsLater-refl t;
  ready = ready;
  reason = tt;
  counts = (0, IsCounted-refl t);
  vault = λ may. may;
  silent = λ speaks. refl;
  model = λ told m st. peeks_here f t cpu m (t.regs r) x ((ready.whole told).rooted r) st (e told);
}

-- ---- with reads around it

pub peek_serves : {A : Type 0} {old new : Told} {cpu : Cpu} (xs : List ℕ) (f : Object → Option A) (r : ℕ) (x : Option A) → list_all (λ k. nat_le MACHINE_REGISTERS k) xs ≡ true → IsReady old → IsReady new → Looks xs old new → (IsTrue old.tells → option_and_then f (object_at old.heap (old.regs r)) ≡ x) → Serves old cpu new cpu (peek f (old.regs r)) (Ok x)
peek_serves {A} {old} {new} {cpu} xs f r x above before ready looks e = read_last (peek_here f r x before e) (quiet xs old new above before ready looks)

-- ---- refusals

-- what a name stands for is looked at
by_look : {A : Type 0} {old new : Told} {cpu now : Cpu} {answer : Result (Option A) Stop} (f : Object → Option A) (v : Value) → IsRef v → Serves old cpu new now (look v >>= (λ o. done (f o))) answer → Serves old cpu new now (peek f v) answer
unfolding peek
by_look f (Int z) named s = absurd named
by_look f (Ref n) named s = s

-- An access to the object of a register was refused.
pub peek_refused : {A B : Type 0} {old new : Told} {cpu : Cpu} {e : MemFault} (f : Object → Option B) (of : ℕ) (a : Access) → reaches a ≡ Some of → IsReady old → IsRef (old.regs of) → Called {A = A} old new (Does a) (Err e) → Serves old cpu new cpu (peek f (old.regs of)) (Err (Mem e))
peek_refused {A} {B} {old} {new} {cpu} {e} f of a is ready named x = by_look f (old.regs of) named (look_refused (old.regs of) a (λ o. done (f o)) (reached_one a of is) (reached_making a of is) (reached_saying a of is) (reached_need old a of is) ready (λ told. names_object old of ready told named) x)

-- a read of it was refused
pub first_refused : {A B : Type 0} {old new : Told} {cpu : Cpu} {e : MemFault} (f : Object → Option B) (of : ℕ) → IsReady old → ReadsObject {A = A} old new of (Err e) → Serves old cpu new cpu (peek f (old.regs of)) (Err (Mem e))
first_refused f of ready x = peek_refused f of (KindOf of) refl ready x.named x.called

-- an access to it was refused after reads
pub then_refused : {A B : Type 0} {old mid new : Told} {cpu : Cpu} {e : MemFault} (xs : List ℕ) (f : Object → Option B) (of : ℕ) (a : Access) → list_all (λ k. nat_le MACHINE_REGISTERS k) xs ≡ true → is_among xs of ≡ false → reaches a ≡ Some of → IsReady old → IsReady mid → Looks xs old mid → IsRef (mid.regs of) → Called {A = A} mid new (Does a) (Err e) → Serves old cpu new cpu (peek f (old.regs of)) (Err (Mem e))
then_refused {A} {B} {old} {mid} {new} {cpu} {e} xs f of a above apart is before ready looks named x =
    let here : Serves mid cpu new cpu (peek f (mid.regs of)) (Err (Mem e)) = peek_refused f of a is ready named x in
    read_first before (quiet xs old mid above before ready looks) (subst (λ v. Serves mid cpu new cpu (peek f v) (Err (Mem e))) (looks.regs of apart) here)

-- ---- a part of a part

peek_by : {A B : Type 0} (f : Object → Option A) (g : A → Option B) (v : Value) (m : Machine) → peek (λ o. option_and_then g (f o)) v m ≡ (peek f v >>= (λ x. done (option_and_then g x))) m
unfolding peek look done ◌>>=◌
peek_by {A} {B} f g (Int z) m = refl
peek_by {A} {B} f g (Ref n) m = go (m.heap.at n)
  where
    go : (x : Option Object) → then_do (looked m (Ref n) x) (λ o. done (option_and_then g (f o))) ≡ then_do (then_do (looked m (Ref n) x) (λ o. done (f o))) (λ y. done (option_and_then g y))
    go None = refl
    go (Some o) = refl

by_steps : {A B : Type 0} {old new : Told} {cpu now : Cpu} {answer : Result (Option B) Stop} (f : Object → Option A) (g : A → Option B) (v : Value) → Serves old cpu new now (peek f v >>= (λ x. done (option_and_then g x))) answer → Serves old cpu new now (peek (λ o. option_and_then g (f o)) v) answer
by_steps {A} {B} {old} {new} {cpu} {now} {answer} f g v s = record {
  later = s.later;
  ready = s.ready;
  reason = s.reason;
  counts = s.counts;
  vault = s.vault;
  silent = s.silent;
  model = λ told m st. subst (Gives new now answer) (sym (peek_by f g v m)) (s.model told m st);
}

-- What was looked for in a part that was looked for,
pub peek_inside : {A B : Type 0} {old new : Told} {cpu now : Cpu} (f : Object → Option A) (g : A → Option B) (v : Value) (x : Option A) → IsReady new → Serves old cpu new now (peek f v) (Ok x) → Serves old cpu new now (peek (λ o. option_and_then g (f o)) v) (Ok (option_and_then g x))
peek_inside f g v x ready s = by_steps f g v (serves_then (λ y. done (option_and_then g y)) s (done_serves ready))

-- and where that one came to a stop.
pub peek_stopped : {A B : Type 0} {old new : Told} {cpu now : Cpu} {e : Stop} (f : Object → Option A) (g : A → Option B) (v : Value) → Serves old cpu new now (peek f v) (Err e) → Serves old cpu new now (peek (λ o. option_and_then g (f o)) v) (Err e)
peek_stopped f g v s = by_steps f g v (serves_stop (λ y. done (option_and_then g y)) s)

-- the number that a field holds is looked for in the field that was found
pub number_found : {old new : Told} {cpu now : Cpu} (least i : ℕ) (v : Value) (x : Option Value) → IsReady new → Serves old cpu new now (peek (field least i) v) (Ok x) → Serves old cpu new now (peek (number least i) v) (Ok (option_and_then int_of x))
unfolding number field
number_found least i v x ready s = peek_inside (λ o. option_and_then (λ (values : List Value). slice_get values i) (shaped least o)) int_of v x ready s

pub number_stopped : {old new : Told} {cpu now : Cpu} {e : Stop} (least i : ℕ) (v : Value) → Serves old cpu new now (peek (field least i) v) (Err e) → Serves old cpu new now (peek (number least i) v) (Err e)
unfolding number field
number_stopped least i v s = peek_stopped (λ o. option_and_then (λ (values : List Value). slice_get values i) (shaped least o)) int_of v s

-- ---- calls that tell whether they found something, which a register has then

-- the exit of a `?`
pub exits_found : {A : Type 0} {old new : Told} {cpu now : Cpu} {rule : Rule (Option A)} {e : Stop} (r : Result Bool Stop) (v : A) → IsErrAnd r (λ y. y ≡ e) → Serves old cpu new now rule (Err e) → Serves old cpu new now rule (with_found r v)
exits_found {A} {old} {new} {cpu} {now} {rule} {e} r v is s =
    let q = err_from_is_err_and r is in
    subst (λ (x : Result Bool Stop). Serves old cpu new now rule (with_found x v)) (sym (q.1 ∙ ap (λ y. Err y) q.2)) s

-- such a call found something,
pub found_one : {A : Type 0} {old new : Told} {cpu now : Cpu} {rule : Rule (Option A)} (found : Bool) (v : A) → found ≡ true → Serves old cpu new now rule (with_found (Ok found) v) → Serves old cpu new now rule (Ok (Some v))
found_one {A} {old} {new} {cpu} {now} {rule} found v e s = subst (λ b. Serves old cpu new now rule (with_found (Ok b) v)) e s

-- or nothing
pub found_none : {A : Type 0} {old new : Told} {cpu now : Cpu} {rule : Rule (Option A)} (found : Bool) (v : A) → found ≡ false → Serves old cpu new now rule (with_found (Ok found) v) → Serves old cpu new now rule (Ok None)
found_none {A} {old} {new} {cpu} {now} {rule} found v e s = subst (λ b. Serves old cpu new now rule (with_found (Ok b) v)) e s

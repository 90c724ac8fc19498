-- Several parts of one object that are looked for one after the other.
use Rattle.std.proofs.Common.{◌≡◌, ℕ, nat_le, true, false, List, [], ◌++◌, Option, Some, None, Result, Ok, Err, IsTrue, refl, sym, ◌∙◌, ap, subst}
use Rattle.std.specs.Option.{option_and_then}
use Rattle.std.specs.List.{list_all}
use Rattle.long_names.specs.declared.value.Value.{Value}
use Rattle.long_names.specs.declared.value.Value.TheVariants.{Int, Ref}
use Rattle.long_names.specs.declared.object.Object.{Object}
use Rattle.long_names.specs.Heap.{Heap}
use Rattle.long_names.specs.State.{object_at}
use Rattle.long_names.proofs.ThinLemmas.{has}
use Rattle.object_memory.specs.Told.{Told, IsReady}
use Rattle.object_memory.specs.Shape.{is_among, Looks}
use Rattle.blue_model.specs.declared.cpu.Cpu.{Cpu}
use Rattle.blue_model.specs.Machine.{Machine, LogRow, Outcome, Go, Rule, rows_at, looked, after, then_do, ◌>>=◌, done, look}
use Rattle.long_names.specs.declared.limits.TheConstants.{MACHINE_REGISTERS}
use Rattle.blue_model.specs.Trials.{peek}
use Rattle.contexts.specs.declared.stop.Stop.{Stop}
use Rattle.contexts.specs.declared.stop.Stop.TheVariants.{Stuck, Mem}
use Rattle.object_memory.specs.declared.fault.MemFault.TheVariants.{CoreFull, WorkFull, WorkFault, Damaged, NamesSpent, Said, Memory}
use Rattle.contexts.specs.Serves.{Stands, Gives, HasReason, Serves, found_by}
use Rattle.contexts.proofs.ServesLaws.{serves_then, by_model}
use Rattle.contexts.proofs.Steps.{done_serves, read_first}
use Rattle.contexts.proofs.ReadLaws.{quiet}
use Rattle.std.specs.Prelude.{IfSome}
use Rattle.std.specs.Result.{IsErrAnd}
use Rattle.std.proofs.lemmas.Result.{err_from_is_err_and}

-- what a value names is there
abbrev pub IsThere : Heap → Value → Type 0
IsThere h v = (n : ℕ) → v ≡ Ref n → (o : Object) × (h.at n ≡ Some o)

pub there_in : (t : Told) (cpu : Cpu) (r : ℕ) → IsReady t → (m : Machine) → IsTrue t.tells → Stands t cpu m → IsThere m.heap (t.regs r)
there_in t cpu r ready m told st n e = let it = has t.heap n ((ready.whole told).rooted r n e) in (it.0, st.heap.same n it.0 it.1)

-- the part is looked for, and the rule goes on
peek_form : {A : Type 0} (f : Object → Option A) (v : Value) (m : Machine) → IsThere m.heap v → peek f v m ≡ Go (option_and_then f (object_at m.heap v)) m (rows_at m v)
unfolding peek look done ◌>>=◌
peek_form f (Int z) m there = refl
peek_form f (Ref n) m there = let it = there n refl in ap (λ x. then_do (looked m (Ref n) x) (λ o. done (f o))) it.1 ∙ sym (ap (λ x. Go (option_and_then f x) m (rows_at m (Ref n))) it.1)

-- a call that stopped while it looked for one part stopped while it looked for another
pub peek_fault : {A B : Type 0} {old new : Told} {cpu : Cpu} {e : Stop} (f : Object → Option A) (k : Object → Option B) (r : ℕ) → IsReady old → Serves old cpu new cpu (peek f (old.regs r)) (Err e) → Serves old cpu new cpu (peek k (old.regs r)) (Err e)
peek_fault {A} {B} {old} {new} {cpu} {e} f k r ready s = record {
  later = s.later;
  ready = tt;
  reason = reason e s.reason;
  counts = tt;
  vault = tt;
  silent = s.silent;
  model = λ told m st.
      let v = old.regs r in
      let there = there_in old cpu r ready m told st in
      subst (Gives {A = Option B} new cpu (Err e)) (sym (peek_form k v m there))
      (fault_to e (option_and_then f (object_at m.heap v)) (option_and_then k (object_at m.heap v)) m (rows_at m v) (subst (Gives {A = Option A} new cpu (Err e)) (peek_form f v m there) (s.model told m st)));
}
  where
    reason : (e : Stop) → HasReason {A = Option A} old new (Err e) → HasReason {A = Option B} old new (Err e)
    reason (Stuck c) h = tt
    reason (Mem f) h = h

    fault_to : (e : Stop) (a : Option A) (b : Option B) (m : Machine) (rows : List LogRow) → Gives {A = Option A} new cpu (Err e) (Go a m rows) → Gives {A = Option B} new cpu (Err e) (Go b m rows)
    fault_to (Stuck c) a b m rows h = absurd h
    fault_to (Mem (CoreFull need)) a b m rows h = h
    fault_to (Mem (WorkFull live room)) a b m rows h = h
    fault_to (Mem (WorkFault count)) a b m rows h = tt
    fault_to (Mem (Damaged place name)) a b m rows h = h
    fault_to (Mem NamesSpent) a b m rows h = absurd h
    fault_to (Mem (Said count)) a b m rows h = absurd h
    fault_to (Mem Memory) a b m rows h = tt

-- the same, after reads
pub later_fault : {A B : Type 0} {old mid new : Told} {cpu : Cpu} {e : Stop} (xs : List ℕ) (f : Object → Option A) (k : Object → Option B) (r : ℕ) → list_all (λ n. nat_le MACHINE_REGISTERS n) xs ≡ true → is_among xs r ≡ false → IsReady old → IsReady mid → Looks xs old mid → Serves mid cpu new cpu (peek f (mid.regs r)) (Err e) → Serves old cpu new cpu (peek k (old.regs r)) (Err e)
later_fault {A} {B} {old} {mid} {new} {cpu} {e} xs f k r above apart before ready looks s =
    read_first before (quiet xs old mid above before ready looks) (subst (λ v. Serves mid cpu new cpu (peek k v) (Err e)) (looks.regs r apart) (peek_fault f k r ready s))

done_form : {A : Type 0} (a : A) (m : Machine) (rows : List LogRow) → after rows (after rows (done a m)) ≡ Go a m (rows ++ (rows ++ []))
unfolding done
done_form a m rows = refl

-- two parts, one after the other, are a part that both make
pub peek_join : {A B C : Type 0} {old mid new : Told} {cpu : Cpu} (f : Object → Option A) (g : Object → Option B) (k : Object → Option C) (h : Option A → Option B → Option C) (r : ℕ) (a : Option A) (b : Option B) → ((o : Object) → k o ≡ h (f o) (g o)) → h None None ≡ None → mid.regs r ≡ old.regs r → IsReady old
    → Serves old cpu mid cpu (peek f (old.regs r)) (Ok a) → Serves mid cpu new cpu (peek g (mid.regs r)) (Ok b) → Serves old cpu new cpu (peek k (old.regs r)) (Ok (h a b))
unfolding ◌>>=◌
peek_join {A} {B} {C} {old} {mid} {new} {cpu} f g k h r a b makes none same ready s z =
    by_model (peek f (old.regs r) >>= (λ x. peek g (old.regs r) >>= (λ y. done (h x y)))) (peek k (old.regs r))
    (λ m told st given.
    let v = old.regs r in
    let there = there_in old cpu r ready m told st in
    let went : Gives new cpu (Ok (h a b)) (Go (h (option_and_then f (object_at m.heap v)) (option_and_then g (object_at m.heap v))) m (rows_at m v ++ (rows_at m v ++ []))) =
    subst (Gives new cpu (Ok (h a b))) (join_form m v there) given in
    subst (Gives new cpu (Ok (h a b))) (sym (peek_form k v m there)) (both_make (object_at m.heap v) ∙ went.0, went.1))
    (serves_then (λ x. peek g (old.regs r) >>= (λ y. done (h x y))) s (serves_then (λ y. done (h a y)) (subst (λ v. Serves mid cpu new cpu (peek g v) (Ok b)) same z) (done_serves z.ready)))
  where
    both_make : (x : Option Object) → option_and_then k x ≡ h (option_and_then f x) (option_and_then g x)
    both_make None = sym none
    both_make (Some o) = makes o

    join_form : (m : Machine) (v : Value) → IsThere m.heap v → (peek f v >>= (λ x. peek g v >>= (λ y. done (h x y)))) m ≡ Go (h (option_and_then f (object_at m.heap v)) (option_and_then g (object_at m.heap v))) m (rows_at m v ++ (rows_at m v ++ []))
    join_form m v there =
        ap (λ (o : Outcome (Option A)). then_do o (λ x. peek g v >>= (λ y. done (h x y)))) (peek_form f v m there)
        ∙ ap (λ (o : Outcome (Option B)). after (rows_at m v) (then_do o (λ y. done (h (option_and_then f (object_at m.heap v)) y)))) (peek_form g v m there)
        ∙ done_form (h (option_and_then f (object_at m.heap v)) (option_and_then g (object_at m.heap v))) m (rows_at m v)

-- what a part makes of a value that was found
pub peek_made : {A B : Type 0} {old new : Told} {cpu : Cpu} (f : Object → Option A) (k : Object → Option B) (g : Option A → Option B) (r : ℕ) (a : Option A) → ((o : Object) → k o ≡ g (f o)) → g None ≡ None → IsReady old → Serves old cpu new cpu (peek f (old.regs r)) (Ok a) → Serves old cpu new cpu (peek k (old.regs r)) (Ok (g a))
peek_made {A} {B} {old} {new} {cpu} f k g r a makes none ready s = record {
  later = s.later;
  ready = s.ready;
  reason = tt;
  counts = s.counts;
  vault = s.vault;
  silent = s.silent;
  model = λ told m st.
      let v = old.regs r in
      let there = there_in old cpu r ready m told st in
      let went : Gives new cpu (Ok a) (Go (option_and_then f (object_at m.heap v)) m (rows_at m v)) = subst (Gives new cpu (Ok a)) (peek_form f v m there) (s.model told m st) in
      subst (Gives new cpu (Ok (g a))) (sym (peek_form k v m there)) (made (object_at m.heap v) ∙ ap g went.0, went.1);
}
  where
    made : (x : Option Object) → option_and_then k x ≡ g (option_and_then f x)
    made None = sym none
    made (Some o) = makes o

-- where this part is missing, another one is
pub peek_none : {A B : Type 0} {old new : Told} {cpu : Cpu} (f : Object → Option A) (k : Object → Option B) (r : ℕ) (a : Option A) → a ≡ None → ((o : Object) → f o ≡ None → k o ≡ None) → IsReady old → Serves old cpu new cpu (peek f (old.regs r)) (Ok a) → Serves old cpu new cpu (peek k (old.regs r)) (Ok None)
peek_none {A} {B} {old} {new} {cpu} f k r a is none ready s = record {
  later = s.later;
  ready = s.ready;
  reason = tt;
  counts = s.counts;
  vault = s.vault;
  silent = s.silent;
  model = λ told m st.
      let v = old.regs r in
      let there = there_in old cpu r ready m told st in
      let went : Gives new cpu (Ok a) (Go (option_and_then f (object_at m.heap v)) m (rows_at m v)) = subst (Gives new cpu (Ok a)) (peek_form f v m there) (s.model told m st) in
      subst (Gives new cpu (Ok None)) (sym (peek_form k v m there)) (lacks (object_at m.heap v) (went.0 ∙ is), went.1);
}
  where
    lacks : (x : Option Object) → option_and_then f x ≡ None → option_and_then k x ≡ None
    lacks None e = refl
    lacks (Some o) e = none o e

-- the exit of a `?`, where what was found is told in the model's words
pub exits_by : {A B : Type 0} {old new : Told} {cpu now : Cpu} {rule : Rule (Option B)} {e : Stop} (f : A → B) (r : Result (Option A) Stop) → IsErrAnd r (λ y. y ≡ e) → Serves old cpu new now rule (Err e) → Serves old cpu new now rule (found_by f r)
exits_by {A} {B} {old} {new} {cpu} {now} {rule} {e} f r is s =
    let q = err_from_is_err_and r is in
    subst (λ (x : Result (Option A) Stop). Serves old cpu new now rule (found_by f x)) (sym (q.1 ∙ ap (λ y. Err y) q.2)) s

-- what holds of a value that was found
pub of_some : {A : Type 0} (P : A → Type 0) (o : Option A) (a : A) → o ≡ Some a → IfSome o P → P a
of_some P None a e h = let never : ◌≡◌ {A = Option _} None (Some a) = e in absurd (cc)
of_some P (Some b) a e h = subst P (let same : b ≡ a = cc in same) h

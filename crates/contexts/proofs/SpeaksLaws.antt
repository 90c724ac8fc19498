-- Rules that may say something as the last thing that they do: what follows them, and the access that says.
use Rattle.std.proofs.Common.{◌≡◌, ℕ, ◌≤◌, Bool, false, List, [], ◌∷◌, ◌++◌, append_assoc, Option, Some, None, Result, Ok, Err, IsTrue, inl, inr, refl, sym, ◌∙◌, ap, ap₂, subst, arith}
use Rattle.std.specs.Result.{IsErrAnd}
use Rattle.std.proofs.lemmas.Result.{err_from_is_err_and}
use Rattle.long_names.specs.declared.value.Value.{Value}
use Rattle.long_names.specs.Objects.{text_of}
use Rattle.long_names.specs.Heap.{Heap}
use Rattle.long_names.specs.State.{part_at}
use Rattle.long_names.specs.Access.{KindOf, Say}
use Rattle.long_names.proofs.AccessLaws.{part-same}
use Rattle.object_memory.specs.declared.fault.MemFault.{MemFault}
use Rattle.object_memory.specs.declared.fault.MemFault.TheVariants.{CoreFull, WorkFull, WorkFault, Damaged, NamesSpent, Said, Memory}
use Rattle.object_memory.specs.Told.{Told, IsReady}
use Rattle.object_memory.specs.Contract.{Does, MayDo, SaysRefused, Refuses, Called}
use Rattle.object_memory.specs.Shape.{Looks, ReadsObject}
use Rattle.object_memory.proofs.LaterLaws.{IsLater-refl, IsLater-trans}
use Rattle.object_memory.proofs.LeftLaws.{heap_over}
use Rattle.blue_model.specs.declared.cause.Cause.TheVariants.{Shape}
use Rattle.blue_model.specs.declared.cpu.Cpu.{Cpu}
use Rattle.blue_model.specs.Machine.{Machine, LogRow, Outcome, Go, Halt, Spent, Rule, rows_at, log_of, after, then_do, ◌>>=◌, done, pick, clear, numbers, set_numbers, spoken, say}
use Rattle.contexts.specs.declared.stop.Stop.{Stop}
use Rattle.contexts.specs.declared.stop.Stop.TheVariants.{Stuck, Mem}
use Rattle.contexts.specs.Serves.{Stands, IsLogged, IsGo, WasSaying, AllowsAs, Gives, GivesAs, SaidNothing, Says, SaysLast, ServesAs, Serves, Speaks}
use Rattle.contexts.proofs.CacheLaws.{sound_follows}
use Rattle.contexts.proofs.ServesLaws.{fits_later, counts_trans, said_nothing, reason_other, Gives-then, Gives-stop, serves_then, speaks_quiet}
use Rattle.contexts.proofs.Steps.{read_first}
use Rattle.contexts.proofs.ReadLaws.{quiet, refused_reason, logged_here, names_object, object_refused}
use Rattle.contexts.proofs.StoreLaws.{thinned_here}

-- ---- what follows a call that may have said something

-- A call that answered something else said nothing,
pub speaks_not : {A : Type 0} {b : A} {old new : Told} {cpu now : Cpu} {rule : Rule A} {a : A} → Speaks b old cpu new now rule (Ok a) → (a ≡ b → ⊥) → Serves old cpu new now rule (Ok a)
speaks_not {A} {b} {old} {new} {cpu} {now} {rule} {a} s other = record { later = s.later; ready = s.ready; reason = tt; counts = s.counts; vault = s.vault; silent = silent s.silent; model = s.model }
  where
    silent : Says (Some b) old new (Ok a) → SaidNothing old new
    silent (inl e) = absurd (other e)
    silent (inr h) = h

-- so that the rest may say something.
pub speaks_failed : {A B : Type 0} {b : A} {w : Option B} {old mid new : Told} {cpu between now : Cpu} {p : Rule A} (k : A → Rule B) {a : A} {answer : Result B Stop} → Speaks b old cpu mid between p (Ok a) → (a ≡ b → ⊥) → ServesAs w mid between new now (k a) answer → ServesAs w old cpu new now (p >>= k) answer
speaks_failed k f other s = serves_then k (speaks_not f other) s

-- A call that may have said something, and a rest that says nothing, and answers c where the call had said something.
pub speaks_then : {A B : Type 0} {b : A} {c : B} {old mid new : Told} {cpu between now : Cpu} {p : Rule A} (k : A → Rule B) {a : A} {d : B} → Speaks b old cpu mid between p (Ok a) → Serves mid between new now (k a) (Ok d) → (a ≡ b → d ≡ c) → Speaks c old cpu new now (p >>= k) (Ok d)
unfolding ◌>>=◌
speaks_then {A} {B} {b} {c} {old} {mid} {new} {cpu} {between} {now} {p} k {a} {d} f s answers = record {
  later = IsLater-trans old mid new f.later s.later;
  ready = s.ready;
  reason = tt;
  counts = counts_trans old mid new (Ok d) f.later f.counts s.counts;
  vault = λ may. f.vault (s.vault may);
  silent = silent f.silent;
  model = λ told m st. Gives-then (Some (c, old.transcript)) mid new between now (p m) k a (Ok d) (f.model told m st) (λ n sn. s.model (f.later.tells ∙ told) n sn);
}
  where
    silent : Says (Some b) old mid (Ok a) → Says (Some c) old new (Ok d)
    silent (inl e) = inl (answers e)
    silent (inr h) = inr (said_nothing old mid new f.later h s.silent)

-- a rule that goes on, from any machine, to this answer, and says nothing
pub record GoesOn {A : Type 0} (c : A) (rule : Rule A) : Type 0 where
  pub leaves : (m : Machine) → IsGo c (λ n. n.transcript ≡ m.transcript) (rule m)

pub goes_done : {A : Type 0} {a : A} → GoesOn a (done a)
unfolding done
goes_done = record { leaves = λ m. (refl, refl) }

pub goes_clear : (among : ℕ → Bool) → GoesOn (tt {0}) (clear among)
unfolding clear
goes_clear among = record { leaves = λ m. (refl, refl) }

pub goes_then : {A B : Type 0} {p : Rule A} (k : A → Rule B) {a : A} {c : B} → GoesOn a p → GoesOn c (k a) → GoesOn c (p >>= k)
unfolding ◌>>=◌
goes_then {A} {B} {p} k {a} {c} first rest = record { leaves = λ m. go m (p m) (first.leaves m) }
  where
    onward : (m n : Machine) (log : List LogRow) (o : Outcome B) → n.transcript ≡ m.transcript → IsGo c (λ s. s.transcript ≡ n.transcript) o → IsGo c (λ s. s.transcript ≡ m.transcript) (after log o)
    onward m n log (Go d s rows) e g = (g.0, g.1 ∙ e)
    onward m n log (Halt d rows) e g = g
    onward m n log (Spent rows) e g = g

    go : (m : Machine) (o : Outcome A) → IsGo a (λ n. n.transcript ≡ m.transcript) o → IsGo c (λ s. s.transcript ≡ m.transcript) (then_do o k)
    go m (Go b n log) g = onward m n log (k b n) g.1 (subst (λ x. IsGo c (λ s. s.transcript ≡ n.transcript) (k x n)) (sym g.0) (rest.leaves n))
    go m (Halt d log) g = absurd g
    go m (Spent log) g = absurd g

pub goes_false : {A : Type 0} (b : Bool) (p q : Rule A) {c : A} → b ≡ false → GoesOn c q → GoesOn c (pick b p q)
unfolding pick
goes_false b p q {c} e rest = subst (λ x. GoesOn c (pick x p q)) (sym e) rest

pub goes_numbers : {A : Type 0} (k : Cpu → Rule A) {c : A} → ((cpu : Cpu) → GoesOn c (k cpu)) → GoesOn c (numbers >>= k)
unfolding numbers ◌>>=◌
goes_numbers {A} k {c} rest = record { leaves = λ m. go m (k m.cpu m) ((rest m.cpu).leaves m) }
  where
    go : (m : Machine) (o : Outcome A) → IsGo c (λ n. n.transcript ≡ m.transcript) o → IsGo c (λ n. n.transcript ≡ m.transcript) (after [] o)
    go m (Go d n rows) g = g
    go m (Halt d rows) g = g
    go m (Spent rows) g = g

pub goes_set_numbers : (cpu : Cpu) → GoesOn (tt {0}) (set_numbers cpu)
unfolding set_numbers
goes_set_numbers cpu = record { leaves = λ m. (refl, refl) }

-- what was said before a stop
says_other : {A B : Type 0} (b : A) (c : B) (old new : Told) (e : Stop) → Says (Some b) old new (Err e) → Says (Some c) old new (Err e)
says_other b c old new (Stuck d) h = h
says_other b c old new (Mem (CoreFull need)) h = h
says_other b c old new (Mem (WorkFull live room)) h = h
says_other b c old new (Mem (WorkFault count)) h = h
says_other b c old new (Mem (Damaged place name)) h = h
says_other b c old new (Mem NamesSpent) h = h
says_other b c old new (Mem (Said count)) h = h
says_other b c old new (Mem Memory) h = h

-- a refusal to say something
said_then : {A B : Type 0} (b : A) (c : B) (before : List ℕ) (new : Told) (o : Outcome A) (k : A → Rule B) → GoesOn c (k b) → WasSaying b before new o → WasSaying c before new (then_do o k)
said_then {A} {B} b c before new (Go a m log) k rest h = onward (k a m) (subst (λ x. IsGo c (λ s. s.transcript ≡ m.transcript) (k x m)) (sym h.0) (rest.leaves m))
  where
    onward : (o : Outcome B) → IsGo c (λ s. s.transcript ≡ m.transcript) o → WasSaying c before new (after log o)
    onward (Go d s rows) g = (g.0, λ speaks. (let it = h.1 speaks in (it.0, g.1 ∙ it.1, λ none. it.2 (sym g.1 ∙ none))))
    onward (Halt d rows) g = absurd g
    onward (Spent rows) g = absurd g
said_then b c before new (Halt d log) k rest h = absurd h
said_then b c before new (Spent log) k rest h = absurd h

gives_said : {A B : Type 0} (b : A) (c : B) (before : List ℕ) (new : Told) (now : Cpu) (o : Outcome A) (k : A → Rule B) (e : Stop) → GoesOn c (k b) → GivesAs (Some (b, before)) new now (Err e) o → GivesAs (Some (c, before)) new now (Err e) (then_do o k)
gives_said b c before new now o k (Mem (Said count)) rest h = said_then b c before new o k rest h
gives_said b c before new now o k (Mem (CoreFull need)) rest h = Gives-stop (Some (c, before)) new now o k (Mem (CoreFull need)) h
gives_said b c before new now o k (Mem (WorkFull live room)) rest h = Gives-stop (Some (c, before)) new now o k (Mem (WorkFull live room)) h
gives_said b c before new now o k (Mem (WorkFault count)) rest h = tt
gives_said b c before new now o k (Mem (Damaged place name)) rest h = absurd h
gives_said b c before new now o k (Mem NamesSpent) rest h = Gives-stop (Some (c, before)) new now o k (Mem NamesSpent) h
gives_said b c before new now o k (Mem Memory) rest h = tt
gives_said b c before new now o k (Stuck d) rest h = Gives-stop (Some (c, before)) new now o k (Stuck d) h

-- A call that stopped, maybe while it said something: the rest, after what it answers then, goes on to c and says nothing.
pub speaks_stop : {A B : Type 0} {b : A} {c : B} {old new : Told} {cpu now : Cpu} {p : Rule A} (k : A → Rule B) {e : Stop} → Speaks b old cpu new now p (Err e) → GoesOn c (k b) → Speaks c old cpu new now (p >>= k) (Err e)
unfolding ◌>>=◌
speaks_stop {A} {B} {b} {c} {old} {new} {cpu} {now} {p} k {e} f rest = record {
  later = f.later;
  ready = tt;
  reason = reason_other A B old new e f.reason;
  counts = tt;
  vault = tt;
  silent = says_other b c old new e f.silent;
  model = λ told m st. gives_said b c old.transcript new now (p m) k e rest (f.model told m st);
}

-- the exit of its `?`
pub speaks_exit : {A B : Type 0} {b : A} {c : B} {old new : Told} {cpu now : Cpu} {p : Rule A} (k : A → Rule B) {e : Stop} (r : Result B Stop) → Speaks b old cpu new now p (Err e) → GoesOn c (k b) → IsErrAnd r (λ y. y ≡ e) → Speaks c old cpu new now (p >>= k) r
speaks_exit {A} {B} {b} {c} {old} {new} {cpu} {now} {p} k {e} r s rest is =
    let q = err_from_is_err_and r is in
    subst (λ x. Speaks c old cpu new now (p >>= k) x) (sym (q.1 ∙ ap (λ y. Err y) q.2)) (speaks_stop k s rest)

-- ---- the access that says

-- the bytes of an object that a memory has are those of the object in each of its machines
text_here : (t : Told) (cpu : Cpu) (m : Machine) (of : ℕ) → IsReady t → IsTrue t.tells → Stands t cpu m → MayDo t (Say of) → (bytes : List ℕ) × (part_at m.heap (t.regs of) text_of ≡ Some bytes) × (part_at t.heap (t.regs of) text_of ≡ Some bytes)
text_here t cpu m of ready told st may =
    let it = may.heap told in
    (it.0, part-same m.heap t.heap t.regs t.slots (thinned_here t cpu m ready told st) of text_of ∙ it.1, it.1)

-- what joined a list and left it as it was is empty
none_joined : (xs ys : List ℕ) → xs ++ ys ≡ xs → ys ≡ []
none_joined [] ys e = e
none_joined (x ∷ xs) ys e = none_joined xs ys (tail e)
  where
    tail : x ∷ (xs ++ ys) ≡ x ∷ xs → xs ++ ys ≡ xs
    tail e = cc

same_text : (h : Heap) (v : Value) (xs ys : List ℕ) → part_at h v text_of ≡ Some xs → part_at h v text_of ≡ Some ys → xs ≡ ys
same_text h v xs ys e f = let same : Some xs ≡ Some ys = sym e ∙ f in cc

-- the bytes were said,
pub say_serves : {Z : Type 0} {z : Z} {old new : Told} {cpu : Cpu} (of : ℕ) → IsReady old → IsReady new → MayDo old (Say of) → Called old new (Does (Say of)) (Ok z) → Speaks (tt {0}) old cpu new cpu (say (old.regs of)) (Ok tt)
unfolding say
say_serves {Z} {z} {old} {new} {cpu} of before ready may x = record {
  later = x.later;
  ready = ready;
  reason = tt;
  counts = (0, record { counts = x.ok.counts; next = λ told. (let same = (x.ok.heap told).next in omega arith) });
  vault = λ may. may;
  silent = inl refl;
  model = λ told m st. (
      let it = text_here old cpu m of before told st may in
      subst (λ (text : Option (List ℕ)). Gives new cpu (Ok tt) (spoken m (old.regs of) text)) (sym it.1) (refl, stands told m st it.0 it.2));
}
  where
    stands : (told : IsTrue old.tells) (m : Machine) → Stands old cpu m → (bytes : List ℕ) → part_at old.heap (old.regs of) text_of ≡ Some bytes → Stands new cpu (record m { transcript = m.transcript ++ bytes })
    stands told m st bytes is = record {
      heap = heap_over m.heap old new (Say of) st.heap before x.ok told;
      regs = λ r low. st.regs r low ∙ sym (ap (λ (g : ℕ → Value). g r) x.ok.regs);
      slots = st.slots ∙ sym x.ok.slots;
      numbers = st.numbers;
      fits = fits_later old.bounds new.bounds m.largest x.later.bounds st.fits;
      transcript = λ speaks. (
          let spoke = sym x.later.speaks ∙ speaks in
          let said = x.ok.transcript spoke in
          said.1 ∙ ap₂ (λ (s t : List ℕ). s ++ t) (st.transcript spoke) (same_text old.heap (old.regs of) said.0 bytes (said.2 told) is));
      cache = sound_follows old new (Does (Say of)) before ready x.ok told (x.later.tells ∙ told) st.cache;
    }

log_spoken : (m : Machine) (v : Value) (x : Option (List ℕ)) → log_of (spoken m v x) ≡ rows_at m v
log_spoken m v None = refl
log_spoken m v (Some bytes) = refl

-- or a first part of them, or none,
pub say_refused : {Z : Type 0} {old new : Told} {cpu : Cpu} {f : MemFault} (of : ℕ) → IsReady old → MayDo old (Say of) → Called {A = Z} old new (Does (Say of)) (Err f) → Speaks (tt {0}) old cpu new cpu (say (old.regs of)) (Err (Mem f))
unfolding say
say_refused {Z} {old} {new} {cpu} {f} of ready may x = record {
  later = x.later;
  ready = tt;
  reason = refused_reason old new (Say of) f ready x.later x.err;
  counts = tt;
  vault = tt;
  silent = silent f x.err.transcript;
  model = λ told m st. allows told m st f x.err;
}
  where
    silent : (f : MemFault) → SaysRefused (Does (Say of)) old new f → SaysLast (tt {0}) old new (Err (Mem f))
    silent (CoreFull need) h = h
    silent (WorkFull live room) h = h
    silent (WorkFault count) h = h
    silent (Damaged place name) h = h
    silent NamesSpent h = h
    silent (Said count) h = λ speaks. (let it = h speaks in (it.0, it.2))
    silent Memory h = h

    saying : (told : IsTrue old.tells) (m : Machine) → Stands old cpu m → SaysRefused (Does (Say of)) old new (Said 0) → WasSaying (tt {0}) old.transcript new (spoken m (old.regs of) (part_at m.heap (old.regs of) text_of))
    saying told m st h =
        let it = text_here old cpu m of ready told st may in
        subst (λ (text : Option (List ℕ)). WasSaying (tt {0}) old.transcript new (spoken m (old.regs of) text)) (sym it.1) (
          refl,
          λ speaks. (
              let spoke = sym x.later.speaks ∙ speaks in
              let said = h spoke in
              let says = said.3 told in
              let bytes = same_text old.heap (old.regs of) it.0 (said.0 ++ said.1) it.2 says.0 in
              let begun = said.2 ∙ ap (λ (s : List ℕ). s ++ said.0) (st.transcript spoke) in
              (said.1, ap (λ (s : List ℕ). m.transcript ++ s) bytes ∙ sym (append_assoc m.transcript said.0 said.1) ∙ ap (λ (s : List ℕ). s ++ said.1) (sym begun), λ none. says.1 (sym bytes ∙ none_joined m.transcript it.0 (none ∙ st.transcript spoke)))),
        )

    allows : (told : IsTrue old.tells) (m : Machine) → Stands old cpu m → (f : MemFault) → Refuses old new (Does (Say of)) f → AllowsAs (Some (tt {0}, old.transcript)) new f (spoken m (old.regs of) (part_at m.heap (old.regs of) text_of))
    allows told m st (CoreFull need) r =
        let row = subst (λ n. IsLogged n (rows_at m (old.regs of))) (sym (r.cause.1 told)) (logged_here old cpu m (old.regs of) (ready.whole told) (names_object old of ready told may.names) st) in
        subst (IsLogged need) (sym (log_spoken m (old.regs of) (part_at m.heap (old.regs of) text_of))) row
    allows told m st (WorkFull live room) r = let low : 1 ≤ 0 = r.cause.2 in absurd (omega arith)
    allows told m st (WorkFault count) r = tt
    allows told m st (Damaged place name) r = r.cause told
    allows told m st NamesSpent r = let low : 1 ≤ 0 = r.cause.0 in absurd (omega arith)
    allows told m st (Said count) r = saying told m st r.transcript
    allows told m st Memory r = tt

-- or the object couldn't be asked whether it has bytes,
pub say_unread : {Z : Type 0} {old new : Told} {cpu : Cpu} {f : MemFault} (of : ℕ) → IsReady old → ReadsObject {A = Z} old new of (Err f) → Speaks (tt {0}) old cpu new cpu (say (old.regs of)) (Err (Mem f))
unfolding say
say_unread {Z} {old} {new} {cpu} {f} of ready x = speaks_quiet (object_refused of (KindOf of) refl (λ m need row. subst (IsLogged need) (sym (log_spoken m (old.regs of) (part_at m.heap (old.regs of) text_of))) row) ready (λ told. x.named) x.called)

-- or it has none.
pub say_stuck : {t : Told} {cpu : Cpu} (of : ℕ) → IsReady t → (IsTrue t.tells → part_at t.heap (t.regs of) text_of ≡ None) → Serves t cpu t cpu (say (t.regs of)) (Err (Stuck Shape))
unfolding say
say_stuck {t} {cpu} of ready none = record {
  later = IsLater-refl t;
  ready = tt;
  reason = tt;
  counts = tt;
  vault = tt;
  silent = λ speaks. refl;
  model = λ told m st.
      let lost : part_at m.heap (t.regs of) text_of ≡ None = part-same m.heap t.heap t.regs t.slots (thinned_here t cpu m ready told st) of text_of ∙ none told in
      subst (λ (x : Option (List ℕ)). Gives {A = Unit {0}} t cpu (Err (Stuck Shape)) (spoken m (t.regs of) x)) (sym lost) refl;
}

-- the rule after reads
pub say_later : {old mid new : Told} {cpu : Cpu} {answer : Result (Unit {0}) Stop} (of : ℕ) → IsReady old → IsReady mid → Looks [] old mid → Speaks (tt {0}) mid cpu new cpu (say (mid.regs of)) answer → Speaks (tt {0}) old cpu new cpu (say (old.regs of)) answer
say_later {old} {mid} {new} {cpu} {answer} of before ready looks s = read_first before (quiet [] old mid refl before ready looks) (subst (λ v. Speaks (tt {0}) mid cpu new cpu (say v) answer) (looks.regs of refl) s)

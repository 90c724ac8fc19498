-- Trials of primitives: conditions that are met or not, and the table.
use Rattle.std.proofs.Common.{◌≡◌, ℕ, Bool, true, false, eqb, List, ◌∷◌, Option, Some, None, Result, Ok, Err, IsTrue, refl, sym, ap, subst}
use Rattle.std.specs.Result.{IsErrAnd}
use Rattle.object_memory.specs.Told.{Told, IsReady}
use Rattle.object_memory.proofs.LaterLaws.{IsLater-refl}
use Rattle.blue_model.specs.declared.answer.Answer.{Answer}
use Rattle.blue_model.specs.declared.answer.Answer.TheVariants.{Failed}
use Rattle.blue_model.specs.declared.cpu.Cpu.{Cpu}
use Rattle.blue_model.specs.Machine.{Rule, done, pick}
use Rattle.blue_model.specs.Trials.{failed, where_some, where_true, ◌>>?◌, Primitive, with_arguments, primitive_in}
use Rattle.contexts.specs.declared.stop.Stop.{Stop}
use Rattle.contexts.specs.Serves.{GivesAs, with_before, ServesAs, Serves}
use Rattle.contexts.proofs.ServesLaws.{IsCounted-refl, says_quietly, serves_then, serves_stop, serves_exit}

-- ---- ends

-- nothing was done, and the primitive failed
pub failed_serves : {w : Option Answer} {t : Told} {cpu : Cpu} → IsReady t → ServesAs w t cpu t cpu failed (Ok Failed)
unfolding failed done
failed_serves {w} {t} {cpu} ready = record { later = IsLater-refl t; ready = ready; reason = tt; counts = (0, IsCounted-refl t); vault = λ may. may; silent = says_quietly w t t (Ok Failed) (λ speaks. refl); model = λ told m st. (refl, st) }

-- ---- a value that there may be

pub some_then : {A : Type 0} {w : Option Answer} {t new : Told} {cpu now : Cpu} (o : Option A) (k : A → Rule Answer) (a : A) {answer : Result Answer Stop} → (IsTrue t.tells → o ≡ Some a) → ServesAs w t cpu new now (k a) answer → ServesAs w t cpu new now (where_some o k) answer
unfolding where_some
some_then {A} {w} {t} {new} {cpu} {now} o k a {answer} e s = record {
  later = s.later;
  ready = s.ready;
  reason = s.reason;
  counts = s.counts;
  vault = s.vault;
  silent = s.silent;
  model = λ told m st. (let P : Option A → Type 0 = λ x. GivesAs (with_before w t.transcript) new now answer (where_some x k m) in subst P (sym (e told)) (s.model told m st));
}

pub none_fails : {A : Type 0} {w : Option Answer} {t : Told} {cpu : Cpu} (o : Option A) (k : A → Rule Answer) → IsReady t → (IsTrue t.tells → o ≡ None) → ServesAs w t cpu t cpu (where_some o k) (Ok Failed)
unfolding where_some
none_fails {A} {w} {t} {cpu} o k ready e =
    let s : ServesAs w t cpu t cpu failed (Ok Failed) = failed_serves ready in
    record {
      later = s.later;
      ready = s.ready;
      reason = s.reason;
      counts = s.counts;
      vault = s.vault;
      silent = s.silent;
      model = λ told m st. (let P : Option A → Type 0 = λ x. GivesAs (with_before w t.transcript) t cpu (Ok Failed) (where_some x k m) in subst P (sym (e told)) (s.model told m st));
    }

-- ---- a test

pub true_then : {w : Option Answer} {t new : Told} {cpu now : Cpu} (b : Bool) (p : Rule Answer) {answer : Result Answer Stop} → (IsTrue t.tells → b ≡ true) → ServesAs w t cpu new now p answer → ServesAs w t cpu new now (where_true b p) answer
unfolding where_true pick
true_then {w} {t} {new} {cpu} {now} b p {answer} e s = record {
  later = s.later;
  ready = s.ready;
  reason = s.reason;
  counts = s.counts;
  vault = s.vault;
  silent = s.silent;
  model = λ told m st. (let P : Bool → Type 0 = λ x. GivesAs (with_before w t.transcript) new now answer (where_true x p m) in subst P (sym (e told)) (s.model told m st));
}

pub false_fails : {w : Option Answer} {t : Told} {cpu : Cpu} (b : Bool) (p : Rule Answer) → IsReady t → (IsTrue t.tells → b ≡ false) → ServesAs w t cpu t cpu (where_true b p) (Ok Failed)
unfolding where_true pick
false_fails {w} {t} {cpu} b p ready e =
    let s : ServesAs w t cpu t cpu failed (Ok Failed) = failed_serves ready in
    record {
      later = s.later;
      ready = s.ready;
      reason = s.reason;
      counts = s.counts;
      vault = s.vault;
      silent = s.silent;
      model = λ told m st. (let P : Bool → Type 0 = λ x. GivesAs (with_before w t.transcript) t cpu (Ok Failed) (where_true x p m) in subst P (sym (e told)) (s.model told m st));
    }

-- ---- a call that finds one, and then the rest

-- it found one,
pub found_then : {A : Type 0} {w : Option Answer} {old mid new : Told} {cpu between now : Cpu} {p : Rule (Option A)} (k : A → Rule Answer) {o : Option A} {a : A} {answer : Result Answer Stop} → o ≡ Some a → Serves old cpu mid between p (Ok o) → ServesAs w mid between new now (k a) answer → ServesAs w old cpu new now (p >>? k) answer
unfolding ◌>>?◌
found_then {A} {w} {old} {mid} {new} {cpu} {between} {now} {p} k {o} {a} {answer} e f s = serves_then (λ x. where_some x k) f (some_then o k a (λ told. e) s)

-- none,
pub none_found : {A : Type 0} {w : Option Answer} {old new : Told} {cpu now : Cpu} {p : Rule (Option A)} (k : A → Rule Answer) {o : Option A} → o ≡ None → Serves old cpu new now p (Ok o) → ServesAs w old cpu new now (p >>? k) (Ok Failed)
unfolding ◌>>?◌
none_found {A} {w} {old} {new} {cpu} {now} {p} k {o} e f = serves_then (λ x. where_some x k) f (none_fails o k f.ready (λ told. e))

-- or stopped.
pub finding_stopped : {A : Type 0} {w : Option Answer} {old new : Told} {cpu now : Cpu} {p : Rule (Option A)} (k : A → Rule Answer) {e : Stop} → Serves old cpu new now p (Err e) → ServesAs w old cpu new now (p >>? k) (Err e)
unfolding ◌>>?◌
finding_stopped k f = serves_stop (λ x. where_some x k) f

-- the exit of its `?`
pub finding_exit : {A : Type 0} {w : Option Answer} {old new : Told} {cpu now : Cpu} {p : Rule (Option A)} (k : A → Rule Answer) {e : Stop} (r : Result Answer Stop) → Serves old cpu new now p (Err e) → IsErrAnd r (λ y. y ≡ e) → ServesAs w old cpu new now (p >>? k) r
unfolding ◌>>?◌
finding_exit k r f is = serves_exit (λ x. where_some x k) r f is

-- the laws by which trials are followed
pub ruleset trying = (some_then, none_fails, true_then, false_fails, found_then, none_found, finding_exit, failed_serves)

-- ---- the table

-- the rule of an index that a row has, where no row before it has the index
pub primitive_here : (p : Primitive) (ps : List Primitive) (index : ℕ) → eqb p.index index ≡ true → primitive_in (p ∷ ps) index ≡ with_arguments p
unfolding pick
primitive_here p ps index e = ap (λ b. pick b (with_arguments p) (primitive_in ps index)) e

pub primitive_later : (p : Primitive) (ps : List Primitive) (index : ℕ) → eqb p.index index ≡ false → primitive_in (p ∷ ps) index ≡ primitive_in ps index
unfolding pick
primitive_later p ps index e = ap (λ b. pick b (with_arguments p) (primitive_in ps index)) e

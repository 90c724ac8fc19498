-- A part that a rule looks for, found by a call that wants it and is stuck where it isn't there; and the home of a context, found so.
-- A call that finds out in two steps what the rule peeks at once (`peek_home`: first the size, then the home) serves `peek f`
-- where another look says that the part is there. A rule with a condition in the middle answers an Option and not a rest
-- (`block_start`, `method_for`), so that no law on rests is needed.
use Rattle.std.proofs.Common.{◌≡◌, ℕ, nat_le, Bool, true, false, List, [], length, Option, Some, None, Ok, Err, refl, ◌∙◌, ap, ap₂, arith}
use Rattle.std.specs.Prelude.{if◌then◌else◌}
use Rattle.std.specs.Option.{option_and_then}
use Rattle.std.specs.Prelude.{get_or}
use Rattle.std.proofs.lemmas.Bool.{leb-true}
use Rattle.std.proofs.lemmas.Option.{slice_get-get_or}
use Rattle.long_names.specs.declared.value.Value.{Value}
use Rattle.long_names.specs.declared.value.Value.TheVariants.{Int, Ref}
use Rattle.long_names.specs.declared.object.Object.{Object}
use Rattle.long_names.specs.Objects.{pointers_of}
use Rattle.object_memory.specs.declared.fault.MemFault.{MemFault}
use Rattle.object_memory.specs.declared.fault.MemFault.TheVariants.{CoreFull, WorkFull, WorkFault, Damaged, NamesSpent, Said, Memory}
use Rattle.object_memory.specs.Told.{Told}
use Rattle.blue_model.specs.declared.cause.Cause.{Cause}
use Rattle.blue_model.specs.declared.cause.Cause.TheVariants.{Shape}
use Rattle.blue_model.specs.declared.cpu.Cpu.{Cpu}
use Rattle.blue_model.specs.Machine.{Machine, LogRow, Go, Halt, rows_at, looked, look, after, then_do, ◌>>=◌, done, halt, given, part}
use Rattle.blue_model.specs.Parts.{size, home_by, home_in, home_of}
use Rattle.blue_model.specs.Trials.{peek}
use Rattle.contexts.specs.declared.stop.Stop.{Stop}
use Rattle.contexts.specs.declared.stop.Stop.TheVariants.{Stuck, Mem}
use Rattle.contexts.specs.Serves.{IsGo, Allows, Gives, Serves}
use Rattle.contexts.proofs.ServesLaws.{reason_other}

-- ---- in one machine

-- it was there, and so it was found
goes_found : {A : Type 0} (f : Object → Option A) (a : A) (P : Machine → Type 0) (v : Value) (m : Machine) → IsGo a P (part Shape f v m) → IsGo (Some a) P (peek f v m)
unfolding part peek look given done halt ◌>>=◌
goes_found {A} f a P (Int z) m h = absurd h
goes_found {A} f a P (Ref n) m h = go (m.heap.at n) h
  where
    within : (o : Object) (y : Option A) → IsGo a P (after (rows_at m (Ref n)) (given Shape y m)) → IsGo (Some a) P (after (rows_at m (Ref n)) (done y m))
    within o None h = absurd h
    within o (Some y) h = (ap (λ (z : A). Some z) h.0, h.1)

    go : (x : Option Object) → IsGo a P (then_do (looked m (Ref n) x) (λ o. given Shape (f o))) → IsGo (Some a) P (then_do (looked m (Ref n) x) (λ o. done (f o)))
    go None h = absurd h
    go (Some o) h = within o (f o) h

-- a stop is one with any answer
stop_other : {A B : Type 0} (new : Told) (now : Cpu) (e : Stop) (a : A) (b : B) (m : Machine) (log : List LogRow) → Gives {A = A} new now (Err e) (Go a m log) → Gives {A = B} new now (Err e) (Go b m log)
stop_other {A} {B} new now (Stuck c) a b m log h = absurd h
stop_other {A} {B} new now (Mem f) a b m log h = allowed f h
  where
    allowed : (f : MemFault) → Allows {A = A} new f (Go a m log) → Allows {A = B} new f (Go b m log)
    allowed (CoreFull need) h = h
    allowed (WorkFull live room) h = h
    allowed (WorkFault count) h = tt
    allowed (Damaged place name) h = absurd h
    allowed NamesSpent h = absurd h
    allowed (Said count) h = absurd h
    allowed Memory h = tt

halt_other : (A B : Type 0) (new : Told) (now : Cpu) (e : Stop) (c : Cause) (log : List LogRow) → Gives {A = A} new now (Err e) (Halt c log) → Gives {A = B} new now (Err e) (Halt c log)
halt_other A B new now (Stuck d) c log h = h
halt_other A B new now (Mem f) c log h = allowed f h
  where
    allowed : (f : MemFault) → Allows {A = A} new f (Halt c log) → Allows {A = B} new f (Halt c log)
    allowed (CoreFull need) h = h
    allowed (WorkFull live room) h = h
    allowed (WorkFault count) h = tt
    allowed (Damaged place name) h = absurd h
    allowed NamesSpent h = absurd h
    allowed (Said count) h = absurd h
    allowed Memory h = tt

gives_unread : {A B : Type 0} (f : Object → Option A) (g : Object → Option B) (new : Told) (now : Cpu) (e : Stop) (v : Value) (m : Machine) → Gives {A = Option B} new now (Err e) (peek g v m) → Gives {A = Option A} new now (Err e) (peek f v m)
unfolding peek look done ◌>>=◌
gives_unread f g new now e (Int z) m h = stop_other new now e None None m [] h
gives_unread {A} {B} f g new now e (Ref n) m h = go (m.heap.at n) h
  where
    go : (x : Option Object) → Gives {A = Option B} new now (Err e) (then_do (looked m (Ref n) x) (λ o. done (g o))) → Gives {A = Option A} new now (Err e) (then_do (looked m (Ref n) x) (λ o. done (f o)))
    go None h = halt_other (Option B) (Option A) new now e Shape _ h
    go (Some o) h = stop_other new now e (g o) (f o) m _ h

gives_stopped : {A B : Type 0} (f : Object → Option A) (g : Object → Option B) (b : B) → ((o : Object) → g o ≡ Some b → (a : A) × (f o ≡ Some a)) → (new : Told) (now : Cpu) (e : Stop) (P : Machine → Type 0) (v : Value) (m : Machine) → IsGo (Some b) P (peek g v m) → Gives {A = A} new now (Err e) (part Shape f v m) → Gives {A = Option A} new now (Err e) (peek f v m)
unfolding part peek look given done halt ◌>>=◌
gives_stopped {A} {B} f g b there new now e P (Int z) m q h = let no : ◌≡◌ {A = Option B} None (Some b) = q.0 in absurd (cc)
gives_stopped {A} {B} f g b there new now e P (Ref n) m q h = go (m.heap.at n) q h
  where
    within : (y : Option A) (a : A) → y ≡ Some a → Gives {A = A} new now (Err e) (after (rows_at m (Ref n)) (given Shape y m)) → Gives {A = Option A} new now (Err e) (after (rows_at m (Ref n)) (done y m))
    within None a is h = let no : ◌≡◌ {A = Option A} None (Some a) = is in absurd (cc)
    within (Some y) a is h = stop_other new now e y (Some y) m _ h

    go : (x : Option Object) → IsGo (Some b) P (then_do (looked m (Ref n) x) (λ o. done (g o))) → Gives {A = A} new now (Err e) (then_do (looked m (Ref n) x) (λ o. given Shape (f o))) → Gives {A = Option A} new now (Err e) (then_do (looked m (Ref n) x) (λ o. done (f o)))
    go None q h = absurd q
    go (Some o) q h = let it = there o q.0 in within (f o) it.0 it.1 h

goes_lacking : {A B : Type 0} (f : Object → Option A) (g : Object → Option B) → ((o : Object) → g o ≡ None → f o ≡ None) → (P : Machine → Type 0) (v : Value) (m : Machine) → IsGo None P (peek g v m) → IsGo None P (peek f v m)
unfolding peek look done ◌>>=◌
goes_lacking f g lacks P (Int z) m q = (refl, q.1)
goes_lacking {A} {B} f g lacks P (Ref n) m q = go (m.heap.at n) q
  where
    go : (x : Option Object) → IsGo None P (then_do (looked m (Ref n) x) (λ o. done (g o))) → IsGo None P (then_do (looked m (Ref n) x) (λ o. done (f o)))
    go None q = absurd q
    go (Some o) q = (lacks o q.0, q.1)

-- ---- calls

-- The part was there,
pub wanted_found : {A : Type 0} {old new : Told} {cpu now : Cpu} (f : Object → Option A) (v : Value) (a : A) → Serves old cpu new now (part Shape f v) (Ok a) → Serves old cpu new now (peek f v) (Ok (Some a))
wanted_found {A} {old} {new} {cpu} {now} f v a s = record {
  later = s.later;
  ready = s.ready;
  reason = tt;
  counts = s.counts;
  vault = s.vault;
  silent = s.silent;
  model = λ told m st. goes_found f a _ v m (s.model told m st);
}

-- or the call that wanted it was refused, where another part says that it is there;
pub wanted_stopped : {A B : Type 0} {old mid new : Told} {cpu now : Cpu} (f : Object → Option A) (g : Object → Option B) (v : Value) (b : B) {e : Stop} → ((o : Object) → g o ≡ Some b → (a : A) × (f o ≡ Some a)) → Serves old cpu mid cpu (peek g v) (Ok (Some b)) → Serves old cpu new now (part Shape f v) (Err e) → Serves old cpu new now (peek f v) (Err e)
wanted_stopped {A} {B} {old} {mid} {new} {cpu} {now} f g v b {e} there first s = record {
  later = s.later;
  ready = tt;
  reason = reason_other A (Option A) old new e s.reason;
  counts = tt;
  vault = tt;
  silent = s.silent;
  model = λ told m st. gives_stopped f g b there new now e _ v m (first.model told m st) (s.model told m st);
}

-- or another part was refused, before any was found;
pub wanted_unread : {A B : Type 0} {old new : Told} {cpu now : Cpu} (f : Object → Option A) (g : Object → Option B) (v : Value) {e : Stop} → Serves old cpu new now (peek g v) (Err e) → Serves old cpu new now (peek f v) (Err e)
wanted_unread {A} {B} {old} {new} {cpu} {now} f g v {e} s = record {
  later = s.later;
  ready = tt;
  reason = reason_other (Option B) (Option A) old new e s.reason;
  counts = tt;
  vault = tt;
  silent = s.silent;
  model = λ told m st. gives_unread f g new now e v m (s.model told m st);
}

-- or another part says that it isn't.
pub wanted_lacking : {A B : Type 0} {old new : Told} {cpu now : Cpu} (f : Object → Option A) (g : Object → Option B) (v : Value) → ((o : Object) → g o ≡ None → f o ≡ None) → Serves old cpu new now (peek g v) (Ok None) → Serves old cpu new now (peek f v) (Ok None)
wanted_lacking {A} {B} {old} {new} {cpu} {now} f g v lacks s = record {
  later = s.later;
  ready = s.ready;
  reason = tt;
  counts = s.counts;
  vault = s.vault;
  silent = s.silent;
  model = λ told m st. goes_lacking f g lacks _ v m (s.model told m st);
}

-- ---- homes

-- what has the fields of a context has a home,
pub home_there : (context : Value) (n : ℕ) (o : Object) → size 6 o ≡ Some n → (home : Value) × (home_of context o ≡ Some home)
unfolding size home_of
home_there context n o e = go (pointers_of o.body) e
  where
    by_field : (x y : Value) → (home : Value) × (home_by context (Some x) (Some y) ≡ Some home)
    by_field (Int z) y = (y, refl)
    by_field (Ref k) y = (context, refl)

    within : (values : List Value) (enough : Bool) → nat_le 6 (length values) ≡ enough → option_and_then (λ (values : List Value). Some (length values)) (if enough then Some values else None) ≡ Some n → (home : Value) × (option_and_then (home_in context) (if enough then Some values else None) ≡ Some home)
    within values true is e =
        let low = leb-true 6 (length values) is in
        let found = by_field (get_or values 3 context) (get_or values 5 context) in
        (found.0, ap₂ (home_by context) (slice_get-get_or values 3 context (omega arith)) (slice_get-get_or values 5 context (omega arith)) ∙ found.1)
    within values false is e = let no : ◌≡◌ {A = Option ℕ} None (Some n) = e in absurd (cc)

    go : (x : Option (List Value)) → option_and_then (λ (values : List Value). Some (length values)) (option_and_then (λ (values : List Value). if nat_le 6 (length values) then Some values else None) x) ≡ Some n → (home : Value) × (option_and_then (home_in context) (option_and_then (λ (values : List Value). if nat_le 6 (length values) then Some values else None) x) ≡ Some home)
    go None e = let no : ◌≡◌ {A = Option ℕ} None (Some n) = e in absurd (cc)
    go (Some values) e = within values (nat_le 6 (length values)) refl e

-- and what hasn't has none
pub home_lacking : (context : Value) (o : Object) → size 6 o ≡ None → home_of context o ≡ None
unfolding size home_of
home_lacking context o e = go (pointers_of o.body) e
  where
    within : (values : List Value) (enough : Bool) → option_and_then (λ (values : List Value). Some (length values)) (if enough then Some values else None) ≡ None → option_and_then (home_in context) (if enough then Some values else None) ≡ None
    within values true e = let no : ◌≡◌ {A = Option ℕ} (Some (length values)) None = e in absurd (cc)
    within values false e = refl

    go : (x : Option (List Value)) → option_and_then (λ (values : List Value). Some (length values)) (option_and_then (λ (values : List Value). if nat_le 6 (length values) then Some values else None) x) ≡ None → option_and_then (home_in context) (option_and_then (λ (values : List Value). if nat_le 6 (length values) then Some values else None) x) ≡ None
    go None e = refl
    go (Some values) e = within values (nat_le 6 (length values)) e

-- What stopped where a rule wants one part of an object stops where it wants another, which lacks where that one does.
use Rattle.std.proofs.Common.{◌≡◌, ℕ, List, [], ◌++◌, length, Option, Some, None, Err, refl, sym, ◌∙◌, ap, subst}
use Rattle.std.specs.List.{slice_get}
use Rattle.std.specs.Option.{option_and_then}
use Rattle.long_names.specs.declared.value.Value.{Value}
use Rattle.long_names.specs.declared.object.Object.{Object}
use Rattle.long_names.specs.Objects.{int_of}
use Rattle.long_names.specs.State.{object_at}
use Rattle.object_memory.specs.declared.fault.MemFault.{MemFault}
use Rattle.object_memory.specs.declared.fault.MemFault.TheVariants.{CoreFull, WorkFull, WorkFault, Damaged, NamesSpent, Said, Memory}
use Rattle.object_memory.specs.Told.{Told}
use Rattle.blue_model.specs.declared.cause.Cause.TheVariants.{Shape}
use Rattle.blue_model.specs.declared.cpu.Cpu.{Cpu}
use Rattle.blue_model.specs.declared.indexes.TheConstants.{TEMP_FRAME_START}
use Rattle.blue_model.specs.Machine.{Machine, LogRow, Outcome, Go, Halt, Spent, log_of, after, then_do, ◌>>=◌, done, halt, given, rows_at, looked, look, part}
use Rattle.blue_model.specs.Parts.{shaped, size, field, number, home_in, home_of}
use Rattle.blue_model.specs.Contexts.{store_field}
use Rattle.contexts.specs.declared.stop.Stop.{Stop}
use Rattle.contexts.specs.declared.stop.Stop.TheVariants.{Stuck, Mem}
use Rattle.contexts.specs.Serves.{IsLogged, HasMaking, IsSpent, IsStop, Allows, Serves}
use Rattle.contexts.proofs.ServesLaws.{serves_stop}

allow_same : {A B : Type 0} (new : Told) (f : MemFault) (o : Outcome A) (p : Outcome B) → log_of o ≡ log_of p → (IsSpent o → ⊥) → Allows new f o → Allows new f p
allow_same new (CoreFull need) o p log kept h = subst (IsLogged need) log h
allow_same new (WorkFull live room) o p log kept h = subst (HasMaking new.heap.next) log h
allow_same new (WorkFault count) o p log kept h = tt
allow_same new (Damaged place name) o p log kept h = h
allow_same new NamesSpent o p log kept h = absurd (kept h)
allow_same new (Said count) o p log kept h = h
allow_same new Memory o p log kept h = tt

given_log : {A : Type 0} (m : Machine) (x : Option A) → log_of (given Shape x m) ≡ []
unfolding given done halt
given_log m None = refl
given_log m (Some a) = refl

after_log : {A : Type 0} (rows : List LogRow) (o : Outcome A) → log_of (after rows o) ≡ rows ++ log_of o
after_log rows (Go a n log) = refl
after_log rows (Halt d log) = refl
after_log rows (Spent log) = refl

given_kept : {A : Type 0} (rows : List LogRow) (m : Machine) (x : Option A) → IsSpent (after rows (given Shape x m)) → ⊥
unfolding given done halt
given_kept rows m None h = h
given_kept rows m (Some a) h = h

-- a stop of the machine
stuck_at : {A B : Type 0} (c : Stop) (rows : List LogRow) (m : Machine) (x : Option A) (y : Option B) → (x ≡ None → y ≡ None) → IsStop c (after rows (given Shape x m)) → IsStop c (after rows (given Shape y m))
unfolding given done halt
stuck_at {A} {B} (Stuck c) rows m None y lacks h = subst (λ z. IsStop (Stuck c) (after rows (given Shape z m))) (sym (lacks refl)) h
stuck_at (Stuck c) rows m (Some a) y lacks h = absurd h
stuck_at (Mem f) rows m x y lacks h = absurd h

stuck_by : {A B : Type 0} (c : Stop) (f : Object → Option A) (g : Object → Option B) (v : Value) (m : Machine) (x : Option Object) → ((o : Object) → f o ≡ None → g o ≡ None) → IsStop c (then_do (looked m v x) (λ o. given Shape (f o))) → IsStop c (then_do (looked m v x) (λ o. given Shape (g o)))
stuck_by (Stuck c) f g v m None lacks h = h
stuck_by (Mem fault) f g v m None lacks h = absurd h
stuck_by c f g v m (Some o) lacks h = stuck_at c (rows_at m v) m (f o) (g o) (lacks o) h

-- a fault
refused_by : {A B : Type 0} (new : Told) (fault : MemFault) (f : Object → Option A) (g : Object → Option B) (v : Value) (m : Machine) (x : Option Object) → Allows new fault (then_do (looked m v x) (λ o. given Shape (f o))) → Allows new fault (then_do (looked m v x) (λ o. given Shape (g o)))
refused_by {A} {B} new fault f g v m None h = allow_same {A = A} {B = B} new fault (Halt Shape (rows_at m v)) (Halt Shape (rows_at m v)) refl (λ x. x) h
refused_by new fault f g v m (Some o) h =
    allow_same new fault (after (rows_at m v) (given Shape (f o) m)) (after (rows_at m v) (given Shape (g o) m))
    (after_log (rows_at m v) (given Shape (f o) m) ∙ ap (λ l. rows_at m v ++ l) (given_log m (f o) ∙ sym (given_log m (g o))) ∙ sym (after_log (rows_at m v) (given Shape (g o) m)))
    (given_kept (rows_at m v) m (f o)) h

exit_by : {A B : Type 0} {old new : Told} {cpu : Cpu} (e : Stop) (f : Object → Option A) (g : Object → Option B) (v : Value) → ((o : Object) → f o ≡ None → g o ≡ None) → Serves old cpu new cpu (part Shape f v) (Err e) → Serves old cpu new cpu (part Shape g v) (Err e)
unfolding part look ◌>>=◌
exit_by {A} {B} {old} {new} {cpu} (Stuck c) f g v lacks s = record { later = s.later; ready = tt; reason = tt; counts = tt; vault = tt; silent = s.silent; model = λ told m st. stuck_by (Stuck c) f g v m (object_at m.heap v) lacks (s.model told m st) }
exit_by {A} {B} {old} {new} {cpu} (Mem fault) f g v lacks s = record { later = s.later; ready = tt; reason = s.reason; counts = tt; vault = tt; silent = s.silent; model = λ told m st. refused_by new fault f g v m (object_at m.heap v) (s.model told m st) }

pub part_exit : {A B : Type 0} {old new : Told} {cpu : Cpu} {e : Stop} (f : Object → Option A) (g : Object → Option B) (v : Value) → ((o : Object) → f o ≡ None → g o ≡ None) → Serves old cpu new cpu (part Shape f v) (Err e) → Serves old cpu new cpu (part Shape g v) (Err e)
part_exit {A} {B} {old} {new} {cpu} {e} f g v lacks s = exit_by e f g v lacks s

-- ---- an object that hasn't so many fields

shaped_lacks : {B : Type 0} (least : ℕ) (k : List Value → Option B) (o : Object) → size least o ≡ None → option_and_then k (shaped least o) ≡ None
unfolding size
shaped_lacks {B} least k o e = go (shaped least o) e
  where
    go : (x : Option (List Value)) → option_and_then (λ (values : List Value). Some (length values)) x ≡ None → option_and_then k x ≡ None
    go None e = refl
    go (Some values) e = let no : ◌≡◌ {A = Option ℕ} (Some (length values)) None = e in absurd (cc)

field_unsized : (least i : ℕ) (o : Object) → size least o ≡ None → field least i o ≡ None
unfolding field
field_unsized least i o e = shaped_lacks least (λ (values : List Value). slice_get values i) o e

-- has no number in one,
pub number_unsized : (least i : ℕ) (o : Object) → size least o ≡ None → number least i o ≡ None
unfolding number
number_unsized least i o e = ap (option_and_then int_of) (shaped_lacks least (λ (values : List Value). slice_get values i) o e)

-- no home,
pub home_unsized : (context : Value) (o : Object) → size TEMP_FRAME_START o ≡ None → home_of context o ≡ None
unfolding home_of
home_unsized context o e = shaped_lacks TEMP_FRAME_START (home_in context) o e

-- and nothing is stored into it
pub store_unsized : {old new : Told} {cpu : Cpu} {e : Stop} (v : Value) (i : ℕ) (w : Value) → Serves old cpu new cpu (part Shape (size 0) v) (Err e) → Serves old cpu new cpu (store_field v i w) (Err e)
unfolding store_field
store_unsized v i w s = serves_stop _ (part_exit (size 0) (field 0 i) v (field_unsized 0 i) s)

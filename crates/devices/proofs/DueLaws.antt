-- Lines that are due, and a memory that puts out what it can or closes its gaps.
use Rattle.std.proofs.Common.{◌≡◌, ℕ, suc, add-one, ◌+◌, ◌<◌, true, false, eqb, List, [], ◌∷◌, length, drop, Some, Result, Ok, Err, IsTrue, slice_get, sym, ◌∙◌, ap, subst, arith}
use Rattle.std.proofs.Math.Seq.{drop-cons}
use Rattle.std.proofs.lemmas.Option.{slice_get-get_or}
use Rattle.object_memory.specs.declared.fault.MemFault.{MemFault}
use Rattle.object_memory.specs.declared.fault.MemFault.TheVariants.{CoreFull, WorkFull, WorkFault, Damaged, NamesSpent, Said, Memory}
use Rattle.object_memory.specs.Told.{Told, IsReady}
use Rattle.object_memory.specs.Contract.{Thins, IsLater, Follows, Called, HasCause}
use Rattle.blue_model.specs.declared.cpu.Cpu.{Cpu}
use Rattle.blue_model.specs.declared.event.Line.{Line}
use Rattle.blue_model.specs.Machine.{Machine, ◌>>◌, done}
use Rattle.blue_model.specs.Devices.{take_line, take_lines}
use Rattle.contexts.specs.declared.stop.Stop.{Stop}
use Rattle.contexts.specs.declared.stop.Stop.TheVariants.{Mem}
use Rattle.contexts.specs.Serves.{Allows, IsCaused, Serves}
use Rattle.contexts.proofs.CacheLaws.{sound_follows}
use Rattle.contexts.proofs.Steps.{IsQuiet, done_serves, read_last, pick_true, pick_false}
use Rattle.devices.specs.Inside.{is_first, due_at}

-- ---- what changes nothing of the machine

pub thins_quiet : (old new : Told) → IsReady old → IsReady new → IsLater old new → Follows old new Thins → IsQuiet old new
thins_quiet old new before ready later x = record {
  later = later;
  regs = λ r low. ap (λ f. f r) x.regs;
  slots = x.slots;
  heap = x.heap;
  ready = ready;
  counts = record { counts = x.counts; next = λ told. (let same = (x.heap told).next in omega arith) };
  silent = x.transcript;
  sound = λ was told s. sound_follows old new Thins before ready x told (later.tells ∙ told) s;
}

pub thinned : {old new : Told} {cpu : Cpu} → IsReady old → IsReady new → IsLater old new → Follows old new Thins → Serves old cpu new cpu (done (tt {0})) (Ok tt)
thinned {old} {new} {cpu} before ready later x = read_last (done_serves before) (thins_quiet old new before ready later x)

purge_caused : (old new : Told) (f : MemFault) → HasCause old new Thins f → IsCaused old new f
purge_caused old new (CoreFull need) cause = absurd cause.1
purge_caused old new (WorkFull live room) cause = absurd cause.2
purge_caused old new (WorkFault count) cause = cause
purge_caused old new (Damaged place name) cause = cause
purge_caused old new NamesSpent cause = tt
purge_caused old new (Said count) cause = absurd cause.2
purge_caused old new Memory cause = absurd cause.1

purge_allowed : (old new : Told) (m : Machine) (f : MemFault) → IsTrue old.tells → HasCause old new Thins f → Allows new f (done (tt {0}) m)
purge_allowed old new m (CoreFull need) told cause = absurd cause.1
purge_allowed old new m (WorkFull live room) told cause = absurd cause.2
purge_allowed old new m (WorkFault count) told cause = tt
purge_allowed old new m (Damaged place name) told cause = absurd (cause told)
purge_allowed old new m NamesSpent told cause = absurd cause.0
purge_allowed old new m (Said count) told cause = absurd cause.2
purge_allowed old new m Memory told cause = absurd cause.1

pub purge_refused : {A : Type 0} {old new : Told} {cpu : Cpu} {f : MemFault} → Called {A = A} old new Thins (Err f) → Serves old cpu new cpu (done (tt {0})) (Err (Mem f))
purge_refused {A} {old} {new} {cpu} {f} x = record {
  later = x.later;
  ready = tt;
  reason = record { rose = x.err.rose; last = x.err.last; cause = purge_caused old new f x.err.cause };
  counts = tt;
  vault = tt;
  silent = x.err.transcript;
  model = λ told m st. purge_allowed old new m f told x.err.cause;
}

-- ---- lines

-- no line is due
pub lines_none : {t : Told} {cpu : Cpu} (count place : ℕ) (events : List Line) → IsReady t → due_at events place count ≡ false → Serves t cpu t cpu (take_lines count (drop place events)) (Ok tt)
lines_none {t} {cpu} count place events ready none = go (drop place events) none
  where
    go : (lines : List Line) → is_first count lines ≡ false → Serves t cpu t cpu (take_lines count lines) (Ok tt)
    go [] e = done_serves ready
    go (line ∷ lines) e = pick_false _ _ _ e (done_serves ready)

drop-cons-at : (xs : List Line) (i : ℕ) (x : Line) → i < length xs → slice_get xs i ≡ Some x → drop i xs ≡ x ∷ drop (i + 1) xs
drop-cons-at xs i x low at = rw (add-one, drop-cons xs i x) (ap (λ (y : Line). y ∷ drop (suc i) xs) (let e = sym (slice_get-get_or xs i x low) ∙ at in cc))

-- the line at a place, and whether it is due
pub due_here : (events : List Line) (place count : ℕ) (line : Line) → place < length events → slice_get events place ≡ Some line → eqb line.count count ≡ due_at events place count
due_here events place count line low at = sym (ap (is_first count) (drop-cons-at events place line low at))

-- the line at this place is due
pub lines_more : {t new : Told} {cpu now : Cpu} {answer : Result (Unit {0}) Stop} (count place : ℕ) (events : List Line) (line : Line) → slice_get events place ≡ Some line → due_at events place count ≡ true → place < length events → Serves t cpu new now (take_line line >> take_lines count (drop (place + 1) events)) answer → Serves t cpu new now (take_lines count (drop place events)) answer
lines_more {t} {new} {cpu} {now} {answer} count place events line at due low s =
    let front : drop place events ≡ line ∷ drop (place + 1) events = drop-cons-at events place line low at in
    subst (λ (lines : List Line). Serves t cpu new now (take_lines count lines) answer) (sym front) (pick_true _ _ _ (ap (is_first count) (sym front) ∙ due) s)

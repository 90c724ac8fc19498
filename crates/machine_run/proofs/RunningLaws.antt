-- Runs over a memory, and runs of the model.
-- `RunsAs` says in which cycle of the model a run stands or stopped. The loop keeps `Reaches`, and one law makes each exit:
-- `stops_in`, `stops_after` for a cycle and for the settling, `reaches_on`, `stops_on` behind others, `goes_start`, `goes_run`, `goes_park`,
-- `goes_through` for a whole run. `halts` is the one law of stops: what an outcome's stop is, the ending's is, what was said, and
-- which row or making a refusal names. That a model's run stopped there for good is `run_stopped`; what the course of a run is at
-- that bytecode stands in `CourseLaws`, and how many objects live in `RoomLaws`.
use Rattle.std.proofs.Common.{suc, ◌≡◌, ◌≢◌, ℕ, ◌+◌, ◌<◌, ◌≤◌, nat_lt, Bool, true, false, cond, eqb, ◌⊎◌, List, [], ◌++◌, Option, Some, None, is_some, Result, Ok, Err, IsTrue, OnOk, IfErr, inl, inr, refl, sym, ◌∙◌, ap, subst, arith}
use borrow.Author.Tests.{ltb-true, ltb-false}
use Rattle.std.proofs.Math.Path.{fun_ext}
use Rattle.std.specs.Result.{IsErrAnd}
use Rattle.std.proofs.lemmas.Result.{err_from_is_err_and}
use Rattle.long_names.specs.Counting.{Rose}
use Rattle.long_names.specs.declared.value.Value.{Value}
use Rattle.long_names.specs.State.{INPUT_SEMAPHORE, TIMER_SEMAPHORE, DISPLAY}
use Rattle.long_names.specs.Heap.{Heap, object_count}
use Rattle.long_names.specs.Kept.{kept}
use Rattle.long_names.specs.Thin.{IsThinner}
use Rattle.long_names.proofs.ThinLemmas.{IsThinner-trans}
use Rattle.object_memory.specs.Told.{Told, Bounds, IsReady}
use Rattle.object_memory.specs.Contract.{Settles, Settled, IsLater, SameBounds, Called, Follows, HasCause, Raised, IfBounds, CountsKept, work_faults, said_faults}
use Rattle.object_memory.specs.declared.fault.MemFault.{MemFault}
use Rattle.object_memory.specs.declared.fault.MemFault.TheVariants.{CoreFull, WorkFull, WorkFault, Damaged, NamesSpent, Said, Memory}
use Rattle.blue_model.specs.declared.cpu.Cpu.{Cpu}
use Rattle.blue_model.specs.declared.step.Step.{Step}
use Rattle.blue_model.specs.declared.step.Step.TheVariants.{Next, Quit, Keep}
use Rattle.blue_model.specs.declared.event.Line.{Line}
use Rattle.blue_model.specs.Machine.{Machine, LogRow, Outcome, Go, Halt, Spent, Rule, log_of, after, then_do, ◌>>=◌, done, clear, set_numbers}
use Rattle.blue_model.specs.Devices.{clock, picture}
use Rattle.blue_model.proofs.FailLaws.{picture_leaves}
use Rattle.blue_model.specs.Contexts.{start, park}
use Rattle.blue_model.specs.State.{State, begin, restore, tick_or}
use Rattle.blue_model.specs.Earlier.{ending_with_earlier, course_with_earlier, at_rest_after}
use Rattle.blue_model.specs.Cycle.{Ran, Stopped, Stopping, ByCause, BySpentNames, Ending, Parked, ending, run_of, one_more, run, ended, parked, cycle, park_and_draw, count_bytecode}
use Rattle.blue_model.specs.Logs.{Course, course, said_by, rows_after, lives, lives_by, living, IsLive, made_in, AreWithin, rows_of_bytecode}
use Rattle.blue_model.specs.Logs as logs
use Rattle.blue_model.proofs.StartLaws.{begin_leaves}
use Rattle.blue_model.proofs.CountLaws.{runs_count}
use Rattle.blue_model.proofs.LiveLaws.{none_made}
use Rattle.blue_model.proofs.LargestLaws.{within_more, whole_within}
use Rattle.blue_model.proofs.MakingLaws.{none-begin}
use Rattle.blue_model.proofs.MakingTurns.{none-park_and_draw}
use Rattle.blue_model.specs.Cycle as model
use Rattle.contexts.specs.declared.stop.Stop.{Stop}
use Rattle.contexts.specs.declared.stop.Stop.TheVariants.{Stuck, Mem}
use Rattle.contexts.specs.Serves.{HasRest, Stands, IsGo, Gives, GivesAs, IsLogged, HasMaking, MaySay, IsCaused, HasReason, SaidNothing, SaysLast, Serves, ServesAs, Speaks}
use Rattle.contexts.proofs.SpeaksLaws.{GoesOn, goes_done, goes_then, goes_numbers, goes_set_numbers}
use Rattle.contexts.proofs.ServesLaws.{fits_later, Gives-after, gives_earlier, serves_stop, says_quietly}
use Rattle.contexts.proofs.CacheLaws.{sound_follows}
use Rattle.devices.specs.Pictures.{HasGone, IsUndrawn}
use Rattle.machine_run.specs.States.{word_held, model_state, state_held}
use Rattle.machine_run.specs.Run.{Reaches, IsSettled, IsFullIn, StopsIn, IsWorkFault, StopsAfter, RunsAs, HasFault, FaultsBy, CountsAll, Begins, HasSaid, IsHalt, Awaits, GoesThrough, GoesAs, DrawsAs, HaltsAs}
use Rattle.machine_run.proofs.CourseLaws.{course_from, stopped_at_start, run_on, course_begun, logged_behind, rows_at_cycle, lives_at_cycle, next_cycle, said_at_start, rows_at_start, rows_at_end, said_at_end}
use Rattle.machine_run.proofs.RoomLaws.{living_stands, full_lives, unmade}
use Rattle.object_memory.specs.declared.fault.Need.{Need}
use Rattle.blue_model.specs.Endings.{OnParked, OnDrawn, IsParked, IsParkedBy, IsStuckBy, HasCounted, is_last, said_in}
use Rattle.blue_model.proofs.EndingLaws.{last_stays, stopping_of, run_stopped, stopped_by, parked_by}
use Rattle.machine_run.specs.declared.running.Reason.{Reason}
use Rattle.machine_run.specs.declared.running.Reason.TheVariants.{ByStop, NoMemory}
use Rattle.machine_run.specs.declared.running.Finished.{Finished}

-- ---- stops

-- what stopped says nothing of the numbers
pub stop_numbers : {A : Type 0} {w : Option A} {old new : Told} {cpu now other : Cpu} {rule : Rule A} (e : Stop) → ServesAs w old cpu new now rule (Err e) → ServesAs w old cpu new other rule (Err e)
stop_numbers (Stuck c) s = record { later = s.later; ready = s.ready; reason = s.reason; counts = s.counts; vault = tt; silent = s.silent; model = s.model }
stop_numbers (Mem f) s = record { later = s.later; ready = s.ready; reason = s.reason; counts = s.counts; vault = tt; silent = s.silent; model = s.model }

-- the cause of a refusal without the makings before it
caused : (old new : Told) (f : MemFault) → IsCaused old new f → HasFault old new f
caused old new (CoreFull need) h = h
caused old new (WorkFull live room) h = h.0
caused old new (WorkFault count) h = h
caused old new (Damaged place name) h = h
caused old new NamesSpent h = tt
caused old new (Said count) h = h
caused old new Memory h = h

pub faulted : (A : Type 0) (old new : Told) (e : Stop) → HasReason {A = A} old new (Err e) → FaultsBy old new e
faulted A old new (Stuck c) h = tt
faulted A old new (Mem f) h = record { rose = h.rose; last = h.last; cause = caused old new f h.cause }

rose_earlier : (a b c : ℕ) → a ≤ b → Rose b c → Rose a c
rose_earlier a b c low h = omega arith

work_later : (a b : Option Bounds) → SameBounds a b → work_faults a ≤ work_faults b
work_later None None p = omega arith
work_later None (Some c) p = absurd p
work_later (Some b) None p = absurd p
work_later (Some b) (Some c) p = p.3

said_later : (a b : Option Bounds) → SameBounds a b → said_faults a ≤ said_faults b
said_later None None p = omega arith
said_later None (Some c) p = absurd p
said_later (Some b) None p = absurd p
said_later (Some b) (Some c) p = p.4

fault_earlier : (a b c : Told) (f : MemFault) → IsLater a b → HasFault b c f → HasFault a c f
fault_earlier a b c (CoreFull need) l h = h
fault_earlier a b c (WorkFull live room) l h = h
fault_earlier a b c (WorkFault count) l h = (h.0, rose_earlier (work_faults a.bounds) (work_faults b.bounds) (work_faults c.bounds) (work_later a.bounds b.bounds l.bounds) h.1)
fault_earlier a b c (Damaged place name) l h = λ told. h (l.tells ∙ told)
fault_earlier a b c NamesSpent l h = tt
fault_earlier a b c (Said count) l h = (h.0, rose_earlier (said_faults a.bounds) (said_faults b.bounds) (said_faults c.bounds) (said_later a.bounds b.bounds l.bounds) h.1)
fault_earlier a b c Memory l h = h

pub faults_earlier : (a b c : Told) (e : Stop) → IsLater a b → FaultsBy b c e → FaultsBy a c e
faults_earlier a b c (Stuck d) l h = tt
faults_earlier a b c (Mem f) l h = record { rose = rose_earlier a.refusals b.refusals c.refusals l.refusals h.rose; last = h.last; cause = fault_earlier a b c f l h.cause }

-- ---- settling

pub settled_stands : {Z : Type 0} {z : Z} (old new : Told) (cpu : Cpu) (m : Machine) → IsReady old → IsReady new → Called old new Settles (Ok z) → IsTrue old.tells → Stands old cpu m → Stands new cpu m
settled_stands old new cpu m before after x told st = record {
  heap = IsThinner-trans m.heap old.heap new.heap st.heap (x.ok.heap told) (before.whole told).closed;
  regs = λ r low. st.regs r low ∙ sym (ap (λ f. f r) x.ok.regs);
  slots = st.slots ∙ sym x.ok.slots;
  numbers = st.numbers;
  fits = fits_later old.bounds new.bounds m.largest x.later.bounds st.fits;
  transcript = λ speaks. (let spoke = sym x.later.speaks ∙ speaks in x.ok.transcript spoke ∙ st.transcript spoke);
  cache = sound_follows old new Settles before after x.ok told (x.later.tells ∙ told) st.cache;
}

pub settling_faulted : {Z : Type 0} (old new : Told) (f : MemFault) → Called {A = Z} old new Settles (Err f) → FaultsBy old new (Mem f)
settling_faulted old new f x = record { rose = x.err.rose; last = x.err.last; cause = go f x.err.cause }
  where
    go : (f : MemFault) → HasCause old new Settles f → HasFault old new f
    go (CoreFull need) h = h.0
    go (WorkFull live room) h = absurd h.2
    go (WorkFault count) h = h
    go (Damaged place name) h = h
    go NamesSpent h = tt
    go (Said count) h = (h.0, h.1)
    go Memory h = h.0

-- where the heap is told, only the work file can fail it
pub settling_fails : {Z : Type 0} (old new : Told) (f : MemFault) → IsTrue old.tells → Called {A = Z} old new Settles (Err f) → IsWorkFault (Mem f)
settling_fails old new f told x = go f x.err.cause
  where
    go : (f : MemFault) → HasCause old new Settles f → IsWorkFault (Mem f)
    go (CoreFull need) h = absurd h.1
    go (WorkFull live room) h = absurd h.2
    go (WorkFault count) h = tt
    go (Damaged place name) h = absurd (h told)
    go NamesSpent h = absurd h.0
    go (Said count) h = absurd h.2
    go Memory h = absurd h.1

-- ---- cycles

pub reaches_start : (events : List Line) (t : Told) (cpu : Cpu) (m : Machine) → Stands t cpu m → Reaches events t cpu Next 0 m
unfolding run
reaches_start events t cpu m st = record { machine = m; ran = refl; stands = st }

pub reaches_more : (events : List Line) (mid new : Told) (between now : Cpu) (end : Step) (k : ℕ) (m : Machine) → IsTrue mid.tells → Reaches events mid between Next k m → Speaks Next mid between new now (cycle events) (Ok end) → Reaches events new now end (k + 1) m
unfolding run
reaches_more events mid new between now end k m told x s = go (cycle events x.machine) refl (s.model told x.machine x.stands)
  where
    next : (n : ℕ) → suc n ≡ n + 1
    next n = omega arith

    go : (o : Outcome Step) → cycle events x.machine ≡ o → IsGo end (Stands new now) o → Reaches events new now end (k + 1) m
    go (Go a n log) e g = record { machine = n; ran = ap (λ i. run events i m) (sym (next k)) ∙ ap (one_more events) x.ran ∙ ap (run_of x.machine) e ∙ ap (λ s. Ran s n) g.0; stands = g.1 }
    go (Halt c log) e g = absurd g
    go (Spent log) e g = absurd g

-- that a bytecode is counted changes neither its answer nor what was said
pub counts_on : (before : ℕ) → GoesOn Next (count_bytecode before >>= λ _. done Next)
unfolding count_bytecode
counts_on before = goes_then _ (goes_numbers _ (λ cpu. goes_set_numbers _)) goes_done

pub reaches_end : (events : List Line) (new : Told) (now : Cpu) (end : Step) (done k : ℕ) (m : Machine) → is_last end ≡ true → done ≤ k → Reaches events new now end done m → Reaches events new now end k m
reaches_end events new now end done k m last few x = record { machine = x.machine; ran = last_stays events k done end m x.machine last x.ran few; stands = x.stands }

-- what was said when a call stopped that may say something
has_said : (e : Stop) (mid new : Told) (before : List ℕ) → IsTrue mid.speaks → mid.transcript ≡ before → SaysLast Next mid new (Err e) → HasSaid e before new.transcript
has_said (Stuck c) mid new before spoke was s = s spoke ∙ was
has_said (Mem (Said count)) mid new before spoke was s = let joined = s spoke in (joined.0, joined.1 ∙ ap (λ (t : List ℕ). t ++ joined.0) was)
has_said (Mem (CoreFull need)) mid new before spoke was s = s spoke ∙ was
has_said (Mem (WorkFull live room)) mid new before spoke was s = s spoke ∙ was
has_said (Mem (WorkFault count)) mid new before spoke was s = s spoke ∙ was
has_said (Mem (Damaged place name)) mid new before spoke was s = s spoke ∙ was
has_said (Mem NamesSpent) mid new before spoke was s = s spoke ∙ was
has_said (Mem Memory) mid new before spoke was s = s spoke ∙ was

-- and of one that says nothing
said_before : (e : Stop) (mid new : Told) (before : List ℕ) → IsTrue mid.speaks → mid.transcript ≡ before → SaidNothing mid new → HasSaid e before new.transcript
said_before e mid new before spoke was s = has_said e mid new before spoke was (says_quietly (Some Next) mid new (Err e) s)

-- what a settling leaves
pub after_settling : (old new : Told) → Follows old new Settles → IsSettled new
after_settling old new x = go old.bounds new.bounds x.counts x.base
  where
    go : (a b : Option Bounds) → Settled a b → IfBounds b (λ y. CountsKept new y.base) → IfBounds b (λ y. (y.made ≡ 0) × CountsKept new y.base)
    go a None s c = tt
    go None (Some y) s c = absurd s
    go (Some x) (Some y) s c = (s, c)

pub settled_by : {Z : Type 0} (old new : Told) (r : Result Z MemFault) → Called old new Settles r → OnOk r (IsSettled new)
settled_by old new (Ok z) x = after_settling old new x.ok
settled_by old new (Err f) x = tt

-- the memory before a cycle is that before the run, or has settled
settled_before : (old mid : Told) (k : ℕ) → (k ≡ 0 → mid ≡ old) → (0 < k → IsSettled mid) → (0 < k) ⊎ IsSettled old → IsSettled mid
settled_before old mid k first settled (inl more) = settled more
settled_before old mid k first settled (inr is) = go (nat_lt 0 k) refl
  where
    go : (b : Bool) → nat_lt 0 k ≡ b → IsSettled mid
    go true g = settled (ltb-true 0 k g)
    go false g = let none = ltb-false 0 k g in subst IsSettled (sym (first (omega arith))) is

-- no room for an object
full_in : (events : List Line) (old new : Told) (between now : Cpu) (m : Machine) (e : Stop) → IsTrue old.tells → IsReady old → HasRest old → Stands old between m → Speaks Next old between new now (cycle events) (Err e) → IsFullIn events old new e 0 m
full_in events old new between now m (Mem (WorkFull live room)) told ready rest st s = (
  λ none. s.reason.cause,
  λ is. full_lives events old new between m live room told ready rest st (at is) s.reason.cause (s.model told m st),
)
  where
    at : (0 < 0) ⊎ IsSettled old → IsSettled old
    at (inl more) = absurd (omega arith)
    at (inr is) = is
full_in events old new between now m (Stuck c) told ready rest st s = tt
full_in events old new between now m (Mem (CoreFull need)) told ready rest st s = tt
full_in events old new between now m (Mem (WorkFault count)) told ready rest st s = tt
full_in events old new between now m (Mem (Damaged place name)) told ready rest st s = tt
full_in events old new between now m (Mem NamesSpent) told ready rest st s = tt
full_in events old new between now m (Mem (Said count)) told ready rest st s = tt
full_in events old new between now m (Mem Memory) told ready rest st s = tt

pub stops_in : (events : List Line) (old new : Told) (between now : Cpu) (m : Machine) (e : Stop) → IsTrue old.tells → IsReady old → HasRest old → now.ran ≡ between.ran → Stands old between m → Speaks Next old between new now (cycle events) (Err e) → StopsIn events old new now e 1 m
unfolding run
stops_in events old new between now m e told ready rest same st s = record {
  done = 0;
  machine = m;
  few = omega arith;
  ran = refl;
  count = ap (λ (c : Cpu). c.ran) st.numbers ∙ sym same;
  said = λ speaks. (let spoke = sym s.later.speaks ∙ speaks in has_said e old new m.transcript spoke (st.transcript spoke) s.silent);
  gives = gives_earlier (Some Next) m.transcript old.transcript new now (Err e) (cycle events m) (λ speaks. st.transcript (sym s.later.speaks ∙ speaks)) (s.model told m st);
  full = full_in events old new between now m e told ready rest st s;
}

pub stops_after : {Z : Type 0} (events : List Line) (mid new : Told) (now : Cpu) (end : Step) (m : Machine) (f : MemFault) → IsTrue mid.tells → Reaches events mid now end 1 m → Called {A = Z} mid new Settles (Err f) → StopsAfter events new now (Mem f) 1 m
stops_after events mid new now end m f told x c = record {
  done = 1;
  end = end;
  machine = x.machine;
  few = omega arith;
  ran = x.ran;
  count = ap (λ (c : Cpu). c.ran) x.stands.numbers;
  said = λ speaks. (let spoke = sym c.later.speaks ∙ speaks in c.err.transcript spoke ∙ x.stands.transcript spoke);
  fault = settling_fails mid new f told c;
}

-- ---- one cycle and its settling, behind others

pub reaches_on : (events : List Line) (mid new : Told) (between now : Cpu) (end : Step) (k : ℕ) (m : Machine) (x : Reaches events mid between Next k m) → Reaches events new now end 1 x.machine → Reaches events new now end (k + 1) m
reaches_on events mid new between now end k m x y = record { machine = y.machine; ran = run_on events k 1 m x.machine x.ran ∙ y.ran; stands = y.stands }

-- no room in a first cycle that has others before it
full_on : (events : List Line) (old mid new : Told) (k : ℕ) (m : Machine) (e : Stop) → (k ≡ 0 → mid ≡ old) → (0 < k → IsSettled mid) → IsFullIn events mid new e 0 m → IsFullIn events old new e k m
full_on events old mid new k m (Mem (WorkFull live room)) first settled full = (
  λ none. subst (λ x. IsCaused x new (WorkFull live room)) (first none) (full.0 refl),
  λ is. full.1 (inr (settled_before old mid k first settled is)),
)
full_on events old mid new k m (Stuck c) first settled full = tt
full_on events old mid new k m (Mem (CoreFull need)) first settled full = tt
full_on events old mid new k m (Mem (WorkFault count)) first settled full = tt
full_on events old mid new k m (Mem (Damaged place name)) first settled full = tt
full_on events old mid new k m (Mem NamesSpent) first settled full = tt
full_on events old mid new k m (Mem (Said count)) first settled full = tt
full_on events old mid new k m (Mem Memory) first settled full = tt

-- it stopped in the cycle or in the settling
pub stops_on : (events : List Line) (old mid new : Told) (between now : Cpu) (k steps : ℕ) (m : Machine) (e : Stop) → (k ≡ 0 → mid ≡ old) → (0 < k → IsSettled mid) → k < steps → (x : Reaches events mid between Next k m) → RunsAs events mid new now 1 x.machine (Err e) → RunsAs events old new now steps m (Err e)
stops_on events old mid new between now k steps m e first settled few x (inl y) =
    let low = y.few in
    let none : y.done ≡ 0 = omega arith in
    inl record {
      done = k;
      machine = y.machine;
      few = few;
      ran = ap (λ j. run events j m) (let at : k ≡ k + y.done = omega arith in at) ∙ run_on events k y.done m x.machine x.ran ∙ y.ran;
      count = y.count;
      said = y.said;
      gives = y.gives;
      full = full_on events old mid new k y.machine e first settled (subst (λ j. IsFullIn events mid new e j y.machine) none y.full);
    }
stops_on events old mid new between now k steps m e first settled few x (inr y) = inr record {
  done = k + y.done;
  end = y.end;
  machine = y.machine;
  few = (let low = y.few in omega arith);
  ran = run_on events k y.done m x.machine x.ran ∙ y.ran;
  count = y.count;
  said = y.said;
  fault = y.fault;
}

-- the answer of a `?`
pub runs_exit : {events : List Line} {old new : Told} {now : Cpu} {steps : ℕ} {m : Machine} {e : Stop} (r : Result Step Stop) → IsErrAnd r (λ y. y ≡ e) → RunsAs events old new now steps m (Err e) → RunsAs events old new now steps m r
runs_exit {events} {old} {new} {now} {steps} {m} {e} r is h =
    let q = err_from_is_err_and r is in
    subst (λ (x : Result Step Stop). RunsAs events old new now steps m x) (sym (q.1 ∙ ap (λ y. Err y) q.2)) h

-- ---- the model's run behind a stop

pub never : {P : Type 0} → IsTrue false → P
never e = let no : ◌≡◌ {A = Bool} false true = e in absurd (cc)

-- where a memory had no room for an object, so many live at one of these makings
abbrev IsFullAt : Stop → List ℕ → Type 0
IsFullAt (Mem (WorkFull live room)) makings = IsLive live makings
IsFullAt _ makings = Unit {0}

halts : {A : Type 0} (w : Option (A × List ℕ)) (o : Outcome A) (new : Told) (now : Cpu) (e : Stop) (ran steps : ℕ) (c : Course) (said : List ℕ) → GivesAs w new now (Err e) o → ((why : Stopping) → stopping_of o ≡ Some why → c.ending ≡ model.Stuck why ran said) → c.said ran ≡ said → ((need : Need) → IsLogged need (log_of o) → IsLogged need (c.rows ran)) → (HasMaking new.heap.next (log_of o) → IsFullAt e (c.lives ran)) → (MaySay w new o → (ran < steps) × (IsTrue new.speaks → (rest : List ℕ) × (c.said (ran + 1) ≡ new.transcript ++ rest) × (c.said (ran + 1) ≢ said))) → (IsTrue new.speaks → HasSaid e said new.transcript) → IsHalt e ran steps new c
halts w (Halt d log) new now (Stuck x) ran steps c said g f at rows full more s =
    let is : c.ending ≡ model.Stuck (ByCause d) ran said = f (ByCause d) refl in
    let cause : d ≡ x = g in record {
      stops = subst (IsStuckBy (ByCause x) ran) (sym is) (ap (λ y. ByCause y) cause, refl);
      before = tt;
      says = λ speaks. s speaks ∙ sym at;
      own = λ own speaks. s speaks ∙ sym (ap said_in is);
    }
halts w (Go a n log) new now (Stuck x) ran steps c said g f at rows full more s = absurd g
halts w (Spent log) new now (Stuck x) ran steps c said g f at rows full more s = absurd g
halts w (Spent log) new now (Mem NamesSpent) ran steps c said g f at rows full more s =
    let is : c.ending ≡ model.Stuck BySpentNames ran said = f BySpentNames refl in record {
      stops = subst (IsStuckBy BySpentNames ran) (sym is) (refl, refl);
      before = tt;
      says = λ speaks. s speaks ∙ sym at;
      own = λ own speaks. s speaks ∙ sym (ap said_in is);
    }
halts w (Go a n log) new now (Mem NamesSpent) ran steps c said g f at rows full more s = absurd g
halts w (Halt d log) new now (Mem NamesSpent) ran steps c said g f at rows full more s = absurd g
halts w o new now (Mem (CoreFull need)) ran steps c said g f at rows full more s = record { stops = rows need g; before = tt; says = λ speaks. s speaks ∙ sym at; own = λ own. never own }
halts w o new now (Mem (WorkFull live room)) ran steps c said g f at rows full more s = record { stops = full g; before = tt; says = λ speaks. s speaks ∙ sym at; own = λ own. never own }
halts w o new now (Mem (WorkFault count)) ran steps c said g f at rows full more s = record { stops = tt; before = tt; says = λ speaks. s speaks ∙ sym at; own = λ own. never own }
halts w o new now (Mem (Damaged place name)) ran steps c said g f at rows full more s = absurd g
halts w o new now (Mem (Said count)) ran steps c said g f at rows full more s = record {
  stops = tt;
  before = (more g).0;
  says = λ speaks. (let part = s speaks in let next = (more g).1 speaks in (part.0, next.0, part.1 ∙ ap (λ (t : List ℕ). t ++ part.0) (sym at), next.1, λ none. next.2 (none ∙ at)));
  own = λ own. never own;
}
halts w o new now (Mem Memory) ran steps c said g f at rows full more s = record { stops = tt; before = tt; says = λ speaks. s speaks ∙ sym at; own = λ own. never own }

-- a stop in a cycle, of a run from the machine that a start came to
pub run_stops : (events : List Line) (before : Machine) (old new : Told) (now : Cpu) (e : Stop) (steps : ℕ) (u : Unit {0}) (m : Machine) (log : List LogRow) → m.cpu.ran ≡ 0 → IsSettled old → StopsIn events old new now e steps m → IsHalt e now.ran steps new (course_from events steps before (Go u m log))
run_stops events before old new now e steps u m log fresh settled x =
    subst (λ k. IsHalt e k steps new (course_from events steps before (Go u m log))) same
    (halts (Some (Next, x.machine.transcript)) (cycle events x.machine) new now e x.done steps (course_from events steps before (Go u m log)) x.machine.transcript x.gives by (ap said_by x.ran) rows full more x.said)
  where
    count : x.machine.cpu.ran ≡ x.done
    count = let all = runs_count events x.done m x.machine x.ran in omega arith

    same : x.done ≡ now.ran
    same = sym count ∙ x.count

    by : (why : Stopping) → stopping_of (cycle events x.machine) ≡ Some why → ended (run events steps m) ≡ model.Stuck why x.done x.machine.transcript
    by why f = ap ended (run_stopped events steps x.done m x.machine why _ x.ran (stopped_by x.machine (cycle events x.machine) why f) x.few) ∙ ap (λ k. model.Stuck why k x.machine.transcript) count

    rows : (need : Need) → IsLogged need (log_of (cycle events x.machine)) → IsLogged need (cond (eqb x.done 0) log [] ++ rows_after events steps x.done (run events x.done m))
    rows need h = logged_behind need (cond (eqb x.done 0) log []) (rows_after events steps x.done (run events x.done m)) (subst (IsLogged need) (sym (rows_at_cycle events steps x.done m x.machine x.ran x.few)) h)

    room : (e : Stop) → IsFullIn events old new e x.done x.machine → IsFullAt e (lives events x.machine)
    room (Mem (WorkFull live size)) f = f.1 (inr settled)
    room (Stuck c) f = tt
    room (Mem (CoreFull need)) f = tt
    room (Mem (WorkFault faults)) f = tt
    room (Mem (Damaged place name)) f = tt
    room (Mem NamesSpent) f = tt
    room (Mem (Said faults)) f = tt
    room (Mem Memory) f = tt

    full : HasMaking new.heap.next (log_of (cycle events x.machine)) → IsFullAt e (lives_by events steps x.done (run events x.done m))
    full h = subst (IsFullAt e) (sym (lives_at_cycle events steps x.done m x.machine x.ran x.few)) (room e x.full)

    said_more : IsTrue new.speaks → MaySay (Some (Next, x.machine.transcript)) new (cycle events x.machine) → (rest : List ℕ) × (said_by (run events (x.done + 1) m) ≡ new.transcript ++ rest) × (said_by (run events (x.done + 1) m) ≢ x.machine.transcript)
    said_more speaks h = go (cycle events x.machine) refl h
      where
        go : (o : Outcome Step) → cycle events x.machine ≡ o → MaySay (Some (Next, x.machine.transcript)) new o → (rest : List ℕ) × (said_by (run events (x.done + 1) m) ≡ new.transcript ++ rest) × (said_by (run events (x.done + 1) m) ≢ x.machine.transcript)
        go (Go a n rows) f g =
            let told = g.1 speaks in
            let is : said_by (run events (x.done + 1) m) ≡ n.transcript = ap said_by (next_cycle events x.done m x.machine x.ran ∙ ap (run_of x.machine) f) in
            (told.0, is ∙ told.1, λ none. told.2 (sym is ∙ none))
        go (Halt c rows) f g = absurd g
        go (Spent rows) f g = absurd g

    more : MaySay (Some (Next, x.machine.transcript)) new (cycle events x.machine) → (x.done < steps) × (IsTrue new.speaks → (rest : List ℕ) × (said_by (run events (x.done + 1) m) ≡ new.transcript ++ rest) × (said_by (run events (x.done + 1) m) ≢ x.machine.transcript))
    more h = (x.few, λ speaks. said_more speaks h)

-- and one in a settling
pub unsettled_stops : (events : List Line) (before : Machine) (new : Told) (now : Cpu) (e : Stop) (steps : ℕ) (u : Unit {0}) (m : Machine) (log : List LogRow) → m.cpu.ran ≡ 0 → StopsAfter events new now e steps m → IsHalt e now.ran steps new (course_from events steps before (Go u m log))
unsettled_stops events before new now e steps u m log fresh x = go e x.fault
  where
    at : said_by (run events now.ran m) ≡ x.machine.transcript
    at = subst (λ k. said_by (run events k m) ≡ x.machine.transcript) x.count (said_at_end events x.done x.end m x.machine fresh x.ran)

    go : (e : Stop) → IsWorkFault e → IsHalt e now.ran steps new (course_from events steps before (Go u m log))
    go (Stuck c) h = absurd h
    go (Mem (WorkFault count)) h = record { stops = tt; before = tt; says = λ speaks. x.said speaks ∙ sym at; own = λ own. never own }
    go (Mem (CoreFull need)) h = absurd h
    go (Mem (WorkFull live room)) h = absurd h
    go (Mem (Damaged place name)) h = absurd h
    go (Mem NamesSpent) h = absurd h
    go (Mem (Said count)) h = absurd h
    go (Mem Memory) h = absurd h

-- ---- the start

-- the machine at rest that has said what a memory has
abbrev pub rested : Heap → Told → Machine
rested h t = at_rest_after t.transcript h

-- the machine that a memory stands for with which nothing was done yet
abbrev pub fresh_machine : Heap → Told → Cpu → Machine
fresh_machine h t cpu = record (rested h t) { regs = t.regs; cpu = cpu }

-- its start is that of the machine at rest
pub starts_same : (h : Heap) (t : Told) (cpu : Cpu) → start (fresh_machine h t cpu) ≡ start (rested h t)
unfolding start ◌>>=◌ clear set_numbers
starts_same h t cpu = refl

pub begins_same : (state : State) (h : Heap) (t : Told) (cpu : Cpu) → begin state (fresh_machine h t cpu) ≡ begin state (rested h t)
unfolding begin ◌>>=◌
begins_same state h t cpu = ap (λ (o : Outcome (Unit {0})). then_do o (λ _. restore state)) (starts_same h t cpu)

-- a machine that made nothing made nothing too large
pub fits_none : (bounds : Option Bounds) → IfBounds bounds (λ b. 0 ≤ b.core)
fits_none None = tt
fits_none (Some b) = omega arith

pub fresh_stands : (h : Heap) (t : Told) (cpu : Cpu) → Begins h t → Stands t cpu (fresh_machine h t cpu)
fresh_stands h t cpu b = record {
  heap = b.heap;
  regs = λ r low. refl;
  slots = fun_ext (λ i. sym (b.slots i));
  numbers = refl;
  fits = fits_none t.bounds;
  transcript = λ speaks. refl;
  cache = record { sound = λ c s m e. (let no : ◌≡◌ {A = Bool} false true = sym (b.rows c s m) ∙ e in absurd (cc)) };
}

-- ---- from turn to turn

-- a last bytecode comes after no more than as many as were asked for
pub last_counted : (end : Step) (ran all : ℕ) → is_last end ≡ true → ran ≤ all → HasCounted end ran all
last_counted Next ran all e few = absurd (cc)
last_counted Quit ran all e few = few
last_counted Keep ran all e few = few

pub rest_stays : (old new : Told) → new.regs ≡ old.regs → HasRest old → HasRest new
rest_stays old new same rest = record { message = λ r is. ap (λ f. f r) same ∙ rest.message r is; scratch = λ r above high. ap (λ f. f r) same ∙ rest.scratch r above high }

pub faults_exit : {A : Type 0} (old new : Told) (e : Stop) (r : Result A Stop) → IsErrAnd r (λ y. y ≡ e) → FaultsBy old new e → IfErr r (FaultsBy old new)
faults_exit {A} old new e r is h =
    let q = err_from_is_err_and r is in
    subst (λ (x : Result A Stop). IfErr x (FaultsBy old new)) (sym (q.1 ∙ ap (λ y. Err y) q.2)) h

-- ---- whole runs

-- the beginning was made
pub begun : (state : State) (h : Heap) (a mid : Told) (cpu between : Cpu) → IsTrue a.tells → Begins h a → Serves a cpu mid between (begin state) (Ok tt) → IsGo tt (Stands mid between) (begin state (rested h a))
begun state h a mid cpu between told b s = subst (IsGo tt (Stands mid between)) (begins_same state h a cpu) (s.model told (fresh_machine h a cpu) (fresh_stands h a cpu b))

-- the law of a whole run, by what its beginning came to
pub whole : (P : Course → Type 0) (events : List Line) (steps : ℕ) (state : State) (h : Heap) (a : Told) → P (course_from events steps (rested h a) (begin state (rested h a))) → P (course_with_earlier a.transcript (course events steps state h))
whole P events steps state h a x = subst P (course_begun a.transcript events steps state h) x

pub goes_start : (events : List Line) (steps : ℕ) (state : State) (h : Heap) (a new : Told) (cpu now : Cpu) (e : Stop) → IsTrue a.tells → Begins h a → Serves {A = Unit {0}} a cpu new now (begin state) (Err e) → now.ran ≡ 0 → IsHalt e now.ran steps new (course_with_earlier a.transcript (course events steps state h))
goes_start events steps state h a new cpu now e told b s same =
    whole (IsHalt e now.ran steps new) events steps state h a
    (subst (λ k. IsHalt e k steps new (course_from events steps (rested h a) (begin state (rested h a)))) (sym same)
    (halts None (begin state (rested h a)) new now e 0 steps (course_from events steps (rested h a) (begin state (rested h a))) a.transcript
    (subst (Gives {A = Unit {0}} new now (Err e)) (begins_same state h a cpu) (s.model told (fresh_machine h a cpu) (fresh_stands h a cpu b)))
    (stopped_at_start events steps (rested h a) (begin state (rested h a)))
    (said_at_start events state (rested h a))
    (rows_at_start events steps (begin state (rested h a)))
    (λ makes. absurd (unmade new.heap.next (log_of (begin state (rested h a))) (none_made (begin state) (rested h a) (none-begin state)) makes))
    (λ may. absurd may)
    (λ speaks. let spoke = sym s.later.speaks ∙ speaks in said_before e a new a.transcript spoke refl s.silent)))

-- After a beginning the memory's number of living objects is that of the machine, and it has made nothing.
pub start_settled : (state : State) (h : Heap) (a mid : Told) (cpu between : Cpu) → IsTrue a.tells → Begins h a → IsReady mid → HasRest mid → Serves a cpu mid between (begin state) (Ok tt) → IsSettled mid
unfolding living
start_settled state h a mid cpu between told b ready rest s = at (begin state (rested h a)) (begun state h a mid cpu between told b s) refl
  where
    now : IsTrue mid.tells
    now = s.later.tells ∙ told

    kept_here : (n : Machine) → Stands mid between n → n.heap ≡ h → (base : Option ℕ) → CountsAll h base → CountsKept mid base
    kept_here n st same None all = tt
    kept_here n st same (Some base) all = λ tells. sym (living_stands mid between n now ready rest st ∙ ap (λ (x : Heap). object_count (kept x (logs.is_root n))) same ∙ all (logs.is_root n))

    bounds : (n : Machine) → Stands mid between n → n.heap ≡ h → (makings : ℕ) → makings ≡ 0 → (x y : Option Bounds) → Raised makings x y → IfBounds x (λ b. (b.made ≡ 0) × CountsAll h b.base) → IfBounds y (λ b. (b.made ≡ 0) × CountsKept mid b.base)
    bounds n st same k none None None r i = tt
    bounds n st same k none None (Some y) r i = absurd r
    bounds n st same k none (Some x) None r i = absurd r
    bounds n st same k none (Some x) (Some y) r i = ((let made = r.1 in let zero = i.0 in omega arith), kept_here n st same y.base (subst (CountsAll h) (sym r.0) i.1))

    at : (o : Outcome (Unit {0})) → IsGo tt (Stands mid between) o → begin state (rested h a) ≡ o → IsSettled mid
    at (Go u n log) g e =
        let l = begin_leaves state (rested h a) n log e in
        let counts = s.counts in
        let none : counts.0 ≡ 0 = (let next = counts.1.next told in let first = b.heap.next in let last = g.1.heap.next in let same : n.heap.next ≡ h.next = ap (λ (x : Heap). x.next) l.0 in omega arith) in
        bounds n g.1 l.0 counts.0 none a.bounds mid.bounds counts.1.counts b.base
    at (Halt c log) g e = absurd g
    at (Spent log) g e = absurd g

pub goes_run : (events : List Line) (steps : ℕ) (state : State) (h : Heap) (a mid new : Told) (cpu between now : Cpu) (e : Stop) → IsTrue a.tells → Begins h a → Serves a cpu mid between (begin state) (Ok tt) → between.ran ≡ 0 → IsSettled mid → ((m : Machine) → Stands mid between m → RunsAs events mid new now steps m (Err e)) → IsHalt e now.ran steps new (course_with_earlier a.transcript (course events steps state h))
goes_run events steps state h a mid new cpu between now e told b s fresh settled runs = whole (IsHalt e now.ran steps new) events steps state h a (go (begin state (rested h a)) (begun state h a mid cpu between told b s))
  where
    either : (u : Unit {0}) (m : Machine) (log : List LogRow) → m.cpu.ran ≡ 0 → RunsAs events mid new now steps m (Err e) → IsHalt e now.ran steps new (course_from events steps (rested h a) (Go u m log))
    either u m log f (inl x) = run_stops events (rested h a) mid new now e steps u m log f settled x
    either u m log f (inr x) = unsettled_stops events (rested h a) new now e steps u m log f x

    go : (o : Outcome (Unit {0})) → IsGo tt (Stands mid between) o → IsHalt e now.ran steps new (course_from events steps (rested h a) o)
    go (Go u m log) g = either u m log (ap (λ (c : Cpu). c.ran) g.1.numbers ∙ fresh) (runs m g.1)
    go (Halt c log) g = absurd g
    go (Spent log) g = absurd g

-- the rows of park and of the picture are rows of the bytecode after the last
rows_behind : (events : List Line) (steps : ℕ) (end : Step) (m n : Machine) (log : List LogRow) (ran : ℕ) → m.cpu.ran ≡ 0 → run events steps m ≡ Ran end n → n.cpu.ran ≡ ran → (need : Need) → IsLogged need (log_of (park_and_draw n)) → IsLogged need (cond (eqb ran 0) log [] ++ rows_after events steps ran (run events ran m))
rows_behind events steps end m n log ran fresh e count need h = logged_behind need (cond (eqb ran 0) log []) (rows_after events steps ran (run events ran m)) (subst (λ k. IsLogged need (rows_after events steps k (run events k m))) count (subst (IsLogged need) (sym (rows_at_end events steps end m n fresh e)) h))

pub said_behind : (events : List Line) (steps : ℕ) (end : Step) (m n : Machine) (ran : ℕ) → m.cpu.ran ≡ 0 → run events steps m ≡ Ran end n → n.cpu.ran ≡ ran → said_by (run events ran m) ≡ n.transcript
said_behind events steps end m n ran fresh e count = subst (λ k. said_by (run events k m) ≡ n.transcript) count (said_at_end events steps end m n fresh e)

pub goes_park : (events : List Line) (end : Step) (steps : ℕ) (state : State) (h : Heap) (a mid far new : Told) (cpu between then now : Cpu) (e : Stop) → IsTrue a.tells → Begins h a → Serves a cpu mid between (begin state) (Ok tt) → between.ran ≡ 0 → ((m : Machine) → Stands mid between m → Reaches events far then end steps m) → IsTrue far.tells → Serves {A = Unit {0}} far then new now park (Err e) → now ≡ then → IsHalt e now.ran steps new (course_with_earlier a.transcript (course events steps state h))
unfolding park_and_draw
goes_park events end steps state h a mid far new cpu between then now e told b s fresh runs tells p same = whole (IsHalt e now.ran steps new) events steps state h a (go (begin state (rested h a)) (begun state h a mid cpu between told b s))
  where
    at : (u : Unit {0}) (m : Machine) (log : List LogRow) → m.cpu.ran ≡ 0 → Reaches events far then end steps m → IsHalt e now.ran steps new (course_from events steps (rested h a) (Go u m log))
    at u m log f x =
        let count = ap (λ (c : Cpu). c.ran) (x.stands.numbers ∙ sym same) in
        let all : Serves {A = List ℕ} far then new now (park >>= λ _. picture) (Err e) = serves_stop (λ _. picture) p in
        halts None (park_and_draw x.machine) new now e now.ran steps (course_from events steps (rested h a) (Go u m log)) x.machine.transcript (all.model tells x.machine x.stands)
        (λ why g. ap ended x.ran ∙ parked_by end x.machine (park_and_draw x.machine) why g ∙ ap (λ k. model.Stuck why k x.machine.transcript) count)
        (said_behind events steps end m x.machine now.ran f x.ran count)
        (rows_behind events steps end m x.machine log now.ran f x.ran count)
        (λ makes. absurd (unmade new.heap.next (log_of (park_and_draw x.machine)) (none_made park_and_draw x.machine none-park_and_draw) makes))
        (λ may. absurd may)
        (λ speaks. let spoke = sym p.later.speaks ∙ speaks in said_before e far new x.machine.transcript spoke (x.stands.transcript spoke) p.silent)

    go : (o : Outcome (Unit {0})) → IsGo tt (Stands mid between) o → IsHalt e now.ran steps new (course_from events steps (rested h a) o)
    go (Go u m log) g = at u m log (ap (λ (c : Cpu). c.ran) g.1.numbers ∙ fresh) (runs m g.1)
    go (Halt c log) g = absurd g
    go (Spent log) g = absurd g

pub goes_through : (events : List Line) (end : Step) (steps : ℕ) (state : State) (h : Heap) (a mid far new : Told) (cpu between then now : Cpu) → IsTrue a.tells → Begins h a → Serves a cpu mid between (begin state) (Ok tt) → between.ran ≡ 0 → ((m : Machine) → Stands mid between m → Reaches events far then end steps m) → IsTrue far.tells → Serves far then new now park (Ok tt) → now ≡ then → Awaits new now end (course_with_earlier a.transcript (course events steps state h))
unfolding park_and_draw ◌>>=◌
goes_through events end steps state h a mid far new cpu between then now told b s fresh runs tells p same = whole (Awaits new now end) events steps state h a (go (begin state (rested h a)) (begun state h a mid cpu between told b s))
  where
    awaits : (u : Unit {0}) (m : Machine) (log : List LogRow) → m.cpu.ran ≡ 0 → (x : Reaches events far then end steps m) (o : Outcome (Unit {0})) → park x.machine ≡ o → IsGo tt (Stands new now) o → Awaits new now end (course_from events steps (rested h a) (Go u m log))
    awaits u m log f x (Go v n rows) e g =
        let count = ap (λ (c : Cpu). c.ran) (x.stands.numbers ∙ sym same) in
        let drawn : park_and_draw x.machine ≡ after rows (picture n) = ap (λ (o : Outcome (Unit {0})). then_do o (λ _. picture)) e in record {
          machine = n;
          stands = g.1;
          last = x.machine;
          log = rows;
          count = count;
          said = λ speaks. (let spoke = sym p.later.speaks ∙ speaks in p.silent spoke ∙ x.stands.transcript spoke);
          ends = ap ended x.ran ∙ ap (parked end x.machine) drawn;
          told = said_behind events steps end m x.machine now.ran f x.ran count;
          rows = λ need h. rows_behind events steps end m x.machine log now.ran f x.ran count need (subst (λ (o : Outcome (List ℕ)). IsLogged need (log_of o)) (sym drawn) h);
          unmade = subst (λ (o : Outcome (List ℕ)). made_in (log_of o) ≡ []) drawn (none_made park_and_draw x.machine none-park_and_draw);
        }
    awaits u m log f x (Halt c rows) e g = absurd g
    awaits u m log f x (Spent rows) e g = absurd g

    go : (o : Outcome (Unit {0})) → IsGo tt (Stands mid between) o → Awaits new now end (course_from events steps (rested h a) o)
    go (Go u m log) g = let x = runs m g.1 in awaits u m log (ap (λ (c : Cpu). c.ran) g.1.numbers ∙ fresh) x (park x.machine) refl (p.model tells x.machine x.stands)
    go (Halt c log) g = absurd g
    go (Spent log) g = absurd g

pub goes_exit : (new : Told) (now : Cpu) (steps : ℕ) (e : Stop) (r : Result Step Stop) (c : Course) → IsErrAnd r (λ y. y ≡ e) → IsHalt e now.ran steps new c → GoesAs new now steps r c
goes_exit new now steps e r c is h =
    let q = err_from_is_err_and r is in
    subst (λ (x : Result Step Stop). GoesAs new now steps x c) (sym (q.1 ∙ ap (λ y. Err y) q.2)) h

-- ---- the largest object

-- a core that holds what a machine made holds what a run made that came to it
fits_parked : (bounds : Option Bounds) (n : Machine) (run : Ending) → OnParked run (λ m. m ≡ n) → IfBounds bounds (λ b. n.largest ≤ b.core) → IfBounds bounds (λ b. OnParked run (λ m. m.largest ≤ b.core))
fits_parked None n run is fits = tt
fits_parked (Some b) n (Parked end m drawn) is fits = subst (λ (x : Machine). x.largest ≤ b.core) (sym is) fits
fits_parked (Some b) n (model.Stuck why ran said) is fits = absurd is

-- nor does it make a larger one in any of its bytecodes
pub rows_fit : (z : List ℕ) (events : List Line) (steps : ℕ) (state : State) (h : Heap) (new : Told) (finished : Finished) → GoesThrough new finished (course_with_earlier z (course events steps state h)) → IfBounds new.bounds (λ b. (k : ℕ) → AreWithin b.core ((course events steps state h).rows k))
rows_fit z events steps state h new finished x = at new.bounds x.fits
  where
    of : (words k : ℕ) (run : Ending) → ending events steps state h ≡ run → OnParked (ending_with_earlier z run) (λ m. m.largest ≤ words) → AreWithin words (rows_of_bytecode events steps state h k)
    of words k (Parked end m drawn) is few = within_more m.largest words (rows_of_bytecode events steps state h k) few (whole_within events steps k state h end m drawn is)
    of words k (model.Stuck why ran said) is few = absurd few

    at : (bounds : Option Bounds) → IfBounds bounds (λ b. OnParked (ending_with_earlier z (ending events steps state h)) (λ m. m.largest ≤ b.core)) → IfBounds bounds (λ b. (k : ℕ) → AreWithin b.core (rows_of_bytecode events steps state h k))
    at None fits = tt
    at (Some b) fits = λ k. of b.core k (ending events steps state h) refl fits

-- ---- the picture

-- what the memory's registers say of the state, those of the machine do
state_stands : (t : Told) (cpu : Cpu) (m : Machine) → Stands t cpu m → state_held t.regs cpu ≡ state_held m.regs m.cpu
state_stands t cpu m st =
    ap (λ v. with_words v (t.regs INPUT_SEMAPHORE) (t.regs TIMER_SEMAPHORE) cpu) (sym (st.regs DISPLAY (omega arith)))
    ∙ ap (λ v. with_words (m.regs DISPLAY) v (t.regs TIMER_SEMAPHORE) cpu) (sym (st.regs INPUT_SEMAPHORE (omega arith)))
    ∙ ap (λ v. with_words (m.regs DISPLAY) (m.regs INPUT_SEMAPHORE) v cpu) (sym (st.regs TIMER_SEMAPHORE (omega arith)))
    ∙ ap (λ (c : Cpu). state_held m.regs c) (sym st.numbers)
  where
    with_words : Value → Value → Value → Cpu → State
    with_words display input timer cpu = record { clock = clock cpu; display = word_held cpu.display display; input = word_held cpu.input input; timer = word_held (is_some cpu.timer) timer; tick = tick_or cpu.timer }

pub draws_through : (mid new : Told) (now : Cpu) (end : Step) (c : Course) (finished : Finished) → IsTrue mid.tells → Awaits mid now end c → Serves mid now new now picture (Ok finished.picture) → finished.end ≡ end → finished.ran ≡ now.ran → model_state finished.state ≡ state_held new.regs now → GoesThrough new finished c
draws_through mid new now end c finished tells x s last ran left = go (picture x.machine) refl (s.model tells x.machine x.stands)
  where
    go : (o : Outcome (List ℕ)) → picture x.machine ≡ o → IsGo finished.picture (Stands new now) o → GoesThrough new finished c
    go (Go bytes n rows) e g =
        let is : c.ending ≡ parked end x.last (Go bytes n (x.log ++ rows)) = x.ends ∙ ap (λ (o : Outcome (List ℕ)). parked end x.last (after x.log o)) e in record {
          parked = subst (IsParkedBy finished.end finished.ran) (sym is) (sym last, ap (λ (c : Cpu). c.ran) g.1.numbers ∙ sym ran);
          heap = subst (λ y. OnParked y (λ m. IsThinner m.heap new.heap)) (sym is) g.1.heap;
          drawn = subst (λ y. OnDrawn y (λ picture. finished.picture ≡ picture)) (sym is) (sym g.0);
          state = subst (λ y. OnParked y (λ m. model_state finished.state ≡ state_held m.regs m.cpu)) (sym is) (left ∙ state_stands new now n g.1);
          said = λ speaks. g.1.transcript speaks ∙ ap said_in (sym is);
          fits = fits_parked new.bounds n c.ending (subst (λ y. OnParked y (λ m. m ≡ n)) (sym is) refl) g.1.fits;
        }
    go (Halt d rows) e g = absurd g
    go (Spent rows) e g = absurd g

pub draws_stop : (mid new : Told) (now : Cpu) (steps : ℕ) (end : Step) (c : Course) (e : Stop) → IsTrue mid.tells → Awaits mid now end c → Serves {A = List ℕ} mid now new now picture (Err e) → IsHalt e now.ran steps new c
draws_stop mid new now steps end c e tells x s =
    halts None (after x.log (picture x.machine)) new now e now.ran steps c x.last.transcript (Gives-after None new now x.log (picture x.machine) (Err e) (s.model tells x.machine x.stands))
    (λ why f. x.ends ∙ parked_by end x.last (after x.log (picture x.machine)) why f ∙ ap (λ k. model.Stuck why k x.last.transcript) x.count)
    x.told x.rows
    (λ makes. absurd (unmade new.heap.next (log_of (after x.log (picture x.machine))) x.unmade makes))
    (λ may. absurd may)
    (λ speaks. let spoke = sym s.later.speaks ∙ speaks in said_before e mid new x.last.transcript spoke (x.said spoke) s.silent)

-- whatever drawing comes to, what was said is what the run said
pub draws_nothing : (mid new : Told) (now : Cpu) (end : Step) (c : Course) → IsTrue mid.tells → Awaits mid now end c → IsLater mid new → SaidNothing mid new → IsTrue new.speaks → new.transcript ≡ said_in c.ending
draws_nothing mid new now end c tells x later silent speaks =
    let spoke = sym later.speaks ∙ speaks in
    let told : new.transcript ≡ x.machine.transcript = silent spoke ∙ x.stands.transcript spoke in
    let last : new.transcript ≡ x.last.transcript = silent spoke ∙ x.said spoke in
    go (picture x.machine) refl told last ∙ sym (ap said_in x.ends)
  where
    go : (o : Outcome (List ℕ)) → picture x.machine ≡ o → new.transcript ≡ x.machine.transcript → new.transcript ≡ x.last.transcript → new.transcript ≡ said_in (parked end x.last (after x.log o))
    go (Go bytes n rows) e told last = told ∙ ap (λ (m : Machine). m.transcript) (sym (picture_leaves x.machine n bytes rows e))
    go (Halt d rows) e told last = last
    go (Spent rows) e told last = last

-- a machine whose picture the model has was parked
draws_parked : (mid new : Told) (now : Cpu) (end : Step) (c : Course) → IsTrue mid.tells → Awaits mid now end c → IsUndrawn mid now new → IsParked c.ending
draws_parked mid new now end c tells x s = subst IsParked (sym x.ends) (go (picture x.machine) (s.model tells x.machine x.stands))
  where
    go : (o : Outcome (List ℕ)) → HasGone o → IsParked (parked end x.last (after x.log o))
    go (Go bytes m rows) gone = tt
    go (Halt d rows) gone = gone
    go (Spent rows) gone = gone

pub draw_halts : (mid new : Told) (now : Cpu) (steps : ℕ) (end : Step) (c : Course) (why : Reason) → IsTrue mid.tells → Awaits mid now end c → DrawsAs mid now new (Err why) → HaltsAs why now.ran steps new c
draw_halts mid new now steps end c (ByStop stop) tells x s = draws_stop mid new now steps end c stop tells x s
draw_halts mid new now steps end c NoMemory tells x s = (draws_parked mid new now end c tells x s, λ speaks. draws_nothing mid new now end c tells x s.later s.silent speaks)

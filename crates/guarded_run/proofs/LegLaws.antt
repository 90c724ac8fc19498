-- Legs of a guarded run over memories, and the model's guarded run.
-- One law makes each exit: `start_at` and `start_halts` of a start, `continues` of one that goes on from what was kept, and of a leg `leg_runs`, `leg_parks`
-- and `leg_leaves`.
use Rattle.std.proofs.Common.{◌≡◌, ◌≢◌, ℕ, ◌+◌, ◌-◌, ◌<◌, ◌≤◌, nat_lt, Bool, true, false, cond, List, [], ◌∷◌, ◌++◌, Some, None, Result, Ok, Err, OnOk, IsTrue, inl, inr, refl, sym, ◌∙◌, ap, subst, arith}
use Rattle.std.specs.Result.{IsErrAnd}
use Rattle.std.proofs.lemmas.Result.{err_from_is_err_and}
use Rattle.long_names.specs.Heap.{Heap}
use Rattle.long_names.specs.Kept.{kept, no_roots}
use Rattle.object_memory.specs.Told.{Told, IsReady}
use Rattle.object_memory.specs.Contract.{IfBounds}
use Rattle.object_memory.specs.declared.fault.Need.{Need}
use Rattle.object_memory.specs.declared.fault.MemFault.TheVariants.{CoreFull, WorkFull, WorkFault, Damaged, NamesSpent, Said, Memory}
use Rattle.blue_model.specs.declared.cpu.Cpu.{Cpu}
use Rattle.blue_model.specs.declared.event.Line.{Line}
use Rattle.blue_model.specs.declared.limits.TheConstants.{LAST_SERIAL}
use Rattle.blue_model.specs.declared.step.Step.{Step}
use Rattle.blue_model.specs.declared.step.Step.TheVariants.{Next, Quit, Keep}
use Rattle.blue_model.specs.Machine.{Machine, LogRow, Outcome, Go, Halt, Spent, log_of, after, then_do, ◌>>=◌, at_rest}
use Rattle.blue_model.specs.Contexts.{park}
use Rattle.blue_model.specs.Cycle.{Stopping, Ran, run, cycle, parked, park_and_draw}
use Rattle.blue_model.specs.Cycle as model
use Rattle.blue_model.specs.Devices.{picture}
use Rattle.blue_model.specs.Earlier.{outcome_with_earlier}
use Rattle.blue_model.specs.Endings.{HasCounted}
use Rattle.blue_model.specs.Guarded.{Guarded, Going, allowed, as_before, kept_after, guarded_step, guarded_more, guarded_on, rows_due}
use Rattle.blue_model.specs.Loaded.{start_on_kept, loaded}
use Rattle.blue_model.specs.Logs.{made_in, lives}
use Rattle.blue_model.specs.State.{State, begin, state_of}
use Rattle.blue_model.proofs.BeginLaws.{HasParked, park_comes}
use Rattle.blue_model.proofs.CountLaws.{runs_count}
use Rattle.blue_model.proofs.EndingLaws.{stopping_of, parked_by}
use Rattle.blue_model.proofs.LiveLaws.{none_made}
use Rattle.blue_model.proofs.LoadedLaws.{loaded_starts}
use Rattle.blue_model.proofs.MakingLaws.{none-begin, none-park}
use Rattle.blue_model.proofs.MakingTurns.{none-park_and_draw}
use Rattle.blue_model.proofs.StartLaws.{begin_leaves}
use Rattle.contexts.specs.declared.stop.Stop.{Stop}
use Rattle.contexts.specs.declared.stop.Stop.TheVariants.{Stuck, Mem}
use Rattle.contexts.specs.Serves.{HasRest, Stands, IsGo, Gives, IsLogged, HasMaking, MaySay, Serves}
use Rattle.contexts.proofs.ServesLaws.{fits_later, Gives-after, serves_stop}
use Rattle.machine_run.specs.Run.{Awaits, Begins, HasSaid, IsFullIn, IsHalt, IsWorkFault, Reaches, RunsAs, StopsAfter, StopsIn}
use Rattle.machine_run.proofs.CourseLaws.{logged_behind}
use Rattle.machine_run.proofs.RoomLaws.{unmade}
use Rattle.machine_run.proofs.RunningLaws.{never, rested, fresh_machine, fresh_stands, begins_same, begun as began, start_settled}
use Rattle.guarded_run.specs.Course.{begun, said_at, serial_at, rows_at, lives_at, ending_at, course_on}
use Rattle.guarded_run.specs.Legs.{GoesOnFrom, HasWhole, IsAt, IsToKeep, Leaves, Starts, guarded_first, numbers_before}
use Rattle.guarded_run.proofs.CourseLaws.{on_none, on_next, rows_going, lives_going, cycle_stuck, said_kept, rows_kept, kept_stuck, said_begun, rows_begun, begun_stuck, after_leg, said_leg, leg_at, rows_at_end, ends_leg, serial_leg, leg_keeps}
use Rattle.guarded_run.proofs.EarlierLaws.{begin_after}
use Rattle.guarded_run.proofs.HaltLaws.{said_before, IsFullAt, halts}
use Rattle.guarded_run.proofs.WholeLaws.{whole_on, whole_run}

-- ---- rules that make nothing

made_both : (xs ys : List LogRow) → made_in xs ≡ [] → made_in ys ≡ [] → made_in (xs ++ ys) ≡ []
made_both [] ys e f = f
made_both (row ∷ rows) ys e f = go row.makes e (λ rest. made_both rows ys rest f)
  where
    go : (b : Bool) → cond b (row.object ∷ made_in rows) (made_in rows) ≡ [] → (made_in rows ≡ [] → made_in (rows ++ ys) ≡ []) → cond b (row.object ∷ made_in (rows ++ ys)) (made_in (rows ++ ys)) ≡ []
    go true none rest = let no : ◌≡◌ {A = List ℕ} (row.object ∷ made_in rows) [] = none in absurd (cc)
    go false none rest = rest none

-- ---- where a leg stands

-- the machine at which the leg began, by its own count
pub at_start : (events : List Line) (g : Guarded) (serial : ℕ) (t : Told) (cpu : Cpu) (a : IsAt events g serial t cpu) → guarded_on events a.machine.cpu.ran g ≡ Going Next a.machine serial a.rows
at_start events g serial t cpu a = ap (λ (c : Cpu). guarded_on events c.ran g) a.stands.numbers ∙ a.is

-- and where it is after so many bytecodes of all legs
pub leg_now : (events : List Line) (g : Guarded) (serial : ℕ) (t : Told) (cpu now : Cpu) (a : IsAt events g serial t cpu) (j : ℕ) (end : Step) (n : Machine) → run events j a.machine ≡ Ran end n → n.cpu.ran ≡ now.ran → guarded_on events now.ran g ≡ after_leg serial a.rows a.machine end n
leg_now events g serial t cpu now a j end n e count = ap (λ i. guarded_on events i g) (sym count) ∙ (leg_at events j g serial a.rows a.machine n end (at_start events g serial t cpu a) e).1

-- ---- a stop in a bytecode of a leg, and in a settling

leg_stops : (events : List Line) (steps : ℕ) (g : Guarded) (serial : ℕ) (old new : Told) (cpu now : Cpu) (e : Stop) (a : IsAt events g serial old cpu) → cpu.ran ≤ steps → StopsIn events old new now e (steps - cpu.ran) a.machine → IsHalt e now.ran steps new (course_on events steps g)
leg_stops events steps g serial old new cpu now e a low x =
    halts (Some (Next, x.machine.transcript)) (cycle events x.machine) new now e now.ran steps (course_on events steps g) x.machine.transcript x.gives by (ap said_at here) rows full more x.said
  where
    few : now.ran < steps
    few =
        let start : a.machine.cpu.ran ≡ cpu.ran = ap (λ (c : Cpu). c.ran) a.stands.numbers in
        let all : x.machine.cpu.ran ≡ a.machine.cpu.ran + x.done = runs_count events x.done a.machine x.machine x.ran in
        let count = x.count in
        let done = x.few in
        omega arith

    due : List LogRow
    due = rows_due a.machine x.machine a.rows

    here : guarded_on events now.ran g ≡ Going Next x.machine serial due
    here = leg_now events g serial old cpu now a x.done Next x.machine x.ran x.count

    by : (why : Stopping) → stopping_of (cycle events x.machine) ≡ Some why → ending_at (guarded_on events steps g) ≡ model.Stuck why now.ran x.machine.transcript
    by why f = cycle_stuck events now.ran steps g x.machine serial due why here few f ∙ ap (λ k. model.Stuck why k x.machine.transcript) x.count

    rows : (need : Need) → IsLogged need (log_of (cycle events x.machine)) → IsLogged need (rows_at events steps now.ran (guarded_on events now.ran g))
    rows need h = subst (IsLogged need) (sym (ap (rows_at events steps now.ran) here ∙ rows_going events steps now.ran x.machine serial due few)) (logged_behind need due (log_of (cycle events x.machine)) h)

    room : (e : Stop) → IsFullIn events old new e x.done x.machine → IsFullAt e (lives events x.machine)
    room (Mem (WorkFull live size)) f = f.1 (inr a.settled)
    room (Stuck c) f = tt
    room (Mem (CoreFull need)) f = tt
    room (Mem (WorkFault faults)) f = tt
    room (Mem (Damaged place name)) f = tt
    room (Mem NamesSpent) f = tt
    room (Mem (Said faults)) f = tt
    room (Mem Memory) f = tt

    full : HasMaking new.heap.next (log_of (cycle events x.machine)) → IsFullAt e (lives_at events steps now.ran (guarded_on events now.ran g))
    full h = subst (IsFullAt e) (sym (ap (lives_at events steps now.ran) here ∙ lives_going events steps now.ran x.machine serial due few)) (room e x.full)

    said_more : IsTrue new.speaks → MaySay (Some (Next, x.machine.transcript)) new (cycle events x.machine) → (rest : List ℕ) × (said_at (guarded_on events (now.ran + 1) g) ≡ new.transcript ++ rest) × (said_at (guarded_on events (now.ran + 1) g) ≢ x.machine.transcript)
    said_more speaks h = go (cycle events x.machine) refl h
      where
        go : (o : Outcome Step) → cycle events x.machine ≡ o → MaySay (Some (Next, x.machine.transcript)) new o → (rest : List ℕ) × (said_at (guarded_on events (now.ran + 1) g) ≡ new.transcript ++ rest) × (said_at (guarded_on events (now.ran + 1) g) ≢ x.machine.transcript)
        go (Go end n log) f m =
            let told = m.1 speaks in
            let goes : cycle events x.machine ≡ Go Next n log = f ∙ ap (λ (s : Step). Go s n log) m.0 in
            let is : said_at (guarded_on events (now.ran + 1) g) ≡ n.transcript = ap said_at (on_next events now.ran g ∙ ap (guarded_more events) here ∙ ap (guarded_step serial due x.machine) goes) in
            (told.0, is ∙ told.1, λ none. told.2 (sym is ∙ none))
        go (Halt c log) f m = absurd m
        go (Spent log) f m = absurd m

    more : MaySay (Some (Next, x.machine.transcript)) new (cycle events x.machine) → (now.ran < steps) × (IsTrue new.speaks → (rest : List ℕ) × (said_at (guarded_on events (now.ran + 1) g) ≡ new.transcript ++ rest) × (said_at (guarded_on events (now.ran + 1) g) ≢ x.machine.transcript))
    more h = (few, λ speaks. said_more speaks h)

leg_unsettled : (events : List Line) (steps : ℕ) (g : Guarded) (serial : ℕ) (old new : Told) (cpu now : Cpu) (e : Stop) (a : IsAt events g serial old cpu) → StopsAfter events new now e (steps - cpu.ran) a.machine → IsHalt e now.ran steps new (course_on events steps g)
leg_unsettled events steps g serial old new cpu now e a x = go e x.fault
  where
    at : said_at (guarded_on events now.ran g) ≡ x.machine.transcript
    at = ap said_at (leg_now events g serial old cpu now a x.done x.end x.machine x.ran x.count) ∙ said_leg serial a.rows a.machine x.end x.machine

    go : (e : Stop) → IsWorkFault e → IsHalt e now.ran steps new (course_on events steps g)
    go (Stuck c) h = absurd h
    go (Mem (WorkFault count)) h = record { stops = tt; before = tt; says = λ speaks. x.said speaks ∙ sym at; own = λ own. never own }
    go (Mem (CoreFull need)) h = absurd h
    go (Mem (WorkFull live room)) h = absurd h
    go (Mem (Damaged place name)) h = absurd h
    go (Mem NamesSpent) h = absurd h
    go (Mem (Said count)) h = absurd h
    go (Mem Memory) h = absurd h

-- a stop in the run of a leg
pub leg_runs : (events : List Line) (steps : ℕ) (g : Guarded) (serial : ℕ) (old new : Told) (cpu now : Cpu) (e : Stop) (a : IsAt events g serial old cpu) → cpu.ran ≤ steps → RunsAs events old new now (steps - cpu.ran) a.machine (Err e) → IsHalt e now.ran steps new (course_on events steps g)
leg_runs events steps g serial old new cpu now e a low (inl x) = leg_stops events steps g serial old new cpu now e a low x
leg_runs events steps g serial old new cpu now e a low (inr x) = leg_unsettled events steps g serial old new cpu now e a x

-- ---- a stop in a loading: in parking, or in the start on what was kept

loaded_unmade : (m : Machine) → made_in (log_of (loaded m)) ≡ []
unfolding loaded start_on_kept ◌>>=◌
loaded_unmade m = go (park m) (none_made park m none-park)
  where
    behind : (rows : List LogRow) (o : Outcome (Unit {0})) → made_in rows ≡ [] → made_in (log_of o) ≡ [] → made_in (log_of (after rows o)) ≡ []
    behind rows (Go a n log) e f = made_both rows log e f
    behind rows (Halt c log) e f = made_both rows log e f
    behind rows (Spent log) e f = made_both rows log e f

    go : (o : Outcome (Unit {0})) → made_in (log_of o) ≡ [] → made_in (log_of (then_do o (λ _. start_on_kept))) ≡ []
    go (Go a p rows) e = behind rows (begin (state_of p) (at_rest (kept p.heap no_roots))) e (none_made (begin (state_of p)) (at_rest (kept p.heap no_roots)) (none-begin (state_of p)))
    go (Halt c rows) e = e
    go (Spent rows) e = e

kept_halts : (events : List Line) (steps : ℕ) (g : Guarded) (serial : ℕ) (new : Told) (now : Cpu) (e : Stop) (m : Machine) → guarded_on events now.ran g ≡ kept_after serial m (loaded m) → m.cpu.ran ≡ now.ran → now.ran ≤ steps → Gives {A = Unit {0}} new now (Err e) (loaded m) → (IsTrue new.speaks → HasSaid e m.transcript new.transcript) → IsHalt e now.ran steps new (course_on events steps g)
kept_halts events steps g serial new now e m is count few gives said =
    halts None (loaded m) new now e now.ran steps (course_on events steps g) m.transcript gives
    (λ why f. kept_stuck events now.ran steps g serial m (loaded m) why is few f ∙ ap (λ k. model.Stuck why k m.transcript) count)
    (ap said_at is ∙ said_kept serial m (loaded m))
    (λ need h. subst (λ x. IsLogged need (rows_at events steps now.ran x)) (sym is) (rows_kept events steps now.ran serial m (loaded m) need few (sym count) h))
    (λ makes. absurd (unmade new.heap.next (log_of (loaded m)) (loaded_unmade m) makes))
    (λ may. absurd may)
    said

-- ---- the end of a leg

-- a stop in parking and drawing behind the last bytecode
last_halts : (events : List Line) (steps : ℕ) (g : Guarded) (serial : ℕ) (rows : List LogRow) (m : Machine) (new : Told) (now : Cpu) (e : Stop) (end : Step) (n : Machine) → guarded_on events n.cpu.ran g ≡ after_leg serial rows m end n → n.cpu.ran ≡ now.ran → n.cpu.ran ≤ steps → (end ≡ Next → n.cpu.ran ≡ steps) → (end ≡ Keep → ⊥) → Gives {A = List ℕ} new now (Err e) (park_and_draw n) → (IsTrue new.speaks → HasSaid e n.transcript new.transcript) → IsHalt e now.ran steps new (course_on events steps g)
last_halts events steps g serial rows m new now e end n is count few all parts gives said =
    subst (λ k. IsHalt e k steps new (course_on events steps g)) count
    (halts None (park_and_draw n) new now e n.cpu.ran steps (course_on events steps g) n.transcript gives
    (λ why f. ends_leg events steps g serial rows m end n few all parts is ∙ parked_by end n (park_and_draw n) why f)
    (ap said_at is ∙ said_leg serial rows m end n)
    (λ need h. subst (λ x. IsLogged need (rows_at events steps n.cpu.ran x)) (sym is) (rows_at_end events steps serial rows m end n need few all parts h))
    (λ makes. absurd (unmade new.heap.next (log_of (park_and_draw n)) (none_made park_and_draw n none-park_and_draw) makes))
    (λ may. absurd may)
    said)

-- so many bytecodes are left of all, and parking counts none
pub counted_all : (end : Step) (cpu then now : Cpu) (steps : ℕ) → cpu.ran ≤ steps → now ≡ then → HasCounted end then.ran (cpu.ran + (steps - cpu.ran)) → HasCounted end now.ran steps
counted_all end cpu then now steps few same h = subst (λ (k : ℕ). HasCounted end now.ran k) (let all : cpu.ran + (steps - cpu.ran) ≡ steps = omega arith in all) (subst (λ (c : Cpu). HasCounted end c.ran (cpu.ran + (steps - cpu.ran))) (sym same) h)

few_counted : (end : Step) (ran steps : ℕ) → HasCounted end ran steps → ran ≤ steps
few_counted Next ran steps h = omega arith
few_counted Quit ran steps h = h
few_counted Keep ran steps h = h

pub leg_parks : (events : List Line) (steps : ℕ) (g : Guarded) (serial : ℕ) (old far new : Told) (cpu then now : Cpu) (end : Step) (e : Stop) (a : IsAt events g serial old cpu) → Reaches events far then end (steps - cpu.ran) a.machine → IsTrue far.tells → Serves {A = Unit {0}} far then new now park (Err e) → now ≡ then → HasCounted end now.ran steps → IsHalt e now.ran steps new (course_on events steps g)
unfolding park_and_draw loaded
leg_parks events steps g serial old far new cpu then now end e a x tells p same counted = go end here counted
  where
    count : x.machine.cpu.ran ≡ now.ran
    count = ap (λ (c : Cpu). c.ran) (x.stands.numbers ∙ sym same)

    here : guarded_on events now.ran g ≡ after_leg serial a.rows a.machine end x.machine
    here = leg_now events g serial old cpu now a (steps - cpu.ran) end x.machine x.ran count

    said : IsTrue new.speaks → HasSaid e x.machine.transcript new.transcript
    said speaks = let spoke = sym p.later.speaks ∙ speaks in said_before e far new x.machine.transcript spoke (x.stands.transcript spoke) p.silent

    last : (end : Step) → guarded_on events now.ran g ≡ after_leg serial a.rows a.machine end x.machine → HasCounted end now.ran steps → (end ≡ Next → now.ran ≡ steps) → (end ≡ Keep → ⊥) → IsHalt e now.ran steps new (course_on events steps g)
    last end is counted all parts =
        let drawn : Serves {A = List ℕ} far then new now (park >>= λ _. picture) (Err e) = serves_stop (λ _. picture) p in
        last_halts events steps g serial a.rows a.machine new now e end x.machine (ap (λ i. guarded_on events i g) count ∙ is) count (let few = few_counted end now.ran steps counted in let as_many = count in omega arith) (λ is. count ∙ all is) parts (drawn.model tells x.machine x.stands) said

    go : (end : Step) → guarded_on events now.ran g ≡ after_leg serial a.rows a.machine end x.machine → HasCounted end now.ran steps → IsHalt e now.ran steps new (course_on events steps g)
    go Next is counted = last Next is counted (λ _. counted) (λ no. absurd (cc))
    go Quit is counted = last Quit is counted (λ no. absurd (cc)) (λ no. absurd (cc))
    go Keep is counted =
        let stopped : Serves {A = Unit {0}} far then new now (park >>= λ _. start_on_kept) (Err e) = serves_stop (λ _. start_on_kept) p in
        kept_halts events steps g serial new now e x.machine is count counted (stopped.model tells x.machine x.stands) said

pub leg_leaves : (events : List Line) (steps : ℕ) (g : Guarded) (serial : ℕ) (old far new : Told) (cpu then now : Cpu) (end : Step) (a : IsAt events g serial old cpu) → Reaches events far then end (steps - cpu.ran) a.machine → IsTrue far.tells → Serves far then new now park (Ok tt) → now ≡ then → HasCounted end now.ran steps → Leaves events steps g serial new now (Ok end)
unfolding park_and_draw ◌>>=◌
leg_leaves events steps g serial old far new cpu then now end a x tells p same counted = go end x.ran here counted (park x.machine) refl (p.model tells x.machine x.stands)
  where
    count : x.machine.cpu.ran ≡ now.ran
    count = ap (λ (c : Cpu). c.ran) (x.stands.numbers ∙ sym same)

    here : guarded_on events now.ran g ≡ after_leg serial a.rows a.machine end x.machine
    here = leg_now events g serial old cpu now a (steps - cpu.ran) end x.machine x.ran count

    awaits : (end : Step) → guarded_on events now.ran g ≡ after_leg serial a.rows a.machine end x.machine → HasCounted end now.ran steps → (end ≡ Next → now.ran ≡ steps) → (end ≡ Keep → ⊥) → (v : Unit {0}) (n : Machine) (rows : List LogRow) → park x.machine ≡ Go v n rows → Stands new now n → Awaits new now end (course_on events steps g)
    awaits end is counted all parts v n rows f stands =
        let drawn : park_and_draw x.machine ≡ after rows (picture n) = ap (λ (o : Outcome (Unit {0})). then_do o (λ _. picture)) f in
        let few : x.machine.cpu.ran ≤ steps = (let low = few_counted end now.ran steps counted in let same = count in omega arith) in
        let at : guarded_on events x.machine.cpu.ran g ≡ after_leg serial a.rows a.machine end x.machine = ap (λ i. guarded_on events i g) count ∙ is in
        let last : end ≡ Next → x.machine.cpu.ran ≡ steps = λ e. count ∙ all e in record {
          machine = n;
          stands = stands;
          last = x.machine;
          log = rows;
          count = count;
          said = λ speaks. (let spoke = sym p.later.speaks ∙ speaks in p.silent spoke ∙ x.stands.transcript spoke);
          ends = ends_leg events steps g serial a.rows a.machine end x.machine few last parts at ∙ ap (parked end x.machine) drawn;
          told = ap said_at is ∙ said_leg serial a.rows a.machine end x.machine;
          rows = λ need h.
              subst (λ k. IsLogged need (rows_at events steps k (guarded_on events k g))) count
              (subst (λ (y : Guarded). IsLogged need (rows_at events steps x.machine.cpu.ran y)) (sym at)
              (rows_at_end events steps serial a.rows a.machine end x.machine need few last parts (subst (λ (o : Outcome (List ℕ)). IsLogged need (log_of o)) (sym drawn) h)));
          unmade = subst (λ (o : Outcome (List ℕ)). made_in (log_of o) ≡ []) drawn (none_made park_and_draw x.machine none-park_and_draw);
        }

    under : (end : Step) → guarded_on events now.ran g ≡ after_leg serial a.rows a.machine end x.machine → HasCounted end now.ran steps → (end ≡ Next → now.ran ≡ steps) → (end ≡ Keep → ⊥) → serial_at (guarded_on events steps g) ≡ serial
    under end is counted all parts =
        let few : x.machine.cpu.ran ≤ steps = (let low = few_counted end now.ran steps counted in let same = count in omega arith) in
        serial_leg events steps g serial a.rows a.machine end x.machine few (λ e. count ∙ all e) parts (ap (λ i. guarded_on events i g) count ∙ is)

    keeps : run events (steps - cpu.ran) a.machine ≡ Ran Keep x.machine → guarded_on events now.ran g ≡ kept_after serial x.machine (loaded x.machine) → (v : Unit {0}) (n : Machine) (rows : List LogRow) → park x.machine ≡ Go v n rows → Stands new now n → IsToKeep events g serial new now n
    keeps ran is v n rows f stands =
        let k = leg_keeps events (steps - cpu.ran) g serial a.rows a.machine x.machine (at_start events g serial old cpu a) ran in
        record {
          earlier = k.earlier;
          ran = sym count ∙ k.ran;
          before = k.before;
          behind = k.behind;
          was = k.was;
          machine = x.machine;
          log = k.log;
          did = k.did;
          rows = rows;
          is = is;
          parks = f;
          stands = stands;
          whole = λ first. whole_run events (steps - cpu.ran) a.machine x.machine Keep ran (subst HasWhole a.is (whole_on events cpu.ran g first));
        }

    go : (end : Step) → run events (steps - cpu.ran) a.machine ≡ Ran end x.machine → guarded_on events now.ran g ≡ after_leg serial a.rows a.machine end x.machine → HasCounted end now.ran steps → (o : Outcome (Unit {0})) → park x.machine ≡ o → IsGo tt (Stands new now) o → Leaves events steps g serial new now (Ok end)
    go Next ran is counted (Go v n rows) f gone = (awaits Next is counted (λ _. counted) (λ no. absurd (cc)) v n rows f gone.1, under Next is counted (λ _. counted) (λ no. absurd (cc)))
    go Quit ran is counted (Go v n rows) f gone = (awaits Quit is counted (λ no. absurd (cc)) (λ no. absurd (cc)) v n rows f gone.1, under Quit is counted (λ no. absurd (cc)) (λ no. absurd (cc)))
    go Keep ran is counted (Go v n rows) f gone = (n, keeps ran is v n rows f gone.1)
    go end ran is counted (Halt c rows) f gone = absurd gone
    go end ran is counted (Spent rows) f gone = absurd gone

-- ---- a start

pub start_halts : (events : List Line) (steps serial : ℕ) (state : State) (h : Heap) (a new : Told) (cpu now : Cpu) (e : Stop) → IsTrue a.tells → Begins h a → Serves {A = Unit {0}} a cpu new now (begin state) (Err e) → now.ran ≡ 0 → IsHalt e now.ran steps new (course_on events steps (guarded_first serial a.transcript state h))
start_halts events steps serial state h a new cpu now e told b s same =
    subst (λ k. IsHalt e k steps new (course_on events steps g)) (sym same)
    (halts None (begin state (rested h a)) new now e 0 steps (course_on events steps g) a.transcript
    (subst (Gives {A = Unit {0}} new now (Err e)) (begins_same state h a cpu) (s.model told (fresh_machine h a cpu) (fresh_stands h a cpu b)))
    (begun_stuck events steps serial (rested h a) (begin state (rested h a)))
    (ap said_at (on_none events g) ∙ said_begun serial (rested h a) (begin state (rested h a)) (λ m log f. (begin_leaves state (rested h a) m log f).1))
    (λ need row. subst (λ x. IsLogged need (rows_at events steps 0 x)) (sym (on_none events g)) (rows_begun events steps serial (rested h a) (begin state (rested h a)) need refl row))
    (λ makes. absurd (unmade new.heap.next (log_of (begin state (rested h a))) (none_made (begin state) (rested h a) (none-begin state)) makes))
    (λ may. absurd may)
    (λ speaks. let spoke = sym s.later.speaks ∙ speaks in said_before e a new a.transcript spoke refl s.silent))
  where
    g : Guarded
    g = guarded_first serial a.transcript state h

pub start_at : (events : List Line) (serial : ℕ) (state : State) (h : Heap) (a mid : Told) (cpu between : Cpu) → IsTrue a.tells → Begins h a → IsReady mid → HasRest mid → Serves a cpu mid between (begin state) (Ok tt) → between.ran ≡ 0 → IsAt events (guarded_first serial a.transcript state h) serial mid (record between { vault = nat_lt serial LAST_SERIAL })
start_at events serial state h a mid cpu between told b ready rest s fresh = go (begin state (rested h a)) refl (began state h a mid cpu between told b s)
  where
    go : (o : Outcome (Unit {0})) → begin state (rested h a) ≡ o → IsGo tt (Stands mid between) o → IsAt events (guarded_first serial a.transcript state h) serial mid (record between { vault = nat_lt serial LAST_SERIAL })
    go (Go u m log) e gone = record {
      machine = allowed serial m;
      rows = log;
      is = ap (λ i. guarded_on events i (guarded_first serial a.transcript state h)) fresh ∙ on_none events (guarded_first serial a.transcript state h) ∙ ap (begun serial (rested h a)) e;
      stands = record {
        heap = gone.1.heap;
        regs = gone.1.regs;
        slots = gone.1.slots;
        numbers = ap (λ (c : Cpu). record c { vault = nat_lt serial LAST_SERIAL }) gone.1.numbers;
        transcript = gone.1.transcript;
        cache = gone.1.cache;
        fits = gone.1.fits;
      };
      settled = start_settled state h a mid cpu between told b ready rest s;
    }
    go (Halt c log) e gone = absurd gone
    go (Spent log) e gone = absurd gone

-- ---- a start on what was kept

-- what parking leaves as it was
pub record StaysSame (m p : Machine) : Type 0 where
  pub numbers : p.cpu ≡ m.cpu
  pub transcript : p.transcript ≡ m.transcript
  pub largest : p.largest ≡ m.largest

pub parked_same : (m p : Machine) (rows : List LogRow) → park m ≡ Go tt p rows → StaysSame m p
parked_same m p rows e = go m.cpu.waiting refl
  where
    has : HasParked m p
    has = park_comes.to tt p rows e

    by : (h : Heap) → p ≡ record m { heap = h } → StaysSame m p
    by h same = record { numbers = ap (λ (x : Machine). x.cpu) same; transcript = ap (λ (x : Machine). x.transcript) same; largest = ap (λ (x : Machine). x.largest) same }

    go : (b : Bool) → m.cpu.waiting ≡ b → StaysSame m p
    go true f = by _ (has.switched f)
    go false f = by _ (has.quiet f)

-- what was said before changes no stop
stops_earlier : (z : List ℕ) (new : Told) (now : Cpu) (e : Stop) (o : Outcome (Unit {0})) → Gives {A = Unit {0}} new now (Err e) (outcome_with_earlier z o) → Gives {A = Unit {0}} new now (Err e) o
stops_earlier z new now (Stuck c) (Go a m log) h = absurd h
stops_earlier z new now (Stuck c) (Halt d log) h = h
stops_earlier z new now (Stuck c) (Spent log) h = absurd h
stops_earlier z new now (Mem (CoreFull need)) (Go a m log) h = h
stops_earlier z new now (Mem (CoreFull need)) (Halt d log) h = h
stops_earlier z new now (Mem (CoreFull need)) (Spent log) h = h
stops_earlier z new now (Mem (WorkFull live room)) (Go a m log) h = h
stops_earlier z new now (Mem (WorkFull live room)) (Halt d log) h = h
stops_earlier z new now (Mem (WorkFull live room)) (Spent log) h = h
stops_earlier z new now (Mem (WorkFault count)) o h = tt
stops_earlier z new now (Mem (Damaged place name)) o h = absurd h
stops_earlier z new now (Mem NamesSpent) (Go a m log) h = absurd h
stops_earlier z new now (Mem NamesSpent) (Halt d log) h = absurd h
stops_earlier z new now (Mem NamesSpent) (Spent log) h = tt
stops_earlier z new now (Mem (Said count)) o h = absurd h
stops_earlier z new now (Mem Memory) o h = tt

continue_halts : (events : List Line) (steps : ℕ) (g : Guarded) (last : ℕ) (t : Told) (parked : Machine) (state : State) (a new : Told) (before cpu between : Cpu) (now : Cpu) (e : Stop) → IsTrue a.tells → (k : IsToKeep events g last t before parked) → GoesOnFrom parked state a → before.ran ≤ steps → Serves {A = Unit {0}} a cpu new between (begin state) (Err e) → now.ran ≡ before.ran → IsHalt e now.ran steps new (course_on events steps g)
continue_halts events steps g last t p state a new before cpu between now e told k from few s same =
    kept_halts events steps g last new now e k.machine
    (ap (λ i. guarded_on events i g) same ∙ k.is)
    (ap (λ (c : Cpu). c.ran) (sym stays.numbers ∙ k.stands.numbers) ∙ sym same)
    (let as_many = same in omega arith)
    (subst (Gives {A = Unit {0}} new now (Err e)) (sym (loaded_starts k.machine p k.rows k.parks)) (Gives-after None new now k.rows (begin (state_of p) (at_rest h)) (Err e) (stops_earlier a.transcript new now e (begin (state_of p) (at_rest h)) begins)))
    (λ speaks. let spoke = sym s.later.speaks ∙ speaks in said_before e a new k.machine.transcript spoke (from.said spoke ∙ stays.transcript) s.silent)
  where
    h : Heap
    h = kept p.heap no_roots

    stays : StaysSame k.machine p
    stays = parked_same k.machine p k.rows k.parks

    begins : Gives {A = Unit {0}} new now (Err e) (outcome_with_earlier a.transcript (begin (state_of p) (at_rest h)))
    begins = subst (Gives {A = Unit {0}} new now (Err e)) (begins_same state h a cpu ∙ begin_after a.transcript state h ∙ ap (λ s. outcome_with_earlier a.transcript (begin s (at_rest h))) from.state) (s.model told (fresh_machine h a cpu) (fresh_stands h a cpu from.begins))

continues_at : (events : List Line) (g : Guarded) (serial last : ℕ) (t : Told) (parked : Machine) (state : State) (a mid : Told) (before cpu between : Cpu) → IsTrue a.tells → (k : IsToKeep events g last t before parked) → GoesOnFrom parked state a → serial ≡ last + 1 → IsReady mid → HasRest mid → Serves a cpu mid between (begin state) (Ok tt) → IsAt events g serial mid (numbers_before serial before between)
continues_at events g serial last t p state a mid before cpu between told k from next ready rest s =
    subst (λ n. IsAt events g n mid (numbers_before n before between)) (sym next)
    (go (begin (state_of p) (at_rest h)) refl
    (subst (IsGo tt (Stands mid between)) (begin_after a.transcript state h ∙ ap (λ s. outcome_with_earlier a.transcript (begin s (at_rest h))) from.state) (began state h a mid cpu between told from.begins s)))
  where
    h : Heap
    h = kept p.heap no_roots

    stays : StaysSame k.machine p
    stays = parked_same k.machine p k.rows k.parks

    numbers : k.machine.cpu ≡ before
    numbers = sym stays.numbers ∙ k.stands.numbers

    go : (o : Outcome (Unit {0})) → begin (state_of p) (at_rest h) ≡ o → IsGo tt (Stands mid between) (outcome_with_earlier a.transcript o) → IsAt events g (last + 1) mid (numbers_before (last + 1) before between)
    go (Go u n log) e gone = record {
      machine = allowed (last + 1) (as_before k.machine n);
      rows = k.rows ++ log;
      is = k.is ∙ ap (kept_after last k.machine) (loaded_starts k.machine p k.rows k.parks ∙ ap (after k.rows) e);
      stands = record {
        heap = gone.1.heap;
        regs = gone.1.regs;
        slots = gone.1.slots;
        numbers = ap (λ (c : Cpu). numbers_before (last + 1) c n.cpu) numbers ∙ ap (numbers_before (last + 1) before) gone.1.numbers;
        transcript = λ speaks. (let spoke = sym s.later.speaks ∙ speaks in s.silent spoke ∙ from.said spoke ∙ stays.transcript);
        cache = gone.1.cache;
        fits = fits_later a.bounds mid.bounds k.machine.largest s.later.bounds (subst (λ (words : ℕ). IfBounds a.bounds (λ b. words ≤ b.core)) stays.largest from.fits);
      };
      settled = start_settled state h a mid cpu between told from.begins ready rest s;
    }
    go (Halt c log) e gone = absurd gone
    go (Spent log) e gone = absurd gone

pub continues : (events : List Line) (steps : ℕ) (g : Guarded) (serial last : ℕ) (t : Told) (parked : Machine) (state : State) (a mid : Told) (before cpu between : Cpu) (r : Result (Unit {0}) Stop) → IsTrue a.tells → IsToKeep events g last t before parked → GoesOnFrom parked state a → serial ≡ last + 1 → before.ran ≤ steps → OnOk r (IsReady mid) → OnOk r (HasRest mid) → Serves a cpu mid between (begin state) r → Starts events steps g serial mid (numbers_before serial before between) r
continues events steps g serial last t p state a mid before cpu between (Ok u) told k from next few ready rest s = continues_at events g serial last t p state a mid before cpu between told k from next ready rest s
continues events steps g serial last t p state a mid before cpu between (Err e) told k from next few ready rest s = continue_halts events steps g last t p state a mid before cpu between (numbers_before serial before between) e told k from few s refl

-- ---- the answer of a `?`

pub starts_exit : (events : List Line) (steps : ℕ) (g : Guarded) (serial : ℕ) (new : Told) (now : Cpu) (e : Stop) (r : Result (Unit {0}) Stop) → IsErrAnd r (λ y. y ≡ e) → IsHalt e now.ran steps new (course_on events steps g) → Starts events steps g serial new now r
starts_exit events steps g serial new now e r is h =
    let q = err_from_is_err_and r is in
    subst (λ (x : Result (Unit {0}) Stop). Starts events steps g serial new now x) (sym (q.1 ∙ ap (λ y. Err y) q.2)) h

pub leaves_exit : (events : List Line) (steps : ℕ) (g : Guarded) (serial : ℕ) (new : Told) (now : Cpu) (e : Stop) (r : Result Step Stop) → IsErrAnd r (λ y. y ≡ e) → IsHalt e now.ran steps new (course_on events steps g) → Leaves events steps g serial new now r
leaves_exit events steps g serial new now e r is h =
    let q = err_from_is_err_and r is in
    subst (λ (x : Result Step Stop). Leaves events steps g serial new now x) (sym (q.1 ∙ ap (λ y. Err y) q.2)) h

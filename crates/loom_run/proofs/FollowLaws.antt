-- A machine that is traced over a memory goes as the model's over a heap at rest, whatever had been said before.
use Rattle.std.proofs.Common.{zero, suc, Bool, ◌≡◌, ℕ, ◌+◌, ◌≤◌, List, [], ◌++◌, take, length, Result, Ok, Err, IsTrue, inl, inr, refl, sym, ◌∙◌, ap, ap₂, subst, arith}
use Rattle.std.proofs.Math.Seq.{take-append-add}
use Rattle.std.proofs.lemmas.List.{append-nil, append_assoc, append_cancel_left, length-append}
use Rattle.object_memory.proofs.LaterLaws.{IsLater-trans}
use Rattle.contexts.specs.Keeping.{is_kept}
use Rattle.loom_host.specs.declared.outside.Role.TheVariants.{Saved}
use Rattle.long_names.specs.Heap.{Heap}
use Rattle.loom_host.specs.Outside.{PutPrefix, RoleState, puts}
use Rattle.object_memory.specs.Contract.{IsLater}
use Rattle.object_memory.specs.Told.{Told, IsReady}
use Rattle.object_memory.specs.declared.fault.MemFault.TheVariants as fault
use Rattle.object_memory.specs.declared.fault.Need.{Need}
use Rattle.contexts.specs.declared.stop.Stop.{Stop}
use Rattle.contexts.specs.declared.stop.Stop.TheVariants as stop
use Rattle.contexts.specs.Serves.{Gives, HasRest, IsGo, IsLogged, Serves, Stands}
use Rattle.blue_model.specs.declared.cpu.Cpu.{Cpu}
use Rattle.blue_model.specs.declared.event.Line.{Line}
use Rattle.blue_model.specs.declared.step.Step.{Step}
use Rattle.blue_model.specs.declared.step.Step.TheVariants as step
use Rattle.blue_model.specs.Machine.{LogRow, Machine, Outcome, Go, Halt, Spent, at_rest, log_of}
use Rattle.blue_model.specs.State.{State, begin}
use Rattle.blue_model.specs.Cycle.{Ran, Run, Stopped, cycle, run}
use Rattle.blue_model.specs.Earlier.{IgnoresEarlier, course_with_earlier, outcome_with_earlier, run_with_earlier, with_earlier}
use Rattle.blue_model.specs.Logs.{Course, course}
use Rattle.blue_model.proofs.CountLaws.{runs_count}
use Rattle.blue_model.proofs.EarlierLaws.{earlier_run}
use Rattle.blue_model.proofs.EarlierRules.{ignores-check_switch, ignores-due, ignores-fetch}
use Rattle.blue_model.proofs.EarlierSteps.{ignoring}
use Rattle.blue_model.proofs.EarlierTurns.{ignores-begin, ignores-cycle}
use Rattle.machine_run.specs.Run.{Begins, FaultsBy, IsHalt, Reaches, RunsAs, StopsIn}
use Rattle.machine_run.specs.Sights.{sight, sight_in}
use Rattle.machine_run.specs.declared.running.Reason.TheVariants.{ByStop}
use Rattle.machine_run.specs.declared.tracing.Sight.{Sight}
use Rattle.machine_run.proofs.CourseLaws.{course_from}
use Rattle.machine_run.proofs.RunningLaws.{begins_same, begun, faults_earlier, fresh_machine, fresh_stands, goes_run, goes_start, rested, said_behind, start_settled, whole}
use Rattle.loom_run.specs.Following.{FollowsAs, PutsBy, status_along}
use Rattle.loom_run.specs.Parts.{IsFinished, status_by}
use Rattle.loom_run.specs.Steps.{HasBounds}
use Rattle.loom_run.specs.Traced.{AreWhole, ComesTo, CountsRun, IsWithin, SaysTraced, StopsWithin, lines_from, started}
use Rattle.loom_run.specs.Traces.{CutsIn, HasTraced, PutsLines, TracesAs, line_after, line_by, line_in, trace_of}
use Rattle.loom_run.specs.declared.tracing.TraceStop.{TraceStop}
use Rattle.loom_run.specs.declared.tracing.TraceStop.TheVariants.{Stop as Stopping, Write}
use Rattle.loom_run.proofs.MachineLaws.{was-stopped}
use Rattle.loom_run.proofs.TraceLaws.{puts-more}
use Rattle.loom_words.specs.Words.{Row}
use Rattle.loom_words.specs.declared.status.Status.{Status}
use Rattle.loom_words.specs.declared.status.Status.TheVariants as answer

-- ---- with something said before

ignores-sight : IgnoresEarlier sight
unfolding sight
ignores-sight = search (ignoring, ignores-fetch) depth 18

ignores-sight_in : (events : List Line) → IgnoresEarlier (sight_in events)
unfolding sight_in
ignores-sight_in events = search (ignoring, ignores-due, ignores-check_switch, ignores-sight) depth 18

line-by_earlier : (z : List ℕ) (k : ℕ) (o : Outcome Sight) → line_by k (outcome_with_earlier z o) ≡ line_by k o
line-by_earlier z k (Go s m log) = refl
line-by_earlier z k (Halt c log) = refl
line-by_earlier z k (Spent log) = refl

line-in_earlier : (z : List ℕ) (events : List Line) (m : Machine) (o : Outcome Step) → line_in events (with_earlier z m) (outcome_with_earlier z o) ≡ line_in events m o
line-in_earlier z events m (Go end n log) = ap (line_by (m.cpu.ran + 1)) ((ignores-sight_in events).same z m) ∙ line-by_earlier z (m.cpu.ran + 1) (sight_in events m)
line-in_earlier z events m (Halt c log) = refl
line-in_earlier z events m (Spent log) = refl

line-after_earlier : (z : List ℕ) (events : List Line) (r : Run) → line_after events (run_with_earlier z r) ≡ line_after events r
line-after_earlier z events (Ran step.Next m) = ap (line_in events (with_earlier z m)) ((ignores-cycle events).same z m) ∙ line-in_earlier z events m (cycle events m)
line-after_earlier z events (Ran step.Quit m) = refl
line-after_earlier z events (Ran step.Keep m) = refl
line-after_earlier z events (Stopped m why log) = refl

trace-earlier : (z : List ℕ) (events : List Line) (k : ℕ) (m : Machine) → trace_of events k (with_earlier z m) ≡ trace_of events k m
unfolding trace_of
trace-earlier z events zero m = refl
trace-earlier z events (suc k) m = ap₂ (λ (a b : List ℕ). a ++ b) (trace-earlier z events k m) (ap (line_after events) (earlier_run events k z m) ∙ line-after_earlier z events (run events k m))

lines-earlier : (z : List ℕ) (events : List Line) (k : ℕ) (o : Outcome (Unit {0})) → lines_from events k (outcome_with_earlier z o) ≡ lines_from events k o
lines-earlier z events k (Go a m log) = trace-earlier z events k m
lines-earlier z events k (Halt c log) = refl
lines-earlier z events k (Spent log) = refl

ran-earlier : (z : List ℕ) (end : Step) (n : Machine) (r : Run) → run_with_earlier z r ≡ Ran end n → (k : Machine) × (r ≡ Ran end k) × (k.cpu.ran ≡ n.cpu.ran)
ran-earlier z end n (Ran s k) e =
    let same : s ≡ end = cc in
    let machine : with_earlier z k ≡ n = cc in
    (k, ap (λ (x : Step). Ran x k) same, ap (λ (x : Machine). x.cpu.ran) machine)
ran-earlier z end n (Stopped m why log) e = absurd (cc)

comes-earlier : (z : List ℕ) (events : List Line) (steps : ℕ) (end : Step) (ran : ℕ) (o : Outcome (Unit {0})) → ComesTo events steps end ran (outcome_with_earlier z o) → ComesTo events steps end ran o
comes-earlier z events steps end ran (Go a m log) h =
    let x = ran-earlier z end h.0 (run events steps m) (sym (earlier_run events steps z m) ∙ h.1) in
    (x.0, x.1, x.2 ∙ h.2)
comes-earlier z events steps end ran (Halt c log) h = h
comes-earlier z events steps end ran (Spent log) h = h

begun-earlier : (state : State) (h : Heap) (a : Told) → begin state (rested h a) ≡ outcome_with_earlier a.transcript (started state h)
begun-earlier state h a =
    ap (begin state) (ap (λ (t : List ℕ). record (at_rest h) { transcript = t }) (sym (append-nil a.transcript)))
    ∙ (ignores-begin state).same a.transcript (at_rest h)

-- ---- lines as bytes that were put

-- whole, or a first part of them
abbrev PutsAll : {A : Type 0} → Result A TraceStop → List ℕ → RoleState → RoleState → Type 0
PutsAll (Ok x) lines old last = last ≡ puts lines old
PutsAll (Err (Stopping e)) lines old last = last ≡ puts lines old
PutsAll (Err (Write count)) lines old last = PutPrefix lines old last

cut-more : (a b : List ℕ) (s u : RoleState) → PutPrefix b (puts a s) u → PutPrefix (a ++ b) s u
cut-more a b s u cut = (
  length a + cut.0,
  let few = cut.1 in rw (length-append a b) (omega (arith, few)),
  subst (λ (bytes : List ℕ). u ≡ puts bytes s) (sym (take-append-add a b cut.0)) (puts-more a (take cut.0 b) s (puts a s) u refl cut.2),
)

trace-suc : (events : List Line) (k : ℕ) (m : Machine) → trace_of events (suc k) m ≡ trace_of events k m ++ line_after events (run events k m)
unfolding trace_of
trace-suc events k m = refl

puts-all : (events : List Line) (m : Machine) (r : Result Step TraceStop) (k : ℕ) (t u : RoleState) → PutsLines events m r k t u → PutsAll r (trace_of events k m) t u
puts-all events m (Ok end) k t u h = h
puts-all events m (Err (Stopping e)) k t u h = h
puts-all events m (Err (Write count)) k t u h =
    let all : suc h.0 ≡ k = (let more = h.1 in omega (arith, more)) in
    subst (λ j. PutPrefix (trace_of events j m) t u) all
    (subst (λ (lines : List ℕ). PutPrefix lines t u) (sym (trace-suc events h.0 m)) (cut-more (trace_of events h.0 m) (line_after events (run events h.0 m)) t u h.2))

more-put : (bytes : List ℕ) (s u : RoleState) → u ≡ puts bytes s → length s.put + length bytes ≤ length u.put
more-put bytes s u e = let long : length u.put ≡ length s.put + length bytes = ap (λ (x : RoleState). length x.put) e ∙ length-append s.put bytes in omega (arith, long)

whole-put : (events : List Line) (u : Unit {0}) (m : Machine) (log : List LogRow) (r : Result Step TraceStop) (k : ℕ) (s t : RoleState) → PutsLines events m r k s t → AreWhole events k (Go u m log) (length s.put) (length t.put)
whole-put events u m log (Ok end) k s t h = (k, omega arith, more-put (trace_of events k m) s t h)
whole-put events u m log (Err (Stopping e)) k s t h = (k, omega arith, more-put (trace_of events k m) s t h)
whole-put events u m log (Err (Write count)) k s t h = (
  h.0,
  let last = h.1 in omega (arith, last),
  let first = more-put (trace_of events h.0 m) s (puts (trace_of events h.0 m) s) refl in
      let then = more-put (take h.2.0 (line_after events (run events h.0 m))) (puts (trace_of events h.0 m) s) t h.2.2 in
      omega (arith, first, then),
)

whole-earlier : (z : List ℕ) (events : List Line) (k before bytes : ℕ) (o : Outcome (Unit {0})) → AreWhole events k (outcome_with_earlier z o) before bytes → AreWhole events k o before bytes
whole-earlier z events k before bytes o h = (h.0, h.1, subst (λ (lines : List ℕ). before + length lines ≤ bytes) (lines-earlier z events h.0 o) h.2)

no-lines : (events : List Line) (o : Outcome (Unit {0})) → lines_from events 0 o ≡ []
unfolding trace_of
no-lines events (Go a m log) = refl
no-lines events (Halt c log) = refl
no-lines events (Spent log) = refl

-- ---- the machine that was started

module _ (events : List Line) (steps : ℕ) (state : State) (h : Heap) (a mid new : Told) (cpu between now : Cpu) (told : IsTrue a.tells) (b : Begins h a) (s : Serves a cpu mid between (begin state) (Ok tt)) (fresh : between.ran ≡ 0) where
  -- what holds of the machine that it came to
  from-start : (P : Outcome (Unit {0}) → Type 0) → ((u : Unit {0}) (m : Machine) (log : List LogRow) → m.cpu.ran ≡ 0 → Stands mid between m → P (Go u m log)) → P (begin state (rested h a))
  from-start P f = go (begin state (rested h a)) (begun state h a mid cpu between told b s)
    where
      go : (o : Outcome (Unit {0})) → IsGo tt (Stands mid between) o → P o
      go (Go u m log) g = f u m log (ap (λ (c : Cpu). c.ran) g.1.numbers ∙ fresh) g.1
      go (Halt c log) g = absurd g
      go (Spent log) g = absurd g

  comes-along : (end : Step) → ((m : Machine) → Stands mid between m → Reaches events new now end steps m) → ComesTo events steps end now.ran (started state h)
  comes-along end runs =
      comes-earlier a.transcript events steps end now.ran (started state h) (subst (ComesTo events steps end now.ran) (begun-earlier state h a)
      (from-start (ComesTo events steps end now.ran) (λ u m log zero_ran st. let x = runs m st in (x.machine, x.ran, ap (λ (c : Cpu). c.ran) x.stands.numbers))))

  says-along : (end : Step) → ((m : Machine) → Stands mid between m → Reaches events new now end steps m) → IsTrue new.speaks → new.transcript ≡ a.transcript ++ (course events steps state h).said now.ran
  says-along end runs =
      whole (λ (c : Course). IsTrue new.speaks → new.transcript ≡ c.said now.ran) events steps state h a
      (from-start (λ (o : Outcome (Unit {0})). IsTrue new.speaks → new.transcript ≡ (course_from events steps (rested h a) o).said now.ran)
      (λ u m log zero_ran st speaks.
      let x = runs m st in
      x.stands.transcript speaks ∙ sym (said_behind events steps end m x.machine now.ran zero_ran x.ran (ap (λ (c : Cpu). c.ran) x.stands.numbers))))

  says-cut : ((m : Machine) → Stands mid between m → CutsIn events new now steps m) → IsTrue new.speaks → new.transcript ≡ a.transcript ++ (course events steps state h).said now.ran
  says-cut cuts =
      whole (λ (c : Course). IsTrue new.speaks → new.transcript ≡ c.said now.ran) events steps state h a
      (from-start (λ (o : Outcome (Unit {0})). IsTrue new.speaks → new.transcript ≡ (course_from events steps (rested h a) o).said now.ran)
      (λ u m log zero_ran st speaks.
      let x = cuts m st in
      x.stands.transcript speaks ∙ sym (said_behind events x.done x.end m x.machine now.ran zero_ran x.ran (ap (λ (c : Cpu). c.ran) x.stands.numbers))))

  -- its lines
  lines-along : (r : Result Step TraceStop) (t u : RoleState) → ((m : Machine) → Stands mid between m → HasTraced events r between.ran now.ran m t u) → PutsAll r (lines_from events now.ran (started state h)) t u
  lines-along r t u traced =
      subst (λ (lines : List ℕ). PutsAll r lines t u) (lines-earlier a.transcript events now.ran (started state h))
      (subst (λ (o : Outcome (Unit {0})). PutsAll r (lines_from events now.ran o) t u) (begun-earlier state h a)
      (from-start (λ (o : Outcome (Unit {0})). PutsAll r (lines_from events now.ran o) t u)
      (λ v m log zero_ran st.
      let x = traced m st in
      let all : x.completed ≡ now.ran = (let count = x.count in omega (arith, count, fresh)) in
      subst (λ k. PutsAll r (trace_of events k m) t u) all (puts-all events m r x.completed t u x.lines))))

  whole-along : (r : Result Step TraceStop) (t u : RoleState) → ((m : Machine) → Stands mid between m → HasTraced events r between.ran now.ran m t u) → AreWhole events now.ran (started state h) (length t.put) (length u.put)
  whole-along r t u traced =
      whole-earlier a.transcript events now.ran (length t.put) (length u.put) (started state h)
      (subst (λ (o : Outcome (Unit {0})). AreWhole events now.ran o (length t.put) (length u.put)) (begun-earlier state h a)
      (from-start (λ (o : Outcome (Unit {0})). AreWhole events now.ran o (length t.put) (length u.put))
      (λ v m log zero_ran st.
      let x = traced m st in
      let all : x.completed ≡ now.ran = (let count = x.count in omega (arith, count, fresh)) in
      subst (λ k. AreWhole events k (Go v m log) (length t.put) (length u.put)) all (whole-put events v m log r x.completed t u x.lines))))

-- ---- the answers

abbrev pub status_traced : Result Step TraceStop → ℕ → Status
status_traced (Ok end) ran = status_along end ran
status_traced (Err (Stopping e)) ran = status_by (ByStop e) ran
status_traced (Err (Write count)) ran = answer.WriteFault Saved count

puts-by : (r : Result Step TraceStop) (ran : ℕ) (lines : List ℕ) (t u : RoleState) → PutsAll r lines t u → PutsBy (status_traced r ran) lines t u
puts-by (Ok step.Next) ran lines t u h = h
puts-by (Ok step.Quit) ran lines t u h = h
puts-by (Ok step.Keep) ran lines t u h = h
puts-by (Err (Stopping (stop.Stuck cause))) ran lines t u h = h
puts-by (Err (Stopping (stop.Mem (fault.CoreFull need)))) ran lines t u h = h
puts-by (Err (Stopping (stop.Mem (fault.WorkFull live room)))) ran lines t u h = h
puts-by (Err (Stopping (stop.Mem (fault.WorkFault count)))) ran lines t u h = h
puts-by (Err (Stopping (stop.Mem (fault.Damaged place name)))) ran lines t u h = h
puts-by (Err (Stopping (stop.Mem fault.NamesSpent))) ran lines t u h = h
puts-by (Err (Stopping (stop.Mem (fault.Said count)))) ran lines t u h = h
puts-by (Err (Stopping (stop.Mem fault.Memory))) ran lines t u h = h
puts-by (Err (Write count)) ran lines t u h = h

unfinished : (e : Stop) (ran : ℕ) → IsFinished (status_by (ByStop e) ran) → ⊥
unfinished (stop.Stuck cause) ran h = h
unfinished (stop.Mem (fault.CoreFull need)) ran h = h
unfinished (stop.Mem (fault.WorkFull live room)) ran h = h
unfinished (stop.Mem (fault.WorkFault count)) ran h = h
unfinished (stop.Mem (fault.Damaged place name)) ran h = h
unfinished (stop.Mem fault.NamesSpent) ran h = h
unfinished (stop.Mem (fault.Said count)) ran h = h
unfinished (stop.Mem fault.Memory) ran h = h

-- of a stop, behind what had been said
says-stopped : (e : Stop) (ran : ℕ) (row : Row) (c : Course) (old new : Told) → IsHalt e ran row.steps new (course_with_earlier old.transcript c) → IsTrue new.speaks → SaysTraced (status_by (ByStop e) ran) row c ran old.transcript new.transcript
says-stopped (stop.Stuck cause) ran row c old new h speaks = h.says speaks
says-stopped (stop.Mem (fault.CoreFull need)) ran row c old new h speaks = h.says speaks
says-stopped (stop.Mem (fault.WorkFull live room)) ran row c old new h speaks = h.says speaks
says-stopped (stop.Mem (fault.WorkFault count)) ran row c old new h speaks = h.says speaks
says-stopped (stop.Mem (fault.Damaged place name)) ran row c old new h speaks = absurd h.stops
says-stopped (stop.Mem fault.NamesSpent) ran row c old new h speaks = h.says speaks
says-stopped (stop.Mem (fault.Said count)) ran row c old new h speaks =
    let s = h.says speaks in
    let part = s.0 in
    let rest = s.1 in
    let now : new.transcript ≡ old.transcript ++ (c.said ran ++ part) = s.2 ∙ append_assoc old.transcript (c.said ran) part in
    (part, rest, h.before, now, append_cancel_left old.transcript (c.said (ran + 1)) ((c.said ran ++ part) ++ rest) (s.3 ∙ ap (λ t. t ++ rest) now ∙ append_assoc old.transcript (c.said ran ++ part) rest), λ none. s.4 (ap (λ t. old.transcript ++ t) none))
says-stopped (stop.Mem fault.Memory) ran row c old new h speaks = h.says speaks

counts-stopped : (e : Stop) (ran : ℕ) (row : Row) (c : Course) (old new : Told) → IsHalt e ran row.steps new (course_with_earlier old.transcript c) → CountsRun (status_by (ByStop e) ran) c ran
counts-stopped (stop.Stuck cause) ran row c old new h = refl
counts-stopped (stop.Mem (fault.CoreFull need)) ran row c old new h = refl
counts-stopped (stop.Mem (fault.WorkFull live room)) ran row c old new h = h.stops
counts-stopped (stop.Mem (fault.WorkFault count)) ran row c old new h = tt
counts-stopped (stop.Mem (fault.Damaged place name)) ran row c old new h = tt
counts-stopped (stop.Mem fault.NamesSpent) ran row c old new h = refl
counts-stopped (stop.Mem (fault.Said count)) ran row c old new h = tt
counts-stopped (stop.Mem fault.Memory) ran row c old new h = tt

-- ---- where it was stopped

within-earlier : (z : List ℕ) (events : List Line) (steps completed : ℕ) (o : Outcome (Unit {0})) → IsWithin events steps completed (outcome_with_earlier z o) → IsWithin events steps completed o
within-earlier z events steps completed (Go a m log) h = (h.0, comes-earlier z events completed step.Next completed (Go a m log) h.1)
within-earlier z events steps completed (Halt c log) h = h
within-earlier z events steps completed (Spent log) h = h

logged-earlier : (z : List ℕ) (need : Need) (o : Outcome (Unit {0})) → IsLogged need (log_of (outcome_with_earlier z o)) → IsLogged need (log_of o)
logged-earlier z need (Go a m log) h = h
logged-earlier z need (Halt c log) h = h
logged-earlier z need (Spent log) h = h

stops-earlier : (z : List ℕ) (status : Status) (events : List Line) (steps completed : ℕ) (o : Outcome (Unit {0})) → StopsWithin status events steps completed (outcome_with_earlier z o) → StopsWithin status events steps completed o
stops-earlier z (answer.Stuck cause ran) events steps completed o h = within-earlier z events steps completed o h
stops-earlier z (answer.NamesSpent ran) events steps completed o h = within-earlier z events steps completed o h
stops-earlier z (answer.CoreFull ran need) events steps completed o (inl row) = inl (logged-earlier z need o row)
stops-earlier z (answer.CoreFull ran need) events steps completed o (inr h) = inr (within-earlier z events steps completed o h)
stops-earlier z _ events steps completed o h = tt

-- in the start
within-start : (e : Stop) (events : List Line) (steps ran : ℕ) (new : Told) (now : Cpu) (o : Outcome (Unit {0})) → ran ≡ 0 → Gives {A = Unit {0}} new now (Err e) o → StopsWithin (status_by (ByStop e) ran) events steps ran o
within-start (stop.Stuck cause) events steps ran new now (Go a m log) fresh g = absurd g
within-start (stop.Stuck cause) events steps ran new now (Halt c log) fresh g = fresh
within-start (stop.Stuck cause) events steps ran new now (Spent log) fresh g = absurd g
within-start (stop.Mem (fault.CoreFull need)) events steps ran new now o fresh g = inl g
within-start (stop.Mem fault.NamesSpent) events steps ran new now (Go a m log) fresh g = absurd g
within-start (stop.Mem fault.NamesSpent) events steps ran new now (Halt c log) fresh g = absurd g
within-start (stop.Mem fault.NamesSpent) events steps ran new now (Spent log) fresh g = fresh
within-start (stop.Mem (fault.WorkFull live room)) events steps ran new now o fresh g = tt
within-start (stop.Mem (fault.WorkFault count)) events steps ran new now o fresh g = tt
within-start (stop.Mem (fault.Damaged place name)) events steps ran new now o fresh g = tt
within-start (stop.Mem (fault.Said count)) events steps ran new now o fresh g = tt
within-start (stop.Mem fault.Memory) events steps ran new now o fresh g = tt

-- in a cycle
within-cycle : (events : List Line) (steps : ℕ) (old new : Told) (now : Cpu) (e : Stop) (u : Unit {0}) (m : Machine) (log : List LogRow) → m.cpu.ran ≡ 0 → StopsIn events old new now e steps m → IsWithin events steps now.ran (Go u m log)
within-cycle events steps old new now e u m log fresh x =
    let counted = runs_count events x.done m x.machine x.ran in
    let count = x.count in
    let done : x.done ≡ now.ran = omega (arith, counted, count, fresh) in
    let few = x.few in
    (omega (arith, few, done), (x.machine, subst (λ k. run events k m ≡ Ran step.Next x.machine) done x.ran, x.count))

within-run : (events : List Line) (steps : ℕ) (old new : Told) (now : Cpu) (e : Stop) (u : Unit {0}) (m : Machine) (log : List LogRow) → m.cpu.ran ≡ 0 → RunsAs events old new now steps m (Err e) → StopsWithin (status_by (ByStop e) now.ran) events steps now.ran (Go u m log)
within-run events steps old new now (stop.Stuck cause) u m log fresh (inl x) = within-cycle events steps old new now (stop.Stuck cause) u m log fresh x
within-run events steps old new now (stop.Stuck cause) u m log fresh (inr x) = absurd x.fault
within-run events steps old new now (stop.Mem (fault.CoreFull need)) u m log fresh (inl x) = inr (within-cycle events steps old new now (stop.Mem (fault.CoreFull need)) u m log fresh x)
within-run events steps old new now (stop.Mem (fault.CoreFull need)) u m log fresh (inr x) = absurd x.fault
within-run events steps old new now (stop.Mem fault.NamesSpent) u m log fresh (inl x) = within-cycle events steps old new now (stop.Mem fault.NamesSpent) u m log fresh x
within-run events steps old new now (stop.Mem fault.NamesSpent) u m log fresh (inr x) = absurd x.fault
within-run events steps old new now (stop.Mem (fault.WorkFull live room)) u m log fresh x = tt
within-run events steps old new now (stop.Mem (fault.WorkFault count)) u m log fresh x = tt
within-run events steps old new now (stop.Mem (fault.Damaged place name)) u m log fresh x = tt
within-run events steps old new now (stop.Mem (fault.Said count)) u m log fresh x = tt
within-run events steps old new now (stop.Mem fault.Memory) u m log fresh x = tt

-- ---- what a trace comes to

module _ (events : List Line) (row : Row) (state : State) (h : Heap) (a : Told) (told : IsTrue a.tells) (b : Begins h a) (bounds : HasBounds row a) (tells : Bool) (t u : RoleState) where
  stopped-as : (new : Told) (now : Cpu) (e : Stop) → IsLater a new → now.ran ≤ row.steps → IsHalt e now.ran row.steps new (course_with_earlier a.transcript (course events row.steps state h)) → FaultsBy a new e
      → StopsWithin (status_by (ByStop e) now.ran) events row.steps now.ran (started state h) → (IsTrue tells → u ≡ puts (lines_from events now.ran (started state h)) t) → (IsTrue tells → AreWhole events now.ran (started state h) (length t.put) (length u.put)) → FollowsAs a new row (status_by (ByStop e) now.ran) events state h tells t u
  stopped-as new now e later few halt by within lines whole =
      let c = course events row.steps state h in
      record {
        completed = now.ran;
        few = few;
        counts = counts-stopped e now.ran row c a new halt;
        stops = λ following. (was-stopped a new row now.ran c later bounds few (ByStop e) halt by).stops;
        within = within;
        goes = λ fin. absurd (unfinished e now.ran fin);
        says = says-stopped e now.ran row c a new halt;
        lines = λ saved. puts-by (Err (Stopping e)) now.ran (lines_from events now.ran (started state h)) t u (lines saved);
        whole = whole;
      }

  -- the start was refused
  pub start-follows : (new : Told) (cpu now : Cpu) (e : Stop) → Serves {A = Unit {0}} a cpu new now (begin state) (Err e) → now.ran ≡ 0 → FaultsBy a new e → u ≡ t → FollowsAs a new row (status_by (ByStop e) now.ran) events state h tells t u
  start-follows new cpu now e s fresh by same =
      stopped-as new now e s.later (omega (arith, fresh)) (goes_start events row.steps state h a new cpu now e told b s fresh) by
      (stops-earlier a.transcript (status_by (ByStop e) now.ran) events row.steps now.ran (started state h)
      (subst (StopsWithin (status_by (ByStop e) now.ran) events row.steps now.ran) (begun-earlier state h a)
      (within-start e events row.steps now.ran new now (begin state (rested h a)) fresh
      (subst (Gives {A = Unit {0}} new now (Err e)) (begins_same state h a cpu) (s.model told (fresh_machine h a cpu) (fresh_stands h a cpu b))))))
      (λ saved. subst (λ k. u ≡ puts (lines_from events k (started state h)) t) (sym fresh) (subst (λ (lines : List ℕ). u ≡ puts lines t) (sym (no-lines events (started state h))) (same ∙ ap (λ (bytes : List ℕ). record t { put = bytes }) (sym (append-nil t.put)))))
      (λ saved. (0, omega (arith, fresh), subst (λ (lines : List ℕ). length t.put + length lines ≤ length u.put) (sym (no-lines events (started state h))) (let still = ap (λ (x : RoleState). length x.put) same in omega (arith, still))))

  module _ (mid new : Told) (cpu between now : Cpu) (s : Serves a cpu mid between (begin state) (Ok tt)) (fresh : between.ran ≡ 0) (ready : IsReady mid) (rest : HasRest mid) (later : IsLater mid new) (few : now.ran ≤ row.steps) where
    all-later : IsLater a new
    all-later = IsLater-trans a mid new s.later later

    pub trace-follows : (r : Result Step TraceStop) → ((end : Step) → r ≡ Ok end → IsTrue (is_kept end) → ⊥) → ((e : Stop) → r ≡ Err (Stopping e) → FaultsBy mid new e) → ((m : Machine) → Stands mid between m → TracesAs events mid new now row.steps m r)
        → (IsTrue tells → (m : Machine) → Stands mid between m → HasTraced events r between.ran now.ran m t u) → FollowsAs a new row (status_traced r now.ran) events state h tells t u
    trace-follows (Ok step.Next) kept by traces traced = record {
      completed = now.ran;
      few = few;
      counts = refl;
      stops = λ following. absurd following;
      within = tt;
      goes = λ fin. comes-along events row.steps state h a mid new cpu between now told b s fresh step.Next traces;
      says = λ speaks. says-along events row.steps state h a mid new cpu between now told b s fresh step.Next traces speaks;
      lines = λ saved. lines-along events row.steps state h a mid new cpu between now told b s fresh (Ok step.Next) t u (traced saved);
      whole = λ saved. whole-along events row.steps state h a mid new cpu between now told b s fresh (Ok step.Next) t u (traced saved);
    }
    trace-follows (Ok step.Quit) kept by traces traced = record {
      completed = now.ran;
      few = few;
      counts = refl;
      stops = λ following. absurd following;
      within = tt;
      goes = λ fin. comes-along events row.steps state h a mid new cpu between now told b s fresh step.Quit traces;
      says = λ speaks. says-along events row.steps state h a mid new cpu between now told b s fresh step.Quit traces speaks;
      lines = λ saved. lines-along events row.steps state h a mid new cpu between now told b s fresh (Ok step.Quit) t u (traced saved);
      whole = λ saved. whole-along events row.steps state h a mid new cpu between now told b s fresh (Ok step.Quit) t u (traced saved);
    }
    trace-follows (Ok step.Keep) kept by traces traced = absurd (kept step.Keep refl refl)
    trace-follows (Err (Stopping e)) kept by traces traced =
        stopped-as new now e all-later few
        (goes_run events row.steps state h a mid new cpu between now e told b s fresh (start_settled state h a mid cpu between told b ready rest s) traces)
        (faults_earlier a mid new e s.later (by e refl))
        (stops-earlier a.transcript (status_by (ByStop e) now.ran) events row.steps now.ran (started state h)
        (subst (StopsWithin (status_by (ByStop e) now.ran) events row.steps now.ran) (begun-earlier state h a)
        (from-start events row.steps state h a mid new cpu between now told b s fresh (StopsWithin (status_by (ByStop e) now.ran) events row.steps now.ran) (λ v m log zero_ran st. within-run events row.steps mid new now e v m log zero_ran (traces m st)))))
        (λ saved. lines-along events row.steps state h a mid new cpu between now told b s fresh (Err (Stopping e)) t u (traced saved))
        (λ saved. whole-along events row.steps state h a mid new cpu between now told b s fresh (Err (Stopping e)) t u (traced saved))
    trace-follows (Err (Write count)) kept by traces traced = record {
      completed = now.ran;
      few = few;
      counts = tt;
      stops = λ following. tt;
      within = tt;
      goes = λ fin. absurd fin;
      says = λ speaks. says-cut events row.steps state h a mid new cpu between now told b s fresh traces speaks;
      lines = λ saved. lines-along events row.steps state h a mid new cpu between now told b s fresh (Err (Write count)) t u (traced saved);
      whole = λ saved. whole-along events row.steps state h a mid new cpu between now told b s fresh (Err (Write count)) t u (traced saved);
    }

-- The lines of a run: what one cycle puts joins what the cycles before it put.
-- The loop keeps `Reaches` and that the lines of so many cycles were put; `one-line` makes the line of a cycle out of what was seen in it,
-- `traces-on` and `traced-on` put a cycle behind others, and `exit-by` makes the exits.
use Rattle.std.proofs.Common.{zero, suc, ◌≡◌, ℕ, ◌+◌, ◌<◌, ◌≤◌, List, [], ◌++◌, take, length, Result, Ok, Err, OnOk, IsTrue, refl, sym, ◌∙◌, ap, subst, arith}
use Rattle.std.specs.Result.{IsErrAnd}
use Rattle.std.proofs.lemmas.Result.{err_from_is_err_and}
use Rattle.std.proofs.Math.Seq.{take-append_seam}
use Rattle.std.proofs.lemmas.List.{append-nil, append_assoc}
use Rattle.long_names.specs.Counting.{Rose}
use Rattle.loom_host.specs.Outside.{RoleState, PutPrefix, SameBut, puts}
use Rattle.loom_host.specs.declared.outside.Host.{Ghosts}
use Rattle.loom_host.specs.declared.outside.Role.{Role}
use Rattle.loom_host.specs.declared.outside.Role.TheVariants.{Saved, Work}
use Rattle.object_memory.specs.Contract.{IsLater}
use Rattle.object_memory.specs.Told.{Told, IsReady}
use Rattle.blue_model.specs.declared.cpu.Cpu.{Cpu}
use Rattle.blue_model.specs.declared.event.Line.{Line}
use Rattle.blue_model.specs.declared.step.Step.{Step}
use Rattle.blue_model.specs.declared.step.Step.TheVariants.{Next}
use Rattle.blue_model.specs.Cycle.{Ran, cycle, run}
use Rattle.blue_model.specs.Machine.{Machine, Outcome, Go, Halt, Spent}
use Rattle.contexts.specs.declared.stop.Stop.{Stop as CallStop}
use Rattle.contexts.specs.declared.stop.Stop.TheVariants.{Stuck, Mem}
use Rattle.contexts.specs.Serves.{IsGo, Speaks, Stands, StaysSound}
use Rattle.loom_memory.specs.Memory.{IsSound, Others, loom_lender, loom_outside, loom_told}
use Rattle.loom_memory.specs.declared.memory.LoomMemory.{LoomMemory}
use Rattle.machine_run.specs.Run.{IsSettled, Reaches}
use Rattle.machine_run.specs.Sights.{IsSeen, sight_in}
use Rattle.machine_run.specs.declared.tracing.Sight.{Sight}
use Rattle.machine_run.proofs.CourseLaws.{run_on}
use Rattle.machine_run.proofs.RunningLaws.{faults_earlier, reaches_more, reaches_start, stops_on}
use Rattle.loom_words.specs.Trace.{trace_text}
use Rattle.loom_run.specs.Traces.{CutsIn, EndsBy, HasTraced, IsUnwritten, OnlyPut, PutsLines, PutsText, TraceFit, TraceSound, TracesAs, line_after, line_by, line_in, trace_of}
use Rattle.loom_run.specs.declared.tracing.TraceStop.{TraceStop}
use Rattle.loom_run.specs.declared.tracing.TraceStop.TheVariants.{Stop, Write}

-- ---- exits

-- the answer of a `?`
pub exit-by : {A : Type 0} (P : Result A TraceStop → Type 0) (e : TraceStop) (r : Result A TraceStop) → IsErrAnd r (λ y. y ≡ e) → P (Err e) → P r
exit-by P e r is h =
    let q = err_from_is_err_and r is in
    subst P (sym (q.1 ∙ ap (λ y. Err y) q.2)) h

-- ---- what is told

pub tells-work : {H : Type 0} (host : Ghosts H) (m : LoomMemory H host) → IsTrue (host.tells Work) → IsTrue (loom_told host m).tells
unfolding loom_told
tells-work host m work = work

-- ---- what was put

pub puts-none : (s : RoleState) → s ≡ puts [] s
puts-none s = ap (λ (bytes : List ℕ). record s { put = bytes }) (sym (append-nil s.put))

pub puts-more : (a b : List ℕ) (s t u : RoleState) → t ≡ puts a s → u ≡ puts b t → u ≡ puts (a ++ b) s
puts-more a b s t u first then = then ∙ ap (puts b) first ∙ ap (λ (bytes : List ℕ). record s { put = bytes }) (append_assoc s.put a b)

-- only what was put changed
pub only-puts : (bytes : List ℕ) (s t : RoleState) → t ≡ puts bytes s → OnlyPut s t
only-puts bytes s t e = e ∙ ap (λ (p : List ℕ). record s { put = p }) (sym (ap (λ (r : RoleState). r.put) e))

pub only-part : (bytes : List ℕ) (s t : RoleState) → PutPrefix bytes s t → OnlyPut s t
only-part bytes s t part = only-puts (take part.0 bytes) s t part.2

pub only-same : (s t : RoleState) → t ≡ s → OnlyPut s t
only-same s t e = e ∙ ap (λ (p : List ℕ). record s { put = p }) (sym (ap (λ (r : RoleState). r.put) e))

pub only-then : (s t u : RoleState) → OnlyPut s t → OnlyPut t u → OnlyPut s u
only-then s t u first then = then ∙ ap (λ (r : RoleState). record r { put = u.put }) first

-- the line that a buffer begins with
pub line-text : (text rest out : List ℕ) (n : ℕ) → out ≡ text ++ rest → n ≡ length text → take n out ≡ text
line-text text rest out n is len = ap (take n) is ∙ ap (λ k. take k (text ++ rest)) len ∙ take-append_seam text rest

-- ---- the lines of a run

pub trace-none : (events : List Line) (m : Machine) → trace_of events 0 m ≡ []
unfolding trace_of
trace-none events m = refl

-- so many cycles, and then more
trace-more : (events : List Line) (j k : ℕ) (m n : Machine) → run events j m ≡ Ran Next n → trace_of events (j + k) m ≡ trace_of events j m ++ trace_of events k n
unfolding trace_of
trace-more events j zero m n e = ap (λ i. trace_of events i m) (let none : j + 0 ≡ j = omega arith in none) ∙ sym (append-nil (trace_of events j m))
trace-more events j (suc k) m n e =
    ap (λ i. trace_of events i m) (let next : j + suc k ≡ suc (j + k) = omega arith in next)
    ∙ ap (λ (lines : List ℕ). lines ++ line_after events (run events (j + k) m)) (trace-more events j k m n e)
    ∙ ap (λ r. (trace_of events j m ++ trace_of events k n) ++ line_after events r) (run_on events j k m n e)
    ∙ append_assoc (trace_of events j m) (trace_of events k n) (line_after events (run events k n))

-- the line of a machine's next cycle
line-seen : (k : ℕ) (seen : Sight) (o : Outcome Sight) → IsSeen seen o → line_by k o ≡ trace_text k seen.context seen.ip seen.byte
line-seen k seen (Go s m log) is = ap (λ (x : Sight). trace_text k x.context x.ip x.byte) is
line-seen k seen (Halt c log) is = absurd is
line-seen k seen (Spent log) is = absurd is

line-of : (events : List Line) (m : Machine) (new : Told) (now : Cpu) (end : Step) (seen : Sight) (o : Outcome Step) → IsGo end (Stands new now) o → IsSeen seen (sight_in events m) → line_in events m o ≡ trace_text (m.cpu.ran + 1) seen.context seen.ip seen.byte
line-of events m new now end seen (Go a n log) went is = line-seen (m.cpu.ran + 1) seen (sight_in events m) is
line-of events m new now end seen (Halt c log) went is = absurd went
line-of events m new now end seen (Spent log) went is = absurd went

line-one : (events : List Line) (m : Machine) (new : Told) (now : Cpu) (end : Step) (k : ℕ) (seen : Sight) → k ≡ m.cpu.ran + 1 → IsGo end (Stands new now) (cycle events m) → IsSeen seen (sight_in events m) → line_after events (run events 0 m) ≡ trace_text k seen.context seen.ip seen.byte
unfolding run
line-one events m new now end k seen count went is = line-of events m new now end seen (cycle events m) went is ∙ ap (λ j. trace_text j seen.context seen.ip seen.byte) (sym count)

trace-one : (events : List Line) (m : Machine) → trace_of events 1 m ≡ line_after events (run events 0 m)
unfolding trace_of
trace-one events m = refl

pub lines-none : (events : List Line) (m : Machine) (s : RoleState) → s ≡ puts (trace_of events 0 m) s
lines-none events m s = subst (λ (lines : List ℕ). s ≡ puts lines s) (sym (trace-none events m)) (puts-none s)

-- the line of one cycle, whole or cut
puts-one : (events : List Line) (m : Machine) (r : Result Step TraceStop) (text : List ℕ) (s t : RoleState) → line_after events (run events 0 m) ≡ text → trace_of events 1 m ≡ text → PutsText r text s t → PutsLines events m r 1 s t
puts-one events m (Ok end) text s t line all put = subst (λ (lines : List ℕ). t ≡ puts lines s) (sym all) put
puts-one events m (Err (Stop stop)) text s t line all put = subst (λ (lines : List ℕ). t ≡ puts lines s) (sym all) put
puts-one events m (Err (Write count)) text s t line all cut = (
  0,
  omega arith,
  subst (λ (bytes : List ℕ). PutPrefix bytes (puts (trace_of events 0 m) s) t) (sym line) (subst (λ (x : RoleState). PutPrefix text x t) (lines-none events m s) cut),
)

-- the lines of so many cycles, and then more
puts-on : (events : List Line) (r : Result Step TraceStop) (k j : ℕ) (m n : Machine) (s t u : RoleState) → run events k m ≡ Ran Next n → t ≡ puts (trace_of events k m) s → PutsLines events n r j t u → PutsLines events m r (k + j) s u
puts-on events (Ok end) k j m n s t u ran first then = subst (λ (lines : List ℕ). u ≡ puts lines s) (sym (trace-more events k j m n ran)) (puts-more (trace_of events k m) (trace_of events j n) s t u first then)
puts-on events (Err (Stop stop)) k j m n s t u ran first then = subst (λ (lines : List ℕ). u ≡ puts lines s) (sym (trace-more events k j m n ran)) (puts-more (trace_of events k m) (trace_of events j n) s t u first then)
puts-on events (Err (Write count)) k j m n s t u ran first (whole, is, cut) = (
  k + whole,
  omega (arith, is),
  subst (λ (bytes : List ℕ). PutPrefix bytes (puts (trace_of events (k + whole) m) s) u) (ap (line_after events) (sym (run_on events k whole m n ran))) (subst (λ (x : RoleState). PutPrefix (line_after events (run events whole n)) x u) before cut),
)
  where
    before : puts (trace_of events whole n) t ≡ puts (trace_of events (k + whole) m) s
    before = puts-more (trace_of events k m) (trace_of events whole n) s t (puts (trace_of events whole n) t) first refl ∙ ap (λ (lines : List ℕ). puts lines s) (sym (trace-more events k whole m n ran))

-- ---- one cycle

-- the memory stands for the machine after it
pub cycle-reaches : (events : List Line) (old new : Told) (cpu now : Cpu) (end : Step) (m : Machine) → IsTrue old.tells → Stands old cpu m → Speaks Next old cpu new now (cycle events) (Ok end) → Reaches events new now end 1 m
cycle-reaches events old new cpu now end m told st s = reaches_more events old new cpu now end 0 m told (reaches_start events old cpu m st) s

-- its line was put, whole or cut
pub one-line : (events : List Line) (old new : Told) (cpu now : Cpu) (end : Step) (seen : Sight) (m : Machine) (r : Result Step TraceStop) (s t : RoleState) → IsTrue old.tells → Stands old cpu m → Speaks Next old cpu new now (cycle events) (Ok end) → IsSeen seen (sight_in events m) → now.ran ≡ cpu.ran + 1 → PutsText r (trace_text now.ran seen.context seen.ip seen.byte) s t → HasTraced events r cpu.ran now.ran m s t
one-line events old new cpu now end seen m r s t told st served is counted put =
    let line = line-one events m new now end now.ran seen (counted ∙ ap (λ (c : Cpu). c.ran + 1) (sym st.numbers)) (served.model told m st) is in
    record { completed = 1; count = counted; lines = puts-one events m r (trace_text now.ran seen.context seen.ip seen.byte) s t line (trace-one events m ∙ line) put }

-- and none of a cycle that stopped
pub no-line : (events : List Line) (stop : CallStop) (before now : ℕ) (m : Machine) (s t : RoleState) → t ≡ s → now ≡ before → HasTraced events (Err (Stop stop)) before now m s t
no-line events stop before now m s t same none = record {
  completed = 0;
  count = none ∙ (let is : before ≡ before + 0 = omega arith in is);
  lines = subst (λ (lines : List ℕ). t ≡ puts lines s) (sym (trace-none events m)) (same ∙ puts-none s);
}

-- a line that was cut
pub cuts-in : (events : List Line) (old mid new : Told) (now : Cpu) (end : Step) (m : Machine) (before faults : ℕ) (e : TraceStop) → IsUnwritten before faults e → new ≡ mid → Reaches events mid now end 1 m → TracesAs events old new now 1 m (Err e)
cuts-in events old mid new now end m before faults (Stop stop) cut same x = absurd cut
cuts-in events old mid new now end m before faults (Write count) cut same x = record { done = 1; end = end; machine = x.machine; few = omega arith; ran = x.ran; stands = subst (λ (t : Told). Stands t now x.machine) (sym same) x.stands }

pub cut-by : (old new : Told) (before faults : ℕ) (e : TraceStop) → IsUnwritten before faults e → EndsBy old new before faults e
cut-by old new before faults (Stop stop) cut = absurd cut
cut-by old new before faults (Write count) cut = cut

pub cut-line : (before faults : ℕ) (e : TraceStop) (lines : List ℕ) (s t : RoleState) → IsUnwritten before faults e → PutsText {A = Unit {0}} (Err e) lines s t → PutsText {A = Step} (Err e) lines s t
cut-line before faults (Stop stop) lines s t cut h = absurd cut
cut-line before faults (Write count) lines s t cut h = h

-- ---- what is left of the host

-- what a stop leaves
sound-other : (A B : Type 0) (stop : CallStop) (P : Type 0) → StaysSound {A = A} (Err stop) P → StaysSound {A = B} (Err stop) P
sound-other A B (Stuck c) P h = h
sound-other A B (Mem f) P h = h

others-then : {X : Type 0} (role : Role) (a b c : Role → X) → SameBut role a b → c ≡ b → SameBut role a c
others-then role a b c first same = λ r other. ap (λ f. f r) same ∙ first r other

module _ {H : Type 0} (host : Ghosts H) (old new : LoomMemory H host) (same : loom_outside host new ≡ loom_outside host old) where
  pub role-left : (r : Role) → (loom_outside host new r).role ≡ (loom_outside host old r).role
  role-left r = ap (λ (f : Role → Others). (f r).role) same

  pub faults-left : (loom_outside host new Saved).faults ≡ (loom_outside host old Saved).faults
  faults-left = ap (λ (f : Role → Others). (f Saved).faults) same

  others-left : SameBut Saved (loom_outside host old) (loom_outside host new)
  others-left = λ r other. ap (λ (f : Role → Others). f r) same

-- the cycle stopped
pub fit-stopped : {H : Type 0} (host : Ghosts H) (old new : LoomMemory H host) (A : Type 0) (stop : CallStop) → StaysSound {A = A} (Err stop) (IsSound host new) → loom_outside host new ≡ loom_outside host old → loom_lender new ≡ loom_lender old → TraceFit {A = Step} host old new (Err (Stop stop))
fit-stopped host old new A stop sound same lender = record {
  sound = sound-other A (Unit {0}) stop (IsSound host new) sound;
  ready = tt;
  lender = lender;
  others = others-left host old new same;
  faults = (let left = faults-left host old new same in omega arith);
  only = λ saved. only-same (loom_outside host old Saved).role (loom_outside host new Saved).role (role-left host old new same Saved);
}

-- the line was cut
cut-sound : (before faults : ℕ) (e : TraceStop) (P : Type 0) → IsUnwritten before faults e → P → TraceSound {A = Step} (Err e) P
cut-sound before faults (Stop stop) P cut h = absurd cut
cut-sound before faults (Write count) P cut h = h

-- the memory after the cycle, and after its line
module _ {H : Type 0} (host : Ghosts H) (old mid new : LoomMemory H host) (same : loom_outside host mid ≡ loom_outside host old) (lender : loom_lender mid ≡ loom_lender old) (others : SameBut Saved (loom_outside host mid) (loom_outside host new)) (later : (loom_outside host mid Saved).faults ≤ (loom_outside host new Saved).faults) (lent : loom_lender new ≡ loom_lender mid) (only : IsTrue (host.tells Saved) → OnlyPut (loom_outside host mid Saved).role (loom_outside host new Saved).role) where
  only-after : IsTrue (host.tells Saved) → OnlyPut (loom_outside host old Saved).role (loom_outside host new Saved).role
  only-after saved = only-then (loom_outside host old Saved).role (loom_outside host mid Saved).role (loom_outside host new Saved).role (only-same (loom_outside host old Saved).role (loom_outside host mid Saved).role (role-left host old mid same Saved)) (only saved)

  others-after : SameBut Saved (loom_outside host old) (loom_outside host new)
  others-after = λ r other. others r other ∙ ap (λ (f : Role → Others). f r) same

  faults-after : (loom_outside host old Saved).faults ≤ (loom_outside host new Saved).faults
  faults-after = let left = faults-left host old mid same in omega (arith, left, later)

  pub fit-cut : (before faults : ℕ) (e : TraceStop) → IsUnwritten before faults e → IsSound host new → TraceFit {A = Step} host old new (Err e)
  fit-cut before faults e cut sound = record {
    sound = cut-sound before faults e (IsSound host new) cut sound;
    ready = tt;
    lender = lent ∙ lender;
    others = others-after;
    faults = faults-after;
    only = only-after;
  }

  -- and after the settling behind it
  pub fit-behind : (last : LoomMemory H host) (r : Result Step TraceStop) → loom_outside host last ≡ loom_outside host new → loom_lender last ≡ loom_lender new → TraceSound r (IsSound host last) → OnOk r (IsReady (loom_told host last)) → TraceFit host old last r
  fit-behind last r behind borrowed sound ready = record {
    sound = sound;
    ready = ready;
    lender = borrowed ∙ lent ∙ lender;
    others = others-then Saved (loom_outside host old) (loom_outside host new) (loom_outside host last) others-after behind;
    faults = (let left = faults-left host new last behind in let far = faults-after in omega (arith, left, far));
    only = λ saved. only-then (loom_outside host old Saved).role (loom_outside host new Saved).role (loom_outside host last Saved).role (only-after saved) (only-same (loom_outside host new Saved).role (loom_outside host last Saved).role (role-left host new last behind Saved));
  }

-- ---- one cycle behind others

cuts-on : (events : List Line) (mid new : Told) (between now : Cpu) (k steps : ℕ) (m : Machine) → k < steps → (x : Reaches events mid between Next k m) → CutsIn events new now 1 x.machine → CutsIn events new now steps m
cuts-on events mid new between now k steps m few x y = record {
  done = k + y.done;
  end = y.end;
  machine = y.machine;
  few = (let low = y.few in omega (arith, few, low));
  ran = run_on events k y.done m x.machine x.ran ∙ y.ran;
  stands = y.stands;
}

-- it stopped, or its line was cut
pub traces-on : (events : List Line) (old mid new : Told) (between now : Cpu) (k steps : ℕ) (m : Machine) (e : TraceStop) → (k ≡ 0 → mid ≡ old) → (0 < k → IsSettled mid) → k < steps → (x : Reaches events mid between Next k m) → TracesAs events mid new now 1 x.machine (Err e) → TracesAs events old new now steps m (Err e)
traces-on events old mid new between now k steps m (Stop stop) first settled few x y = stops_on events old mid new between now k steps m stop first settled few x y
traces-on events old mid new between now k steps m (Write count) first settled few x y = cuts-on events mid new between now k steps m few x y

pub traced-on : (events : List Line) (r : Result Step TraceStop) (before between now k : ℕ) (m n : Machine) (s t u : RoleState) → run events k m ≡ Ran Next n → between ≡ before + k → t ≡ puts (trace_of events k m) s → HasTraced events r between now n t u → HasTraced events r before now m s u
traced-on events r before between now k m n s t u ran count first x = record {
  completed = k + x.completed;
  count = (let more = x.count in omega (arith, count, more));
  lines = puts-on events r k x.completed m n s t u ran first x.lines;
}

-- one more line behind those of so many cycles
pub lines-on : (events : List Line) (between now k : ℕ) (m n : Machine) (s t u : RoleState) → run events k m ≡ Ran Next n → t ≡ puts (trace_of events k m) s → now ≡ between + 1 → HasTraced events (Ok Next) between now n t u → u ≡ puts (trace_of events (k + 1) m) s
lines-on events between now k m n s t u ran first counted x =
    let one : x.completed ≡ 1 = (let more = x.count in omega (arith, counted, more)) in
    subst (λ (lines : List ℕ). u ≡ puts lines s) (sym (trace-more events k 1 m n ran)) (puts-more (trace_of events k m) (trace_of events 1 n) s t u first (subst (λ j. u ≡ puts (trace_of events j n) t) one x.lines))

-- so many cycles were all
pub traced-all : (events : List Line) (end : Step) (before now k : ℕ) (m : Machine) (s t : RoleState) → now ≡ before + k → t ≡ puts (trace_of events k m) s → HasTraced events (Ok end) before now m s t
traced-all events end before now k m s t ran lines = record { completed = k; count = ran; lines = lines }

-- why, seen from further back
pub ends-earlier : (old mid new : Told) (before between now : ℕ) (e : TraceStop) → IsLater old mid → before ≤ between → EndsBy mid new between now e → EndsBy old new before now e
ends-earlier old mid new before between now (Stop stop) later low h = faults_earlier old mid new stop later h
ends-earlier old mid new before between now (Write count) later low h = (h.0, rose-earlier before between now low h.1)
  where
    rose-earlier : (a b c : ℕ) → a ≤ b → Rose b c → Rose a c
    rose-earlier a b c low h = omega arith

-- what a cycle leaves, seen from further back
pub fit-earlier : {H : Type 0} (host : Ghosts H) (old mid new : LoomMemory H host) (r : Result Step TraceStop) → SameBut Saved (loom_outside host old) (loom_outside host mid) → loom_lender mid ≡ loom_lender old → (loom_outside host old Saved).faults ≤ (loom_outside host mid Saved).faults → (IsTrue (host.tells Saved) → OnlyPut (loom_outside host old Saved).role (loom_outside host mid Saved).role) → TraceFit host mid new r → TraceFit host old new r
fit-earlier host old mid new r others lender low only x = record {
  sound = x.sound;
  ready = x.ready;
  lender = x.lender ∙ lender;
  others = λ role other. x.others role other ∙ others role other;
  faults = (let high = x.faults in omega (arith, low, high));
  only = λ saved. only-then (loom_outside host old Saved).role (loom_outside host mid Saved).role (loom_outside host new Saved).role (only saved) (x.only saved);
}

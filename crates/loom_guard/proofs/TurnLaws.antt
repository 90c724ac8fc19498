-- A turn of a guarded run: a leg, and the checkpoint behind it.
use Rattle.std.proofs.Common.{zero, suc, ◌≡◌, ◌⊎◌, ℕ, pos, ◌+◌, ◌<◌, ◌≤◌, Bool, true, false, List, [], ◌++◌, Option, Some, None, is_some, Result, Err, IsTrue, inl, inr, refl, sym, ◌∙◌, ap, subst, arith}
use Rattle.std.specs.Result.{IsErrAnd}
use Rattle.std.proofs.lemmas.Bool.{cases_lt}
use Rattle.std.proofs.lemmas.Result.{err_from_is_err_and}
use Rattle.long_names.specs.declared.value.Value.TheVariants.{Int, Ref}
use Rattle.long_names.specs.Heap.{Heap, Has, IsBounded}
use Rattle.long_names.specs.Kept.{kept, no_roots}
use Rattle.long_names.specs.Thin.{IsWhole}
use Rattle.loom_host.specs.Outside.{RoleState}
use Rattle.loom_host.specs.declared.outside.Host.{Ghosts}
use Rattle.loom_host.specs.declared.outside.Role.{Role}
use Rattle.loom_host.specs.declared.outside.Role.TheVariants.{Work, Transcript}
use Rattle.loom_host.specs.Work.{IsWorkRead}
use Rattle.disk_objects.specs.declared.rest.DiskRest.{DiskRest}
use Rattle.image_format.specs.declared.opening.State.{State as Words}
use Rattle.image_format.specs.Rules.{IsStateWord}
use Rattle.image_format.specs.Valid.{IsImageHeap}
use Rattle.image_memory.specs.Image.{HasImage}
use Rattle.image_reader.specs.declared.loading.Loaded.{Loaded}
use Rattle.image_reader.specs.Loaded.{heap_on}
use Rattle.image_writer.specs.Saved.{saved_text}
use Rattle.blue_model.specs.declared.cpu.Cpu.{Cpu}
use Rattle.blue_model.specs.declared.event.Line.{Line}
use Rattle.blue_model.specs.declared.step.Step.TheVariants.{Next, Keep}
use Rattle.blue_model.specs.Contexts.{park}
use Rattle.blue_model.specs.Cycle.{cycle}
use Rattle.blue_model.specs.Earlier.{outcome_with_earlier, with_earlier}
use Rattle.blue_model.specs.Guarded.{Guarded, Going, Broken, guarded_on}
use Rattle.blue_model.specs.Logs.{Course}
use Rattle.blue_model.specs.Machine.{Machine, LogRow, Outcome, Go, Halt, Spent, log_of}
use Rattle.blue_model.specs.State.{State, name_in}
use Rattle.blue_model.proofs.EarlierRules.{ignores-park}
use Rattle.blue_model.proofs.EarlierTurns.{ignores-cycle}
use Rattle.contexts.specs.Serves.{IsLogged}
use Rattle.machine_run.specs.States.{model_state, state_left}
use Rattle.machine_run.specs.declared.running.Finished.{Finished}
use Rattle.guarded_run.specs.Course.{guarded_course, serial_at}
use Rattle.guarded_run.specs.Legs.{guarded_first}
use Rattle.guarded_run.proofs.EarlierLaws.{earlier_on, first_after, guarded_course_after, guarded_with_earlier}
use Rattle.guarded_run.proofs.SerialLaws.{serial_to_keep}
use Rattle.guarded_run.proofs.WholeLaws.{whole_first}
use Rattle.checkpoint.specs.History.{Keeps}
use Rattle.checkpoint.specs.Keeping.{serial_of}
use Rattle.checkpoint.specs.Vault.{VaultState}
use Rattle.checkpoint.specs.declared.point.Point.{Point}
use Rattle.loom_words.specs.Words.{Row}
use Rattle.loom_words.specs.declared.status.Status.{Status}
use Rattle.loom_words.specs.declared.status.Status.TheVariants as answer
use Rattle.loom_run.specs.Ends.{HasRun, IsImageOf, IsPastLimits, head_of, image_of}
use Rattle.loom_run.specs.Meanings.{LeavesBut, Meanings, meanings}
use Rattle.loom_run.specs.Stages.{Stage, Opening, Reading, Listening, Making, Running, Finishing, Saving, Drawing, Telling, roles_at}
use Rattle.loom_run.specs.Steps.{CameThrough, IsOfRun, IsSameFile}
use Rattle.loom_run.proofs.EndsLaws.{cause-since}
use Rattle.loom_guard.specs.Checkpoints.{HasDoneKeep, IsCheckpoint}
use Rattle.loom_guard.specs.Legs.{FromDisk, Halts, HaltsAt, IsKeptIn, LegLeaves, StopsRunning, WantsMemory}
use Rattle.loom_guard.specs.Promise.{EndsKept}
use Rattle.loom_guard.specs.Steps.{LegsStop}
use Rattle.loom_guard.specs.Moments.{IsAfter, IsEither, IsKeeping, StopsAt}
use Rattle.loom_guard.specs.Turns.{EndsKeeping, IsKeepRefusal, KeptHalts, TurnKeeps}
use Rattle.loom_guard.specs.Vaults.{KeepsLast}
use Rattle.loom_guard.specs.declared.guarded.Turn.{Turn}
use Rattle.loom_guard.specs.declared.legs.Leg.{Leg}
use Rattle.loom_guard.specs.declared.legs.Leg.TheVariants as legs
use Rattle.loom_guard.proofs.KeepingLaws.{later-read}
use Rattle.loom_guard.proofs.StatusLaws.{caused-none, ends-kept, vault-since}
use Rattle.loom_guard.proofs.StretchLaws.{done-to-keep, said-to-keep}

-- ---- the run begins

-- the heap of an image is whole, where nothing is named from outside
below : (h : Heap) (n : ℕ) → IsBounded h → Has h n → n < h.next
below h n is has = elim (cases_lt n h.next) [
  | inl low ↦ low
  | inr high ↦ (let wrong : ◌≡◌ {A = Bool} false true = ap is_some (sym (is.bounded n high)) ∙ has in absurd (cc))
]

image-whole : (h : Heap) → IsImageHeap h → IsWhole h (λ r. Int (pos 0)) (λ i. None)
image-whole h is = record {
  known = is.known;
  below = λ n has. below h n is.bounded has;
  closed = λ n o k e holds. is.closed n k o e holds;
  rooted = λ r n e. (let wrong : Int (pos 0) ≡ Ref n = e in absurd (cc));
  pinned = λ i n e. (let wrong : ◌≡◌ {A = Option ℕ} None (Some n) = e in absurd (cc));
}

word-has : (h : Heap) (word n : ℕ) → IsStateWord h word → name_in word ≡ Some n → Has h n
word-has h zero n is e = let wrong : ◌≡◌ {A = Option ℕ} None (Some n) = e in absurd (cc)
word-has h (suc k) n (inl none) e = let wrong : suc k ≡ 0 = none in absurd (omega (arith, wrong))
word-has h (suc k) n (inr has) e = let same : suc k ≡ n = cc in subst (Has h) same has

pub begins-here : {H : Type 0} (host : Ghosts H) (now : H) (rest : DiskRest) (x : Loaded) (row : Row) (events : List Line) (serial : ℕ) (cpu : Cpu) → HasImage host now rest x → IsTrue (host.tells Work)
    → FromDisk host.tells row true events serial cpu (host.roles now Transcript).put x.state (heap_on host now rest x.next) (meanings host now)
    (guarded_first serial (host.roles now Transcript).put (model_state x.state) (heap_on host now rest x.next)) (guarded_course events row.steps serial (model_state x.state) (heap_on host now rest x.next))
begins-here host now rest x row events serial cpu image work =
    let h = heap_on host now rest x.next in
    let said = (host.roles now Transcript).put in
    let state = image.state work in (
      work,
      record {
        whole = whole_first serial said (model_state x.state) h (image-whole h (image.heap work).is) (record {
          display = λ n e. word-has h x.state.display n state.display e;
          input = λ n e. word-has h x.state.input n state.input e;
          timer = λ n e. word-has h x.state.timer n state.timer e;
        });
        course_is = guarded_course_after events row.steps serial said (model_state x.state) h;
        sets_out = refl;
      },
    )

-- ---- what a leg left

module _ (tells : Role → Bool) (row : Row) (first : Bool) (events : List Line) (cpu then : Cpu) (said : List ℕ) (words : Words) (h : Heap) (now : Meanings) (leg : Leg) (left : Heap) (serial last : ℕ) (same : serial ≡ last)
    (leaves : (before : Meanings) (g : Guarded) (c : Course) → FromDisk tells row first events serial cpu said words h before g c → LegLeaves tells before now row events g serial then leg left c) where
  -- under the serial of the last checkpoint
  leaves-under : (before : Meanings) (g : Guarded) (c : Course) → FromDisk tells row first events last cpu said words h before g c → LegLeaves tells before now row events g last then leg left c
  leaves-under before g c from = subst (λ (n : ℕ). FromDisk tells row first events n cpu said words h before g c → LegLeaves tells before now row events g n then leg left c) same (leaves before g c) from

  pub leaves-kept : (state : Words) → leg ≡ legs.Kept state → (before : Meanings) (g : Guarded) (c : Course) → FromDisk tells row first events last cpu said words h before g c → IsKeptIn tells now row.core events g last then state left
  leaves-kept state is before g c from = subst (λ (x : Leg). LegLeaves tells before now row events g last then x left c) is (leaves-under before g c from)

  pub leaves-ended : (finished : Finished) → leg ≡ legs.Ended finished → (before : Meanings) (g : Guarded) (c : Course) → FromDisk tells row first events last cpu said words h before g c
      → CameThrough tells before now row finished left c × (serial_at (guarded_on events row.steps g) ≡ last)
  leaves-ended finished is before g c from = subst (λ (x : Leg). LegLeaves tells before now row events g last then x left c) is (leaves-under before g c from)

-- ---- the machine was kept

-- the bytecode that did 97
pub kept-checkpoint : (tells : Role → Bool) (now : Meanings) (core : ℕ) (events : List Line) (steps : ℕ) (g : Guarded) (last : ℕ) (cpu : Cpu) (state : Words) (left : Heap) (text : List ℕ)
    → IsKeptIn tells now core events g last cpu state left → cpu.ran ≤ steps → text ≡ saved_text (kept left no_roots) state → IsCheckpoint events steps g (last + 1) text
kept-checkpoint tells now core events steps g last cpu state left text k few e = record {
  earlier = k.keep.earlier;
  few = let ran = k.keep.ran in omega (arith, ran, few);
  before = k.keep.before;
  last = last;
  rows = k.keep.behind;
  was = k.keep.was;
  machine = k.keep.machine;
  log = k.keep.log;
  did = k.keep.did;
  parked = k.parked;
  more = k.keep.rows;
  parks = k.keep.parks;
  next = refl;
  is = e ∙ k.saves;
  right = subst (λ (bytes : List ℕ). IsImageOf bytes (head_of k.parked) (kept k.parked.heap no_roots)) (sym (e ∙ k.saves)) k.image;
}

-- the next leg sets out from what was kept
pub goes-on : {H : Type 0} (host : Ghosts H) (before : Meanings) (mid now : H) (row : Row) (first : Bool) (events : List Line) (last : ℕ) (cpu then : Cpu) (said : List ℕ) (words state : Words) (h left : Heap) (rest : DiskRest) (x : Loaded) (point : Point) (g : Guarded) (c : Course)
    → FromDisk host.tells row first events last cpu said words h before g c → IsKeptIn host.tells (meanings host mid) row.core events g last then state left
    → IsWorkRead host mid now → point.serial ≡ last + 1 → (heap_on host now rest x.next ≡ kept left no_roots) × (model_state x.state ≡ state_left (kept left no_roots) (model_state state))
    → FromDisk host.tells row false events point.serial then (host.roles now Transcript).put x.state (heap_on host now rest x.next) before g c
goes-on host before mid now row first events last cpu then said words state h left rest x point g c from k read next same = (
  from.0,
  record {
    whole = from.1.whole;
    course_is = from.1.course_is;
    sets_out = record {
      last = last;
      before = k.told;
      parked = k.parked;
      keep = k.keep;
      next = next;
      heap = same.0 ∙ k.heap;
      state_is = same.1 ∙ k.kept_state;
      said_is = λ speaks. ap (λ (s : RoleState). s.put) (read.roles Transcript) ∙ k.said_is speaks;
      fits = k.fits;
    };
  },
)

-- ---- it wasn't

keeping-either : (P : Status → Type 0) → ((count : ℕ) → P (answer.VaultFault count)) → ((count : ℕ) → P (answer.WorkFault count)) → ((place name : ℕ) → P (answer.Damaged place name)) → P answer.OutOfMemory → (status : Status) → EndsKeeping status → P status
keeping-either P vault work damaged memory (answer.VaultFault count) ends = vault count
keeping-either P vault work damaged memory (answer.WorkFault count) ends = work count
keeping-either P vault work damaged memory (answer.Damaged place name) ends = damaged place name
keeping-either P vault work damaged memory answer.OutOfMemory ends = memory
keeping-either P vault work damaged memory (answer.Done ran) ends = absurd ends
keeping-either P vault work damaged memory (answer.Quit ran) ends = absurd ends
keeping-either P vault work damaged memory (answer.Made objects) ends = absurd ends
keeping-either P vault work damaged memory (answer.Listed objects) ends = absurd ends
keeping-either P vault work damaged memory (answer.Assembled objects) ends = absurd ends
keeping-either P vault work damaged memory (answer.Usage word) ends = absurd ends
keeping-either P vault work damaged memory (answer.ImageBad rule place) ends = absurd ends
keeping-either P vault work damaged memory (answer.EventsBad line) ends = absurd ends
keeping-either P vault work damaged memory (answer.TextBad line rule) ends = absurd ends
keeping-either P vault work damaged memory (answer.Stuck cause ran) ends = absurd ends
keeping-either P vault work damaged memory (answer.CoreFull ran need) ends = absurd ends
keeping-either P vault work damaged memory (answer.NamesSpent ran) ends = absurd ends
keeping-either P vault work damaged memory (answer.WorkFull live room) ends = absurd ends
keeping-either P vault work damaged memory (answer.ReadFault role count) ends = absurd ends
keeping-either P vault work damaged memory (answer.WriteFault role count) ends = absurd ends
keeping-either P vault work damaged memory answer.NoCheckpoint ends = absurd ends
keeping-either P vault work damaged memory (answer.VaultBad place) ends = absurd ends

-- whoever is told what was said by then is told what becomes of the run
stops-keeping : (tells : Role → Bool) (before now : Meanings) (row : Row) (lines : List Line) (g : Guarded) (c : Course) (serial : ℕ) (status : Status) → EndsKeeping status → (ran : ℕ) → ran ≤ row.steps → HasDoneKeep lines g ran → serial_at (guarded_on lines ran g) ≡ serial + 1
    → (IsTrue (tells Transcript) → (now.roles Transcript).put ≡ (before.roles Transcript).put ++ c.said ran) → HaltsAt Running tells before now row lines g serial status c
stops-keeping tells before now row lines g c serial status ends ran few done next said =
    keeping-either (λ status. HaltsAt Running tells before now row lines g serial status c)
    (λ count. (inl (record { stops = tt; says = λ speaks. (ran, few, said speaks) }), (ran, keeping)))
    (λ count. (inl (record { stops = tt; says = λ speaks. (ran, few, said speaks) }), (ran, inr keeping)))
    (λ place name. (inl (record { stops = tt; says = λ speaks. (ran, few, said speaks) }), (ran, inr keeping)))
    (inr (record { status_is = refl; ran = ran; few = few; at = inr done; says = said }), (ran, inr keeping))
    status ends
  where
    keeping : IsKeeping (tells Transcript) row.steps lines g c (before.roles Transcript).put (now.roles Transcript).put serial ran
    keeping = record { few = few; said = said; done = done; next = next }

pub keep-halts : {H : Type 0} (host : Ghosts H) (old mid now : H) (before after : ℕ) (row : Row) (first : Bool) (events : List Line) (last : ℕ) (cpu then : Cpu) (said : List ℕ) (words state : Words) (h left : Heap) (status : Status)
    → ((role : Role) → host.faults old role ≤ host.faults mid role) → IsKeepRefusal host.tells (meanings host mid) (meanings host now) before after status → IsWorkRead host mid now → then.ran ≤ row.steps
    → ((begun : Meanings) (g : Guarded) (c : Course) → FromDisk host.tells row first events last cpu said words h begun g c → IsKeptIn host.tells (meanings host mid) row.core events g last then state left)
    → KeptHalts host.tells (meanings host old) (meanings host now) before after row events (FromDisk host.tells row first events last cpu said words h) last status
keep-halts host old mid now before after row first events last cpu then said words state h left status later refused read few kept = record {
  stage = Running;
  late = inl refl;
  answer = keeping-either (λ status. EndsKept Running status) (λ count. tt) (λ count. tt) (λ place name. tt) tt status refused.ends;
  of_run = keeping-either (λ status. IsOfRun status) (λ count. tt) (λ count. tt) (λ place name. tt) tt status refused.ends;
  answered = record {
    ran = keeping-either (λ status. HasRun status row.steps) (λ count. tt) (λ count. tt) (λ place name. tt) tt status refused.ends;
    cause = cause-since status (host.faults old) (host.faults mid) (host.faults now) later refused.cause;
    whole = refused.whole;
    limits = keeping-either (λ status. IsPastLimits row status) (λ count. tt) (λ count. tt) (λ place name. tt) tt status refused.ends;
  };
  caused = refused.caused;
  halts = λ begun g c from. let k = kept begun g c from in stops-keeping host.tells begun (meanings host now) row events g c last status refused.ends then.ran few (done-to-keep events g last k.told then k.parked k.keep) (serial_to_keep events g last k.told then k.parked k.keep) (said-then begun g c from k);
} where
  said-then : (begun : Meanings) (g : Guarded) (c : Course) → FromDisk host.tells row first events last cpu said words h begun g c → IsKeptIn host.tells (meanings host mid) row.core events g last then state left
      → IsTrue (host.tells Transcript) → (host.roles now Transcript).put ≡ (begun.roles Transcript).put ++ c.said then.ran
  said-then begun g c from k speaks =
      ap (λ (s : RoleState). s.put) (read.roles Transcript) ∙ k.said_is speaks ∙ sym (said-to-keep events row.steps g last k.told then k.parked k.keep) ∙ ap (λ (d : Course). d.said then.ran) from.1.course_is

-- ---- the leg ended the run

pub leg-halts : (tells : Role → Bool) (old now : Meanings) (vault : ℕ) (row : Row) (lines : List Line) (P : Meanings → Guarded → Course → Type 0) (serial : ℕ) (status : Status) → Halts tells old now row lines P serial status → KeptHalts tells old now vault vault row lines P serial status
leg-halts tells old now vault row lines P serial status x = record {
  stage = x.stage;
  late = x.late;
  answer = ends-kept x.stage status x.refusal.answer;
  of_run = x.refusal.of_run;
  answered = record { ran = x.refusal.ran; cause = x.refusal.cause; whole = x.refusal.whole; limits = x.refusal.limits };
  caused = caused-none x.stage status vault vault refl x.refusal.answer;
  halts = x.of_run;
}

-- ---- frames

pub leaves-read : {H : Type 0} (host : Ghosts H) (old now : H) → IsWorkRead host old now → LeavesBut (roles_at Running) (meanings host old) (meanings host now)
leaves-read host old now read = record {
  others = λ role none. record { state = read.roles role; faults = read.other_faults role none.1.0 };
  writes = λ none. read.writes;
  later = later-read host old now read;
}

pub file-read : {H : Type 0} (host : Ghosts H) (old mid now : H) → IsSameFile (host.roles old Work) (host.roles mid Work) → IsWorkRead host mid now → IsSameFile (host.roles old Work) (host.roles now Work)
file-read host old mid now same read = subst (IsSameFile (host.roles old Work)) (sym (read.roles Work)) same

-- ---- the answers of a turn

pub turn-refused : (began now : VaultState) (last : Option Point) (IsImage : ℕ → List ℕ → Type 0) (r : Result Turn Status) (e : Status) → IsErrAnd r (λ y. y ≡ e) → Keeps began now (serial_of last) IsImage → KeepsLast now (serial_of last) e → TurnKeeps began now last IsImage r
turn-refused began now last IsImage r e is keeps has =
    let q = err_from_is_err_and r is in
    subst (λ (x : Result Turn Status). TurnKeeps began now last IsImage x) (sym (q.1 ∙ ap (λ y. Err y) q.2)) (keeps, has)

-- the legs of a run that began at an earlier moment
pub legs-stop : (tells : Role → Bool) (start old now : Meanings) (first before after : ℕ) (row : Row) (lines : List Line) (P : Meanings → Guarded → Course → Type 0) (c : Course) (last : ℕ) (status : Status) → ((role : Role) → start.faults role ≤ old.faults role) → before ≡ first
    → KeptHalts tells old now before after row lines P last status → (g : Guarded) → (IsTrue (tells Work) → P start g c) → LegsStop tells start now first after row lines g c last status
legs-stop tells start old now first before after row lines P c last status later calm x g from = record {
  stage = x.stage;
  late = x.late;
  answer = x.answer;
  of_run = x.of_run;
  answered = record { ran = x.answered.ran; cause = cause-since status start.faults old.faults now.faults later x.answered.cause; whole = x.answered.whole; limits = x.answered.limits };
  caused = vault-since status first before after calm x.caused;
  halts = λ work. x.halts start g c (from work);
}

-- ---- behind what was said before the run

-- what a rule came to behind something said, it came to without
earlier-go : {A : Type 0} (z : List ℕ) (a : A) (m : Machine) (log : List LogRow) (o : Outcome A) → outcome_with_earlier z o ≡ Go a m log → (n : Machine) × (o ≡ Go a n log) × (m ≡ with_earlier z n)
earlier-go {A} z a m log (Go b n rows) e =
    let one : b ≡ a = cc in
    let all : rows ≡ log = cc in
    (n, ap (λ x. Go x n rows) one ∙ ap (λ x. Go a n x) all, (let is : with_earlier z n ≡ m = cc in sym is))
earlier-go {A} z a m log (Halt c rows) e = let wrong : ◌≡◌ {A = Outcome A} (Halt c rows) (Go a m log) = e in absurd (cc)
earlier-go {A} z a m log (Spent rows) e = let wrong : ◌≡◌ {A = Outcome A} (Spent rows) (Go a m log) = e in absurd (cc)

earlier-going : (z : List ℕ) (m : Machine) (serial : ℕ) (rows : List LogRow) (g : Guarded) → guarded_with_earlier z g ≡ Going Next m serial rows → (n : Machine) × (g ≡ Going Next n serial rows) × (m ≡ with_earlier z n)
earlier-going z m serial rows (Going end n last lines) e =
    let one : end ≡ Next = cc in
    let same : last ≡ serial = cc in
    let all : lines ≡ rows = cc in
    (n, ap (λ x. Going x n last lines) one ∙ ap (λ x. Going Next n x lines) same ∙ ap (λ x. Going Next n serial x) all, (let is : with_earlier z n ≡ m = cc in sym is))
earlier-going z m serial rows (Broken stage n last why log) e = let wrong : Broken stage (with_earlier z n) last why log ≡ Going Next m serial rows = e in absurd (cc)

-- a checkpoint of a run is one of the run before which nothing was said
pub checkpoint-first : (events : List Line) (steps first : ℕ) (said : List ℕ) (state : State) (h : Heap) (serial : ℕ) (image : List ℕ) → IsCheckpoint events steps (guarded_first first said state h) serial image → IsCheckpoint events steps (guarded_first first [] state h) serial image
checkpoint-first events steps first said state h serial image k = record {
  earlier = k.earlier;
  few = k.few;
  before = going.0;
  last = k.last;
  rows = k.rows;
  was = going.1;
  machine = cycled.0;
  log = k.log;
  did = cycled.1;
  parked = parks.0;
  more = k.more;
  parks = parks.1;
  next = k.next;
  is = k.is ∙ ap image_of parks.2;
  right = subst (λ (m : Machine). IsImageOf image (head_of m) (kept m.heap no_roots)) parks.2 k.right;
} where
  g : Guarded
  g = guarded_first first [] state h

  going : (n : Machine) × (guarded_on events k.earlier g ≡ Going Next n k.last k.rows) × (k.before ≡ with_earlier said n)
  going = earlier-going said k.before k.last k.rows (guarded_on events k.earlier g) (sym (earlier_on events k.earlier said g) ∙ ap (guarded_on events k.earlier) (sym (first_after first said state h)) ∙ k.was)

  cycled : (n : Machine) × (cycle events going.0 ≡ Go Keep n k.log) × (k.machine ≡ with_earlier said n)
  cycled = earlier-go said Keep k.machine k.log (cycle events going.0) (sym ((ignores-cycle events).same said going.0) ∙ ap (cycle events) (sym going.2) ∙ k.did)

  parks : (n : Machine) × (park cycled.0 ≡ Go tt n k.more) × (k.parked ≡ with_earlier said n)
  parks = earlier-go said tt k.parked k.more (park cycled.0) (sym (ignores-park.same said cycled.0) ∙ ap park (sym cycled.2) ∙ k.parks)

serial-earlier : (z : List ℕ) (g : Guarded) → serial_at (guarded_with_earlier z g) ≡ serial_at g
serial-earlier z (Going end m serial rows) = refl
serial-earlier z (Broken stage m serial why log) = refl

-- nor does what was said change a serial
pub serial-first : (events : List Line) (steps first : ℕ) (said : List ℕ) (state : State) (h : Heap) → serial_at (guarded_on events steps (guarded_first first said state h)) ≡ serial_at (guarded_on events steps (guarded_first first [] state h))
serial-first events steps first said state h =
    ap (λ (g : Guarded). serial_at (guarded_on events steps g)) (first_after first said state h)
    ∙ ap serial_at (earlier_on events steps said (guarded_first first [] state h))
    ∙ serial-earlier said (guarded_on events steps (guarded_first first [] state h))

-- the bytecode that did 97, and what the machine had said behind it
done-both : (events : List Line) (first : ℕ) (said : List ℕ) (state : State) (h : Heap) (ran : ℕ) → (k : HasDoneKeep events (guarded_first first said state h) ran) → (d : HasDoneKeep events (guarded_first first [] state h) ran) × (k.machine ≡ with_earlier said d.machine)
done-both events first said state h ran k = (
  record {
    earlier = k.earlier;
    ran_is = k.ran_is;
    before = going.0;
    last = k.last;
    rows = k.rows;
    was = going.1;
    machine = cycled.0;
    log = k.log;
    did = cycled.1;
  },
  cycled.2,
) where
  g : Guarded
  g = guarded_first first [] state h

  going : (n : Machine) × (guarded_on events k.earlier g ≡ Going Next n k.last k.rows) × (k.before ≡ with_earlier said n)
  going = earlier-going said k.before k.last k.rows (guarded_on events k.earlier g) (sym (earlier_on events k.earlier said g) ∙ ap (guarded_on events k.earlier) (sym (first_after first said state h)) ∙ k.was)

  cycled : (n : Machine) × (cycle events going.0 ≡ Go Keep n k.log) × (k.machine ≡ with_earlier said n)
  cycled = earlier-go said Keep k.machine k.log (cycle events going.0) (sym ((ignores-cycle events).same said going.0) ∙ ap (cycle events) (sym going.2) ∙ k.did)

abbrev done-first : (events : List Line) (first : ℕ) (said : List ℕ) (state : State) (h : Heap) (ran : ℕ) → HasDoneKeep events (guarded_first first said state h) ran → HasDoneKeep events (guarded_first first [] state h) ran
done-first events first said state h ran k = (done-both events first said state h ran k).0

-- parking says nothing of what was said
log-earlier : {A : Type 0} (z : List ℕ) (o : Outcome A) → log_of (outcome_with_earlier z o) ≡ log_of o
log-earlier z (Go a m log) = refl
log-earlier z (Halt c log) = refl
log-earlier z (Spent log) = refl

parked-first : (events : List Line) (first : ℕ) (said : List ℕ) (state : State) (h : Heap) (ran : ℕ) → (k : HasDoneKeep events (guarded_first first said state h) ran) → log_of (park k.machine) ≡ log_of (park (done-first events first said state h ran k).machine)
parked-first events first said state h ran k =
    let d = done-both events first said state h ran k in
    ap (λ (m : Machine). log_of (park m)) d.1 ∙ ap (λ (o : Outcome (Unit {0})). log_of o) (ignores-park.same said d.0.machine) ∙ log-earlier said (park d.0.machine)

-- to which bytecode the last checkpoint belongs
module _ (speaks : Bool) (steps : ℕ) (events : List Line) (first : ℕ) (said : List ℕ) (state : State) (h : Heap) (c : Course) (old new : List ℕ) (last : ℕ) where
  after-first : (ran : ℕ) → IsAfter speaks steps events (guarded_first first said state h) c old new last ran → IsAfter speaks steps events (guarded_first first [] state h) c old new last ran
  after-first ran x = record { few = x.few; said = x.said; kept = sym (serial-first events ran first said state h) ∙ x.kept }

  abbrev keeping-first : (ran : ℕ) → IsKeeping speaks steps events (guarded_first first said state h) c old new last ran → IsKeeping speaks steps events (guarded_first first [] state h) c old new last ran
  keeping-first ran x = record { few = x.few; said = x.said; done = done-first events first said state h ran x.done; next = sym (serial-first events ran first said state h) ∙ x.next }

  either-first : IsEither speaks steps events (guarded_first first said state h) c old new last → IsEither speaks steps events (guarded_first first [] state h) c old new last
  either-first x = (
    x.0,
    elim x.1 [
      | inl after ↦ inl (after-first x.0 after)
      | inr keeping ↦ inr (keeping-first x.0 keeping)
    ],
  )

  moment-first : (status : Status) → StopsAt speaks steps events (guarded_first first said state h) c old new last status → StopsAt speaks steps events (guarded_first first [] state h) c old new last status
  moment-first (answer.Stuck cause ran) x = after-first ran x
  moment-first (answer.NamesSpent ran) x = after-first ran x
  moment-first (answer.CoreFull ran need) (inl x) = inl (after-first ran x)
  moment-first (answer.CoreFull ran need) (inr x) = inr (keeping-first ran x.0, subst (λ (rows : List LogRow). IsLogged need rows) (parked-first events first said state h ran x.0.done) x.1)
  moment-first (answer.WorkFull live room) x = (x.0, x.1, after-first x.0 x.2)
  moment-first (answer.WorkFault count) x = either-first x
  moment-first (answer.Damaged place name) x = either-first x
  moment-first answer.OutOfMemory x = either-first x
  moment-first (answer.WriteFault role count) x = (x.0, record { few = x.1.few; said = x.1.said; kept = sym (serial-first events x.0 first said state h) ∙ x.1.kept })
  moment-first (answer.VaultFault count) x = (x.0, keeping-first x.0 x.1)
  moment-first (answer.Done ran) x = tt
  moment-first (answer.Quit ran) x = tt
  moment-first (answer.Made objects) x = tt
  moment-first (answer.Listed objects) x = tt
  moment-first (answer.Assembled objects) x = tt
  moment-first (answer.Usage word) x = tt
  moment-first (answer.ImageBad rule place) x = tt
  moment-first (answer.EventsBad line) x = tt
  moment-first (answer.TextBad line rule) x = tt
  moment-first (answer.ReadFault role count) x = tt
  moment-first answer.NoCheckpoint x = tt
  moment-first (answer.VaultBad place) x = tt

running-first : (tells : Role → Bool) (before now : Meanings) (row : Row) (events : List Line) (first : ℕ) (said : List ℕ) (state : State) (h : Heap) (status : Status) (c : Course)
    → StopsRunning tells before now row status c ⊎ WantsMemory tells before now row events (guarded_first first said state h) status c → StopsRunning tells before now row status c ⊎ WantsMemory tells before now row events (guarded_first first [] state h) status c
running-first tells before now row events first said state h status c (inl x) = inl x
running-first tells before now row events first said state h status c (inr w) = inr record { status_is = w.status_is; ran = w.ran; few = w.few; at = by w.at; says = w.says }
  where
    by : (w.ran ≡ 0) ⊎ HasDoneKeep events (guarded_first first said state h) w.ran → (w.ran ≡ 0) ⊎ HasDoneKeep events (guarded_first first [] state h) w.ran
    by (inl none) = inl none
    by (inr done) = inr (done-first events first said state h w.ran done)

halts-first : (stage : Stage) (tells : Role → Bool) (before now : Meanings) (row : Row) (events : List Line) (first : ℕ) (said : List ℕ) (state : State) (h : Heap) (last : ℕ) (status : Status) (c : Course)
    → HaltsAt stage tells before now row events (guarded_first first said state h) last status c → HaltsAt stage tells before now row events (guarded_first first [] state h) last status c
halts-first Running tells before now row events first said state h last status c x =
    (running-first tells before now row events first said state h status c x.0, moment-first (tells Transcript) row.steps events first said state h c (before.roles Transcript).put (now.roles Transcript).put last status x.1)
halts-first Finishing tells before now row events first said state h last status c x = (x.0, sym (serial-first events row.steps first said state h) ∙ x.1)
halts-first Opening tells before now row events first said state h last status c x = x
halts-first Reading tells before now row events first said state h last status c x = x
halts-first Listening tells before now row events first said state h last status c x = x
halts-first Making tells before now row events first said state h last status c x = x
halts-first Saving tells before now row events first said state h last status c x = x
halts-first Drawing tells before now row events first said state h last status c x = x
halts-first Telling tells before now row events first said state h last status c x = x

-- so it is with why the legs of a run were stopped
pub stop-first : (tells : Role → Bool) (before now : Meanings) (faults later : ℕ) (row : Row) (events : List Line) (first : ℕ) (said : List ℕ) (state : State) (h : Heap) (c : Course) (last : ℕ) (status : Status)
    → LegsStop tells before now faults later row events (guarded_first first said state h) c last status → LegsStop tells before now faults later row events (guarded_first first [] state h) c last status
stop-first tells before now faults later row events first said state h c last status x = record {
  stage = x.stage;
  late = x.late;
  answer = x.answer;
  of_run = x.of_run;
  answered = x.answered;
  caused = x.caused;
  halts = λ work. halts-first x.stage tells before now row events first said state h last status c (x.halts work);
}

-- To which bytecode the checkpoint of a leg belongs where it stopped: what the machine says there, with the serial.
use Rattle.std.proofs.Common.{◌≡◌, ℕ, ◌+◌, ◌≤◌, ◌++◌, List, Ok, IsTrue, Bool, true, false, inl, inr, refl, sym, ◌∙◌, ap}
use Rattle.std.proofs.lemmas.List.{append_assoc, append_cancel_left}
use Rattle.long_names.specs.Heap.{Heap}
use Rattle.object_memory.specs.Told.{Told}
use Rattle.object_memory.specs.declared.fault.MemFault.TheVariants as fault
use Rattle.blue_model.specs.declared.cpu.Cpu.{Cpu}
use Rattle.blue_model.specs.declared.event.Line.{Line}
use Rattle.blue_model.specs.declared.step.Step.{Step}
use Rattle.blue_model.specs.declared.step.Step.TheVariants.{Next, Quit, Keep}
use Rattle.blue_model.specs.Cycle.{parked}
use Rattle.blue_model.specs.Devices.{picture}
use Rattle.blue_model.specs.Earlier.{at_rest_after, course_with_earlier}
use Rattle.blue_model.specs.Endings.{said_in}
use Rattle.blue_model.specs.Guarded.{Guarded, guarded_on}
use Rattle.blue_model.specs.Logs.{Course}
use Rattle.blue_model.specs.Machine.{Machine, Outcome, Go, Halt, Spent, after}
use Rattle.blue_model.specs.State.{State, begin}
use Rattle.blue_model.proofs.FailLaws.{picture_leaves}
use Rattle.contexts.specs.Keeping.{is_kept}
use Rattle.contexts.specs.declared.stop.Stop.{Stop}
use Rattle.contexts.specs.declared.stop.Stop.TheVariants as stop
use Rattle.machine_run.specs.Run.{Awaits, HaltsAs}
use Rattle.machine_run.specs.declared.running.Reason.{Reason}
use Rattle.machine_run.specs.declared.running.Reason.TheVariants.{ByStop, NoMemory}
use Rattle.guarded_run.specs.Course.{serial_at, begun}
use Rattle.guarded_run.specs.Legs.{KeepsSerial, StopsUnkept, guarded_first}
use Rattle.guarded_run.proofs.CourseLaws.{on_none}
use Rattle.guarded_run.proofs.SerialLaws.{serial_to_keep}
use Rattle.loom_run.specs.Parts.{status_by}
use Rattle.loom_words.specs.declared.status.Status.{Status}
use Rattle.loom_words.specs.declared.status.Status.TheVariants as answer
use Rattle.loom_guard.specs.Checkpoints.{HasDoneKeep}
use Rattle.loom_guard.specs.Legs.{GoesOn, KeepsSerialBy}
use Rattle.loom_guard.specs.Moments.{IsAfter, IsEither, IsKeeping, StopsAt}

-- ---- where a leg sets out

serial_begun : (serial : ℕ) (before : Machine) (o : Outcome (Unit {0})) → serial_at (begun serial before o) ≡ serial
serial_begun serial before (Go a m log) = refl
serial_begun serial before (Halt c log) = refl
serial_begun serial before (Spent log) = refl

-- the first leg, before any bytecode
pub serial-first-leg : (events : List Line) (serial : ℕ) (said : List ℕ) (state : State) (h : Heap) (g : Guarded) (ran : ℕ) → ran ≡ 0 → g ≡ guarded_first serial said state h → serial_at (guarded_on events ran g) ≡ serial
serial-first-leg events serial said state h g ran none is =
    ap (λ (k : ℕ). serial_at (guarded_on events k g)) none ∙ ap serial_at (on_none events g) ∙ ap serial_at is ∙ serial_begun serial (at_rest_after said h) (begin state (at_rest_after said h))

-- a later one, behind the bytecode that did 97
pub serial-later-leg : (events : List Line) (g : Guarded) (serial : ℕ) (cpu : Cpu) (speaks : Bool) (said : List ℕ) (core : ℕ) (state : State) (h : Heap) (ran : ℕ) → ran ≡ cpu.ran → GoesOn events g serial cpu speaks said core state h → serial_at (guarded_on events ran g) ≡ serial
serial-later-leg events g serial cpu speaks said core state h ran same on = ap (λ (k : ℕ). serial_at (guarded_on events k g)) same ∙ serial_to_keep events g on.last on.before cpu on.parked on.keep ∙ sym on.next

-- ---- the end of a leg

pub serial-ended : (events : List Line) (g : Guarded) (serial ran : ℕ) (end : Step) → is_kept end ≡ false → KeepsSerial events g serial ran (Ok end) → serial_at (guarded_on events ran g) ≡ serial
serial-ended events g serial ran Next is h = h
serial-ended events g serial ran Quit is h = h
serial-ended events g serial ran Keep is h = let wrong : ◌≡◌ {A = Bool} true false = is in absurd (cc)

pub serial-by : (events : List Line) (g : Guarded) (serial ran : ℕ) (why : Reason) → serial_at (guarded_on events ran g) ≡ serial → KeepsSerialBy events g serial ran why
serial-by events g serial ran (ByStop stop) same = inl same
serial-by events g serial ran NoMemory same = same

-- no memory for the picture: the machine says nothing when it is parked and drawn
pub undrawn-said : (t new : Told) (cpu : Cpu) (end : Step) (c : Course) → Awaits t cpu end c → IsTrue t.speaks → new.transcript ≡ said_in c.ending → new.transcript ≡ c.said cpu.ran
undrawn-said t new cpu end c x speaks said =
    said ∙ ap said_in x.ends ∙ go (picture x.machine) refl ∙ sym x.told
  where
    same : x.machine.transcript ≡ x.last.transcript
    same = sym (x.stands.transcript speaks) ∙ x.said speaks

    go : (o : Outcome (List ℕ)) → picture x.machine ≡ o → said_in (parked end x.last (after x.log o)) ≡ x.last.transcript
    go (Go bytes n rows) e = ap (λ (m : Machine). m.transcript) (picture_leaves x.machine n bytes rows e) ∙ same
    go (Halt d rows) e = refl
    go (Spent rows) e = refl

pub unpictured-said : (t new : Told) (cpu : Cpu) (end : Step) (c : Course) (ran steps : ℕ) (why : Reason) → Awaits t cpu end c → HaltsAs why ran steps new c → ran ≡ cpu.ran → new.speaks ≡ t.speaks → why ≡ NoMemory → IsTrue new.speaks → new.transcript ≡ c.said ran
unpictured-said t new cpu end c ran steps (ByStop e) x h same speaks is spoke = let no : ◌≡◌ {A = Reason} (ByStop e) NoMemory = is in absurd (cc)
unpictured-said t new cpu end c ran steps NoMemory x h same speaks is spoke = undrawn-said t new cpu end c x (sym speaks ∙ spoke) (h.1 spoke) ∙ ap c.said (sym same)

-- ---- the stop of a leg

module _ (steps : ℕ) (events : List Line) (g : Guarded) (c : Course) (said : List ℕ) (new : Told) (serial ran : ℕ) (few : ran ≤ steps) where
  abbrev Stops : Status → Type 0
  Stops status = StopsAt new.speaks steps events g c said new.transcript serial status

  abbrev done-of : (e : Stop) → StopsUnkept events g serial ran e → HasDoneKeep events g ran
  done-of e u = record { earlier = u.earlier; ran_is = u.ran_is; before = u.before; last = serial; rows = u.behind; was = u.was; machine = u.machine; log = u.log; did = u.did }

  after-of : (IsTrue new.speaks → new.transcript ≡ said ++ c.said ran) → serial_at (guarded_on events ran g) ≡ serial → IsAfter new.speaks steps events g c said new.transcript serial ran
  after-of says kept = record { few = few; said = says; kept = kept }

  abbrev keeping-of : (e : Stop) → (IsTrue new.speaks → new.transcript ≡ said ++ c.said ran) → StopsUnkept events g serial ran e → IsKeeping new.speaks steps events g c said new.transcript serial ran
  keeping-of e says u = record { few = few; said = says; done = done-of e u; next = u.next }

  pub moment-of : (why : Reason) → HaltsAs why ran steps new (course_with_earlier said c) → KeepsSerialBy events g serial ran why → (why ≡ NoMemory → IsTrue new.speaks → new.transcript ≡ said ++ c.said ran) → Stops (status_by why ran)
  moment-of (ByStop (stop.Stuck cause)) h (inl same) drawn = after-of (λ speaks. h.says speaks) same
  moment-of (ByStop (stop.Stuck cause)) h (inr u) drawn = absurd u.refuses
  moment-of (ByStop (stop.Mem (fault.CoreFull need))) h (inl same) drawn = inl (after-of (λ speaks. h.says speaks) same)
  moment-of (ByStop (stop.Mem (fault.CoreFull need))) h (inr u) drawn = inr (keeping-of (stop.Mem (fault.CoreFull need)) (λ speaks. h.says speaks) u, u.refuses)
  moment-of (ByStop (stop.Mem (fault.WorkFull live room))) h (inl same) drawn = (ran, h.stops, after-of (λ speaks. h.says speaks) same)
  moment-of (ByStop (stop.Mem (fault.WorkFull live room))) h (inr u) drawn = absurd u.refuses
  moment-of (ByStop (stop.Mem (fault.WorkFault count))) h (inl same) drawn = (ran, inl (after-of (λ speaks. h.says speaks) same))
  moment-of (ByStop (stop.Mem (fault.WorkFault count))) h (inr u) drawn = (ran, inr (keeping-of (stop.Mem (fault.WorkFault count)) (λ speaks. h.says speaks) u))
  moment-of (ByStop (stop.Mem (fault.Damaged place name))) h by drawn = absurd h.stops
  moment-of (ByStop (stop.Mem fault.NamesSpent)) h (inl same) drawn = after-of (λ speaks. h.says speaks) same
  moment-of (ByStop (stop.Mem fault.NamesSpent)) h (inr u) drawn = absurd u.refuses
  moment-of (ByStop (stop.Mem (fault.Said count))) h (inl same) drawn = (
    ran,
    record {
      few = h.before;
      said = λ speaks.
          let s = h.says speaks in
          let part = s.0 in
          let rest = s.1 in
          let now : new.transcript ≡ said ++ (c.said ran ++ part) = s.2 ∙ append_assoc said (c.said ran) part in
          (part, rest, now, append_cancel_left said (c.said (ran + 1)) ((c.said ran ++ part) ++ rest) (s.3 ∙ ap (λ t. t ++ rest) now ∙ append_assoc said (c.said ran ++ part) rest), λ none. s.4 (ap (λ t. said ++ t) none));
      kept = same;
    },
  )
  moment-of (ByStop (stop.Mem (fault.Said count))) h (inr u) drawn = absurd u.refuses
  moment-of (ByStop (stop.Mem fault.Memory)) h (inl same) drawn = (ran, inl (after-of (λ speaks. h.says speaks) same))
  moment-of (ByStop (stop.Mem fault.Memory)) h (inr u) drawn = (ran, inr (keeping-of (stop.Mem fault.Memory) (λ speaks. h.says speaks) u))
  moment-of NoMemory h same drawn = (ran, inl (after-of (λ speaks. drawn refl speaks) same))

-- ---- whoever is told less

module _ (tells fewer : Bool) (sub : IsTrue fewer → IsTrue tells) (steps : ℕ) (lines : List Line) (g : Guarded) (c : Course) (old new : List ℕ) (last : ℕ) where
  after-fewer : (ran : ℕ) → IsAfter tells steps lines g c old new last ran → IsAfter fewer steps lines g c old new last ran
  after-fewer ran x = record { few = x.few; said = λ told. x.said (sub told); kept = x.kept }

  abbrev keeping-fewer : (ran : ℕ) → IsKeeping tells steps lines g c old new last ran → IsKeeping fewer steps lines g c old new last ran
  keeping-fewer ran x = record { few = x.few; said = λ told. x.said (sub told); done = x.done; next = x.next }

  either-fewer : IsEither tells steps lines g c old new last → IsEither fewer steps lines g c old new last
  either-fewer x = (
    x.0,
    elim x.1 [
      | inl after ↦ inl (after-fewer x.0 after)
      | inr keeping ↦ inr (keeping-fewer x.0 keeping)
    ],
  )

  pub moment-fewer : (status : Status) → StopsAt tells steps lines g c old new last status → StopsAt fewer steps lines g c old new last status
  moment-fewer (answer.Stuck cause ran) x = after-fewer ran x
  moment-fewer (answer.NamesSpent ran) x = after-fewer ran x
  moment-fewer (answer.CoreFull ran need) (inl x) = inl (after-fewer ran x)
  moment-fewer (answer.CoreFull ran need) (inr x) = inr (keeping-fewer ran x.0, x.1)
  moment-fewer (answer.WorkFull live room) x = (x.0, x.1, after-fewer x.0 x.2)
  moment-fewer (answer.WorkFault count) x = either-fewer x
  moment-fewer (answer.Damaged place name) x = either-fewer x
  moment-fewer answer.OutOfMemory x = either-fewer x
  moment-fewer (answer.WriteFault role count) x = (x.0, record { few = x.1.few; said = λ told. x.1.said (sub told); kept = x.1.kept })
  moment-fewer (answer.VaultFault count) x = (x.0, keeping-fewer x.0 x.1)
  moment-fewer (answer.Done ran) x = tt
  moment-fewer (answer.Quit ran) x = tt
  moment-fewer (answer.Made objects) x = tt
  moment-fewer (answer.Listed objects) x = tt
  moment-fewer (answer.Assembled objects) x = tt
  moment-fewer (answer.Usage word) x = tt
  moment-fewer (answer.ImageBad rule place) x = tt
  moment-fewer (answer.EventsBad line) x = tt
  moment-fewer (answer.TextBad line rule) x = tt
  moment-fewer (answer.ReadFault role count) x = tt
  moment-fewer answer.NoCheckpoint x = tt
  moment-fewer (answer.VaultBad place) x = tt

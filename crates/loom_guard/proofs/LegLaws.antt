-- A leg of a guarded run over a memory, and over that of two levels.
use Rattle.std.proofs.Common.{◌≡◌, ℕ, ◌≤◌, Bool, true, false, List, Option, Some, None, Ok, refl, sym, ◌∙◌, subst}
use Rattle.long_names.specs.Heap.{Heap}
use Rattle.object_memory.specs.Told.{Told, Bounds}
use Rattle.object_memory.specs.Contract.{ForBounds, IfBounds, IsLater}
use Rattle.blue_model.specs.declared.cpu.Cpu.{Cpu}
use Rattle.blue_model.specs.declared.event.Line.{Line}
use Rattle.blue_model.specs.declared.step.Step.{Step}
use Rattle.blue_model.specs.declared.step.Step.TheVariants.{Next, Quit, Keep}
use Rattle.blue_model.specs.Earlier.{course_with_earlier}
use Rattle.blue_model.specs.Guarded.{Guarded, guarded_on}
use Rattle.blue_model.specs.Logs.{Course}
use Rattle.blue_model.specs.State.{State}
use Rattle.contexts.specs.Keeping.{is_kept}
use Rattle.contexts.specs.declared.stop.Stop.TheVariants as stop
use Rattle.image_format.specs.declared.opening.State.{State as Words}
use Rattle.machine_run.specs.Run.{Awaits, Begins, GoesThrough, HaltsAs, HaltsBy}
use Rattle.machine_run.specs.States.{model_state, state_held}
use Rattle.machine_run.specs.declared.running.Finished.{Finished}
use Rattle.machine_run.specs.declared.running.Reason.{Reason}
use Rattle.machine_run.specs.declared.running.Reason.TheVariants.{ByStop, NoMemory}
use Rattle.guarded_run.specs.Course.{course_on, serial_at}
use Rattle.guarded_run.specs.Legs.{GoesOnFrom, Leaves}
use Rattle.guarded_run.proofs.WholeLaws.{state_stands}
use Rattle.loom_words.specs.Words.{Row}
use Rattle.loom_run.specs.Parts.{status_by}
use Rattle.loom_run.specs.Steps.{HasBounds, WasStopped, WentThrough}
use Rattle.loom_run.proofs.MachineLaws.{was-stopped, went-through}
use Rattle.loom_guard.specs.declared.legs.Leg.{Leg}
use Rattle.loom_guard.specs.declared.legs.Leg.TheVariants as leg
use Rattle.loom_guard.specs.Legs.{GoesOn, IsToGoOn, LegAs, LegComes, told_since}

-- ---- where a leg sets out

-- one that goes on does so from the machine that is to be kept
if-core : (core : ℕ) (o : Option Bounds) (words : ℕ) → IfBounds o (λ b. b.core ≡ core) → words ≤ core → IfBounds o (λ b. words ≤ b.core)
if-core core None words same low = tt
if-core core (Some b) words same low = subst (λ (k : ℕ). words ≤ k) (sym same) low

pub goes-on-from : (events : List Line) (g : Guarded) (serial : ℕ) (cpu : Cpu) (core : ℕ) (state : State) (h : Heap) (t : Told) → (x : GoesOn events g serial cpu t.speaks t.transcript core state h) → Begins h t → IfBounds t.bounds (λ b. b.core ≡ core) → GoesOnFrom x.parked state t
goes-on-from events g serial cpu core state h t x begins same = record {
  begins = subst (λ (k : Heap). Begins k t) x.heap begins;
  state = x.state_is;
  said = x.said_is;
  fits = if-core core t.bounds x.parked.largest same x.fits;
}

-- ---- the end of a leg

pub leaves-awaits : (events : List Line) (steps : ℕ) (g : Guarded) (serial : ℕ) (new : Told) (now : Cpu) (end : Step) → is_kept end ≡ false → Leaves events steps g serial new now (Ok end) → Awaits new now end (course_on events steps g)
leaves-awaits events steps g serial new now Next is h = h.0
leaves-awaits events steps g serial new now Quit is h = h.0
leaves-awaits events steps g serial new now Keep is h = let wrong : ◌≡◌ {A = Bool} true false = is in absurd (cc)

pub leaves-serial : (events : List Line) (steps : ℕ) (g : Guarded) (serial : ℕ) (new : Told) (now : Cpu) (end : Step) → is_kept end ≡ false → Leaves events steps g serial new now (Ok end) → serial_at (guarded_on events steps g) ≡ serial
leaves-serial events steps g serial new now Next is h = h.1
leaves-serial events steps g serial new now Quit is h = h.1
leaves-serial events steps g serial new now Keep is h = let wrong : ◌≡◌ {A = Bool} true false = is in absurd (cc)

pub kept-is : (end : Step) → is_kept end ≡ true → end ≡ Keep
kept-is Keep is = refl
kept-is Next is = let wrong : ◌≡◌ {A = Bool} false true = is in absurd (cc)
kept-is Quit is = let wrong : ◌≡◌ {A = Bool} false true = is in absurd (cc)

pub leaves-kept : (events : List Line) (steps : ℕ) (g : Guarded) (serial : ℕ) (new : Told) (now : Cpu) (end : Step) (state : Words) → end ≡ Keep → model_state state ≡ state_held new.regs now → Leaves events steps g serial new now (Ok end) → IsToGoOn events g serial new now state
leaves-kept events steps g serial new now end state is words h =
    let kept = subst (λ (e : Step). Leaves events steps g serial new now (Ok e)) is h in
    record { parked = kept.0; keep = kept.1; state_is = words ∙ state_stands new now kept.0 kept.1.stands }

-- ---- over the memory of two levels

pub bounds-core : (row : Row) (o : Option Bounds) → ForBounds o (λ b. (b.core ≡ row.core) × (b.entries ≡ row.entries) × (b.room ≡ row.room)) → IfBounds o (λ b. b.core ≡ row.core)
bounds-core row None has = tt
bounds-core row (Some b) has = has.0

module _ (said : List ℕ) (old new : Told) (row : Row) (later : IsLater old new) (bounds : HasBounds row old) where
  since : IsLater (told_since said old) new
  since = record { tells = later.tells; speaks = later.speaks; bounds = later.bounds; refusals = later.refusals }

  by-since : (why : Reason) → HaltsBy old new why → HaltsBy (told_since said old) new why
  by-since (ByStop (stop.Stuck cause)) h = tt
  by-since (ByStop (stop.Mem fault)) h = record { rose = h.rose; last = h.last; cause = h.cause }
  by-since NoMemory h = tt

  pub ended-since : (finished : Finished) (c : Course) → GoesThrough new finished (course_with_earlier said c) → WentThrough (told_since said new) new row finished c
  ended-since finished c goes =
      let went = went-through (told_since said old) new row since bounds finished c goes in
      record { parked = went.parked; heap = went.heap; drawn = went.drawn; state = went.state; said = went.said; fits = went.fits }

  pub stopped-since : (ran : ℕ) (why : Reason) (c : Course) → ran ≤ row.steps → HaltsAs why ran row.steps new (course_with_earlier said c) → HaltsBy old new why → WasStopped (told_since said new) new row (status_by why ran) c
  stopped-since ran why c few h by =
      let was = was-stopped (told_since said old) new row ran c since bounds few why h (by-since why by) in
      record { stops = was.stops; says = was.says }

  pub comes-ok : (events : List Line) (g : Guarded) (serial : ℕ) (now : Cpu) (x : Leg) (c d : Course) → d ≡ course_with_earlier said c → LegAs events row.steps g serial new now (Ok x) d → LegComes events g serial new now row (Ok x) said c
  comes-ok events g serial now (leg.Kept state) c d same h = h
  comes-ok events g serial now (leg.Ended finished) c d same h = (ended-since finished c (subst (GoesThrough new finished) same h.0), h.1)

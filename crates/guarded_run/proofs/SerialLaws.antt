-- Which checkpoint a leg has where it ends or stops: the one that it set out with, but where a bytecode did 97 and the machine couldn't be parked.
use Rattle.std.proofs.Common.{◌≡◌, ℕ, ◌+◌, List, Result, Ok, Err, IsTrue, inl, inr, refl, sym, ◌∙◌, ap, subst}
use Rattle.std.specs.Prelude.{◌⊎◌}
use Rattle.std.specs.Result.{IsErrAnd}
use Rattle.std.proofs.lemmas.Result.{err_from_is_err_and}
use Rattle.object_memory.specs.Told.{Told}
use Rattle.object_memory.specs.declared.fault.MemFault.TheVariants.{CoreFull, WorkFull, WorkFault, Damaged, NamesSpent, Said, Memory}
use Rattle.blue_model.specs.declared.cause.Cause.{Cause}
use Rattle.blue_model.specs.declared.cpu.Cpu.{Cpu}
use Rattle.blue_model.specs.declared.event.Line.{Line}
use Rattle.blue_model.specs.declared.step.Step.{Step}
use Rattle.blue_model.specs.declared.step.Step.TheVariants.{Next, Quit, Keep}
use Rattle.blue_model.specs.Contexts.{park}
use Rattle.blue_model.specs.Cycle.{Ran, Stopping, ByCause, BySpentNames, run}
use Rattle.blue_model.specs.Guarded.{Guarded, broken_by, guarded_on, kept_after}
use Rattle.blue_model.specs.Loaded.{loaded, start_on_kept}
use Rattle.blue_model.specs.Machine.{Machine, LogRow, Outcome, Go, Halt, Spent, log_of, then_do, ◌>>=◌}
use Rattle.blue_model.proofs.LiveLaws.{none_made}
use Rattle.blue_model.proofs.MakingLaws.{none-park}
use Rattle.contexts.specs.declared.stop.Stop.{Stop}
use Rattle.contexts.specs.declared.stop.Stop.TheVariants.{Stuck, Mem}
use Rattle.contexts.specs.Serves.{Gives, Serves}
use Rattle.machine_run.specs.Run.{IsWorkFault, Reaches, RunsAs}
use Rattle.machine_run.proofs.RoomLaws.{unmade}
use Rattle.guarded_run.specs.Course.{serial_at}
use Rattle.guarded_run.specs.Legs.{IsAt, IsToKeep, KeepsSerial, RefusesParking}
use Rattle.guarded_run.proofs.CourseLaws.{after_leg, leg_keeps}
use Rattle.guarded_run.proofs.LegLaws.{at_start, leg_now}

-- ---- a machine that is to be kept

-- where parking went through, it has the next serial
serial_broken : (serial : ℕ) (m p : Machine) (rows : List LogRow) (why : Stopping) (log : List LogRow) → park m ≡ Go tt p rows → serial_at (broken_by serial m (park m) why log) ≡ serial + 1
serial_broken serial m p rows why log e = ap (λ (o : Outcome (Unit {0})). serial_at (broken_by serial m o why log)) e

serial_parked : (serial : ℕ) (m p : Machine) (rows : List LogRow) (o : Outcome (Unit {0})) → park m ≡ Go tt p rows → serial_at (kept_after serial m o) ≡ serial + 1
serial_parked serial m p rows (Go a next log) e = refl
serial_parked serial m p rows (Halt c log) e = serial_broken serial m p rows (ByCause c) log e
serial_parked serial m p rows (Spent log) e = serial_broken serial m p rows BySpentNames log e

-- what it has where it doesn't go through, which of the two is for the rule to say
serial_either : (serial : ℕ) (m : Machine) (o : Outcome (Unit {0})) → (serial_at (kept_after serial m o) ≡ serial) ⊎ (serial_at (kept_after serial m o) ≡ serial + 1)
serial_either serial m (Go a next log) = inr refl
serial_either serial m (Halt c log) = go (park m) refl
  where
    go : (o : Outcome (Unit {0})) → park m ≡ o → (serial_at (broken_by serial m (park m) (ByCause c) log) ≡ serial) ⊎ (serial_at (broken_by serial m (park m) (ByCause c) log) ≡ serial + 1)
    go (Go tt p rows) e = inr (serial_broken serial m p rows (ByCause c) log e)
    go (Halt d rows) e = inl (ap (λ (o : Outcome (Unit {0})). serial_at (broken_by serial m o (ByCause c) log)) e)
    go (Spent rows) e = inl (ap (λ (o : Outcome (Unit {0})). serial_at (broken_by serial m o (ByCause c) log)) e)
serial_either serial m (Spent log) = go (park m) refl
  where
    go : (o : Outcome (Unit {0})) → park m ≡ o → (serial_at (broken_by serial m (park m) BySpentNames log) ≡ serial) ⊎ (serial_at (broken_by serial m (park m) BySpentNames log) ≡ serial + 1)
    go (Go tt p rows) e = inr (serial_broken serial m p rows BySpentNames log e)
    go (Halt d rows) e = inl (ap (λ (o : Outcome (Unit {0})). serial_at (broken_by serial m o BySpentNames log)) e)
    go (Spent rows) e = inl (ap (λ (o : Outcome (Unit {0})). serial_at (broken_by serial m o BySpentNames log)) e)

-- where parking stops, it is stuck there, under the serial that it had
serial_halted : (serial : ℕ) (m : Machine) (c : Cause) (rows : List LogRow) → park m ≡ Halt c rows → serial_at (kept_after serial m (loaded m)) ≡ serial
unfolding loaded ◌>>=◌
serial_halted serial m c rows e =
    ap (λ (o : Outcome (Unit {0})). serial_at (kept_after serial m (then_do o (λ _. start_on_kept)))) e
    ∙ ap (λ (o : Outcome (Unit {0})). serial_at (broken_by serial m o (ByCause c) rows)) e

serial_spent : (serial : ℕ) (m : Machine) (rows : List LogRow) → park m ≡ Spent rows → serial_at (kept_after serial m (loaded m)) ≡ serial
unfolding loaded ◌>>=◌
serial_spent serial m rows e =
    ap (λ (o : Outcome (Unit {0})). serial_at (kept_after serial m (then_do o (λ _. start_on_kept)))) e
    ∙ ap (λ (o : Outcome (Unit {0})). serial_at (broken_by serial m o BySpentNames rows)) e

pub serial_to_keep : (events : List Line) (g : Guarded) (serial : ℕ) (t : Told) (cpu : Cpu) (parked : Machine) → IsToKeep events g serial t cpu parked → serial_at (guarded_on events cpu.ran g) ≡ serial + 1
serial_to_keep events g serial t cpu parked k = ap serial_at k.is ∙ serial_parked serial k.machine parked k.rows (loaded k.machine) k.parks

-- ---- where a leg stops

module _ (events : List Line) (g : Guarded) (serial : ℕ) (old : Told) (cpu now : Cpu) (a : IsAt events g serial old cpu) (j : ℕ) where
  -- behind a bytecode that ended no leg it has what it had
  serial_going : (end : Step) (m : Machine) → run events j a.machine ≡ Ran end m → m.cpu.ran ≡ now.ran → serial_at (guarded_on events now.ran g) ≡ serial_at (after_leg serial a.rows a.machine end m)
  serial_going end m ran count = ap serial_at (leg_now events g serial old cpu now a j end m ran count)

  unkept : (m : Machine) (e : Stop) → run events j a.machine ≡ Ran Keep m → m.cpu.ran ≡ now.ran → RefusesParking e m → KeepsSerial events g serial now.ran (Err e)
  unkept m e ran count refuses = elim (serial_either serial m (loaded m)) [
    | inl same ↦ inl (serial_going Keep m ran count ∙ same)
    | inr next ↦ (let k = leg_keeps events j g serial a.rows a.machine m (at_start events g serial old cpu a) ran in inr record {
      earlier = k.earlier;
      ran_is = sym count ∙ k.ran;
      before = k.before;
      behind = k.behind;
      was = k.was;
      machine = m;
      log = k.log;
      did = k.did;
      refuses = refuses;
      next = serial_going Keep m ran count ∙ next;
    })
  ]

  -- a fault of Work in settling
  unsettled : (end : Step) (m : Machine) (e : Stop) → run events j a.machine ≡ Ran end m → m.cpu.ran ≡ now.ran → IsWorkFault e → KeepsSerial events g serial now.ran (Err e)
  unsettled Next m e ran count fault = inl (serial_going Next m ran count)
  unsettled Quit m e ran count fault = inl (serial_going Quit m ran count)
  unsettled Keep m (Mem (WorkFault faults)) ran count fault = unkept m (Mem (WorkFault faults)) ran count tt
  unsettled Keep m (Stuck c) ran count fault = absurd fault
  unsettled Keep m (Mem (CoreFull need)) ran count fault = absurd fault
  unsettled Keep m (Mem (WorkFull live room)) ran count fault = absurd fault
  unsettled Keep m (Mem (Damaged place name)) ran count fault = absurd fault
  unsettled Keep m (Mem NamesSpent) ran count fault = absurd fault
  unsettled Keep m (Mem (Said faults)) ran count fault = absurd fault
  unsettled Keep m (Mem Memory) ran count fault = absurd fault

  -- a machine that is to be parked
  unparked : (new : Told) (m : Machine) (e : Stop) → run events j a.machine ≡ Ran Keep m → m.cpu.ran ≡ now.ran → Gives {A = Unit {0}} new now (Err e) (park m) → KeepsSerial events g serial now.ran (Err e)
  unparked new m (Stuck c) ran count gives = stuck (park m) refl gives
    where
      stuck : (o : Outcome (Unit {0})) → park m ≡ o → Gives {A = Unit {0}} new now (Err (Stuck c)) o → KeepsSerial events g serial now.ran (Err (Stuck c))
      stuck (Go tt p rows) e h = absurd h
      stuck (Halt d rows) e h = inl (serial_going Keep m ran count ∙ serial_halted serial m d rows e)
      stuck (Spent rows) e h = absurd h
  unparked new m (Mem NamesSpent) ran count gives = spent (park m) refl gives
    where
      spent : (o : Outcome (Unit {0})) → park m ≡ o → Gives {A = Unit {0}} new now (Err (Mem NamesSpent)) o → KeepsSerial events g serial now.ran (Err (Mem NamesSpent))
      spent (Go tt p rows) e h = absurd h
      spent (Halt d rows) e h = absurd h
      spent (Spent rows) e h = inl (serial_going Keep m ran count ∙ serial_spent serial m rows e)
  unparked new m (Mem (CoreFull need)) ran count gives = unkept m (Mem (CoreFull need)) ran count gives
  unparked new m (Mem (WorkFull live room)) ran count gives = absurd (unmade new.heap.next (log_of (park m)) (none_made park m none-park) gives)
  unparked new m (Mem (WorkFault faults)) ran count gives = unkept m (Mem (WorkFault faults)) ran count tt
  unparked new m (Mem (Damaged place name)) ran count gives = absurd gives
  unparked new m (Mem (Said faults)) ran count gives = absurd gives
  unparked new m (Mem Memory) ran count gives = unkept m (Mem Memory) ran count tt

pub serial_runs : (events : List Line) (g : Guarded) (serial : ℕ) (old new : Told) (cpu now : Cpu) (e : Stop) (a : IsAt events g serial old cpu) (cycles : ℕ) → RunsAs events old new now cycles a.machine (Err e) → KeepsSerial events g serial now.ran (Err e)
serial_runs events g serial old new cpu now e a cycles (inl x) = inl (serial_going events g serial old cpu now a x.done Next x.machine x.ran x.count)
serial_runs events g serial old new cpu now e a cycles (inr x) = unsettled events g serial old cpu now a x.done x.end x.machine e x.ran x.count x.fault

pub serial_parks : (events : List Line) (g : Guarded) (serial : ℕ) (old far new : Told) (cpu then now : Cpu) (end : Step) (e : Stop) (a : IsAt events g serial old cpu) (cycles : ℕ) → Reaches events far then end cycles a.machine → IsTrue far.tells → Serves {A = Unit {0}} far then new now park (Err e) → now ≡ then → KeepsSerial events g serial now.ran (Err e)
serial_parks events g serial old far new cpu then now end e a cycles x tells p same = go end x.ran
  where
    count : x.machine.cpu.ran ≡ now.ran
    count = ap (λ (c : Cpu). c.ran) (x.stands.numbers ∙ sym same)

    go : (end : Step) → run events cycles a.machine ≡ Ran end x.machine → KeepsSerial events g serial now.ran (Err e)
    go Next ran = inl (serial_going events g serial old cpu now a cycles Next x.machine ran count)
    go Quit ran = inl (serial_going events g serial old cpu now a cycles Quit x.machine ran count)
    go Keep ran = unparked events g serial old cpu now a cycles new x.machine e ran count (p.model tells x.machine x.stands)

pub serial_leaves : (events : List Line) (g : Guarded) (serial : ℕ) (old far new : Told) (cpu then now : Cpu) (end : Step) (a : IsAt events g serial old cpu) (cycles : ℕ) → Reaches events far then end cycles a.machine → IsTrue far.tells → Serves far then new now park (Ok tt) → now ≡ then → KeepsSerial events g serial now.ran (Ok end)
serial_leaves events g serial old far new cpu then now end a cycles x tells p same = go end x.ran (park x.machine) refl (p.model tells x.machine x.stands)
  where
    count : x.machine.cpu.ran ≡ now.ran
    count = ap (λ (c : Cpu). c.ran) (x.stands.numbers ∙ sym same)

    go : (end : Step) → run events cycles a.machine ≡ Ran end x.machine → (o : Outcome (Unit {0})) → park x.machine ≡ o → Gives {A = Unit {0}} new now (Ok tt) o → KeepsSerial events g serial now.ran (Ok end)
    go Next ran o f h = serial_going events g serial old cpu now a cycles Next x.machine ran count
    go Quit ran o f h = serial_going events g serial old cpu now a cycles Quit x.machine ran count
    go Keep ran (Go tt n rows) f h = serial_going events g serial old cpu now a cycles Keep x.machine ran count ∙ serial_parked serial x.machine n rows (loaded x.machine) f
    go Keep ran (Halt c rows) f h = absurd h
    go Keep ran (Spent rows) f h = absurd h

-- the answer of a `?`
pub serial_exit : (events : List Line) (g : Guarded) (serial ran : ℕ) (e : Stop) (r : Result Step Stop) → IsErrAnd r (λ y. y ≡ e) → KeepsSerial events g serial ran (Err e) → KeepsSerial events g serial ran r
serial_exit events g serial ran e r is h =
    let q = err_from_is_err_and r is in
    subst (λ (x : Result Step Stop). KeepsSerial events g serial ran x) (sym (q.1 ∙ ap (λ y. Err y) q.2)) h

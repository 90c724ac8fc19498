-- A guarded run ended while its machine ran, or later: what its legs and the writing behind them said, put together. What is told may be fewer roles than the host
-- tells.
use Rattle.std.proofs.Common.{◌≡◌, ◌⊎◌, ℕ, ◌++◌, Bool, List, IsTrue, inl, inr, refl, ◌∙◌, ap, subst, arith}
use Rattle.long_names.specs.Heap.{Heap}
use Rattle.loom_host.specs.Outside.{RoleState}
use Rattle.loom_host.specs.declared.outside.Role.{Role}
use Rattle.loom_host.specs.declared.outside.Role.TheVariants.{Work, Transcript, Notes}
use Rattle.blue_model.specs.declared.event.Line.{Line}
use Rattle.blue_model.specs.Endings.{said_in}
use Rattle.blue_model.specs.Guarded.{Guarded, guarded_on}
use Rattle.blue_model.specs.Logs.{Course}
use Rattle.machine_run.specs.declared.running.Finished.{Finished}
use Rattle.checkpoint.specs.History.{Keeps}
use Rattle.guarded_run.specs.Course.{serial_at}
use Rattle.loom_run.specs.Ends.{IsAnswered, RunsTo, SaysStopped}
use Rattle.loom_run.specs.Meanings.{LeavesBut, Meanings}
use Rattle.loom_run.specs.Stages.{Listening, Making, Running, Finishing, Ends, passes, roles_at, written_roles}
use Rattle.loom_run.specs.Steps.{CameThrough, IsSameFile, Uses, WrittenEnds}
use Rattle.loom_run.proofs.EndsLaws.{cause-since}
use Rattle.loom_run.proofs.Frames.{leaves-all}
use Rattle.loom_run.proofs.UsesLaws.{left-then, never, uses-finishing, uses-making, uses-running}
use Rattle.loom_words.specs.Words.{Row}
use Rattle.loom_words.specs.declared.status.Status.{Status}
use Rattle.loom_guard.specs.Checkpoints.{IsCheckpoint}
use Rattle.loom_guard.specs.Legs.{HaltsAt, StopsBetween, StopsFinishing, StopsRunning, WantsMemory}
use Rattle.loom_guard.specs.Moments.{StopsAt}
use Rattle.loom_guard.specs.Promise.{ComesTo, EndsKept}
use Rattle.loom_guard.specs.Steps.{GuardedEnds, LegsStop, later_roles}
use Rattle.loom_guard.specs.Vaults.{HasLast, KeepsLast, VaultMeanings}
use Rattle.loom_guard.proofs.MomentLaws.{moment-fewer}
use Rattle.loom_guard.proofs.StatusLaws.{caused-none, ends-kept, goes-finishing}

module _ (tells fewer : Role → Bool) (sub : (role : Role) → IsTrue (fewer role) → IsTrue (tells role)) (before mid far : Meanings) (row : Row) (used : Uses fewer before mid row Listening)
    (file : IsTrue (tells Work) → IsSameFile (mid.roles Work) (far.roles Work)) (others : LeavesBut (roles_at Running) mid far) where
  used-running : Uses fewer before far row Running
  used-running = uses-running fewer row before mid far (uses-making fewer row before mid mid used (leaves-all (roles_at Making) mid)) (λ told. file (sub Work told)) others

  pub used-finishing : Uses fewer before far row Finishing
  used-finishing = uses-finishing fewer row before far far used-running (λ told. refl) (leaves-all (roles_at Finishing) far)

  -- nothing was said before the machine ran
  unsaid : mid.roles Transcript ≡ before.roles Transcript
  unsaid = (used.unused Transcript refl).state

  pub came-since : (finished : Finished) (left : Heap) (c : Course) → CameThrough tells mid far row finished left c → CameThrough fewer before far row finished left c
  came-since finished left c t = record {
    parked = t.parked;
    drawn = t.drawn;
    saves = t.saves;
    image = t.image;
    said = λ told. t.said (sub Transcript told) ∙ ap (λ (s : RoleState). s.put ++ said_in c.ending) unsaid;
    fits = t.fits;
  }

  answered-since : (status : Status) → IsAnswered tells mid far row status → IsAnswered fewer before far row status
  answered-since status a = record { ran = a.ran; cause = cause-since status before.faults mid.faults far.faults used.later a.cause; whole = λ work. a.whole (sub Work work); limits = a.limits }

  -- ---- the legs were stopped

  stopped-running : (lines : List Line) (g : Guarded) (status : Status) (c : Course) → StopsRunning tells mid far row status c ⊎ WantsMemory tells mid far row lines g status c → ComesTo fewer before far row lines g Running status c
  stopped-running lines g status c (inl h) = inl record {
    stops = λ at. h.stops;
    goes = λ past. never past;
    fits = λ past. never past;
    says = λ told at. subst (λ (s : RoleState). SaysStopped status row c s.put (far.roles Transcript).put) unsaid (h.says (sub Transcript told));
    said = λ told past. never past;
    saves = λ told past. never past;
    draws = λ told past. never past;
    cuts = λ told at. absurd (cc);
    image = λ past. never past;
  }
  stopped-running lines g status c (inr w) = inr (
    refl,
    record {
      status_is = w.status_is;
      ran = w.ran;
      few = w.few;
      at = w.at;
      says = λ told. w.says (sub Transcript told) ∙ ap (λ (r : RoleState). r.put ++ c.said w.ran) unsaid;
    },
  )

  stopped-finishing : (status : Status) (c : Course) → Ends Finishing status → StopsFinishing tells mid far row c → RunsTo fewer before far row Finishing status c
  stopped-finishing status c answer h = record {
    stops = λ at. absurd (cc);
    goes = λ past. goes-finishing status c answer h.parked;
    fits = λ past. h.fits;
    says = λ told at. absurd (cc);
    said = λ told past. h.said (sub Transcript told) ∙ ap (λ (s : RoleState). s.put ++ said_in c.ending) unsaid;
    saves = λ told past. never past;
    draws = λ told past. never past;
    cuts = λ told at. absurd (cc);
    image = λ past. never past;
  }

  moment-since : (lines : List Line) (g : Guarded) (last : ℕ) (status : Status) (c : Course) → StopsBetween tells mid far row lines g last status c → StopsBetween fewer before far row lines g last status c
  moment-since lines g last status c x =
      subst (λ (s : RoleState). StopsAt (fewer Transcript) row.steps lines g c s.put (far.roles Transcript).put last status) unsaid
      (moment-fewer (tells Transcript) (fewer Transcript) (sub Transcript) row.steps lines g c (mid.roles Transcript).put (far.roles Transcript).put last status x)

  module _ (told : Bool) (old new : VaultMeanings) (lines : List Line) (g : Guarded) (c : Course) (last : ℕ) (status : Status) (stop : LegsStop tells mid far old.faults new.faults row lines g c last status) (stays : IsTrue told → KeepsLast new.state last status)
      (stops : IsTrue told → Keeps old.state new.state last (λ serial kept. IsTrue (fewer Work) → IsCheckpoint lines row.steps g serial kept)) where
    running : stop.stage ≡ Running → IsTrue (fewer Work) → HaltsAt Running tells mid far row lines g last status c
    running e work = subst (λ stage. HaltsAt stage tells mid far row lines g last status c) e (stop.halts (sub Work work))

    ends-running : stop.stage ≡ Running → GuardedEnds fewer told before far old new row lines g c status
    ends-running e = record {
      stage = Running;
      late = refl;
      uses = used-running;
      answer = subst (λ stage. EndsKept stage status) e stop.answer;
      of_run = stop.of_run;
      answered = answered-since status stop.answered;
      caused = stop.caused;
      untold = used-running.unused Notes refl;
      comes = λ work. stopped-running lines g status c (running e work).0;
      last = last;
      moment = λ work. record { stopped = λ at. moment-since lines g last status c (running e work).1; through = λ past. never past };
      stays = stays;
      stops = stops;
    }

    ends-finishing : stop.stage ≡ Finishing → GuardedEnds fewer told before far old new row lines g c status
    ends-finishing e =
        let answer : EndsKept Finishing status = subst (λ stage. EndsKept stage status) e stop.answer in
        let went : IsTrue (fewer Work) → HaltsAt Finishing tells mid far row lines g last status c = λ work. subst (λ stage. HaltsAt stage tells mid far row lines g last status c) e (stop.halts (sub Work work)) in
        record {
          stage = Finishing;
          late = refl;
          uses = used-finishing;
          answer = answer;
          of_run = stop.of_run;
          answered = answered-since status stop.answered;
          caused = stop.caused;
          untold = used-finishing.unused Notes refl;
          comes = λ work. inl (stopped-finishing status c answer (went work).0);
          last = last;
          moment = λ work. record { stopped = λ at. absurd (cc); through = λ past. (went work).1 };
          stays = stays;
          stops = stops;
        }

    pub legs-stopped : GuardedEnds fewer told before far old new row lines g c status
    legs-stopped = elim stop.late [
      | inl running ↦ ends-running running
      | inr finishing ↦ ends-finishing finishing
    ]

-- ---- what was left was written

pub late-ended : (tells : Role → Bool) (told : Bool) (before now : Meanings) (old new : VaultMeanings) (row : Row) (lines : List Line) (g : Guarded) (c : Course) (last : ℕ) (status : Status) → new.faults ≡ old.faults → WrittenEnds tells before now row status c
    → (IsTrue told → HasLast new.state last) → (IsTrue (tells Work) → serial_at (guarded_on lines row.steps g) ≡ last)
    → (IsTrue told → Keeps old.state new.state last (λ serial kept. IsTrue (tells Work) → IsCheckpoint lines row.steps g serial kept))
    → GuardedEnds tells told before now old new row lines g c status
late-ended tells told before now old new row lines g c last status calm written has serial stops = let end = written.0 in record {
  stage = end.stage;
  late = end.late;
  uses = end.uses;
  answer = ends-kept end.stage status end.refusal.answer;
  of_run = end.refusal.of_run;
  answered = record { ran = end.refusal.ran; cause = end.refusal.cause; whole = end.refusal.whole; limits = end.refusal.limits };
  caused = caused-none end.stage status old.faults new.faults calm end.refusal.answer;
  untold = end.untold;
  comes = λ work. inl (end.runs work);
  last = last;
  moment = λ work. record { stopped = λ at. never (subst (λ stage. IsTrue (passes Finishing stage)) at written.1); through = λ past. serial work };
  stays = λ t none. has t;
  stops = stops;
}

-- the roles with which the legs have to do, and those of the writing
pub leaves-later : (a b c : Meanings) → LeavesBut (roles_at Running) a b → LeavesBut written_roles b c → LeavesBut later_roles a c
leaves-later a b c p q = record {
  others = λ role none. left-then role a b c (p.others role (none.0, (none.1.1.1.0, tt))) (q.others role (none.1.0, (none.1.1.0, (none.1.1.1.0, tt))));
  writes = λ none. absurd (none.1.1.1.0 refl);
  later = λ role. let low = p.later role in let high = q.later role in omega (arith, low, high);
}

pub leaves-legs : (a b : Meanings) → LeavesBut (roles_at Running) a b → LeavesBut later_roles a b
leaves-legs a b p = record { others = λ role none. p.others role (none.0, (none.1.1.1.0, tt)); writes = λ none. absurd (none.1.1.1.0 refl); later = p.later }

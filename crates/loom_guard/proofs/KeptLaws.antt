-- A guarded or a resumed run ended: what its steps said, put together. The vault was refused, or the run ended before its memory was made, or later.
use Rattle.std.proofs.Common.{◌≡◌, ℕ, ◌≤◌, Bool, List, [], Option, None, IsTrue, inl, inr, refl, sym, ◌∙◌, ap, subst, arith}
use Rattle.std.specs.Prelude.{IfSome, IsFalse}
use Rattle.long_names.specs.Heap.{Heap}
use Rattle.image_format.specs.declared.opening.State.{State as Words}
use Rattle.loom_host.specs.declared.outside.Role.{Role}
use Rattle.loom_host.specs.declared.outside.Role.TheVariants.{Image, Events, Work, Notes}
use Rattle.blue_model.specs.declared.event.Line.{Line}
use Rattle.machine_run.specs.States.{model_state}
use Rattle.checkpoint.specs.Keeping.{serial_of}
use Rattle.checkpoint.specs.Vault.{Extends, VaultState}
use Rattle.checkpoint.specs.declared.point.Point.{Point}
use Rattle.checkpoint.proofs.HistoryLaws.{keeps-gives, keeps-still}
use Rattle.guarded_run.specs.Course.{guarded_course}
use Rattle.guarded_run.specs.Legs.{guarded_first}
use Rattle.loom_run.specs.Ends.{IsRightImage, JudgesImage}
use Rattle.loom_run.specs.Meanings.{IsLeft, Meanings}
use Rattle.loom_run.specs.Stages.{Stage, Opening, Reading, Listening, Making, Running, Finishing, Saving, Drawing, Telling, passes, reaches}
use Rattle.loom_run.specs.Steps.{HasHeard, HasRead, IsRead, ReadEnds}
use Rattle.loom_run.proofs.EndsLaws.{early-stage}
use Rattle.loom_run.proofs.Frames.{leaves-all}
use Rattle.loom_run.proofs.JudgedLaws.{reads-later}
use Rattle.loom_run.proofs.UsesLaws.{never}
use Rattle.loom_words.specs.Words.{Row}
use Rattle.loom_words.specs.declared.status.Status.{Status}
use Rattle.loom_words.specs.declared.status.Status.TheVariants.{ReadFault}
use Rattle.loom_guard.specs.Checkpoints.{IsCheckpoint}
use Rattle.loom_guard.specs.Promise.{EndsKept, GuardComes, Starts}
use Rattle.loom_guard.specs.Steps.{GuardedEnds, KeptRunEnds}
use Rattle.loom_guard.specs.Vaults.{IsVaultRefusal, LeavesVault, OpenedOnce, VaultMeanings}
use Rattle.loom_guard.specs.Ways.{Way, Guarding, Resuming, image_by, is_told, tells_by}
use Rattle.loom_guard.proofs.StatusLaws.{caused-none, ends-kept, refusal-is, vault-since}
use Rattle.loom_guard.proofs.VaultLaws.{has-last}
use Rattle.loom_guard.proofs.WayLaws.{answered-by, answered-of, by-told, comes-by, moment-by}

-- calls but an opening leave the openings as they were
pub once-extended : (vault : List ℕ) (old start new : VaultState) → OpenedOnce vault old start → Extends start new → OpenedOnce vault old new
once-extended vault old start new opened e = record {
  openings = ap (λ (s : VaultState). s.openings) e.is ∙ opened.openings;
  name = subst (λ (n : Option (List ℕ)). IfSome n (λ name. name ≡ vault)) (sym (ap (λ (s : VaultState). s.name) e.is)) opened.name;
}

-- from the machine on Image isn't read any more
unread-late : (stage : Stage) → IsTrue (reaches Running stage) → (count : ℕ) → EndsKept stage (ReadFault Image count) → ⊥
unread-late Opening late count ends = ends
unread-late Reading late count ends = never late
unread-late Listening late count ends = ends
unread-late Making late count ends = ends
unread-late Running late count ends = ends
unread-late Finishing late count ends = ends
unread-late Saving late count ends = ends
unread-late Drawing late count ends = ends
unread-late Telling late count ends = ends

-- no stage is both before the machine's run and at it or later
never-both : {P : Type 0} (stage : Stage) → IsTrue (reaches Running stage) → IsTrue (passes stage Running) → P
never-both Opening late before = never late
never-both Reading late before = never late
never-both Listening late before = never late
never-both Making late before = never late
never-both Running late before = never before
never-both Finishing late before = never before
never-both Saving late before = never before
never-both Drawing late before = never before
never-both Telling late before = never before

module _ (way : Way) (tells : Role → Bool) (told : Bool) (before : Meanings) (old : VaultMeanings) (row : Row) (vault : List ℕ) where
  -- ---- the vault was refused

  pub kept-refused : (new : VaultMeanings) (status : Status) → (IsTrue told → OpenedOnce vault old.state new.state) → old.faults ≤ new.faults → IsVaultRefusal way told old new status → (IsTrue told → LeavesVault way old.state new.state)
      → KeptRunEnds way tells told before before old new row vault status
  kept-refused new status opened later refusal left =
      let other = refusal-is way told old.state status refusal.refuses in
      record {
        opened = opened;
        ends = inl (refusal, leaves-all [] before, left);
        of_run = other.of_run;
        ran = other.ran row.steps;
        untold = record { state = refl; faults = refl };
        later = λ role. omega arith;
        vault_later = later;
      }

  -- ---- the image or the events weren't read

  pub kept-early : (now : Meanings) (new : VaultMeanings) (result : Status) (point : Option Point) → (way ≡ Guarding → point ≡ None) → (IsTrue told → OpenedOnce vault old.state new.state) → new.faults ≡ old.faults → (IsTrue told → Starts way old.state point new.state)
      → (way ≡ Resuming → IsLeft Image before now) → (way ≡ Resuming → (count : ℕ) → result ≡ ReadFault Image count → ⊥) → (end : ReadEnds (tells_by way tells) before now row result)
      → (IsTrue (is_told way tells told) → end.stage ≡ Reading → JudgesImage (tells Work) result row.room (image_by way now new.state point))
      → (IsTrue (is_told way tells told) → IsTrue (tells Work) → IsTrue (passes Reading end.stage) → IsRightImage row.room (image_by way now new.state point))
      → KeptRunEnds way tells told before now old new row vault result
  kept-early now new result point none opened calm starts left unread end judges right = record {
    opened = opened;
    ends = inr (
      end.stage,
      record {
        answer = ends-kept end.stage result end.refusal.answer;
        answered = answered-of way tells before now row end.stage result end.refusal;
        vault_cause = caused-none end.stage result old.faults new.faults calm end.refusal.answer;
        attached = end.uses.attached;
        unused = λ role none. inr (end.uses.unused role none);
        reads = end.reads;
        imageless = left;
        never = unread;
        point = point;
        none = none;
        start = new.state;
        starts = starts;
        judges = judges;
        right = right;
        last = serial_of point;
        early = λ before. refl;
        stays = λ t none. has-last new.state point (serial_of point) (starts t).last refl;
        run = λ image events work came. absurd (early-stage (λ stage. IsTrue (reaches Running stage) → ⊥) end.stage end.early (λ no. never no) (λ no. never no) (λ no. never no) came);
        stops = λ t. keeps-still new.state point _ (starts t).last;
      },
    );
    of_run = end.refusal.of_run;
    ran = end.refusal.ran;
    untold = end.uses.unused Notes (early-stage (λ stage. IsFalse (reaches Telling stage)) end.stage end.early refl refl refl);
    later = end.uses.later;
    vault_later = omega (arith, calm);
  }

  -- ---- the machine ran

  pub kept-late : (now : Meanings) (start new : VaultMeanings) (result : Status) (point : Option Point) (state : Words) (heap : Heap) (lines : List Line)
      → (way ≡ Guarding → point ≡ None) → (IsTrue told → OpenedOnce vault old.state start.state) → start.faults ≡ old.faults → start.faults ≤ new.faults → (IsTrue told → Starts way old.state point start.state)
      → (way ≡ Resuming → IsLeft Image before now) → HasRead (tells_by way tells) now row state heap → HasHeard (tells_by way tells) now row lines
      → (IsTrue (is_told way tells told) → IsTrue (tells Work) → IsRead (image_by way now start.state point) row.room state heap)
      → GuardedEnds (tells_by way tells) told before now start new row lines (guarded_first (serial_of point) [] (model_state state) heap) (guarded_course lines row.steps (serial_of point) (model_state state) heap) result
      → KeptRunEnds way tells told before now old new row vault result
  kept-late now start new result point state heap lines none opened calm high starts left image heard read end = record {
    opened = λ t. once-extended vault old.state start.state new.state (opened t) (end.stops t).extends;
    ends = inr (
      end.stage,
      record {
        answer = end.answer;
        answered = answered-by way tells before now row result end.answered;
        vault_cause = vault-since result old.faults start.faults new.faults calm end.caused;
        attached = end.uses.attached;
        unused = λ role none. inr (end.uses.unused role none);
        reads = reads-later (tells_by way tells) row now end.stage result state heap lines (λ e. never (subst (λ stage. IsTrue (reaches Running stage)) e end.late)) (λ e. never (subst (λ stage. IsTrue (reaches Running stage)) e end.late)) end.uses.named image heard;
        imageless = left;
        never = λ resuming count e. unread-late end.stage end.late count (subst (λ (s : Status). EndsKept end.stage s) e end.answer);
        point = point;
        none = none;
        start = start.state;
        starts = starts;
        judges = λ t at. never (subst (λ stage. IsTrue (reaches Running stage)) at end.late);
        right = λ t work past. (let r = read t work in record { head = r.head; heap = heap; image = r.image; roomy = r.roomy });
        last = end.last;
        early = λ before. never-both end.stage end.late before;
        stays = end.stays;
        run = λ t events work came. (let r = read t work in record {
          head = r.head;
          heap = heap;
          is = r.image;
          lines = lines;
          list = (heard (by-told way tells Events (λ e. cc) events)).1;
          run = subst (λ (s : Words). GuardComes tells before now row end.stage end.last result lines (guarded_first (serial_of point) [] (model_state s) heap) (guarded_course lines row.steps (serial_of point) (model_state s) heap))
              (sym r.state_is)
              (comes-by way tells before now row lines _ end.stage result _ (end.comes (by-told way tells Work (λ e. cc) work)), moment-by way tells before now row lines _ _ end.stage end.last result (end.moment (by-told way tells Work (λ e. cc) work)));
        });
        stops = λ t.
            keeps-gives start.state new.state end.last _ _ (λ serial kept x image_told events work. (let r = read image_told work in record {
              head = r.head;
              heap = heap;
              is = r.image;
              lines = lines;
              list = (heard (by-told way tells Events (λ e. cc) events)).1;
              checkpoint = subst (λ (w : Words). IsCheckpoint lines row.steps (guarded_first (serial_of point) [] (model_state w) heap) serial kept) (sym r.state_is) (x (by-told way tells Work (λ e. cc) work));
            })) (end.stops t);
      },
    );
    of_run = end.of_run;
    ran = end.answered.ran;
    untold = end.untold;
    later = end.uses.later;
    vault_later = omega (arith, calm, high);
  }

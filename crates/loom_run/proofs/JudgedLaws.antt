-- What an end at a stage says of Work, Image and Events, by what its steps read, and how it stays so.
use Rattle.std.proofs.Common.{◌≡◌, ◌≢◌, ℕ, Bool, List, Some, IsTrue, sym, ◌∙◌, ap, subst}
use Rattle.long_names.specs.Heap.{Heap}
use Rattle.image_format.specs.declared.opening.State.{State as Words}
use Rattle.loom_host.specs.Outside.{RoleState}
use Rattle.loom_host.specs.declared.outside.Role.{Role}
use Rattle.loom_host.specs.declared.outside.Role.TheVariants.{Image, Events, Work}
use Rattle.blue_model.specs.declared.event.Line.{Line}
use Rattle.loom_run.specs.Ends.{AreEvents, IsRightImage, JudgesEvents, JudgesImage, ReadsAt, WasRead, bytes_of}
use Rattle.loom_run.specs.Meanings.{Meanings}
use Rattle.loom_run.specs.Stages.{Stage, Opening, Reading, Listening, Telling, passes}
use Rattle.loom_run.specs.Steps.{HasHeard, HasRead, IsRead}
use Rattle.loom_words.specs.Words.{Row}
use Rattle.loom_words.specs.declared.status.Status.{Status}
use Rattle.loom_run.proofs.UsesLaws.{never}

module _ (tells : Role → Bool) (row : Row) where
  abbrev IsNamed : Meanings → Stage → Type 0
  IsNamed now stage = IsTrue (tells Work) → IsTrue (passes Opening stage) → (now.roles Work).name ≡ Some row.work

  right : (bytes : List ℕ) (state : Words) (heap : Heap) → IsRead bytes row.room state heap → IsRightImage row.room bytes
  right bytes state heap r = record { head = r.head; heap = heap; image = r.image; roomy = r.roomy }

  -- ---- by stage

  -- where Work couldn't be attached
  pub reads-opening : (now : Meanings) (status : Status) → ReadsAt tells now row Opening status
  reads-opening now status = record {
    judges_image = λ image at. absurd (cc);
    right_image = λ image work past. never past;
    judges_events = λ events at. absurd (cc);
    right_events = λ events past. never past;
    whole_image = λ image past. never past;
    whole_events = λ events past. never past;
    named_work = λ work past. never past;
  }

  -- where no image was read
  pub reads-reading : (now : Meanings) (status : Status) → IsNamed now Reading → (IsTrue (tells Image) → JudgesImage (tells Work) status row.room (bytes_of (now.roles Image))) → ReadsAt tells now row Reading status
  reads-reading now status named judges = record {
    judges_image = λ image at. judges image;
    right_image = λ image work past. never past;
    judges_events = λ events at. absurd (cc);
    right_events = λ events past. never past;
    whole_image = λ image past. never past;
    whole_events = λ events past. never past;
    named_work = named;
  }

  -- where no events were read
  pub reads-listening : (now : Meanings) (status : Status) (state : Words) (heap : Heap) → IsNamed now Listening → HasRead tells now row state heap
      → (IsTrue (tells Events) → JudgesEvents status (bytes_of (now.roles Events))) → ReadsAt tells now row Listening status
  reads-listening now status state heap named read judges = record {
    judges_image = λ image at. absurd (cc);
    right_image = λ image work past. right (bytes_of (now.roles Image)) state heap ((read image).1 work);
    judges_events = λ events at. judges events;
    right_events = λ events past. never past;
    whole_image = λ image past. (read image).0;
    whole_events = λ events past. never past;
    named_work = named;
  }

  -- where both were
  pub reads-later : (now : Meanings) (stage : Stage) (status : Status) (state : Words) (heap : Heap) (lines : List Line) → stage ≢ Reading → stage ≢ Listening → IsNamed now stage
      → HasRead tells now row state heap → HasHeard tells now row lines → ReadsAt tells now row stage status
  reads-later now stage status state heap lines unread unheard named read heard = record {
    judges_image = λ image at. absurd (unread at);
    right_image = λ image work past. right (bytes_of (now.roles Image)) state heap ((read image).1 work);
    judges_events = λ events at. absurd (unheard at);
    right_events = λ events past. (lines, (heard events).1);
    whole_image = λ image past. (read image).0;
    whole_events = λ events past. (heard events).0;
    named_work = named;
  }

  -- ---- behind the last line

  pub reads-left : (mid now : Meanings) (stage : Stage) (status : Status) → now.roles Image ≡ mid.roles Image → now.roles Events ≡ mid.roles Events → now.roles Work ≡ mid.roles Work
      → ReadsAt tells mid row stage status → ReadsAt tells now row stage status
  reads-left mid now stage status image_same events_same work_same at = record {
    judges_image = λ image here. subst (λ (s : RoleState). JudgesImage (tells Work) status row.room (bytes_of s)) (sym image_same) (at.judges_image image here);
    right_image = λ image work past. subst (λ (s : RoleState). IsRightImage row.room (bytes_of s)) (sym image_same) (at.right_image image work past);
    judges_events = λ events here. subst (λ (s : RoleState). JudgesEvents status (bytes_of s)) (sym events_same) (at.judges_events events here);
    right_events = λ events past. subst (λ (s : RoleState). (lines : List Line) × AreEvents (bytes_of s) lines) (sym events_same) (at.right_events events past);
    whole_image = λ image past. subst (WasRead row.image) (sym image_same) (at.whole_image image past);
    whole_events = λ events past. subst (WasRead row.events) (sym events_same) (at.whole_events events past);
    named_work = λ work past. ap (λ (s : RoleState). s.name) work_same ∙ at.named_work work past;
  }

  -- whatever the answer is there
  pub reads-telling : (now : Meanings) (status last : Status) → ReadsAt tells now row Telling status → ReadsAt tells now row Telling last
  reads-telling now status last at = record {
    judges_image = λ image here. absurd (cc);
    right_image = at.right_image;
    judges_events = λ events here. absurd (cc);
    right_events = at.right_events;
    whole_image = at.whole_image;
    whole_events = at.whole_events;
    named_work = at.named_work;
  }

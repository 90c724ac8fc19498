-- A listing or an assembling: which roles it has used, how it ends, and the last line behind it.
use Rattle.std.proofs.Common.{◌≡◌, ◌≢◌, ◌⊎◌, ℕ, ◌≤◌, Bool, true, false, cond, List, [], ◌∷◌, IsTrue, None, Some, Option, is_some, inl, inr, refl, sym, ◌∙◌, ap, subst, arith}
use Rattle.std.specs.Prelude.{Err, IfErr, IfSome, IsSome, Ok, Result}
use Rattle.long_names.specs.Counting.{Rose}
use Rattle.long_names.specs.Heap.{Heap, object_count}
use Rattle.image_format.specs.declared.opening.State.{State as Words}
use Rattle.image_format.specs.Rules.{IsState, IsStateWord, text_under}
use Rattle.image_writer.specs.Saved.{kept_state, kept_word}
use Rattle.loom_host.specs.Outside.{PutPrefix, RoleState, SameBut, ends, puts}
use Rattle.loom_host.specs.declared.outside.Role.{Role}
use Rattle.loom_host.specs.declared.outside.Role.TheVariants.{Image, Events, Work, Saved, Display, Transcript, Notes}
use Rattle.loom_run.specs.Converts.{Converted, ConvertsAt, CountsObjects, CutsCount, EndsConversion, EndsSource, EndsText, HasBegunCount, IsAboveRoom, JudgesSource, JudgesText, Reads, bytes_by, done_by, head_under, is_unused, path_for, spelled_by, verb_for}
use Rattle.loom_run.specs.declared.converting.Way.{Way}
use Rattle.loom_run.specs.declared.converting.Way.TheVariants.{Listing, Assembling}
use Rattle.loom_run.specs.Ends.{AttachedOnce, IsCaused, IsDamaged, IsPastLimits, MadeBy, Noted, NotedBy, WasRead, WrittenBy, bytes_of}
use Rattle.loom_run.specs.Makes.{HasBegunFor}
use Rattle.loom_run.specs.Meanings.{IsLeft, LeavesBut, Meanings}
use Rattle.loom_run.specs.Parts.{IsTold, unsaid}
use Rattle.loom_run.specs.Promise.{Promise}
use Rattle.loom_run.specs.Stages.{Stage, Opening, Reading, Listening, Making, Running, Finishing, Saving, Drawing, Telling, Ends, EndsOpening, EndsReading, EndsSaving, passes, reaches, roles_at, stage_of}
use Rattle.loom_run.specs.Steps.{ConversionEnds, HasOpened, HasPut, IsOfConversion, IsOfRun, IsReadRefusal, IsRefusal, IsRefusalAt, IsRefusedBy, IsSameFile, IsUnopened, UsesPaths}
use Rattle.loom_words.specs.Status.{line_of, usage_of}
use Rattle.loom_words.specs.Words.{Paths, Row, ToAssemble, ToList, ToMake, ToRun, ToTrace, Verb, bad_word, paths_of, verb_of}
use Rattle.loom_words.specs.declared.words.TheConstants.{MOST_ROOM}
use Rattle.loom_words.specs.declared.status.Status.{Status}
use Rattle.loom_words.specs.declared.status.Status.TheVariants as answer
use Rattle.loom_run.proofs.EndsLaws.{cause-since}
use Rattle.loom_run.proofs.Frames.{is-role}
use Rattle.loom_run.proofs.StepLaws.{begun-whole}
use Rattle.loom_run.proofs.Lines.{noted-own, told-since}
use Rattle.loom_run.proofs.UsesLaws.{attached-file, attached-from, attached-left, left-then, never}

-- ---- the refusals of a run's steps

-- a run with room for the most objects
abbrev any-row : Row
any-row = record { image = []; events = []; work = []; saved = []; display = []; core = 0; entries = 0; room = MOST_ROOM; steps = 0 }

of-conversion : (status : Status) → IsOfRun status → IsOfConversion status
of-conversion (answer.Usage word) h = h
of-conversion (answer.ReadFault role count) h = h
of-conversion (answer.WriteFault role count) h = h
of-conversion _ h = tt

above-room : (status : Status) → IsPastLimits any-row status → IsAboveRoom status
above-room (answer.WorkFull live room) h = h
above-room _ h = tt

by-run : {tells : Role → Bool} {before now : Meanings} (stage : Stage) (status : Status) → IsRefusal tells before now any-row stage status → IsRefusedBy tells before now (Ends stage) status
by-run stage status r = record { answer = r.answer; of_conversion = of-conversion status r.of_run; cause = r.cause; whole = r.whole; room = above-room status r.limits }

pub refused-image : {tells : Role → Bool} {before now : Meanings} (status : Status) → IsReadRefusal tells before now MOST_ROOM status → IsRefusedBy tells before now EndsReading status
refused-image status h = by-run Reading status (h any-row refl)

pub refused-images : {T : Type 0} (tells : Role → Bool) (before now : Meanings) (r : Result T Status) → IfErr r (IsReadRefusal tells before now MOST_ROOM) → IfErr r (IsRefusedBy tells before now EndsReading)
refused-images tells before now (Ok x) h = tt
refused-images tells before now (Err status) h = refused-image status h

-- where Image couldn't be attached
unopened-text : (status : Status) → IsUnopened status → EndsText status
unopened-text (answer.ReadFault Image count) h = tt
unopened-text _ h = absurd h

pub refused-text : {tells : Role → Bool} {before now : Meanings} (status : Status) → IsUnopened status → IsRefusalAt tells before now Reading status → IsRefusedBy tells before now EndsText status
refused-text status unopened h =
    let r = by-run Reading status (h any-row) in
    record { answer = unopened-text status unopened; of_conversion = r.of_conversion; cause = r.cause; whole = r.whole; room = r.room }

pub unopened-judges : (work : Bool) (status : Status) (text : List ℕ) → IsUnopened status → JudgesText work status text
unopened-judges work (answer.ReadFault Image count) text h = tt
unopened-judges work _ text h = absurd h

pub refused-opening : {tells : Role → Bool} {before now : Meanings} (status : Status) → IsRefusalAt tells before now Opening status → IsRefusedBy tells before now EndsOpening status
refused-opening status h = by-run Opening status (h any-row)

pub refused-saving : {tells : Role → Bool} {before now : Meanings} (status : Status) → IsRefusalAt tells before now Saving status → IsRefusedBy tells before now EndsSaving status
refused-saving status h = by-run Saving status (h any-row)

-- ---- the roles

module _ (tells : Role → Bool) (paths : Paths) where
  pub paths-opening : (a b : Meanings) → (IsTrue (tells Work) → AttachedOnce paths.work (a.roles Work) (b.roles Work)) → LeavesBut (roles_at Opening) a b → UsesPaths tells a b paths Opening
  paths-opening a b own others = record { attached = attached; named = λ told past. never past; unused = unused; untold = others.others Notes (λ e. cc, tt); later = others.later }
    where
      attached : (role : Role) → IsTrue (tells role) → IsTrue (reaches (stage_of role) Opening) → IfSome (path_for paths role) (λ text. AttachedOnce text (a.roles role) (b.roles role))
      attached Image told came = never came
      attached Events told came = tt
      attached Work told came = own told
      attached Saved told came = never came
      attached Display told came = tt
      attached Transcript told came = tt
      attached Notes told came = tt

      unused : (role : Role) → IsTrue (is_unused role Opening) → IsLeft role a b
      unused Image none = others.others Image (λ e. cc, tt)
      unused Events none = others.others Events (λ e. cc, tt)
      unused Work none = never none
      unused Saved none = others.others Saved (λ e. cc, tt)
      unused Display none = others.others Display (λ e. cc, tt)
      unused Transcript none = others.others Transcript (λ e. cc, tt)
      unused Notes none = never none

  pub paths-reading : (a b c : Meanings) → HasOpened tells a b paths.work → (IsTrue (tells Image) → AttachedOnce paths.source (b.roles Image) (c.roles Image)) → (IsTrue (tells Work) → IsSameFile (b.roles Work) (c.roles Work)) → LeavesBut (roles_at Reading) b c → UsesPaths tells a c paths Reading
  paths-reading a b c opened own file others = record {
    attached = attached;
    named = λ told past. ap (λ (s : RoleState). s.name) (file told) ∙ opened.named told;
    unused = unused;
    untold = left-then Notes a b c (opened.others.others Notes (λ e. cc, tt)) (others.others Notes (λ e. cc, (λ e. cc, tt)));
    later = λ r. let first = opened.others.later r in let then = others.later r in omega (arith, first, then);
  }
    where
      attached : (role : Role) → IsTrue (tells role) → IsTrue (reaches (stage_of role) Reading) → IfSome (path_for paths role) (λ text. AttachedOnce text (a.roles role) (c.roles role))
      attached Image told came = attached-from _ _ _ _ (opened.others.others Image (λ e. cc, tt)).state (own told)
      attached Events told came = tt
      attached Work told came = attached-file _ _ _ _ (opened.attached told) (file told)
      attached Saved told came = never came
      attached Display told came = tt
      attached Transcript told came = tt
      attached Notes told came = tt

      unused : (role : Role) → IsTrue (is_unused role Reading) → IsLeft role a c
      unused Image none = never none
      unused Events none = left-then Events a b c (opened.others.others Events (λ e. cc, tt)) (others.others Events (λ e. cc, (λ e. cc, tt)))
      unused Work none = never none
      unused Saved none = left-then Saved a b c (opened.others.others Saved (λ e. cc, tt)) (others.others Saved (λ e. cc, (λ e. cc, tt)))
      unused Display none = left-then Display a b c (opened.others.others Display (λ e. cc, tt)) (others.others Display (λ e. cc, (λ e. cc, tt)))
      unused Transcript none = left-then Transcript a b c (opened.others.others Transcript (λ e. cc, tt)) (others.others Transcript (λ e. cc, (λ e. cc, tt)))
      unused Notes none = never none

  pub paths-saving : (a b c : Meanings) → UsesPaths tells a b paths Reading → (IsTrue (tells Saved) → AttachedOnce paths.target (b.roles Saved) (c.roles Saved)) → c.roles Work ≡ b.roles Work → LeavesBut (roles_at Saving) b c → UsesPaths tells a c paths Saving
  paths-saving a b c u own file others = record {
    attached = attached;
    named = λ told past. ap (λ (s : RoleState). s.name) file ∙ u.named told refl;
    unused = unused;
    untold = left-then Notes a b c u.untold (others.others Notes (λ e. cc, (λ e. cc, tt)));
    later = λ r. let first = u.later r in let then = others.later r in omega (arith, first, then);
  }
    where
      attached : (role : Role) → IsTrue (tells role) → IsTrue (reaches (stage_of role) Saving) → IfSome (path_for paths role) (λ text. AttachedOnce text (a.roles role) (c.roles role))
      attached Image told came = attached-left _ _ _ _ (u.attached Image told refl) (others.others Image (λ e. cc, (λ e. cc, tt))).state
      attached Events told came = tt
      attached Work told came = attached-left _ _ _ _ (u.attached Work told refl) file
      attached Saved told came = attached-from _ _ _ _ (u.unused Saved refl).state (own told)
      attached Display told came = tt
      attached Transcript told came = tt
      attached Notes told came = tt

      unused : (role : Role) → IsTrue (is_unused role Saving) → IsLeft role a c
      unused Image none = never none
      unused Events none = left-then Events a b c (u.unused Events refl) (others.others Events (λ e. cc, (λ e. cc, tt)))
      unused Work none = never none
      unused Saved none = never none
      unused Display none = left-then Display a b c (u.unused Display refl) (others.others Display (λ e. cc, (λ e. cc, tt)))
      unused Transcript none = left-then Transcript a b c (u.unused Transcript refl) (others.others Transcript (λ e. cc, (λ e. cc, tt)))
      unused Notes none = never none

  -- the last line isn't put yet
  pub paths-telling : (a b : Meanings) → UsesPaths tells a b paths Saving → UsesPaths tells a b paths Telling
  paths-telling a b u = record { attached = attached; named = λ told past. u.named told refl; unused = unused; untold = u.untold; later = u.later }
    where
      attached : (role : Role) → IsTrue (tells role) → IsTrue (reaches (stage_of role) Telling) → IfSome (path_for paths role) (λ text. AttachedOnce text (a.roles role) (b.roles role))
      attached Image told came = u.attached Image told refl
      attached Events told came = tt
      attached Work told came = u.attached Work told refl
      attached Saved told came = u.attached Saved told refl
      attached Display told came = tt
      attached Transcript told came = tt
      attached Notes told came = tt

      unused : (role : Role) → IsTrue (is_unused role Telling) → IsLeft role a b
      unused Image none = never none
      unused Events none = u.unused Events refl
      unused Work none = never none
      unused Saved none = never none
      unused Display none = u.unused Display refl
      unused Transcript none = u.unused Transcript refl
      unused Notes none = never none

-- ---- what is written

kept-same : (h : Heap) (word : ℕ) → IsStateWord h word → kept_word h.at word ≡ word
kept-same h word (inl none) = go (is_some (h.at word))
  where
    go : (b : Bool) → cond b word 0 ≡ word
    go true = refl
    go false = sym none
kept-same h word (inr there) = ap (λ (b : Bool). cond b word 0) there

tick-same : (h : Heap) (s : Words) → IsStateWord h s.timer → (s.timer ≡ 0 → s.tick ≡ 0) → cond (is_some (h.at s.timer)) s.tick 0 ≡ s.tick
tick-same h s (inl none) tick = go (is_some (h.at s.timer))
  where
    go : (b : Bool) → cond b s.tick 0 ≡ s.tick
    go true = refl
    go false = sym (tick none)
tick-same h s (inr there) tick = ap (λ (b : Bool). cond b s.tick 0) there

state-same : (h : Heap) (s : Words) → IsState h s → kept_state h.at s ≡ s
state-same h s is =
    ap (λ (n : ℕ). let x : Words = record { clock = s.clock; display = n; input = kept_word h.at s.input; timer = kept_word h.at s.timer; tick = cond (is_some (h.at s.timer)) s.tick 0 } in x) (kept-same h s.display is.display)
    ∙ ap (λ (n : ℕ). let x : Words = record { clock = s.clock; display = s.display; input = n; timer = kept_word h.at s.timer; tick = cond (is_some (h.at s.timer)) s.tick 0 } in x) (kept-same h s.input is.input)
    ∙ ap (λ (n : ℕ). let x : Words = record { clock = s.clock; display = s.display; input = s.input; timer = n; tick = cond (is_some (h.at s.timer)) s.tick 0 } in x) (kept-same h s.timer is.timer)
    ∙ ap (λ (n : ℕ). let x : Words = record { clock = s.clock; display = s.display; input = s.input; timer = s.timer; tick = n } in x) (tick-same h s is.timer is.tick)

spelled-is : (way : Way) (bytes : List ℕ) (heap : Heap) (state : Words) → Reads way bytes heap state → spelled_by way heap state ≡ bytes_by way heap state
spelled-is Listing bytes heap state r = refl
spelled-is Assembling bytes heap state r = ap (λ (s : Words). text_under (head_under heap s) heap) (state-same heap state r.state)

-- ---- the ends

module _ (tells : Role → Bool) (before : Meanings) (way : Way) (paths : Paths) where
  ends-with : (mid now : Meanings) (stage : Stage) (status : Status) → ((role : Role) → before.faults role ≤ mid.faults role) → UsesPaths tells before now paths stage → IsRefusedBy tells mid now (EndsConversion stage way) status
      → (IsTrue (tells Image) → stage ≡ Reading → JudgesSource way (tells Work) status (bytes_of (now.roles Image))) → (IsTrue (tells Image) → IsTrue (passes Reading stage) → WasRead paths.source (now.roles Image))
      → (IsTrue (tells Image) → IsTrue (tells Work) → IsTrue (passes Reading stage) → Converted tells before now way paths stage status) → ConversionEnds tells before now way paths status
  ends-with mid now stage status since uses refused judges whole converts = record {
    stage = stage;
    at = record {
      answer = refused.answer;
      cause = cause-since status before.faults mid.faults now.faults since refused.cause;
      whole = refused.whole;
      room = refused.room;
      attached = uses.attached;
      unused = uses.unused;
      judges = judges;
      whole_source = whole;
      named_work = uses.named;
      converts = converts;
    };
    of_conversion = refused.of_conversion;
    untold = uses.untold;
    later = uses.later;
  }

  -- where Work couldn't be attached
  pub conversion-opening : (now : Meanings) (status : Status) → (IsTrue (tells Work) → AttachedOnce paths.work (before.roles Work) (now.roles Work)) → LeavesBut (roles_at Opening) before now → IsRefusalAt tells before now Opening status → ConversionEnds tells before now way paths status
  conversion-opening now status own others refused = ends-with before now Opening status (λ role. omega arith) (paths-opening tells paths before now own others) (refused-opening status refused)
      (λ image at. absurd (cc)) (λ image past. never past) (λ image work past. never past)

  module _ (mid now : Meanings) (opened : HasOpened tells before mid paths.work) (own : IsTrue (tells Image) → AttachedOnce paths.source (mid.roles Image) (now.roles Image)) (file : IsTrue (tells Work) → IsSameFile (mid.roles Work) (now.roles Work)) (others : LeavesBut (roles_at Reading) mid now) where
    used-reading : UsesPaths tells before now paths Reading
    used-reading = paths-reading tells paths before mid now opened own file others

    -- where nothing was read
    pub conversion-reading : (status : Status) → IsRefusedBy tells mid now (EndsSource way) status → (IsTrue (tells Image) → JudgesSource way (tells Work) status (bytes_of (now.roles Image))) → ConversionEnds tells before now way paths status
    conversion-reading status refused judges = ends-with mid now Reading status opened.others.later used-reading refused (λ image at. judges image) (λ image past. never past) (λ image work past. never past)

    module _ (heap : Heap) (state : Words) (objects : ℕ) (read : IsTrue (tells Image) → IsTrue (tells Work) → Reads way (bytes_of (now.roles Image)) heap state × (objects ≡ object_count heap)) (end : IsTrue (tells Image) → WasRead paths.source (now.roles Image))
        (far : Meanings) (shown : IsTrue (tells Saved) → AttachedOnce paths.target (now.roles Saved) (far.roles Saved)) (same : far.roles Work ≡ now.roles Work) (leaves : LeavesBut (roles_at Saving) now far) where
      used-saving : UsesPaths tells before far paths Saving
      used-saving = paths-saving tells paths before now far used-reading shown same leaves

      unread : far.roles Image ≡ now.roles Image
      unread = (leaves.others Image (λ e. cc, (λ e. cc, tt))).state

      whole : IsTrue (tells Image) → WasRead paths.source (far.roles Image)
      whole image = subst (WasRead paths.source) (sym unread) (end image)

      -- what was put behind the attach
      written : (b : Bool) → IsTrue (tells Image) → IsTrue (tells Work) → (IsTrue (tells Saved) → IsTrue (tells Work) → WrittenBy b paths.target (spelled_by way heap state) (now.roles Saved) (far.roles Saved)) → IsTrue (tells Saved) → WrittenBy b paths.target (bytes_by way heap state) (before.roles Saved) (far.roles Saved)
      written b image work put saved =
          subst (λ (bytes : List ℕ). WrittenBy b paths.target bytes (before.roles Saved) (far.roles Saved)) (spelled-is way (bytes_of (now.roles Image)) heap state (read image work).0)
          (subst (λ (s : RoleState). WrittenBy b paths.target (spelled_by way heap state) s (far.roles Saved)) (used-reading.unused Saved refl).state (put saved work))

      reads : IsTrue (tells Image) → IsTrue (tells Work) → Reads way (bytes_of (far.roles Image)) heap state
      reads image work = subst (λ (s : RoleState). Reads way (bytes_of s) heap state) (sym unread) (read image work).0

      counts-none : (status : Status) → EndsSaving status → CountsObjects heap status
      counts-none (answer.WriteFault Saved count) h = tt
      counts-none (answer.WorkFault count) h = tt
      counts-none (answer.Damaged place name) h = tt
      counts-none answer.OutOfMemory h = tt
      counts-none _ h = absurd h

      cuts-saving : (status : Status) (old new : RoleState) → EndsSaving status → CutsCount way heap status old new
      cuts-saving (answer.WriteFault Saved count) old new h = tt
      cuts-saving (answer.WorkFault count) old new h = tt
      cuts-saving (answer.Damaged place name) old new h = tt
      cuts-saving answer.OutOfMemory old new h = tt
      cuts-saving _ old new h = absurd h

      -- where not all was written
      pub conversion-saving : (status : Status) → IsRefusedBy tells now far EndsSaving status → (IsTrue (tells Saved) → IsTrue (tells Work) → WrittenBy false paths.target (spelled_by way heap state) (now.roles Saved) (far.roles Saved)) → ConversionEnds tells before far way paths status
      conversion-saving status refused put = ends-with now far Saving status used-reading.later used-saving refused (λ image at. absurd (cc)) (λ image past. whole image)
          (λ image work past. record {
            heap = heap;
            state = state;
            reads = reads image work;
            counts = counts-none status refused.answer;
            writes = λ saved came. written false image work put saved;
            cuts = λ notes. cuts-saving status (before.roles Notes) (far.roles Notes) refused.answer;
          })

      -- and where it was
      pub conversion-put : (IsTrue (tells Saved) → IsTrue (tells Work) → WrittenBy true paths.target (spelled_by way heap state) (now.roles Saved) (far.roles Saved)) → HasPut tells before far way paths objects
      conversion-put put = record {
        uses = used-saving;
        whole = whole;
        heap = heap;
        state = state;
        read = λ image work. (reads image work, (read image work).1);
        put = λ image work saved. written true image work put saved;
      }

  -- ---- Saved is ended

  module _ (mid now : Meanings) (objects : ℕ) (x : HasPut tells before mid way paths objects) (roles : SameBut Saved mid.roles now.roles) (faults : SameBut Saved mid.faults now.faults) (later : mid.faults Saved ≤ now.faults Saved) where
    same-left : (role : Role) → role ≢ Saved → IsLeft role mid now
    same-left role other = record { state = roles role other; faults = faults role other }

    later-all : (role : Role) → before.faults role ≤ now.faults role
    later-all role = elim (is-role role Saved) [
      | inl e ↦ subst (λ (r : Role). before.faults r ≤ now.faults r) (sym e) (let first = x.uses.later Saved in omega (arith, first, later))
      | inr other ↦ (let first = x.uses.later role in let same = faults role other in omega (arith, first, same))
    ]

    still-uses : (IsTrue (tells Saved) → AttachedOnce paths.target (before.roles Saved) (now.roles Saved)) → UsesPaths tells before now paths Saving
    still-uses own = record { attached = attached; named = λ told past. ap (λ (s : RoleState). s.name) (roles Work (λ e. cc)) ∙ x.uses.named told refl; unused = unused; untold = left-then Notes before mid now x.uses.untold (same-left Notes (λ e. cc)); later = later-all }
      where
        attached : (role : Role) → IsTrue (tells role) → IsTrue (reaches (stage_of role) Saving) → IfSome (path_for paths role) (λ text. AttachedOnce text (before.roles role) (now.roles role))
        attached Image told came = attached-left _ _ _ _ (x.uses.attached Image told refl) (roles Image (λ e. cc))
        attached Events told came = tt
        attached Work told came = attached-left _ _ _ _ (x.uses.attached Work told refl) (roles Work (λ e. cc))
        attached Saved told came = own told
        attached Display told came = tt
        attached Transcript told came = tt
        attached Notes told came = tt

        unused : (role : Role) → IsTrue (is_unused role Saving) → IsLeft role before now
        unused Image none = never none
        unused Events none = left-then Events before mid now (x.uses.unused Events refl) (same-left Events (λ e. cc))
        unused Work none = never none
        unused Saved none = never none
        unused Display none = left-then Display before mid now (x.uses.unused Display refl) (same-left Display (λ e. cc))
        unused Transcript none = left-then Transcript before mid now (x.uses.unused Transcript refl) (same-left Transcript (λ e. cc))
        unused Notes none = never none

    image-same : now.roles Image ≡ mid.roles Image
    image-same = roles Image (λ e. cc)

    whole-now : IsTrue (tells Image) → WasRead paths.source (now.roles Image)
    whole-now image = subst (WasRead paths.source) (sym image-same) (x.whole image)

    reads-now : IsTrue (tells Image) → IsTrue (tells Work) → Reads way (bytes_of (now.roles Image)) x.heap x.state
    reads-now image work = subst (λ (s : RoleState). Reads way (bytes_of s) x.heap x.state) (sym image-same) (x.read image work).0

    -- it couldn't be: all was put, and it has no end
    pub conversion-unended : (count : ℕ) → (count ≡ now.faults Saved) × Rose (mid.faults Saved) (now.faults Saved) → (IsTrue (tells Saved) → now.roles Saved ≡ mid.roles Saved) → ConversionEnds tells before now way paths (answer.WriteFault Saved count)
    conversion-unended count rose still = ends-with mid now Saving (answer.WriteFault Saved count) x.uses.later (still-uses (λ told. attached-left _ _ _ _ (x.uses.attached Saved told refl) (still told)))
        record { answer = tt; of_conversion = λ e. cc; cause = rose; whole = λ work damaged. damaged; room = tt } (λ image at. absurd (cc)) (λ image past. whole-now image)
        (λ image work past. record {
          heap = x.heap;
          state = x.state;
          reads = reads-now image work;
          counts = tt;
          writes = λ saved came. inr (begun-whole paths.target (bytes_by way x.heap x.state) (before.roles Saved) (mid.roles Saved) (now.roles Saved) (x.put image work saved) (still saved));
          cuts = λ notes. tt;
        })

    done-counts : (w : Way) → objects ≡ object_count x.heap → CountsObjects x.heap (done_by w objects)
    done-counts Listing e = e
    done-counts Assembling e = e

    done-cuts : (w : Way) (old new : RoleState) → CutsCount way x.heap (done_by w objects) old new
    done-cuts Listing old new = tt
    done-cuts Assembling old new = tt

    done-refused : (w : Way) → IsRefusedBy tells now now (EndsConversion Telling w) (done_by w objects)
    done-refused Listing = record { answer = tt; of_conversion = tt; cause = tt; whole = λ work damaged. damaged; room = tt }
    done-refused Assembling = record { answer = tt; of_conversion = tt; cause = tt; whole = λ work damaged. damaged; room = tt }

    ended-attached : (IsTrue (tells Saved) → now.roles Saved ≡ ends (mid.roles Saved)) → IsTrue (tells Saved) → AttachedOnce paths.target (before.roles Saved) (now.roles Saved)
    ended-attached ended told =
        let own = x.uses.attached Saved told refl in
        subst (AttachedOnce paths.target (before.roles Saved)) (sym (ended told)) record { attaches = own.attaches; name = own.name }

    -- it was
    pub conversion-ended : (IsTrue (tells Saved) → now.roles Saved ≡ ends (mid.roles Saved)) → ConversionEnds tells before now way paths (done_by way objects)
    conversion-ended ended = ends-with now now Telling (done_by way objects) later-all (paths-telling tells paths before now (still-uses (ended-attached ended))) (done-refused way) (λ image at. absurd (cc)) (λ image past. whole-now image)
        (λ image work past. record {
          heap = x.heap;
          state = x.state;
          reads = reads-now image work;
          counts = done-counts way (x.read image work).1;
          writes = λ saved came. (mid.roles Saved, x.put image work saved, ended saved);
          cuts = λ notes. done-cuts way (before.roles Notes) (now.roles Notes);
        })

-- ---- the last line

abbrev Stays : Status → Type 0
Stays status = (n : ℕ) → unsaid status n ≡ status

-- it went through, or its answer stays where the last line can't be put
ended : (stage : Stage) (way : Way) (status : Status) → EndsConversion stage way status → IsOfConversion status → ((objects : ℕ) × (stage ≡ Telling) × (status ≡ done_by way objects)) ⊎ Stays status
ended Opening way (answer.WorkFault count) h of = inr (λ n. refl)
ended Opening way _ h of = absurd h
ended Reading Listing (answer.ImageBad rule place) h of = inr (λ n. refl)
ended Reading Listing (answer.ReadFault Image count) h of = inr (λ n. refl)
ended Reading Listing (answer.WorkFull live room) h of = inr (λ n. refl)
ended Reading Listing (answer.WorkFault count) h of = inr (λ n. refl)
ended Reading Listing (answer.Damaged place name) h of = inr (λ n. refl)
ended Reading Listing answer.OutOfMemory h of = inr (λ n. refl)
ended Reading Listing _ h of = absurd h
ended Reading Assembling (answer.TextBad line rule) h of = inr (λ n. refl)
ended Reading Assembling (answer.ReadFault Image count) h of = inr (λ n. refl)
ended Reading Assembling (answer.WorkFault count) h of = inr (λ n. refl)
ended Reading Assembling (answer.Damaged place name) h of = inr (λ n. refl)
ended Reading Assembling answer.OutOfMemory h of = inr (λ n. refl)
ended Reading Assembling _ h of = absurd h
ended Saving way (answer.WriteFault Saved count) h of = inr (λ n. refl)
ended Saving way (answer.WorkFault count) h of = inr (λ n. refl)
ended Saving way (answer.Damaged place name) h of = inr (λ n. refl)
ended Saving way answer.OutOfMemory h of = inr (λ n. refl)
ended Saving way _ h of = absurd h
ended Telling Listing (answer.Listed objects) h of = inl (objects, refl, refl)
ended Telling Listing (answer.WriteFault Notes count) h of = absurd (of refl)
ended Telling Listing _ h of = absurd h
ended Telling Assembling (answer.Assembled objects) h of = inl (objects, refl, refl)
ended Telling Assembling (answer.WriteFault Notes count) h of = absurd (of refl)
ended Telling Assembling _ h of = absurd h
ended Listening way _ h of = absurd h
ended Making way _ h of = absurd h
ended Running way _ h of = absurd h
ended Finishing way _ h of = absurd h
ended Drawing way _ h of = absurd h

no-line : (status : Status) → Stays status → (now : Meanings) (Begun : RoleState → RoleState → Type 0) (before : Meanings) → IsOfConversion status → Noted (line_of status) before now → NotedBy status Begun before now
no-line (answer.Done ran) stays now Begun before of noted = let no = stays 0 in absurd (cc)
no-line (answer.Quit ran) stays now Begun before of noted = let no = stays 0 in absurd (cc)
no-line (answer.Made objects) stays now Begun before of noted = let no = stays 0 in absurd (cc)
no-line (answer.Listed objects) stays now Begun before of noted = let no = stays 0 in absurd (cc)
no-line (answer.Assembled objects) stays now Begun before of noted = let no = stays 0 in absurd (cc)
no-line (answer.Usage word) stays now Begun before of noted = noted
no-line (answer.ImageBad rule place) stays now Begun before of noted = noted
no-line (answer.EventsBad line) stays now Begun before of noted = noted
no-line (answer.TextBad line rule) stays now Begun before of noted = noted
no-line (answer.Stuck cause ran) stays now Begun before of noted = noted
no-line (answer.CoreFull ran need) stays now Begun before of noted = noted
no-line (answer.NamesSpent ran) stays now Begun before of noted = noted
no-line (answer.WorkFull live room) stays now Begun before of noted = noted
no-line (answer.ReadFault role count) stays now Begun before of noted = noted
no-line (answer.WorkFault count) stays now Begun before of noted = noted
no-line (answer.WriteFault Image count) stays now Begun before of noted = noted
no-line (answer.WriteFault Events count) stays now Begun before of noted = noted
no-line (answer.WriteFault Work count) stays now Begun before of noted = noted
no-line (answer.WriteFault Saved count) stays now Begun before of noted = noted
no-line (answer.WriteFault Display count) stays now Begun before of noted = noted
no-line (answer.WriteFault Transcript count) stays now Begun before of noted = noted
no-line (answer.WriteFault Notes count) stays now Begun before of noted = absurd (of refl)
no-line answer.OutOfMemory stays now Begun before of noted = noted
no-line (answer.Damaged place name) stays now Begun before of noted = noted
no-line (answer.VaultFault count) stays now Begun before of noted = noted
no-line answer.NoCheckpoint stays now Begun before of noted = noted
no-line (answer.VaultBad place) stays now Begun before of noted = noted

usage-none : (status : Status) → IsOfConversion status → usage_of status ≡ None
usage-none (answer.Usage word) of = absurd of
usage-none _ of = refl

cuts-none : (way : Way) (heap : Heap) (status : Status) (old new : RoleState) → IsOfConversion status → CutsCount way heap status old new
cuts-none way heap (answer.WriteFault Notes count) old new of = absurd (of refl)
cuts-none way heap (answer.WriteFault Image count) old new of = tt
cuts-none way heap (answer.WriteFault Events count) old new of = tt
cuts-none way heap (answer.WriteFault Work count) old new of = tt
cuts-none way heap (answer.WriteFault Saved count) old new of = tt
cuts-none way heap (answer.WriteFault Display count) old new of = tt
cuts-none way heap (answer.WriteFault Transcript count) old new of = tt
cuts-none way heap _ old new of = tt

done-usage : (way : Way) (objects : ℕ) → usage_of (done_by way objects) ≡ None
done-usage Listing objects = refl
done-usage Assembling objects = refl

done-unsaid : (way : Way) (objects n : ℕ) → unsaid (done_by way objects) n ≡ answer.WriteFault Notes n
done-unsaid Listing objects n = refl
done-unsaid Assembling objects n = refl

done-noted : (way : Way) (objects : ℕ) (Begun : RoleState → RoleState → Type 0) (before now : Meanings) → now.roles Notes ≡ puts (line_of (done_by way objects)) (before.roles Notes) → NotedBy (done_by way objects) Begun before now
done-noted Listing objects Begun before now e = e
done-noted Assembling objects Begun before now e = e

done-counted : (way : Way) (heap : Heap) (objects : ℕ) → CountsObjects heap (done_by way objects) → objects ≡ object_count heap
done-counted Listing heap objects e = e
done-counted Assembling heap objects e = e

done-answer : (way : Way) (n : ℕ) → EndsConversion Telling way (answer.WriteFault Notes n)
done-answer Listing n = tt
done-answer Assembling n = tt

module _ (tells : Role → Bool) (before mid now : Meanings) (way : Way) (paths : Paths) (leaves : LeavesBut (Notes ∷ []) mid now) where
  left : (role : Role) → role ≢ Notes → IsLeft role mid now
  left role other = leaves.others role (other, tt)

  same : (role : Role) → role ≢ Notes → now.roles role ≡ mid.roles role
  same role other = (left role other).state

  cause-now : (status : Status) → IsOfConversion status → IsCaused status before.faults mid.faults → IsCaused status before.faults now.faults
  cause-now (answer.ReadFault role count) of h = subst (λ n. (count ≡ n) × Rose (before.faults role) n) (sym (left role of).faults) h
  cause-now (answer.WorkFault count) of h = subst (λ n. (count ≡ n) × Rose (before.faults Work) n) (sym (left Work (λ e. cc)).faults) h
  cause-now (answer.WriteFault role count) of h = subst (λ n. (count ≡ n) × Rose (before.faults role) n) (sym (left role of).faults) h
  cause-now _ of h = tt

  -- the same end, with an answer that says as much of what was read and written
  end-now : (stage : Stage) (status result : Status) → ConvertsAt tells before mid way paths stage status → EndsConversion stage way result → IsCaused result before.faults now.faults → (IsTrue (tells Work) → IsDamaged result → ⊥) → IsAboveRoom result
      → (IsTrue (tells Image) → stage ≡ Reading → JudgesSource way (tells Work) result (bytes_of (mid.roles Image))) → ((heap : Heap) → CountsObjects heap status → CountsObjects heap result)
      → ((heap : Heap) → CountsObjects heap status → IsTrue (tells Notes) → CutsCount way heap result (before.roles Notes) (now.roles Notes)) → ConvertsAt tells before now way paths stage result
  end-now stage status result at answers caused whole room judges counts cuts = record {
    answer = answers;
    cause = caused;
    whole = whole;
    room = room;
    attached = attached;
    unused = unused;
    judges = λ image here. subst (λ (s : RoleState). JudgesSource way (tells Work) result (bytes_of s)) (sym (same Image (λ e. cc))) (judges image here);
    whole_source = λ image past. subst (WasRead paths.source) (sym (same Image (λ e. cc))) (at.whole_source image past);
    named_work = λ work past. ap (λ (s : RoleState). s.name) (same Work (λ e. cc)) ∙ at.named_work work past;
    converts = λ image work past.
        let x = at.converts image work past in
        record {
          heap = x.heap;
          state = x.state;
          reads = subst (λ (s : RoleState). Reads way (bytes_of s) x.heap x.state) (sym (same Image (λ e. cc))) x.reads;
          counts = counts x.heap x.counts;
          writes = λ saved came. subst (λ (s : RoleState). MadeBy (passes Saving stage) paths.target (bytes_by way x.heap x.state) (before.roles Saved) s) (sym (same Saved (λ e. cc))) (x.writes saved came);
          cuts = cuts x.heap x.counts;
        };
  }
    where
      attached : (role : Role) → IsTrue (tells role) → IsTrue (reaches (stage_of role) stage) → IfSome (path_for paths role) (λ text. AttachedOnce text (before.roles role) (now.roles role))
      attached Image told here = attached-left _ _ _ _ (at.attached Image told here) (same Image (λ e. cc))
      attached Events told here = tt
      attached Work told here = attached-left _ _ _ _ (at.attached Work told here) (same Work (λ e. cc))
      attached Saved told here = attached-left _ _ _ _ (at.attached Saved told here) (same Saved (λ e. cc))
      attached Display told here = tt
      attached Transcript told here = tt
      attached Notes told here = tt

      unused : (role : Role) → IsTrue (is_unused role stage) → IsLeft role before now
      unused Image none = left-then Image before mid now (at.unused Image none) (left Image (λ e. cc))
      unused Events none = left-then Events before mid now (at.unused Events none) (left Events (λ e. cc))
      unused Work none = left-then Work before mid now (at.unused Work none) (left Work (λ e. cc))
      unused Saved none = left-then Saved before mid now (at.unused Saved none) (left Saved (λ e. cc))
      unused Display none = left-then Display before mid now (at.unused Display none) (left Display (λ e. cc))
      unused Transcript none = left-then Transcript before mid now (at.unused Transcript none) (left Transcript (λ e. cc))
      unused Notes none = never none

  -- what is told once the line was put, or cut
  pub record IsAfter (result : Status) : Type 0 where
    pub usage : usage_of result ≡ None
    pub stage : Stage
    pub at : ConvertsAt tells before now way paths stage result
    pub noted : IsTrue (tells Notes) → NotedBy result (HasBegunCount way) before now

  module _ (untold : IsLeft Notes before mid) where
    after-stays : (stage : Stage) (status result : Status) → ConvertsAt tells before mid way paths stage status → IsOfConversion status → Stays status → IsTold (tells Notes) status result before now → IsAfter result
    after-stays stage status result at of stays (inl whole) = subst IsAfter (sym whole.answer) record {
      usage = usage-none status of;
      stage = stage;
      at = end-now stage status status at at.answer (cause-now status of at.cause) at.whole at.room at.judges (λ heap h. h) (λ heap h told. cuts-none way heap status (before.roles Notes) (now.roles Notes) of);
      noted = λ told. no-line status stays now (HasBegunCount way) before of (noted-own status result before now (stays (now.faults Notes)) (inl whole) told).1;
    }
    after-stays stage status result at of stays (inr cut) = subst IsAfter (sym (cut.answer ∙ stays (now.faults Notes))) record {
      usage = usage-none status of;
      stage = stage;
      at = end-now stage status status at at.answer (cause-now status of at.cause) at.whole at.room at.judges (λ heap h. h) (λ heap h told. cuts-none way heap status (before.roles Notes) (now.roles Notes) of);
      noted = λ told. no-line status stays now (HasBegunCount way) before of (noted-own status result before now (stays (now.faults Notes)) (inr cut) told).1;
    }

    after-whole : (objects : ℕ) (result : Status) → ConvertsAt tells before mid way paths Telling (done_by way objects) → IsOfConversion (done_by way objects) → IsTold (tells Notes) (done_by way objects) result before now → IsAfter result
    after-whole objects result at of (inl whole) = subst IsAfter (sym whole.answer) record {
      usage = done-usage way objects;
      stage = Telling;
      at = end-now Telling (done_by way objects) (done_by way objects) at at.answer (cause-now (done_by way objects) of at.cause) at.whole at.room at.judges (λ heap h. h) (λ heap h told. cuts-none way heap (done_by way objects) (before.roles Notes) (now.roles Notes) of);
      noted = λ told. done-noted way objects (HasBegunCount way) before now (whole.put told);
    }
    after-whole objects result at of (inr cut) = subst IsAfter (sym (cut.answer ∙ done-unsaid way objects (now.faults Notes))) record {
      usage = refl;
      stage = Telling;
      at = end-now Telling (done_by way objects) (answer.WriteFault Notes (now.faults Notes)) at (done-answer way (now.faults Notes)) (refl, cut.rose) (λ work damaged. damaged) tt (λ image here. absurd (cc)) (λ heap h. tt)
          (λ heap h told. subst (λ (n : ℕ). PutPrefix (line_of (done_by way n)) (before.roles Notes) (now.roles Notes)) (done-counted way heap objects h) (cut.put told));
      noted = λ told. (objects, cut.put told);
    }

    pub after : (stage : Stage) (status result : Status) → ConvertsAt tells before mid way paths stage status → IsOfConversion status → IsTold (tells Notes) status result before now → IsAfter result
    after stage status result at of told = elim (ended stage way status at.answer of) [
      | inl x ↦ after-whole x.0 result (subst (λ (s : Stage). ConvertsAt tells before mid way paths s (done_by way x.0)) x.1 (subst (ConvertsAt tells before mid way paths stage) x.2 at)) (subst IsOfConversion x.2 of) (subst (λ (s : Status). IsTold (tells Notes) s result before now) x.2 told)
      | inr stays ↦ after-stays stage status result at of stays told
    ]

-- ---- the promise

-- right words aren't bad
pub right-some : {P : Type 0} (o : Option ℕ) → o ≡ None → IsSome o → P
right-some None e some = let no : ◌≡◌ {A = Bool} false true = some in absurd (cc)
right-some (Some word) e some = let no : ◌≡◌ {A = Option ℕ} (Some word) None = e in absurd (cc)

-- words ask for one of the five
pub asks-other : {P : Type 0} (words : List (List ℕ)) (verb other : Verb) → verb_of words ≡ verb → verb ≢ other → verb_of words ≡ other → P
asks-other words verb other asks apart is = absurd (apart (sym asks ∙ is))

way-is : (way other : Way) → verb_for way ≡ verb_for other → way ≡ other
way-is Listing Listing e = refl
way-is Assembling Assembling e = refl
way-is Listing Assembling e = let no : ◌≡◌ {A = Verb} ToList ToAssemble = e in absurd (cc)
way-is Assembling Listing e = let no : ◌≡◌ {A = Verb} ToAssemble ToList = e in absurd (cc)

-- words of another command are those of no conversion
pub converts-not : {P : Type 0} (way : Way) (words : List (List ℕ)) (verb : Verb) → verb_of words ≡ verb → verb ≢ ToList → verb ≢ ToAssemble → verb_of words ≡ verb_for way → P
converts-not Listing words verb asks list asm is = asks-other words verb ToList asks list is
converts-not Assembling words verb asks list asm is = asks-other words verb ToAssemble asks asm is

pub promise-converted : (tells : Role → Bool) (before mid now : Meanings) (words : List (List ℕ)) (way : Way) (status result : Status) → verb_of words ≡ verb_for way → bad_word words ≡ None → ConversionEnds tells before mid way (paths_of words) status → LeavesBut (Notes ∷ []) mid now → IsTold (tells Notes) status result mid now → Promise tells before now words result
promise-converted tells before mid now words way status result asks right ends leaves is =
    let a = after tells before mid now way (paths_of words) leaves ends.untold ends.stage status result ends.at ends.of_conversion (told-since status result before mid now ends.untold is) in
    record {
      usage = a.usage ∙ sym right;
      unasked = right-some (bad_word words) right;
      ends = λ run none. converts-not way words ToRun run (λ e. cc) (λ e. cc) asks;
      makes = λ make none. converts-not way words ToMake make (λ e. cc) (λ e. cc) asks;
      converts = λ other asked none. subst (λ (w : Way). (stage : Stage) × ConvertsAt tells before now w (paths_of words) stage result) (way-is way other (sym asks ∙ asked)) (a.stage, a.at);
      traces = λ trace none. converts-not way words ToTrace trace (λ e. cc) (λ e. cc) asks;
      noted = λ tell. subst (λ (verb : Verb). NotedBy result (HasBegunFor verb words) before now) (sym asks) (noted-for way result (a.noted tell));
      later = λ role. let first = ends.later role in let then = leaves.later role in omega (arith, first, then);
    }
  where
    noted-for : (w : Way) (status : Status) → NotedBy status (HasBegunCount w) before now → NotedBy status (HasBegunFor (verb_for w) words) before now
    noted-for Listing status h = h
    noted-for Assembling status h = h

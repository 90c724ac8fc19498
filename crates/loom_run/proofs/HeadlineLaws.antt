-- What the promise gives of a run that answers Done or Quit.
use Rattle.std.proofs.Common.{◌≡◌, ℕ, ◌≤◌, ◌++◌, Bool, List, None, Some, length, true, IsTrue, refl, sym, ◌∙◌, ap, subst}
use Rattle.loom_host.specs.Outside.{RoleState}
use Rattle.loom_host.specs.declared.outside.Role.{Role}
use Rattle.loom_host.specs.declared.outside.Role.TheVariants.{Image, Events, Work, Saved, Display, Transcript}
use Rattle.blue_model.specs.declared.step.Step.{Step}
use Rattle.blue_model.specs.declared.step.Step.TheVariants.{Next, Quit}
use Rattle.image_format.specs.declared.opening.ImageHead.{ImageHead}
use Rattle.image_format.proofs.ImageLaws.{same_image}
use Rattle.event_file.proofs.OneReading.{one-list}
use Rattle.blue_model.specs.Machine.{Machine}
use Rattle.blue_model.specs.Cycle.{Ending, Parked, Stuck, ending}
use Rattle.blue_model.specs.Endings.{IsParkedBy, OnDrawn, OnParked, said_in}
use Rattle.blue_model.specs.Logs.{AreWithin, rows_of_bytecode}
use Rattle.blue_model.specs.State.{State}
use Rattle.blue_model.specs.declared.event.Line.{Line}
use Rattle.blue_model.proofs.LargestLaws.{whole_within, within_more}
use Rattle.long_names.specs.Heap.{Heap}
use Rattle.machine_run.specs.States.{model_state}
use Rattle.loom_run.specs.Ends.{IsWhole, MadeBy, ReadsAt, RunOf, RunsTo, WrittenBy, bytes_of, image_of}
use Rattle.loom_run.specs.Headline.{HasHeadline, HasSmall, HeadlineBy, IsSameRun, SmallBy, TellsHeadline}
use Rattle.loom_run.specs.Meanings.{Meanings}
use Rattle.loom_run.specs.Parts.{IsFinished}
use Rattle.loom_run.specs.Promise.{EndsAt, Promise}
use Rattle.loom_run.specs.Stages.{Stage, Opening, Reading, Listening, Making, Running, Finishing, Saving, Drawing, Telling, Ends}
use Rattle.loom_words.specs.Words.{Row, ToRun, bad_word, row_of, verb_of}
use Rattle.loom_words.specs.declared.status.Status.{Status}
use Rattle.loom_words.specs.declared.status.Status.TheVariants as answer

-- Done and Quit come at the last stage alone
pub done-last : (stage : Stage) (ran : ℕ) → Ends stage (answer.Done ran) → stage ≡ Telling
done-last Opening ran h = absurd h
done-last Reading ran h = absurd h
done-last Listening ran h = absurd h
done-last Making ran h = absurd h
done-last Running ran h = absurd h
done-last Finishing ran h = absurd h
done-last Saving ran h = absurd h
done-last Drawing ran h = absurd h
done-last Telling ran h = refl

pub quit-last : (stage : Stage) (ran : ℕ) → Ends stage (answer.Quit ran) → stage ≡ Telling
quit-last Opening ran h = absurd h
quit-last Reading ran h = absurd h
quit-last Listening ran h = absurd h
quit-last Making ran h = absurd h
quit-last Running ran h = absurd h
quit-last Finishing ran h = absurd h
quit-last Saving ran h = absurd h
quit-last Drawing ran h = absurd h
quit-last Telling ran h = refl

-- Made comes at none, nor do Listed and Assembled
pub made-never : {P : Type 0} (stage : Stage) (objects : ℕ) → Ends stage (answer.Made objects) → P
made-never Opening objects h = absurd h
made-never Reading objects h = absurd h
made-never Listening objects h = absurd h
made-never Making objects h = absurd h
made-never Running objects h = absurd h
made-never Finishing objects h = absurd h
made-never Saving objects h = absurd h
made-never Drawing objects h = absurd h
made-never Telling objects h = absurd h

pub listed-never : {P : Type 0} (stage : Stage) (objects : ℕ) → Ends stage (answer.Listed objects) → P
listed-never Opening objects h = absurd h
listed-never Reading objects h = absurd h
listed-never Listening objects h = absurd h
listed-never Making objects h = absurd h
listed-never Running objects h = absurd h
listed-never Finishing objects h = absurd h
listed-never Saving objects h = absurd h
listed-never Drawing objects h = absurd h
listed-never Telling objects h = absurd h

pub assembled-never : {P : Type 0} (stage : Stage) (objects : ℕ) → Ends stage (answer.Assembled objects) → P
assembled-never Opening objects h = absurd h
assembled-never Reading objects h = absurd h
assembled-never Listening objects h = absurd h
assembled-never Making objects h = absurd h
assembled-never Running objects h = absurd h
assembled-never Finishing objects h = absurd h
assembled-never Saving objects h = absurd h
assembled-never Drawing objects h = absurd h
assembled-never Telling objects h = absurd h

-- what was made of a role is whole
pub made-whole : (text bytes : List ℕ) (a b : RoleState) → MadeBy true text bytes a b → IsWhole bytes b
made-whole text bytes a b made = record {
  put = ap (λ (s : RoleState). s.put) made.2 ∙ made.1.put;
  ended = ap (λ (s : RoleState). s.ended) made.2 ∙ ap (λ (t : List ℕ). Some (length t)) made.1.put;
}

-- a run that was parked, and what was written of it
module _ (tells : Role → Bool) (before now : Meanings) (row : Row) (status : Status) (told : TellsHeadline tells) (ran : ℕ) (end : Step) where
  abbrev Reads : Type 0
  Reads = ReadsAt tells now row Telling status

  parked : Reads → (r : RunOf (bytes_of (now.roles Image)) (bytes_of (now.roles Events)) row.steps (RunsTo tells before now row Telling status)) (e : Ending) → ending r.lines row.steps (model_state r.head.state) r.heap ≡ e → IsParkedBy end ran e → (now.roles Transcript).put ≡ (before.roles Transcript).put ++ said_in e
      → OnParked e (λ m. MadeBy true row.saved (image_of m) (before.roles Saved) (now.roles Saved)) → OnDrawn e (λ picture. WrittenBy true row.display picture (before.roles Display) (now.roles Display)) → HasHeadline before now row end ran
  parked reads r (Stuck why count said) same by says saves draws = absurd by
  parked reads r (Parked last machine picture) same by says saves draws = (
    r.head,
    r.heap,
    r.lines,
    machine,
    picture,
    record {
      read = reads.whole_image told.image refl;
      files = record {
        events = reads.whole_events told.events refl;
        work = reads.named_work told.work refl;
        saved = ap (λ (s : RoleState). s.name) saves.2 ∙ saves.1.name;
        display = draws.name;
      };
      image = r.is;
      events = r.list;
      ending = same ∙ ap (λ (s : Step). Parked s machine picture) by.0;
      count = by.1;
      transcript = says;
      saved = made-whole row.saved (image_of machine) (before.roles Saved) (now.roles Saved) saves;
      display = draws.put;
    },
  )

  of-run : Reads → (r : RunOf (bytes_of (now.roles Image)) (bytes_of (now.roles Events)) row.steps (RunsTo tells before now row Telling status)) → IsParkedBy end ran (ending r.lines row.steps (model_state r.head.state) r.heap) → HasHeadline before now row end ran
  of-run reads r by = parked reads r (ending r.lines row.steps (model_state r.head.state) r.heap) refl by (r.run.said told.transcript refl) (r.run.saves told.saved refl) (r.run.draws told.display refl)

at-end : {tells : Role → Bool} {before now : Meanings} {row : Row} {status : Status} (stage : Stage) → EndsAt tells before now row stage status → stage ≡ Telling → EndsAt tells before now row Telling status
at-end {tells} {before} {now} {row} {status} stage at same = subst (λ s. EndsAt tells before now row s status) same at

-- an answer that isn't Usage says that the words are right
pub headline_from : (tells : Role → Bool) (before now : Meanings) (words : List (List ℕ)) (result : Status) → Promise tells before now words result → TellsHeadline tells → verb_of words ≡ ToRun → HeadlineBy result before now (row_of words)
headline_from tells before now words (answer.Done ran) p told asks =
    let e = p.ends asks (sym p.usage) in
    let at = at-end e.0 e.1 (done-last e.0 ran e.1.answer) in
    let r = at.run told.image told.events told.work refl in
    of-run tells before now (row_of words) (answer.Done ran) told ran Next at.reads r (r.run.goes refl)
headline_from tells before now words (answer.Quit ran) p told asks =
    let e = p.ends asks (sym p.usage) in
    let at = at-end e.0 e.1 (quit-last e.0 ran e.1.answer) in
    let r = at.run told.image told.events told.work refl in
    of-run tells before now (row_of words) (answer.Quit ran) told ran Quit at.reads r (r.run.goes refl)
headline_from tells before now words _ p told asks = tt

-- ---- two runs

-- The bytes that were read, and how many bytecodes were to be run, determine what was written.
module _ (old new before now : Meanings) (row other : Row) (image : bytes_of (new.roles Image) ≡ bytes_of (now.roles Image)) (events : bytes_of (new.roles Events) ≡ bytes_of (now.roles Events)) (steps : row.steps ≡ other.steps) where
  same-ending : (end last : Step) (ran count : ℕ) (a : HasHeadline old new row end ran) (b : HasHeadline before now other last count) → Parked end a.3 a.4 ≡ Parked last b.3 b.4
  same-ending end last ran count a b =
      let g = a.5 in
      let h = b.5 in
      let one = same_image a.1 b.1 a.0 b.0 g.image.is h.image.is g.image.of_heap h.image.of_heap (sym g.image.text ∙ image ∙ h.image.text) in
      let list = one-list a.2 b.2 g.events.0.lines_are h.events.0.lines_are (sym g.events.1 ∙ events ∙ h.events.1) in
      sym g.ending
      ∙ ap (λ (l : List Line). ending l row.steps (model_state a.0.state) a.1) list
      ∙ ap (λ n. ending b.2 n (model_state a.0.state) a.1) steps
      ∙ ap (λ (x : ImageHead). ending b.2 other.steps (model_state x.state) a.1) one.1
      ∙ ap (λ (k : Heap). ending b.2 other.steps (model_state b.0.state) k) one.0
      ∙ h.ending

  same-run : (end last : Step) (ran count : ℕ) (result status : Status) → (end ≡ last → ran ≡ count → result ≡ status) → HasHeadline old new row end ran → HasHeadline before now other last count → IsSameRun old new before now result status
  same-run end last ran count result status answers a b =
      let same = same-ending end last ran count a b in
      let ends : end ≡ last = cc in
      let machine : a.3 ≡ b.3 = cc in
      let picture : a.4 ≡ b.4 = cc in
      let g = a.5 in
      let h = b.5 in
      record {
        answer = answers ends (sym g.count ∙ ap (λ (m : Machine). m.cpu.ran) machine ∙ h.count);
        said = a.3.transcript;
        first_said = g.transcript;
        second_said = h.transcript ∙ ap (λ (m : Machine). (before.roles Transcript).put ++ m.transcript) (sym machine);
        saved = g.saved.put ∙ ap image_of machine ∙ sym h.saved.put;
        ended = g.saved.ended ∙ ap (λ (m : Machine). Some (length (image_of m))) machine ∙ sym h.saved.ended;
        display = g.display ∙ picture ∙ sym h.display;
      }

  pub headline-determines : (result status : Status) → IsFinished result → IsFinished status → HeadlineBy result old new row → HeadlineBy status before now other → IsSameRun old new before now result status
  headline-determines (answer.Done ran) (answer.Done count) f s a b = same-run Next Next ran count (answer.Done ran) (answer.Done count) (λ ends counts. ap answer.Done counts) a b
  headline-determines (answer.Quit ran) (answer.Quit count) f s a b = same-run Quit Quit ran count (answer.Quit ran) (answer.Quit count) (λ ends counts. ap answer.Quit counts) a b
  headline-determines (answer.Done ran) (answer.Quit count) f s a b = same-run Next Quit ran count (answer.Done ran) (answer.Quit count) (λ ends counts. absurd (let no : ◌≡◌ {A = Step} Next Quit = ends in cc)) a b
  headline-determines (answer.Quit ran) (answer.Done count) f s a b = same-run Quit Next ran count (answer.Quit ran) (answer.Done count) (λ ends counts. absurd (let no : ◌≡◌ {A = Step} Quit Next = ends in cc)) a b
  headline-determines (answer.Done ran) _ f s a b = absurd s
  headline-determines (answer.Quit ran) _ f s a b = absurd s
  headline-determines _ status f s a b = absurd f

-- ---- what the run made

small-rows : (words : ℕ) (lines : List Line) (steps : ℕ) (state : State) (h : Heap) (e : Ending) → ending lines steps state h ≡ e → OnParked e (λ m. m.largest ≤ words) → (k : ℕ) → AreWithin words (rows_of_bytecode lines steps state h k)
small-rows words lines steps state h (Parked end m picture) is few k = within_more m.largest words (rows_of_bytecode lines steps state h k) few (whole_within lines steps k state h end m picture is)
small-rows words lines steps state h (Stuck why count said) is few k = absurd few

small-of : {tells : Role → Bool} {before now : Meanings} {row : Row} {status : Status} → RunOf (bytes_of (now.roles Image)) (bytes_of (now.roles Events)) row.steps (RunsTo tells before now row Telling status) → HasSmall now row
small-of {tells} {before} {now} {row} {status} r = record {
  head = r.head;
  heap = r.heap;
  is = r.is;
  lines = r.lines;
  list = r.list;
  run = small-rows row.core r.lines row.steps (model_state r.head.state) r.heap (ending r.lines row.steps (model_state r.head.state) r.heap) refl (r.run.fits refl);
}

pub small_from : (tells : Role → Bool) (before now : Meanings) (words : List (List ℕ)) (result : Status) → IsTrue (tells Image) → IsTrue (tells Events) → IsTrue (tells Work) → Promise tells before now words result → verb_of words ≡ ToRun → bad_word words ≡ None → SmallBy result now (row_of words)
small_from tells before now words (answer.Done ran) image events work p asks right =
    let e = p.ends asks right in
    small-of ((at-end e.0 e.1 (done-last e.0 ran e.1.answer)).run image events work refl)
small_from tells before now words (answer.Quit ran) image events work p asks right =
    let e = p.ends asks right in
    small-of ((at-end e.0 e.1 (quit-last e.0 ran e.1.answer)).run image events work refl)
small_from tells before now words _ image events work p asks right = tt

-- What the promise gives of a guarded or a resumed run that answers Done or Quit.
use Rattle.std.proofs.Common.{◌≡◌, ℕ, ◌≤◌, ◌++◌, Bool, true, false, cond, ltb, List, length, length-append, Option, None, Some, IsTrue, inl, inr, refl, sym, ◌∙◌, ap, subst, arith}
use Rattle.std.proofs.lemmas.Bool.{false≢true}
use Rattle.std.specs.Prelude.{IfSome, IsSome}
use Rattle.loom_host.specs.Outside.{RoleState}
use Rattle.loom_host.specs.declared.outside.Role.{Role}
use Rattle.loom_host.specs.declared.outside.Role.TheVariants.{Image, Events, Work, Saved, Display, Transcript}
use Rattle.blue_model.specs.declared.step.Step.{Step}
use Rattle.blue_model.specs.declared.step.Step.TheVariants.{Next, Quit}
use Rattle.blue_model.specs.Cycle.{Ending, Parked, Stuck}
use Rattle.blue_model.specs.Endings.{IsParkedBy, OnDrawn, OnParked, said_in}
use Rattle.machine_run.specs.States.{model_state}
use Rattle.checkpoint.specs.History.{HasSerial, Keeps, serial_in}
use Rattle.checkpoint.specs.Keeping.{HasSame, serial_of}
use Rattle.checkpoint.specs.Layout.{found, gate_in, image_in, is_open, later_of, point_of}
use Rattle.checkpoint.specs.Vault.{Extends, MayLeave, VaultState, contents_of}
use Rattle.checkpoint.specs.declared.point.Point.{Point}
use Rattle.checkpoint.proofs.HistoryLaws.{keeps-gives}
use Rattle.checkpoint.proofs.LayoutLaws.{closed-serial}
use Rattle.checkpoint.proofs.MomentLaws.{moment-all}
use Rattle.guarded_run.specs.Course.{guarded_course}
use Rattle.loom_words.specs.Kept.{Else, ToGuard, ToResume, bad_kept, guard_row_of, kept_verb_of, resume_row_of}
use Rattle.loom_words.specs.Status.{usage_of}
use Rattle.loom_words.specs.Words.{Row, ToRun, row_of, verb_of}
use Rattle.loom_words.specs.declared.status.Status.{Status}
use Rattle.loom_words.specs.declared.status.Status.TheVariants as answer
use Rattle.loom_run.specs.Ends.{MadeBy, RunsTo, WrittenBy, bytes_of, image_of}
use Rattle.loom_run.specs.Headline.{HeadlineBy, TellsHeadline}
use Rattle.loom_run.specs.Meanings.{Meanings}
use Rattle.loom_run.specs.Stages.{Stage, Running, Telling}
use Rattle.loom_run.proofs.HeadlineLaws.{done-last, headline_from, made-whole, quit-last}
use Rattle.loom_guard.specs.Checkpoints.{IsCheckpointOf}
use Rattle.loom_guard.specs.Headline.{GuardedHeadlineBy, HasCheckpoint, HasGuardedHeadline, HasResumedHeadline, ResumedHeadlineBy, TellsGuarded}
use Rattle.loom_guard.specs.Promise.{GuardComes, GuardedOf, KeptAt, KeptEnds, KeptPromise}
use Rattle.loom_guard.specs.Vaults.{HasLast, IsVaultFault, VaultMeanings}
use Rattle.loom_guard.specs.Ways.{Way, Guarding, Resuming, image_by, is_told, tells_by, verb_by}
use Rattle.loom_guard.proofs.CompletesKept.{image-kept}
use Rattle.loom_guard.proofs.LastLine.{no-else}
use Rattle.loom_guard.proofs.StatusLaws.{ends-plain}
use Rattle.loom_guard.proofs.WayLaws.{by-told}

-- ---- which checkpoint a vault has

-- the checkpoint that a gate says
abbrev point-in : List ℕ → ℕ → Point
point-in bytes s = record { serial = (gate_in bytes s).serial; len = (gate_in bytes s).len }

point-none : (bytes : List ℕ) (s : ℕ) (b : Bool) → is_open (gate_in bytes s) ≡ b → serial_of (cond b (Some (point-in bytes s)) None) ≡ 0 → ◌≡◌ {A = Option Point} (cond b (Some (point-in bytes s)) None) None
point-none bytes s true opened zero = absurd (false≢true (sym (closed-serial (gate_in bytes s) zero) ∙ opened))
point-none bytes s false opened zero = refl

later-none : (p q : Option Point) → (serial_of p ≡ 0 → p ≡ None) → (serial_of q ≡ 0 → q ≡ None) → serial_of (later_of p q) ≡ 0 → later_of p q ≡ None
later-none None q first second zero = second zero
later-none (Some p) None first second zero = first zero
later-none (Some p) (Some q) first second zero = go (ltb p.serial q.serial) zero
  where
    go : (b : Bool) → serial_of (Some (cond b q p)) ≡ 0 → Some (cond b q p) ≡ None
    go true z = second z
    go false z = first z

-- no checkpoint has the serial 0
found-none : (bytes : List ℕ) → serial_in bytes ≡ 0 → found bytes ≡ None
found-none bytes zero = later-none (point_of (gate_in bytes 0)) (point_of (gate_in bytes 1)) (point-none bytes 0 (is_open (gate_in bytes 0)) refl) (point-none bytes 1 (is_open (gate_in bytes 1)) refl) zero

serial-is : (old : List ℕ) (IsImage : ℕ → List ℕ → Type 0) (n : ℕ) (bytes : List ℕ) → HasSerial old IsImage n bytes → serial_in bytes ≡ n
serial-is old IsImage n bytes (inl same) = ap serial_of same.1.found_is ∙ sym same.0
serial-is old IsImage n bytes (inr next) = ap serial_of next.1.found_is ∙ next.1.serial_is

module _ (image events : List ℕ) (steps first : ℕ) (start new : VaultState) (serial : ℕ) (begins : serial_in (contents_of start) ≡ first) (began : IfSome (found (contents_of start)) (λ point. image_in (contents_of start) point ≡ image)) (last : HasLast new serial) where
  abbrev Has : ℕ → Type 0
  Has n = HasSerial (contents_of start) (IsCheckpointOf image events steps first) n (contents_of new)

  by-serial : (n : ℕ) → Has n → Has serial
  by-serial n has = subst Has (sym (serial-is (contents_of start) (IsCheckpointOf image events steps first) n (contents_of new) has) ∙ last.has) has

  settled : (n : ℕ) → Keeps start new n (IsCheckpointOf image events steps first) → Has serial
  settled n keeps = elim (keeps.leaves (length new.calls) (longer keeps.extends) (contents_of new) (subst (λ (m : VaultState). MayLeave m (contents_of new)) (sym (moment-all (length new.calls) new (omega arith))) (λ i synced. refl))) [
    | inl has ↦ by-serial _ has
    | inr has ↦ by-serial _ has
  ]
    where
      longer : Extends start new → length start.calls ≤ length new.calls
      longer e = let long = ap (λ (s : VaultState). length s.calls) e.is ∙ length-append start.calls e.more in omega arith

  same-image : HasSame (contents_of start) (contents_of new) → IfSome (found (contents_of new)) (λ point. image_in (contents_of new) point ≡ image)
  same-image same = subst (λ (o : Option Point). IfSome o (λ point. image_in (contents_of new) point ≡ image)) (sym same.found_is) (go (found (contents_of start)) same.image began)
    where
      go : (o : Option Point) → IfSome o (λ point. image_in (contents_of new) point ≡ image_in (contents_of start) point) → IfSome o (λ point. image_in (contents_of start) point ≡ image) → IfSome o (λ point. image_in (contents_of new) point ≡ image)
      go None x y = tt
      go (Some point) x y = x ∙ y

  checkpoint-by : Has serial → HasCheckpoint image events steps first new serial
  checkpoint-by (inl here) = record {
    last = last;
    kept = λ above. absurd (let at = here.0 in omega (arith, above, at, begins));
    same = λ is. same-image here.1;
    none = λ zero. found-none (contents_of new) (last.has ∙ zero);
  }
  checkpoint-by (inr next) = record {
    last = last;
    kept = λ above. (next.1.point, next.1.found_is, next.1.text);
    same = λ is. absurd (let above = next.0 in omega (arith, is, above, begins));
    none = λ zero. found-none (contents_of new) (last.has ∙ zero);
  }

  pub has-checkpoint : (n : ℕ) → Keeps start new n (IsCheckpointOf image events steps first) → HasCheckpoint image events steps first new serial
  has-checkpoint n keeps = checkpoint-by (settled n keeps)

-- ---- a run that went through

module _ (way : Way) (tells : Role → Bool) (told shown : Bool) (before now : Meanings) (old new : VaultMeanings) (row : Row) (tell : TellsGuarded tells) (is : IsTrue (is_told way tells told)) (tells_vault : IsTrue shown → IsTrue told) (image : List ℕ) (first : ℕ) where
  abbrev At : Stage → Status → Type 0
  At stage status = (at : KeptAt way tells told before now old new row stage status) × (image_by way now at.start at.point ≡ image) × (serial_of at.point ≡ first)

  abbrev Ran : Status → ℕ → Type 0
  Ran status last = GuardedOf image (bytes_of (now.roles Events)) row.steps first (GuardComes tells before now row Telling last status)

  at-last : (stage : Stage) (status : Status) → At stage status → stage ≡ Telling → At Telling status
  at-last stage status x same = subst (λ s. At s status) same x

  ran-at : (status : Status) → (x : At Telling status) → Ran status x.0.last
  ran-at status x =
      subst (λ n. GuardedOf image (bytes_of (now.roles Events)) row.steps n (GuardComes tells before now row Telling x.0.last status)) x.2
      (subst (λ (bytes : List ℕ). GuardedOf bytes (bytes_of (now.roles Events)) row.steps (serial_of x.0.point) (GuardComes tells before now row Telling x.0.last status)) x.1 (x.0.run is tell.events tell.work refl))

  -- the vault's checkpoint, by what stops leave
  module _ (status : Status) (x : At Telling status) (telling : IsTrue told) where
    began-with : (w : Way) (point : Option Point) → (w ≡ Guarding → point ≡ None) → image_by w now x.0.start point ≡ image → IfSome point (λ p. image_in (contents_of x.0.start) p ≡ image)
    began-with Guarding point none same = subst (λ (o : Option Point). IfSome o (λ p. image_in (contents_of x.0.start) p ≡ image)) (sym (none refl)) tt
    began-with Resuming None none same = tt
    began-with Resuming (Some p) none same = same

    kept-at : (serial : ℕ) → HasLast new.state serial → HasCheckpoint image (bytes_of (now.roles Events)) row.steps first new.state serial
    kept-at serial last =
        let found_is = (x.0.starts telling).last.found_is in
        has-checkpoint image (bytes_of (now.roles Events)) row.steps first x.0.start new.state serial (ap serial_of found_is ∙ x.2)
        (subst (λ (o : Option Point). IfSome o (λ p. image_in (contents_of x.0.start) p ≡ image)) (sym found_is) (began-with way x.0.point x.0.none x.1)) last x.0.last
        (keeps-gives x.0.start new.state x.0.last _ (IsCheckpointOf image (bytes_of (now.roles Events)) row.steps first) (λ n bytes kept.
        subst (λ k. IsCheckpointOf image (bytes_of (now.roles Events)) row.steps k n bytes) x.2
        (subst (λ (i : List ℕ). IsCheckpointOf i (bytes_of (now.roles Events)) row.steps (serial_of x.0.point) n bytes) x.1 (kept is tell.events tell.work))) (x.0.stops telling))

  read-image : (w : Way) → IsTrue (is_told w tells told) → w ≡ Guarding → IsTrue (tells_by w tells Image)
  read-image Guarding known e = known
  read-image Resuming known e = absurd (cc)

  module _ (status : Status) (fault : IsVaultFault status → ⊥) (x : At Telling status) (ran : ℕ) (end : Step) where
    parked : (r : Ran status x.0.last) (e : Ending) → (guarded_course r.lines row.steps first (model_state r.head.state) r.heap).ending ≡ e → IsParkedBy end ran e → (now.roles Transcript).put ≡ (before.roles Transcript).put ++ said_in e
        → OnParked e (λ m. MadeBy true row.saved (image_of m) (before.roles Saved) (now.roles Saved)) → OnDrawn e (λ picture. WrittenBy true row.display picture (before.roles Display) (now.roles Display))
        → HasGuardedHeadline way image first shown before now new.state row end ran
    parked r (Stuck why count said) same by says saves draws = absurd by
    parked r (Parked last machine picture) same by says saves draws = (
      r.head,
      r.heap,
      r.lines,
      machine,
      picture,
      record {
        read = λ guarding. x.0.reads.whole_image (read-image way is guarding) refl;
        files = record {
          events = x.0.reads.whole_events (by-told way tells Events (λ e. cc) tell.events) refl;
          work = x.0.reads.named_work (by-told way tells Work (λ e. cc) tell.work) refl;
          saved = ap (λ (s : RoleState). s.name) saves.2 ∙ saves.1.name;
          display = draws.name;
        };
        began = r.is;
        events = r.list;
        ending = same ∙ ap (λ (s : Step). Parked s machine picture) by.0;
        count = by.1;
        transcript = says;
        saved = made-whole row.saved (image_of machine) (before.roles Saved) (now.roles Saved) saves;
        display = draws.put;
        kept = λ shows. kept-at status x (tells_vault shows) _ (subst (HasLast new.state) (sym (r.run.1.through refl)) (x.0.stays (tells_vault shows) fault));
      },
    )

    of-parked : (r : Ran status x.0.last) → RunsTo tells before now row Telling status (guarded_course r.lines row.steps first (model_state r.head.state) r.heap)
        → IsParkedBy end ran (guarded_course r.lines row.steps first (model_state r.head.state) r.heap).ending → HasGuardedHeadline way image first shown before now new.state row end ran
    of-parked r y by = parked r (guarded_course r.lines row.steps first (model_state r.head.state) r.heap).ending refl by (y.said tell.transcript refl) (y.saves tell.saved refl) (y.draws tell.display refl)

  -- there is no want of memory behind the machine
  ran-through : (status : Status) (last : ℕ) (r : Ran status last) → RunsTo tells before now row Telling status (guarded_course r.lines row.steps first (model_state r.head.state) r.heap)
  ran-through status last r = elim r.run.0 [
    | inl y ↦ y
    | inr wants ↦ (let no : ◌≡◌ {A = Stage} Telling Running = wants.0 in absurd (cc))
  ]

  pub done-headline : (stage : Stage) (ran : ℕ) → At stage (answer.Done ran) → HasGuardedHeadline way image first shown before now new.state row Next ran
  done-headline stage ran x =
      let last = at-last stage (answer.Done ran) x (done-last stage ran (ends-plain stage (answer.Done ran) (λ count e. cc) x.0.answer)) in
      let r = ran-at (answer.Done ran) last in
      let through = ran-through (answer.Done ran) last.0.last r in
      of-parked (answer.Done ran) (λ f. f) last ran Next r through (through.goes refl)

  pub quit-headline : (stage : Stage) (ran : ℕ) → At stage (answer.Quit ran) → HasGuardedHeadline way image first shown before now new.state row Quit ran
  quit-headline stage ran x =
      let last = at-last stage (answer.Quit ran) x (quit-last stage ran (ends-plain stage (answer.Quit ran) (λ count e. cc) x.0.answer)) in
      let r = ran-at (answer.Quit ran) last in
      let through = ran-through (answer.Quit ran) last.0.last r in
      of-parked (answer.Quit ran) (λ f. f) last ran Quit r through (through.goes refl)

-- ---- by the promise

-- of other commands it is that of `loom`
pub else-headline : (tells : Role → Bool) (told : Bool) (before now : Meanings) (old new : VaultMeanings) (words : List (List ℕ)) (result : Status) → KeptPromise tells told before now old new words result → TellsHeadline tells → kept_verb_of words ≡ Else → verb_of words ≡ ToRun → HeadlineBy result before now (row_of words)
else-headline tells told before now old new words result p tell other asks = headline_from tells before now words result (p.others other).0 tell asks

module _ (tells : Role → Bool) (told : Bool) (before now : Meanings) (old new : VaultMeanings) (words : List (List ℕ)) (tell : TellsGuarded tells) where
  -- an answer that isn't Usage says that the words are right
  right-words : (way : Way) (result : Status) → KeptPromise tells told before now old new words result → kept_verb_of words ≡ verb_by way → usage_of result ≡ None → bad_kept words ≡ None
  right-words way result p asks none = sym (p.usage (λ other. no-else way (sym asks ∙ other))) ∙ none

  module _ (image : IsTrue (tells Image)) (asks : kept_verb_of words ≡ ToGuard) where
    guarded-done : (ran : ℕ) → KeptEnds Guarding tells told before now old new (guard_row_of words) (answer.Done ran) → HasGuardedHeadline Guarding (bytes_of (now.roles Image)) 0 told before now new.state (guard_row_of words) Next ran
    guarded-done ran (inl refused) = absurd refused.0.refuses
    guarded-done ran (inr at) = done-headline Guarding tells told told before now old new (guard_row_of words) tell image (λ t. t) (bytes_of (now.roles Image)) 0 at.0 ran (at.1, refl, ap serial_of (at.1.none refl))

    guarded-quit : (ran : ℕ) → KeptEnds Guarding tells told before now old new (guard_row_of words) (answer.Quit ran) → HasGuardedHeadline Guarding (bytes_of (now.roles Image)) 0 told before now new.state (guard_row_of words) Quit ran
    guarded-quit ran (inl refused) = absurd refused.0.refuses
    guarded-quit ran (inr at) = quit-headline Guarding tells told told before now old new (guard_row_of words) tell image (λ t. t) (bytes_of (now.roles Image)) 0 at.0 ran (at.1, refl, ap serial_of (at.1.none refl))

    pub guarded-headline : (result : Status) → KeptPromise tells told before now old new words result → GuardedHeadlineBy result (bytes_of (now.roles Image)) told before now new.state (guard_row_of words)
    guarded-headline (answer.Done ran) p = guarded-done ran (p.ends Guarding asks (right-words Guarding (answer.Done ran) p asks refl))
    guarded-headline (answer.Quit ran) p = guarded-quit ran (p.ends Guarding asks (right-words Guarding (answer.Quit ran) p asks refl))
    guarded-headline _ p = tt

  module _ (telling : IsTrue told) (asks : kept_verb_of words ≡ ToResume) where
    some-point : (o : Option Point) → IsSome o → (point : Point) × (o ≡ Some point)
    some-point None some = let no : ◌≡◌ {A = Bool} false true = some in absurd (cc)
    some-point (Some point) some = (point, refl)

    resumed-done : (ran : ℕ) → KeptEnds Resuming tells told before now old new (resume_row_of words) (answer.Done ran) → HasResumedHeadline old.state before now new.state (resume_row_of words) Next ran
    resumed-done ran (inl refused) = absurd refused.0.refuses
    resumed-done ran (inr at) =
        let starts = at.1.starts telling in
        let p = some-point at.1.point starts.from.2 in (
          p.0,
          starts.from.1 ∙ p.1,
          done-headline Resuming tells told true before now old new (resume_row_of words) tell telling (λ t. telling) (image_in (contents_of old.state) p.0) p.0.serial at.0 ran
              (at.1, image-kept now old.state at.1.start at.1.point p.0 p.1 starts.finds.same, ap serial_of p.1),
        )

    resumed-quit : (ran : ℕ) → KeptEnds Resuming tells told before now old new (resume_row_of words) (answer.Quit ran) → HasResumedHeadline old.state before now new.state (resume_row_of words) Quit ran
    resumed-quit ran (inl refused) = absurd refused.0.refuses
    resumed-quit ran (inr at) =
        let starts = at.1.starts telling in
        let p = some-point at.1.point starts.from.2 in (
          p.0,
          starts.from.1 ∙ p.1,
          quit-headline Resuming tells told true before now old new (resume_row_of words) tell telling (λ t. telling) (image_in (contents_of old.state) p.0) p.0.serial at.0 ran
              (at.1, image-kept now old.state at.1.start at.1.point p.0 p.1 starts.finds.same, ap serial_of p.1),
        )

    pub resumed-headline : (result : Status) → KeptPromise tells told before now old new words result → ResumedHeadlineBy result old.state before now new.state (resume_row_of words)
    resumed-headline (answer.Done ran) p = resumed-done ran (p.ends Resuming asks (right-words Resuming (answer.Done ran) p asks refl))
    resumed-headline (answer.Quit ran) p = resumed-quit ran (p.ends Resuming asks (right-words Resuming (answer.Quit ran) p asks refl))
    resumed-headline _ p = tt

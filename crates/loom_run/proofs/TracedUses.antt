-- Which roles a trace has used when it comes to a stage, by what its steps did. As far as events a trace goes as a run.
use Rattle.std.proofs.Common.{◌≡◌, ℕ, Bool, List, [], ◌∷◌, IsTrue, refl, sym, ◌∙◌, ap, subst, arith}
use Rattle.std.specs.Prelude.{IfSome}
use Rattle.loom_host.specs.Outside.{RoleState}
use Rattle.loom_host.specs.declared.outside.Role.{Role}
use Rattle.loom_host.specs.declared.outside.Role.TheVariants.{Image, Events, Work, Saved, Display, Transcript, Notes}
use Rattle.loom_run.specs.Ends.{AttachedOnce}
use Rattle.loom_run.specs.Following.{UsesTrace}
use Rattle.loom_run.specs.Meanings.{IsLeft, LeavesBut, Meanings}
use Rattle.loom_run.specs.Stages.{Opening, Reading, Listening, Making, Running, Telling, reaches, roles_at, Saving}
use Rattle.loom_run.specs.Steps.{IsSameFile, Uses}
use Rattle.loom_run.specs.Traced.{is_untraced, traced_stage, traced_word}
use Rattle.loom_run.specs.Traces.{OnlyPut}
use Rattle.loom_run.proofs.UsesLaws.{attached-file, attached-from, attached-left, left-then, never}
use Rattle.loom_words.specs.Words.{Row}

pub attached-put : (text : List ℕ) (a b c : RoleState) → AttachedOnce text a b → OnlyPut b c → AttachedOnce text a c
attached-put text a b c x only = record {
  attaches = ap (λ (s : RoleState). s.attaches) only ∙ x.attaches;
  name = subst (λ n. IfSome n (λ t. t ≡ text)) (sym (ap (λ (s : RoleState). s.name) only)) x.name;
}

module _ (tells : Role → Bool) (row : Row) where
  -- ---- as far as a run

  pub traced-opening : (a b : Meanings) → Uses tells a b row Opening → UsesTrace tells a b row Opening
  traced-opening a b u = record { attached = attached; named = u.named; unused = unused; untold = u.unused Notes refl; later = u.later }
    where
      attached : (role : Role) → IsTrue (tells role) → IsTrue (reaches (traced_stage role) Opening) → IfSome (traced_word row role) (λ text. AttachedOnce text (a.roles role) (b.roles role))
      attached Image told came = never came
      attached Events told came = never came
      attached Work told came = u.attached Work told refl
      attached Saved told came = never came
      attached Display told came = tt
      attached Transcript told came = tt
      attached Notes told came = tt

      unused : (role : Role) → IsTrue (is_untraced role Opening) → IsLeft role a b
      unused Image none = u.unused Image refl
      unused Events none = u.unused Events refl
      unused Work none = never none
      unused Saved none = u.unused Saved refl
      unused Display none = u.unused Display refl
      unused Transcript none = u.unused Transcript refl
      unused Notes none = never none

  pub traced-reading : (a b : Meanings) → Uses tells a b row Reading → UsesTrace tells a b row Reading
  traced-reading a b u = record { attached = attached; named = u.named; unused = unused; untold = u.unused Notes refl; later = u.later }
    where
      attached : (role : Role) → IsTrue (tells role) → IsTrue (reaches (traced_stage role) Reading) → IfSome (traced_word row role) (λ text. AttachedOnce text (a.roles role) (b.roles role))
      attached Image told came = u.attached Image told refl
      attached Events told came = never came
      attached Work told came = u.attached Work told refl
      attached Saved told came = never came
      attached Display told came = tt
      attached Transcript told came = tt
      attached Notes told came = tt

      unused : (role : Role) → IsTrue (is_untraced role Reading) → IsLeft role a b
      unused Image none = never none
      unused Events none = u.unused Events refl
      unused Work none = never none
      unused Saved none = u.unused Saved refl
      unused Display none = u.unused Display refl
      unused Transcript none = u.unused Transcript refl
      unused Notes none = never none

  pub traced-listening : (a b : Meanings) → Uses tells a b row Listening → UsesTrace tells a b row Listening
  traced-listening a b u = record { attached = attached; named = u.named; unused = unused; untold = u.unused Notes refl; later = u.later }
    where
      attached : (role : Role) → IsTrue (tells role) → IsTrue (reaches (traced_stage role) Listening) → IfSome (traced_word row role) (λ text. AttachedOnce text (a.roles role) (b.roles role))
      attached Image told came = u.attached Image told refl
      attached Events told came = u.attached Events told refl
      attached Work told came = u.attached Work told refl
      attached Saved told came = never came
      attached Display told came = tt
      attached Transcript told came = tt
      attached Notes told came = tt

      unused : (role : Role) → IsTrue (is_untraced role Listening) → IsLeft role a b
      unused Image none = never none
      unused Events none = never none
      unused Work none = never none
      unused Saved none = u.unused Saved refl
      unused Display none = u.unused Display refl
      unused Transcript none = u.unused Transcript refl
      unused Notes none = never none

  -- ---- Saved is attached for the lines

  pub traced-making : (a b c : Meanings) → UsesTrace tells a b row Listening → (IsTrue (tells Saved) → AttachedOnce row.saved (b.roles Saved) (c.roles Saved)) → c.roles Work ≡ b.roles Work → LeavesBut (roles_at Saving) b c → UsesTrace tells a c row Making
  traced-making a b c u own file others = record {
    attached = attached;
    named = λ told past. ap (λ (s : RoleState). s.name) file ∙ u.named told refl;
    unused = unused;
    untold = left-then Notes a b c u.untold (others.others Notes (λ e. cc, (λ e. cc, tt)));
    later = λ r. let first = u.later r in let then = others.later r in omega (arith, first, then);
  }
    where
      attached : (role : Role) → IsTrue (tells role) → IsTrue (reaches (traced_stage role) Making) → IfSome (traced_word row role) (λ text. AttachedOnce text (a.roles role) (c.roles role))
      attached Image told came = attached-left _ _ _ _ (u.attached Image told refl) (others.others Image (λ e. cc, (λ e. cc, tt))).state
      attached Events told came = attached-left _ _ _ _ (u.attached Events told refl) (others.others Events (λ e. cc, (λ e. cc, tt))).state
      attached Work told came = attached-left _ _ _ _ (u.attached Work told refl) file
      attached Saved told came = attached-from _ _ _ _ (u.unused Saved refl).state (own told)
      attached Display told came = tt
      attached Transcript told came = tt
      attached Notes told came = tt

      unused : (role : Role) → IsTrue (is_untraced role Making) → IsLeft role a c
      unused Image none = never none
      unused Events none = never none
      unused Work none = never none
      unused Saved none = never none
      unused Display none = left-then Display a b c (u.unused Display refl) (others.others Display (λ e. cc, (λ e. cc, tt)))
      unused Transcript none = left-then Transcript a b c (u.unused Transcript refl) (others.others Transcript (λ e. cc, (λ e. cc, tt)))
      unused Notes none = never none

  -- ---- the machine runs, and its lines are put

  pub traced-running : (a b c : Meanings) → UsesTrace tells a b row Making → (IsTrue (tells Work) → IsSameFile (b.roles Work) (c.roles Work)) → (IsTrue (tells Saved) → OnlyPut (b.roles Saved) (c.roles Saved)) → LeavesBut (Transcript ∷ Work ∷ Saved ∷ []) b c → UsesTrace tells a c row Running
  traced-running a b c u file only others = record {
    attached = attached;
    named = λ told past. ap (λ (s : RoleState). s.name) (file told) ∙ u.named told refl;
    unused = unused;
    untold = left-then Notes a b c u.untold (others.others Notes (λ e. cc, (λ e. cc, (λ e. cc, tt))));
    later = λ r. let first = u.later r in let then = others.later r in omega (arith, first, then);
  }
    where
      attached : (role : Role) → IsTrue (tells role) → IsTrue (reaches (traced_stage role) Running) → IfSome (traced_word row role) (λ text. AttachedOnce text (a.roles role) (c.roles role))
      attached Image told came = attached-left _ _ _ _ (u.attached Image told refl) (others.others Image (λ e. cc, (λ e. cc, (λ e. cc, tt)))).state
      attached Events told came = attached-left _ _ _ _ (u.attached Events told refl) (others.others Events (λ e. cc, (λ e. cc, (λ e. cc, tt)))).state
      attached Work told came = attached-file _ _ _ _ (u.attached Work told refl) (file told)
      attached Saved told came = attached-put _ _ _ _ (u.attached Saved told refl) (only told)
      attached Display told came = tt
      attached Transcript told came = tt
      attached Notes told came = tt

      unused : (role : Role) → IsTrue (is_untraced role Running) → IsLeft role a c
      unused Image none = never none
      unused Events none = never none
      unused Work none = never none
      unused Saved none = never none
      unused Display none = left-then Display a b c (u.unused Display refl) (others.others Display (λ e. cc, (λ e. cc, (λ e. cc, tt))))
      unused Transcript none = never none
      unused Notes none = never none

  -- ---- Saved is ended

  pub traced-ended : (a b c : Meanings) → UsesTrace tells a b row Running → (IsTrue (tells Saved) → AttachedOnce row.saved (a.roles Saved) (c.roles Saved)) → LeavesBut (Saved ∷ []) b c → UsesTrace tells a c row Running
  traced-ended a b c u own others = record {
    attached = attached;
    named = λ told past. ap (λ (s : RoleState). s.name) (others.others Work (λ e. cc, tt)).state ∙ u.named told refl;
    unused = unused;
    untold = left-then Notes a b c u.untold (others.others Notes (λ e. cc, tt));
    later = λ r. let first = u.later r in let then = others.later r in omega (arith, first, then);
  }
    where
      attached : (role : Role) → IsTrue (tells role) → IsTrue (reaches (traced_stage role) Running) → IfSome (traced_word row role) (λ text. AttachedOnce text (a.roles role) (c.roles role))
      attached Image told came = attached-left _ _ _ _ (u.attached Image told refl) (others.others Image (λ e. cc, tt)).state
      attached Events told came = attached-left _ _ _ _ (u.attached Events told refl) (others.others Events (λ e. cc, tt)).state
      attached Work told came = attached-left _ _ _ _ (u.attached Work told refl) (others.others Work (λ e. cc, tt)).state
      attached Saved told came = own told
      attached Display told came = tt
      attached Transcript told came = tt
      attached Notes told came = tt

      unused : (role : Role) → IsTrue (is_untraced role Running) → IsLeft role a c
      unused Image none = never none
      unused Events none = never none
      unused Work none = never none
      unused Saved none = never none
      unused Display none = left-then Display a b c (u.unused Display refl) (others.others Display (λ e. cc, tt))
      unused Transcript none = never none
      unused Notes none = never none

  -- the last line isn't put yet
  pub traced-telling : (a b : Meanings) → UsesTrace tells a b row Running → UsesTrace tells a b row Telling
  traced-telling a b u = record { attached = attached; named = λ told past. u.named told refl; unused = unused; untold = u.untold; later = u.later }
    where
      attached : (role : Role) → IsTrue (tells role) → IsTrue (reaches (traced_stage role) Telling) → IfSome (traced_word row role) (λ text. AttachedOnce text (a.roles role) (b.roles role))
      attached Image told came = u.attached Image told refl
      attached Events told came = u.attached Events told refl
      attached Work told came = u.attached Work told refl
      attached Saved told came = u.attached Saved told refl
      attached Display told came = tt
      attached Transcript told came = tt
      attached Notes told came = tt

      unused : (role : Role) → IsTrue (is_untraced role Telling) → IsLeft role a b
      unused Image none = never none
      unused Events none = never none
      unused Work none = never none
      unused Saved none = never none
      unused Display none = u.unused Display refl
      unused Transcript none = never none
      unused Notes none = never none

-- Which roles a run has used when it comes to a stage, by what its steps did.
-- `uses-opening` begins, and each of the others takes what was used up to the stage before, and what the step of its own stage did: whether that went
-- through or was refused makes no difference.
use Rattle.std.proofs.Common.{◌≡◌, ℕ, Bool, true, false, List, Some, IsTrue, refl, sym, ◌∙◌, ap, subst, arith}
use Rattle.std.specs.Prelude.{IfSome, IsFalse}
use Rattle.loom_host.specs.Outside.{RoleState}
use Rattle.loom_host.specs.declared.outside.Role.{Role}
use Rattle.loom_host.specs.declared.outside.Role.TheVariants.{Image, Events, Work, Saved, Display, Transcript, Notes}
use Rattle.loom_run.specs.Ends.{AttachedOnce, word_for}
use Rattle.loom_run.specs.Meanings.{Meanings, IsLeft, LeavesBut}
use Rattle.loom_run.specs.Stages.{Opening, Reading, Listening, Making, Running, Finishing, Saving, Drawing, Telling, passes, reaches, roles_at, stage_of}
use Rattle.loom_run.specs.Steps.{IsSameFile, Uses}
use Rattle.loom_words.specs.Words.{Row}

pub never : {P : Type 0} → IsTrue false → P
never e = absurd (cc)

pub always : {P : Type 0} → IsFalse true → P
always e = absurd (cc)

pub left-then : (role : Role) (a b c : Meanings) → IsLeft role a b → IsLeft role b c → IsLeft role a c
left-then role a b c p q = record { state = q.state ∙ p.state; faults = q.faults ∙ p.faults }

pub attached-from : (text : List ℕ) (a b c : RoleState) → b ≡ a → AttachedOnce text b c → AttachedOnce text a c
attached-from text a b c same x = subst (λ s. AttachedOnce text s c) same x

pub attached-left : (text : List ℕ) (a b c : RoleState) → AttachedOnce text a b → c ≡ b → AttachedOnce text a c
attached-left text a b c x same = subst (λ s. AttachedOnce text a s) (sym same) x

pub attached-file : (text : List ℕ) (a b c : RoleState) → AttachedOnce text a b → IsSameFile b c → AttachedOnce text a c
attached-file text a b c x same = record {
  attaches = ap (λ (s : RoleState). s.attaches) same ∙ x.attaches;
  name = subst (λ n. IfSome n (λ t. t ≡ text)) (sym (ap (λ (s : RoleState). s.name) same)) x.name;
}

module _ (tells : Role → Bool) (row : Row) where
  pub uses-opening : (a b : Meanings) → (IsTrue (tells Work) → AttachedOnce row.work (a.roles Work) (b.roles Work)) → LeavesBut (roles_at Opening) a b → Uses tells a b row Opening
  uses-opening a b own others = record { attached = attached; named = named; unused = unused; later = others.later }
    where
      named : IsTrue (tells Work) → IsTrue (passes Opening Opening) → (b.roles Work).name ≡ Some row.work
      named told past = never past

      attached : (role : Role) → IsTrue (tells role) → IsTrue (reaches (stage_of role) Opening) → IfSome (word_for row role) (λ text. AttachedOnce text (a.roles role) (b.roles role))
      attached Image told came = never came
      attached Events told came = never came
      attached Work told came = own told
      attached Saved told came = never came
      attached Display told came = never came
      attached Transcript told came = never came
      attached Notes told came = never came

      unused : (role : Role) → IsFalse (reaches (stage_of role) Opening) → IsLeft role a b
      unused Image none = others.others Image (λ e. cc, tt)
      unused Events none = others.others Events (λ e. cc, tt)
      unused Work none = always none
      unused Saved none = others.others Saved (λ e. cc, tt)
      unused Display none = others.others Display (λ e. cc, tt)
      unused Transcript none = others.others Transcript (λ e. cc, tt)
      unused Notes none = others.others Notes (λ e. cc, tt)

  pub uses-reading : (a b c : Meanings) → Uses tells a b row Opening → (IsTrue (tells Work) → (b.roles Work).name ≡ Some row.work) → (IsTrue (tells Image) → AttachedOnce row.image (b.roles Image) (c.roles Image)) → (IsTrue (tells Work) → IsSameFile (b.roles Work) (c.roles Work)) → LeavesBut (roles_at Reading) b c → Uses tells a c row Reading
  uses-reading a b c u own_work own file others = record { attached = attached; named = named; unused = unused; later = λ r. let first = u.later r in let then = others.later r in omega (arith, first, then) }
    where
      named : IsTrue (tells Work) → IsTrue (passes Opening Reading) → (c.roles Work).name ≡ Some row.work
      named told past = ap (λ (s : RoleState). s.name) (file told) ∙ own_work told

      attached : (role : Role) → IsTrue (tells role) → IsTrue (reaches (stage_of role) Reading) → IfSome (word_for row role) (λ text. AttachedOnce text (a.roles role) (c.roles role))
      attached Image told came = attached-from _ _ _ _ (u.unused Image refl).state (own told)
      attached Events told came = never came
      attached Work told came = attached-file _ _ _ _ (u.attached Work told refl) (file told)
      attached Saved told came = never came
      attached Display told came = never came
      attached Transcript told came = never came
      attached Notes told came = never came

      unused : (role : Role) → IsFalse (reaches (stage_of role) Reading) → IsLeft role a c
      unused Image none = always none
      unused Events none = left-then Events a b c (u.unused Events refl) (others.others Events (λ e. cc, (λ e. cc, tt)))
      unused Work none = always none
      unused Saved none = left-then Saved a b c (u.unused Saved refl) (others.others Saved (λ e. cc, (λ e. cc, tt)))
      unused Display none = left-then Display a b c (u.unused Display refl) (others.others Display (λ e. cc, (λ e. cc, tt)))
      unused Transcript none = left-then Transcript a b c (u.unused Transcript refl) (others.others Transcript (λ e. cc, (λ e. cc, tt)))
      unused Notes none = left-then Notes a b c (u.unused Notes refl) (others.others Notes (λ e. cc, (λ e. cc, tt)))

  pub uses-listening : (a b c : Meanings) → Uses tells a b row Reading → (IsTrue (tells Events) → AttachedOnce row.events (b.roles Events) (c.roles Events)) → LeavesBut (roles_at Listening) b c → Uses tells a c row Listening
  uses-listening a b c u own others = record { attached = attached; named = named; unused = unused; later = λ r. let first = u.later r in let then = others.later r in omega (arith, first, then) }
    where
      named : IsTrue (tells Work) → IsTrue (passes Opening Listening) → (c.roles Work).name ≡ Some row.work
      named told past = ap (λ (s : RoleState). s.name) (others.others Work (λ e. cc, tt)).state ∙ u.named told refl

      attached : (role : Role) → IsTrue (tells role) → IsTrue (reaches (stage_of role) Listening) → IfSome (word_for row role) (λ text. AttachedOnce text (a.roles role) (c.roles role))
      attached Image told came = attached-left _ _ _ _ (u.attached Image told refl) (others.others Image (λ e. cc, tt)).state
      attached Events told came = attached-from _ _ _ _ (u.unused Events refl).state (own told)
      attached Work told came = attached-left _ _ _ _ (u.attached Work told refl) (others.others Work (λ e. cc, tt)).state
      attached Saved told came = never came
      attached Display told came = never came
      attached Transcript told came = never came
      attached Notes told came = never came

      unused : (role : Role) → IsFalse (reaches (stage_of role) Listening) → IsLeft role a c
      unused Image none = always none
      unused Events none = always none
      unused Work none = always none
      unused Saved none = left-then Saved a b c (u.unused Saved refl) (others.others Saved (λ e. cc, tt))
      unused Display none = left-then Display a b c (u.unused Display refl) (others.others Display (λ e. cc, tt))
      unused Transcript none = left-then Transcript a b c (u.unused Transcript refl) (others.others Transcript (λ e. cc, tt))
      unused Notes none = left-then Notes a b c (u.unused Notes refl) (others.others Notes (λ e. cc, tt))

  pub uses-making : (a b c : Meanings) → Uses tells a b row Listening → LeavesBut (roles_at Making) b c → Uses tells a c row Making
  uses-making a b c u others = record { attached = attached; named = named; unused = unused; later = λ r. let first = u.later r in let then = others.later r in omega (arith, first, then) }
    where
      named : IsTrue (tells Work) → IsTrue (passes Opening Making) → (c.roles Work).name ≡ Some row.work
      named told past = ap (λ (s : RoleState). s.name) (others.others Work tt).state ∙ u.named told refl

      attached : (role : Role) → IsTrue (tells role) → IsTrue (reaches (stage_of role) Making) → IfSome (word_for row role) (λ text. AttachedOnce text (a.roles role) (c.roles role))
      attached Image told came = attached-left _ _ _ _ (u.attached Image told refl) (others.others Image tt).state
      attached Events told came = attached-left _ _ _ _ (u.attached Events told refl) (others.others Events tt).state
      attached Work told came = attached-left _ _ _ _ (u.attached Work told refl) (others.others Work tt).state
      attached Saved told came = never came
      attached Display told came = never came
      attached Transcript told came = never came
      attached Notes told came = never came

      unused : (role : Role) → IsFalse (reaches (stage_of role) Making) → IsLeft role a c
      unused Image none = always none
      unused Events none = always none
      unused Work none = always none
      unused Saved none = left-then Saved a b c (u.unused Saved refl) (others.others Saved tt)
      unused Display none = left-then Display a b c (u.unused Display refl) (others.others Display tt)
      unused Transcript none = left-then Transcript a b c (u.unused Transcript refl) (others.others Transcript tt)
      unused Notes none = left-then Notes a b c (u.unused Notes refl) (others.others Notes tt)

  pub uses-running : (a b c : Meanings) → Uses tells a b row Making → (IsTrue (tells Work) → IsSameFile (b.roles Work) (c.roles Work)) → LeavesBut (roles_at Running) b c → Uses tells a c row Running
  uses-running a b c u file others = record { attached = attached; named = named; unused = unused; later = λ r. let first = u.later r in let then = others.later r in omega (arith, first, then) }
    where
      named : IsTrue (tells Work) → IsTrue (passes Opening Running) → (c.roles Work).name ≡ Some row.work
      named told past = ap (λ (s : RoleState). s.name) (file told) ∙ u.named told refl

      attached : (role : Role) → IsTrue (tells role) → IsTrue (reaches (stage_of role) Running) → IfSome (word_for row role) (λ text. AttachedOnce text (a.roles role) (c.roles role))
      attached Image told came = attached-left _ _ _ _ (u.attached Image told refl) (others.others Image (λ e. cc, (λ e. cc, tt))).state
      attached Events told came = attached-left _ _ _ _ (u.attached Events told refl) (others.others Events (λ e. cc, (λ e. cc, tt))).state
      attached Work told came = attached-file _ _ _ _ (u.attached Work told refl) (file told)
      attached Saved told came = never came
      attached Display told came = never came
      attached Transcript told came = tt
      attached Notes told came = never came

      unused : (role : Role) → IsFalse (reaches (stage_of role) Running) → IsLeft role a c
      unused Image none = always none
      unused Events none = always none
      unused Work none = always none
      unused Saved none = left-then Saved a b c (u.unused Saved refl) (others.others Saved (λ e. cc, (λ e. cc, tt)))
      unused Display none = left-then Display a b c (u.unused Display refl) (others.others Display (λ e. cc, (λ e. cc, tt)))
      unused Transcript none = always none
      unused Notes none = left-then Notes a b c (u.unused Notes refl) (others.others Notes (λ e. cc, (λ e. cc, tt)))

  pub uses-finishing : (a b c : Meanings) → Uses tells a b row Running → (IsTrue (tells Work) → IsSameFile (b.roles Work) (c.roles Work)) → LeavesBut (roles_at Finishing) b c → Uses tells a c row Finishing
  uses-finishing a b c u file others = record { attached = attached; named = named; unused = unused; later = λ r. let first = u.later r in let then = others.later r in omega (arith, first, then) }
    where
      named : IsTrue (tells Work) → IsTrue (passes Opening Finishing) → (c.roles Work).name ≡ Some row.work
      named told past = ap (λ (s : RoleState). s.name) (file told) ∙ u.named told refl

      attached : (role : Role) → IsTrue (tells role) → IsTrue (reaches (stage_of role) Finishing) → IfSome (word_for row role) (λ text. AttachedOnce text (a.roles role) (c.roles role))
      attached Image told came = attached-left _ _ _ _ (u.attached Image told refl) (others.others Image (λ e. cc, (λ e. cc, tt))).state
      attached Events told came = attached-left _ _ _ _ (u.attached Events told refl) (others.others Events (λ e. cc, (λ e. cc, tt))).state
      attached Work told came = attached-file _ _ _ _ (u.attached Work told refl) (file told)
      attached Saved told came = never came
      attached Display told came = never came
      attached Transcript told came = tt
      attached Notes told came = never came

      unused : (role : Role) → IsFalse (reaches (stage_of role) Finishing) → IsLeft role a c
      unused Image none = always none
      unused Events none = always none
      unused Work none = always none
      unused Saved none = left-then Saved a b c (u.unused Saved refl) (others.others Saved (λ e. cc, (λ e. cc, tt)))
      unused Display none = left-then Display a b c (u.unused Display refl) (others.others Display (λ e. cc, (λ e. cc, tt)))
      unused Transcript none = always none
      unused Notes none = left-then Notes a b c (u.unused Notes refl) (others.others Notes (λ e. cc, (λ e. cc, tt)))

  pub uses-saving : (a b c : Meanings) → Uses tells a b row Finishing → (IsTrue (tells Saved) → AttachedOnce row.saved (b.roles Saved) (c.roles Saved)) → (IsTrue (tells Work) → IsSameFile (b.roles Work) (c.roles Work)) → LeavesBut (roles_at Saving) b c → Uses tells a c row Saving
  uses-saving a b c u own file others = record { attached = attached; named = named; unused = unused; later = λ r. let first = u.later r in let then = others.later r in omega (arith, first, then) }
    where
      named : IsTrue (tells Work) → IsTrue (passes Opening Saving) → (c.roles Work).name ≡ Some row.work
      named told past = ap (λ (s : RoleState). s.name) (file told) ∙ u.named told refl

      attached : (role : Role) → IsTrue (tells role) → IsTrue (reaches (stage_of role) Saving) → IfSome (word_for row role) (λ text. AttachedOnce text (a.roles role) (c.roles role))
      attached Image told came = attached-left _ _ _ _ (u.attached Image told refl) (others.others Image (λ e. cc, (λ e. cc, tt))).state
      attached Events told came = attached-left _ _ _ _ (u.attached Events told refl) (others.others Events (λ e. cc, (λ e. cc, tt))).state
      attached Work told came = attached-file _ _ _ _ (u.attached Work told refl) (file told)
      attached Saved told came = attached-from _ _ _ _ (u.unused Saved refl).state (own told)
      attached Display told came = never came
      attached Transcript told came = tt
      attached Notes told came = never came

      unused : (role : Role) → IsFalse (reaches (stage_of role) Saving) → IsLeft role a c
      unused Image none = always none
      unused Events none = always none
      unused Work none = always none
      unused Saved none = always none
      unused Display none = left-then Display a b c (u.unused Display refl) (others.others Display (λ e. cc, (λ e. cc, tt)))
      unused Transcript none = always none
      unused Notes none = left-then Notes a b c (u.unused Notes refl) (others.others Notes (λ e. cc, (λ e. cc, tt)))

  pub uses-drawing : (a b c : Meanings) → Uses tells a b row Saving → (IsTrue (tells Display) → AttachedOnce row.display (b.roles Display) (c.roles Display)) → LeavesBut (roles_at Drawing) b c → Uses tells a c row Drawing
  uses-drawing a b c u own others = record { attached = attached; named = named; unused = unused; later = λ r. let first = u.later r in let then = others.later r in omega (arith, first, then) }
    where
      named : IsTrue (tells Work) → IsTrue (passes Opening Drawing) → (c.roles Work).name ≡ Some row.work
      named told past = ap (λ (s : RoleState). s.name) (others.others Work (λ e. cc, tt)).state ∙ u.named told refl

      attached : (role : Role) → IsTrue (tells role) → IsTrue (reaches (stage_of role) Drawing) → IfSome (word_for row role) (λ text. AttachedOnce text (a.roles role) (c.roles role))
      attached Image told came = attached-left _ _ _ _ (u.attached Image told refl) (others.others Image (λ e. cc, tt)).state
      attached Events told came = attached-left _ _ _ _ (u.attached Events told refl) (others.others Events (λ e. cc, tt)).state
      attached Work told came = attached-left _ _ _ _ (u.attached Work told refl) (others.others Work (λ e. cc, tt)).state
      attached Saved told came = attached-left _ _ _ _ (u.attached Saved told refl) (others.others Saved (λ e. cc, tt)).state
      attached Display told came = attached-from _ _ _ _ (u.unused Display refl).state (own told)
      attached Transcript told came = tt
      attached Notes told came = never came

      unused : (role : Role) → IsFalse (reaches (stage_of role) Drawing) → IsLeft role a c
      unused Image none = always none
      unused Events none = always none
      unused Work none = always none
      unused Saved none = always none
      unused Display none = always none
      unused Transcript none = always none
      unused Notes none = left-then Notes a b c (u.unused Notes refl) (others.others Notes (λ e. cc, tt))

  -- the last line isn't put yet
  pub uses-telling : (a b : Meanings) → Uses tells a b row Drawing → Uses tells a b row Telling
  uses-telling a b u = record { attached = attached; named = named; unused = unused; later = u.later }
    where
      named : IsTrue (tells Work) → IsTrue (passes Opening Telling) → (b.roles Work).name ≡ Some row.work
      named told past = u.named told refl

      attached : (role : Role) → IsTrue (tells role) → IsTrue (reaches (stage_of role) Telling) → IfSome (word_for row role) (λ text. AttachedOnce text (a.roles role) (b.roles role))
      attached Image told came = u.attached Image told refl
      attached Events told came = u.attached Events told refl
      attached Work told came = u.attached Work told refl
      attached Saved told came = u.attached Saved told refl
      attached Display told came = u.attached Display told refl
      attached Transcript told came = tt
      attached Notes told came = tt

      unused : (role : Role) → IsFalse (reaches (stage_of role) Telling) → IsLeft role a b
      unused Image none = always none
      unused Events none = always none
      unused Work none = always none
      unused Saved none = always none
      unused Display none = always none
      unused Transcript none = always none
      unused Notes none = always none

-- What a host with windows tells after a call.
use Rattle.std.proofs.Common.{◌≡◌, ◌≢◌, ◌⊎◌, inl, inr, ℕ, List, Bool, true, false, true≢false, Result, Ok, Err, OnOk, refl, sym, ap, ◌∙◌}
use Rattle.std.specs.Prelude.{is_ok, IsTrue, []}
use Rattle.loom_host.specs.Outside.{RoleState, IsFresh, holds}
use Rattle.loom_host.specs.declared.outside.Role.{Role}
use Rattle.loom_host.specs.declared.outside.Role.TheVariants.{Image, Events, Work, Saved, Display, Transcript, Notes}
use Rattle.work_windows.proofs.OverLaws.{over-is}
use Rattle.work_windows.specs.Windows.{Over, overlaid}
use Rattle.work_windows.specs.Windowed.{with_work}
use Rattle.work_windows.specs.declared.window.Window.{Window}

is_work : Role → Bool
is_work Work = true
is_work _ = false

-- where no byte is kept back
pub own-told : (s : RoleState) (ws : List Window) (limit : ℕ) → Over s.contents ws limit s.contents → holds (overlaid s.contents ws limit) s ≡ s
own-told s ws limit over = ap (λ k. holds k s) (sym (over-is s.contents s.contents ws limit over))

pub work-or : (r : Role) → (r ≡ Work) ⊎ (r ≢ Work)
unfolding is_work
work-or Work = inl refl
work-or Image = inr (λ e. true≢false (sym (ap is_work e)))
work-or Events = inr (λ e. true≢false (sym (ap is_work e)))
work-or Saved = inr (λ e. true≢false (sym (ap is_work e)))
work-or Display = inr (λ e. true≢false (sym (ap is_work e)))
work-or Transcript = inr (λ e. true≢false (sym (ap is_work e)))
work-or Notes = inr (λ e. true≢false (sym (ap is_work e)))

-- what a host tells whose Work inside is this, with windows over it
abbrev pub told_over : (Role → RoleState) → List Window → ℕ → Role → RoleState
told_over f ws limit = with_work (holds (overlaid (f Work).contents ws limit) (f Work)) f

pub told-same : (f g : Role → RoleState) (vs ws : List Window) (most limit : ℕ) (r : Role) → (r ≡ Work → holds (overlaid (f Work).contents vs most) (f Work) ≡ holds (overlaid (g Work).contents ws limit) (g Work)) → (r ≢ Work → f r ≡ g r) → told_over f vs most r ≡ told_over g ws limit r
unfolding is_work
told-same f g vs ws most limit Work here there = here refl
told-same f g vs ws most limit Image here there = there (λ e. true≢false (sym (ap is_work e)))
told-same f g vs ws most limit Events here there = there (λ e. true≢false (sym (ap is_work e)))
told-same f g vs ws most limit Saved here there = there (λ e. true≢false (sym (ap is_work e)))
told-same f g vs ws most limit Display here there = there (λ e. true≢false (sym (ap is_work e)))
told-same f g vs ws most limit Transcript here there = there (λ e. true≢false (sym (ap is_work e)))
told-same f g vs ws most limit Notes here there = there (λ e. true≢false (sym (ap is_work e)))

pub told-own : (f : Role → RoleState) (ws : List Window) (limit : ℕ) (r : Role) → Over (f Work).contents ws limit (f Work).contents → told_over f ws limit r ≡ f r
told-own f ws limit Work over = own-told (f Work) ws limit over
told-own f ws limit Image over = refl
told-own f ws limit Events over = refl
told-own f ws limit Saved over = refl
told-own f ws limit Display over = refl
told-own f ws limit Transcript over = refl
told-own f ws limit Notes over = refl

pub fresh-over : (f : Role → RoleState) (ws : List Window) (limit : ℕ) (r : Role) → (r ≡ Work → overlaid (f Work).contents ws limit ≡ (f Work).contents) → IsFresh (f r) → IsFresh (told_over f ws limit r)
fresh-over f ws limit Work is fresh = record { taken = fresh.taken; put = fresh.put; ended = fresh.ended; contents = is refl ∙ fresh.contents }
fresh-over f ws limit Image is fresh = fresh
fresh-over f ws limit Events is fresh = fresh
fresh-over f ws limit Saved is fresh = fresh
fresh-over f ws limit Display is fresh = fresh
fresh-over f ws limit Transcript is fresh = fresh
fresh-over f ws limit Notes is fresh = fresh

-- an attach that went through leaves Work empty
pub emptied : {T E : Type 0} (r : Result T E) (went : Bool) (s t : RoleState) → went ≡ is_ok r → IsTrue went → s ≡ t → OnOk r (IsFresh s) → t.contents ≡ []
emptied (Ok x) went s t is true_ same fresh = ap (λ (u : RoleState). u.contents) (sym same) ∙ fresh.contents
emptied (Err e) went s t is true_ same fresh = absurd (true≢false (sym true_ ∙ is))

pub on-ok : {T E : Type 0} {P Q : Type 0} (r : Result T E) → (P → Q) → OnOk r P → OnOk r Q
on-ok (Ok x) f p = f p
on-ok (Err e) f p = tt

-- what is told of Work where nothing was done with it
pub same-told : (s t : RoleState) (ws : List Window) (limit : ℕ) → s ≡ t → holds (overlaid s.contents ws limit) s ≡ holds (overlaid t.contents ws limit) t
same-told s t ws limit is = ap (λ (u : RoleState). holds (overlaid u.contents ws limit) u) is

-- what is told where Work was only read
pub read-told : (f g : Role → RoleState) (vs ws : List Window) (most limit : ℕ) (r : Role) → ((q : Role) → f q ≡ g q) → vs ≡ ws → most ≡ limit → told_over f vs most r ≡ told_over g ws limit r
read-told f g vs ws most limit r same is at =
    told-same f g vs ws most limit r
    (λ work. ap (λ (u : RoleState). holds (overlaid u.contents vs most) u) (same Work) ∙ ap (λ n. holds (overlaid (g Work).contents vs n) (g Work)) at ∙ ap (λ us. holds (overlaid (g Work).contents us limit) (g Work)) is)
    (λ away. same r)

-- what is told of Work where it was written
pub written-told : (s t : RoleState) (vs : List Window) (most : ℕ) (all now : List ℕ) → t ≡ holds t.contents s → Over t.contents vs most now → holds (overlaid t.contents vs most) t ≡ holds now (holds all s)
written-told s t vs most all now is over = ap (λ k. holds k t) (sym (over-is t.contents now vs most over)) ∙ ap (holds now) is

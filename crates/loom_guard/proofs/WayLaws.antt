-- What a host tells of the roles that a command has.
use Rattle.std.proofs.Common.{◌≡◌, ◌≢◌, ℕ, Bool, None, Some, Option, IsTrue, inl, inr, refl, ap, List}
use Rattle.loom_host.specs.declared.outside.Role.{Role}
use Rattle.loom_host.specs.declared.outside.Role.TheVariants.{Image, Events, Work, Saved, Display, Transcript, Notes}
use Rattle.blue_model.specs.Logs.{Course}
use Rattle.checkpoint.specs.Vault.{VaultState}
use Rattle.checkpoint.specs.declared.point.Point.{Point}
use Rattle.loom_run.specs.Ends.{IsAnswered, bytes_of}
use Rattle.loom_run.specs.Meanings.{Meanings}
use Rattle.loom_run.specs.Stages.{Stage}
use Rattle.loom_run.specs.Steps.{IsRefusal}
use Rattle.loom_run.proofs.UsesLaws.{never}
use Rattle.loom_words.specs.Words.{Row}
use Rattle.loom_words.specs.declared.status.Status.{Status}
use Rattle.loom_guard.specs.Promise.{ComesTo, HasMoment}
use Rattle.blue_model.specs.declared.event.Line.{Line}
use Rattle.blue_model.specs.Guarded.{Guarded}
use Rattle.loom_guard.specs.Ways.{Way, Guarding, Resuming, image_by, imageless, tells_by, verb_by}
use Rattle.loom_guard.proofs.MomentLaws.{moment-fewer}

pub told-imageless : (tells : Role → Bool) (role : Role) → IsTrue (imageless tells role) → IsTrue (tells role)
told-imageless tells Image h = never h
told-imageless tells Events h = h
told-imageless tells Work h = h
told-imageless tells Saved h = h
told-imageless tells Display h = h
told-imageless tells Transcript h = h
told-imageless tells Notes h = h

imageless-told : (tells : Role → Bool) (role : Role) → role ≢ Image → IsTrue (tells role) → IsTrue (imageless tells role)
imageless-told tells Image other h = absurd (other refl)
imageless-told tells Events other h = h
imageless-told tells Work other h = h
imageless-told tells Saved other h = h
imageless-told tells Display other h = h
imageless-told tells Transcript other h = h
imageless-told tells Notes other h = h

pub told-by : (way : Way) (tells : Role → Bool) (role : Role) → IsTrue (tells_by way tells role) → IsTrue (tells role)
told-by Guarding tells role h = h
told-by Resuming tells role h = told-imageless tells role h

pub by-told : (way : Way) (tells : Role → Bool) (role : Role) → role ≢ Image → IsTrue (tells role) → IsTrue (tells_by way tells role)
by-told Guarding tells role other h = h
by-told Resuming tells role other h = imageless-told tells role other h

-- the two commands are apart
pub way-is : (a b : Way) → verb_by a ≡ verb_by b → a ≡ b
way-is Guarding Guarding e = refl
way-is Resuming Resuming e = refl
way-is Guarding Resuming e = absurd (cc)
way-is Resuming Guarding e = absurd (cc)

-- the bytes of the image, where nothing was done with Image
pub image-left : (way : Way) (mid now : Meanings) (vault : VaultState) (point : Option Point) → now.roles Image ≡ mid.roles Image → image_by way now vault point ≡ image_by way mid vault point
image-left Guarding mid now vault point same = ap bytes_of same
image-left Resuming mid now vault None same = refl
image-left Resuming mid now vault (Some point) same = refl

module _ (way : Way) (tells : Role → Bool) (before now : Meanings) (row : Row) where
  pub answered-of : (stage : Stage) (status : Status) → IsRefusal (tells_by way tells) before now row stage status → IsAnswered tells before now row status
  answered-of stage status r = record { ran = r.ran; cause = r.cause; whole = λ work. r.whole (by-told way tells Work (λ e. cc) work); limits = r.limits }

  pub answered-by : (status : Status) → IsAnswered (tells_by way tells) before now row status → IsAnswered tells before now row status
  answered-by status r = record { ran = r.ran; cause = r.cause; whole = λ work. r.whole (by-told way tells Work (λ e. cc) work); limits = r.limits }

  pub comes-by : (lines : List Line) (g : Guarded) (stage : Stage) (status : Status) (c : Course) → ComesTo (tells_by way tells) before now row lines g stage status c → ComesTo tells before now row lines g stage status c
  comes-by lines g stage status c (inl r) = inl record {
    stops = r.stops;
    goes = r.goes;
    fits = r.fits;
    says = λ told at. r.says (by-told way tells Transcript (λ e. cc) told) at;
    said = λ told past. r.said (by-told way tells Transcript (λ e. cc) told) past;
    saves = λ told past. r.saves (by-told way tells Saved (λ e. cc) told) past;
    draws = λ told past. r.draws (by-told way tells Display (λ e. cc) told) past;
    cuts = λ told at. r.cuts (by-told way tells Notes (λ e. cc) told) at;
    image = r.image;
  }
  comes-by lines g stage status c (inr w) = inr (w.0, record { status_is = w.1.status_is; ran = w.1.ran; few = w.1.few; at = w.1.at; says = λ told. w.1.says (by-told way tells Transcript (λ e. cc) told) })

  pub moment-by : (lines : List Line) (g : Guarded) (c : Course) (stage : Stage) (last : ℕ) (status : Status) → HasMoment (tells_by way tells) before now row lines g c stage last status → HasMoment tells before now row lines g c stage last status
  moment-by lines g c stage last status x = record {
    stopped = λ at. moment-fewer (tells_by way tells Transcript) (tells Transcript) (by-told way tells Transcript (λ e. cc)) row.steps lines g c (before.roles Transcript).put (now.roles Transcript).put last status (x.stopped at);
    through = x.through;
  }

-- A form that was read, as columns and rows.
use Rattle.std.proofs.Common.{◌≡◌, ℕ, Option, Some, None, Result, Err, sym, ◌∙◌, ap, subst}
use Rattle.std.specs.Option.{option_map}
use Rattle.std.specs.Result.{IsErrAnd}
use Rattle.std.proofs.lemmas.Result.{err_from_is_err_and}
use Rattle.long_names.specs.declared.value.Value.{Value}
use Rattle.object_memory.specs.Told.{Told}
use Rattle.blue_model.specs.Forms as model
use Rattle.blue_model.specs.declared.cpu.Cpu.{Cpu}
use Rattle.blue_model.specs.Machine.{Rule}
use Rattle.contexts.specs.declared.stop.Stop.{Stop}
use Rattle.contexts.specs.Serves.{Serves}
use Rattle.forms.specs.declared.form.Extent.{Extent}
use Rattle.forms.specs.Shapes.{form_by}
use Rattle.devices.specs.Inside.{form_in, form_found}

pub form_none : (bits : Value) (found : Option Extent) → found ≡ None → option_map (form_by bits) found ≡ form_in None bits
form_none bits found e = ap (option_map (form_by bits)) e

pub form_some : (bits : Value) (found : Option Extent) (e : Extent) → found ≡ Some e → option_map (form_by bits) found ≡ form_in (Some (e.width, e.height)) bits
form_some bits found e is = ap (option_map (form_by bits)) is

pub exits_form : {old new : Told} {cpu now : Cpu} {rule : Rule (Option model.Form)} {e : Stop} (r : Result (Option (ℕ × ℕ)) Stop) (bits : Value) → IsErrAnd r (λ y. y ≡ e) → Serves old cpu new now rule (Err e) → Serves old cpu new now rule (form_found r bits)
exits_form {old} {new} {cpu} {now} {rule} {e} r bits is s =
    let q = err_from_is_err_and r is in
    subst (λ (x : Result (Option (ℕ × ℕ)) Stop). Serves old cpu new now rule (form_found x bits)) (sym (q.1 ∙ ap (λ y. Err y) q.2)) s

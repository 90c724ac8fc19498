-- A form, or nil for none.
use Rattle.std.proofs.Common.{◌≡◌, ℕ, true, false, List, [], Option, Some, None, Ok, Err, refl, sym, subst}
use Rattle.long_names.specs.declared.value.Value.{Value}
use Rattle.object_memory.specs.Told.{Told, IsReady}
use Rattle.object_memory.specs.Shape.{Looks}
use Rattle.object_memory.proofs.LooksLaws.{Looks-refl, Looks-weaker}
use Rattle.blue_model.specs.declared.cpu.Cpu.{Cpu}
use Rattle.blue_model.specs.Machine.{Rule, ◌>>=◌, done, pick}
use Rattle.blue_model.specs.Parts.{is_nil}
use Rattle.blue_model.specs.Forms.{Form}
use Rattle.blue_model.specs.BitBlt.{form_or_nil, some_form}
use Rattle.contexts.specs.declared.stop.Stop.{Stop}
use Rattle.contexts.specs.Serves.{Serves}
use Rattle.contexts.proofs.ServesLaws.{serves_then, serves_stop}
use Rattle.contexts.proofs.Steps.{done_serves}

-- nothing was read
pub looks_any : (xs : List ℕ) (t : Told) → Looks xs t t
looks_any xs t = Looks-weaker [] xs t t (λ r e. refl) (Looks-refl t)

-- ---- a form, or nil

nil_is : (shape : Value → Rule (Option Form)) (v : Value) → is_nil v ≡ true → form_or_nil shape v ≡ done (Some None)
unfolding form_or_nil pick
nil_is shape v e = rw e refl

form_is : (shape : Value → Rule (Option Form)) (v : Value) → is_nil v ≡ false → form_or_nil shape v ≡ (shape v >>= λ f. done (some_form f))
unfolding form_or_nil pick
form_is shape v e = rw e refl

pub nil_serves : {t : Told} {cpu : Cpu} (shape : Value → Rule (Option Form)) (v : Value) → is_nil v ≡ true → IsReady t → Serves t cpu t cpu (form_or_nil shape v) (Ok (Some None))
nil_serves {t} {cpu} shape v e ready = subst (λ rule. Serves t cpu t cpu rule (Ok (Some None))) (sym (nil_is shape v e)) (done_serves ready)

pub found_serves : {old new : Told} {cpu : Cpu} (shape : Value → Rule (Option Form)) (v : Value) (f : Option Form) → is_nil v ≡ false → IsReady new → Serves old cpu new cpu (shape v) (Ok f) → Serves old cpu new cpu (form_or_nil shape v) (Ok (some_form f))
found_serves {old} {new} {cpu} shape v f e ready s = subst (λ rule. Serves old cpu new cpu rule (Ok (some_form f))) (sym (form_is shape v e)) (serves_then _ s (done_serves ready))

pub found_stopped : {old new : Told} {cpu : Cpu} {e : Stop} (shape : Value → Rule (Option Form)) (v : Value) → is_nil v ≡ false → Serves old cpu new cpu (shape v) (Err e) → Serves old cpu new cpu (form_or_nil shape v) (Err e)
found_stopped {old} {new} {cpu} {e} shape v is s = subst (λ rule. Serves old cpu new cpu rule (Err e)) (sym (form_is shape v is)) (serves_stop _ s)

-- Calls that begin a rule.
-- A rule of a primitive goes on inside its conditions, so a call that is its first part can't serve a rule by itself. `Leads`
-- says of it: whatever serves what comes next from here on serves the whole, for any rest; where nothing was found the
-- primitive has failed, and a stop is the rule's. Its exits are `leads_exit`, `found_exit` and `leads_through`; `NaturalLaws`
-- has those of a number that isn't negative.
use Rattle.std.proofs.Common.{◌≡◌, Bool, Option, Some, None, Result, Ok, Err, refl, sym, ◌∙◌, ap, subst}
use Rattle.std.specs.Result.{IsErrAnd}
use Rattle.std.proofs.lemmas.Result.{err_from_is_err_and}
use Rattle.object_memory.specs.Told.{Told}
use Rattle.blue_model.specs.declared.answer.Answer.{Answer}
use Rattle.blue_model.specs.declared.answer.Answer.TheVariants.{Failed}
use Rattle.blue_model.specs.declared.cpu.Cpu.{Cpu}
use Rattle.blue_model.specs.Machine.{Rule}
use Rattle.blue_model.specs.Trials.{where_some, ◌>>?◌}
use Rattle.contexts.specs.declared.stop.Stop.{Stop}
use Rattle.contexts.specs.Serves.{Serves, with_found}
use Rattle.contexts.proofs.TrialLaws.{found_then, none_found, finding_stopped, some_then, none_fails}
use Rattle.prims_object.specs.Leads.{Leads, with_done}

-- the exit of a `?`
pub leads_exit : {A P : Type 0} {old new : Told} {cpu : Cpu} {rule : P → Rule Answer} {e : Stop} (next : A → P → Rule Answer) (r : Result (Option A) Stop) → IsErrAnd r (λ y. y ≡ e) → ((rest : P) → Serves old cpu new cpu (rule rest) (Err e)) → Leads old cpu new rule next r
leads_exit {A} {P} {old} {new} {cpu} {rule} {e} next r is s =
    let q = err_from_is_err_and r is in
    subst (λ (x : Result (Option A) Stop). Leads old cpu new rule next x) (sym (q.1 ∙ ap (λ y. Err y) q.2)) s

-- the same, where a register has what was found
pub found_exit : {A P : Type 0} {old new : Told} {cpu : Cpu} {rule : P → Rule Answer} {e : Stop} (next : A → P → Rule Answer) (r : Result Bool Stop) (v : A) → IsErrAnd r (λ y. y ≡ e) → ((rest : P) → Serves old cpu new cpu (rule rest) (Err e)) → Leads old cpu new rule next (with_found r v)
found_exit {A} {P} {old} {new} {cpu} {rule} {e} next r v is s =
    let q = err_from_is_err_and r is in
    subst (λ (x : Result Bool Stop). Leads old cpu new rule next (with_found x v)) (sym (q.1 ∙ ap (λ y. Err y) q.2)) s

-- and of a call that finds nothing but that it went through
pub done_exit : {P : Type 0} {old new : Told} {cpu : Cpu} {rule : P → Rule Answer} {e : Stop} (next : Unit {0} → P → Rule Answer) (r : Result (Unit {0}) Stop) → IsErrAnd r (λ y. y ≡ e) → ((rest : P) → Serves old cpu new cpu (rule rest) (Err e)) → Leads old cpu new rule next (with_done r)
done_exit {P} {old} {new} {cpu} {rule} {e} next r is s =
    let q = err_from_is_err_and r is in
    subst (λ (x : Result (Unit {0}) Stop). Leads old cpu new rule next (with_done x)) (sym (q.1 ∙ ap (λ y. Err y) q.2)) s

-- A number was found, and then what it may be.
pub leads_by : {A B : Type 0} {old new : Told} {cpu : Cpu} {p : Rule (Option A)} (a : A) (f : A → Option B) (o : Option B) → o ≡ f a → Serves old cpu new cpu p (Ok (Some a)) → Leads old cpu new (λ (rest : B → Rule Answer). p >>? λ x. where_some (f x) rest) (λ b rest. rest b) (Ok o)
leads_by a f None is s = λ rest. found_then _ refl s (none_fails (f a) rest s.ready (λ told. sym is))
leads_by a f (Some b) is s = λ rest later now answer next. found_then _ refl s (some_then (f a) rest b (λ told. sym is) next)

-- What leads a rule from a later moment leads another from an earlier one, where what serves the one serves the other.
pub leads_through : {A P : Type 0} {old mid : Told} {cpu : Cpu} (new : Told) (f g : P → Rule Answer) (next : A → P → Rule Answer) (r : Result (Option A) Stop) → ((rest : P) (later : Told) (now : Cpu) (answer : Result Answer Stop) → Serves mid cpu later now (f rest) answer → Serves old cpu later now (g rest) answer) → Leads mid cpu new f next r → Leads old cpu new g next r
leads_through new f g next (Ok (Some a)) step l = λ rest later now answer s. step rest later now answer (l rest later now answer s)
leads_through {A} {P} {old} {mid} {cpu} new f g next (Ok None) step l = λ rest. step rest new cpu (Ok Failed) (l rest)
leads_through {A} {P} {old} {mid} {cpu} new f g next (Err e) step l = λ rest. step rest new cpu (Err e) (l rest)

-- A call that found something, or nothing, and then the rest.
pub leads_found : {A : Type 0} {old new : Told} {cpu : Cpu} {p : Rule (Option A)} (r : Result (Option A) Stop) → Serves old cpu new cpu p r → Leads old cpu new (λ (rest : A → Rule Answer). p >>? rest) (λ a rest. rest a) r
leads_found (Ok (Some a)) s = λ rest later now answer next. found_then rest refl s next
leads_found (Ok None) s = λ rest. none_found rest refl s
leads_found (Err e) s = λ rest. finding_stopped rest s

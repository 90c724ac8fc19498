-- An index argument that isn't negative, and the rest of the rule.
use Rattle.std.proofs.Common.{◌≡◌, ℕ, Option, Some, None, Result, Ok, Err, subst}
use Rattle.std.specs.Result.{IsErrAnd}
use Rattle.long_names.specs.declared.value.Value.{Value}
use Rattle.object_memory.specs.Told.{Told}
use Rattle.blue_model.specs.declared.answer.Answer.{Answer}
use Rattle.blue_model.specs.declared.answer.Answer.TheVariants.{Failed}
use Rattle.blue_model.specs.declared.cpu.Cpu.{Cpu}
use Rattle.blue_model.specs.Machine.{Rule}
use Rattle.blue_model.specs.Trials.{where_some, ◌>>?◌}
use Rattle.blue_model.specs.Elements.{natural, index_argument}
use Rattle.contexts.specs.declared.stop.Stop.{Stop}
use Rattle.contexts.specs.Serves.{Serves}
use Rattle.contexts.proofs.ServesLaws.{exits}
use Rattle.prims_object.specs.Leads.{Leads}

-- the rule that begins with the index argument that a value is
abbrev pub naturally : Value → (ℕ → Rule Answer) → Rule Answer
naturally v rest = index_argument v >>? λ z. where_some (natural z) rest

-- It is one,
pub natural_then : {old mid new : Told} {cpu now : Cpu} {answer : Result Answer Stop} (v w : Value) (found : Option ℕ) (n : ℕ) (rest : ℕ → Rule Answer) → v ≡ w → found ≡ Some n → Leads old cpu mid (naturally v) (λ n rest. rest n) (Ok found) → Serves mid cpu new now (rest n) answer → Serves old cpu new now (naturally w rest) answer
natural_then {old} {mid} {new} {cpu} {now} {answer} v w found n rest e is leads s =
    let here = subst (λ (x : Option ℕ). Leads {A = ℕ} {P = ℕ → Rule Answer} old cpu mid (naturally v) (λ n rest. rest n) (Ok x)) is leads in
    subst (λ x. Serves old cpu new now (naturally x rest) answer) e (here rest new now answer s)

-- none,
pub natural_fails : {old new : Told} {cpu : Cpu} (v w : Value) (found : Option ℕ) (rest : ℕ → Rule Answer) → v ≡ w → found ≡ None → Leads old cpu new (naturally v) (λ n rest. rest n) (Ok found) → Serves old cpu new cpu (naturally w rest) (Ok Failed)
natural_fails {old} {new} {cpu} v w found rest e is leads =
    let here = subst (λ (x : Option ℕ). Leads {A = ℕ} {P = ℕ → Rule Answer} old cpu new (naturally v) (λ n rest. rest n) (Ok x)) is leads in
    subst (λ x. Serves old cpu new cpu (naturally x rest) (Ok Failed)) e (here rest)

-- or it came to a stop.
pub natural_stops : {old new : Told} {cpu : Cpu} {e : Stop} (v w : Value) (rest : ℕ → Rule Answer) (r : Result Answer Stop) → v ≡ w → ((rest : ℕ → Rule Answer) → Serves old cpu new cpu (naturally v rest) (Err e)) → IsErrAnd r (λ y. y ≡ e) → Serves old cpu new cpu (naturally w rest) r
natural_stops {old} {new} {cpu} {e} v w rest r same leads is = exits r is (subst (λ x. Serves {A = Answer} old cpu new cpu (naturally x rest) (Err e)) same (leads rest))

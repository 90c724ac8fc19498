-- The method in a slot of a dictionary.
use Rattle.std.proofs.Common.{◌≡◌, ℕ, [], ◌++◌, append-nil, Option, Some, None, Result, Ok, Err, refl, sym, ap, subst}
use Rattle.long_names.specs.declared.value.Value.{Value}
use Rattle.object_memory.specs.Told.{Told, IsReady}
use Rattle.blue_model.specs.declared.cause.Cause.TheVariants.{Shape}
use Rattle.blue_model.specs.declared.cpu.Cpu.{Cpu}
use Rattle.blue_model.specs.Machine.{Machine, Outcome, Go, Halt, Spent, Rule, then_do, ◌>>=◌, done, part}
use Rattle.blue_model.specs.Parts.{Code, field, code_of}
use Rattle.blue_model.specs.Contexts.{need_method}
use Rattle.blue_model.specs.Lookup.{method_at}
use Rattle.contexts.specs.declared.stop.Stop.{Stop}
use Rattle.contexts.specs.Serves.{Serves}
use Rattle.contexts.proofs.ServesLaws.{serves_then, serves_stop}
use Rattle.contexts.proofs.Steps.{done_serves}
use Rattle.send_lookup.specs.Path.{Walks}
use Rattle.send_lookup.proofs.ClassLaws.{serves_same}
use Rattle.send_lookup.proofs.PathLaws.{walks_done}

pub method_none : {t : Told} {cpu : Cpu} (dictionary : Value) (slot : Option ℕ) → slot ≡ None → IsReady t → Walks t cpu t (method_at dictionary slot) (Ok None)
unfolding method_at
method_none {t} {cpu} dictionary slot e ready = subst (λ s. Walks t cpu t (method_at dictionary s) (Ok None)) (sym e) (walks_done None ready)

-- what is to be done for the method in a slot
abbrev pub method_in : Value → ℕ → Rule (Option Value)
method_in dictionary slot = part Shape (field 3 1) dictionary >>= λ methods. part Shape (field 0 slot) methods >>= λ method. part Shape code_of method >>= λ _. done (Some method)

pub method_some : {t new : Told} {cpu : Cpu} {answer : Result (Option Value) Stop} (dictionary : Value) (slot : Option ℕ) (i : ℕ) → slot ≡ Some i → Walks t cpu new (method_in dictionary i) answer → Walks t cpu new (method_at dictionary slot) answer
unfolding method_at
method_some {t} {new} {cpu} {answer} dictionary slot i e s = subst (λ x. Walks t cpu new (method_at dictionary x) answer) (sym e) s

-- a method that is one, and is the answer
method_then : (method : Value) (m : Machine) → (part Shape code_of method >>= (λ _. done (Some method))) m ≡ (need_method method >>= (λ _. done (Some method))) m
unfolding need_method done ◌>>=◌
method_then method m = go (part Shape code_of method m)
  where
    go : (o : Outcome Code) → then_do o (λ _. done (Some method)) ≡ then_do (then_do o (λ _. done (tt {0}))) (λ _. done (Some method))
    go (Go a n log) = ap (Go (Some method) n) (sym (append-nil (log ++ [])))
    go (Halt c log) = refl
    go (Spent log) = refl

pub method_answered : {old new : Told} {cpu : Cpu} (method v : Value) → method ≡ v → IsReady new → Serves old cpu new cpu (need_method method) (Ok (tt {0})) → Serves old cpu new cpu (part Shape code_of method >>= (λ _. done (Some method))) (Ok (Some v))
method_answered {old} {new} {cpu} method v e ready s = subst (λ w. Serves old cpu new cpu (part Shape code_of method >>= (λ _. done (Some method))) (Ok (Some w))) e (serves_same (method_then method) (serves_then (λ _. done (Some method)) s (done_serves ready)))

pub method_stopped : {old new : Told} {cpu now : Cpu} {e : Stop} (method : Value) → Serves old cpu new now (need_method method) (Err e) → Serves old cpu new now (part Shape code_of method >>= (λ _. done (Some method))) (Err e)
method_stopped method s = serves_same (method_then method) (serves_stop (λ _. done (Some method)) s)

-- The lookup along the superclass chain, class by class.
-- `find_from` recurses at its front: the loop of `go_up` keeps an implication (`whole`: what walks the lookup from this class on walks the
-- whole), and `chain_on` takes one class off.
use Rattle.std.proofs.Common.{◌≡◌, zero, suc, ℕ, true, false, Option, Some, None, Result, Ok, Err, sym, subst}
use Rattle.long_names.specs.declared.value.Value.{Value}
use Rattle.object_memory.specs.Told.{Told, IsReady}
use Rattle.blue_model.specs.declared.cause.Cause.TheVariants.{Shape, Chain}
use Rattle.blue_model.specs.declared.cpu.Cpu.{Cpu}
use Rattle.blue_model.specs.Machine.{Rule, ◌>>=◌, part}
use Rattle.blue_model.specs.Parts.{is_nil, field}
use Rattle.blue_model.specs.Lookup.{find_in, found_or, find_from}
use Rattle.contexts.specs.declared.stop.Stop.{Stop}
use Rattle.contexts.specs.declared.stop.Stop.TheVariants.{Stuck}
use Rattle.contexts.specs.Serves.{Serves}
use Rattle.contexts.proofs.ServesLaws.{serves_then, serves_stop}
use Rattle.contexts.proofs.Steps.{halt_serves, pick_false}
use Rattle.send_lookup.specs.Path.{Walks}
use Rattle.send_lookup.proofs.PathLaws.{walks_done, walks_stop, walks_then, walks_pick_true, walks_pick_false}

-- ---- the chain

-- its end,
pub chain_ends : {t : Told} {cpu : Cpu} (n : ℕ) (selector class : Value) → is_nil class ≡ true → IsReady t → Walks t cpu t (find_from n selector class) (Ok None)
unfolding find_from
chain_ends {t} {cpu} zero selector class e ready = walks_pick_true _ _ _ e (walks_done None ready)
chain_ends {t} {cpu} (suc n) selector class e ready = walks_pick_true _ _ _ e (walks_done None ready)

-- too many classes,
pub chain_stops : {t : Told} {cpu : Cpu} (n : ℕ) (selector class : Value) → n ≡ 0 → is_nil class ≡ false → Walks t cpu t (find_from n selector class) (Err (Stuck Chain))
unfolding find_from
chain_stops {t} {cpu} n selector class none e = subst (λ k. Walks t cpu t (find_from k selector class) (Err (Stuck Chain))) (sym none) (walks_stop (pick_false _ _ _ e halt_serves))

-- what is to be done at a class
abbrev pub at_class : ℕ → Value → Value → Rule (Option Value)
at_class n selector class = find_in selector class >>= λ found. found_or found (part Shape (field 3 0) class >>= λ superclass. find_from n selector superclass)

chain_at : {t new : Told} {cpu : Cpu} {answer : Result (Option Value) Stop} (n k : ℕ) (selector class : Value) → n ≡ suc k → is_nil class ≡ false → Walks t cpu new (at_class k selector class) answer → Walks t cpu new (find_from n selector class) answer
unfolding find_from
chain_at {t} {new} {cpu} {answer} n k selector class more e s = subst (λ j. Walks t cpu new (find_from j selector class) answer) (sym more) (walks_pick_false _ _ _ e s)

-- a class that has a method,
pub chain_found : {t new : Told} {cpu : Cpu} (n k : ℕ) (selector class v : Value) → n ≡ suc k → is_nil class ≡ false → IsReady new → Walks t cpu new (find_in selector class) (Ok (Some v)) → Walks t cpu new (find_from n selector class) (Ok (Some v))
unfolding found_or
chain_found n k selector class v more e ready s = chain_at n k selector class more e (walks_then _ s (walks_done (Some v) ready))

-- one at which the lookup stopped,
pub chain_stuck : {t new : Told} {cpu : Cpu} {stop : Stop} (n k : ℕ) (selector class : Value) → n ≡ suc k → is_nil class ≡ false → Walks t cpu new (find_in selector class) (Err stop) → Walks t cpu new (find_from n selector class) (Err stop)
chain_stuck n k selector class more e s = chain_at n k selector class more e (walks_stop (serves_stop _ s.serves))

-- one whose superclass was not to be had,
pub chain_torn : {t mid new : Told} {cpu : Cpu} {stop : Stop} (n k : ℕ) (selector class : Value) → n ≡ suc k → is_nil class ≡ false → Walks t cpu mid (find_in selector class) (Ok None) → Serves mid cpu new cpu (part Shape (field 3 0) class) (Err stop) → Walks t cpu new (find_from n selector class) (Err stop)
unfolding found_or
chain_torn n k selector class more e s f = chain_at n k selector class more e (walks_stop (serves_then _ s.serves (serves_stop _ f)))

-- and the superclass.
pub chain_on : {t mid next new : Told} {cpu : Cpu} {answer : Result (Option Value) Stop} (n k : ℕ) (selector class superclass : Value) → n ≡ suc k → is_nil class ≡ false → Walks t cpu mid (find_in selector class) (Ok None) → Walks mid cpu next (part Shape (field 3 0) class) (Ok superclass) → Walks next cpu new (find_from k selector superclass) answer → Walks t cpu new (find_from n selector class) answer
unfolding found_or
chain_on n k selector class superclass more e s f rest = chain_at n k selector class more e (walks_then _ s (walks_then _ f rest))

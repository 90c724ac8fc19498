-- The highest list that isn't empty, list by list.
-- `wake_among` is the loop of the model from the highest list down: its invariant is `whole`, what serves the rest serves all.
-- Where a call returns `()` under a `?` at its end, its exit goes by `exits`; in the middle, by `serves_exit`.
use Rattle.std.proofs.Common.{◌≡◌, suc, ℕ, true, false, Ok, Err, Result, sym, subst}
use Rattle.long_names.specs.declared.value.Value.{Value}
use Rattle.object_memory.specs.Told.{Told}
use Rattle.blue_model.specs.declared.cause.Cause.TheVariants.{Shape, NoProcess}
use Rattle.blue_model.specs.declared.cpu.Cpu.{Cpu}
use Rattle.blue_model.specs.Machine.{Rule, ◌>>=◌, part, pick}
use Rattle.blue_model.specs.Parts.{is_nil, field}
use Rattle.blue_model.specs.Processes.{take, wake_among}
use Rattle.contexts.specs.declared.stop.Stop.{Stop}
use Rattle.contexts.specs.declared.stop.Stop.TheVariants.{Stuck}
use Rattle.contexts.specs.Serves.{Serves}
use Rattle.contexts.proofs.ServesLaws.{serves_then, serves_stop}
use Rattle.contexts.proofs.Steps.{halt_serves, pick_true, pick_false}

-- all were empty
pub wake_none : {t : Told} {cpu : Cpu} (n : ℕ) (lists : Value) → n ≡ 0 → Serves t cpu t cpu (wake_among n lists) (Err (Stuck NoProcess))
unfolding wake_among
wake_none {t} {cpu} n lists none = subst (λ k. Serves t cpu t cpu (wake_among k lists) (Err (Stuck NoProcess))) (sym none) halt_serves

-- what is to be done at a list
abbrev at_list : ℕ → Value → Rule Value
at_list k lists = part Shape (field 0 k) lists >>= λ list. part Shape (field 0 0) list >>= λ first. pick (is_nil first) (wake_among k lists) (take list)

wake_at : {t new : Told} {cpu now : Cpu} {answer : Result Value Stop} (n k : ℕ) (lists : Value) → n ≡ suc k → Serves t cpu new now (at_list k lists) answer → Serves t cpu new now (wake_among n lists) answer
unfolding wake_among
wake_at {t} {new} {cpu} {now} {answer} n k lists more s = subst (λ j. Serves t cpu new now (wake_among j lists) answer) (sym more) s

-- a list that was not to be had,
pub wake_lost : {t new : Told} {cpu : Cpu} {stop : Stop} (n k : ℕ) (lists : Value) → n ≡ suc k → Serves t cpu new cpu (part Shape (field 0 k) lists) (Err stop) → Serves t cpu new cpu (wake_among n lists) (Err stop)
wake_lost n k lists more s = wake_at n k lists more (serves_stop _ s)

-- one whose first process was not to be had,
pub wake_torn : {t mid new : Told} {cpu : Cpu} {stop : Stop} (n k : ℕ) (lists list : Value) → n ≡ suc k → Serves t cpu mid cpu (part Shape (field 0 k) lists) (Ok list) → Serves mid cpu new cpu (part Shape (field 0 0) list) (Err stop) → Serves t cpu new cpu (wake_among n lists) (Err stop)
wake_torn n k lists list more s f = wake_at n k lists more (serves_then _ s (serves_stop _ f))

-- one that isn't empty,
pub wake_here : {t mid next new : Told} {cpu : Cpu} {answer : Result Value Stop} (n k : ℕ) (lists list first : Value) → n ≡ suc k → Serves t cpu mid cpu (part Shape (field 0 k) lists) (Ok list) → Serves mid cpu next cpu (part Shape (field 0 0) list) (Ok first) → is_nil first ≡ false → Serves next cpu new cpu (take list) answer → Serves t cpu new cpu (wake_among n lists) answer
wake_here n k lists list first more s f e taken = wake_at n k lists more (serves_then _ s (serves_then _ f (pick_false _ _ _ e taken)))

-- and one that is: the next lower one.
pub wake_on : {t mid next new : Told} {cpu : Cpu} {answer : Result Value Stop} (n k j : ℕ) (lists list first : Value) → n ≡ suc k → j ≡ k → Serves t cpu mid cpu (part Shape (field 0 k) lists) (Ok list) → Serves mid cpu next cpu (part Shape (field 0 0) list) (Ok first) → is_nil first ≡ true → Serves next cpu new cpu (wake_among j lists) answer → Serves t cpu new cpu (wake_among n lists) answer
wake_on {t} {mid} {next} {new} {cpu} {answer} n k j lists list first more same s f e rest = wake_at n k lists more (serves_then _ s (serves_then _ f (pick_true _ _ _ e (subst (λ i. Serves next cpu new cpu (wake_among i lists) answer) same rest))))

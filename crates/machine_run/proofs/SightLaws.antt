-- Where a machine stands, as a cycle comes to its bytecode: the rule that tells it, by what serves it; and that its context is the active one.
use Rattle.std.proofs.Common.{◌≡◌, ◌<◌, ◌%◌, ℕ, ℤ, Bool, true, false, cond, List, Option, None, Some, Result, Ok, Err, IsTrue, refl, sym, ◌∙◌, ap, subst, arith}
use Rattle.std.specs.Prelude.{◌↔◌, unsigned_abs, unwrap_or, IfErr, IfSome, IsSome}
use Rattle.std.specs.Result.{IsErrAnd}
use Rattle.long_names.specs.declared.value.Value.{Value}
use Rattle.long_names.specs.declared.value.Value.TheVariants.{Int, Ref}
use Rattle.long_names.specs.Names.{IsName, NIL}
use Rattle.long_names.specs.State.{ACTIVE_CONTEXT, METHOD}
use Rattle.object_memory.specs.Told.{Told, IsReady}
use Rattle.blue_model.specs.declared.cause.Cause.TheVariants.{Pointer}
use Rattle.blue_model.specs.declared.cpu.Cpu.{Cpu}
use Rattle.blue_model.specs.declared.event.Line.{Line}
use Rattle.blue_model.specs.declared.indexes.TheConstants.{INSTRUCTION_POINTER_INDEX, TEMP_FRAME_START}
use Rattle.blue_model.specs.Alike.{IsPlain}
use Rattle.blue_model.specs.Contexts.{byte_of, fetch, load}
use Rattle.blue_model.specs.Devices.{due}
use Rattle.blue_model.specs.Law.{HasPins, IsWholeMachine}
use Rattle.blue_model.specs.Machine.{Machine, LogRow, Outcome, Go, Halt, Spent, given}
use Rattle.blue_model.specs.Parts.{byte_at, code_of, number}
use Rattle.blue_model.specs.Processes.{check_switch}
use Rattle.blue_model.proofs.BeginLaws.{load_comes, named, part_then}
use Rattle.blue_model.proofs.BeginLaws as begin
use Rattle.blue_model.proofs.ComesLaws.{Comes, comes_done, comes_halt, comes_set_numbers, comes_then, comes_weaker}
use Rattle.blue_model.proofs.ComesLaws as comes
use Rattle.blue_model.proofs.KeepRules.{keeps-check_switch, keeps-due, keeps-fetch}
use Rattle.blue_model.proofs.KeepSteps.{Kept, Keeps, keeping}
use Rattle.contexts.specs.declared.stop.Stop.{Stop}
use Rattle.contexts.specs.Serves.{IsGo, Serves, Stands}
use Rattle.contexts.proofs.ServesLaws.{serves_then, serves_exit}
use Rattle.contexts.proofs.Steps.{numbers_then, register_then, done_same}
use Rattle.machine_run.proofs.RunningLaws.{stop_numbers}
use Rattle.machine_run.proofs.StateLaws.{is_long, long_is}
use Rattle.machine_run.specs.States.{HasLongNames, is_long_name, word_held}
use Rattle.machine_run.specs.Sights.{IsSeen, context_in, end_of, sight, sight_in}
use Rattle.machine_run.specs.declared.tracing.Sight.{Sight}
use Rattle.machine_run.specs.declared.tracing.Traced.{Traced}

-- ---- the active context

-- the name that a register's word was read as
pub context_by : (v : Value) (word : ℕ) (name : Option ℕ) → word ≡ word_held true v → IsSome name ↔ IsName word → IfSome name (λ n. n ≡ word) → unwrap_or name NIL ≡ context_in v
context_by (Int z) word None is some value = refl
context_by (Int z) word (Some k) is some value = let none : word ≡ 0 = is in let above = (some.0 refl).above in absurd (omega arith)
context_by (Ref n) word name is some value = go (is_long_name n) refl name some value
  where
    go : (b : Bool) → is_long_name n ≡ b → (name : Option ℕ) → IsSome name ↔ IsName word → IfSome name (λ k. k ≡ word) → unwrap_or name NIL ≡ context_in (Ref n)
    go true long None some value =
        let l = is_long n long in
        let same : word ≡ n = is ∙ ap (λ b. cond b n 0) long in
        let even : word % 2 ≡ 0 = ap (λ k. k % 2) same ∙ l.0 in
        let above : 0 < word = subst (λ k. 0 < k) (sym same) l.1 in
        let no : ◌≡◌ {A = Bool} false true = some.1 (record { even = even; above = above }) in absurd (cc)
    go true long (Some k) some value = value ∙ is ∙ ap (λ b. cond b n 0) long ∙ sym (ap (λ b. cond b n NIL) long)
    go false long None some value = sym (ap (λ b. cond b n NIL) long)
    go false long (Some k) some value =
        let none : word ≡ 0 = is ∙ ap (λ b. cond b n 0) long in
        let above = (some.0 refl).above in
        absurd (omega arith)

-- a name of 32 bits is told as it is
told_long : (n : ℕ) → is_long_name n ≡ true → context_in (Ref n) ≡ n
told_long n long = ap (λ b. cond b n NIL) long

-- ---- the rule

-- a byte that was fetched, with where it was
pub sight_serves : {old new : Told} {cpu ahead : Cpu} (context ip byte : ℕ) → context ≡ context_in (old.regs ACTIVE_CONTEXT) → ip ≡ unsigned_abs cpu.ip → IsReady new → Serves old cpu new ahead fetch (Ok byte) → Serves old cpu new ahead sight (Ok (record { context = context; ip = ip; byte = byte }))
unfolding sight
sight_serves {old} {new} {cpu} {ahead} context ip byte named placed ready s =
    numbers_then _ (register_then ACTIVE_CONTEXT _ refl (serves_then _ s (done_same (ap (λ n. record { context = n; ip = ip; byte = byte }) named ∙ ap (λ n. record { context = context_in (old.regs ACTIVE_CONTEXT); ip = n; byte = byte }) placed) ready)))

-- one that couldn't be
pub sight_stops : {old new : Told} {cpu ahead : Cpu} {e : Stop} (r : Result Sight Stop) → IsErrAnd r (λ y. y ≡ e) → Serves old cpu new ahead fetch (Err e) → Serves old cpu new ahead sight r
unfolding sight
sight_stops r is s = numbers_then _ (register_then ACTIVE_CONTEXT _ refl (serves_exit _ r s is))

pub stop_fetches : {old new : Told} {cpu ahead : Cpu} {e : Stop} (r : Result Sight Stop) → IsErrAnd r (λ y. y ≡ e) → Serves {A = ℕ} old cpu new ahead fetch (Err e) → IfErr r (λ stop. Serves {A = ℕ} old cpu new cpu fetch (Err stop))
stop_fetches (Ok seen) is s = absurd is
stop_fetches {old} {new} {cpu} {ahead} {e} (Err stop) is s = subst (λ (x : Stop). Serves {A = ℕ} old cpu new cpu fetch (Err x)) (sym is) (stop_numbers e s)

seen-go : (P : Machine → Type 0) (seen : Sight) (o : Outcome Sight) → IsGo seen P o → IsSeen seen o
seen-go P seen (Go s m log) g = g.0
seen-go P seen (Halt c log) g = g
seen-go P seen (Spent log) g = g

-- in a cycle, behind its lines and its switch
pub sees_in : {t u : Unit {0}} (events : List Line) (a b c d : Told) (cpu early late ahead : Cpu) (seen : Sight) → Serves a cpu b early (due events) (Ok t) → Serves b early c late check_switch (Ok u) → Serves c late d ahead sight (Ok seen) → IsTrue a.tells → (m : Machine) → Stands a cpu m → IsSeen seen (sight_in events m)
unfolding sight_in
sees_in events a b c d cpu early late ahead seen lines switch s told m st =
    let all : Serves a cpu d ahead (sight_in events) (Ok seen) = serves_then _ lines (serves_then _ switch s) in
    seen-go (Stands d ahead) seen (sight_in events m) (all.model told m st)

-- a stop is the bytecode's
pub end_exits : (r : Result Traced Stop) (e : Stop) → IsErrAnd r (λ y. y ≡ e) → IsErrAnd (end_of r) (λ y. y ≡ e)
end_exits (Ok traced) e is = is
end_exits (Err stop) e is = is

-- ---- what is told is the active context

abbrev IsNamed : Value → Type 0
IsNamed v = (n : ℕ) × (v ≡ Ref n)

-- a load leaves a name there, and every other rule leaves what is there
load_names : (context : Value) (m s : Machine) (log : List LogRow) → load context m ≡ Go tt s log → IsNamed (s.regs ACTIVE_CONTEXT)
load_names context m s log e =
    let came = (load_comes {m = m} context).to tt s log e in
    named m.heap (number TEMP_FRAME_START INSTRUCTION_POINTER_INDEX) context came.0.ip came.0.ip_is (λ n same. (n, ap (λ (x : Machine). x.regs ACTIVE_CONTEXT) came.2 ∙ same))

abbrev naming : Bool → Kept
naming vault = record { vault = vault; pins = λ context home method slots. IsNamed context; loads = load_names }

keeps-sight_in : {w : Kept} (events : List Line) → Keeps w IsPlain (sight_in events)
unfolding sight_in sight
keeps-sight_in {w} events = search (keeping, keeps-due, keeps-check_switch, keeps-fetch) depth 12

given_comes : {m : Machine} (o : Option ℕ) → Comes m (given Pointer o) (λ _ s. s ≡ m)
unfolding given
given_comes None = comes_halt Pointer
given_comes (Some byte) = comes_done byte refl

byte_comes : {m : Machine} (ip : ℤ) (method : Value) → Comes m (byte_of ip method) (λ _ s. s ≡ m)
unfolding byte_of
byte_comes ip method = part_then _ code_of method (λ code e. given_comes (byte_at ip code))

fetch_comes : {m : Machine} → Comes m fetch (λ _ s. s.regs ≡ m.regs)
unfolding fetch
fetch_comes {m} =
    comes.numbers_then _ (begin.register_then _ METHOD (comes_then {Q = λ _ s. s ≡ m} _ (byte_comes m.cpu.ip (m.regs METHOD)) (λ byte n same.
    comes_then {Q = λ _ s. s.regs ≡ m.regs} _ (comes_weaker (comes_set_numbers _) (λ u s left. ap (λ (x : Machine). x.regs) left ∙ ap (λ (x : Machine). x.regs) same)) (λ u s left. comes_done byte left))))

sight_comes : {m : Machine} → Comes m sight (λ seen s. seen.context ≡ context_in (s.regs ACTIVE_CONTEXT))
unfolding sight
sight_comes {m} =
    comes.numbers_then _ (begin.register_then _ ACTIVE_CONTEXT (comes_then {Q = λ _ s. s.regs ≡ m.regs} _ fetch_comes (λ byte s left.
    comes_done _ (ap (λ (regs : ℕ → Value). context_in (regs ACTIVE_CONTEXT)) (sym left)))))

-- whatever comes before it
sight_in_comes : {m : Machine} (events : List Line) → Comes m (sight_in events) (λ seen s. seen.context ≡ context_in (s.regs ACTIVE_CONTEXT))
unfolding sight_in
sight_in_comes events = comes_then {Q = λ _ _. Unit {0}} _ (record { to = λ a s log e. tt }) (λ a n _. comes_then {Q = λ _ _. Unit {0}} _ (record { to = λ b s log e. tt }) (λ b k _. sight_comes))

pub names_the_context : (events : List Line) (m n : Machine) (seen : Sight) (log : List LogRow) → HasPins m → sight_in events m ≡ Go seen n log → IsWholeMachine n → HasLongNames n.heap → n.regs ACTIVE_CONTEXT ≡ Ref seen.context
names_the_context events m n seen log pins e whole long =
    let first = pins.pins 0 (omega arith) in
    let is = ((keeps-sight_in {w = naming m.cpu.vault} events).keeps m n seen log (record { vault = refl; pins = (first.0, first.1) }) e).0.pins in
    let short : is_long_name is.0 ≡ true = long_is is.0 (long is.0 (whole.rooted ACTIVE_CONTEXT is.0 is.1)) in
    is.1 ∙ sym (ap (λ k. Ref k) ((sight_in_comes {m = m} events).to seen n log e ∙ ap context_in is.1 ∙ told_long is.0 short))

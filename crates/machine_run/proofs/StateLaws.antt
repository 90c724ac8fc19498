-- The state with which a run begins, and what is kept of the one that it leaves.
-- A start leaves what is kept with no roots (`starts_keeping`), so the names that were read from the state's words still have their
-- objects (`stays_there`), and start and `restore` are the model's `begin` with these words (`begin_serves`). What a heap leaves of the
-- words of a machine is the model's state of it (`left_held`).
use Rattle.std.proofs.Common.{zero, suc, ◌≡◌, ℕ, ◌%◌, ◌^◌, ◌<◌, Bool, true, false, cond, Option, Some, None, is_some, Result, Ok, IsTrue, refl, sym, ◌∙◌, ap, subst, arith}
use Rattle.std.specs.Prelude.{◌↔◌, IsSome, IfSome}
use Rattle.std.proofs.lemmas.Bool.Decides.{nat_tests}
use Rattle.long_names.specs.declared.value.Value.{Value}
use Rattle.long_names.specs.declared.value.Value.TheVariants.{Int, Ref}
use Rattle.long_names.specs.Names.{IsName, IsLongName}
use Rattle.long_names.specs.Heap.{Heap, Has, IsBounded}
use Rattle.long_names.specs.Kept.{kept, no_roots}
use Rattle.long_names.specs.State.{TIMER_SEMAPHORE, INPUT_SEMAPHORE, DISPLAY}
use Rattle.long_names.proofs.ThinLemmas.{IsThinner-refl, IsWhole-bounded}
use Rattle.long_names.proofs.KeptLaws.{kept-thinner}
use Rattle.object_memory.specs.Told.{Told, IsReady}
use Rattle.blue_model.specs.declared.cpu.Cpu.{Cpu}
use Rattle.blue_model.specs.Machine.{Machine, Outcome, Go, Halt, Spent, ◌>>=◌}
use Rattle.blue_model.specs.Contexts.{start}
use Rattle.blue_model.specs.State.{State, begin, restore, name_kept, word_of, tick_or, tick_with}
use Rattle.blue_model.specs.State as model
use Rattle.blue_model.proofs.StartLaws.{Leaves, start_leaves}
use Rattle.contexts.specs.declared.stop.Stop.{Stop}
use Rattle.contexts.specs.Serves.{Stands, IsGo, Gives, Serves}
use Rattle.contexts.proofs.ServesLaws.{serves_then, by_model}
use Rattle.devices.specs.States.{word_by, state_by, StaysThere}
use Rattle.machine_run.specs.Run.{Begins}
use Rattle.machine_run.proofs.RunningLaws.{fits_none}
use Rattle.machine_run.specs.States.{IsUncached, KeepsWord, is_long_name, word_held, state_held, word_left, state_left, HasLongNames}

-- ---- the beginning

-- the name that a word was read as has that word
pub word_read : (t : Told) (word : ℕ) (name : Option ℕ) → KeepsWord t word → IsSome name ↔ IsName word → IfSome name (λ n. n ≡ word) → word_by name ≡ word
word_read t zero None keeps some value = refl
word_read t (suc n) None keeps some value = let no : ◌≡◌ {A = Bool} false true = some.1 keeps.0 in absurd (cc)
word_read t word (Some n) keeps some value = value

-- a start leaves what is kept with no roots
starts_keeping : (a mid : Told) (cpu between : Cpu) → IsReady a → IsReady mid → Serves a cpu mid between start (Ok tt) → IsTrue a.tells → IsUncached a → kept mid.heap no_roots ≡ kept a.heap no_roots
starts_keeping a mid cpu between before ready s told none = go (start machine) (s.model told machine stands) (start_leaves machine)
  where
    machine : Machine
    machine = record { heap = a.heap; regs = a.regs; slots = a.slots; transcript = a.transcript; cpu = cpu; largest = 0 }

    stands : Stands a cpu machine
    stands = record {
      heap = IsThinner-refl a.heap;
      regs = λ r low. refl;
      slots = refl;
      numbers = refl;
      fits = fits_none a.bounds;
      transcript = λ speaks. refl;
      cache = record { sound = λ c s m e. (let no : ◌≡◌ {A = Bool} false true = sym (none c s m) ∙ e in absurd (cc)) };
    }

    go : (o : Outcome (Unit {0})) → IsGo tt (Stands mid between) o → Leaves machine o → kept mid.heap no_roots ≡ kept a.heap no_roots
    go (Go u n log) g l =
        let whole = ready.whole (s.later.tells ∙ told) in
        kept-thinner n.heap mid.heap no_roots g.1.heap whole.closed whole.known (λ k e. let no : ◌≡◌ {A = Bool} false true = e in absurd (cc)) (subst IsBounded (sym l.0) (IsWhole-bounded a.heap a.regs a.slots (before.whole told)))
        ∙ ap (λ (h : Heap). kept h no_roots) l.0
    go (Halt c log) g l = absurd g
    go (Spent log) g l = absurd g

pub stays_there : (a mid : Told) (cpu between : Cpu) (word : ℕ) (name : Option ℕ) → IsReady a → IsReady mid → Serves a cpu mid between start (Ok tt) → (IsTrue a.tells → KeepsWord a word) → IsSome name ↔ IsName word → IfSome name (λ n. n ≡ word) → IsTrue mid.tells → StaysThere mid.heap name
stays_there a mid cpu between word None before ready s keeps some value told = tt
stays_there a mid cpu between zero (Some n) before ready s keeps some value told = let is = (some.0 refl).above in absurd (omega arith)
stays_there a mid cpu between (suc k) (Some n) before ready s keeps some value told =
    let first = sym s.later.tells ∙ told in
    let there = keeps first in
    subst (λ h. Has h n) (sym (starts_keeping a mid cpu between before ready s first there.1)) (subst (Has (kept a.heap no_roots)) (sym value) there.2)

-- a start, and going on from the names that were read, is a beginning with the words
pub begin_serves : {a mid new : Told} {cpu between now : Cpu} {r : Result (Unit {0}) Stop} (s : State) (display input timer : Option ℕ) → Serves a cpu mid between start (Ok tt) → Serves mid between new now (restore (state_by s.clock display input timer s.tick)) r → (IsTrue a.tells → word_by display ≡ s.display) → (IsTrue a.tells → word_by input ≡ s.input) → (IsTrue a.tells → word_by timer ≡ s.timer) → Serves a cpu new now (begin s) r
unfolding begin
begin_serves {a} {mid} {new} {cpu} {between} {now} {r} s display input timer first next d i t =
    by_model (start >>= λ _. restore (state_by s.clock display input timer s.tick)) (start >>= λ _. restore s)
    (λ m told st g. subst (λ x. Gives new now r ((start >>= λ _. restore x) m)) (same (d told) (i told) (t told)) g) (serves_then _ first next)
  where
    same : word_by display ≡ s.display → word_by input ≡ s.input → word_by timer ≡ s.timer → state_by s.clock display input timer s.tick ≡ s
    same d i t =
        ap (λ n. record s { display = n; input = word_by input; timer = word_by timer }) d
        ∙ ap (λ n. record s { input = n; timer = word_by timer }) i
        ∙ ap (λ n. record s { timer = n }) t

-- ---- a memory that begins with a heap may go on from names that the heap keeps

pub keeps-begun : (h : Heap) (t : Told) (word : ℕ) → Begins h t → IsReady t → IsTrue t.tells → IsBounded h → (0 < word → IsName word × Has (kept h no_roots) word) → KeepsWord t word
keeps-begun h t zero b ready told bounded has = tt
keeps-begun h t (suc n) b ready told bounded has =
    let there = has (omega arith) in
    let whole = ready.whole told in
    let same = kept-thinner h t.heap no_roots b.heap whole.closed whole.known (λ k e. let no : ◌≡◌ {A = Bool} false true = e in absurd (cc)) bounded in
    (there.0, b.rows, subst (λ x. Has x (suc n)) (sym same) there.1)

-- ---- what is kept of what is left

pub long_is : (n : ℕ) → IsLongName n → is_long_name n ≡ true
long_is n l = let even = l.0.even in let above = l.0.above in let low = l.1 in grind (arith, nat_tests)

pub is_long : (n : ℕ) → is_long_name n ≡ true → (n % 2 ≡ 0) × (0 < n) × (n < 2 ^ 32)
is_long n e = (grind (arith, nat_tests), grind (arith, nat_tests), grind (arith, nat_tests))

zero_left : (h : Heap) → word_left h 0 ≡ 0
zero_left h = go (is_some (h.at 0))
  where
    go : (b : Bool) → ◌≡◌ {A = ℕ} (cond b 0 0) 0
    go true = refl
    go false = refl

-- a number that is no name of 32 bits names nothing
nothing_at : (h : Heap) (n : ℕ) → HasLongNames h → is_long_name n ≡ false → is_some (h.at n) ≡ false
nothing_at h n long e = go (is_some (h.at n)) refl
  where
    go : (b : Bool) → is_some (h.at n) ≡ b → is_some (h.at n) ≡ false
    go true there = let no : true ≡ false = sym (long_is n (long n there)) ∙ e in absurd (cc)
    go false there = there

left_word : (h : Heap) (used : Bool) (v : Value) → HasLongNames h → word_left h (word_held used v) ≡ word_of h used v
left_word h false v long = zero_left h
left_word h true (Int z) long = zero_left h
left_word h true (Ref n) long = go (is_long_name n) refl
  where
    go : (b : Bool) → is_long_name n ≡ b → word_left h (cond (is_long_name n) n 0) ≡ name_kept h (Ref n)
    go true e = ap (λ b. word_left h (cond b n 0)) e
    go false e = ap (λ b. word_left h (cond b n 0)) e ∙ zero_left h ∙ sym (ap (λ b. cond b n 0) (nothing_at h n long e))

left_tick : (h : Heap) (timer : Option ℕ) (v : Value) → HasLongNames h → cond (is_some (h.at (word_held (is_some timer) v))) (tick_or timer) 0 ≡ tick_with (word_of h (is_some timer) v) timer
left_tick h None v long = go (is_some (h.at 0))
  where
    go : (b : Bool) → ◌≡◌ {A = ℕ} (cond b 0 0) 0
    go true = refl
    go false = refl
left_tick h (Some tick) (Int z) long = ap (λ b. cond b tick 0) (nothing_at h 0 long refl)
left_tick h (Some tick) (Ref n) long = go (is_long_name n) refl
  where
    there : (k : ℕ) (b : Bool) → 0 < k → cond b tick 0 ≡ tick_with (cond b k 0) (Some tick)
    there zero b above = absurd (omega arith)
    there (suc k) true above = refl
    there (suc k) false above = refl

    go : (b : Bool) → is_long_name n ≡ b → cond (is_some (h.at (cond (is_long_name n) n 0))) tick 0 ≡ tick_with (cond (is_some (h.at n)) n 0) (Some tick)
    go true e = ap (λ b. cond (is_some (h.at (cond b n 0))) tick 0) e ∙ there n (is_some (h.at n)) (is_long n e).1
    go false e =
        ap (λ b. cond (is_some (h.at (cond b n 0))) tick 0) e ∙ ap (λ b. cond b tick 0) (nothing_at h 0 long refl)
        ∙ sym (ap (λ b. tick_with (cond b n 0) (Some tick)) (nothing_at h n long e))

pub left_held : (h : Heap) (m : Machine) → HasLongNames h → state_left h (state_held m.regs m.cpu) ≡ model.state_in h m
left_held h m long =
    let display = left_word h m.cpu.display (m.regs DISPLAY) long in
    let input = left_word h m.cpu.input (m.regs INPUT_SEMAPHORE) long in
    let timer = left_word h (is_some m.cpu.timer) (m.regs TIMER_SEMAPHORE) long in
    let tick = left_tick h m.cpu.timer (m.regs TIMER_SEMAPHORE) long in
    let s = state_left h (state_held m.regs m.cpu) in
    ap (λ n. record s { display = n }) display
    ∙ ap (λ n. record s { display = word_of h m.cpu.display (m.regs DISPLAY); input = n }) input
    ∙ ap (λ n. record s { display = word_of h m.cpu.display (m.regs DISPLAY); input = word_of h m.cpu.input (m.regs INPUT_SEMAPHORE); timer = n }) timer
    ∙ ap (λ n. record (model.state_in h m) { tick = n }) tick

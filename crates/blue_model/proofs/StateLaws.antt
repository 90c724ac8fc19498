-- Starts on a state: the law of thinning, and that a start on no state is a start.
use Rattle.std.proofs.Common.{◌≡◌, ℕ, ℤ, false, List, [], ◌∷◌, ◌++◌, Option, Some, None, refl, sym, ◌∙◌, ap, subst}
use Rattle.long_names.specs.declared.value.Value.{Value}
use Rattle.long_names.specs.declared.value.Value.TheVariants.{Int, Ref}
use Rattle.long_names.specs.declared.object.Object.{Object}
use Rattle.long_names.specs.State.{INPUT_SEMAPHORE, TIMER_SEMAPHORE, DISPLAY}
use Rattle.blue_model.specs.declared.cause.Cause.{Cause}
use Rattle.blue_model.specs.declared.cause.Cause.TheVariants.{Shape}
use Rattle.blue_model.specs.declared.cpu.Cpu.{Cpu}
use Rattle.blue_model.specs.Machine.{Machine, LogRow, row_of, Outcome, Go, Halt, Spent, Rule, after, then_do, ◌>>=◌, done, given, look, part, known, numbers, set_numbers, put_register, clear, unpinned, unpin_all, with_pin, pinned, pin}
use Rattle.blue_model.specs.Contexts.{need_method, put_context, load_home, load, scheduler, active_process, start}
use Rattle.blue_model.specs.State.{State, no_state, name_in, hold, restore, begin}
use Rattle.blue_model.specs.Law.{IsThinned, HasState, Agree}
use Rattle.blue_model.specs.Alike.{Lost, IsPlain, Lawful}
use Rattle.blue_model.proofs.ClassLaws.{Answers, answers_look, answers_done, answers_halt}
use Rattle.blue_model.proofs.ComesLaws.{Comes, comes_then, comes_weaker, comes_put_register, comes_set_numbers, numbers_then}
use Rattle.blue_model.proofs.LawSteps.{respects_at, then_plain, then_value, law_named, law_put_register, law_numbers, law_set_numbers, done_plain}
use Rattle.blue_model.proofs.RuleLaws.{law-start}

-- ---- thinning

law-hold : {w : Lost} (r : ℕ) (name : Option ℕ) → ((n : ℕ) → name ≡ Some n → w.lost n ≡ false) → Lawful w IsPlain (hold r name)
law-hold {w} r None f = done_plain tt
law-hold {w} r (Some n) f = then_value _ (law_named n (f n refl)) (λ v k. law_put_register r v k)

law-begin : {w : Lost} (state : State) → ((n : ℕ) → name_in state.display ≡ Some n → w.lost n ≡ false) → ((n : ℕ) → name_in state.input ≡ Some n → w.lost n ≡ false) → ((n : ℕ) → name_in state.timer ≡ Some n → w.lost n ≡ false) → Lawful w IsPlain (begin state)
unfolding begin restore
law-begin {w} state display input timer =
    then_plain _ law-start (λ _.
    then_plain _ (law-hold DISPLAY (name_in state.display) display) (λ _.
    then_plain _ (law-hold INPUT_SEMAPHORE (name_in state.input) input) (λ _.
    then_plain _ (law-hold TIMER_SEMAPHORE (name_in state.timer) timer) (λ _.
    then_plain _ law_numbers (λ cpu. law_set_numbers _)))))

pub begins-agree : (state : State) (m s : Machine) → IsThinned m s → HasState state s.heap → Agree (begin state m) (begin state s)
begins-agree state m s h has = respects_at m s h (λ w there. law-begin state (λ n e. there n (has.display n e)) (λ n e. there n (has.input n e)) (λ n e. there n (has.timer n e)))

-- ---- no state

-- numbers that a state of zeros leaves as they are
abbrev IsFresh : Cpu → Type 0
IsFresh cpu = record cpu { base = 0; display = false; input = false; timer = None } ≡ cpu

-- and so does this rule
record Stays {A : Type 0} (p : Rule A) : Type 0 where
  to : (m : Machine) → IsFresh m.cpu → Comes m p (λ a s. IsFresh s.cpu)

stays_then : {A B : Type 0} {p : Rule A} (k : A → Rule B) → Stays p → ((a : A) → Stays (k a)) → Stays (p >>= k)
stays_then k first f = record { to = λ m fresh. comes_then {Q = λ a s. IsFresh s.cpu} k (first.to m fresh) (λ a n e. (f a).to n e) }

-- a rule that only looks
stays_looking : {A : Type 0} {p : Rule A} → ((m : Machine) → Answers m (λ a. Unit {0}) p) → Stays p
stays_looking {A} {p} f = record { to = λ m fresh. record { to = λ a s log e. subst (λ (x : Machine). IsFresh x.cpu) (sym ((f m).told a s log e).0) fresh } }

stays_done : {A : Type 0} (a : A) → Stays (done a)
stays_done a = stays_looking (λ m. answers_done a tt)

stays_given : {A : Type 0} (c : Cause) (x : Option A) → Stays (given c x)
unfolding given
stays_given c None = stays_looking (λ m. answers_halt c)
stays_given c (Some a) = stays_done a

stays_look : (v : Value) → Stays (look v)
stays_look v = stays_looking (λ m. record { told = λ a s log e. (((answers_look v).told a s log e).0, tt) })

stays_part : {A : Type 0} (c : Cause) (f : Object → Option A) (v : Value) → Stays (part c f v)
unfolding part
stays_part c f v = stays_then _ (stays_look v) (λ o. stays_given c (f o))

stays_known : (n : ℕ) → Stays (known n)
unfolding known
stays_known n = stays_then _ (stays_look (Ref n)) (λ o. stays_done (Ref n))

stays_put_register : (r : ℕ) (v : Value) → Stays (put_register r v)
stays_put_register r v = record { to = λ m fresh. comes_weaker (comes_put_register r v) (λ a s same. subst (λ (x : Machine). IsFresh x.cpu) (sym same) fresh) }

stays_unpin_all : Stays unpin_all
unfolding unpin_all
stays_unpin_all = record { to = λ m fresh. record { to = λ a s log e. let left : record m { slots = unpinned m.slots } ≡ s = cc in subst (λ (x : Machine). IsFresh x.cpu) left fresh } }

stays_pin : (slot : ℕ) (v : Value) → Stays (pin slot v)
unfolding pin
stays_pin slot v = record { to = λ m fresh. record { to = λ a s log e. go m fresh v a s log e } }
  where
    by : (m : Machine) → IsFresh m.cpu → (n : ℕ) (o : Option Object) (a : Unit {0}) (s : Machine) (log : List LogRow) → pinned m slot n o ≡ Go a s log → IsFresh s.cpu
    by m fresh n None a s log e = let no : ◌≡◌ {A = Outcome (Unit {0})} (Halt Shape (row_of m n ∷ [])) (Go a s log) = e in absurd (cc)
    by m fresh n (Some o) a s log e = let left : with_pin m slot n ≡ s = cc in subst (λ (x : Machine). IsFresh x.cpu) left fresh

    go : (m : Machine) → IsFresh m.cpu → (v : Value) (a : Unit {0}) (s : Machine) (log : List LogRow) → pin slot v m ≡ Go a s log → IsFresh s.cpu
    go m fresh (Int z) a s log e = let no : ◌≡◌ {A = Outcome (Unit {0})} (Halt Shape []) (Go a s log) = e in absurd (cc)
    go m fresh (Ref n) a s log e = by m fresh n (m.heap.at n) a s log e

-- the pointers alone are set
stays_set_pointers : (ip sp : ℤ) → Stays (numbers >>= λ cpu. set_numbers (record cpu { ip = ip; sp = sp }))
stays_set_pointers ip sp = record { to = λ m fresh. numbers_then _ (comes_weaker (comes_set_numbers _) (λ a s same. subst (λ (x : Machine). IsFresh x.cpu) (sym same) (ap (λ (c : Cpu). record c { ip = ip; sp = sp }) fresh))) }

ruleset staying = (stays_set_pointers, stays_then, stays_done, stays_given, stays_part, stays_known, stays_put_register, stays_unpin_all, stays_pin)

stays-load_home : (context home : Value) (ip depth : ℤ) → Stays (load_home context home ip depth)
unfolding load_home need_method put_context
stays-load_home context home ip depth = search staying depth 40

stays-load : (context : Value) → Stays (load context)
unfolding load
stays-load context = search (staying, stays-load_home) depth 20

stays-active_process : Stays active_process
unfolding active_process scheduler
stays-active_process = search staying depth 20

-- a start has them
start_fresh : (m : Machine) → Comes m start (λ a s. IsFresh s.cpu)
unfolding start clear
start_fresh m =
    comes_then {Q = λ a s. Unit {0}} _ (record { to = λ a s log e. tt }) (λ a n e.
    comes_then {Q = λ a s. IsFresh s.cpu} _ (comes_weaker (comes_set_numbers _) (λ a s same. subst (λ (x : Machine). IsFresh x.cpu) (sym same) refl)) (λ a n fresh.
    (stays_then _ stays-active_process (λ process. stays_then _ (stays_part Shape _ process) (λ context. stays-load context))).to n fresh))

no_state-restores : (m : Machine) → IsFresh m.cpu → restore no_state m ≡ Go tt m []
unfolding restore ◌>>=◌ done numbers set_numbers
no_state-restores m fresh = ap (λ c. Go tt (record m { cpu = c }) []) fresh

no_more : (log : List LogRow) → log ++ [] ≡ log
no_more [] = refl
no_more (row ∷ log) = ap (λ rows. row ∷ rows) (no_more log)

pub no_state-starts : (m : Machine) → begin no_state m ≡ start m
unfolding begin ◌>>=◌
no_state-starts m = go (start m) (λ a s log e. (start_fresh m).to a s log e)
  where
    go : (o : Outcome (Unit {0})) → ((a : Unit {0}) (s : Machine) (log : List LogRow) → o ≡ Go a s log → IsFresh s.cpu) → then_do o (λ a. restore no_state) ≡ o
    go (Go a s log) f = ap (after log) (no_state-restores s (f a s log refl)) ∙ ap (λ rows. Go tt s rows) (no_more log)
    go (Halt c log) f = refl
    go (Spent log) f = refl

-- No rule of a cycle changes whether a checkpoint may be made, and none comes to Keep where it may not. Nor does one change what the slots
-- have of registers 0 to 2, other than by loading a context. Here of each combinator.
use Rattle.std.proofs.Common.{◌&&◌, ◌≡◌, ◌<◌, ℕ, zero, suc, Bool, true, false, List, [], ◌++◌, Option, Some, None, refl, sym, ◌∙◌, ap, subst, subst₂, if◌then◌else◌, ne_eqb, nat_lt, arith}
use Rattle.std.proofs.lemmas.Bool.{ltb-true}
use Rattle.long_names.specs.declared.value.Value.{Value}
use Rattle.long_names.specs.declared.value.Value.TheVariants.{Int, Ref}
use Rattle.long_names.specs.declared.object.Object.{Object}
use Rattle.long_names.specs.declared.object.Body.{Body}
use Rattle.long_names.specs.Objects.{Making, field_of, text_of}
use Rattle.long_names.specs.State.{ACTIVE_CONTEXT, HOME, METHOD, set_register, object_at, class_at, part_at}
use Rattle.blue_model.specs.declared.answer.Answer.{Answer}
use Rattle.blue_model.specs.declared.answer.Answer.TheVariants as answer
use Rattle.blue_model.specs.declared.cause.Cause.{Cause}
use Rattle.blue_model.specs.declared.cpu.Cpu.{Cpu}
use Rattle.blue_model.specs.declared.step.Step.{Step}
use Rattle.blue_model.specs.declared.step.Step.TheVariants as step
use Rattle.blue_model.specs.Machine.{Machine, LogRow, Outcome, Go, Halt, Spent, Rule, after, then_do, ◌>>=◌, done, halt, given, pick, is_there, register, placed, put_register, clear, numbers, set_numbers, looked, look, part, known, classed, class_of, stored, store, changed, store_word, store_byte, object_made, added, made, make, spoken, say, times, each, is_free, swapped, swap}
use Rattle.blue_model.specs.Contexts.{load}
use Rattle.blue_model.specs.Cycle.{is_message}
use Rattle.blue_model.specs.Alike.{IsPlain}
use Rattle.blue_model.specs.BitBlt.{put_words}
use Rattle.blue_model.specs.Trials.{failed, where_some, where_true, ◌>>?◌, peek}
use Rattle.blue_model.specs.Primitives.{step_of}

-- What is kept: whether a checkpoint may be made, and a fact of registers 0 to 2 and the slots, which is so after each load of a context.
pub record Kept : Type 1 where
  pub vault : Bool
  pub pins : Value → Value → Value → (ℕ → Option ℕ) → Type 0
  pub loads : (context : Value) (m s : Machine) (log : List LogRow) → load context m ≡ Go tt s log → pins (s.regs ACTIVE_CONTEXT) (s.regs HOME) (s.regs METHOD) s.slots

-- the machine has it
pub record Holds (w : Kept) (m : Machine) : Type 0 where
  pub vault : m.cpu.vault ≡ w.vault
  pub pins : w.pins (m.regs ACTIVE_CONTEXT) (m.regs HOME) (m.regs METHOD) m.slots

-- From a machine that has it the rule comes to one that has it, and answers as Q says.
pub record Keeps (w : Kept) {A : Type 0} (Q : A → Type 0) (p : Rule A) : Type 0 where
  pub keeps : (m s : Machine) (a : A) (log : List LogRow) → Holds w m → p m ≡ Go a s log → Holds w s × Q a

-- a primitive and a bytecode may keep the machine where a checkpoint may be made
pub record MayKeep (w : Kept) (a : Answer) : Type 0 where
  pub may : a ≡ answer.Keep → w.vault ≡ true

pub record MayEnd (w : Kept) (end : Step) : Type 0 where
  pub may : end ≡ step.Keep → w.vault ≡ true

-- ---- rules in a row

pub keeps_then : {w : Kept} {A B : Type 0} {K : A → Type 0} {Q : B → Type 0} {p : Rule A} (k : A → Rule B) → Keeps w K p → ((a : A) → K a → Keeps w Q (k a)) → Keeps w Q (p >>= k)
unfolding ◌>>=◌
keeps_then {w} {A} {B} {K} {Q} {p} k first f = record { keeps = λ m s b log i e. go m (p m) refl s b log i e }
  where
    go : (m : Machine) (o : Outcome A) → p m ≡ o → (s : Machine) (b : B) (log : List LogRow) → Holds w m → then_do o k ≡ Go b s log → Holds w s × Q b
    go m (Go a n rows) h s b log i e = next (k a n) refl e
      where
        next : (o : Outcome B) → k a n ≡ o → after rows o ≡ Go b s log → Holds w s × Q b
        next (Go c t lines) g j =
            let same : c ≡ b = cc in
            let left : t ≡ s = cc in
            let here = first.keeps m n a rows i h in
            let there = (f a here.1).keeps n t c lines here.0 g in
            (subst (λ (x : Machine). Holds w x) left there.0, subst Q same there.1)
        next (Halt c lines) g j = let no : ◌≡◌ {A = Outcome B} (Halt c (rows ++ lines)) (Go b s log) = j in absurd (cc)
        next (Spent lines) g j = let no : ◌≡◌ {A = Outcome B} (Spent (rows ++ lines)) (Go b s log) = j in absurd (cc)
    go m (Halt c rows) h s b log i e = let no : ◌≡◌ {A = Outcome B} (Halt c rows) (Go b s log) = e in absurd (cc)
    go m (Spent rows) h s b log i e = let no : ◌≡◌ {A = Outcome B} (Spent rows) (Go b s log) = e in absurd (cc)

pub keeps_plain : {w : Kept} {A B : Type 0} {Q : B → Type 0} {p : Rule A} (k : A → Rule B) → Keeps w IsPlain p → ((a : A) → Keeps w Q (k a)) → Keeps w Q (p >>= k)
keeps_plain k f g = keeps_then k f (λ a _. g a)

pub keeps_answer : {w : Kept} {B : Type 0} {Q : B → Type 0} {p : Rule Answer} (k : Answer → Rule B) → Keeps w (MayKeep w) p → ((a : Answer) → MayKeep w a → Keeps w Q (k a)) → Keeps w Q (p >>= k)
keeps_answer k f g = keeps_then k f g

pub keeps_step : {w : Kept} {B : Type 0} {Q : B → Type 0} {p : Rule Step} (k : Step → Rule B) → Keeps w (MayEnd w) p → ((a : Step) → MayEnd w a → Keeps w Q (k a)) → Keeps w Q (p >>= k)
keeps_step k f g = keeps_then k f g

pub keeps_ends : {w : Kept} {A : Type 0} {Q : A → Type 0} (a : A) → Q a → Keeps w Q (done a)
unfolding done
keeps_ends {w} {A} {Q} a q = record { keeps = λ m s b log i e. let same : a ≡ b = cc in let left : m ≡ s = cc in (subst (λ (x : Machine). Holds w x) left i, subst Q same q) }

pub keeps_done : {w : Kept} {A : Type 0} (a : A) → Keeps w IsPlain (done a)
keeps_done a = keeps_ends a (record {})

pub keeps_halt : {w : Kept} {A : Type 0} {Q : A → Type 0} (c : Cause) → Keeps w Q (halt c)
unfolding halt
keeps_halt {w} {A} {Q} c = record { keeps = λ m s a log i e. let no : ◌≡◌ {A = Outcome A} (Halt c []) (Go a s log) = e in absurd (cc) }

pub keeps_pick : {w : Kept} {A : Type 0} {Q : A → Type 0} (b : Bool) (p q : Rule A) → Keeps w Q p → Keeps w Q q → Keeps w Q (pick b p q)
unfolding pick
keeps_pick true p q f g = f
keeps_pick false p q f g = g

pub keeps_given : {w : Kept} {A : Type 0} (c : Cause) (o : Option A) → Keeps w IsPlain (given c o)
unfolding given
keeps_given c None = keeps_halt c
keeps_given c (Some a) = keeps_done a

pub keeps_times : {w : Kept} (n : ℕ) (p : Rule (Unit {0})) → Keeps w IsPlain p → Keeps w IsPlain (times n p)
unfolding times
keeps_times zero p f = keeps_done tt
keeps_times (suc n) p f = keeps_plain (λ _. p) (keeps_times n p f) (λ a. f)

pub keeps_each : {w : Kept} (p : ℕ → Rule (Unit {0})) (n : ℕ) → ((i : ℕ) → Keeps w IsPlain (p i)) → Keeps w IsPlain (each p n)
unfolding each
keeps_each {w} p zero f = keeps_done tt
keeps_each {w} p (suc n) f = keeps_plain (λ _. p n) (keeps_each {w = w} p n f) (λ _. f n)

-- ---- numbers

pub keeps_numbers : {w : Kept} {B : Type 0} {Q : B → Type 0} (k : Cpu → Rule B) → ((cpu : Cpu) → cpu.vault ≡ w.vault → Keeps w Q (k cpu)) → Keeps w Q (numbers >>= k)
unfolding numbers
keeps_numbers {w} {B} {Q} k f = keeps_then {K = λ (c : Cpu). c.vault ≡ w.vault} k (record { keeps = λ m s c log i e. let same : m.cpu ≡ c = cc in let left : m ≡ s = cc in (subst (λ (x : Machine). Holds w x) left i, subst (λ (x : Cpu). x.vault ≡ w.vault) same i.vault) }) f

pub keeps_set_numbers : {w : Kept} (cpu : Cpu) → cpu.vault ≡ w.vault → Keeps w IsPlain (set_numbers cpu)
unfolding set_numbers
keeps_set_numbers {w} cpu q = record { keeps = λ m s c log i e. let left : record m { cpu = cpu } ≡ s = cc in (subst (λ (x : Machine). Holds w x) left (record { vault = q; pins = i.pins }), record {}) }

-- ---- what leaves the numbers, registers 0 to 2 and the slots as they are

abbrev Leaves : {A : Type 0} → Machine → Outcome A → Type 0
Leaves m (Go a s log) = (s.cpu ≡ m.cpu) × (s.regs ACTIVE_CONTEXT ≡ m.regs ACTIVE_CONTEXT) × (s.regs HOME ≡ m.regs HOME) × (s.regs METHOD ≡ m.regs METHOD) × (s.slots ≡ m.slots)
Leaves m (Halt c log) = Unit {0}
Leaves m (Spent log) = Unit {0}

leaves : {w : Kept} {A : Type 0} {p : Rule A} → ((m : Machine) → Leaves m (p m)) → Keeps w IsPlain p
leaves {w} {A} {p} f = record { keeps = λ m s a log i e. (go m s i (subst (Leaves m) e (f m)), record {}) }
  where
    go : (m s : Machine) → Holds w m → (s.cpu ≡ m.cpu) × (s.regs ACTIVE_CONTEXT ≡ m.regs ACTIVE_CONTEXT) × (s.regs HOME ≡ m.regs HOME) × (s.regs METHOD ≡ m.regs METHOD) × (s.slots ≡ m.slots) → Holds w s
    go m s i (cpu, context, home, method, slots) = record {
      vault = ap (λ (c : Cpu). c.vault) cpu ∙ i.vault;
      pins = subst₂ (λ a b. w.pins a b (s.regs METHOD) s.slots) (sym context) (sym home) (subst₂ (λ a y. w.pins (m.regs ACTIVE_CONTEXT) (m.regs HOME) a y) (sym method) (sym slots) i.pins);
    }

abbrev all_left : (m : Machine) → (m.cpu ≡ m.cpu) × (m.regs ACTIVE_CONTEXT ≡ m.regs ACTIVE_CONTEXT) × (m.regs HOME ≡ m.regs HOME) × (m.regs METHOD ≡ m.regs METHOD) × (m.slots ≡ m.slots)
all_left m = (refl, refl, refl, refl, refl)

pub keeps_register : {w : Kept} (r : ℕ) → Keeps w IsPlain (register r)
unfolding register
keeps_register r = leaves (λ m. all_left m)

-- of a register behind the three
pub keeps_put_register : {w : Kept} (r : ℕ) (v : Value) → nat_lt METHOD r ≡ true → Keeps w IsPlain (put_register r v)
unfolding put_register
keeps_put_register r v behind = leaves (λ m. go m (is_there m.heap v))
  where
    left : (regs : ℕ → Value) (b : Bool) (q : ℕ) → q < 3 → (if b then set_register regs r v else regs) q ≡ regs q
    left regs true q low = let high : METHOD < r = ltb-true METHOD r behind in ap (λ c. if c then v else regs q) (ne_eqb q r (λ e. omega arith))
    left regs false q low = refl

    go : (m : Machine) (b : Bool) → Leaves m (placed m r v b)
    go m true = (refl, left m.regs _ ACTIVE_CONTEXT (omega arith), left m.regs _ HOME (omega arith), left m.regs _ METHOD (omega arith), refl)
    go m false = tt

pub keeps_clear : {w : Kept} → Keeps w IsPlain (clear is_message)
unfolding clear
keeps_clear = leaves (λ m. all_left m)

pub keeps_look : {w : Kept} (v : Value) → Keeps w IsPlain (look v)
unfolding look
keeps_look v = leaves (λ m. go m (object_at m.heap v))
  where
    go : (m : Machine) (o : Option Object) → Leaves m (looked m v o)
    go m None = tt
    go m (Some o) = all_left m

pub keeps_part : {w : Kept} {A : Type 0} (c : Cause) (f : Object → Option A) (v : Value) → Keeps w IsPlain (part c f v)
unfolding part
keeps_part c f v = keeps_plain _ (keeps_look v) (λ o. keeps_given c (f o))

pub keeps_known : {w : Kept} (n : ℕ) → Keeps w IsPlain (known n)
unfolding known
keeps_known n = keeps_plain _ (keeps_look (Ref n)) (λ o. keeps_done (Ref n))

pub keeps_class_of : {w : Kept} (v : Value) → Keeps w IsPlain (class_of v)
unfolding class_of
keeps_class_of v = leaves (λ m. go m (class_at m.heap v))
  where
    go : (m : Machine) (o : Option ℕ) → Leaves m (classed m v o)
    go m None = tt
    go m (Some class) = all_left m

pub keeps_store : {w : Kept} (v : Value) (i : ℕ) (x : Value) → Keeps w IsPlain (store v i x)
unfolding store
keeps_store v i x = leaves (λ m. go m (part_at m.heap v (λ b. field_of b i)) (is_there m.heap x))
  where
    go : (m : Machine) (old : Option Value) (b : Bool) → Leaves m (stored m v i x old b)
    go m None b = tt
    go m (Some old) false = tt
    go m (Some old) true = all_left m

changing : (v : Value) (change : Body → Body) (m : Machine) (b : Bool) → Leaves m (changed m v change b)
changing v change m true = all_left m
changing v change m false = tt

pub keeps_swap : {w : Kept} (v x : Value) → Keeps w IsPlain (swap v x)
unfolding swap
keeps_swap v x = leaves (λ m. go m (is_free m v && is_free m x))
  where
    go : (m : Machine) (b : Bool) → Leaves m (swapped m v x b)
    go m true = all_left m
    go m false = tt

pub keeps_store_word : {w : Kept} (v : Value) (i word : ℕ) → Keeps w IsPlain (store_word v i word)
unfolding store_word
keeps_store_word v i word = leaves (λ m. changing v _ m _)

pub keeps_store_byte : {w : Kept} (v : Value) (i byte : ℕ) → Keeps w IsPlain (store_byte v i byte)
unfolding store_byte
keeps_store_byte v i byte = leaves (λ m. changing v _ m _)

pub keeps_put_words : {w : Kept} (v : Value) (words : List ℕ) → Keeps w IsPlain (put_words v words)
unfolding put_words
keeps_put_words v words = leaves (λ m. changing v _ m _)

pub keeps_make : {w : Kept} (class : Value) (what : Making) → Keeps w IsPlain (make class what)
unfolding make
keeps_make class what = leaves (λ m. go m (object_made class what) _)
  where
    adding : (m : Machine) (o : Object) (b : Bool) → Leaves m (added m o b)
    adding m o true = all_left m
    adding m o false = tt

    go : (m : Machine) (o : Object) (b : Bool) → Leaves m (made m o b)
    go m o true = adding m o _
    go m o false = tt

pub keeps_say : {w : Kept} (v : Value) → Keeps w IsPlain (say v)
unfolding say
keeps_say v = leaves (λ m. go m (part_at m.heap v text_of))
  where
    go : (m : Machine) (o : Option (List ℕ)) → Leaves m (spoken m v o)
    go m None = tt
    go m (Some bytes) = all_left m

-- ---- primitives and bytecodes

pub answer_done : {w : Kept} → Keeps w (MayKeep w) (done answer.Done)
answer_done {w} = keeps_ends answer.Done (record { may = λ e. absurd (cc) })

pub answer_execute : {w : Kept} → Keeps w (MayKeep w) (done answer.Execute)
answer_execute {w} = keeps_ends answer.Execute (record { may = λ e. absurd (cc) })

pub answer_quit : {w : Kept} → Keeps w (MayKeep w) (done answer.Quit)
answer_quit {w} = keeps_ends answer.Quit (record { may = λ e. absurd (cc) })

pub keeps_failed : {w : Kept} → Keeps w (MayKeep w) failed
unfolding failed
keeps_failed {w} = keeps_ends answer.Failed (record { may = λ e. absurd (cc) })

pub answer_again : {w : Kept} (a : Answer) → MayKeep w a → Keeps w (MayKeep w) (done a)
answer_again a k = keeps_ends a k

pub step_next : {w : Kept} → Keeps w (MayEnd w) (done step.Next)
step_next {w} = keeps_ends step.Next (record { may = λ e. absurd (cc) })

pub step_by : {w : Kept} (a : Answer) → MayKeep w a → Keeps w (MayEnd w) (done (step_of a))
step_by {w} a k = keeps_ends (step_of a) (record { may = go a k })
  where
    go : (a : Answer) → MayKeep w a → step_of a ≡ step.Keep → w.vault ≡ true
    go answer.Done k e = absurd (cc)
    go answer.Failed k e = absurd (cc)
    go answer.Execute k e = absurd (cc)
    go answer.Quit k e = absurd (cc)
    go answer.Keep k e = k.may refl

pub step_again : {w : Kept} (end : Step) → MayEnd w end → Keeps w (MayEnd w) (done end)
step_again end k = keeps_ends end k

pub keeps_where_some : {w : Kept} {A : Type 0} (o : Option A) (k : A → Rule Answer) → ((a : A) → Keeps w (MayKeep w) (k a)) → Keeps w (MayKeep w) (where_some o k)
unfolding where_some
keeps_where_some None k f = keeps_failed
keeps_where_some (Some a) k f = f a

pub keeps_where_true : {w : Kept} (b : Bool) (p : Rule Answer) → Keeps w (MayKeep w) p → Keeps w (MayKeep w) (where_true b p)
unfolding where_true
keeps_where_true b p f = keeps_pick b p failed f keeps_failed

pub keeps_try : {w : Kept} {A : Type 0} {p : Rule (Option A)} (k : A → Rule Answer) → Keeps w IsPlain p → ((a : A) → Keeps w (MayKeep w) (k a)) → Keeps w (MayKeep w) (p >>? k)
unfolding ◌>>?◌
keeps_try k first f = keeps_plain _ first (λ o. keeps_where_some o k f)

pub keeps_peek : {w : Kept} {A : Type 0} (f : Object → Option A) (v : Value) → Keeps w IsPlain (peek f v)
unfolding peek
keeps_peek f (Int z) = keeps_done None
keeps_peek f (Ref n) = keeps_plain _ (keeps_look (Ref n)) (λ o. keeps_done (f o))

-- the machine is kept only where it may be
pub keep_where : {w : Kept} (b : Bool) → b ≡ w.vault → Keeps w (MayKeep w) (where_true b (done answer.Keep))
unfolding where_true pick
keep_where true e = keeps_ends answer.Keep (record { may = λ f. sym e })
keep_where false e = keeps_failed

pub ruleset keeping = (keeps_numbers, keeps_plain, keeps_answer, keeps_step, keeps_pick, keeps_done, keeps_halt, keeps_given, keeps_times, keeps_each, keeps_set_numbers, keeps_register, keeps_put_register, keeps_clear, keeps_look, keeps_part, keeps_known, keeps_class_of, keeps_store, keeps_swap, keeps_store_word, keeps_store_byte, keeps_put_words, keeps_make, keeps_say, answer_done, answer_execute, answer_quit, answer_again, keeps_failed, step_next, step_by, step_again, keeps_where_some, keeps_where_true, keeps_try, keeps_peek)

-- What was said before changes nothing, for each combinator.
use Rattle.std.proofs.Common.{◌≡◌, ℕ, zero, suc, Bool, true, false, nat_lt, ◌&&◌, List, Option, Some, None, refl, ◌∙◌, ap}
use Rattle.std.proofs.lemmas.List.{append_assoc}
use Rattle.long_names.specs.declared.value.Value.{Value}
use Rattle.long_names.specs.declared.value.Value.TheVariants.{Int, Ref}
use Rattle.long_names.specs.declared.object.Object.{Object}
use Rattle.long_names.specs.declared.object.Body.{Body}
use Rattle.long_names.specs.Names.{NIL}
use Rattle.long_names.specs.Objects.{Making, field_of, text_of}
use Rattle.long_names.specs.State.{object_at, class_at, part_at}
use Rattle.blue_model.specs.declared.answer.Answer.{Answer}
use Rattle.blue_model.specs.declared.cause.Cause.{Cause}
use Rattle.blue_model.specs.declared.cpu.Cpu.{Cpu}
use Rattle.blue_model.specs.Machine.{Machine, LogRow, Outcome, Go, Halt, Spent, Rule, after, then_do, ◌>>=◌, done, halt, given, pick, is_there, register, placed, put_register, clear, numbers, set_numbers, rows_at, looked, look, part, known, classed, class_of, stored, store, changed, store_word, store_byte, is_free, swapped, swap, object_made, added, made, make, unpin_all, pinned, pin, spoken, say, times, each}
use Rattle.blue_model.specs.BitBlt.{put_words}
use Rattle.blue_model.specs.Trials.{failed, where_some, where_true, ◌>>?◌, peek}
use Rattle.blue_model.specs.Earlier.{with_earlier, outcome_with_earlier, IgnoresEarlier}

-- ---- in a row

earlier_after : {A : Type 0} (z : List ℕ) (rows : List LogRow) (o : Outcome A) → after rows (outcome_with_earlier z o) ≡ outcome_with_earlier z (after rows o)
earlier_after z rows (Go a m log) = refl
earlier_after z rows (Halt c log) = refl
earlier_after z rows (Spent log) = refl

earlier_then : {A B : Type 0} (z : List ℕ) (o : Outcome A) (k : A → Rule B) → ((a : A) → IgnoresEarlier (k a)) → then_do (outcome_with_earlier z o) k ≡ outcome_with_earlier z (then_do o k)
earlier_then z (Go a m log) k f = ap (after log) ((f a).same z m) ∙ earlier_after z log (k a m)
earlier_then z (Halt c log) k f = refl
earlier_then z (Spent log) k f = refl

pub ignores_then : {A B : Type 0} {p : Rule A} (k : A → Rule B) → IgnoresEarlier p → ((a : A) → IgnoresEarlier (k a)) → IgnoresEarlier (p >>= k)
unfolding ◌>>=◌
ignores_then {A} {B} {p} k first f = record { same = λ z m. ap (λ (o : Outcome A). then_do o k) (first.same z m) ∙ earlier_then z (p m) k f }

pub ignores_pick : {A : Type 0} (b : Bool) (p q : Rule A) → IgnoresEarlier p → IgnoresEarlier q → IgnoresEarlier (pick b p q)
unfolding pick
ignores_pick true p q f g = f
ignores_pick false p q f g = g

pub ignores_done : {A : Type 0} (a : A) → IgnoresEarlier (done a)
unfolding done
ignores_done a = record { same = λ z m. refl }

pub ignores_halt : {A : Type 0} (c : Cause) → IgnoresEarlier (halt {A = A} c)
unfolding halt
ignores_halt c = record { same = λ z m. refl }

pub ignores_given : {A : Type 0} (c : Cause) (o : Option A) → IgnoresEarlier (given c o)
unfolding given
ignores_given c None = ignores_halt c
ignores_given c (Some a) = ignores_done a

pub ignores_times : (n : ℕ) (p : Rule (Unit {0})) → IgnoresEarlier p → IgnoresEarlier (times n p)
unfolding times
ignores_times zero p f = ignores_done tt
ignores_times (suc n) p f = ignores_then (λ _. p) (ignores_times n p f) (λ _. f)

pub ignores_each : (p : ℕ → Rule (Unit {0})) (n : ℕ) → ((i : ℕ) → IgnoresEarlier (p i)) → IgnoresEarlier (each p n)
unfolding each
ignores_each p zero f = ignores_done tt
ignores_each p (suc n) f = ignores_then (λ _. p n) (ignores_each p n f) (λ _. f n)

-- ---- registers and numbers

pub ignores_register : (r : ℕ) → IgnoresEarlier (register r)
unfolding register
ignores_register r = record { same = λ z m. refl }

pub ignores_put_register : (r : ℕ) (v : Value) → IgnoresEarlier (put_register r v)
unfolding put_register
ignores_put_register r v = record { same = λ z m. go z m (is_there m.heap v) }
  where
    go : (z : List ℕ) (m : Machine) (b : Bool) → placed (with_earlier z m) r v b ≡ outcome_with_earlier z (placed m r v b)
    go z m true = refl
    go z m false = refl

pub ignores_clear : (among : ℕ → Bool) → IgnoresEarlier (clear among)
unfolding clear
ignores_clear among = record { same = λ z m. refl }

pub ignores_numbers : IgnoresEarlier numbers
unfolding numbers
ignores_numbers = record { same = λ z m. refl }

pub ignores_set_numbers : (cpu : Cpu) → IgnoresEarlier (set_numbers cpu)
unfolding set_numbers
ignores_set_numbers cpu = record { same = λ z m. refl }

-- ---- objects

pub ignores_look : (v : Value) → IgnoresEarlier (look v)
unfolding look
ignores_look v = record { same = λ z m. go z m (object_at m.heap v) }
  where
    go : (z : List ℕ) (m : Machine) (o : Option Object) → looked (with_earlier z m) v o ≡ outcome_with_earlier z (looked m v o)
    go z m None = refl
    go z m (Some o) = refl

pub ignores_part : {A : Type 0} (c : Cause) (f : Object → Option A) (v : Value) → IgnoresEarlier (part c f v)
unfolding part
ignores_part c f v = ignores_then _ (ignores_look v) (λ o. ignores_given c (f o))

pub ignores_known : (n : ℕ) → IgnoresEarlier (known n)
unfolding known
ignores_known n = ignores_then _ (ignores_look (Ref n)) (λ o. ignores_done (Ref n))

pub ignores_class_of : (v : Value) → IgnoresEarlier (class_of v)
unfolding class_of
ignores_class_of v = record { same = λ z m. go z m (class_at m.heap v) }
  where
    go : (z : List ℕ) (m : Machine) (o : Option ℕ) → classed (with_earlier z m) v o ≡ outcome_with_earlier z (classed m v o)
    go z m None = refl
    go z m (Some class) = refl

pub ignores_store : (v : Value) (i : ℕ) (x : Value) → IgnoresEarlier (store v i x)
unfolding store
ignores_store v i x = record { same = λ z m. go z m (part_at m.heap v (λ b. field_of b i)) (is_there m.heap x) }
  where
    go : (z : List ℕ) (m : Machine) (old : Option Value) (b : Bool) → stored (with_earlier z m) v i x old b ≡ outcome_with_earlier z (stored m v i x old b)
    go z m None b = refl
    go z m (Some old) false = refl
    go z m (Some old) true = refl

earlier_changed : (v : Value) (change : Body → Body) (z : List ℕ) (m : Machine) (b : Bool) → changed (with_earlier z m) v change b ≡ outcome_with_earlier z (changed m v change b)
earlier_changed v change z m true = refl
earlier_changed v change z m false = refl

pub ignores_store_word : (v : Value) (i word : ℕ) → IgnoresEarlier (store_word v i word)
unfolding store_word
ignores_store_word v i word = record { same = λ z m. earlier_changed v _ z m _ }

pub ignores_store_byte : (v : Value) (i byte : ℕ) → IgnoresEarlier (store_byte v i byte)
unfolding store_byte
ignores_store_byte v i byte = record { same = λ z m. earlier_changed v _ z m _ }

pub ignores_put_words : (v : Value) (words : List ℕ) → IgnoresEarlier (put_words v words)
unfolding put_words
ignores_put_words v words = record { same = λ z m. earlier_changed v _ z m _ }

pub ignores_swap : (v x : Value) → IgnoresEarlier (swap v x)
unfolding swap
ignores_swap v x = record { same = λ z m. go z m (is_free m v && is_free m x) }
  where
    go : (z : List ℕ) (m : Machine) (b : Bool) → swapped (with_earlier z m) v x b ≡ outcome_with_earlier z (swapped m v x b)
    go z m true = refl
    go z m false = refl

pub ignores_make : (class : Value) (what : Making) → IgnoresEarlier (make class what)
unfolding make
ignores_make class what = record { same = λ z m. go z m (object_made class what) (nat_lt m.heap.next _) }
  where
    adding : (z : List ℕ) (m : Machine) (o : Object) (b : Bool) → added (with_earlier z m) o b ≡ outcome_with_earlier z (added m o b)
    adding z m o true = refl
    adding z m o false = refl

    go : (z : List ℕ) (m : Machine) (o : Object) (b : Bool) → made (with_earlier z m) o b ≡ outcome_with_earlier z (made m o b)
    go z m o true = adding z m o (is_there m.heap (Ref o.class) && is_there m.heap (Ref NIL))
    go z m o false = refl

-- ---- pins

pub ignores_unpin_all : IgnoresEarlier unpin_all
unfolding unpin_all
ignores_unpin_all = record { same = λ z m. refl }

pub ignores_pin : (slot : ℕ) (v : Value) → IgnoresEarlier (pin slot v)
unfolding pin
ignores_pin slot (Int z) = record { same = λ z m. refl }
ignores_pin slot (Ref n) = record { same = λ z m. go z m (m.heap.at n) }
  where
    go : (z : List ℕ) (m : Machine) (o : Option Object) → pinned (with_earlier z m) slot n o ≡ outcome_with_earlier z (pinned m slot n o)
    go z m None = refl
    go z m (Some o) = refl

-- ---- saying

pub ignores_say : (v : Value) → IgnoresEarlier (say v)
unfolding say
ignores_say v = record { same = λ z m. go z m (part_at m.heap v text_of) }
  where
    go : (z : List ℕ) (m : Machine) (o : Option (List ℕ)) → spoken (with_earlier z m) v o ≡ outcome_with_earlier z (spoken m v o)
    go z m None = refl
    go z m (Some bytes) = ap (λ t. Go tt (record m { transcript = t }) (rows_at m v)) (append_assoc z m.transcript bytes)

-- ---- conditions

pub ignores_failed : IgnoresEarlier failed
unfolding failed
ignores_failed = ignores_done _

pub ignores_where_some : {A : Type 0} (o : Option A) (k : A → Rule Answer) → ((a : A) → IgnoresEarlier (k a)) → IgnoresEarlier (where_some o k)
unfolding where_some
ignores_where_some None k f = ignores_failed
ignores_where_some (Some a) k f = f a

pub ignores_where_true : (b : Bool) (p : Rule Answer) → IgnoresEarlier p → IgnoresEarlier (where_true b p)
unfolding where_true
ignores_where_true b p f = ignores_pick b p failed f ignores_failed

pub ignores_try : {A : Type 0} {p : Rule (Option A)} (k : A → Rule Answer) → IgnoresEarlier p → ((a : A) → IgnoresEarlier (k a)) → IgnoresEarlier (p >>? k)
unfolding ◌>>?◌
ignores_try k first f = ignores_then _ first (λ o. ignores_where_some o k f)

pub ignores_peek : {A : Type 0} (f : Object → Option A) (v : Value) → IgnoresEarlier (peek f v)
unfolding peek
ignores_peek f (Int z) = ignores_done None
ignores_peek f (Ref n) = ignores_then _ (ignores_look (Ref n)) (λ o. ignores_done (f o))

pub ruleset ignoring = (ignores_then, ignores_pick, ignores_done, ignores_halt, ignores_given, ignores_times, ignores_each, ignores_register, ignores_put_register, ignores_clear, ignores_numbers, ignores_set_numbers, ignores_look, ignores_part, ignores_known, ignores_class_of, ignores_store, ignores_store_word, ignores_store_byte, ignores_put_words, ignores_swap, ignores_make, ignores_unpin_all, ignores_pin, ignores_say, ignores_failed, ignores_where_some, ignores_where_true, ignores_try, ignores_peek)

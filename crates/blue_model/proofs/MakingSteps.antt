-- How many objects a rule makes, for each combinator.
-- `MakesNone p` and `MakesAtMost n p` say it of any rule, `MakesSparingly p` of a primitive: one that fails, or has a method executed,
-- makes nothing, so that activating the method may come after it. `EndsDone p` is what comes after a making in a primitive. All say
-- that what is made has the names from the next one on. The laws of rules are in `MakingLaws`, one search each.
use Rattle.blue_model.specs.BitBlt.{put_words}
use Rattle.std.proofs.Common.{zero, suc, ◌≡◌, ℕ, ◌+◌, ◌*◌, ◌≤◌, Bool, true, false, nat_lt, cond, ◌&&◌, List, [], ◌∷◌, ◌++◌, Option, Some, None, refl, sym, ◌∙◌, ap, ap₂, arith}
use Rattle.std.specs.Prelude.{max}
use Rattle.std.specs.Option.{option_map_or}
use Rattle.long_names.specs.declared.value.Value.{Value}
use Rattle.long_names.specs.declared.value.Value.TheVariants.{Int, Ref}
use Rattle.long_names.specs.declared.object.Object.{Object}
use Rattle.long_names.specs.declared.object.Body.{Body}
use Rattle.long_names.specs.declared.limits.TheConstants.{LAST_NAME}
use Rattle.long_names.specs.Names.{NIL}
use Rattle.long_names.specs.Objects.{Making, with_field, field_of, text_of}
use Rattle.long_names.specs.Heap.{Heap, put_object}
use Rattle.long_names.specs.State.{object_at, class_at, part_at}
use Rattle.long_names.specs.Access.{with_swapped, with_body}
use Rattle.blue_model.specs.declared.cause.Cause.{Cause}
use Rattle.blue_model.specs.declared.cpu.Cpu.{Cpu}
use Rattle.blue_model.specs.declared.answer.Answer.{Answer}
use Rattle.blue_model.specs.declared.answer.Answer.TheVariants.{Done, Failed, Execute, Quit, Keep}
use Rattle.blue_model.specs.Machine.{Machine, LogRow, Outcome, Go, Halt, Spent, Rule, after, then_do, ◌>>=◌, done, halt, given, pick, is_there, register, placed, put_register, clear, numbers, set_numbers, rows_at, looked, look, part, known, classed, class_of, stored, store, changed, store_word, store_byte, object_made, added, made, make, unpin_all, pinned, pin, spoken, say, times, each, is_free, swapped, swap}
use Rattle.blue_model.specs.Trials.{failed, where_some, where_true, ◌>>?◌, peek}
use Rattle.blue_model.specs.Logs.{made_in, names_from, largest_after}

-- ---- logs in a row

made_join : (xs ys : List LogRow) → made_in (xs ++ ys) ≡ made_in xs ++ made_in ys
made_join [] ys = refl
made_join (row ∷ rows) ys = go row.makes (made_join rows ys)
  where
    go : (b : Bool) → made_in (rows ++ ys) ≡ made_in rows ++ made_in ys → cond b (row.object ∷ made_in (rows ++ ys)) (made_in (rows ++ ys)) ≡ cond b (row.object ∷ made_in rows) (made_in rows) ++ made_in ys
    go true e = ap (λ x. row.object ∷ x) e
    go false e = e

pub largest_join : (words : ℕ) (xs ys : List LogRow) → largest_after words (xs ++ ys) ≡ largest_after (largest_after words xs) ys
largest_join words [] ys = refl
largest_join words (row ∷ rows) ys = go row.makes (largest_join (max words row.own) rows ys) (largest_join words rows ys)
  where
    go : (b : Bool) → largest_after (max words row.own) (rows ++ ys) ≡ largest_after (largest_after (max words row.own) rows) ys → largest_after words (rows ++ ys) ≡ largest_after (largest_after words rows) ys → cond b (largest_after (max words row.own) (rows ++ ys)) (largest_after words (rows ++ ys)) ≡ largest_after (cond b (largest_after (max words row.own) rows) (largest_after words rows)) ys
    go true e f = e
    go false e f = f

names_join : (n j k : ℕ) → names_from n j ++ names_from (n + 2 * j) k ≡ names_from n (j + k)
names_join n zero k = let here : n + 2 * 0 ≡ n = omega arith in let none : k ≡ 0 + k = omega arith in ap (λ x. names_from x k) here ∙ ap (names_from n) none
names_join n (suc j) k =
    let there : n + 2 * suc j ≡ n + 2 + 2 * j = omega arith in
    let more : suc j + k ≡ suc (j + k) = omega arith in
    ap (λ x. n ∷ (names_from (n + 2) j ++ names_from x k)) there ∙ ap (λ x. n ∷ x) (names_join (n + 2) j k) ∙ ap (names_from n) (sym more)

-- ---- what an outcome has made

-- The log has the makings of so many objects, under the names from the next one on. P says how many may come with an answer, and most
-- how many with a stop. With an answer the machine knows the largest of them.
abbrev pub Makes : {A : Type 0} → (A → ℕ → Type 0) → ℕ → Machine → Outcome A → Type 0
Makes P most m (Go a s log) = (k : ℕ) × P a k × (made_in log ≡ names_from m.heap.next k) × (s.heap.next ≡ m.heap.next + 2 * k) × (s.largest ≡ largest_after m.largest log)
Makes P most m (Halt c log) = (k : ℕ) × (k ≤ most) × (made_in log ≡ names_from m.heap.next k)
Makes P most m (Spent log) = (k : ℕ) × (k ≤ most) × (made_in log ≡ names_from m.heap.next k)

-- rows and then others
made_then : (rows log : List LogRow) (n next j k : ℕ) → made_in rows ≡ names_from n j → next ≡ n + 2 * j → made_in log ≡ names_from next k → made_in (rows ++ log) ≡ names_from n (j + k)
made_then rows log n next j k e same f = made_join rows log ∙ ap₂ (λ x y. x ++ y) e (f ∙ ap (λ x. names_from x k) same) ∙ names_join n j k

pub makes_then : {A B : Type 0} (P : A → ℕ → Type 0) (most : ℕ) (Q : A → B → ℕ → Type 0) (more : A → ℕ) (R : B → ℕ → Type 0) (all : ℕ) (m : Machine) (o : Outcome A) (k : A → Rule B) → Makes P most m o → ((a : A) (s : Machine) → Makes (Q a) (more a) s (k a s)) → ((a : A) (b : B) (i j : ℕ) → P a i → Q a b j → R b (i + j)) → ((a : A) (i j : ℕ) → P a i → j ≤ more a → i + j ≤ all) → most ≤ all → Makes R all m (then_do o k)
makes_then {A} {B} P most Q more R all m (Go a s log) k h f both stop low = go (k a s) (f a s)
  where
    go : (o : Outcome B) → Makes (Q a) (more a) s o → Makes R all m (after log o)
    go (Go b t rows) g = (h.0 + g.0, both a b h.0 g.0 h.1 g.1, made_then log rows m.heap.next s.heap.next h.0 g.0 h.2 h.3 g.2, (let first = h.3 in let then = g.3 in omega arith), g.4 ∙ ap (λ words. largest_after words rows) h.4 ∙ sym (largest_join m.largest log rows))
    go (Halt c rows) g = (h.0 + g.0, stop a h.0 g.0 h.1 g.1, made_then log rows m.heap.next s.heap.next h.0 g.0 h.2 h.3 g.2)
    go (Spent rows) g = (h.0 + g.0, stop a h.0 g.0 h.1 g.1, made_then log rows m.heap.next s.heap.next h.0 g.0 h.2 h.3 g.2)
makes_then P most Q more R all m (Halt c log) k h f both stop low = let few = h.1 in (h.0, omega arith, h.2)
makes_then P most Q more R all m (Spent log) k h f both stop low = let few = h.1 in (h.0, omega arith, h.2)

-- ---- any rule

pub record MakesAtMost {A : Type 0} (n : ℕ) (p : Rule A) : Type 0 where
  pub makes : (m : Machine) → Makes (λ a k. k ≤ n) n m (p m)

pub record MakesNone {A : Type 0} (p : Rule A) : Type 0 where
  pub makes : (m : Machine) → Makes (λ a k. k ≤ 0) 0 m (p m)

-- what makes nothing makes no more than so many
pub at_most : {A : Type 0} (n : ℕ) (p : Rule A) → MakesNone p → MakesAtMost n p
at_most {A} n p f = record { makes = λ m. go m (p m) (f.makes m) }
  where
    go : (m : Machine) (o : Outcome A) → Makes (λ a k. k ≤ 0) 0 m o → Makes (λ a k. k ≤ n) n m o
    go m (Go a s log) h = let few = h.1 in (h.0, omega arith, h.2, h.3, h.4)
    go m (Halt c log) h = let few = h.1 in (h.0, omega arith, h.2)
    go m (Spent log) h = let few = h.1 in (h.0, omega arith, h.2)

pub none_then : {A B : Type 0} {p : Rule A} (k : A → Rule B) → MakesNone p → ((a : A) → MakesNone (k a)) → MakesNone (p >>= k)
unfolding ◌>>=◌
none_then {A} {B} {p} k first f = record { makes = λ m. makes_then _ 0 (λ a b j. j ≤ 0) (λ a. 0) _ 0 m (p m) k (first.makes m) (λ a s. (f a).makes s) (λ a b i j low high. omega arith) (λ a i j low high. omega arith) (omega arith) }

-- so many, and then so many more
pub some_then : {A B : Type 0} (j n : ℕ) {p : Rule A} (k : A → Rule B) → MakesAtMost j p → ((a : A) → MakesAtMost n (k a)) → MakesAtMost (j + n) (p >>= k)
unfolding ◌>>=◌
some_then {A} {B} j n {p} k first f = record { makes = λ m. makes_then _ j (λ a b i. i ≤ n) (λ a. n) _ (j + n) m (p m) k (first.makes m) (λ a s. (f a).makes s) (λ a b i h low high. omega arith) (λ a i h low high. omega arith) (omega arith) }

-- none, and then so many
pub then_some : {A B : Type 0} {n : ℕ} {p : Rule A} (k : A → Rule B) → MakesNone p → ((a : A) → MakesAtMost n (k a)) → MakesAtMost n (p >>= k)
unfolding ◌>>=◌
then_some {A} {B} {n} {p} k first f = record { makes = λ m. makes_then _ 0 (λ a b i. i ≤ n) (λ a. n) _ n m (p m) k (first.makes m) (λ a s. (f a).makes s) (λ a b i h low high. omega arith) (λ a i h low high. omega arith) (omega arith) }

-- so many, and then none
pub some_last : {A B : Type 0} {n : ℕ} {p : Rule A} (k : A → Rule B) → MakesAtMost n p → ((a : A) → MakesNone (k a)) → MakesAtMost n (p >>= k)
unfolding ◌>>=◌
some_last {A} {B} {n} {p} k first f = record { makes = λ m. makes_then _ n (λ a b i. i ≤ 0) (λ a. 0) _ n m (p m) k (first.makes m) (λ a s. (f a).makes s) (λ a b i h low high. omega arith) (λ a i h low high. omega arith) (omega arith) }

pub none_pick : {A : Type 0} (b : Bool) (p q : Rule A) → MakesNone p → MakesNone q → MakesNone (pick b p q)
unfolding pick
none_pick true p q f g = f
none_pick false p q f g = g

pub some_pick : {A : Type 0} {n : ℕ} (b : Bool) (p q : Rule A) → MakesAtMost n p → MakesAtMost n q → MakesAtMost n (pick b p q)
unfolding pick
some_pick true p q f g = f
some_pick false p q f g = g

pub none_done : {A : Type 0} (a : A) → MakesNone (done a)
unfolding done
none_done a = record { makes = λ m. (0, omega arith, refl, omega arith, refl) }

pub none_halt : {A : Type 0} (c : Cause) → MakesNone {A = A} (halt c)
unfolding halt
none_halt c = record { makes = λ m. (0, omega arith, refl) }

pub none_given : {A : Type 0} (c : Cause) (o : Option A) → MakesNone (given c o)
unfolding given
none_given c None = none_halt c
none_given c (Some a) = none_done a

pub none_each : (p : ℕ → Rule (Unit {0})) (n : ℕ) → ((i : ℕ) → MakesNone (p i)) → MakesNone (each p n)
unfolding each
none_each p zero f = none_done tt
none_each p (suc n) f = none_then (λ _. p n) (none_each p n f) (λ _. f n)

pub none_times : (n : ℕ) (p : Rule (Unit {0})) → MakesNone p → MakesNone (times n p)
unfolding times
none_times zero p f = none_done tt
none_times (suc n) p f = none_then (λ _. p) (none_times n p f) (λ _. f)

-- ---- registers and numbers

pub none_register : (r : ℕ) → MakesNone (register r)
unfolding register
none_register r = record { makes = λ m. (0, omega arith, refl, omega arith, refl) }

pub none_numbers : MakesNone numbers
unfolding numbers
none_numbers = record { makes = λ m. (0, omega arith, refl, omega arith, refl) }

pub none_set_numbers : (cpu : Cpu) → MakesNone (set_numbers cpu)
unfolding set_numbers
none_set_numbers cpu = record { makes = λ m. (0, omega arith, refl, omega arith, refl) }

pub none_clear : (among : ℕ → Bool) → MakesNone (clear among)
unfolding clear
none_clear among = record { makes = λ m. (0, omega arith, refl, omega arith, refl) }

pub none_put_register : (r : ℕ) (v : Value) → MakesNone (put_register r v)
unfolding put_register
none_put_register r v = record { makes = λ m. go m (is_there m.heap v) }
  where
    go : (m : Machine) (b : Bool) → Makes (λ a k. k ≤ 0) 0 m (placed m r v b)
    go m true = (0, omega arith, refl, omega arith, refl)
    go m false = (0, omega arith, refl)

-- ---- objects

no_rows : (m : Machine) (v : Value) → made_in (rows_at m v) ≡ []
no_rows m (Int z) = refl
no_rows m (Ref n) = refl

same_largest : (words : ℕ) (m : Machine) (v : Value) → words ≡ largest_after words (rows_at m v)
same_largest words m (Int z) = refl
same_largest words m (Ref n) = refl

pub none_look : (v : Value) → MakesNone (look v)
unfolding look
none_look v = record { makes = λ m. go m (object_at m.heap v) }
  where
    go : (m : Machine) (o : Option Object) → Makes (λ a k. k ≤ 0) 0 m (looked m v o)
    go m None = (0, omega arith, no_rows m v)
    go m (Some o) = (0, omega arith, no_rows m v, omega arith, same_largest m.largest m v)

pub none_part : {A : Type 0} (c : Cause) (f : Object → Option A) (v : Value) → MakesNone (part c f v)
unfolding part
none_part c f v = none_then _ (none_look v) (λ o. none_given c (f o))

pub none_known : (n : ℕ) → MakesNone (known n)
unfolding known
none_known n = none_then _ (none_look (Ref n)) (λ o. none_done (Ref n))

pub none_class_of : (v : Value) → MakesNone (class_of v)
unfolding class_of
none_class_of v = record { makes = λ m. go m (class_at m.heap v) }
  where
    go : (m : Machine) (o : Option ℕ) → Makes (λ a k. k ≤ 0) 0 m (classed m v o)
    go m None = (0, omega arith, refl)
    go m (Some class) = (0, omega arith, refl, omega arith, refl)

next_name : (h : Heap) (v : Value) (change : Body → Body) → (with_body h v change).next ≡ h.next
next_name h (Int z) change = refl
next_name h (Ref n) change = go (h.at n)
  where
    go : (o : Option Object) → (option_map_or (λ (o : Object). put_object h n (record o { body = change o.body })) o h).next ≡ h.next
    go None = refl
    go (Some o) = refl

pub none_store : (v : Value) (i : ℕ) (w : Value) → MakesNone (store v i w)
unfolding store
none_store v i w = record { makes = λ m. go m (part_at m.heap v (λ b. field_of b i)) (is_there m.heap w) }
  where
    go : (m : Machine) (old : Option Value) (there : Bool) → Makes (λ a k. k ≤ 0) 0 m (stored m v i w old there)
    go m None there = (0, omega arith, no_rows m v)
    go m (Some old) false = (0, omega arith, no_rows m v)
    go m (Some old) true = (0, omega arith, no_rows m v, (let same = next_name m.heap v (λ b. with_field b i w) in omega arith), same_largest m.largest m v)

no_more_rows : (m : Machine) (v w : Value) → made_in (rows_at m v ++ rows_at m w) ≡ []
no_more_rows m (Int z) w = no_rows m w
no_more_rows m (Ref n) w = no_rows m w

same_largest_of_both : (words : ℕ) (m : Machine) (v w : Value) → words ≡ largest_after words (rows_at m v ++ rows_at m w)
same_largest_of_both words m (Int z) w = same_largest words m w
same_largest_of_both words m (Ref n) w = same_largest words m w

next_swapped : (h : Heap) (v w : Value) → (with_swapped h v w).next ≡ h.next
next_swapped h (Ref n) (Int z) = refl
next_swapped h (Int z) w = refl
next_swapped h (Ref n) (Ref k) = go (h.at n) (h.at k)
  where
    go : (o p : Option Object) → (option_map_or (λ (o : Object). option_map_or (λ (p : Object). put_object (put_object h n p) k o) p h) o h).next ≡ h.next
    go None p = refl
    go (Some o) None = refl
    go (Some o) (Some p) = refl

pub none_swap : (v w : Value) → MakesNone (swap v w)
unfolding swap
none_swap v w = record { makes = λ m. go m (is_free m v && is_free m w) }
  where
    go : (m : Machine) (b : Bool) → Makes (λ a k. k ≤ 0) 0 m (swapped m v w b)
    go m false = (0, omega arith, no_more_rows m v w)
    go m true = (0, omega arith, no_more_rows m v w, (let same = next_swapped m.heap v w in omega arith), same_largest_of_both m.largest m v w)

none_changed : (v : Value) (change : Body → Body) (test : Machine → Bool) → MakesNone (λ m. changed m v change (test m))
none_changed v change test = record { makes = λ m. go m (test m) }
  where
    go : (m : Machine) (b : Bool) → Makes (λ a k. k ≤ 0) 0 m (changed m v change b)
    go m false = (0, omega arith, no_rows m v)
    go m true = (0, omega arith, no_rows m v, (let same = next_name m.heap v change in omega arith), same_largest m.largest m v)

pub none_store_word : (v : Value) (i word : ℕ) → MakesNone (store_word v i word)
unfolding store_word
none_store_word v i word = none_changed v _ _

pub none_store_byte : (v : Value) (i byte : ℕ) → MakesNone (store_byte v i byte)
unfolding store_byte
none_store_byte v i byte = none_changed v _ _

pub none_put_words : (v : Value) (words : List ℕ) → MakesNone (put_words v words)
unfolding put_words
none_put_words v words = none_changed v _ _

pub none_unpin_all : MakesNone unpin_all
unfolding unpin_all
none_unpin_all = record { makes = λ m. (0, omega arith, refl, omega arith, refl) }

pub none_pin : (slot : ℕ) (v : Value) → MakesNone (pin slot v)
unfolding pin
none_pin slot (Int z) = record { makes = λ m. (0, omega arith, refl) }
none_pin slot (Ref n) = record { makes = λ m. go m (m.heap.at n) }
  where
    go : (m : Machine) (o : Option Object) → Makes (λ a k. k ≤ 0) 0 m (pinned m slot n o)
    go m None = (0, omega arith, refl)
    go m (Some o) = (0, omega arith, refl, omega arith, refl)

pub none_say : (v : Value) → MakesNone (say v)
unfolding say
none_say v = record { makes = λ m. go m (part_at m.heap v text_of) }
  where
    go : (m : Machine) (o : Option (List ℕ)) → Makes (λ a k. k ≤ 0) 0 m (spoken m v o)
    go m None = (0, omega arith, no_rows m v)
    go m (Some bytes) = (0, omega arith, no_rows m v, omega arith, same_largest m.largest m v)

pub none_peek : {A : Type 0} (f : Object → Option A) (v : Value) → MakesNone (peek f v)
unfolding peek
none_peek f (Int z) = none_done None
none_peek f (Ref n) = none_then _ (none_look (Ref n)) (λ o. none_done (f o))

pub one_make : (class : Value) (what : Making) → MakesAtMost 1 (make class what)
unfolding make
one_make class what = record { makes = λ m. go m (nat_lt m.heap.next LAST_NAME) }
  where
    add : (m : Machine) (b : Bool) → Makes (λ a k. k ≤ 1) 1 m (added m (object_made class what) b)
    add m true = (1, omega arith, refl, omega arith, refl)
    add m false = (1, omega arith, refl)

    go : (m : Machine) (b : Bool) → Makes (λ a k. k ≤ 1) 1 m (made m (object_made class what) b)
    go m true = add m (is_there m.heap (Ref (object_made class what).class) && is_there m.heap (Ref NIL))
    go m false = (0, omega arith, refl)

pub ruleset making = (none_then, none_pick, none_done, none_halt, none_given, none_each, none_register, none_numbers, none_set_numbers, none_clear, none_put_register, none_look, none_part, none_known, none_class_of, none_store, none_swap, none_store_word, none_store_byte, none_put_words, none_unpin_all, none_pin, none_say, none_peek)

-- ---- primitives

-- what a primitive may have made with its answer
abbrev pub allowed : Answer → ℕ
allowed Done = 1
allowed Failed = 0
allowed Execute = 0
allowed Quit = 1
allowed Keep = 1

pub record MakesSparingly (p : Rule Answer) : Type 0 where
  pub makes : (m : Machine) → Makes (λ a k. k ≤ allowed a) 1 m (p m)

-- it makes nothing, and where it doesn't stop the primitive is done
pub record EndsDone (p : Rule Answer) : Type 0 where
  pub makes : (m : Machine) → Makes (λ a k. (k ≤ 0) × (a ≡ Done)) 0 m (p m)

pub ends_done : EndsDone (done Done)
unfolding done
ends_done = record { makes = λ m. (0, (omega arith, refl), refl, omega arith, refl) }

pub ends_then : {A : Type 0} {p : Rule A} (k : A → Rule Answer) → MakesNone p → ((a : A) → EndsDone (k a)) → EndsDone (p >>= k)
unfolding ◌>>=◌
ends_then {A} {p} k first f = record { makes = λ m. makes_then _ 0 (λ a (b : Answer) j. (j ≤ 0) × (b ≡ Done)) (λ a. 0) _ 0 m (p m) k (first.makes m) (λ a s. (f a).makes s) (λ a b i j low high. let few = high.0 in (omega arith, high.1)) (λ a i j low high. omega arith) (omega arith) }

pub sparing_none : {p : Rule Answer} → MakesNone p → MakesSparingly p
sparing_none {p} f = record { makes = λ m. go m (p m) (f.makes m) }
  where
    go : (m : Machine) (o : Outcome Answer) → Makes (λ a k. k ≤ 0) 0 m o → Makes (λ a k. k ≤ allowed a) 1 m o
    go m (Go a s log) h = let few = h.1 in (h.0, omega arith, h.2, h.3, h.4)
    go m (Halt c log) h = let few = h.1 in (h.0, omega arith, h.2)
    go m (Spent log) h = let few = h.1 in (h.0, omega arith, h.2)

pub sparing_then : {A : Type 0} {p : Rule A} (k : A → Rule Answer) → MakesNone p → ((a : A) → MakesSparingly (k a)) → MakesSparingly (p >>= k)
unfolding ◌>>=◌
sparing_then {A} {p} k first f = record { makes = λ m. makes_then _ 0 (λ a b j. j ≤ allowed b) (λ a. 1) _ 1 m (p m) k (first.makes m) (λ a s. (f a).makes s) (λ a b i j low high. omega arith) (λ a i j low high. omega arith) (omega arith) }

-- one object is made, and then the primitive is done
pub sparing_end : {A : Type 0} {p : Rule A} (k : A → Rule Answer) → MakesAtMost 1 p → ((a : A) → EndsDone (k a)) → MakesSparingly (p >>= k)
unfolding ◌>>=◌
sparing_end {A} {p} k first f = record { makes = λ m. makes_then _ 1 (λ a (b : Answer) j. (j ≤ 0) × (b ≡ Done)) (λ a. 0) _ 1 m (p m) k (first.makes m) (λ a s. (f a).makes s) (λ a b i j low high. let few = high.0 in let one : allowed b ≡ 1 = ap allowed high.1 in omega arith) (λ a i j low high. omega arith) (omega arith) }

pub sparing_pick : (b : Bool) (p q : Rule Answer) → MakesSparingly p → MakesSparingly q → MakesSparingly (pick b p q)
unfolding pick
sparing_pick true p q f g = f
sparing_pick false p q f g = g

pub none_failed : MakesNone failed
unfolding failed
none_failed = none_done Failed

pub sparing_failed : MakesSparingly failed
sparing_failed = sparing_none none_failed

pub sparing_where_true : (b : Bool) (p : Rule Answer) → MakesSparingly p → MakesSparingly (where_true b p)
unfolding where_true
sparing_where_true b p f = sparing_pick b p failed f sparing_failed

pub sparing_where_some : {A : Type 0} (o : Option A) (k : A → Rule Answer) → ((a : A) → MakesSparingly (k a)) → MakesSparingly (where_some o k)
unfolding where_some
sparing_where_some None k f = sparing_failed
sparing_where_some (Some a) k f = f a

pub sparing_try : {A : Type 0} {p : Rule (Option A)} (k : A → Rule Answer) → MakesNone p → ((a : A) → MakesSparingly (k a)) → MakesSparingly (p >>? k)
unfolding ◌>>?◌
sparing_try k first f = sparing_then _ first (λ o. sparing_where_some o k f)

pub none_where_true : (b : Bool) (p : Rule Answer) → MakesNone p → MakesNone (where_true b p)
unfolding where_true
none_where_true b p f = none_pick b p failed f none_failed

pub none_where_some : {A : Type 0} (o : Option A) (k : A → Rule Answer) → ((a : A) → MakesNone (k a)) → MakesNone (where_some o k)
unfolding where_some
none_where_some None k f = none_failed
none_where_some (Some a) k f = f a

pub none_try : {A : Type 0} {p : Rule (Option A)} (k : A → Rule Answer) → MakesNone p → ((a : A) → MakesNone (k a)) → MakesNone (p >>? k)
unfolding ◌>>?◌
none_try k first f = none_then _ first (λ o. none_where_some o k f)

pub ruleset few = (then_some, some_pick, some_last, at_most)

pub ruleset trying_none = (none_try, none_where_true, none_where_some, none_failed)

pub ruleset sparing = (sparing_try, sparing_where_true, sparing_where_some, sparing_failed, sparing_pick, sparing_end, sparing_then, ends_then, ends_done)

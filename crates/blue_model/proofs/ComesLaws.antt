-- What a rule comes to where it goes through, and the fields of a heap after a store.
use Rattle.std.proofs.Common.{◌≡◌, zero, suc, ℕ, ℤ, ◌==◌, Bool, true, false, List, [], ◌∷◌, ◌++◌, length, slice_get, slice_set, Option, Some, None, refl, sym, ◌∙◌, ap, subst, if◌then◌else◌, nat_le, ne_eqb, eq-eqb, eqb-true, nat_lt}
use Rattle.std.specs.Option.{option_and_then, option_map_or}
use Rattle.long_names.specs.declared.value.Value.{Value}
use Rattle.long_names.specs.declared.value.Value.TheVariants.{Int, Ref}
use Rattle.long_names.specs.declared.object.Body.{Body}
use Rattle.long_names.specs.declared.object.Body.TheVariants.{Pointers, Words, Bytes, Method}
use Rattle.long_names.specs.declared.object.Object.{Object}
use Rattle.long_names.specs.Objects.{int_of, pointers_of, field_of, with_field}
use Rattle.long_names.specs.Heap.{Heap, put_object}
use Rattle.long_names.specs.State.{object_at, part_at, set_register}
use Rattle.long_names.specs.Access.{with_body}
use Rattle.blue_model.specs.declared.cause.Cause.{Cause}
use Rattle.blue_model.specs.declared.cause.Cause.TheVariants.{Shape}
use Rattle.blue_model.specs.declared.cpu.Cpu.{Cpu}
use Rattle.blue_model.specs.Machine.{Machine, LogRow, Outcome, Go, Halt, Spent, Rule, after, then_do, ◌>>=◌, done, halt, given, pick, rows_at, is_there, stored, store, part, known, numbers, set_numbers, register, put_register, placed}
use Rattle.long_names.specs.declared.limits.TheConstants.{MACHINE_REGISTERS}
use Rattle.blue_model.specs.Parts.{at_least, shaped, size, field, number}
use Rattle.blue_model.specs.Contexts.{store_field}
use Rattle.blue_model.specs.ClassList.{part_in}
use Rattle.blue_model.specs.Queues.{values_at, field_at}
use Rattle.blue_model.proofs.ClassLaws.{Answers, answers_look, answers_done, answers_halt, answers_then}

-- ---- rules

-- where the rule goes through, its answer and the next machine are as Q says
pub record Comes (m : Machine) {A : Type 0} (p : Rule A) (Q : A → Machine → Type 0) : Type 0 where
  pub to : (a : A) (s : Machine) (log : List LogRow) → p m ≡ Go a s log → Q a s

pub comes_then : {m : Machine} {A B : Type 0} {Q : A → Machine → Type 0} {R : B → Machine → Type 0} {p : Rule A} (k : A → Rule B) → Comes m p Q → ((a : A) (n : Machine) → Q a n → Comes n (k a) R) → Comes m (p >>= k) R
unfolding ◌>>=◌
comes_then {m} {A} {B} {Q} {R} {p} k first f = record { to = λ b s log e. go (p m) refl b s log e }
  where
    go : (o : Outcome A) → p m ≡ o → (b : B) (s : Machine) (log : List LogRow) → then_do o k ≡ Go b s log → R b s
    go (Go a n rows) e b s log g = next (k a n) refl g
      where
        next : (o : Outcome B) → k a n ≡ o → after rows o ≡ Go b s log → R b s
        next (Go c t lines) h i =
            let same : c ≡ b = cc in
            let left : t ≡ s = cc in
            subst (λ x. R b x) left (subst (λ x. R x t) same ((f a n (first.to a n rows e)).to c t lines h))
        next (Halt c lines) h i = let no : ◌≡◌ {A = Outcome B} (Halt c (rows ++ lines)) (Go b s log) = i in absurd (cc)
        next (Spent lines) h i = let no : ◌≡◌ {A = Outcome B} (Spent (rows ++ lines)) (Go b s log) = i in absurd (cc)
    go (Halt c rows) e b s log g = let no : ◌≡◌ {A = Outcome B} (Halt c rows) (Go b s log) = g in absurd (cc)
    go (Spent rows) e b s log g = let no : ◌≡◌ {A = Outcome B} (Spent rows) (Go b s log) = g in absurd (cc)

pub comes_done : {m : Machine} {A : Type 0} {Q : A → Machine → Type 0} (a : A) → Q a m → Comes m (done a) Q
unfolding done
comes_done {m} {A} {Q} a q = record { to = λ b s log e. go b s log e }
  where
    go : (b : A) (s : Machine) (log : List LogRow) → Go a m [] ≡ Go b s log → Q b s
    go b s log e = let same : a ≡ b = cc in let left : m ≡ s = cc in subst (λ x. Q b x) left (subst (λ x. Q x m) same q)

pub comes_halt : {m : Machine} {A : Type 0} {Q : A → Machine → Type 0} (c : Cause) → Comes m (halt c) Q
unfolding halt
comes_halt {m} {A} {Q} c = record { to = λ b s log e. let no : ◌≡◌ {A = Outcome A} (Halt c []) (Go b s log) = e in absurd (cc) }

pub comes_pick : {m : Machine} {A : Type 0} {Q : A → Machine → Type 0} (b : Bool) (p q : Rule A) → (b ≡ true → Comes m p Q) → (b ≡ false → Comes m q Q) → Comes m (pick b p q) Q
unfolding pick
comes_pick true p q f g = f refl
comes_pick false p q f g = g refl

-- one of two rules, and the rest
pub pick_then : {m : Machine} {A B : Type 0} {R : B → Machine → Type 0} (k : A → Rule B) (b : Bool) (p q : Rule A) → (b ≡ true → Comes m (p >>= k) R) → (b ≡ false → Comes m (q >>= k) R) → Comes m (pick b p q >>= k) R
unfolding pick
pick_then k true p q f g = f refl
pick_then k false p q f g = g refl

pub pick_true_then : {m : Machine} {A B : Type 0} {R : B → Machine → Type 0} (k : A → Rule B) {b : Bool} (p q : Rule A) → b ≡ true → Comes m (p >>= k) R → Comes m (pick b p q >>= k) R
pick_true_then {m} {A} {B} {R} k {b} p q e f = pick_then k b p q (λ _. f) (λ g. let no : true ≡ false = sym e ∙ g in absurd (cc))

pub pick_false_then : {m : Machine} {A B : Type 0} {R : B → Machine → Type 0} (k : A → Rule B) {b : Bool} (p q : Rule A) → b ≡ false → Comes m (q >>= k) R → Comes m (pick b p q >>= k) R
pick_false_then {m} {A} {B} {R} k {b} p q e f = pick_then k b p q (λ g. let no : true ≡ false = sym g ∙ e in absurd (cc)) (λ _. f)

pub comes_true : {m : Machine} {A : Type 0} {Q : A → Machine → Type 0} {b : Bool} (p q : Rule A) → b ≡ true → Comes m p Q → Comes m (pick b p q) Q
comes_true {m} {A} {Q} {b} p q e f = comes_pick b p q (λ _. f) (λ g. let no : true ≡ false = sym e ∙ g in absurd (cc))

pub comes_false : {m : Machine} {A : Type 0} {Q : A → Machine → Type 0} {b : Bool} (p q : Rule A) → b ≡ false → Comes m q Q → Comes m (pick b p q) Q
comes_false {m} {A} {Q} {b} p q e f = comes_pick b p q (λ g. let no : true ≡ false = sym g ∙ e in absurd (cc)) (λ _. f)

pub comes_weaker : {m : Machine} {A : Type 0} {Q R : A → Machine → Type 0} {p : Rule A} → Comes m p Q → ((a : A) (s : Machine) → Q a s → R a s) → Comes m p R
comes_weaker {m} {A} {Q} {R} {p} c f = record { to = λ a s log e. f a s (c.to a s log e) }

-- a rule that only looks, and the rest
pub looks_then : {m : Machine} {A B : Type 0} {Q : A → Type 0} {R : B → Machine → Type 0} {p : Rule A} (k : A → Rule B) → Answers m Q p → ((a : A) → Q a → Comes m (k a) R) → Comes m (p >>= k) R
looks_then {m} {A} {B} {Q} {R} {p} k first f = comes_then {Q = λ a s. (s ≡ m) × Q a} k (record { to = λ a s log e. first.told a s log e }) (λ a n both. subst (λ x. Comes x (k a) R) (sym both.0) (f a both.1))

pub given_then : {m : Machine} {A B : Type 0} {R : B → Machine → Type 0} (k : A → Rule B) (c : Cause) (x : Option A) → ((a : A) → x ≡ Some a → Comes m (k a) R) → Comes m (given c x >>= k) R
unfolding given
given_then {m} {A} {B} {R} k c None f = comes_then {Q = λ _ _. ⊥} k (comes_halt c) (λ a n no. absurd no)
given_then {m} {A} {B} {R} k c (Some a) f = comes_then {Q = λ b s. (s ≡ m) × (b ≡ a)} k (comes_done a (refl, refl)) (λ b n both. subst (λ x. Comes x (k b) R) (sym both.0) (subst (λ x. Comes m (k x) R) (sym both.1) (f a refl)))

pub known_then : {m : Machine} {B : Type 0} {R : B → Machine → Type 0} (k : Value → Rule B) (n : ℕ) → Comes m (k (Ref n)) R → Comes m (known n >>= k) R
unfolding known
known_then {m} {B} {R} k n f = comes_then {Q = λ v s. (s ≡ m) × (v ≡ Ref n)} k (looks_then _ (answers_look (Ref n)) (λ o e. comes_done (Ref n) (refl, refl))) (λ v s both. subst (λ x. Comes x (k v) R) (sym both.0) (subst (λ x. Comes m (k x) R) (sym both.1) f))

pub numbers_then : {m : Machine} {B : Type 0} {R : B → Machine → Type 0} (k : Cpu → Rule B) → Comes m (k m.cpu) R → Comes m (numbers >>= k) R
unfolding numbers
numbers_then {m} {B} {R} k f = comes_then {Q = λ c s. (s ≡ m) × (c ≡ m.cpu)} k (record { to = λ c s log e. go c s log e }) (λ c s both. subst (λ x. Comes x (k c) R) (sym both.0) (subst (λ x. Comes m (k x) R) (sym both.1) f))
  where
    go : (c : Cpu) (s : Machine) (log : List LogRow) → Go m.cpu m [] ≡ Go c s log → (s ≡ m) × (c ≡ m.cpu)
    go c s log e = let same : m.cpu ≡ c = cc in let left : m ≡ s = cc in (sym left, sym same)

pub comes_register : {m : Machine} (r : ℕ) → Comes m (register r) (λ v s. (s ≡ m) × (v ≡ m.regs r))
unfolding register
comes_register {m} r = record { to = λ c s log e. go c s log e }
  where
    go : (c : Value) (s : Machine) (log : List LogRow) → Go (m.regs r) m [] ≡ Go c s log → (s ≡ m) × (c ≡ m.regs r)
    go c s log e = let same : m.regs r ≡ c = cc in let left : m ≡ s = cc in (sym left, sym same)

pub comes_put_register : {m : Machine} (r : ℕ) (v : Value) → Comes m (put_register r v) (λ _ s. s ≡ record m { regs = if nat_lt r MACHINE_REGISTERS then set_register m.regs r v else m.regs })
unfolding put_register
comes_put_register {m} r v = record { to = λ c s log e. go (is_there m.heap v) c s log e }
  where
    go : (b : Bool) (c : Unit {0}) (s : Machine) (log : List LogRow) → placed m r v b ≡ Go c s log → s ≡ record m { regs = if nat_lt r MACHINE_REGISTERS then set_register m.regs r v else m.regs }
    go true c s log e = let left : record m { regs = if nat_lt r MACHINE_REGISTERS then set_register m.regs r v else m.regs } ≡ s = cc in sym left
    go false c s log e = let no : ◌≡◌ {A = Outcome (Unit {0})} (Halt Shape []) (Go c s log) = e in absurd (cc)

pub comes_set_numbers : {m : Machine} (cpu : Cpu) → Comes m (set_numbers cpu) (λ _ s. s ≡ record m { cpu = cpu })
unfolding set_numbers
comes_set_numbers {m} cpu = record { to = λ c s log e. go c s log e }
  where
    go : (c : Unit {0}) (s : Machine) (log : List LogRow) → Go tt (record m { cpu = cpu }) [] ≡ Go c s log → s ≡ record m { cpu = cpu }
    go c s log e = let left : record m { cpu = cpu } ≡ s = cc in sym left

-- ---- parts

answers-given : {m : Machine} {A : Type 0} (c : Cause) (x : Option A) → Answers m (λ a. x ≡ Some a) (given c x)
unfolding given
answers-given c None = answers_halt c
answers-given c (Some a) = answers_done a refl

pub answers-part : {m : Machine} {A : Type 0} (c : Cause) (f : Object → Option A) (v : Value) → Answers m (λ a. part_in m.heap f v ≡ Some a) (part c f v)
unfolding part
answers-part {m} {A} c f v = answers_then {Q = λ (o : Object). object_at m.heap v ≡ Some o} _ (answers_look v) (λ o e. weaken o e (answers-given c (f o)))
  where
    weaken : (o : Object) → object_at m.heap v ≡ Some o → Answers m (λ a. f o ≡ Some a) (given c (f o)) → Answers m (λ a. part_in m.heap f v ≡ Some a) (given c (f o))
    weaken o e h = record { told = λ a s log g. let both = h.told a s log g in (both.0, ap (λ x. option_and_then f x) e ∙ both.1) }

-- the values of an object that has enough of them
shaped-values : (least : ℕ) (o : Object) (values : List Value) → shaped least o ≡ Some values → pointers_of o.body ≡ Some values
shaped-values least o values e = go (pointers_of o.body) e
  where
    go : (x : Option (List Value)) → option_and_then (at_least least) x ≡ Some values → x ≡ Some values
    go None g = let no : ◌≡◌ {A = Option (List Value)} None (Some values) = g in absurd (cc)
    go (Some vs) g = by (nat_le least (length vs)) g
      where
        by : (b : Bool) → (if b then Some vs else None) ≡ Some values → Some vs ≡ Some values
        by true h = h
        by false h = let no : ◌≡◌ {A = Option (List Value)} None (Some values) = h in absurd (cc)

-- what is made of the values of a name's object, where it has enough of them
part_values : {A : Type 0} (h : Heap) (n least : ℕ) (f : List Value → Option A) (a : A) → part_in h (λ o. option_and_then f (shaped least o)) (Ref n) ≡ Some a → {G : Type 0} → ((values : List Value) → values_at h n ≡ Some values → f values ≡ Some a → G) → G
part_values {A} h n least f a e {G} k = go (h.at n) refl e
  where
    go : (x : Option Object) → h.at n ≡ x → option_and_then (λ (o : Object). option_and_then f (shaped least o)) x ≡ Some a → G
    go None g i = let no : ◌≡◌ {A = Option A} None (Some a) = i in absurd (cc)
    go (Some o) g i = by (shaped least o) refl i
      where
        by : (y : Option (List Value)) → shaped least o ≡ y → option_and_then f y ≡ Some a → G
        by None j l = let no : ◌≡◌ {A = Option A} None (Some a) = l in absurd (cc)
        by (Some values) j l = k values (ap (option_and_then (λ (o : Object). pointers_of o.body)) g ∙ shaped-values least o values j) l

pub field-is : (h : Heap) (n least i : ℕ) (v : Value) → part_in h (field least i) (Ref n) ≡ Some v → field_at h n i ≡ Some v
unfolding field field_at
field-is h n least i v e = part_values h n least (λ values. slice_get values i) v e (λ values f g. ap (option_and_then (λ (values : List Value). slice_get values i)) f ∙ g)

pub size-is : (h : Heap) (n least k : ℕ) (values : List Value) → values_at h n ≡ Some values → part_in h (size least) (Ref n) ≡ Some k → k ≡ length values
unfolding size
size-is h n least k values same e = part_values h n least (λ vs. Some (length vs)) k e (λ vs f g. let eq : length vs ≡ k = cc in let is : vs ≡ values = cc in sym eq ∙ ap length is)

pub number-is : (h : Heap) (n least i : ℕ) (z : ℤ) → part_in h (number least i) (Ref n) ≡ Some z → field_at h n i ≡ Some (Int z)
unfolding number field_at
number-is h n least i z e = go (h.at n) refl e
  where
    int_is : (x : Option Value) → option_and_then int_of x ≡ Some z → x ≡ Some (Int z)
    int_is None g = let no : ◌≡◌ {A = Option ℤ} None (Some z) = g in absurd (cc)
    int_is (Some (Int y)) g = let same : y ≡ z = cc in ap (λ x. Some (Int x)) same
    int_is (Some (Ref k)) g = let no : ◌≡◌ {A = Option ℤ} None (Some z) = g in absurd (cc)

    go : (x : Option Object) → h.at n ≡ x → option_and_then (λ (o : Object). option_and_then int_of (option_and_then (λ (values : List Value). slice_get values i) (shaped least o))) x ≡ Some z → field_at h n i ≡ Some (Int z)
    go None g j = let no : ◌≡◌ {A = Option ℤ} None (Some z) = j in absurd (cc)
    go (Some o) g j = by (shaped least o) refl j
      where
        by : (y : Option (List Value)) → shaped least o ≡ y → option_and_then int_of (option_and_then (λ (values : List Value). slice_get values i) y) ≡ Some z → field_at h n i ≡ Some (Int z)
        by None l p = let no : ◌≡◌ {A = Option ℤ} None (Some z) = p in absurd (cc)
        by (Some values) l p = ap (λ x. option_and_then (λ (values : List Value). slice_get values i) (option_and_then (λ (o : Object). pointers_of o.body) x)) g ∙ ap (option_and_then (λ (values : List Value). slice_get values i)) (shaped-values least o values l) ∙ int_is (slice_get values i) p

-- ---- stores

-- the heap with a value in field i of the object of a name
pub written : Heap → ℕ → ℕ → Value → Heap
written h n i v = with_body h (Ref n) (λ b. with_field b i v)

abbrev pub wrote : Machine → ℕ → ℕ → Value → Machine
wrote m n i v = record m { heap = written m.heap n i v }

-- other objects are as they were
pub written-apart : (h : Heap) (n i : ℕ) (v : Value) (a : ℕ) → (a ≡ n → ⊥) → (written h n i v).at a ≡ h.at a
unfolding written
written-apart h n i v a apart = go (h.at n)
  where
    go : (x : Option Object) → (option_map_or (λ (o : Object). put_object h n (record { class = o.class; body = with_field o.body i v })) x h).at a ≡ h.at a
    go None = refl
    go (Some o) = ap (λ b. if b then Some (record { class = o.class; body = with_field o.body i v }) else h.at a) (ne_eqb a n apart)

set_same : (values : List Value) (i : ℕ) (v old : Value) → slice_get values i ≡ Some old → slice_get (slice_set values i v) i ≡ Some v
set_same [] i v old e = let no : ◌≡◌ {A = Option Value} None (Some old) = e in absurd (cc)
set_same (x ∷ xs) zero v old e = refl
set_same (x ∷ xs) (suc i) v old e = set_same xs i v old e

set_apart : (values : List Value) (i j : ℕ) (v : Value) → (j ≡ i → ⊥) → slice_get (slice_set values i v) j ≡ slice_get values j
set_apart [] i j v apart = refl
set_apart (x ∷ xs) zero zero v apart = absurd (apart refl)
set_apart (x ∷ xs) zero (suc j) v apart = refl
set_apart (x ∷ xs) (suc i) zero v apart = refl
set_apart (x ∷ xs) (suc i) (suc j) v apart = set_apart xs i j v (λ e. apart (ap suc e))

-- the values of the object that was written
abbrev set_in : ℕ → Value → Option (List Value) → Option (List Value)
set_in i v None = None
set_in i v (Some values) = Some (slice_set values i v)

written-values : (h : Heap) (n i : ℕ) (v : Value) → values_at (written h n i v) n ≡ set_in i v (values_at h n)
unfolding written
written-values h n i v = go (h.at n) refl
  where
    body : (b : Body) → pointers_of (with_field b i v) ≡ set_in i v (pointers_of b)
    body (Pointers values) = refl
    body (Words words) = refl
    body (Bytes bytes) = refl
    body (Method header literals code) = refl

    go : (x : Option Object) → h.at n ≡ x → option_and_then (λ (o : Object). pointers_of o.body) ((option_map_or (λ (o : Object). put_object h n (record { class = o.class; body = with_field o.body i v })) x h).at n) ≡ set_in i v (option_and_then (λ (o : Object). pointers_of o.body) x)
    go None e = ap (option_and_then (λ (o : Object). pointers_of o.body)) e
    go (Some o) e = ap (λ b. option_and_then (λ (o : Object). pointers_of o.body) (if b then Some (record { class = o.class; body = with_field o.body i v }) else h.at n)) (eq-eqb n n refl) ∙ body o.body

-- the field that was written holds the value
pub written-here : (h : Heap) (n i : ℕ) (v old : Value) → field_at h n i ≡ Some old → field_at (written h n i v) n i ≡ Some v
unfolding field_at
written-here h n i v old e = ap (option_and_then (λ (values : List Value). slice_get values i)) (written-values h n i v) ∙ go (values_at h n) e
  where
    go : (x : Option (List Value)) → option_and_then (λ (values : List Value). slice_get values i) x ≡ Some old → option_and_then (λ (values : List Value). slice_get values i) (set_in i v x) ≡ Some v
    go None g = let no : ◌≡◌ {A = Option Value} None (Some old) = g in absurd (cc)
    go (Some values) g = set_same values i v old g

-- fields of another object are as they were
pub written-other : (h : Heap) (n i : ℕ) (v : Value) (a j : ℕ) → (a ≡ n → ⊥) → field_at (written h n i v) a j ≡ field_at h a j
unfolding field_at
written-other h n i v a j apart = ap (λ x. option_and_then (λ (values : List Value). slice_get values j) (option_and_then (λ (o : Object). pointers_of o.body) x)) (written-apart h n i v a apart)

-- and fields of other numbers
pub written-beside : (h : Heap) (n i : ℕ) (v : Value) (a j : ℕ) → (j == i) ≡ false → field_at (written h n i v) a j ≡ field_at h a j
unfolding field_at
written-beside h n i v a j apart = by (a == n) refl
  where
    go : (x : Option (List Value)) → option_and_then (λ (values : List Value). slice_get values j) (set_in i v x) ≡ option_and_then (λ (values : List Value). slice_get values j) x
    go None = refl
    go (Some values) = set_apart values i j v (λ e. let no : true ≡ false = sym (eq-eqb j i e) ∙ apart in absurd (cc))

    by : (b : Bool) → (a == n) ≡ b → field_at (written h n i v) a j ≡ field_at h a j
    by true e = subst (λ x. field_at (written h n i v) x j ≡ field_at h x j) (sym (eqb-true a n e)) (ap (option_and_then (λ (values : List Value). slice_get values j)) (written-values h n i v) ∙ go (values_at h n))
    by false e = written-other h n i v a j (λ same. let no : true ≡ false = sym (eq-eqb a n same) ∙ e in absurd (cc))

comes_store : {m : Machine} (n i : ℕ) (v : Value) → Comes m (store (Ref n) i v) (λ _ s. s ≡ wrote m n i v)
unfolding store written
comes_store {m} n i v = record { to = λ c s log e. go (part_at m.heap (Ref n) (λ b. field_of b i)) (is_there m.heap v) c s log e }
  where
    go : (x : Option Value) (b : Bool) (c : Unit {0}) (s : Machine) (log : List LogRow) → stored m (Ref n) i v x b ≡ Go c s log → s ≡ wrote m n i v
    go None b c s log e = let no : ◌≡◌ {A = Outcome (Unit {0})} (Halt Shape (rows_at m (Ref n))) (Go c s log) = e in absurd (cc)
    go (Some old) true c s log e = let left : record m { heap = with_body m.heap (Ref n) (λ b. with_field b i v) } ≡ s = cc in sym left
    go (Some old) false c s log e = let no : ◌≡◌ {A = Outcome (Unit {0})} (Halt Shape (rows_at m (Ref n))) (Go c s log) = e in absurd (cc)

-- ---- rules over names

pub comes_store_field : {m : Machine} {Q : Unit {0} → Machine → Type 0} (n i : ℕ) (v : Value) → ((old : Value) → field_at m.heap n i ≡ Some old → Q tt (wrote m n i v)) → Comes m (store_field (Ref n) i v) Q
unfolding store_field
comes_store_field {m} {Q} n i v f = looks_then _ (answers-part Shape (field 0 i) (Ref n)) (λ old e. comes_weaker (comes_store n i v) (λ a s same. subst (λ x. Q tt x) (sym same) (f old (field-is m.heap n 0 i old e))))

pub store_then : {m : Machine} {B : Type 0} {R : B → Machine → Type 0} (k : Unit {0} → Rule B) (n i : ℕ) (v : Value) → ((old : Value) → field_at m.heap n i ≡ Some old → Comes (wrote m n i v) (k tt) R) → Comes m (store_field (Ref n) i v >>= k) R
store_then {m} {B} {R} k n i v f = comes_then {Q = λ _ s. ((old : Value) × (field_at m.heap n i ≡ Some old)) × (s ≡ wrote m n i v)} k (comes_store_field n i v (λ old e. ((old, e), refl))) (λ a s both. subst (λ x. Comes x (k tt) R) (sym both.1) (f both.0.0 both.0.1))

-- a field of which the value is told
pub field_then : {m : Machine} {B : Type 0} {R : B → Machine → Type 0} (k : Value → Rule B) (n least i : ℕ) (w : Value) → field_at m.heap n i ≡ Some w → Comes m (k w) R → Comes m (part Shape (field least i) (Ref n) >>= k) R
field_then {m} {B} {R} k n least i w e f = looks_then k (answers-part Shape (field least i) (Ref n)) (λ v g. let same : w ≡ v = go v (sym e ∙ field-is m.heap n least i v g) in subst (λ x. Comes m (k x) R) same f)
  where
    go : (v : Value) → Some w ≡ Some v → w ≡ v
    go v e = cc

pub comes_field : {m : Machine} (n least i : ℕ) (w : Value) → field_at m.heap n i ≡ Some w → Comes m (part Shape (field least i) (Ref n)) (λ v s. (s ≡ m) × (v ≡ w))
comes_field {m} n least i w e = record { to = λ v s log g. let both = (answers-part Shape (field least i) (Ref n)).told v s log g in (both.0, go v (sym e ∙ field-is m.heap n least i v both.1)) }
  where
    go : (v : Value) → Some w ≡ Some v → v ≡ w
    go v e = let same : w ≡ v = cc in sym same

-- a number in a field
pub number_then : {m : Machine} {B : Type 0} {R : B → Machine → Type 0} (k : ℤ → Rule B) (n least i : ℕ) → ((z : ℤ) → field_at m.heap n i ≡ Some (Int z) → Comes m (k z) R) → Comes m (part Shape (number least i) (Ref n) >>= k) R
number_then {m} {B} {R} k n least i f = looks_then k (answers-part Shape (number least i) (Ref n)) (λ z g. f z (number-is m.heap n least i z g))

-- how many values there are
pub size_then : {m : Machine} {B : Type 0} {R : B → Machine → Type 0} (k : ℕ → Rule B) (n least : ℕ) (values : List Value) → values_at m.heap n ≡ Some values → Comes m (k (length values)) R → Comes m (part Shape (size least) (Ref n) >>= k) R
size_then {m} {B} {R} k n least values e f = looks_then k (answers-part Shape (size least) (Ref n)) (λ z g. subst (λ x. Comes m (k x) R) (sym (size-is m.heap n least z values e g)) f)

-- the values of an object as before
pub values_kept : (h k : Heap) (n : ℕ) → k.at n ≡ h.at n → values_at k n ≡ values_at h n
values_kept h k n e = ap (λ (x : Option Object). option_and_then (λ (o : Object). pointers_of o.body) x) e

pub field_kept : (h k : Heap) (n i : ℕ) → k.at n ≡ h.at n → field_at k n i ≡ field_at h n i
unfolding field_at
field_kept h k n i e = ap (λ (x : Option (List Value)). option_and_then (λ (values : List Value). slice_get values i) x) (values_kept h k n e)

-- a field of told values
pub field_among : (h : Heap) (n i : ℕ) (values : List Value) (v : Value) → values_at h n ≡ Some values → slice_get values i ≡ Some v → field_at h n i ≡ Some v
unfolding field_at
field_among h n i values v e f = ap (λ (x : Option (List Value)). option_and_then (λ (values : List Value). slice_get values i) x) e ∙ f

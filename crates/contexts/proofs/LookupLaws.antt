-- A rule that only looks depends on nothing but what it looks at, and a lookup is such a rule.
use Rattle.std.proofs.Common.{◌≡◌, ℕ, zero, suc, Bool, true, false, List, [], ◌∷◌, ◌++◌, Option, Some, None, ◌⊎◌, inl, inr, refl, sym, subst}
use Rattle.long_names.specs.declared.value.Value.{Value}
use Rattle.long_names.specs.declared.value.Value.TheVariants.{Int, Ref}
use Rattle.long_names.specs.declared.object.Object.{Object}
use Rattle.blue_model.specs.declared.cause.Cause.{Cause}
use Rattle.blue_model.specs.declared.limits.TheConstants.{LONGEST_CHAIN}
use Rattle.blue_model.specs.Machine.{Machine, LogRow, Outcome, Go, Halt, Spent, Rule, log_of, after, then_do, ◌>>=◌, done, halt, given, pick, looked, look, part}
use Rattle.blue_model.specs.Lookup.{method_at, find_in, found_or, find_from, lookup}
use Rattle.contexts.specs.Cache.{IsRead}

-- ---- rules that only look

-- Both end alike, with no change of their machines, and the second reads no other objects.
abbrev pub SameLook : {A : Type 0} → Machine → Machine → Outcome A → Outcome A → Type 0
SameLook m s (Go a x log) (Go b y rows) = (a ≡ b) × (x ≡ m) × (y ≡ s) × ((n : ℕ) → IsRead n rows → IsRead n log)
SameLook m s (Halt c log) (Halt d rows) = (c ≡ d) × ((n : ℕ) → IsRead n rows → IsRead n log)
SameLook m s _ _ = ⊥

-- The rule changes nothing, and does the same over a heap that has the same objects wherever it looks.
pub record OnlyLooks {A : Type 0} (p : Rule A) : Type 0 where
  pub looks : (m s : Machine) → ((n : ℕ) → IsRead n (log_of (p m)) → s.heap.at n ≡ m.heap.at n) → SameLook m s (p m) (p s)

-- ---- logs, one after the other

IsRead-before : (n : ℕ) (xs ys : List LogRow) → IsRead n xs → IsRead n (xs ++ ys)
IsRead-before n [] ys h = absurd h
IsRead-before n (x ∷ xs) ys (inl h) = inl h
IsRead-before n (x ∷ xs) ys (inr h) = inr (IsRead-before n xs ys h)

IsRead-after : (n : ℕ) (xs ys : List LogRow) → IsRead n ys → IsRead n (xs ++ ys)
IsRead-after n [] ys h = h
IsRead-after n (x ∷ xs) ys h = inr (IsRead-after n xs ys h)

pub IsRead-either : (n : ℕ) (xs ys : List LogRow) → IsRead n (xs ++ ys) → IsRead n xs ⊎ IsRead n ys
IsRead-either n [] ys h = inr h
IsRead-either n (x ∷ xs) ys (inl h) = inl (inl h)
IsRead-either n (x ∷ xs) ys (inr h) = elim (IsRead-either n xs ys h) [ inl a ↦ inl (inr a) | inr b ↦ inr b ]

read_both : (xs ys us vs : List LogRow) → ((n : ℕ) → IsRead n ys → IsRead n xs) → ((n : ℕ) → IsRead n vs → IsRead n us) → (n : ℕ) → IsRead n (ys ++ vs) → IsRead n (xs ++ us)
read_both xs ys us vs f g n h = elim (IsRead-either n ys vs h) [ inl a ↦ IsRead-before n xs us (f n a) | inr b ↦ IsRead-after n xs us (g n b) ]

-- what was read before is in the log of the whole,
read_first : {A : Type 0} (log : List LogRow) (o : Outcome A) (n : ℕ) → IsRead n log → IsRead n (log_of (after log o))
read_first log (Go b y rows) n h = IsRead-before n log rows h
read_first log (Halt c rows) n h = IsRead-before n log rows h
read_first log (Spent rows) n h = IsRead-before n log rows h

-- and so is what was read after it
read_last : {A : Type 0} (log : List LogRow) (o : Outcome A) (n : ℕ) → IsRead n (log_of o) → IsRead n (log_of (after log o))
read_last log (Go b y rows) n h = IsRead-after n log rows h
read_last log (Halt c rows) n h = IsRead-after n log rows h
read_last log (Spent rows) n h = IsRead-after n log rows h

read_then : {A B : Type 0} (o : Outcome A) (k : A → Rule B) (n : ℕ) → IsRead n (log_of o) → IsRead n (log_of (then_do o k))
read_then (Go a x log) k n h = read_first log (k a x) n h
read_then (Halt c log) k n h = h
read_then (Spent log) k n h = h

-- ---- the combinators

SameLook-after : {A : Type 0} (m s : Machine) (xs ys : List LogRow) (a b : Outcome A) → ((n : ℕ) → IsRead n ys → IsRead n xs) → SameLook m s a b → SameLook m s (after xs a) (after ys b)
SameLook-after m s xs ys (Go a x log) (Go b y rows) f h = (h.0, h.1, h.2, read_both xs ys log rows f h.3)
SameLook-after m s xs ys (Halt c log) (Halt d rows) f h = (h.0, read_both xs ys log rows f h.1)
SameLook-after m s xs ys _ _ f h = absurd h

SameLook-then : {A B : Type 0} (m s : Machine) (a b : Outcome A) (k : A → Rule B) → SameLook m s a b → ((x : A) → OnlyLooks (k x)) → ((n : ℕ) → IsRead n (log_of (then_do a k)) → s.heap.at n ≡ m.heap.at n) → SameLook m s (then_do a k) (then_do b k)
SameLook-then {A} {B} m s (Go a x log) (Go b y rows) k h f same =
    let it : SameLook m s (k a m) (k a s) = (f a).looks m s (λ n r. same n (subst (λ (z : Machine). IsRead n (log_of (after log (k a z)))) (sym h.1) (read_last log (k a m) n r))) in
    let first : SameLook m s (k a x) (k a s) = subst (λ (z : Machine). SameLook m s (k a z) (k a s)) (sym h.1) it in
    let second : SameLook m s (k a x) (k a y) = subst (λ (z : Machine). SameLook m s (k a x) (k a z)) (sym h.2) first in
    let third : SameLook m s (k a x) (k b y) = subst (λ (z : A). SameLook m s (k a x) (k z y)) h.0 second in
    SameLook-after m s log rows (k a x) (k b y) h.3 third
SameLook-then m s (Halt c log) (Halt d rows) k h f same = h
SameLook-then m s _ _ k h f same = absurd h

pub looks_then : {A B : Type 0} {p : Rule A} (k : A → Rule B) → OnlyLooks p → ((a : A) → OnlyLooks (k a)) → OnlyLooks (p >>= k)
unfolding ◌>>=◌
looks_then {A} {B} {p} k first f = record { looks = λ m s same. SameLook-then m s (p m) (p s) k (first.looks m s (λ n r. same n (read_then (p m) k n r))) f same }

pub looks_done : {A : Type 0} (a : A) → OnlyLooks (done a)
unfolding done
looks_done a = record { looks = λ m s same. (refl, refl, refl, λ n r. r) }

pub looks_halt : {A : Type 0} (c : Cause) → OnlyLooks {A = A} (halt c)
unfolding halt
looks_halt c = record { looks = λ m s same. (refl, λ n r. r) }

pub looks_given : {A : Type 0} (c : Cause) (o : Option A) → OnlyLooks (given c o)
unfolding given
looks_given c None = looks_halt c
looks_given c (Some a) = looks_done a

pub looks_pick : {A : Type 0} (b : Bool) (p q : Rule A) → OnlyLooks p → OnlyLooks q → OnlyLooks (pick b p q)
unfolding pick
looks_pick true p q f g = f
looks_pick false p q f g = g

pub looks_look : (v : Value) → OnlyLooks (look v)
unfolding look
looks_look (Int z) = record { looks = λ m s same. (refl, λ n r. r) }
looks_look (Ref k) = record { looks = λ m s same. step m s (m.heap.at k) (here m s (m.heap.at k) same) }
  where
    here : (m s : Machine) (o : Option Object) → ((n : ℕ) → IsRead n (log_of (looked m (Ref k) o)) → s.heap.at n ≡ m.heap.at n) → s.heap.at k ≡ m.heap.at k
    here m s None same = same k (inl refl)
    here m s (Some o) same = same k (inl refl)

    step : (m s : Machine) (o : Option Object) → s.heap.at k ≡ o → SameLook m s (looked m (Ref k) o) (looked s (Ref k) (s.heap.at k))
    step m s None e = subst (λ x. SameLook m s (looked m (Ref k) None) (looked s (Ref k) x)) (sym e) (refl, λ n r. r)
    step m s (Some o) e = subst (λ x. SameLook m s (looked m (Ref k) (Some o)) (looked s (Ref k) x)) (sym e) (refl, refl, refl, λ n r. r)

pub looks_part : {A : Type 0} (c : Cause) (f : Object → Option A) (v : Value) → OnlyLooks (part c f v)
unfolding part
looks_part c f v = looks_then _ (looks_look v) (λ o. looks_given c (f o))

ruleset looking = (looks_then, looks_done, looks_halt, looks_given, looks_pick, looks_look, looks_part)

-- ---- the lookup

looks_method_at : (dictionary : Value) (slot : Option ℕ) → OnlyLooks (method_at dictionary slot)
unfolding method_at
looks_method_at dictionary None = search looking
looks_method_at dictionary (Some slot) = search looking depth 12

looks_find_in : (selector class : Value) → OnlyLooks (find_in selector class)
unfolding find_in
looks_find_in selector class = search (looking, looks_method_at) depth 14

looks_found_or : (o : Option Value) (rest : Rule (Option Value)) → OnlyLooks rest → OnlyLooks (found_or o rest)
unfolding found_or
looks_found_or None rest f = f
looks_found_or (Some v) rest f = search looking

pub looks_find_from : (n : ℕ) (selector class : Value) → OnlyLooks (find_from n selector class)
unfolding find_from
looks_find_from zero selector class = search looking
looks_find_from (suc n) selector class = let next : (superclass : Value) → OnlyLooks (find_from n selector superclass) = λ superclass. looks_find_from n selector superclass in search (looking, looks_find_in, looks_found_or, next) depth 12

pub looks_lookup : (selector class : Value) → OnlyLooks (lookup selector class)
looks_lookup selector class = looks_find_from LONGEST_CHAIN selector class

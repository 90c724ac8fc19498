-- Rules that come to the same over fewer rows: what serves a rule serves one whose log has all of its rows.
-- So the code asks an object once for its kind and length (`Extent`) where the rule looks at several parts of it.
use Rattle.std.proofs.Common.{◌≡◌, ℕ, true, List, [], ◌∷◌, Option, Some, None, Result, Ok, Err, inl, inr, refl, sym, ◌∙◌, subst, ap}
use Rattle.std.specs.Option.{option_map}
use Rattle.long_names.specs.declared.value.Value.TheVariants.{Ref}
use Rattle.long_names.specs.declared.object.Object.{Object}
use Rattle.object_memory.specs.declared.fault.Need.{Need}
use Rattle.object_memory.specs.declared.fault.MemFault.{MemFault}
use Rattle.object_memory.specs.declared.fault.MemFault.TheVariants.{CoreFull, WorkFull, WorkFault, Damaged, NamesSpent, Said, Memory}
use Rattle.object_memory.specs.Told.{Told}
use Rattle.blue_model.specs.declared.cpu.Cpu.{Cpu}
use Rattle.blue_model.specs.declared.cause.Cause.{Cause}
use Rattle.blue_model.specs.declared.cause.Cause.TheVariants.{Shape}
use Rattle.blue_model.specs.Machine.{Machine, LogRow, Outcome, Go, Halt, Spent, Rule, log_of, row_of, looked, classed, then_do, ◌>>=◌, done, given, look, part, class_of}
use Rattle.blue_model.specs.Trials.{peek}
use Rattle.contexts.specs.declared.stop.Stop.{Stop}
use Rattle.contexts.specs.declared.stop.Stop.TheVariants.{Stuck, Mem}
use Rattle.contexts.specs.Serves.{Stands, HasNeed, IsLogged, HasMaking, Allows, Gives, Serves}

-- each row of a log is in another
pub record HasRows (xs ys : List LogRow) : Type 0 where
  pub needs : (need : Need) → IsLogged need xs → IsLogged need ys
  pub makings : (n : ℕ) → HasMaking n xs → HasMaking n ys

-- the first outcome is the second, but for rows that only the second has
abbrev pub IsWithin : {A : Type 0} → Outcome A → Outcome A → Type 0
IsWithin (Go a m xs) (Go b n ys) = (a ≡ b) × (m ≡ n) × HasRows xs ys
IsWithin (Halt c xs) (Halt d ys) = (c ≡ d) × HasRows xs ys
IsWithin (Spent xs) (Spent ys) = HasRows xs ys
IsWithin _ _ = ⊥

rows_within : {A : Type 0} (o p : Outcome A) → IsWithin o p → HasRows (log_of o) (log_of p)
rows_within (Go a m xs) (Go b n ys) w = w.2
rows_within (Halt c xs) (Halt d ys) w = w.1
rows_within (Spent xs) (Spent ys) w = w
rows_within (Go a m xs) (Halt d ys) w = absurd w
rows_within (Go a m xs) (Spent ys) w = absurd w
rows_within (Halt c xs) (Go b n ys) w = absurd w
rows_within (Halt c xs) (Spent ys) w = absurd w
rows_within (Spent xs) (Go b n ys) w = absurd w
rows_within (Spent xs) (Halt d ys) w = absurd w

allows_within : {A : Type 0} (t : Told) (f : MemFault) (o p : Outcome A) → IsWithin o p → Allows t f o → Allows t f p
allows_within t (CoreFull need) o p w h = (rows_within o p w).needs need h
allows_within t (WorkFull live room) o p w h = (rows_within o p w).makings t.heap.next h
allows_within t (WorkFault count) o p w h = tt
allows_within t (Damaged place name) o p w h = h
allows_within t NamesSpent (Go a m xs) p w h = absurd h
allows_within t NamesSpent (Halt c xs) p w h = absurd h
allows_within t NamesSpent (Spent xs) (Spent ys) w h = tt
allows_within t NamesSpent (Spent xs) (Go b n ys) w h = absurd w
allows_within t NamesSpent (Spent xs) (Halt d ys) w h = absurd w
allows_within t (Said count) o p w h = absurd h
allows_within t Memory o p w h = tt

gives_within : {A : Type 0} (t : Told) (now : Cpu) (r : Result A Stop) (o p : Outcome A) → IsWithin o p → Gives t now r o → Gives t now r p
gives_within t now (Ok x) (Go a m xs) (Go b n ys) w h = (sym w.0 ∙ h.0, subst (Stands t now) w.1 h.1)
gives_within t now (Ok x) (Go a m xs) (Halt d ys) w h = absurd w
gives_within t now (Ok x) (Go a m xs) (Spent ys) w h = absurd w
gives_within t now (Ok x) (Halt c xs) p w h = absurd h
gives_within t now (Ok x) (Spent xs) p w h = absurd h
gives_within t now (Err (Stuck c)) (Halt d xs) (Halt e ys) w h = sym w.0 ∙ h
gives_within t now (Err (Stuck c)) (Halt d xs) (Go b n ys) w h = absurd w
gives_within t now (Err (Stuck c)) (Halt d xs) (Spent ys) w h = absurd w
gives_within t now (Err (Stuck c)) (Go a m xs) p w h = absurd h
gives_within t now (Err (Stuck c)) (Spent xs) p w h = absurd h
gives_within t now (Err (Mem f)) o p w h = allows_within t f o p w h

pub serves_within : {A : Type 0} {old new : Told} {cpu now : Cpu} {p q : Rule A} {answer : Result A Stop} → ((m : Machine) → IsWithin (q m) (p m)) → Serves old cpu new now q answer → Serves old cpu new now p answer
serves_within {A} {old} {new} {cpu} {now} {p} {q} {answer} w s = record {
  later = s.later;
  ready = s.ready;
  reason = s.reason;
  counts = s.counts;
  vault = s.vault;
  silent = s.silent;
  model = λ told m st. gives_within new now answer (q m) (p m) (w m) (s.model told m st);
}

-- ---- rows of one object

-- the same row, once, twice or more often
abbrev pub IsOnly : LogRow → List LogRow → Type 0
IsOnly row [] = Unit {0}
IsOnly row (x ∷ xs) = (x ≡ row) × IsOnly row xs

pub rows_only : (row : LogRow) (xs ys : List LogRow) → IsOnly row xs → HasRows xs (row ∷ ys)
rows_only row xs ys only = record { needs = λ need h. need_at need xs only h; makings = λ n h. making_at n xs only h }
  where
    need_at : (need : Need) (xs : List LogRow) → IsOnly row xs → IsLogged need xs → IsLogged need (row ∷ ys)
    need_at need [] only h = absurd h
    need_at need (x ∷ xs) only (inl h) = inl (subst (HasNeed need) only.0 h)
    need_at need (x ∷ xs) only (inr h) = need_at need xs only.1 h

    making_at : (n : ℕ) (xs : List LogRow) → IsOnly row xs → HasMaking n xs → HasMaking n (row ∷ ys)
    making_at n [] only h = absurd h
    making_at n (x ∷ xs) only (inl h) = inl (subst (λ (r : LogRow). (r.makes ≡ true) × (r.object ≡ n)) only.0 h)
    making_at n (x ∷ xs) only (inr h) = making_at n xs only.1 h

pub rows_none : (ys : List LogRow) → HasRows [] ys
rows_none ys = record { needs = λ need h. absurd h; makings = λ n h. absurd h }

-- ---- rules that look at one object

abbrev pub only_row : Machine → ℕ → List LogRow
only_row m n = row_of m n ∷ []

-- a rule that comes to an answer, and one that comes to the same
pub goes_within : {A : Type 0} (row : LogRow) (q p : Outcome A) (a : A) (m : Machine) (xs : List LogRow) → q ≡ Go a m xs → p ≡ Go a m (row ∷ []) → IsOnly row xs → IsWithin q p
goes_within {A} row q p a m xs e f only = subst (λ (o : Outcome A). IsWithin o p) (sym e) (subst (λ (o : Outcome A). IsWithin (Go a m xs) o) (sym f) (refl, refl, rows_only row xs [] only))

-- and where both halt
pub halts_within : {A : Type 0} (row : LogRow) (q p : Outcome A) (c : Cause) (xs : List LogRow) → q ≡ Halt c xs → p ≡ Halt c (row ∷ []) → IsOnly row xs → IsWithin q p
halts_within {A} row q p c xs e f only = subst (λ (o : Outcome A). IsWithin o p) (sym e) (subst (λ (o : Outcome A). IsWithin (Halt c xs) o) (sym f) (refl, rows_only row xs [] only))

-- what is looked for in an object that is there, and in none
pub peek_goes : {A : Type 0} (f : Object → Option A) (m : Machine) (n : ℕ) (o : Object) → m.heap.at n ≡ Some o → peek f (Ref n) m ≡ Go (f o) m (only_row m n)
unfolding peek look done ◌>>=◌
peek_goes f m n o e = ap (λ x. then_do (looked m (Ref n) x) (λ o. done (f o))) e

pub peek_halts : {A : Type 0} (f : Object → Option A) (m : Machine) (n : ℕ) → m.heap.at n ≡ None → peek f (Ref n) m ≡ Halt Shape (only_row m n)
unfolding peek look done ◌>>=◌
peek_halts f m n e = ap (λ x. then_do (looked m (Ref n) x) (λ o. done (f o))) e

-- a part of an object that is there
pub part_goes : {A : Type 0} (f : Object → Option A) (m : Machine) (n : ℕ) (o : Object) (a : A) → m.heap.at n ≡ Some o → f o ≡ Some a → part Shape f (Ref n) m ≡ Go a m (only_row m n)
unfolding part look given done ◌>>=◌
part_goes f m n o a e is = ap (λ x. then_do (looked m (Ref n) x) (λ o. given Shape (f o))) e ∙ ap (λ x. then_do (looked m (Ref n) (Some o)) (λ o. given Shape x)) is

-- its class
pub class_goes : (m : Machine) (n : ℕ) (o : Object) → m.heap.at n ≡ Some o → class_of (Ref n) m ≡ Go (Ref o.class) m (only_row m n)
unfolding class_of
class_goes m n o e = ap (λ (x : Option Object). classed m (Ref n) (option_map (λ (o : Object). o.class) x)) e

pub class_halts : (m : Machine) (n : ℕ) → m.heap.at n ≡ None → class_of (Ref n) m ≡ Halt Shape (only_row m n)
unfolding class_of
class_halts m n e = ap (λ (x : Option Object). classed m (Ref n) (option_map (λ (o : Object). o.class) x)) e

-- Words that are owed, one after another.
use Rattle.std.proofs.Common.{zero, suc, ◌≡◌, ℕ, pos, ◌+◌, ◌-◌, ◌/◌, ◌%◌, ◌<◌, ◌≤◌, nat_lt, nat_le, Bool, true, false, cond, eqb, List, [], ◌∷◌, length, map, drop, Option, Some, None, refl, sym, ◌∙◌, ap, subst, arith}
use Rattle.std.specs.Prelude.{negsuc, ◌^◌, slice_get, slice_index}
use Rattle.std.proofs.lemmas.Grind.{common_steps}
use Rattle.long_names.specs.declared.limits.TheConstants.{SMALL_INTEGERS}
use Rattle.long_names.specs.declared.value.Value.{Value}
use Rattle.long_names.specs.declared.value.Value.TheVariants.{Int, Ref}
use Rattle.long_names.specs.Objects.{name_of, fields_of}
use Rattle.long_names.specs.Words.{IsSmallInteger, IsValue, long_word, small_integer_of, value_of}
use Rattle.loom_host.specs.declared.outside.Host.{Ghosts}
use Rattle.object_record.specs.Raw.{RawRecord, longs_of}
use Rattle.object_record.specs.Objects.{value_in, int_in, object_in}
use Rattle.object_record.proofs.ObjectLaws.{value_in-long, fields-values}
use Rattle.disk_objects.specs.declared.rest.DiskRest.{DiskRest}
use Rattle.core_segment.specs.Chunks.{Chunk}
use Rattle.resident_table.specs.declared.Parts2.{Parts2}
use Rattle.core_view.specs.Levels.{Levels, heap_of}
use Rattle.core_view.specs.Counted.{words, words_of, IsSound}
use Rattle.core_view.specs.LevelSteps.{lowered}
use Rattle.long_names.proofs.CountLaws.{word_is}
use Rattle.core_view.proofs.LevelLaws.{words-cons, word-here, sound-as}
use Rattle.core_view.proofs.ChangeLaws.{lowered-sound, lowered-heap}
use Rattle.core_view.proofs.CanLaws.{change-less, owed-stored}
use Rattle.core_view.proofs.DeadLaws.{held-there}
use Rattle.long_names.specs.declared.object.Object.{Object}
use Rattle.delta_counts.specs.At.{IsAt, AtSome, can_lower, CanLower, Owes, IsSoundWith, IsReached, MayGo}
use Rattle.delta_counts.specs.Faults.{AreValues}

-- ---- long words and values

pub value-is : (long : ℕ) (v : Value) → IsValue v → long_word v ≡ long → value_in long ≡ v
value-is long v is e = ap value_in (sym e) ∙ value_in-long v is

small-there : (half : ℕ) → IsSmallInteger (cond (nat_lt half (2 ^ 30)) (pos half) (negsuc (2 ^ 31 - 1 - half))) → small_integer_of half ≡ None → ⊥
small-there half is none = go (nat_lt half SMALL_INTEGERS) refl (nat_le (2 ^ 31 - SMALL_INTEGERS) half) refl (nat_lt half (2 ^ 30)) refl
  where
    go : (a : Bool) → nat_lt half SMALL_INTEGERS ≡ a → (b : Bool) → nat_le (2 ^ 31 - SMALL_INTEGERS) half ≡ b → (c : Bool) → nat_lt half (2 ^ 30) ≡ c → ⊥
    go true ea b eb c ec =
        let z : Some (Int (pos half)) ≡ None = subst (λ (x : Bool). cond x (Some (Int (pos half))) (cond (nat_le (2 ^ 31 - SMALL_INTEGERS) half) (Some (Int (negsuc (2 ^ 31 - 1 - half)))) None) ≡ None) ea none in cc
    go false ea true eb c ec =
        let y : cond (nat_le (2 ^ 31 - SMALL_INTEGERS) half) (Some (Int (negsuc (2 ^ 31 - 1 - half)))) None ≡ None = subst (λ (x : Bool). cond x (Some (Int (pos half))) (cond (nat_le (2 ^ 31 - SMALL_INTEGERS) half) (Some (Int (negsuc (2 ^ 31 - 1 - half)))) None) ≡ None) ea none in
        let z : Some (Int (negsuc (2 ^ 31 - 1 - half))) ≡ None = subst (λ (x : Bool). cond x (Some (Int (negsuc (2 ^ 31 - 1 - half)))) None ≡ None) eb y in cc
    go false ea false eb true ec =
        let low : half < SMALL_INTEGERS = subst (λ (x : Bool). IsSmallInteger (cond x (pos half) (negsuc (2 ^ 31 - 1 - half)))) ec is in
        let high : SMALL_INTEGERS ≤ half = grind (arith, common_steps, ea) in
        omega arith
    go false ea false eb false ec =
        let low : 2 ^ 31 - 1 - half < SMALL_INTEGERS = subst (λ (x : Bool). IsSmallInteger (cond x (pos half) (negsuc (2 ^ 31 - 1 - half)))) ec is in
        let high : half < 2 ^ 31 - SMALL_INTEGERS = grind (arith, common_steps, eb) in
        omega arith

pub value-there : (long : ℕ) → IsValue (value_in long) → value_of long ≡ None → ⊥
value-there long is none = go (eqb (long % 2) 1) refl (eqb long 0) refl
  where
    go : (a : Bool) → eqb (long % 2) 1 ≡ a → (b : Bool) → eqb long 0 ≡ b → ⊥
    go true ea b eb = small-there (long / 2) (subst (λ (x : Bool). IsValue (cond x (Int (int_in long)) (Ref long))) ea is)
        (subst (λ (x : Bool). cond x (small_integer_of (long / 2)) (cond (eqb long 0) None (Some (Ref long))) ≡ None) ea none)
    go false ea false eb =
        let y : cond (eqb long 0) None (Some (Ref long)) ≡ None = subst (λ (x : Bool). cond x (small_integer_of (long / 2)) (cond (eqb long 0) None (Some (Ref long))) ≡ None) ea none in
        let z : Some (Ref long) ≡ None = subst (λ (x : Bool). cond x None (Some (Ref long)) ≡ None) eb y in cc
    go false ea true eb =
        let name = subst (λ (x : Bool). IsValue (cond x (Int (int_in long)) (Ref long))) ea is in
        let above = name.0.above in
        let nought : long ≡ 0 = grind (arith, common_steps, eb) in
        omega arith

same-name : (m n : ℕ) → Some m ≡ Some n → m ≡ n
same-name m n e = cc

pub is-ref : (v : Value) (n : ℕ) → Some n ≡ name_of v → v ≡ Ref n
is-ref (Int z) n e = cc
is-ref (Ref m) n e = ap (λ k. Ref k) (sym (same-name n m e))

pub no-word : (v : Value) (q : ℕ) → None ≡ name_of v → word_is q v ≡ 0
no-word (Int z) q e = refl
no-word (Ref m) q e = cc

-- what may be lowered
pub sound-can : (t : Levels) (n : ℕ) (owed : List Value) → IsSound t (Ref n ∷ owed) → CanLower n t
sound-can t n owed x = go (t.core.find n) refl
  where
    go : (o : Option ℕ) → t.core.find n ≡ o → can_lower t n o
    go (Some s) e = change-less t s (Ref n ∷ owed) x (x.core.used n s e)
    go None e = owed-stored t n owed x e

pub owes-can : {H : Type 0} (host : Ghosts H) (p : Parts2) (now : H) (rest : DiskRest) (v : Value) (n : ℕ) → v ≡ Ref n → AtSome host p now rest (Owes v) → AtSome host p now rest (CanLower n)
owes-can host p now rest v n e f told = let x = f told in (x.0, x.1, x.2, sound-can x.1 n x.3.0 (subst (λ w. IsSound x.1 (w ∷ x.3.0)) e x.3.1))

pub owes-same : {H : Type 0} (host : Ghosts H) (p : Parts2) (now : H) (rest : DiskRest) (v w : Value) → w ≡ v → AtSome host p now rest (Owes w) → AtSome host p now rest (Owes v)
owes-same host p now rest v w e f told = let x = f told in (x.0, x.1, x.2, (x.3.0, subst (λ u. IsSound x.1 (u ∷ x.3.0)) e x.3.1))

pub reached-number : {H : Type 0} (host : Ghosts H) (chunks : ℕ → Chunk) (p : Parts2) (now : H) (rest : DiskRest) (t : Levels) (v : Value) (owed : List Value) → None ≡ name_of v → IsAt host chunks p now rest t → IsSound t (v ∷ owed) → IsReached host chunks p now rest t owed
reached-number host chunks p now rest t v owed none at x = record {
  levels = t;
  at = at;
  sound = sound-as t (v ∷ owed) owed x (λ q. let a = words-cons v owed q in let b = no-word v q none in omega arith);
  heap = refl;
}

pub reached-lowered : {H : Type 0} (host : Ghosts H) (chunks : ℕ → Chunk) (new : Parts2) (now : H) (rest : DiskRest) (t : Levels) (v : Value) (n : ℕ) (owed : List Value) → v ≡ Ref n → IsSound t (v ∷ owed) → IsAt host chunks new now rest (lowered t n) → IsReached host chunks new now rest t owed
reached-lowered host chunks new now rest t v n owed e x at =
    let y : IsSound t (Ref n ∷ owed) = subst (λ w. IsSound t (w ∷ owed)) e x in
    record { levels = lowered t n; at = at; sound = lowered-sound t n owed y; heap = lowered-heap t n y.core }

pub word-some : (v : Value) (n : ℕ) → v ≡ Ref n → 0 < words (v ∷ []) n
word-some v n e = subst (λ w. 0 < words (w ∷ []) n) (sym e) (let a = words-cons (Ref n) [] n in let b = word-here n in omega arith)

-- ---- one after another

drop-suc : (xs : List ℕ) (i : ℕ) → i < length xs → drop i (map value_in xs) ≡ value_in (slice_index xs i) ∷ drop (suc i) (map value_in xs)
drop-suc [] i low = absurd (omega arith)
drop-suc (x ∷ xs) zero low = refl
drop-suc (x ∷ xs) (suc i) low = drop-suc xs i (omega arith)

pub drop-next : (xs : List ℕ) (i n : ℕ) → i < length xs → n ≡ i + 1 → drop i (map value_in xs) ≡ value_in (slice_index xs i) ∷ drop n (map value_in xs)
drop-next xs i n low e = drop-suc xs i low ∙ ap (λ k. value_in (slice_index xs i) ∷ drop k (map value_in xs)) (let m : suc i ≡ n = omega arith in m)

pub drop-all : (xs : List ℕ) (i : ℕ) → length xs ≤ i → drop i (map value_in xs) ≡ []
drop-all [] zero low = refl
drop-all [] (suc i) low = refl
drop-all (x ∷ xs) zero low = absurd (omega arith)
drop-all (x ∷ xs) (suc i) low = drop-all xs i (omega arith)

-- a step behind others
pub reached-then : {H : Type 0} (host : Ghosts H) (chunks : ℕ → Chunk) (p : Parts2) (now : H) (rest : DiskRest) (t u : Levels) (owed : List Value) → heap_of u ≡ heap_of t → IsReached host chunks p now rest u owed → IsReached host chunks p now rest t owed
reached-then host chunks p now rest t u owed same x = record { levels = x.levels; at = x.at; sound = x.sound; heap = x.heap ∙ same }

pub reached-some : {H : Type 0} (host : Ghosts H) (chunks : ℕ → Chunk) (p : Parts2) (now : H) (rest : DiskRest) (t : Levels) (v : Value) (owed all : List Value) → all ≡ v ∷ owed → IsReached host chunks p now rest t all → (chunks : ℕ → Chunk) × (u : Levels) × IsAt host chunks p now rest u × Owes v u
reached-some host chunks p now rest t v owed all e x = (chunks, x.levels, x.at, (owed, subst (λ vs. IsSound x.levels vs) e x.sound))

-- ---- the words of a record

pub words-are : (r : RawRecord) → words_of (object_in r) ≡ Ref r.class ∷ map value_in (longs_of r.body)
words-are r = ap (λ vs. Ref r.class ∷ vs) (fields-values r.body)

pub class-can : {H : Type 0} (host : Ghosts H) (p : Parts2) (now : H) (rest : DiskRest) (r : RawRecord) (n : ℕ) → n ≡ r.class → AtSome host p now rest (IsSoundWith (words_of (object_in r))) → AtSome host p now rest (CanLower n)
class-can host p now rest r n e f told = let x = f told in (x.0, x.1, x.2, sound-can x.1 n (map value_in (longs_of r.body)) (subst (λ m. IsSound x.1 (Ref m ∷ map value_in (longs_of r.body))) (sym e) (subst (λ vs. IsSound x.1 vs) (words-are r) x.3)))

pub class-sound : (t : Levels) (r : RawRecord) (n : ℕ) → n ≡ r.class → IsSound t (words_of (object_in r)) → IsSound t (Ref n ∷ map value_in (longs_of r.body))
class-sound t r n e x = subst (λ m. IsSound t (Ref m ∷ map value_in (longs_of r.body))) (sym e) (subst (λ vs. IsSound t vs) (words-are r) x)

pub reached-class : {H : Type 0} (host : Ghosts H) (chunks : ℕ → Chunk) (new : Parts2) (now : H) (rest : DiskRest) (t : Levels) (n : ℕ) (owed : List Value) → IsSound t (Ref n ∷ owed) → IsAt host chunks new now rest (lowered t n) → IsReached host chunks new now rest t owed
reached-class host chunks new now rest t n owed x at = record { levels = lowered t n; at = at; sound = lowered-sound t n owed x; heap = lowered-heap t n x.core }

-- ---- each of the fields

pub value-at : (xs : List ℕ) (i : ℕ) → i < length xs → slice_get (map value_in xs) i ≡ Some (value_in (slice_index xs i))
value-at [] i low = absurd (omega arith)
value-at (x ∷ xs) zero low = refl
value-at (x ∷ xs) (suc i) low = value-at xs i (omega arith)

pub field-value : (xs : List ℕ) (i long : ℕ) → i < length xs → long ≡ slice_index xs i → AreValues (map value_in xs) → IsValue (value_in long)
field-value xs i long low e all = subst (λ k. IsValue (value_in k)) (sym e) (all i (value_in (slice_index xs i)) (value-at xs i low))

one-of : (xs : List ℕ) (i q : ℕ) → i < length xs → 0 < words (value_in (slice_index xs i) ∷ []) q → 0 < words (map value_in xs) q
one-of [] i q low some = absurd (omega arith)
one-of (x ∷ xs) zero q low some =
    let a = words-cons (value_in x) (map value_in xs) q in
    let b = words-cons (value_in x) [] q in
    let here : 0 < words (value_in x ∷ []) q = some in
    let none : words [] q ≡ 0 = refl in
    omega arith
one-of (x ∷ xs) (suc i) q low some =
    let rest = one-of xs i q (omega arith) some in
    let a = words-cons (value_in x) (map value_in xs) q in
    omega arith

pub field-some : (xs : List ℕ) (i long : ℕ) → i < length xs → long ≡ slice_index xs i → (q : ℕ) → 0 < words (value_in long ∷ []) q → 0 < words (map value_in xs) q
field-some xs i long low e q some = one-of xs i q low (subst (λ k. 0 < words (value_in k ∷ []) q) e some)

-- a word of the record
pub class-some : (r : RawRecord) → 0 < words (words_of (object_in r)) r.class
class-some r = subst (λ vs. 0 < words vs r.class) (sym (words-are r)) (let a = words-cons (Ref r.class) (map value_in (longs_of r.body)) r.class in let b = word-here r.class in omega arith)

pub fields-some : (r : RawRecord) (q : ℕ) → 0 < words (map value_in (longs_of r.body)) q → 0 < words (words_of (object_in r)) q
fields-some r q some = subst (λ vs. 0 < words vs q) (sym (words-are r)) (let a = words-cons (Ref r.class) (map value_in (longs_of r.body)) q in omega arith)

-- each field of what was read is a value
pub free-values : (n : ℕ) (l : Levels) (r : RawRecord) → (may : MayGo n l) → object_in r ≡ may.stored.object → AreValues (map value_in (longs_of r.body))
free-values n l r may is i v there = may.sound.heap.valued n i may.stored.object v (held-there may.levels n may.stored may.can.loose.no_entry may.can.loose.there)
    (ap (λ (o : Object). slice_get (fields_of o.body) i) (sym is) ∙ ap (λ (vs : List Value). slice_get vs i) (fields-values r.body) ∙ there)

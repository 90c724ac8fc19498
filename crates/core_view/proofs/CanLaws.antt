-- Sums that fit their numbers.
use Rattle.std.proofs.Common.{zero, suc, ◌≡◌, ℕ, pos, ◌+ℤ◌, ◌+◌, ◌-◌, ◌<◌, ◌≤◌, Bool, true, false, cond, List, [], ◌∷◌, length, Option, Some, None, refl, sym, ◌∙◌, ap, arith}
use Rattle.std.specs.Prelude.{negsuc, ◌^◌, ◌≤ℤ◌, ◌++◌, replicate}
use Rattle.std.specs.Int.{w64, FitsUnsigned}
use Rattle.std.proofs.lemmas.Int.{ints}
use Rattle.long_names.specs.declared.value.Value.{Value}
use Rattle.long_names.specs.declared.value.Value.TheVariants.{Ref}
use Rattle.long_names.specs.Names.{is_known}
use Rattle.long_names.specs.declared.limits.TheConstants.{MOST_FIELDS}
use Rattle.long_names.specs.declared.object.Object.{Object}
use Rattle.long_names.specs.Objects.{fields_of, holdings, is_ref}
use Rattle.long_names.specs.Heap.{Heap, Has, count_of}
use Rattle.long_names.proofs.CountLaws.{count-limit}
use Rattle.core_view.proofs.FreeLaws.{words_of-is}
use Rattle.object_table.specs.Entries.{is_used}
use Rattle.core_view.specs.Counts.{change_by}
use Rattle.core_view.specs.Levels.{Stored, Levels, count_in, heap_of}
use Rattle.core_view.specs.Counted.{words, words_of, one_if, IsSound}
use Rattle.core_view.specs.Dead.{HasCount}
use Rattle.core_view.proofs.LevelLaws.{words-cons, word-here, word-other, by_name}
use Rattle.core_view.proofs.QueueLaws.{waits-not}
use Rattle.core_view.proofs.ChangeLaws.{no-change, stored-absent, raised-sound}
use Rattle.core_view.specs.LevelSteps.{raised_by}

pub count-small : (t : Levels) (q : ℕ) (owed : List Value) → IsSound t owed → count_in (t.stored q) ≤ 2 ^ 62
count-small t q owed x = go (t.stored q) refl
  where
    go : (o : Option Stored) → t.stored q ≡ o → count_in (t.stored q) ≤ 2 ^ 62
    go None e = let z = ap count_in e in omega arith
    go (Some r) e = let z = ap count_in e in let m = x.small.stored q r e in omega arith

pub sum-is : (t : Levels) (s : ℕ) (owed : List Value) → IsSound t owed → is_used (t.core.entries s).state ≡ true
    → pos (count_in (t.stored (t.core.entries s).name)) +ℤ (t.core.entries s).change ≡ pos (count_of (heap_of t) (t.core.entries s).name + words owed (t.core.entries s).name)
sum-is t s owed x used =
    ap (λ z. pos (count_in (t.stored (t.core.entries s).name)) +ℤ z) (sym (ap (λ o. change_by t.core.entries o) (x.core.found s used)))
    ∙ x.counted.exact (t.core.entries s).name (x.counted.entered (t.core.entries s).name s (x.core.found s used))

pub change-less : (t : Levels) (s : ℕ) (owed : List Value) → IsSound t owed → is_used (t.core.entries s).state ≡ true → (negsuc (2 ^ 63 - 1) ≤ℤ ((t.core.entries s).change +ℤ negsuc 0)) × (((t.core.entries s).change +ℤ negsuc 0) ≤ℤ pos (2 ^ 63 - 1))
change-less t s owed x used =
    let e = sum-is t s owed x used in
    let a = count-small t (t.core.entries s).name owed x in
    let b = x.small.counts (t.core.entries s).name in
    (omega (arith, ints), omega (arith, ints))

pub sum-fits : (t : Levels) (s : ℕ) (owed : List Value) → IsSound t owed → is_used (t.core.entries s).state ≡ true → FitsUnsigned w64 (pos (count_in (t.stored (t.core.entries s).name)) +ℤ (t.core.entries s).change)
sum-fits t s owed x used =
    let e = sum-is t s owed x used in
    let b = x.small.counts (t.core.entries s).name in
    (omega (arith, ints), omega (arith, ints))

-- the count on disk of a name without an entry, of which a word is owed
pub owed-stored : (t : Levels) (n : ℕ) (owed : List Value) → IsSound t (Ref n ∷ owed) → t.core.find n ≡ None → HasCount t.stored t.pending n
owed-stored t n owed x absent = record { record_is = at.0; there = at.1; some = some; few = x.small.stored n at.0 at.1; idle = x.counted.waiting n ∙ ap one_if (waits-not (t.core.find n) (t.stored n) (is_known n) (λ w. let a = ap count_in w.there in let b = w.none in let c = ap count_in at.1 in let d = some in omega arith)) }
  where
    has : Has (heap_of t) n
    has = x.counted.named n (let a = words-cons (Ref n) owed n in let b = word-here n in omega arith)

    at : (r : Stored) × (t.stored n ≡ Some r)
    at = stored-absent t n absent has

    some : 0 < at.0.count
    some = let e = x.counted.exact n has in let a = no-change t.core n absent in let b = ap count_in at.1 in let c = words-cons (Ref n) owed n in let d = word-here n in omega (arith, ints)

-- ---- one word more

pub raise-one : (t : Levels) (s : ℕ) (owed : List Value) → IsSound t owed → is_used (t.core.entries s).state ≡ true → count_of (heap_of t) (t.core.entries s).name + words owed (t.core.entries s).name < 2 ^ 62
    → IsSound (raised_by t s (pos 1)) (Ref (t.core.entries s).name ∷ owed)
raise-one t s owed x used few = raised-sound t s (pos 1) owed (Ref n ∷ owed) x used
    (λ q away. let a = words-cons (Ref n) owed q in let b = word-other n q away in omega arith)
    (let a = words-cons (Ref n) owed n in let b = word-here n in omega (arith, ints))
    (by_name {P = λ q. count_of (heap_of t) q + words (Ref n ∷ owed) q ≤ 2 ^ 62} n
    (let a = words-cons (Ref n) owed n in let b = word-here n in let c = few in omega arith)
    (λ q away. let a = words-cons (Ref n) owed q in let b = word-other n q away in let c = x.small.counts q in omega arith))
    (by_name {P = λ q. 0 < words (Ref n ∷ owed) q → Has (heap_of t) q} n
    (λ some. x.counted.entered n s (x.core.found s used))
    (λ q away some. x.counted.named q (let a = words-cons (Ref n) owed q in let b = word-other n q away in omega arith)))
  where
    n : ℕ
    n = (t.core.entries s).name

-- ---- many words more

words-many : (n m : ℕ) (owed : List Value) → words (replicate n (Ref m) ++ owed) m ≡ n + words owed m
words-many zero m owed = let none : words (replicate 0 (Ref m) ++ owed) m ≡ words owed m = refl in omega arith
words-many (suc n) m owed = let rest = words-many n m owed in let a = words-cons (Ref m) (replicate n (Ref m) ++ owed) m in let b = word-here m in omega arith

words-away : (n m q : ℕ) (owed : List Value) → (q ≡ m → ⊥) → words (replicate n (Ref m) ++ owed) q ≡ words owed q
words-away zero m q owed away = refl
words-away (suc n) m q owed away = let rest = words-away n m q owed away in let a = words-cons (Ref m) (replicate n (Ref m) ++ owed) q in let b = word-other m q away in omega arith

pub raise-many : (t : Levels) (s n : ℕ) (owed : List Value) → IsSound t owed → is_used (t.core.entries s).state ≡ true → count_of (heap_of t) (t.core.entries s).name + words owed (t.core.entries s).name + n ≤ 2 ^ 62
    → IsSound (raised_by t s (pos n)) (replicate n (Ref (t.core.entries s).name) ++ owed)
raise-many t s n owed x used few = raised-sound t s (pos n) owed (replicate n (Ref m) ++ owed) x used
    (λ q away. words-away n m q owed away)
    (let a = words-many n m owed in omega (arith, ints))
    (by_name {P = λ q. count_of (heap_of t) q + words (replicate n (Ref m) ++ owed) q ≤ 2 ^ 62} m
    (let a = words-many n m owed in let b = few in omega arith)
    (λ q away. let a = words-away n m q owed away in let c = x.small.counts q in omega arith))
    (by_name {P = λ q. 0 < words (replicate n (Ref m) ++ owed) q → Has (heap_of t) q} m
    (λ some. x.counted.entered m s (x.core.found s used))
    (λ q away some. x.counted.named q (let a = words-away n m q owed away in omega arith)))
  where
    m : ℕ
    m = (t.core.entries s).name

pub change-more : (t : Levels) (s n : ℕ) (owed : List Value) → IsSound t owed → is_used (t.core.entries s).state ≡ true → n < 2 ^ 62 → (negsuc (2 ^ 63 - 1) ≤ℤ ((t.core.entries s).change +ℤ pos n)) × (((t.core.entries s).change +ℤ pos n) ≤ℤ pos (2 ^ 63 - 1))
change-more t s n owed x used few =
    let e = sum-is t s owed x used in
    let a = count-small t (t.core.entries s).name owed x in
    let b = x.small.counts (t.core.entries s).name in
    (omega (arith, ints), omega (arith, ints))

-- ---- the counts of a heap

words-most : (vs : List Value) (q : ℕ) → words vs q ≤ length vs
words-most [] q = omega arith
words-most (v ∷ vs) q = let a = words-cons v vs q in let rest = words-most vs q in let one = at_most (is_ref q v) in omega arith
  where
    at_most : (b : Bool) → cond {A = ℕ} b 1 0 ≤ 1
    at_most true = omega arith
    at_most false = omega arith

pub counts-most : (h : Heap) (q : ℕ) → h.next ≤ 2 ^ 32 → ((k : ℕ) (o : Object) → h.at k ≡ Some o → length (fields_of o.body) ≤ MOST_FIELDS) → count_of h q ≤ 2 ^ 48
counts-most h q low sized = let a = count-limit h q 65536 each in omega arith
  where
    each : (k : ℕ) (o : Object) → h.at k ≡ Some o → holdings o q ≤ 65536
    each k o there =
        let a = words_of-is o q in
        let b = words-most (words_of o) q in
        let few = sized k o there in
        omega arith

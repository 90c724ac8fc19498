-- Changes of counts in entries and on disk.
use Rattle.std.specs.Prelude.{◌==◌, negsuc}
use Rattle.std.proofs.Common.{◌≡◌, ◌≢◌, ℕ, ℤ, pos, ◌+ℤ◌, ◌+◌, ◌-◌, ◌<◌, ◌≤◌, true, List, ◌∷◌, Option, Some, None, is_some, refl, sym, ◌∙◌, ap, ap₂, subst, arith}
use Rattle.std.specs.Prelude.{option_map, ◌^◌}
use Rattle.std.proofs.Math.Path.{fun_ext}
use Rattle.std.proofs.lemmas.Int.{ints}
use Rattle.long_names.specs.declared.value.Value.{Value}
use Rattle.long_names.specs.declared.value.Value.TheVariants.{Ref}
use Rattle.long_names.specs.Names.{is_known}
use Rattle.long_names.specs.Heap.{Has, count_of}
use Rattle.object_table.specs.declared.entry.Entry.{Entry}
use Rattle.object_table.specs.Entries.{put, is_used, place_of, free_entry}
use Rattle.core_view.specs.Core.{Core, without_leaf}
use Rattle.core_view.specs.Held.{Disk, held}
use Rattle.std.specs.List.{count_by}
use Rattle.core_view.specs.Counts.{names, holders_in, holders, outside, change_by, change_of}
use Rattle.core_view.specs.Kept.{IsCore, IsBacked}
use Rattle.core_view.specs.Steps.{IsIdle}
use Rattle.core_view.proofs.Lists.{put-here, put-there}
use Rattle.core_view.proofs.Core.{held-absent}
use Rattle.core_view.proofs.Entries.{IsStep, at-entry, step-core, step-outside, touch-step, touch-held, touch-backed}
use Rattle.core_view.proofs.Leaves.{idle-core, idle-held, idle-backed}
use Rattle.core_view.specs.Levels.{Stored, Levels, record_in, count_in, records_of, heap_of, sum_of, waits}
use Rattle.core_view.specs.Counted.{words, one_if, IsCounted, IsHeld, IsSound}
use Rattle.core_view.specs.LevelSteps.{with_change, changed_at, raised_by, recounted, joined, lowered_by, lowered, to_count, folded, given}
use Rattle.core_view.proofs.LevelLaws.{heap-same, words-cons, word-here, word-other, by_name, counted-step}
use Rattle.core_view.proofs.QueueLaws.{joined-here, joined-there, waits-not, entered-waits}

some-same : {A : Type 0} (x y : A) → Some x ≡ Some y → x ≡ y
some-same x y e = cc

-- ---- the change of an entry

pub change-here : (c : Core) (s : ℕ) (x : ℤ) → IsCore c → is_used (c.entries s).state ≡ true → change_of (changed_at c s x) (c.entries s).name ≡ x
change-here c s x core used =
    ap (λ o. change_by (put c.entries s (with_change (c.entries s) x)) o) (core.found s used)
    ∙ ap (λ (e : Entry). e.change) (put-here c.entries s (with_change (c.entries s) x))

pub change-there : (c : Core) (s q : ℕ) (x : ℤ) → IsCore c → q ≢ (c.entries s).name → change_of (changed_at c s x) q ≡ change_of c q
change-there c s q x core away = go (c.find q) refl
  where
    go : (o : Option ℕ) → c.find q ≡ o → change_by (put c.entries s (with_change (c.entries s) x)) (c.find q) ≡ change_by c.entries (c.find q)
    go None e = ap (λ o. change_by (put c.entries s (with_change (c.entries s) x)) o) e ∙ sym (ap (λ o. change_by c.entries o) e)
    go (Some r) e =
        ap (λ o. change_by (put c.entries s (with_change (c.entries s) x)) o) e
        ∙ ap (λ (f : Entry). f.change) (put-there c.entries s (with_change (c.entries s) x) r (λ same. away (sym (core.named q r e) ∙ ap (λ (z : ℕ). (c.entries z).name) same)))
        ∙ sym (ap (λ o. change_by c.entries o) e)

change-step : (c : Core) (s : ℕ) (x : ℤ) → IsCore c → is_used (c.entries s).state ≡ true → IsStep c s (with_change (c.entries s) x)
change-step c s x core used = touch-step c s (c.entries s).refs x (c.entries s).flags core used (core.counted s)

pub change-core : (c : Core) (s : ℕ) (x : ℤ) → IsCore c → is_used (c.entries s).state ≡ true → IsCore (changed_at c s x)
change-core c s x core used = step-core c s (with_change (c.entries s) x) core (change-step c s x core used)

pub change-backed : (c : Core) (disk : Disk) (s : ℕ) (x : ℤ) → IsCore c → IsBacked c disk → is_used (c.entries s).state ≡ true → IsBacked (changed_at c s x) disk
change-backed c disk s x core backed used = touch-backed c disk s (c.entries s).refs x (c.entries s).flags core backed (change-step c s x core used) (λ e. e) refl

pub change-held : (c : Core) (disk : Disk) (s : ℕ) (x : ℤ) → IsCore c → is_used (c.entries s).state ≡ true → held (changed_at c s x) disk ≡ held c disk
change-held c disk s x core used = touch-held c disk s (c.entries s).refs x (c.entries s).flags core (change-step c s x core used)

-- ---- one entry's change differs

pub raised-heap : (t : Levels) (s : ℕ) (d : ℤ) → IsCore t.core → is_used (t.core.entries s).state ≡ true → heap_of (raised_by t s d) ≡ heap_of t
raised-heap t s d core used = heap-same t (raised_by t s d) (change-held t.core (records_of t) s ((t.core.entries s).change +ℤ d) core used) refl

pub raised-sound : (t : Levels) (s : ℕ) (d : ℤ) (owed now : List Value) → IsSound t owed → is_used (t.core.entries s).state ≡ true
    → ((q : ℕ) → q ≢ (t.core.entries s).name → words now q ≡ words owed q)
    → pos (words now (t.core.entries s).name) ≡ pos (words owed (t.core.entries s).name) +ℤ d
    → ((q : ℕ) → count_of (heap_of t) q + words now q ≤ 2 ^ 62)
    → ((q : ℕ) → 0 < words now q → Has (heap_of t) q)
    → IsSound (raised_by t s d) now
raised-sound t s d owed now x used others here few named = record {
  core = change-core t.core s ((t.core.entries s).change +ℤ d) x.core used;
  backed = change-backed t.core (records_of t) s ((t.core.entries s).change +ℤ d) x.core x.backed used;
  counted = counted-step t (raised_by t s d) owed now x.counted same sums x.counted.waiting x.counted.entered named;
  small = record { stored = x.small.stored; counts = λ q. subst (λ h. count_of h q + words now q ≤ 2 ^ 62) (sym same) (few q) };
  heap = subst (λ h. IsHeld h) (sym same) x.heap;
}
  where
    n : ℕ
    n = (t.core.entries s).name

    same : heap_of (raised_by t s d) ≡ heap_of t
    same = raised-heap t s d x.core used

    sums : (q : ℕ) → Has (heap_of t) q → sum_of (raised_by t s d) q +ℤ pos (words owed q) ≡ sum_of t q +ℤ pos (words now q)
    sums = by_name {P = λ q. Has (heap_of t) q → sum_of (raised_by t s d) q +ℤ pos (words owed q) ≡ sum_of t q +ℤ pos (words now q)} n
        (λ there.
        let a = change-here t.core s ((t.core.entries s).change +ℤ d) x.core used in
        let b : change_of t.core n ≡ (t.core.entries s).change = ap (λ o. change_by t.core.entries o) (x.core.found s used) in
        let e = here in
        omega (arith, ints))
        (λ q away there.
        let a = change-there t.core s q ((t.core.entries s).change +ℤ d) x.core away in
        let e = others q away in
        omega (arith, ints))

-- ---- a word less

-- a name of which a word is owed has a count
owed-count : (t : Levels) (n : ℕ) (owed : List Value) → IsCounted t (Ref n ∷ owed) → sum_of t n ≡ pos (count_of (heap_of t) n + words owed n + 1)
owed-count t n owed x =
    let here = words-cons (Ref n) owed n in
    let one = word-here n in
    x.exact n (x.named n (omega arith)) ∙ ap (λ k. pos k) (omega arith)

-- with other counts on disk, but the same objects
pub recounted-disk : (t : Levels) (n : ℕ) (r : Option Stored) → record_in r ≡ record_in (t.stored n) → (λ q. record_in (put t.stored n r q)) ≡ records_of t
recounted-disk t n r same = fun_ext (by_name {P = λ q. record_in (put t.stored n r q) ≡ record_in (t.stored q)} n (ap record_in (put-here t.stored n r) ∙ same) (λ q away. ap record_in (put-there t.stored n r q away)))

recounted-object : (k : ℕ) (r : Option Stored) → record_in (option_map (recounted k) r) ≡ record_in r
recounted-object k None = refl
recounted-object k (Some r) = refl

recounted-count : (k : ℕ) (r : Option Stored) (s : Stored) → r ≡ Some s → count_in (option_map (recounted k) r) ≡ k
recounted-count k None s e = cc
recounted-count k (Some r) s e = refl

pub no-change : (c : Core) (n : ℕ) → c.find n ≡ None → change_of c n ≡ pos 0
no-change c n e = ap (λ o. change_by c.entries o) e

-- an object that is held without an entry is on disk
pub stored-absent : (t : Levels) (n : ℕ) → t.core.find n ≡ None → Has (heap_of t) n → (r : Stored) × (t.stored n ≡ Some r)
stored-absent t n absent there = go (t.stored n) refl
  where
    go : (o : Option Stored) → t.stored n ≡ o → (r : Stored) × (t.stored n ≡ Some r)
    go None e = let none : is_some (record_in (t.stored n)) ≡ true = sym (ap is_some (held-absent t.core (records_of t) n absent)) ∙ there in absurd (cc)
    go (Some r) e = (r, e)

few-owed : (v : Value) (owed : List Value) (k q : ℕ) → k + words (v ∷ owed) q ≤ 2 ^ 62 → k + words owed q ≤ 2 ^ 62
few-owed v owed k q e = let a = words-cons v owed q in omega arith

lowered-absent : (t : Levels) (n : ℕ) (owed : List Value) → IsSound t (Ref n ∷ owed) → t.core.find n ≡ None → IsSound (lowered_by t n None) owed
lowered-absent t n owed x absent = record {
  core = x.core;
  backed = subst (λ (d : Disk). IsBacked t.core d) (sym disk) x.backed;
  counted = counted-step t (lowered_by t n None) (Ref n ∷ owed) owed x.counted same sums waiting x.counted.entered (λ q e. x.counted.named q (let a = words-cons (Ref n) owed q in omega arith));
  small = record {
    stored = by_name {P = λ q. (r : Stored) → put t.stored n (option_map (recounted less) (t.stored n)) q ≡ Some r → r.count ≤ 2 ^ 62} n
        (λ r e. let f : option_map (recounted less) (t.stored n) ≡ Some r = sym (put-here t.stored n (option_map (recounted less) (t.stored n))) ∙ e in
        let k : r.count ≡ less = sym (ap count_in f) ∙ recounted-count less (t.stored n) there.0 there.1 in
        let was = x.small.stored n there.0 there.1 in
        let c = ap count_in there.1 in
        omega arith)
        (λ q away r e. x.small.stored q r (sym (put-there t.stored n (option_map (recounted less) (t.stored n)) q away) ∙ e));
    counts = λ q. subst (λ h. count_of h q + words owed q ≤ 2 ^ 62) (sym same) (few-owed (Ref n) owed (count_of (heap_of t) q) q (x.small.counts q));
  };
  heap = subst (λ h. IsHeld h) (sym same) x.heap;
}
  where
    less : ℕ
    less = count_in (t.stored n) - 1

    there : (r : Stored) × (t.stored n ≡ Some r)
    there = stored-absent t n absent (x.counted.named n (let a = words-cons (Ref n) owed n in let b = word-here n in omega arith))

    disk : records_of (lowered_by t n None) ≡ records_of t
    disk = recounted-disk t n (option_map (recounted less) (t.stored n)) (recounted-object less (t.stored n))

    same : heap_of (lowered_by t n None) ≡ heap_of t
    same = heap-same t (lowered_by t n None) (ap (λ (d : Disk). held t.core d) disk) refl

    some : 0 < count_in (t.stored n)
    some = let a = owed-count t n owed x.counted in let b = no-change t.core n absent in omega (arith, ints)

    sums : (q : ℕ) → Has (heap_of t) q → sum_of (lowered_by t n None) q +ℤ pos (words (Ref n ∷ owed) q) ≡ sum_of t q +ℤ pos (words owed q)
    sums = by_name {P = λ q. Has (heap_of t) q → sum_of (lowered_by t n None) q +ℤ pos (words (Ref n ∷ owed) q) ≡ sum_of t q +ℤ pos (words owed q)} n
        (λ h.
        let a : count_in (put t.stored n (option_map (recounted less) (t.stored n)) n) ≡ less = ap count_in (put-here t.stored n (option_map (recounted less) (t.stored n))) ∙ recounted-count less (t.stored n) there.0 there.1 in
        let b = words-cons (Ref n) owed n in
        let c = word-here n in
        let e = some in
        let f : less ≡ count_in (t.stored n) - 1 = refl in
        let g = no-change t.core n absent in
        omega (arith, ints))
        (λ q away h.
        let a = ap count_in (put-there t.stored n (option_map (recounted less) (t.stored n)) q away) in
        let b = words-cons (Ref n) owed q in
        let c = word-other n q away in
        omega (arith, ints))

    quiet : count_by (λ x. x == n) t.pending ≡ 0
    quiet = x.counted.waiting n ∙ ap one_if (waits-not (t.core.find n) (t.stored n) (is_known n) (λ w. let a = ap count_in w.there in let b = w.none in let c = some in omega arith))

    waiting : (q : ℕ) → count_by (λ x. x == q) (joined None (option_map (recounted less) (t.stored n)) n t.pending) ≡ one_if (waits (t.core.find q) (put t.stored n (option_map (recounted less) (t.stored n)) q) (is_known q))
    waiting = by_name {P = λ q. count_by (λ x. x == q) (joined None (option_map (recounted less) (t.stored n)) n t.pending) ≡ one_if (waits (t.core.find q) (put t.stored n (option_map (recounted less) (t.stored n)) q) (is_known q))} n
        (joined-here None (option_map (recounted less) (t.stored n)) n t.pending quiet ∙ ap₂ (λ f r. one_if (waits f r (is_known n))) (sym absent) (sym (put-here t.stored n (option_map (recounted less) (t.stored n)))))
        (λ q away. joined-there None (option_map (recounted less) (t.stored n)) n q t.pending away ∙ x.counted.waiting q ∙ ap (λ r. one_if (waits (t.core.find q) r (is_known q))) (sym (put-there t.stored n (option_map (recounted less) (t.stored n)) q away)))

pub lowered-sound : (t : Levels) (n : ℕ) (owed : List Value) → IsSound t (Ref n ∷ owed) → IsSound (lowered t n) owed
lowered-sound t n owed x = go (t.core.find n) refl
  where
    go : (o : Option ℕ) → t.core.find n ≡ o → IsSound (lowered_by t n o) owed
    go None e = lowered-absent t n owed x e
    go (Some s) e =
        let is : (t.core.entries s).name ≡ n = x.core.named n s e in
        raised-sound t s (negsuc 0) (Ref n ∷ owed) owed x (x.core.used n s e)
        (λ q away. let a = words-cons (Ref n) owed q in let b = word-other n q (λ h. away (h ∙ sym is)) in omega arith)
        (subst (λ m. pos (words owed m) ≡ pos (words (Ref n ∷ owed) m) +ℤ negsuc 0) (sym is) (let a = words-cons (Ref n) owed n in let b = word-here n in omega (arith, ints)))
        (λ q. few-owed (Ref n) owed (count_of (heap_of t) q) q (x.small.counts q))
        (λ q h. x.counted.named q (let a = words-cons (Ref n) owed q in omega arith))

pub lowered-heap : (t : Levels) (n : ℕ) → IsCore t.core → heap_of (lowered t n) ≡ heap_of t
lowered-heap t n core = go (t.core.find n) refl
  where
    go : (o : Option ℕ) → t.core.find n ≡ o → heap_of (lowered_by t n o) ≡ heap_of t
    go None e = heap-same t (lowered_by t n None) (ap (λ (d : Disk). held t.core d) (recounted-disk t n (option_map (recounted (count_in (t.stored n) - 1)) (t.stored n)) (recounted-object (count_in (t.stored n) - 1) (t.stored n)))) refl
    go (Some s) e = raised-heap t s (negsuc 0) core (core.used n s e)

-- ---- a change is folded

pub folded-sound : (t : Levels) (s : ℕ) (r : Stored) (owed : List Value) → IsSound t owed → is_used (t.core.entries s).state ≡ true → t.stored (t.core.entries s).name ≡ Some r → IsSound (folded t s) owed
folded-sound t s r owed x used there = record {
  core = change-core t.core s (pos 0) x.core used;
  backed = subst (λ (d : Disk). IsBacked (changed_at t.core s (pos 0)) d) (sym disk) (change-backed t.core (records_of t) s (pos 0) x.core x.backed used);
  counted = counted-step t (folded t s) owed owed x.counted same sums waiting x.counted.entered x.counted.named;
  small = record {
    stored = by_name {P = λ q. (r : Stored) → put t.stored n new q ≡ Some r → r.count ≤ 2 ^ 62} n
        (λ r e. let f : new ≡ Some r = sym (put-here t.stored n new) ∙ e in
        let k : r.count ≡ count = sym (ap count_in f) ∙ counted_new in
        let m = x.small.counts n in
        let c = count_is in
        omega (arith, ints))
        (λ q away r e. x.small.stored q r (sym (put-there t.stored n new q away) ∙ e));
    counts = λ q. subst (λ h. count_of h q + words owed q ≤ 2 ^ 62) (sym same) (x.small.counts q);
  };
  heap = subst (λ h. IsHeld h) (sym same) x.heap;
}
  where
    n : ℕ
    n = (t.core.entries s).name

    count : ℕ
    count = to_count (sum_of t n)

    new : Option Stored
    new = option_map (recounted count) (t.stored n)

    counted_new : count_in new ≡ count
    counted_new = recounted-count count (t.stored n) r there

    disk : records_of (folded t s) ≡ records_of t
    disk = recounted-disk t n new (recounted-object count (t.stored n))

    same : heap_of (folded t s) ≡ heap_of t
    same = heap-same t (folded t s) (ap (λ (d : Disk). held (changed_at t.core s (pos 0)) d) disk ∙ change-held t.core (records_of t) s (pos 0) x.core used) refl

    exact : sum_of t n ≡ pos (count_of (heap_of t) n + words owed n)
    exact = x.counted.exact n (x.counted.entered n s (x.core.found s used))

    count_is : count ≡ count_of (heap_of t) n + words owed n
    count_is = ap to_count exact

    sums : (q : ℕ) → Has (heap_of t) q → sum_of (folded t s) q +ℤ pos (words owed q) ≡ sum_of t q +ℤ pos (words owed q)
    sums = by_name {P = λ q. Has (heap_of t) q → sum_of (folded t s) q +ℤ pos (words owed q) ≡ sum_of t q +ℤ pos (words owed q)} n
        (λ h.
        let a : count_in (put t.stored n new n) ≡ count = ap count_in (put-here t.stored n new) ∙ counted_new in
        let b = change-here t.core s (pos 0) x.core used in
        let c = exact in
        let d = count_is in
        omega (arith, ints))
        (λ q away h.
        let a = ap count_in (put-there t.stored n new q away) in
        let b = change-there t.core s q (pos 0) x.core away in
        omega (arith, ints))

    waiting : (q : ℕ) → count_by (λ x. x == q) t.pending ≡ one_if (waits (t.core.find q) (put t.stored n new q) (is_known q))
    waiting = by_name {P = λ q. count_by (λ x. x == q) t.pending ≡ one_if (waits (t.core.find q) (put t.stored n new q) (is_known q))} n
        (x.counted.waiting n ∙ ap one_if (entered-waits (t.core.find n) s (t.stored n) (is_known n) (x.core.found s used) ∙ sym (entered-waits (t.core.find n) s (put t.stored n new n) (is_known n) (x.core.found s used))))
        (λ q away. x.counted.waiting q ∙ ap (λ r. one_if (waits (t.core.find q) r (is_known q))) (sym (put-there t.stored n new q away)))

-- ---- a leaf is given up

pub given-sound : (t : Levels) (s n : ℕ) (owed : List Value) → IsSound t owed → IsIdle t.core s n → (t.core.entries s).change ≡ pos 0 → IsSound (given t s n) owed
given-sound t s n owed x idle zero_change = record {
  core = idle-core t.core s n x.core idle;
  backed = idle-backed t.core (records_of t) s n x.core x.backed idle;
  counted = counted-step t (given t s n) owed owed x.counted same sums waiting entered x.counted.named;
  small = record { stored = x.small.stored; counts = λ q. subst (λ h. count_of h q + words owed q ≤ 2 ^ 62) (sym same) (x.small.counts q) };
  heap = subst (λ h. IsHeld h) (sym same) x.heap;
}
  where
    found : t.core.find n ≡ Some s
    found = ap t.core.find (sym idle.name) ∙ x.core.found s idle.used

    same : heap_of (given t s n) ≡ heap_of t
    same = heap-same t (given t s n) (idle-held t.core (records_of t) s n x.core idle) refl

    gone : put t.core.find n None n ≡ None
    gone = put-here t.core.find n None

    entered : (q r : ℕ) → put t.core.find n None q ≡ Some r → Has (heap_of t) q
    entered = by_name {P = λ q. (r : ℕ) → put t.core.find n None q ≡ Some r → Has (heap_of t) q} n
        (λ r e. let z = gone in absurd (cc))
        (λ q away r e. x.counted.entered q r (sym (put-there t.core.find n None q away) ∙ e))

    changes : (q : ℕ) → change_of (without_leaf t.core s n) q ≡ change_of t.core q
    changes = by_name {P = λ q. change_of (without_leaf t.core s n) q ≡ change_of t.core q} n
        (no-change (without_leaf t.core s n) n gone ∙ sym (ap (λ o. change_by t.core.entries o) found ∙ zero_change))
        (λ q away. go q away (t.core.find q) refl)
      where
        go : (q : ℕ) → q ≢ n → (o : Option ℕ) → t.core.find q ≡ o → change_of (without_leaf t.core s n) q ≡ change_of t.core q
        go q away None e = no-change (without_leaf t.core s n) q (put-there t.core.find n None q away ∙ e) ∙ sym (no-change t.core q e)
        go q away (Some r) e =
            ap (λ o. change_by (without_leaf t.core s n).entries o) (put-there t.core.find n None q away ∙ e)
            ∙ ap (λ (f : Entry). f.change) (put-there t.core.entries s free_entry r (λ same. away (sym (x.core.named q r e) ∙ ap (λ (z : ℕ). (t.core.entries z).name) same ∙ idle.name)))
            ∙ sym (ap (λ o. change_by t.core.entries o) e)

    sums : (q : ℕ) → Has (heap_of t) q → sum_of (given t s n) q +ℤ pos (words owed q) ≡ sum_of t q +ℤ pos (words owed q)
    sums q h = ap (λ z. pos (count_in (t.stored q)) +ℤ z +ℤ pos (words owed q)) (changes q)

    quiet : count_by (λ x. x == n) t.pending ≡ 0
    quiet = x.counted.waiting n ∙ ap one_if (entered-waits (t.core.find n) s (t.stored n) (is_known n) found)

    waiting : (q : ℕ) → count_by (λ x. x == q) (joined None (t.stored n) n t.pending) ≡ one_if (waits (put t.core.find n None q) (t.stored q) (is_known q))
    waiting = by_name {P = λ q. count_by (λ x. x == q) (joined None (t.stored n) n t.pending) ≡ one_if (waits (put t.core.find n None q) (t.stored q) (is_known q))} n
        (joined-here None (t.stored n) n t.pending quiet ∙ ap (λ f. one_if (waits f (t.stored n) (is_known n))) (sym gone))
        (λ q away. joined-there None (t.stored n) n q t.pending away ∙ x.counted.waiting q ∙ ap (λ f. one_if (waits f (t.stored q) (is_known q))) (sym (put-there t.core.find n None q away)))

-- no reference comes or goes
pub change-outside : (c : Core) (s : ℕ) (x : ℤ) (t : ℕ) → IsCore c → is_used (c.entries s).state ≡ true → outside (changed_at c s x) t ≡ outside c t
unfolding holders
change-outside c s x t core used =
    let all : outside (changed_at c s x) t + count_by (names t) (holders_in c.chunks (c.entries s) (place_of (c.entries s).state)) + (c.entries t).refs ≡ outside c t + count_by (names t) (holders_in c.chunks (c.entries s) (place_of (c.entries s).state)) + (put c.entries s (with_change (c.entries s) x) t).refs = step-outside c s (with_change (c.entries s) x) t core (change-step c s x core used) in
    let refs : (put c.entries s (with_change (c.entries s) x) t).refs ≡ (c.entries t).refs = at-entry c.entries s (with_change (c.entries s) x) (λ q e. e.refs ≡ (c.entries q).refs) refl (λ q away. refl) t in
    omega arith

pub folded-heap : (t : Levels) (s : ℕ) → IsCore t.core → is_used (t.core.entries s).state ≡ true → heap_of (folded t s) ≡ heap_of t
folded-heap t s core used = heap-same t (folded t s)
    (ap (λ (d : Disk). held (changed_at t.core s (pos 0)) d) (recounted-disk t (t.core.entries s).name (option_map (recounted (to_count (sum_of t (t.core.entries s).name))) (t.stored (t.core.entries s).name)) (recounted-object (to_count (sum_of t (t.core.entries s).name)) (t.stored (t.core.entries s).name)))
    ∙ change-held t.core (records_of t) s (pos 0) core used) refl

pub given-heap : (t : Levels) (s n : ℕ) → IsCore t.core → IsIdle t.core s n → heap_of (given t s n) ≡ heap_of t
given-heap t s n core idle = heap-same t (given t s n) (idle-held t.core (records_of t) s n core idle) refl

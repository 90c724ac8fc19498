-- A call on the core that leaves the held heap and the changes, where each new entry is used: counts stay exact.
use Rattle.std.proofs.Common.{count_by, ◌==◌, ◌≡◌, ℕ, pos, ◌+ℤ◌, ◌+◌, ◌<◌, ◌≤◌, true, false, List, Option, Some, None, refl, sym, ◌∙◌, ap, subst, arith}
use Rattle.std.specs.Prelude.{◌^◌}
use Rattle.std.proofs.lemmas.Int.{ints}
use Rattle.long_names.specs.declared.value.Value.{Value}
use Rattle.long_names.specs.Names.{is_known}
use Rattle.long_names.specs.Heap.{Has, count_of}
use Rattle.object_table.specs.Entries.{put}
use Rattle.core_view.specs.Core.{Core, with_leaf}
use Rattle.core_view.specs.Steps.{IsSpare}
use Rattle.core_view.proofs.Lists.{put-here, put-there}
use Rattle.core_view.proofs.Leaves.{leaf-core, leaf-held, leaf-backed}
use Rattle.core_view.proofs.Steps.{leaf-changes}
use Rattle.core_view.specs.Kept.{IsCore, Keeps}
use Rattle.core_view.specs.Levels.{Levels, count_in, records_of, heap_of, is_waiting, waits}
use Rattle.core_view.specs.Counted.{words, one_if, IsHeld, IsSound}
use Rattle.core_view.specs.LevelSteps.{with_core, IsUncounted}
use Rattle.core_view.proofs.LevelLaws.{heap-same, by_name, counted-step}
use Rattle.core_view.proofs.QueueLaws.{waits-not, entered-waits}
use Rattle.core_view.proofs.ChangeLaws.{no-change}
use Rattle.core_view.proofs.DeadLaws.{used-counted, used-has}

pub came-sound : (t : Levels) (c : Core) (owed : List Value) → IsSound t owed → IsCore c → Keeps (records_of t) t.core c → IsUncounted t.core c → IsSound (with_core t c) owed
came-sound t c owed x core keeps f = record {
  core = core;
  backed = keeps.backed;
  counted = counted-step t u owed owed x.counted same (λ q there. ap (λ z. pos (count_in (t.stored q)) +ℤ z +ℤ pos (words owed q)) (f.changes q)) waiting entered x.counted.named;
  small = record { stored = x.small.stored; counts = λ q. subst (λ h. count_of h q + words owed q ≤ 2 ^ 62) (sym same) (x.small.counts q) };
  heap = now;
}
  where
    u : Levels
    u = with_core t c

    same : heap_of u ≡ heap_of t
    same = heap-same t u keeps.held refl

    now : IsHeld (heap_of u)
    now = subst (λ h. IsHeld h) (sym same) x.heap

    -- a name whose entry came is counted
    counted-came : (q s : ℕ) → t.core.find q ≡ None → c.find q ≡ Some s → 0 < count_of (heap_of t) q
    counted-came q s none found =
        let some = used-counted u s core now (f.came q s none found) in
        let here = ap (λ n. count_of (heap_of u) n) (core.named q s found) in
        let there = ap (λ h. count_of h q) same in
        omega arith

    has-came : (q s : ℕ) → t.core.find q ≡ None → c.find q ≡ Some s → Has (heap_of t) q
    has-came q s none found = subst (λ h. Has h q) same (subst (λ n. Has (heap_of u) n) (core.named q s found) (used-has u s core now (f.came q s none found)))

    entered : (q s : ℕ) → c.find q ≡ Some s → Has (heap_of t) q
    entered q s found = go (t.core.find q) refl
      where
        go : (o : Option ℕ) → t.core.find q ≡ o → Has (heap_of t) q
        go None e = has-came q s e found
        go (Some r) e = x.counted.entered q r e

    waiting : (q : ℕ) → count_by (λ x. x == q) t.pending ≡ one_if (waits (c.find q) (t.stored q) (is_known q))
    waiting q = x.counted.waiting q ∙ ap one_if (go (c.find q) refl (t.core.find q) refl)
      where
        go : (o : Option ℕ) → c.find q ≡ o → (p : Option ℕ) → t.core.find q ≡ p → waits (t.core.find q) (t.stored q) (is_known q) ≡ waits (c.find q) (t.stored q) (is_known q)
        go None e p g = ap (λ o. waits o (t.stored q) (is_known q)) (f.grew q e ∙ sym e)
        go (Some s) e (Some r) g = entered-waits (t.core.find q) r (t.stored q) (is_known q) g ∙ sym (entered-waits (c.find q) s (t.stored q) (is_known q) e)
        go (Some s) e None g =
            waits-not (t.core.find q) (t.stored q) (is_known q) (λ w.
            let exact = x.counted.exact q (has-came q s g e) in
            let some = counted-came q s g e in
            let none = no-change t.core q g in
            let here = ap count_in w.there in
            let z = w.none in
            omega (arith, ints))
            ∙ sym (entered-waits (c.find q) s (t.stored q) (is_known q) e)

-- a leaf that a call makes for a name that it has: the name is held, and isn't pending
pub leaf-sound : (t : Levels) (s n : ℕ) (owed : List Value) → IsSound t owed → IsSpare t.core s n → Has (heap_of t) n → is_waiting t n ≡ false → IsSound (with_core t (with_leaf t.core s n)) owed
leaf-sound t s n owed x spare there quiet = record {
  core = leaf-core t.core s n x.core spare;
  backed = leaf-backed t.core (records_of t) s n x.core x.backed spare;
  counted = counted-step t u owed owed x.counted same (λ q h. ap (λ z. pos (count_in (t.stored q)) +ℤ z +ℤ pos (words owed q)) (leaf-changes t.core s n x.core spare q)) waiting entered x.counted.named;
  small = record { stored = x.small.stored; counts = λ q. subst (λ h. count_of h q + words owed q ≤ 2 ^ 62) (sym same) (x.small.counts q) };
  heap = subst (λ h. IsHeld h) (sym same) x.heap;
}
  where
    u : Levels
    u = with_core t (with_leaf t.core s n)

    same : heap_of u ≡ heap_of t
    same = heap-same t u (leaf-held t.core (records_of t) s n x.core spare) refl

    entered : (q r : ℕ) → put t.core.find n (Some s) q ≡ Some r → Has (heap_of t) q
    entered = by_name {P = λ q. (r : ℕ) → put t.core.find n (Some s) q ≡ Some r → Has (heap_of t) q} n (λ r e. there) (λ q away r e. x.counted.entered q r (sym (put-there t.core.find n (Some s) q away) ∙ e))

    waiting : (q : ℕ) → count_by (λ x. x == q) t.pending ≡ one_if (waits (put t.core.find n (Some s) q) (t.stored q) (is_known q))
    waiting = by_name {P = λ q. count_by (λ x. x == q) t.pending ≡ one_if (waits (put t.core.find n (Some s) q) (t.stored q) (is_known q))} n
        (x.counted.waiting n ∙ ap one_if (quiet ∙ sym (entered-waits (put t.core.find n (Some s) n) s (t.stored n) (is_known n) (put-here t.core.find n (Some s)))))
        (λ q away. x.counted.waiting q ∙ ap (λ o. one_if (waits o (t.stored q) (is_known q))) (sym (put-there t.core.find n (Some s) q away)))

-- what is counted, owed or known isn't pending
pub counted-quiet : (t : Levels) (n : ℕ) (owed : List Value) → IsSound t owed → Has (heap_of t) n → 0 < count_of (heap_of t) n + words owed n → is_waiting t n ≡ false
counted-quiet t n owed x there some = waits-not (t.core.find n) (t.stored n) (is_known n) (λ w. let e = x.counted.exact n there in let a = no-change t.core n w.no_entry in let b = ap count_in w.there in let c = w.none in omega (arith, ints))

pub known-quiet : (t : Levels) (n : ℕ) → is_known n ≡ true → is_waiting t n ≡ false
known-quiet t n known = waits-not (t.core.find n) (t.stored n) (is_known n) (λ w. let un = w.unknown in cc)

-- A core without entries over a disk that has just a heap's objects, with their exact counts.
use Rattle.std.proofs.Common.{count_by, ◌==◌, ◌≡◌, ℕ, pos, ◌+◌, false, [], sym, ◌∙◌, ap, subst, arith}
use Rattle.std.proofs.Math.Path.{fun_ext}
use Rattle.std.proofs.lemmas.Int.{ints}
use Rattle.long_names.specs.Names.{is_known}
use Rattle.long_names.specs.Heap.{Heap, Has, count_of}
use Rattle.core_view.specs.Held.{held}
use Rattle.core_view.proofs.Core.{placed-used, held-absent}
use Rattle.core_view.specs.Levels.{Levels, count_in, records_of, heap_of, sum_of, is_waiting}
use Rattle.core_view.specs.Counted.{words, one_if, IsHeld, IsSound}
use Rattle.core_view.specs.LevelSteps.{IsBegun}
use Rattle.core_view.proofs.LevelLaws.{heap-is}
use Rattle.core_view.proofs.QueueLaws.{waits-not}
use Rattle.core_view.proofs.ChangeLaws.{no-change, stored-absent}

pub begun-heap : (t : Levels) (h : Heap) → IsBegun t h → heap_of t ≡ h
begun-heap t h x = heap-is (held t.core (records_of t)) t.next h (fun_ext (λ q. held-absent t.core (records_of t) q (x.empty q) ∙ x.image.objects q)) x.next

pub begun-sound : (t : Levels) (h : Heap) → IsBegun t h → IsSound t []
begun-sound t h x = record {
  core = x.core;
  backed = record { body = λ s p at. absurd (let found = x.core.found s (placed-used (t.core.entries s).state p at) in let none = x.empty (t.core.entries s).name in cc) };
  counted = record {
    exact = exact;
    waiting = λ q. ap (λ xs. count_by (λ x. x == q) xs) x.none ∙ sym (ap one_if (quiet q));
    entered = λ q s e. absurd (let none = x.empty q in cc);
    named = λ q e. absurd (omega arith);
  };
  small = record { stored = λ q r e. let a = x.image.counts q r e in let b = x.few q in omega arith; counts = λ q. let b = ap (λ (h : Heap). count_of h q) is in let d = x.few q in omega arith };
  heap = subst (λ h. IsHeld h) (sym is) x.held;
}
  where
    is : heap_of t ≡ h
    is = begun-heap t h x

    exact : (q : ℕ) → Has (heap_of t) q → sum_of t q ≡ pos (count_of (heap_of t) q + words [] q)
    exact q there =
        let at = stored-absent t q (x.empty q) there in
        let a = x.image.counts q at.0 at.1 in
        let b = ap count_in at.1 in
        let d = no-change t.core q (x.empty q) in
        let e = ap (λ (h : Heap). count_of h q) is in
        omega (arith, ints)

    quiet : (q : ℕ) → is_waiting t q ≡ false
    quiet q = waits-not (t.core.find q) (t.stored q) (is_known q) (λ w. let known = x.uncounted q w.stored w.there w.none in let un = w.unknown in cc)

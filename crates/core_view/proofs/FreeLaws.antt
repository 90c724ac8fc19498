-- A dead name goes: its words are owed, and the heap is thinner.
use Rattle.std.proofs.Common.{count_by, ◌==◌, ◌≡◌, ◌≢◌, ℕ, ℤ, pos, ◌+ℤ◌, ◌+◌, ◌-◌, ◌<◌, ◌≤◌, true, false, cond, List, [], Some, None, is_some, refl, sym, ◌∙◌, ap, subst, arith}
use Rattle.std.specs.Prelude.{◌^◌}
use Rattle.std.proofs.Math.Path.{fun_ext}
use Rattle.std.proofs.lemmas.Grind.{common_steps}
use Rattle.long_names.specs.declared.value.Value.TheVariants.{Ref}
use Rattle.long_names.specs.declared.object.Object.{Object}
use Rattle.long_names.specs.Names.{is_known}
use Rattle.long_names.specs.Objects.{holds, holdings}
use Rattle.long_names.specs.Heap.{Heap, Has, IsBounded, without, count_of}
use Rattle.long_names.specs.Thin.{IsThinner}
use Rattle.long_names.proofs.ThinLemmas.{has_below}
use Rattle.object_table.specs.Entries.{put, place_of}
use Rattle.core_view.specs.Held.{Disk, held}
use Rattle.core_view.proofs.Lists.{put-here, put-there}
use Rattle.core_view.proofs.Core.{placed-used, held-put, held-absent, AreOthersSame, object-same, body-same}
use Rattle.long_names.proofs.CountLaws.{words_in, unheld, freed-count, thinner-without, eqb-here, eqb-other}
use Rattle.long_names.proofs.KeptLaws.{holds-counted}
use Rattle.core_view.specs.Levels.{Stored, Levels, record_in, count_in, records_of, heap_of, waits}
use Rattle.core_view.specs.Counted.{words, words_of, one_if, IsSound}
use Rattle.core_view.specs.LevelSteps.{removed}
use Rattle.core_view.proofs.LevelLaws.{heap-is, words-cons, by_name, counted-over}
use Rattle.core_view.proofs.QueueLaws.{waits-not}
use Rattle.core_view.specs.Dead.{CanGo}
use Rattle.core_view.proofs.DeadLaws.{bounded, held-there}

pub words_of-is : (o : Object) (q : ℕ) → words (words_of o) q ≡ holdings o q
words_of-is o q = words-cons (Ref o.class) (Rattle.long_names.specs.Objects.fields_of o.body) q

pub removed-heap : (t : Levels) (n : ℕ) (r : Stored) (pending : List ℕ) → IsSound t [] → CanGo t n r pending → heap_of (removed t n pending) ≡ without (heap_of t) n
removed-heap t n r pending x g = heap-is (held t.core (records_of (removed t n pending))) t.next (without (heap_of t) n)
    (held-put t.core t.core (records_of t) (records_of (removed t n pending)) n others ∙ fun_ext (by_name {P = λ q. put (held t.core (records_of t)) n (held t.core (records_of (removed t n pending)) n) q ≡ cond (Rattle.std.proofs.Common.eqb q n) None (held t.core (records_of t) q)} n here there))
    refl
  where
    now : Disk
    now = records_of (removed t n pending)

    gone : now n ≡ None
    gone = ap record_in (put-here t.stored n None)

    other : (m : ℕ) → m ≢ n → now m ≡ records_of t m
    other m away = ap record_in (put-there t.stored n None m away)

    entry-other : (q p : ℕ) → place_of (t.core.entries q).state ≡ Some p → (t.core.entries q).name ≢ n
    entry-other q p at same = let e = x.core.found q (placed-used (t.core.entries q).state p at) in let f : t.core.find n ≡ Some q = ap t.core.find (sym same) ∙ e in let none = g.loose.no_entry in cc

    others : AreOthersSame t.core t.core (records_of t) now n
    others = record {
      find = λ m away. refl;
      disks = other;
      entries = λ m q away f. refl;
      objects = λ m q p away f at. object-same t.core t.core (records_of t) now x.core q p at (λ s some. refl) refl (other (t.core.entries q).name (entry-other q p at));
    }

    here : put (held t.core (records_of t)) n (held t.core now n) n ≡ cond (Rattle.std.proofs.Common.eqb n n) None (held t.core (records_of t) n)
    here = put-here (held t.core (records_of t)) n (held t.core now n) ∙ held-absent t.core now n g.loose.no_entry ∙ gone ∙ sym (ap (λ b. cond b None (held t.core (records_of t) n)) (eqb-here n))

    there : (q : ℕ) → (q ≡ n → ⊥) → put (held t.core (records_of t)) n (held t.core now n) q ≡ cond (Rattle.std.proofs.Common.eqb q n) None (held t.core (records_of t) q)
    there q away = put-there (held t.core (records_of t)) n (held t.core now n) q away ∙ sym (ap (λ b. cond b None (held t.core (records_of t) q)) (eqb-other q n away))

pub removed-thinner : (t : Levels) (n : ℕ) (r : Stored) (pending : List ℕ) → IsSound t [] → CanGo t n r pending → IsThinner (heap_of t) (heap_of (removed t n pending))
removed-thinner t n r pending x g = subst (λ h. IsThinner (heap_of t) h) (sym (removed-heap t n r pending x g)) (thinner-without (heap_of t) n (bounded (heap_of t) x.heap) g.loose.dead.uncounted)

-- a freeing
pub removed-sound : (t : Levels) (n : ℕ) (r : Stored) (pending : List ℕ) → IsSound t [] → CanGo t n r pending → IsSound (removed t n pending) (words_of r.object)
removed-sound t n r pending x g = record {
  core = x.core;
  backed = record { body = λ s p at. body-same t.core t.core (records_of t) now (t.core.entries s) p (x.backed.body s p at) (object-same t.core t.core (records_of t) now x.core s p at (λ q some. refl) refl (other-disk (t.core.entries s).name (entry-other s p at))) refl (other-disk (t.core.entries s).name (entry-other s p at)) };
  counted = counted-over t u [] (words_of r.object) x.counted had
      (λ q there. ap (λ o. pos (count_in o) +ℤ Rattle.core_view.specs.Counts.change_of t.core q) (put-there t.stored n None q (not-n q there)))
      (λ q there. same q)
      waiting
      (λ q s e. stays q (λ is. let none = g.loose.no_entry in let f : t.core.find n ≡ Some s = ap t.core.find (sym is) ∙ e in cc) (x.counted.entered q s e))
      named;
  small = record {
    stored = by_name {P = λ q. (r : Stored) → put t.stored n None q ≡ Some r → r.count ≤ 2 ^ 62} n (λ r e. let z = put-here t.stored n None in absurd (cc)) (λ q away r e. x.small.stored q r (sym (put-there t.stored n None q away) ∙ e));
    counts = λ q. let a = same q in let b = x.small.counts q in omega arith;
  };
  heap = record {
    known = λ q k. stays q (λ is. let f : is_known n ≡ true = ap is_known (sym is) ∙ k in let un = g.loose.dead.unknown in cc) (x.heap.known q k);
    long = λ q there. x.heap.long q (had q there);
    below = λ q there. x.heap.below q (had q there);
    closed = closed;
    valued = λ m i o v there. x.heap.valued m i o v (sym (at-is m (not-n m (ap is_some there))) ∙ there);
  };
}
  where
    u : Levels
    u = removed t n pending

    now : Disk
    now = records_of u

    b : IsBounded (heap_of t)
    b = bounded (heap_of t) x.heap

    is : heap_of u ≡ without (heap_of t) n
    is = removed-heap t n r pending x g

    at-is : (q : ℕ) → q ≢ n → (heap_of u).at q ≡ (heap_of t).at q
    at-is q away = ap (λ (h : Heap). h.at q) is ∙ ap (λ b. cond b None ((heap_of t).at q)) (eqb-other q n away)

    at-n : (heap_of u).at n ≡ None
    at-n = ap (λ (h : Heap). h.at n) is ∙ ap (λ b. cond b None ((heap_of t).at n)) (eqb-here n)

    not-n : (q : ℕ) → Has (heap_of u) q → q ≢ n
    not-n q there same = let z : is_some ((heap_of u).at q) ≡ false = ap (λ m. is_some ((heap_of u).at m)) same ∙ ap is_some at-n in cc

    had : (q : ℕ) → Has (heap_of u) q → Has (heap_of t) q
    had q there = ap is_some (sym (at-is q (not-n q there))) ∙ there

    stays : (q : ℕ) → q ≢ n → Has (heap_of t) q → Has (heap_of u) q
    stays q away there = ap is_some (at-is q away) ∙ there

    other-disk : (m : ℕ) → m ≢ n → now m ≡ records_of t m
    other-disk m away = ap record_in (put-there t.stored n None m away)

    entry-other : (q p : ℕ) → place_of (t.core.entries q).state ≡ Some p → (t.core.entries q).name ≢ n
    entry-other q p at same = let e = x.core.found q (placed-used (t.core.entries q).state p at) in let f : t.core.find n ≡ Some q = ap t.core.find (sym same) ∙ e in let none = g.loose.no_entry in cc

    there-n : (heap_of t).at n ≡ Some r.object
    there-n = held-there t n r g.loose.no_entry g.loose.there

    same : (q : ℕ) → count_of (heap_of u) q + words (words_of r.object) q ≡ count_of (heap_of t) q + words [] q
    same q =
        let a = freed-count (heap_of t) n q (has_below (heap_of t) n b g.loose.dead.held) in
        let d = ap (λ h. count_of h q) is in
        let e = words_of-is r.object q in
        let f = ap (words_in q) there-n in
        omega arith

    holds-other : (m : ℕ) (o : Object) (k : ℕ) → (heap_of t).at m ≡ Some o → holds o k ≡ true → k ≢ n
    holds-other m o k at holds_it same = unheld (heap_of t) n b g.loose.dead.uncounted m o at (subst (λ z. holds o z ≡ true) same holds_it)

    closed : (m : ℕ) (o : Object) (k : ℕ) → (heap_of u).at m ≡ Some o → holds o k ≡ true → Has (heap_of u) k
    closed m o k at holds_it =
        let was : (heap_of t).at m ≡ Some o = sym (at-is m (not-n m (ap is_some at))) ∙ at in
        stays k (holds-other m o k was holds_it) (x.heap.closed m o k was holds_it)

    named : (q : ℕ) → 0 < words (words_of r.object) q → Has (heap_of u) q
    named q e =
        let holds_it : holds r.object q ≡ true = holds-counted r.object q ∙ (let d = words_of-is r.object q in let some : 0 < holdings r.object q = omega arith in grind (arith, common_steps, some)) in
        stays q (holds-other n r.object q there-n holds_it) (x.heap.closed n r.object q there-n holds_it)

    waiting : (q : ℕ) → count_by (λ x. x == q) pending ≡ one_if (waits (t.core.find q) (put t.stored n None q) (is_known q))
    waiting = by_name {P = λ q. count_by (λ x. x == q) pending ≡ one_if (waits (t.core.find q) (put t.stored n None q) (is_known q))} n
        (g.gone ∙ sym (ap one_if (waits-not (t.core.find n) (put t.stored n None n) (is_known n) (λ w. let z = put-here t.stored n None in let y = w.there in cc))))
        (λ q away. g.others q away ∙ x.counted.waiting q ∙ ap (λ o. one_if (waits (t.core.find q) o (is_known q))) (sym (put-there t.stored n None q away)))

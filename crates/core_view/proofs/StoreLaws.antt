-- A store, a making, and an object that is written as its record: counts stay exact.
use Rattle.std.proofs.Common.{count_by, ◌==◌, zero, suc, ◌≡◌, ◌≢◌, ℕ, pos, ◌+ℤ◌, ◌+◌, ◌<◌, ◌≤◌, Bool, true, false, cond, eqb, List, ◌∷◌, Option, Some, None, is_some, refl, sym, ◌∙◌, ap, ap₂, subst, arith, ⊎_elim}
use Rattle.std.specs.Prelude.{◌^◌}
use Rattle.std.proofs.Math.Path.{fun_ext}
use Rattle.std.proofs.lemmas.Int.{ints}
use Rattle.std.proofs.lemmas.Grind.{common_steps}
use Rattle.long_names.specs.declared.value.Value.{Value}
use Rattle.long_names.specs.declared.value.Value.TheVariants.{Int, Ref}
use Rattle.long_names.specs.declared.object.Object.{Object}
use Rattle.long_names.specs.Names.{is_known, IsLongName}
use Rattle.long_names.specs.Objects.{holds, holdings, field_of, with_field}
use Rattle.long_names.specs.Heap.{Heap, Has, IsBounded, put_object, add_object, count_of}
use Rattle.long_names.specs.Thin.{IsWhole}
use Rattle.long_names.proofs.ThinLemmas.{IsWhole-put_object, IsWhole-add_object, holds-field, holds-with_field}
use Rattle.long_names.proofs.KeptLaws.{holds-counted}
use Rattle.object_table.specs.Entries.{put, is_used, place_of}
use Rattle.core_view.specs.Core.{Core}
use Rattle.core_view.specs.Held.{Disk, held, object_at, disk_with}
use Rattle.core_view.specs.Kept.{IsCore, IsBacked, IsValued}
use Rattle.core_view.specs.Steps.{written}
use Rattle.core_view.proofs.Lists.{put-here, put-there}
use Rattle.core_view.proofs.Core.{placed-used}
use Rattle.core_view.proofs.Entries.{IsStep, step-core}
use Rattle.core_view.proofs.Records.{write-step, write-held, write-backed}
use Rattle.core_view.proofs.Steps.{entry-changes}
use Rattle.long_names.proofs.CountLaws.{word_is, count-store, count-add_object, eqb-here, eqb-other}
use Rattle.core_view.specs.Levels.{Stored, Levels, record_in, count_in, records_of, heap_of, sum_of, waits}
use Rattle.core_view.specs.Counted.{words, words_of, one_if, IsHeld, IsSound}
use Rattle.core_view.specs.LevelSteps.{with_core, made, written_at, IsUncounted, IsMaking}
use Rattle.core_view.proofs.LevelLaws.{heap-same, heap-is, words-cons, by_name, counted-step, counted-over}
use Rattle.core_view.proofs.QueueLaws.{waits-not, entered-waits}
use Rattle.core_view.proofs.ChangeLaws.{no-change}
use Rattle.core_view.proofs.DeadLaws.{bounded, used-counted, used-has, held-there}
use Rattle.core_view.proofs.FreeLaws.{words_of-is}
use Rattle.core_view.proofs.EndLaws.{counted-has}

-- ---- heaps that are whole

abbrev no_regs : ℕ → Value
no_regs r = Int (pos 0)

abbrev no_slots : ℕ → Option ℕ
no_slots i = None

whole-of : (h : Heap) → IsHeld h → IsWhole h no_regs no_slots
whole-of h x = record { known = x.known; below = x.below; closed = x.closed; rooted = λ r n e. absurd (cc); pinned = λ i n e. absurd (cc) }

held-of : (h : Heap) → IsWhole h no_regs no_slots → ((q : ℕ) → Has h q → IsLongName q) → IsValued h.at → IsHeld h
held-of h w long valued = record { known = w.known; long = long; below = w.below; closed = w.closed; valued = valued }

-- a value that is a name's word is the name
pub ref-of : (q : ℕ) (v : Value) → 0 < word_is q v → v ≡ Ref q
ref-of q (Int z) e = absurd (omega arith)
ref-of q (Ref n) e = go (eqb n q) refl e
  where
    go : (b : Bool) → eqb n q ≡ b → 0 < cond b 1 0 → Ref n ≡ Ref q
    go true f h = ap (λ m. Ref m) (let is : n ≡ q = grind (arith, common_steps, f) in is)
    go false f h = absurd (omega arith)

pub word-self : (q : ℕ) (v : Value) → v ≡ Ref q → 0 < word_is q v
word-self q v e = let a : word_is q v ≡ 1 = ap (word_is q) e ∙ ap (λ b. let k : ℕ = cond b 1 0 in k) (eqb-here q) in omega arith

-- ---- a store: the new word was counted before, and the old one is owed
pub stored-sound : (t : Levels) (c : Core) (n i : ℕ) (o : Object) (v w : Value) (owed : List Value) → IsSound t (w ∷ owed) → IsCore c → IsBacked c (records_of t)
    → (heap_of t).at n ≡ Some o → field_of o.body i ≡ Some v
    → held c (records_of t) ≡ put (held t.core (records_of t)) n (Some (record { class = o.class; body = with_field o.body i w }))
    → IsValued (held c (records_of t)) → IsUncounted t.core c → IsSound (with_core t c) (v ∷ owed)
stored-sound t c n i o v w owed x core backed there field stored valued f = record {
  core = core;
  backed = backed;
  counted = counted-over t u (w ∷ owed) (v ∷ owed) x.counted had
      (λ q h. ap (λ z. pos (count_in (t.stored q)) +ℤ z) (f.changes q))
      (λ q h. counts q) waiting entered named;
  small = record { stored = x.small.stored; counts = λ q. let a = counts q in let b = x.small.counts q in omega arith };
  heap = now;
}
  where
    u : Levels
    u = with_core t c

    new : Object
    new = record { class = o.class; body = with_field o.body i w }

    is : heap_of u ≡ put_object (heap_of t) n new
    is = heap-is (held c (records_of t)) t.next (put_object (heap_of t) n new) stored refl

    b : IsBounded (heap_of t)
    b = bounded (heap_of t) x.heap

    has-n : Has (heap_of t) n
    has-n = ap is_some there

    has-w : (k : ℕ) → w ≡ Ref k → Has (heap_of t) k
    has-w k e = x.counted.named k (let a = words-cons w owed k in let d = word-self k w e in omega arith)

    own : (k : ℕ) → holds new k ≡ true → Has (heap_of t) k
    own k h = ⊎_elim (λ old. x.heap.closed n o k there old) (λ e. has-w k e) (holds-with_field o i w k h)

    at-n : Has (heap_of u) n
    at-n = ap (λ (h : Heap). is_some (h.at n)) is ∙ ap (λ b. is_some (cond b (Some new) ((heap_of t).at n))) (eqb-here n)

    at-other : (q : ℕ) → q ≢ n → (heap_of u).at q ≡ (heap_of t).at q
    at-other q away = ap (λ (h : Heap). h.at q) is ∙ ap (λ b. cond b (Some new) ((heap_of t).at q)) (eqb-other q n away)

    had : (q : ℕ) → Has (heap_of u) q → Has (heap_of t) q
    had = by_name {P = λ q. Has (heap_of u) q → Has (heap_of t) q} n (λ h. has-n) (λ q away h. ap is_some (sym (at-other q away)) ∙ h)

    now : IsHeld (heap_of u)
    now = held-of (heap_of u) (subst (λ h. IsWhole h no_regs no_slots) (sym is) (IsWhole-put_object (heap_of t) no_regs no_slots n new (whole-of (heap_of t) x.heap) has-n own)) (λ q h. x.heap.long q (had q h)) valued

    stays : (q : ℕ) → Has (heap_of t) q → Has (heap_of u) q
    stays = by_name {P = λ q. Has (heap_of t) q → Has (heap_of u) q} n (λ h. at-n) (λ q away h. ap is_some (at-other q away) ∙ h)

    counts : (q : ℕ) → count_of (heap_of u) q + words (v ∷ owed) q ≡ count_of (heap_of t) q + words (w ∷ owed) q
    counts q =
        let a = count-store (heap_of t) n o i q v w b there field in
        let d = ap (λ h. count_of h q) is in
        let e = words-cons v owed q in
        let g = words-cons w owed q in
        omega arith

    entered : (q s : ℕ) → c.find q ≡ Some s → Has (heap_of u) q
    entered q s found = go (t.core.find q) refl
      where
        go : (p : Option ℕ) → t.core.find q ≡ p → Has (heap_of u) q
        go None e = subst (λ m. Has (heap_of u) m) (core.named q s found) (used-has u s core now (f.came q s e found))
        go (Some r) e = stays q (x.counted.entered q r e)

    named : (q : ℕ) → 0 < words (v ∷ owed) q → Has (heap_of u) q
    named q e = stays q (go (word_is q v) refl)
      where
        go : (k : ℕ) → word_is q v ≡ k → Has (heap_of t) q
        go zero g = x.counted.named q (let a = words-cons v owed q in let d = words-cons w owed q in omega arith)
        go (suc k) g = x.heap.closed n o q there (holds-field o i q (field ∙ ap Some (ref-of q v (omega arith))))

    waiting : (q : ℕ) → count_by (λ x. x == q) t.pending ≡ one_if (waits (c.find q) (t.stored q) (is_known q))
    waiting q = x.counted.waiting q ∙ ap one_if (go (c.find q) refl (t.core.find q) refl)
      where
        go : (o : Option ℕ) → c.find q ≡ o → (p : Option ℕ) → t.core.find q ≡ p → waits (t.core.find q) (t.stored q) (is_known q) ≡ waits (c.find q) (t.stored q) (is_known q)
        go None e p g = ap (λ o. waits o (t.stored q) (is_known q)) (f.grew q e ∙ sym e)
        go (Some s) e (Some r) g = entered-waits (t.core.find q) r (t.stored q) (is_known q) g ∙ sym (entered-waits (c.find q) s (t.stored q) (is_known q) e)
        go (Some s) e None g =
            waits-not (t.core.find q) (t.stored q) (is_known q) (λ z.
            let some = used-counted u s core now (f.came q s g e) in
            let same = ap (λ m. count_of (heap_of u) m) (core.named q s e) in
            let has-q : Has (heap_of u) q = entered q s e in
            let exact = x.counted.exact q (had q has-q) in
            let eq = counts q in
            let none = no-change t.core q g in
            let here = ap count_in z.there in
            let nought = z.none in
            omega (arith, ints))
            ∙ sym (entered-waits (c.find q) s (t.stored q) (is_known q) e)

-- ---- a making: the words of the new object were counted before, and its name gets the entry s

pub made-sound : (t : Levels) (c : Core) (s : ℕ) (o : Object) (owed now : List Value) → IsSound t owed → IsCore c → IsBacked c (records_of t) → IsLongName t.next → t.core.find t.next ≡ None
    → ((q : ℕ) → words owed q ≡ words (words_of o) q + words now q)
    → held c (records_of t) ≡ put (held t.core (records_of t)) t.next (Some o)
    → IsValued (held c (records_of t)) → IsMaking t.core c t.next s → IsSound (made t c) now
made-sound t c s o owed now x core backed name absent split stored valued f = record {
  core = core;
  backed = backed;
  counted = record { exact = exact; waiting = waiting; entered = entered; named = λ q e. stays q (x.counted.named q (let a = split q in omega arith)) };
  small = record { stored = x.small.stored; counts = λ q. let a = grown q in let b = split q in let d = x.small.counts q in let e = words_of-is o q in omega arith };
  heap = whole;
}
  where
    u : Levels
    u = made t c

    n : ℕ
    n = t.next

    b : IsBounded (heap_of t)
    b = bounded (heap_of t) x.heap

    is : heap_of u ≡ add_object (heap_of t) o
    is = heap-is (held c (records_of t)) (t.next + 2) (add_object (heap_of t) o) stored refl

    none : (heap_of t).at n ≡ None
    none = b.bounded n (omega arith)

    absent-n : Has (heap_of t) n → ⊥
    absent-n h = let z : is_some ((heap_of t).at n) ≡ false = ap is_some none in cc

    own : (k : ℕ) → holds o k ≡ true → Has (heap_of t) k
    own k h = x.counted.named k (let a = split k in let d = words_of-is o k in let e : 0 < holdings o k = (let g = holds-counted o k in grind (arith, common_steps, g, h)) in omega arith)

    at-n : Has (heap_of u) n
    at-n = ap (λ (h : Heap). is_some (h.at n)) is ∙ ap (λ b. is_some (cond b (Some o) ((heap_of t).at n))) (eqb-here n)

    at-other : (q : ℕ) → q ≢ n → (heap_of u).at q ≡ (heap_of t).at q
    at-other q away = ap (λ (h : Heap). h.at q) is ∙ ap (λ b. cond b (Some o) ((heap_of t).at q)) (eqb-other q n away)

    whole : IsHeld (heap_of u)
    whole = held-of (heap_of u) (subst (λ h. IsWhole h no_regs no_slots) (sym is) (IsWhole-add_object (heap_of t) no_regs no_slots o (whole-of (heap_of t) x.heap) own)) (by_name {P = λ q. Has (heap_of u) q → IsLongName q} n (λ h. name) (λ q away h. x.heap.long q (ap is_some (sym (at-other q away)) ∙ h))) valued

    stays : (q : ℕ) → Has (heap_of t) q → Has (heap_of u) q
    stays q h = ap is_some (at-other q (λ same. absent-n (subst (λ m. Has (heap_of t) m) same h))) ∙ h

    grown : (q : ℕ) → count_of (heap_of u) q ≡ count_of (heap_of t) q + holdings o q
    grown q = ap (λ h. count_of h q) is ∙ count-add_object (heap_of t) o q b

    stored-n : t.stored n ≡ None
    stored-n = go (t.stored n) refl
      where
        go : (r : Option Stored) → t.stored n ≡ r → t.stored n ≡ None
        go None e = e
        go (Some r) e = let z = held-there t n r absent e in let y = none in absurd (cc)

    none-counted : count_of (heap_of t) n ≡ 0
    none-counted = go (count_of (heap_of t) n) refl
      where
        go : (k : ℕ) → count_of (heap_of t) n ≡ k → count_of (heap_of t) n ≡ 0
        go zero e = e
        go (suc k) e = absurd (absent-n (counted-has (heap_of t) n x.heap (omega arith)))

    none-owed : words owed n ≡ 0
    none-owed = go (words owed n) refl
      where
        go : (k : ℕ) → words owed n ≡ k → words owed n ≡ 0
        go zero e = e
        go (suc k) e = absurd (absent-n (x.counted.named n (omega arith)))

    exact : (q : ℕ) → Has (heap_of u) q → sum_of u q ≡ pos (count_of (heap_of u) q + words now q)
    exact = by_name {P = λ q. Has (heap_of u) q → sum_of u q ≡ pos (count_of (heap_of u) q + words now q)} n
        (λ h.
        let a = grown n in let d = none-counted in let e = none-owed in let g = split n in let i = words_of-is o n in
        let j = ap count_in stored-n in let k = f.changes n in let l = no-change t.core n absent in
        omega (arith, ints))
        (λ q away h.
        let a = grown q in let g = split q in let i = words_of-is o q in let k = f.changes q in
        let e = x.counted.exact q (ap is_some (sym (at-other q away)) ∙ h) in
        omega (arith, ints))

    entered : (q r : ℕ) → c.find q ≡ Some r → Has (heap_of u) q
    entered = by_name {P = λ q. (r : ℕ) → c.find q ≡ Some r → Has (heap_of u) q} n (λ r e. at-n) (λ q away r e. stays q (x.counted.entered q r (sym (f.others q away) ∙ e)))

    waiting : (q : ℕ) → count_by (λ x. x == q) t.pending ≡ one_if (waits (c.find q) (t.stored q) (is_known q))
    waiting = by_name {P = λ q. count_by (λ x. x == q) t.pending ≡ one_if (waits (c.find q) (t.stored q) (is_known q))} n
        (x.counted.waiting n ∙ ap one_if (waits-not (t.core.find n) (t.stored n) (is_known n) (λ w. let z = w.there in let y = stored-n in cc) ∙ sym (entered-waits (c.find n) s (t.stored n) (is_known n) f.found)))
        (λ q away. x.counted.waiting q ∙ ap (λ o. one_if (waits o (t.stored q) (is_known q))) (sym (f.others q away)))

-- ---- an object is written as its record, with the count that the disk has, or 0

pub written-sound : (t : Levels) (s p : ℕ) (owed : List Value) → IsSound t owed → place_of (t.core.entries s).state ≡ Some p → IsSound (written_at t s p) owed × (heap_of (written_at t s p) ≡ heap_of t)
written-sound t s p owed x at = (
  record {
    core = step-core t.core s (written (t.core.entries s)) x.core step;
    backed = subst (λ (d : Disk). IsBacked u.core d) (sym disk) (write-backed t.core (records_of t) s p x.core x.backed step at);
    counted = counted-step t u owed owed x.counted same sums waiting x.counted.entered x.counted.named;
    small = record { stored = small; counts = λ q. subst (λ h. count_of h q + words owed q ≤ 2 ^ 62) (sym same) (x.small.counts q) };
    heap = subst (λ h. IsHeld h) (sym same) x.heap;
  },
  same,
)
  where
    u : Levels
    u = written_at t s p

    n : ℕ
    n = (t.core.entries s).name

    new : Stored
    new = record { object = object_at t.core (records_of t) (t.core.entries s) p; count = count_in (t.stored n) }

    used : is_used (t.core.entries s).state ≡ true
    used = placed-used (t.core.entries s).state p at

    step : IsStep t.core s (written (t.core.entries s))
    step = write-step t.core s x.core used

    disk : records_of u ≡ disk_with t.core (records_of t) s p
    disk = fun_ext (by_name {P = λ q. record_in (put t.stored n (Some new) q) ≡ put (records_of t) n (Some new.object) q} n
        (ap record_in (put-here t.stored n (Some new)) ∙ sym (put-here (records_of t) n (Some new.object)))
        (λ q away. ap record_in (put-there t.stored n (Some new) q away) ∙ sym (put-there (records_of t) n (Some new.object) q away)))

    same : heap_of u ≡ heap_of t
    same = heap-same t u (ap (λ (d : Disk). held u.core d) disk ∙ write-held t.core (records_of t) s p x.core step at) refl

    count : (q : ℕ) → count_in (put t.stored n (Some new) q) ≡ count_in (t.stored q)
    count = by_name {P = λ q. count_in (put t.stored n (Some new) q) ≡ count_in (t.stored q)} n (ap count_in (put-here t.stored n (Some new))) (λ q away. ap count_in (put-there t.stored n (Some new) q away))

    sums : (q : ℕ) → Has (heap_of t) q → sum_of u q +ℤ pos (words owed q) ≡ sum_of t q +ℤ pos (words owed q)
    sums q h = ap₂ (λ a z. pos a +ℤ z +ℤ pos (words owed q)) (count q) (entry-changes t.core s (written (t.core.entries s)) refl q)

    found : t.core.find n ≡ Some s
    found = x.core.found s used

    waiting : (q : ℕ) → count_by (λ x. x == q) t.pending ≡ one_if (waits (t.core.find q) (put t.stored n (Some new) q) (is_known q))
    waiting = by_name {P = λ q. count_by (λ x. x == q) t.pending ≡ one_if (waits (t.core.find q) (put t.stored n (Some new) q) (is_known q))} n
        (x.counted.waiting n ∙ ap one_if (entered-waits (t.core.find n) s (t.stored n) (is_known n) found ∙ sym (entered-waits (t.core.find n) s (put t.stored n (Some new) n) (is_known n) found)))
        (λ q away. x.counted.waiting q ∙ ap (λ r. one_if (waits (t.core.find q) r (is_known q))) (sym (put-there t.stored n (Some new) q away)))

    small : (q : ℕ) (r : Stored) → put t.stored n (Some new) q ≡ Some r → r.count ≤ 2 ^ 62
    small q r e = let a = sym (ap count_in e) ∙ count q in go (t.stored q) refl a
      where
        go : (o : Option Stored) → t.stored q ≡ o → r.count ≡ count_in (t.stored q) → r.count ≤ 2 ^ 62
        go None e a = let z = ap count_in e in omega arith
        go (Some k) e a = let z = ap count_in e in let m = x.small.stored q k e in omega arith

-- Where no word of the heap is a name, no body in core uses its entry; and where dead names are found.
use Rattle.std.proofs.Common.{◌==◌, zero, suc, ◌≡◌, ℕ, ◌<◌, ◌≤◌, Bool, true, false, cond, eqb, List, [], ◌∷◌, Option, Some, None, is_some, refl, sym, ◌∙◌, ap, subst, arith, count_by}
use Rattle.std.proofs.lemmas.Grind.{common_steps}
use Rattle.std.proofs.lemmas.Int.{ints}
use Rattle.std.specs.List.{slice_get}
use Rattle.long_names.specs.declared.value.Value.{Value}
use Rattle.long_names.specs.declared.value.Value.TheVariants.{Ref}
use Rattle.long_names.specs.declared.object.Object.{Object}
use Rattle.long_names.specs.declared.object.Kind.{Kind}
use Rattle.long_names.specs.declared.object.Kind.TheVariants as kind
use Rattle.long_names.specs.Names.{is_known}
use Rattle.long_names.specs.Objects.{holds, field_of}
use Rattle.long_names.specs.Heap.{Heap, Has, IsBounded, count_of}
use Rattle.long_names.proofs.ThinLemmas.{both, holds-class, holds-field}
use Rattle.object_table.specs.declared.entry.Entry.{Entry}
use Rattle.object_table.specs.Entries.{is_short, place_of}
use Rattle.core_view.specs.Core.{Core}
use Rattle.core_view.specs.Held.{Disk, held, object_at, fields_there}
use Rattle.core_view.specs.Words.{meant, pointers, body_in}
use Rattle.core_view.specs.Counts.{names, holders_in, holders, tally, uses, outside}
use Rattle.core_view.specs.Kept.{IsCore}
use Rattle.core_view.proofs.Lists.{count-cons, values-get}
use Rattle.core_view.proofs.Core.{placed-used, held-at, held-absent}
use Rattle.long_names.proofs.CountLaws.{counted-held}
use Rattle.core_view.specs.Levels.{Stored, Levels, count_in, record_in, records_of, heap_of, is_waiting}
use Rattle.core_view.specs.Counted.{one_if, IsHeld, IsSound}
use Rattle.core_view.specs.Dead.{outside_by, bare_by, NoneIdle, NoneBareDead, IsLoose}
use Rattle.core_view.proofs.QueueLaws.{IsWaiting, waits-is, is-waits}
use Rattle.core_view.proofs.ChangeLaws.{no-change, stored-absent}

-- ---- a word that is a short name

pub bounded : (h : Heap) → IsHeld h → IsBounded h
bounded h x = record { bounded = λ n le. go n le (h.at n) refl }
  where
    go : (n : ℕ) → h.next ≤ n → (o : Option Object) → h.at n ≡ o → h.at n ≡ None
    go n le None e = e
    go n le (Some o) e = let low = x.below n (ap is_some e) in absurd (omega arith)

-- one of the lists has it
tally-some : (n : ℕ) (f : ℕ → List ℕ) (s : ℕ) → 1 ≤ tally n f s → (k : ℕ) × (k < n) × (1 ≤ count_by (names s) (f k))
tally-some zero f s some = absurd (omega arith)
tally-some (suc n) f s some = go (count_by (names s) (f n)) refl (tally-some n f s)
  where
    go : (k : ℕ) → count_by (names s) (f n) ≡ k → (1 ≤ tally n f s → (k : ℕ) × (k < n) × (1 ≤ count_by (names s) (f k))) → (k : ℕ) × (k < suc n) × (1 ≤ count_by (names s) (f k))
    go zero e next = let rest = next (omega arith) in (rest.0, (let low = rest.1 in omega arith), rest.2)
    go (suc k) e next = (n, omega arith, omega arith)

-- and a list has it at some place
count-at : (s : ℕ) (ws : List ℕ) → 1 ≤ count_by (names s) ws → (i : ℕ) × (slice_get ws i ≡ Some s) × (is_short s ≡ true)
count-at s [] some = absurd (omega arith)
count-at s (w ∷ ws) some = go (names s w) refl (count-at s ws)
  where
    is : names s w ≡ true → (w ≡ s) × (is_short s ≡ true)
    is e = let two = both (is_short s) (eqb w s) e in let second = two.1 in (grind (arith, common_steps, second), two.0)

    go : (b : Bool) → names s w ≡ b → (1 ≤ count_by (names s) ws → (i : ℕ) × (slice_get ws i ≡ Some s) × (is_short s ≡ true)) → (i : ℕ) × (slice_get (w ∷ ws) i ≡ Some s) × (is_short s ≡ true)
    go true e next = let same = is e in (0, ap Some same.0, same.1)
    go false e next = let rest = next (let a = count-cons s w ws in let b = ap (λ (x : Bool). let k : ℕ = cond x 1 0 in k) e in omega arith) in (suc rest.0, rest.1, rest.2)

-- the field of a word
field-at : (entries : ℕ → Entry) (old : List Value) (ws : List ℕ) (k : Kind) (len i w : ℕ) → slice_get (pointers k ws) i ≡ Some w → field_of (body_in entries old ws k len) i ≡ Some (meant entries old i w)
unfolding body_in
field-at entries old ws kind.Pointers len i w e = values-get (meant entries old) ws i w e
field-at entries old ws kind.Words len i w e = cc
field-at entries old ws kind.Bytes len i w e = cc
field-at entries old ws kind.Method len i w e = values-get (meant entries old) (pointers kind.Method ws) i w e

short-means : (entries : ℕ → Entry) (old : List Value) (i s : ℕ) → is_short s ≡ true → meant entries old i s ≡ Ref (entries s).name
short-means entries old i s e = grind (arith, common_steps, e)

-- the object that lies in core holds what its class and words name
pub holder-holds : (c : Core) (disk : Disk) (k s : ℕ) → IsCore c → 1 ≤ count_by (names s) (holders c k) → (o : Object) × (held c disk (c.entries k).name ≡ Some o) × (holds o (c.entries s).name ≡ true)
unfolding holders
holder-holds c disk k s core some = go (place_of (c.entries k).state) refl some
  where
    go : (o : Option ℕ) → place_of (c.entries k).state ≡ o → 1 ≤ count_by (names s) (holders_in c.chunks (c.entries k) o) → (o : Object) × (held c disk (c.entries k).name ≡ Some o) × (holds o (c.entries s).name ≡ true)
    go None e some = absurd (omega arith)
    go (Some p) e some = (o, held-at c disk (c.entries k).name k p (core.found k (placed-used (c.entries k).state p e)) e, by (count-at s ((c.entries k).class.0 ∷ pointers (c.entries k).kind (c.chunks p).words) some))
      where
        o : Object
        o = object_at c disk (c.entries k) p

        by : (i : ℕ) × (slice_get ((c.entries k).class.0 ∷ pointers (c.entries k).kind (c.chunks p).words) i ≡ Some s) × (is_short s ≡ true) → holds o (c.entries s).name ≡ true
        by x = at x.0 x.1 x.2
          where
            at : (i : ℕ) → slice_get ((c.entries k).class.0 ∷ pointers (c.entries k).kind (c.chunks p).words) i ≡ Some s → is_short s ≡ true → holds o (c.entries s).name ≡ true
            at zero e short = let f : Some (c.entries k).class.0 ≡ Some s = e in let same : (c.entries k).class.0 ≡ s = cc in subst (λ (z : ℕ). holds o (c.entries z).name ≡ true) same (holds-class o)
            at (suc i) e short = holds-field o i (c.entries s).name (field-at c.entries (fields_there (disk (c.entries k).name)) (c.chunks p).words (c.entries k).kind (c.entries k).len i s e ∙ ap Some (short-means c.entries (fields_there (disk (c.entries k).name)) i s short))

-- the name of an entry that a body uses is counted
pub used-counted : (t : Levels) (s : ℕ) → IsCore t.core → IsHeld (heap_of t) → 1 ≤ uses t.core s → 0 < count_of (heap_of t) (t.core.entries s).name
unfolding uses
used-counted t s core h some =
    let at = tally-some t.core.bound (holders t.core) s some in
    let it = holder-holds t.core (records_of t) at.0 s core at.2 in
    counted-held (heap_of t) (t.core.entries at.0).name (t.core.entries s).name it.0 it.1 (bounded (heap_of t) h) it.2

pub used-has : (t : Levels) (s : ℕ) → IsCore t.core → IsHeld (heap_of t) → 1 ≤ uses t.core s → Has (heap_of t) (t.core.entries s).name
unfolding uses
used-has t s core h some =
    let at = tally-some t.core.bound (holders t.core) s some in
    let it = holder-holds t.core (records_of t) at.0 s core at.2 in
    h.closed (t.core.entries at.0).name it.0 (t.core.entries s).name it.1 it.2

pub uncounted-unused : (t : Levels) (q s : ℕ) → IsCore t.core → IsHeld (heap_of t) → t.core.find q ≡ Some s → count_of (heap_of t) q ≡ 0 → uses t.core s ≡ 0
uncounted-unused t q s core h found none = go (uses t.core s) refl
  where
    go : (k : ℕ) → uses t.core s ≡ k → uses t.core s ≡ 0
    go zero e = e
    go (suc k) e =
        let some = used-counted t s core h (omega arith) in
        let same = ap (λ n. count_of (heap_of t) n) (core.named q s found) in
        absurd (omega arith)

-- what is on disk without an entry is held
pub held-there : (t : Levels) (n : ℕ) (r : Stored) → t.core.find n ≡ None → t.stored n ≡ Some r → (heap_of t).at n ≡ Some r.object
held-there t n r absent e = held-absent t.core (records_of t) n absent ∙ ap record_in e

-- ---- where dead names are found

pub waiting-loose : (t : Levels) (n : ℕ) → IsSound t [] → is_waiting t n ≡ true → (r : Stored) × IsLoose t n r
waiting-loose t n x e = (
  w.stored,
  record {
    dead = record {
      held = there;
      unknown = w.unknown;
      uncounted = let a = x.counted.exact n there in let b = no-change t.core n w.no_entry in let c = ap count_in w.there in let d = w.none in omega (arith, ints);
      free = ap (λ o. outside_by t.core o) w.no_entry;
    };
    no_entry = w.no_entry;
    there = w.there;
  },
)
  where
    w : IsWaiting (t.core.find n) (t.stored n) (is_known n)
    w = waits-is (t.core.find n) (t.stored n) (is_known n) e

    there : Has (heap_of t) n
    there = ap is_some (held-there t n w.stored w.no_entry w.there)

-- where none is pending and no leaf is without references, no name without a body is dead
pub none-bare : (t : Levels) → IsSound t [] → t.pending ≡ [] → NoneIdle t.core → NoneBareDead t
unfolding outside
none-bare t x empty none q dead bare = go (t.core.find q) refl
  where
    go : (o : Option ℕ) → t.core.find q ≡ o → ⊥
    go None e =
        let there = stored-absent t q e dead.held in
        let exact = x.counted.exact q dead.held in
        let change = no-change t.core q e in
        let zero_count : there.0.count ≡ 0 = (let a = ap count_in there.1 in let b = dead.uncounted in omega (arith, ints)) in
        let waits = is-waits (t.core.find q) (t.stored q) (is_known q) (record { no_entry = e; unknown = dead.unknown; stored = there.0; there = there.1; none = zero_count }) in
        let one : count_by (λ x. x == q) t.pending ≡ 1 = x.counted.waiting q ∙ ap one_if waits in
        let zero_times : count_by (λ x. x == q) t.pending ≡ 0 = ap (λ xs. count_by (λ x. x == q) xs) empty in
        omega arith
    go (Some s) e =
        let leaf : place_of (t.core.entries s).state ≡ None = subst (λ o. bare_by t.core o) e bare in
        let free : outside t.core s ≡ 0 = sym (ap (λ o. outside_by t.core o) e) ∙ dead.free in
        let unused = uncounted-unused t q s x.core x.heap e dead.uncounted in
        none s (x.core.used q s e) leaf (let most = x.core.counted s in omega arith)

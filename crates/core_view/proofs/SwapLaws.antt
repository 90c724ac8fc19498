-- Two objects that have no body in core change places on disk, and counts stay with their names.
use Rattle.std.proofs.Common.{◌≡◌, ◌≢◌, ℕ, pos, ◌+ℤ◌, ◌+◌, ◌≤◌, Bool, true, false, cond, eqb, List, Option, Some, None, is_some, refl, sym, ◌∙◌, ap, subst, arith}
use Rattle.std.specs.Prelude.{◌^◌, ◌==◌, if◌then◌else◌}
use Rattle.std.specs.Option.{option_map_or}
use Rattle.std.proofs.Math.Path.{fun_ext}
use Rattle.long_names.specs.declared.value.Value.{Value}
use Rattle.long_names.specs.declared.object.Object.{Object}
use Rattle.long_names.specs.Names.{is_known}
use Rattle.long_names.specs.Heap.{Heap, Has, put_object, swap_objects, count_of}
use Rattle.long_names.proofs.ThinLemmas.{has_below}
use Rattle.long_names.proofs.CountLaws.{words_in, count-put_object, eqb-here, eqb-other}
use Rattle.object_table.specs.Entries.{put, place_of}
use Rattle.core_view.specs.Core.{Core}
use Rattle.core_view.specs.Counts.{change_of}
use Rattle.core_view.specs.Words.{body_in}
use Rattle.core_view.specs.Held.{Disk, fields_there, held, held_by, held_in}
use Rattle.core_view.specs.Kept.{IsCore}
use Rattle.core_view.proofs.Lists.{put-here, put-there}
use Rattle.core_view.proofs.Core.{placed-used, held-leaf, held-absent, object-same, body-same}
use Rattle.core_view.specs.Levels.{Stored, Levels, record_in, count_in, records_of, heap_of, waits}
use Rattle.core_view.specs.Counted.{words, one_if, IsSound}
use Rattle.core_view.specs.Dead.{bare_by, IsBare}
use Rattle.core_view.specs.LevelSteps.{recounted, swapped}
use Rattle.core_view.proofs.LevelLaws.{heap-is, by_name, counted-over}
use Rattle.core_view.proofs.DeadLaws.{bounded}

-- ---- two names

by_names : {P : ℕ → Type 0} (a b : ℕ) → P b → (a ≢ b → P a) → ((q : ℕ) → q ≢ a → q ≢ b → P q) → (q : ℕ) → P q
by_names {P} a b second first other = by_name {P = P} b second (λ q off. by_name {P = λ k. k ≢ b → P k} a first (λ k away apart. other k away apart) q off)

put-second : {A : Type 0} (f : ℕ → A) (a b : ℕ) (x y : A) → put (put f a x) b y b ≡ y
put-second f a b x y = put-here (put f a x) b y

put-first : {A : Type 0} (f : ℕ → A) (a b : ℕ) (x y : A) → a ≢ b → put (put f a x) b y a ≡ x
put-first f a b x y away = put-there (put f a x) b y a away ∙ put-here f a x

put-away : {A : Type 0} (f : ℕ → A) (a b q : ℕ) (x y : A) → q ≢ a → q ≢ b → put (put f a x) b y q ≡ f q
put-away f a b q x y one two = put-there (put f a x) b y q two ∙ put-there f a x q one

-- ---- the held heap

-- where the disk has the same, the held heap has the same
pub held-on : (c : Core) (old new : Disk) (n : ℕ) → IsCore c → new n ≡ old n → held c new n ≡ held c old n
unfolding held
held-on c old new n core same = first (c.find n) refl
  where
    second : (s : ℕ) → c.find n ≡ Some s → (o : Option ℕ) → held_in c new n (c.entries s) o ≡ held_in c old n (c.entries s) o
    second s e None = same
    second s e (Some p) = ap (λ (x : Option Object). Some (record { class = (c.entries (c.entries s).class.0).name; body = body_in c.entries (fields_there x) (c.chunks p).words (c.entries s).kind (c.entries s).len }))
        (ap new (core.named n s e) ∙ same ∙ ap old (sym (core.named n s e)))

    first : (o : Option ℕ) → c.find n ≡ o → held_by c new n o ≡ held_by c old n o
    first None e = same
    first (Some s) e = second s e (place_of (c.entries s).state)

-- what has no body in core is what its record is
pub held-bare : (c : Core) (disk : Disk) (n : ℕ) → bare_by c (c.find n) → held c disk n ≡ disk n
held-bare c disk n bare = go (c.find n) refl
  where
    go : (o : Option ℕ) → c.find n ≡ o → held c disk n ≡ disk n
    go None e = held-absent c disk n e
    go (Some s) e = held-leaf c disk n s e (subst (λ o. bare_by c o) e bare)

-- an entry with a body isn't that of a name without one
bare-apart : (c : Core) (n s p : ℕ) → IsCore c → bare_by c (c.find n) → place_of (c.entries s).state ≡ Some p → (c.entries s).name ≢ n
bare-apart c n s p core bare at same =
    let found : c.find n ≡ Some s = ap c.find (sym same) ∙ core.found s (placed-used (c.entries s).state p at) in
    let none : place_of (c.entries s).state ≡ None = subst (λ o. bare_by c o) found bare in
    cc

swapped-at : (t : Levels) (a b : ℕ) (r k : Stored) → IsCore t.core → IsBare t a → IsBare t b
    → held t.core (records_of (swapped t a b r k)) ≡ (put_object (put_object (heap_of t) a k.object) b r.object).at
swapped-at t a b r k core one two = fun_ext (by_names {P = λ q. held t.core now q ≡ (put_object (put_object (heap_of t) a k.object) b r.object).at q} a b second first other)
  where
    now : Disk
    now = records_of (swapped t a b r k)

    x : Option Stored
    x = Some (recounted r.count k)

    y : Option Stored
    y = Some (recounted k.count r)

    second : held t.core now b ≡ (put_object (put_object (heap_of t) a k.object) b r.object).at b
    second = held-bare t.core now b two ∙ ap record_in (put-second t.stored a b x y)
        ∙ sym (ap (λ z. cond z (Some r.object) (cond (eqb b a) (Some k.object) ((heap_of t).at b))) (eqb-here b))

    first : a ≢ b → held t.core now a ≡ (put_object (put_object (heap_of t) a k.object) b r.object).at a
    first away = held-bare t.core now a one ∙ ap record_in (put-first t.stored a b x y away)
        ∙ sym (ap (λ z. cond z (Some r.object) (cond (eqb a a) (Some k.object) ((heap_of t).at a))) (eqb-other a b away) ∙ ap (λ z. cond z (Some k.object) ((heap_of t).at a)) (eqb-here a))

    other : (q : ℕ) → q ≢ a → q ≢ b → held t.core now q ≡ (put_object (put_object (heap_of t) a k.object) b r.object).at q
    other q off away = held-on t.core (records_of t) now q core (ap record_in (put-away t.stored a b q x y off away))
        ∙ sym (ap (λ z. cond z (Some r.object) (cond (eqb q a) (Some k.object) ((heap_of t).at q))) (eqb-other q b away) ∙ ap (λ z. cond z (Some k.object) ((heap_of t).at q)) (eqb-other q a off))

-- the heap with two objects put is the one with them exchanged
pub swap-puts : (h : Heap) (a b : ℕ) (o p : Object) → h.at a ≡ Some o → h.at b ≡ Some p → swap_objects h a b ≡ put_object (put_object h a p) b o
swap-puts h a b o p one two =
    ap (λ (z : Option Object). option_map_or (λ (o : Object). option_map_or (λ (p : Object). put_object (put_object h a p) b o) (h.at b) h) z h) one
    ∙ ap (λ (z : Option Object). option_map_or (λ (p : Object). put_object (put_object h a p) b o) z h) two

there-is : (t : Levels) (n : ℕ) (r : Stored) → IsBare t n → t.stored n ≡ Some r → (heap_of t).at n ≡ Some r.object
there-is t n r bare there = held-bare t.core (records_of t) n bare ∙ ap record_in there

swapped-put : (t : Levels) (a b : ℕ) (r k : Stored) → IsCore t.core → IsBare t a → IsBare t b → heap_of (swapped t a b r k) ≡ put_object (put_object (heap_of t) a k.object) b r.object
swapped-put t a b r k core one two = heap-is (held t.core (records_of (swapped t a b r k))) t.next (put_object (put_object (heap_of t) a k.object) b r.object) (swapped-at t a b r k core one two) refl

pub swapped-heap : (t : Levels) (a b : ℕ) (r k : Stored) → IsCore t.core → IsBare t a → IsBare t b → t.stored a ≡ Some r → t.stored b ≡ Some k → heap_of (swapped t a b r k) ≡ swap_objects (heap_of t) a b
swapped-heap t a b r k core one two there here =
    swapped-put t a b r k core one two ∙ sym (swap-puts (heap_of t) a b r.object k.object (there-is t a r one there) (there-is t b k two here))

-- ---- counts

waits-count : (f : Option ℕ) (x y : Stored) (known : Bool) → x.count ≡ y.count → waits f (Some x) known ≡ waits f (Some y) known
waits-count None x y known e = ap (λ (n : ℕ). if known then false else n == 0) e
waits-count (Some s) x y known e = refl

pub swapped-sound : (t : Levels) (a b : ℕ) (r k : Stored) (owed : List Value) → IsSound t owed → IsBare t a → IsBare t b → t.stored a ≡ Some r → t.stored b ≡ Some k → IsSound (swapped t a b r k) owed
swapped-sound t a b r k owed x one two there here = record {
  core = x.core;
  backed = record {
    body = λ s p at. let same = disk-away (t.core.entries s).name (bare-apart t.core a s p x.core one at) (bare-apart t.core b s p x.core two at) in
        body-same t.core t.core (records_of t) (records_of u) (t.core.entries s) p (x.backed.body s p at) (object-same t.core t.core (records_of t) (records_of u) x.core s p at (λ q some. refl) refl same) refl same;
  };
  counted = counted-over t u owed owed x.counted had
      (λ q h. ap (λ n. pos n +ℤ change_of t.core q) (counts q))
      (λ q h. ap (λ n. n + words owed q) (same-count q))
      (λ q. x.counted.waiting q ∙ ap one_if (sym (waiting q)))
      (λ q s e. has q (x.counted.entered q s e))
      (λ q e. has q (x.counted.named q e));
  small = record {
    stored = small;
    counts = λ q. subst (λ n. n + words owed q ≤ 2 ^ 62) (sym (same-count q)) (x.small.counts q);
  };
  heap = record {
    known = λ q e. has q (x.heap.known q e);
    long = λ q h. x.heap.long q (had q h);
    below = λ q h. x.heap.below q (had q h);
    closed = λ m o q at holds_it. has q (x.heap.closed (from m).0 o q (sym (from m).1 ∙ at) holds_it);
    valued = λ m i o v at there. x.heap.valued (from m).0 i o v (sym (from m).1 ∙ at) there;
  };
}
  where
    u : Levels
    u = swapped t a b r k

    f : Option Stored
    f = Some (recounted r.count k)

    g : Option Stored
    g = Some (recounted k.count r)

    disk-away : (q : ℕ) → q ≢ a → q ≢ b → records_of u q ≡ records_of t q
    disk-away q off away = ap record_in (put-away t.stored a b q f g off away)

    is : heap_of u ≡ put_object (put_object (heap_of t) a k.object) b r.object
    is = swapped-put t a b r k x.core one two

    at-a : (heap_of t).at a ≡ Some r.object
    at-a = there-is t a r one there

    at-b : (heap_of t).at b ≡ Some k.object
    at-b = there-is t b k two here

    now-b : (heap_of u).at b ≡ Some r.object
    now-b = held-bare t.core (records_of u) b two ∙ ap record_in (put-second t.stored a b f g)

    now-a : a ≢ b → (heap_of u).at a ≡ Some k.object
    now-a away = held-bare t.core (records_of u) a one ∙ ap record_in (put-first t.stored a b f g away)

    now-away : (q : ℕ) → q ≢ a → q ≢ b → (heap_of u).at q ≡ (heap_of t).at q
    now-away q off away = held-on t.core (records_of t) (records_of u) q x.core (disk-away q off away)

    -- each object was there before, under some name
    from : (q : ℕ) → (n : ℕ) × ((heap_of u).at q ≡ (heap_of t).at n)
    from = by_names {P = λ q. (n : ℕ) × ((heap_of u).at q ≡ (heap_of t).at n)} a b (a, now-b ∙ sym at-a) (λ away. (b, now-a away ∙ sym at-b)) (λ q off away. (q, now-away q off away))

    had : (q : ℕ) → Has (heap_of u) q → Has (heap_of t) q
    had = by_names {P = λ q. Has (heap_of u) q → Has (heap_of t) q} a b (λ h. ap is_some at-b) (λ away h. ap is_some at-a) (λ q off away h. ap is_some (sym (now-away q off away)) ∙ h)

    has : (q : ℕ) → Has (heap_of t) q → Has (heap_of u) q
    has = by_names {P = λ q. Has (heap_of t) q → Has (heap_of u) q} a b (λ h. ap is_some now-b) (λ away h. ap is_some (now-a away)) (λ q off away h. ap is_some (now-away q off away) ∙ h)

    counts : (q : ℕ) → count_in (u.stored q) ≡ count_in (t.stored q)
    counts = by_names {P = λ q. count_in (u.stored q) ≡ count_in (t.stored q)} a b
        (ap count_in (put-second t.stored a b f g) ∙ sym (ap count_in here))
        (λ away. ap count_in (put-first t.stored a b f g away) ∙ sym (ap count_in there))
        (λ q off away. ap count_in (put-away t.stored a b q f g off away))

    waiting : (q : ℕ) → waits (t.core.find q) (u.stored q) (is_known q) ≡ waits (t.core.find q) (t.stored q) (is_known q)
    waiting = by_names {P = λ q. waits (t.core.find q) (u.stored q) (is_known q) ≡ waits (t.core.find q) (t.stored q) (is_known q)} a b
        (ap (λ o. waits (t.core.find b) o (is_known b)) (put-second t.stored a b f g) ∙ waits-count (t.core.find b) (recounted k.count r) k (is_known b) refl ∙ sym (ap (λ o. waits (t.core.find b) o (is_known b)) here))
        (λ away. ap (λ o. waits (t.core.find a) o (is_known a)) (put-first t.stored a b f g away) ∙ waits-count (t.core.find a) (recounted r.count k) r (is_known a) refl ∙ sym (ap (λ o. waits (t.core.find a) o (is_known a)) there))
        (λ q off away. ap (λ o. waits (t.core.find q) o (is_known q)) (put-away t.stored a b q f g off away))

    small : (q : ℕ) (s : Stored) → u.stored q ≡ Some s → s.count ≤ 2 ^ 62
    small q s e = go (t.stored q) refl
      where
        go : (o : Option Stored) → t.stored q ≡ o → s.count ≤ 2 ^ 62
        go None w = let z = ap count_in e in let y = counts q in let v = ap count_in w in omega arith
        go (Some m) w = let z = ap count_in e in let y = counts q in let v = ap count_in w in let low = x.small.stored q m w in omega arith

    -- first the object of b comes to a as well, then that of a to b
    same-count : (q : ℕ) → count_of (heap_of u) q ≡ count_of (heap_of t) q
    same-count q =
        let h = heap_of t in
        let low-a = has_below h a (bounded h x.heap) (ap is_some at-a) in
        let low-b = has_below h b (bounded h x.heap) (ap is_some at-b) in
        let one_put = count-put_object h a k.object q low-a in
        let two_put = count-put_object (put_object h a k.object) b r.object q low-b in
        let was_a = ap (words_in q) at-a in
        let was_b = ap (words_in q) between in
        let all = ap (λ (h : Heap). count_of h q) is in
        omega arith
      where
        between : (put_object (heap_of t) a k.object).at b ≡ Some k.object
        between = go (eqb b a) refl
          where
            go : (z : Bool) → eqb b a ≡ z → cond (eqb b a) (Some k.object) ((heap_of t).at b) ≡ Some k.object
            go true e = ap (λ w. cond w (Some k.object) ((heap_of t).at b)) e
            go false e = ap (λ w. cond w (Some k.object) ((heap_of t).at b)) e ∙ at-b

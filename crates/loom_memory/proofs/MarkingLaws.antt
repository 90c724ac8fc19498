-- What is told, and what is kept, once a path began, an object was marked or a row was put.
use Rattle.std.proofs.Common.{◌≡◌, ◌≢◌, ℕ, ◌&&◌, ◌||◌, Bool, true, false, cond, eqb, List, [], refl, sym, ◌∙◌, ap, subst, arith, Option, Some, None, Ok, IsTrue}
use Rattle.std.proofs.lemmas.Grind.{common_steps}
use Rattle.std.proofs.Math.Path.{fun_ext}
use Rattle.long_names.specs.declared.value.Value.{Value}
use Rattle.long_names.specs.declared.value.Value.TheVariants.{Int, Ref}
use Rattle.long_names.specs.Objects.{name_of}
use Rattle.long_names.specs.Heap.{Has}
use Rattle.long_names.specs.State.{name_at, set_register}
use Rattle.long_names.specs.Access.{Mark, Nothing}
use Rattle.long_names.proofs.ThinLemmas.{IsThinner-refl}
use Rattle.loom_host.specs.declared.outside.Host.{Ghosts}
use Rattle.loom_host.specs.declared.outside.Role.TheVariants.{Work}
use Rattle.object_memory.specs.Told.{Told, Cache, Bounds, IsReady}
use Rattle.object_memory.specs.Contract.{SameBounds, Raised, IfBounds, HasCore, Accessed, LeavesCache, no_names, with_mark, row_of_values, is_marked}
use Rattle.object_table.specs.declared.entry.Entry.{Entry}
use Rattle.object_table.specs.Entries.{put, is_short, is_used, place_of}
use Rattle.core_segment.specs.Segment.{size_of}
use Rattle.disk_objects.specs.declared.rest.DiskRest.{DiskRest}
use Rattle.disk_objects.specs.Function.{disk_of}
use Rattle.core_view.specs.Core.{Core, with_entry}
use Rattle.core_view.specs.Words.{meant}
use Rattle.core_view.specs.Held.{Disk, held}
use Rattle.core_view.specs.Counts.{outside}
use Rattle.core_view.specs.Kept.{IsCore, IsBacked, IsValued}
use Rattle.core_view.proofs.Core.{placed-used, meant-names}
use Rattle.core_view.proofs.Words.{meant-short}
use Rattle.leaf_lambda.specs.declared.parts.Parts.{Parts}
use Rattle.leaf_lambda.specs.Parts.{core_of, IsParts}
use Rattle.method_cache.specs.Found.{found}
use Rattle.purger.specs.declared.room.Pinned.{Pinned}
use Rattle.leaf_lambda.specs.Whole.{IsWhole}
use Rattle.loom_memory.specs.declared.ledger.Ledger.{Ledger}
use Rattle.loom_memory.specs.Cache.{has_mark, is_word_of, row_by, cache_of, with_its_mark, IsCached, IsFresh}
use Rattle.loom_memory.specs.Makings.{HasThinned}
use Rattle.loom_memory.specs.Memory.{told_of, pin_in, name_if, word_in, IsPinned, IsKept, IsOver, IsMarking}
use Rattle.loom_memory.specs.Gentle.{IsQuiet}
use Rattle.loom_memory.proofs.RegLaws.{heap-same, ready-put}
use Rattle.loom_memory.proofs.CacheLaws.{and-both, both-and}
use Rattle.loom_memory.proofs.RowLaws.{none-marked, row-is, fresh-path, marked-stays, marked-outside, marked-fresh, marked-same, left-marked}

-- ---- another cache in the ledger

-- nothing of a ledger changed but its cache
abbrev pub IsCaching : Ledger → Ledger → Type 0
IsCaching k l = l ≡ record k { rows = l.rows; begun = l.begun; mark = l.mark }

pub ledger-told : {H : Type 0} (host : Ghosts H) (now : H) (rest : DiskRest) (c : Core) (regs : List ℕ) (pins : Pinned) (k l : Ledger) (x : Cache) → IsCaching k l → cache_of c (found l.rows) l.mark l.begun ≡ x
    → told_of host now rest c regs pins l ≡ record (told_of host now rest c regs pins k) { cache = x }
ledger-told {H} host now rest c regs pins k l x is e =
    ap (λ (z : Ledger). told_of host now rest c regs pins z) is ∙ ap (λ (z : Cache). record (told_of host now rest c regs pins k) { cache = z }) e

pub ledger-kept : (p : Parts) (regs : List ℕ) (pins : Pinned) (k l : Ledger) → IsKept p regs pins k → IsCaching k l → IsCached (core_of p) (found l.rows) l.mark → IsKept p regs pins l
ledger-kept p regs pins k l kept is cached = subst (λ (z : Ledger). IsKept p regs pins z) (sym is) (record {
  size = kept.size;
  entries = kept.entries;
  rooted = kept.rooted;
  filled = kept.filled;
  many = kept.many;
  pinned = kept.pinned;
  cached = cached;
})

pub ledger-over : {H : Type 0} (host : Ghosts H) (now : H) (rest : DiskRest) (c : Core) (k l : Ledger) → IsOver host now rest c k → IsCaching k l → IsOver host now rest c l
ledger-over {H} host now rest c k l over is = subst (λ (z : Ledger). IsOver host now rest c z) (sym is) (record {
  stands = over.stands;
  backed = over.backed;
  counted = over.counted;
  roomy = over.roomy;
  based = over.based;
  valued = over.valued;
})

-- ---- a path begins

pub path-begun : (c : Core) (f : ℕ → ℕ → Option ℕ) (mark : ℕ) (begun : Bool) (x : Cache) → IsFresh c f mark → cache_of c f mark begun ≡ x → cache_of c f mark true ≡ record x { path = true }
path-begun c f mark begun x fresh e =
    (λ i. record (cache_of c f mark begun) { path = fresh-path c f mark fresh i }) ∙ ap (λ (z : Cache). record z { path = true }) e

-- ---- an object is marked

pub mark-told : {H : Type 0} (host : Ghosts H) (now : H) (rest : DiskRest) (x y : Core) (regs : List ℕ) (pins : Pinned) (k l : Ledger) (s : ℕ) → IsCore x → is_used (x.entries s).state ≡ true → y ≡ with_entry x s (with_its_mark (x.entries s)) → IsCaching k l
    → (IsTrue (host.tells Work) → IsBacked x (disk_of host now rest))
    → told_of host now rest y regs pins l ≡ record (told_of host now rest x regs pins k) { cache = cache_of y (found l.rows) l.mark l.begun }
mark-told {H} host now rest x y regs pins k l s core used is caching backed =
    subst (λ (z : Core). told_of host now rest z regs pins l ≡ record (told_of host now rest x regs pins k) { cache = cache_of z (found l.rows) l.mark l.begun }) (sym is)
    (ap (λ (z : Ledger). told_of host now rest (with_entry x s (with_its_mark (x.entries s))) regs pins z) caching ∙ go)
  where
    name : (w : ℕ) → (put x.entries s (with_its_mark (x.entries s)) w).name ≡ (x.entries w).name
    name w = marked-same x s w (λ (e : Entry). e.name) (λ e. refl)

    slot : (w : ℕ) → name_if (put x.entries s (with_its_mark (x.entries s))) w ≡ name_if x.entries w
    slot w = ap (λ (n : ℕ). cond (eqb w 0) None (Some n)) (name w)

    go : told_of host now rest (with_entry x s (with_its_mark (x.entries s))) regs pins (record k { rows = l.rows; begun = l.begun; mark = l.mark })
        ≡ record (told_of host now rest x regs pins k) { cache = cache_of (with_entry x s (with_its_mark (x.entries s))) (found l.rows) l.mark l.begun }
    go =
        let heap = heap-same (host.tells Work) (held x (disk_of host now rest)) (held (with_entry x s (with_its_mark (x.entries s))) (disk_of host now rest)) k.next (λ told. (marked-stays x s core used (disk_of host now rest) (backed told)).held) in
        let regs' : ◌≡◌ {A = ℕ → Value} (λ r. meant (put x.entries s (with_its_mark (x.entries s))) [] 0 (word_in regs r)) (λ r. meant x.entries [] 0 (word_in regs r)) = fun_ext (λ r. meant-names x.entries (put x.entries s (with_its_mark (x.entries s))) [] 0 (word_in regs r) (λ short. name (word_in regs r))) in
        let slots' : ◌≡◌ {A = ℕ → Option ℕ} (λ i. name_if (put x.entries s (with_its_mark (x.entries s))) (pin_in pins i)) (λ i. name_if x.entries (pin_in pins i)) = fun_ext (λ i. slot (pin_in pins i)) in
        λ i. record (told_of host now rest x regs pins k) { heap = heap i; regs = regs' i; slots = slots' i; cache = cache_of (with_entry x s (with_its_mark (x.entries s))) (found l.rows) l.mark l.begun }

pub mark-kept : (p q : Parts) (regs : List ℕ) (pins : Pinned) (k l : Ledger) (s at : ℕ) → IsWhole p → IsKept p regs pins k → IsParts q → place_of ((core_of p).entries s).state ≡ Some at → core_of q ≡ with_entry (core_of p) s (with_its_mark ((core_of p).entries s)) → q.segment ≡ p.segment
    → IsCaching k l → IsCached (core_of q) (found l.rows) l.mark → IsKept q regs pins l
unfolding core_of
mark-kept p q regs pins k l s at whole kept parts there is segment caching cached =
    let used = placed-used ((core_of p).entries s).state at there in
    let bound = ap (λ (c : Core). c.bound) is in
    subst (λ (z : Ledger). IsKept q regs pins z) (sym caching) (record {
      size = ap size_of segment ∙ kept.size;
      entries = let was = kept.entries in omega arith;
      rooted = λ t. ap (λ (c : Core). outside c t) is ∙ marked-outside (core_of p) s t whole.parts.core used ∙ kept.rooted t;
      filled = kept.filled;
      many = kept.many;
      pinned = λ i. subst (λ (c : Core). IsPinned c (pin_in pins i)) (sym is) (λ some. let pin = kept.pinned i some in (pin.0, (pin.1.0, marked-same (core_of p) s (pin_in pins i) (λ (e : Entry). place_of e.state) (λ e. refl) ∙ pin.1.1)));
      cached = cached;
    })

pub mark-over : {H : Type 0} (host : Ghosts H) (now : H) (rest : DiskRest) (x y : Core) (k l : Ledger) (s : ℕ) → IsCore x → is_used (x.entries s).state ≡ true → y ≡ with_entry x s (with_its_mark (x.entries s)) → IsCaching k l → IsOver host now rest x k → IsOver host now rest y l
mark-over {H} host now rest x y k l s core used is caching over =
    subst (λ (z : Core). IsOver host now rest z l) (sym is) (subst (λ (z : Ledger). IsOver host now rest (with_entry x s (with_its_mark (x.entries s))) z) (sym caching) (record {
      stands = over.stands;
      backed = λ told. (marked-stays x s core used (disk_of host now rest) (over.backed told)).backed;
      counted = λ told. let was = over.counted told in let same = marked-fresh x s in omega arith;
      roomy = over.roomy;
      based = over.based;
      valued = λ told. subst (λ (d : Disk). IsValued d) (sym (marked-stays x s core used (disk_of host now rest) (over.backed told)).held) (over.valued told);
    }))

-- ---- the access

mark-answered : (t : Told) (b : Option Bounds) (c : Cache) (of n : ℕ) → t.regs of ≡ Ref n → SameBounds t.bounds b → Raised 0 t.bounds b → LeavesCache no_names (Some n) t.cache (with_mark t.cache (Some n)) c → IfBounds t.bounds (HasCore t (Mark of))
    → Accessed {A = Unit {0}} t (record t { bounds = b; cache = c }) (Mark of) (λ _. Nothing) (Ok tt)
mark-answered t b c of n name same counts left core = record {
  called = record {
    later = record { tells = refl; speaks = refl; bounds = same; refusals = omega arith };
    ok = record {
      regs = refl;
      brings = λ told. refl;
      slots = refl;
      transcript = λ told. refl;
      heap = λ told. IsThinner-refl t.heap;
      cache = subst (λ (o : Option ℕ). LeavesCache no_names o t.cache (with_mark t.cache o) c) (sym (ap name_of name)) left;
      counts = counts;
      base = tt;
      refusals = refl;
      last = refl;
    };
    err = tt;
  };
  answer = λ told. refl;
  named = λ make told. absurd (omega arith);
  core = core;
}

-- an object came, and was marked
pub mark-access : (t u v : Told) (of n : ℕ) → IsQuiet t u → IsMarking u v n → u.regs of ≡ Ref n → IfBounds t.bounds (HasCore t (Mark of)) → Accessed {A = Unit {0}} t v (Mark of) (λ _. Nothing) (Ok tt)
mark-access t u v of n quiet marking name core =
    subst (λ (z : Told). Accessed {A = Unit {0}} t z (Mark of) (λ _. Nothing) (Ok tt)) (sym (marking.same ∙ ap (λ (z : Told). record z { cache = v.cache }) quiet.same))
    (mark-answered t u.bounds v.cache of n (ap (λ (z : Told). z.regs of) (sym quiet.same) ∙ name) quiet.bounds quiet.counts (left-marked t.cache u.cache v.cache n quiet.cache marking.cache) core)

pub ready-mark : (u v : Told) (of n : ℕ) → IsMarking u v n → u.regs of ≡ Ref n → IsReady u → IsReady v
ready-mark u v of n marking name ready = subst IsReady (sym marking.same) (record {
  whole = ready.whole;
  marked = λ told k on. go told k (eqb k n) refl (ap (λ (f : ℕ → Bool). f k) (sym marking.cache.marks) ∙ on);
  cached = λ c s m row. ap (λ (f : ℕ → Bool). f m) marking.cache.marks ∙ ap (λ (b : Bool). eqb m n || b) (ready.cached c s m (marking.cache.rows c s m row)) ∙ or-true (eqb m n);
})
  where
    or-true : (b : Bool) → b || true ≡ true
    or-true true = refl
    or-true false = refl

    go : IsTrue u.tells → (k : ℕ) (b : Bool) → eqb k n ≡ b → b || u.cache.marks k ≡ true → Has u.heap k
    go told k true e on = (ready.whole told).rooted of k (name ∙ ap Ref (let same : k ≡ n = grind (arith, common_steps) in sym same))
    go told k false e on = ready.marked told k on

pub marked-name : (t u v : Told) (of n : ℕ) → HasThinned t u → IsMarking u v n → u.regs of ≡ Ref n → v.cache.marks (name_at (t.regs of)) ≡ true
marked-name t u v of n thin marking name =
    ap v.cache.marks (ap name_at (ap (λ (z : Told). z.regs of) (sym thin.same) ∙ name)) ∙ ap (λ (f : ℕ → Bool). f n) marking.cache.marks ∙ ap (λ (b : Bool). b || u.cache.marks n) (same n)
  where
    same : (n : ℕ) → eqb n n ≡ true
    same n = grind (arith, common_steps)

-- ---- rows

-- nothing is found while no mark lives
pub row-unmarked : (c : Core) (f : ℕ → ℕ → Option ℕ) (mark : ℕ) (begun : Bool) (v w : Value) (m : ℕ) → has_mark c mark ≡ false → row_of_values (cache_of c f mark begun) v w m ≡ false
row-unmarked c f mark begun (Int z) w m off = refl
row-unmarked c f mark begun (Ref n) (Int z) m off = refl
row-unmarked c f mark begun (Ref n) (Ref k) m off = ap (λ (b : Bool). b && row_by c.entries f (c.find n) (c.find k) m) off

pub and-false : (a b c : Bool) → c ≡ false → a && (b && c) ≡ false
and-false true true c e = e
and-false true false c e = refl
and-false false b c e = refl

pub eq-self : (n : ℕ) → eqb n n ≡ true
eq-self n = grind (arith, common_steps)

-- the row of two words that are found
pub row-found : (c : Core) (f : ℕ → ℕ → Option ℕ) (mark : ℕ) (begun : Bool) (s t w : ℕ) → IsCore c → has_mark c mark ≡ true → has_mark c s ≡ true → has_mark c t ≡ true → f s t ≡ Some w
    → row_of_values (cache_of c f mark begun) (meant c.entries [] 0 s) (meant c.entries [] 0 t) (c.entries w).name ≡ true
row-found c f mark begun s t w core lives one_ two is =
    let used = (and-both (is_used (c.entries s).state) (c.entries s).flags.marked one_).0 in
    let other = (and-both (is_used (c.entries t).state) (c.entries t).flags.marked two).0 in
    let short = core.short s used in
    let short' = core.short t other in
    row-is c f mark begun s t (c.entries w).name core (short-some s short) (short-some t short') (λ h. used) (λ h. other)
    ∙ both-and (is_short s && is_short t) (has_mark c mark && is_word_of c.entries (f s t) (c.entries w).name) (both-and (is_short s) (is_short t) short short')
    (both-and (has_mark c mark) (is_word_of c.entries (f s t) (c.entries w).name) lives (ap (λ (o : Option ℕ). is_word_of c.entries o (c.entries w).name) is ∙ eq-self (c.entries w).name))
  where
    short-some : (w : ℕ) → is_short w ≡ true → w ≢ 0
    short-some w is e = let none : is_short 0 ≡ true = subst (λ (k : ℕ). is_short k ≡ true) e is in cc

-- and of two that aren't
pub row-unknown : (c : Core) (f : ℕ → ℕ → Option ℕ) (mark : ℕ) (begun : Bool) (s t m : ℕ) → IsCore c → s ≢ 0 → t ≢ 0 → (is_short s ≡ true → is_used (c.entries s).state ≡ true) → (is_short t ≡ true → is_used (c.entries t).state ≡ true) → f s t ≡ None
    → row_of_values (cache_of c f mark begun) (meant c.entries [] 0 s) (meant c.entries [] 0 t) m ≡ false
row-unknown c f mark begun s t m core some other on here is =
    row-is c f mark begun s t m core some other on here ∙ and-false (is_short s && is_short t) (has_mark c mark) (is_word_of c.entries (f s t) m) (ap (λ (o : Option ℕ). is_word_of c.entries o m) is)

-- a marked word means its entry's name, which is there
pub marked-means : (c : Core) (w : ℕ) → IsCore c → has_mark c w ≡ true → meant c.entries [] 0 w ≡ Ref (c.entries w).name
marked-means c w core on = meant-short c.entries [] 0 w (core.short w (and-both (is_used (c.entries w).state) (c.entries w).flags.marked on).0)

pub marked-used : (c : Core) (w : ℕ) → has_mark c w ≡ true → is_used (c.entries w).state ≡ true
marked-used c w on = (and-both (is_used (c.entries w).state) (c.entries w).flags.marked on).0

pub marked-some : (c : Core) (w : ℕ) → IsCore c → has_mark c w ≡ true → w ≢ 0
marked-some c w core on e = let both : true ≡ false = sym (ap (has_mark c) (sym e) ∙ on) ∙ none-marked c core in cc

pub ready-found : (t : Told) (to n : ℕ) → IsReady t → t.cache.marks n ≡ true → IsReady (record t { regs = set_register t.regs to (Ref n) })
ready-found t to n ready on = ready-put t to (Ref n) (λ k e told. let same : n ≡ k = cc in subst (λ (j : ℕ). Has t.heap j) same (ready.marked told n on)) ready

pub filled : (regs : ℕ → Value) (to : ℕ) (v : Value) → set_register regs to v to ≡ v
filled regs to v = ap (λ (b : Bool). cond b v (regs to)) (eq-self to)

pub some-is : (x y : ℕ) → Some x ≡ Some y → x ≡ y
some-is x y e = cc

-- ---- a row is put

pub put-row : (c : Core) (f g : ℕ → ℕ → Option ℕ) (mark s t w m : ℕ) (begun : Bool) → IsCore c → has_mark c mark ≡ true → has_mark c s ≡ true → has_mark c t ≡ true → has_mark c w ≡ true → g s t ≡ Some w → meant c.entries [] 0 w ≡ Ref m
    → row_of_values (cache_of c g mark begun) (meant c.entries [] 0 s) (meant c.entries [] 0 t) m ≡ true
put-row c f g mark s t w m begun core lives one_ two three is name =
    subst (λ (k : ℕ). row_of_values (cache_of c g mark begun) (meant c.entries [] 0 s) (meant c.entries [] 0 t) k ≡ true) (same (sym (marked-means c w core three) ∙ name)) (row-found c g mark begun s t w core lives one_ two is)
  where
    same : Ref (c.entries w).name ≡ Ref m → (c.entries w).name ≡ m
    same e = cc

pub path-marked : (mark : ℕ) (begun has : Bool) → begun ≡ true → has ≡ true → begun && (eqb mark 0 || has) ≡ true
path-marked mark begun has e f = ap (λ (b : Bool). b && (eqb mark 0 || has)) e ∙ ap (λ (b : Bool). eqb mark 0 || b) f ∙ or-true (eqb mark 0)
  where
    or-true : (b : Bool) → b || true ≡ true
    or-true true = refl
    or-true false = refl

pub path-begins : (begun x : Bool) → begun && x ≡ true → begun ≡ true
path-begins true x e = refl
path-begins false x e = absurd (cc)

-- a value that is marked says that the last mark lives
pub unmarked-whole : (c : Core) (f : ℕ → ℕ → Option ℕ) (mark : ℕ) (begun : Bool) (v : Value) → IsCore c → IsCached c f mark → has_mark c mark ≡ false → is_marked (cache_of c f mark begun) v ≡ true → ⊥
unmarked-whole c f mark begun (Int z) core cached off is = cc
unmarked-whole c f mark begun (Ref n) core cached off is = let none = cached.none off n in let both : true ≡ false = sym is ∙ none in cc

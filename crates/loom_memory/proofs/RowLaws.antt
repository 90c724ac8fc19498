-- Marks that are set, and rows that come, of a core and of what is told.
use Rattle.std.proofs.Common.{◌≡◌, ◌≢◌, ◌⊎◌, inl, inr, ℕ, ◌+◌, ◌<◌, ◌&&◌, ◌||◌, Bool, true, false, eqb, [], refl, sym, ◌∙◌, ap, arith, Option, Some, None, ⊎_elim, count_by}
use Rattle.std.proofs.lemmas.Bool.{cases_eq}
use Rattle.std.proofs.lemmas.Grind.{common_steps}
use Rattle.std.proofs.Math.Path.{fun_ext}
use Rattle.long_names.specs.declared.value.Value.TheVariants.{Int, Ref}
use Rattle.object_table.specs.declared.entry.Entry.{Entry}
use Rattle.object_table.specs.Entries.{put, is_short, is_used, place_of}
use Rattle.core_view.specs.Core.{Core, with_entry}
use Rattle.core_view.specs.Words.{meant, int_of_short}
use Rattle.core_view.specs.Counts.{names, holders_in, holders, outside, marked_by, marked_of}
use Rattle.core_view.specs.Kept.{IsCore, IsTight, Stays}
use Rattle.core_view.specs.Purge.{fresh_by, fresh_of}
use Rattle.core_view.proofs.Words.{meant-short, meant-odd}
use Rattle.core_view.proofs.Entries.{IsStep, at-entry, touch-step, touch-held, touch-backed, step-core, step-outside}
use Rattle.core_view.proofs.Lists.{put-here, put-there}
use Rattle.core_view.proofs.Steps.{entry-about}
use Rattle.core_view.proofs.Tight.{entry-tight}
use Rattle.core_view.proofs.Fresh.{fresh-stays}
use Rattle.object_memory.specs.Told.{Cache}
use Rattle.object_memory.specs.Contract.{LeavesCache, IsKeptCache, IsEmptied, no_names, with_mark, row_of_values, is_marked}
use Rattle.method_cache.specs.Found.{IsPut as IsPutRow}
use Rattle.purger.specs.Marks.{AreHere}
use Rattle.loom_memory.specs.Cache.{has_mark, is_word_of, row_by, cache_of, with_its_mark, IsCached, IsFresh}
use Rattle.loom_memory.proofs.CacheLaws.{and-both, both-and, off-by, mark-name}
use Rattle.loom_memory.proofs.WordLaws.{odd-else}

no-both : {A : Type 0} (b : Bool) → b ≡ true → b ≡ false → A
no-both {A} b on off = let both : true ≡ false = sym on ∙ off in absurd (cc)

-- ---- an entry that is no longer marked

-- 0 names no entry
pub none-marked : (c : Core) → IsCore c → has_mark c 0 ≡ false
none-marked c core = off-by (has_mark c 0) (λ h. let both = and-both (is_used (c.entries 0).state) (c.entries 0).flags.marked h in let short = core.short 0 both.0 in absurd (cc))

-- an entry in use is within, and has a short name
pub marked-short : (c : Core) (w : ℕ) → IsCore c → is_short w ≡ false → has_mark c w ≡ false
marked-short c w core off = off-by (has_mark c w) (λ h. no-both (is_short w) (core.short w (and-both (is_used (c.entries w).state) (c.entries w).flags.marked h).0) off)

pub marked-within : (c : Core) (w : ℕ) → IsCore c → (w < c.bound → ⊥) → has_mark c w ≡ false
marked-within c w core past = off-by (has_mark c w) (λ h. past (core.within w (and-both (is_used (c.entries w).state) (c.entries w).flags.marked h).0))

-- rows that don't count go, and a path ends that had
pub cache-cleared : (c : Core) (f g : ℕ → ℕ → Option ℕ) (mark : ℕ) (begun : Bool) → IsCore c → has_mark c mark ≡ false → cache_of c g 0 (begun && eqb mark 0) ≡ cache_of c f mark begun
cache-cleared c f g mark begun core off =
    let none = none-marked c core in
    let rows' : ◌≡◌ {A = ℕ → ℕ → ℕ → Bool} (λ k n m. has_mark c 0 && row_by c.entries g (c.find k) (c.find n) m) (λ k n m. has_mark c mark && row_by c.entries f (c.find k) (c.find n) m) =
    fun_ext (λ k. fun_ext (λ n. fun_ext (λ m. ap (λ (b : Bool). b && row_by c.entries g (c.find k) (c.find n) m) none ∙ sym (ap (λ (b : Bool). b && row_by c.entries f (c.find k) (c.find n) m) off)))) in
    let path' : (begun && eqb mark 0) && (true || has_mark c 0) ≡ begun && (eqb mark 0 || has_mark c mark) = whole begun (eqb mark 0) ∙ sym (ap (λ (b : Bool). begun && (eqb mark 0 || b)) off) in
    λ i. record { rows = rows' i; marks = marked_of c; path = path' i }
  where
    whole : (a b : Bool) → (a && b) && true ≡ a && (b || false)
    whole true true = refl
    whole true false = refl
    whole false b = refl

pub cached-cleared : (c : Core) (f g : ℕ → ℕ → Option ℕ) (mark : ℕ) → IsCore c → IsCached c f mark → has_mark c mark ≡ false → IsCached c g 0
cached-cleared c f g mark core cached off = record { none = λ o. cached.none off; rows = λ on s t w e. no-both (has_mark c 0) on (none-marked c core) }

-- the path is whole where it was begun
pub fresh-path : (c : Core) (f : ℕ → ℕ → Option ℕ) (mark : ℕ) → IsFresh c f mark → eqb mark 0 || has_mark c mark ≡ true
fresh-path c f mark fresh = ⊎_elim (λ on. ap (λ (b : Bool). eqb mark 0 || b) on ∙ or-true (eqb mark 0)) (λ none. ap (λ (k : ℕ). eqb k 0 || has_mark c mark) none.0) fresh
  where
    or-true : (b : Bool) → b || true ≡ true
    or-true true = refl
    or-true false = refl

-- ---- a mark is set

step-of : (c : Core) (s : ℕ) → IsCore c → is_used (c.entries s).state ≡ true → IsStep c s (with_its_mark (c.entries s))
step-of c s core used = touch-step c s (c.entries s).refs (c.entries s).change (with_its_mark (c.entries s)).flags core used (core.counted s)

pub marked-core : (c : Core) (s : ℕ) → IsCore c → is_used (c.entries s).state ≡ true → IsCore (with_entry c s (with_its_mark (c.entries s)))
marked-core c s core used = step-core c s (with_its_mark (c.entries s)) core (step-of c s core used)

pub marked-stays : (c : Core) (s : ℕ) → IsCore c → is_used (c.entries s).state ≡ true → Stays c (with_entry c s (with_its_mark (c.entries s)))
marked-stays c s core used disk backed = record {
  backed = touch-backed c disk s (c.entries s).refs (c.entries s).change (with_its_mark (c.entries s)).flags core backed (step-of c s core used) (λ e. e) refl;
  held = touch-held c disk s (c.entries s).refs (c.entries s).change (with_its_mark (c.entries s)).flags core (step-of c s core used);
}

pub marked-outside : (c : Core) (s t : ℕ) → IsCore c → is_used (c.entries s).state ≡ true → outside (with_entry c s (with_its_mark (c.entries s))) t ≡ outside c t
unfolding holders
marked-outside c s t core used =
    let all : outside (with_entry c s (with_its_mark (c.entries s))) t + count_by (names t) (holders_in c.chunks (c.entries s) (place_of (c.entries s).state)) + (c.entries t).refs ≡ outside c t + count_by (names t) (holders_in c.chunks (c.entries s) (place_of (c.entries s).state)) + (put c.entries s (with_its_mark (c.entries s)) t).refs =
    step-outside c s (with_its_mark (c.entries s)) t core (step-of c s core used) in
    let refs : (put c.entries s (with_its_mark (c.entries s)) t).refs ≡ (c.entries t).refs = at-entry c.entries s (with_its_mark (c.entries s)) (λ q e. e.refs ≡ (c.entries q).refs) refl (λ q away. refl) t in
    omega arith

pub marked-tight : (c : Core) (s : ℕ) → IsTight c → IsTight (with_entry c s (with_its_mark (c.entries s)))
marked-tight c s tight = entry-tight c s (with_its_mark (c.entries s)) refl tight

pub marked-fresh : (c : Core) (s : ℕ) → fresh_of (with_entry c s (with_its_mark (c.entries s))) ≡ fresh_of c
marked-fresh c s = fresh-stays c (with_entry c s (with_its_mark (c.entries s))) s (entry-about c s (with_its_mark (c.entries s))) (ap fresh_by (put-here c.entries s (with_its_mark (c.entries s))))

pub marked-here : (c : Core) (s p : ℕ) → place_of (c.entries s).state ≡ Some p → AreHere c → AreHere (with_entry c s (with_its_mark (c.entries s)))
marked-here c s p at here = at-entry c.entries s (with_its_mark (c.entries s)) (λ q e. is_used e.state ≡ true → e.flags.marked ≡ true → (r : ℕ) × (place_of e.state ≡ Some r)) (λ on marked. (p, at)) (λ q away. here q)

-- what isn't the mark
pub marked-same : {A : Type 0} (c : Core) (s q : ℕ) (f : Entry → A) → ((e : Entry) → f (with_its_mark e) ≡ f e) → f (put c.entries s (with_its_mark (c.entries s)) q) ≡ f (c.entries q)
marked-same {A} c s q f blind = at-entry c.entries s (with_its_mark (c.entries s)) (λ k e. f e ≡ f (c.entries k)) (blind (c.entries s)) (λ k away. refl) q

-- by entry, and by name
pub marked-on : (c : Core) (s : ℕ) → is_used (c.entries s).state ≡ true → has_mark (with_entry c s (with_its_mark (c.entries s))) s ≡ true
marked-on c s used = ap (λ (e : Entry). is_used e.state && e.flags.marked) (put-here c.entries s (with_its_mark (c.entries s))) ∙ ap (λ (b : Bool). b && true) used

pub marked-still : (c : Core) (s q : ℕ) → has_mark c q ≡ true → has_mark (with_entry c s (with_its_mark (c.entries s))) q ≡ true
marked-still c s q = at-entry c.entries s (with_its_mark (c.entries s)) (λ k e. has_mark c k ≡ true → is_used e.state && e.flags.marked ≡ true) (λ on. ap (λ (b : Bool). b && true) (and-both (is_used (c.entries s).state) (c.entries s).flags.marked on).0) (λ k away on. on) q

pub marked-marks : (c : Core) (s n : ℕ) → IsCore c → is_used (c.entries s).state ≡ true → marked_of (with_entry c s (with_its_mark (c.entries s))) n ≡ eqb n (c.entries s).name || marked_of c n
marked-marks c s n core used = go (c.find n) refl
  where
    at : (q : ℕ) → c.find n ≡ Some q → (b : Bool) → eqb n (c.entries s).name ≡ b → (put c.entries s (with_its_mark (c.entries s)) q).flags.marked ≡ b || (c.entries q).flags.marked
    at q e true same =
        let name : n ≡ (c.entries s).name = grind (arith, common_steps) in
        let here : Some q ≡ Some s = sym e ∙ ap c.find name ∙ core.found s used in
        let is : q ≡ s = cc in
        ap (λ (k : ℕ). (put c.entries s (with_its_mark (c.entries s)) k).flags.marked) is ∙ ap (λ (x : Entry). x.flags.marked) (put-here c.entries s (with_its_mark (c.entries s)))
    at q e false other =
        ap (λ (x : Entry). x.flags.marked) (put-there c.entries s (with_its_mark (c.entries s)) q (λ h. let name : n ≡ (c.entries s).name = sym (core.named n q e) ∙ ap (λ (k : ℕ). (c.entries k).name) h in let same : eqb n (c.entries s).name ≡ true = grind (arith, common_steps) in no-both (eqb n (c.entries s).name) same other))

    absent : c.find n ≡ None → (b : Bool) → eqb n (c.entries s).name ≡ b → false ≡ b || false
    absent e false other = refl
    absent e true same =
        let name : n ≡ (c.entries s).name = grind (arith, common_steps) in
        let both : None ≡ Some s = sym e ∙ ap c.find name ∙ core.found s used in
        absurd (cc)

    go : (o : Option ℕ) → c.find n ≡ o → marked_by (put c.entries s (with_its_mark (c.entries s))) o ≡ eqb n (c.entries s).name || marked_by c.entries o
    go None e = absent e (eqb n (c.entries s).name) refl
    go (Some q) e = at q e (eqb n (c.entries s).name) refl

-- rows by entries of the same names
row-names : (c : Core) (s : ℕ) (f : ℕ → ℕ → Option ℕ) (a b : Option ℕ) (m : ℕ) → row_by (put c.entries s (with_its_mark (c.entries s))) f a b m ≡ row_by c.entries f a b m
row-names c s f None b m = refl
row-names c s f (Some x) None m = refl
row-names c s f (Some x) (Some y) m = go (f x y)
  where
    go : (o : Option ℕ) → is_word_of (put c.entries s (with_its_mark (c.entries s))) o m ≡ is_word_of c.entries o m
    go None = refl
    go (Some w) = ap (λ (k : ℕ). eqb k m) (marked-same c s w (λ (e : Entry). e.name) (λ e. refl))

row-off : (c : Core) (f : ℕ → ℕ → Option ℕ) (a b : Option ℕ) (m : ℕ) → ((s t : ℕ) → f s t ≡ None) → row_by c.entries f a b m ≡ false
row-off c f None b m none = refl
row-off c f (Some s) None m none = refl
row-off c f (Some s) (Some t) m none = ap (λ (o : Option ℕ). is_word_of c.entries o m) (none s t)

pub marking-kept : (c : Core) (f : ℕ → ℕ → Option ℕ) (mark s : ℕ) (begun : Bool) → IsCore c → is_used (c.entries s).state ≡ true → IsFresh c f mark
    → IsKeptCache no_names (cache_of c f mark begun) (with_mark (cache_of c f mark begun) (Some (c.entries s).name)) (cache_of (with_entry c s (with_its_mark (c.entries s))) f s begun)
marking-kept c f mark s begun core used fresh = record {
  marks = fun_ext (λ n. marked-marks c s n core used);
  path = ap (λ (b : Bool). begun && b) (ap (λ (b : Bool). eqb s 0 || b) (marked-on c s used) ∙ or-true (eqb s 0) ∙ sym (fresh-path c f mark fresh));
  rows = λ k n m h.
      let both = and-both (has_mark (with_entry c s (with_its_mark (c.entries s))) s) (row_by (put c.entries s (with_its_mark (c.entries s))) f (c.find k) (c.find n) m) h in
      let row : row_by c.entries f (c.find k) (c.find n) m ≡ true = sym (row-names c s f (c.find k) (c.find n) m) ∙ both.1 in
      ⊎_elim (λ on. both-and (has_mark c mark) (row_by c.entries f (c.find k) (c.find n) m) on row) (λ none. no-both (row_by c.entries f (c.find k) (c.find n) m) row (row-off c f (c.find k) (c.find n) m none.1)) fresh;
  untouched = λ n h. absurd (cc);
}
  where
    or-true : (b : Bool) → b || true ≡ true
    or-true true = refl
    or-true false = refl

-- the cache is as it was with the new mark, for rows that don't count were cleared before
pub marking-exact : (c : Core) (f : ℕ → ℕ → Option ℕ) (mark s : ℕ) (begun : Bool) → IsCore c → is_used (c.entries s).state ≡ true → IsFresh c f mark
    → cache_of (with_entry c s (with_its_mark (c.entries s))) f s begun ≡ with_mark (cache_of c f mark begun) (Some (c.entries s).name)
marking-exact c f mark s begun core used fresh =
    let kept = marking-kept c f mark s begun core used fresh in
    let rows' = fun_ext (λ k. fun_ext (λ n. fun_ext (λ m. row k n m))) in
    let marks' = kept.marks in
    let path' = kept.path in
    λ i. record { rows = rows' i; marks = marks' i; path = path' i }
  where
    and-false : (b : Bool) → b && false ≡ false
    and-false true = refl
    and-false false = refl

    old : (k n m : ℕ) → row_by c.entries f (c.find k) (c.find n) m ≡ has_mark c mark && row_by c.entries f (c.find k) (c.find n) m
    old k n m = ⊎_elim (λ on. sym (ap (λ (b : Bool). b && row_by c.entries f (c.find k) (c.find n) m) on))
        (λ none. let off = row-off c f (c.find k) (c.find n) m none.1 in off ∙ sym (ap (λ (b : Bool). has_mark c mark && b) off ∙ and-false (has_mark c mark))) fresh

    row : (k n m : ℕ) → has_mark (with_entry c s (with_its_mark (c.entries s))) s && row_by (put c.entries s (with_its_mark (c.entries s))) f (c.find k) (c.find n) m ≡ has_mark c mark && row_by c.entries f (c.find k) (c.find n) m
    row k n m = ap (λ (b : Bool). b && row_by (put c.entries s (with_its_mark (c.entries s))) f (c.find k) (c.find n) m) (marked-on c s used) ∙ row-names c s f (c.find k) (c.find n) m ∙ old k n m

pub marking-cached : (c : Core) (f : ℕ → ℕ → Option ℕ) (mark s : ℕ) → IsCore c → is_used (c.entries s).state ≡ true → IsFresh c f mark → IsCached c f mark → IsCached (with_entry c s (with_its_mark (c.entries s))) f s
marking-cached c f mark s core used fresh cached = record {
  none = λ off. no-both (has_mark (with_entry c s (with_its_mark (c.entries s))) s) (marked-on c s used) off;
  rows = λ on a b w e. ⊎_elim (λ lives. let all = cached.rows lives a b w e in (marked-still c s a all.0, marked-still c s b all.1, marked-still c s w all.2)) (λ none. absurd (let both : None ≡ Some w = sym (none.1 a b) ∙ e in cc)) fresh;
}

-- quiet steps, and then a mark
pub left-marked : (a b c : Cache) (n : ℕ) → LeavesCache no_names None a a b → IsKeptCache no_names b (with_mark b (Some n)) c → LeavesCache no_names (Some n) a (with_mark a (Some n)) c
left-marked a b c n x l = ⊎_elim (λ k. inl (kept k)) (λ e. inr (emptied e)) x
  where
    kept : IsKeptCache no_names a a b → IsKeptCache no_names a (with_mark a (Some n)) c
    kept k = record { marks = l.marks ∙ ap (λ (f : ℕ → Bool). λ j. eqb j n || f j) k.marks; path = l.path ∙ k.path; rows = λ u v w h. k.rows u v w (l.rows u v w h); untouched = λ j h. absurd (cc) }

    mine : (j : ℕ) (e : IsEmptied None a b) → eqb j n || b.marks j ≡ true → Some n ≡ Some j
    mine j e h = go (eqb j n) refl
      where
        go : (z : Bool) → eqb j n ≡ z → Some n ≡ Some j
        go true f = let same : j ≡ n = grind (arith, common_steps) in ap Some (sym same)
        go false f = let on : b.marks j ≡ true = sym (ap (λ (z : Bool). z || b.marks j) f) ∙ h in absurd (let none = e.marks j on in cc)

    emptied : IsEmptied None a b → IsEmptied (Some n) a c
    emptied e = record {
      rows = λ u v w. off-by (c.rows u v w) (λ h. no-both (b.rows u v w) (l.rows u v w h) (e.rows u v w));
      marks = λ j h. mine j e (ap (λ (f : ℕ → Bool). f j) (sym l.marks) ∙ h);
      path = l.path ∙ e.path;
      taken = e.taken;
      was = e.was;
    }

-- ---- rows of two words

-- The row of what two words mean. A number has none.
pub row-is : (c : Core) (f : ℕ → ℕ → Option ℕ) (mark : ℕ) (begun : Bool) (s t m : ℕ) → IsCore c → s ≢ 0 → t ≢ 0 → (is_short s ≡ true → is_used (c.entries s).state ≡ true) → (is_short t ≡ true → is_used (c.entries t).state ≡ true)
    → row_of_values (cache_of c f mark begun) (meant c.entries [] 0 s) (meant c.entries [] 0 t) m ≡ (is_short s && is_short t) && (has_mark c mark && is_word_of c.entries (f s t) m)
row-is c f mark begun s t m core some other on here = first (is_short s) refl
  where
    cache : Cache
    cache = cache_of c f mark begun

    number : (w : ℕ) → w ≢ 0 → is_short w ≡ false → meant c.entries [] 0 w ≡ Int (int_of_short w)
    number w some off = meant-odd c.entries [] 0 w (odd-else w some off)

    second : is_short s ≡ true → (b : Bool) → is_short t ≡ b → row_of_values (cache_of c f mark begun) (Ref (c.entries s).name) (meant c.entries [] 0 t) m ≡ b && (has_mark c mark && is_word_of c.entries (f s t) m)
    second e true g =
        ap (λ v. row_of_values (cache_of c f mark begun) (Ref (c.entries s).name) v m) (meant-short c.entries [] 0 t g)
        ∙ ap (λ o. has_mark c mark && row_by c.entries f o (c.find (c.entries t).name) m) (core.found s (on e)) ∙ ap (λ o. has_mark c mark && row_by c.entries f (Some s) o m) (core.found t (here g))
    second e false g = ap (λ v. row_of_values (cache_of c f mark begun) (Ref (c.entries s).name) v m) (number t other g)

    first : (b : Bool) → is_short s ≡ b → row_of_values (cache_of c f mark begun) (meant c.entries [] 0 s) (meant c.entries [] 0 t) m ≡ (b && is_short t) && (has_mark c mark && is_word_of c.entries (f s t) m)
    first true e = ap (λ v. row_of_values (cache_of c f mark begun) v (meant c.entries [] 0 t) m) (meant-short c.entries [] 0 s e) ∙ second e (is_short t) refl
    first false e = ap (λ v. row_of_values (cache_of c f mark begun) v (meant c.entries [] 0 t) m) (number s some e)

-- what is found once a row was put
pub put-back : (f g : ℕ → ℕ → Option ℕ) (s t w : ℕ) → IsPutRow f g s t w → (a b x : ℕ) → g a b ≡ Some x → ((a ≡ s) × (b ≡ t) × (x ≡ w)) ⊎ (f a b ≡ Some x)
put-back f g s t w is a b x e = ⊎_elim (λ (h : a ≡ s). ⊎_elim (λ (k : b ≡ t). inl (h, k, same h k)) (λ (k : b ≢ t). inr (old (λ both. k both.1))) (cases_eq b t)) (λ (h : a ≢ s). inr (old (λ both. h both.0))) (cases_eq a s)
  where
    same : a ≡ s → b ≡ t → x ≡ w
    same h k = let both : Some x ≡ Some w = sym e ∙ ap (λ (z : ℕ). g z b) h ∙ ap (λ (z : ℕ). g s z) k ∙ is.here in cc

    old : ((a ≡ s) × (b ≡ t) → ⊥) → f a b ≡ Some x
    old not = ⊎_elim (λ (h : a ≡ is.lost_class). ⊎_elim (λ (k : b ≡ is.lost_selector). absurd (gone h k)) (λ (k : b ≢ is.lost_selector). sym (is.others a b not (λ both. k both.1)) ∙ e) (cases_eq b is.lost_selector))
        (λ (h : a ≢ is.lost_class). sym (is.others a b not (λ both. h both.0)) ∙ e) (cases_eq a is.lost_class)
      where
        gone : a ≡ is.lost_class → b ≡ is.lost_selector → ⊥
        gone h k = ⊎_elim
            (λ none. let both : Some x ≡ None = sym e ∙ ap (λ (z : ℕ). g z b) h ∙ ap (λ (z : ℕ). g is.lost_class z) k ∙ none in cc)
            (λ pair. not (h ∙ pair.0, k ∙ pair.1)) is.lost

-- a row of marked entries is put
pub put-cached : (c : Core) (f g : ℕ → ℕ → Option ℕ) (mark s t w : ℕ) → IsCached c f mark → IsPutRow f g s t w → has_mark c s ≡ true → has_mark c t ≡ true → has_mark c w ≡ true → IsCached c g mark
put-cached c f g mark s t w cached is one_ two three = record {
  none = cached.none;
  rows = λ on a b x e. ⊎_elim
      (λ here. (ap (has_mark c) here.0 ∙ one_, ap (has_mark c) here.1 ∙ two, ap (has_mark c) here.2 ∙ three))
      (λ old. cached.rows on a b x old) (put-back f g s t w is a b x e);
}

-- each row that is there then was there, or is the one that was put
pub put-rows : (c : Core) (f g : ℕ → ℕ → Option ℕ) (mark s t w : ℕ) (begun : Bool) → IsCore c → IsPutRow f g s t w → (k n m : ℕ) → (cache_of c g mark begun).rows k n m ≡ true
    → ((cache_of c f mark begun).rows k n m ≡ true) ⊎ (((c.entries s).name ≡ k) × ((c.entries t).name ≡ n) × ((c.entries w).name ≡ m))
put-rows c f g mark s t w begun core is k n m h =
    let both = and-both (has_mark c mark) (row_by c.entries g (c.find k) (c.find n) m) h in
    first both.0 (c.find k) refl both.1
  where
    at : (a b x : ℕ) → has_mark c mark ≡ true → c.find k ≡ Some a → c.find n ≡ Some b → g a b ≡ Some x → eqb (c.entries x).name m ≡ true
        → ((cache_of c f mark begun).rows k n m ≡ true) ⊎ (((c.entries s).name ≡ k) × ((c.entries t).name ≡ n) × ((c.entries w).name ≡ m))
    at a b x on e d i row = ⊎_elim
        (λ here. inr (ap (λ (z : ℕ). (c.entries z).name) (sym here.0) ∙ core.named k a e, ap (λ (z : ℕ). (c.entries z).name) (sym here.1) ∙ core.named n b d, ap (λ (z : ℕ). (c.entries z).name) (sym here.2) ∙ same (c.entries x).name m row))
        (λ old. inl (both-and (has_mark c mark) (row_by c.entries f (c.find k) (c.find n) m) on
        (ap (λ o. row_by c.entries f o (c.find n) m) e ∙ ap (λ o. row_by c.entries f (Some a) o m) d ∙ ap (λ o. is_word_of c.entries o m) old ∙ row))) (put-back f g s t w is a b x i)
      where
        same : (x y : ℕ) → eqb x y ≡ true → x ≡ y
        same x y e = grind (arith, common_steps)

    third : (a b : ℕ) → has_mark c mark ≡ true → c.find k ≡ Some a → c.find n ≡ Some b → (o : Option ℕ) → g a b ≡ o → is_word_of c.entries o m ≡ true → ((cache_of c f mark begun).rows k n m ≡ true) ⊎ (((c.entries s).name ≡ k) × ((c.entries t).name ≡ n) × ((c.entries w).name ≡ m))
    third a b on e d None i row = absurd (cc)
    third a b on e d (Some x) i row = at a b x on e d i row

    second : (a : ℕ) → has_mark c mark ≡ true → c.find k ≡ Some a → (o : Option ℕ) → c.find n ≡ o → row_by c.entries g (Some a) o m ≡ true → ((cache_of c f mark begun).rows k n m ≡ true) ⊎ (((c.entries s).name ≡ k) × ((c.entries t).name ≡ n) × ((c.entries w).name ≡ m))
    second a on e None d row = absurd (cc)
    second a on e (Some b) d row = third a b on e d (g a b) refl row

    first : has_mark c mark ≡ true → (o : Option ℕ) → c.find k ≡ o → row_by c.entries g o (c.find n) m ≡ true → ((cache_of c f mark begun).rows k n m ≡ true) ⊎ (((c.entries s).name ≡ k) × ((c.entries t).name ≡ n) × ((c.entries w).name ≡ m))
    first on None e row = absurd (cc)
    first on (Some a) e row = second a on e (c.find n) refl row

-- each other pair is answered as before, but the one whose row was taken
pub put-others : (c : Core) (f g : ℕ → ℕ → Option ℕ) (mark s t w : ℕ) (begun : Bool) → IsCore c → (is : IsPutRow f g s t w) → (k n m : ℕ) → (((c.entries s).name ≡ k) × ((c.entries t).name ≡ n) → ⊥) → ((k ≡ (c.entries is.lost_class).name) × (n ≡ (c.entries is.lost_selector).name) → ⊥)
    → (cache_of c g mark begun).rows k n m ≡ (cache_of c f mark begun).rows k n m
put-others c f g mark s t w begun core is k n m other kept = ap (λ (b : Bool). has_mark c mark && b) (first (c.find k) refl)
  where
    named : (a q : ℕ) (j : ℕ) → c.find j ≡ Some a → a ≡ q → (c.entries q).name ≡ j
    named a q j e same = ap (λ (z : ℕ). (c.entries z).name) (sym same) ∙ core.named j a e

    second : (a : ℕ) → c.find k ≡ Some a → (o : Option ℕ) → c.find n ≡ o → row_by c.entries g (Some a) o m ≡ row_by c.entries f (Some a) o m
    second a e None d = refl
    second a e (Some b) d = ap (λ (o : Option ℕ). is_word_of c.entries o m)
        (is.others a b (λ both. other (named a s k e both.0, named b t n d both.1)) (λ both. kept (sym (named a is.lost_class k e both.0), sym (named b is.lost_selector n d both.1))))

    first : (o : Option ℕ) → c.find k ≡ o → row_by c.entries g o (c.find n) m ≡ row_by c.entries f o (c.find n) m
    first None e = refl
    first (Some a) e = second a e (c.find n) refl

-- a marked value is the name of an entry that is marked
pub marked-word : (c : Core) (f : ℕ → ℕ → Option ℕ) (mark : ℕ) (begun : Bool) (w : ℕ) → IsCore c → w ≢ 0 → (is_short w ≡ true → is_used (c.entries w).state ≡ true) → is_marked (cache_of c f mark begun) (meant c.entries [] 0 w) ≡ true → (has_mark c w ≡ true) × (is_short w ≡ true)
marked-word c f mark begun w core some on is = go (is_short w) refl
  where
    go : (b : Bool) → is_short w ≡ b → (has_mark c w ≡ true) × (is_short w ≡ true)
    go true e =
        let marked : marked_of c (c.entries w).name ≡ true = sym (ap (is_marked (cache_of c f mark begun)) (meant-short c.entries [] 0 w e)) ∙ is in
        (both-and (is_used (c.entries w).state) (c.entries w).flags.marked (on e) (sym (ap (marked_by c.entries) (core.found w (on e))) ∙ marked), e)
    go false e = let none : is_marked (cache_of c f mark begun) (meant c.entries [] 0 w) ≡ false = ap (is_marked (cache_of c f mark begun)) (meant-odd c.entries [] 0 w (odd-else w some e)) in no-both (is_marked (cache_of c f mark begun) (meant c.entries [] 0 w)) is none

-- where something is marked, what was marked last is
pub last-lives : (c : Core) (f : ℕ → ℕ → Option ℕ) (mark w : ℕ) → IsCore c → IsCached c f mark → has_mark c w ≡ true → has_mark c mark ≡ true
last-lives c f mark w core cached on = go (has_mark c mark) refl
  where
    go : (b : Bool) → has_mark c mark ≡ b → has_mark c mark ≡ true
    go true e = e
    go false e = no-both (marked_of c (c.entries w).name) (mark-name c w core on) (cached.none e (c.entries w).name)

-- The cache of a core while marks stay, or all go.
use Rattle.std.proofs.Common.{◌≡◌, inl, inr, ℕ, ◌<◌, ◌&&◌, ◌||◌, Bool, true, false, eqb, refl, sym, ◌∙◌, ap, subst, arith, Option, Some, None, ⊎_elim}
use Rattle.std.proofs.lemmas.Grind.{common_steps}
use Rattle.std.proofs.Math.Path.{fun_ext}
use Rattle.object_table.specs.Entries.{is_short, is_used}
use Rattle.core_view.specs.Core.{Core}
use Rattle.core_view.specs.Counts.{marked_by, marked_of}
use Rattle.core_view.specs.Kept.{IsCore}
use Rattle.object_memory.specs.Told.{Cache}
use Rattle.object_memory.specs.Contract.{LeavesCache, IsKeptCache, IsEmptied, no_names}
use Rattle.purger.specs.Marks.{KeepsMarks, LeavesMarks}
use Rattle.purger.proofs.MarkLaws.{marked-at}
use Rattle.loom_memory.specs.Cache.{has_mark, is_word_of, row_by, cache_of, IsCached}

pub and-both : (a b : Bool) → a && b ≡ true → (a ≡ true) × (b ≡ true)
and-both true true e = (refl, refl)
and-both true false e = absurd (cc)
and-both false b e = absurd (cc)

pub both-and : (a b : Bool) → a ≡ true → b ≡ true → a && b ≡ true
both-and a b e f = ap (λ (x : Bool). x && b) e ∙ f

pub same-by : (a b : Bool) → (a ≡ true → b ≡ true) → (b ≡ true → a ≡ true) → a ≡ b
same-by true b f g = sym (f refl)
same-by false true f g = g refl
same-by false false f g = refl

pub off-by : (a : Bool) → (a ≡ true → ⊥) → a ≡ false
off-by false f = refl
off-by true f = absurd (f refl)

pub mark-name : (c : Core) (s : ℕ) → IsCore c → has_mark c s ≡ true → marked_of c (c.entries s).name ≡ true
mark-name c s core has = let both = and-both (is_used (c.entries s).state) (c.entries s).flags.marked has in marked-at c s core both.0 ∙ both.1

-- a marked entry keeps its mark and its name
pub mark-there : (x y : Core) (s : ℕ) → IsCore x → IsCore y → KeepsMarks x y → has_mark x s ≡ true → (has_mark y s ≡ true) × ((y.entries s).name ≡ (x.entries s).name)
mark-there x y s core now keeps has =
    let both = and-both (is_used (x.entries s).state) (x.entries s).flags.marked has in
    let on = mark-name x s core has in
    let at : y.find (x.entries s).name ≡ Some s = keeps.found (x.entries s).name on ∙ core.found s both.0 in
    (both-and (is_used (y.entries s).state) (y.entries s).flags.marked (now.used (x.entries s).name s at) (sym (ap (marked_by y.entries) at) ∙ keeps.marks (x.entries s).name ∙ on), now.named (x.entries s).name s at)

-- and no other gets one
pub mark-back : (x y : Core) (s : ℕ) → IsCore x → IsCore y → KeepsMarks x y → has_mark y s ≡ true → (has_mark x s ≡ true) × ((x.entries s).name ≡ (y.entries s).name)
mark-back x y s core now keeps has =
    let both = and-both (is_used (y.entries s).state) (y.entries s).flags.marked has in
    let on : marked_of x (y.entries s).name ≡ true = sym (keeps.marks (y.entries s).name) ∙ mark-name y s now has in
    let at : x.find (y.entries s).name ≡ Some s = sym (keeps.found (y.entries s).name on) ∙ now.found s both.0 in
    (both-and (is_used (x.entries s).state) (x.entries s).flags.marked (core.used (y.entries s).name s at) (sym (ap (marked_by x.entries) at) ∙ on), core.named (y.entries s).name s at)

-- a row of marked entries is one of another core that has their marks
rows-go : (x y : Core) (f : ℕ → ℕ → Option ℕ) → IsCore x → IsCore y → ((s : ℕ) → has_mark x s ≡ true → (has_mark y s ≡ true) × ((y.entries s).name ≡ (x.entries s).name))
    → ((s t w : ℕ) → f s t ≡ Some w → (has_mark x s ≡ true) × (has_mark x t ≡ true) × (has_mark x w ≡ true)) → (k n m : ℕ) → row_by x.entries f (x.find k) (x.find n) m ≡ true → row_by y.entries f (y.find k) (y.find n) m ≡ true
rows-go x y f core now there marked k n m = first (x.find k) refl
  where
    at : (a s : ℕ) → x.find a ≡ Some s → has_mark x s ≡ true → y.find a ≡ Some s
    at a s e has = let b = there s has in ap y.find (sym (core.named a s e) ∙ sym b.1) ∙ now.found s (and-both (is_used (y.entries s).state) (y.entries s).flags.marked b.0).0

    third : (s t : ℕ) → x.find k ≡ Some s → x.find n ≡ Some t → (o : Option ℕ) → f s t ≡ o → is_word_of x.entries o m ≡ true → row_by y.entries f (y.find k) (y.find n) m ≡ true
    third s t e g None h row = absurd (cc)
    third s t e g (Some w) h row =
        let all = marked s t w h in
        ap (λ o. row_by y.entries f o (y.find n) m) (at k s e all.0) ∙ ap (λ o. row_by y.entries f (Some s) o m) (at n t g all.1) ∙ ap (λ o. is_word_of y.entries o m) h ∙ ap (λ (a : ℕ). eqb a m) (there w all.2).1 ∙ row

    second : (s : ℕ) → x.find k ≡ Some s → (o : Option ℕ) → x.find n ≡ o → row_by x.entries f (Some s) o m ≡ true → row_by y.entries f (y.find k) (y.find n) m ≡ true
    second s e None g row = absurd (cc)
    second s e (Some t) g row = third s t e g (f s t) refl row

    first : (o : Option ℕ) → x.find k ≡ o → row_by x.entries f o (x.find n) m ≡ true → row_by y.entries f (y.find k) (y.find n) m ≡ true
    first None e row = absurd (cc)
    first (Some s) e row = second s e (x.find n) refl row

has-same : (x y : Core) (s : ℕ) → IsCore x → IsCore y → KeepsMarks x y → has_mark y s ≡ has_mark x s
has-same x y s core now keeps = same-by (has_mark y s) (has_mark x s) (λ h. (mark-back x y s core now keeps h).0) (λ h. (mark-there x y s core now keeps h).0)

pub cache-same : (x y : Core) (f : ℕ → ℕ → Option ℕ) (mark : ℕ) (begun : Bool) → IsCore x → IsCore y → KeepsMarks x y → IsCached x f mark → cache_of y f mark begun ≡ cache_of x f mark begun
cache-same x y f mark begun core now keeps cached =
    let has = has-same x y mark core now keeps in
    let rows' = fun_ext (λ k. fun_ext (λ n. fun_ext (λ m. row k n m))) in
    let marks' = fun_ext keeps.marks in
    λ i. record { rows = rows' i; marks = marks' i; path = begun && (eqb mark 0 || has i) }
  where
    row : (k n m : ℕ) → has_mark y mark && row_by y.entries f (y.find k) (y.find n) m ≡ has_mark x mark && row_by x.entries f (x.find k) (x.find n) m
    row k n m = same-by (has_mark y mark && row_by y.entries f (y.find k) (y.find n) m) (has_mark x mark && row_by x.entries f (x.find k) (x.find n) m)
        (λ h.
        let both = and-both (has_mark y mark) (row_by y.entries f (y.find k) (y.find n) m) h in
        let on = (mark-back x y mark core now keeps both.0).0 in
        both-and (has_mark x mark) (row_by x.entries f (x.find k) (x.find n) m) on
        (rows-go y x f now core (λ s. mark-back x y s core now keeps) (λ s t w e. let all = cached.rows on s t w e in ((mark-there x y s core now keeps all.0).0, (mark-there x y t core now keeps all.1).0, (mark-there x y w core now keeps all.2).0)) k n m both.1))
        (λ h.
        let both = and-both (has_mark x mark) (row_by x.entries f (x.find k) (x.find n) m) h in
        both-and (has_mark y mark) (row_by y.entries f (y.find k) (y.find n) m) (mark-there x y mark core now keeps both.0).0
        (rows-go x y f core now (λ s. mark-there x y s core now keeps) (cached.rows both.0) k n m both.1))

pub cached-same : (x y : Core) (f : ℕ → ℕ → Option ℕ) (mark : ℕ) → IsCore x → IsCore y → KeepsMarks x y → IsCached x f mark → IsCached y f mark
cached-same x y f mark core now keeps cached = record {
  none = λ off n. keeps.marks n ∙ cached.none (sym (has-same x y mark core now keeps) ∙ off) n;
  rows = λ on s t w e. let all = cached.rows (mark-back x y mark core now keeps on).0 s t w e in ((mark-there x y s core now keeps all.0).0, (mark-there x y t core now keeps all.1).0, (mark-there x y w core now keeps all.2).0);
}

-- ---- all marks go

none-has : (y : Core) (s : ℕ) → IsCore y → ((n : ℕ) → marked_of y n ≡ false) → has_mark y s ≡ false
none-has y s now gone = off-by (has_mark y s) (λ h. let on = mark-name y s now h in let off = gone (y.entries s).name in let both : true ≡ false = sym on ∙ off in cc)

pub cached-gone : (y : Core) (f : ℕ → ℕ → Option ℕ) (mark : ℕ) → IsCore y → ((n : ℕ) → marked_of y n ≡ false) → IsCached y f mark
cached-gone y f mark now gone = record {
  none = λ off. gone;
  rows = λ on s t w e. absurd (let off = none-has y mark now gone in let both : true ≡ false = sym on ∙ off in cc);
}

pub emptied-is : (x y : Core) (f : ℕ → ℕ → Option ℕ) (mark : ℕ) (begun : Bool) (n : ℕ) → IsCore x → IsCore y → IsCached x f mark → marked_of x n ≡ true → ((n : ℕ) → marked_of y n ≡ false) → IsEmptied None (cache_of x f mark begun) (cache_of y f mark begun)
emptied-is x y f mark begun n core now cached was gone = record {
  rows = λ k l m. ap (λ (b : Bool). b && row_by y.entries f (y.find k) (y.find l) m) off;
  marks = λ k e. absurd (let no = gone k in let both : true ≡ false = sym e ∙ no in cc);
  path = ap (λ (b : Bool). begun && (b || has_mark y mark)) some ∙ ap (λ (b : Bool). begun && b) off ∙ last begun;
  taken = n;
  was = was;
}
  where
    off : has_mark y mark ≡ false
    off = none-has y mark now gone

    on : (b : Bool) → has_mark x mark ≡ b → has_mark x mark ≡ true
    on true e = e
    on false e = absurd (let no = cached.none e n in let both : true ≡ false = sym was ∙ no in cc)

    last : (b : Bool) → b && false ≡ false
    last true = refl
    last false = refl

    some : eqb mark 0 ≡ false
    some =
        let has = and-both (is_used (x.entries mark).state) (x.entries mark).flags.marked (on (has_mark x mark) refl) in
        let short : is_short mark ≡ true = core.short mark has.0 in
        let above : 0 < mark = grind (arith, common_steps) in
        grind (arith, common_steps)

-- ---- marks stay or go

pub cached-left : (x y : Core) (f : ℕ → ℕ → Option ℕ) (mark : ℕ) → IsCore x → IsCore y → LeavesMarks x y → IsCached x f mark → IsCached y f mark
cached-left x y f mark core now left cached = ⊎_elim (λ keeps. cached-same x y f mark core now keeps cached) (λ gone. cached-gone y f mark now gone.1) left

kept-by : (a b : Cache) → b ≡ a → LeavesCache no_names None a a b
kept-by a b e = subst (λ (c : Cache). LeavesCache no_names None a a c) (sym e) (inl (record { marks = refl; path = refl; rows = λ c s m h. h; untouched = λ n h. absurd (cc) }))

pub cache-left : (x y : Core) (f : ℕ → ℕ → Option ℕ) (mark : ℕ) (begun : Bool) → IsCore x → IsCore y → LeavesMarks x y → IsCached x f mark → LeavesCache no_names None (cache_of x f mark begun) (cache_of x f mark begun) (cache_of y f mark begun)
cache-left x y f mark begun core now left cached = ⊎_elim (λ keeps. kept-by (cache_of x f mark begun) (cache_of y f mark begun) (cache-same x y f mark begun core now keeps cached)) (λ gone. inr (emptied-is x y f mark begun gone.0.0 core now cached gone.0.1 gone.1)) left

-- ---- over what is told

-- steps after each other
pub left-then : (touched : ℕ → Bool) (a b c : Cache) → LeavesCache no_names None a a b → LeavesCache touched None b b c → LeavesCache touched None a a c
left-then touched a b c x y = ⊎_elim (λ k. ⊎_elim (λ l. inl (both-kept k l)) (λ e. inr (then-emptied k e)) y) (λ e. ⊎_elim (λ l. inr (emptied-kept e l)) (λ d. absurd (let none = e.marks d.taken d.was in cc)) y) x
  where
    both-kept : IsKeptCache no_names a a b → IsKeptCache touched b b c → IsKeptCache touched a a c
    both-kept k l = record { marks = l.marks ∙ k.marks; path = l.path ∙ k.path; rows = λ u v w h. k.rows u v w (l.rows u v w h); untouched = λ n h. ap (λ (f : ℕ → Bool). f n) (sym k.marks) ∙ l.untouched n h }

    then-emptied : IsKeptCache no_names a a b → IsEmptied None b c → IsEmptied None a c
    then-emptied k e = record { rows = e.rows; marks = e.marks; path = e.path; taken = e.taken; was = ap (λ (f : ℕ → Bool). f e.taken) (sym k.marks) ∙ e.was }

    emptied-kept : IsEmptied None a b → IsKeptCache touched b b c → IsEmptied None a c
    emptied-kept e l = record {
      rows = λ u v w. off-by (c.rows u v w) (λ h. let no = e.rows u v w in let on = l.rows u v w h in let both : true ≡ false = sym on ∙ no in cc);
      marks = λ n h. e.marks n (ap (λ (f : ℕ → Bool). f n) (sym l.marks) ∙ h);
      path = l.path ∙ e.path;
      taken = e.taken;
      was = e.was;
    }

pub left-trans : (a b c : Cache) → LeavesCache no_names None a a b → LeavesCache no_names None b b c → LeavesCache no_names None a a c
left-trans a b c = left-then no_names a b c

pub left-refl : (a : Cache) → LeavesCache no_names None a a a
left-refl a = kept-by a a refl

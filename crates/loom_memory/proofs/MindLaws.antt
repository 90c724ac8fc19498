-- Marks and rows go only where an object that was marked left the core, or is one that a call is about.
use Rattle.std.proofs.Common.{◌≡◌, ◌≢◌, ◌⊎◌, inl, inr, ℕ, Bool, true, false, eqb, ◌||◌, refl, sym, ◌∙◌, ap, Option, Some, None, IsTrue, is_some, ⊎_elim, Result, Ok, Err, arith}
use Rattle.std.proofs.lemmas.Bool.{cases_eq}
use Rattle.std.proofs.lemmas.Grind.{common_steps}
use Rattle.std.specs.Result.{OnOk}
use Rattle.long_names.specs.Counting.{counted}
use Rattle.long_names.specs.State.{set_register}
use Rattle.long_names.specs.declared.value.Value.TheVariants.{Ref}
use Rattle.purger.proofs.PagerLaws.{are-here}
use Rattle.loom_memory.proofs.MakingLaws.{set_here}
use Rattle.loom_host.specs.declared.outside.Host.{Ghosts}
use Rattle.object_table.specs.Entries.{is_used, place_of}
use Rattle.core_view.specs.Core.{Core}
use Rattle.core_view.specs.Counts.{marked_by}
use Rattle.core_view.specs.Kept.{IsCore}
use Rattle.core_view.proofs.Core.{placed-used}
use Rattle.leaf_lambda.specs.declared.parts.Parts.{Parts}
use Rattle.leaf_lambda.specs.Parts.{core_of, IsWithin}
use Rattle.object_memory.specs.Told.{Cache, Told}
use Rattle.object_memory.specs.declared.fault.MemFault.{MemFault}
use Rattle.object_memory.specs.Contract.{IsEmptied, KeepsSound, with_mark}
use Rattle.method_cache.specs.Found.{found}
use Rattle.purger.specs.Marks.{IsOut, IsUnmarking, KeepsMarks, LeavesMarks, HasLostMarked, MindsMarks}
use Rattle.purger.proofs.MindLaws.{NoneCame, others-came, unmarked-came}
use Rattle.purger.proofs.MarkLaws.{marked-at}
use Rattle.loom_memory.specs.declared.ledger.Ledger.{Ledger}
use Rattle.loom_memory.specs.declared.memory.LoomMemory.{LoomMemory}
use Rattle.loom_memory.specs.Cache.{cache_of}
use Rattle.loom_memory.specs.Gentle.{Remains, IsGlance, IsResting, IsSteady}
use Rattle.loom_memory.specs.Memory.{loom_told, IsSound}
use Rattle.loom_memory.specs.Gentle.{IsStill}
use Rattle.loom_memory.specs.Own.{IsBrought, IsSwept, MindsCache}
use Rattle.loom_memory.specs.Gentle.{KeepsCache}
use Rattle.loom_memory.specs.Residents.{has_body, is_resident, fetched}
use Rattle.loom_memory.proofs.CacheLaws.{cache-same, emptied-is}

-- ---- objects in the core

pub remains-residents : {H : Type 0} {host : Ghosts H} (m n : LoomMemory H host) → IsCore (core_of m.pager.levels.parts) → IsCore (core_of n.pager.levels.parts) → Remains (core_of m.pager.levels.parts) (core_of n.pager.levels.parts) → (k : ℕ) → IsTrue (is_resident m k) → IsTrue (is_resident n k)
unfolding is_resident
remains-residents {H} {host} m n core now remains k here = go ((core_of m.pager.levels.parts).find k) refl here
  where
    go : (x : Option ℕ) → (core_of m.pager.levels.parts).find k ≡ x → has_body (core_of m.pager.levels.parts) x ≡ true → has_body (core_of n.pager.levels.parts) ((core_of n.pager.levels.parts).find k) ≡ true
    go None e here = absurd (cc)
    go (Some s) e here = at (place_of ((core_of m.pager.levels.parts).entries s).state) refl here
      where
        at : (x : Option ℕ) → place_of ((core_of m.pager.levels.parts).entries s).state ≡ x → is_some x ≡ true → has_body (core_of n.pager.levels.parts) ((core_of n.pager.levels.parts).find k) ≡ true
        at None f here = absurd (cc)
        at (Some p) f here =
            let still = remains s p f in
            let found : (core_of n.pager.levels.parts).find k ≡ Some s = ap (core_of n.pager.levels.parts).find (sym (still.name ∙ core.named k s e)) ∙ now.found s (placed-used ((core_of n.pager.levels.parts).entries s).state still.at still.place) in
            ap (λ (x : Option ℕ). has_body (core_of n.pager.levels.parts) x) found ∙ ap (λ (x : Option ℕ). is_some x) still.place

-- each marked object is there
pub marks-here : {H : Type 0} (host : Ghosts H) (m : LoomMemory H host) → IsSound host m → (k : ℕ) → (loom_told host m).cache.marks k ≡ true → IsTrue (is_resident m k)
unfolding loom_told is_resident
marks-here {H} host m sound k on = go ((core_of m.pager.levels.parts).find k) refl on
  where
    go : (o : Option ℕ) → (core_of m.pager.levels.parts).find k ≡ o → marked_by (core_of m.pager.levels.parts).entries o ≡ true → has_body (core_of m.pager.levels.parts) ((core_of m.pager.levels.parts).find k) ≡ true
    go None e marked = absurd (cc)
    go (Some s) e marked =
        let body = (are-here (core_of m.pager.levels.parts) m.pager.levels.whole.marks) s (m.pager.levels.whole.parts.core.used k s e) marked in
        ap (λ (o : Option ℕ). has_body (core_of m.pager.levels.parts) o) e ∙ ap (λ (o : Option ℕ). is_some o) body.1

pub away-out : {H : Type 0} {host : Ghosts H} (m : LoomMemory H host) (k : ℕ) → IsCore (core_of m.pager.levels.parts) → is_resident m k ≡ false → IsOut (core_of m.pager.levels.parts) k
unfolding is_resident
away-out {H} {host} m k core away s p at e =
    let there : (core_of m.pager.levels.parts).find k ≡ Some s = ap (core_of m.pager.levels.parts).find (sym e) ∙ core.found s (placed-used ((core_of m.pager.levels.parts).entries s).state p at) in
    let both : false ≡ true = sym away ∙ ap (λ (o : Option ℕ). has_body (core_of m.pager.levels.parts) o) there ∙ ap (λ (o : Option ℕ). is_some o) at in
    cc

pub out-away : {H : Type 0} {host : Ghosts H} (m : LoomMemory H host) (k : ℕ) → IsCore (core_of m.pager.levels.parts) → IsOut (core_of m.pager.levels.parts) k → is_resident m k ≡ false
unfolding is_resident
out-away {H} {host} m k core out = go ((core_of m.pager.levels.parts).find k) refl
  where
    go : (o : Option ℕ) → (core_of m.pager.levels.parts).find k ≡ o → has_body (core_of m.pager.levels.parts) o ≡ false
    go None e = refl
    go (Some s) e = at (place_of ((core_of m.pager.levels.parts).entries s).state) refl
      where
        at : (o : Option ℕ) → place_of ((core_of m.pager.levels.parts).entries s).state ≡ o → is_some o ≡ false
        at None f = refl
        at (Some p) f = absurd (out s p f (core.named k s e))

-- a body of its name
pub body-of : {H A : Type 0} {host : Ghosts H} (m : LoomMemory H host) (k : ℕ) → IsCore (core_of m.pager.levels.parts) → IsTrue (is_resident m k) → ((s p : ℕ) → place_of ((core_of m.pager.levels.parts).entries s).state ≡ Some p → ((core_of m.pager.levels.parts).entries s).name ≡ k → A) → A
unfolding is_resident
body-of {H} {A} {host} m k core here f = go ((core_of m.pager.levels.parts).find k) refl here
  where
    go : (o : Option ℕ) → (core_of m.pager.levels.parts).find k ≡ o → has_body (core_of m.pager.levels.parts) o ≡ true → A
    go None e on = absurd (cc)
    go (Some s) e on = at (place_of ((core_of m.pager.levels.parts).entries s).state) refl on
      where
        at : (o : Option ℕ) → place_of ((core_of m.pager.levels.parts).entries s).state ≡ o → is_some o ≡ true → A
        at None f0 on = absurd (cc)
        at (Some p) f0 on = f s p f0 (core.named k s e)

pub came-remains : (x y : Core) → NoneCame x y → Remains y x
came-remains x y came = λ s p at. let b = came s p at in record { at = b.at; place = b.place; name = sym b.name }

-- ---- one step

-- marks stay, and nothing was put
pub marks-keep : {H : Type 0} (host : Ghosts H) (m n : LoomMemory H host) → IsSound host m → IsCore (core_of n.pager.levels.parts) → KeepsMarks (core_of m.pager.levels.parts) (core_of n.pager.levels.parts) → n.ledger ≡ m.ledger → KeepsCache host m n
unfolding loom_told
marks-keep {H} host m n sound core keeps ledger =
    ap (λ (k : Ledger). cache_of (core_of n.pager.levels.parts) (found k.rows) k.mark k.begun) ledger
    ∙ cache-same (core_of m.pager.levels.parts) (core_of n.pager.levels.parts) (found m.ledger.rows) m.ledger.mark m.ledger.begun m.pager.levels.whole.parts.core core keeps sound.kept.cached

-- a cache that is as an emptied one
pub emptied-same : (marked : Option ℕ) (a b c : Cache) → c ≡ b → (e : IsEmptied marked a b) → IsEmptied marked a c
emptied-same marked a b c same e = record {
  rows = λ k n m. ap (λ (z : Cache). z.rows k n m) same ∙ e.rows k n m;
  marks = λ k on. e.marks k (ap (λ (z : Cache). z.marks k) (sym same) ∙ on);
  path = ap (λ (z : Cache). z.path) same ∙ e.path;
  taken = e.taken;
  was = e.was;
}

-- one that is as a cache which was emptied since this name was marked
pub emptied-for : (marked : Option ℕ) (a b c : Cache) (n : ℕ) → c ≡ b → IsEmptied marked a b → a.marks n ≡ true → IsEmptied marked a c
emptied-for marked a b c n same e was = record {
  rows = λ k l m. ap (λ (z : Cache). z.rows k l m) same ∙ e.rows k l m;
  marks = λ k on. e.marks k (ap (λ (z : Cache). z.marks k) (sym same) ∙ on);
  path = ap (λ (z : Cache). z.path) same ∙ e.path;
  taken = n;
  was = was;
}

pub minds-refl : {H : Type 0} (host : Ghosts H) (m : LoomMemory H host) (about : ℕ → Type 0) → IsSound host m → MindsCache host None m m about
minds-refl {H} host m about sound = record {
  here = marks-here host m sound;
  others = λ k off on. absurd (let both : false ≡ true = sym off ∙ on in cc);
  cache = inl refl;
}

pub minds-wide : {H : Type 0} (host : Ghosts H) (marked : Option ℕ) (m u : LoomMemory H host) (a c : ℕ → Type 0) → ((k : ℕ) → a k → c k) → MindsCache host marked m u a → MindsCache host marked m u c
minds-wide {H} host marked m u a c wide x = record {
  here = x.here;
  others = λ k off on. wide k (x.others k off on);
  cache = ⊎_elim (λ (same : (loom_told host u).cache ≡ with_mark (loom_told host m).cache marked). inl same)
      (λ (swept : IsSwept host marked m u a). inr (record { emptied = swept.emptied; gone = ⊎_elim (λ (off : is_resident u swept.emptied.taken ≡ false). inl off) (λ (is : a swept.emptied.taken). inr (wide swept.emptied.taken is)) swept.gone })) x.cache;
}

-- objects left, and none came; rows are those that were there
pub minds-left : {H : Type 0} (host : Ghosts H) (m n : LoomMemory H host) → IsSound host m → IsSound host n → n.ledger.rows ≡ m.ledger.rows → n.ledger.mark ≡ m.ledger.mark → n.ledger.begun ≡ m.ledger.begun → MindsMarks (core_of m.pager.levels.parts) (core_of n.pager.levels.parts) → MindsCache host None m n (λ k. ⊥)
unfolding loom_told emptied-for
minds-left {H} host m n sound now rows mark begun x = record {
  here = marks-here host n now;
  others = λ k off on. absurd (let none = out-away n k n.pager.levels.whole.parts.core (x.out k (away-out m k m.pager.levels.whole.parts.core off)) in let both : false ≡ true = sym none ∙ on in cc);
  cache = ⊎_elim (λ (keeps : KeepsMarks (core_of m.pager.levels.parts) (core_of n.pager.levels.parts)). inl (same ∙ cache-same (core_of m.pager.levels.parts) (core_of n.pager.levels.parts) (found m.ledger.rows) m.ledger.mark m.ledger.begun m.pager.levels.whole.parts.core n.pager.levels.whole.parts.core keeps sound.kept.cached))
      (λ (lost : HasLostMarked (core_of m.pager.levels.parts) (core_of n.pager.levels.parts)). inr (record {
        emptied = emptied-for None (loom_told host m).cache (cache_of (core_of n.pager.levels.parts) (found m.ledger.rows) m.ledger.mark m.ledger.begun) (loom_told host n).cache lost.name same
            (emptied-is (core_of m.pager.levels.parts) (core_of n.pager.levels.parts) (found m.ledger.rows) m.ledger.mark m.ledger.begun lost.name m.pager.levels.whole.parts.core n.pager.levels.whole.parts.core sound.kept.cached lost.marked lost.none) lost.marked;
        gone = inl (out-away n lost.name n.pager.levels.whole.parts.core lost.out);
      })) x.marks;
}
  where
    same : cache_of (core_of n.pager.levels.parts) (found n.ledger.rows) n.ledger.mark n.ledger.begun ≡ cache_of (core_of n.pager.levels.parts) (found m.ledger.rows) m.ledger.mark m.ledger.begun
    same = ap (λ r. cache_of (core_of n.pager.levels.parts) (found r) n.ledger.mark n.ledger.begun) rows ∙ ap (λ (k : ℕ). cache_of (core_of n.pager.levels.parts) (found m.ledger.rows) k n.ledger.begun) mark ∙ ap (λ (b : Bool). cache_of (core_of n.pager.levels.parts) (found m.ledger.rows) m.ledger.mark b) begun

pub minds-core : {H : Type 0} (host : Ghosts H) (m n : LoomMemory H host) → IsSound host m → IsSound host n → n.ledger ≡ m.ledger → MindsMarks (core_of m.pager.levels.parts) (core_of n.pager.levels.parts) → MindsCache host None m n (λ k. ⊥)
minds-core {H} host m n sound now ledger x = minds-left host m n sound now (ap (λ (k : Ledger). k.rows) ledger) (ap (λ (k : Ledger). k.mark) ledger) (ap (λ (k : Ledger). k.begun) ledger) x

-- marks went for an object that is stored into
pub minds-unmark : {H : Type 0} (host : Ghosts H) (m n : LoomMemory H host) (s : ℕ) → IsSound host m → IsSound host n → n.ledger ≡ m.ledger → is_used ((core_of m.pager.levels.parts).entries s).state ≡ true → IsUnmarking (core_of m.pager.levels.parts) (core_of n.pager.levels.parts) → LeavesMarks (core_of m.pager.levels.parts) (core_of n.pager.levels.parts) → (((core_of m.pager.levels.parts).entries s).flags.marked ≡ false → n ≡ m)
    → MindsCache host None m n (λ k. k ≡ ((core_of m.pager.levels.parts).entries s).name)
unfolding loom_told emptied-for
minds-unmark {H} host m n s sound now ledger used step left idle = record {
  here = marks-here host n now;
  others = λ k off on. absurd (let was = remains-residents n m n.pager.levels.whole.parts.core m.pager.levels.whole.parts.core (came-remains (core_of m.pager.levels.parts) (core_of n.pager.levels.parts) (unmarked-came (core_of m.pager.levels.parts) (core_of n.pager.levels.parts) step)) k on in let both : false ≡ true = sym off ∙ was in cc);
  cache = go ((core_of m.pager.levels.parts).entries s).flags.marked refl;
}
  where
    go : (b : Bool) → ((core_of m.pager.levels.parts).entries s).flags.marked ≡ b → KeepsCache host m n ⊎ IsSwept host None m n (λ k. k ≡ ((core_of m.pager.levels.parts).entries s).name)
    go false e = inl (ap (λ (z : LoomMemory H host). (loom_told host z).cache) (idle e))
    go true e = ⊎_elim (λ (keeps : KeepsMarks (core_of m.pager.levels.parts) (core_of n.pager.levels.parts)). inl (marks-keep host m n sound n.pager.levels.whole.parts.core keeps ledger)) (λ gone. inr (record {
      emptied = emptied-for None (loom_told host m).cache (cache_of (core_of n.pager.levels.parts) (found m.ledger.rows) m.ledger.mark m.ledger.begun) (loom_told host n).cache ((core_of m.pager.levels.parts).entries s).name (ap (λ (k : Ledger). cache_of (core_of n.pager.levels.parts) (found k.rows) k.mark k.begun) ledger)
          (emptied-is (core_of m.pager.levels.parts) (core_of n.pager.levels.parts) (found m.ledger.rows) m.ledger.mark m.ledger.begun ((core_of m.pager.levels.parts).entries s).name m.pager.levels.whole.parts.core n.pager.levels.whole.parts.core sound.kept.cached (marked-at (core_of m.pager.levels.parts) s m.pager.levels.whole.parts.core used ∙ e) gone.1) (marked-at (core_of m.pager.levels.parts) s m.pager.levels.whole.parts.core used ∙ e);
      gone = inr refl;
    })) left

-- none came or left, and marks and rows stay
pub minds-still : {H : Type 0} (host : Ghosts H) (u v : LoomMemory H host) (about : ℕ → Type 0) → ((k : ℕ) → (loom_told host u).cache.marks k ≡ true → IsTrue (is_resident u k)) → IsCore (core_of u.pager.levels.parts) → IsCore (core_of v.pager.levels.parts) → Remains (core_of u.pager.levels.parts) (core_of v.pager.levels.parts) → Remains (core_of v.pager.levels.parts) (core_of u.pager.levels.parts) → KeepsCache host u v
    → MindsCache host None u v about
minds-still {H} host u v about here core now stays none same = record {
  here = λ k on. remains-residents u v core now stays k (here k (ap (λ (z : Cache). z.marks k) (sym same) ∙ on));
  others = λ k off on. absurd (let was = remains-residents v u now core none k on in let both : false ≡ true = sym off ∙ was in cc);
  cache = inl same;
}

-- the object of one entry came
pub minds-come : {H : Type 0} (host : Ghosts H) (u v : LoomMemory H host) (s : ℕ) → IsSound host u → IsSound host v → IsWithin s (core_of u.pager.levels.parts) (core_of v.pager.levels.parts) → ((core_of v.pager.levels.parts).entries s).name ≡ ((core_of u.pager.levels.parts).entries s).name → KeepsCache host u v
    → MindsCache host None u v (λ k. k ≡ ((core_of u.pager.levels.parts).entries s).name)
minds-come {H} host u v s sound now within name same = record {
  here = marks-here host v now;
  others = λ k off on. came k (away-out u k u.pager.levels.whole.parts.core off) on;
  cache = inl same;
}
  where
    came : (k : ℕ) → IsOut (core_of u.pager.levels.parts) k → IsTrue (is_resident v k) → k ≡ ((core_of u.pager.levels.parts).entries s).name
    came k out on = body-of v k v.pager.levels.whole.parts.core on (λ t p at is. ⊎_elim (λ (h : t ≡ s). sym is ∙ ap (λ (q : ℕ). ((core_of v.pager.levels.parts).entries q).name) h ∙ name)
        (λ (h : t ≢ s). absurd (let b = others-came (core_of u.pager.levels.parts) (core_of v.pager.levels.parts) s t p within h at in out t b.at b.place (sym b.name ∙ is))) (cases_eq t s))

-- ---- steps after each other

pub minds-then : {H : Type 0} (host : Ghosts H) (m u v : LoomMemory H host) (a b c : ℕ → Type 0) → ((k : ℕ) → a k → c k) → ((k : ℕ) → b k → c k) → MindsCache host None m u a → MindsCache host None u v b → MindsCache host None m v c
unfolding emptied-same
minds-then {H} host m u v a b c first last x y = record {
  here = y.here;
  others = λ k off on. between k off on (is_resident u k) refl;
  cache = ⊎_elim (λ (same : KeepsCache host m u). kept same) (λ (swept : IsSwept host None m u a). inr (gone swept)) x.cache;
}
  where
    between : (k : ℕ) → is_resident m k ≡ false → IsTrue (is_resident v k) → (o : Bool) → is_resident u k ≡ o → c k
    between k off on true e = first k (x.others k off e)
    between k off on false e = last k (y.others k e on)

    after : (k : ℕ) → (is_resident u k ≡ false) ⊎ a k → (is_resident v k ≡ false) ⊎ c k
    after k (inr is) = inr (first k is)
    after k (inl off) = at (is_resident v k) refl
      where
        at : (o : Bool) → is_resident v k ≡ o → (is_resident v k ≡ false) ⊎ c k
        at false e = inl e
        at true e = inr (last k (y.others k off e))

    none : (swept : IsSwept host None m u a) (k : ℕ) → (loom_told host u).cache.marks k ≡ true → ⊥
    none swept k on = let both : None ≡ Some k = swept.emptied.marks k on in cc

    gone : IsSwept host None m u a → IsSwept host None m v c
    gone swept = record {
      emptied = emptied-same None (loom_told host m).cache (loom_told host u).cache (loom_told host v).cache
          (⊎_elim (λ (same : KeepsCache host u v). same) (λ (later : IsSwept host None u v b). absurd (none swept later.emptied.taken later.emptied.was)) y.cache) swept.emptied;
      gone = after swept.emptied.taken swept.gone;
    }

    kept : KeepsCache host m u → KeepsCache host m v ⊎ IsSwept host None m v c
    kept same = ⊎_elim (λ (later : KeepsCache host u v). inl (later ∙ same))
        (λ (later : IsSwept host None u v b). inr (record {
          emptied = record { rows = later.emptied.rows; marks = later.emptied.marks; path = later.emptied.path; taken = later.emptied.taken; was = ap (λ (z : Cache). z.marks later.emptied.taken) (sym same) ∙ later.emptied.was };
          gone = ⊎_elim (λ (off : is_resident v later.emptied.taken ≡ false). inl off) (λ (is : b later.emptied.taken). inr (last later.emptied.taken is)) later.gone;
        })) y.cache

pub minds-step : {H : Type 0} (host : Ghosts H) (m u v : LoomMemory H host) (about : ℕ → Type 0) → MindsCache host None m u about → IsCore (core_of u.pager.levels.parts) → IsCore (core_of v.pager.levels.parts) → Remains (core_of u.pager.levels.parts) (core_of v.pager.levels.parts) → Remains (core_of v.pager.levels.parts) (core_of u.pager.levels.parts) → KeepsCache host u v → MindsCache host None m v about
minds-step {H} host m u v about x core now stays none same = minds-then host m u v about about about (λ k is. is) (λ k is. is) x (minds-still host u v about x.here core now stays none same)

-- the same parts
pub resident-same : {H : Type 0} {host : Ghosts H} (u v : LoomMemory H host) (k : ℕ) → v.pager.levels.parts ≡ u.pager.levels.parts → is_resident v k ≡ is_resident u k
unfolding is_resident
resident-same {H} {host} u v k same = ap (λ (p : Parts). has_body (core_of p) ((core_of p).find k)) same

pub minds-parts : {H : Type 0} (host : Ghosts H) (m u v : LoomMemory H host) (about : ℕ → Type 0) → MindsCache host None m u about → v.pager.levels.parts ≡ u.pager.levels.parts → KeepsCache host u v → MindsCache host None m v about
unfolding emptied-same
minds-parts {H} host m u v about x parts same = record {
  here = λ k on. resident-same u v k parts ∙ x.here k (ap (λ (z : Cache). z.marks k) (sym same) ∙ on);
  others = λ k off on. x.others k off (sym (resident-same u v k parts) ∙ on);
  cache = ⊎_elim (λ (kept : KeepsCache host m u). inl (same ∙ kept)) (λ (swept : IsSwept host None m u about). inr (record {
    emptied = emptied-same None (loom_told host m).cache (loom_told host u).cache (loom_told host v).cache same swept.emptied;
    gone = ⊎_elim (λ (off : is_resident u swept.emptied.taken ≡ false). inl (resident-same u v swept.emptied.taken parts ∙ off)) (λ (is : about swept.emptied.taken). inr is) swept.gone;
  })) x.cache;
}

-- ---- by the answer of a call that makes room

-- ---- an object that is brought in

-- a body that stays where it lies
pub stored-came : (x y : Core) (s : ℕ) → IsWithin s x y → place_of (y.entries s).state ≡ place_of (x.entries s).state → (y.entries s).name ≡ (x.entries s).name → NoneCame x y
stored-came x y s within place name t p at = ⊎_elim
    (λ (h : t ≡ s). record {
      at = p;
      place = ap (λ (k : ℕ). place_of (x.entries k).state) h ∙ sym place ∙ ap (λ (k : ℕ). place_of (y.entries k).state) (sym h) ∙ at;
      name = ap (λ (k : ℕ). (y.entries k).name) h ∙ name ∙ ap (λ (k : ℕ). (x.entries k).name) (sym h);
    })
    (λ (h : t ≢ s). others-came x y s t p within h at) (cases_eq t s)

pub minds-brought : {T H : Type 0} (r : Result T MemFault) (host : Ghosts H) (m u n : LoomMemory H host) (name own : ℕ) → IsSound host m → u.pager.levels.parts ≡ m.pager.levels.parts → KeepsCache host m u → own ≡ name → fetched u ≡ fetched m → OnOk r (fetched n ≡ counted (fetched u)) → OnOk r (MindsCache host None u n (λ k. k ≡ own)) → OnOk r (MindsCache host None m n (IsBrought m n name))
minds-brought {T} {H} (Ok v) host m u n name own sound parts same is before after x =
    minds-then host m u n (λ k. ⊥) (λ k. k ≡ own) (IsBrought m n name) (λ k no. absurd no) (λ k e. (e ∙ is, after ∙ ap counted before)) (minds-parts host m m u (λ k. ⊥) (minds-refl host m (λ k. ⊥) sound) parts same) x
minds-brought {T} {H} (Err f) host m u n name own sound parts same is before after x = tt

-- ---- a name that comes into a register

pub minds-steady : {H : Type 0} (host : Ghosts H) (m n : LoomMemory H host) (about : ℕ → Type 0) → IsSound host m → IsCore (core_of n.pager.levels.parts) → IsSteady host m n → MindsCache host None m n about
minds-steady {H} host m n about sound now steady = minds-still host m n about (marks-here host m sound) m.pager.levels.whole.parts.core now steady.gentle.remains steady.none steady.gentle.cache

pub steady-then : {T H : Type 0} (r : Result T MemFault) (host : Ghosts H) (m u n : LoomMemory H host) (about : ℕ → Type 0) → IsSound host m → IsCore (core_of u.pager.levels.parts) → IsSteady host m u → OnOk r (MindsCache host None u n about) → OnOk r (MindsCache host None m n about)
steady-then {T} {H} (Ok v) host m u n about sound now steady x = minds-then host m u n about about about (λ k is. is) (λ k is. is) (minds-steady host m u about sound now steady) x
steady-then {T} {H} (Err f) host m u n about sound now steady x = tt

-- ---- a mark

pub minds-mark : {H : Type 0} (host : Ghosts H) (m u v : LoomMemory H host) (n : ℕ) → MindsCache host None m u (IsBrought m u n) → IsCore (core_of u.pager.levels.parts) → IsCore (core_of v.pager.levels.parts) → Remains (core_of u.pager.levels.parts) (core_of v.pager.levels.parts) → Remains (core_of v.pager.levels.parts) (core_of u.pager.levels.parts) → fetched v ≡ fetched u → IsTrue (is_resident u n)
    → (loom_told host v).cache ≡ with_mark (loom_told host u).cache (Some n) → MindsCache host (Some n) m v (IsBrought m v n)
minds-mark {H} host m u v n x core now stays none count there marked = record {
  here = λ k on. remains-residents u v core now stays k (among k (ap (λ (z : Cache). z.marks k) (sym marked) ∙ on));
  others = λ k off on. let is = x.others k off (remains-residents v u now core none k on) in (is.0, count ∙ is.1);
  cache = ⊎_elim (λ (same : KeepsCache host m u). inl (marked ∙ ap (λ (z : Cache). with_mark z (Some n)) same)) (λ (swept : IsSwept host None m u (IsBrought m u n)). inr (record {
    emptied = record {
      rows = λ k l q. ap (λ (z : Cache). z.rows k l q) marked ∙ swept.emptied.rows k l q;
      marks = λ k on. either k (eqb k n) refl (ap (λ (z : Cache). z.marks k) (sym marked) ∙ on) (swept.emptied.marks k);
      path = ap (λ (z : Cache). z.path) marked ∙ swept.emptied.path;
      taken = swept.emptied.taken;
      was = swept.emptied.was;
    };
    gone = ⊎_elim (λ (off : is_resident u swept.emptied.taken ≡ false). inl (left swept.emptied.taken off (is_resident v swept.emptied.taken) refl)) (λ (is : IsBrought m u n swept.emptied.taken). inr (is.0, count ∙ is.1)) swept.gone;
  })) x.cache;
}
  where
    left : (k : ℕ) → is_resident u k ≡ false → (b : Bool) → is_resident v k ≡ b → is_resident v k ≡ false
    left k off false e = e
    left k off true e = absurd (let on = remains-residents v u now core none k e in let both : false ≡ true = sym off ∙ on in cc)

    named : (k : ℕ) → eqb k n ≡ true → k ≡ n
    named k e = grind (arith, common_steps)

    there-too : (k : ℕ) → (b : Bool) → eqb k n ≡ b → b || (loom_told host u).cache.marks k ≡ true → IsTrue (is_resident u k)
    there-too k true e on = ap (is_resident u) (named k e) ∙ there
    there-too k false e on = x.here k on

    among : (k : ℕ) → eqb k n || (loom_told host u).cache.marks k ≡ true → IsTrue (is_resident u k)
    among k on = there-too k (eqb k n) refl on

    either : (k : ℕ) (b : Bool) → eqb k n ≡ b → b || (loom_told host u).cache.marks k ≡ true → ((loom_told host u).cache.marks k ≡ true → None ≡ Some k) → Some n ≡ Some k
    either k true e on was = ap Some (sym (named k e))
    either k false e on was = absurd (let both : None ≡ Some k = was on in cc)

-- ---- a store

pub minds-stored : {T H : Type 0} (r : Result T MemFault) (host : Ghosts H) (m u v : LoomMemory H host) (about : ℕ → Type 0) → MindsCache host None m u about → IsCore (core_of u.pager.levels.parts) → KeepsSound r (IsSound host v) → OnOk r (IsResting u v) → OnOk r (Remains (core_of v.pager.levels.parts) (core_of u.pager.levels.parts)) → OnOk r (KeepsCache host u v) → OnOk r (MindsCache host None m v about)
minds-stored {T} {H} (Ok x) host m u v about was core now rest none same = minds-step host m u v about was core v.pager.levels.whole.parts.core rest.remains none same
minds-stored {T} {H} (Err f) host m u v about was core now rest none same = tt

pub minds-found : {T H : Type 0} (r : Result T MemFault) (host : Ghosts H) (m u v : LoomMemory H host) (about : ℕ → Type 0) → MindsCache host None m u about → IsCore (core_of u.pager.levels.parts) → KeepsSound r (IsSound host v) → OnOk r (IsGlance host u v) → OnOk r (Remains (core_of v.pager.levels.parts) (core_of u.pager.levels.parts)) → OnOk r (KeepsCache host u v) → OnOk r (MindsCache host None m v about)
minds-found {T} {H} (Ok x) host m u v about was core now glance none same = minds-step host m u v about was core v.pager.levels.whole.parts.core glance.remains none same
minds-found {T} {H} (Err f) host m u v about was core now glance none same = tt

-- ---- two objects that leave, and whose records are exchanged

pub minds-swapped : {T H : Type 0} (r : Result T MemFault) (host : Ghosts H) (m u v w : LoomMemory H host) → MindsCache host None m u (λ k. ⊥) → MindsCache host None u v (λ k. ⊥) → OnOk r (w.pager.levels.parts ≡ v.pager.levels.parts) → OnOk r (KeepsCache host v w) → OnOk r (MindsCache host None m w (λ k. ⊥))
minds-swapped {T} {H} (Ok x) host m u v w first second parts same = minds-parts host m v w (λ k. ⊥) (minds-then host m u v (λ k. ⊥) (λ k. ⊥) (λ k. ⊥) (λ k no. no) (λ k no. no) first second) parts same
minds-swapped {T} {H} (Err f) host m u v w first second parts same = tt

-- ---- a call after another

pub minds-after : {T H : Type 0} (r : Result T MemFault) (host : Ghosts H) (m u v : LoomMemory H host) (about : ℕ → Type 0) → MindsCache host None m u (λ k. ⊥) → OnOk r (MindsCache host None u v about) → OnOk r (MindsCache host None m v about)
minds-after {T} {H} (Ok x) host m u v about first last = minds-then host m u v (λ k. ⊥) about about (λ k no. absurd no) (λ k is. is) first last
minds-after {T} {H} (Err f) host m u v about first last = tt

-- where the heap is told
pub minds-told : {T H : Type 0} (r : Result T MemFault) (P : Type 0) (host : Ghosts H) (m u v : LoomMemory H host) (about : ℕ → Type 0) → (P → MindsCache host None m u (λ k. ⊥)) → OnOk r (MindsCache host None u v about) → OnOk r (P → MindsCache host None m v about)
minds-told {T} {H} (Ok x) P host m u v about first last = λ p. minds-then host m u v (λ k. ⊥) about about (λ k no. absurd no) (λ k is. is) (first p) last
minds-told {T} {H} (Err f) P host m u v about first last = tt

-- makings are counted anew
pub minds-anew : {H : Type 0} (host : Ghosts H) (m u v : LoomMemory H host) (base : Option ℕ) → MindsCache host None m u (λ k. ⊥) → v ≡ (record u { ledger = record u.ledger { base = base; made = 0 } }) → MindsCache host None m v (λ k. ⊥)
unfolding loom_told
minds-anew {H} host m u v base x is = minds-parts host m u v (λ k. ⊥) x (ap (λ (z : LoomMemory H host). z.pager.levels.parts) is) (ap (λ (z : LoomMemory H host). (loom_told host z).cache) is)

-- ---- an object that is made

pub minds-made : {H : Type 0} (host : Ghosts H) (m n : LoomMemory H host) (s name : ℕ) → IsSound host m → IsSound host n → ((core_of n.pager.levels.parts).entries s).name ≡ name → ((t p : ℕ) → t ≢ s → place_of ((core_of n.pager.levels.parts).entries t).state ≡ Some p → IsStill (core_of n.pager.levels.parts) (core_of m.pager.levels.parts) t) → KeepsCache host m n → MindsCache host None m n (λ k. k ≡ name)
minds-made {H} host m n s name sound now named others same = record {
  here = marks-here host n now;
  others = λ k off on. came k (away-out m k m.pager.levels.whole.parts.core off) on;
  cache = inl same;
}
  where
    came : (k : ℕ) → IsOut (core_of m.pager.levels.parts) k → IsTrue (is_resident n k) → k ≡ name
    came k out on = body-of n k n.pager.levels.whole.parts.core on (λ t p at is. ⊎_elim (λ (h : t ≡ s). sym is ∙ ap (λ (q : ℕ). ((core_of n.pager.levels.parts).entries q).name) h ∙ named)
        (λ (h : t ≢ s). absurd (let b = others t p h at in out t b.at b.place (b.name ∙ is))) (cases_eq t s))

-- its name comes into a register
pub minds-put : {H : Type 0} (host : Ghosts H) (m u v : LoomMemory H host) (to name : ℕ) → MindsCache host None m u (λ k. k ≡ name) → IsCore (core_of u.pager.levels.parts) → IsCore (core_of v.pager.levels.parts) → IsSteady host u v → loom_told host v ≡ (record (loom_told host u) { regs = set_register (loom_told host u).regs to (Ref name) })
    → MindsCache host None m v (λ k. (loom_told host v).regs to ≡ Ref k)
minds-put {H} host m u v to name x core now steady told =
    minds-wide host None m v (λ k. k ≡ name) (λ k. (loom_told host v).regs to ≡ Ref k) (λ k is. ap (λ (z : Told). z.regs to) told ∙ set_here (loom_told host u).regs to (Ref name) ∙ ap Ref (sym is))
    (minds-step host m u v (λ k. k ≡ name) x core now steady.gentle.remains steady.none steady.gentle.cache)

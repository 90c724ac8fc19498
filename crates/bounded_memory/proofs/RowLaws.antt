-- Calls of a memory without a row, as calls of one with a row over it.
-- `with_row` tells a row only while the path below is whole, so a call that empties the cache below takes the row away by
-- itself, and no call but `begin_path` has to look after it. The path stands first in the conjunction of `with_row`: with a
-- path that is false the row computes away, and no equation of functions needs more than `refl` by cases over one Bool.
-- `answered-with` lifts an answered access, `ready-with` that the memory is ready after it, `ready-kept` a call that leaves the
-- cache.
use Rattle.std.proofs.Common.{◌≡◌, ℕ, ◌&&◌, ◌||◌, ◌==◌, Bool, true, false, Option, Some, None, Result, Ok, Err, IsTrue, OnOk, inl, inr, refl, sym, ◌∙◌, ap, subst}
use Rattle.long_names.specs.declared.value.Value.{Value}
use Rattle.long_names.specs.declared.value.Value.TheVariants.{Int, Ref}
use Rattle.long_names.specs.Heap.{Has}
use Rattle.long_names.specs.Access.{Access, Say, Answer}
use Rattle.object_memory.specs.declared.fault.MemFault.{MemFault}
use Rattle.object_memory.specs.Told.{Told, Cache, IsReady}
use Rattle.object_memory.specs.Contract.{Does, LeavesCache, with_mark, touched_by, marked_by, SaysBy, Accessed, row_of_values}
use Rattle.bounded_memory.specs.declared.row.CachedRow.{CachedRow}
use Rattle.bounded_memory.specs.Row.{is_row, with_row}

-- the cache with a row that is lost with the path
abbrev pub cache_with : Cache → Option CachedRow → Cache
cache_with c row = record c { rows = λ a b m. c.path && is_row row a b m }

pub path-of : (a b : Bool) → (a && b) ≡ true → a ≡ true
path-of true b e = refl
path-of false b e = e

-- no row is told where none is kept
pub no-row : (b : Bool) → ◌≡◌ {A = ℕ → ℕ → ℕ → Bool} (λ c s m. b && is_row None c s m) (λ c s m. false)
no-row true = refl
no-row false = refl

-- ---- a path that begins

dropped : (b : Bool) (row : Option CachedRow) → b ≡ false → ◌≡◌ {A = ℕ → ℕ → ℕ → Bool} (λ c s m. b && is_row None c s m) (λ c s m. b && is_row row c s m)
dropped true row e = cc
dropped false row e = refl

-- without its path a row is not told
pub with-dropped : (t : Told) (row : Option CachedRow) → t.cache.path ≡ false → with_row t None ≡ with_row t row
with-dropped t row e = ap (λ (rows : ℕ → ℕ → ℕ → Bool). record t { cache = record t.cache { rows = rows } }) (dropped t.cache.path row e)

whole-path : (b : Bool) (row : Option CachedRow) → (b ≡ false → row ≡ None) → ◌≡◌ {A = ℕ → ℕ → ℕ → Bool} (λ c s m. true && is_row row c s m) (λ c s m. b && is_row row c s m)
whole-path true row lost = refl
whole-path false row lost = subst (λ (r : Option CachedRow). ◌≡◌ {A = ℕ → ℕ → ℕ → Bool} (λ c s m. true && is_row r c s m) (λ c s m. false && is_row r c s m)) (sym (lost refl)) refl

pub with-path : (t : Told) (row : Option CachedRow) → (t.cache.path ≡ false → row ≡ None) → with_row (record t { cache = record t.cache { path = true } }) row ≡ (record (with_row t row) { cache = record (with_row t row).cache { path = true } })
with-path t row lost = ap (λ (rows : ℕ → ℕ → ℕ → Bool). record t { cache = record t.cache { rows = rows; path = true } }) (whole-path t.cache.path row lost)

-- ---- a call of the memory below

marked-path : (c : Cache) (marked : Option ℕ) → (with_mark c marked).path ≡ c.path
marked-path c None = refl
marked-path c (Some n) = refl

marked-marks : (c : Cache) (row : Option CachedRow) (marked : Option ℕ) → (with_mark c marked).marks ≡ (with_mark (cache_with c row) marked).marks
marked-marks c row None = refl
marked-marks c row (Some n) = refl

marked-with : (c : Cache) (row : Option CachedRow) (marked : Option ℕ) → (with_mark (cache_with c row) marked).path ≡ c.path
marked-with c row None = refl
marked-with c row (Some n) = refl

marked-rows : (c : Cache) (row : Option CachedRow) (marked : Option ℕ) (a b m : ℕ) → (cache_with c row).rows a b m ≡ true → (with_mark (cache_with c row) marked).rows a b m ≡ true
marked-rows c row None a b m e = e
marked-rows c row (Some n) a b m e = e

-- a row that stays as it was leaves with the path
pub leaves-with : (touched : ℕ → Bool) (marked : Option ℕ) (c d : Cache) (row : Option CachedRow) → LeavesCache touched marked c (with_mark c marked) d → LeavesCache touched marked (cache_with c row) (with_mark (cache_with c row) marked) (cache_with d row)
leaves-with touched marked c d row (inl kept) = inl record {
  marks = kept.marks ∙ marked-marks c row marked;
  path = kept.path ∙ marked-path c marked ∙ sym (marked-with c row marked);
  rows = λ a b m is. marked-rows c row marked a b m (subst (λ p. (p && is_row row a b m) ≡ true) (kept.path ∙ marked-path c marked) is);
  untouched = kept.untouched;
}
leaves-with touched marked c d row (inr emptied) = inr record {
  rows = λ a b m. ap (λ p. p && is_row row a b m) emptied.path;
  marks = emptied.marks;
  path = emptied.path;
  taken = emptied.taken;
  was = emptied.was;
}

says-with : (p q : Told) (row : Option CachedRow) (a : Access) → SaysBy (Does a) p q → SaysBy (Does a) (with_row p row) (with_row q row)
says-with p q row (Say of) h = h
says-with p q row _ h = h

-- an access that is answered
pub answered-with : {A : Type 0} (p q : Told) (row : Option CachedRow) (a : Access) (spell : A → Answer) (x : A) → Accessed p q a spell (Ok x) → Accessed (with_row p row) (with_row q row) a spell (Ok x)
answered-with {A} p q row a spell x access =
    let f = access.called.ok in
    record {
      called = record {
        later = record { tells = access.called.later.tells; speaks = access.called.later.speaks; bounds = access.called.later.bounds; refusals = access.called.later.refusals };
        ok = record {
          regs = f.regs;
          brings = f.brings;
          slots = f.slots;
          transcript = says-with p q row a f.transcript;
          heap = f.heap;
          cache = leaves-with (touched_by p.regs a) (marked_by p.regs a) p.cache q.cache row f.cache;
          counts = f.counts;
          base = tt;
          refusals = f.refusals;
          last = f.last;
        };
        err = tt;
      };
      answer = access.answer;
      named = access.named;
      core = access.core;
    }

-- ---- a memory that is ready

mark-stays : (c : Cache) (marked : Option ℕ) (m : ℕ) → c.marks m ≡ true → (with_mark c marked).marks m ≡ true
mark-stays c None m is = is
mark-stays c (Some n) m is = (subst (λ b. ((m == n) || b) ≡ true) (sym is) (or-true (m == n)))
  where
    or-true : (a : Bool) → (a || true) ≡ true
    or-true true = refl
    or-true false = refl

-- the row's method stays marked while the path is whole
pub cached-with : (touched : ℕ → Bool) (marked : Option ℕ) (c d : Cache) (row : Option CachedRow) → LeavesCache touched marked c (with_mark c marked) d → ((a b m : ℕ) → (cache_with c row).rows a b m ≡ true → c.marks m ≡ true) → (a b m : ℕ) → (cache_with d row).rows a b m ≡ true → d.marks m ≡ true
cached-with touched marked c d row (inl kept) cached a b m is = ap (λ f. f m) kept.marks ∙ mark-stays c marked m (cached a b m (subst (λ p. (p && is_row row a b m) ≡ true) (kept.path ∙ marked-path c marked) is))
cached-with touched marked c d row (inr emptied) cached a b m is = absurd (let whole = path-of d.path (is_row row a b m) is in let none = emptied.path in cc)

-- without it, too, where no row is kept below
pub ready-without : (t : Told) (row : Option CachedRow) → ((a b m : ℕ) → t.cache.rows a b m ≡ false) → IsReady (with_row t row) → IsReady t
ready-without t row none ready = record { whole = ready.whole; marked = ready.marked; cached = λ a b m is. absurd (let no = none a b m in cc) }

pub ready-with : {A : Type 0} (p q : Told) (row : Option CachedRow) (a : Access) (spell : A → Answer) (r : Result A MemFault) → IsReady (with_row p row) → Accessed p q a spell r → OnOk r (IsReady q) → OnOk r (IsReady (with_row q row))
ready-with {A} p q row a spell (Ok x) ready access later = record { whole = later.whole; marked = later.marked; cached = cached-with (touched_by p.regs a) (marked_by p.regs a) p.cache q.cache row access.called.ok.cache ready.cached }
ready-with {A} p q row a spell (Err f) ready access later = tt

-- a call that leaves the cache as it was
pub ready-kept : (p q : Told) (row : Option CachedRow) → q.cache ≡ p.cache → ((a b m : ℕ) → p.cache.rows a b m ≡ false) → (IsReady p → IsReady q) → IsReady (with_row p row) → IsReady (with_row q row)
ready-kept p q row e none still ready =
    let later = still (ready-without p row none ready) in
    record { whole = later.whole; marked = later.marked; cached = subst (λ (c : Cache). (a b m : ℕ) → (cache_with c row).rows a b m ≡ true → c.marks m ≡ true) (sym e) ready.cached }

-- the method of a row that was found is there
pub found-there : (t : Told) (v w : Value) (m : ℕ) → IsReady t → IsTrue t.tells → row_of_values t.cache v w m ≡ true → Has t.heap m
found-there t (Int z) w m ready told is = absurd (cc)
found-there t (Ref n) (Int z) m ready told is = absurd (cc)
found-there t (Ref n) (Ref k) m ready told is = ready.marked told m (ready.cached n k m is)

-- What several calls leave, put together: later, base and made, the cache.
use Rattle.std.proofs.Common.{◌≡◌, ℕ, ◌+◌, Bool, true, false, ◌||◌, eqb, Option, Some, None, inl, inr, refl, sym, ◌∙◌, ap, arith}
use Rattle.std.proofs.lemmas.Grind.{common_steps}
use Rattle.long_names.proofs.ThinLemmas.{or_second, or_cases}
use Rattle.object_memory.specs.Told.{Told, Bounds, Cache}
use Rattle.object_memory.specs.Contract.{SameBounds, IsLater, Raised, IsEmptied, LeavesCache, no_names, with_mark}

-- ---- later

pub SameBounds-refl : (b : Option Bounds) → SameBounds b b
SameBounds-refl None = tt
SameBounds-refl (Some b) = (refl, refl, refl, omega arith, omega arith)

SameBounds-trans : (a b c : Option Bounds) → SameBounds a b → SameBounds b c → SameBounds a c
SameBounds-trans None None c x y = y
SameBounds-trans None (Some b) c x y = absurd x
SameBounds-trans (Some a) None c x y = absurd x
SameBounds-trans (Some a) (Some b) None x y = absurd y
SameBounds-trans (Some a) (Some b) (Some c) x y = (y.0 ∙ x.0, y.1 ∙ x.1, y.2 ∙ x.2, omega arith, omega arith)

pub IsLater-refl : (t : Told) → IsLater t t
IsLater-refl t = record { tells = refl; speaks = refl; bounds = SameBounds-refl t.bounds; refusals = omega arith }

pub IsLater-trans : (a b c : Told) → IsLater a b → IsLater b c → IsLater a c
IsLater-trans a b c x y = record { tells = y.tells ∙ x.tells; speaks = y.speaks ∙ x.speaks; bounds = SameBounds-trans a.bounds b.bounds c.bounds x.bounds y.bounds; refusals = omega arith }

-- ---- base and made

pub Raised-refl : (b : Option Bounds) → Raised 0 b b
Raised-refl None = tt
Raised-refl (Some b) = (refl, omega arith)

-- so many makings, and so many more
pub Raised-then : (j k : ℕ) (a b c : Option Bounds) → Raised j a b → Raised k b c → Raised (j + k) a c
Raised-then j k None None None x y = tt
Raised-then j k None None (Some c) x y = absurd y
Raised-then j k None (Some b) c x y = absurd x
Raised-then j k (Some a) None c x y = absurd x
Raised-then j k (Some a) (Some b) None x y = absurd y
Raised-then j k (Some a) (Some b) (Some c) x y = (y.0 ∙ x.0, omega arith)

-- ---- the cache

-- what was not there before is not there after
still_none : (x y : Bool) → (y ≡ true → x ≡ true) → x ≡ false → y ≡ false
still_none x true leaves e = sym (leaves refl) ∙ e
still_none x false leaves e = refl

pub LeavesCache-refl : (c : Cache) → LeavesCache no_names None c c c
LeavesCache-refl c = inl record { marks = refl; path = refl; rows = λ r s m e. e; untouched = λ n e. (cc) }

-- a cache that was emptied, and then kept or emptied
emptied_then : (marked : Option ℕ) (a b c : Cache) → IsEmptied marked a b → LeavesCache no_names None b b c → ((n : ℕ) → marked ≡ Some n → c.marks n ≡ true → marked ≡ Some n) → IsEmptied marked a c
emptied_then marked a b c e (inl k) here = record {
  rows = λ r s m. still_none (b.rows r s m) (c.rows r s m) (k.rows r s m) (e.rows r s m);
  marks = λ n is. e.marks n (sym (ap (λ (f : ℕ → Bool). f n) k.marks) ∙ is);
  path = k.path ∙ e.path;
  taken = e.taken;
  was = e.was;
}
emptied_then marked a b c e (inr f) here = record { rows = f.rows; marks = λ n is. (let no : ◌≡◌ {A = Option ℕ} None (Some n) = f.marks n is in absurd (cc)); path = f.path; taken = e.taken; was = e.was }

-- A call that may store, and then calls that neither store nor mark.
pub store_then : (touched : ℕ → Bool) (a b c : Cache) → LeavesCache touched None a a b → LeavesCache no_names None b b c → LeavesCache touched None a a c
store_then touched a b c (inl k) (inl l) = inl record { marks = l.marks ∙ k.marks; path = l.path ∙ k.path; rows = λ r s m e. k.rows r s m (l.rows r s m e); untouched = k.untouched }
store_then touched a b c (inl k) (inr f) = inr record { rows = f.rows; marks = f.marks; path = f.path; taken = f.taken; was = sym (ap (λ (g : ℕ → Bool). g f.taken) k.marks) ∙ f.was }
store_then touched a b c (inr e) l = inr (emptied_then None a b c e l (λ n is _. is))

-- Calls that neither store nor mark, and then a call that may store.
pub then_store : (touched : ℕ → Bool) (a b c : Cache) → LeavesCache no_names None a a b → LeavesCache touched None b b c → LeavesCache touched None a a c
then_store touched a b c (inl k) (inl l) = inl record { marks = l.marks ∙ k.marks; path = l.path ∙ k.path; rows = λ r s m e. k.rows r s m (l.rows r s m e); untouched = λ n e. sym (ap (λ (g : ℕ → Bool). g n) k.marks) ∙ l.untouched n e }
then_store touched a b c (inl k) (inr f) = inr record { rows = f.rows; marks = f.marks; path = f.path; taken = f.taken; was = sym (ap (λ (g : ℕ → Bool). g f.taken) k.marks) ∙ f.was }
then_store touched a b c (inr e) (inl l) = inr (emptied_then None a b c e (inl record { marks = l.marks; path = l.path; rows = l.rows; untouched = λ n e. (cc) }) (λ n is _. is))
then_store touched a b c (inr e) (inr f) = inr (emptied_then None a b c e (inr f) (λ n is _. is))

-- A store into some names, and then one into others.
pub store_both : (some others : ℕ → Bool) (a b c : Cache) → LeavesCache some None a a b → LeavesCache others None b b c → LeavesCache (λ n. some n || others n) None a a c
store_both some others a b c (inl k) (inl l) = inl record { marks = l.marks ∙ k.marks; path = l.path ∙ k.path; rows = λ r s m e. k.rows r s m (l.rows r s m e); untouched = λ n e. elim (or_cases (some n) (others n) e) [ inl one ↦ k.untouched n one | inr two ↦ sym (ap (λ (g : ℕ → Bool). g n) k.marks) ∙ l.untouched n two ] }
store_both some others a b c (inl k) (inr f) = inr record { rows = f.rows; marks = f.marks; path = f.path; taken = f.taken; was = sym (ap (λ (g : ℕ → Bool). g f.taken) k.marks) ∙ f.was }
store_both some others a b c (inr e) (inl l) = inr (emptied_then None a b c e (inl record { marks = l.marks; path = l.path; rows = l.rows; untouched = λ n e. (cc) }) (λ n is _. is))
store_both some others a b c (inr e) (inr f) = inr (emptied_then None a b c e (inr f) (λ n is _. is))

-- Calls that neither store nor mark, and then a mark. (The other way round the mark itself may be taken away.)
pub then_mark : (n : ℕ) (a b c : Cache) → LeavesCache no_names None a a b → LeavesCache no_names (Some n) b (with_mark b (Some n)) c → LeavesCache no_names (Some n) a (with_mark a (Some n)) c
then_mark n a b c (inl k) (inl l) = let add : (ℕ → Bool) → ℕ → Bool = λ g q. eqb q n || g q in inl record { marks = l.marks ∙ ap add k.marks; path = l.path ∙ k.path; rows = λ r s m e. k.rows r s m (l.rows r s m e); untouched = λ q e. (cc) }
then_mark n a b c (inl k) (inr f) = inr record { rows = f.rows; marks = f.marks; path = f.path; taken = f.taken; was = sym (ap (λ (g : ℕ → Bool). g f.taken) k.marks) ∙ f.was }
then_mark n a b c (inr e) (inl l) = inr record {
  rows = λ r s m. still_none (b.rows r s m) (c.rows r s m) (l.rows r s m) (e.rows r s m);
  marks = λ q is. only q (eqb q n) refl (sym (ap (λ (g : ℕ → Bool). g q) l.marks) ∙ is);
  path = l.path ∙ e.path;
  taken = e.taken;
  was = e.was;
}
  where
    only : (q : ℕ) (x : Bool) → eqb q n ≡ x → (x || b.marks q) ≡ true → Some n ≡ Some q
    only q true same is = let it : n ≡ q = grind (arith, common_steps, same) in ap (λ k. Some k) it
    only q false same is = let no : ◌≡◌ {A = Option ℕ} None (Some q) = e.marks q is in absurd (cc)
then_mark n a b c (inr e) (inr f) = inr record { rows = f.rows; marks = f.marks; path = f.path; taken = e.taken; was = e.was }

-- After any call rows were there before it,
pub rows_left : (touched : ℕ → Bool) (marked : Option ℕ) (a c : Cache) → LeavesCache touched marked a (with_mark a marked) c → (r s m : ℕ) → c.rows r s m ≡ true → a.rows r s m ≡ true
rows_left touched None a c (inl k) r s m is = k.rows r s m is
rows_left touched (Some n) a c (inl k) r s m is = k.rows r s m is
rows_left touched marked a c (inr e) r s m is = let none = e.rows r s m in cc

-- and where its path is whole, it was whole before, and no mark was taken away.
pub path_left : (touched : ℕ → Bool) (marked : Option ℕ) (a c : Cache) → LeavesCache touched marked a (with_mark a marked) c → c.path ≡ true → (a.path ≡ true) × ((n : ℕ) → a.marks n ≡ true → c.marks n ≡ true)
path_left touched None a c (inl k) whole = (sym k.path ∙ whole, λ n is. ap (λ (f : ℕ → Bool). f n) k.marks ∙ is)
path_left touched (Some q) a c (inl k) whole = (sym k.path ∙ whole, λ n is. ap (λ (f : ℕ → Bool). f n) k.marks ∙ or_second (eqb n q) (a.marks n) is)
path_left touched marked a c (inr e) whole = let none = e.path in cc

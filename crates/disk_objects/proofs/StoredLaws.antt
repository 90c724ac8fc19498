-- What a change of Work, of the blocks and of one entry makes of the objects that are stored.
-- A put or a remove goes by `IsOpen`, a disk with one block more that no name has (`store-open`, `open-added`, `open-moved`,
-- `disk-removed`, `open-given`).
use Rattle.std.proofs.Common.{◌≡◌, ◌≢◌, ℕ, suc, ◌+◌, ◌<◌, ◌⊎◌, ⊎_elim, cond, Bool, true, false, List, [], ◌∷◌, length, get_or, map as mapped, Option, Some, None, refl, sym, ap, subst, ◌∙◌, arith}
use Rattle.std.specs.Ordering.{nat_cmp, eq_by_cmp}
use Rattle.std.specs.Cmp.{nat_cmp_total}
use Rattle.std.specs.List.{Contains}
use Rattle.std.specs.FinMap as map
use Rattle.std.specs.FinMap.{find, nat_cmp-IsAntisymmetric}
use Rattle.std.specs.Prelude.{IsSome}
use Rattle.std.proofs.lemmas.List.{length-map}
use Rattle.std.proofs.lemmas.Bool.Decides.{nat_tests}
use Rattle.loom_host.specs.Bytes.{window}
use Rattle.work_directory.specs.Table.{Entry, Entries}
use Rattle.work_space.specs.Blocks.{block_size, put, times, AreLinked}
use Rattle.work_space.proofs.BlockLaws.{put-at, put-there, some-inside}
use Rattle.work_space.proofs.FreeLaws.{linked-same}
use Rattle.disk_objects.specs.Disk.{DiskObject, Objects, IsInBlock, AreAlike, AreInBlocks, ArePending}
use Rattle.disk_objects.proofs.TouchLaws.{laid-kept}

pub equal_or_not : (a b : ℕ) → (a ≡ b) ⊎ (a ≢ b)
equal_or_not a b = grind arith

tied-at : (q k : ℕ) → q ≡ k → eq_by_cmp nat_cmp q k ≡ true
tied-at q k same = grind (arith, nat_tests)

tied-there : (q k : ℕ) → q ≢ k → eq_by_cmp nat_cmp q k ≡ false
tied-there q k away = grind (arith, nat_tests)

module _ {A : Type 0} (m : map.FinMap nat_cmp A) (k : ℕ) where
  pub insert-at : (v : A) (q : ℕ) → q ≡ k → map.get (map.insert m k v) q ≡ Some v
  insert-at v q same = map.get-insert nat_cmp_total m k v q ∙ ap (λ (b : Bool). cond b (Some v) (map.get m q)) (tied-at q k same)

  pub insert-there : (v : A) (q : ℕ) → q ≢ k → map.get (map.insert m k v) q ≡ map.get m q
  insert-there v q away = map.get-insert nat_cmp_total m k v q ∙ ap (λ (b : Bool). cond b (Some v) (map.get m q)) (tied-there q k away)

  pub remove-at : (q : ℕ) → q ≡ k → map.get (map.remove m k) q ≡ None
  remove-at q same = map.get-remove nat_cmp_total m k q ∙ ap (λ (b : Bool). cond b None (map.get m q)) (tied-at q k same)

  pub remove-there : (q : ℕ) → q ≢ k → map.get (map.remove m k) q ≡ map.get m q
  remove-there q away = map.get-remove nat_cmp_total m k q ∙ ap (λ (b : Bool). cond b None (map.get m q)) (tied-there q k away)

  -- what is there already
  pub insert-same : (v : A) → map.get m k ≡ Some v → map.insert m k v ≡ m
  insert-same v there = map.same_map nat_cmp_total nat_cmp-IsAntisymmetric _ _ (λ q. ⊎_elim
      (λ (h : q ≡ k). insert-at v q h ∙ sym (ap (map.get m) h ∙ there))
      (λ (h : q ≢ k). insert-there v q h)
      (equal_or_not q k))

pub insert-again : {A : Type 0} (m : map.FinMap nat_cmp A) (k : ℕ) (u v : A) → map.insert (map.insert m k u) k v ≡ map.insert m k v
insert-again m k u v = map.same_map nat_cmp_total nat_cmp-IsAntisymmetric _ _ (λ q. ⊎_elim
    (λ (h : q ≡ k). insert-at (map.insert m k u) k v q h ∙ sym (insert-at m k v q h))
    (λ (h : q ≢ k). insert-there (map.insert m k u) k v q h ∙ insert-there m k u q h ∙ sym (insert-there m k v q h))
    (equal_or_not q k))

-- ---- one name

pub none-is-some : {A : Type 0} {a : A} {o : Option A} → o ≡ None → o ≡ Some a → ⊥
none-is-some {A} {a} {o} e f = let no : ◌≡◌ {A = Option A} None (Some a) = sym e ∙ f in cc no

-- the block of this entry, and what stands in it, stay
abbrev pub Stays : List ℕ → List ℕ → (ℕ → Option ℕ) → (ℕ → Option ℕ) → Option Entry → Type 0
Stays v w out out' oe = (f : Entry) (c : ℕ) → oe ≡ Some f → out f.place ≡ Some c → (out' f.place ≡ Some c) × (window w f.place (block_size c) ≡ window v f.place (block_size c))

pub alike-kept : (v w : List ℕ) (out out' : ℕ → Option ℕ) (l q : ℕ) (oe : Option Entry) (oo : Option DiskObject) → Stays v w out out' oe
    → AreAlike v out l q oe oo → AreAlike w out' l q oe oo
alike-kept v w out out' l q None None same a = a
alike-kept v w out out' l q None (Some o) same a = a
alike-kept v w out out' l q (Some f) None same a = a
alike-kept v w out out' l q (Some f) (Some o) same a =
    let both = same f a.class refl a.block in
    record {
      count = a.count;
      named = a.named;
      uncounted = a.uncounted;
      raw = a.raw;
      class = a.class;
      is_class = a.is_class;
      block = both.0;
      laid = laid-kept v w f.place (block_size a.class) o.raw l a.is_class.fits both.1 a.laid;
    }

-- the same of other words for the same
pub alike-at : (w : List ℕ) (out : ℕ → Option ℕ) (l l' q : ℕ) (oe oe' : Option Entry) (oo oo' : Option DiskObject) → l' ≡ l → oe' ≡ oe → oo' ≡ oo
    → AreAlike w out l q oe oo → AreAlike w out l' q oe' oo'
alike-at w out l l' q oe oe' oo oo' a b c is =
    subst (λ (x : Option DiskObject). AreAlike w out l' q oe' x) (sym c)
    (subst (λ (x : Option Entry). AreAlike w out l' q x oo) (sym b)
    (subst (λ (x : ℕ). AreAlike w out x q oe oo) (sym a) is))

-- what a name has an entry for is an object, and the other way round
pub alike-entry : (w : List ℕ) (out : ℕ → Option ℕ) (l q : ℕ) (oe : Option Entry) (oo : Option DiskObject) (e : Entry) → oe ≡ Some e → AreAlike w out l q oe oo
    → (o : DiskObject) × (oo ≡ Some o) × IsInBlock w out l q e o
alike-entry w out l q None oo e is a = absurd (none-is-some refl is)
alike-entry w out l q (Some f) None e is a = absurd a
alike-entry w out l q (Some f) (Some o) e is a = (o, refl, subst (λ (x : Entry). IsInBlock w out l q x o) (some-inside is) a)

pub alike-none : (w : List ℕ) (out : ℕ → Option ℕ) (l q : ℕ) (oe : Option Entry) (oo : Option DiskObject) → oe ≡ None → AreAlike w out l q oe oo → oo ≡ None
alike-none w out l q None None is a = refl
alike-none w out l q None (Some o) is a = absurd a
alike-none w out l q (Some f) oo is a = absurd (none-is-some is refl)

pub alike-some : (w : List ℕ) (out : ℕ → Option ℕ) (l q : ℕ) (oe : Option Entry) (oo : Option DiskObject) → IsSome oo → AreAlike w out l q oe oo
    → (e : Entry) × (oe ≡ Some e)
alike-some w out l q (Some f) oo is a = (f, refl)
alike-some w out l q None None is a = absurd (let no : false ≡ true = is in cc no)
alike-some w out l q None (Some o) is a = absurd a

-- ---- all names

pub stored-frame : (v w : List ℕ) (out out' : ℕ → Option ℕ) (link : ℕ → ℕ) (entries entries' : Entries) (objects : Objects) → AreInBlocks v out link entries objects
    → entries' ≡ entries → ((q : ℕ) → Stays v w out out' (map.get entries q)) → AreInBlocks w out' link entries' objects
stored-frame v w out out' link entries entries' objects s same stays =
    subst (λ (x : Entries). AreInBlocks w out' link x objects) (sym same) (record {
      each = λ q. alike-kept v w out out' (link q) q (map.get entries q) (map.get objects q) (stays q) (s.each q);
      apart = s.apart;
    })

pub stored-insert : (v w : List ℕ) (out out' : ℕ → Option ℕ) (link : ℕ → ℕ) (entries : Entries) (objects : Objects) (name l : ℕ) (e : Entry) (o : DiskObject)
    → AreInBlocks v out link entries objects
    → ((q : ℕ) → q ≢ name → Stays v w out out' (map.get entries q))
    → ((q : ℕ) (f : Entry) → q ≢ name → map.get entries q ≡ Some f → f.place ≢ e.place)
    → IsInBlock w out' l name e o
    → AreInBlocks w out' (put link name l) (map.insert entries name e) (map.insert objects name o)
stored-insert v w out out' link entries objects name l e o s stays fresh here = record {
  each = λ q. ⊎_elim
      (λ (h : q ≡ name). alike-at w out' l (put link name l q) q (Some e) _ (Some o) _ (put-at link name l q h) (insert-at entries name e q h)
      (insert-at objects name o q h) (subst (λ (k : ℕ). IsInBlock w out' l k e o) (sym h) here))
      (λ (h : q ≢ name). alike-at w out' (link q) (put link name l q) q (map.get entries q) _ (map.get objects q) _ (put-there link name l q h)
      (insert-there entries name e q h) (insert-there objects name o q h)
      (alike-kept v w out out' (link q) q (map.get entries q) (map.get objects q) (stays q h) (s.each q)))
      (equal_or_not q name);
  apart = λ m n f g a b same. ⊎_elim
      (λ (x : m ≡ name). ⊎_elim
      (λ (y : n ≡ name). x ∙ sym y)
      (λ (y : n ≢ name). absurd (fresh n g y (sym (insert-there entries name e n y) ∙ b)
      (sym same ∙ ap (λ (z : Entry). z.place) (some-inside (sym a ∙ insert-at entries name e m x)))))
      (equal_or_not n name))
      (λ (x : m ≢ name). ⊎_elim
      (λ (y : n ≡ name). absurd (fresh m f x (sym (insert-there entries name e m x) ∙ a)
      (same ∙ ap (λ (z : Entry). z.place) (some-inside (sym b ∙ insert-at entries name e n y)))))
      (λ (y : n ≢ name). s.apart m n f g (sym (insert-there entries name e m x) ∙ a) (sym (insert-there entries name e n y) ∙ b) same)
      (equal_or_not n name))
      (equal_or_not m name);
}

pub stored-remove : (v w : List ℕ) (out : ℕ → Option ℕ) (link : ℕ → ℕ) (entries : Entries) (objects : Objects) (name : ℕ)
    → AreInBlocks v out link entries objects
    → ((q : ℕ) → q ≢ name → Stays v w out out (map.get entries q))
    → AreInBlocks w out link (map.remove entries name) (map.remove objects name)
stored-remove v w out link entries objects name s stays = record {
  each = λ q. ⊎_elim
      (λ (h : q ≡ name). alike-at w out (link q) (link q) q None _ None _ refl (remove-at entries name q h) (remove-at objects name q h) tt)
      (λ (h : q ≢ name). alike-at w out (link q) (link q) q (map.get entries q) _ (map.get objects q) _ refl
      (remove-there entries name q h) (remove-there objects name q h)
      (alike-kept v w out out (link q) q (map.get entries q) (map.get objects q) (stays q h) (s.each q)))
      (equal_or_not q name);
  apart = λ m n f g a b same. ⊎_elim
      (λ (x : m ≡ name). absurd (none-is-some (remove-at entries name m x) a))
      (λ (x : m ≢ name). ⊎_elim
      (λ (y : n ≡ name). absurd (none-is-some (remove-at entries name n y) b))
      (λ (y : n ≢ name). s.apart m n f g (sym (remove-there entries name m x) ∙ a) (sym (remove-there entries name n y) ∙ b) same)
      (equal_or_not n name))
      (equal_or_not m name);
}

-- ---- the pending names

pub pending-insert : (objects : Objects) (pending : List ℕ) (name : ℕ) (o : DiskObject) → ArePending objects pending → ArePending (map.insert objects name o) pending
pending-insert objects pending name o p = record {
  held = λ q some. ⊎_elim
      (λ (h : q ≡ name). subst IsSome (sym (insert-at objects name o q h)) refl)
      (λ (h : q ≢ name). subst IsSome (sym (insert-there objects name o q h)) (p.held q some))
      (equal_or_not q name);
  once = p.once;
}

pub pending-remove : (objects : Objects) (pending : List ℕ) (name : ℕ) → times name pending ≡ 0 → ArePending objects pending → ArePending (map.remove objects name) pending
pending-remove objects pending name idle p = record {
  held = λ q some. ⊎_elim
      (λ (h : q ≡ name). absurd (let z = ap (λ (k : ℕ). times k pending) h in omega (arith, z, idle, some)))
      (λ (h : q ≢ name). subst IsSome (sym (remove-there objects name q h)) (p.held q some))
      (equal_or_not q name);
  once = p.once;
}

pub linked-put : (link : ℕ → ℕ) (first name l : ℕ) (pending : List ℕ) → (0 < times name pending → l ≡ link name) → AreLinked link first pending
    → AreLinked (put link name l) first pending
linked-put link first name l pending same is = linked-same link (put link name l) first pending (λ q some. ⊎_elim
    (λ (h : q ≡ name). put-at link name l q h ∙ same (subst (λ (k : ℕ). 0 < times k pending) h some) ∙ ap link (sym h))
    (λ (h : q ≢ name). put-there link name l q h)
    (equal_or_not q name)) is

-- ---- the places of a directory's entries

abbrev pub places_of : Entries → List ℕ
places_of m = mapped (λ (x : ℕ × Entry). x.1.place) (map.entries m)

get_or-more : (x : ℕ) (xs : List ℕ) (k d : ℕ) → get_or (x ∷ xs) (k + 1) d ≡ get_or xs k d
get_or-more x xs k d = ap (λ (n : ℕ). get_or (x ∷ xs) n d) (let e : k + 1 ≡ suc k = omega arith in e)

found-place : (es : List (ℕ × Entry)) (q : ℕ) (f : Entry) → find nat_cmp q es ≡ Some f
    → (k : ℕ) × (k < length (mapped (λ (x : ℕ × Entry). x.1.place) es)) × ((d : ℕ) → get_or (mapped (λ (x : ℕ × Entry). x.1.place) es) k d ≡ f.place)
found-place [] q f is = absurd (none-is-some refl is)
found-place (x ∷ es) q f is = by_test (found-place es q f) (eq_by_cmp nat_cmp q x.0) is where
  by_test : (find nat_cmp q es ≡ Some f → (k : ℕ) × (k < length (mapped (λ (y : ℕ × Entry). y.1.place) es)) × ((d : ℕ) → get_or (mapped (λ (y : ℕ × Entry). y.1.place) es) k d ≡ f.place))
      → (b : Bool) → cond b (Some x.1) (find nat_cmp q es) ≡ Some f
      → (k : ℕ) × (k < length (mapped (λ (y : ℕ × Entry). y.1.place) (x ∷ es))) × ((d : ℕ) → get_or (mapped (λ (y : ℕ × Entry). y.1.place) (x ∷ es)) k d ≡ f.place)
  by_test rest true e = (0, omega arith, λ d. ap (λ (y : Entry). y.place) (some-inside e))
  by_test rest false e = let r = rest e in (r.0 + 1, (let l = r.1 in omega arith), λ d. get_or-more _ _ r.0 d ∙ r.2 d)

pub place-among : (m : Entries) (q : ℕ) (f : Entry) (p : ℕ) → map.get m q ≡ Some f → f.place ≡ p → Contains (places_of m) p
place-among m q f p is at =
    let r = found-place (map.entries m) q f (sym (map.get-entries m q) ∙ is) in
    (r.0, r.1, r.2 p ∙ at)

pub length-places : (m : Entries) → length (places_of m) ≡ map.len m
length-places m = length-map (map.entries m) (λ (x : ℕ × Entry). x.1.place) ∙ sym (map.len-entries m)

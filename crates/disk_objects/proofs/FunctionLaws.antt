-- The functions from names to objects and to counts are the map that stands on the disk, and what each call makes of them.
use Rattle.std.proofs.Common.{◌≡◌, ◌≢◌, ℕ, ℤ, ◌+◌, ◌-◌, ◌≤◌, ◌++◌, ⊎_elim, cond, Bool, true, false, List, [], length, replicate, take, drop, append_assoc, Option, Some, None, Result, Ok, Err, IfOk, OnOk, refl, sym, ap, subst, ◌∙◌, arith}
use Rattle.std.specs.Prelude.{IsOk, is_some, option_map}
use Rattle.std.specs.Cmp.{nat_cmp_total}
use Rattle.std.specs.FinMap as map
use Rattle.std.proofs.Math.Path.{fun_ext}
use Rattle.std.proofs.lemmas.List.{take-append-drop}
use Rattle.long_names.specs.Record.{eight_bytes}
use Rattle.long_names.specs.declared.limits.TheConstants.{LONGEST_RECORD}
use Rattle.long_names.specs.declared.object.Object.{Object}
use Rattle.loom_host.proofs.Windows.{window-taken}
use Rattle.loom_host.specs.Bytes.{window}
use Rattle.loom_host.specs.Work.{work_of}
use Rattle.loom_host.specs.declared.outside.Host.{Ghosts}
use Rattle.object_record.specs.Buffer.{raw_of}
use Rattle.object_record.specs.Objects.{object_in}
use Rattle.object_record.specs.Raw.{RawRecord, IsRawRecord, raw_text}
use Rattle.object_record.specs.declared.offsets.TheConstants.{KIND_AT}
use Rattle.object_record.proofs.Calls.{length-text}
use Rattle.object_record.proofs.Records.{longest-raw}
use Rattle.object_record.proofs.Texts.{begun}
use Rattle.work_directory.specs.Directory.{entries_of}
use Rattle.work_directory.specs.Table.{Entry}
use Rattle.work_space.specs.Blocks.{put}
use Rattle.work_space.proofs.BlockLaws.{put-at, put-there}
use Rattle.disk_objects.specs.declared.rest.DiskRest.{DiskRest}
use Rattle.disk_objects.specs.Calls.{HoldsObjects, IsGot, TookFirst, changed_by, renamed, swapped_by}
use Rattle.disk_objects.specs.Disk.{Objects, DiskObject, IsDisk, IsInBlock, AreAlike, disk_held, object_of, names_text, tail_text}
use Rattle.disk_objects.specs.Function.{ChangesCount, IsFetched, KeepsObjects, PutsObject, RemovesObject, SwapsObjects, count_held, counts_at, counts_of, disk_of, exchanged, object_held, object_there, objects_at, record_at}
use Rattle.disk_objects.proofs.KeyLaws.{disk-len}
use Rattle.disk_objects.proofs.RecordLaws.{length-tail, text-parts}
use Rattle.disk_objects.proofs.StoredLaws.{equal_or_not, insert-at, insert-there, remove-at, remove-there}

-- ---- a record that stands in a block

tail-fits : (r : RawRecord) → IsRawRecord r → length (tail_text r) ≤ LONGEST_RECORD - KIND_AT
tail-fits r is = let n = length-tail r in let m = longest-raw r is in let e = length-text r in omega (arith, n, m, e)

front-of : (w : List ℕ) (at n m : ℕ) → m ≤ n → take m (window w at n) ≡ window w at m
front-of w at n m fits = window-taken w at n 0 m (omega (arith, fits)) ∙ ap (λ (p : ℕ). window w p m) (let e : at + 0 ≡ at = omega arith in e)

zeros : eight_bytes 0 ≡ replicate 8 0
unfolding eight_bytes
zeros = refl

block-object : (work : List ℕ) (out : ℕ → Option ℕ) (link name : ℕ) (e : Entry) (o : DiskObject) → IsInBlock work out link name e o
    → object_in (raw_of (record_at work e.place)) ≡ object_in o.raw
unfolding record_at
block-object work out link name e o st =
    let n : ℕ = length (tail_text o.raw) in
    let all : List ℕ = window work (e.place + 16) 262144 in
    let tail : take n all ≡ tail_text o.raw = front-of work (e.place + 16) 262144 n (tail-fits o.raw st.raw) ∙ st.laid.tail in
    let split : all ≡ tail_text o.raw ++ drop n all = sym (take-append-drop n all) ∙ ap (λ (t : List ℕ). t ++ drop n all) tail in
    let count : replicate 8 0 ≡ eight_bytes o.raw.count = sym zeros ∙ ap eight_bytes (sym st.uncounted) in
    let text : window work e.place 8 ++ (replicate 8 0 ++ all) ≡ raw_text o.raw ++ drop n all =
    ap (λ (t : List ℕ). t ++ (replicate 8 0 ++ all)) st.laid.names
    ∙ ap (λ (t : List ℕ). names_text o.raw ++ (t ++ all)) count
    ∙ ap (λ (t : List ℕ). names_text o.raw ++ (eight_bytes o.raw.count ++ t)) split
    ∙ ap (λ (t : List ℕ). names_text o.raw ++ t) (sym (append_assoc (eight_bytes o.raw.count) (tail_text o.raw) (drop n all)))
    ∙ sym (append_assoc (names_text o.raw) (eight_bytes o.raw.count ++ tail_text o.raw) (drop n all))
    ∙ ap (λ (t : List ℕ). t ++ drop n all) (sym (text-parts o.raw)) in
    ap object_in (begun (window work e.place 8 ++ (replicate 8 0 ++ all)) o.raw (drop n all) st.raw text).1

-- ---- the functions are the map

alike-object : (work : List ℕ) (out : ℕ → Option ℕ) (link name : ℕ) (x : Option Entry) (y : Option DiskObject) → AreAlike work out link name x y → object_there work x ≡ object_held y
alike-object work out link name None None alike = refl
alike-object work out link name None (Some o) alike = absurd alike
alike-object work out link name (Some e) None alike = absurd alike
alike-object work out link name (Some e) (Some o) alike = ap Some (block-object work out link name e o alike)

alike-count : (work : List ℕ) (out : ℕ → Option ℕ) (link name : ℕ) (x : Option Entry) (y : Option DiskObject) → AreAlike work out link name x y
    → option_map (λ (e : Entry). e.count) x ≡ count_held y
alike-count work out link name None None alike = refl
alike-count work out link name None (Some o) alike = absurd alike
alike-count work out link name (Some e) None alike = absurd alike
alike-count work out link name (Some e) (Some o) alike = ap (λ (n : ℕ). Some n) (sym alike.count)

pub disk-is : (rest : DiskRest) (work : List ℕ) (objects : Objects) (pending : List ℕ) (n : ℕ) → IsDisk rest work objects pending
    → objects_at rest work n ≡ object_held (map.get objects n)
unfolding objects_at
disk-is rest work objects pending n disk = alike-object work disk.out (disk.link n) n (map.get (entries_of rest.directory work) n) (map.get objects n) (disk.kept.stored.each n)

pub counts-is : (rest : DiskRest) (work : List ℕ) (objects : Objects) (pending : List ℕ) (n : ℕ) → IsDisk rest work objects pending
    → counts_at rest work n ≡ count_held (map.get objects n)
unfolding counts_at
counts-is rest work objects pending n disk = alike-count work disk.out (disk.link n) n (map.get (entries_of rest.directory work) n) (map.get objects n) (disk.kept.stored.each n)

-- ---- what a change of the map makes of them, of any part of what a name has

module _ {A : Type 0} (part : DiskObject → A) (objects : Objects) where
  -- the part of each name
  abbrev pub parts : Objects → ℕ → Option A
  parts m n = option_map part (map.get m n)

  pub parts-insert : (name : ℕ) (o : DiskObject) (n : ℕ) → parts (map.insert objects name o) n ≡ put (parts objects) name (Some (part o)) n
  parts-insert name o n = ⊎_elim
      (λ (h : n ≡ name). ap (option_map part) (insert-at objects name o n h) ∙ sym (put-at (parts objects) name (Some (part o)) n h))
      (λ (h : n ≢ name). ap (option_map part) (insert-there objects name o n h) ∙ sym (put-there (parts objects) name (Some (part o)) n h))
      (equal_or_not n name)

  pub parts-remove : (name : ℕ) (n : ℕ) → parts (map.remove objects name) n ≡ put (parts objects) name None n
  parts-remove name n = ⊎_elim
      (λ (h : n ≡ name). ap (option_map part) (remove-at objects name n h) ∙ sym (put-at (parts objects) name None n h))
      (λ (h : n ≢ name). ap (option_map part) (remove-there objects name n h) ∙ sym (put-there (parts objects) name None n h))
      (equal_or_not n name)

  -- the part that was there already
  pub parts-same : (name : ℕ) (o p : DiskObject) (n : ℕ) → map.get objects name ≡ Some o → part p ≡ part o → parts (map.insert objects name p) n ≡ parts objects n
  parts-same name o p n there same = ⊎_elim
      (λ (h : n ≡ name). ap (option_map part) (insert-at objects name p n h) ∙ ap (λ (a : A). Some a) same ∙ sym (ap (option_map part) (ap (map.get objects) h ∙ there)))
      (λ (h : n ≢ name). ap (option_map part) (insert-there objects name p n h))
      (equal_or_not n name)

put-again : {A : Type 0} (f g : ℕ → A) (k n : ℕ) (a : A) → ((m : ℕ) → f m ≡ g m) → put f k a n ≡ put g k a n
put-again f g k n a same = ap (λ h. put h k a n) (fun_ext same)

module _ (rest now : DiskRest) (work after : List ℕ) (objects : Objects) (pending left : List ℕ) (k : IsDisk rest work objects pending) where
  pub keeps-objects : IsDisk now after objects left → objects_at now after ≡ objects_at rest work
  keeps-objects is = fun_ext (λ n. disk-is now after objects left n is ∙ sym (disk-is rest work objects pending n k))

  pub keeps-counts : IsDisk now after objects left → counts_at now after ≡ counts_at rest work
  keeps-counts is = fun_ext (λ n. counts-is now after objects left n is ∙ sym (counts-is rest work objects pending n k))

  pub put-is : (r : RawRecord) (count : ℕ) → IsDisk now after (map.insert objects r.name (object_of r count)) left
      → objects_at now after ≡ put (objects_at rest work) r.name (Some (object_in r))
  put-is r count is = fun_ext (λ n.
      disk-is now after (map.insert objects r.name (object_of r count)) left n is
      ∙ parts-insert (λ d. object_in d.raw) objects r.name (object_of r count) n
      ∙ put-again (λ m. object_held (map.get objects m)) (objects_at rest work) r.name n (Some (object_in r)) (λ m. sym (disk-is rest work objects pending m k)))

  pub put-counts : (name : ℕ) (o : DiskObject) → IsDisk now after (map.insert objects name o) left
      → counts_at now after ≡ put (counts_at rest work) name (Some o.count)
  put-counts name o is = fun_ext (λ n.
      counts-is now after (map.insert objects name o) left n is
      ∙ parts-insert (λ d. d.count) objects name o n
      ∙ put-again (λ m. count_held (map.get objects m)) (counts_at rest work) name n (Some o.count) (λ m. sym (counts-is rest work objects pending m k)))

  pub removed-objects : (name : ℕ) → IsDisk now after (map.remove objects name) left → objects_at now after ≡ put (objects_at rest work) name None
  removed-objects name is = fun_ext (λ n.
      disk-is now after (map.remove objects name) left n is
      ∙ parts-remove (λ d. object_in d.raw) objects name n
      ∙ put-again (λ m. object_held (map.get objects m)) (objects_at rest work) name n None (λ m. sym (disk-is rest work objects pending m k)))

  pub removed-counts : (name : ℕ) → IsDisk now after (map.remove objects name) left → counts_at now after ≡ put (counts_at rest work) name None
  removed-counts name is = fun_ext (λ n.
      counts-is now after (map.remove objects name) left n is
      ∙ parts-remove (λ d. d.count) objects name n
      ∙ put-again (λ m. count_held (map.get objects m)) (counts_at rest work) name n None (λ m. sym (counts-is rest work objects pending m k)))

  pub same-objects : (name : ℕ) (o p : DiskObject) → map.get objects name ≡ Some o → p.raw ≡ o.raw → IsDisk now after (map.insert objects name p) left
      → objects_at now after ≡ objects_at rest work
  same-objects name o p there same is = fun_ext (λ n.
      disk-is now after (map.insert objects name p) left n is
      ∙ parts-same (λ d. object_in d.raw) objects name o p n there (ap object_in same)
      ∙ sym (disk-is rest work objects pending n k))

  -- so many are held after a put
  pub put-held : (name : ℕ) (o : DiskObject) → IsDisk now after (map.insert objects name o) left
      → disk_held now ≡ disk_held rest + cond (is_some (objects_at rest work name)) 0 1
  put-held name o is = go (map.get objects name) refl (sym (disk-len now after (map.insert objects name o) left is) ∙ map.len-insert nat_cmp_total objects name o)
    where
      go : (x : Option DiskObject) → map.get objects name ≡ x → disk_held now ≡ cond (map.contains_key objects name) (map.len objects) (map.len objects + 1)
          → disk_held now ≡ disk_held rest + cond (is_some (objects_at rest work name)) 0 1
      go None e h =
          let key : map.contains_key objects name ≡ false = ap is_some e in
          let there : is_some (objects_at rest work name) ≡ false = ap is_some (disk-is rest work objects pending name k ∙ ap object_held e) in
          let len = disk-len rest work objects pending k in
          let h' : disk_held now ≡ map.len objects + 1 = h ∙ ap (λ (x : Bool). cond x (map.len objects) (map.len objects + 1)) key in
          let t' : cond {A = ℕ} (is_some (objects_at rest work name)) 0 1 ≡ 1 = ap (λ (x : Bool). cond {A = ℕ} x 0 1) there in
          omega arith
      go (Some p) e h =
          let key : map.contains_key objects name ≡ true = ap is_some e in
          let there : is_some (objects_at rest work name) ≡ true = ap is_some (disk-is rest work objects pending name k ∙ ap object_held e) in
          let len = disk-len rest work objects pending k in
          let h' : disk_held now ≡ map.len objects = h ∙ ap (λ (x : Bool). cond x (map.len objects) (map.len objects + 1)) key in
          let t' : cond {A = ℕ} (is_some (objects_at rest work name)) 0 1 ≡ 0 = ap (λ (x : Bool). cond {A = ℕ} x 0 1) there in
          omega arith

-- ---- two names exchange their records

module _ {A : Type 0} (part : DiskObject → A) (objects : Objects) (a b : ℕ) (x y : DiskObject) where
  -- of two names that are put one after the other
  parts-twice : (n : ℕ) → option_map part (map.get (map.insert (map.insert objects a x) b y) n)
      ≡ put (put (λ m. option_map part (map.get objects m)) a (Some (part x))) b (Some (part y)) n
  parts-twice n =
      parts-insert part (map.insert objects a x) b y n
      ∙ put-again (λ m. option_map part (map.get (map.insert objects a x) m)) (put (λ m. option_map part (map.get objects m)) a (Some (part x))) b n (Some (part y))
      (parts-insert part objects a x)

put-same : {A : Type 0} (f : ℕ → A) (k : ℕ) (x : A) → f k ≡ x → (n : ℕ) → put f k x n ≡ f n
put-same f k x is n = ⊎_elim
    (λ (h : n ≡ k). put-at f k x n h ∙ sym (ap f h ∙ is))
    (λ (h : n ≢ k). put-there f k x n h)
    (equal_or_not n k)

module _ (rest now : DiskRest) (work after : List ℕ) (objects : Objects) (pending left : List ℕ) (k : IsDisk rest work objects pending) (a b : ℕ) (o p : DiskObject)
    (at_a : map.get objects a ≡ Some o) (at_b : map.get objects b ≡ Some p) (is : IsDisk now after (map.insert (map.insert objects a (renamed p a o.count)) b (renamed o b p.count)) left) where
  pub swapped-objects : objects_at now after ≡ exchanged (objects_at rest work) a b
  swapped-objects =
      let f : ℕ → Option Object = λ m. object_held (map.get objects m) in
      let was : f ≡ objects_at rest work = fun_ext (λ m. sym (disk-is rest work objects pending m k)) in
      let fa : f a ≡ Some (object_in o.raw) = ap object_held at_a in
      let fb : f b ≡ Some (object_in p.raw) = ap object_held at_b in
      fun_ext (λ n. disk-is now after (map.insert (map.insert objects a (renamed p a o.count)) b (renamed o b p.count)) left n is
      ∙ parts-twice (λ d. object_in d.raw) objects a b (renamed p a o.count) (renamed o b p.count) n
      ∙ ap (λ (v : Option Object). put (put f a v) b (Some (object_in o.raw)) n) (sym fb)
      ∙ ap (λ (v : Option Object). put (put f a (f b)) b v n) (sym fa)
      ∙ ap (λ (h : ℕ → Option Object). exchanged h a b n) was)

  pub swapped-counts : counts_at now after ≡ counts_at rest work
  swapped-counts =
      let f : ℕ → Option ℕ = λ m. count_held (map.get objects m) in
      fun_ext (λ n. counts-is now after (map.insert (map.insert objects a (renamed p a o.count)) b (renamed o b p.count)) left n is
      ∙ parts-twice (λ d. d.count) objects a b (renamed p a o.count) (renamed o b p.count) n
      ∙ put-same (put f a (Some o.count)) b (Some p.count) (put-same f a (Some o.count) (ap count_held at_a) b ∙ ap count_held at_b) n
      ∙ put-same f a (Some o.count) (ap count_held at_a) n
      ∙ sym (counts-is rest work objects pending n k))

-- ---- over Work of a host

module _ {H : Type 0} (host : Ghosts H) (old new : H) (rest after : DiskRest) where
  -- a disk that was only read, or not even that
  pub same-disk : after ≡ rest → work_of host new ≡ work_of host old → HoldsObjects host old rest → KeepsObjects host old new rest after
  same-disk same still stands = record {
    stands = λ told. let s = stands told in
        (s.0, s.1, subst (λ (r : DiskRest). IsDisk r (work_of host new) s.0 s.1) (sym same) (subst (λ (w : List ℕ). IsDisk rest w s.0 s.1) (sym still) s.2), tt);
    objects = ap (λ (r : DiskRest). objects_at r (work_of host new)) same ∙ ap (objects_at rest) still;
    counts = ap (λ (r : DiskRest). counts_at r (work_of host new)) same ∙ ap (counts_at rest) still;
  }

  module _ (objects : Objects) (pending : List ℕ) (k : IsDisk rest (work_of host old) objects pending) where
    pub kept-disk : (left : List ℕ) → IsDisk after (work_of host new) objects left → KeepsObjects host old new rest after
    kept-disk left is = record {
      stands = λ told. (objects, left, is, tt);
      objects = keeps-objects rest after (work_of host old) (work_of host new) objects pending left k is;
      counts = keeps-counts rest after (work_of host old) (work_of host new) objects pending left k is;
    }

    pub kept-if : {E : Type 0} (r : Result (Unit {0}) E) (left : List ℕ) → OnOk r (IsDisk after (work_of host new) objects left) → OnOk r (KeepsObjects host old new rest after)
    kept-if (Ok x) left is = kept-disk left is
    kept-if (Err e) left is = tt

    pub kept-taken : {E : Type 0} (r : Result (Option ℕ) E) → IfOk r (TookFirst pending (IsDisk after (work_of host new) objects)) → IsOk r → KeepsObjects host old new rest after
    kept-taken (Ok None) is ok = kept-disk [] is.1
    kept-taken (Ok (Some name)) is ok = kept-disk is.0 is.2
    kept-taken (Err e) is ok = absurd (let no : false ≡ true = ok in cc no)

    pub put-if : {E : Type 0} (r : Result (Unit {0}) E) (raw : RawRecord) (count : ℕ)
        → OnOk r (IsDisk after (work_of host new) (map.insert objects raw.name (object_of raw count)) pending) → OnOk r (PutsObject host old new rest after raw count)
    put-if (Ok x) raw count is = record {
      stands = λ told. (map.insert objects raw.name (object_of raw count), pending, is, tt);
      objects = put-is rest after (work_of host old) (work_of host new) objects pending pending k raw count is;
      counts = put-counts rest after (work_of host old) (work_of host new) objects pending pending k raw.name (object_of raw count) is;
      held = put-held rest after (work_of host old) (work_of host new) objects pending pending k raw.name (object_of raw count) is;
    }
    put-if (Err e) raw count is = tt

    pub removed-if : {E : Type 0} (r : Result (Unit {0}) E) (name : ℕ) → OnOk r (IsDisk after (work_of host new) (map.remove objects name) pending)
        → OnOk r (RemovesObject host old new rest after name)
    removed-if (Ok x) name is = record {
      stands = λ told. (map.remove objects name, pending, is, tt);
      objects = removed-objects rest after (work_of host old) (work_of host new) objects pending pending k name is;
      counts = removed-counts rest after (work_of host old) (work_of host new) objects pending pending k name is;
    }
    removed-if (Err e) name is = tt

    pub changed-if : {E : Type 0} (r : Result ℕ E) (name : ℕ) (change : ℤ) (o : DiskObject) → map.get objects name ≡ Some o
        → IfOk r (λ count. (count ≡ changed_by o.count change) × IsDisk after (work_of host new) (map.insert objects name (record { raw = o.raw; count = count })) pending)
        → IfOk r (ChangesCount host old new rest after name change)
    changed-if (Ok count) name change o there is =
        let p : DiskObject = record { raw = o.raw; count = count } in
        record {
          stands = λ told. (map.insert objects name p, pending, is.1, tt);
          by = ap (option_map (λ n. changed_by n change)) (counts-is rest (work_of host old) objects pending name k ∙ ap count_held there) ∙ ap (λ (n : ℕ). Some n) (sym is.0);
          objects = same-objects rest after (work_of host old) (work_of host new) objects pending pending k name o p there refl is.1;
          counts = put-counts rest after (work_of host old) (work_of host new) objects pending pending k name p is.1;
        }
    changed-if (Err e) name change o there is = tt

    pub swapped-if : {E : Type 0} (r : Result (Unit {0}) E) (a b : ℕ) (x y : Option DiskObject) → map.get objects a ≡ x → map.get objects b ≡ y → is_some x ≡ true
        → is_some y ≡ true → OnOk r (IsDisk after (work_of host new) (swapped_by objects a b x y) pending) → OnOk r (SwapsObjects host old new rest after a b)
    swapped-if (Ok u) a b (Some o) (Some p) at_a at_b some_a some_b is = record {
      stands = λ told. (swapped_by objects a b (Some o) (Some p), pending, is, tt);
      objects = swapped-objects rest after (work_of host old) (work_of host new) objects pending pending k a b o p at_a at_b is;
      counts = swapped-counts rest after (work_of host old) (work_of host new) objects pending pending k a b o p at_a at_b is;
    }
    swapped-if (Ok u) a b (Some o) None at_a at_b some_a some_b is = absurd (let no : false ≡ true = some_b in cc no)
    swapped-if (Ok u) a b None y at_a at_b some_a some_b is = absurd (let no : false ≡ true = some_a in cc no)
    swapped-if (Err e) a b x y at_a at_b some_a some_b is = tt

    pub fetched : {E : Type 0} (r : Result Bool E) (bytes : List ℕ) (name : ℕ) → IfOk r (IsGot bytes (map.get objects name))
        → IfOk r (IsFetched bytes (disk_of host old rest name))
    fetched (Ok b) bytes name got = subst (λ (o : Option Object). IsFetched bytes o b) (sym (disk-is rest (work_of host old) objects pending name k)) (by_object (map.get objects name) b got)
      where
        by_object : (o : Option DiskObject) (b : Bool) → IsGot bytes o b → IsFetched bytes (object_held o) b
        by_object (Some o) true got = ap object_in (sym got.raw_is)
        by_object (Some o) false got = got
        by_object None true got = got
        by_object None false got = got
    fetched (Err e) bytes name got = tt

    pub fetched_counted : {E : Type 0} (r : Result (Option ℕ) E) (bytes : List ℕ) (name : ℕ) → IfOk r (λ count. IsGot bytes (map.get objects name) (is_some count))
        → IfOk r (λ count. IsFetched bytes (disk_of host old rest name) (is_some count))
    fetched_counted {E = E} (Ok count) bytes name got = fetched {E = E} (Ok (is_some count)) bytes name got
    fetched_counted (Err e) bytes name got = tt

    pub counted : {E : Type 0} (r : Result (Option ℕ) E) (name : ℕ) → IfOk r (λ count. count ≡ count_held (map.get objects name)) → IfOk r (λ count. count ≡ counts_of host old rest name)
    counted (Ok c) name is = is ∙ sym (counts-is rest (work_of host old) objects pending name k)
    counted (Err e) name is = tt

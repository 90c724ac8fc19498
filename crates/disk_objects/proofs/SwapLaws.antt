-- Two names exchange their records: each record is written anew in its block, and the two slots exchange their places.
use Rattle.std.proofs.Common.{◌≡◌, ◌≢◌, ℕ, ◌≤◌, inl, ⊎_elim, List, Option, Some, refl, sym, ap, subst, ◌∙◌, arith}
use Rattle.std.specs.Prelude.{IsSome}
use Rattle.std.specs.FinMap as map
use Rattle.long_names.specs.Names.{IsLongName}
use Rattle.object_record.specs.Raw.{RawRecord, IsRawRecord, with_name}
use Rattle.work_directory.specs.Directory.{slots_of, end_of, entries_of, AnswersSearch, IsIn, IsOfName, IsChanged}
use Rattle.work_directory.specs.declared.directory.Found.{Found}
use Rattle.work_directory.specs.Table.{Entry, Entries}
use Rattle.work_directory.specs.declared.directory.Directory.{Directory}
use Rattle.work_directory.proofs.ContentsLaws.{same-again}
use Rattle.work_directory.proofs.EntryLaws.{search-kept}
use Rattle.work_space.specs.Blocks.{block_size, put}
use Rattle.work_space.proofs.BlockLaws.{put-at, put-there, some-inside}
use Rattle.disk_objects.specs.declared.rest.DiskRest.{DiskRest}
use Rattle.disk_objects.specs.Calls.{renamed, swapped, swapped_by}
use Rattle.disk_objects.specs.Disk.{DiskObject, Objects, IsLaid, IsInBlock, AreInBlocks, AreAlike, HasSpace, IsDisk, IsOwned, record_size}
use Rattle.disk_objects.specs.Inside.{Writes}
use Rattle.disk_objects.proofs.TouchLaws.{before-touched, directory-kept, laid-kept}
use Rattle.disk_objects.proofs.StoredLaws.{Stays, alike-at, alike-kept, equal_or_not, insert-again, insert-at, insert-same, insert-there, pending-insert}
use Rattle.disk_objects.proofs.DiskLaws.{block-behind, space-front, space-inside, stays-apart, stays-front}
use Rattle.disk_objects.specs.Inside.{IsHeld, IsSizedHeld}
use Rattle.disk_objects.specs.declared.rest.Held.{Held}
use Rattle.disk_objects.proofs.FoundLaws.{stored-there}
use Rattle.disk_objects.proofs.PutLaws.{held-class}

renamed-raw : (r : RawRecord) (name : ℕ) → IsLongName name → IsRawRecord r → IsRawRecord (with_name r name)
renamed-raw r name long is = record { name = long; class = is.class; count = is.count; size = is.size; range = is.range }

named-itself : (r : RawRecord) (name : ℕ) → r.name ≡ name → with_name r name ≡ r
named-itself r name is = λ i. record { name = sym is i; class = r.class; count = r.count; body = r.body }

-- what stays over two changes
stays-again : (u v w : List ℕ) (out : ℕ → Option ℕ) (oe : Option Entry) → Stays u v out out oe → Stays v w out out oe → Stays u w out out oe
stays-again u v w out oe a b f c is block = let x = a f c is block in let y = b f c is block in (block, y.1 ∙ x.1)

-- a name exchanged for another
abbrev other_name : ℕ → ℕ → ℕ → ℕ
other_name a b = put (put (λ n. n) b a) a b

-- ---- one record that is written anew in its block

-- blocks and directory after a write in a block, and another block
module _ (rest : DiskRest) (u v laid : List ℕ) (out : ℕ → Option ℕ) (has : HasSpace rest.directory rest.space u laid out) (p c : ℕ) (raw : RawRecord) (link : ℕ)
    (gone : out p ≡ Some c) (fits : record_size raw ≤ block_size c) (wrote : Writes u v p raw link) where
  pub written-space : HasSpace rest.directory rest.space v laid out
  written-space = space-inside rest.directory rest.space u v laid out has p c p (record_size raw) gone (omega arith) (omega (arith, fits)) wrote.touches

  pub written-directory : IsIn rest.directory u → IsIn rest.directory v × (entries_of rest.directory v ≡ entries_of rest.directory u)
  written-directory is =
      let low = (block-behind rest.directory rest.space u v laid out has p c gone).0 in
      directory-kept rest.directory u v (λ at n before. wrote.touches.rest at n (inl (omega (arith, before, low)))) is

  pub written-stays : (oe : Option Entry) → ((g : Entry) → oe ≡ Some g → g.place ≢ p) → Stays u v out out oe
  written-stays oe away = stays-apart rest.directory rest.space u v laid out has p c p (record_size raw) gone (omega arith) (omega (arith, fits)) wrote.touches oe away

module _ (rest : DiskRest) (u : List ℕ) (objects : Objects) (pending : List ℕ) (k : IsDisk rest u objects pending) (a b : ℕ) (e f : Entry) (o p : DiskObject)
    (apart : a ≢ b) (entry_a : map.get (entries_of rest.directory u) a ≡ Some e) (entry_b : map.get (entries_of rest.directory u) b ≡ Some f)
    (one : IsInBlock u k.out (k.link a) a e o) (two : IsInBlock u k.out (k.link b) b f p) (v : List ℕ) (first : Writes u v e.place (with_name o.raw b) (k.link b)) where
  other-place : f.place ≢ e.place
  other-place same = apart (sym (k.kept.stored.apart b a f e entry_b entry_a same))

  away-second : (g : Entry) → Some f ≡ Some g → g.place ≢ e.place
  away-second g is same = other-place (ap (λ (z : Entry). z.place) (some-inside is) ∙ same)

  away-first : (g : Entry) → Some e ≡ Some g → g.place ≢ f.place
  away-first g is same = other-place (sym (ap (λ (z : Entry). z.place) (some-inside is) ∙ same))

  first-directory : IsIn rest.directory v × (entries_of rest.directory v ≡ entries_of rest.directory u)
  first-directory = written-directory rest u v k.laid k.out k.kept.space e.place one.class (with_name o.raw b) (k.link b) one.block one.is_class.fits first k.kept.directory

  first-space : HasSpace rest.directory rest.space v k.laid k.out
  first-space = written-space rest u v k.laid k.out k.kept.space e.place one.class (with_name o.raw b) (k.link b) one.block one.is_class.fits first

  first-stays : (oe : Option Entry) → ((g : Entry) → oe ≡ Some g → g.place ≢ e.place) → Stays u v k.out k.out oe
  first-stays = written-stays rest u v k.laid k.out k.kept.space e.place one.class (with_name o.raw b) (k.link b) one.block one.is_class.fits first

  -- the other record still stands where it stood
  pub second-laid : IsLaid v f.place p.raw (k.link b)
  second-laid = laid-kept u v f.place (block_size two.class) p.raw (k.link b) two.is_class.fits (first-stays (Some f) away-second f two.class refl two.block).1 two.laid

  module _ (w : List ℕ) (second : Writes v w f.place (with_name p.raw a) (k.link a)) where
    pub second-directory : IsIn rest.directory w × (entries_of rest.directory w ≡ entries_of rest.directory u)
    second-directory =
        let r = written-directory rest v w k.laid k.out first-space f.place two.class (with_name p.raw a) (k.link a) two.block two.is_class.fits second first-directory.0 in
        (r.0, r.1 ∙ first-directory.1)

    second-space : HasSpace rest.directory rest.space w k.laid k.out
    second-space = written-space rest v w k.laid k.out first-space f.place two.class (with_name p.raw a) (k.link a) two.block two.is_class.fits second

    second-stays : (oe : Option Entry) → ((g : Entry) → oe ≡ Some g → g.place ≢ f.place) → Stays v w k.out k.out oe
    second-stays = written-stays rest v w k.laid k.out first-space f.place two.class (with_name p.raw a) (k.link a) two.block two.is_class.fits second

    first-laid : IsLaid w e.place (with_name o.raw b) (k.link b)
    first-laid = laid-kept v w e.place (block_size one.class) (with_name o.raw b) (k.link b) one.is_class.fits (second-stays (Some e) away-first e one.class refl one.block).1 first.laid

    -- ---- the slots exchange their places

    abbrev e' : Entry
    e' = record { count = e.count; place = f.place }

    abbrev f' : Entry
    f' = record { count = f.count; place = e.place }

    abbrev entries' : Entries
    entries' = map.insert (map.insert (entries_of rest.directory u) a e') b f'

    abbrev objects' : Objects
    objects' = map.insert (map.insert objects a (renamed p a o.count)) b (renamed o b p.count)

    entry-there : (q : ℕ) → q ≢ a → q ≢ b → map.get entries' q ≡ map.get (entries_of rest.directory u) q
    entry-there q x y = insert-there (map.insert (entries_of rest.directory u) a e') b f' q y ∙ insert-there (entries_of rest.directory u) a e' q x

    entry-a : (q : ℕ) → q ≡ a → q ≢ b → map.get entries' q ≡ Some e'
    entry-a q x y = insert-there (map.insert (entries_of rest.directory u) a e') b f' q y ∙ insert-at (entries_of rest.directory u) a e' q x

    entry-b : (q : ℕ) → q ≡ b → map.get entries' q ≡ Some f'
    entry-b q y = insert-at (map.insert (entries_of rest.directory u) a e') b f' q y

    -- whose place an entry has now
    Origin : ℕ → Entry → Type 0
    Origin m g = (q : ℕ) × (r : Entry) × (map.get (entries_of rest.directory u) q ≡ Some r) × (r.place ≡ g.place) × (other_name a b q ≡ m)

    origin : (m : ℕ) (g : Entry) → map.get entries' m ≡ Some g → Origin m g
    unfolding Origin
    origin m g is = ⊎_elim
        (λ (y : m ≡ b). (a, e, entry_a, ap (λ (z : Entry). z.place) (some-inside (sym (entry-b m y) ∙ is)), put-at (put (λ n. n) b a) a b a refl ∙ sym y))
        (λ (y : m ≢ b). ⊎_elim
        (λ (x : m ≡ a). (
          b,
          f,
          entry_b,
          ap (λ (z : Entry). z.place) (some-inside (sym (entry-a m x y) ∙ is)),
          put-there (put (λ n. n) b a) a b b (λ same. apart (sym same)) ∙ put-at (λ n. n) b a b refl ∙ sym x,
        ))
        (λ (x : m ≢ a). (m, g, sym (entry-there m x y) ∙ is, refl, put-there (put (λ n. n) b a) a b m x ∙ put-there (λ n. n) b a m y))
        (equal_or_not m a))
        (equal_or_not m b)

    entries-apart : (m n : ℕ) (g h : Entry) → map.get entries' m ≡ Some g → map.get entries' n ≡ Some h → g.place ≡ h.place → m ≡ n
    unfolding Origin
    entries-apart m n g h x y same =
        let r = origin m g x in
        let s = origin n h y in
        let one_name : r.0 ≡ s.0 = k.kept.stored.apart r.0 s.0 r.1 s.1 r.2 s.2 (r.3 ∙ same ∙ sym s.3) in
        sym r.4 ∙ ap (other_name a b) one_name ∙ s.4

    entries-owned : (z c : ℕ) → k.out z ≡ Some c → IsOwned entries' z
    entries-owned z c gone =
        let r = k.owned z c gone in
        ⊎_elim
        (λ (x : r.0 ≡ a). (b, f', entry-b b refl, ap (λ (g : Entry). g.place) (some-inside (sym entry_a ∙ ap (map.get (entries_of rest.directory u)) (sym x) ∙ r.2)) ∙ r.3))
        (λ (x : r.0 ≢ a). ⊎_elim
        (λ (y : r.0 ≡ b). (a, e', entry-a a refl apart, ap (λ (g : Entry). g.place) (some-inside (sym entry_b ∙ ap (map.get (entries_of rest.directory u)) (sym y) ∙ r.2)) ∙ r.3))
        (λ (y : r.0 ≢ b). (r.0, r.1, entry-there r.0 x y ∙ r.2, r.3))
        (equal_or_not r.0 b))
        (equal_or_not r.0 a)

    module _ (x : List ℕ) (ch : IsChanged rest.directory entries' w x) where
      last-stays : (oe : Option Entry) → Stays w x k.out k.out oe
      last-stays = stays-front rest.directory rest.directory rest.space w x k.laid k.out second-space refl ch.behind

      all-stays : (q : ℕ) → q ≢ a → q ≢ b → Stays u x k.out k.out (map.get (entries_of rest.directory u) q)
      all-stays q not_a not_b =
          let oe : Option Entry = map.get (entries_of rest.directory u) q in
          stays-again u v x k.out oe (first-stays oe (λ g is same. not_a (k.kept.stored.apart q a g e is entry_a same)))
          (stays-again v w x k.out oe (second-stays oe (λ g is same. not_b (k.kept.stored.apart q b g f is entry_b same))) (last-stays oe))

      at-a : IsInBlock x k.out (k.link a) a e' (renamed p a o.count)
      at-a = record {
        count = one.count;
        named = refl;
        uncounted = two.uncounted;
        raw = renamed-raw p.raw a (subst IsLongName one.named one.raw.name) two.raw;
        class = two.class;
        is_class = two.is_class;
        block = two.block;
        laid = laid-kept w x f.place (block_size two.class) (with_name p.raw a) (k.link a) two.is_class.fits (last-stays (Some f) f two.class refl two.block).1 second.laid;
      }

      at-b : IsInBlock x k.out (k.link b) b f' (renamed o b p.count)
      at-b = record {
        count = two.count;
        named = refl;
        uncounted = one.uncounted;
        raw = renamed-raw o.raw b (subst IsLongName two.named two.raw.name) one.raw;
        class = one.class;
        is_class = one.is_class;
        block = one.block;
        laid = laid-kept w x e.place (block_size one.class) (with_name o.raw b) (k.link b) one.is_class.fits (last-stays (Some e) e one.class refl one.block).1 first-laid;
      }

      each-name : (q : ℕ) → AreAlike x k.out (k.link q) q (map.get entries' q) (map.get objects' q)
      each-name q = ⊎_elim
          (λ (y : q ≡ b). alike-at x k.out (k.link q) (k.link q) q (Some f') _ (Some (renamed o b p.count)) _ refl (entry-b q y)
          (insert-at (map.insert objects a (renamed p a o.count)) b (renamed o b p.count) q y)
          (subst (λ (n : ℕ). IsInBlock x k.out (k.link n) n f' (renamed o b p.count)) (sym y) at-b))
          (λ (y : q ≢ b). ⊎_elim
          (λ (z : q ≡ a). alike-at x k.out (k.link q) (k.link q) q (Some e') _ (Some (renamed p a o.count)) _ refl (entry-a q z y)
          (insert-there (map.insert objects a (renamed p a o.count)) b (renamed o b p.count) q y ∙ insert-at objects a (renamed p a o.count) q z)
          (subst (λ (n : ℕ). IsInBlock x k.out (k.link n) n e' (renamed p a o.count)) (sym z) at-a))
          (λ (z : q ≢ a). alike-at x k.out (k.link q) (k.link q) q (map.get (entries_of rest.directory u) q) _ (map.get objects q) _ refl (entry-there q z y)
          (insert-there (map.insert objects a (renamed p a o.count)) b (renamed o b p.count) q y ∙ insert-there objects a (renamed p a o.count) q z)
          (alike-kept u x k.out k.out (k.link q) q (map.get (entries_of rest.directory u) q) (map.get objects q) (all-stays q z y) (k.kept.stored.each q)))
          (equal_or_not q a))
          (equal_or_not q b)

      pub disk-swapped : IsDisk rest x objects' pending
      disk-swapped = record {
        laid = k.laid;
        out = k.out;
        link = k.link;
        kept = record {
          directory = ch.is_in;
          space = space-front rest.directory rest.space w x k.laid k.out second-space rest.directory refl ch.behind;
          stored = subst (λ (m : Entries). AreInBlocks x k.out k.link m objects') (sym ch.entries_are) (record { each = each-name; apart = entries-apart });
          linked = k.kept.linked;
          are_pending = pending-insert (map.insert objects a (renamed p a o.count)) pending b (renamed o b p.count)
              (pending-insert objects pending a (renamed p a o.count) k.kept.are_pending);
        };
        owned = subst (λ (m : Entries). (z c : ℕ) → k.out z ≡ Some c → IsOwned m z) (sym ch.entries_are) entries-owned;
      }

-- ---- a name that is exchanged with itself

renamed-itself : (o : DiskObject) (name : ℕ) → o.raw.name ≡ name → renamed o name o.count ≡ o
renamed-itself o name is = λ i. record { raw = named-itself o.raw name is i; count = o.count }

pub swapped-itself : (objects : Objects) (a : ℕ) (o : DiskObject) → map.get objects a ≡ Some o → o.raw.name ≡ a → swapped objects a a ≡ objects
swapped-itself objects a o there named =
    let r : DiskObject = renamed o a o.count in
    ap (λ (x : Option DiskObject). swapped_by objects a a x x) there
    ∙ insert-again objects a r r
    ∙ ap (λ (x : DiskObject). map.insert objects a x) (renamed-itself o a named)
    ∙ insert-same objects a o there

-- the same change of entries, told of other contents that have the same
pub exchanged-from : (d : Directory) (a b : ℕ) (x y : Entry) (w v z : List ℕ) → entries_of d w ≡ entries_of d v
    → IsChanged d (map.insert (map.insert (entries_of d w) a x) b y) w z → IsChanged d (map.insert (map.insert (entries_of d v) a x) b y) w z
exchanged-from d a b x y w v z same ch = subst (λ (m : Entries). IsChanged d (map.insert (map.insert m a x) b y) w z) same ch

-- two slots that are set one after the other
pub changed-again : (d : Directory) (a b : ℕ) (x y : Entry) (u v w : List ℕ) → IsChanged d (map.insert (entries_of d u) a x) u v
    → IsChanged d (map.insert (entries_of d v) b y) v w → IsChanged d (map.insert (map.insert (entries_of d u) a x) b y) u w
changed-again d a b x y u v w one two = record {
  is_in = two.is_in;
  entries_are = two.entries_are ∙ ap (λ (m : Entries). map.insert m b y) one.entries_are;
  behind = same-again (end_of d) u v w one.behind two.behind;
}

-- a name that was held stays held where another entry is put
pub still-held : (m : Entries) (a b : ℕ) (x : Entry) → IsSome (map.get m b) → IsSome (map.get (map.insert m a x) b)
still-held m a b x some = ⊎_elim
    (λ (h : b ≡ a). subst IsSome (sym (insert-at m a x b h)) refl)
    (λ (h : b ≢ a). subst IsSome (sym (insert-there m a x b h)) some)
    (equal_or_not b a)

-- ---- from what was looked up

-- what a disk has of two names of which this was looked up
pub record Swapping (rest : DiskRest) (v : List ℕ) (objects : Objects) (pending : List ℕ) (k : IsDisk rest v objects pending) (a b : ℕ) (one two : Held) : Type 0 where
  pub o : DiskObject
  pub p : DiskObject
  pub object_a : map.get objects a ≡ Some o
  pub object_b : map.get objects b ≡ Some p
  pub entry_a : map.get (entries_of rest.directory v) a ≡ Some (record { count = one.count; place = one.place })
  pub entry_b : map.get (entries_of rest.directory v) b ≡ Some (record { count = two.count; place = two.place })
  pub block_a : IsInBlock v k.out (k.link a) a (record { count = one.count; place = one.place }) o
  pub block_b : IsInBlock v k.out (k.link b) b (record { count = two.count; place = two.place }) p
  pub link_a : one.head.link ≡ k.link a
  pub link_b : two.head.link ≡ k.link b

pub swapping : (rest : DiskRest) (v : List ℕ) (objects : Objects) (pending : List ℕ) (k : IsDisk rest v objects pending) (a b : ℕ) (one two : Held)
    → IsHeld rest v a one → IsHeld rest v b two → IsSizedHeld one → IsSizedHeld two → Swapping rest v objects pending k a b one two
swapping rest v objects pending k a b one two ha hb sa sb =
    let r = held-class rest v objects pending k a one ha sa.head.class in
    let s = held-class rest v objects pending k b two hb sb.head.class in
    record {
      o = r.0;
      p = s.0;
      object_a = r.1;
      object_b = s.1;
      entry_a = ha.entry;
      entry_b = hb.entry;
      block_a = r.2;
      block_b = s.2;
      link_a = r.4;
      link_b = s.4;
    }

module _ (rest : DiskRest) (u : List ℕ) (objects : Objects) (pending : List ℕ) (k : IsDisk rest u objects pending) (a b : ℕ) (one two : Held)
    (s : Swapping rest u objects pending k a b one two) (apart : a ≢ b) (v : List ℕ) (first : Writes u v one.place (with_name s.o.raw b) two.head.link) where
  first-linked : Writes u v one.place (with_name s.o.raw b) (k.link b)
  first-linked = subst (λ (n : ℕ). Writes u v one.place (with_name s.o.raw b) n) s.link_b first

  -- the second record stands where it stood
  pub to-first : IsLaid v two.place s.p.raw (k.link b)
  to-first = second-laid rest u objects pending k a b (record { count = one.count; place = one.place }) (record { count = two.count; place = two.place }) s.o s.p apart
      s.entry_a s.entry_b s.block_a s.block_b v first-linked

  module _ (w : List ℕ) (second : Writes v w two.place (with_name s.p.raw a) one.head.link) where
    second-linked : Writes v w two.place (with_name s.p.raw a) (k.link a)
    second-linked = subst (λ (n : ℕ). Writes v w two.place (with_name s.p.raw a) n) s.link_a second

    -- and the directory is as it was
    pub to-second : IsIn rest.directory w × (entries_of rest.directory w ≡ entries_of rest.directory u)
    to-second = second-directory rest u objects pending k a b (record { count = one.count; place = one.place }) (record { count = two.count; place = two.place }) s.o s.p apart
        s.entry_a s.entry_b s.block_a s.block_b v first-linked w second-linked

    -- and so is where a search ends
    pub to-second-ends : (name : ℕ) (f : Found) → IsOfName (slots_of rest.directory) name f → AnswersSearch u (slots_of rest.directory) name f
        → AnswersSearch w (slots_of rest.directory) name f
    to-second-ends name f of is =
        let d : Directory = rest.directory in
        let low_a : end_of d ≤ one.place = (block-behind d rest.space u w k.laid k.out k.kept.space one.place s.block_a.class s.block_a.block).0 in
        let low_b : end_of d ≤ two.place = (block-behind d rest.space u w k.laid k.out k.kept.space two.place s.block_b.class s.block_b.block).0 in
        search-kept d v w name f (before-touched (end_of d) v w (λ at n before. second.touches.rest at n (inl (omega arith)))) of
        (search-kept d u v name f (before-touched (end_of d) u v (λ at n before. first.touches.rest at n (inl (omega arith)))) of is)

    pub to-last : (x : List ℕ) → IsChanged rest.directory (map.insert (map.insert (entries_of rest.directory w) a (record { count = one.count; place = two.place })) b (record { count = two.count; place = one.place })) w x
        → IsDisk rest x (swapped objects a b) pending
    to-last x ch =
        let done = disk-swapped rest u objects pending k a b (record { count = one.count; place = one.place }) (record { count = two.count; place = two.place }) s.o s.p apart
        s.entry_a s.entry_b s.block_a s.block_b v first-linked w second-linked x
        (exchanged-from rest.directory a b (record { count = one.count; place = two.place }) (record { count = two.count; place = one.place }) w u x to-second.1 ch) in
        subst (λ (y : Option DiskObject). IsDisk rest x (swapped_by objects a b y (map.get objects b)) pending) (sym s.object_a)
        (subst (λ (y : Option DiskObject). IsDisk rest x (swapped_by objects a b (Some s.o) y) pending) (sym s.object_b) done)

-- a name that is held, exchanged with itself
pub swap-itself : (rest : DiskRest) (v : List ℕ) (objects : Objects) (pending : List ℕ) (k : IsDisk rest v objects pending) (a b : ℕ) (e : Entry) → a ≡ b
    → map.get (entries_of rest.directory v) a ≡ Some e → IsDisk rest v (swapped objects a b) pending
swap-itself rest v objects pending k a b e same there =
    let st = stored-there rest v objects pending k a e there in
    subst (λ (n : ℕ). IsDisk rest v (swapped objects a n) pending) same
    (subst (λ (m : Objects). IsDisk rest v m pending) (sym (swapped-itself objects a st.0 st.1 st.2.named)) k)

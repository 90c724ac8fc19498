-- What is found of a name on a disk.
use Rattle.std.proofs.Common.{◌≡◌, ◌≢◌, ℕ, ◌+◌, ◌^◌, ◌<◌, ◌≤◌, ◌⊎◌, inl, inr, ⊎_elim, List, [], ◌∷◌, length, Option, Some, None, IsTrue, Bool, true, refl, sym, ap, subst, ◌∙◌, arith}
use Rattle.std.specs.Prelude.{IsSome}
use Rattle.std.specs.FinMap as map
use Rattle.std.specs.FinMap.{get-empty}
use Rattle.std.specs.Ordering.{nat_cmp}
use Rattle.long_names.specs.declared.limits.TheConstants.{LONGEST_RECORD}
use Rattle.long_names.specs.Names.{IsLongName}
use Rattle.loom_host.specs.Bytes.{window}
use Rattle.loom_host.specs.declared.outside.DiskFault.{DiskFault}
use Rattle.loom_host.specs.declared.outside.DiskFault.TheVariants.{Work, Full, Damaged}
use Rattle.object_record.specs.Raw.{RawRecord, IsRawRecord}
use Rattle.object_record.proofs.Calls.{length-text}
use Rattle.object_record.proofs.Records.{longest-raw}
use Rattle.work_directory.specs.Directory.{room_of, end_of, entries_of, IsIn}
use Rattle.work_directory.specs.Table.{Entry, Entries}
use Rattle.work_directory.specs.declared.directory.Directory.{Directory}
use Rattle.work_space.specs.Blocks.{block_size, put, times, link_at, AreFew, AreLinked}
use Rattle.work_space.specs.Space.{IsSpace, from_of, end_of as space_end, first_of}
use Rattle.work_space.proofs.BlockLaws.{put-at, some-inside}
use Rattle.work_space.proofs.CountLaws.{end-most}
use Rattle.work_space.proofs.FreeLaws.{out-within, linked-front, linked-none, times-at, times-there, times-more}
use Rattle.loom_host.specs.Work.{IsWorkFault}
use Rattle.disk_objects.specs.declared.rest.DiskRest.{DiskRest}
use Rattle.object_record.specs.Buffer.{HasRecord, raw_of}
use Rattle.disk_objects.specs.Calls.{IsFault, IsGot}
use Rattle.disk_objects.specs.Disk.{DiskObject, Objects, IsSizeClass, IsInBlock, AreAlike, AreInBlocks, IsDisk, IsOwned, record_size, link_to, tail_text, with_count}
use Rattle.disk_objects.specs.Inside.{Touches, IsHeadFault, IsLinkFault, IsRecordFault, size_stated_in}
use Rattle.disk_objects.proofs.RecordLaws.{size-laid, length-tail}
use Rattle.disk_objects.proofs.StoredLaws.{equal_or_not, none-is-some, insert-same, alike-entry, alike-none, alike-some, stored-insert, linked-put}
use Rattle.disk_objects.proofs.DiskLaws.{block-behind, space-inside, stays-apart}
use Rattle.disk_objects.proofs.TouchLaws.{directory-kept}

-- ---- a disk where nothing is

pub disk-begun : (rest : DiskRest) → rest.first ≡ None → IsIn rest.directory [] → entries_of rest.directory [] ≡ map.empty → IsSpace rest.space [] [] (λ p. None)
    → from_of rest.space ≡ end_of rest.directory → IsDisk rest [] map.empty []
disk-begun rest first is none blocks from_is = record {
  laid = [];
  out = λ p. None;
  link = λ p. 0;
  kept = record {
    directory = is;
    space = record { blocks = blocks; from_is = from_is; few = λ c. omega arith };
    stored = subst (λ (m : Entries). AreInBlocks [] (λ p. None) (λ p. 0) m map.empty) (sym none) (record {
      each = λ q. subst (λ (x : Option Entry). AreAlike [] (λ p. None) 0 q x (map.get {R = nat_cmp} map.empty q)) (sym (get-empty nat_cmp q))
          (subst (λ (x : Option DiskObject). AreAlike [] (λ p. None) 0 q None x) (sym (get-empty nat_cmp q)) tt);
      apart = λ m n e f a b same. absurd (none-is-some (get-empty nat_cmp m) a);
    });
    linked = ap link_to first;
    are_pending = record { held = λ q some. absurd (omega (arith, some)); once = λ q. omega arith };
  };
  owned = λ p c gone. absurd (none-is-some refl gone);
}

-- ---- where records stand

room-most : (d : Directory) → room_of d ≤ 1048576
unfolding room_of
room-most d = d.most

module _ (rest : DiskRest) (v : List ℕ) (objects : Objects) (pending : List ℕ) (k : IsDisk rest v objects pending) where
  pub disk-few : AreFew k.laid
  disk-few c low = let f = k.kept.space.few c in let r = room-most rest.directory in omega (arith, f, r)

  pub disk-from : from_of rest.space < 2 ^ 61
  disk-from = let e = k.kept.space.from_is in let r = room-most rest.directory in omega (arith, e, r)

  pub disk-low : (p c : ℕ) → k.out p ≡ Some c → p ≤ 2 ^ 62
  disk-low p c gone =
      let b = k.kept.space.blocks in
      let most = end-most (from_of rest.space) k.laid b.each_class disk-few in
      let tiled = b.tiled in
      let within = (out-within (from_of rest.space) (space_end rest.space) (first_of rest.space) v k.laid k.out b p c gone).1 in
      let from = disk-from in
      omega arith

  -- what an entry says of an object
  pub stored-there : (name : ℕ) (e : Entry) → map.get (entries_of rest.directory v) name ≡ Some e
      → (o : DiskObject) × (map.get objects name ≡ Some o) × IsInBlock v k.out (k.link name) name e o
  stored-there name e there = alike-entry v k.out (k.link name) name (map.get (entries_of rest.directory v) name) (map.get objects name) e there (k.kept.stored.each name)

  pub absent-there : (name : ℕ) → map.get (entries_of rest.directory v) name ≡ None → map.get objects name ≡ None
  absent-there name none = alike-none v k.out (k.link name) name (map.get (entries_of rest.directory v) name) (map.get objects name) none (k.kept.stored.each name)

  pub held-there : (name : ℕ) → IsSome (map.get objects name) → (e : Entry) × (map.get (entries_of rest.directory v) name ≡ Some e)
  held-there name some = alike-some v k.out (k.link name) name (map.get (entries_of rest.directory v) name) (map.get objects name) some (k.kept.stored.each name)

  pub place-there : (name : ℕ) (e : Entry) → map.get (entries_of rest.directory v) name ≡ Some e → e.place ≤ 2 ^ 62
  place-there name e there = let st = stored-there name e there in disk-low e.place st.2.class st.2.block

  pub name-there : (name : ℕ) → IsSome (map.get objects name) → IsLongName name
  name-there name some =
      let e = held-there name some in
      let st = stored-there name e.0 e.1 in
      subst IsLongName st.2.named st.2.raw.name

  pub size-there : (name : ℕ) (e : Entry) (o : DiskObject) → IsInBlock v k.out (k.link name) name e o → size_stated_in (window v e.place 28) ≡ record_size o.raw
  size-there name e o st = size-laid v e.place o.raw (k.link name) st.raw st.laid

  pub size-low : (name : ℕ) (e : Entry) → map.get (entries_of rest.directory v) name ≡ Some e → size_stated_in (window v e.place 28) ≤ LONGEST_RECORD
  size-low name e there =
      let st = stored-there name e there in
      let same = size-there name e st.0 st.2 in
      omega (arith, same, longest-raw st.0.raw st.2.raw, length-text st.0.raw)

  -- ---- the pending names

  pub link-there : (name : ℕ) (e : Entry) → map.get (entries_of rest.directory v) name ≡ Some e → link_at v (e.place + 8) ≡ k.link name
  link-there name e there = (stored-there name e there).2.laid.link_is

  pub pending-empty : rest.first ≡ None → pending ≡ []
  pending-empty none = linked-none k.link (link_to rest.first) pending k.kept.linked (ap link_to none)
      (λ p some. let long = name-there p (k.kept.are_pending.held p some) in let above = long.0.above in λ z. omega (arith, above, z))

  pub pending-front : (name : ℕ) → rest.first ≡ Some name → 0 < name → (others : List ℕ) × (pending ≡ name ∷ others) × AreLinked k.link (k.link name) others
  pending-front name first some = linked-front k.link name pending
      (subst (λ (n : ℕ). AreLinked k.link n pending) (ap link_to first) k.kept.linked) (λ z. omega (arith, some, z))

  pub first-held : (name : ℕ) → rest.first ≡ Some name → 0 < name → IsSome (map.get objects name)
  first-held name first some =
      let q = pending-front name first some in
      k.kept.are_pending.held name (let n = times-at name name q.0 refl in let e = ap (times name) q.1 in omega (arith, n, e))

  -- the link of the first pending name is 0 or a name
  pub front-link : (name : ℕ) → rest.first ≡ Some name → 0 < name → (k.link name ≡ 0) ⊎ IsLongName (k.link name)
  front-link name first some = let q = pending-front name first some in by_others q.0 q.1 q.2 where
    by_others : (others : List ℕ) → pending ≡ name ∷ others → AreLinked k.link (k.link name) others → (k.link name ≡ 0) ⊎ IsLongName (k.link name)
    by_others [] is linked = inl linked
    by_others (p ∷ ps) is linked = inr (subst IsLongName (sym linked.0) (name-there p (k.kept.are_pending.held p
        (let e = ap (times p) is in let n = times-at p p ps refl in let m = times-more name p (p ∷ ps) in omega (arith, e, n, m)))))

  -- the first pending name is taken
  pub disk-taken : (w : List ℕ) (name : ℕ) (e : Entry) (next : Option ℕ) → w ≡ v → rest.first ≡ Some name → map.get (entries_of rest.directory v) name ≡ Some e
      → link_at v (e.place + 8) ≡ link_to next
      → (others : List ℕ) × (pending ≡ name ∷ others) × IsDisk (record { directory = rest.directory; space = rest.space; first = next }) w objects others
  disk-taken w name e next same first there linked =
      let above = (name-there name (subst IsSome (sym (stored-there name e there).1) refl)).0.above in
      let q = pending-front name first above in
      let now : k.link name ≡ link_to next = sym (link-there name e there) ∙ linked in (
        q.0,
        q.1,
        subst (λ (x : List ℕ). IsDisk (record { directory = rest.directory; space = rest.space; first = next }) x objects q.0) (sym same) (record {
          laid = k.laid;
          out = k.out;
          link = k.link;
          kept = record {
            directory = k.kept.directory;
            space = k.kept.space;
            stored = k.kept.stored;
            linked = subst (λ (n : ℕ). AreLinked k.link n q.0) now q.2;
            are_pending = record {
              held = λ p some. k.kept.are_pending.held p (let a = ap (times p) q.1 in let m = times-more name p q.0 in omega (arith, a, m, some));
              once = λ p. let a = ap (times p) q.1 in let m = times-more name p q.0 in let o = k.kept.are_pending.once p in omega (arith, a, m, o);
            };
          };
          owned = k.owned;
        }),
      )

  pub disk-none : (w : List ℕ) → w ≡ v → rest.first ≡ None → (pending ≡ []) × IsDisk rest w objects []
  disk-none w same first =
      let none = pending-empty first in
      (none, subst (λ (x : List ℕ). IsDisk rest x objects []) (sym same) (subst (IsDisk rest v objects) none k))

  -- a name becomes the first pending one
  pub disk-pended : (w : List ℕ) (name link : ℕ) (e : Entry) → map.get (entries_of rest.directory v) name ≡ Some e → times name pending ≡ 0
      → link ≡ link_to rest.first → link_at w (e.place + 8) ≡ link → Touches v w (e.place + 8) 8
      → IsDisk (record { directory = rest.directory; space = rest.space; first = Some name }) w objects (name ∷ pending)
  disk-pended w name link e there idle to written t =
      let d : Directory = rest.directory in
      let m : Entries = entries_of d v in
      let got = stored-there name e there in
      let o : DiskObject = got.0 in
      let st = got.2 in
      let has = k.kept.space in
      let behind = (block-behind d rest.space v w k.laid k.out has e.place st.class st.block).0 in
      let fits = st.is_class.fits in
      let size = length-tail o.raw in
      let low : e.place ≤ e.place + 8 = omega arith in
      let high : e.place + 8 + 8 ≤ e.place + block_size st.class = omega (arith, fits, size) in
      let dir = directory-kept d v w (λ at n before. t.rest at n (inl (omega arith))) k.kept.directory in
      let link' : ℕ → ℕ = put k.link name link in
      let here : link' name ≡ link = put-at k.link name link name refl in
      record {
        laid = k.laid;
        out = k.out;
        link = link';
        kept = record {
          directory = dir.0;
          space = space-inside d rest.space v w k.laid k.out has e.place st.class (e.place + 8) 8 st.block low high t;
          stored = subst (λ (y : Entries). AreInBlocks w k.out link' y objects) (insert-same m name e there ∙ sym dir.1)
              (subst (λ (y : Objects). AreInBlocks w k.out link' (map.insert m name e) y) (insert-same objects name o got.1)
              (stored-insert v w k.out k.out k.link m objects name link e o k.kept.stored
              (λ q other. stays-apart d rest.space v w k.laid k.out has e.place st.class (e.place + 8) 8 st.block low high t (map.get m q)
              (λ f is_f at. other (k.kept.stored.apart q name f e is_f there at)))
              (λ q f other is_f at. other (k.kept.stored.apart q name f e is_f there at))
              (record {
                count = st.count;
                named = st.named;
                uncounted = st.uncounted;
                raw = st.raw;
                class = st.class;
                is_class = st.is_class;
                block = st.block;
                laid = record {
                  names = t.rest e.place 8 (inl (omega arith)) ∙ st.laid.names;
                  link_is = written;
                  tail = t.rest (e.place + 16) (length (tail_text o.raw)) (inr (omega arith)) ∙ st.laid.tail;
                };
              })));
          linked = (
            refl,
            subst (λ (n : ℕ). AreLinked link' n pending) (sym (here ∙ to))
                (linked-put k.link (link_to rest.first) name link pending (λ some. absurd (omega (arith, some, idle))) k.kept.linked),
          );
          are_pending = record {
            held = λ p some. ⊎_elim
                (λ (h : p ≡ name). subst IsSome (sym (ap (map.get objects) h ∙ got.1)) refl)
                (λ (h : p ≢ name). k.kept.are_pending.held p (let n = times-there name p pending h in omega (arith, n, some)))
                (equal_or_not p name);
            once = λ p. ⊎_elim
                (λ (h : p ≡ name). let n = times-at name p pending h in let z = ap (λ (x : ℕ). times x pending) h in omega (arith, n, z, idle))
                (λ (h : p ≢ name). let n = times-there name p pending h in let o = k.kept.are_pending.once p in omega (arith, n, o))
                (equal_or_not p name);
          };
        };
        owned = subst (λ (y : Entries). (p c : ℕ) → k.out p ≡ Some c → IsOwned y p) (sym dir.1) k.owned;
      }

-- ---- faults

pub head-sound : (w : List ℕ) (tells : Bool) (a b c place name : ℕ) (P : ℕ → Type 0) (fault : DiskFault) → P place
    → (IsTrue tells → size_stated_in (window w place 28) ≤ LONGEST_RECORD) → a ≤ b → IsHeadFault w tells b c place name fault → IsFault tells a c P name fault
head-sound w tells a b c place name P (Work count) here low l f = (f.0, omega (arith, l, f.1))
head-sound w tells a b c place name P (Full held room) here low l f = f
head-sound w tells a b c place name P (Damaged at about) here low l f =
    ((λ told. let x = low told in let y = f.0 told in omega (arith, x, y)), subst P (sym f.1) here, f.2)

pub record-sound : (tells : Bool) (a b c place name : ℕ) (P : ℕ → Type 0) (fault : DiskFault) → P place → (IsTrue tells → IsWorkFault b c fault) → a ≤ b
    → IsRecordFault b c place name fault → IsFault tells a c P name fault
record-sound tells a b c place name P (Work count) here right l f = (f.0, omega (arith, l, f.1))
record-sound tells a b c place name P (Full held room) here right l f = f
record-sound tells a b c place name P (Damaged at about) here right l f = ((λ told. absurd (right told)), subst P (sym f.0) here, f.1)

pub link-sound : (link : ℕ) (tells : Bool) (a b c place name : ℕ) (P : ℕ → Type 0) (fault : DiskFault) → P place → (IsTrue tells → (link ≡ 0) ⊎ IsLongName link)
    → a ≤ b → IsLinkFault link tells b c place name fault → IsFault tells a c P name fault
link-sound link tells a b c place name P (Work count) here right l f = (f.0, omega (arith, l, f.1))
link-sound link tells a b c place name P (Full held room) here right l f = f
link-sound link tells a b c place name P (Damaged at about) here right l f = (
  (λ told. ⊎_elim (λ (h : link ≡ 0). (f.0 told).0 h) (λ (h : IsLongName link). (f.0 told).1 h) (right told)),
  subst P (sym f.1) here,
  f.2,
)

-- ---- words for answers

pub with-none : (raw : RawRecord) → raw.count ≡ 0 → with_count raw 0 ≡ raw
with-none raw none = λ i. record { name = raw.name; class = raw.class; count = sym none i; body = raw.body }

pub got-there : (bytes : List ℕ) (oo : Option DiskObject) (o : DiskObject) → oo ≡ Some o → HasRecord bytes → with_count (raw_of bytes) 0 ≡ with_count o.raw 0 → o.raw.count ≡ 0
    → IsGot bytes oo true
got-there bytes oo o is record_there same none = subst (λ (x : Option DiskObject). IsGot bytes x true) (sym is)
    (record { record_there = record_there; raw_is = same ∙ with-none o.raw none })

pub class-same : (c d n : ℕ) → IsSizeClass c n → IsSizeClass d n → c ≡ d
class-same c d n a b = let x = a.smallest d b.fits in let y = b.smallest c a.fits in omega (arith, x, y)

pub entry-name : (rest : DiskRest) (v : List ℕ) (objects : Objects) (pending : List ℕ) (k : IsDisk rest v objects pending) (name : ℕ) (e : Entry)
    → map.get (entries_of rest.directory v) name ≡ Some e → IsLongName name
entry-name rest v objects pending k name e there =
    let st = stored-there rest v objects pending k name e there in
    subst IsLongName st.2.named st.2.raw.name

pub record-there : (rest : DiskRest) (v : List ℕ) (objects : Objects) (pending : List ℕ) (k : IsDisk rest v objects pending) (name : ℕ) (o : DiskObject)
    → map.get objects name ≡ Some o → IsRawRecord o.raw × (o.raw.name ≡ name) × (o.raw.count ≡ 0)
record-there rest v objects pending k name o is =
    let e = held-there rest v objects pending k name (subst IsSome (sym is) refl) in
    let got = stored-there rest v objects pending k name e.0 e.1 in
    let same : got.0 ≡ o = some-inside (sym got.1 ∙ is) in
    subst (λ (x : DiskObject). IsRawRecord x.raw × (x.raw.name ≡ name) × (x.raw.count ≡ 0)) same (got.2.raw, got.2.named, got.2.uncounted)

-- What the steps of a call make of a disk.
use Rattle.std.proofs.Common.{◌≡◌, ◌≢◌, ℕ, ◌+◌, ◌*◌, ◌<◌, ◌≤◌, inl, inr, ⊎_elim, List, length, Option, Some, None, refl, sym, ap, subst, ◌∙◌, arith}
use Rattle.std.specs.List.{Contains}
use Rattle.std.specs.FinMap as map
use Rattle.object_record.specs.Raw.{RawRecord, IsRawRecord}
use Rattle.work_directory.specs.Directory.{room_of, end_of, entries_of, IsChanged}
use Rattle.work_directory.specs.Slots.{slots_end}
use Rattle.work_directory.specs.Table.{Entry, Entries}
use Rattle.work_directory.specs.Work.{SameFrom}
use Rattle.work_directory.specs.declared.directory.Directory.{Directory}
use Rattle.work_directory.proofs.ContentsLaws.{window-same_from}
use Rattle.work_space.specs.Blocks.{block_size, put, times}
use Rattle.work_space.specs.Space.{Takes, Gives, from_of, end_of as space_end, first_of, next_laid}
use Rattle.work_space.specs.declared.space.Space.{Space}
use Rattle.work_space.proofs.BlockLaws.{put-at, put-there, some-inside}
use Rattle.work_space.proofs.FreeLaws.{out-within, out-apart}
use Rattle.disk_objects.specs.declared.rest.DiskRest.{DiskRest}
use Rattle.disk_objects.specs.Disk.{DiskObject, Objects, IsSizeClass, IsLaid, IsInBlock, AreInBlocks, AreKept, HasSpace, IsDisk, IsOwned, record_size, link_to, object_of, with_count}
use Rattle.disk_objects.specs.Inside.{Touches, Writes, Stores, IsOpen}
use Rattle.disk_objects.proofs.TouchLaws.{blocks-inside, blocks-front, front-touched, directory-kept, laid-kept}
use Rattle.disk_objects.proofs.StoredLaws.{equal_or_not, none-is-some, Stays, insert-at, insert-there, insert-same, remove-at, remove-there, alike-entry, stored-frame, stored-insert, stored-remove, pending-insert, pending-remove, linked-put}

-- ---- blocks and the directory

module _ (d : Directory) (s : Space) (v w laid : List ℕ) (out : ℕ → Option ℕ) (h : HasSpace d s v laid out) where
  -- blocks that are out lie behind the directory
  pub block-behind : (p c : ℕ) → out p ≡ Some c → (end_of d ≤ p) × (p + block_size c ≤ space_end s)
  block-behind p c e =
      let here = out-within (from_of s) (space_end s) (first_of s) v laid out h.blocks p c e in
      (subst (λ (n : ℕ). n ≤ p) h.from_is here.0, here.1)

  pub space-inside : (p c at n : ℕ) → out p ≡ Some c → p ≤ at → at + n ≤ p + block_size c → Touches v w at n → HasSpace d s w laid out
  space-inside p c at n gone low high t = record {
    blocks = blocks-inside (from_of s) (space_end s) (first_of s) v w laid out h.blocks p c at n gone low high t;
    from_is = h.from_is;
    few = h.few;
  }

  -- after a change of the directory, which may be another with the same room
  pub space-front : (d' : Directory) → room_of d' ≡ room_of d → SameFrom (end_of d') v w → HasSpace d' s w laid out
  space-front d' same front =
      let end_is : end_of d' ≡ end_of d = ap (λ (n : ℕ). slots_end (2 * n)) same in
      record {
        blocks = blocks-front (from_of s) (space_end s) (first_of s) v w laid out h.blocks (end_of d') (let e = h.from_is in omega arith) (front-touched (end_of d') v w front);
        from_is = h.from_is ∙ sym end_is;
        few = λ c. subst (λ (n : ℕ). times c laid ≤ n) (sym same) (h.few c);
      }

-- what a write in one block leaves of the others
pub stays-apart : (d : Directory) (s : Space) (v w laid : List ℕ) (out : ℕ → Option ℕ) → HasSpace d s v laid out → (p c at n : ℕ) → out p ≡ Some c → p ≤ at
    → at + n ≤ p + block_size c → Touches v w at n → (oe : Option Entry) → ((f : Entry) → oe ≡ Some f → f.place ≢ p) → Stays v w out out oe
stays-apart d s v w laid out h p c at n gone low high t oe away f b is block = (
  block,
  t.rest f.place (block_size b) (⊎_elim
      (λ (x : f.place + block_size b ≤ p). inl (omega arith))
      (λ (x : p + block_size c ≤ f.place). inr (omega arith))
      (out-apart (from_of s) (space_end s) (first_of s) v laid out h.blocks f.place b p c block gone (away f is))),
)

-- what a change of the directory leaves of the blocks
pub stays-front : (d d' : Directory) (s : Space) (v w laid : List ℕ) (out : ℕ → Option ℕ) → HasSpace d s v laid out → room_of d' ≡ room_of d → SameFrom (end_of d') v w
    → (oe : Option Entry) → Stays v w out out oe
stays-front d d' s v w laid out h same front oe f b is block =
    let end_is : end_of d' ≡ end_of d = ap (λ (n : ℕ). slots_end (2 * n)) same in
    let behind = (block-behind d s v w laid out h f.place b block).0 in
    (block, window-same_from (end_of d') v w f.place (block_size b) front (omega arith))

-- ---- a record is stored in a block that was taken for it

same-place-open : (entries : Entries) (place : ℕ) → ((q : ℕ) (f : Entry) → map.get entries q ≡ Some f → f.place ≢ place) → IsOwned entries place → ⊥
same-place-open entries place away o = away o.0 o.1 o.2 o.3

taken-few : (old new : Space) (work laid : List ℕ) (out : ℕ → Option ℕ) (c place room : ℕ) (places : List ℕ) → Takes old new work laid out c place
    → ((d : ℕ) → times d laid ≤ room) → length places < room → ((p : ℕ) → out p ≡ Some c → Contains places p) → (d : ℕ) → times d (next_laid old c laid) ≤ room
taken-few old new work laid out c place room places t few short all d = ⊎_elim
    (λ (h : d ≡ c).
    let n = t.few places all in
    let e = ap (λ (k : ℕ). times k (next_laid old c laid)) h in
    let f = few c in omega (arith, n, e, f, short))
    (λ (h : d ≢ c). let e = t.few_others d h in let f = few d in omega (arith, e, f))
    (equal_or_not d c)

-- the rest of a disk with other blocks
abbrev pub with_space : DiskRest → Space → DiskRest
with_space rest s = record { directory = rest.directory; space = s; first = rest.first }

abbrev pub with_directory : DiskRest → Directory → DiskRest
with_directory rest d = record { directory = d; space = rest.space; first = rest.first }

pub store-open : (rest : DiskRest) (new : Space) (v w : List ℕ) (objects : Objects) (pending : List ℕ) (raw : RawRecord) (link place : ℕ) (places : List ℕ)
    → (k : IsDisk rest v objects pending) → (s : Stores rest.space new v w k.laid k.out raw link place) → from_of new ≡ from_of rest.space
    → length places < room_of rest.directory → ((p : ℕ) → k.out p ≡ Some s.class → Contains places p)
    → (o : IsOpen (with_space rest new) w objects pending place s.class) × (o.link ≡ k.link) × (entries_of rest.directory w ≡ entries_of rest.directory v)
    × ((p e : ℕ) → k.out p ≡ Some e → o.out p ≡ Some e)
store-open rest new v w objects pending raw link place places k s from_is short all =
    let d : Directory = rest.directory in
    let t = s.takes in
    let c : ℕ = s.class in
    let size = s.is_class.fits in
    let out' : ℕ → Option ℕ = put k.out place (Some c) in
    let laid' : List ℕ = next_laid rest.space c k.laid in
    let has = k.kept.space in
    let taken : HasSpace d new v laid' out' = record {
      blocks = t.blocks;
      from_is = from_is ∙ has.from_is;
      few = taken-few rest.space new v k.laid k.out c place (room_of d) places t has.few short all;
    } in
    let touched = s.writes.touches in
    let here : out' place ≡ Some c = put-at k.out place (Some c) place refl in
    let away : (p e : ℕ) → k.out p ≡ Some e → p ≢ place = λ p e is same. none-is-some t.fresh (ap k.out (sym same) ∙ is) in
    let low : end_of d ≤ place = subst (λ (n : ℕ). n ≤ place) has.from_is t.behind in
    let dir = directory-kept d v w (λ at n before. touched.rest at n (inl (omega arith))) k.kept.directory in
    let free : IsOwned (entries_of d v) place → ⊥ = λ o.
    let st = alike-entry v k.out (k.link o.0) o.0 (map.get (entries_of d v) o.0) (map.get objects o.0) o.1 o.2 (k.kept.stored.each o.0) in
    away o.1.place st.2.class st.2.block o.3 in
    let owned : (p e : ℕ) → out' p ≡ Some e → p ≢ place → IsOwned (entries_of d v) p = λ p e is other.
    k.owned p e (sym (put-there k.out place (Some c) p other) ∙ is) in (
      record {
        laid = laid';
        out = out';
        link = k.link;
        kept = record {
          directory = dir.0;
          space = space-inside d new v w laid' out' taken place c place (record_size raw) here (omega arith) (omega (arith, size)) touched;
          stored = stored-frame v w k.out out' k.link (entries_of d v) (entries_of d w) objects k.kept.stored dir.1 (λ q f e is block. (
            put-there k.out place (Some c) f.place (away f.place e block) ∙ block,
            touched.rest f.place (block_size e) (⊎_elim
                (λ (x : f.place + block_size e ≤ place). inl x)
                (λ (x : place + block_size c ≤ f.place). inr (omega (arith, size)))
                (t.apart f.place e block)),
          ));
          linked = k.kept.linked;
          are_pending = k.kept.are_pending;
        };
        owned = subst (λ (x : Entries). (p e : ℕ) → out' p ≡ Some e → p ≢ place → IsOwned x p) (sym dir.1) owned;
        spare_out = here;
        spare_free = subst (λ (x : Entries). IsOwned x place → ⊥) (sym dir.1) free;
      },
      refl,
      dir.1,
      λ p e is. put-there k.out place (Some c) p (away p e is) ∙ is,
    )

-- ---- the directory is told

-- a raw record without its count is one
pub uncounted-raw : (raw : RawRecord) → IsRawRecord raw → IsRawRecord (with_count raw 0)
uncounted-raw raw is = record { name = is.name; class = is.class; count = omega arith; size = is.size; range = is.range }

uncounted-laid : (w : List ℕ) (place : ℕ) (raw : RawRecord) (link : ℕ) → IsLaid w place raw link → IsLaid w place (with_count raw 0) link
uncounted-laid w place raw link l = record { names = l.names; link_is = l.link_is; tail = l.tail }

pub open-entered : (rest : DiskRest) (d' : Directory) (w x : List ℕ) (objects : Objects) (pending : List ℕ) (spare class : ℕ) (o : IsOpen rest w objects pending spare class)
    (name count link : ℕ) (raw : RawRecord) → IsSizeClass class (record_size raw) → IsLaid w spare raw link → IsRawRecord raw → raw.name ≡ name
    → room_of d' ≡ room_of rest.directory
    → IsChanged d' (map.insert (entries_of rest.directory w) name (record { count = count; place = spare })) w x
    → (0 < times name pending → link ≡ o.link name)
    → AreKept d' rest.space rest.first x o.laid o.out (put o.link name link) (map.insert objects name (object_of raw count)) pending
open-entered rest d' w x objects pending spare class o name count link raw is laid raw_is named room ch linked =
    let d : Directory = rest.directory in
    let e : Entry = record { count = count; place = spare } in
    let behind = stays-front d d' rest.space w x o.laid o.out o.kept.space room ch.behind (Some e) e class refl o.spare_out in
    record {
      directory = ch.is_in;
      space = space-front d rest.space w x o.laid o.out o.kept.space d' room ch.behind;
      stored = subst (λ (y : Entries). AreInBlocks x o.out (put o.link name link) y (map.insert objects name (object_of raw count))) (sym ch.entries_are)
          (stored-insert w x o.out o.out o.link (entries_of d w) objects name link e (object_of raw count) o.kept.stored
          (λ q other. stays-front d d' rest.space w x o.laid o.out o.kept.space room ch.behind (map.get (entries_of d w) q))
          (λ q f other there same. o.spare_free (q, f, there, same))
          (record {
            count = refl;
            named = named;
            uncounted = refl;
            raw = uncounted-raw raw raw_is;
            class = class;
            is_class = is;
            block = o.spare_out;
            laid = uncounted-laid x spare raw link (laid-kept w x spare (block_size class) raw link is.fits behind.1 laid);
          }));
      linked = linked-put o.link (link_to rest.first) name link pending linked o.kept.linked;
      are_pending = pending-insert objects pending name (object_of raw count) o.kept.are_pending;
    }

-- a name that was not held: no block is left over
pub open-added : (rest : DiskRest) (d' : Directory) (w x : List ℕ) (objects : Objects) (pending : List ℕ) (spare class : ℕ) (o : IsOpen rest w objects pending spare class)
    (name count link : ℕ) (raw : RawRecord) → IsSizeClass class (record_size raw) → IsLaid w spare raw link → IsRawRecord raw → raw.name ≡ name
    → room_of d' ≡ room_of rest.directory
    → IsChanged d' (map.insert (entries_of rest.directory w) name (record { count = count; place = spare })) w x
    → (0 < times name pending → link ≡ o.link name)
    → map.get (entries_of rest.directory w) name ≡ None
    → IsDisk (with_directory rest d') x (map.insert objects name (object_of raw count)) pending
open-added rest d' w x objects pending spare class o name count link raw is laid raw_is named room ch linked none =
    let e : Entry = record { count = count; place = spare } in
    let m : Entries = entries_of rest.directory w in
    record {
      laid = o.laid;
      out = o.out;
      link = put o.link name link;
      kept = open-entered rest d' w x objects pending spare class o name count link raw is laid raw_is named room ch linked;
      owned = subst (λ (y : Entries). (p c : ℕ) → o.out p ≡ Some c → IsOwned y p) (sym ch.entries_are) (λ p c gone. ⊎_elim
          (λ (h : p ≡ spare). (name, e, insert-at m name e name refl, sym h))
          (λ (h : p ≢ spare). let q = o.owned p c gone h in
          (q.0, q.1, insert-there m name e q.0 (λ same. none-is-some none (ap (map.get m) (sym same) ∙ q.2)) ∙ q.2, q.3))
          (equal_or_not p spare));
    }

-- a name that was held: its old block is left over
pub open-moved : (rest : DiskRest) (d' : Directory) (w x : List ℕ) (objects : Objects) (pending : List ℕ) (spare class : ℕ) (o : IsOpen rest w objects pending spare class)
    (name count link : ℕ) (raw : RawRecord) → IsSizeClass class (record_size raw) → IsLaid w spare raw link → IsRawRecord raw → raw.name ≡ name
    → room_of d' ≡ room_of rest.directory
    → IsChanged d' (map.insert (entries_of rest.directory w) name (record { count = count; place = spare })) w x
    → (0 < times name pending → link ≡ o.link name)
    → (old : Entry) (b : ℕ) → map.get (entries_of rest.directory w) name ≡ Some old → o.out old.place ≡ Some b
    → IsOpen (with_directory rest d') x (map.insert objects name (object_of raw count)) pending old.place b
open-moved rest d' w x objects pending spare class o name count link raw is laid raw_is named room ch linked old b there gone =
    let e : Entry = record { count = count; place = spare } in
    let m : Entries = entries_of rest.directory w in
    let other : old.place ≢ spare = λ same. o.spare_free (name, old, there, same) in
    record {
      laid = o.laid;
      out = o.out;
      link = put o.link name link;
      kept = open-entered rest d' w x objects pending spare class o name count link raw is laid raw_is named room ch linked;
      owned = subst (λ (y : Entries). (p c : ℕ) → o.out p ≡ Some c → p ≢ old.place → IsOwned y p) (sym ch.entries_are) (λ p c taken away. ⊎_elim
          (λ (h : p ≡ spare). (name, e, insert-at m name e name refl, sym h))
          (λ (h : p ≢ spare). let q = o.owned p c taken h in
          (q.0, q.1, insert-there m name e q.0 (λ same. away (sym q.3 ∙ ap (λ (z : Entry). z.place) (some-inside (sym q.2 ∙ ap (map.get m) same ∙ there)))) ∙ q.2, q.3))
          (equal_or_not p spare));
      spare_out = gone;
      spare_free = subst (λ (y : Entries). IsOwned y old.place → ⊥) (sym ch.entries_are) (λ q. ⊎_elim
          (λ (h : q.0 ≡ name). other (sym q.3 ∙ ap (λ (z : Entry). z.place) (some-inside (sym q.2 ∙ insert-at m name e q.0 h))))
          (λ (h : q.0 ≢ name). h (o.kept.stored.apart q.0 name q.1 old (sym (insert-there m name e q.0 h) ∙ q.2) there q.3))
          (equal_or_not q.0 name));
    }

-- ---- the block that is left over is given back

pub open-given : (rest : DiskRest) (new : Space) (x y : List ℕ) (objects : Objects) (pending : List ℕ) (spare class : ℕ) (o : IsOpen rest x objects pending spare class)
    → Gives rest.space new x y o.laid o.out class spare → from_of new ≡ from_of rest.space → IsDisk (with_space rest new) y objects pending
open-given rest new x y objects pending spare class o g from_is =
    let d : Directory = rest.directory in
    let has = o.kept.space in
    let dir = directory-kept d x y (λ at n before. g.front at n (let e = has.from_is in omega arith)) o.kept.directory in
    let out' : ℕ → Option ℕ = put o.out spare None in
    record {
      laid = o.laid;
      out = out';
      link = o.link;
      kept = record {
        directory = dir.0;
        space = record { blocks = g.blocks; from_is = from_is ∙ has.from_is; few = has.few };
        stored = stored-frame x y o.out out' o.link (entries_of d x) (entries_of d y) objects o.kept.stored dir.1 (λ q f c is block.
            let away : f.place ≢ spare = λ same. o.spare_free (q, f, is, same) in
            (put-there o.out spare None f.place away ∙ block, g.others f.place c block away));
        linked = o.kept.linked;
        are_pending = o.kept.are_pending;
      };
      owned = subst (λ (z : Entries). (p c : ℕ) → out' p ≡ Some c → IsOwned z p) (sym dir.1) (λ p c gone. ⊎_elim
          (λ (h : p ≡ spare). absurd (none-is-some (put-at o.out spare None p h) gone))
          (λ (h : p ≢ spare). o.owned p c (sym (put-there o.out spare None p h) ∙ gone) h)
          (equal_or_not p spare));
    }

-- ---- a name is removed

pub disk-removed : (rest : DiskRest) (d' : Directory) (v x : List ℕ) (objects : Objects) (pending : List ℕ) (name : ℕ) (k : IsDisk rest v objects pending)
    → room_of d' ≡ room_of rest.directory → IsChanged d' (map.remove (entries_of rest.directory v) name) v x → times name pending ≡ 0
    → (old : Entry) (b : ℕ) → map.get (entries_of rest.directory v) name ≡ Some old → k.out old.place ≡ Some b
    → IsOpen (with_directory rest d') x (map.remove objects name) pending old.place b
disk-removed rest d' v x objects pending name k room ch idle old b there gone =
    let d : Directory = rest.directory in
    let m : Entries = entries_of d v in
    let kept = k.kept in
    record {
      laid = k.laid;
      out = k.out;
      link = k.link;
      kept = record {
        directory = ch.is_in;
        space = space-front d rest.space v x k.laid k.out kept.space d' room ch.behind;
        stored = subst (λ (y : Entries). AreInBlocks x k.out k.link y (map.remove objects name)) (sym ch.entries_are)
            (stored-remove v x k.out k.link m objects name kept.stored
            (λ q other. stays-front d d' rest.space v x k.laid k.out kept.space room ch.behind (map.get m q)));
        linked = kept.linked;
        are_pending = pending-remove objects pending name idle kept.are_pending;
      };
      owned = subst (λ (y : Entries). (p c : ℕ) → k.out p ≡ Some c → p ≢ old.place → IsOwned y p) (sym ch.entries_are) (λ p c taken away.
          let q = k.owned p c taken in
          (q.0, q.1, remove-there m name q.0 (λ same. away (sym q.3 ∙ ap (λ (z : Entry). z.place) (some-inside (sym q.2 ∙ ap (map.get m) same ∙ there)))) ∙ q.2, q.3));
      spare_out = gone;
      spare_free = subst (λ (y : Entries). IsOwned y old.place → ⊥) (sym ch.entries_are) (λ q. ⊎_elim
          (λ (h : q.0 ≡ name). none-is-some (remove-at m name q.0 h) q.2)
          (λ (h : q.0 ≢ name). h (kept.stored.apart q.0 name q.1 old (sym (remove-there m name q.0 h) ∙ q.2) there q.3))
          (equal_or_not q.0 name));
    }

-- ---- a record is written in its place

pub disk-rewritten : (rest : DiskRest) (v w : List ℕ) (objects : Objects) (pending : List ℕ) (name : ℕ) (k : IsDisk rest v objects pending) (e : Entry) (o : DiskObject)
    (raw : RawRecord) (link : ℕ) → map.get (entries_of rest.directory v) name ≡ Some e → (st : IsInBlock v k.out (k.link name) name e o) → IsRawRecord raw → raw.name ≡ name
    → IsSizeClass st.class (record_size raw) → link ≡ k.link name → Writes v w e.place raw link
    → IsDisk rest w (map.insert objects name (object_of raw e.count)) pending × (entries_of rest.directory w ≡ entries_of rest.directory v)
disk-rewritten rest v w objects pending name k e o raw link there st raw_is named is linked wrote =
    let d : Directory = rest.directory in
    let m : Entries = entries_of d v in
    let kept = k.kept in
    let has = kept.space in
    let low = (block-behind d rest.space v w k.laid k.out has e.place st.class st.block).0 in
    let t = wrote.touches in
    let size = is.fits in
    let dir = directory-kept d v w (λ at n before. t.rest at n (inl (omega arith))) kept.directory in
    let same : map.insert m name e ≡ m = insert-same m name e there in (
      record {
        laid = k.laid;
        out = k.out;
        link = put k.link name link;
        kept = record {
          directory = dir.0;
          space = space-inside d rest.space v w k.laid k.out has e.place st.class e.place (record_size raw) st.block (omega arith) (omega (arith, size)) t;
          stored = subst (λ (y : Entries). AreInBlocks w k.out (put k.link name link) y (map.insert objects name (object_of raw e.count))) (same ∙ sym dir.1)
              (stored-insert v w k.out k.out k.link m objects name link e (object_of raw e.count) kept.stored
              (λ q other. stays-apart d rest.space v w k.laid k.out has e.place st.class e.place (record_size raw) st.block (omega arith) (omega (arith, size)) t (map.get m q)
              (λ f is_f at. other (kept.stored.apart q name f e is_f there at)))
              (λ q f other is_f at. other (kept.stored.apart q name f e is_f there at))
              (record {
                count = refl;
                named = named;
                uncounted = refl;
                raw = uncounted-raw raw raw_is;
                class = st.class;
                is_class = is;
                block = st.block;
                laid = uncounted-laid w e.place raw link wrote.laid;
              }));
          linked = linked-put k.link (link_to rest.first) name link pending (λ _. linked) kept.linked;
          are_pending = pending-insert objects pending name (object_of raw e.count) kept.are_pending;
        };
        owned = subst (λ (y : Entries). (p c : ℕ) → k.out p ≡ Some c → IsOwned y p) (sym dir.1) k.owned;
      },
      dir.1,
    )

-- ---- a name gets another count

pub disk-recounted : (rest : DiskRest) (d' : Directory) (v x : List ℕ) (objects : Objects) (pending : List ℕ) (name count : ℕ) (k : IsDisk rest v objects pending) (e : Entry)
    (o : DiskObject) → map.get (entries_of rest.directory v) name ≡ Some e → map.get objects name ≡ Some o → room_of d' ≡ room_of rest.directory
    → IsChanged d' (map.insert (entries_of rest.directory v) name (record { count = count; place = e.place })) v x
    → IsDisk (with_directory rest d') x (map.insert objects name (record { raw = o.raw; count = count })) pending
disk-recounted rest d' v x objects pending name count k e o there object room ch =
    let d : Directory = rest.directory in
    let m : Entries = entries_of d v in
    let kept = k.kept in
    let f : Entry = record { count = count; place = e.place } in
    let p : DiskObject = record { raw = o.raw; count = count } in
    let got = alike-entry v k.out (k.link name) name (map.get m name) (map.get objects name) e there (kept.stored.each name) in
    let st : IsInBlock v k.out (k.link name) name e o = subst (λ (y : DiskObject). IsInBlock v k.out (k.link name) name e y) (some-inside (sym got.1 ∙ object)) got.2 in
    let stays = stays-front d d' rest.space v x k.laid k.out kept.space room ch.behind in
    record {
      laid = k.laid;
      out = k.out;
      link = put k.link name (k.link name);
      kept = record {
        directory = ch.is_in;
        space = space-front d rest.space v x k.laid k.out kept.space d' room ch.behind;
        stored = subst (λ (y : Entries). AreInBlocks x k.out (put k.link name (k.link name)) y (map.insert objects name p)) (sym ch.entries_are)
            (stored-insert v x k.out k.out k.link m objects name (k.link name) f p kept.stored
            (λ q other. stays (map.get m q))
            (λ q g other is_g at. other (kept.stored.apart q name g e is_g there at))
            (record {
              count = refl;
              named = st.named;
              uncounted = st.uncounted;
              raw = st.raw;
              class = st.class;
              is_class = st.is_class;
              block = st.block;
              laid = laid-kept v x e.place (block_size st.class) o.raw (k.link name) st.is_class.fits (stays (Some e) e st.class refl st.block).1 st.laid;
            }));
        linked = linked-put k.link (link_to rest.first) name (k.link name) pending (λ _. refl) kept.linked;
        are_pending = pending-insert objects pending name p kept.are_pending;
      };
      owned = subst (λ (y : Entries). (q c : ℕ) → k.out q ≡ Some c → IsOwned y q) (sym ch.entries_are) (λ q c gone.
          let r = k.owned q c gone in
          ⊎_elim
          (λ (h : r.0 ≡ name). (name, f, insert-at m name f name refl, ap (λ (z : Entry). z.place) (some-inside (sym there ∙ ap (map.get m) (sym h) ∙ r.2)) ∙ r.3))
          (λ (h : r.0 ≢ name). (r.0, r.1, insert-there m name f r.0 h ∙ r.2, r.3))
          (equal_or_not r.0 name));
    }

-- the same change, told of other contents that are the same
pub changed-from : (d d' : Directory) (w v x : List ℕ) (name : ℕ) (e : Entry) → w ≡ v → IsChanged d' (map.insert (entries_of d w) name e) w x
    → IsChanged d' (map.insert (entries_of d v) name e) v x
changed-from d d' w v x name e same ch = subst (λ (u : List ℕ). IsChanged d' (map.insert (entries_of d u) name e) u x) same ch

pub removed-from : (d d' : Directory) (w v x : List ℕ) (name : ℕ) → w ≡ v → IsChanged d' (map.remove (entries_of d w) name) w x
    → IsChanged d' (map.remove (entries_of d v) name) v x
removed-from d d' w v x name same ch = subst (λ (u : List ℕ). IsChanged d' (map.remove (entries_of d u) name) u x) same ch

-- the same change, told of another word for the name
pub changed-named : (d d' : Directory) (w x : List ℕ) (name n : ℕ) (e : Entry) → n ≡ name → IsChanged d' (map.insert (entries_of d w) n e) w x
    → IsChanged d' (map.insert (entries_of d w) name e) w x
changed-named d d' w x name n e same ch = subst (λ (k : ℕ). IsChanged d' (map.insert (entries_of d w) k e) w x) same ch

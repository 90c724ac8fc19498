-- The disk that holds the objects of records: what it is after calls that leave Work as it is, and with one record more.
use Rattle.std.proofs.Common.{◌≡◌, ℕ, Bool, true, false, cond, eqb, List, [], ◌∷◌, ◌++◌, Option, Some, None, option_map, IsTrue, refl, sym, ap, ap₂, subst, ◌∙◌, inl, inr}
use Rattle.std.specs.Prelude.{All, IsSome, slice_get}
use Rattle.std.proofs.Math.Path.{fun_ext}
use Rattle.std.proofs.lemmas.List.Elements.{All-get_or}
use Rattle.std.proofs.lemmas.Option.{get_or_from_slice_get, slice_get_within}
use Rattle.std.proofs.lemmas.Bool.{cases_eq, eq-eqb, ne_eqb}
use Rattle.std.specs.FinMap as map
use Rattle.std.specs.FinMap.{get-empty}
use Rattle.std.specs.Ordering.{nat_cmp}
use Rattle.long_names.specs.Objects.{IsRecord}
use Rattle.long_names.specs.Record.{record_text}
use Rattle.long_names.specs.declared.object.Object.{Object}
use Rattle.long_names.specs.declared.object.Rec.{Rec}
use Rattle.loom_host.specs.declared.outside.Host.{Ghosts}
use Rattle.loom_host.specs.declared.outside.Role.TheVariants.{Work}
use Rattle.loom_host.specs.Outside.{RoleState}
use Rattle.loom_host.specs.Work.{work_of}
use Rattle.object_record.specs.Buffer.{HasRecord, raw_of}
use Rattle.object_record.specs.Objects as raw_objects
use Rattle.object_record.specs.Raw.{RawRecord, raw_record}
use Rattle.object_record.proofs.ObjectLaws.{object-again}
use Rattle.object_record.proofs.Records.{same-text, is-raw}
use Rattle.object_record.proofs.Texts.{begun}
use Rattle.work_space.specs.Blocks.{put}
use Rattle.disk_objects.specs.declared.rest.DiskRest.{DiskRest}
use Rattle.disk_objects.specs.Calls.{HoldsObjects}
use Rattle.disk_objects.specs.Disk.{IsDisk, object_of}
use Rattle.disk_objects.specs.Function.{PutsObject, disk_of, counts_of, objects_at, counts_at, object_held, count_held}
use Rattle.disk_objects.proofs.FunctionLaws.{disk-is, counts-is}
use Rattle.image_format.specs.Rules.{object_of_rec, rec_in}
use Rattle.image_reader.specs.Loaded.{IsStored}

-- ---- the same Work

pub same_work : {H : Type 0} (host : Ghosts H) (old new : H) → host.roles new Work ≡ host.roles old Work → work_of host new ≡ work_of host old
same_work host old new e = ap (λ (s : RoleState). s.contents) e

pub still_stored : {H : Type 0} (host : Ghosts H) (old new : H) (rest after : DiskRest) (recs : List Rec) → host.roles new Work ≡ host.roles old Work → after ≡ rest → IsStored host old rest recs → IsStored host new after recs
still_stored host old new rest after recs work same s = record {
  objects = s.objects;
  is = subst (λ (r : DiskRest). IsDisk r (work_of host new) s.objects []) (sym same) (subst (λ (v : List ℕ). IsDisk rest v s.objects []) (sym (same_work host old new work)) s.is);
  at = ap₂ (λ (r : DiskRest) (v : List ℕ). objects_at r v) same (same_work host old new work) ∙ s.at;
  counts = ap₂ (λ (r : DiskRest) (v : List ℕ). counts_at r v) same (same_work host old new work) ∙ s.counts;
}

-- an empty disk holds no records
pub stored_none : {H : Type 0} (host : Ghosts H) (now : H) (rest : DiskRest) → IsDisk rest (work_of host now) map.empty [] → IsStored host now rest []
stored_none host now rest is = record {
  objects = map.empty;
  is = is;
  at = fun_ext (λ n. disk-is rest (work_of host now) map.empty [] n is ∙ ap object_held (get-empty nat_cmp n));
  counts = fun_ext (λ n. counts-is rest (work_of host now) map.empty [] n is ∙ ap count_held (get-empty nat_cmp n));
}

pub still_holds : {H : Type 0} (host : Ghosts H) (old new : H) (rest after : DiskRest) → host.roles new Work ≡ host.roles old Work → after ≡ rest → HoldsObjects host old rest → HoldsObjects host new after
still_holds host old new rest after work same stands = λ told.
    let s = stands told in
    (s.0, s.1, subst (λ (r : DiskRest). IsDisk r (work_of host new) s.0 s.1) (sym same) (subst (λ (v : List ℕ). IsDisk rest v s.0 s.1) (sym (same_work host old new work)) s.2), tt)

pub stored_holds : {H : Type 0} (host : Ghosts H) (now : H) (rest : DiskRest) (recs : List Rec) → (IsTrue (host.tells Work) → IsStored host now rest recs) → HoldsObjects host now rest
stored_holds host now rest recs s = λ told. let t = s told in (t.objects, [], t.is, tt)

-- ---- one record more

abbrev or_else : Option Rec → Option Rec → Option Rec
or_else None other = other
or_else (Some r) other = Some r

rec_in-append : (xs ys : List Rec) (q : ℕ) → rec_in (xs ++ ys) q ≡ or_else (rec_in xs q) (rec_in ys q)
rec_in-append [] ys q = refl
rec_in-append (x ∷ xs) ys q = go (eqb x.name q) (rec_in-append xs ys q)
  where
    go : (b : Bool) → rec_in (xs ++ ys) q ≡ or_else (rec_in xs q) (rec_in ys q) → cond b (Some x) (rec_in (xs ++ ys) q) ≡ or_else (cond b (Some x) (rec_in xs q)) (rec_in ys q)
    go true later = refl
    go false later = later

or_none : (o : Option Rec) → or_else o None ≡ o
or_none None = refl
or_none (Some r) = refl

-- the record of another name stays
pub rec_apart : (recs : List Rec) (r : Rec) (q : ℕ) → (q ≡ r.name → ⊥) → rec_in (recs ++ r ∷ []) q ≡ rec_in recs q
rec_apart recs r q other =
    let no : eqb r.name q ≡ false = ne_eqb r.name q (λ e. other (sym e)) in
    rec_in-append recs (r ∷ []) q ∙ ap (λ (b : Bool). or_else (rec_in recs q) (cond b (Some r) None)) no ∙ or_none (rec_in recs q)

-- and the new one is there
pub rec_here : (recs : List Rec) (r : Rec) → rec_in recs r.name ≡ None → rec_in (recs ++ r ∷ []) r.name ≡ Some r
rec_here recs r none =
    let yes : eqb r.name r.name ≡ true = eq-eqb r.name r.name refl in
    rec_in-append recs (r ∷ []) r.name
    ∙ ap (λ (o : Option Rec). or_else o (cond (eqb r.name r.name) (Some r) None)) none
    ∙ ap (λ (b : Bool). let o : Option Rec = cond b (Some r) None in o) yes

module _ {A : Type 0} (part : Rec → A) (recs : List Rec) (r : Rec) (none : rec_in recs r.name ≡ None) where
  -- what a part of the records is with one more
  pub part_more : (q : ℕ) → option_map part (rec_in (recs ++ r ∷ []) q) ≡ put (λ n. option_map part (rec_in recs n)) r.name (Some (part r)) q
  part_more q = elim (cases_eq q r.name) [
    | inl same ↦
        let yes : eqb q r.name ≡ true = eq-eqb q r.name same in
        ap (λ (n : ℕ). option_map part (rec_in (recs ++ r ∷ []) n)) same
        ∙ ap (option_map part) (rec_here recs r none)
        ∙ sym (ap (λ (b : Bool). cond b (Some (part r)) (option_map part (rec_in recs q))) yes)
    | inr other ↦
        let no : eqb q r.name ≡ false = ne_eqb q r.name other in
        ap (option_map part) (rec_apart recs r q other)
        ∙ sym (ap (λ (b : Bool). cond b (Some (part r)) (option_map part (rec_in recs q))) no)
  ]

pub stored_more : {H : Type 0} (host : Ghosts H) (old new : H) (rest after : DiskRest) (recs : List Rec) (r : Rec) (raw : RawRecord) (s : IsStored host old rest recs) → IsRecord r → raw ≡ raw_record r → rec_in recs r.name ≡ None
    → PutsObject host old new rest after raw r.count → IsDisk after (work_of host new) (map.insert s.objects raw.name (object_of raw r.count)) [] → IsStored host new after (recs ++ r ∷ [])
stored_more host old new rest after recs r raw s is same none puts disk =
    let object : raw_objects.object_in raw ≡ object_of_rec r = ap raw_objects.object_in same ∙ object-again r is in
    let name : raw.name ≡ r.name = ap (λ (w : RawRecord). w.name) same in
    record {
      objects = map.insert s.objects raw.name (object_of raw r.count);
      is = disk;
      at =
          puts.objects
          ∙ ap₂ (λ (n : ℕ) (o : Object). put (disk_of host old rest) n (Some o)) name object
          ∙ ap (λ (f : ℕ → Option Object). put f r.name (Some (object_of_rec r))) s.at
          ∙ sym (fun_ext (part_more object_of_rec recs r none));
      counts =
          puts.counts
          ∙ ap (λ (n : ℕ). put (counts_of host old rest) n (Some r.count)) name
          ∙ ap (λ (f : ℕ → Option ℕ). put f r.name (Some r.count)) s.counts
          ∙ sym (fun_ext (part_more (λ (x : Rec). x.count) recs r none));
    }

-- ---- a buffer that begins with the bytes of a record

pub buffer_has : (bytes rest buffer : List ℕ) (r : Rec) → IsRecord r → bytes ≡ record_text r → buffer ≡ bytes ++ rest → HasRecord buffer × (raw_of buffer ≡ raw_record r)
buffer_has bytes rest buffer r is text e =
    let at = begun buffer (raw_record r) rest (is-raw r is) (e ∙ ap (λ (t : List ℕ). t ++ rest) (text ∙ sym (same-text r))) in
    (at.0, at.1)

-- ---- names that are held

all_at : (P : ℕ → Type 0) (xs : List ℕ) (i x : ℕ) → All P xs → slice_get xs i ≡ Some x → P x
all_at P xs i x all e = subst P (get_or_from_slice_get xs i x x e) (All-get_or P xs i x (slice_get_within xs i x e) all)

pub still_held : {H : Type 0} (host : Ghosts H) (old new : H) (rest after : DiskRest) (names : List ℕ) (i name : ℕ) → host.roles new Work ≡ host.roles old Work → after ≡ rest → slice_get names i ≡ Some name → All (λ (n : ℕ). IsSome (disk_of host old rest n)) names → IsSome (disk_of host new after name)
still_held host old new rest after names i name work same at all =
    subst (λ (f : ℕ → Option Object). IsSome (f name)) (sym (ap₂ (λ (r : DiskRest) (v : List ℕ). objects_at r v) same (same_work host old new work))) (all_at (λ (n : ℕ). IsSome (disk_of host old rest n)) names i name all at)

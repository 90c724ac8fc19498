-- Counting the words of a heap, and its records.
use Rattle.std.proofs.Common.{zero, suc, ◌≡◌, ℕ, ◌+◌, ◌^◌, eqb, lit<, ◌<◌, ◌≤◌, Bool, true, false, cond, List, [], ◌∷◌, ◌++◌, length, take, Option, Some, None, refl, sym, ◌∙◌, ap, arith, get_or, map}
use Rattle.std.proofs.lemmas.Option.{slice_get_within, get_or_from_slice_get}
use Rattle.std.proofs.lemmas.List.Sums.{count_by_more_yes, count_by_more_no, count_by-le-length, sum_by-le}
use Rattle.std.proofs.lemmas.Map.Views.{All-found}
use Rattle.std.proofs.lemmas.List.{map-append}
use Rattle.std.proofs.lemmas.List.Elements.{All-map}
use mathlib.Core.Path.{fun_ext}
use Rattle.std.specs.Ordering.{nat_cmp}
use Rattle.std.specs.Cmp.{nat_cmp_total}
use Rattle.std.specs.BTreeMap.{get}
use Rattle.std.specs.List.{All, count_by, slice_get, sum_by}
use Rattle.std.specs.Option.{option_map_or}
use Rattle.long_names.specs.Objects.{HasSize, fields_of, is_ref, holdings, IsObject, IsRecord}
use Rattle.long_names.specs.Heap.{Heap, count_of, rec_of}
use Rattle.long_names.specs.declared.value.Value.{Value}
use Rattle.long_names.specs.declared.object.Body.{Body}
use Rattle.long_names.specs.declared.object.Body.TheVariants.{Pointers, Words, Bytes, Method}
use Rattle.long_names.specs.declared.object.Object.{Object}
use Rattle.long_names.specs.declared.object.Rec.{Rec}
use Rattle.object_memory.specs.declared.plain.objects.Objects.{Objects}
use Rattle.object_memory.specs.Plain.{heap_of}
use Rattle.object_memory.specs.Records.{recs_below, recs_of}
use Rattle.object_memory.proofs.Entries.{entries_below, entry_at, words_of, length-le, map-rises, map-below, holdings-entries}
use Rattle.object_memory.proofs.MapLaws.{heap-entries}

-- one value more
pub count_by-more : (q : ℕ) (values : List Value) (i : ℕ) (v : Value) → slice_get values i ≡ Some v → count_by (is_ref q) (take (i + 1) values) ≡ count_by (is_ref q) (take i values) + cond (is_ref q v) 1 0
count_by-more q values i v e = go (is_ref q v) refl
  where
    low : i < length values
    low = slice_get_within values i v e

    here : get_or values i v ≡ v
    here = get_or_from_slice_get values i v v e

    go : (b : Bool) → is_ref q v ≡ b → count_by (is_ref q) (take (i + 1) values) ≡ count_by (is_ref q) (take i values) + cond (is_ref q v) 1 0
    go true is = count_by_more_yes (is_ref q) values i v low (ap (is_ref q) here ∙ is) ∙ ap (λ b. count_by (is_ref q) (take i values) + cond b 1 0) (sym is)
    go false is = count_by_more_no (is_ref q) values i v low (ap (is_ref q) here ∙ is) ∙ (rw is (omega arith))

-- an object has fewer than 65,536 fields
pub fields-few : (o : Object) → IsObject o → length (fields_of o.body) < 65536
fields-few o x = go o.body x.body.size
  where
    go : (b : Body) → HasSize b → length (fields_of b) < 65536
    go (Pointers values) h = h
    go (Words words) h = lit< tt
    go (Bytes bytes) h = lit< tt
    go (Method header literals code) h = let stated = h.1 in omega arith

-- an object has at most 65,536 words
pub holdings-le : (name : ℕ) (o : Object) → IsObject o → holdings o name ≤ 65536
holdings-le name o x = go (eqb o.class name) (fields-few o x) (count_by-le-length (is_ref name) (fields_of o.body))
  where
    go : (b : Bool) → length (fields_of o.body) < 65536 → count_by (is_ref name) (fields_of o.body) ≤ length (fields_of o.body) → cond b 1 0 + count_by (is_ref name) (fields_of o.body) ≤ 65536
    go true few part = omega arith
    go false few part = omega arith

-- each entry of a map is an object
pub entries-objects : (m : Objects) → All (λ (e : ℕ × Object). IsObject e.1) m.objects.entries
entries-objects m = λ k d low. m.stored.object _ _ (All-found nat_cmp_total m.objects m.stored.ordered k d low)

-- a heap has fewer than 2 ^ 48 words of one name
pub words-few : (m : Objects) (name : ℕ) → sum_by (words_of name) m.objects.entries ≤ 2 ^ 48
words-few m name =
    let ordered = m.stored.ordered in
    let small = m.stored.fits in
    let few = length-le m.next 0 m.objects.entries (map-rises m.objects ordered) (map-below m.objects m.next ordered m.stored.below) in
    let total = sum_by-le (words_of name) 65536 m.objects.entries (λ k d low. holdings-le name _ (entries-objects m k d low)) in
    omega arith

-- the counts of all entries are those of the heap
pub counted-all : (m : Objects) (name : ℕ) → count_of (heap_of m) name ≡ sum_by (words_of name) m.objects.entries
unfolding count_of
counted-all m name = holdings-entries (heap_of m) name m.next ∙ ap (λ es. sum_by (words_of name) es) (heap-entries m)

-- ---- records

-- the record of an entry, with these counts
abbrev pub rec_with : (ℕ → ℕ) → ℕ × Object → Rec
rec_with counts e = record { name = e.0; class = e.1.class; count = counts e.0; body = e.1.body }

recs-entries : (h : Heap) (n : ℕ) → recs_below h n ≡ map (rec_with (count_of h)) (entries_below h.at n)
recs-entries h zero = refl
recs-entries h (suc n) =
    ap (λ (rs : List Rec). rs ++ option_map_or (λ (o : Object). rec_of h n o ∷ []) (h.at n) []) (recs-entries h n)
    ∙ ap (λ (rs : List Rec). map (rec_with (count_of h)) (entries_below h.at n) ++ rs) (one (h.at n))
    ∙ sym (map-append (rec_with (count_of h)) (entries_below h.at n) (entry_at h.at n))
  where
    one : (x : Option Object) → option_map_or (λ (o : Object). rec_of h n o ∷ []) x [] ≡ map (rec_with (count_of h)) (option_map_or (λ o. (n, o) ∷ []) x [])
    one None = refl
    one (Some o) = refl

-- the records of a map's heap are those of its entries
pub recs-are : (m : Objects) (counts : ℕ → ℕ) → ((q : ℕ) → counts q ≡ count_of (heap_of m) q) → recs_of (heap_of m) ≡ map (rec_with counts) m.objects.entries
unfolding recs_of
recs-are m counts exact =
    recs-entries (heap_of m) m.next
    ∙ ap (λ es. map (rec_with (count_of (heap_of m))) es) (heap-entries m)
    ∙ ap (λ (f : ℕ → ℕ). map (rec_with f) m.objects.entries) (sym (fun_ext exact))

-- and each is a record that an image may have
pub records-are : (m : Objects) (counts : ℕ → ℕ) → ((q : ℕ) → counts q < 2 ^ 64) → All IsRecord (map (rec_with counts) m.objects.entries)
records-are m counts small = All-map IsRecord (rec_with counts) m.objects.entries (λ k d low. one (get_or m.objects.entries k d) (All-found nat_cmp_total m.objects m.stored.ordered k d low))
  where
    one : (e : ℕ × Object) → get nat_cmp m.objects e.0 ≡ Some e.1 → IsRecord (rec_with counts e)
    one e at = let is = m.stored.object e.0 e.1 at in record { name = m.stored.named e.0 e.1 at; class = is.class; count = small e.0; body = is.body; range = is.range }

-- How many fields the objects of a memory have, so that counts fit their numbers.
use Rattle.std.proofs.Common.{zero, suc, is_some, ◌≡◌, ℕ, ◌+◌, ◌<◌, ◌≤◌, Bool, true, false, cond, eqb, length, List, [], Option, Some, None, refl, sym, ◌∙◌, ap, subst, arith}
use Rattle.std.proofs.lemmas.List.{length-map}
use Rattle.std.specs.FinMap as map
use Rattle.std.specs.Prelude.{◌^◌, nat_lt}
use Rattle.std.proofs.lemmas.Grind.{common_steps}
use Rattle.std.proofs.lemmas.List.Sums.{count_by-le-length}
use Rattle.long_names.specs.declared.value.Value.{Value}
use Rattle.long_names.specs.declared.value.Value.TheVariants.{Int, Ref}
use Rattle.long_names.specs.declared.limits.TheConstants.{MOST_FIELDS}
use Rattle.long_names.specs.declared.object.Object.{Object}
use Rattle.long_names.specs.Objects.{fields_of, holdings, is_ref}
use Rattle.long_names.specs.Words.{literal_count, value_of}
use Rattle.long_names.specs.Heap.{Heap, count_of}
use Rattle.object_record.specs.Raw.{RawBody, RawPointers, RawWords, RawBytes, RawMethod, RawRecord, HasRawSize, IsRawRecord, stated_by, longs_of}
use Rattle.object_record.specs.Objects.{object_in, value_in}
use Rattle.work_directory.specs.Table.{Entry as Slot}
use Rattle.work_directory.specs.Directory.{entries_of}
use Rattle.disk_objects.specs.declared.rest.DiskRest.{DiskRest}
use Rattle.disk_objects.specs.Disk.{DiskObject, AreAlike}
use Rattle.object_table.specs.Entries.{place_of}
use Rattle.core_view.specs.Core.{Core}
use Rattle.core_view.specs.Words.{meant, pointers}
use Rattle.core_view.specs.Held.{fields_there, object_at}
use Rattle.core_view.specs.Kept.{IsCore}
use Rattle.core_view.proofs.Core.{held-at, held-leaf, held-absent}
use Rattle.core_view.proofs.Words.{body-fields}
use Rattle.core_view.proofs.Lists.{length-values}
use Rattle.core_view.proofs.Few.{literal_count-small, pointers-small}
use Rattle.leaf_lambda.proofs.RecordLaws.{fields-values}
use Rattle.core_view.specs.Levels.{Stored, Levels, record_in, records_of, heap_of}
use Rattle.core_view.specs.Counted.{IsHeld, IsSound as AreSound}
use Rattle.long_names.proofs.CountLaws.{sum_below, sum-limit, words_in, count-sum}
use Rattle.delta_counts.specs.At.{IsStoredIn}
use Rattle.delta_counts.proofs.StoredLaws.{object-at}

-- ---- of a record

stated-few : (v : Option Value) (n : ℕ) → stated_by v ≡ Some n → n < 64
stated-few None n e = absurd (cc)
stated-few (Some (Int z)) n e = let is : literal_count z ≡ n = cc in let few = literal_count-small z in omega (arith, is, few)
stated-few (Some (Ref k)) n e = absurd (cc)

longs-few : (b : RawBody) → HasRawSize b → length (longs_of b) ≤ MOST_FIELDS
longs-few (RawPointers longs) size = omega arith
longs-few (RawWords words) size = omega arith
longs-few (RawBytes bytes) size = omega arith
longs-few (RawMethod header literals code) size = let few = stated-few (value_of header) (length literals) size.0 in omega (arith, few)

alike-raw : (work : List ℕ) (out : ℕ → Option ℕ) (link name : ℕ) (e : Option Slot) (o : DiskObject) → AreAlike work out link name e (Some o) → IsRawRecord o.raw
alike-raw work out link name None o x = absurd x
alike-raw work out link name (Some e) o x = x.raw

raw-few : (r : RawRecord) → IsRawRecord r → length (fields_of (object_in r).body) ≤ MOST_FIELDS
raw-few r raw = subst (λ (n : ℕ). n ≤ MOST_FIELDS) (sym (ap length (fields-values r.body) ∙ length-map (longs_of r.body) value_in)) (longs-few r.body raw.size)

pub stored-few : (rest : DiskRest) (work : List ℕ) (stored : ℕ → Option Stored) (pending : List ℕ) (k : ℕ) (r : Stored) → IsStoredIn rest work stored pending → stored k ≡ Some r → length (fields_of r.object.body) ≤ MOST_FIELDS
stored-few rest work stored pending k r x there =
    let at = object-at x.objects stored k r x.same there in
    let alike = subst (λ (z : Option DiskObject). AreAlike work x.disk.out (x.disk.link k) k (map.get (entries_of rest.directory work) k) z) at.1 (x.disk.kept.stored.each k) in
    subst (λ (z : Stored). length (fields_of z.object.body) ≤ MOST_FIELDS) at.2 (raw-few at.0.raw (alike-raw work x.disk.out (x.disk.link k) k (map.get (entries_of rest.directory work) k) at.0 alike))

-- ---- of a body

body-few : (c : Core) (disk : ℕ → Option Object) (s p : ℕ) → IsCore c → place_of (c.entries s).state ≡ Some p → length (fields_of (object_at c disk (c.entries s) p).body) ≤ MOST_FIELDS
body-few c disk s p core at =
    let few = pointers-small (c.entries s).kind (c.chunks p).words (c.entries s).len (core.long s p at) (core.small s p at) in
    let same = ap length (body-fields c.entries (fields_there (disk (c.entries s).name)) (c.chunks p).words (c.entries s).kind (c.entries s).len)
    ∙ length-values (meant c.entries (fields_there (disk (c.entries s).name))) (pointers (c.entries s).kind (c.chunks p).words) in
    omega (arith, few, same)

-- ---- of the levels

pub levels-few : (rest : DiskRest) (work : List ℕ) (t : Levels) → IsStoredIn rest work t.stored t.pending → AreSound t [] → (k : ℕ) (o : Object) → (heap_of t).at k ≡ Some o → length (fields_of o.body) ≤ MOST_FIELDS
levels-few rest work t x sound k o there = go (t.core.find k) refl
  where
    some-same : (p : Object) → Some p ≡ Some o → p ≡ o
    some-same p e = cc

    of-record : (r : Option Stored) → t.stored k ≡ r → record_in r ≡ Some o → length (fields_of o.body) ≤ MOST_FIELDS
    of-record None e f = absurd (let z : None ≡ Some o = f in cc)
    of-record (Some r) e f = subst (λ (p : Object). length (fields_of p.body) ≤ MOST_FIELDS) (some-same r.object f) (stored-few rest work t.stored t.pending k r x e)

    placed : (s : ℕ) → t.core.find k ≡ Some s → (p : Option ℕ) → place_of (t.core.entries s).state ≡ p → length (fields_of o.body) ≤ MOST_FIELDS
    placed s e None f = of-record (t.stored k) refl (sym (held-leaf t.core (records_of t) k s e f) ∙ there)
    placed s e (Some p) f = subst (λ (z : Object). length (fields_of z.body) ≤ MOST_FIELDS)
        (some-same (object_at t.core (records_of t) (t.core.entries s) p) (sym (held-at t.core (records_of t) k s p e f) ∙ there)) (body-few t.core (records_of t) s p sound.core f)

    go : (s : Option ℕ) → t.core.find k ≡ s → length (fields_of o.body) ≤ MOST_FIELDS
    go None e = of-record (t.stored k) refl (sym (held-absent t.core (records_of t) k e) ∙ there)
    go (Some s) e = placed s e (place_of (t.core.entries s).state) refl

-- ---- of the counts

-- names have 32 bits, so a sum over them has at most so many terms above 0
sum-capped : (n : ℕ) (f : ℕ → ℕ) → ((k : ℕ) → f k ≤ 65536) → ((k : ℕ) → 2 ^ 32 ≤ k → f k ≡ 0) → sum_below n f ≤ 2 ^ 48
sum-capped zero f most none = omega arith
sum-capped (suc n) f most none = go (nat_lt n (2 ^ 32)) refl (sum-capped n f most none)
  where
    go : (b : Bool) → nat_lt n (2 ^ 32) ≡ b → sum_below n f ≤ 2 ^ 48 → sum_below n f + f n ≤ 2 ^ 48
    go true e rest =
        let low : n < 2 ^ 32 = grind (arith, common_steps, e) in
        let all = sum-limit n f 65536 (λ k under. most k) in
        let one = most n in
        omega (arith, low, all, one)
    go false e rest =
        let high : 2 ^ 32 ≤ n = grind (arith, common_steps, e) in
        let nought = none n high in
        omega (arith, rest, nought)

at_most : (b : Bool) → cond {A = ℕ} b 1 0 ≤ 1
at_most true = omega arith
at_most false = omega arith

holdings-few : (o : Object) (q : ℕ) → length (fields_of o.body) ≤ MOST_FIELDS → holdings o q ≤ 65536
holdings-few o q few = let most = count_by-le-length (is_ref q) (fields_of o.body) in let one = at_most (eqb o.class q) in omega (arith, few, most, one)

pub counts-few : (h : Heap) (q : ℕ) → IsHeld h → ((k : ℕ) (o : Object) → h.at k ≡ Some o → length (fields_of o.body) ≤ MOST_FIELDS) → count_of h q ≤ 2 ^ 48
counts-few h q held few = subst (λ (n : ℕ). n ≤ 2 ^ 48) (sym (count-sum h q)) (sum-capped h.next (λ k. words_in q (h.at k)) (λ k. most k (h.at k) refl) (λ k high. none k high (h.at k) refl))
  where
    most : (k : ℕ) (o : Option Object) → h.at k ≡ o → words_in q o ≤ 65536
    most k None e = omega arith
    most k (Some o) e = holdings-few o q (few k o e)

    none : (k : ℕ) → 2 ^ 32 ≤ k → (o : Option Object) → h.at k ≡ o → words_in q o ≡ 0
    none k high None e = refl
    none k high (Some o) e = let long = held.long k (ap is_some e) in let low = long.1 in absurd (omega (arith, low, high))

pub levels-counts : (rest : DiskRest) (work : List ℕ) (t : Levels) (q : ℕ) → IsStoredIn rest work t.stored t.pending → AreSound t [] → count_of (heap_of t) q ≤ 2 ^ 48
levels-counts rest work t q x sound = counts-few (heap_of t) q sound.heap (levels-few rest work t x sound)

-- What is left on a disk where a memory has ended is the heap of an image.
-- The objects are those of records on the disk, whose fields are values since the memory's were; names, holders and known objects are those
-- of the kept part of a heap; and there are as many objects as the disk counts, which has room for as many as an image may have.
use Rattle.std.proofs.Common.{zero, suc, ◌≡◌, ℕ, ◌+◌, ◌<◌, ◌≤◌, ◌%◌, Bool, true, false, ltb, leb, ◌||◌, ◌&&◌, cond, List, [], ◌∷◌, length, get_or, Option, Some, None, is_some, IsTrue, refl, sym, ◌∙◌, ap, subst, arith, inl, inr}
use Rattle.std.specs.Prelude.{All, ◌^◌}
use Rattle.std.proofs.lemmas.Bool.{and_parts, cases_eq, leb-true}
use Rattle.std.proofs.lemmas.List.{length-map}
use Rattle.std.proofs.lemmas.Option.{slice_get-get_or}
use Rattle.long_names.specs.declared.object.Object.{Object}
use Rattle.long_names.specs.declared.value.Value.{Value}
use Rattle.long_names.specs.declared.value.Value.TheVariants.{Int, Ref}
use Rattle.long_names.specs.Names.{IsName, LARGE_NEGATIVE_INTEGER, is_known, known_names}
use Rattle.long_names.specs.Objects.{HasRange, HasSize, IsObject, fields_of}
use Rattle.long_names.specs.Words.{IsSmallInteger, IsValue, literal_count, value_of}
use Rattle.long_names.specs.Heap.{Heap, Has, object_count, objects_below, count_of}
use Rattle.long_names.specs.Kept.{is_left, kept, no_roots}
use Rattle.long_names.proofs.KeptLaws.{IsPart, bounded-part, kept-closed, kept-fixed, kept-known, kept-part, left-counted}
use Rattle.long_names.proofs.ThinLemmas.{has}
use Rattle.loom_host.specs.declared.outside.Host.{Ghosts}
use Rattle.loom_host.specs.declared.outside.Role.TheVariants.{Work}
use Rattle.loom_host.specs.Work.{work_of}
use Rattle.image_format.specs.declared.head.TheConstants.{FEWEST_OBJECTS, LOWEST_NEXT, MOST_OBJECTS}
use Rattle.image_format.specs.Valid.{IsImageHeap}
use Rattle.image_format.proofs.Values.{value_back}
use Rattle.object_record.specs.Objects.{body_of, int_in, object_in, value_in}
use Rattle.object_record.specs.Raw.{HasRawRange, HasRawSize, IsRawRecord, RawBody, RawBytes, RawMethod, RawPointers, RawRecord, RawWords, stated_by}
use Rattle.object_record.proofs.ObjectLaws.{int_in-long}
use Rattle.disk_objects.specs.declared.rest.DiskRest.{DiskRest}
use Rattle.disk_objects.proofs.FoundLaws.{record-there}
use Rattle.disk_objects.proofs.PutLaws.{held-most}
use Rattle.core_view.specs.Kept.{IsValued}
use Rattle.core_view.specs.Counted.{IsHeld}
use Rattle.core_view.specs.Levels.{Stored, record_in}
use Rattle.delta_counts.proofs.StoredLaws.{object-at}
use Rattle.loom_memory.specs.declared.memory.LoomMemory.{LoomMemory}
use Rattle.loom_memory.specs.Memory.{loom_now, loom_parts, loom_rest, loom_told, IsSound}
use Rattle.loom_memory.proofs.AddLaws.{room-most}
use Rattle.loom_memory.proofs.ExactLaws.{levels-told}
use Rattle.image_memory.specs.Image.{HasEnded}
use Rattle.image_memory.proofs.EndLaws.{ended-exact, ended-heap}
use Rattle.image_memory.proofs.ImageLaws.{held-number}

-- ---- the object of a record

some-number : (a b : ℕ) → ◌≡◌ {A = Option ℕ} (Some a) (Some b) → a ≡ b
some-number a b e = cc

-- a header whose long word states how many literals there are
header-is : (long n : ℕ) (o : Option Value) → long < 2 ^ 32 → value_of long ≡ o → stated_by o ≡ Some n → IsSmallInteger (int_in long) × (n ≡ literal_count (int_in long))
header-is long n None low e stated = let clash : ◌≡◌ {A = Option ℕ} None (Some n) = stated in absurd (cc)
header-is long n (Some (Ref k)) low e stated = let clash : ◌≡◌ {A = Option ℕ} None (Some n) = stated in absurd (cc)
header-is long n (Some (Int z)) low e stated =
    let back = value_back long (Int z) low e in
    let same : int_in long ≡ z = sym (ap int_in back.1) ∙ int_in-long z back.0 in
    (subst IsSmallInteger (sym same) back.0, sym (some-number (literal_count z) n stated) ∙ ap literal_count (sym same))

record-size : (b : RawBody) → HasRawSize b → HasRawRange b → HasSize (body_of b)
record-size (RawPointers longs) size range = let len = length-map longs value_in in omega (arith, len, size)
record-size (RawWords words) size range = size
record-size (RawBytes bytes) size range = size
record-size (RawMethod header literals code) size range =
    let h = header-is header (length literals) (value_of header) range.0 refl size.0 in
    (h.0, length-map literals value_in ∙ h.1, size.1)

record-range : (b : RawBody) → HasRawRange b → HasRange (body_of b)
record-range (RawPointers longs) range = tt
record-range (RawWords words) range = range
record-range (RawBytes bytes) range = range
record-range (RawMethod header literals code) range = range.2

-- it is one that an image may have, where its fields are values
record-object : (r : RawRecord) → IsRawRecord r → All IsValue (fields_of (body_of r.body)) → IsObject (object_in r)
record-object r is fields = record { class = is.class; body = record { size = record-size r.body is.size is.range; fields = fields }; range = record-range r.body is.range }

fields-are : (at : ℕ → Option Object) (n : ℕ) (o : Object) → IsValued at → at n ≡ Some o → All IsValue (fields_of o.body)
fields-are at n o valued there = λ i d low. valued n i o (get_or (fields_of o.body) i d) there (slice_get-get_or (fields_of o.body) i d low)

some-object : (a b : Object) → ◌≡◌ {A = Option Object} (Some a) (Some b) → a ≡ b
some-object a b e = cc

stored-some : (s : Option Stored) (o : Object) → record_in s ≡ Some o → (r : Stored) × (s ≡ Some r) × (r.object ≡ o)
stored-some None o e = let clash : ◌≡◌ {A = Option Object} None (Some o) = e in absurd (cc)
stored-some (Some r) o e = (r, refl, some-object r.object o e)

-- ---- how many objects there are at least

objects-more : (h : Heap) (m n : ℕ) → m ≤ n → objects_below h m ≤ objects_below h n
objects-more h m zero le = let none : m ≡ 0 = omega arith in subst (λ (k : ℕ). objects_below h k ≤ objects_below h 0) (sym none) (omega arith)
objects-more h m (suc n) le = elim (cases_eq m (suc n)) [
  | inl same ↦ subst (λ (k : ℕ). objects_below h k ≤ objects_below h (suc n)) (sym same) (omega arith)
  | inr other ↦ (let rest = objects-more h m n (omega (arith, other)) in omega (arith, rest))
]

objects-here : (h : Heap) (k : ℕ) → Has h k → objects_below h (suc k) ≡ objects_below h k + 1
objects-here h k there = ap (λ (b : Bool). objects_below h k + cond b 1 0) there

-- from a name on, known names that rise stay below n
abbrev are_rising : ℕ → ℕ → List ℕ → Bool
are_rising n low [] = leb low n
are_rising n low (k ∷ ks) = leb low k && (is_known k && are_rising n (suc k) ks)

counted-from : (h : Heap) (n low : ℕ) (ks : List ℕ) → ((k : ℕ) → is_known k ≡ true → Has h k) → are_rising n low ks ≡ true → objects_below h low + length ks ≤ objects_below h n
counted-from h n low [] known e = let more = objects-more h low n (leb-true low n e) in omega arith
counted-from h n low (k ∷ ks) known e =
    let a = and_parts (leb low k) (is_known k && are_rising n (suc k) ks) e in
    let b = and_parts (is_known k) (are_rising n (suc k) ks) a.1 in
    let first = objects-more h low k (leb-true low k a.0) in
    let here = objects-here h k (known k b.0) in
    let rest = counted-from h n (suc k) ks known b.1 in
    omega arith

many-objects : (h : Heap) (n : ℕ) → are_rising n 0 known_names ≡ true → n ≤ h.next → ((k : ℕ) → is_known k ≡ true → Has h k) → FEWEST_OBJECTS ≤ object_count h
unfolding object_count
many-objects h n rising low known =
    let some = counted-from h n 0 known_names known rising in
    let more = objects-more h n h.next low in
    omega arith

-- ---- what is kept

-- what nothing holds is known
counted-known : (h : Heap) (n : ℕ) → is_left h no_roots n ≡ true → count_of h n ≡ 0 → is_known n ≡ true
counted-known h n left none = go (is_known n) (sym (ap (λ (c : ℕ). is_known n || ltb 0 c) none) ∙ sym (left-counted h n) ∙ left)
  where
    go : (b : Bool) → (b || false) ≡ true → b ≡ true
    go true e = refl
    go false e = e

module _ {H : Type 0} (host : Ghosts H) (now : H) (rest : DiskRest) (next : ℕ) (h : Heap) (x : HasEnded host now rest next h) (held : IsHeld h) where
  part : IsPart (kept h no_roots) h
  part = kept-part h no_roots

  objects-are : (n : ℕ) (o : Object) → (kept h no_roots).at n ≡ Some o → IsObject o
  objects-are n o at =
      let s = stored-some (x.left.stored n) o (x.left.image.objects n ∙ at) in
      let d = object-at x.left.at.objects x.left.stored n s.0 x.left.at.same s.1 in
      let r = record-there rest (work_of host now) x.left.at.objects [] x.left.at.disk n d.0 d.1 in
      let same : object_in d.0.raw ≡ o = ap (λ (t : Stored). t.object) d.2 ∙ s.2 in
      let there : h.at n ≡ Some (object_in d.0.raw) = part.same n o at ∙ ap (λ (p : Object). let q : Option Object = Some p in q) (sym same) in
      subst IsObject same (record-object d.0.raw r.0 (fields-are h.at n (object_in d.0.raw) held.valued there))

  few-objects : object_count (kept h no_roots) ≤ MOST_OBJECTS
  few-objects =
      let exact = ended-exact host now rest next h x in
      let number = held-number host now rest next x.left.at.objects x.left.at.disk exact.bounded in
      let same = ap object_count (ended-heap host now rest next h x) in
      let most = held-most rest.directory in
      let room = room-most rest in
      omega arith

  names-are : (n : ℕ) → Has (kept h no_roots) n → IsName n
  names-are n there = let o = has (kept h no_roots) n there in (held.long n (ap is_some (part.same n o.0 o.1))).0

  knows : (n : ℕ) → is_known n ≡ true → Has (kept h no_roots) n
  knows n e = kept-known h no_roots n e (held.known n e)

  pub ended-image : next % 2 ≡ 0 → next < 2 ^ 32 → IsImageHeap (kept h no_roots)
  ended-image even high =
      let last = held.below LARGE_NEGATIVE_INTEGER (held.known LARGE_NEGATIVE_INTEGER refl) in
      let named : (kept h no_roots).next ≡ next = part.next ∙ x.named in
      let low : LOWEST_NEXT ≤ (kept h no_roots).next = omega (arith, x.named) in
      record {
        head = record {
          enough = many-objects (kept h no_roots) 59 refl (omega arith) knows;
          few = few-objects;
          even = ap (λ (n : ℕ). n % 2) named ∙ even;
          low = low;
          high = omega arith;
        };
        bounded = bounded-part (kept h no_roots) h part x.bounded;
        names = names-are;
        objects = objects-are;
        closed = λ n k o at holds_it. kept-closed h no_roots x.bounded held.closed n o k at holds_it;
        counted = λ n there none. counted-known (kept h no_roots) n ((kept-fixed h no_roots x.bounded).fixed n there) none;
        known = knows;
      }

-- ---- of a memory

pub image-kept : {H : Type 0} (host : Ghosts H) (m : LoomMemory H host) (now : H) (rest : DiskRest) (next : ℕ) → IsTrue (host.tells Work) → IsSound host m → HasEnded host now rest next (loom_told host m).heap
    → next < 2 ^ 32 → IsImageHeap (kept (loom_told host m).heap no_roots)
unfolding loom_told
image-kept host m now rest next told sound x high =
    let e = sound.exact told in
    let heap = levels-told host (loom_parts m) (loom_now m) (loom_rest m) e.0 m.ledger.next e.1 e.3 told in
    let named : next ≡ m.ledger.next = sym x.named ∙ ap (λ (h : Heap). h.next) heap ∙ e.3 in
    ended-image host now rest next (loom_told host m).heap x (subst IsHeld (sym heap) e.2.heap) (ap (λ (n : ℕ). n % 2) named ∙ sound.over.based.even) high

-- The objects of a builder make an image exactly where no rule is broken.
-- Both directions: where nothing is broken the heap is an image's (`makes-image`), and of an image's heap nothing is broken
-- (`image-unbroken`). What an object has to be is not kept by the builder but judged (`IsEntry`); it keeps only the sizes that
-- its caller owes. `judge` has the whole judgment in its contract, so `finish` and `records` add what they write, and hand its
-- refusal on (`tells-on`, `refused-on`).
use Rattle.std.proofs.Common.{zero, suc, ◌≡◌, ℕ, ℤ, pos, negsuc, ◌+◌, ◌^◌, ◌<◌, ◌≤◌, nat_lt, nat_le, Bool, true, false, cond, eqb, ◌&&◌, ◌||◌, List, [], ◌∷◌, ◌++◌, length, Option, Some, None, Result, Ok, Err, IsErrAnd, is_some, refl, sym, ◌∙◌, ap, ap₂, subst, arith}
use Rattle.std.proofs.lemmas.Grind.{common_steps, flat_map-append}
use Rattle.std.proofs.lemmas.Map.Views.{All-found}
use Rattle.std.proofs.lemmas.List.{append-nil}
use Rattle.std.proofs.lemmas.List.Concat.{flat_map-cons}
use Rattle.std.proofs.lemmas.List.Elements.{All-head, All-tail, All-weaker}
use mathlib.Core.Path.{fun_ext}
use Rattle.std.specs.Cmp.{nat_cmp_total}
use Rattle.std.specs.Ordering.{nat_cmp}
use Rattle.std.specs.BTreeMap.{is_at}
use Rattle.std.specs.List.{All, list_all, list_any, sum_by}
use Rattle.std.specs.Option.{option_map_or}
use Rattle.long_names.specs.Names.{is_known, known_names}
use Rattle.long_names.specs.Words.{IsSmallInteger, IsValue}
use Rattle.long_names.specs.Objects.{IsBody, fields_of, holds, is_ref}
use Rattle.long_names.specs.Record.{record_text}
use Rattle.long_names.specs.Heap.{Heap, objects_below, object_count, count_of, rec_of}
use Rattle.long_names.specs.declared.value.Value.{Value}
use Rattle.long_names.specs.declared.value.Value.TheVariants.{Int, Ref}
use Rattle.long_names.specs.declared.object.Body.{Body}
use Rattle.long_names.specs.declared.object.Body.TheVariants.{Pointers, Words, Bytes, Method}
use Rattle.long_names.specs.declared.object.Object.{Object}
use Rattle.long_names.proofs.ThinLemmas.{below, has}
use Rattle.image_format.specs.Text.{IsHead, head_text, records_below, image_text}
use Rattle.image_format.specs.Valid.{IsImageHeap}
use Rattle.object_memory.proofs.Entries.{AreBelow, entries_below, entry_at, entries-found, found, map-rises, map-below, holdings-entries}
use Rattle.image_builder.specs.Rules.{◌or◌, head_breaks, is_small, is_field, fields_break, body_breaks, record_breaks, is_there, held_breaks, count_breaks, missing, first_of, reading_breaks, whole_breaks, first_broken}
use Rattle.image_builder.specs.Builder.{built_heap, Tells, IsRefused}
use Rattle.image_builder.specs.declared.fault.BuildFault.{BuildFault}
use Rattle.image_builder.specs.declared.fault.BuildFault.TheVariants.{Rule, Memory}
use Rattle.image_builder.specs.Parts.{IsEntry, words_of, rec_with, texts_with}
use Rattle.image_builder.specs.declared.builder.Builder.{Builder}
use Rattle.image_builder.proofs.Firsts.{both-none, first-none, none-first}

-- ---- tests

-- what passes a test has no rule
passes : (b : Bool) (rule : ℕ) → ◌≡◌ {A = Option ℕ} (cond b None (Some rule)) None → b ≡ true
passes true rule e = refl
passes false rule e = let no : ◌≡◌ {A = Option ℕ} (Some rule) None = e in absurd (cc)

none-of : (b : Bool) (rule : ℕ) → b ≡ true → ◌≡◌ {A = Option ℕ} (cond b None (Some rule)) None
none-of b rule e = ap (λ (b : Bool). let o : Option ℕ = cond b None (Some rule) in o) e

both-true : (a b : Bool) → (a && b) ≡ true → (a ≡ true) × (b ≡ true)
both-true true b e = (refl, e)
both-true false b e = let no : ◌≡◌ {A = Bool} false true = e in absurd (cc)

true-both : (a b : Bool) → a ≡ true → b ≡ true → (a && b) ≡ true
true-both true b e f = f
true-both false b e f = e

le-is : (a b : ℕ) → nat_le a b ≡ true → a ≤ b
le-is a b e = grind (arith, common_steps)

is-le : (a b : ℕ) → a ≤ b → nat_le a b ≡ true
is-le a b le = grind (arith, common_steps)

lt-is : (a b : ℕ) → nat_lt a b ≡ true → a < b
lt-is a b e = grind (arith, common_steps)

is-lt : (a b : ℕ) → a < b → nat_lt a b ≡ true
is-lt a b lt = grind (arith, common_steps)

eq-is : (a b : ℕ) → eqb a b ≡ true → a ≡ b
eq-is a b e = grind (arith, common_steps)

is-eq : (a b : ℕ) → a ≡ b → eqb a b ≡ true
is-eq a b e = grind (arith, common_steps)

-- ---- the head

head-passes : (b : Bool) → ◌≡◌ {A = Option (ℕ × ℕ)} (cond b None (Some (3, 0))) None → b ≡ true
head-passes true e = refl
head-passes false e = let no : ◌≡◌ {A = Option (ℕ × ℕ)} (Some (3, 0)) None = e in absurd (cc)

head-is : (count next : ℕ) → next < 2 ^ 32 → head_breaks count next ≡ None → IsHead count next
head-is count next high e =
    let a = both-true _ _ (head-passes _ e) in
    let b = both-true _ _ a.1 in
    let c = both-true _ _ b.1 in
    record { enough = le-is _ _ a.0; few = le-is _ _ b.0; even = eq-is _ _ c.1; low = le-is _ _ c.0; high = high }

is-head : (count next : ℕ) → IsHead count next → head_breaks count next ≡ None
is-head count next is =
    ap (λ (b : Bool). let o : Option (ℕ × ℕ) = cond b None (Some (3, 0)) in o)
    (true-both _ _ (is-le _ _ is.enough) (true-both _ _ (is-le _ _ is.few) (true-both _ _ (is-le _ _ is.low) (is-eq _ _ is.even))))

-- ---- a record

small-is : (z : ℤ) → IsSmallInteger z → is_small z ≡ true
small-is (pos n) is = is-lt _ _ is
small-is (negsuc n) is = is-lt _ _ is

field-is : (v : Value) → IsValue v → is_field v ≡ true
field-is (Int z) is = small-is z is
field-is (Ref n) is = refl

fields-are : (vs : List Value) → All IsValue vs → list_all is_field vs ≡ true
fields-are [] all = refl
fields-are (v ∷ vs) all = true-both _ _ (field-is v (All-head IsValue v vs all)) (fields-are vs (All-tail IsValue v vs all))

body-none : (body : Body) → IsBody body → body_breaks body ≡ None
body-none (Pointers values) is = none-of _ 6 (fields-are values is.fields)
body-none (Words words) is = refl
body-none (Bytes bytes) is = refl
body-none (Method header literals code) is =
    ap (λ (b : Bool). cond b (fields_break literals) (Some 7)) (true-both _ _ (is-le _ _ is.size.2) (true-both _ _ (small-is header is.size.0) (is-eq _ _ (sym is.size.1))))
    ∙ none-of _ 6 (fields-are literals is.fields)

record-none : (next n : ℕ) (o : Object) → n < next → IsBody o.body → record_breaks next n o ≡ None
record-none next n o low is = ap (λ (b : Bool). cond b (body_breaks o.body) (Some 4)) (is-lt n next low) ∙ body-none o.body is

record-below : (next n : ℕ) (o : Object) → record_breaks next n o ≡ None → n < next
record-below next n o e = lt-is n next (go (nat_lt n next) e)
  where
    go : (b : Bool) → cond b (body_breaks o.body) (Some 4) ≡ None → b ≡ true
    go true e = refl
    go false e = let no : ◌≡◌ {A = Option ℕ} (Some 4) None = e in absurd (cc)

-- ---- entries and the heap

entries-below : (next : ℕ) (es : List (ℕ × Object)) → All (λ (e : ℕ × Object). e.0 < next) es → AreBelow next es
entries-below next [] all = tt
entries-below next (e ∷ es) all = (All-head (λ (e : ℕ × Object). e.0 < next) e es all, entries-below next es (All-tail (λ (e : ℕ × Object). e.0 < next) e es all))

at-found : (P : ℕ × Object → Type 0) (es : List (ℕ × Object)) (n : ℕ) (o : Object) → All P es → found es n ≡ Some o → P (n, o)
at-found P [] n o all e = let no : ◌≡◌ {A = Option Object} None (Some o) = e in absurd (cc)
at-found P (x ∷ xs) n o all e = go (is_at (nat_cmp n) x.0) refl e (at-found P xs n o (All-tail P x xs all))
  where
    go : (b : Bool) → is_at (nat_cmp n) x.0 ≡ b → cond b (Some x.1) (found xs n) ≡ Some o → (found xs n ≡ Some o → P (n, o)) → P (n, o)
    go true is e next =
        let same : x.0 ≡ n = grind (arith, common_steps, is) in
        let object : x.1 ≡ o = cc in
        subst (λ (k : ℕ). P (k, o)) same (subst (λ (y : Object). P (x.0, y)) object (All-head P x xs all))
    go false is e next = next e

objects-below : (h : Heap) (n : ℕ) → objects_below h n ≡ length (entries_below h.at n)
objects-below h zero = refl
objects-below h (suc n) = ap (λ k. k + cond (is_some (h.at n)) 1 0) (objects-below h n) ∙ one (h.at n)
  where
    one : (o : Option Object) → length (entries_below h.at n) + cond (is_some o) 1 0 ≡ length (entries_below h.at n ++ option_map_or (λ o. (n, o) ∷ []) o [])
    one None = grind (arith, common_steps)
    one (Some o) = grind (arith, common_steps)

texts-below : (h : Heap) (n : ℕ) → records_below h n ≡ texts_with (count_of h) (entries_below h.at n)
texts-below h zero = refl
texts-below h (suc n) =
    ap₂ (λ (s t : List ℕ). s ++ t) (texts-below h n) (one (h.at n))
    ∙ sym (flat_map-append text (entries_below h.at n) (entry_at h.at n))
  where
    text : ℕ × Object → List ℕ
    text e = record_text (rec_with (count_of h) e)

    one : (o : Option Object) → option_map_or (λ (o : Object). record_text (rec_of h n o)) o [] ≡ texts_with (count_of h) (option_map_or (λ o. (n, o) ∷ []) o [])
    one None = refl
    one (Some o) = sym (flat_map-cons text (n, o) [] ∙ append-nil (record_text (rec_of h n o)))

-- the entries of a builder are those of its heap
pub record AreEntries (b : Builder) (next : ℕ) : Type 0 where
  pub are : entries_below (built_heap b next).at next ≡ b.objects.entries

are-entries : (b : Builder) (next : ℕ) → AreBelow next b.objects.entries → AreEntries b next
are-entries b next low = record { are = entries-found next 0 b.objects.entries (map-rises b.objects b.kept.ordered) low }

objects-are : (b : Builder) (next : ℕ) → AreEntries b next → object_count (built_heap b next) ≡ length b.objects.entries
unfolding object_count
objects-are b next e = objects-below (built_heap b next) next ∙ ap (λ (es : List (ℕ × Object)). length es) e.are

words-are : (b : Builder) (next : ℕ) → AreEntries b next → (q : ℕ) → count_of (built_heap b next) q ≡ sum_by (words_of q) b.objects.entries
unfolding count_of
words-are b next e q = holdings-entries (built_heap b next) q next ∙ ap (λ (es : List (ℕ × Object)). sum_by (words_of q) es) e.are

pub text-is : (b : Builder) (next : ℕ) → AreEntries b next → image_text (built_heap b next) ≡ head_text (length b.objects.entries) next ++ texts_with (count_of (built_heap b next)) b.objects.entries
unfolding image_text
text-is b next e =
    ap₂ (λ (n : ℕ) (t : List ℕ). head_text n next ++ t) (objects-are b next e)
    (texts-below (built_heap b next) next ∙ ap (λ (es : List (ℕ × Object)). texts_with (count_of (built_heap b next)) es) e.are)

-- what was read has no break, so all names are below the next one
pub read-entries : (b : Builder) (next : ℕ) → reading_breaks b.objects.entries next ≡ None → AreEntries b next
read-entries b next e =
    let records = first-none (record_breaks next) b.objects.entries (both-none (head_breaks (length b.objects.entries) next) (first_of (record_breaks next) b.objects.entries) e).1 in
    are-entries b next (entries-below next b.objects.entries (All-weaker (λ (e : ℕ × Object). record_breaks next e.0 e.1 ≡ None) (λ (e : ℕ × Object). e.0 < next) (λ e none. record-below next e.0 e.1 none) b.objects.entries records))

-- counts that were computed are those of the heap
pub counts-are : (b : Builder) (next : ℕ) (counts : ℕ → ℕ) → AreEntries b next → ((q : ℕ) → counts q ≡ sum_by (words_of q) b.objects.entries) → counts ≡ count_of (built_heap b next)
counts-are b next counts e exact = fun_ext (λ q. exact q ∙ sym (words-are b next e q))

-- ---- what is held

any-there : (at : ℕ → Option Object) (q : ℕ) (vs : List Value) → list_all (is_there at) vs ≡ true → list_any (is_ref q) vs ≡ true → is_some (at q) ≡ true
any-there at q [] all any = let no : ◌≡◌ {A = Bool} false true = any in absurd (cc)
any-there at q (v ∷ vs) all any = let two = both-true (is_there at v) (list_all (is_there at) vs) all in first v two.0 any (any-there at q vs two.1)
  where
    first : (v : Value) → is_there at v ≡ true → (is_ref q v || list_any (is_ref q) vs) ≡ true → (list_any (is_ref q) vs ≡ true → is_some (at q) ≡ true) → is_some (at q) ≡ true
    first (Int z) there any rest = rest any
    first (Ref n) there any rest = go (eqb n q) refl any
      where
        go : (b : Bool) → eqb n q ≡ b → (b || list_any (is_ref q) vs) ≡ true → is_some (at q) ≡ true
        go true is any = let same = eq-is n q is in subst (λ (k : ℕ). is_some (at k) ≡ true) same there
        go false is any = rest any

held-there : (at : ℕ → Option Object) (n q : ℕ) (o : Object) → held_breaks at n o ≡ None → holds o q ≡ true → is_some (at q) ≡ true
held-there at n q o e held = go (eqb o.class q) refl held
  where
    two : (is_some (at o.class) ≡ true) × (list_all (is_there at) (fields_of o.body) ≡ true)
    two = both-true _ _ (passes _ 10 e)

    go : (b : Bool) → eqb o.class q ≡ b → (b || list_any (is_ref q) (fields_of o.body)) ≡ true → is_some (at q) ≡ true
    go true is held = let same = eq-is o.class q is in subst (λ (k : ℕ). is_some (at k) ≡ true) same two.0
    go false is held = any-there at q (fields_of o.body) two.1 held

or-left : (a b : Bool) → a ≡ true → (a || b) ≡ true
or-left a b e = ap (λ (x : Bool). x || b) e

or-right : (a b : Bool) → b ≡ true → (a || b) ≡ true
or-right true b e = refl
or-right false b e = e

there-all : (at : ℕ → Option Object) (vs : List Value) → ((q : ℕ) → list_any (is_ref q) vs ≡ true → is_some (at q) ≡ true) → list_all (is_there at) vs ≡ true
there-all at [] h = refl
there-all at (v ∷ vs) h = true-both _ _ (first v (λ q is. h q (or-left _ _ is))) (there-all at vs (λ q is. h q (or-right (is_ref q v) _ is)))
  where
    first : (v : Value) → ((q : ℕ) → is_ref q v ≡ true → is_some (at q) ≡ true) → is_there at v ≡ true
    first (Int z) h = refl
    first (Ref n) h = h n (is-eq n n refl)

held-none : (at : ℕ → Option Object) (n : ℕ) (o : Object) → ((q : ℕ) → holds o q ≡ true → is_some (at q) ≡ true) → held_breaks at n o ≡ None
held-none at n o h = none-of _ 10 (true-both _ _ (h o.class (or-left _ _ (is-eq o.class o.class refl))) (there-all at (fields_of o.body) (λ q is. h q (or-right (eqb o.class q) _ is))))

-- ---- counts

count-known : (counts : ℕ → ℕ) (n : ℕ) (o : Object) → count_breaks counts n o ≡ None → counts n ≡ 0 → is_known n ≡ true
count-known counts n o e zero_is = go (is_known n) (passes _ 11 e)
  where
    go : (b : Bool) → (b || nat_lt 0 (counts n)) ≡ true → b ≡ true
    go true e = refl
    go false e = let some : 0 < counts n = lt-is 0 (counts n) e in absurd (omega arith)

count-none : (counts : ℕ → ℕ) (n : ℕ) (o : Object) → (counts n ≡ 0 → is_known n ≡ true) → count_breaks counts n o ≡ None
count-none counts n o h = none-of _ 11 (go (counts n) refl)
  where
    go : (k : ℕ) → counts n ≡ k → (is_known n || nat_lt 0 (counts n)) ≡ true
    go zero e = or-left _ _ (h e)
    go (suc k) e = or-right (is_known n) _ (is-lt 0 (counts n) (omega arith))

-- ---- known objects

missing-none : (at : ℕ → Option Object) (ns : List ℕ) → missing at ns ≡ None → (n : ℕ) → list_any (λ k. eqb n k) ns ≡ true → is_some (at n) ≡ true
missing-none at [] e n any = let no : ◌≡◌ {A = Bool} false true = any in absurd (cc)
missing-none at (x ∷ xs) e n any = go (is_some (at x)) refl e (λ rest any. missing-none at xs rest n any)
  where
    both : is_some (at x) ≡ true → (list_any (λ k. eqb n k) xs ≡ true → is_some (at n) ≡ true) → (b : Bool) → eqb n x ≡ b → (b || list_any (λ k. eqb n k) xs) ≡ true → is_some (at n) ≡ true
    both there rest true is any = let same = eq-is n x is in subst (λ (k : ℕ). is_some (at k) ≡ true) (sym same) there
    both there rest false is any = rest any

    go : (b : Bool) → is_some (at x) ≡ b → cond b (missing at xs) (Some (12, x)) ≡ None → (missing at xs ≡ None → list_any (λ k. eqb n k) xs ≡ true → is_some (at n) ≡ true) → is_some (at n) ≡ true
    go true there e next = both there (next e) (eqb n x) refl any
    go false there e next = let no : ◌≡◌ {A = Option (ℕ × ℕ)} (Some (12, x)) None = e in absurd (cc)

none-missing : (at : ℕ → Option Object) (ns : List ℕ) → ((n : ℕ) → list_any (λ k. eqb n k) ns ≡ true → is_some (at n) ≡ true) → missing at ns ≡ None
none-missing at [] h = refl
none-missing at (x ∷ xs) h = ap (λ (b : Bool). cond b (missing at xs) (Some (12, x))) (h x (or-left _ _ (is-eq x x refl))) ∙ none-missing at xs (λ n is. h n (or-right (eqb n x) _ is))

-- ---- nothing is broken: an image

pub makes-image : (b : Builder) (next : ℕ) → next < 2 ^ 32 → reading_breaks b.objects.entries next ≡ None → whole_breaks b.objects.entries (built_heap b next).at (count_of (built_heap b next)) ≡ None → All IsEntry b.objects.entries → IsImageHeap (built_heap b next)
makes-image b next high reading whole are = record {
  head = subst (λ (n : ℕ). IsHead n next) (sym (objects-are b next entries)) (head-is (length es) next high read.0);
  bounded = record { bounded = λ n above. bounded n above (h.at n) refl };
  names = λ n there. let o = has h n there in (at-found IsEntry es n o.0 are o.1).0.0;
  objects = λ n o at. (at-found IsEntry es n o are at).1;
  closed = λ n q o at held. held-there h.at n q o (at-found (λ (e : ℕ × Object). held_breaks h.at e.0 e.1 ≡ None) es n o (first-none (held_breaks h.at) es w.0) at) held;
  counted = λ n there none. let o = has h n there in count-known (count_of h) n o.0 (at-found (λ (e : ℕ × Object). count_breaks (count_of h) e.0 e.1 ≡ None) es n o.0 (first-none (count_breaks (count_of h)) es v.0) o.1) none;
  known = missing-none h.at known_names v.1;
}
  where
    h : Heap
    h = built_heap b next

    es : List (ℕ × Object)
    es = b.objects.entries

    entries : AreEntries b next
    entries = read-entries b next reading

    read : (head_breaks (length es) next ≡ None) × (first_of (record_breaks next) es ≡ None)
    read = both-none (head_breaks (length es) next) (first_of (record_breaks next) es) reading

    w : (first_of (held_breaks h.at) es ≡ None) × ((first_of (count_breaks (count_of h)) es or missing h.at known_names) ≡ None)
    w = both-none (first_of (held_breaks h.at) es) (first_of (count_breaks (count_of h)) es or missing h.at known_names) whole

    v : (first_of (count_breaks (count_of h)) es ≡ None) × (missing h.at known_names ≡ None)
    v = both-none (first_of (count_breaks (count_of h)) es) (missing h.at known_names) w.1

    bounded : (n : ℕ) → next ≤ n → (x : Option Object) → h.at n ≡ x → h.at n ≡ None
    bounded n above None e = e
    bounded n above (Some o) e = let low = record-below next n o (at-found (λ (e : ℕ × Object). record_breaks next e.0 e.1 ≡ None) es n o (first-none (record_breaks next) es read.1) e) in absurd (omega arith)

-- ---- an image: nothing is broken

-- its names are below the next one
pub image-entries : (b : Builder) (next : ℕ) → IsImageHeap (built_heap b next) → AreEntries b next
image-entries b next is = are-entries b next (map-below b.objects next b.kept.ordered (λ q x at. below (built_heap b next) q x is.bounded at))

none-none : {X : Type 0} (a b : Option X) → a ≡ None → b ≡ None → (a or b) ≡ None
none-none a b e f = ap (λ x. x or b) e ∙ f

pub image-unbroken : (b : Builder) (next : ℕ) → IsImageHeap (built_heap b next) → first_broken b.objects.entries (built_heap b next) ≡ None
unfolding first_broken
image-unbroken b next is =
    none-none _ _ (none-none _ _ (is-head (length es) next (subst (λ (n : ℕ). IsHead n next) (objects-are b next entries) is.head)) (none-first (record_breaks next) es records))
    (none-none _ _ (none-first (held_breaks h.at) es held) (none-none _ _ (none-first (count_breaks (count_of h)) es counted) (none-missing h.at known_names is.known)))
  where
    h : Heap
    h = built_heap b next

    es : List (ℕ × Object)
    es = b.objects.entries

    entries : AreEntries b next
    entries = image-entries b next is

    at : All (λ (e : ℕ × Object). h.at e.0 ≡ Some e.1) es
    at = All-found nat_cmp_total b.objects b.kept.ordered

    records : All (λ (e : ℕ × Object). record_breaks next e.0 e.1 ≡ None) es
    records = All-weaker (λ (e : ℕ × Object). h.at e.0 ≡ Some e.1) (λ (e : ℕ × Object). record_breaks next e.0 e.1 ≡ None) (λ e at. record-none next e.0 e.1 (below h e.0 e.1 is.bounded at) (is.objects e.0 e.1 at).body) es at

    held : All (λ (e : ℕ × Object). held_breaks h.at e.0 e.1 ≡ None) es
    held = All-weaker (λ (e : ℕ × Object). h.at e.0 ≡ Some e.1) (λ (e : ℕ × Object). held_breaks h.at e.0 e.1 ≡ None) (λ e at. held-none h.at e.0 e.1 (λ q holds_it. is.closed e.0 q e.1 at holds_it)) es at

    counted : All (λ (e : ℕ × Object). count_breaks (count_of h) e.0 e.1 ≡ None) es
    counted = All-weaker (λ (e : ℕ × Object). h.at e.0 ≡ Some e.1) (λ (e : ℕ × Object). count_breaks (count_of h) e.0 e.1 ≡ None) (λ e at. count-none (count_of h) e.0 e.1 (λ none. is.counted e.0 (ap is_some at) none)) es at

-- ---- what is broken first

pub broken-reading : (b : Builder) (next : ℕ) (x : ℕ × ℕ) → Some x ≡ reading_breaks b.objects.entries next → first_broken b.objects.entries (built_heap b next) ≡ Some x
unfolding first_broken
broken-reading b next x e = ap (λ (o : Option (ℕ × ℕ)). o or whole_breaks b.objects.entries (built_heap b next).at (count_of (built_heap b next))) (sym e)

pub broken-whole : (b : Builder) (next : ℕ) (counts : ℕ → ℕ) (x : Option (ℕ × ℕ)) → reading_breaks b.objects.entries next ≡ None → counts ≡ count_of (built_heap b next) → x ≡ whole_breaks b.objects.entries (built_heap b next).at counts → first_broken b.objects.entries (built_heap b next) ≡ x
unfolding first_broken
broken-whole b next counts x reading same e =
    ap (λ (o : Option (ℕ × ℕ)). o or whole_breaks b.objects.entries (built_heap b next).at (count_of (built_heap b next))) reading
    ∙ ap (whole_breaks b.objects.entries (built_heap b next).at) (sym same)
    ∙ sym e

pub not-image : (b : Builder) (next : ℕ) (x : ℕ × ℕ) → first_broken b.objects.entries (built_heap b next) ≡ Some x → IsImageHeap (built_heap b next) → ⊥
not-image b next x broken is = let no : ◌≡◌ {A = Option (ℕ × ℕ)} None (Some x) = sym (image-unbroken b next is) ∙ broken in absurd (cc)

pub tells-broken : {A : Type 0} (r : Result A BuildFault) (x : Option (ℕ × ℕ)) (rule name : ℕ) → IsErrAnd r (λ e. e ≡ Rule rule name) → x ≡ Some (rule, name) → Tells r x
tells-broken (Ok a) x rule name is e = absurd is
tells-broken {A} (Err f) x rule name is e = subst (λ (g : BuildFault). let r : Result A BuildFault = Err g in Tells r x) (sym is) e

-- ---- of the objects of an image

pub image-bodies : (b : Builder) (next : ℕ) → IsImageHeap (built_heap b next) → All (λ (e : ℕ × Object). IsBody e.1.body) b.objects.entries
image-bodies b next is = All-weaker (λ (e : ℕ × Object). (built_heap b next).at e.0 ≡ Some e.1) (λ (e : ℕ × Object). IsBody e.1.body) (λ e at. (is.objects e.0 e.1 at).body) b.objects.entries (All-found nat_cmp_total b.objects b.kept.ordered)

pub image-few : (b : Builder) (next : ℕ) → IsImageHeap (built_heap b next) → length b.objects.entries < 2 ^ 32
image-few b next is = let same = objects-are b next (image-entries b next is) in let few = is.head.few in omega arith

pub image-text : (b : Builder) (next : ℕ) (counts : ℕ → ℕ) (text : List ℕ) → IsImageHeap (built_heap b next) → ((q : ℕ) → counts q ≡ count_of (built_heap b next) q) → text ≡ head_text (length b.objects.entries) next ++ texts_with counts b.objects.entries → text ≡ image_text (built_heap b next)
image-text b next counts text is exact e =
    e
    ∙ ap (λ (f : ℕ → ℕ). head_text (length b.objects.entries) next ++ texts_with f b.objects.entries) (fun_ext exact)
    ∙ sym (text-is b next (image-entries b next is))

-- the answer of a judge, handed on
pub tells-on : {A : Type 0} (B : Type 0) (r : Result A BuildFault) (f : BuildFault) (x : Option (ℕ × ℕ)) → IsErrAnd r (λ e. e ≡ f) → (let s : Result B BuildFault = Err f in Tells s x) → Tells r x
tells-on B (Ok a) f x is tells = absurd is
tells-on {A} B (Err g) f x is tells = subst (λ (e : BuildFault). let r : Result A BuildFault = Err e in Tells r x) (sym is) (same f tells)
  where
    same : (e : BuildFault) → (let s : Result B BuildFault = Err e in Tells s x) → (let r : Result A BuildFault = Err e in Tells r x)
    same (Rule rule name) t = t
    same Memory t = t

pub refused-on : {A : Type 0} (B : Type 0) (r : Result A BuildFault) (f : BuildFault) → IsErrAnd r (λ e. e ≡ f) → IsRefused r → (let s : Result B BuildFault = Err f in IsRefused s)
refused-on B (Ok a) f is refused = absurd is
refused-on {A} B (Err g) f is refused = same f (subst (λ (e : BuildFault). let r : Result A BuildFault = Err e in IsRefused r) is refused)
  where
    same : (e : BuildFault) → (let r : Result A BuildFault = Err e in IsRefused r) → (let s : Result B BuildFault = Err e in IsRefused s)
    same (Rule rule name) t = t
    same Memory t = t

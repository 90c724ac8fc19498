-- A text is the text of one heap.
use Rattle.std.proofs.Common.{◌≡◌, ℕ, zero, suc, ◌^◌, ◌<◌, ◌≤◌, Bool, true, false, cond, eqb, List, [], ◌∷◌, ◌++◌, length, Option, Some, None, is_some, refl, sym, ap, subst, ◌∙◌, append_assoc, arith, inl, inr}
use Rattle.std.specs.Prelude.{All, codes}
use Rattle.std.specs.Int.{w32}
use Rattle.std.specs.List.{flat_map}
use Rattle.std.specs.Option.{option_map_or}
use Rattle.std.proofs.Math.Path.{fun_ext}
use Rattle.std.proofs.lemmas.Bool.{cases_lt, eq-eqb, ne_eqb}
use Rattle.std.proofs.lemmas.Grind.{flat_map-append}
use Rattle.std.proofs.lemmas.List.{append-nil, append_cancel_left, length-append}
use Rattle.std.proofs.lemmas.List.Elements.{All-nil, All-cons, All-append, All-head, All-tail}
use Rattle.long_names.specs.Heap.{Heap, object_count, rec_of}
use Rattle.long_names.specs.declared.object.Object.{Object}
use Rattle.long_names.specs.declared.object.Rec.{Rec}
use Rattle.long_names.specs.Objects.{IsRecord}
use Rattle.long_names.specs.Record.{four_bytes, record_text}
use Rattle.image_format.specs.Text.{head_text, records_below, image_text}
use Rattle.image_format.specs.Valid.{IsImageHeap}
use Rattle.image_format.specs.Reading.{number_at}
use Rattle.image_format.proofs.Numbers.{wide32, number_again}
use Rattle.image_format.proofs.Records.{pair_is, same_record}
use Rattle.image_format.proofs.Lengths.{length_record}
use Rattle.image_format.proofs.Counts.{count_fits}

-- the records as a list
abbrev pub one_rec : Heap → ℕ → Option Object → List Rec
one_rec h n o = option_map_or (λ (x : Object). rec_of h n x ∷ []) o []

abbrev pub recs_below : Heap → ℕ → List Rec
recs_below h zero = []
recs_below h (suc n) = recs_below h n ++ one_rec h n (h.at n)

one_text_at : (h : Heap) (n : ℕ) (o : Option Object) → option_map_or (λ (x : Object). record_text (rec_of h n x)) o [] ≡ flat_map record_text (one_rec h n o)
one_text_at h n None = refl
one_text_at h n (Some o) = sym (append-nil (record_text (rec_of h n o)))

pub texts_of : (h : Heap) (n : ℕ) → records_below h n ≡ flat_map record_text (recs_below h n)
texts_of h zero = refl
texts_of h (suc n) =
    ap (λ (t : List ℕ). t ++ option_map_or (λ (x : Object). record_text (rec_of h n x)) (h.at n) []) (texts_of h n)
    ∙ ap (λ (t : List ℕ). flat_map record_text (recs_below h n) ++ t) (one_text_at h n (h.at n))
    ∙ sym (flat_map-append record_text (recs_below h n) (one_rec h n (h.at n)))

-- ---- each is a record

one_is : (h : Heap) (n : ℕ) (o : Option Object) → IsImageHeap h → n < h.next → h.at n ≡ o → All IsRecord (one_rec h n o)
one_is h n None is lt at = All-nil IsRecord
one_is h n (Some o) is lt at =
    let object = is.objects n o at in
    All-cons IsRecord (rec_of h n o) [] (record {
      name = (is.names n (ap is_some at), omega (arith, lt, is.head.high));
      class = object.class;
      count = count_fits h n is;
      body = object.body;
      range = object.range;
    }) (All-nil IsRecord)

all_are : (h : Heap) (n : ℕ) → IsImageHeap h → n ≤ h.next → All IsRecord (recs_below h n)
all_are h zero is le = All-nil IsRecord
all_are h (suc n) is le = All-append IsRecord (recs_below h n) (one_rec h n (h.at n)) (all_are h n is (omega (arith, le))) (one_is h n (h.at n) is (omega (arith, le)) refl)

-- ---- a text is the text of one list of records

not_empty : (r : Rec) (rest : List ℕ) → [] ≡ record_text r ++ rest → ⊥
not_empty r rest e = omega (arith, ap length e, length-append (record_text r) rest, length_record r)

same_records : (xs ys : List Rec) → All IsRecord xs → All IsRecord ys → flat_map record_text xs ≡ flat_map record_text ys → xs ≡ ys
same_records [] [] is-xs is-ys e = refl
same_records [] (y ∷ ys) is-xs is-ys e = absurd (not_empty y (flat_map record_text ys) e)
same_records (x ∷ xs) [] is-xs is-ys e = absurd (not_empty x (flat_map record_text xs) (sym e))
same_records (x ∷ xs) (y ∷ ys) is-xs is-ys e =
    let parts = same_record x y (flat_map record_text xs) (flat_map record_text ys) (All-head IsRecord x xs is-xs) (All-head IsRecord y ys is-ys) e in
    let first = parts.0 in
    let others = same_records xs ys (All-tail IsRecord x xs is-xs) (All-tail IsRecord y ys is-ys) parts.1 in
    cc

-- ---- the map is in the list

abbrev object_of : Rec → Object
object_of r = record { class = r.class; body = r.body }

abbrev or_else : Option Object → Option Object → Option Object
or_else None other = other
or_else (Some o) other = Some o

abbrev pub found_in : ℕ → List Rec → Option Object
found_in q [] = None
found_in q (r ∷ rs) = cond (eqb r.name q) (Some (object_of r)) (found_in q rs)

or_else_cond : (b : Bool) (o : Object) (x y : Option Object) → cond b (Some o) (or_else x y) ≡ or_else (cond b (Some o) x) y
or_else_cond true o x y = refl
or_else_cond false o x y = refl

found_append : (q : ℕ) (xs ys : List Rec) → found_in q (xs ++ ys) ≡ or_else (found_in q xs) (found_in q ys)
found_append q [] ys = refl
found_append q (x ∷ xs) ys =
    ap (λ (o : Option Object). cond (eqb x.name q) (Some (object_of x)) o) (found_append q xs ys) ∙ or_else_cond (eqb x.name q) (object_of x) (found_in q xs) (found_in q ys)

or_none : (o : Option Object) → or_else o None ≡ o
or_none None = refl
or_none (Some o) = refl

one_other : (h : Heap) (n q : ℕ) (o : Option Object) → (n ≡ q → ⊥) → found_in q (one_rec h n o) ≡ None
one_other h n q None ne = refl
one_other h n q (Some o) ne = let test : eqb n q ≡ false = ne_eqb n q ne in rw test refl

one_found : (h : Heap) (n : ℕ) (o : Option Object) → found_in n (one_rec h n o) ≡ o
one_found h n None = refl
one_found h n (Some o) = let test : eqb n n ≡ true = eq-eqb n n refl in rw test refl

pub none_past : (h : Heap) (n q : ℕ) → n ≤ q → found_in q (recs_below h n) ≡ None
none_past h zero q le = refl
none_past h (suc n) q le =
    found_append q (recs_below h n) (one_rec h n (h.at n))
    ∙ ap (λ (o : Option Object). or_else o (found_in q (one_rec h n (h.at n)))) (none_past h n q (omega (arith, le)))
    ∙ one_other h n q (h.at n) (λ e. omega (arith, e, le))

pub found_below : (h : Heap) (n q : ℕ) → q < n → found_in q (recs_below h n) ≡ h.at q
found_below h zero q lt = absurd (omega (arith, lt))
found_below h (suc n) q lt =
    found_append q (recs_below h n) (one_rec h n (h.at n)) ∙ elim (cases_lt q n) [
      | inl below ↦
          ap (λ (o : Option Object). or_else o (found_in q (one_rec h n (h.at n)))) (found_below h n q below)
          ∙ ap (or_else (h.at q)) (one_other h n q (h.at n) (λ e. omega (arith, e, below)))
          ∙ or_none (h.at q)
      | inr past ↦
          let same : q ≡ n = omega (arith, past, lt) in
          ap (λ (o : Option Object). or_else o (found_in q (one_rec h n (h.at n)))) (none_past h n q past)
          ∙ subst (λ (k : ℕ). found_in q (one_rec h k (h.at k)) ≡ h.at q) same (one_found h q (h.at q))
    ]

-- ---- one heap

same_heads : (g h : Heap) → IsImageHeap g → IsImageHeap h → image_text g ≡ image_text h → (g.next ≡ h.next) × (records_below g g.next ≡ records_below h h.next)
unfolding image_text
same_heads g h is-g is-h e =
    let rest : Heap → List ℕ = λ x. records_below x x.next in
    let regrouped : (x : Heap) → head_text (object_count x) x.next ++ rest x ≡ codes "LOOM" ++ (four_bytes 1 ++ (four_bytes (object_count x) ++ (four_bytes x.next ++ rest x))) = λ x. simp append_assoc in
    let no_word = append_cancel_left (codes "LOOM") _ _ (sym (regrouped g) ∙ e ∙ regrouped h) in
    let no_version : four_bytes (object_count g) ++ (four_bytes g.next ++ rest g) ≡ four_bytes (object_count h) ++ (four_bytes h.next ++ rest h) = append_cancel_left (four_bytes 1) _ _ no_word in
    let no_count = (pair_is (object_count g) (object_count h) (four_bytes g.next ++ rest g) (four_bytes h.next ++ rest h)
    (sym (number_again w32 (2 ^ 32) four_bytes wide32 (object_count g) (four_bytes g.next ++ rest g) (omega (arith, is-g.head.few))) ∙ ap (number_at w32) no_version ∙ number_again w32 (2 ^ 32) four_bytes wide32 (object_count h) (four_bytes h.next ++ rest h) (omega (arith, is-h.head.few)))).1 in
    pair_is g.next h.next (rest g) (rest h)
    (sym (number_again w32 (2 ^ 32) four_bytes wide32 g.next (rest g) is-g.head.high) ∙ ap (number_at w32) no_count ∙ number_again w32 (2 ^ 32) four_bytes wide32 h.next (rest h) is-h.head.high)

pub same_heap : (g h : Heap) → IsImageHeap g → IsImageHeap h → image_text g ≡ image_text h → g ≡ h
same_heap g h is-g is-h e =
    let heads = same_heads g h is-g is-h e in
    let recs : recs_below g g.next ≡ recs_below h h.next = same_records (recs_below g g.next) (recs_below h h.next) (all_are g g.next is-g (omega arith)) (all_are h h.next is-h (omega arith))
    (sym (texts_of g g.next) ∙ heads.1 ∙ texts_of h h.next) in
    let at : (q : ℕ) → g.at q ≡ h.at q = λ q. elim (cases_lt q g.next) [
      | inl lt ↦ sym (found_below g g.next q lt) ∙ ap (found_in q) recs ∙ found_below h h.next q (omega (arith, lt, heads.0))
      | inr le ↦ is-g.bounded.bounded q le ∙ sym (is-h.bounded.bounded q (omega (arith, le, heads.0)))
    ] in
    let maps : g.at ≡ h.at = fun_ext at in
    let next = heads.0 in
    ap (λ (m : ℕ → Option Object). record { at = m; next = g.next }) maps ∙ ap (λ (n : ℕ). record { at = h.at; next = n }) next

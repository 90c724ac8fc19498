-- Records as they are read one after the other, by rising name, and the heap of such records.
use Rattle.std.proofs.Common.{◌≡◌, ℕ, zero, suc, ◌+◌, ◌<◌, ◌≤◌, Bool, true, false, cond, eqb, ltb, ◌&&◌, List, [], ◌∷◌, ◌++◌, length, drop, Option, Some, None, is_some, option_map, Ok, refl, sym, ap, ap₂, subst, ◌∙◌, append_assoc, arith, inl, inr}
use Rattle.std.specs.Prelude.{All}
use Rattle.std.specs.List.{flat_map, filter, sum_by}
use Rattle.std.specs.Option.{option_map_or}
use Rattle.std.proofs.Math.Path.{fun_ext}
use Rattle.std.proofs.lemmas.Bool.{cases_lt, cases_eq, and_parts, and_from, ltb-true, lt-ltb, eq-eqb, ne_eqb, le-ltb}
use Rattle.std.proofs.lemmas.Grind.{common_steps}
use Rattle.std.proofs.lemmas.List.{append-nil, drop_at}
use Rattle.std.proofs.lemmas.List.Concat.{flat_map-cons}
use Rattle.std.proofs.lemmas.List.Elements.{All-nil, All-head, All-tail, All-push}
use Rattle.std.proofs.lemmas.List.Sums.{sum_by_push}
use Rattle.long_names.specs.Objects.{IsRecord, holdings}
use Rattle.long_names.specs.Record.{record_text}
use Rattle.long_names.specs.Heap.{Heap, objects_below, object_count, holdings_below, count_of, rec_of}
use Rattle.long_names.specs.declared.object.Object.{Object}
use Rattle.long_names.specs.declared.object.Rec.{Rec}
use Rattle.image_format.specs.Reading.{name_at, record_at}
use Rattle.image_format.specs.Rules.{next_record_at, records_at, object_of_rec, rec_in, object_in, words_in}
use Rattle.image_format.proofs.Numbers.{AreBytes, AreBytes-drop, Takes, takes_then, bind_ok, ok_is, passed_ok}
use Rattle.image_format.proofs.Records.{record_takes, record_again, name_of_record}
use Rattle.image_format.proofs.Heaps.{recs_below, one_rec, found_in, none_past, found_below}

abbrev pub recs_text : List Rec → List ℕ
recs_text recs = flat_map record_text recs

-- records above one name and below another, by rising name
abbrev pub InOrder : ℕ → ℕ → List Rec → Type 0
InOrder last next [] = Unit {0}
InOrder last next (r ∷ rs) = IsRecord r × (last < r.name) × (r.name < next) × InOrder r.name next rs

-- ---- read and spelled

unread_bytes : (bytes text rest : List ℕ) → AreBytes bytes → bytes ≡ text ++ rest → AreBytes rest
unread_bytes bytes text rest fits e = subst AreBytes (ap (λ (s : List ℕ). drop (length text) s) e ∙ drop_at text rest (length text) refl) (AreBytes-drop (length text) bytes fits)

next_takes : (last next : ℕ) (bytes : List ℕ) (x : Rec × List ℕ) → AreBytes bytes → next_record_at last next bytes ≡ Ok x → Takes bytes (record_text x.0) x.1 × IsRecord x.0 × (last < x.0.name) × (x.0.name < next)
unfolding next_record_at
next_takes last next bytes x fits e =
    let a = bind_ok (name_at 4 bytes) _ x e in
    let g = passed_ok (ltb last a.0.0 && ltb a.0.0 next) (record_at bytes) _ x a.2 in
    let tests = and_parts (ltb last a.0.0) (ltb a.0.0 next) g.0 in
    let r = record_takes bytes x fits g.1 in
    let n = name_of_record bytes x g.1 in
    let same : a.0.0 ≡ x.0.name = ap (λ (p : ℕ × List ℕ). p.0) (ok_is a.0 (x.0.name, n.0) (sym a.1 ∙ n.1)) in
    (record { parts = r.0; unread = unread_bytes bytes (record_text x.0) x.1 fits r.0 }, r.1, omega (arith, ltb-true _ _ tests.0, same), omega (arith, ltb-true _ _ tests.1, same))

next_again : (last next : ℕ) (r : Rec) (rest : List ℕ) → IsRecord r → last < r.name → r.name < next → next_record_at last next (record_text r ++ rest) ≡ Ok (r, rest)
unfolding next_record_at
next_again last next r rest is above below =
    let n = name_of_record (record_text r ++ rest) (r, rest) (record_again r rest is) in
    let test : (ltb last r.name && ltb r.name next) ≡ true = and_from _ _ (lt-ltb _ _ above) (lt-ltb _ _ below) in
    rw (n.1, test) (record_again r rest is)

pub records_take : (n last next : ℕ) (bytes : List ℕ) (x : List Rec × List ℕ) → AreBytes bytes → records_at n last next bytes ≡ Ok x → Takes bytes (recs_text x.0) x.1 × (length x.0 ≡ n) × InOrder last next x.0
unfolding records_at
records_take zero last next bytes x fits e =
    let P : List Rec × List ℕ → Type 0 = λ y. Takes bytes (recs_text y.0) y.1 × (length y.0 ≡ 0) × InOrder last next y.0 in
    subst P (ok_is ([], bytes) x e) (record { parts = refl; unread = fits }, refl, tt)
records_take (suc n) last next bytes x fits e =
    let a = bind_ok (next_record_at last next bytes) _ x e in
    let b = bind_ok (records_at n a.0.0.name next a.0.1) (λ others. Ok (a.0.0 ∷ others.0, others.1)) x a.2 in
    let first = next_takes last next bytes a.0 fits a.1 in
    let second = records_take n a.0.0.name next a.0.1 b.0 first.0.unread b.1 in
    let both = takes_then bytes (record_text a.0.0) a.0.1 (recs_text b.0.0) b.0.1 first.0 second.0 in
    let P : List Rec × List ℕ → Type 0 = λ y. Takes bytes (recs_text y.0) y.1 × (length y.0 ≡ suc n) × InOrder last next y.0 in
    subst P (ok_is (a.0.0 ∷ b.0.0, b.0.1) x b.2) (rw flat_map-cons both, ap suc second.1, (first.1, first.2, first.3, second.2))

pub records_again : (recs : List Rec) (last next : ℕ) (rest : List ℕ) → InOrder last next recs → records_at (length recs) last next (recs_text recs ++ rest) ≡ Ok (recs, rest)
unfolding records_at
records_again [] last next rest order = refl
records_again (r ∷ rs) last next rest order =
    let regrouped : recs_text (r ∷ rs) ++ rest ≡ record_text r ++ (recs_text rs ++ rest) = append_assoc (record_text r) (recs_text rs) rest in
    ap (records_at (suc (length rs)) last next) regrouped ∙ rw (next_again last next r (recs_text rs ++ rest) order.0 order.1 order.2, records_again rs r.name next rest order.3) refl

-- ---- records below a name

abbrev front : ℕ → List Rec → List Rec
front n recs = filter (λ (r : Rec). ltb r.name n) recs

abbrev one : Option Rec → List Rec
one None = []
one (Some r) = r ∷ []

front_low : (n last next : ℕ) (recs : List Rec) → InOrder last next recs → n ≤ suc last → front n recs ≡ []
front_low n last next [] order le = refl
front_low n last next (r ∷ rs) order le =
    let above = order.1 in
    let no : ltb r.name n ≡ false = le-ltb _ _ (omega (arith, above, le)) in
    rw no (front_low n r.name next rs order.3 (omega (arith, above, le)))

pub rec_low : (n last next : ℕ) (recs : List Rec) → InOrder last next recs → n ≤ last → rec_in recs n ≡ None
rec_low n last next [] order le = refl
rec_low n last next (r ∷ rs) order le =
    let above = order.1 in
    let no : eqb r.name n ≡ false = ne_eqb _ _ (λ e. omega (arith, e, above, le)) in
    rw no (rec_low n r.name next rs order.3 (omega (arith, above, le)))

front_more : (n last next : ℕ) (recs : List Rec) → InOrder last next recs → front (suc n) recs ≡ front n recs ++ one (rec_in recs n)
front_more n last next [] order = refl
front_more n last next (r ∷ rs) order = elim (cases_lt r.name n) [
  | inl lt ↦
      let yes : ltb r.name n ≡ true = lt-ltb _ _ lt in
      let also : ltb r.name (suc n) ≡ true = lt-ltb _ _ (omega (arith, lt)) in
      let no : eqb r.name n ≡ false = ne_eqb _ _ (λ e. omega (arith, e, lt)) in
      rw (yes, also, no) (ap (λ (xs : List Rec). r ∷ xs) (front_more n r.name next rs order.3))
  | inr le ↦ elim (cases_eq r.name n) [
    | inl same ↦
        let no : ltb r.name n ≡ false = le-ltb _ _ le in
        let also : ltb r.name (suc n) ≡ true = lt-ltb _ _ (omega (arith, same)) in
        let here : eqb r.name n ≡ true = eq-eqb _ _ same in
        rw (no, also, here, front_low n r.name next rs order.3 (omega (arith, same)), front_low (suc n) r.name next rs order.3 (omega (arith, same))) refl
    | inr apart ↦
        let above : n < r.name = omega (arith, le, apart) in
        let no : ltb r.name n ≡ false = le-ltb _ _ le in
        let also : ltb r.name (suc n) ≡ false = le-ltb _ _ (omega (arith, above)) in
        let not_here : eqb r.name n ≡ false = ne_eqb _ _ (λ e. omega (arith, e, above)) in
        rw (no, also, not_here, front_low n r.name next rs order.3 (omega (arith, above)), front_low (suc n) r.name next rs order.3 (omega (arith, above)), rec_low n r.name next rs order.3 (omega (arith, above))) refl
  ]
]

front_none : (recs : List Rec) → front 0 recs ≡ []
front_none [] = refl
front_none (r ∷ rs) = let no : ltb r.name 0 ≡ false = le-ltb _ _ (omega arith) in rw no (front_none rs)

front_all : (last next : ℕ) (recs : List Rec) → InOrder last next recs → front next recs ≡ recs
front_all last next [] order = refl
front_all last next (r ∷ rs) order =
    let yes : ltb r.name next ≡ true = lt-ltb _ _ order.2 in
    rw yes (ap (λ (xs : List Rec). r ∷ xs) (front_all r.name next rs order.3))

-- ---- the heap of records

abbrev pub heap_of_recs : List Rec → ℕ → Heap
heap_of_recs recs next = record { at = object_in recs; next = next }

abbrev words_of : ℕ → Rec → ℕ
words_of q r = holdings (object_of_rec r) q

words_below : (recs : List Rec) (next last q n : ℕ) → InOrder last next recs → holdings_below (heap_of_recs recs next) n q ≡ sum_by (words_of q) (front n recs)
words_below recs next last q zero order = ap (sum_by (words_of q)) (sym (front_none recs))
words_below recs next last q (suc n) order =
    ap (λ (k : ℕ). k + option_map_or (λ (o : Object). holdings o q) (object_in recs n) 0) (words_below recs next last q n order)
    ∙ step (front n recs) (rec_in recs n)
    ∙ ap (sum_by (words_of q)) (sym (front_more n last next recs order))
  where
    step : (xs : List Rec) (o : Option Rec) → sum_by (words_of q) xs + option_map_or (λ (o : Object). holdings o q) (option_map object_of_rec o) 0 ≡ sum_by (words_of q) (xs ++ one o)
    step xs None = grind (arith, common_steps)
    step xs (Some r) = sym (sum_by_push (words_of q) xs r)

-- the words of its objects that are a name
pub words_heap : (recs : List Rec) (last next q : ℕ) → InOrder last next recs → count_of (heap_of_recs recs next) q ≡ words_in recs q
unfolding count_of
words_heap recs last next q order = words_below recs next last q next order ∙ ap (sum_by (words_of q)) (front_all last next recs order)

-- where the name of a record stands
pub rec_at : (P : Rec → Type 0) (recs : List Rec) (n : ℕ) (r : Rec) → All P recs → rec_in recs n ≡ Some r → (r.name ≡ n) × P r
rec_at P [] n r all e = let no : ◌≡◌ {A = Option Rec} None (Some r) = e in absurd (cc)
rec_at P (x ∷ xs) n r all e = go (eqb x.name n) refl e (rec_at P xs n r (All-tail P x xs all))
  where
    go : (b : Bool) → eqb x.name n ≡ b → cond b (Some x) (rec_in xs n) ≡ Some r → (rec_in xs n ≡ Some r → (r.name ≡ n) × P r) → (r.name ≡ n) × P r
    go true is e rest = let same : x ≡ r = cc in subst (λ (y : Rec). (y.name ≡ n) × P y) same (grind (arith, common_steps, is), All-head P x xs all)
    go false is e rest = rest e

recs_front : (recs : List Rec) (next last n : ℕ) → InOrder last next recs → All (λ (r : Rec). r.count ≡ count_of (heap_of_recs recs next) r.name) recs → recs_below (heap_of_recs recs next) n ≡ front n recs
recs_front recs next last zero order exact = sym (front_none recs)
recs_front recs next last (suc n) order exact =
    ap (λ (xs : List Rec). xs ++ one_rec (heap_of_recs recs next) n (object_in recs n)) (recs_front recs next last n order exact)
    ∙ ap (λ (xs : List Rec). front n recs ++ xs) (step (rec_in recs n) refl)
    ∙ sym (front_more n last next recs order)
  where
    step : (o : Option Rec) → rec_in recs n ≡ o → one_rec (heap_of_recs recs next) n (option_map object_of_rec o) ≡ one o
    step None e = refl
    step (Some r) e =
        let p = rec_at (λ (r : Rec). r.count ≡ count_of (heap_of_recs recs next) r.name) recs n r exact e in
        ap₂ (λ (k m : ℕ). let x : Rec = record { name = k; class = r.class; count = m; body = r.body } in x ∷ []) (sym p.0) (ap (count_of (heap_of_recs recs next)) (sym p.0) ∙ sym p.1)

-- records with exact counts are those of their heap
pub recs_again : (recs : List Rec) (last next : ℕ) → InOrder last next recs → All (λ (r : Rec). r.count ≡ count_of (heap_of_recs recs next) r.name) recs → recs_below (heap_of_recs recs next) next ≡ recs
recs_again recs last next order exact = recs_front recs next last next order exact ∙ front_all last next recs order

-- ---- the records of a heap

length_recs : (h : Heap) (n : ℕ) → objects_below h n ≡ length (recs_below h n)
length_recs h zero = refl
length_recs h (suc n) = ap (λ k. k + cond (is_some (h.at n)) 1 0) (length_recs h n) ∙ step (h.at n)
  where
    step : (o : Option Object) → length (recs_below h n) + cond (is_some o) 1 0 ≡ length (recs_below h n ++ one_rec h n o)
    step None = grind (arith, common_steps)
    step (Some o) = grind (arith, common_steps)

-- as many as it has objects
pub count_recs : (h : Heap) → object_count h ≡ length (recs_below h h.next)
unfolding object_count
count_recs h = length_recs h h.next

words_recs : (h : Heap) (q n : ℕ) → words_in (recs_below h n) q ≡ holdings_below h n q
words_recs h q zero = refl
words_recs h q (suc n) = step (recs_below h n) (h.at n) ∙ ap (λ (k : ℕ). k + option_map_or (λ (o : Object). holdings o q) (h.at n) 0) (words_recs h q n)
  where
    step : (xs : List Rec) (o : Option Object) → sum_by (words_of q) (xs ++ one_rec h n o) ≡ sum_by (words_of q) xs + option_map_or (λ (o : Object). holdings o q) o 0
    step xs None = grind (arith, common_steps)
    step xs (Some o) = sum_by_push (words_of q) xs (rec_of h n o)

-- with its counts
pub words_are : (h : Heap) (q : ℕ) → words_in (recs_below h h.next) q ≡ count_of h q
unfolding count_of
words_are h q = words_recs h q h.next

object_found : (recs : List Rec) (q : ℕ) → object_in recs q ≡ found_in q recs
object_found [] q = refl
object_found (r ∷ rs) q = go (eqb r.name q) (object_found rs q)
  where
    go : (b : Bool) → object_in rs q ≡ found_in q rs → option_map object_of_rec (cond b (Some r) (rec_in rs q)) ≡ cond b (Some (object_of_rec r)) (found_in q rs)
    go true e = refl
    go false e = e

-- and its objects
pub objects_are : (h : Heap) → ((n : ℕ) → h.next ≤ n → h.at n ≡ None) → object_in (recs_below h h.next) ≡ h.at
objects_are h bounded = fun_ext (λ q. object_found (recs_below h h.next) q ∙ elim (cases_lt q h.next) [
  | inl lt ↦ found_below h h.next q lt
  | inr le ↦ none_past h h.next q le ∙ sym (bounded q le)
])

order_push : (last next : ℕ) (recs : List Rec) (r : Rec) (n : ℕ) → r.name ≡ n → InOrder last n recs → n ≤ next → IsRecord r → last < n → n < next → InOrder last next (recs ++ r ∷ [])
order_push last next [] r n named order le is above below = (is, omega (arith, named, above), omega (arith, named, below), tt)
order_push last next (x ∷ xs) r n named order le is above below = (order.0, order.1, omega (arith, order.2, le), order_push x.name next xs r n named order.3 le is order.2 below)

order_more : (last n next : ℕ) (recs : List Rec) → n ≤ next → InOrder last n recs → InOrder last next recs
order_more last n next [] le order = tt
order_more last n next (r ∷ rs) le order = (order.0, order.1, omega (arith, order.2, le), order_more r.name n next rs le order.3)

-- in order
pub order_recs : (h : Heap) (n : ℕ) → n ≤ h.next → ((k : ℕ) (o : Object) → h.at k ≡ Some o → k < h.next → IsRecord (rec_of h k o) × (0 < k)) → InOrder 0 n (recs_below h n)
order_recs h zero le each = tt
order_recs h (suc n) le each = go (h.at n) refl (order_recs h n (omega (arith, le)) each)
  where
    go : (o : Option Object) → h.at n ≡ o → InOrder 0 n (recs_below h n) → InOrder 0 (suc n) (recs_below h n ++ one_rec h n o)
    go None e order = rw append-nil (order_more 0 n (suc n) (recs_below h n) (omega arith) order)
    go (Some o) e order = let is = each n o e (omega (arith, le)) in order_push 0 (suc n) (recs_below h n) (rec_of h n o) n refl order (omega arith) is.0 is.1 (omega arith)

-- each is one of an object
pub all_recs : (P : Rec → Type 0) (h : Heap) (n : ℕ) → ((k : ℕ) (o : Object) → h.at k ≡ Some o → P (rec_of h k o)) → All P (recs_below h n)
all_recs P h zero each = All-nil P
all_recs P h (suc n) each = go (h.at n) refl (all_recs P h n each)
  where
    go : (o : Option Object) → h.at n ≡ o → All P (recs_below h n) → All P (recs_below h n ++ one_rec h n o)
    go None e all = rw append-nil all
    go (Some o) e all = All-push P (recs_below h n) (rec_of h n o) all (each n o e)

-- The heap and the state of a text, and no other.
use Rattle.std.proofs.Common.{◌≡◌, ℕ, zero, suc, ◌+◌, ◌*◌, ◌^◌, ◌<◌, ◌≤◌, Bool, true, false, cond, ◌&&◌, eqb, ltb, leb, List, [], ◌∷◌, ◌++◌, length, Option, Some, None, Result, Ok, Err, refl, sym, ap, ap₂, subst, ◌∙◌, inl, inr, arith}
use Rattle.std.specs.Prelude.{All, fold, map, option_map}
use Rattle.std.specs.List.{AllPairs, flat_map}
use Rattle.std.specs.Option.{option_map_or}
use Rattle.std.proofs.Math.Path.{fun_ext}
use Rattle.std.proofs.lemmas.Bool.{and_from, and_parts, eqb-true, le-leb, ltb-true, or_cases}
use Rattle.std.proofs.lemmas.Grind.{flat_map-append}
use Rattle.std.proofs.lemmas.List.{append-nil, length-map}
use Rattle.std.proofs.lemmas.List.Elements.{All-head, All-map, All-tail, All-weaker}
use Rattle.std.proofs.lemmas.List.Sums.{count_by-le-length, sum_by-le}
use Rattle.long_names.specs.Heap.{Heap, count_of, object_count, rec_of}
use Rattle.long_names.specs.Objects.{IsBody, IsRecord, fields_of, holdings, is_ref}
use Rattle.long_names.specs.declared.object.Body.{Body}
use Rattle.long_names.specs.declared.object.Body.TheVariants.{Pointers, Words, Bytes, Method}
use Rattle.long_names.specs.declared.object.Object.{Object}
use Rattle.long_names.specs.declared.object.Rec.{Rec}
use Rattle.image_format.specs.declared.fault.Break.{Break}
use Rattle.image_format.specs.declared.head.TheConstants.{FEWEST_OBJECTS, MOST_OBJECTS}
use Rattle.image_format.specs.declared.opening.ImageHead.{ImageHead}
use Rattle.image_format.specs.declared.opening.State.{State}
use Rattle.image_format.specs.declared.opening.TheConstants.{STATE_VERSION}
use Rattle.image_format.specs.Heads.{is_count, is_state_word, is_tick}
use Rattle.image_format.specs.Rules.{Image, IsHeadOf, IsState, object_in, object_of_rec, rec_in, text_under, whole_break, words_in}
use Rattle.image_format.specs.Valid.{IsImageHeap}
use Rattle.image_format.proofs.Heaps.{one_rec, recs_below}
use Rattle.image_format.proofs.ImageLaws as images
use Rattle.image_format.proofs.ImageLaws.{IsImageRead, heap_is, image_read, image_unbroken, nothing_broken, unbroken}
use Rattle.image_format.proofs.ImageRecs as image_recs
use Rattle.image_format.proofs.ImageRecs.{InOrder, all_recs, count_recs, heap_of_recs, objects_are, recs_again, words_heap}
use Rattle.image_format.proofs.Openings.{AreStateWords, IsRead}
use Rattle.image_format.proofs.Whole.{never}
use Rattle.text_lines.specs.Breaks.{at_line, first_break_of, image_of, text_at, text_break, with_counts}
use Rattle.text_lines.specs.Grammar.{Head}
use Rattle.text_lines.specs.Spelling.{head_parts, heap_text, line_of, lines_below, name_line, object_parts}
use Rattle.text_lines.specs.Texts.{AreStated, IsImageText, IsTextOf, recs_text}
use Rattle.text_lines.proofs.OneReading.{below_of, ok_is, records_of, rising_of, text_read}

-- ---- records with other counts

abbrev pub recount : (ℕ → ℕ) → Rec → Rec
recount counts r = record { name = r.name; class = r.class; count = counts r.name; body = r.body }

abbrev pub recounted : (ℕ → ℕ) → List Rec → List Rec
recounted counts recs = map (recount counts) recs

object_same : (counts : ℕ → ℕ) (recs : List Rec) (q : ℕ) → object_in (recounted counts recs) q ≡ object_in recs q
object_same counts [] q = refl
object_same counts (r ∷ rs) q = go (eqb r.name q) (object_same counts rs q)
  where
    go : (b : Bool) → object_in (recounted counts rs) q ≡ object_in rs q → option_map object_of_rec (cond b (Some (recount counts r)) (rec_in (recounted counts rs) q)) ≡ option_map object_of_rec (cond b (Some r) (rec_in rs q))
    go true e = refl
    go false e = e

pub objects_same : (counts : ℕ → ℕ) (recs : List Rec) → object_in (recounted counts recs) ≡ object_in recs
objects_same counts recs = fun_ext (object_same counts recs)

pub words_same : (counts : ℕ → ℕ) (recs : List Rec) (q : ℕ) → words_in (recounted counts recs) q ≡ words_in recs q
words_same counts recs q = folded recs 0
  where
    folded : (rs : List Rec) (n : ℕ) → fold (λ a x. a + holdings (object_of_rec x) q) n (recounted counts rs) ≡ fold (λ a x. a + holdings (object_of_rec x) q) n rs
    folded [] n = refl
    folded (r ∷ rs) n = folded rs (n + holdings (object_of_rec r) q)

-- the line of a record
abbrev pub spelled : Rec → List ℕ
spelled r = line_of (object_parts r.name (object_of_rec r))

spelled_same : (counts : ℕ → ℕ) (recs : List Rec) → flat_map spelled (recounted counts recs) ≡ flat_map spelled recs
spelled_same counts [] = refl
spelled_same counts (r ∷ rs) = ap (λ (t : List ℕ). spelled r ++ t) (spelled_same counts rs)

recounts_same : (counts others : ℕ → ℕ) (recs : List Rec) → All (λ (r : Rec). r.count ≡ counts r.name) recs → recounted counts (recounted others recs) ≡ recs
recounts_same counts others [] exact = refl
recounts_same counts others (r ∷ rs) exact =
    let one : recount counts r ≡ r = ap (λ (n : ℕ). let x : Rec = record { name = r.name; class = r.class; count = n; body = r.body } in x) (sym (All-head (λ (r : Rec). r.count ≡ counts r.name) r rs exact)) in
    ap₂ (λ (x : Rec) (xs : List Rec). x ∷ xs) one (recounts_same counts others rs (All-tail (λ (r : Rec). r.count ≡ counts r.name) r rs exact))

order_same : (counts : ℕ → ℕ) → ((n : ℕ) → counts n < 2 ^ 64) → (last next : ℕ) (recs : List Rec) → InOrder last next recs → InOrder last next (recounted counts recs)
order_same counts fit last next [] order = tt
order_same counts fit last next (r ∷ rs) order =
    let is = order.0 in
    (record { name = is.name; class = is.class; count = fit r.name; body = is.body; range = is.range }, order.1, order.2, order_same counts fit r.name next rs order.3)

-- ---- how many words

few_fields : (body : Body) → IsBody body → length (fields_of body) < 65536
few_fields (Pointers values) is = is.size
few_fields (Words words) is = omega arith
few_fields (Bytes bytes) is = omega arith
few_fields (Method header literals code) is = omega (arith, is.size.1)

one_at_most : (b : Bool) → cond b 1 0 ≤ 1
one_at_most true = omega arith
one_at_most false = omega arith

few_holdings : (q : ℕ) (r : Rec) → IsRecord r → holdings (object_of_rec r) q ≤ 65536
few_holdings q r is = omega (arith, one_at_most (eqb r.class q), count_by-le-length (is_ref q) (fields_of r.body), few_fields r.body is.body)

words_fit : (recs : List Rec) → All IsRecord recs → length recs ≤ MOST_OBJECTS → (q : ℕ) → words_in recs q < 2 ^ 64
words_fit recs are few q =
    let most : words_in recs q ≤ length recs * 65536 = sum_by-le (λ (r : Rec). holdings (object_of_rec r) q) 65536 recs (All-weaker IsRecord (λ (r : Rec). holdings (object_of_rec r) q ≤ 65536) (few_holdings q) recs are) in
    omega (arith, most, few)

-- ---- records that were stated are in order

order_from : (last next : ℕ) (recs : List Rec) → All IsRecord recs → All (λ (r : Rec). r.name < next) recs → AllPairs (λ (x y : ℕ). x < y) (map (λ (r : Rec). r.name) recs) → All (λ (m : ℕ). last < m) (map (λ (r : Rec). r.name) recs) → InOrder last next recs
order_from last next [] are below rising above = tt
order_from last next (r ∷ rs) are below rising above = (
  All-head IsRecord r rs are,
  All-head (λ (m : ℕ). last < m) r.name (map (λ (r : Rec). r.name) rs) above,
  All-head (λ (r : Rec). r.name < next) r rs below,
  order_from r.name next rs (All-tail IsRecord r rs are) (All-tail (λ (r : Rec). r.name < next) r rs below) (λ i j d lt within. rising (suc i) (suc j) d (omega (arith, lt)) (omega (arith, within))) (λ k d within. rising 0 (suc k) d (omega arith) (omega (arith, within))),
)

names_above : (recs : List Rec) → All IsRecord recs → All (λ (m : ℕ). 0 < m) (map (λ (r : Rec). r.name) recs)
names_above recs are = All-map (λ (m : ℕ). 0 < m) (λ (r : Rec). r.name) recs (All-weaker IsRecord (λ (r : Rec). 0 < r.name) (λ r is. is.name.0.above) recs are)

pub order_stated : (head : Head) (recs : List Rec) → AreStated head recs → InOrder 0 head.next recs
order_stated head recs are = order_from 0 head.next recs are.records are.below are.rising (names_above recs are.records)

-- ---- the heap of what was stated

fits_stated : (head : Head) (recs : List Rec) → AreStated head recs → (n : ℕ) → words_in recs n < 2 ^ 64
fits_stated head recs are = words_fit recs are.records are.few

order_counted : (head : Head) (recs : List Rec) → AreStated head recs → InOrder 0 head.next (with_counts recs)
order_counted head recs are = order_same (words_in recs) (fits_stated head recs are) 0 head.next recs (order_stated head recs are)

pub words_are : (head : Head) (recs : List Rec) → AreStated head recs → (n : ℕ) → count_of (heap_of_recs recs head.next) n ≡ words_in recs n
words_are head recs are n = words_heap recs 0 head.next n (order_stated head recs are)

-- with counts it is the same heap
heap_same : (head : Head) (recs : List Rec) → heap_of_recs (with_counts recs) head.next ≡ heap_of_recs recs head.next
heap_same head recs = ap (λ (m : ℕ → Option Object). let x : Heap = record { at = m; next = head.next } in x) (objects_same (words_in recs) recs)

counts_exact : (head : Head) (recs : List Rec) → AreStated head recs → All (λ (r : Rec). r.count ≡ count_of (heap_of_recs (with_counts recs) head.next) r.name) (with_counts recs)
counts_exact head recs are = All-map (λ (r : Rec). r.count ≡ count_of (heap_of_recs (with_counts recs) head.next) r.name) (recount (words_in recs)) recs (λ k d within. sym (words_heap (with_counts recs) 0 head.next _ (order_counted head recs are) ∙ words_same (words_in recs) recs _))

below_same : (head : Head) (recs : List Rec) → AreStated head recs → recs_below (heap_of_recs recs head.next) head.next ≡ with_counts recs
below_same head recs are =
    ap (λ (h : Heap). recs_below h head.next) (sym (heap_same head recs))
    ∙ recs_again (with_counts recs) 0 head.next (order_counted head recs are) (counts_exact head recs are)

-- ---- its text

one_line_at : (h : Heap) (n : ℕ) (o : Option Object) → option_map_or (λ (x : Object). line_of (object_parts n x)) o [] ≡ flat_map spelled (one_rec h n o)
one_line_at h n None = refl
one_line_at h n (Some o) = sym (append-nil (spelled (rec_of h n o)))

pub lines_are : (h : Heap) (n : ℕ) → lines_below h n ≡ flat_map spelled (recs_below h n)
lines_are h zero = refl
lines_are h (suc n) =
    ap (λ (t : List ℕ). t ++ name_line h n) (lines_are h n)
    ∙ ap (λ (t : List ℕ). flat_map spelled (recs_below h n) ++ t) (one_line_at h n (h.at n))
    ∙ sym (flat_map-append spelled (recs_below h n) (one_rec h n (h.at n)))

-- the heap's text is the text of the records
pub text_same : (head : Head) (recs : List Rec) → AreStated head recs → recs_text head recs ≡ heap_text (heap_of_recs recs head.next) head.state
unfolding recs_text heap_text
text_same head recs are = ap (λ (t : List ℕ). line_of (head_parts head.next head.state) ++ t) (sym (lines_are (heap_of_recs recs head.next) head.next ∙ ap (flat_map spelled) (below_same head recs are) ∙ spelled_same (words_in recs) recs))

-- ---- nothing breaks

count_test : (n : ℕ) → FEWEST_OBJECTS ≤ n → n ≤ MOST_OBJECTS → is_count n ≡ true
count_test n enough few = and_from (leb FEWEST_OBJECTS n) (leb n MOST_OBJECTS) (le-leb FEWEST_OBJECTS n enough) (le-leb n MOST_OBJECTS few)

state_words : (head : Head) (recs : List Rec) → AreStated head recs → AreStateWords head.next head.state
state_words head recs are =
    let a = and_parts (is_state_word head.next head.state.display) (is_state_word head.next head.state.input && (is_state_word head.next head.state.timer && is_tick head.state.timer head.state.tick)) are.state in
    let b = and_parts (is_state_word head.next head.state.input) (is_state_word head.next head.state.timer && is_tick head.state.timer head.state.tick) a.1 in
    let c = and_parts (is_state_word head.next head.state.timer) (is_tick head.state.timer head.state.tick) b.1 in
    record {
      clock_fits = are.clock;
      display = a.0;
      display_fits = are.display;
      input = b.0;
      input_fits = are.input;
      timer = c.0;
      timer_fits = are.timer;
      tick = c.1;
      tick_fits = are.tick;
    }

head_stated : (head : Head) (recs : List Rec) → AreStated head recs → IsRead (image_of head recs).head
head_stated head recs are =
    let enough = are.enough in
    let few = are.few in
    record {
      opening = record { version = refl; version_fits = omega arith; objects = count_test (length recs) enough few; objects_fit = omega (arith, few); next = are.next; next_fits = are.next_fits };
      state = inr (refl, state_words head recs are);
    }

pub heap_of : (head : Head) (recs : List Rec) → AreStated head recs → whole_break (image_of head recs) ≡ None → IsImageHeap (heap_of_recs recs head.next)
heap_of head recs are e = subst IsImageHeap (heap_same head recs) (heap_is (image_of head recs) (head_stated head recs are) (length-map recs (recount (words_in recs))) (order_counted head recs are) (unbroken (image_of head recs) e))

tick_none : (timer tick : ℕ) → is_tick timer tick ≡ true → timer ≡ 0 → tick ≡ 0
tick_none timer tick e none = elim (or_cases (eqb tick 0) (ltb 0 timer) e) [
  | inl nought ↦ eqb-true tick 0 nought
  | inr above ↦ absurd (omega (arith, ltb-true 0 timer above, none))
]

pub state_of : (head : Head) (recs : List Rec) → AreStated head recs → whole_break (image_of head recs) ≡ None → IsState (heap_of_recs recs head.next) head.state
state_of head recs are e =
    let kept = (unbroken (image_of head recs) e).kept in
    let words = state_words head recs are in
    subst (λ (h : Heap). IsState h head.state) (heap_same head recs) (record {
      display = kept.display;
      input = kept.input;
      timer = kept.timer;
      tick = tick_none head.state.timer head.state.tick words.tick;
      clock_fits = are.clock;
      tick_fits = are.tick;
    })

pub text_stated : (head : Head) (recs : List Rec) → AreStated head recs → whole_break (image_of head recs) ≡ None → IsTextOf (recs_text head recs) (heap_of_recs recs head.next) head.state
text_stated head recs are e = record { is = heap_of head recs are e; state = state_of head recs are e; text_is = text_same head recs are }

-- ---- the heap of an image

image_heap_same : (head other : Head) (recs others : List Rec) → image_of head recs ≡ image_of other others → (heap_of_recs recs head.next ≡ heap_of_recs others other.next) × (head.state ≡ other.state)
image_heap_same head other recs others e =
    let next : head.next ≡ other.next = ap (λ (x : Image). x.head.opening.next) e in
    let at : object_in recs ≡ object_in others = sym (objects_same (words_in recs) recs) ∙ ap (λ (x : Image). object_in x.recs) e ∙ objects_same (words_in others) others in
    (ap₂ (λ (m : ℕ → Option Object) (n : ℕ). let x : Heap = record { at = m; next = n } in x) at next, ap (λ (x : Image). x.head.state) e)

pub text_of : (text : List ℕ) (head : Head) (recs : List Rec) → text_at text ≡ Ok (image_of head recs) → whole_break (image_of head recs) ≡ None → IsTextOf text (heap_of_recs recs head.next) head.state
text_of text head recs read e =
    let r = text_read text (image_of head recs) read in
    let same = image_heap_same r.0 head r.1 recs (sym r.3) in
    let is = text_stated r.0 r.1 r.2 (ap whole_break (sym r.3) ∙ e) in
    subst (λ (t : List ℕ). IsTextOf t (heap_of_recs recs head.next) head.state) (sym r.4)
    (subst (λ (s : State). IsTextOf (recs_text r.0 r.1) (heap_of_recs recs head.next) s) same.1
    (subst (λ (h : Heap). IsTextOf (recs_text r.0 r.1) h r.0.state) same.0 is))

mapped_none : (f : Break → Break) (o : Option Break) → option_map f o ≡ None → o ≡ None
mapped_none f None e = refl
mapped_none f (Some b) e = never (f b) e

pub image_text_from : (text : List ℕ) → text_break text ≡ None → IsImageText text
unfolding text_break
image_text_from text e = go (text_at text) refl e
  where
    go : (r : Result Image Break) → text_at text ≡ r → first_break_of r ≡ None → IsImageText text
    go (Err b) read e = never b e
    go (Ok x) read e =
        let r = text_read text x read in
        let none : whole_break x ≡ None = mapped_none (at_line x.recs) (whole_break x) e in
        record { heap = heap_of_recs r.1 r.0.next; state = r.0.state; is = text_of text r.0 r.1 (read ∙ ap Ok r.3) (ap whole_break (sym r.3) ∙ none) }

-- ---- the text of a heap and a state

-- what it states
abbrev pub head_for : Heap → State → Head
head_for h s = record { next = h.next; state = s }

abbrev pub recs_for : Heap → List Rec
recs_for h = recounted (λ n. 0) (recs_below h h.next)

abbrev image_head : Heap → State → ImageHead
image_head h s = record { opening = record { version = STATE_VERSION; objects = object_count h; next = h.next }; state = s }

head_of_heap : (h : Heap) (s : State) → IsState h s → IsHeadOf h (image_head h s)
head_of_heap h s state = record { version = inr (refl, state); objects = refl; next = refl }

read_of : (h : Heap) (s : State) → IsImageHeap h → IsState h s → IsImageRead (text_under (image_head h s) h) (images.image_of (image_head h s) h)
read_of h s is state = image_read (text_under (image_head h s) h) h (image_head h s) is (head_of_heap h s state) refl

words_for : (h : Heap) (s : State) → IsRead (image_head h s) → AreStateWords h.next s
words_for h s read = elim read.state [
  | inl p ↦ (let clash : ◌≡◌ {A = Bool} true false = p.0 in absurd (cc))
  | inr p ↦ p.1
]

many_for : (h : Heap) → length (recs_for h) ≡ object_count h
many_for h = length-map (recs_below h h.next) (recount (λ n. 0)) ∙ sym (count_recs h)

pub stated_for : (h : Heap) (s : State) → IsImageHeap h → IsState h s → AreStated (head_for h s) (recs_for h)
stated_for h s is state =
    let read = read_of h s is state in
    let words = words_for h s read.head in
    let order = order_same (λ n. 0) (λ n. omega arith) 0 h.next (recs_below h h.next) read.order in
    let many = many_for h in
    let enough = is.head.enough in
    let few = is.head.few in
    record {
      next = read.head.opening.next;
      next_fits = read.head.opening.next_fits;
      clock = words.clock_fits;
      display = words.display_fits;
      input = words.input_fits;
      timer = words.timer_fits;
      tick = words.tick_fits;
      state = and_from _ _ words.display (and_from _ _ words.input (and_from _ _ words.timer words.tick));
      enough = omega (arith, many, enough);
      few = omega (arith, many, few);
      records = records_of 0 h.next (recs_for h) order;
      uncounted = All-map (λ (r : Rec). r.count ≡ 0) (recount (λ n. 0)) (recs_below h h.next) (λ k d within. refl);
      below = below_of 0 h.next (recs_for h) order;
      rising = rising_of 0 h.next (recs_for h) order;
    }

pub text_for : (h : Heap) (s : State) → recs_text (head_for h s) (recs_for h) ≡ heap_text h s
unfolding recs_text heap_text
text_for h s = ap (λ (t : List ℕ). line_of (head_parts h.next s) ++ t) (spelled_same (λ n. 0) (recs_below h h.next) ∙ sym (lines_are h h.next))

-- with counts its records are the heap's
counted_for : (h : Heap) → with_counts (recs_for h) ≡ recs_below h h.next
counted_for h = recounts_same (words_in (recs_for h)) (λ n. 0) (recs_below h h.next) (all_recs (λ (r : Rec). r.count ≡ words_in (recs_for h) r.name) h h.next (λ k o at. sym (words_same (λ n. 0) (recs_below h h.next) k ∙ image_recs.words_are h k)))

image_for : (h : Heap) (s : State) → image_of (head_for h s) (recs_for h) ≡ images.image_of (image_head h s) h
image_for h s = ap₂ (λ (n : ℕ) (rs : List Rec). let x : Image = record { head = record { opening = record { version = STATE_VERSION; objects = n; next = h.next }; state = s }; recs = rs } in x) (many_for h) (counted_for h)

none_for : (h : Heap) (s : State) → IsImageHeap h → IsState h s → whole_break (image_of (head_for h s) (recs_for h)) ≡ None
none_for h s is state = ap whole_break (image_for h s) ∙ nothing_broken (images.image_of (image_head h s) h) (image_unbroken h (image_head h s) is (head_of_heap h s state))

heap_for : (h : Heap) → IsImageHeap h → heap_of_recs (recs_for h) h.next ≡ h
heap_for h is = ap (λ (m : ℕ → Option Object). let x : Heap = record { at = m; next = h.next } in x) (objects_same (λ n. 0) (recs_below h h.next) ∙ objects_are h is.bounded.bounded)

-- ---- texts that are read back

-- the text of records is read back
abbrev pub AreBack : Type 0
AreBack = (head : Head) (recs : List Rec) → AreStated head recs → text_at (recs_text head recs) ≡ Ok (image_of head recs)

read_for : AreBack → (text : List ℕ) (h : Heap) (s : State) → IsTextOf text h s → text_at text ≡ Ok (image_of (head_for h s) (recs_for h))
read_for back text h s is = ap text_at (is.text_is ∙ sym (text_for h s)) ∙ back (head_for h s) (recs_for h) (stated_for h s is.is is.state)

pub image_text_to : AreBack → (text : List ℕ) → IsImageText text → text_break text ≡ None
unfolding text_break
image_text_to back text t =
    let x : Image = image_of (head_for t.heap t.state) (recs_for t.heap) in
    ap first_break_of (read_for back text t.heap t.state t.is) ∙ ap (option_map (at_line x.recs)) (none_for t.heap t.state t.is.is t.is.state)

pub same_heap : AreBack → (text : List ℕ) (g h : Heap) (s t : State) → IsTextOf text g s → IsTextOf text h t → (g ≡ h) × (s ≡ t)
same_heap back text g h s t is_g is_h =
    let images = ok_is (image_of (head_for g s) (recs_for g)) (image_of (head_for h t) (recs_for h)) (sym (read_for back text g s is_g) ∙ read_for back text h t is_h) in
    let same = image_heap_same (head_for g s) (head_for h t) (recs_for g) (recs_for h) images in
    (sym (heap_for g is_g.is) ∙ same.0 ∙ heap_for h is_h.is, same.1)

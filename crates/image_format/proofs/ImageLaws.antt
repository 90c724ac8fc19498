-- No rule breaks exactly where bytes are the text of a heap that an image may have, of one version, and of one heap, head and state.
use Rattle.std.proofs.Common.{◌≡◌, ℕ, zero, suc, ◌%◌, ◌^◌, ◌<◌, ◌≤◌, Bool, true, false, eqb, ltb, leb, ◌&&◌, List, [], ◌∷◌, ◌++◌, length, take, drop, Option, Some, None, is_some, option_map, Result, Ok, Err, refl, sym, ap, ap₂, subst, ◌∙◌, arith, inl, inr}
use Rattle.std.specs.Prelude.{All}
use Rattle.std.proofs.lemmas.Bool.{cases_lt, and_parts, and_from, or_cases, eqb-true, eq-eqb, ltb-true, lt-ltb, leb-true, le-leb}
use Rattle.std.proofs.lemmas.List.{append-nil, get_or_past}
use Rattle.std.proofs.lemmas.List.Elements.{All-nil, All-cons, All-head, All-tail, All-weaker, All-get_or}
use Rattle.long_names.specs.Names.{IsName, is_known, known_names}
use Rattle.long_names.specs.Objects.{IsRecord, IsObject, holds}
use Rattle.long_names.specs.Record.{four_bytes}
use Rattle.long_names.specs.Heap.{Heap, Has, object_count, count_of, rec_of}
use Rattle.long_names.specs.declared.object.Object.{Object}
use Rattle.long_names.specs.declared.object.Rec.{Rec}
use Rattle.image_format.specs.declared.fault.Halt.{Halt}
use Rattle.image_format.specs.declared.opening.State.{State}
use Rattle.image_format.specs.declared.opening.ImageHead.{ImageHead}
use Rattle.image_format.specs.Heads.{no_state, version_head_text, is_count, is_next, is_version, is_state_word, is_tick, head_at}
use Rattle.image_format.specs.Text.{IsHead, head_text, records_below, image_text}
use Rattle.image_format.specs.Valid.{IsImageHeap, IsValid}
use Rattle.image_format.specs.Faults.{break_of}
use Rattle.image_format.specs.Rules.{Image, image_at, records_at, end_at, break_in, whole_break, first_break, ◌or◌, first_failing, first_missing, first_lost, has_all, is_counted, object_of_rec, rec_in, object_in, words_in, IsState, IsStateWord, IsHeadOf, text_under, IsValidImage}
use Rattle.image_format.proofs.Numbers.{AreBytes, takes_then, bind_ok, ok_is}
use Rattle.image_format.proofs.Records.{pair_is}
use Rattle.image_format.proofs.Counts.{count_fits}
use Rattle.image_format.proofs.Heads.{word-same}
use Rattle.image_format.proofs.Heaps.{recs_below, texts_of}
use Rattle.image_format.proofs.Openings.{IsOpening, AreStateWords, IsRead, head_takes, head_again}
use Rattle.image_format.proofs.ImageRecs.{recs_text, InOrder, records_take, records_again, heap_of_recs, words_heap, rec_at, recs_again, count_recs, words_are, objects_are, order_recs, all_recs}
use Rattle.image_format.proofs.Whole.{never, or_left, or_right, both_none, none_none, all_pass, none_fails, held_there, there_has, counted_exact, counted_known, counted_from, missing_none, none_missing, AreKeptWords, lost_none, none_lost}

-- ---- an image that was read

pub record IsImageRead (bytes : List ℕ) (x : Image) : Type 0 where
  pub text : bytes ≡ version_head_text x.head ++ recs_text x.recs
  pub head : IsRead x.head
  pub count : length x.recs ≡ x.head.opening.objects
  pub order : InOrder 0 x.head.opening.next x.recs

end_takes : (bytes : List ℕ) (x : Unit {0} × List ℕ) → end_at bytes ≡ Ok x → bytes ≡ []
end_takes [] x e = refl
end_takes (b ∷ rest) x e = absurd cc

pub image_takes : (bytes : List ℕ) (x : Image × List ℕ) → AreBytes bytes → image_at bytes ≡ Ok x → IsImageRead bytes x.0
unfolding image_at
image_takes bytes x fits e =
    let a = bind_ok (head_at bytes) _ x e in
    let b = bind_ok (records_at a.0.0.opening.objects 0 a.0.0.opening.next a.0.1) _ x a.2 in
    let i : Image = record { head = a.0.0; recs = b.0.0 } in
    let d = bind_ok (end_at b.0.1) (λ end. Ok (i, end.1)) x b.2 in
    let t0 = head_takes bytes a.0 fits a.1 in
    let t1 = records_take a.0.0.opening.objects 0 a.0.0.opening.next a.0.1 b.0 t0.0.unread b.1 in
    let none = end_takes b.0.1 d.0 d.1 in
    let both = takes_then bytes (version_head_text a.0.0) a.0.1 (recs_text b.0.0) b.0.1 t0.0 t1.0 in
    let P : Image × List ℕ → Type 0 = λ y. IsImageRead bytes y.0 in
    subst P (ok_is (i, d.0.1) x d.2) (record {
      text = both.parts ∙ ap (λ (s : List ℕ). (version_head_text a.0.0 ++ recs_text b.0.0) ++ s) none ∙ append-nil (version_head_text a.0.0 ++ recs_text b.0.0);
      head = t0.1;
      count = t1.1;
      order = t1.2;
    })

pub image_again : (bytes : List ℕ) (x : Image) → IsImageRead bytes x → image_at bytes ≡ Ok (x, [])
unfolding image_at
image_again bytes x is =
    let recs : records_at x.head.opening.objects 0 x.head.opening.next (recs_text x.recs) ≡ Ok (x.recs, []) = ap₂ (λ (n : ℕ) (s : List ℕ). records_at n 0 x.head.opening.next s) (sym is.count) (sym (append-nil (recs_text x.recs))) ∙ records_again x.recs 0 x.head.opening.next [] is.order in
    ap image_at is.text ∙ rw (head_again x.head (recs_text x.recs) is.head, recs) refl

-- ---- facts of records

order_records : (last next : ℕ) (recs : List Rec) → InOrder last next recs → All IsRecord recs
order_records last next [] order = All-nil IsRecord
order_records last next (r ∷ rs) order = All-cons IsRecord r rs order.0 (order_records r.name next rs order.3)

order_below : (last next : ℕ) (recs : List Rec) → InOrder last next recs → All (λ (r : Rec). r.name < next) recs
order_below last next [] order = All-nil (λ (r : Rec). r.name < next)
order_below last next (r ∷ rs) order = All-cons (λ (r : Rec). r.name < next) r rs order.2 (order_below r.name next rs order.3)

-- the record of an object
record RecOf (recs : List Rec) (n : ℕ) (o : Object) : Type 0 where
  pub rec : Rec
  pub is : rec_in recs n ≡ Some rec
  pub object : object_of_rec rec ≡ o

rec_of_object : (recs : List Rec) (n : ℕ) (o : Object) → object_in recs n ≡ Some o → RecOf recs n o
rec_of_object recs n o e = go (rec_in recs n) refl e
  where
    go : (r : Option Rec) → rec_in recs n ≡ r → option_map object_of_rec r ≡ Some o → RecOf recs n o
    go None is e = let no : ◌≡◌ {A = Option Object} None (Some o) = e in absurd (cc)
    go (Some r) is e = let same : ◌≡◌ {A = Option Object} (Some (object_of_rec r)) (Some o) = e in record { rec = r; is = is; object = cc }

object_there : (recs : List Rec) (n : ℕ) → is_some (object_in recs n) ≡ true → (o : Object) × (object_in recs n ≡ Some o)
object_there recs n e = go (object_in recs n) refl e
  where
    go : (o : Option Object) → object_in recs n ≡ o → is_some o ≡ true → (x : Object) × (object_in recs n ≡ Some x)
    go None is e = let no : ◌≡◌ {A = Bool} false true = e in absurd (cc)
    go (Some x) is e = (x, is)

all-each : (P Q R : Rec → Type 0) (recs : List Rec) → ((r : Rec) → P r → Q r → R r) → All P recs → All Q recs → All R recs
all-each P Q R [] f p q = All-nil R
all-each P Q R (r ∷ rs) f p q = All-cons R r rs (f r (All-head P r rs p) (All-head Q r rs q)) (all-each P Q R rs f (All-tail P r rs p) (All-tail Q r rs q))

-- ---- nothing is broken: an image

-- the parts of a whole image
pub record IsUnbroken (x : Image) : Type 0 where
  pub held : All (λ (r : Rec). has_all (object_in x.recs) r ≡ true) x.recs
  pub counted : All (λ (r : Rec). is_counted (words_in x.recs) r ≡ true) x.recs
  pub known : (n : ℕ) → is_known n ≡ true → is_some (object_in x.recs n) ≡ true
  pub kept : AreKeptWords (object_in x.recs) x.head.state

pub unbroken : (x : Image) → whole_break x ≡ None → IsUnbroken x
unbroken x e =
    let a = both_none (first_failing 10 (has_all (object_in x.recs)) x.recs) (first_failing 11 (is_counted (words_in x.recs)) x.recs or (first_missing (object_in x.recs) known_names or first_lost (object_in x.recs) x.head.state)) e in
    let b = both_none (first_failing 11 (is_counted (words_in x.recs)) x.recs) (first_missing (object_in x.recs) known_names or first_lost (object_in x.recs) x.head.state) a.1 in
    let d = both_none (first_missing (object_in x.recs) known_names) (first_lost (object_in x.recs) x.head.state) b.1 in
    record {
      held = all_pass 10 (has_all (object_in x.recs)) x.recs a.0;
      counted = all_pass 11 (is_counted (words_in x.recs)) x.recs b.0;
      known = missing_none (object_in x.recs) known_names d.0;
      kept = lost_none (object_in x.recs) x.head.state d.1;
    }

pub nothing_broken : (x : Image) → IsUnbroken x → whole_break x ≡ None
nothing_broken x is =
    none_none (first_failing 10 (has_all (object_in x.recs)) x.recs) _ (none_fails 10 (has_all (object_in x.recs)) x.recs is.held)
    (none_none (first_failing 11 (is_counted (words_in x.recs)) x.recs) _ (none_fails 11 (is_counted (words_in x.recs)) x.recs is.counted)
    (none_none (first_missing (object_in x.recs) known_names) _ (none_missing (object_in x.recs) known_names is.known) (none_lost (object_in x.recs) x.head.state is.kept)))

pub exact_counts : (x : Image) → InOrder 0 x.head.opening.next x.recs → IsUnbroken x → All (λ (r : Rec). r.count ≡ count_of (heap_of_recs x.recs x.head.opening.next) r.name) x.recs
exact_counts x order is = All-weaker (λ (r : Rec). is_counted (words_in x.recs) r ≡ true) (λ (r : Rec). r.count ≡ count_of (heap_of_recs x.recs x.head.opening.next) r.name)
    (λ r e. counted_exact (words_in x.recs) r e ∙ sym (words_heap x.recs 0 x.head.opening.next r.name order)) x.recs is.counted

pub heap_is : (x : Image) → IsRead x.head → length x.recs ≡ x.head.opening.objects → InOrder 0 x.head.opening.next x.recs → IsUnbroken x → IsImageHeap (heap_of_recs x.recs x.head.opening.next)
heap_is x read count order is = record {
  head = subst (λ n. IsHead n next) (sym objects) (record { enough = leb-true _ _ few.0; few = leb-true _ _ few.1; even = eqb-true _ _ low.1; low = leb-true _ _ low.0; high = read.opening.next_fits });
  bounded = record { bounded = λ n high. bounded n high (object_in recs n) refl };
  names = λ n there. let o = object_there recs n there in names n o.0 o.1;
  objects = objects_are_so;
  closed = closed;
  counted = counted;
  known = is.known;
}
  where
    recs : List Rec
    recs = x.recs

    next : ℕ
    next = x.head.opening.next

    few : (leb 22 x.head.opening.objects ≡ true) × (leb x.head.opening.objects 1048576 ≡ true)
    few = and_parts (leb 22 x.head.opening.objects) (leb x.head.opening.objects 1048576) read.opening.objects

    low : (leb 60 next ≡ true) × (eqb (next % 2) 0 ≡ true)
    low = and_parts (leb 60 next) (eqb (next % 2) 0) read.opening.next

    objects : object_count (heap_of_recs recs next) ≡ x.head.opening.objects
    objects = count_recs (heap_of_recs recs next) ∙ ap length (recs_again recs 0 next order (exact_counts x order is)) ∙ count

    bounded : (n : ℕ) → next ≤ n → (o : Option Object) → object_in recs n ≡ o → object_in recs n ≡ None
    bounded n high None e = e
    bounded n high (Some o) e =
        let r = rec_of_object recs n o e in
        let low = rec_at (λ (r : Rec). r.name < next) recs n r.rec (order_below 0 next recs order) r.is in
        absurd (omega (arith, low.0, low.1, high))

    names : (n : ℕ) (o : Object) → object_in recs n ≡ Some o → IsName n
    names n o e =
        let r = rec_of_object recs n o e in
        let at = rec_at IsRecord recs n r.rec (order_records 0 next recs order) r.is in
        subst (λ k. IsName k) at.0 at.1.name.0

    objects_are_so : (n : ℕ) (o : Object) → object_in recs n ≡ Some o → IsObject o
    objects_are_so n o e =
        let r = rec_of_object recs n o e in
        let at = rec_at IsRecord recs n r.rec (order_records 0 next recs order) r.is in
        subst IsObject r.object (record { class = at.1.class; body = at.1.body; range = at.1.range })

    closed : (n held : ℕ) (o : Object) → object_in recs n ≡ Some o → holds o held ≡ true → is_some (object_in recs held) ≡ true
    closed n held o e holds_it =
        let r = rec_of_object recs n o e in
        let at = rec_at (λ (r : Rec). has_all (object_in recs) r ≡ true) recs n r.rec is.held r.is in
        held_there (object_in recs) r.rec held at.1 (subst (λ (y : Object). holds y held ≡ true) (sym r.object) holds_it)

    counted : (n : ℕ) → Has (heap_of_recs recs next) n → count_of (heap_of_recs recs next) n ≡ 0 → is_known n ≡ true
    counted n there none =
        let o = object_there recs n there in
        let r = rec_of_object recs n o.0 o.1 in
        let at = rec_at (λ (r : Rec). is_counted (words_in recs) r ≡ true) recs n r.rec is.counted r.is in
        let zero_is : r.rec.count ≡ 0 = counted_exact (words_in recs) r.rec at.1 ∙ ap (words_in recs) at.0 ∙ sym (words_heap recs 0 next n order) ∙ none in
        subst (λ k. is_known k ≡ true) at.0 (counted_known (words_in recs) r.rec at.1 zero_is)

tick_none : (timer tick : ℕ) → is_tick timer tick ≡ true → timer ≡ 0 → tick ≡ 0
tick_none timer tick e none = elim (or_cases (eqb tick 0) (ltb 0 timer) e) [
  | inl nought ↦ eqb-true tick 0 nought
  | inr above ↦ absurd (omega (arith, ltb-true 0 timer above, none))
]

head_of_heap : (x : Image) → IsRead x.head → object_count (heap_of_recs x.recs x.head.opening.next) ≡ x.head.opening.objects → AreKeptWords (object_in x.recs) x.head.state → IsHeadOf (heap_of_recs x.recs x.head.opening.next) x.head
head_of_heap x read objects kept = record {
  version = elim read.state [
    | inl p ↦ inl (version p.0, p.1)
    | inr p ↦ inr (
      eqb-true x.head.opening.version 2 p.0,
      record {
        display = kept.display;
        input = kept.input;
        timer = kept.timer;
        tick = tick_none x.head.state.timer x.head.state.tick p.1.tick;
        clock_fits = p.1.clock_fits;
        tick_fits = p.1.tick_fits;
      },
    )
  ];
  objects = sym objects;
  next = refl;
}
  where
    version : eqb x.head.opening.version 2 ≡ false → x.head.opening.version ≡ 1
    version other = elim (or_cases (eqb x.head.opening.version 1) (eqb x.head.opening.version 2) read.opening.version) [
      | inl one ↦ eqb-true x.head.opening.version 1 one
      | inr two ↦ (let clash : ◌≡◌ {A = Bool} false true = sym other ∙ two in absurd (cc))
    ]

pub valid_from : (bytes : List ℕ) → AreBytes bytes → first_break bytes ≡ None → IsValidImage bytes
unfolding first_break
valid_from bytes fits e = go (image_at bytes) refl e
  where
    go : (r : Result (Image × List ℕ) Halt) → image_at bytes ≡ r → break_in (length bytes) r ≡ None → IsValidImage bytes
    go (Err h) read e = never (break_of (length bytes) h) e
    go (Ok x) read e =
        let t = image_takes bytes x fits read in
        let u = unbroken x.0 e in
        let again = recs_again x.0.recs 0 x.0.head.opening.next t.order (exact_counts x.0 t.order u) in
        let objects : object_count (heap_of_recs x.0.recs x.0.head.opening.next) ≡ x.0.head.opening.objects = count_recs (heap_of_recs x.0.recs x.0.head.opening.next) ∙ ap length again ∙ t.count in
        record {
          heap = heap_of_recs x.0.recs x.0.head.opening.next;
          head = x.0.head;
          is = heap_is x.0 t.head t.count t.order u;
          of_heap = head_of_heap x.0 t.head objects u.kept;
          text = t.text ∙ ap (λ (s : List ℕ). version_head_text x.0.head ++ s) (sym (texts_of (heap_of_recs x.0.recs x.0.head.opening.next) x.0.head.opening.next ∙ ap recs_text again));
        }

-- ---- an image: nothing is broken

-- the image as it is read from the text of a heap
abbrev pub image_of : ImageHead → Heap → Image
image_of head h = record { head = head; recs = recs_below h h.next }

below_next : (h : Heap) (n : ℕ) → IsImageHeap h → is_some (h.at n) ≡ true → n < h.next
below_next h n is there = go (h.at n) refl there
  where
    go : (o : Option Object) → h.at n ≡ o → is_some o ≡ true → n < h.next
    go None e there = let clash : ◌≡◌ {A = Bool} false true = there in absurd (cc)
    go (Some o) e there = elim (cases_lt n h.next) [
      | inl lt ↦ lt
      | inr le ↦ (let none : ◌≡◌ {A = Option Object} None (Some o) = sym (is.bounded.bounded n le) ∙ e in absurd (cc))
    ]

state_word : (h : Heap) (n : ℕ) → IsImageHeap h → IsStateWord h n → (is_state_word h.next n ≡ true) × (n < 2 ^ 32)
state_word h n is (inl none) = (subst (λ k. is_state_word h.next k ≡ true) (sym none) refl, omega (arith, none))
state_word h n is (inr there) =
    let low = below_next h n is there in
    let test : (eqb (n % 2) 0 && ltb n h.next) ≡ true = and_from _ _ (eq-eqb _ _ (is.names n there).even) (lt-ltb _ _ low) in
    (or_right (eqb n 0) (eqb (n % 2) 0 && ltb n h.next) test, omega (arith, low, is.head.high))

tick_is : (timer tick : ℕ) → (timer ≡ 0 → tick ≡ 0) → is_tick timer tick ≡ true
tick_is zero tick h = or_left (eqb tick 0) (ltb 0 0) (eq-eqb tick 0 (h refl))
tick_is (suc timer) tick h = or_right (eqb tick 0) (ltb 0 (suc timer)) (lt-ltb 0 (suc timer) (omega arith))

read_head : (h : Heap) (head : ImageHead) → IsImageHeap h → IsHeadOf h head → IsRead head
read_head h head is of_heap = elim of_heap.version [
  | inl p ↦ record { opening = opening (subst (λ v. is_version v ≡ true) (sym p.0) refl) (omega (arith, p.0)); state = inl (ap (λ v. eqb v 2) p.0, p.1) }
  | inr p ↦ record { opening = opening (subst (λ v. is_version v ≡ true) (sym p.0) refl) (omega (arith, p.0)); state = inr (ap (λ v. eqb v 2) p.0, words p.1) }
]
  where
    opening : is_version head.opening.version ≡ true → head.opening.version < 2 ^ 32 → IsOpening head.opening
    opening version fits = record {
      version = version;
      version_fits = fits;
      objects = subst (λ n. is_count n ≡ true) (sym of_heap.objects) (and_from _ _ (le-leb _ _ is.head.enough) (le-leb _ _ is.head.few));
      objects_fit = omega (arith, of_heap.objects, is.head.few);
      next = subst (λ n. is_next n ≡ true) (sym of_heap.next) (and_from _ _ (le-leb _ _ is.head.low) (eq-eqb _ _ is.head.even));
      next_fits = omega (arith, of_heap.next, is.head.high);
    }

    words : IsState h head.state → AreStateWords head.opening.next head.state
    words s =
        let display = state_word h head.state.display is s.display in
        let input = state_word h head.state.input is s.input in
        let timer = state_word h head.state.timer is s.timer in
        subst (λ n. AreStateWords n head.state) (sym of_heap.next) (record {
          clock_fits = s.clock_fits;
          display = display.0;
          display_fits = display.1;
          input = input.0;
          input_fits = input.1;
          timer = timer.0;
          timer_fits = timer.1;
          tick = tick_is head.state.timer head.state.tick s.tick;
          tick_fits = s.tick_fits;
        })

pub image_read : (bytes : List ℕ) (h : Heap) (head : ImageHead) → IsImageHeap h → IsHeadOf h head → bytes ≡ text_under head h → IsImageRead bytes (image_of head h)
image_read bytes h head is of_heap text = record {
  text = text ∙ ap (λ (s : List ℕ). version_head_text head ++ s) (texts_of h h.next);
  head = read_head h head is of_heap;
  count = sym (count_recs h) ∙ sym of_heap.objects;
  order = subst (λ n. InOrder 0 n (recs_below h h.next)) (sym of_heap.next) (order_recs h h.next (omega arith) each);
}
  where
    each : (k : ℕ) (o : Object) → h.at k ≡ Some o → k < h.next → IsRecord (rec_of h k o) × (0 < k)
    each k o at low =
        let object = is.objects k o at in
        let name = is.names k (ap is_some at) in
        (record { name = (name, omega (arith, low, is.head.high)); class = object.class; count = count_fits h k is; body = object.body; range = object.range }, name.above)

kept_words : (h : Heap) (head : ImageHead) → IsHeadOf h head → AreKeptWords h.at head.state
kept_words h head of_heap = elim of_heap.version [
  | inl p ↦ subst (AreKeptWords h.at) (sym p.1) (record { display = inl refl; input = inl refl; timer = inl refl })
  | inr p ↦ record { display = p.1.display; input = p.1.input; timer = p.1.timer }
]

pub image_unbroken : (h : Heap) (head : ImageHead) → IsImageHeap h → IsHeadOf h head → IsUnbroken (image_of head h)
image_unbroken h head is of_heap = record {
  held = all_recs (λ (r : Rec). has_all (object_in (recs_below h h.next)) r ≡ true) h h.next (λ k o at. there_has (object_in (recs_below h h.next)) (rec_of h k o) (λ q held. subst (λ (f : ℕ → Option Object). is_some (f q) ≡ true) (sym at_is) (is.closed k q o at held)));
  counted = all_recs (λ (r : Rec). is_counted (words_in (recs_below h h.next)) r ≡ true) h h.next (λ k o at. counted_from (words_in (recs_below h h.next)) (rec_of h k o) (sym (words_are h k)) (λ none. is.counted k (ap is_some at) none));
  known = λ n known. subst (λ (f : ℕ → Option Object). is_some (f n) ≡ true) (sym at_is) (is.known n known);
  kept = subst (λ (f : ℕ → Option Object). AreKeptWords f head.state) (sym at_is) (kept_words h head of_heap);
}
  where
    at_is : object_in (recs_below h h.next) ≡ h.at
    at_is = objects_are h is.bounded.bounded

pub unbroken_from : (bytes : List ℕ) → IsValidImage bytes → first_break bytes ≡ None
unfolding first_break
unbroken_from bytes v =
    ap (break_in (length bytes)) (image_again bytes (image_of v.head v.heap) (image_read bytes v.heap v.head v.is v.of_heap v.text))
    ∙ nothing_broken (image_of v.head v.heap) (image_unbroken v.heap v.head v.is v.of_heap)

-- ---- one heap, one head

pub same_image : (g h : Heap) (a b : ImageHead) → IsImageHeap g → IsImageHeap h → IsHeadOf g a → IsHeadOf h b → text_under a g ≡ text_under b h → (g ≡ h) × (a ≡ b)
same_image g h a b is-g is-h of-g of-h e =
    let one = image_again (text_under a g) (image_of a g) (image_read (text_under a g) g a is-g of-g refl) in
    let other = image_again (text_under a g) (image_of b h) (image_read (text_under a g) h b is-h of-h e) in
    let images : image_of a g ≡ image_of b h = (pair_is (image_of a g) (image_of b h) [] [] (sym one ∙ other)).0 in
    let heads : a ≡ b = ap (λ (x : Image). x.head) images in
    let next : g.next ≡ h.next = sym of-g.next ∙ ap (λ (x : ImageHead). x.opening.next) heads ∙ of-h.next in
    let at : g.at ≡ h.at = sym (objects_are g is-g.bounded.bounded) ∙ ap (λ (x : Image). object_in x.recs) images ∙ objects_are h is-h.bounded.bounded in
    (ap (λ (m : ℕ → Option Object). let x : Heap = record { at = m; next = g.next } in x) at ∙ ap (λ (n : ℕ). let x : Heap = record { at = h.at; next = n } in x) next, heads)

-- ---- version 1

-- the head of version 1
abbrev plain_head : Heap → ImageHead
plain_head h = record { opening = record { version = 1; objects = object_count h; next = h.next }; state = no_state }

plain_text : (h : Heap) → text_under (plain_head h) h ≡ image_text h
unfolding image_text
plain_text h = ap (λ (s : List ℕ). s ++ records_below h h.next) (append-nil (head_text (object_count h) h.next))

version_text : (head : ImageHead) (rest : List ℕ) → take 4 (drop 4 (version_head_text head ++ rest)) ≡ four_bytes head.opening.version
unfolding four_bytes
version_text head rest = refl

pub first_version : (bytes : List ℕ) → IsValid bytes → (first_break bytes ≡ None) × (take 4 (drop 4 bytes) ≡ four_bytes 1)
first_version bytes v =
    let h = v.heap in
    let text : bytes ≡ text_under (plain_head h) h = v.text ∙ sym (plain_text h) in (
      unbroken_from bytes (record { heap = h; head = plain_head h; is = v.is; of_heap = record { version = inl (refl, refl); objects = refl; next = refl }; text = text }),
      ap (λ (s : List ℕ). take 4 (drop 4 s)) text ∙ version_text (plain_head h) (records_below h h.next),
    )

head_plain : (h : Heap) (head : ImageHead) → IsHeadOf h head → four_bytes head.opening.version ≡ four_bytes 1 → head ≡ plain_head h
head_plain h head of_heap e = elim of_heap.version [
  | inl p ↦
      ap (λ (v : ℕ). let x : ImageHead = record { opening = record { version = v; objects = head.opening.objects; next = head.opening.next }; state = head.state } in x) p.0
      ∙ ap (λ (n : ℕ). let x : ImageHead = record { opening = record { version = 1; objects = n; next = head.opening.next }; state = head.state } in x) of_heap.objects
      ∙ ap (λ (n : ℕ). let x : ImageHead = record { opening = record { version = 1; objects = object_count h; next = n }; state = head.state } in x) of_heap.next
      ∙ ap (λ (s : State). let x : ImageHead = record { opening = record { version = 1; objects = object_count h; next = h.next }; state = s } in x) p.1
  | inr p ↦ (let same = word-same head.opening.version 1 (omega (arith, p.0)) (omega arith) e in absurd (omega (arith, p.0, same)))
]

pub from_first : (bytes : List ℕ) → AreBytes bytes → first_break bytes ≡ None → take 4 (drop 4 bytes) ≡ four_bytes 1 → IsValid bytes
from_first bytes fits e one =
    let v = valid_from bytes fits e in
    let version : four_bytes v.head.opening.version ≡ four_bytes 1 = sym (version_text v.head (records_below v.heap v.heap.next)) ∙ ap (λ (s : List ℕ). take 4 (drop 4 s)) (sym v.text) ∙ one in
    record { heap = v.heap; is = v.is; text = v.text ∙ ap (λ (head : ImageHead). text_under head v.heap) (head_plain v.heap v.head v.of_heap version) ∙ plain_text v.heap }

pub bytes_of_all : (bytes : List ℕ) → All (λ b. b < 2 ^ 8) bytes → AreBytes bytes
bytes_of_all bytes all = record {
  below = λ i. elim (cases_lt i (length bytes)) [
    | inl lt ↦ All-get_or (λ b. b < 256) bytes i 0 lt all
    | inr le ↦ rw (get_or_past bytes i 0 le) (omega arith)
  ];
}

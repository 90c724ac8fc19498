-- What a text is read as has one text, which is that one.
use Rattle.std.proofs.Common.{◌≡◌, ℕ, ◌+◌, ◌-◌, ◌%◌, ◌^◌, ◌<◌, ◌≤◌, Bool, true, false, cond, ◌&&◌, eqb, ltb, leb, List, [], ◌∷◌, ◌++◌, length, Option, Some, None, Result, Ok, Err, refl, sym, ap, ap₂, subst, ◌∙◌, append_assoc, arith}
use Rattle.std.specs.Prelude.{All, map}
use Rattle.std.specs.List.{AllPairs, flat_map, join_with_byte, slice_split}
use Rattle.std.proofs.lemmas.Bool.{and_parts, eqb-true, leb-true, ltb-true}
use Rattle.std.proofs.lemmas.List.Elements.{All-nil, All-cons}
use Rattle.std.proofs.lemmas.List.Kept.{AllPairs-cons}
use Rattle.std.proofs.lemmas.List.Splits.{join_with_byte-slice_split}
use Rattle.long_names.specs.Words.{literal_count}
use Rattle.long_names.specs.Objects.{HasSize, IsRecord}
use Rattle.long_names.specs.declared.limits.TheConstants.{MOST_CODE}
use Rattle.long_names.specs.declared.object.Body.{Body}
use Rattle.long_names.specs.declared.object.Body.TheVariants.{Pointers, Words, Bytes, Method}
use Rattle.long_names.specs.declared.object.Rec.{Rec}
use Rattle.image_format.specs.declared.fault.Break.{Break}
use Rattle.image_format.specs.declared.head.TheConstants.{FEWEST_OBJECTS, MOST_OBJECTS}
use Rattle.image_format.specs.Heads.{is_next}
use Rattle.image_format.specs.Rules.{Image, break, object_of_rec}
use Rattle.image_format.proofs.ImageRecs.{InOrder}
use Rattle.text_lines.specs.Breaks.{◌>>=◌, head_at, image_of, keeping, keeps_count, keeps_order, keeps_size, keeps_state, lines_at, object_at, objects_at, stated, text_at}
use Rattle.text_lines.specs.Grammar.{Head, line_head, line_object}
use Rattle.text_lines.specs.Spelling.{head_parts, line_of, object_parts}
use Rattle.text_lines.specs.Texts.{AreStated, recs_text}
use Rattle.text_lines.proofs.OneSpelling.{HasStated, IsLineOfHead, line_head_one, line_object_one}

-- ---- one reading after another

no_ok : {A P : Type 0} (b : Break) (x : A) → ◌≡◌ {A = Result A Break} (Err b) (Ok x) → P
no_ok b x e = absurd (cc)

pub ok_is : {A : Type 0} (x y : A) → ◌≡◌ {A = Result A Break} (Ok x) (Ok y) → x ≡ y
ok_is x y e = cc

then_ok : {A B : Type 0} (r : Result A Break) (f : A → Result B Break) (y : B) → (r >>= f) ≡ Ok y → (x : A) × (r ≡ Ok x) × (f x ≡ Ok y)
then_ok (Ok x) f y e = (x, refl, e)
then_ok (Err b) f y e = no_ok b y e

stated_ok : {A : Type 0} (line : ℕ) (o : Option A) (x : A) → stated line o ≡ Ok x → o ≡ Some x
stated_ok line None x e = no_ok (break 0 line) x e
stated_ok line (Some y) x e = ap Some (ok_is y x e)

kept_ok : (rule line : ℕ) (b : Bool) (x : Unit {0}) → keeping rule line b ≡ Ok x → b ≡ true
kept_ok rule line true x e = refl
kept_ok rule line false x e = no_ok (break rule line) x e

if_ok : {A : Type 0} (b : Bool) (x : A) (h : Break) (y : A) → cond b (Ok x) (Err h) ≡ Ok y → (b ≡ true) × (x ≡ y)
if_ok true x h y e = (refl, ok_is x y e)
if_ok false x h y e = no_ok h y e

-- ---- the line of an object

sized : (body : Body) → HasStated body → keeps_size body ≡ true → HasSize body
sized (Pointers values) size keeps = size
sized (Words words) size keeps = size
sized (Bytes bytes) size keeps = size
sized (Method header literals code) size keeps =
    let both = and_parts (leb (length code) MOST_CODE) (eqb (literal_count header) (length literals)) keeps in
    (size, sym (eqb-true (literal_count header) (length literals) both.1), leb-true (length code) MOST_CODE both.0)

record IsObjectRead (number last next : ℕ) (line : List ℕ) (r : Rec) : Type 0 where
  record_is : IsRecord r
  uncounted : r.count ≡ 0
  above : last < r.name
  below : r.name < next
  number_is : number ≤ MOST_OBJECTS + 1
  line_is : line ++ 10 ∷ [] ≡ line_of (object_parts r.name (object_of_rec r))

object_read : (number last next : ℕ) (line : List ℕ) (r : Rec) → next < 2 ^ 32 → object_at number last next line ≡ Ok r → IsObjectRead number last next line r
unfolding object_at
object_read number last next line r fits e =
    let a = then_ok (stated number (line_object line)) _ r e in
    let b = then_ok (keeping 3 number (keeps_count number)) _ r a.2 in
    let c = then_ok (keeping 4 number (keeps_order last next a.0.name)) _ r b.2 in
    let d = then_ok (keeping 7 number (keeps_size a.0.body)) _ r c.2 in
    let line_is = line_object_one line a.0 (stated_ok number (line_object line) a.0 a.1) in
    let order = and_parts (eqb (a.0.name % 2) 0) (ltb last a.0.name && ltb a.0.name next) (kept_ok 4 number (keeps_order last next a.0.name) c.0 c.1) in
    let between = and_parts (ltb last a.0.name) (ltb a.0.name next) order.1 in
    let above = ltb-true last a.0.name between.0 in
    let below = ltb-true a.0.name next between.1 in
    let none = line_is.count in
    subst (IsObjectRead number last next line) (ok_is a.0 r d.2) (record {
      record_is = record {
        name = (record { even = eqb-true (a.0.name % 2) 0 order.0; above = omega (arith, above) }, omega (arith, below, fits));
        class = line_is.class;
        count = omega (arith, none);
        body = record { size = sized a.0.body line_is.size (kept_ok 7 number (keeps_size a.0.body) d.0 d.1); fields = line_is.fields };
        range = line_is.range;
      };
      uncounted = none;
      above = above;
      below = below;
      number_is = leb-true number (MOST_OBJECTS + 1) (kept_ok 3 number (keeps_count number) b.0 b.1);
      line_is = line_is.line_is (omega (arith, below, fits));
    })

-- ---- the lines of objects

record AreRead (number last next : ℕ) (lines : List (List ℕ)) (recs : List Rec) : Type 0 where
  order : InOrder last next recs
  uncounted : All (λ (r : Rec). r.count ≡ 0) recs
  few : length recs ≤ MOST_OBJECTS + 2 - number
  text : join_with_byte 10 lines ≡ flat_map (λ (r : Rec). line_of (object_parts r.name (object_of_rec r))) recs

empty : (xs : List ℕ) → eqb (length xs) 0 ≡ true → xs ≡ []
empty [] e = refl
empty (x ∷ xs) e = absurd (omega (arith, eqb-true (length (x ∷ xs)) 0 e))

first_line : (line more spelled rest : List ℕ) → line ++ 10 ∷ [] ≡ spelled → more ≡ rest → line ++ (10 ∷ more) ≡ spelled ++ rest
first_line line more spelled rest e f = sym (append_assoc line (10 ∷ []) more) ∙ ap₂ (λ (s t : List ℕ). s ++ t) e f

objects_read : (number last next : ℕ) (lines : List (List ℕ)) (recs : List Rec) → next < 2 ^ 32 → objects_at number last next lines ≡ Ok recs → AreRead number last next lines recs
unfolding objects_at
objects_read number last next [] recs fits e = subst (AreRead number last next []) (ok_is [] recs e) (record { order = tt; uncounted = All-nil (λ (r : Rec). r.count ≡ 0); few = omega arith; text = refl })
objects_read number last next (tail ∷ []) recs fits e =
    let two = if_ok (eqb (length tail) 0) [] (break 0 number) recs e in
    subst (AreRead number last next (tail ∷ [])) two.1 (record { order = tt; uncounted = All-nil (λ (r : Rec). r.count ≡ 0); few = omega arith; text = empty tail two.0 })
objects_read number last next (line ∷ more ∷ lines) recs fits e =
    let a = then_ok (object_at number last next line) _ recs e in
    let b = then_ok (objects_at (number + 1) a.0.name next (more ∷ lines)) _ recs a.2 in
    let one = object_read number last next line a.0 fits a.1 in
    let others = objects_read (number + 1) a.0.name next (more ∷ lines) b.0 fits b.1 in
    let number_is = one.number_is in
    let few = others.few in
    subst (AreRead number last next (line ∷ more ∷ lines)) (ok_is (a.0 ∷ b.0) recs b.2) (record {
      order = (one.record_is, one.above, one.below, others.order);
      uncounted = All-cons (λ (r : Rec). r.count ≡ 0) a.0 b.0 one.uncounted others.uncounted;
      few = omega (arith, number_is, few);
      text = first_line line (join_with_byte 10 (more ∷ lines)) (line_of (object_parts a.0.name (object_of_rec a.0))) (flat_map (λ (r : Rec). line_of (object_parts r.name (object_of_rec r))) b.0) one.line_is others.text;
    })

-- ---- records in order

pub records_of : (last next : ℕ) (recs : List Rec) → InOrder last next recs → All IsRecord recs
records_of last next [] order = All-nil IsRecord
records_of last next (r ∷ rs) order = All-cons IsRecord r rs order.0 (records_of r.name next rs order.3)

pub below_of : (last next : ℕ) (recs : List Rec) → InOrder last next recs → All (λ (r : Rec). r.name < next) recs
below_of last next [] order = All-nil (λ (r : Rec). r.name < next)
below_of last next (r ∷ rs) order = All-cons (λ (r : Rec). r.name < next) r rs order.2 (below_of r.name next rs order.3)

above_of : (n last next : ℕ) (recs : List Rec) → InOrder last next recs → n ≤ last → All (λ (m : ℕ). n < m) (map (λ (r : Rec). r.name) recs)
above_of n last next [] order le = All-nil (λ (m : ℕ). n < m)
above_of n last next (r ∷ rs) order le =
    let above = order.1 in
    All-cons (λ (m : ℕ). n < m) r.name (map (λ (r : Rec). r.name) rs) (omega (arith, above, le)) (above_of n r.name next rs order.3 (omega (arith, above, le)))

pub rising_of : (last next : ℕ) (recs : List Rec) → InOrder last next recs → AllPairs (λ (x y : ℕ). x < y) (map (λ (r : Rec). r.name) recs)
rising_of last next [] order = λ i j d lt within. absurd (omega (arith, within))
rising_of last next (r ∷ rs) order = AllPairs-cons (λ (x y : ℕ). x < y) r.name (map (λ (r : Rec). r.name) rs) (above_of r.name r.name next rs order.3 (omega arith)) (rising_of r.name next rs order.3)

-- ---- line 1

record IsHeadRead (line : List ℕ) (h : Head) : Type 0 where
  line_is : IsLineOfHead line h
  next : is_next h.next ≡ true
  state : keeps_state h ≡ true

head_read : (line : List ℕ) (h : Head) → head_at line ≡ Ok h → IsHeadRead line h
unfolding head_at
head_read line h e =
    let a = then_ok (stated 1 (line_head line)) _ h e in
    let b = then_ok (keeping 3 1 (is_next a.0.next)) _ h a.2 in
    let c = then_ok (keeping 13 1 (keeps_state a.0)) _ h b.2 in
    subst (IsHeadRead line) (ok_is a.0 h c.2) (record {
      line_is = line_head_one line a.0 (stated_ok 1 (line_head line) a.0 a.1);
      next = kept_ok 3 1 (is_next a.0.next) b.0 b.1;
      state = kept_ok 13 1 (keeps_state a.0) c.0 c.1;
    })

-- ---- the text

abbrev pub IsReading : List ℕ → Image → Type 0
IsReading text x = (head : Head) × (recs : List Rec) × AreStated head recs × (x ≡ image_of head recs) × (text ≡ recs_text head recs)

lines_read : (lines : List (List ℕ)) (x : Image) → lines_at lines ≡ Ok x → IsReading (join_with_byte 10 lines) x
unfolding lines_at recs_text
lines_read [] x e = no_ok (break 0 1) x e
lines_read (line ∷ []) x e = no_ok (break 0 1) x e
lines_read (line ∷ more ∷ lines) x e =
    let a = then_ok (head_at line) _ x e in
    let b = then_ok (objects_at 2 0 a.0.next (more ∷ lines)) _ x a.2 in
    let c = then_ok (keeping 3 1 (leb FEWEST_OBJECTS (length b.0))) _ x b.2 in
    let h = head_read line a.0 a.1 in
    let o = objects_read 2 0 a.0.next (more ∷ lines) b.0 h.line_is.next b.1 in
    let few = o.few in (
      a.0,
      b.0,
      record {
        next = h.next;
        next_fits = h.line_is.next;
        clock = h.line_is.clock;
        display = h.line_is.display;
        input = h.line_is.input;
        timer = h.line_is.timer;
        tick = h.line_is.tick;
        state = h.state;
        enough = leb-true FEWEST_OBJECTS (length b.0) (kept_ok 3 1 (leb FEWEST_OBJECTS (length b.0)) c.0 c.1);
        few = omega (arith, few);
        records = records_of 0 a.0.next b.0 o.order;
        uncounted = o.uncounted;
        below = below_of 0 a.0.next b.0 o.order;
        rising = rising_of 0 a.0.next b.0 o.order;
      },
      sym (ok_is (image_of a.0 b.0) x c.2),
      first_line line (join_with_byte 10 (more ∷ lines)) (line_of (head_parts a.0.next a.0.state)) (flat_map (λ (r : Rec). line_of (object_parts r.name (object_of_rec r))) b.0) h.line_is.line_is o.text,
    )

pub text_read : (text : List ℕ) (x : Image) → text_at text ≡ Ok x → IsReading text x
text_read text x e = subst (λ (t : List ℕ). IsReading t x) (join_with_byte-slice_split 10 text) (lines_read (slice_split (λ b. eqb b 10) text) x e)

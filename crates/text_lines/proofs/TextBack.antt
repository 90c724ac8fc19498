-- The text of records is read back, line by line.
use Rattle.std.proofs.Common.{◌≡◌, ℕ, suc, ◌+◌, ◌%◌, ◌<◌, ◌≤◌, Bool, true, false, ◌&&◌, eqb, ltb, List, [], ◌∷◌, ◌++◌, length, map, Option, Result, Ok, refl, sym, ap, ap₂, ◌∙◌, append_assoc, arith}
use Rattle.std.specs.Prelude.{nat_le}
use Rattle.std.specs.List.{All, AllPairs, flat_map, join_with_byte, list_all, slice_split}
use Rattle.std.proofs.lemmas.Bool.{and_parts, eq-eqb, le-leb, lt-ltb}
use Rattle.std.proofs.lemmas.Bool.Decides.{nat_tests}
use Rattle.std.proofs.lemmas.List.Concat.{flat_map-cons}
use Rattle.std.proofs.lemmas.List.Elements.{All-append, All-cons, All-head, All-nil, All-tail}
use Rattle.std.proofs.lemmas.List.Splits.{slice_split_at}
use Rattle.long_names.specs.Objects.{HasSize, IsRecord}
use Rattle.long_names.specs.Words.{literal_count}
use Rattle.long_names.specs.declared.limits.TheConstants.{MOST_CODE}
use Rattle.long_names.specs.declared.object.Body.{Body}
use Rattle.long_names.specs.declared.object.Body.TheVariants.{Pointers, Words, Bytes, Method}
use Rattle.long_names.specs.declared.object.Rec.{Rec}
use Rattle.image_format.specs.declared.fault.Break.{Break}
use Rattle.image_format.specs.declared.head.TheConstants.{FEWEST_OBJECTS, MOST_OBJECTS}
use Rattle.image_format.specs.Heads.{is_next}
use Rattle.image_format.specs.Rules.{object_of_rec}
use Rattle.text_lines.specs.Breaks.{◌>>=◌, head_at, image_of, keeping, keeps_count, keeps_order, keeps_size, keeps_state, lines_at, object_at, objects_at, stated, text_at}
use Rattle.text_lines.specs.Grammar.{Head}
use Rattle.text_lines.specs.Spelling.{head_parts, line_of, object_parts}
use Rattle.text_lines.specs.Texts.{AreStated, recs_text}
use Rattle.text_lines.proofs.LineBack.{IsHeadShort, IsInner, IsPart, head-back, head-part, object-back, object-parts}

-- ---- the lines of a text

abbrev ends : ℕ → Bool
ends b = eqb b 10

no-end : (xs : List ℕ) → IsInner xs → All (λ b. ends b ≡ false) xs
no-end [] all = All-nil (λ b. ends b ≡ false)
no-end (x ∷ xs) all =
    let both = and_parts (ltb 32 x) (list_all (λ b. ltb 32 b) xs) all in
    All-cons (λ b. ends b ≡ false) x xs (let first = both.0 in grind (arith, nat_tests)) (no-end xs both.1)

joined-no-end : (parts : List (List ℕ)) → All IsPart parts → All (λ b. ends b ≡ false) (join_with_byte 32 parts)
joined-no-end [] all = All-nil (λ b. ends b ≡ false)
joined-no-end (part ∷ []) all = no-end part (All-head IsPart part [] all).inner
joined-no-end (part ∷ next ∷ parts) all =
    All-append (λ b. ends b ≡ false) part (32 ∷ join_with_byte 32 (next ∷ parts)) (no-end part (All-head IsPart part (next ∷ parts) all).inner)
    (All-cons (λ b. ends b ≡ false) 32 (join_with_byte 32 (next ∷ parts)) refl (joined-no-end (next ∷ parts) (All-tail IsPart part (next ∷ parts) all)))

first-line : (parts : List (List ℕ)) (rest : List ℕ) → All IsPart parts → slice_split ends (line_of parts ++ rest) ≡ join_with_byte 32 parts ∷ slice_split ends rest
first-line parts rest all =
    ap (slice_split ends) (append_assoc (join_with_byte 32 parts) (10 ∷ []) rest)
    ∙ slice_split_at ends (join_with_byte 32 parts) 10 rest (joined-no-end parts all) refl

abbrev bare : Rec → List ℕ
bare r = join_with_byte 32 (object_parts r.name (object_of_rec r))

-- behind the last newline nothing stands
abbrev lines-of : List Rec → List (List ℕ)
lines-of [] = [] ∷ []
lines-of (r ∷ rs) = bare r ∷ lines-of rs

abbrev objects-text : List Rec → List ℕ
objects-text recs = flat_map (λ (r : Rec). line_of (object_parts r.name (object_of_rec r))) recs

objects-split : (recs : List Rec) → All IsRecord recs → slice_split ends (objects-text recs) ≡ lines-of recs
objects-split [] all = refl
objects-split (r ∷ rs) all =
    ap (slice_split ends) (flat_map-cons (λ (r : Rec). line_of (object_parts r.name (object_of_rec r))) r rs)
    ∙ first-line (object_parts r.name (object_of_rec r)) (objects-text rs) (object-parts r (All-head IsRecord r rs all))
    ∙ ap (λ (ls : List (List ℕ)). bare r ∷ ls) (objects-split rs (All-tail IsRecord r rs all))

-- ---- the line of an object

keeps : (rule line : ℕ) (b : Bool) → b ≡ true → keeping rule line b ≡ Ok tt
keeps rule line b is = ap (keeping rule line) is

size-kept : (body : Body) → HasSize body → keeps_size body ≡ true
size-kept (Pointers values) size = refl
size-kept (Words words) size = refl
size-kept (Bytes bytes) size = refl
size-kept (Method header literals code) size =
    ap₂ (λ (a b : Bool). a && b) (le-leb (length code) MOST_CODE size.2) (eq-eqb (literal_count header) (length literals) (sym size.1))

order-kept : (last next name : ℕ) → name % 2 ≡ 0 → last < name → name < next → keeps_order last next name ≡ true
order-kept last next name even above below =
    ap₂ (λ (a b : Bool). a && b) (eq-eqb (name % 2) 0 even) (ap₂ (λ (a b : Bool). a && b) (lt-ltb last name above) (lt-ltb name next below))

object-kept : (number last next : ℕ) (r : Rec) → IsRecord r → r.count ≡ 0 → number ≤ MOST_OBJECTS + 1 → last < r.name → r.name < next → object_at number last next (bare r) ≡ Ok r
unfolding object_at
object-kept number last next r is none few above below =
    ap (λ (o : Option Rec). stated number o >>= λ x. keeping 3 number (keeps_count number) >>= λ a. keeping 4 number (keeps_order last next x.name) >>= λ b. keeping 7 number (keeps_size x.body) >>= λ c. Ok x) (object-back (bare r) r is none refl)
    ∙ ap (λ (k : Bool). keeping 3 number k >>= λ a. keeping 4 number (keeps_order last next r.name) >>= λ b. keeping 7 number (keeps_size r.body) >>= λ c. Ok r) (le-leb number (MOST_OBJECTS + 1) few)
    ∙ ap (λ (k : Bool). keeping 4 number k >>= λ b. keeping 7 number (keeps_size r.body) >>= λ c. Ok r) (order-kept last next r.name (let name = is.name in omega arith) above below)
    ∙ ap (λ (k : Bool). keeping 7 number k >>= λ c. Ok r) (size-kept r.body is.body.size)

-- ---- the lines of objects

more-objects : (number last next : ℕ) (line : List ℕ) (recs : List Rec)
    → objects_at number last next (line ∷ lines-of recs) ≡ (object_at number last next line >>= λ first. objects_at (number + 1) first.name next (lines-of recs) >>= λ others. Ok (first ∷ others))
unfolding objects_at
more-objects number last next line [] = refl
more-objects number last next line (r ∷ rs) = refl

rising-head : (x : ℕ) (xs : List ℕ) → AllPairs (λ (x y : ℕ). x < y) (x ∷ xs) → All (λ (y : ℕ). x < y) xs
rising-head x xs pairs k d low = pairs 0 (suc k) d (omega arith) (omega arith)

rising-tail : (x : ℕ) (xs : List ℕ) → AllPairs (λ (x y : ℕ). x < y) (x ∷ xs) → AllPairs (λ (x y : ℕ). x < y) xs
rising-tail x xs pairs i j d less low = pairs (suc i) (suc j) d (omega arith) (omega arith)

-- each is above the last, below the next, and counted nowhere
record AreKept (last next : ℕ) (recs : List Rec) : Type 0 where
  records : All IsRecord recs
  uncounted : All (λ (r : Rec). r.count ≡ 0) recs
  below : All (λ (r : Rec). r.name < next) recs
  above : All (λ (n : ℕ). last < n) (map (λ (r : Rec). r.name) recs)
  rising : AllPairs (λ (x y : ℕ). x < y) (map (λ (r : Rec). r.name) recs)

objects-back : (number last next : ℕ) (recs : List Rec) → number + length recs ≤ MOST_OBJECTS + 2 → AreKept last next recs → objects_at number last next (lines-of recs) ≡ Ok recs
unfolding objects_at
objects-back number last next [] few are = refl
objects-back number last next (r ∷ rs) few are =
    let names = map (λ (r : Rec). r.name) rs in
    let rest : AreKept r.name next rs = record {
      records = All-tail IsRecord r rs are.records;
      uncounted = All-tail (λ (r : Rec). r.count ≡ 0) r rs are.uncounted;
      below = All-tail (λ (r : Rec). r.name < next) r rs are.below;
      above = rising-head r.name names are.rising;
      rising = rising-tail r.name names are.rising;
    } in
    more-objects number last next (bare r) rs
    ∙ ap (λ (o : Result Rec Break). o >>= λ first. objects_at (number + 1) first.name next (lines-of rs) >>= λ others. Ok (first ∷ others))
    (object-kept number last next r (All-head IsRecord r rs are.records) (All-head (λ (r : Rec). r.count ≡ 0) r rs are.uncounted) (omega arith) (All-head (λ (n : ℕ). last < n) r.name names are.above) (All-head (λ (r : Rec). r.name < next) r rs are.below))
    ∙ ap (λ (o : Result (List Rec) Break). o >>= λ others. Ok (r ∷ others)) (objects-back (number + 1) r.name next rs (omega arith) rest)

-- ---- the text

head-kept : (h : Head) → IsHeadShort h → is_next h.next ≡ true → keeps_state h ≡ true → head_at (join_with_byte 32 (head_parts h.next h.state)) ≡ Ok h
unfolding head_at
head-kept h short next state =
    ap (λ (o : Option Head). stated 1 o >>= λ x. keeping 3 1 (is_next x.next) >>= λ a. keeping 13 1 (keeps_state x) >>= λ b. Ok x) (head-back (join_with_byte 32 (head_parts h.next h.state)) h short refl)
    ∙ ap (λ (k : Bool). keeping 3 1 k >>= λ a. keeping 13 1 (keeps_state h) >>= λ b. Ok h) next
    ∙ ap (λ (k : Bool). keeping 13 1 k >>= λ b. Ok h) state

more-lines : (line : List ℕ) (recs : List Rec)
    → lines_at (line ∷ lines-of recs) ≡ (head_at line >>= λ head. objects_at 2 0 head.next (lines-of recs) >>= λ rs. keeping 3 1 (nat_le FEWEST_OBJECTS (length rs)) >>= λ enough. Ok (image_of head rs))
unfolding lines_at
more-lines line [] = refl
more-lines line (r ∷ rs) = refl

-- names are above 0
names-above : (recs : List Rec) → All IsRecord recs → All (λ (n : ℕ). 0 < n) (map (λ (r : Rec). r.name) recs)
names-above [] all = All-nil (λ (n : ℕ). 0 < n)
names-above (r ∷ rs) all = All-cons (λ (n : ℕ). 0 < n) r.name (map (λ (r : Rec). r.name) rs) (let name = (All-head IsRecord r rs all).name in omega arith) (names-above rs (All-tail IsRecord r rs all))

pub text-back : (head : Head) (recs : List Rec) → AreStated head recs → text_at (recs_text head recs) ≡ Ok (image_of head recs)
unfolding recs_text
text-back head recs are =
    let short : IsHeadShort head = (are.next_fits, are.clock, are.display, are.input, are.timer, are.tick) in
    let kept : AreKept 0 head.next recs = record { records = are.records; uncounted = are.uncounted; below = are.below; above = names-above recs are.records; rising = are.rising } in
    ap lines_at (first-line (head_parts head.next head.state) (objects-text recs) (head-part head short) ∙ ap (λ (ls : List (List ℕ)). join_with_byte 32 (head_parts head.next head.state) ∷ ls) (objects-split recs are.records))
    ∙ more-lines (join_with_byte 32 (head_parts head.next head.state)) recs
    ∙ ap (λ (o : Result Head Break). o >>= λ h. objects_at 2 0 h.next (lines-of recs) >>= λ rs. keeping 3 1 (nat_le FEWEST_OBJECTS (length rs)) >>= λ enough. Ok (image_of h rs)) (head-kept head short are.next are.state)
    ∙ ap (λ (o : Result (List Rec) Break). o >>= λ rs. keeping 3 1 (nat_le FEWEST_OBJECTS (length rs)) >>= λ enough. Ok (image_of head rs)) (objects-back 2 0 head.next recs (let few = are.few in omega arith) kept)
    ∙ ap (λ (k : Bool). keeping 3 1 k >>= λ enough. Ok (image_of head recs)) (le-leb FEWEST_OBJECTS (length recs) are.enough)

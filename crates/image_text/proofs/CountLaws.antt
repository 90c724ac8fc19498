-- Records with other counts: what they have of the records before, and the lines of their names.
use Rattle.std.proofs.Common.{zero, suc, ◌≡◌, ℕ, ◌+◌, ◌*◌, ◌≤◌, Bool, true, false, cond, eqb, ltb, ◌&&◌, ◌||◌, List, [], ◌∷◌, length, map, drop, Option, Some, None, is_some, option_map, refl, sym, ap, subst, ◌∙◌, arith}
use Rattle.std.specs.Prelude.{All, slice_get}
use Rattle.std.proofs.Math.Path.{fun_ext}
use Rattle.std.proofs.lemmas.Bool.{eq-eqb, eqb-true, ne_eqb}
use Rattle.std.proofs.lemmas.List.Elements.{All-head, All-tail, All-weaker}
use Rattle.std.proofs.lemmas.List.Sums.{sum_by-cons, sum_by-le}
use Rattle.long_names.specs.Names.{is_known}
use Rattle.long_names.specs.Objects.{IsRecord, holdings}
use Rattle.long_names.specs.declared.object.Object.{Object}
use Rattle.long_names.specs.declared.object.Rec.{Rec}
use Rattle.image_format.specs.declared.fault.Break.{Break}
use Rattle.image_format.specs.Rules.{break, object_of_rec, rec_in, object_in, words_in, has_all, is_counted, first_failing}
use Rattle.object_record.specs.Raw.{raw_record}
use Rattle.object_record.proofs.ObjectLaws.{object-again}
use Rattle.object_record.proofs.Records.{is-raw}
use Rattle.image_reader.specs.Loaded.{stated_in}
use Rattle.image_reader.proofs.TallyLaws.{raw-few}
use Rattle.text_lines.specs.Breaks.{at_line, line_of_name, with_counts}
use Rattle.image_text.specs.Judged.{among_lines, line_among, unheld_among}

-- a record with this count
abbrev pub counted_as : ℕ → Rec → Rec
counted_as count r = record { name = r.name; class = r.class; count = count; body = r.body }

-- each with the count of its name; `with_counts` counts the words that hold it
abbrev pub counted_by : (ℕ → ℕ) → List Rec → List Rec
counted_by count recs = map (λ (r : Rec). counted_as (count r.name) r) recs

-- ---- what they have

pub rec_counted : (count : ℕ → ℕ) (recs : List Rec) (n : ℕ) → rec_in (counted_by count recs) n ≡ option_map (λ (r : Rec). counted_as (count r.name) r) (rec_in recs n)
rec_counted count [] n = refl
rec_counted count (r ∷ rs) n = go (eqb r.name n) (rec_counted count rs n)
  where
    go : (b : Bool) → rec_in (counted_by count rs) n ≡ option_map (λ (x : Rec). counted_as (count x.name) x) (rec_in rs n)
        → cond b (Some (counted_as (count r.name) r)) (rec_in (counted_by count rs) n) ≡ option_map (λ (x : Rec). counted_as (count x.name) x) (cond b (Some r) (rec_in rs n))
    go true later = refl
    go false later = later

object_same : (count : ℕ → ℕ) (o : Option Rec) → option_map object_of_rec (option_map (λ (r : Rec). counted_as (count r.name) r) o) ≡ option_map object_of_rec o
object_same count None = refl
object_same count (Some r) = refl

pub object_counted : (count : ℕ → ℕ) (recs : List Rec) (n : ℕ) → object_in (counted_by count recs) n ≡ object_in recs n
object_counted count recs n = ap (option_map object_of_rec) (rec_counted count recs n) ∙ object_same count (rec_in recs n)

pub objects_counted : (count : ℕ → ℕ) (recs : List Rec) → object_in (counted_by count recs) ≡ object_in recs
objects_counted count recs = fun_ext (object_counted count recs)

-- the record of a name has this name
pub name_is : (recs : List Rec) (n : ℕ) (r : Rec) → rec_in recs n ≡ Some r → r.name ≡ n
name_is [] n r e = let no : ◌≡◌ {A = Option Rec} None (Some r) = e in absurd (cc)
name_is (x ∷ xs) n r e = go (eqb x.name n) refl e (name_is xs n r)
  where
    go : (b : Bool) → eqb x.name n ≡ b → cond b (Some x) (rec_in xs n) ≡ Some r → (rec_in xs n ≡ Some r → r.name ≡ n) → r.name ≡ n
    go true same e later = let is : x ≡ r = cc in subst (λ (y : Rec). y.name ≡ n) is (eqb-true x.name n same)
    go false other e later = later e

-- the count of a name that is there
pub stated_counted : (count : ℕ → ℕ) (recs : List Rec) (n : ℕ) → is_some (object_in recs n) ≡ true → stated_in (counted_by count recs) n ≡ Some (count n)
stated_counted count recs n there = ap (option_map (λ (r : Rec). r.count)) (rec_counted count recs n) ∙ go (rec_in recs n) refl there
  where
    go : (o : Option Rec) → rec_in recs n ≡ o → is_some (option_map object_of_rec o) ≡ true → option_map (λ (r : Rec). r.count) (option_map (λ (r : Rec). counted_as (count r.name) r) o) ≡ Some (count n)
    go None e there = let clash : ◌≡◌ {A = Bool} false true = there in absurd (let no : ⊥ = cc in no)
    go (Some r) e there = ap (λ (k : ℕ). let o : Option ℕ = Some k in o) (ap count (name_is recs n r e))

-- ---- words

pub words_counted : (count : ℕ → ℕ) (recs : List Rec) (q : ℕ) → words_in (counted_by count recs) q ≡ words_in recs q
words_counted count [] q = refl
words_counted count (r ∷ rs) q =
    sum_by-cons (λ (x : Rec). holdings (object_of_rec x) q) (counted_as (count r.name) r) (counted_by count rs)
    ∙ ap (λ (k : ℕ). holdings (object_of_rec r) q + k) (words_counted count rs q)
    ∙ sym (sum_by-cons (λ (x : Rec). holdings (object_of_rec x) q) r rs)

few_holdings : (r : Rec) (q : ℕ) → IsRecord r → holdings (object_of_rec r) q ≤ 65536
few_holdings r q is = subst (λ (o : Object). holdings o q ≤ 65536) (object-again r is) (raw-few (raw_record r) q (is-raw r is).size)

pub words_few : (recs : List Rec) (q : ℕ) → All IsRecord recs → words_in recs q ≤ length recs * 65536
words_few recs q is = sum_by-le (λ (r : Rec). holdings (object_of_rec r) q) 65536 recs (All-weaker IsRecord (λ (r : Rec). holdings (object_of_rec r) q ≤ 65536) (λ r one. few_holdings r q one) recs is)

-- ---- rules 10 and 11

pub failing_counted : (count : ℕ → ℕ) (rule : ℕ) (test : Rec → Bool) (recs : List Rec) → first_failing rule test (counted_by count recs) ≡ first_failing rule (λ (r : Rec). test (counted_as (count r.name) r)) recs
failing_counted count rule test [] = refl
failing_counted count rule test (r ∷ rs) =
    ap (λ (o : Option Break). cond (test (counted_as (count r.name) r)) o (Some (break rule r.name))) (failing_counted count rule test rs)

pub fields_counted : (count : ℕ → ℕ) (recs : List Rec) → first_failing 10 (has_all (object_in (counted_by count recs))) (counted_by count recs) ≡ first_failing 10 (has_all (object_in recs)) recs
fields_counted count recs =
    failing_counted count 10 (has_all (object_in (counted_by count recs))) recs
    ∙ ap (λ (at : ℕ → Option Object). first_failing 10 (has_all at) recs) (objects_counted count recs)

-- names that no word holds are those of records that break rule 11, once each has its count
unheld_is : (words count : ℕ → ℕ) (recs : List Rec) → All (λ (r : Rec). words r.name ≡ count r.name) recs
    → option_map (break 11) (unheld_among words (map (λ (r : Rec). r.name) recs)) ≡ first_failing 11 (is_counted count) (counted_by count recs)
unheld_is words count [] all = refl
unheld_is words count (r ∷ rs) all =
    let later = unheld_is words count rs (All-tail (λ (x : Rec). words x.name ≡ count x.name) r rs all) in
    ap (λ (n : ℕ). option_map (break 11) (cond (is_known r.name || ltb 0 n) (unheld_among words (map (λ (x : Rec). x.name) rs)) (Some r.name))) (All-head (λ (x : Rec). words x.name ≡ count x.name) r rs all)
    ∙ go (is_known r.name || ltb 0 (count r.name)) later
    ∙ sym (ap (λ (b : Bool). cond (b && (is_known r.name || ltb 0 (count r.name))) (first_failing 11 (is_counted count) (counted_by count rs)) (Some (break 11 r.name))) (eq-eqb (count r.name) (count r.name) refl))
  where
    go : (b : Bool) → option_map (break 11) (unheld_among words (map (λ (x : Rec). x.name) rs)) ≡ first_failing 11 (is_counted count) (counted_by count rs)
        → option_map (break 11) (cond b (unheld_among words (map (λ (x : Rec). x.name) rs)) (Some r.name)) ≡ cond b (first_failing 11 (is_counted count) (counted_by count rs)) (Some (break 11 r.name))
    go true later = later
    go false later = refl

pub unheld_counted : (words : ℕ → ℕ) (recs : List Rec) → All (λ (r : Rec). words r.name ≡ words_in recs r.name) recs
    → option_map (break 11) (unheld_among words (map (λ (r : Rec). r.name) recs)) ≡ first_failing 11 (is_counted (words_in (with_counts recs))) (with_counts recs)
unheld_counted words recs all =
    unheld_is words (words_in recs) recs all
    ∙ ap (λ (count : ℕ → ℕ). first_failing 11 (is_counted count) (with_counts recs)) (sym (fun_ext (words_counted (words_in recs) recs)))

-- one name after the other
unheld_here : (words : ℕ → ℕ) (names : List ℕ) (i n : ℕ) → slice_get names i ≡ Some n → unheld_among words (drop i names) ≡ cond (is_known n || ltb 0 (words n)) (unheld_among words (drop (i + 1) names)) (Some n)
unheld_here words [] i n e = absurd (let clash : ◌≡◌ {A = Option ℕ} None (Some n) = e in let no : ⊥ = cc in no)
unheld_here words (x ∷ xs) zero n e = let same : x ≡ n = cc in ap (λ (k : ℕ). cond (is_known k || ltb 0 (words k)) (unheld_among words xs) (Some k)) same
unheld_here words (x ∷ xs) (suc i) n e =
    let same : suc (i + 1) ≡ suc i + 1 = omega arith in
    subst (λ (k : ℕ). unheld_among words (drop i xs) ≡ cond (is_known n || ltb 0 (words n)) (unheld_among words (drop k (x ∷ xs))) (Some n)) same (unheld_here words xs i n e)

pub unheld_found : (words : ℕ → ℕ) (names : List ℕ) (i n : ℕ) → slice_get names i ≡ Some n → (is_known n || ltb 0 (words n)) ≡ false → unheld_among words (drop i names) ≡ Some n
unheld_found words names i n e held = unheld_here words names i n e ∙ ap (λ (b : Bool). let o : Option ℕ = cond b (unheld_among words (drop (i + 1) names)) (Some n) in o) held

pub unheld_next : (words : ℕ → ℕ) (names : List ℕ) (i n : ℕ) → slice_get names i ≡ Some n → (is_known n || ltb 0 (words n)) ≡ true → unheld_among words (drop i names) ≡ unheld_among words (drop (i + 1) names)
unheld_next words names i n e held = unheld_here words names i n e ∙ ap (λ (b : Bool). let o : Option ℕ = cond b (unheld_among words (drop (i + 1) names)) (Some n) in o) held

-- ---- lines

line_counted : (count : ℕ → ℕ) (recs : List Rec) (n : ℕ) → line_of_name (counted_by count recs) n ≡ line_among (map (λ (r : Rec). r.name) recs) n
line_counted count [] n = refl
line_counted count (r ∷ rs) n = ap (λ (k : ℕ). cond (eqb r.name n) 2 (k + 1)) (line_counted count rs n)

pub lines_counted : (count : ℕ → ℕ) (recs : List Rec) (b : Break) → at_line (counted_by count recs) b ≡ among_lines (map (λ (r : Rec). r.name) recs) b
lines_counted count recs b = ap (λ (k : ℕ). cond (ltb b.rule 12) (break b.rule k) (break b.rule 0)) (line_counted count recs b.place)

line_here : (names : List ℕ) (i n name : ℕ) → slice_get names i ≡ Some n → line_among (drop i names) name ≡ cond (eqb n name) 2 (line_among (drop (i + 1) names) name + 1)
line_here [] i n name e = absurd (let clash : ◌≡◌ {A = Option ℕ} None (Some n) = e in let no : ⊥ = cc in no)
line_here (x ∷ xs) zero n name e = let same : x ≡ n = cc in ap (λ (k : ℕ). cond (eqb k name) 2 (line_among xs name + 1)) same
line_here (x ∷ xs) (suc i) n name e =
    let same : suc (i + 1) ≡ suc i + 1 = omega arith in
    subst (λ (k : ℕ). line_among (drop i xs) name ≡ cond (eqb n name) 2 (line_among (drop k (x ∷ xs)) name + 1)) same (line_here xs i n name e)

-- the name is at this place, or behind it, or nowhere
pub line_found : (names : List ℕ) (i n name : ℕ) → slice_get names i ≡ Some n → n ≡ name → line_among (drop i names) name ≡ 2
line_found names i n name e same = line_here names i n name e ∙ ap (λ (b : Bool). cond b 2 (line_among (drop (i + 1) names) name + 1)) (eq-eqb n name same)

pub line_next : (names : List ℕ) (i n name : ℕ) → slice_get names i ≡ Some n → (n ≡ name → ⊥) → line_among (drop i names) name ≡ line_among (drop (i + 1) names) name + 1
line_next names i n name e other = line_here names i n name e ∙ ap (λ (b : Bool). cond b 2 (line_among (drop (i + 1) names) name + 1)) (ne_eqb n name other)

pub line_none : (names : List ℕ) (i name : ℕ) → length names ≤ i → line_among (drop i names) name ≡ 2
line_none [] zero name le = refl
line_none [] (suc i) name le = refl
line_none (x ∷ xs) zero name le = absurd (let no : ⊥ = omega (arith, le) in no)
line_none (x ∷ xs) (suc i) name le = line_none xs i name (omega (arith, le))

-- Judging a whole text: one rule after the other, and the counts that are set.
use Rattle.std.proofs.Common.{zero, suc, ◌≡◌, ℕ, ℤ, pos, ◌+ℤ◌, ◌+◌, ◌*◌, ◌<◌, ◌≤◌, ◌^◌, Bool, true, false, cond, eqb, ltb, ◌||◌, List, [], ◌∷◌, ◌++◌, length, map, take, Option, Some, None, is_some, option_map, unwrap_or, Result, Ok, Err, IsTrue, refl, sym, ap, ap₂, subst, ◌∙◌, arith, inl, inr}
use Rattle.std.specs.Prelude.{All, IfErr, slice_get}
use Rattle.std.specs.Int.{w64, FitsUnsigned}
use Rattle.std.specs.FinMap as map
use Rattle.std.proofs.Math.Path.{fun_ext}
use Rattle.std.proofs.lemmas.Bool.{cases_eq, eq-eqb, ne_eqb}
use Rattle.std.proofs.lemmas.Int.{ints}
use Rattle.std.proofs.lemmas.List.Elements.{All-nil, All-cons, All-head, All-tail, All-weaker, All-get_or}
use Rattle.std.proofs.lemmas.Option.{get_or_from_slice_get, slice_get_within}
use Rattle.long_names.specs.Names.{known_names}
use Rattle.long_names.specs.Objects.{IsRecord}
use Rattle.long_names.specs.declared.object.Object.{Object}
use Rattle.long_names.specs.declared.object.Rec.{Rec}
use Rattle.loom_host.specs.declared.outside.DiskFault.{DiskFault}
use Rattle.loom_host.specs.declared.outside.Host.{Ghosts}
use Rattle.loom_host.specs.declared.outside.Role.TheVariants.{Work}
use Rattle.loom_host.specs.Work.{IsWorkRead, work_of}
use Rattle.disk_objects.specs.declared.rest.DiskRest.{DiskRest}
use Rattle.disk_objects.specs.Calls.{CanChange, changed_by}
use Rattle.disk_objects.specs.Disk.{DiskObject, IsDisk, Objects}
use Rattle.disk_objects.specs.Function.{ChangesCount, count_held, counts_of}
use Rattle.disk_objects.proofs.FunctionLaws.{counts-is}
use Rattle.image_format.specs.declared.fault.Break.{Break}
use Rattle.image_format.specs.declared.opening.State.{State}
use Rattle.image_format.specs.Rules.{◌or◌, break, first_lost, first_missing, object_in, object_of_rec, rec_in, whole_break, words_in}
use Rattle.image_format.proofs.Writing.{push_taken}
use Rattle.image_reader.specs.declared.fault.LoadFault.{LoadFault}
use Rattle.image_reader.specs.declared.fault.LoadFault.TheVariants as load
use Rattle.image_reader.specs.declared.tally.Tally.{Tally}
use Rattle.image_reader.specs.Frames.{IsDiskFault, IsLoading}
use Rattle.image_reader.specs.Inside.{IsRuleFault}
use Rattle.image_reader.specs.Judged.{AreRead, IsJudged, IsOfWhole, counts_broken, fields_broken, lost_in, missing_among, names_broken, names_missed, words_broken}
use Rattle.image_reader.specs.Loaded.{IsStored, stated_in}
use Rattle.image_reader.specs.Names.{IsRising, is_among}
use Rattle.image_reader.specs.Tally.{IsFresh, Raises, counted}
use Rattle.image_reader.proofs.Frames.{fault_later}
use Rattle.image_reader.proofs.JudgeLaws.{are_of, are_still, broken-words, held-all, many-of, missed-is, now-there, words-none}
use Rattle.image_reader.proofs.TallyLaws.{later-rise}
use Rattle.text_lines.specs.Breaks.{at_line, image_of, with_counts}
use Rattle.text_lines.specs.Grammar.{Head}
use Rattle.image_text.specs.declared.fault.TextFault.{TextFault}
use Rattle.image_text.specs.declared.fault.TextFault.TheVariants.{Bad, Read, Disk, Memory}
use Rattle.image_text.specs.Assembled.{IsPartTextFault}
use Rattle.image_text.specs.Inside.{IsJudgedAt, IsTextOfWhole}
use Rattle.image_text.specs.Judged.{HasNonePending, IsPlaced, IsTextRule, SetsCount, SetsCounts, among_lines, line_among, unheld_among, unplaced, words_of}
use Rattle.image_text.proofs.CountLaws.{counted_as, fields_counted, lines_counted, name_is, objects_counted, rec_counted, unheld_counted, words_few}

-- ---- faults

pub text_later : {H : Type 0} (host : Ghosts H) (old mid new : H) (e : TextFault) → IsLoading host old mid → IsPartTextFault host mid new e → IsPartTextFault host old new e
text_later host old mid new (Bad line rule) p f = tt
text_later host old mid new (Read count) p f = fault_later host old mid new (load.Read count) p f
text_later host old mid new (Disk d) p f = fault_later host old mid new (load.Disk d) p f
text_later host old mid new Memory p f = tt

pub disk_later : {H : Type 0} (host : Ghosts H) (old mid new : H) (d : DiskFault) → IsLoading host old mid → IsDiskFault host mid new d → IsDiskFault host old new d
disk_later host old mid new d p f = fault_later host old mid new (load.Disk d) p f

pub rule_text : {H : Type 0} (host : Ghosts H) (old new : H) (e : TextFault) → IsTextRule e → IsPartTextFault host old new e
rule_text host old new (Bad line rule) f = tt
rule_text host old new (Read count) f = absurd f
rule_text host old new (Disk d) f = absurd f
rule_text host old new Memory f = tt

pub each_text : {T : Type 0} (P Q : TextFault → Type 0) (r : Result T TextFault) → ((e : TextFault) → P e → Q e) → IfErr r P → IfErr r Q
each_text P Q (Ok x) more p = tt
each_text P Q (Err e) more p = more e p

-- ---- one rule after the other

pub placed_first : (names : List ℕ) (a b : Option Break) (f : TextFault) → IsPlaced names a f → IsPlaced names (a or b) f
placed_first names None b (Bad line rule) h = let clash : ◌≡◌ {A = Option Break} None (Some (break rule line)) = h in absurd (let no : ⊥ = cc in no)
placed_first names (Some x) b (Bad line rule) h = h
placed_first names a b (Read count) h = tt
placed_first names a b (Disk d) h = tt
placed_first names a b Memory h = tt

pub placed_same : (names : List ℕ) (a b : Option Break) (f : TextFault) → a ≡ b → IsPlaced names a f → IsPlaced names b f
placed_same names a b f same h = subst (λ (x : Option Break). IsPlaced names x f) same h

pub placed_rest : (names : List ℕ) (a b : Option Break) (f : TextFault) → a ≡ None → IsPlaced names b f → IsPlaced names (a or b) f
placed_rest names a b f none h = subst (λ (x : Option Break). IsPlaced names (x or b) f) (sym none) h

-- with the lines of the records that have their counts
pub judged_at : (recs : List Rec) (names : List ℕ) (b : Option Break) (f : TextFault) → names ≡ map (λ (r : Rec). r.name) recs → IsPlaced names b f → IsJudgedAt (with_counts recs) b f
judged_at recs names b (Bad line rule) same h = go b ∙ h
  where
    go : (o : Option Break) → option_map (at_line (with_counts recs)) o ≡ option_map (among_lines names) o
    go None = refl
    go (Some x) = ap (λ (y : Break). let o : Option Break = Some y in o) (lines_counted (words_in recs) recs x ∙ ap (λ (ns : List ℕ). among_lines ns x) (sym same))
judged_at recs names b (Read count) same h = tt
judged_at recs names b (Disk d) same h = tt
judged_at recs names b Memory same h = tt

-- ---- rules 12 and 14

missed_rule : (at : ℕ → Option ℕ) (s : State) (b : Break) → names_missed at s ≡ Some b → ltb b.rule 12 ≡ false
missed_rule at s b e = go (missing_among at known_names) (lost_in at s) e
  where
    go : (m l : Option ℕ) → option_map (break 12) m or option_map (break 14) l ≡ Some b → ltb b.rule 12 ≡ false
    go (Some n) l e = let same : break 12 n ≡ b = cc in subst (λ (x : Break). ltb x.rule 12 ≡ false) same refl
    go None (Some n) e = let same : break 14 n ≡ b = cc in subst (λ (x : Break). ltb x.rule 12 ≡ false) same refl
    go None None e = let clash : ◌≡◌ {A = Option Break} None (Some b) = e in absurd (let no : ⊥ = cc in no)

pub missed_placed : (names : List ℕ) (at : ℕ → Option ℕ) (s : State) (f : LoadFault) → IsJudged (names_missed at s) f → IsPlaced names (names_missed at s) (unplaced f)
missed_placed names at s (load.Bad rule place) h =
    ap (option_map (among_lines names)) h
    ∙ ap (λ (x : Bool). let o : Option Break = Some (cond x (break rule (line_among names place)) (break rule 0)) in o) (missed_rule at s (break rule place) h)
missed_placed names at s (load.Read count) h = tt
missed_placed names at s (load.Disk d) h = tt
missed_placed names at s load.Memory h = tt

pub missed_whole : (f : LoadFault) → IsOfWhole f → IsTextOfWhole (unplaced f)
missed_whole (load.Bad rule place) h = h
missed_whole (load.Read count) h = tt
missed_whole (load.Disk d) h = tt
missed_whole load.Memory h = tt

pub missed_plain : (f : LoadFault) → IsRuleFault f → IsTextRule (unplaced f)
missed_plain (load.Bad rule place) h = tt
missed_plain (load.Read count) h = h
missed_plain (load.Disk d) h = h
missed_plain load.Memory h = tt

-- ---- words

-- what was counted of a name, where it is there and where it isn't
words_cases : (recs : List Rec) (old now : Tally) (n : ℕ) → IsFresh (map (λ (r : Rec). r.name) recs) old → Raises (words_in recs) old now
    → counted now n ≡ cond (is_among n (map (λ (r : Rec). r.name) recs)) (Some (words_in recs n)) None
words_cases recs old now n fresh raised =
    raised.more n
    ∙ ap (λ (o : Option ℕ). option_map (λ c. c + words_in recs n) o) (fresh.zero n)
    ∙ go (is_among n (map (λ (r : Rec). r.name) recs))
  where
    go : (b : Bool) → option_map (λ c. c + words_in recs n) (cond b (Some 0) None) ≡ cond b (Some (words_in recs n)) None
    go true = ap (λ (k : ℕ). let o : Option ℕ = Some k in o) (let e : 0 + words_in recs n ≡ words_in recs n = omega arith in e)
    go false = refl

pub words_at : (recs : List Rec) (old now : Tally) (n : ℕ) → IsFresh (map (λ (r : Rec). r.name) recs) old → Raises (words_in recs) old now → is_some (object_in recs n) ≡ true → words_of now n ≡ words_in recs n
words_at recs old now n fresh raised there = go (is_among n (map (λ (r : Rec). r.name) recs)) (words_cases recs old now n fresh raised) (now-there (words_in recs) recs old now n fresh raised ∙ there)
  where
    go : (b : Bool) → counted now n ≡ cond b (Some (words_in recs n)) None → is_some (counted now n) ≡ true → words_of now n ≡ words_in recs n
    go true e some = ap (λ (o : Option ℕ). unwrap_or o 0) e
    go false e some = let clash : ◌≡◌ {A = Bool} false true = ap is_some (sym e) ∙ some in absurd (let no : ⊥ = cc in no)

words_all : (recs : List Rec) (old now : Tally) → IsFresh (map (λ (r : Rec). r.name) recs) old → Raises (words_in recs) old now → All (λ (r : Rec). rec_in recs r.name ≡ Some r) recs → All (λ (r : Rec). words_of now r.name ≡ words_in recs r.name) recs
words_all recs old now fresh raised own =
    All-weaker (λ (r : Rec). rec_in recs r.name ≡ Some r) (λ (r : Rec). words_of now r.name ≡ words_in recs r.name)
    (λ r is. words_at recs old now r.name fresh raised (ap (λ (o : Option Rec). is_some (option_map object_of_rec o)) is)) recs own

-- far fewer than the greatest number
pub words_small : (recs : List Rec) (old now : Tally) (n : ℕ) → All IsRecord recs → length recs ≤ 1048576 → IsFresh (map (λ (r : Rec). r.name) recs) old → Raises (words_in recs) old now → words_of now n < 2 ^ 63
words_small recs old now n is few fresh raised = go (is_among n (map (λ (r : Rec). r.name) recs)) (words_cases recs old now n fresh raised) (words_few recs n is)
  where
    go : (b : Bool) → counted now n ≡ cond b (Some (words_in recs n)) None → words_in recs n ≤ length recs * 65536 → words_of now n < 2 ^ 63
    go true e low = let same : words_of now n ≡ words_in recs n = ap (λ (o : Option ℕ). unwrap_or o 0) e in omega (arith, same, low, few)
    go false e low = let same : words_of now n ≡ 0 = ap (λ (o : Option ℕ). unwrap_or o 0) e in omega (arith, same)

-- ---- rules 10 and 11 of the records with their counts

pub held_counted : (recs : List Rec) (old now : Tally) (names : List ℕ) → names ≡ map (λ (r : Rec). r.name) recs → IsFresh (map (λ (r : Rec). r.name) recs) old → Raises (words_in recs) old now → All (λ (r : Rec). rec_in recs r.name ≡ Some r) recs
    → option_map (break 11) (unheld_among (words_of now) names) ≡ counts_broken (with_counts recs)
held_counted recs old now names same fresh raised own =
    ap (λ (ns : List ℕ). option_map (break 11) (unheld_among (words_of now) ns)) same
    ∙ unheld_counted (words_of now) recs (words_all recs old now fresh raised own)

pub fields_same : (recs : List Rec) → fields_broken (with_counts recs) ≡ fields_broken recs
fields_same recs = fields_counted (words_in recs) recs

pub both_none : (recs : List Rec) (o : Option ℕ) → fields_broken recs ≡ None → option_map (break 11) o ≡ counts_broken (with_counts recs) → o ≡ None → words_broken (with_counts recs) ≡ None
both_none recs o fields counts none = words-none (with_counts recs) (fields_same recs ∙ fields) (sym counts ∙ ap (option_map (break 11)) none)

-- ---- the whole text

pub whole_is : (recs : List Rec) (old now : Tally) (head : Head) → IsFresh (map (λ (r : Rec). r.name) recs) old → Raises (words_in recs) old now
    → whole_break (image_of head recs) ≡ words_broken (with_counts recs) or names_missed (counted now) head.state
whole_is recs old now head fresh raised =
    broken-words (with_counts recs) head.state
    ∙ ap (λ (x : Option Break). words_broken (with_counts recs) or x)
    (ap (λ (at : ℕ → Option Object). first_missing at known_names or first_lost at head.state) (objects_counted (words_in recs) recs) ∙ sym (missed-is (words_in recs) recs old now head.state fresh raised))

pub whole_none : (recs : List Rec) (old now : Tally) (head : Head) → IsFresh (map (λ (r : Rec). r.name) recs) old → Raises (words_in recs) old now
    → words_broken (with_counts recs) ≡ None → names_missed (counted now) head.state ≡ None → whole_break (image_of head recs) ≡ None
whole_none recs old now head fresh raised words none =
    whole_is recs old now head fresh raised ∙ ap₂ (λ (x y : Option Break). x or y) words none

-- ---- one count

count_none : (host_counts : Option ℕ) (o : Option DiskObject) → host_counts ≡ count_held o → host_counts ≡ Some 0 → (x : DiskObject) × (o ≡ Some x) × (x.count ≡ 0)
count_none c None e zero_is = let clash : ◌≡◌ {A = Option ℕ} None (Some 0) = sym e ∙ zero_is in absurd (let no : ⊥ = cc in no)
count_none c (Some x) e zero_is = let same : ◌≡◌ {A = Option ℕ} (Some x.count) (Some 0) = sym e ∙ zero_is in (x, refl, (let is : x.count ≡ 0 = cc in is))

-- the object of a name with no count
uncounted : {H : Type 0} (host : Ghosts H) (now : H) (rest : DiskRest) (name : ℕ) (none : HasNonePending host now rest) → counts_of host now rest name ≡ Some 0
    → (x : DiskObject) × (map.get none.objects name ≡ Some x) × (x.count ≡ 0)
uncounted host now rest name none zero_is = count_none (counts_of host now rest name) (map.get none.objects name) (counts-is rest (work_of host now) none.objects [] name none.is) zero_is

fits_count : (count : ℕ) → count < 2 ^ 63 → FitsUnsigned w64 (pos 0 +ℤ pos count)
fits_count count small = (omega (arith, ints), omega (arith, ints, small))

pub can_count : {H : Type 0} (host : Ghosts H) (now : H) (rest : DiskRest) (name count : ℕ) (change : ℤ) → HasNonePending host now rest → counts_of host now rest name ≡ Some 0 → count < 2 ^ 63 → change ≡ pos count
    → (objects : Objects) × (pending : List ℕ) × IsDisk rest (work_of host now) objects pending × CanChange name change objects pending
can_count host now rest name count change none zero_is small same =
    let x = uncounted host now rest name none zero_is in (
      none.objects,
      [],
      none.is,
      (x.0, x.1, subst (λ (z : ℤ). FitsUnsigned w64 (pos x.0.count +ℤ z)) (sym same) (subst (λ (k : ℕ). FitsUnsigned w64 (pos k +ℤ pos count)) (sym x.2) (fits_count count small))),
    )

changed_none : (count : ℕ) → changed_by 0 (pos count) ≡ count
changed_none count = omega arith

pub sets_count : {H : Type 0} (host : Ghosts H) (old new : H) (rest after : DiskRest) (name count result : ℕ) (change : ℤ) → HasNonePending host old rest → counts_of host old rest name ≡ Some 0 → change ≡ pos count
    → ChangesCount host old new rest after name change result
    → ((objects : Objects) (pending : List ℕ) → IsDisk rest (work_of host old) objects pending → (o : DiskObject) → map.get objects name ≡ Some o
    → (result ≡ changed_by o.count change) × IsDisk after (work_of host new) (map.insert objects name (record { raw = o.raw; count = result })) pending)
    → SetsCount host old new rest after name count
sets_count host old new rest after name count result change none zero_is same changes counted =
    let x = uncounted host old rest name none zero_is in
    let now = counted none.objects [] none.is x.0 x.1 in
    let is : result ≡ count = now.0 ∙ ap₂ changed_by x.2 same ∙ changed_none count in
    record {
      none = record { objects = map.insert none.objects name (record { raw = x.0.raw; count = result }); is = now.1 };
      objects = changes.objects;
      counts = λ n. ap (λ (f : ℕ → Option ℕ). f n) changes.counts ∙ ap (λ (k : ℕ). cond (eqb n name) (Some k) (counts_of host old rest n)) is;
    }

-- ---- counts, one name after the other

or_true : (a b : Bool) → b ≡ true → (a || b) ≡ true
or_true true b e = refl
or_true false b e = e

or_false : (a b : Bool) → b ≡ false → (a || b) ≡ a
or_false true b e = refl
or_false false b e = e

among_push : (names : List ℕ) (n q : ℕ) → is_among q (names ++ n ∷ []) ≡ (is_among q names || eqb n q)
among_push [] n q = go (eqb n q)
  where
    go : (b : Bool) → (b || false) ≡ (false || b)
    go true = refl
    go false = refl
among_push (m ∷ ms) n q = ap (λ (b : Bool). eqb m q || b) (among_push ms n q) ∙ go (eqb m q) (is_among q ms) (eqb n q)
  where
    go : (a b d : Bool) → (a || (b || d)) ≡ ((a || b) || d)
    go true b d = refl
    go false b d = refl

first_below : (n : ℕ) (ns : List ℕ) (i w : ℕ) → IsRising (n ∷ ns) → slice_get ns i ≡ Some w → n < w
first_below n ns i w rising e =
    let low = slice_get_within ns i w e in
    let here = get_or_from_slice_get ns i w w e in
    subst (λ (m : ℕ). n < m) here (rising 0 (suc i) w (omega arith) (omega (arith, low)))

-- a name isn't among those before it
not_before : (names : List ℕ) (i name : ℕ) → IsRising names → slice_get names i ≡ Some name → is_among name (take i names) ≡ false
not_before [] zero name rising e = refl
not_before [] (suc i) name rising e = refl
not_before (n ∷ ns) zero name rising e = refl
not_before (n ∷ ns) (suc i) name rising e =
    let low = first_below n ns i name rising e in
    ap (λ (b : Bool). b || is_among name (take i ns)) (ne_eqb n name (λ same. omega (arith, low, same)))
    ∙ not_before ns i name (later-rise n ns rising) e

all_at : (P : ℕ → Type 0) (xs : List ℕ) (i x : ℕ) → All P xs → slice_get xs i ≡ Some x → P x
all_at P xs i x all e = subst P (get_or_from_slice_get xs i x x e) (All-get_or P xs i x (slice_get_within xs i x e) all)

pub sets_none : {H : Type 0} (host : Ghosts H) (now : H) (rest : DiskRest) (words : ℕ → ℕ) → HasNonePending host now rest → SetsCounts host now now rest rest words []
sets_none host now rest words none = record { none = none; objects = refl; counts = λ n. refl }

-- the next name has no count yet
pub still_none : {H : Type 0} (host : Ghosts H) (old now : H) (rest after : DiskRest) (words : ℕ → ℕ) (names : List ℕ) (i name : ℕ) → IsRising names → slice_get names i ≡ Some name
    → All (λ (n : ℕ). counts_of host old rest n ≡ Some 0) names → SetsCounts host old now rest after words (take i names) → counts_of host now after name ≡ Some 0
still_none host old now rest after words names i name rising at all so_far =
    so_far.counts name
    ∙ ap (λ (b : Bool). cond b (Some (words name)) (counts_of host old rest name)) (not_before names i name rising at)
    ∙ all_at (λ (n : ℕ). counts_of host old rest n ≡ Some 0) names i name all at

pub sets_more : {H : Type 0} (host : Ghosts H) (old mid new : H) (rest between after : DiskRest) (words : ℕ → ℕ) (names : List ℕ) (i name count : ℕ) → slice_get names i ≡ Some name
    → SetsCounts host old mid rest between words (take i names) → count ≡ words name → SetsCount host mid new between after name count → SetsCounts host old new rest after words (take (i + 1) names)
sets_more host old mid new rest between after words names i name count at so_far is sets = record {
  none = sets.none;
  objects = sets.objects ∙ so_far.objects;
  counts = λ n. sets.counts n ∙ ap (λ (k : ℕ). cond (eqb n name) (Some k) (counts_of host mid between n)) is ∙ step n ∙ sym (ap (λ (b : Bool). cond b (Some (words n)) (counts_of host old rest n)) (ap (is_among n) (push_taken names i name at) ∙ among_push (take i names) name n));
}
  where
    step : (n : ℕ) → cond (eqb n name) (Some (words name)) (counts_of host mid between n) ≡ cond (is_among n (take i names) || eqb name n) (Some (words n)) (counts_of host old rest n)
    step n = elim (cases_eq n name) [
      | inl same ↦
          ap₂ (λ (b : Bool) (k : ℕ). cond b (Some k) (counts_of host mid between n)) (eq-eqb n name same) (ap words (sym same))
          ∙ sym (ap (λ (b : Bool). cond b (Some (words n)) (counts_of host old rest n)) (or_true (is_among n (take i names)) (eqb name n) (eq-eqb name n (sym same))))
      | inr other ↦
          ap (λ (b : Bool). cond b (Some (words name)) (counts_of host mid between n)) (ne_eqb n name other)
          ∙ so_far.counts n
          ∙ sym (ap (λ (b : Bool). cond b (Some (words n)) (counts_of host old rest n)) (or_false (is_among n (take i names)) (eqb name n) (ne_eqb name n (λ e. other (sym e)))))
    ]

-- ---- all counts

among_there : (recs : List Rec) (q : ℕ) → is_among q (map (λ (r : Rec). r.name) recs) ≡ is_some (rec_in recs q)
among_there [] q = refl
among_there (r ∷ rs) q = go (eqb r.name q) (among_there rs q)
  where
    go : (b : Bool) → is_among q (map (λ (x : Rec). x.name) rs) ≡ is_some (rec_in rs q) → (b || is_among q (map (λ (x : Rec). x.name) rs)) ≡ is_some (cond b (Some r) (rec_in rs q))
    go true e = refl
    go false e = e

-- with the number of words that hold each name the records are stored with their counts
pub stored_counted : {H : Type 0} (host : Ghosts H) (old new : H) (rest after : DiskRest) (recs : List Rec) (names : List ℕ) (words : ℕ → ℕ) → names ≡ map (λ (r : Rec). r.name) recs → IsStored host old rest recs
    → SetsCounts host old new rest after words names → ((n : ℕ) → is_some (object_in recs n) ≡ true → words n ≡ words_in recs n) → IsStored host new after (with_counts recs)
stored_counted host old new rest after recs names words same s sets are = record {
  objects = sets.none.objects;
  is = sets.none.is;
  at = sets.objects ∙ s.at ∙ sym (objects_counted (words_in recs) recs);
  counts = fun_ext (λ n. sets.counts n ∙ ap₂ (λ (ns : List ℕ) (o : Option ℕ). cond (is_among n ns) (Some (words n)) o) same (ap (λ (f : ℕ → Option ℕ). f n) s.counts) ∙ step n);
}
  where
    step : (n : ℕ) → cond (is_among n (map (λ (r : Rec). r.name) recs)) (Some (words n)) (stated_in recs n) ≡ stated_in (with_counts recs) n
    step n =
        ap (λ (b : Bool). cond b (Some (words n)) (stated_in recs n)) (among_there recs n)
        ∙ go (rec_in recs n) refl
        ∙ sym (ap (option_map (λ (r : Rec). r.count)) (rec_counted (words_in recs) recs n))
      where
        go : (o : Option Rec) → rec_in recs n ≡ o → cond (is_some o) (Some (words n)) (option_map (λ (r : Rec). r.count) o) ≡ option_map (λ (r : Rec). r.count) (option_map (λ (r : Rec). counted_as (words_in recs r.name) r) o)
        go None e = refl
        go (Some r) e = ap (λ (k : ℕ). let o : Option ℕ = Some k in o) (are n (ap (λ (o : Option Rec). is_some (option_map object_of_rec o)) e) ∙ ap (words_in recs) (sym (name_is recs n r e)))

all_both : (P Q R : Rec → Type 0) (recs : List Rec) → ((r : Rec) → P r → Q r → R r) → All P recs → All Q recs → All R recs
all_both P Q R [] f p q = All-nil R
all_both P Q R (r ∷ rs) f p q = All-cons R r rs (f r (All-head P r rs p) (All-head Q r rs q)) (all_both P Q R rs f (All-tail P r rs p) (All-tail Q r rs q))

pub none_pending : {H : Type 0} (host : Ghosts H) (now : H) (rest : DiskRest) (names : List ℕ) (recs : List Rec) (next : ℕ) → AreRead host now rest names recs next → IsTrue (host.tells Work) → HasNonePending host now rest
none_pending host now rest names recs next are told = let s = are.stored told in record { objects = s.objects; is = s.is }

-- records with no count
pub none_counted : {H : Type 0} (host : Ghosts H) (now : H) (rest : DiskRest) (names : List ℕ) (recs : List Rec) (next : ℕ) → AreRead host now rest names recs next → All (λ (r : Rec). r.count ≡ 0) recs → IsTrue (host.tells Work)
    → All (λ (n : ℕ). counts_of host now rest n ≡ Some 0) names
none_counted host now rest names recs next are zeros told =
    subst (λ (ns : List ℕ). All (λ (n : ℕ). counts_of host now rest n ≡ Some 0) ns) (sym are.names_are)
    (held-all (λ (n : ℕ). counts_of host now rest n ≡ Some 0) recs
    (all_both (λ (r : Rec). rec_in recs r.name ≡ Some r) (λ (r : Rec). r.count ≡ 0) (λ (r : Rec). counts_of host now rest r.name ≡ Some 0) recs
    (λ r own none. ap (λ (f : ℕ → Option ℕ). f r.name) (are.stored told).counts ∙ ap (option_map (λ (x : Rec). x.count)) own ∙ ap (λ (k : ℕ). let o : Option ℕ = Some k in o) none) are.listed.own zeros))

-- ---- what was read

pub few_recs : (recs : List Rec) (names : List ℕ) → names ≡ map (λ (r : Rec). r.name) recs → length names ≤ 1048576 → length recs ≤ 1048576
few_recs recs names same few = omega (arith, many-of names recs same, few)

-- ---- what breaks first, with its line

-- an object that holds a name of none
pub fields_placed : (names held : List ℕ) (recs : List Rec) (name : ℕ) (f : TextFault) → held ≡ names → ◌≡◌ {A = Option Break} (Some (break 10 name)) (fields_broken recs) → f ≡ Bad (line_among held name) 10 → IsPlaced names (fields_broken recs) f
fields_placed names held recs name f same first is =
    subst (IsPlaced names (fields_broken recs)) (sym is)
    (ap (option_map (among_lines names)) (sym first) ∙ ap (λ (ns : List ℕ). let o : Option Break = Some (break 10 (line_among ns name)) in o) (sym same))

pub fields_words : (names : List ℕ) (recs : List Rec) (f : TextFault) → IsPlaced names (fields_broken recs) f → IsPlaced names (words_broken (with_counts recs)) f
fields_words names recs f h = placed_first names (fields_broken (with_counts recs)) (counts_broken (with_counts recs)) f (placed_same names (fields_broken recs) (fields_broken (with_counts recs)) f (sym (fields_same recs)) h)

module _ (recs : List Rec) (old now : Tally) (fresh : IsFresh (map (λ (r : Rec). r.name) recs) old) (raised : Raises (words_in recs) old now) (own : All (λ (r : Rec). rec_in recs r.name ≡ Some r) recs) where
  pub held_placed : (names held : List ℕ) (f : TextFault) → names ≡ map (λ (r : Rec). r.name) recs → held ≡ names → fields_broken recs ≡ None
      → IsPlaced held (option_map (break 11) (unheld_among (words_of now) held)) f → IsPlaced names (words_broken (with_counts recs)) f
  held_placed names held f same alike none h =
      placed_rest names (fields_broken (with_counts recs)) (counts_broken (with_counts recs)) f (fields_same recs ∙ none)
      (placed_same names (option_map (break 11) (unheld_among (words_of now) held)) (counts_broken (with_counts recs)) f (held_counted recs old now held (alike ∙ same) fresh raised own)
      (subst (λ (ns : List ℕ). IsPlaced ns (option_map (break 11) (unheld_among (words_of now) held)) f) alike h))

  pub held_none : (held : List ℕ) → held ≡ map (λ (r : Rec). r.name) recs → fields_broken recs ≡ None → unheld_among (words_of now) held ≡ None → words_broken (with_counts recs) ≡ None
  held_none held same fields none = both_none recs (unheld_among (words_of now) held) fields (held_counted recs old now held same fresh raised own) none

-- what both rules break is what the whole breaks
pub words_judged : (recs : List Rec) (names : List ℕ) (head : Head) (f : TextFault) → names ≡ map (λ (r : Rec). r.name) recs → IsPlaced names (words_broken (with_counts recs)) f → IsJudgedAt (with_counts recs) (whole_break (image_of head recs)) f
words_judged recs names head f same h =
    judged_at recs names (whole_break (image_of head recs)) f same
    (placed_same names (words_broken (with_counts recs) or names_broken (with_counts recs) head.state) (whole_break (image_of head recs)) f (sym (broken-words (with_counts recs) head.state))
    (placed_first names (words_broken (with_counts recs)) (names_broken (with_counts recs) head.state) f h))

-- and where they break nothing, what is missing
pub missed_judged : (recs : List Rec) (old now : Tally) (names : List ℕ) (head : Head) (f : TextFault) → names ≡ map (λ (r : Rec). r.name) recs → IsFresh (map (λ (r : Rec). r.name) recs) old → Raises (words_in recs) old now
    → words_broken (with_counts recs) ≡ None → IsPlaced names (names_missed (counted now) head.state) f → IsJudgedAt (with_counts recs) (whole_break (image_of head recs)) f
missed_judged recs old now names head f same fresh raised none h =
    judged_at recs names (whole_break (image_of head recs)) f same
    (placed_same names (words_broken (with_counts recs) or names_missed (counted now) head.state) (whole_break (image_of head recs)) f (sym (whole_is recs old now head fresh raised))
    (placed_rest names (words_broken (with_counts recs)) (names_missed (counted now) head.state) f none h))

pub rising_of : {H : Type 0} (host : Ghosts H) (now : H) (rest : DiskRest) (names held : List ℕ) (recs : List Rec) (next : ℕ) → AreRead host now rest names recs next → held ≡ names → IsRising held
rising_of host now rest names held recs next are same = subst IsRising (sym (same ∙ are.names_are)) are.listed.rising

-- the records are still those of the disk, under another list of their names
pub are_later : {H : Type 0} (host : Ghosts H) (old new : H) (rest after : DiskRest) (names held : List ℕ) (recs : List Rec) (next : ℕ) → IsWorkRead host old new → after ≡ rest → held ≡ names → AreRead host old rest names recs next → AreRead host new after held recs next
are_later host old new rest after names held recs next read same alike are = are_of host new after names held recs next alike (are_still host old new rest after names recs next read same are)

-- The words of one body change: the held heap changes at its name, and for a field's word at this field alone.
use Rattle.std.proofs.Common.{zero, suc, ◌≡◌, ◌≢◌, ℕ, ◌+◌, ◌<◌, ◌≤◌, Bool, true, false, cond, List, [], ◌∷◌, length, refl, sym, ◌∙◌, ap, subst, arith, ⊎_elim, Option, Some, None, count_by, pos, ◌%◌, get_or, eqb}
use Rattle.std.proofs.lemmas.Grind.{common_steps}
use Rattle.std.proofs.lemmas.Bool.{cases_eq}
use Rattle.std.proofs.Math.ListN.{length-set}
use Rattle.std.specs.Prelude.{take}
use Rattle.std.specs.List.{slice_get, slice_set}
use Rattle.long_names.specs.Objects.{kind_of, len_of, fields_of, with_field}
use Rattle.long_names.specs.Words.{literal_count}
use Rattle.long_names.specs.declared.value.Value.{Value}
use Rattle.long_names.specs.declared.value.Value.TheVariants.{Int, Ref}
use Rattle.long_names.specs.declared.object.Kind.{Kind}
use Rattle.long_names.specs.declared.object.Kind.TheVariants as kind
use Rattle.long_names.specs.declared.object.Body.{Body}
use Rattle.long_names.specs.declared.object.Body.TheVariants as body
use Rattle.long_names.specs.declared.object.Object.{Object}
use Rattle.object_table.specs.declared.entry.Entry.{Entry}
use Rattle.object_table.specs.Entries.{put, is_short, place_of}
use Rattle.core_segment.specs.Chunks.{Chunk}
use Rattle.core_view.specs.Core.{Core, with_words}
use Rattle.core_view.specs.Words.{meant, values_by, bytes_in, header_in, literals_in, pointers, spot, words_for, body_in, int_of_short}
use Rattle.core_view.specs.Held.{Disk, fields_there, object_at, held}
use Rattle.core_view.specs.Counts.{names, one, holders_in, holders, tally, uses, outside}
use Rattle.core_view.specs.Kept.{IsCore, IsLike, IsBody, IsBacked, Keeps}
use Rattle.core_view.specs.Steps.{IsAt, with_field_word}
use Rattle.core_view.proofs.Lists.{put-here, put-there, count-cons, count-set, values-set, values-get, some-same, tally-put, header-set, literals-set, code-set, pointers-set}
use Rattle.core_view.proofs.Core.{placed-used, apart, held-put, held-same, held-at, AreOthersSame, object-same, body-same}

-- ---- other words in a chunk

words-here : (c : Core) (p : ℕ) (ws : List ℕ) → (with_words c p ws).chunks p ≡ record { owner = (c.chunks p).owner; words = ws }
words-here c p ws = put-here c.chunks p (record { owner = (c.chunks p).owner; words = ws })

words-there : (c : Core) (p : ℕ) (ws : List ℕ) (r : ℕ) → r ≢ p → (with_words c p ws).chunks r ≡ c.chunks r
words-there c p ws r away = put-there c.chunks p (record { owner = (c.chunks p).owner; words = ws }) r away

-- by cases: the chunk itself, or another
at-chunk : (c : Core) (p : ℕ) (ws : List ℕ) (P : ℕ → Chunk → Type 0) → P p (record { owner = (c.chunks p).owner; words = ws }) → ((r : ℕ) → r ≢ p → P r (c.chunks r)) → (r : ℕ) → P r ((with_words c p ws).chunks r)
at-chunk c p ws P here there r = ⊎_elim
    (λ (e : r ≡ p). subst (λ (z : ℕ). P z ((with_words c p ws).chunks z)) (sym e) (subst (λ (x : Chunk). P p x) (sym (words-here c p ws)) here))
    (λ (e : r ≢ p). subst (λ (x : Chunk). P r x) (sym (words-there c p ws r e)) (there r e)) (cases_eq r p)

pub words-object : (c : Core) (disk : Disk) (e : Entry) (p : ℕ) (ws : List ℕ) → object_at (with_words c p ws) disk e p ≡ record { class = (c.entries e.class.0).name; body = body_in c.entries (fields_there (disk e.name)) ws e.kind e.len }
words-object c disk e p ws = ap (λ (x : Chunk). object_at (record c { chunks = λ q. x }) disk e p) (words-here c p ws)

words-others : (c : Core) (disk : Disk) (core : IsCore c) (s p : ℕ) (ws : List ℕ) → place_of (c.entries s).state ≡ Some p → AreOthersSame c (with_words c p ws) disk disk (c.entries s).name
words-others c disk core s p ws at = record {
  find = λ m away. refl;
  disks = λ m away. refl;
  entries = λ m q away e. refl;
  objects = λ m q r away e there. object-same c (with_words c p ws) disk disk core q r there (λ t some. refl)
      (ap (λ (x : Chunk). x.words) (words-there c p ws r (apart c core s q p r at there (λ (same : q ≡ s). away (sym (core.named m q e) ∙ ap (λ (z : ℕ). (c.entries z).name) same))))) refl;
}

-- the held heap then: another body at the name
pub words-held : (c : Core) (disk : Disk) (core : IsCore c) (s p : ℕ) (ws : List ℕ) → place_of (c.entries s).state ≡ Some p
    → held (with_words c p ws) disk ≡ put (held c disk) (c.entries s).name (Some (record { class = (c.entries (c.entries s).class.0).name; body = body_in c.entries (fields_there (disk (c.entries s).name)) ws (c.entries s).kind (c.entries s).len }))
words-held c disk core s p ws at =
    held-put c (with_words c p ws) disk disk (c.entries s).name (words-others c disk core s p ws at)
    ∙ ap (λ x. put (held c disk) (c.entries s).name x)
    (held-at (with_words c p ws) disk (c.entries s).name s p (core.found s (placed-used (c.entries s).state p at)) at ∙ ap Some (words-object c disk (c.entries s) p ws))

words-holders : (c : Core) (s p : ℕ) (ws : List ℕ) (t : ℕ) → place_of (c.entries s).state ≡ Some p
    → count_by (names t) (holders (with_words c p ws) s) + count_by (names t) (pointers (c.entries s).kind (c.chunks p).words) ≡ count_by (names t) (holders c s) + count_by (names t) (pointers (c.entries s).kind ws)
unfolding holders
words-holders c s p ws t at =
    let d = with_words c p ws in
    let k = (c.entries s).class.0 in
    let new : count_by (names t) (holders_in d.chunks (c.entries s) (place_of (c.entries s).state)) ≡ count_by (names t) (k ∷ pointers (c.entries s).kind ws) =
    ap (λ xs. count_by (names t) xs) (ap (λ o. holders_in d.chunks (c.entries s) o) at ∙ ap (λ (x : Chunk). k ∷ pointers (c.entries s).kind x.words) (words-here c p ws)) in
    let was : count_by (names t) (holders_in c.chunks (c.entries s) (place_of (c.entries s).state)) ≡ count_by (names t) (k ∷ pointers (c.entries s).kind (c.chunks p).words) =
    ap (λ xs. count_by (names t) xs) (ap (λ o. holders_in c.chunks (c.entries s) o) at) in
    let new' = count-cons t k (pointers (c.entries s).kind ws) in
    let was' = count-cons t k (pointers (c.entries s).kind (c.chunks p).words) in
    omega arith

pub words-uses : (c : Core) (s p : ℕ) (ws : List ℕ) (t : ℕ) → IsCore c → place_of (c.entries s).state ≡ Some p
    → uses (with_words c p ws) t + count_by (names t) (pointers (c.entries s).kind (c.chunks p).words) ≡ uses c t + count_by (names t) (pointers (c.entries s).kind ws)
unfolding uses holders
words-uses c s p ws t core at =
    let d = with_words c p ws in
    let low : s < c.bound = core.within s (placed-used (c.entries s).state p at) in
    let all : tally c.bound (holders d) t + count_by (names t) (holders c s) ≡ tally c.bound (holders c) t + count_by (names t) (holders d s) = tally-put c.bound (holders c) (holders d) s t low same in
    let here = words-holders c s p ws t at in
    omega arith
  where
    same : (q : ℕ) → q ≢ s → holders (with_words c p ws) q ≡ holders c q
    same q away = go (place_of (c.entries q).state) refl
      where
        go : (x : Option ℕ) → place_of (c.entries q).state ≡ x → holders_in (with_words c p ws).chunks (c.entries q) x ≡ holders_in c.chunks (c.entries q) x
        go None e = refl
        go (Some r) e = ap (λ (x : Chunk). (c.entries q).class.0 ∷ pointers (c.entries q).kind x.words) (words-there c p ws r (apart c core s q p r at e away))

-- what other words ask: as many, with as many literals, and no more references than are counted
pub record IsRewrite (c : Core) (s p : ℕ) (ws : List ℕ) : Type 0 where
  pub place : place_of (c.entries s).state ≡ Some p
  pub long : length ws ≡ words_for (c.entries s).kind (c.entries s).len (literal_count (header_in ws))
  pub given : (t : ℕ) → uses c t + count_by (names t) (pointers (c.entries s).kind ws) ≤ (c.entries t).refs + count_by (names t) (pointers (c.entries s).kind (c.chunks p).words)

pub words-core : (c : Core) (s p : ℕ) (ws : List ℕ) → IsCore c → IsRewrite c s p ws → IsCore (with_words c p ws)
words-core c s p ws core rewrite = record {
  found = core.found;
  used = core.used;
  named = core.named;
  short = core.short;
  within = core.within;
  low = core.low;
  owned = λ q r at. at-chunk c p ws (λ z x. (c.chunks z).owner ≡ q → x.owner ≡ q) (λ e. e) (λ z away e. e) r (core.owned q r at);
  long = λ q r at. at-chunk c p ws (λ z x. place_of (c.entries q).state ≡ Some z → length x.words ≡ words_for (c.entries q).kind (c.entries q).len (literal_count (header_in x.words)))
      (λ there. subst (λ (z : ℕ). length ws ≡ words_for (c.entries z).kind (c.entries z).len (literal_count (header_in ws))) (sym (core.owned s p rewrite.place) ∙ core.owned q p there) rewrite.long) (λ z away there. core.long q z there) r at;
  small = core.small;
  classed = core.classed;
  counted = λ t. let step = words-uses c s p ws t core rewrite.place in let most = rewrite.given t in omega arith;
  free = core.free;
}

pub words-outside : (c : Core) (s p : ℕ) (ws : List ℕ) (t : ℕ) → IsCore c → IsRewrite c s p ws
    → outside (with_words c p ws) t + count_by (names t) (pointers (c.entries s).kind ws) ≡ outside c t + count_by (names t) (pointers (c.entries s).kind (c.chunks p).words)
unfolding outside
words-outside c s p ws t core rewrite =
    let step = words-uses c s p ws t core rewrite.place in
    let most = core.counted t in
    let now = (words-core c s p ws core rewrite).counted t in
    omega arith

-- an object of the same kind, length and number of fields
pub record IsShape (old new : Body) : Type 0 where
  pub same_kind : kind_of new ≡ kind_of old
  pub same_len : len_of new ≡ len_of old
  pub same_fields : length (fields_of new) ≡ length (fields_of old)

pub words-backed : (c : Core) (disk : Disk) (s p : ℕ) (ws : List ℕ) → IsCore c → IsBacked c disk → place_of (c.entries s).state ≡ Some p
    → IsShape (object_at c disk (c.entries s) p).body (object_at (with_words c p ws) disk (c.entries s) p).body
    → ((c.entries s).flags.fresh ≡ true → (i : ℕ) → slice_get (pointers (c.entries s).kind ws) i ≡ Some 0 → ⊥)
    → ((c.entries s).flags.changed ≡ false → object_at (with_words c p ws) disk (c.entries s) p ≡ object_at c disk (c.entries s) p)
    → IsBacked (with_words c p ws) disk
words-backed c disk s p ws core backed at shape whole clean = record { body = λ q r there. ⊎_elim (λ (e : q ≡ s). here q r e there) (λ (e : q ≢ s). other q r e there) (cases_eq q s) }
  where
    other : (q r : ℕ) → q ≢ s → place_of (c.entries q).state ≡ Some r → IsBody (with_words c p ws) disk (c.entries q) r
    other q r away there =
        let words = ap (λ (x : Chunk). x.words) (words-there c p ws r (apart c core s q p r at there away)) in
        body-same c (with_words c p ws) disk disk (c.entries q) r (backed.body q r there) (object-same c (with_words c p ws) disk disk core q r there (λ t some. refl) words refl) words refl

    like : IsLike (disk (c.entries s).name) (object_at c disk (c.entries s) p) → IsLike (disk (c.entries s).name) (object_at (with_words c p ws) disk (c.entries s) p)
    like l = record { object = l.object; there = l.there; same_class = l.same_class; same_kind = l.same_kind ∙ sym shape.same_kind; same_len = l.same_len ∙ sym shape.same_len; same_fields = l.same_fields ∙ sym shape.same_fields }

    here : (q r : ℕ) → q ≡ s → place_of (c.entries q).state ≡ Some r → IsBody (with_words c p ws) disk (c.entries q) r
    here q r e there =
        let same : r ≡ p = some (sym there ∙ ap (λ (z : ℕ). place_of (c.entries z).state) e ∙ at) in
        let b = backed.body s p at in
        let it : IsBody (with_words c p ws) disk (c.entries s) p = record {
          like = λ f. like (b.like f);
          clean = λ f. b.clean f ∙ ap Some (sym (clean f));
          absent = b.absent;
          whole = λ f i g. whole f i (subst (λ (x : Chunk). slice_get (pointers (c.entries s).kind x.words) i ≡ Some 0) (words-here c p ws) g);
        } in
        subst (λ (z : ℕ). IsBody (with_words c p ws) disk (c.entries q) z) (sym same) (subst (λ (z : ℕ). IsBody (with_words c p ws) disk (c.entries z) p) (sym e) it)
      where
        some : Some r ≡ Some p → r ≡ p
        some h = cc

-- ---- one field's word

-- the body with another word for a field
pub body-word : (entries : ℕ → Entry) (old : List Value) (ws : List ℕ) (i w was : ℕ) (k : Kind) (len : ℕ) → slice_get (pointers k ws) i ≡ Some was → body_in entries old (slice_set ws (spot k i) w) k len ≡ with_field (body_in entries old ws k len) i (meant entries old i w)
unfolding body_in
body-word entries old ws i w was kind.Pointers len at = ap body.Pointers (values-set (meant entries old) ws i w)
body-word entries old ws i w was kind.Words len at = cc
body-word entries old ws i w was kind.Bytes len at = cc
body-word entries old ws i w was kind.Method len at = λ j. body.Method (header-set ws i w j) (values j) (take len (bytes_in (code-set ws i w was at j)))
  where
    values : values_by (meant entries old) (literals_in (slice_set ws (suc i) w)) ≡ slice_set (values_by (meant entries old) (literals_in ws)) i (meant entries old i w)
    values = ap (values_by (meant entries old)) (literals-set ws i w) ∙ values-set (meant entries old) (literals_in ws) i w

-- fields set in place: the shape stays
field-shape : (b : Body) (i : ℕ) (v : Value) → IsShape b (with_field b i v)
field-shape (body.Pointers values) i v = record { same_kind = refl; same_len = length-set values i v; same_fields = length-set values i v }
field-shape (body.Words words) i v = record { same_kind = refl; same_len = refl; same_fields = refl }
field-shape (body.Bytes bytes) i v = record { same_kind = refl; same_len = refl; same_fields = refl }
field-shape (body.Method header literals code) i v = record { same_kind = refl; same_len = refl; same_fields = length-set literals i v }

-- the object whose field was written
pub word-object : (c : Core) (disk : Disk) (s p i w old : ℕ) → IsAt c s p i old → object_at (with_field_word c s p i w) disk (c.entries s) p ≡ record { class = (c.entries (c.entries s).class.0).name; body = with_field (object_at c disk (c.entries s) p).body i (meant c.entries (fields_there (disk (c.entries s).name)) i w) }
word-object c disk s p i w old at =
    words-object c disk (c.entries s) p (slice_set (c.chunks p).words (spot (c.entries s).kind i) w)
    ∙ (λ j. record { class = (c.entries (c.entries s).class.0).name; body = body-word c.entries (fields_there (disk (c.entries s).name)) (c.chunks p).words i w old (c.entries s).kind (c.entries s).len at.word j })

-- the held heap with one field's word written: at one name the object has another field
pub word-held : (c : Core) (disk : Disk) (core : IsCore c) (s p i w old : ℕ) → IsAt c s p i old → held (with_field_word c s p i w) disk ≡ put (held c disk) (c.entries s).name (Some (record { class = (c.entries (c.entries s).class.0).name; body = with_field (object_at c disk (c.entries s) p).body i (meant c.entries (fields_there (disk (c.entries s).name)) i w) }))
word-held c disk core s p i w old at =
    held-put c (with_field_word c s p i w) disk disk (c.entries s).name (words-others c disk core s p (slice_set (c.chunks p).words (spot (c.entries s).kind i) w) at.place)
    ∙ ap (λ x. put (held c disk) (c.entries s).name x)
    (held-at (with_field_word c s p i w) disk (c.entries s).name s p (core.found s (placed-used (c.entries s).state p at.place)) at.place ∙ ap Some (word-object c disk s p i w old at))

-- a reference that is written was counted before
pub one-counted : (t w n r : ℕ) → n ≤ r → (is_short w ≡ true → w ≡ t → n + 1 ≤ r) → n + one t w ≤ r
one-counted t w n r most more = go (names t w) refl
  where
    go : (b : Bool) → names t w ≡ b → n + one t w ≤ r
    go false e = let none : one t w ≡ 0 = ap (λ b. cond b 1 0) e in omega arith
    go true e = let some : one t w ≡ 1 = ap (λ b. cond b 1 0) e in let same : w ≡ t = grind (arith, common_steps) in let short : is_short t ≡ true = grind (arith, common_steps) in let up = more (subst (λ (z : ℕ). is_short z ≡ true) (sym same) short) same in omega arith

header-spot : (k : Kind) (ws : List ℕ) (i w old len : ℕ) → slice_get (pointers k ws) i ≡ Some old → length ws ≡ words_for k len (literal_count (header_in ws)) → length (slice_set ws (spot k i) w) ≡ words_for k len (literal_count (header_in (slice_set ws (spot k i) w)))
header-spot kind.Pointers ws i w old len at long = length-set ws i w ∙ long
header-spot kind.Words ws i w old len at long = length-set ws i w ∙ long
header-spot kind.Bytes ws i w old len at long = length-set ws i w ∙ long
header-spot kind.Method ws i w old len at long = length-set ws (suc i) w ∙ long ∙ ap (λ z. words_for kind.Method len (literal_count z)) (sym (header-set ws i w))

-- other words of the body, where one field's word is another
word-count : (k : Kind) (ws : List ℕ) (i w old t : ℕ) → slice_get (pointers k ws) i ≡ Some old → count_by (names t) (pointers k (slice_set ws (spot k i) w)) + one t old ≡ count_by (names t) (pointers k ws) + one t w
word-count k ws i w old t at = let same = ap (λ xs. count_by (names t) xs) (pointers-set k ws i w old at) in let step = count-set t (pointers k ws) i w old at in omega arith

pub word-rewrite : (c : Core) (s p i w old : ℕ) → IsCore c → IsAt c s p i old → (is_short w ≡ true → uses c w + 1 ≤ (c.entries w).refs) → IsRewrite c s p (slice_set (c.chunks p).words (spot (c.entries s).kind i) w)
word-rewrite c s p i w old core at more = record {
  place = at.place;
  long = header-spot (c.entries s).kind (c.chunks p).words i w old (c.entries s).len at.word (core.long s p at.place);
  given = λ t.
      let step = word-count (c.entries s).kind (c.chunks p).words i w old t at.word in
      let most = one-counted t w (uses c t) (c.entries t).refs (core.counted t) (λ is e. subst (λ (z : ℕ). uses c z + 1 ≤ (c.entries z).refs) e (more is)) in
      omega arith;
}

pub word-core : (c : Core) (s p i w old : ℕ) → IsCore c → IsAt c s p i old → (is_short w ≡ true → uses c w + 1 ≤ (c.entries w).refs) → IsCore (with_field_word c s p i w)
word-core c s p i w old core at more = words-core c s p (slice_set (c.chunks p).words (spot (c.entries s).kind i) w) core (word-rewrite c s p i w old core at more)

pub word-outside : (c : Core) (s p i w old t : ℕ) → IsCore c → IsAt c s p i old → (is_short w ≡ true → uses c w + 1 ≤ (c.entries w).refs) → outside (with_field_word c s p i w) t + one t w ≡ outside c t + one t old
word-outside c s p i w old t core at more =
    let all : outside (with_field_word c s p i w) t + count_by (names t) (pointers (c.entries s).kind (slice_set (c.chunks p).words (spot (c.entries s).kind i) w)) ≡ outside c t + count_by (names t) (pointers (c.entries s).kind (c.chunks p).words) =
    words-outside c s p (slice_set (c.chunks p).words (spot (c.entries s).kind i) w) t core (word-rewrite c s p i w old core at more) in
    let step = word-count (c.entries s).kind (c.chunks p).words i w old t at.word in
    omega arith

-- a word that was written is there
written : (ws : List ℕ) (i w : ℕ) → slice_get (slice_set ws i w) i ≡ Some 0 → w ≡ 0
written [] i w e = cc
written (x ∷ xs) zero w e = cc
written (x ∷ xs) (suc i) w e = written xs i w e

unwritten : (ws : List ℕ) (i j w : ℕ) → j ≢ i → slice_get (slice_set ws i w) j ≡ Some 0 → slice_get ws j ≡ Some 0
unwritten [] i j w away e = e
unwritten (x ∷ xs) zero zero w away e = absurd (away refl)
unwritten (x ∷ xs) zero (suc j) w away e = e
unwritten (x ∷ xs) (suc i) zero w away e = e
unwritten (x ∷ xs) (suc i) (suc j) w away e = unwritten xs i j w (λ h. away (ap suc h)) e

pub word-backed : (c : Core) (disk : Disk) (s p i w old : ℕ) → IsCore c → IsBacked c disk → IsAt c s p i old → ((c.entries s).flags.fresh ≡ true → w ≢ 0)
    → ((c.entries s).flags.changed ≡ false → object_at (with_field_word c s p i w) disk (c.entries s) p ≡ object_at c disk (c.entries s) p)
    → IsBacked (with_field_word c s p i w) disk
word-backed c disk s p i w old core backed at fresh clean =
    words-backed c disk s p (slice_set (c.chunks p).words (spot (c.entries s).kind i) w) core backed at.place
    (subst (λ (b : Body). IsShape (object_at c disk (c.entries s) p).body b) (ap (λ (x : Object). x.body) (sym (word-object c disk s p i w old at))) (field-shape (object_at c disk (c.entries s) p).body i (meant c.entries (fields_there (disk (c.entries s).name)) i w)))
    whole clean
  where
    whole : (c.entries s).flags.fresh ≡ true → (j : ℕ) → slice_get (pointers (c.entries s).kind (slice_set (c.chunks p).words (spot (c.entries s).kind i) w)) j ≡ Some 0 → ⊥
    whole is j e =
        let e' : slice_get (slice_set (pointers (c.entries s).kind (c.chunks p).words) i w) j ≡ Some 0 = ap (λ (xs : List ℕ). slice_get xs j) (sym (pointers-set (c.entries s).kind (c.chunks p).words i w old at.word)) ∙ e in
        ⊎_elim (λ (h : j ≡ i). absurd (fresh is (written (pointers (c.entries s).kind (c.chunks p).words) i w (subst (λ (z : ℕ). slice_get (slice_set (pointers (c.entries s).kind (c.chunks p).words) i w) z ≡ Some 0) h e'))))
        (λ (h : j ≢ i). (backed.body s p at.place).whole is j (unwritten (pointers (c.entries s).kind (c.chunks p).words) i j w h e')) (cases_eq j i)

-- ---- a word that means the same

pub set-same : {A : Type 0} (ws : List A) (i : ℕ) (w : A) → slice_get ws i ≡ Some w → slice_set ws i w ≡ ws
set-same [] i w e = refl
set-same (x ∷ xs) zero w e = ap (λ z. z ∷ xs) (some-same w x (sym e))
set-same (x ∷ xs) (suc i) w e = ap (λ t. x ∷ t) (set-same xs i w e)

with_field-same : (b : Body) (i : ℕ) (v : Value) → slice_get (fields_of b) i ≡ Some v → with_field b i v ≡ b
with_field-same (body.Pointers values) i v e = ap body.Pointers (set-same values i v e)
with_field-same (body.Words words) i v e = refl
with_field-same (body.Bytes bytes) i v e = refl
with_field-same (body.Method header literals code) i v e = ap (λ vs. body.Method header vs code) (set-same literals i v e)

-- the values of a body are what the words of its fields mean
pub body-fields : (entries : ℕ → Entry) (old : List Value) (ws : List ℕ) (k : Kind) (len : ℕ) → fields_of (body_in entries old ws k len) ≡ values_by (meant entries old) (pointers k ws)
unfolding body_in
body-fields entries old ws kind.Pointers len = refl
body-fields entries old ws kind.Words len = refl
body-fields entries old ws kind.Bytes len = refl
body-fields entries old ws kind.Method len = refl

pub field-meant : (c : Core) (disk : Disk) (s p i w : ℕ) → IsAt c s p i w → slice_get (fields_of (object_at c disk (c.entries s) p).body) i ≡ Some (meant c.entries (fields_there (disk (c.entries s).name)) i w)
field-meant c disk s p i w at =
    ap (λ (vs : List Value). slice_get vs i) (body-fields c.entries (fields_there (disk (c.entries s).name)) (c.chunks p).words (c.entries s).kind (c.entries s).len)
    ∙ values-get (meant c.entries (fields_there (disk (c.entries s).name))) (pointers (c.entries s).kind (c.chunks p).words) i w at.word

pub word-same : (c : Core) (disk : Disk) (s p i w old : ℕ) → IsAt c s p i old → meant c.entries (fields_there (disk (c.entries s).name)) i w ≡ meant c.entries (fields_there (disk (c.entries s).name)) i old → object_at (with_field_word c s p i w) disk (c.entries s) p ≡ object_at c disk (c.entries s) p
word-same c disk s p i w old at same =
    word-object c disk s p i w old at
    ∙ (λ j. record {
      class = (c.entries (c.entries s).class.0).name;
      body = with_field-same (object_at c disk (c.entries s) p).body i (meant c.entries (fields_there (disk (c.entries s).name)) i w) (field-meant c disk s p i old at ∙ ap Some (sym same)) j;
    })

pub word-keeps : (c : Core) (disk : Disk) (s p i w old : ℕ) → IsCore c → IsBacked c disk → IsAt c s p i old → ((c.entries s).flags.fresh ≡ true → w ≢ 0)
    → meant c.entries (fields_there (disk (c.entries s).name)) i w ≡ meant c.entries (fields_there (disk (c.entries s).name)) i old → Keeps disk c (with_field_word c s p i w)
word-keeps c disk s p i w old core backed at fresh same = record {
  backed = word-backed c disk s p i w old core backed at fresh (λ f. word-same c disk s p i w old at same);
  held = held-same c (with_field_word c s p i w) disk disk (c.entries s).name (words-others c disk core s p (slice_set (c.chunks p).words (spot (c.entries s).kind i) w) at.place)
      (held-at (with_field_word c s p i w) disk (c.entries s).name s p (core.found s (placed-used (c.entries s).state p at.place)) at.place ∙ ap Some (word-same c disk s p i w old at same) ∙ sym (held-at c disk (c.entries s).name s p (core.found s (placed-used (c.entries s).state p at.place)) at.place));
}

-- ---- what words mean

pub meant-odd : (entries : ℕ → Entry) (old : List Value) (i w : ℕ) → w % 2 ≡ 1 → meant entries old i w ≡ Int (int_of_short w)
meant-odd entries old i w odd = let is : eqb (w % 2) 1 ≡ true = grind (arith, common_steps) in simp is refl

pub meant-lambda : (entries : ℕ → Entry) (old : List Value) (i : ℕ) → meant entries old i 0 ≡ get_or old i (Int (pos 0))
meant-lambda entries old i = refl

pub meant-short : (entries : ℕ → Entry) (old : List Value) (i w : ℕ) → is_short w ≡ true → meant entries old i w ≡ Ref (entries w).name
meant-short entries old i w short =
    let even : eqb (w % 2) 1 ≡ false = grind (arith, common_steps) in
    let some : eqb w 0 ≡ false = grind (arith, common_steps) in
    simp (even, some) refl

pub one-odd : (t w : ℕ) → w % 2 ≡ 1 → one t w ≡ 0
one-odd t w odd = go (names t w) refl
  where
    go : (b : Bool) → names t w ≡ b → one t w ≡ 0
    go false e = ap (λ b. cond b 1 0) e
    go true e = let same : w ≡ t = grind (arith, common_steps) in let even : t % 2 ≡ 0 = grind (arith, common_steps) in let odd' : t % 2 ≡ 1 = ap (λ (z : ℕ). z % 2) (sym same) ∙ odd in absurd (omega arith)

pub one-zero : (t : ℕ) → one t 0 ≡ 0
one-zero t = go (names t 0) refl
  where
    go : (b : Bool) → names t 0 ≡ b → one t 0 ≡ 0
    go false e = ap (λ b. cond b 1 0) e
    go true e = let same : 0 ≡ t = grind (arith, common_steps) in let up : 0 < t = grind (arith, common_steps) in absurd (omega arith)

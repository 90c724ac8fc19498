-- Stores of words: a run of words in a list, and a body whose words change where none is a reference.
use Rattle.std.proofs.Common.{zero, suc, ◌≡◌, ◌≢◌, ℕ, ◌+◌, ◌-◌, ◌*◌, ◌/◌, ◌%◌, ◌<◌, ◌≤◌, Bool, true, false, nat_lt, List, [], ◌∷◌, ◌++◌, length, get_or, refl, sym, ◌∙◌, ap, subst, arith, ⊎_elim, Option, Some, None, count_by}
use Rattle.std.proofs.lemmas.Bool.{cases_eq}
use Rattle.std.proofs.lemmas.Grind.{common_steps}
use Rattle.std.proofs.lemmas.List.{length-append}
use Rattle.std.proofs.Math.ListN.{length-set}
use Rattle.std.specs.List.{slice_get, slice_set}
use Rattle.std.specs.Prelude.{take, drop, ◌==◌, if◌then◌else◌}
use Rattle.long_names.specs.Objects.{kind_of, len_of, put_run, with_bytes, with_words as with_run}
use Rattle.long_names.specs.Words.{literal_count}
use Rattle.long_names.specs.declared.value.Value.{Value}
use Rattle.long_names.specs.declared.object.Kind.{Kind}
use Rattle.long_names.specs.declared.object.Kind.TheVariants as kind
use Rattle.long_names.specs.declared.object.Body.{Body}
use Rattle.long_names.specs.declared.object.Body.TheVariants as body
use Rattle.long_names.specs.declared.object.Object.{Object}
use Rattle.object_table.specs.declared.entry.Entry.{Entry}
use Rattle.object_table.specs.Entries.{put, place_of}
use Rattle.std.proofs.Math.Path.{fun_ext}
use Rattle.core_segment.specs.Chunks.{Chunk, with_chunk, with_word}
use Rattle.core_view.specs.Core.{Core, with_words}
use Rattle.core_view.specs.Words.{meant, header_in, pointers, body_in, bytes_in, code_in, literals_in, int_of_short, words_for, values_by}
use Rattle.core_view.specs.Held.{Disk, fields_there, object_at, held}
use Rattle.core_view.specs.Counts.{names, outside, change_of, marked_by, marked_of}
use Rattle.core_view.specs.Kept.{IsCore, IsTight, IsBacked, Keeps}
use Rattle.core_view.specs.Steps.{IsAbout, with_mark, marked_changed}
use Rattle.core_view.proofs.Lists.{put-here, put-there}
use Rattle.core_view.proofs.Core.{placed-used, apart, held-at}
use Rattle.core_view.proofs.Entries.{at-entry}
use Rattle.core_view.proofs.Others.{same-entries, entries-others, Others-trans, entry-others}
use Rattle.core_view.proofs.Words.{IsRewrite, IsShape, words-core, words-outside, words-held, words-backed, words-object, body-fields}
use Rattle.core_view.proofs.Steps.{mark-core, mark-stays, mark-outside, About-trans, entry-about, entry-changes}
use Rattle.leaf_lambda.specs.Parts.{IsWithin}
use Rattle.leaf_lambda.specs.Making.{with_byte, first_byte, byte_written, HasBytes, InBytes, InMethod}
use Rattle.leaf_lambda.proofs.FieldLaws.{mark-live}
use Rattle.leaf_lambda.proofs.FillLaws.{all-same, get-set, get-set-other}
use Rattle.leaf_lambda.proofs.MergeLaws.{drop-get, take-at, length-drop-of, length-take-of, length-bytes, in-words, in-bytes, in-method}

-- ---- a run in a list

pub get-left : (xs ys : List ℕ) (j : ℕ) → j < length xs → slice_get (xs ++ ys) j ≡ slice_get xs j
get-left [] ys j low = absurd (omega arith)
get-left (x ∷ xs) ys zero low = refl
get-left (x ∷ xs) ys (suc j) low = get-left xs ys j (omega arith)

pub get-right : (xs ys : List ℕ) (j : ℕ) → length xs ≤ j → slice_get (xs ++ ys) j ≡ slice_get ys (j - length xs)
get-right [] ys j far = ap (λ (k : ℕ). slice_get ys k) (omega arith)
get-right (x ∷ xs) ys zero far = absurd (omega arith)
get-right (x ∷ xs) ys (suc j) far = get-right xs ys j (omega arith) ∙ ap (λ (k : ℕ). slice_get ys k) (omega arith)

head-length : (old : List ℕ) (i : ℕ) (run : List ℕ) → i + length run ≤ length old → length (take i old ++ run) ≡ i + length run
head-length old i run room =
    let long : length (take i old) ≡ i = length-take-of i old (omega arith) in
    length-append (take i old) run ∙ ap (λ (n : ℕ). n + length run) long

pub run-before : (old : List ℕ) (i : ℕ) (run : List ℕ) (j : ℕ) → i + length run ≤ length old → j < i → slice_get (put_run old i run) j ≡ slice_get old j
run-before old i run j room low =
    let long : length (take i old) ≡ i = length-take-of i old (omega arith) in
    let head = head-length old i run room in
    get-left (take i old ++ run) (drop (i + length run) old) j (omega arith) ∙ get-left (take i old) run j (omega arith) ∙ take-at i old j low

pub run-here : (old : List ℕ) (i : ℕ) (run : List ℕ) (k : ℕ) → i + length run ≤ length old → k < length run → slice_get (put_run old i run) (i + k) ≡ slice_get run k
run-here old i run k room low =
    let long : length (take i old) ≡ i = length-take-of i old (omega arith) in
    let head = head-length old i run room in
    get-left (take i old ++ run) (drop (i + length run) old) (i + k) (omega arith)
    ∙ get-right (take i old) run (i + k) (omega arith)
    ∙ ap (λ (j : ℕ). slice_get run j) (omega arith)

pub run-after : (old : List ℕ) (i : ℕ) (run : List ℕ) (j : ℕ) → i + length run ≤ length old → i + length run ≤ j → slice_get (put_run old i run) j ≡ slice_get old j
run-after old i run j room far =
    let head = head-length old i run room in
    get-right (take i old ++ run) (drop (i + length run) old) j (omega arith)
    ∙ drop-get (i + length run) old (j - length (take i old ++ run))
    ∙ ap (λ (k : ℕ). slice_get old k) (omega arith)

pub run-length : (old : List ℕ) (i : ℕ) (run : List ℕ) → i + length run ≤ length old → length (put_run old i run) ≡ length old
run-length old i run room =
    let head = head-length old i run room in
    let last = length-drop-of (i + length run) old in
    length-append (take i old ++ run) (drop (i + length run) old) ∙ omega arith

-- a list that has the run, and else is as it was
pub run-all : (old now : List ℕ) (i : ℕ) (run : List ℕ) → i + length run ≤ length old → length now ≡ length old → ((j : ℕ) → j < i + length run → slice_get now j ≡ slice_get (put_run old i run) j)
    → ((j : ℕ) → i + length run ≤ j → slice_get now j ≡ slice_get old j) → now ≡ put_run old i run
run-all old now i run room long done rest = all-same now (put_run old i run) (long ∙ sym (run-length old i run room)) (λ j low. go j (nat_lt j (i + length run)) refl)
  where
    go : (j : ℕ) (b : Bool) → nat_lt j (i + length run) ≡ b → slice_get now j ≡ slice_get (put_run old i run) j
    go j true e = done j (grind (arith, common_steps))
    go j false e = let far : i + length run ≤ j = grind (arith, common_steps) in rest j far ∙ sym (run-after old i run j room far)

-- one word more of a run is written
pub run-chunk : (f g h : ℕ → Chunk) (p i w : ℕ) → g ≡ with_chunk f p (record { owner = (f p).owner; words = (g p).words }) → h ≡ with_word g p i w
    → h ≡ with_chunk f p (record { owner = (f p).owner; words = (h p).words })
run-chunk f g h p i w before now = fun_ext (λ q. ⊎_elim (λ (e : q ≡ p). here q e) (λ (e : q ≢ p). there q e) (cases_eq q p))
  where
    at : h p ≡ record { owner = (g p).owner; words = slice_set (g p).words i w }
    at = ap (λ (k : ℕ → Chunk). k p) now ∙ put-here g p (record { owner = (g p).owner; words = slice_set (g p).words i w })

    owner : (h p).owner ≡ (f p).owner
    owner = ap (λ (x : Chunk). x.owner) at ∙ ap (λ (k : ℕ → Chunk). (k p).owner) before ∙ ap (λ (x : Chunk). x.owner) (put-here f p (record { owner = (f p).owner; words = (g p).words }))

    same : h p ≡ with_chunk f p (record { owner = (f p).owner; words = (h p).words }) p
    same = ap (λ (o : ℕ). record { owner = o; words = (h p).words }) owner ∙ sym (put-here f p (record { owner = (f p).owner; words = (h p).words }))

    here : (q : ℕ) → q ≡ p → h q ≡ with_chunk f p (record { owner = (f p).owner; words = (h p).words }) q
    here q e = subst (λ (z : ℕ). h z ≡ with_chunk f p (record { owner = (f p).owner; words = (h p).words }) z) (sym e) same

    there : (q : ℕ) → q ≢ p → h q ≡ with_chunk f p (record { owner = (f p).owner; words = (h p).words }) q
    there q e = ap (λ (k : ℕ → Chunk). k q) now ∙ put-there g p (record { owner = (g p).owner; words = slice_set (g p).words i w }) q e
        ∙ ap (λ (k : ℕ → Chunk). k q) before ∙ put-there f p (record { owner = (f p).owner; words = (g p).words }) q e
        ∙ sym (put-there f p (record { owner = (f p).owner; words = (h p).words }) q e)

pub run-words : (g h : ℕ → Chunk) (p i w : ℕ) → h ≡ with_word g p i w → (h p).words ≡ slice_set (g p).words i w
run-words g h p i w now = ap (λ (k : ℕ → Chunk). (k p).words) now ∙ ap (λ (x : Chunk). x.words) (put-here g p (record { owner = (g p).owner; words = slice_set (g p).words i w }))

pub run-done : (old before now run : List ℕ) (i k w : ℕ) → i + length run ≤ length old → length before ≡ length old → k < length run → w ≡ get_or run k w → now ≡ slice_set before (i + k) w
    → ((j : ℕ) → j < i + k → slice_get before j ≡ slice_get (put_run old i run) j) → (j : ℕ) → j < i + (k + 1) → slice_get now j ≡ slice_get (put_run old i run) j
run-done old before now run i k w room long low is e done j near = ap (λ (l : List ℕ). slice_get l j) e ∙ ⊎_elim
    (λ (at : j ≡ i + k). ap (λ (z : ℕ). slice_get (slice_set before (i + k) w) z) at ∙ get-set before (i + k) w (omega arith)
    ∙ sym (ap (λ (z : ℕ). slice_get (put_run old i run) z) at ∙ run-here old i run k room low ∙ get-is run k w low is))
    (λ (away : j ≢ i + k). get-set-other before (i + k) w j away ∙ done j (omega arith))
    (cases_eq j (i + k))
  where
    get-is : (run : List ℕ) (k w : ℕ) → k < length run → w ≡ get_or run k w → slice_get run k ≡ Some w
    get-is [] k w low is = absurd (omega arith)
    get-is (x ∷ run) zero w low is = ap Some (sym is)
    get-is (x ∷ run) (suc k) w low is = get-is run k w (omega arith) is

pub run-rest : (old before now : List ℕ) (i k w : ℕ) → now ≡ slice_set before (i + k) w → ((j : ℕ) → i + k ≤ j → slice_get before j ≡ slice_get old j)
    → (j : ℕ) → i + (k + 1) ≤ j → slice_get now j ≡ slice_get old j
run-rest old before now i k w e rest j far = ap (λ (l : List ℕ). slice_get l j) e ∙ get-set-other before (i + k) w j (λ at. omega arith) ∙ rest j (omega arith)

-- ---- other words in a body, none of which is a reference

-- from a: s is marked, to m, and its body at p has these words, to d
pub record IsRewritten (a m d : Core) (s p : ℕ) (ws : List ℕ) : Type 0 where
  pub core : IsCore a
  pub place : place_of (a.entries s).state ≡ Some p
  pub mark : m ≡ with_mark a s
  pub long : length ws ≡ words_for (a.entries s).kind (a.entries s).len (literal_count (header_in ws))
  pub same : pointers (a.entries s).kind ws ≡ pointers (a.entries s).kind (a.chunks p).words
  pub write : d ≡ with_words m p ws

marked-here : (a m d : Core) (s p : ℕ) (ws : List ℕ) → IsRewritten a m d s p ws → m.entries s ≡ marked_changed (a.entries s)
marked-here a m d s p ws x = ap (λ (c : Core). c.entries s) x.mark ∙ put-here a.entries s (marked_changed (a.entries s))

core-m : (a m d : Core) (s p : ℕ) (ws : List ℕ) → IsRewritten a m d s p ws → IsCore m
core-m a m d s p ws x = subst IsCore (sym x.mark) (mark-core a s x.core (placed-used (a.entries s).state p x.place))

place-m : (a m d : Core) (s p : ℕ) (ws : List ℕ) → IsRewritten a m d s p ws → place_of (m.entries s).state ≡ Some p
place-m a m d s p ws x = ap (λ (e : Entry). place_of e.state) (marked-here a m d s p ws x) ∙ x.place

chunk-m : (a m d : Core) (s p : ℕ) (ws : List ℕ) → IsRewritten a m d s p ws → m.chunks ≡ a.chunks
chunk-m a m d s p ws x = ap (λ (c : Core). c.chunks) x.mark

same-m : (a m d : Core) (s p : ℕ) (ws : List ℕ) → IsRewritten a m d s p ws → pointers (m.entries s).kind ws ≡ pointers (m.entries s).kind (m.chunks p).words
same-m a m d s p ws x =
    ap (λ (e : Entry). pointers e.kind ws) (marked-here a m d s p ws x) ∙ x.same
    ∙ ap (λ (f : ℕ → Chunk). pointers (a.entries s).kind (f p).words) (sym (chunk-m a m d s p ws x))
    ∙ ap (λ (e : Entry). pointers e.kind (m.chunks p).words) (sym (marked-here a m d s p ws x))

rewrite-m : (a m d : Core) (s p : ℕ) (ws : List ℕ) → IsRewritten a m d s p ws → IsRewrite m s p ws
rewrite-m a m d s p ws x = record {
  place = place-m a m d s p ws x;
  long = subst (λ (e : Entry). length ws ≡ words_for e.kind e.len (literal_count (header_in ws))) (sym (marked-here a m d s p ws x)) x.long;
  given = λ t. let most = (core-m a m d s p ws x).counted t in let same = ap (λ vs. count_by (names t) vs) (same-m a m d s p ws x) in omega arith;
}

pub rewritten-core : (a m d : Core) (s p : ℕ) (ws : List ℕ) → IsRewritten a m d s p ws → IsCore d
rewritten-core a m d s p ws x = subst IsCore (sym x.write) (words-core m s p ws (core-m a m d s p ws x) (rewrite-m a m d s p ws x))

words-about : (c : Core) (s p : ℕ) (ws : List ℕ) → IsCore c → place_of (c.entries s).state ≡ Some p → IsAbout s c (with_words c p ws)
words-about c s p ws core at = record {
  bound = refl;
  chunks = λ q r away there. put-there c.chunks p (record { owner = (c.chunks p).owner; words = ws }) r (apart c core s q p r at there away);
  bodies = λ q r away there. refl;
  leaves = λ q away e. e;
}

rewritten-tight : (a m d : Core) (s p : ℕ) (ws : List ℕ) → IsRewritten a m d s p ws → IsTight a → IsTight d
rewritten-tight a m d s p ws x tight = record {
  bodies = λ q some. state (d.chunks q).owner ∙ ap (λ (z : ℕ). place_of (a.entries z).state) (owner q) ∙ tight.bodies q (subst (λ (z : ℕ). 0 < z) (owner q) some);
}
  where
    state : (t : ℕ) → place_of (d.entries t).state ≡ place_of (a.entries t).state
    state t = ap (λ (c : Core). place_of (c.entries t).state) x.write ∙ ap (λ (c : Core). place_of (c.entries t).state) x.mark
        ∙ at-entry a.entries s (marked_changed (a.entries s)) (λ q e. place_of e.state ≡ place_of (a.entries q).state) refl (λ q away. refl) t

    owner : (q : ℕ) → (d.chunks q).owner ≡ (a.chunks q).owner
    owner q = ap (λ (c : Core). (c.chunks q).owner) x.write ∙ ⊎_elim
        (λ (h : q ≡ p). subst (λ (z : ℕ). ((with_words m p ws).chunks z).owner ≡ (m.chunks z).owner) (sym h) (ap (λ (y : Chunk). y.owner) (put-here m.chunks p (record { owner = (m.chunks p).owner; words = ws }))))
        (λ (h : q ≢ p). ap (λ (y : Chunk). y.owner) (put-there m.chunks p (record { owner = (m.chunks p).owner; words = ws }) q h)) (cases_eq q p)
        ∙ ap (λ (f : ℕ → Chunk). (f q).owner) (chunk-m a m d s p ws x)

rewritten-marks : (a m d : Core) (s p : ℕ) (ws : List ℕ) → IsRewritten a m d s p ws → (n : ℕ) → marked_of d n ≡ marked_of a n
rewritten-marks a m d s p ws x n = ap (λ (c : Core). marked_of c n) x.write ∙ ap (λ (c : Core). marked_of c n) x.mark ∙ go (a.find n)
  where
    go : (o : Option ℕ) → marked_by (put a.entries s (marked_changed (a.entries s))) o ≡ marked_by a.entries o
    go None = refl
    go (Some q) = at-entry a.entries s (marked_changed (a.entries s)) (λ q e. e.flags.marked ≡ (a.entries q).flags.marked) refl (λ q away. refl) q

pub rewritten-within : (a m d : Core) (s p : ℕ) (ws : List ℕ) → IsRewritten a m d s p ws → IsWithin s a d
rewritten-within a m d s p ws x = subst (λ (c : Core). IsWithin s a c) (sym x.write) (record {
  same_outside = λ t.
      let out = words-outside m s p ws t (core-m a m d s p ws x) (rewrite-m a m d s p ws x) in
      let same = ap (λ vs. count_by (names t) vs) (same-m a m d s p ws x) in
      let first : outside m t ≡ outside a t = ap (λ (c : Core). outside c t) x.mark ∙ mark-outside a s t x.core (placed-used (a.entries s).state p x.place) in
      omega arith;
  live = λ t on. mark-live a m s t x.mark on;
  about = About-trans s a m (with_words m p ws) (subst (λ (c : Core). IsAbout s a c) (sym x.mark) (entry-about a s (marked_changed (a.entries s)))) (words-about m s p ws (core-m a m d s p ws x) (place-m a m d s p ws x));
  grew = λ n e. ap (λ (c : Core). c.find n) (sym x.mark) ∙ e;
  changes = λ n. ap (λ (c : Core). change_of c n) x.mark ∙ entry-changes a s (marked_changed (a.entries s)) refl n;
  others = Others-trans s a m (with_words m p ws) (entry-others a m s (marked_changed (a.entries s)) (ap (λ (c : Core). c.entries) x.mark)) (entries-others s m (with_words m p ws) (same-entries m (with_words m p ws) refl));
  marks = λ n. ap (λ (c : Core). marked_of c n) (sym x.write) ∙ rewritten-marks a m d s p ws x n;
  tight = λ t. subst IsTight x.write (rewritten-tight a m d s p ws x t);
})

pub rewritten-entry : (a m d : Core) (s p : ℕ) (ws : List ℕ) → IsRewritten a m d s p ws → d.entries s ≡ marked_changed (a.entries s)
rewritten-entry a m d s p ws x = ap (λ (c : Core). c.entries s) x.write ∙ marked-here a m d s p ws x

keeps-m : (a m d : Core) (s p : ℕ) (ws : List ℕ) (disk : Disk) → IsRewritten a m d s p ws → IsBacked a disk → Keeps disk a m
keeps-m a m d s p ws disk x backed = subst (λ (c : Core). Keeps disk a c) (sym x.mark) (mark-stays a s x.core (placed-used (a.entries s).state p x.place) disk backed)

-- the body that these words are, in an object whose record has these fields, is as long as that of the words before
abbrev pub IsAsLong : Core → ℕ → ℕ → List ℕ → Type 0
IsAsLong a s p ws = (entries : ℕ → Entry) (old : List Value) → len_of (body_in entries old ws (a.entries s).kind (a.entries s).len) ≡ len_of (body_in entries old (a.chunks p).words (a.entries s).kind (a.entries s).len)

body-kind : (entries : ℕ → Entry) (old : List Value) (ws : List ℕ) (k : Kind) (len : ℕ) → kind_of (body_in entries old ws k len) ≡ k
unfolding body_in
body-kind entries old ws kind.Pointers len = refl
body-kind entries old ws kind.Words len = refl
body-kind entries old ws kind.Bytes len = refl
body-kind entries old ws kind.Method len = refl

body-shape : (entries : ℕ → Entry) (old : List Value) (was ws : List ℕ) (k : Kind) (len : ℕ) → pointers k ws ≡ pointers k was → len_of (body_in entries old ws k len) ≡ len_of (body_in entries old was k len) → IsShape (body_in entries old was k len) (body_in entries old ws k len)
body-shape entries old was ws k len same long = record {
  same_kind = body-kind entries old ws k len ∙ sym (body-kind entries old was k len);
  same_len = long;
  same_fields = ap length (body-fields entries old ws k len ∙ ap (λ vs. values_by (meant entries old) vs) same ∙ sym (body-fields entries old was k len));
}

pub rewritten-backed : (a m d : Core) (s p : ℕ) (ws : List ℕ) (disk : Disk) → IsRewritten a m d s p ws → IsAsLong a s p ws → IsBacked a disk → IsBacked d disk
rewritten-backed a m d s p ws disk x long backed = subst (λ (c : Core). IsBacked c disk) (sym x.write)
    (words-backed m disk s p ws (core-m a m d s p ws x) (keeps-m a m d s p ws disk x backed).backed (place-m a m d s p ws x) shape
    (λ f i e. (((keeps-m a m d s p ws disk x backed).backed).body s p (place-m a m d s p ws x)).whole f i (ap (λ vs. slice_get vs i) (sym (same-m a m d s p ws x)) ∙ e))
    (λ f. let on : (m.entries s).flags.changed ≡ true = ap (λ (e : Entry). e.flags.changed) (marked-here a m d s p ws x) in absurd (cc)))
  where
    long-m : (old : List Value) → len_of (body_in m.entries old ws (m.entries s).kind (m.entries s).len) ≡ len_of (body_in m.entries old (m.chunks p).words (m.entries s).kind (m.entries s).len)
    long-m old = ap (λ (e : Entry). len_of (body_in m.entries old ws e.kind e.len)) (marked-here a m d s p ws x) ∙ long m.entries old
        ∙ ap (λ (f : ℕ → Chunk). len_of (body_in m.entries old (f p).words (a.entries s).kind (a.entries s).len)) (sym (chunk-m a m d s p ws x))
        ∙ ap (λ (e : Entry). len_of (body_in m.entries old (m.chunks p).words e.kind e.len)) (sym (marked-here a m d s p ws x))

    shape : IsShape (object_at m disk (m.entries s) p).body (object_at (with_words m p ws) disk (m.entries s) p).body
    shape = subst (λ (o : Object). IsShape (object_at m disk (m.entries s) p).body o.body) (sym (words-object m disk (m.entries s) p ws))
        (body-shape m.entries (fields_there (disk (m.entries s).name)) (m.chunks p).words ws (m.entries s).kind (m.entries s).len (same-m a m d s p ws x) (long-m (fields_there (disk (m.entries s).name))))

-- the object at the name has the body that the words mean, and the class that it had
pub rewritten-held : (a m d : Core) (s p : ℕ) (ws : List ℕ) (disk : Disk) (o : Object) (now : Body) → IsRewritten a m d s p ws → IsBacked a disk → held a disk (a.entries s).name ≡ Some o
    → ((entries : ℕ → Entry) (old : List Value) → body_in entries old (a.chunks p).words (a.entries s).kind (a.entries s).len ≡ o.body → body_in entries old ws (a.entries s).kind (a.entries s).len ≡ now)
    → held d disk ≡ put (held a disk) (a.entries s).name (Some (record { class = o.class; body = now }))
rewritten-held a m d s p ws disk o now x backed there means =
    ap (λ (c : Core). held c disk) x.write
    ∙ words-held m disk core s p ws (place-m a m d s p ws x)
    ∙ ap (λ (q : Object). put (held m disk) (m.entries s).name (Some q)) object
    ∙ ap (λ (f : ℕ → Option Object). put f (m.entries s).name (Some (record { class = o.class; body = now }))) (keeps-m a m d s p ws disk x backed).held
    ∙ ap (λ (e : Entry). put (held a disk) e.name (Some (record { class = o.class; body = now }))) here
  where
    core : IsCore m
    core = core-m a m d s p ws x

    here : m.entries s ≡ marked_changed (a.entries s)
    here = marked-here a m d s p ws x

    was : object_at m disk (m.entries s) p ≡ o
    was = some (sym (held-at m disk (m.entries s).name s p (core.found s (placed-used (m.entries s).state p (place-m a m d s p ws x))) (place-m a m d s p ws x))
        ∙ ap (λ (f : ℕ → Option Object). f (m.entries s).name) (keeps-m a m d s p ws disk x backed).held ∙ ap (λ (e : Entry). held a disk e.name) here ∙ there)
      where
        some : {q : Object} → Some q ≡ Some o → q ≡ o
        some e = cc

    old-body : body_in m.entries (fields_there (disk (m.entries s).name)) (a.chunks p).words (a.entries s).kind (a.entries s).len ≡ o.body
    old-body = ap (λ (f : ℕ → Chunk). body_in m.entries (fields_there (disk (m.entries s).name)) (f p).words (a.entries s).kind (a.entries s).len) (sym (chunk-m a m d s p ws x))
        ∙ ap (λ (e : Entry). body_in m.entries (fields_there (disk (m.entries s).name)) (m.chunks p).words e.kind e.len) (sym here)
        ∙ ap (λ (q : Object). q.body) was

    object : ◌≡◌ {A = Object} (record { class = (m.entries (m.entries s).class.0).name; body = body_in m.entries (fields_there (disk (m.entries s).name)) ws (m.entries s).kind (m.entries s).len }) (record { class = o.class; body = now })
    object = λ i. record {
      class = (ap (λ (q : Object). q.class) was) i;
      body = (ap (λ (e : Entry). body_in m.entries (fields_there (disk (m.entries s).name)) ws e.kind e.len) here ∙ means m.entries (fields_there (disk (m.entries s).name)) old-body) i;
    }

-- ---- words

pub words-long : (a : Core) (s p i : ℕ) (run : List ℕ) → IsCore a → place_of (a.entries s).state ≡ Some p → (a.entries s).kind ≡ kind.Words → length (a.chunks p).words ≡ (a.entries s).len
words-long a s p i run core at is = core.long s p at ∙ ap (λ (k : Kind). words_for k (a.entries s).len (literal_count (header_in (a.chunks p).words))) is

pub words-as-long : (a : Core) (s p i : ℕ) (run : List ℕ) → (a.entries s).kind ≡ kind.Words → i + length run ≤ length (a.chunks p).words → IsAsLong a s p (put_run (a.chunks p).words i run)
words-as-long a s p i run is room entries old =
    ap len_of (in-words entries old (put_run (a.chunks p).words i run) (a.entries s).kind (a.entries s).len is) ∙ run-length (a.chunks p).words i run room
    ∙ sym (ap len_of (in-words entries old (a.chunks p).words (a.entries s).kind (a.entries s).len is))

pub words-means : (a : Core) (s p i : ℕ) (run : List ℕ) (o : Object) → (a.entries s).kind ≡ kind.Words → (entries : ℕ → Entry) (old : List Value) → body_in entries old (a.chunks p).words (a.entries s).kind (a.entries s).len ≡ o.body
    → body_in entries old (put_run (a.chunks p).words i run) (a.entries s).kind (a.entries s).len ≡ with_run o.body i run
words-means a s p i run o is entries old same =
    in-words entries old (put_run (a.chunks p).words i run) (a.entries s).kind (a.entries s).len is
    ∙ ap (λ (b : Body). with_run b i run) (sym (in-words entries old (a.chunks p).words (a.entries s).kind (a.entries s).len is) ∙ same)

pub words-rewritten : (a m d : Core) (s p i : ℕ) (run : List ℕ) → IsCore a → place_of (a.entries s).state ≡ Some p → (a.entries s).kind ≡ kind.Words → i + length run ≤ (a.entries s).len → m ≡ with_mark a s
    → d ≡ with_words m p (put_run (a.chunks p).words i run) → IsRewritten a m d s p (put_run (a.chunks p).words i run)
words-rewritten a m d s p i run core at is room mark write = record {
  core = core;
  place = at;
  mark = mark;
  long = run-length (a.chunks p).words i run (let size = words-long a s p i run core at is in omega arith) ∙ words-long a s p i run core at is
      ∙ sym (ap (λ (k : Kind). words_for k (a.entries s).len (literal_count (header_in (put_run (a.chunks p).words i run)))) is);
  same = ap (λ (k : Kind). pointers k (put_run (a.chunks p).words i run)) is ∙ sym (ap (λ (k : Kind). pointers k (a.chunks p).words) is);
  write = write;
}

-- ---- bytes

-- one byte of a list is a run of one
pub set-run : (old : List ℕ) (i b : ℕ) → i < length old → slice_set old i b ≡ put_run old i (b ∷ [])
set-run old i b low = run-all old (slice_set old i b) i (b ∷ []) (omega arith) (length-set old i b) done (λ j far. get-set-other old i b j (λ e. omega arith))
  where
    done : (j : ℕ) → j < i + 1 → slice_get (slice_set old i b) j ≡ slice_get (put_run old i (b ∷ [])) j
    done j near = ⊎_elim
        (λ (e : j ≡ i). subst (λ (z : ℕ). slice_get (slice_set old i b) z ≡ slice_get (put_run old i (b ∷ [])) z) (sym e)
        (get-set old i b low ∙ sym (run-here old i (b ∷ []) 0 (omega arith) (omega arith)) ∙ ap (λ (z : ℕ). slice_get (put_run old i (b ∷ [])) z) (omega arith)))
        (λ (e : j ≢ i). get-set-other old i b j e ∙ sym (run-before old i (b ∷ []) j (omega arith) (omega arith))) (cases_eq j i)

pub take-set-at : (n : ℕ) (xs : List ℕ) (i b : ℕ) → take n (slice_set xs i b) ≡ slice_set (take n xs) i b
take-set-at zero xs i b = refl
take-set-at (suc n) [] i b = refl
take-set-at (suc n) (x ∷ xs) zero b = refl
take-set-at (suc n) (x ∷ xs) (suc i) b = ap (λ t. x ∷ t) (take-set-at n xs i b)

-- behind the first n words
pub take-set-past : (n : ℕ) (xs : List ℕ) (i w : ℕ) → n ≤ i → take n (slice_set xs i w) ≡ take n xs
take-set-past zero xs i w far = refl
take-set-past (suc n) [] i w far = refl
take-set-past (suc n) (x ∷ xs) zero w far = absurd (omega arith)
take-set-past (suc n) (x ∷ xs) (suc i) w far = ap (λ t. x ∷ t) (take-set-past n xs i w (omega arith))

pub drop-set-past : (n : ℕ) (xs : List ℕ) (i w : ℕ) → n ≤ i → drop n (slice_set xs i w) ≡ slice_set (drop n xs) (i - n) w
drop-set-past zero xs i w far = ap (λ (k : ℕ). slice_set xs k w) (omega arith)
drop-set-past (suc n) [] i w far = refl
drop-set-past (suc n) (x ∷ xs) zero w far = absurd (omega arith)
drop-set-past (suc n) (x ∷ xs) (suc i) w far = drop-set-past n xs i w (omega arith) ∙ ap (λ (k : ℕ). slice_set (drop n xs) k w) (omega arith)

some-word : (x w : ℕ) → Some x ≡ Some w → x ≡ w
some-word x w e = cc

-- one byte of words
pub byte-set : (ws : List ℕ) (i w b : ℕ) → slice_get ws (i / 2) ≡ Some w → b < 256 → bytes_in (slice_set ws (i / 2) (with_byte w i b)) ≡ slice_set (bytes_in ws) i b
byte-set [] i w b e fits = cc
byte-set (x ∷ xs) zero w b e fits = ap (λ z. z ∷ (256 * b + w % 256) % 256 ∷ bytes_in xs) (omega arith) ∙ ap (λ z. b ∷ z ∷ bytes_in xs) (omega arith) ∙ ap (λ z. b ∷ z % 256 ∷ bytes_in xs) (sym (some-word x w e))
byte-set (x ∷ xs) (suc zero) w b e fits = ap (λ z. z ∷ (256 * (w / 256) + b) % 256 ∷ bytes_in xs) (omega arith) ∙ ap (λ z. w / 256 ∷ z ∷ bytes_in xs) (omega arith) ∙ ap (λ z. z / 256 ∷ b ∷ bytes_in xs) (sym (some-word x w e))
byte-set (x ∷ xs) (suc (suc j)) w b e fits =
    ap (λ (k : ℕ). bytes_in (slice_set (x ∷ xs) k (with_byte w (suc (suc j)) b))) (sym (half j))
    ∙ ap (λ (k : ℕ). x / 256 ∷ x % 256 ∷ bytes_in (slice_set xs (j / 2) (if k == 1 then 256 * (w / 256) + b else (256 * b + w % 256)))) (sym (parity j))
    ∙ ap (λ t. x / 256 ∷ x % 256 ∷ t) (byte-set xs j w b (ap (λ (k : ℕ). slice_get (x ∷ xs) k) (half j) ∙ e) fits)
  where
    half : (j : ℕ) → suc (j / 2) ≡ suc (suc j) / 2
    half j = omega arith

    parity : (j : ℕ) → j % 2 ≡ suc (suc j) % 2
    parity j = omega arith

-- the bytes of a body, behind its fields
pub byte-literals : (ws : List ℕ) (j w : ℕ) → literals_in (slice_set ws (1 + literal_count (header_in ws) + j) w) ≡ literals_in ws
byte-literals [] j w = refl
byte-literals (h ∷ rest) j w =
    ap (λ (k : ℕ). literals_in (slice_set (h ∷ rest) k w)) (next (literal_count (int_of_short h)) j)
    ∙ take-set-past (literal_count (int_of_short h)) rest (literal_count (int_of_short h) + j) w (omega arith)
  where
    next : (n j : ℕ) → 1 + n + j ≡ suc (n + j)
    next n j = omega arith

pub byte-header : (ws : List ℕ) (j w : ℕ) → header_in (slice_set ws (1 + literal_count (header_in ws) + j) w) ≡ header_in ws
byte-header [] j w = refl
byte-header (h ∷ rest) j w = ap (λ (k : ℕ). header_in (slice_set (h ∷ rest) k w)) (next (literal_count (int_of_short h)) j)
  where
    next : (n j : ℕ) → 1 + n + j ≡ suc (n + j)
    next n j = omega arith

pub byte-code : (ws : List ℕ) (j w : ℕ) → code_in (slice_set ws (1 + literal_count (header_in ws) + j) w) ≡ slice_set (code_in ws) j w
byte-code [] j w = refl
byte-code (h ∷ rest) j w =
    ap (λ (k : ℕ). code_in (slice_set (h ∷ rest) k w)) (next (literal_count (int_of_short h)) j)
    ∙ drop-set-past (literal_count (int_of_short h)) rest (literal_count (int_of_short h) + j) w (omega arith)
    ∙ ap (λ (k : ℕ). slice_set (drop (literal_count (int_of_short h)) rest) k w) (omega arith)
  where
    next : (n j : ℕ) → 1 + n + j ≡ suc (n + j)
    next n j = omega arith

pub code-get : (ws : List ℕ) (j : ℕ) → slice_get (code_in ws) j ≡ slice_get ws (1 + literal_count (header_in ws) + j)
code-get [] j = refl
code-get (h ∷ rest) j = drop-get (literal_count (int_of_short h)) rest j ∙ ap (λ (k : ℕ). slice_get (h ∷ rest) k) (next (literal_count (int_of_short h)) j)
  where
    next : (n j : ℕ) → suc (n + j) ≡ 1 + n + j
    next n j = omega arith

pub code-length : (ws : List ℕ) (len : ℕ) → length ws ≡ words_for kind.Method len (literal_count (header_in ws)) → length (code_in ws) ≡ (len + 1) / 2
code-length [] len long = absurd (omega arith)
code-length (h ∷ rest) len long = length-drop-of (literal_count (int_of_short h)) rest ∙ omega arith

-- one byte among the first len of these words
one-byte : (ws : List ℕ) (len i w b : ℕ) → length ws ≡ (len + 1) / 2 → i < len → slice_get ws (i / 2) ≡ Some w → b < 256
    → take len (bytes_in (slice_set ws (i / 2) (with_byte w i b))) ≡ put_run (take len (bytes_in ws)) i (b ∷ [])
one-byte ws len i w b long low at fits =
    ap (take len) (byte-set ws i w b at fits) ∙ take-set-at len (bytes_in ws) i b
    ∙ set-run (take len (bytes_in ws)) i b (let all = length-bytes ws in let size = length-take-of len (bytes_in ws) (omega arith) in omega arith)

pub byte-pointers : (k : Kind) (ws : List ℕ) (i w b : ℕ) → HasBytes k → pointers k (byte_written k ws i w b) ≡ pointers k ws
byte-pointers k ws i w b (InBytes e) = subst (λ (k : Kind). pointers k (byte_written k ws i w b) ≡ pointers k ws) (sym e) refl
byte-pointers k ws i w b (InMethod e) = subst (λ (k : Kind). pointers k (byte_written k ws i w b) ≡ pointers k ws) (sym e) (byte-literals ws (i / 2) (with_byte w i b))

pub byte-long : (k : Kind) (ws : List ℕ) (len i w b : ℕ) → HasBytes k → length ws ≡ words_for k len (literal_count (header_in ws)) → length (byte_written k ws i w b) ≡ words_for k len (literal_count (header_in (byte_written k ws i w b)))
byte-long k ws len i w b (InBytes e) = subst (λ (k : Kind). length ws ≡ words_for k len (literal_count (header_in ws)) → length (byte_written k ws i w b) ≡ words_for k len (literal_count (header_in (byte_written k ws i w b)))) (sym e)
    (λ long. length-set ws (0 + i / 2) (with_byte w i b) ∙ long)
byte-long k ws len i w b (InMethod e) = subst (λ (k : Kind). length ws ≡ words_for k len (literal_count (header_in ws)) → length (byte_written k ws i w b) ≡ words_for k len (literal_count (header_in (byte_written k ws i w b)))) (sym e)
    (λ long. length-set ws (1 + literal_count (header_in ws) + i / 2) (with_byte w i b) ∙ long ∙ ap (λ h. words_for kind.Method len (literal_count h)) (sym (byte-header ws (i / 2) (with_byte w i b))))

bytes-body : (entries : ℕ → Entry) (old : List Value) (ws : List ℕ) (len i w b : ℕ) → length ws ≡ (len + 1) / 2 → i < len → slice_get ws (0 + i / 2) ≡ Some w → b < 256
    → body_in entries old (slice_set ws (0 + i / 2) (with_byte w i b)) kind.Bytes len ≡ with_bytes (body_in entries old ws kind.Bytes len) i (b ∷ [])
unfolding body_in
bytes-body entries old ws len i w b long low at fits =
    ap (λ (k : ℕ). body.Bytes (take len (bytes_in (slice_set ws k (with_byte w i b))))) none
    ∙ ap body.Bytes (one-byte ws len i w b long low (ap (λ (k : ℕ). slice_get ws k) (sym none) ∙ at) fits)
  where
    none : 0 + i / 2 ≡ i / 2
    none = omega arith

method-body : (entries : ℕ → Entry) (old : List Value) (ws : List ℕ) (len i w b : ℕ) → length ws ≡ words_for kind.Method len (literal_count (header_in ws)) → i < len → slice_get ws (1 + literal_count (header_in ws) + i / 2) ≡ Some w → b < 256
    → body_in entries old (slice_set ws (1 + literal_count (header_in ws) + i / 2) (with_byte w i b)) kind.Method len ≡ with_bytes (body_in entries old ws kind.Method len) i (b ∷ [])
unfolding body_in
method-body entries old ws len i w b long low at fits = λ j. body.Method (byte-header ws (i / 2) (with_byte w i b) j) (values_by (meant entries old) (byte-literals ws (i / 2) (with_byte w i b) j)) (code j)
  where
    code : take len (bytes_in (code_in (slice_set ws (1 + literal_count (header_in ws) + i / 2) (with_byte w i b)))) ≡ put_run (take len (bytes_in (code_in ws))) i (b ∷ [])
    code = ap (λ vs. take len (bytes_in vs)) (byte-code ws (i / 2) (with_byte w i b))
        ∙ one-byte (code_in ws) len i w b (code-length ws len long) low (code-get ws (i / 2) ∙ at) fits

pub byte-body : (entries : ℕ → Entry) (old : List Value) (k : Kind) (ws : List ℕ) (len i w b : ℕ) → HasBytes k → length ws ≡ words_for k len (literal_count (header_in ws)) → i < len → slice_get ws (first_byte k ws + i / 2) ≡ Some w → b < 256
    → body_in entries old (byte_written k ws i w b) k len ≡ with_bytes (body_in entries old ws k len) i (b ∷ [])
byte-body entries old k ws len i w b (InBytes e) = subst (λ (k : Kind). length ws ≡ words_for k len (literal_count (header_in ws)) → i < len → slice_get ws (first_byte k ws + i / 2) ≡ Some w → b < 256 → body_in entries old (byte_written k ws i w b) k len ≡ with_bytes (body_in entries old ws k len) i (b ∷ [])) (sym e)
    (bytes-body entries old ws len i w b)
byte-body entries old k ws len i w b (InMethod e) = subst (λ (k : Kind). length ws ≡ words_for k len (literal_count (header_in ws)) → i < len → slice_get ws (first_byte k ws + i / 2) ≡ Some w → b < 256 → body_in entries old (byte_written k ws i w b) k len ≡ with_bytes (body_in entries old ws k len) i (b ∷ [])) (sym e)
    (method-body entries old ws len i w b)

pub byte-len : (entries : ℕ → Entry) (old : List Value) (k : Kind) (ws : List ℕ) (len : ℕ) → HasBytes k → length ws ≡ words_for k len (literal_count (header_in ws)) → len_of (body_in entries old ws k len) ≡ len
byte-len entries old k ws len (InBytes e) = subst (λ (k : Kind). length ws ≡ words_for k len (literal_count (header_in ws)) → len_of (body_in entries old ws k len) ≡ len) (sym e)
    (λ long. ap len_of (in-bytes entries old ws kind.Bytes len refl) ∙ length-take-of len (bytes_in ws) (let all = length-bytes ws in omega arith))
byte-len entries old k ws len (InMethod e) = subst (λ (k : Kind). length ws ≡ words_for k len (literal_count (header_in ws)) → len_of (body_in entries old ws k len) ≡ len) (sym e)
    (λ long. ap len_of (in-method entries old ws kind.Method len refl) ∙ length-take-of len (bytes_in (code_in ws)) (let all = length-bytes (code_in ws) in let size = code-length ws len long in omega arith))

-- where the byte's word stands
pub byte-spot : (k : Kind) (ws : List ℕ) (len i : ℕ) → HasBytes k → length ws ≡ words_for k len (literal_count (header_in ws)) → i < len → first_byte k ws + i / 2 < length ws
byte-spot k ws len i (InBytes e) = subst (λ (k : Kind). length ws ≡ words_for k len (literal_count (header_in ws)) → i < len → first_byte k ws + i / 2 < length ws) (sym e) (λ long low. omega arith)
byte-spot k ws len i (InMethod e) = subst (λ (k : Kind). length ws ≡ words_for k len (literal_count (header_in ws)) → i < len → first_byte k ws + i / 2 < length ws) (sym e) (λ long low. omega arith)

pub byte-rewritten : (a m d : Core) (s p i w b : ℕ) → IsCore a → place_of (a.entries s).state ≡ Some p → HasBytes (a.entries s).kind → m ≡ with_mark a s
    → d ≡ with_words m p (byte_written (a.entries s).kind (a.chunks p).words i w b) → IsRewritten a m d s p (byte_written (a.entries s).kind (a.chunks p).words i w b)
byte-rewritten a m d s p i w b core at has mark write = record {
  core = core;
  place = at;
  mark = mark;
  long = byte-long (a.entries s).kind (a.chunks p).words (a.entries s).len i w b has (core.long s p at);
  same = byte-pointers (a.entries s).kind (a.chunks p).words i w b has;
  write = write;
}

pub byte-as-long : (a : Core) (s p i w b : ℕ) → IsCore a → place_of (a.entries s).state ≡ Some p → HasBytes (a.entries s).kind → IsAsLong a s p (byte_written (a.entries s).kind (a.chunks p).words i w b)
byte-as-long a s p i w b core at has entries old =
    byte-len entries old (a.entries s).kind (byte_written (a.entries s).kind (a.chunks p).words i w b) (a.entries s).len has (byte-long (a.entries s).kind (a.chunks p).words (a.entries s).len i w b has (core.long s p at))
    ∙ sym (byte-len entries old (a.entries s).kind (a.chunks p).words (a.entries s).len has (core.long s p at))

pub byte-means : (a : Core) (s p i w b : ℕ) (o : Object) → IsCore a → place_of (a.entries s).state ≡ Some p → HasBytes (a.entries s).kind → i < (a.entries s).len → slice_get (a.chunks p).words (first_byte (a.entries s).kind (a.chunks p).words + i / 2) ≡ Some w → b < 256
    → (entries : ℕ → Entry) (old : List Value) → body_in entries old (a.chunks p).words (a.entries s).kind (a.entries s).len ≡ o.body
    → body_in entries old (byte_written (a.entries s).kind (a.chunks p).words i w b) (a.entries s).kind (a.entries s).len ≡ with_bytes o.body i (b ∷ [])
byte-means a s p i w b o core at has low there fits entries old same =
    byte-body entries old (a.entries s).kind (a.chunks p).words (a.entries s).len i w b has (core.long s p at) low there fits ∙ ap (λ (x : Body). with_bytes x i (b ∷ [])) same

pub first-none : (k : Kind) (ws : List ℕ) → k ≢ kind.Method → 0 ≡ first_byte k ws
first-none kind.Pointers ws not = refl
first-none kind.Words ws not = refl
first-none kind.Bytes ws not = refl
first-none kind.Method ws not = absurd (not refl)

pub byte-there : (a : Core) (s p i first : ℕ) → IsCore a → place_of (a.entries s).state ≡ Some p → HasBytes (a.entries s).kind → i < (a.entries s).len → first ≡ first_byte (a.entries s).kind (a.chunks p).words → first + i / 2 < length (a.chunks p).words
byte-there a s p i first core at has low e = subst (λ (n : ℕ). n + i / 2 < length (a.chunks p).words) (sym e) (byte-spot (a.entries s).kind (a.chunks p).words (a.entries s).len i has (core.long s p at) low)

-- The words and bytes of a body, and why what an access asks for is there.
use Rattle.std.proofs.Common.{zero, suc, ◌≡◌, ◌≢◌, ℕ, ℤ, pos, negsuc, ◌+◌, ◌-◌, ◌*◌, ◌/◌, ◌%◌, ◌<◌, ◌≤◌, Bool, true, false, cond, eqb, nat_le, nat_lt, if◌then◌else◌, List, [], ◌∷◌, length, take, drop, refl, sym, ◌∙◌, ap, subst, arith, Option, Some, None}
use Rattle.std.proofs.lemmas.Grind.{common_steps}
use Rattle.std.specs.List.{slice_get}
use Rattle.std.specs.Option.{option_and_then}
use Rattle.long_names.specs.Words.{literal_count}
use Rattle.long_names.specs.declared.value.Value.{Value}
use Rattle.long_names.specs.declared.object.Kind.{Kind}
use Rattle.long_names.specs.declared.object.Kind.TheVariants as kind
use Rattle.long_names.specs.declared.object.Body.{Body}
use Rattle.long_names.specs.declared.object.Object.{Object}
use Rattle.long_names.specs.Objects.{len_of, words_of, bytes_of, header_of, fields_of}
use Rattle.long_names.specs.State.{part_at, object_at as object_of_value}
use Rattle.object_table.specs.declared.entry.Entry.{Entry}
use Rattle.object_table.specs.Entries.{place_of}
use Rattle.core_view.specs.Words.{meant, bytes_in, literals_in, code_in, header_in, int_of_short, words_for, most_len, body_in}
use Rattle.core_view.specs.Core.{Core}
use Rattle.core_view.specs.Held.{Disk, fields_there, object_at}
use Rattle.core_view.specs.Kept.{IsCore}
use Rattle.core_view.proofs.Lists.{length-values}
use Rattle.leaf_lambda.proofs.FillLaws.{all-same}
use Rattle.leaf_lambda.proofs.MergeLaws.{bytes-get, drop-get, take-at, length-bytes, length-drop-of, length-take-of, literals-length, code-drop}
use Rattle.object_memory.specs.Told.{Told}
use Rattle.object_memory.specs.Shape.{code_at, field_count}
use Rattle.loom_memory.specs.Gentle.{IsQuiet}
use Rattle.loom_memory.specs.Bodies.{OfBody, HasRun, LacksRun, bytes_from, code_start, code_from}

-- ---- bodies

-- a body of an entry is as long as the entry says
pub len-is : (entries : ℕ → Entry) (old : List Value) (ws : List ℕ) (k : Kind) (len : ℕ) → length ws ≡ words_for k len (literal_count (header_in ws)) → len_of (body_in entries old ws k len) ≡ len
unfolding body_in
len-is entries old ws kind.Pointers len long = length-values (meant entries old) ws ∙ long
len-is entries old ws kind.Words len long = long
len-is entries old ws kind.Bytes len long = let all = length-bytes ws in length-take-of len (bytes_in ws) (omega arith)
len-is entries old [] kind.Method len long = absurd (omega arith)
len-is entries old (h ∷ rest) kind.Method len long =
    let left = length-drop-of (literal_count (int_of_short h)) rest in
    let all = length-bytes (drop (literal_count (int_of_short h)) rest) in
    length-take-of len (bytes_in (drop (literal_count (int_of_short h)) rest)) (omega arith)

pub most-small : (k : Kind) (n : ℕ) → n ≤ most_len k → n < 65536
most-small kind.Pointers n most = omega arith
most-small kind.Words n most = omega arith
most-small kind.Bytes n most = omega arith
most-small kind.Method n most = omega arith

pub words-is : (entries : ℕ → Entry) (old : List Value) (ws : List ℕ) (k : Kind) (len : ℕ) → k ≡ kind.Words → words_of (body_in entries old ws k len) ≡ Some ws
unfolding body_in
words-is entries old ws kind.Pointers len is = cc
words-is entries old ws kind.Words len is = refl
words-is entries old ws kind.Bytes len is = cc
words-is entries old ws kind.Method len is = cc

pub words-none : (entries : ℕ → Entry) (old : List Value) (ws : List ℕ) (k : Kind) (len : ℕ) → (k ≡ kind.Words → ⊥) → words_of (body_in entries old ws k len) ≡ None
unfolding body_in
words-none entries old ws kind.Pointers len not = refl
words-none entries old ws kind.Words len not = absurd (not refl)
words-none entries old ws kind.Bytes len not = refl
words-none entries old ws kind.Method len not = refl

pub words-long : (ws : List ℕ) (k : Kind) (len n : ℕ) → length ws ≡ words_for k len n → k ≡ kind.Words → length ws ≡ len
words-long ws kind.Pointers len n long is = cc
words-long ws kind.Words len n long is = long
words-long ws kind.Bytes len n long is = cc
words-long ws kind.Method len n long is = cc

pub header-is : (entries : ℕ → Entry) (old : List Value) (ws : List ℕ) (k : Kind) (len : ℕ) → k ≡ kind.Method → header_of (body_in entries old ws k len) ≡ Some (header_in ws)
unfolding body_in
header-is entries old ws kind.Pointers len is = cc
header-is entries old ws kind.Words len is = cc
header-is entries old ws kind.Bytes len is = cc
header-is entries old ws kind.Method len is = refl

pub header-none : (entries : ℕ → Entry) (old : List Value) (ws : List ℕ) (k : Kind) (len : ℕ) → (k ≡ kind.Method → ⊥) → header_of (body_in entries old ws k len) ≡ None
unfolding body_in
header-none entries old ws kind.Pointers len not = refl
header-none entries old ws kind.Words len not = refl
header-none entries old ws kind.Bytes len not = refl
header-none entries old ws kind.Method len not = absurd (not refl)

-- a method has as many literals as its header says
pub method-literals : (entries : ℕ → Entry) (old : List Value) (ws : List ℕ) (k : Kind) (len : ℕ) (z : ℤ) → length ws ≡ words_for k len (literal_count (header_in ws)) → header_of (body_in entries old ws k len) ≡ Some z → length (fields_of (body_in entries old ws k len)) ≡ literal_count z
unfolding body_in
method-literals entries old ws kind.Pointers len z long e = cc
method-literals entries old ws kind.Words len z long e = cc
method-literals entries old ws kind.Bytes len z long e = cc
method-literals entries old ws kind.Method len z long e = length-values (meant entries old) (literals_in ws) ∙ literals-length ws len long ∙ ap literal_count (some e)
  where
    some : Some (header_in ws) ≡ Some z → header_in ws ≡ z
    some e = cc

-- ---- bytes

pub bytes-is : (entries : ℕ → Entry) (old : List Value) (ws : List ℕ) (k : Kind) (len first : ℕ) → length ws ≡ words_for k len (literal_count (header_in ws)) → bytes_from k ws ≡ Some first → bytes_of (body_in entries old ws k len) ≡ Some (take len (bytes_in (drop first ws)))
unfolding body_in
bytes-is entries old ws kind.Pointers len first long e = cc
bytes-is entries old ws kind.Words len first long e = cc
bytes-is entries old ws kind.Bytes len first long e = ap (λ (n : ℕ). Some (take len (bytes_in (drop n ws)))) (some e)
  where
    some : Some 0 ≡ Some first → 0 ≡ first
    some e = cc
bytes-is entries old ws kind.Method len first long e =
    ap (λ (xs : List ℕ). Some (take len (bytes_in xs))) (code-drop ws (literal_count (header_in ws)) refl (omega arith)) ∙ ap (λ (n : ℕ). Some (take len (bytes_in (drop n ws)))) (some e)
  where
    some : Some (1 + literal_count (header_in ws)) ≡ Some first → 1 + literal_count (header_in ws) ≡ first
    some e = cc

pub bytes-none : (entries : ℕ → Entry) (old : List Value) (ws : List ℕ) (k : Kind) (len : ℕ) → bytes_from k ws ≡ None → bytes_of (body_in entries old ws k len) ≡ None
unfolding body_in
bytes-none entries old ws kind.Pointers len e = refl
bytes-none entries old ws kind.Words len e = refl
bytes-none entries old ws kind.Bytes len e = cc
bytes-none entries old ws kind.Method len e = cc

pub from-none : (k : Kind) (ws : List ℕ) → (k ≡ kind.Bytes → ⊥) → (k ≡ kind.Method → ⊥) → bytes_from k ws ≡ None
from-none kind.Pointers ws bytes method = refl
from-none kind.Words ws bytes method = refl
from-none kind.Bytes ws bytes method = absurd (bytes refl)
from-none kind.Method ws bytes method = absurd (method refl)

-- two of them to a word
pub bytes-room : (ws : List ℕ) (k : Kind) (len first : ℕ) → length ws ≡ words_for k len (literal_count (header_in ws)) → bytes_from k ws ≡ Some first → length ws ≡ first + (len + 1) / 2
bytes-room ws kind.Pointers len first long e = cc
bytes-room ws kind.Words len first long e = cc
bytes-room ws kind.Bytes len first long e = let is : 0 ≡ first = cc in omega arith
bytes-room ws kind.Method len first long e = let is : 1 + literal_count (header_in ws) ≡ first = cc in omega arith

-- a byte of words
pub byte-low : (first : ℕ) (ws : List ℕ) (i w : ℕ) → slice_get ws (first + i / 2) ≡ Some w → i % 2 ≡ 1 → slice_get (bytes_in (drop first ws)) i ≡ Some (w % 256)
byte-low first ws i w at odd =
    let is : eqb (i % 2) 1 ≡ true = grind (arith, common_steps) in
    bytes-get (drop first ws) i w (drop-get first ws (i / 2) ∙ at) ∙ ap (λ (b : Bool). Some (cond b (w % 256) (w / 256))) is

pub byte-high : (first : ℕ) (ws : List ℕ) (i w : ℕ) → slice_get ws (first + i / 2) ≡ Some w → i % 2 ≢ 1 → slice_get (bytes_in (drop first ws)) i ≡ Some (w / 256)
byte-high first ws i w at even =
    let is : eqb (i % 2) 1 ≡ false = grind (arith, common_steps) in
    bytes-get (drop first ws) i w (drop-get first ws (i / 2) ∙ at) ∙ ap (λ (b : Bool). Some (cond b (w % 256) (w / 256))) is

-- ---- runs

pub run-is : (run all : List ℕ) (at count : ℕ) → length run ≡ count → at + count ≤ length all → ((j : ℕ) → j < count → slice_get run j ≡ slice_get all (at + j)) → run ≡ take count (drop at all)
run-is run all at count long room each =
    let rest = length-drop-of at all in
    let size = length-take-of count (drop at all) (omega arith) in
    all-same run (take count (drop at all)) (omega arith) (λ j low. each j (omega arith) ∙ sym (drop-get at all j) ∙ sym (take-at count (drop at all) j (omega arith)))

-- among the first len
pub byte-among : (bytes : List ℕ) (len i : ℕ) → i < len → slice_get (take len bytes) i ≡ slice_get bytes i
byte-among bytes len i low = take-at len bytes i low

pub bytes-count : (ws : List ℕ) (len first : ℕ) → length ws ≡ first + (len + 1) / 2 → length (take len (bytes_in (drop first ws))) ≡ len
bytes-count ws len first long = let rest = length-drop-of first ws in let all = length-bytes (drop first ws) in length-take-of len (bytes_in (drop first ws)) (omega arith)

pub past-none : (xs : List ℕ) (i : ℕ) → length xs ≤ i → slice_get xs i ≡ None
past-none [] i past = refl
past-none (x ∷ xs) zero past = absurd (omega arith)
past-none (x ∷ xs) (suc i) past = past-none xs i (omega arith)

pub get-some : (xs : List ℕ) (i : ℕ) → i < length xs → slice_get xs i ≡ None → ⊥
get-some [] i low none = omega arith
get-some (x ∷ xs) zero low none = cc
get-some (x ∷ xs) (suc i) low none = get-some xs i (omega arith) none

-- ---- code

-- how many literals the header word of a method says
pub short-literals : (w : ℕ) → w < 65536 → literal_count (int_of_short w) ≡ w / 2 % 64
short-literals w low = go (nat_lt (w / 2) 16384) refl
  where
    go : (b : Bool) → nat_lt (w / 2) 16384 ≡ b → literal_count (if b then pos (w / 2) else negsuc (32767 - w / 2)) ≡ w / 2 % 64
    go true e = omega arith
    go false e = let high : 16384 ≤ w / 2 = grind (arith, common_steps) in omega arith

-- a byte of the words behind so many
bytes-behind : (n : ℕ) (ws : List ℕ) (i : ℕ) → slice_get (bytes_in ws) (2 * n + i) ≡ slice_get (bytes_in (drop n ws)) i
bytes-behind zero ws i = ap (λ (j : ℕ). slice_get (bytes_in ws) j) (omega arith)
bytes-behind (suc n) [] i = refl
bytes-behind (suc n) (w ∷ ws) i = ap (λ (j : ℕ). slice_get (bytes_in (w ∷ ws)) j) (shift n i) ∙ bytes-behind n ws i
  where
    shift : (n i : ℕ) → 2 * suc n + i ≡ suc (suc (2 * n + i))
    shift n i = omega arith

pub code-past : (ws : List ℕ) (len place : ℕ) → length ws ≡ words_for kind.Method len (literal_count (header_in ws)) → code_start ws ≤ place → len ≤ place - code_start ws → code_from ws len place ≡ None
code-past ws len place long low past =
    let is : nat_le (code_start ws) place ≡ true = grind (arith, common_steps) in
    let count = bytes-count ws len (1 + literal_count (header_in ws)) long in
    ap (λ (b : Bool). if b then slice_get (take len (bytes_in (drop (1 + literal_count (header_in ws)) ws))) (place - code_start ws) else None) is
    ∙ past-none (take len (bytes_in (drop (1 + literal_count (header_in ws)) ws))) (place - code_start ws) (omega arith)

pub code-found : (ws : List ℕ) (len place byte : ℕ) → code_start ws ≤ place → place - code_start ws < len → slice_get (bytes_in ws) place ≡ Some byte → code_from ws len place ≡ Some byte
code-found ws len place byte low within found =
    let is : nat_le (code_start ws) place ≡ true = grind (arith, common_steps) in
    let n = literal_count (header_in ws) in
    let same : place ≡ 2 * (1 + literal_count (header_in ws)) + (place - code_start ws) = omega arith in
    ap (λ (b : Bool). if b then slice_get (take len (bytes_in (drop (1 + literal_count (header_in ws)) ws))) (place - code_start ws) else None) is
    ∙ byte-among (bytes_in (drop (1 + literal_count (header_in ws)) ws)) len (place - code_start ws) within
    ∙ sym (bytes-behind (1 + literal_count (header_in ws)) ws (place - code_start ws))
    ∙ ap (λ (j : ℕ). slice_get (bytes_in ws) j) (sym same)
    ∙ found

-- of a body
pub code-is : (entries : ℕ → Entry) (old : List Value) (ws : List ℕ) (k : Kind) (len place : ℕ) → k ≡ kind.Method → length ws ≡ words_for k len (literal_count (header_in ws)) → code_at place (body_in entries old ws k len) ≡ code_from ws len place
unfolding body_in
code-is entries old ws kind.Pointers len place is long = cc
code-is entries old ws kind.Words len place is long = cc
code-is entries old ws kind.Bytes len place is long = cc
code-is entries old ws kind.Method len place is long =
    ap (λ (n : ℕ). if nat_le (2 * (n + 1)) place then slice_get (take len (bytes_in (code_in ws))) (place - 2 * (n + 1)) else None) (length-values (meant entries old) (literals_in ws) ∙ literals-length ws len long)
    ∙ ap (λ (xs : List ℕ). if nat_le (code_start ws) place then slice_get (take len (bytes_in xs)) (place - code_start ws) else None) (code-drop ws (literal_count (header_in ws)) refl (omega arith))

pub code-none : (entries : ℕ → Entry) (old : List Value) (ws : List ℕ) (k : Kind) (len place : ℕ) → (k ≡ kind.Method → ⊥) → code_at place (body_in entries old ws k len) ≡ None
unfolding body_in
code-none entries old ws kind.Pointers len place not = refl
code-none entries old ws kind.Words len place not = refl
code-none entries old ws kind.Bytes len place not = refl
code-none entries old ws kind.Method len place not = absurd (not refl)

-- ---- fields

pub count-is : (entries : ℕ → Entry) (old : List Value) (ws : List ℕ) (k : Kind) (len n : ℕ) → length ws ≡ words_for k len n → k ≡ kind.Pointers → field_count (body_in entries old ws k len) ≡ Some len
unfolding body_in
count-is entries old ws kind.Pointers len n long is = ap (λ (n : ℕ). Some n) (length-values (meant entries old) ws ∙ long)
count-is entries old ws kind.Words len n long is = cc
count-is entries old ws kind.Bytes len n long is = cc
count-is entries old ws kind.Method len n long is = cc

pub count-none : (entries : ℕ → Entry) (old : List Value) (ws : List ℕ) (k : Kind) (len : ℕ) → (k ≡ kind.Pointers → ⊥) → field_count (body_in entries old ws k len) ≡ None
unfolding body_in
count-none entries old ws kind.Pointers len not = absurd (not refl)
count-none entries old ws kind.Words len not = refl
count-none entries old ws kind.Bytes len not = refl
count-none entries old ws kind.Method len not = refl

-- ---- the body of an entry

-- what holds where the body lies holds of it
pub of-body : (c : Core) (s q : ℕ) (P : Body → Type 0) → place_of (c.entries s).state ≡ Some q → ((disk : Disk) → P (object_at c disk (c.entries s) q).body) → OfBody c s P
of-body c s q P at each disk p there = subst (λ (k : ℕ). P (object_at c disk (c.entries s) k).body) (same (sym at ∙ there)) (each disk)
  where
    same : Some q ≡ Some p → q ≡ p
    same e = cc

-- ---- what an access finds

-- a part of the object of a register, seen from before quiet steps
pub part-told : {A : Type 0} (t u : Told) (of : ℕ) (o : Object) (f : Body → Option A) (x : Option A) → IsQuiet t u → object_of_value u.heap (u.regs of) ≡ Some o → f o.body ≡ x → part_at t.heap (t.regs of) f ≡ x
part-told {A} t u of o f x quiet there is =
    sym (ap (λ (z : Told). part_at z.heap (z.regs of) f) quiet.same) ∙ ap (λ (z : Option Object). option_and_then (λ (o : Object). f o.body) z) there ∙ is

pub part-here : {A : Type 0} (u : Told) (of : ℕ) (o : Object) (f : Body → Option A) (x : Option A) → object_of_value u.heap (u.regs of) ≡ Some o → f o.body ≡ x → part_at u.heap (u.regs of) f ≡ x
part-here {A} u of o f x there is = ap (λ (z : Option Object). option_and_then (λ (o : Object). f o.body) z) there ∙ is

-- what was there before is there now
pub part-still : {A : Type 0} (t u : Told) (of : ℕ) (o : Object) (f : Body → Option A) (x : Option A) → IsQuiet t u → object_of_value u.heap (u.regs of) ≡ Some o → part_at t.heap (t.regs of) f ≡ x → f o.body ≡ x
part-still {A} t u of o f x quiet there was =
    sym (ap (λ (z : Option Object). option_and_then (λ (o : Object). f o.body) z) there) ∙ ap (λ (z : Told). part_at z.heap (z.regs of) f) quiet.same ∙ was

-- an element that is asked for is there
pub element-there : (part : Option (List ℕ)) (all : List ℕ) (i : ℕ) → part ≡ Some all → i < length all → option_and_then (λ xs. slice_get xs i) part ≡ None → ⊥
element-there part all i is low none = get-some all i low (sym (ap (λ (x : Option (List ℕ)). option_and_then (λ xs. slice_get xs i) x) is) ∙ none)

pub run-answer : (part : Option (List ℕ)) (at count : ℕ) (run : List ℕ) → HasRun part at count run → option_and_then (λ all. Some (take count (drop at all))) part ≡ Some run
run-answer part at count run has = ap (λ (x : Option (List ℕ)). option_and_then (λ all. Some (take count (drop at all))) x) has.1 ∙ ap Some (sym has.2)

-- ---- bodies of a core

pub words-at : (c : Core) (disk : Disk) (s p : ℕ) → (c.entries s).kind ≡ kind.Words → words_of (object_at c disk (c.entries s) p).body ≡ Some (c.chunks p).words
words-at c disk s p is = words-is c.entries (fields_there (disk (c.entries s).name)) (c.chunks p).words (c.entries s).kind (c.entries s).len is

pub no-words-at : (c : Core) (disk : Disk) (s p : ℕ) → ((c.entries s).kind ≡ kind.Words → ⊥) → words_of (object_at c disk (c.entries s) p).body ≡ None
no-words-at c disk s p not = words-none c.entries (fields_there (disk (c.entries s).name)) (c.chunks p).words (c.entries s).kind (c.entries s).len not

pub words-as-long : (c : Core) (s p : ℕ) → IsCore c → place_of (c.entries s).state ≡ Some p → (c.entries s).kind ≡ kind.Words → length (c.chunks p).words ≡ (c.entries s).len
words-as-long c s p core at is = words-long (c.chunks p).words (c.entries s).kind (c.entries s).len (literal_count (header_in (c.chunks p).words)) (core.long s p at) is

pub bytes-at : (c : Core) (disk : Disk) (s p first : ℕ) → IsCore c → place_of (c.entries s).state ≡ Some p → bytes_from (c.entries s).kind (c.chunks p).words ≡ Some first → bytes_of (object_at c disk (c.entries s) p).body ≡ Some (take (c.entries s).len (bytes_in (drop first (c.chunks p).words)))
bytes-at c disk s p first core at is = bytes-is c.entries (fields_there (disk (c.entries s).name)) (c.chunks p).words (c.entries s).kind (c.entries s).len first (core.long s p at) is

pub no-bytes-at : (c : Core) (disk : Disk) (s p : ℕ) → bytes_from (c.entries s).kind (c.chunks p).words ≡ None → bytes_of (object_at c disk (c.entries s) p).body ≡ None
no-bytes-at c disk s p is = bytes-none c.entries (fields_there (disk (c.entries s).name)) (c.chunks p).words (c.entries s).kind (c.entries s).len is

pub count-at : (c : Core) (disk : Disk) (s p : ℕ) → IsCore c → place_of (c.entries s).state ≡ Some p → (c.entries s).kind ≡ kind.Pointers → field_count (object_at c disk (c.entries s) p).body ≡ Some (c.entries s).len
count-at c disk s p core at is = count-is c.entries (fields_there (disk (c.entries s).name)) (c.chunks p).words (c.entries s).kind (c.entries s).len (literal_count (header_in (c.chunks p).words)) (core.long s p at) is

pub no-count-at : (c : Core) (disk : Disk) (s p : ℕ) → ((c.entries s).kind ≡ kind.Pointers → ⊥) → field_count (object_at c disk (c.entries s) p).body ≡ None
no-count-at c disk s p not = count-none c.entries (fields_there (disk (c.entries s).name)) (c.chunks p).words (c.entries s).kind (c.entries s).len not

pub code-at : (c : Core) (disk : Disk) (s p place : ℕ) → IsCore c → place_of (c.entries s).state ≡ Some p → (c.entries s).kind ≡ kind.Method → code_at place (object_at c disk (c.entries s) p).body ≡ code_from (c.chunks p).words (c.entries s).len place
code-at c disk s p place core at is = code-is c.entries (fields_there (disk (c.entries s).name)) (c.chunks p).words (c.entries s).kind (c.entries s).len place is (core.long s p at)

pub no-code-at : (c : Core) (disk : Disk) (s p place : ℕ) → ((c.entries s).kind ≡ kind.Method → ⊥) → code_at place (object_at c disk (c.entries s) p).body ≡ None
no-code-at c disk s p place not = code-none c.entries (fields_there (disk (c.entries s).name)) (c.chunks p).words (c.entries s).kind (c.entries s).len place not

pub bytes-room-at : (c : Core) (s p first : ℕ) → IsCore c → place_of (c.entries s).state ≡ Some p → bytes_from (c.entries s).kind (c.chunks p).words ≡ Some first → length (c.chunks p).words ≡ first + ((c.entries s).len + 1) / 2
bytes-room-at c s p first core at is = bytes-room (c.chunks p).words (c.entries s).kind (c.entries s).len first (core.long s p at) is

pub small-at : (c : Core) (s p : ℕ) → IsCore c → place_of (c.entries s).state ≡ Some p → (c.entries s).len < 65536
small-at c s p core at = most-small (c.entries s).kind (c.entries s).len (core.small s p at)

-- an element of a part, by its place
pub element-here : (part : Option (List ℕ)) (all : List ℕ) (i x : ℕ) → part ≡ Some all → slice_get all i ≡ Some x → Some x ≡ option_and_then (λ xs. slice_get xs i) part
element-here part all i x is at = sym (ap (λ (z : Option (List ℕ)). option_and_then (λ xs. slice_get xs i) z) is ∙ at)

pub element-none : (part : Option (List ℕ)) (all : List ℕ) (i : ℕ) → part ≡ Some all → length all ≤ i → None ≡ option_and_then (λ xs. slice_get xs i) part
element-none part all i is past = sym (ap (λ (z : Option (List ℕ)). option_and_then (λ xs. slice_get xs i) z) is ∙ past-none all i past)

pub none-there : (part : Option (List ℕ)) (i : ℕ) → part ≡ None → None ≡ option_and_then (λ xs. slice_get xs i) part
none-there part i is = sym (ap (λ (z : Option (List ℕ)). option_and_then (λ xs. slice_get xs i) z) is)

pub run-here : (part : Option (List ℕ)) (all run : List ℕ) (at count : ℕ) → part ≡ Some all → length run ≡ count → at + count ≤ length all → ((j : ℕ) → j < count → slice_get run j ≡ slice_get all (at + j)) → HasRun part at count run
run-here part all run at count is long room each = (all, is, run-is run all at count long room each)

pub run-short : (part : Option (List ℕ)) (all : List ℕ) (at count : ℕ) → part ≡ Some all → length all < at + count → LacksRun part at count
run-short part all at count is short other same room = let both : all ≡ other = some (sym is ∙ same) in let size = ap length both in omega arith
  where
    some : Some all ≡ Some other → all ≡ other
    some e = cc

pub run-none : (part : Option (List ℕ)) (at count : ℕ) → part ≡ None → LacksRun part at count
run-none part at count is other same room = let both : None ≡ Some other = sym is ∙ same in absurd (cc)

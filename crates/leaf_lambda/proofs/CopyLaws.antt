-- A record that is like an object, and what it is once the body was merged into it.
use Rattle.std.proofs.Common.{◌≡◌, ◌≢◌, ℕ, ◌+◌, ◌/◌, ◌%◌, ◌<◌, ◌≤◌, Bool, true, false, eqb, List, [], ◌∷◌, length, map, refl, sym, ◌∙◌, ap, arith, Some}
use Rattle.std.proofs.Math.ListN.{length-replicate}
use Rattle.std.specs.List.{slice_get}
use Rattle.std.specs.Prelude.{take, drop}
use Rattle.long_names.specs.Words.{literal_count}
use Rattle.std.proofs.lemmas.Grind.{common_steps}
use Rattle.long_names.specs.Objects.{kind_of, len_of, fields_of}
use Rattle.long_names.specs.declared.value.Value.{Value}
use Rattle.long_names.specs.declared.object.Kind.{Kind}
use Rattle.long_names.specs.declared.object.Kind.TheVariants as kind
use Rattle.long_names.specs.declared.object.Body.TheVariants as body
use Rattle.long_names.specs.declared.object.Object.{Object}
use Rattle.object_record.specs.Raw.{RawBody, RawPointers, RawWords, RawBytes, RawMethod, RawRecord, raw_kind, raw_len, raw_literals, longs_of, with_raw, body_with_header, blank_body, blank_record, CanBlank}
use Rattle.object_record.specs.Buffer.{raw_of, HasRecord}
use Rattle.object_record.specs.Objects.{int_in, value_in, body_of, object_in}
use Rattle.object_table.specs.declared.entry.Entry.{Entry}
use Rattle.object_table.specs.Entries.{place_of}
use Rattle.core_view.specs.Core.{Core}
use Rattle.core_view.specs.Words.{int_of_short, meant, values_by, bytes_in, header_in, code_in, pointers, body_in, words_for, most_len}
use Rattle.core_view.specs.Held.{Disk, fields_there, object_at}
use Rattle.core_view.specs.Kept.{IsCore, IsBacked}
use Rattle.core_view.proofs.Core.{body-means}
use Rattle.core_view.proofs.Few.{literal_count-small}
use Rattle.core_view.proofs.Lists.{length-values}
use Rattle.core_view.proofs.Words.{body-fields}
use Rattle.leaf_lambda.specs.Records.{IsCopy, IsMerged, literals_for, with_longs, with_words, with_bytes}
use Rattle.leaf_lambda.proofs.RecordLaws.{fields-values, length-map}
use Rattle.leaf_lambda.proofs.MergeLaws.{is-pointers, is-words, is-bytes, is-method, in-pointers, in-words, in-bytes, in-method, literals-length, code-drop, header-first, length-bytes, length-drop-of, length-take-of}

some-same : {A : Type 0} (x y : A) → Some x ≡ Some y → x ≡ y
some-same x y e = cc

-- ---- sizes

pub words-small : (k : Kind) (len : ℕ) (ws : List ℕ) → length ws ≡ words_for k len (literal_count (header_in ws)) → len ≤ most_len k → length ws < 131072
words-small kind.Pointers len ws long small = omega arith
words-small kind.Words len ws long small = omega arith
words-small kind.Bytes len ws long small = omega arith
words-small kind.Method len ws long small = let few = literal_count-small (header_in ws) in omega arith

pub most-small : (k : Kind) → most_len k ≤ 65535
most-small kind.Pointers = omega arith
most-small kind.Words = omega arith
most-small kind.Bytes = omega arith
most-small kind.Method = omega arith

pub len-small : (c : Core) (s p : ℕ) → IsCore c → place_of (c.entries s).state ≡ Some p → (c.entries s).len ≤ 65535
len-small c s p core at = let small = core.small s p at in let most = most-small (c.entries s).kind in omega arith

pub body-small : (c : Core) (s p : ℕ) → IsCore c → place_of (c.entries s).state ≡ Some p → length (c.chunks p).words < 131072
body-small c s p core at = words-small (c.entries s).kind (c.entries s).len (c.chunks p).words (core.long s p at) (core.small s p at)

-- how many words a body of this kind has
pub long-as : (c : Core) (s p : ℕ) (k : Kind) → IsCore c → place_of (c.entries s).state ≡ Some p → (c.entries s).kind ≡ k → length (c.chunks p).words ≡ words_for k (c.entries s).len (literal_count (header_in (c.chunks p).words))
long-as c s p k core at is = core.long s p at ∙ ap (λ (x : Kind). words_for x (c.entries s).len (literal_count (header_in (c.chunks p).words))) is

pub method-some : (c : Core) (s p : ℕ) → IsCore c → place_of (c.entries s).state ≡ Some p → (c.entries s).kind ≡ kind.Method → 0 < length (c.chunks p).words
method-some c s p core at is = let long = long-as c s p kind.Method core at is in omega arith

-- a method's record has as many literals as its header in the core says
pub method-literals : (c : Core) (s p : ℕ) (bytes : List ℕ) → IsCore c → place_of (c.entries s).state ≡ Some p → IsCopy bytes (c.entries s) (c.chunks p).words → raw_kind (raw_of bytes).body ≡ kind.Method → raw_literals (raw_of bytes).body ≡ literal_count (header_in (c.chunks p).words)
method-literals c s p bytes core at copy method =
    let is : (c.entries s).kind ≡ kind.Method = sym copy.same_kind ∙ method in
    (is-method (raw_of bytes).body method 0 [] []).literals ∙ copy.same_fields ∙ ap (λ (k : Kind). length (pointers k (c.chunks p).words)) is
    ∙ literals-length (c.chunks p).words (c.entries s).len (long-as c s p kind.Method core at is)

-- ---- merged bodies

old-fields : (c : Core) (s p : ℕ) (b : RawBody) → body_in c.entries (map value_in (longs_of b)) (c.chunks p).words (c.entries s).kind (c.entries s).len ≡ body_in c.entries (fields_of (body_of b)) (c.chunks p).words (c.entries s).kind (c.entries s).len
old-fields c s p b = ap (λ (vs : List Value). body_in c.entries vs (c.chunks p).words (c.entries s).kind (c.entries s).len) (sym (fields-values b))

pub pointers-merged : (c : Core) (s p : ℕ) (old next : List ℕ) → IsCopy old (c.entries s) (c.chunks p).words → raw_kind (raw_of old).body ≡ kind.Pointers → HasRecord next
    → raw_of next ≡ with_raw (raw_of old) (with_longs (raw_of old).body (longs_of (raw_of next).body))
    → map value_in (longs_of (raw_of next).body) ≡ values_by (meant c.entries (map value_in (longs_of (raw_of old).body))) (pointers (c.entries s).kind (c.chunks p).words)
    → IsMerged c s p old next
pointers-merged c s p old next copy k there is values = record {
  record_there = there;
  same_name = ap (λ (r : RawRecord). r.name) is;
  same_class = ap (λ (r : RawRecord). r.class) is;
  merged = ap (λ (r : RawRecord). body_of r.body) is ∙ (is-pointers (raw_of old).body k (longs_of (raw_of next).body)).0 ∙ ap body.Pointers values
      ∙ sym (in-pointers c.entries (map value_in (longs_of (raw_of old).body)) (c.chunks p).words (c.entries s).kind (c.entries s).len (sym copy.same_kind ∙ k)) ∙ old-fields c s p (raw_of old).body;
}

pub words-merged : (c : Core) (s p : ℕ) (old next : List ℕ) → IsCopy old (c.entries s) (c.chunks p).words → raw_kind (raw_of old).body ≡ kind.Words → HasRecord next
    → raw_of next ≡ with_raw (raw_of old) (with_words (raw_of old).body (c.chunks p).words) → IsMerged c s p old next
words-merged c s p old next copy k there is = record {
  record_there = there;
  same_name = ap (λ (r : RawRecord). r.name) is;
  same_class = ap (λ (r : RawRecord). r.class) is;
  merged = ap (λ (r : RawRecord). body_of r.body) is ∙ (is-words (raw_of old).body k (c.chunks p).words).0
      ∙ sym (in-words c.entries (fields_of (body_of (raw_of old).body)) (c.chunks p).words (c.entries s).kind (c.entries s).len (sym copy.same_kind ∙ k));
}

pub bytes-merged : (c : Core) (s p len : ℕ) (old next : List ℕ) → IsCopy old (c.entries s) (c.chunks p).words → raw_kind (raw_of old).body ≡ kind.Bytes → HasRecord next → len ≡ raw_len (raw_of old).body
    → raw_of next ≡ with_raw (raw_of old) (with_bytes (raw_of old).body (take len (bytes_in (drop 0 (c.chunks p).words)))) → IsMerged c s p old next
bytes-merged c s p len old next copy k there same is = record {
  record_there = there;
  same_name = ap (λ (r : RawRecord). r.name) is;
  same_class = ap (λ (r : RawRecord). r.class) is;
  merged = ap (λ (r : RawRecord). body_of r.body) is ∙ (is-bytes (raw_of old).body k (take len (bytes_in (drop 0 (c.chunks p).words)))).0 ∙ ap (λ (n : ℕ). body.Bytes (take n (bytes_in (c.chunks p).words))) (same ∙ copy.same_len)
      ∙ sym (in-bytes c.entries (fields_of (body_of (raw_of old).body)) (c.chunks p).words (c.entries s).kind (c.entries s).len (sym copy.same_kind ∙ k));
}

pub method-merged : (c : Core) (s p h w count len : ℕ) (longs old next : List ℕ) → IsCore c → place_of (c.entries s).state ≡ Some p → IsCopy old (c.entries s) (c.chunks p).words → raw_kind (raw_of old).body ≡ kind.Method → HasRecord next
    → slice_get (c.chunks p).words 0 ≡ Some w → int_in h ≡ int_of_short w → count ≡ raw_literals (raw_of old).body → len ≡ raw_len (raw_of old).body
    → raw_of next ≡ with_raw (raw_of old) (with_bytes (with_longs (body_with_header (raw_of old).body h) longs) (take len (bytes_in (drop (1 + count) (c.chunks p).words))))
    → map value_in longs ≡ values_by (meant c.entries (map value_in (longs_of (raw_of old).body))) (pointers (c.entries s).kind (c.chunks p).words)
    → IsMerged c s p old next
method-merged c s p h w count len longs old next core at copy k there first number counted same is values = record {
  record_there = there;
  same_name = ap (λ (r : RawRecord). r.name) is;
  same_class = ap (λ (r : RawRecord). r.class) is;
  merged = ap (λ (r : RawRecord). body_of r.body) is ∙ (is-method (raw_of old).body k h longs (take len (bytes_in (drop (1 + count) (c.chunks p).words)))).merged
      ∙ (λ i. body.Method ((number ∙ sym (header-first (c.chunks p).words w first)) i) (values i) (code i))
      ∙ sym (in-method c.entries (map value_in (longs_of (raw_of old).body)) (c.chunks p).words (c.entries s).kind (c.entries s).len is_method) ∙ old-fields c s p (raw_of old).body;
}
  where
    is_method : (c.entries s).kind ≡ kind.Method
    is_method = sym copy.same_kind ∙ k

    code : take len (bytes_in (drop (1 + count) (c.chunks p).words)) ≡ take (c.entries s).len (bytes_in (code_in (c.chunks p).words))
    code = ap (λ (n : ℕ). take n (bytes_in (drop (1 + count) (c.chunks p).words))) (same ∙ copy.same_len)
        ∙ ap (λ ws. take (c.entries s).len (bytes_in ws)) (sym (code-drop (c.chunks p).words count (counted ∙ method-literals c s p old core at copy k) (method-some c s p core at is_method)))

-- ---- empty records

blank-kind : (k : Kind) (len literals : ℕ) → raw_kind (blank_body k len literals) ≡ k
blank-kind kind.Pointers len literals = refl
blank-kind kind.Words len literals = refl
blank-kind kind.Bytes len literals = refl
blank-kind kind.Method len literals = refl

blank-len : (k : Kind) (len literals : ℕ) → raw_len (blank_body k len literals) ≡ len
blank-len kind.Pointers len literals = length-replicate len 0
blank-len kind.Words len literals = length-replicate len 0
blank-len kind.Bytes len literals = length-replicate len 0
blank-len kind.Method len literals = length-replicate len 0

blank-fields : (k : Kind) (len : ℕ) (ws : List ℕ) → length ws ≡ words_for k len (literal_count (header_in ws)) → length (longs_of (blank_body k len (literals_for k (header_in ws)))) ≡ length (pointers k ws)
blank-fields kind.Pointers len ws long = length-replicate len 0 ∙ sym long
blank-fields kind.Words len ws long = refl
blank-fields kind.Bytes len ws long = refl
blank-fields kind.Method len ws long = length-replicate (literal_count (header_in ws)) 0 ∙ sym (literals-length ws len long)

pub can-blank : (k : Kind) (len : ℕ) (ws : List ℕ) → len ≤ most_len k → CanBlank k len (literals_for k (header_in ws))
can-blank kind.Pointers len ws small = (omega arith, refl)
can-blank kind.Words len ws small = (omega arith, refl)
can-blank kind.Bytes len ws small = (omega arith, refl)
can-blank kind.Method len ws small = (small, let few = literal_count-small (header_in ws) in omega arith)

pub blank-like : (c : Core) (s p n class : ℕ) (next : List ℕ) → IsCore c → place_of (c.entries s).state ≡ Some p → HasRecord next → n ≡ (c.entries s).name
    → raw_of next ≡ blank_record n class (c.entries s).kind (c.entries s).len (literals_for (c.entries s).kind (header_in (c.chunks p).words)) → IsCopy next (c.entries s) (c.chunks p).words
blank-like c s p n class next core at there name is = record {
  record_there = there;
  same_name = ap (λ (r : RawRecord). r.name) is ∙ name;
  same_kind = ap (λ (r : RawRecord). raw_kind r.body) is ∙ blank-kind (c.entries s).kind (c.entries s).len (literals_for (c.entries s).kind (header_in (c.chunks p).words));
  same_len = ap (λ (r : RawRecord). raw_len r.body) is ∙ blank-len (c.entries s).kind (c.entries s).len (literals_for (c.entries s).kind (header_in (c.chunks p).words));
  same_fields = ap (λ (r : RawRecord). length (longs_of r.body)) is ∙ blank-fields (c.entries s).kind (c.entries s).len (c.chunks p).words (core.long s p at);
}

-- ---- the merged object

-- a word that is no lambda means the same over every old copy
pub meant-fixed : (entries : ℕ → Entry) (xs ys : List Value) (i j w : ℕ) → w ≢ 0 → meant entries xs i w ≡ meant entries ys j w
meant-fixed entries xs ys i j w some = odd (eqb (w % 2) 1) refl
  where
    odd : (b : Bool) → eqb (w % 2) 1 ≡ b → meant entries xs i w ≡ meant entries ys j w
    odd true is = simp is refl
    odd false is = none (eqb w 0) refl
      where
        none : (b : Bool) → eqb w 0 ≡ b → meant entries xs i w ≡ meant entries ys j w
        none true nought = absurd (some (grind (arith, common_steps)))
        none false other = simp (is, other) refl

-- over the object's own record
pub old-object : (c : Core) (disk : Disk) (s p : ℕ) (old next : List ℕ) → IsBacked c disk → place_of (c.entries s).state ≡ Some p → (c.entries s).flags.fresh ≡ false → disk (c.entries s).name ≡ Some (object_in (raw_of old)) → IsMerged c s p old next → object_in (raw_of next) ≡ object_at c disk (c.entries s) p
old-object c disk s p old next backed at fresh there m = λ i. record { class = class i; body = bodies i }
  where
    class : (raw_of next).class ≡ (c.entries (c.entries s).class.0).name
    class =
        let like = (backed.body s p at).like fresh in
        m.same_class ∙ ap (λ (o : Object). o.class) (sym (some-same like.object (object_in (raw_of old)) (sym like.there ∙ there))) ∙ like.same_class

    bodies : body_of (raw_of next).body ≡ body_in c.entries (fields_there (disk (c.entries s).name)) (c.chunks p).words (c.entries s).kind (c.entries s).len
    bodies = m.merged ∙ ap (λ o. body_in c.entries (fields_there o) (c.chunks p).words (c.entries s).kind (c.entries s).len) (sym there)

-- over an empty record
pub fresh-object : (c : Core) (disk : Disk) (s p : ℕ) (old next : List ℕ) → IsBacked c disk → place_of (c.entries s).state ≡ Some p → (c.entries s).flags.fresh ≡ true → (raw_of old).class ≡ (c.entries (c.entries s).class.0).name → IsMerged c s p old next → object_in (raw_of next) ≡ object_at c disk (c.entries s) p
fresh-object c disk s p old next backed at fresh class m = λ i. record { class = (m.same_class ∙ class) i; body = bodies i }
  where
    bodies : body_of (raw_of next).body ≡ body_in c.entries (fields_there (disk (c.entries s).name)) (c.chunks p).words (c.entries s).kind (c.entries s).len
    bodies = m.merged ∙ body-means c.entries c.entries (fields_there (disk (c.entries s).name)) (fields_of (body_of (raw_of old).body)) (c.chunks p).words (c.entries s).kind (c.entries s).len
        (λ i w there. meant-fixed c.entries (fields_of (body_of (raw_of old).body)) (fields_there (disk (c.entries s).name)) i i w (λ e. (backed.body s p at).whole fresh i (there ∙ ap Some e)))

kind-of : (b : RawBody) → kind_of (body_of b) ≡ raw_kind b
kind-of (RawPointers longs) = refl
kind-of (RawWords words) = refl
kind-of (RawBytes bytes) = refl
kind-of (RawMethod header literals code) = refl

len-of : (b : RawBody) → len_of (body_of b) ≡ raw_len b
len-of (RawPointers longs) = length-map value_in longs
len-of (RawWords words) = refl
len-of (RawBytes bytes) = refl
len-of (RawMethod header literals code) = refl

body-kind : (entries : ℕ → Entry) (old : List Value) (ws : List ℕ) (k : Kind) (len : ℕ) → kind_of (body_in entries old ws k len) ≡ k
unfolding body_in
body-kind entries old ws kind.Pointers len = refl
body-kind entries old ws kind.Words len = refl
body-kind entries old ws kind.Bytes len = refl
body-kind entries old ws kind.Method len = refl

code-length : (ws : List ℕ) (len : ℕ) → length ws ≡ words_for kind.Method len (literal_count (header_in ws)) → length (code_in ws) ≡ (len + 1) / 2
code-length [] len long = absurd (omega arith)
code-length (h ∷ rest) len long = let gone = length-drop-of (literal_count (int_of_short h)) rest in omega arith

body-len : (entries : ℕ → Entry) (old : List Value) (ws : List ℕ) (k : Kind) (len : ℕ) → length ws ≡ words_for k len (literal_count (header_in ws)) → len_of (body_in entries old ws k len) ≡ len
unfolding body_in
body-len entries old ws kind.Pointers len long = length-values (meant entries old) ws ∙ long
body-len entries old ws kind.Words len long = long
body-len entries old ws kind.Bytes len long = let all = length-bytes ws in length-take-of len (bytes_in ws) (omega arith)
body-len entries old ws kind.Method len long = let all = length-bytes (code_in ws) in let code = code-length ws len long in length-take-of len (bytes_in (code_in ws)) (omega arith)

-- a body's own record is like it
pub backed-copy : (c : Core) (disk : Disk) (s p : ℕ) (bytes : List ℕ) → IsBacked c disk → place_of (c.entries s).state ≡ Some p → (c.entries s).flags.fresh ≡ false → HasRecord bytes → (raw_of bytes).name ≡ (c.entries s).name → disk (c.entries s).name ≡ Some (object_in (raw_of bytes))
    → length (c.chunks p).words ≡ words_for (c.entries s).kind (c.entries s).len (literal_count (header_in (c.chunks p).words)) → IsCopy bytes (c.entries s) (c.chunks p).words
backed-copy c disk s p bytes backed at fresh there name is long =
    let like = (backed.body s p at).like fresh in
    let same : like.object ≡ object_in (raw_of bytes) = some-same like.object (object_in (raw_of bytes)) (sym like.there ∙ is) in
    record {
      record_there = there;
      same_name = name;
      same_kind = sym (kind-of (raw_of bytes).body) ∙ ap (λ (o : Object). kind_of o.body) (sym same) ∙ like.same_kind ∙ body-kind c.entries (fields_there (disk (c.entries s).name)) (c.chunks p).words (c.entries s).kind (c.entries s).len;
      same_len = sym (len-of (raw_of bytes).body) ∙ ap (λ (o : Object). len_of o.body) (sym same) ∙ like.same_len ∙ body-len c.entries (fields_there (disk (c.entries s).name)) (c.chunks p).words (c.entries s).kind (c.entries s).len long;
      same_fields = sym (ap length (fields-values (raw_of bytes).body) ∙ length-map value_in (longs_of (raw_of bytes).body)) ∙ ap (λ (o : Object). length (fields_of o.body)) (sym same) ∙ like.same_fields
          ∙ ap length (body-fields c.entries (fields_there (disk (c.entries s).name)) (c.chunks p).words (c.entries s).kind (c.entries s).len) ∙ length-values (meant c.entries (fields_there (disk (c.entries s).name))) (pointers (c.entries s).kind (c.chunks p).words);
    }

-- How long the texts of records are.
use Rattle.std.proofs.Common.{◌≡◌, ℕ, ℤ, ◌+◌, ◌*◌, ◌%◌, ◌<◌, ◌≤◌, List, [], ◌∷◌, ◌++◌, length, replicate, refl, ap, ◌∙◌, arith}
use Rattle.std.proofs.lemmas.List.{length-append, length-replicate}
use Rattle.long_names.specs.Words.{long_word, literal_count}
use Rattle.long_names.specs.Objects.{IsBody, IsRecord}
use Rattle.long_names.specs.declared.value.Value.{Value}
use Rattle.long_names.specs.declared.value.Value.TheVariants.{Int}
use Rattle.long_names.specs.declared.object.Body.{Body}
use Rattle.long_names.specs.declared.object.Body.TheVariants.{Pointers, Words, Bytes, Method}
use Rattle.long_names.specs.declared.object.Rec.{Rec}
use Rattle.long_names.specs.Record.{two_bytes, four_bytes, values_text, words_text, contents_text, record_head, padding, record_text}
use Rattle.image_format.proofs.Numbers.{wide16, wide32, wide64}

pub length_values : (vs : List Value) → length (values_text vs) ≡ 4 * length vs
length_values [] = refl
length_values (v ∷ vs) = omega (arith, length-append (four_bytes (long_word v)) (values_text vs), wide32.len (long_word v), length_values vs)

pub length_words : (ws : List ℕ) → length (words_text ws) ≡ 2 * length ws
length_words [] = refl
length_words (w ∷ ws) = omega (arith, length-append (two_bytes w) (words_text ws), wide16.len w, length_words ws)

pub length_head : (r : Rec) → length (record_head r) ≡ 20
length_head r = simp (length-append, wide16.len, wide32.len, wide64.len) refl

pub length_record : (r : Rec) → length (record_text r) ≡ 20 + length (contents_text r.body) + padding (20 + length (contents_text r.body))
unfolding record_text
length_record r =
    let parts : length (record_head r ++ contents_text r.body) ≡ 20 + length (contents_text r.body) = length-append (record_head r) (contents_text r.body) ∙ ap (λ (n : ℕ). n + length (contents_text r.body)) (length_head r) in
    length-append (record_head r ++ contents_text r.body) (replicate (padding (length (record_head r ++ contents_text r.body))) 0)
    ∙ ap (λ (n : ℕ). length (record_head r ++ contents_text r.body) + n) (length-replicate (padding (length (record_head r ++ contents_text r.body))) 0)
    ∙ ap (λ (n : ℕ). n + padding n) parts

pub whole_words : (r : Rec) → length (record_text r) % 4 ≡ 0
whole_words r = rw (length_record r) (omega arith)

few_literals : (z : ℤ) → literal_count z < 64
few_literals z = omega arith

longest_contents : (body : Body) → IsBody body → 20 + length (contents_text body) + padding (20 + length (contents_text body)) ≤ 262160
longest_contents (Pointers values) is = omega (arith, is.size, length_values values)
longest_contents (Words words) is = omega (arith, is.size, length_words words)
longest_contents (Bytes bytes) is = omega (arith, is.size)
longest_contents (Method header literals code) is =
    let len : length (contents_text (Method header literals code)) ≡ 8 + 4 * length literals + length code = omega (arith, length-append (four_bytes (length literals)) (four_bytes (long_word (Int header)) ++ (values_text literals ++ code)), length-append (four_bytes (long_word (Int header))) (values_text literals ++ code), length-append (values_text literals) code, wide32.len (length literals), wide32.len (long_word (Int header)), length_values literals) in
    omega (arith, len, is.size.1, is.size.2, few_literals header)

pub longest : (r : Rec) → IsRecord r → length (record_text r) ≤ 262160
longest r is = rw (length_record r) (longest_contents r.body is.body)

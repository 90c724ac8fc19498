-- New records: what is written from the left is the text of a raw record of zeros.
use Rattle.std.proofs.Common.{zero, suc, ◌≡◌, ◌≢◌, ℕ, ◌+◌, ◌-◌, ◌*◌, ◌/◌, ◌%◌, ◌^◌, ◌<◌, ◌≤◌, List, [], ◌++◌, length, take, drop, replicate, refl, sym, ap, ◌∙◌, append_assoc, arith, true}
use Rattle.std.specs.Prelude.{Some}
use Rattle.std.proofs.lemmas.List.{take_at, drop-drop, length-append, length-replicate, length-take-le, take-append-drop, replicate-append-replicate}
use Rattle.std.proofs.lemmas.List.Elements.{All-replicate}
use Rattle.std.proofs.lemmas.Bool.{lt-ltb, eq-eqb}
use Rattle.std.proofs.Common.{eqb, ltb}
use Rattle.long_names.specs.Names.{IsLongName}
use Rattle.long_names.specs.Objects.{put_run}
use Rattle.long_names.specs.Record.{two_bytes, four_bytes, eight_bytes, kind_number, words_text, padding}
use Rattle.long_names.specs.declared.object.Kind.{Kind}
use Rattle.long_names.specs.declared.object.Kind.TheVariants as kind
use Rattle.long_names.specs.declared.limits.TheConstants.{LONGEST_RECORD, MOST_CODE, MOST_LITERALS}
use Rattle.object_record.specs.Raw.{RawBody, RawRecord, HasRawSize, HasRawRange, raw_kind, raw_len, raw_contents, raw_size, longs_text, blank_body, blank_record, CanBlank, stated_literals}
use Rattle.object_record.specs.Buffer.{raw_of, HasRecord}
use Rattle.object_record.specs.Inside.{IsPlain, size_stated}
use Rattle.object_record.proofs.Numbers.{wide16, wide32, wide64}
use Rattle.object_record.proofs.Reading.{IsLong, IsWord, headed, laid, text-laid, skip}
use Rattle.object_record.proofs.Texts.{begun}

pub put-next : (front t piece : List ℕ) (at : ℕ) → length front ≡ at → put_run (front ++ t) at piece ≡ front ++ (piece ++ drop (length piece) t)
put-next front t piece at len = rw (take_at front t at len, skip front t at (length piece) len) (append_assoc front piece (drop (length piece) t))

pub head-written : (b p q r s t : List ℕ) → length p ≡ 4 → length q ≡ 4 → length r ≡ 8 → length s ≡ 2 → length t ≡ 2 → put_run (put_run (put_run (put_run (put_run b 0 p) 4 q) 8 r) 16 s) 18 t ≡ p ++ (q ++ (r ++ (s ++ (t ++ drop 20 b))))
head-written b p q r s t lp lq lr ls lt =
    let b1 : List ℕ = drop 4 b in
    let b2 : List ℕ = drop 8 b in
    let b3 : List ℕ = drop 16 b in
    let b4 : List ℕ = drop 18 b in
    let lpq : length (p ++ q) ≡ 8 = omega (arith, length-append p q, lp, lq) in
    let lpr : length ((p ++ q) ++ r) ≡ 16 = omega (arith, length-append (p ++ q) r, lpq, lr) in
    let lps : length (((p ++ q) ++ r) ++ s) ≡ 18 = omega (arith, length-append ((p ++ q) ++ r) s, lpr, ls) in
    let e1 : put_run b 0 p ≡ p ++ b1 = put-next [] b p 0 refl ∙ ap (λ (n : ℕ). p ++ drop n b) lp in
    let e2 : put_run (p ++ b1) 4 q ≡ (p ++ q) ++ b2 = put-next p b1 q 4 lp ∙ ap (λ (u : List ℕ). p ++ (q ++ u)) (ap (λ (n : ℕ). drop n b1) lq ∙ drop-drop 4 4 b) ∙ sym (append_assoc p q b2) in
    let e3 : put_run ((p ++ q) ++ b2) 8 r ≡ ((p ++ q) ++ r) ++ b3 = put-next (p ++ q) b2 r 8 lpq ∙ ap (λ (u : List ℕ). (p ++ q) ++ (r ++ u)) (ap (λ (n : ℕ). drop n b2) lr ∙ drop-drop 8 8 b) ∙ sym (append_assoc (p ++ q) r b3) in
    let e4 : put_run (((p ++ q) ++ r) ++ b3) 16 s ≡ (((p ++ q) ++ r) ++ s) ++ b4 = put-next ((p ++ q) ++ r) b3 s 16 lpr ∙ ap (λ (u : List ℕ). ((p ++ q) ++ r) ++ (s ++ u)) (ap (λ (n : ℕ). drop n b3) ls ∙ drop-drop 2 16 b) ∙ sym (append_assoc ((p ++ q) ++ r) s b4) in
    let e5 : put_run ((((p ++ q) ++ r) ++ s) ++ b4) 18 t ≡ (((p ++ q) ++ r) ++ s) ++ (t ++ drop 20 b) = put-next (((p ++ q) ++ r) ++ s) b4 t 18 lps ∙ ap (λ (u : List ℕ). (((p ++ q) ++ r) ++ s) ++ (t ++ u)) (ap (λ (n : ℕ). drop n b4) lt ∙ drop-drop 2 18 b) in
    let grouped : (((p ++ q) ++ r) ++ s) ++ (t ++ drop 20 b) ≡ p ++ (q ++ (r ++ (s ++ (t ++ drop 20 b)))) = simp append_assoc in
    ap (λ (u : List ℕ). put_run (put_run (put_run (put_run u 4 q) 8 r) 16 s) 18 t) e1
    ∙ ap (λ (u : List ℕ). put_run (put_run (put_run u 8 r) 16 s) 18 t) e2
    ∙ ap (λ (u : List ℕ). put_run (put_run u 16 s) 18 t) e3
    ∙ ap (λ (u : List ℕ). put_run u 18 t) e4
    ∙ e5 ∙ grouped

-- what stands behind a head, put anew
pub head-kept : (name class count k size : ℕ) (t u : List ℕ) → take 20 (headed name class count k size t) ++ u ≡ headed name class count k size u
head-kept name class count k size t u =
    let h : List ℕ = four_bytes name ++ (four_bytes class ++ (eight_bytes count ++ (two_bytes k ++ two_bytes size))) in
    let len : length h ≡ 20 = omega (arith, length-append (four_bytes name) (four_bytes class ++ (eight_bytes count ++ (two_bytes k ++ two_bytes size))), length-append (four_bytes class) (eight_bytes count ++ (two_bytes k ++ two_bytes size)), length-append (eight_bytes count) (two_bytes k ++ two_bytes size), length-append (two_bytes k) (two_bytes size), wide32.len name, wide32.len class, wide64.len count, wide16.len k, wide16.len size) in
    let before : headed name class count k size t ≡ h ++ t = simp append_assoc in
    let after : h ++ u ≡ headed name class count k size u = simp append_assoc in
    ap (λ (s : List ℕ). take 20 s ++ u) before ∙ ap (λ (s : List ℕ). s ++ u) (take_at h t 20 len) ∙ after

longs-zero : (n : ℕ) → longs_text (replicate n 0) ≡ replicate (4 * n) 0
unfolding four_bytes
longs-zero zero = refl
longs-zero (suc n) =
    let e : 4 + 4 * n ≡ 4 * suc n = omega arith in
    let first : four_bytes 0 ≡ replicate 4 0 = refl in
    ap (λ (s : List ℕ). s ++ longs_text (replicate n 0)) first ∙ ap (λ (s : List ℕ). replicate {A = ℕ} 4 0 ++ s) (longs-zero n) ∙ replicate-append-replicate {A = ℕ} 4 (4 * n) 0 ∙ ap (λ (k : ℕ). replicate {A = ℕ} k 0) e

words-zero : (n : ℕ) → words_text (replicate n 0) ≡ replicate (2 * n) 0
unfolding two_bytes
words-zero zero = refl
words-zero (suc n) =
    let e : 2 + 2 * n ≡ 2 * suc n = omega arith in
    let first : two_bytes 0 ≡ replicate 2 0 = refl in
    ap (λ (s : List ℕ). s ++ words_text (replicate n 0)) first ∙ ap (λ (s : List ℕ). replicate {A = ℕ} 2 0 ++ s) (words-zero n) ∙ replicate-append-replicate {A = ℕ} 2 (2 * n) 0 ∙ ap (λ (k : ℕ). replicate {A = ℕ} k 0) e

plain-contents : (k : Kind) (len : ℕ) → IsPlain k → raw_contents (blank_body k len 0) ≡ replicate (size_stated k len 0) 0
plain-contents kind.Pointers len is = longs-zero len
plain-contents kind.Words len is = words-zero len
plain-contents kind.Bytes len is = refl
plain-contents kind.Method len is = absurd is

record IsBlank (k : Kind) (len literals : ℕ) (body : RawBody) : Type 0 where
  pub kind : raw_kind body ≡ k
  pub len_is : raw_len body ≡ len
  pub ends : raw_size body ≡ size_stated k len literals
  pub size : HasRawSize body
  pub range : HasRawRange body

zero_longs : (n : ℕ) → length (replicate {A = ℕ} n 0) ≡ n
zero_longs n = length-replicate {A = ℕ} n 0

plain-blank : (k : Kind) (len : ℕ) → IsPlain k → len < 2 ^ 16 → IsBlank k len 0 (blank_body k len 0)
plain-blank kind.Pointers len is lt = record { kind = refl; len_is = zero_longs len; ends = ap (λ (n : ℕ). 4 * n) (zero_longs len); size = omega (arith, zero_longs len, lt); range = All-replicate IsLong len 0 (omega arith) }
plain-blank kind.Words len is lt = record { kind = refl; len_is = zero_longs len; ends = ap (λ (n : ℕ). 2 * n) (zero_longs len); size = omega (arith, zero_longs len, lt); range = All-replicate IsWord len 0 (omega arith) }
plain-blank kind.Bytes len is lt = record { kind = refl; len_is = zero_longs len; ends = zero_longs len; size = omega (arith, zero_longs len, lt); range = All-replicate (λ b. b < 2 ^ 8) len 0 (omega arith) }
plain-blank kind.Method len is lt = absurd is

-- a header of no flags states its literals
blank-header : (n : ℕ) → n < 64 → stated_literals (2 * n + 1) ≡ Some n
blank-header n lt =
    let odd : eqb ((2 * n + 1) % 2) 1 ≡ true = eq-eqb _ _ (omega arith) in
    let half : (2 * n + 1) / 2 ≡ n = omega arith in
    let low : ltb n 16384 ≡ true = lt-ltb _ _ (omega (arith, lt)) in
    let count : n % 32768 % 64 ≡ n = omega (arith, lt) in
    rw (odd, half, low, count) refl

method-blank : (len literals : ℕ) → len ≤ MOST_CODE → literals ≤ MOST_LITERALS → IsBlank kind.Method len literals (blank_body kind.Method len literals)
method-blank len literals le few = record {
  kind = refl;
  len_is = zero_longs len;
  ends = omega (arith, zero_longs len, zero_longs literals);
  size = (blank-header literals (omega (arith, few)) ∙ ap (λ (n : ℕ). Some n) (sym (zero_longs literals)), omega (arith, zero_longs len, le));
  range = (omega (arith, few), All-replicate IsLong literals 0 (omega arith), All-replicate (λ b. b < 2 ^ 8) len 0 (omega arith));
}

-- bytes that have this head and these contents begin with the blank record
blank-begun : (b rest : List ℕ) (name class len literals : ℕ) (k : Kind) → IsLongName name → IsLongName class → IsBlank k len literals (blank_body k len literals)
    → b ≡ headed name class 0 (kind_number k) len (raw_contents (blank_body k len literals) ++ (replicate (padding (20 + size_stated k len literals)) 0 ++ rest))
    → HasRecord b × (raw_of b ≡ blank_record name class k len literals)
blank-begun b rest name class len literals k ns cs is e =
    let r : RawRecord = blank_record name class k len literals in
    let c : List ℕ = raw_contents r.body in
    let m : ℕ = 20 + size_stated k len literals in
    let same : headed name class 0 (kind_number k) len (c ++ (replicate (padding m) 0 ++ rest)) ≡ laid r rest =
    ap (λ (q : Kind). headed name class 0 (kind_number q) len (c ++ (replicate (padding m) 0 ++ rest))) (sym is.kind)
    ∙ ap (λ (q : ℕ). headed name class 0 (kind_number (raw_kind r.body)) q (c ++ (replicate (padding m) 0 ++ rest))) (sym is.len_is)
    ∙ ap (λ (q : ℕ). headed name class 0 (kind_number (raw_kind r.body)) (raw_len r.body) (c ++ (replicate (padding (20 + q)) 0 ++ rest))) (sym is.ends) in
    begun b r rest (record { name = ns; class = cs; count = omega arith; size = is.size; range = is.range }) (e ∙ same ∙ sym (text-laid r rest))

pub plain-made : (b head t : List ℕ) (name class len end : ℕ) (k : Kind) → IsLongName name → IsLongName class → IsPlain k → len < 2 ^ 16
    → head ≡ headed name class 0 (kind_number k) len t → end ≡ 20 + size_stated k len 0
    → b ≡ take 20 head ++ (replicate (end + padding end - 20) 0 ++ drop (end + padding end) head)
    → HasRecord b × (raw_of b ≡ blank_record name class k len 0)
plain-made b head t name class len end k ns cs plain lt h e made =
    let m : ℕ = size_stated k len 0 in
    let pad : ℕ = padding (20 + m) in
    let c : List ℕ = raw_contents (blank_body k len 0) in
    let rest : List ℕ = drop (end + padding end) head in
    let long : end + padding end - 20 ≡ m + pad = ap (λ (n : ℕ). n + padding n - 20) e ∙ shorter m pad in
    let zeros : replicate {A = ℕ} (end + padding end - 20) 0 ≡ c ++ replicate pad 0 =
    ap (λ (n : ℕ). replicate {A = ℕ} n 0) long ∙ sym (replicate-append-replicate {A = ℕ} m pad 0) ∙ ap (λ (s : List ℕ). s ++ replicate {A = ℕ} pad 0) (sym (plain-contents k len plain)) in
    let all : b ≡ headed name class 0 (kind_number k) len (c ++ (replicate pad 0 ++ rest)) =
    made
    ∙ ap (λ (s : List ℕ). take 20 s ++ (replicate {A = ℕ} (end + padding end - 20) 0 ++ rest)) h
    ∙ head-kept name class 0 (kind_number k) len t (replicate {A = ℕ} (end + padding end - 20) 0 ++ rest)
    ∙ ap (λ (s : List ℕ). headed name class 0 (kind_number k) len (s ++ rest)) zeros
    ∙ ap (headed name class 0 (kind_number k) len) (append_assoc c (replicate pad 0) rest) in
    blank-begun b rest name class len 0 k ns cs (plain-blank k len plain lt) all
  where
    shorter : (m pad : ℕ) → 20 + m + pad - 20 ≡ m + pad
    shorter m pad = omega arith

-- ---- methods

pub header-written : (b p q : List ℕ) → length b ≡ LONGEST_RECORD → length p ≡ 4 → length q ≡ 4 → put_run (put_run b 20 p) 24 q ≡ take 20 b ++ (p ++ (q ++ drop 28 b))
header-written b p q len lp lq =
    let f : List ℕ = take 20 b in
    let lf : length f ≡ 20 = length-take-le 20 b (omega (arith, len)) in
    let lfp : length (f ++ p) ≡ 24 = omega (arith, length-append f p, lf, lp) in
    let e0 : b ≡ f ++ drop 20 b = sym (take-append-drop 20 b) in
    let e1 : put_run (f ++ drop 20 b) 20 p ≡ (f ++ p) ++ drop 24 b = put-next f (drop 20 b) p 20 lf ∙ ap (λ (u : List ℕ). f ++ (p ++ u)) (ap (λ (n : ℕ). drop n (drop 20 b)) lp ∙ drop-drop 4 20 b) ∙ sym (append_assoc f p (drop 24 b)) in
    let e2 : put_run ((f ++ p) ++ drop 24 b) 24 q ≡ (f ++ p) ++ (q ++ drop 28 b) = put-next (f ++ p) (drop 24 b) q 24 lfp ∙ ap (λ (u : List ℕ). (f ++ p) ++ (q ++ u)) (ap (λ (n : ℕ). drop n (drop 24 b)) lq ∙ drop-drop 4 24 b) in
    ap (λ (u : List ℕ). put_run (put_run u 20 p) 24 q) e0 ∙ ap (λ (u : List ℕ). put_run u 24 q) e1 ∙ e2 ∙ append_assoc f p (q ++ drop 28 b)

method-kept : (name class count k size n header : ℕ) (t u : List ℕ) → take 28 (headed name class count k size (four_bytes n ++ (four_bytes header ++ t))) ++ u ≡ headed name class count k size (four_bytes n ++ (four_bytes header ++ u))
method-kept name class count k size n header t u =
    let v : List ℕ = four_bytes n ++ four_bytes header in
    let h : List ℕ = four_bytes name ++ (four_bytes class ++ (eight_bytes count ++ (two_bytes k ++ (two_bytes size ++ v)))) in
    let len : length h ≡ 28 = omega (arith, length-append (four_bytes name) (four_bytes class ++ (eight_bytes count ++ (two_bytes k ++ (two_bytes size ++ v)))), length-append (four_bytes class) (eight_bytes count ++ (two_bytes k ++ (two_bytes size ++ v))), length-append (eight_bytes count) (two_bytes k ++ (two_bytes size ++ v)), length-append (two_bytes k) (two_bytes size ++ v), length-append (two_bytes size) v, length-append (four_bytes n) (four_bytes header), wide32.len name, wide32.len class, wide64.len count, wide16.len k, wide16.len size, wide32.len n, wide32.len header) in
    let before : headed name class count k size (four_bytes n ++ (four_bytes header ++ t)) ≡ h ++ t = simp append_assoc in
    let after : h ++ u ≡ headed name class count k size (four_bytes n ++ (four_bytes header ++ u)) = simp append_assoc in
    ap (λ (s : List ℕ). take 28 s ++ u) before ∙ ap (λ (s : List ℕ). s ++ u) (take_at h t 28 len) ∙ after

pub method-made : (b head both t : List ℕ) (name class len literals : ℕ) → IsLongName name → IsLongName class → len ≤ MOST_CODE → literals ≤ MOST_LITERALS
    → head ≡ headed name class 0 3 len t
    → both ≡ take 20 head ++ (four_bytes literals ++ (four_bytes (2 * literals + 1) ++ drop 28 head))
    → b ≡ take 28 both ++ (replicate (28 + 4 * literals + len + padding (28 + 4 * literals + len) - 28) 0 ++ drop (28 + 4 * literals + len + padding (28 + 4 * literals + len)) both)
    → HasRecord b × (raw_of b ≡ blank_record name class kind.Method len literals)
method-made b head both t name class len literals ns cs le few h made1 made2 =
    let e : ℕ = 28 + 4 * literals + len in
    let m : ℕ = size_stated kind.Method len literals in
    let pad : ℕ = padding e in
    let rest : List ℕ = drop (e + padding e) both in
    let p : List ℕ = four_bytes literals in
    let q : List ℕ = four_bytes (2 * literals + 1) in
    let ls : List ℕ = longs_text (replicate literals 0) in
    let code : List ℕ = replicate len 0 in
    let ends : e ≡ 20 + m = omega arith in
    let first : both ≡ headed name class 0 3 len (p ++ (q ++ drop 28 head)) = made1 ∙ ap (λ (s : List ℕ). take 20 s ++ (p ++ (q ++ drop 28 head))) h ∙ head-kept name class 0 3 len t (p ++ (q ++ drop 28 head)) in
    let zeros : replicate {A = ℕ} (e + pad - 28) 0 ≡ (ls ++ code) ++ replicate pad 0 =
    ap (λ (n : ℕ). replicate {A = ℕ} n 0) (shorter literals len pad)
    ∙ sym (replicate-append-replicate {A = ℕ} (4 * literals + len) pad 0)
    ∙ ap (λ (s : List ℕ). s ++ replicate {A = ℕ} pad 0) (sym (replicate-append-replicate {A = ℕ} (4 * literals) len 0) ∙ ap (λ (s : List ℕ). s ++ code) (sym (longs-zero literals))) in
    let counted : p ≡ four_bytes (length (replicate {A = ℕ} literals 0)) = ap four_bytes (sym (zero_longs literals)) in
    let grouped : p ++ (q ++ (((ls ++ code) ++ replicate pad 0) ++ rest)) ≡ (p ++ (q ++ (ls ++ code))) ++ (replicate pad 0 ++ rest) = simp append_assoc in
    let all : b ≡ headed name class 0 3 len ((four_bytes (length (replicate {A = ℕ} literals 0)) ++ (q ++ (ls ++ code))) ++ (replicate (padding (20 + m)) 0 ++ rest)) =
    made2
    ∙ ap (λ (s : List ℕ). take 28 s ++ (replicate {A = ℕ} (e + pad - 28) 0 ++ rest)) first
    ∙ method-kept name class 0 3 len literals (2 * literals + 1) (drop 28 head) (replicate {A = ℕ} (e + pad - 28) 0 ++ rest)
    ∙ ap (λ (s : List ℕ). headed name class 0 3 len (p ++ (q ++ (s ++ rest)))) zeros
    ∙ ap (headed name class 0 3 len) grouped
    ∙ ap (λ (s : List ℕ). headed name class 0 3 len ((s ++ (q ++ (ls ++ code))) ++ (replicate {A = ℕ} pad 0 ++ rest))) counted
    ∙ ap (λ (n : ℕ). headed name class 0 3 len ((four_bytes (length (replicate {A = ℕ} literals 0)) ++ (q ++ (ls ++ code))) ++ (replicate {A = ℕ} (padding n) 0 ++ rest))) ends in
    blank-begun b rest name class len literals kind.Method ns cs (method-blank len literals le few) all
  where
    shorter : (literals len pad : ℕ) → 28 + 4 * literals + len + pad - 28 ≡ 4 * literals + len + pad
    shorter literals len pad = omega arith

-- ---- sizes

pub can-method : (k : Kind) (len literals : ℕ) → k ≡ kind.Method → CanBlank k len literals → (len ≤ MOST_CODE) × (literals ≤ MOST_LITERALS)
can-method kind.Pointers len literals is can = absurd cc
can-method kind.Words len literals is can = absurd cc
can-method kind.Bytes len literals is can = absurd cc
can-method kind.Method len literals is can = can

pub can-plain : (k : Kind) (len literals : ℕ) → k ≢ kind.Method → CanBlank k len literals → IsPlain k × (len < 2 ^ 16) × (literals ≡ 0)
can-plain kind.Pointers len literals other can = (tt, can.0, can.1)
can-plain kind.Words len literals other can = (tt, can.0, can.1)
can-plain kind.Bytes len literals other can = (tt, can.0, can.1)
can-plain kind.Method len literals other can = absurd (other refl)

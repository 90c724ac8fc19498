-- Bytes that pass the tests begin with the text of the raw record that is read from them, and bytes that begin with one pass.
use Rattle.std.proofs.Common.{zero, suc, ◌≡◌, ℕ, ◌+◌, ◌*◌, ◌^◌, ◌<◌, ◌≤◌, true, List, [], ◌∷◌, ◌++◌, length, take, drop, replicate, Some, refl, sym, ap, subst, ◌∙◌, append_assoc, arith, eqb}
use Rattle.std.specs.Prelude.{All}
use Rattle.std.specs.List.{list_all}
use Rattle.std.specs.Int.{w16, w32, w64, from_be_bytes}
use Rattle.std.proofs.lemmas.Bool.{and_parts, eqb-true}
use Rattle.std.proofs.lemmas.List.{take_at, drop_at, drop-drop, length-replicate, length-take-le, length-drop, take-append-drop}
use Rattle.std.proofs.lemmas.List.Elements.{All-nil, All-cons}
use Rattle.long_names.specs.Record.{two_bytes, four_bytes, eight_bytes, kind_number, words_text, padding}
use Rattle.long_names.specs.declared.object.Kind.{Kind}
use Rattle.long_names.specs.declared.object.Kind.TheVariants as kind
use Rattle.long_names.specs.declared.limits.TheConstants.{LONGEST_RECORD}
use Rattle.object_record.specs.Raw.{RawBody, RawPointers, RawWords, RawBytes, RawMethod, RawRecord, IsRawRecord, HasRawSize, HasRawRange, raw_kind, raw_len, raw_literals, raw_header, raw_contents, raw_size, raw_end, raw_text, longs_text, stated_literals}
use Rattle.object_record.specs.Buffer.{long_at, word_at, count_in, longs_in, words_in, kind_numbered, body_in, raw_of, HasRecord}
use Rattle.object_record.specs.Inside.{size_stated, zeros_stated, HasStated, IsSized}
use Rattle.object_record.proofs.Numbers.{AreBytes, AreBytes-drop, AreBytes-take, all-bytes, wide16, wide32, wide64}
use Rattle.object_record.proofs.Reading.{IsLong, IsWord, headed, laid, after_head, text-laid, head-kind, head-rest, kind-fits, few-literals}
use Rattle.object_record.proofs.Texts.{begun, length-contents, kind-said, size-said, literals-said}
use Rattle.object_record.proofs.Calls.{get-header, end-said}

-- ---- numbers, back to their bytes

pub long-below : (b : List ℕ) (at : ℕ) → AreBytes b → long_at b at < 2 ^ 32
unfolding long_at
long-below b at fits = wide32.below (take 4 (drop at b)) (AreBytes-take 4 (drop at b) (AreBytes-drop at b fits))

pub word-below : (b : List ℕ) (at : ℕ) → AreBytes b → word_at b at < 2 ^ 16
unfolding word_at
word-below b at fits = wide16.below (take 2 (drop at b)) (AreBytes-take 2 (drop at b) (AreBytes-drop at b fits))

pub count-below : (b : List ℕ) → AreBytes b → count_in b < 2 ^ 64
unfolding count_in
count-below b fits = wide64.below (take 8 (drop 8 b)) (AreBytes-take 8 (drop 8 b) (AreBytes-drop 8 b fits))

split : (n : ℕ) (t text : List ℕ) → text ≡ take n t → t ≡ text ++ drop n t
split n t text e = sym (take-append-drop n t) ∙ ap (λ (s : List ℕ). s ++ drop n t) (sym e)

front-length : (b : List ℕ) (at n : ℕ) → at + n ≤ length b → length (take n (drop at b)) ≡ n
front-length b at n long = length-take-le n (drop at b) (omega (arith, long, length-drop at b))

pub long-back : (b : List ℕ) (at after : ℕ) → at + 4 ≡ after → after ≤ length b → AreBytes b → drop at b ≡ four_bytes (long_at b at) ++ drop after b
unfolding long_at
long-back b at after e long fits =
    split 4 (drop at b) _ (wide32.back (take 4 (drop at b)) (front-length b at 4 (omega (arith, e, long))) (AreBytes-take 4 (drop at b) (AreBytes-drop at b fits)))
    ∙ ap (λ (t : List ℕ). four_bytes (from_be_bytes w32 (take 4 (drop at b))) ++ t) (drop-drop 4 at b ∙ ap (λ (n : ℕ). drop n b) e)

pub word-back : (b : List ℕ) (at after : ℕ) → at + 2 ≡ after → after ≤ length b → AreBytes b → drop at b ≡ two_bytes (word_at b at) ++ drop after b
unfolding word_at
word-back b at after e long fits =
    split 2 (drop at b) _ (wide16.back (take 2 (drop at b)) (front-length b at 2 (omega (arith, e, long))) (AreBytes-take 2 (drop at b) (AreBytes-drop at b fits)))
    ∙ ap (λ (t : List ℕ). two_bytes (from_be_bytes w16 (take 2 (drop at b))) ++ t) (drop-drop 2 at b ∙ ap (λ (n : ℕ). drop n b) e)

pub count-back : (b : List ℕ) → 16 ≤ length b → AreBytes b → drop 8 b ≡ eight_bytes (count_in b) ++ drop 16 b
unfolding count_in
count-back b long fits =
    split 8 (drop 8 b) _ (wide64.back (take 8 (drop 8 b)) (front-length b 8 8 (omega (arith, long))) (AreBytes-take 8 (drop 8 b) (AreBytes-drop 8 b fits)))
    ∙ ap (λ (t : List ℕ). eight_bytes (from_be_bytes w64 (take 8 (drop 8 b))) ++ t) (drop-drop 8 8 b)

pub head-back : (b : List ℕ) → 20 ≤ length b → AreBytes b → b ≡ headed (long_at b 0) (long_at b 4) (count_in b) (word_at b 16) (word_at b 18) (drop 20 b)
head-back b long fits =
    long-back b 0 4 refl (omega (arith, long)) fits
    ∙ ap (λ (t : List ℕ). four_bytes (long_at b 0) ++ t) (long-back b 4 8 refl (omega (arith, long)) fits
    ∙ ap (λ (t : List ℕ). four_bytes (long_at b 4) ++ t) (count-back b (omega (arith, long)) fits
    ∙ ap (λ (t : List ℕ). eight_bytes (count_in b) ++ t) (word-back b 16 18 refl (omega (arith, long)) fits
    ∙ ap (λ (t : List ℕ). two_bytes (word_at b 16) ++ t) (word-back b 18 20 refl long fits))))

-- ---- contents, back to their bytes

record ListBack (text : List ℕ → List ℕ) (width n : ℕ) (Fits : ℕ → Type 0) (xs c : List ℕ) : Type 0 where
  pub parts : c ≡ text xs ++ drop (width * n) c
  pub len : length xs ≡ n
  pub all : All Fits xs

longs-back : (n : ℕ) (c : List ℕ) → AreBytes c → 4 * n ≤ length c → ListBack longs_text 4 n IsLong (longs_in n c) c
unfolding longs_in
longs-back zero c fits long = record { parts = refl; len = refl; all = All-nil IsLong }
longs-back (suc n) c fits long =
    let others = longs-back n (drop 4 c) (AreBytes-drop 4 c fits) (omega (arith, long, length-drop 4 c)) in
    let e : 4 + 4 * n ≡ 4 * suc n = omega arith in
    let last : drop (4 * n) (drop 4 c) ≡ drop (4 * suc n) c = drop-drop (4 * n) 4 c ∙ ap (λ (k : ℕ). drop k c) e in
    let first : c ≡ four_bytes (long_at c 0) ++ drop 4 c = long-back c 0 4 refl (omega (arith, long)) fits in
    record {
      parts = first ∙ ap (λ (t : List ℕ). four_bytes (long_at c 0) ++ t) (others.parts ∙ ap (λ (t : List ℕ). longs_text (longs_in n (drop 4 c)) ++ t) last) ∙ sym (append_assoc (four_bytes (long_at c 0)) (longs_text (longs_in n (drop 4 c))) (drop (4 * suc n) c));
      len = ap suc others.len;
      all = All-cons IsLong (long_at c 0) (longs_in n (drop 4 c)) (long-below c 0 fits) others.all;
    }

words-back : (n : ℕ) (c : List ℕ) → AreBytes c → 2 * n ≤ length c → ListBack words_text 2 n IsWord (words_in n c) c
unfolding words_in
words-back zero c fits long = record { parts = refl; len = refl; all = All-nil IsWord }
words-back (suc n) c fits long =
    let others = words-back n (drop 2 c) (AreBytes-drop 2 c fits) (omega (arith, long, length-drop 2 c)) in
    let e : 2 + 2 * n ≡ 2 * suc n = omega arith in
    let last : drop (2 * n) (drop 2 c) ≡ drop (2 * suc n) c = drop-drop (2 * n) 2 c ∙ ap (λ (k : ℕ). drop k c) e in
    let first : c ≡ two_bytes (word_at c 0) ++ drop 2 c = word-back c 0 2 refl (omega (arith, long)) fits in
    record {
      parts = first ∙ ap (λ (t : List ℕ). two_bytes (word_at c 0) ++ t) (others.parts ∙ ap (λ (t : List ℕ). words_text (words_in n (drop 2 c)) ++ t) last) ∙ sym (append_assoc (two_bytes (word_at c 0)) (words_text (words_in n (drop 2 c))) (drop (2 * suc n) c));
      len = ap suc others.len;
      all = All-cons IsWord (word_at c 0) (words_in n (drop 2 c)) (word-below c 0 fits) others.all;
    }

record BodyBack (k : Kind) (size : ℕ) (c : List ℕ) (body : RawBody) : Type 0 where
  pub parts : c ≡ raw_contents body ++ drop (size_stated k size (long_at c 0)) c
  pub kind : raw_kind body ≡ k
  pub len : raw_len body ≡ size
  pub ends : raw_size body ≡ size_stated k size (long_at c 0)
  pub size_is : HasRawSize body
  pub range : HasRawRange body

method-back : (size : ℕ) (c : List ℕ) → AreBytes c → HasStated kind.Method size (long_at c 0) (long_at c 4) → size_stated kind.Method size (long_at c 0) ≤ length c → BodyBack kind.Method size c (body_in kind.Method size c)
unfolding body_in
method-back size c fits stated long =
    let n : ℕ = long_at c 0 in
    let h : ℕ = long_at c 4 in
    let ls : List ℕ = longs_in n (drop 8 c) in
    let tail : List ℕ = drop (8 + 4 * n) c in
    let code : List ℕ = take size tail in
    let rest : List ℕ = drop (8 + 4 * n + size) c in
    let fields = longs-back n (drop 8 c) (AreBytes-drop 8 c fits) (omega (arith, long, length-drop 8 c)) in
    let codes : length code ≡ size = length-take-le size tail (omega (arith, long, length-drop (8 + 4 * n) c)) in
    let last : tail ≡ code ++ rest = split size tail code refl ∙ ap (λ (t : List ℕ). code ++ t) (drop-drop size (8 + 4 * n) c) in
    let parts : c ≡ four_bytes n ++ (four_bytes h ++ (longs_text ls ++ (code ++ rest))) =
    long-back c 0 4 refl (omega (arith, long)) fits
    ∙ ap (λ (t : List ℕ). four_bytes n ++ t) (long-back c 4 8 refl (omega (arith, long)) fits
    ∙ ap (λ (t : List ℕ). four_bytes h ++ t) (fields.parts ∙ ap (λ (t : List ℕ). longs_text ls ++ t) (drop-drop (4 * n) 8 c ∙ last))) in
    let grouped : four_bytes n ++ (four_bytes h ++ (longs_text ls ++ (code ++ rest))) ≡ (four_bytes n ++ (four_bytes h ++ (longs_text ls ++ code))) ++ rest = simp append_assoc in
    let counted : (four_bytes n ++ (four_bytes h ++ (longs_text ls ++ code))) ++ rest ≡ (four_bytes (length ls) ++ (four_bytes h ++ (longs_text ls ++ code))) ++ rest = ap (λ (k : ℕ). (four_bytes k ++ (four_bytes h ++ (longs_text ls ++ code))) ++ rest) (sym fields.len) in
    let P : ℕ → Type 0 = λ k. stated_literals h ≡ Some k in
    record {
      parts = parts ∙ grouped ∙ counted;
      kind = refl;
      len = codes;
      ends = omega (arith, fields.len, codes);
      size_is = (subst P (sym fields.len) stated.1, omega (arith, codes, stated.0));
      range = (long-below c 4 fits, fields.all, all-bytes code (AreBytes-take size tail (AreBytes-drop (8 + 4 * n) c fits)));
    }

body-back : (k : Kind) (size : ℕ) (c : List ℕ) → AreBytes c → size < 2 ^ 16 → HasStated k size (long_at c 0) (long_at c 4) → size_stated k size (long_at c 0) ≤ length c → BodyBack k size c (body_in k size c)
unfolding body_in
body-back kind.Pointers size c fits lt stated long =
    let b = longs-back size c fits long in
    record { parts = b.parts; kind = refl; len = b.len; ends = ap (λ (n : ℕ). 4 * n) b.len; size_is = omega (arith, b.len, lt); range = b.all }
body-back kind.Words size c fits lt stated long =
    let b = words-back size c fits long in
    record { parts = b.parts; kind = refl; len = b.len; ends = ap (λ (n : ℕ). 2 * n) b.len; size_is = omega (arith, b.len, lt); range = b.all }
body-back kind.Bytes size c fits lt stated long =
    let len : length (take size c) ≡ size = length-take-le size c long in
    record { parts = split size c (take size c) refl; kind = refl; len = len; ends = len; size_is = omega (arith, len, lt); range = all-bytes (take size c) (AreBytes-take size c fits) }
body-back kind.Method size c fits lt stated long = method-back size c fits stated long

-- ---- zeros

all-zeros : (zeros : List ℕ) → list_all (λ b. eqb b 0) zeros ≡ true → zeros ≡ replicate (length zeros) 0
all-zeros [] e = refl
all-zeros (b ∷ bs) e =
    let both = and_parts (eqb b 0) (list_all (λ b. eqb b 0) bs) e in
    let first : b ≡ 0 = eqb-true _ _ both.0 in
    let others = all-zeros bs both.1 in
    cc

zeros-all : (n : ℕ) → list_all (λ b. eqb b 0) (replicate n 0) ≡ true
zeros-all zero = refl
zeros-all (suc n) = zeros-all n

-- the longest record fits the buffer
pub room : (k : Kind) (size literals header : ℕ) → size < 2 ^ 16 → HasStated k size literals header → 20 + size_stated k size literals + padding (20 + size_stated k size literals) ≤ LONGEST_RECORD
room kind.Pointers size literals header lt stated = omega (arith, lt)
room kind.Words size literals header lt stated = omega (arith, lt)
room kind.Bytes size literals header lt stated = omega (arith, lt)
room kind.Method size literals header lt stated = omega (arith, stated.0, few-literals header literals stated.1)

number-back : (n : ℕ) → n ≤ 3 → kind_number (kind_numbered n) ≡ n
number-back zero le = refl
number-back (suc zero) le = refl
number-back (suc (suc zero)) le = refl
number-back (suc (suc (suc zero))) le = refl
number-back (suc (suc (suc (suc n)))) le = absurd (omega (arith, le))

at-contents : (b : List ℕ) → (long_at (drop 20 b) 0 ≡ long_at b 20) × (long_at (drop 20 b) 4 ≡ long_at b 24)
unfolding long_at
at-contents b = (refl, ap (λ (t : List ℕ). from_be_bytes w32 (take 4 t)) (drop-drop 4 20 b))

-- ---- both ways

sized-body : (b : List ℕ) → AreBytes b → length b ≡ LONGEST_RECORD → IsSized b → BodyBack (kind_numbered (word_at b 16)) (word_at b 18) (drop 20 b) (body_in (kind_numbered (word_at b 16)) (word_at b 18) (drop 20 b))
sized-body b fits len sized =
    let k : Kind = kind_numbered (word_at b 16) in
    let size : ℕ = word_at b 18 in
    let c : List ℕ = drop 20 b in
    let at = at-contents b in
    let P : ℕ → Type 0 = λ n. HasStated k size n (long_at c 4) in
    let Q : ℕ → Type 0 = λ n. HasStated k size (long_at b 20) n in
    let R : ℕ → Type 0 = λ n. size_stated k size n ≤ length c in
    let fit : size_stated k size (long_at b 20) ≤ length c = omega (arith, room k size (long_at b 20) (long_at b 24) (word-below b 18 fits) sized.2, len, length-drop 20 b) in
    body-back k size c (AreBytes-drop 20 b fits) (word-below b 18 fits) (subst P (sym at.0) (subst Q (sym at.1) sized.2)) (subst R (sym at.0) fit)

pub judged : (b : List ℕ) → AreBytes b → length b ≡ LONGEST_RECORD → IsSized b → list_all (λ b. eqb b 0) (zeros_stated b) ≡ true → HasRecord b
unfolding raw_of
judged b fits len sized zeros =
    let k : Kind = kind_numbered (word_at b 16) in
    let size : ℕ = word_at b 18 in
    let c : List ℕ = drop 20 b in
    let m : ℕ = size_stated k size (long_at b 20) in
    let pad : ℕ = padding (20 + m) in
    let body : RawBody = body_in k size c in
    let back = sized-body b fits len sized in
    let count : size_stated k size (long_at c 0) ≡ m = ap (size_stated k size) (at-contents b).0 in
    let past : drop (20 + m) b ≡ drop m c = sym (drop-drop m 20 b) in
    let whole : 20 + m + pad ≤ length b = omega (arith, room k size (long_at b 20) (long_at b 24) (word-below b 18 fits) sized.2, len) in
    let rest : List ℕ = drop pad (drop (20 + m) b) in
    let long : length (zeros_stated b) ≡ pad = front-length b (20 + m) pad whole in
    let nils : zeros_stated b ≡ replicate pad 0 = all-zeros (zeros_stated b) zeros ∙ ap (λ (n : ℕ). replicate n 0) long in
    let last : drop (20 + m) b ≡ replicate pad 0 ++ rest = split pad (drop (20 + m) b) (replicate pad 0) (sym nils) in
    let contents : c ≡ raw_contents body ++ (replicate pad 0 ++ rest) = back.parts ∙ ap (λ (n : ℕ). raw_contents body ++ drop n c) count ∙ ap (λ (t : List ℕ). raw_contents body ++ t) (sym past ∙ last) in
    let ends : 20 + m ≡ raw_end body = ap (λ (n : ℕ). 20 + n) (sym (back.ends ∙ count)) in
    let padded : raw_contents body ++ (replicate pad 0 ++ rest) ≡ raw_contents body ++ (replicate (padding (raw_end body)) 0 ++ rest) = ap (λ (n : ℕ). raw_contents body ++ (replicate (padding n) 0 ++ rest)) ends in
    let number : word_at b 16 ≡ kind_number (raw_kind body) = sym (ap kind_number back.kind ∙ number-back (word_at b 16) sized.1) in
    let all : b ≡ laid (raw_of b) rest =
    head-back b (omega (arith, len)) fits
    ∙ ap (λ (t : List ℕ). headed (long_at b 0) (long_at b 4) (count_in b) (word_at b 16) size t) (contents ∙ padded)
    ∙ ap (λ (n : ℕ). headed (long_at b 0) (long_at b 4) (count_in b) n size (raw_contents body ++ (replicate (padding (raw_end body)) 0 ++ rest))) number
    ∙ ap (λ (n : ℕ). headed (long_at b 0) (long_at b 4) (count_in b) (kind_number (raw_kind body)) n (raw_contents body ++ (replicate (padding (raw_end body)) 0 ++ rest))) (sym back.len) in
    let is : IsRawRecord (raw_of b) = record {
      name = (sized.0.0, long-below b 0 fits);
      class = (sized.0.1, long-below b 4 fits);
      count = count-below b fits;
      size = back.size_is;
      range = back.range;
    } in
    (begun b (raw_of b) rest is (all ∙ sym (text-laid (raw_of b) rest))).0

number-small : (k : Kind) → kind_number k ≤ 3
number-small kind.Pointers = omega arith
number-small kind.Words = omega arith
number-small kind.Bytes = omega arith
number-small kind.Method = omega arith

stated-of : (body : RawBody) (n header : ℕ) → HasRawSize body → (raw_kind body ≡ kind.Method → n ≡ raw_literals body) → (raw_kind body ≡ kind.Method → header ≡ raw_header body) → HasStated (raw_kind body) (raw_len body) n header
stated-of (RawPointers longs) n header size a b = tt
stated-of (RawWords words) n header size a b = tt
stated-of (RawBytes bytes) n header size a b = tt
stated-of (RawMethod long literals code) n header size a b =
    let P : ℕ → Type 0 = λ h. stated_literals h ≡ Some n in
    let Q : ℕ → Type 0 = λ k. stated_literals long ≡ Some k in
    (size.1, subst P (sym (b refl)) (subst Q (sym (a refl)) size.0))

pub record-sized : (b : List ℕ) → HasRecord b → IsSized b
unfolding raw_of
record-sized b h =
    let r : RawRecord = raw_of b in
    let rest : List ℕ = drop (length (raw_text r)) b in
    let number : word_at b 16 ≡ kind_number (raw_kind r.body) = ap (λ (t : List ℕ). word_at t 16) (h.begins ∙ text-laid r rest) ∙ head-kind r.name r.class r.count (kind_number (raw_kind r.body)) (raw_len r.body) (after_head r rest) (kind-fits (raw_kind r.body)) in
    let small = number-small (raw_kind r.body) in
    let stated = stated-of r.body (long_at b 20) (long_at b 24) h.is.size (literals-said b h) (get-header b h) in
    let P : Kind → Type 0 = λ k. HasStated k (raw_len r.body) (long_at b 20) (long_at b 24) in
    let Q : ℕ → Type 0 = λ n. HasStated (kind_numbered (word_at b 16)) n (long_at b 20) (long_at b 24) in
    ((h.is.name.0, h.is.class.0), omega (arith, number, small), subst Q (sym (size-said b h)) (subst P (sym (kind-said b h)) stated))

pub record-zeros : (b : List ℕ) → HasRecord b → list_all (λ b. eqb b 0) (zeros_stated b) ≡ true
record-zeros b h =
    let r : RawRecord = raw_of b in
    let rest : List ℕ = drop (length (raw_text r)) b in
    let pad : ℕ = padding (raw_end r.body) in
    let past : drop (raw_end r.body) b ≡ replicate pad 0 ++ rest =
    sym (drop-drop (raw_size r.body) 20 b)
    ∙ ap (λ (t : List ℕ). drop (raw_size r.body) (drop 20 t)) (h.begins ∙ text-laid r rest)
    ∙ ap (drop (raw_size r.body)) (head-rest r.name r.class r.count (kind_number (raw_kind r.body)) (raw_len r.body) (after_head r rest))
    ∙ drop_at (raw_contents r.body) (replicate pad 0 ++ rest) (raw_size r.body) (length-contents r.body) in
    let nils : zeros_stated b ≡ replicate pad 0 =
    ap (λ (n : ℕ). take (padding n) (drop n b)) (end-said b h)
    ∙ ap (take pad) past
    ∙ take_at (replicate pad 0) rest pad (length-replicate {A = ℕ} pad 0) in
    ap (list_all (λ b. eqb b 0)) nils ∙ zeros-all pad

-- Records in windows of Work.
use Rattle.std.proofs.Common.{◌≡◌, ◌≢◌, Option, ℕ, ◌+◌, ◌-◌, ◌*◌, ◌^◌, ◌<◌, ◌≤◌, ◌⊎◌, inl, inr, List, [], ◌++◌, length, take, drop, refl, sym, ap, subst, ◌∙◌, append_assoc, arith, Result, Ok, Err, OnOk, IfOk, IfErr, IsTrue, Bool}
use Rattle.std.specs.Prelude.{MatchResult}
use Rattle.std.specs.Int.{w16, w32, w64, from_be_bytes}
use Rattle.std.proofs.lemmas.List.{take_at, drop_at, drop-drop, length-append, length-drop, take_all, drop_all, take-take, take-append-drop, append-nil}
use Rattle.long_names.specs.declared.limits.TheConstants.{LONGEST_RECORD}
use Rattle.long_names.specs.Record.{four_bytes, eight_bytes, padding}
use Rattle.long_names.specs.declared.object.Kind.{Kind}
use Rattle.long_names.specs.declared.object.Kind.TheVariants as kind
use Rattle.byteorder.specs.Endian.{big_number, big_bytes}
use Rattle.byteorder.specs.Numbers.{big_number-reads_back}
use Rattle.loom_host.specs.Bytes.{window}
use Rattle.loom_host.proofs.Windows.{length-window, window-taken}
use Rattle.object_record.specs.Raw.{RawBody, RawPointers, RawWords, RawBytes, RawMethod, RawRecord, IsRawRecord, raw_kind, raw_len, raw_literals, raw_size, raw_end, raw_text, with_name}
use Rattle.object_record.specs.Buffer.{long_at, word_at, kind_numbered, raw_of, HasRecord}
use Rattle.object_record.specs.Inside.{size_stated}
use Rattle.object_record.proofs.Numbers.{AreBytes, AreBytes-take, AreBytes-drop, wide32, wide64}
use Rattle.object_record.proofs.Calls.{length-text}
use Rattle.object_record.proofs.Records.{longest-raw}
use Rattle.loom_host.specs.Work.{IsWorkFault}
use Rattle.std.specs.Result.{IsErrAnd}
use Rattle.object_record.proofs.Texts.{begun, kind-said, size-said, literals-said}
use Rattle.work_space.specs.Blocks.{link_at}
use Rattle.long_names.specs.Names.{IsLongName}
use Rattle.disk_objects.specs.Disk.{IsLaid, link_to, names_text, tail_text, record_size, with_count}
use Rattle.loom_host.specs.declared.outside.DiskFault.{DiskFault}
use Rattle.loom_host.specs.declared.outside.DiskFault.TheVariants.{Work, Full, Damaged}
use Rattle.disk_objects.specs.declared.record.Head.{Head}
use Rattle.disk_objects.specs.Inside.{Touches, Writes, linked, IsHead, IsHeadFault, IsLinkFault, IsRecordFault, size_stated_in}

-- ---- the parts of a text

pub text-parts : (r : RawRecord) → raw_text r ≡ names_text r ++ (eight_bytes r.count ++ tail_text r)
unfolding raw_text
text-parts r = sym (append_assoc (four_bytes r.name) (four_bytes r.class) (eight_bytes r.count ++ tail_text r))

pub length-names : (r : RawRecord) → length (names_text r) ≡ 8
length-names r = omega (arith, length-append (four_bytes r.name) (four_bytes r.class), wide32.len r.name, wide32.len r.class)

pub length-tail : (r : RawRecord) → length (tail_text r) + 16 ≡ record_size r
length-tail r = omega (arith, length-text r, ap length (text-parts r), length-append (names_text r) (eight_bytes r.count ++ tail_text r), length-append (eight_bytes r.count) (tail_text r), length-names r, wide64.len r.count)

pub take-names : (r : RawRecord) → take 8 (raw_text r) ≡ names_text r
take-names r = ap (take 8) (text-parts r) ∙ take_at (names_text r) (eight_bytes r.count ++ tail_text r) 8 (length-names r)

pub drop-tail : (r : RawRecord) → drop 16 (raw_text r) ≡ tail_text r
drop-tail r =
    ap (drop 16) (text-parts r ∙ sym (append_assoc (names_text r) (eight_bytes r.count) (tail_text r)))
    ∙ drop_at (names_text r ++ eight_bytes r.count) (tail_text r) 16
    (omega (arith, length-append (names_text r) (eight_bytes r.count), length-names r, wide64.len r.count))

-- ---- a record that was written

pub record-written : (v w x : List ℕ) (place : ℕ) (raw : RawRecord) (link : ℕ) (bytes : List ℕ) → bytes ≡ raw_text raw
    → window w place (length bytes) ≡ bytes → Touches v w place (length bytes) → link_at x (place + 8) ≡ link → Touches w x (place + 8) 8
    → Writes v x place raw link
record-written v w x place raw link bytes is here first linked second =
    let n : ℕ = length (tail_text raw) in
    let size : length bytes ≡ record_size raw = ap length is ∙ length-text raw in
    let tail : n + 16 ≡ record_size raw = length-tail raw in
    record {
      laid = record {
        names =
            second.rest place 8 (inl (omega arith))
            ∙ ap (λ (p : ℕ). window w p 8) (let e : place ≡ place + 0 = omega arith in e)
            ∙ sym (window-taken w place (length bytes) 0 8 (omega (arith, size, tail)))
            ∙ ap (take 8) (here ∙ is)
            ∙ take-names raw;
        link_is = linked;
        tail =
            second.rest (place + 16) n (inr (omega arith))
            ∙ sym (window-taken w place (length bytes) 16 n (omega (arith, size, tail)))
            ∙ ap (λ (t : List ℕ). take n (drop 16 t)) (here ∙ is)
            ∙ ap (take n) (drop-tail raw)
            ∙ take_all n (tail_text raw) (omega arith);
      };
      touches = record {
        rest = λ at m apart.
            second.rest at m (elim apart [ inl before ↦ inl (omega arith) | inr behind ↦ inr (omega (arith, tail)) ])
            ∙ first.rest at m (subst (λ (k : ℕ). (at + m ≤ place) ⊎ (place + k ≤ at)) (sym size) apart);
        end = let a = first.end in let b = second.end in omega (arith, size, tail);
      };
    }

pub record-written-both : {T E : Type 0} (v w x : List ℕ) (place : ℕ) (raw : RawRecord) (link : ℕ) (bytes : List ℕ) (r : Result T E) → bytes ≡ raw_text raw
    → window w place (length bytes) ≡ bytes → Touches v w place (length bytes) → OnOk r (link_at x (place + 8) ≡ link)
    → OnOk r (Touches w x (place + 8) 8) → OnOk r (Writes v x place raw link)
record-written-both v w x place raw link bytes (Ok y) is here first linked second = record-written v w x place raw link bytes is here first linked second
record-written-both v w x place raw link bytes (Err y) is here first linked second = tt

pub link-written : (w : List ℕ) (p link : ℕ) (bytes : List ℕ) → window w p (length bytes) ≡ bytes → bytes ≡ big_bytes 8 link → link < 256 ^ 8 → link_at w p ≡ link
unfolding link_at
link-written w p link bytes here is fits =
    let shown : window w p 8 ≡ big_bytes 8 link = ap (λ (b : List ℕ). window w p (length b)) (sym is) ∙ here ∙ is in
    ap (λ (l : List ℕ). big_number 8 l) (shown ∙ sym (append-nil (big_bytes 8 link))) ∙ big_number-reads_back 8 link [] fits

-- ---- a record that was written with its link at once

linked-text : (raw : RawRecord) (link : ℕ) (bytes : List ℕ) → bytes ≡ raw_text raw → linked bytes link ≡ names_text raw ++ (big_bytes 8 link ++ tail_text raw)
linked-text raw link bytes is =
    ap (λ (t : List ℕ). take 8 t ++ (big_bytes 8 link ++ drop 16 t)) is
    ∙ ap (λ (t : List ℕ). t ++ (big_bytes 8 link ++ drop 16 (raw_text raw))) (take-names raw)
    ∙ ap (λ (t : List ℕ). names_text raw ++ (big_bytes 8 link ++ t)) (drop-tail raw)

linked-tail : (raw : RawRecord) (link : ℕ) → drop 16 (names_text raw ++ (big_bytes 8 link ++ tail_text raw)) ≡ tail_text raw
linked-tail raw link =
    ap (drop 16) (sym (append_assoc (names_text raw) (big_bytes 8 link) (tail_text raw)))
    ∙ drop_at (names_text raw ++ big_bytes 8 link) (tail_text raw) 16 (omega (arith, length-append (names_text raw) (big_bytes 8 link), length-names raw))

pub record-linked : (v w : List ℕ) (place : ℕ) (raw : RawRecord) (link : ℕ) (bytes : List ℕ) → bytes ≡ raw_text raw → link < 256 ^ 8
    → window w place (length bytes) ≡ linked bytes link → Touches v w place (length bytes) → Writes v w place raw link
record-linked v w place raw link bytes is fits here touches =
    let n : ℕ = length (tail_text raw) in
    let size : length bytes ≡ record_size raw = ap length is ∙ length-text raw in
    let tail : n + 16 ≡ record_size raw = length-tail raw in
    let text = here ∙ linked-text raw link bytes is in
    record {
      laid = record {
        names =
            ap (λ (p : ℕ). window w p 8) (let e : place ≡ place + 0 = omega arith in e)
            ∙ sym (window-taken w place (length bytes) 0 8 (omega (arith, size, tail)))
            ∙ ap (take 8) text
            ∙ take_at (names_text raw) (big_bytes 8 link ++ tail_text raw) 8 (length-names raw);
        link_is = link-written w (place + 8) link (big_bytes 8 link)
            (sym (window-taken w place (length bytes) 8 8 (omega (arith, size, tail)))
            ∙ ap (λ (t : List ℕ). take 8 (drop 8 t)) text
            ∙ ap (take 8) (drop_at (names_text raw) (big_bytes 8 link ++ tail_text raw) 8 (length-names raw))
            ∙ take_at (big_bytes 8 link) (tail_text raw) 8 refl)
            refl fits;
        tail =
            sym (window-taken w place (length bytes) 16 n (omega (arith, size, tail)))
            ∙ ap (λ (t : List ℕ). take n (drop 16 t)) text
            ∙ ap (take n) (linked-tail raw link)
            ∙ take_all n (tail_text raw) (omega arith);
      };
      touches = subst (λ (k : ℕ). Touches v w place k) size touches;
    }

pub record-linked-both : {T E : Type 0} (v w : List ℕ) (place : ℕ) (raw : RawRecord) (link : ℕ) (bytes : List ℕ) (r : Result T E) → bytes ≡ raw_text raw → link < 256 ^ 8
    → OnOk r (window w place (length bytes) ≡ linked bytes link) → OnOk r (Touches v w place (length bytes)) → OnOk r (Writes v w place raw link)
record-linked-both v w place raw link bytes (Ok y) is fits here touches = record-linked v w place raw link bytes is fits here touches
record-linked-both v w place raw link bytes (Err y) is fits here touches = tt

pub long-record : (raw : RawRecord) (bytes : List ℕ) → bytes ≡ raw_text raw → 16 ≤ length bytes
long-record raw bytes is = omega (arith, ap length is, length-text raw, length-tail raw)

pub head-link : (w bytes : List ℕ) (place link : ℕ) → bytes ≡ window w place 28 → link ≡ big_number 8 (take 8 (drop 8 bytes)) → link ≡ link_at w (place + 8)
unfolding link_at
head-link w bytes place link is read = read ∙ ap (λ (b : List ℕ). big_number 8 (take 8 (drop 8 b))) is
    ∙ ap (λ (l : List ℕ). big_number 8 l) (window-taken w place 28 8 8 (omega arith))

-- ---- the size that a record's first bytes state

word-same : (a b : List ℕ) (i j : ℕ) → take 2 (drop i a) ≡ take 2 (drop j b) → word_at a i ≡ word_at b j
unfolding word_at
word-same a b i j same = ap (from_be_bytes w16) same

long-same : (a b : List ℕ) (i j : ℕ) → take 4 (drop i a) ≡ take 4 (drop j b) → long_at a i ≡ long_at b j
unfolding long_at
long-same a b i j same = ap (from_be_bytes w32) same

-- a part of the first bytes is that of the text, behind the count
head-part : (w : List ℕ) (place : ℕ) (raw : RawRecord) (link i n : ℕ) → IsLaid w place raw link → 16 ≤ i → i + n ≤ 28 → i + n ≤ record_size raw
    → take n (drop i (window w place 28)) ≡ take n (drop i (raw_text raw))
head-part w place raw link i n laid past low within =
    let m : ℕ = length (tail_text raw) in
    let tail : m + 16 ≡ record_size raw = length-tail raw in
    let e : i ≡ 16 + (i - 16) = omega (arith, past) in
    let at : place + i ≡ place + 16 + (i - 16) = omega (arith, past) in
    window-taken w place 28 i n low
    ∙ ap (λ (p : ℕ). window w p n) at
    ∙ sym (window-taken w (place + 16) m (i - 16) n (omega (arith, tail, past)))
    ∙ ap (λ (t : List ℕ). take n (drop (i - 16) t)) (laid.tail ∙ sym (drop-tail raw))
    ∙ ap (take n) (drop-drop (i - 16) 16 (raw_text raw))
    ∙ ap (λ (k : ℕ). take n (drop k (raw_text raw))) (sym e)

size-of_body : (body : RawBody) (number size literals : ℕ) → kind_numbered number ≡ raw_kind body → size ≡ raw_len body
    → (raw_kind body ≡ kind.Method → literals ≡ raw_literals body) → size_stated (kind_numbered number) size literals ≡ raw_size body
size-of_body (RawPointers longs) number size literals a b c = ap (λ (k : Kind). size_stated k size literals) a ∙ ap (λ (n : ℕ). 4 * n) b
size-of_body (RawWords words) number size literals a b c = ap (λ (k : Kind). size_stated k size literals) a ∙ ap (λ (n : ℕ). 2 * n) b
size-of_body (RawBytes bytes) number size literals a b c = ap (λ (k : Kind). size_stated k size literals) a ∙ b
size-of_body (RawMethod header literals' code) number size literals a b c =
    ap (λ (k : Kind). size_stated k size literals) a ∙ (let l = c refl in omega (arith, l, b))

method-size : (body : RawBody) → raw_kind body ≡ kind.Method → 28 ≤ raw_end body
method-size (RawPointers longs) is = absurd cc
method-size (RawWords words) is = absurd cc
method-size (RawBytes bytes) is = absurd cc
method-size (RawMethod header literals code) is = omega arith

pub size-laid : (w : List ℕ) (place : ℕ) (raw : RawRecord) (link : ℕ) → IsRawRecord raw → IsLaid w place raw link
    → size_stated_in (window w place 28) ≡ record_size raw
size-laid w place raw link is laid =
    let text : List ℕ = raw_text raw in
    let head : List ℕ = window w place 28 in
    let size : length (tail_text raw) + 16 ≡ record_size raw = length-tail raw in
    let both = begun text raw [] is (sym (append-nil text)) in
    let body : (raw_of text).body ≡ raw.body = ap (λ (r : RawRecord). r.body) both.1 in
    let kind_is : kind_numbered (word_at head 16) ≡ raw_kind raw.body =
    ap kind_numbered (word-same head text 16 16 (head-part w place raw link 16 2 laid (omega arith) (omega arith) (omega arith)))
    ∙ kind-said text both.0 ∙ ap raw_kind body in
    let len_is : word_at head 18 ≡ raw_len raw.body =
    word-same head text 18 18 (head-part w place raw link 18 2 laid (omega arith) (omega arith) (omega arith))
    ∙ size-said text both.0 ∙ ap raw_len body in
    let literals_are : raw_kind raw.body ≡ kind.Method → long_at head 20 ≡ raw_literals raw.body = λ method.
    let many = method-size raw.body method in
    long-same head text 20 20 (head-part w place raw link 20 4 laid (omega arith) (omega arith) (omega (arith, many)))
    ∙ literals-said text both.0 (ap raw_kind body ∙ method) ∙ ap raw_literals body in
    ap (λ (n : ℕ). 20 + n + padding (20 + n)) (size-of_body raw.body (word_at head 16) (word_at head 18) (long_at head 20) kind_is len_is literals_are)

-- ---- a record that was read

-- two windows side by side
pub windows-joined : (w : List ℕ) (p m n k : ℕ) → m + n ≡ k → window w p k ≡ window w p m ++ window w (p + m) n
windows-joined w p m n k e =
    let at : p + 0 ≡ p = omega arith in
    let most : m ≤ k = omega (arith, e) in
    let len : length (drop m (window w p k)) ≡ n = omega (arith, length-drop m (window w p k), length-window w p k, e) in
    sym (take-append-drop m (window w p k))
    ∙ ap (λ (t : List ℕ). t ++ drop m (window w p k)) (window-taken w p k 0 m (omega (arith, most)) ∙ ap (λ (q : ℕ). window w q m) at)
    ∙ ap (λ (t : List ℕ). window w p m ++ t) (sym (take_all n (drop m (window w p k)) (omega (arith, len))) ∙ window-taken w p k m n (omega (arith, e)))

-- the bytes of a record that is laid at a place, with the bytes that stand where its count is
pub laid-bytes : (w : List ℕ) (place : ℕ) (raw : RawRecord) (link : ℕ) → IsLaid w place raw link
    → window w place (record_size raw) ≡ names_text raw ++ (window w (place + 8) 8 ++ tail_text raw)
laid-bytes w place raw link laid =
    let n : ℕ = length (tail_text raw) in
    let size : n + 16 ≡ record_size raw = length-tail raw in
    let at : place + 8 + 8 ≡ place + 16 = omega arith in
    windows-joined w place 8 (8 + n) (record_size raw) (omega (arith, size))
    ∙ ap (λ (t : List ℕ). t ++ window w (place + 8) (8 + n)) laid.names
    ∙ ap (λ (t : List ℕ). names_text raw ++ t) (windows-joined w (place + 8) 8 n (8 + n) refl
    ∙ ap (λ (t : List ℕ). window w (place + 8) 8 ++ t) (ap (λ (q : ℕ). window w q n) at ∙ laid.tail))

same-counted : (a : RawRecord) (raw : RawRecord) (k : ℕ) → a ≡ with_count raw k → with_count a 0 ≡ with_count raw 0
same-counted a raw k e = ap (λ (r : RawRecord). with_count r 0) e

pub record-read : (w bytes : List ℕ) (place : ℕ) (raw : RawRecord) (link : ℕ) → AreBytes bytes → IsRawRecord raw → IsLaid w place raw link
    → take (record_size raw) bytes ≡ window w place (record_size raw)
    → HasRecord bytes × ((raw_of bytes).name ≡ raw.name) × (with_count (raw_of bytes) 0 ≡ with_count raw 0)
record-read w bytes place raw link fits is laid begins =
    let n : ℕ = record_size raw in
    let rest : List ℕ = drop n bytes in
    let mid : List ℕ = window w (place + 8) 8 in
    let size : length (tail_text raw) + 16 ≡ n = length-tail raw in
    let whole : bytes ≡ names_text raw ++ (mid ++ (tail_text raw ++ rest)) =
    sym (take-append-drop n bytes) ∙ ap (λ (t : List ℕ). t ++ rest) (begins ∙ laid-bytes w place raw link laid)
    ∙ append_assoc (names_text raw) (mid ++ tail_text raw) rest
    ∙ ap (λ (t : List ℕ). names_text raw ++ t) (append_assoc mid (tail_text raw) rest) in
    let there : mid ≡ take 8 (drop 8 bytes) = sym (
    ap (λ (t : List ℕ). take 8 (drop 8 t)) whole
    ∙ ap (take 8) (drop_at (names_text raw) (mid ++ (tail_text raw ++ rest)) 8 (length-names raw))
    ∙ take_at mid (tail_text raw ++ rest) 8 (length-window w (place + 8) 8)) in
    let mid_fits : AreBytes mid = subst AreBytes (sym there) (AreBytes-take 8 (drop 8 bytes) (AreBytes-drop 8 bytes fits)) in
    let k : ℕ = from_be_bytes w64 mid in
    let spelled : eight_bytes k ≡ mid = wide64.back mid (length-window w (place + 8) 8) mid_fits in
    let counted : RawRecord = with_count raw k in
    let text : bytes ≡ raw_text counted ++ rest =
    whole ∙ ap (λ (t : List ℕ). names_text raw ++ (t ++ (tail_text raw ++ rest))) (sym spelled)
    ∙ ap (λ (t : List ℕ). names_text raw ++ t) (sym (append_assoc (eight_bytes k) (tail_text raw) rest))
    ∙ sym (append_assoc (names_text raw) (eight_bytes k ++ tail_text raw) rest)
    ∙ ap (λ (t : List ℕ). t ++ rest) (sym (text-parts counted)) in
    let raw_is : IsRawRecord counted = record { name = is.name; class = is.class; count = wide64.below mid mid_fits; size = is.size; range = is.range } in
    let both = begun bytes counted rest raw_is text in
    (both.0, ap (λ (r : RawRecord). r.name) both.1, same-counted (raw_of bytes) raw k both.1)

-- a buffer that had room for the record, and whose bytes were filled
pub buffer-filled : (w old filled bytes : List ℕ) (place : ℕ) (raw : RawRecord) (link size : ℕ) → AreBytes filled → IsRawRecord raw → IsLaid w place raw link
    → size ≡ record_size raw → size ≤ LONGEST_RECORD → length filled ≡ length old → filled ≡ window w place size ++ drop size old
    → bytes ≡ take LONGEST_RECORD (filled ++ drop (length filled) old)
    → HasRecord bytes × ((raw_of bytes).name ≡ raw.name) × (with_count (raw_of bytes) 0 ≡ with_count raw 0)
buffer-filled w old filled bytes place raw link size fits is laid sized most same begins taken =
    let all : bytes ≡ take LONGEST_RECORD filled =
    taken ∙ ap (λ (t : List ℕ). take LONGEST_RECORD (filled ++ t)) (drop_all (length filled) old (omega (arith, same))) ∙ ap (take LONGEST_RECORD) (append-nil filled) in
    record-read w bytes place raw link (subst AreBytes (sym all) (AreBytes-take LONGEST_RECORD filled fits)) is laid
    (ap (λ (n : ℕ). take n bytes) (sym sized)
    ∙ ap (take size) all ∙ take-take size LONGEST_RECORD filled most ∙ ap (take size) begins
    ∙ take_at (window w place size) (drop size old) size (length-window w place size)
    ∙ ap (window w place) sized)

pub head-read : (w bytes : List ℕ) (place : ℕ) (r : Result Head DiskFault) → bytes ≡ window w place 28
    → IfOk r (λ head. head.link ≡ big_number 8 (take 8 (drop 8 bytes))) → IfOk r (λ head. head.size ≡ size_stated_in bytes) → IfOk r (IsHead w place)
head-read w bytes place (Ok head) is link size = record { link = head-link w bytes place head.link is link; size = size ∙ ap size_stated_in is }
head-read w bytes place (Err fault) is link size = tt

pub head-fault : (w bytes : List ℕ) (tells : Bool) (before now place name : ℕ) (r : Result Head DiskFault) → (IsTrue tells → bytes ≡ window w place 28)
    → IfErr r (λ fault. (fault ≡ Damaged place name) × (LONGEST_RECORD < size_stated_in bytes)) → IfErr r (IsHeadFault w tells before now place name)
head-fault w bytes tells before now place name (Ok head) is why = tt
head-fault w bytes tells before now place name (Err fault) is why =
    subst (IsHeadFault w tells before now place name) (sym why.0)
    (λ told. subst (λ (b : List ℕ). LONGEST_RECORD < size_stated_in b) (is told) why.1, refl, refl)

-- ---- a record whose front was read

pub front-head : (w bytes : List ℕ) (place : ℕ) → bytes ≡ window w place 256 → take 28 bytes ≡ window w place 28
front-head w bytes place is =
    let at : place + 0 ≡ place = omega arith in
    ap (take 28) is ∙ window-taken w place 256 0 28 (omega arith) ∙ ap (λ (p : ℕ). window w p 28) at

pub front-there : {T E : Type 0} {P : Type 0} (r : Result T E) → P → OnOk r P
front-there (Ok x) p = p
front-there (Err e) p = tt

pub front-size : (w bytes : List ℕ) (place : ℕ) (r : Result Head DiskFault) → bytes ≡ window w place 256
    → IfOk r (λ head. head.size ≡ size_stated_in (take 28 bytes)) → IfOk r (λ head. head.size ≡ size_stated_in (window w place 28))
front-size w bytes place (Ok head) is size = size ∙ ap size_stated_in (front-head w bytes place is)
front-size w bytes place (Err fault) is size = tt

pub front-taken : (w front rest : List ℕ) (place size : ℕ) → size ≤ 256 → front ≡ window w place 256
    → take size front ++ rest ≡ window w place size ++ rest
front-taken w front rest place size most is =
    let at : place + 0 ≡ place = omega arith in
    ap (λ (t : List ℕ). t ++ rest)
    (ap (take size) is ∙ window-taken w place 256 0 size (omega (arith, most)) ∙ ap (λ (p : ℕ). window w p size) at)

-- the record that is laid there is no longer than a record may be
pub laid-low : (w : List ℕ) (place : ℕ) (raw : RawRecord) (link : ℕ) → IsRawRecord raw → IsLaid w place raw link
    → size_stated_in (window w place 28) ≤ LONGEST_RECORD
laid-low w place raw link is laid = let same = size-laid w place raw link is laid in omega (arith, same, longest-raw raw is, length-text raw)

-- so only a call that failed keeps it from being read
pub head-work : (w : List ℕ) (tells : Bool) (before now place name : ℕ) (fault : DiskFault) → IsTrue tells
    → size_stated_in (window w place 28) ≤ LONGEST_RECORD → IsHeadFault w tells before now place name fault → IsWorkFault before now fault
head-work w tells before now place name (Work count) told low f = f
head-work w tells before now place name (Full held room) told low f = f
head-work w tells before now place name (Damaged at about) told low f = let high = f.0 told in absurd (omega (arith, low, high))

pub head-record : (w : List ℕ) (tells : Bool) (before now place name : ℕ) (fault : DiskFault) → IsHeadFault w tells before now place name fault
    → IsRecordFault before now place name fault
head-record w tells before now place name (Work count) f = f
head-record w tells before now place name (Full held room) f = f
head-record w tells before now place name (Damaged at about) f = (f.1, f.2)

pub work-record : (a b c place name : ℕ) (fault : DiskFault) → a ≤ b → IsWorkFault b c fault → IsRecordFault a c place name fault
work-record a b c place name (Work count) l f = (f.0, let r = f.1 in omega arith)
work-record a b c place name (Full held room) l f = f
work-record a b c place name (Damaged at about) l f = absurd f

-- a fault that leaves a call of two outcomes by a `?`
pub exits-both : {T : Type 0} (r : Result T DiskFault) (gone : DiskFault) (Q : T → Type 0) (P : DiskFault → Type 0) → IsErrAnd r (λ y. y ≡ gone) → P gone
    → MatchResult r Q P
exits-both (Ok x) gone Q P e p = absurd e
exits-both (Err y) gone Q P e p = subst P (sym e) p

-- ---- a link that was read

link-shown : (w bytes : List ℕ) (p link : ℕ) → bytes ≡ window w p 8 → link ≡ big_number 8 bytes → link_at w p ≡ link
unfolding link_at
link-shown w bytes p link is read = sym (read ∙ ap (λ (b : List ℕ). big_number 8 b) is)

pub link-read : {E : Type 0} (w bytes : List ℕ) (p link : ℕ) (r : Result (Option ℕ) E) → bytes ≡ window w p 8 → link ≡ big_number 8 bytes
    → IfOk r (λ next. link ≡ link_to next) → IfOk r (λ next. link_at w p ≡ link_to next)
link-read w bytes p link (Ok next) is read to = link-shown w bytes p link is read ∙ to
link-read w bytes p link (Err e) is read to = tt

pub link-fault : {T : Type 0} (w bytes : List ℕ) (p link : ℕ) (tells : Bool) (before now place name : ℕ) (r : Result T DiskFault) → (IsTrue tells → bytes ≡ window w p 8)
    → link ≡ big_number 8 bytes → IfErr r (λ fault. (fault ≡ Damaged place name) × (link ≢ 0) × (IsLongName link → ⊥))
    → IfErr r (IsLinkFault (link_at w p) tells before now place name)
link-fault w bytes p link tells before now place name (Ok next) is read why = tt
link-fault w bytes p link tells before now place name (Err fault) is read why =
    subst (IsLinkFault (link_at w p) tells before now place name) (sym why.0)
    (λ told. subst (λ (n : ℕ). (n ≢ 0) × (IsLongName n → ⊥)) (sym (link-shown w bytes p link (is told) read)) (why.1, why.2), refl, refl)

-- ---- a record that is given another name

count-apart : (v w : List ℕ) (place : ℕ) (a b : RawRecord) (link : ℕ) → with_count a 0 ≡ with_count b 0 → Writes v w place a link → Writes v w place b link
count-apart v w place a b link same wrote =
    let bare : Writes v w place (with_count a 0) link = record {
      laid = record { names = wrote.laid.names; link_is = wrote.laid.link_is; tail = wrote.laid.tail };
      touches = wrote.touches;
    } in
    let other = subst (λ (r : RawRecord). Writes v w place r link) same bare in
    record {
      laid = record { names = other.laid.names; link_is = other.laid.link_is; tail = other.laid.tail };
      touches = other.touches;
    }

named-apart : (a b : RawRecord) (name : ℕ) → with_count a 0 ≡ with_count b 0 → with_count (with_name a name) 0 ≡ with_count (with_name b name) 0
named-apart a b name same = ap (λ (r : RawRecord). with_name r name) same

pub renamed-written : {E : Type 0} (F : E → Type 0) (u v w : List ℕ) (place : ℕ) (a c raw : RawRecord) (name link : ℕ) (r : Result (Unit {0}) E) → v ≡ u
    → with_count a 0 ≡ with_count raw 0 → c ≡ with_name a name → OnOk r (Writes v w place c link) → IfErr r F
    → MatchResult r (λ _. Writes u w place (with_name raw name) link) F
renamed-written F u v w place a c raw name link (Ok x) still same is wrote fault =
    subst (λ (t : List ℕ). Writes t w place (with_name raw name) link) still
    (count-apart v w place c (with_name raw name) link (ap (λ (r : RawRecord). with_count r 0) is ∙ named-apart a raw name same) wrote)
renamed-written F u v w place a c raw name link (Err e) still same is wrote fault = fault

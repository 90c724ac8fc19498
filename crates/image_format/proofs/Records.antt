-- Bodies and whole records: what is read is spelled so, and what is spelled so is read.
use Rattle.std.proofs.Common.{◌≡◌, ℕ, ℤ, ◌-◌, ◌^◌, ◌<◌, ◌≤◌, true, List, ◌++◌, length, replicate, Ok, refl, sym, ap, subst, ◌∙◌, append_assoc, arith}
use Rattle.std.specs.Int.{w16, w32, w64}
use Rattle.std.proofs.lemmas.Bool.{leb-true, le-leb}
use Rattle.std.proofs.lemmas.List.{length-append}
use Rattle.std.proofs.lemmas.List.Elements.{All-nil}
use Rattle.long_names.specs.Words.{IsValue, long_word, literal_count}
use Rattle.long_names.specs.Objects.{IsBody, kind_of, len_of, HasRange, IsRecord}
use Rattle.long_names.specs.declared.value.Value.{Value}
use Rattle.long_names.specs.declared.value.Value.TheVariants.{Int}
use Rattle.long_names.specs.declared.object.Kind.{Kind}
use Rattle.long_names.specs.declared.object.Kind.TheVariants as kind
use Rattle.long_names.specs.declared.object.Body.{Body}
use Rattle.long_names.specs.declared.object.Body.TheVariants.{Pointers, Words, Bytes, Method}
use Rattle.long_names.specs.declared.object.Rec.{Rec}
use Rattle.long_names.specs.Record.{two_bytes, four_bytes, eight_bytes, kind_number, values_text, contents_text, record_head, padding, padded, record_text}
use Rattle.image_format.specs.Reading.{is_size, number_at, name_at, kind_at, size_at, values_at, words_at, octets_at, header_at, method_at, body_at, zeros_at, record_at}
use Rattle.image_format.proofs.Numbers.{AreBytes, all_bytes, Takes, takes_then, bind_ok, read_as, ok_is, passed_ok, octets_take, octets_again, wide16, wide32, wide64, number_takes, number_again}
use Rattle.image_format.proofs.Fields.{name_takes, name_again, kind_takes, kind_again, values_take, values_again, words_take, words_again, header_takes, header_again, zeros_take, zeros_again}

-- two records that were read alike, with what was left
pub pair_is : {A B : Type 0} (a b : A) (x y : B) → read_as {A = A × B} (a, x) ≡ read_as {A = A × B} (b, y) → (a ≡ b) × (x ≡ y)
pair_is {A} {B} a b x y e =
    let P : A × B → Type 0 = λ p. (a ≡ p.0) × (x ≡ p.1) in
    subst P (ok_is (a, x) (b, y) e) (refl, refl)

-- a body of this kind and size that was read
pub record Reads (k : Kind) (size : ℕ) (bytes : List ℕ) (body : Body) (rest : List ℕ) : Type 0 where
  pub takes : Takes bytes (contents_text body) rest
  pub kind : kind_of body ≡ k
  pub len : len_of body ≡ size
  pub is : IsBody body
  pub range : HasRange body

few_literals : (z : ℤ) → literal_count z < 64
few_literals z = omega arith

pub method_takes : (size : ℕ) (bytes : List ℕ) (x : Body × List ℕ) → AreBytes bytes → size ≤ 16000 → method_at size bytes ≡ Ok x → Reads kind.Method size bytes x.0 x.1
unfolding method_at
method_takes size bytes x fits small e =
    let a = bind_ok (number_at w32 bytes) _ x e in
    let b = bind_ok (header_at a.0.0 a.0.1) _ x a.2 in
    let c = bind_ok (values_at a.0.0 b.0.1) _ x b.2 in
    let d = bind_ok (octets_at size c.0.1) (λ code. Ok (Method b.0.0 c.0.0 code.0, code.1)) x c.2 in
    let t0 = number_takes w32 (2 ^ 32) four_bytes wide32 bytes a.0.0 a.0.1 fits a.1 in
    let t1 = header_takes a.0.0 a.0.1 b.0.0 b.0.1 t0.0.unread b.1 in
    let t2 = values_take a.0.0 b.0.1 c.0 t1.0.unread c.1 in
    let t3 = octets_take size c.0.1 d.0.0 d.0.1 t2.0.unread d.1 in
    let e23 = takes_then b.0.1 (values_text c.0.0) c.0.1 d.0.0 d.0.1 t2.0 t3.0 in
    let e13 = takes_then a.0.1 (four_bytes (long_word (Int b.0.0))) b.0.1 (values_text c.0.0 ++ d.0.0) d.0.1 t1.0 e23 in
    let e03 = takes_then bytes (four_bytes a.0.0) a.0.1 (four_bytes (long_word (Int b.0.0)) ++ (values_text c.0.0 ++ d.0.0)) d.0.1 t0.0 e13 in
    let body : Body = Method b.0.0 c.0.0 d.0.0 in
    let P : Body × List ℕ → Type 0 = λ y. Reads kind.Method size bytes y.0 y.1 in
    subst P (ok_is (body, d.0.1) x d.2) (record {
      takes = rw t2.1 e03;
      kind = refl;
      len = t3.1;
      is = record { size = (t1.1, t2.1 ∙ sym t1.2, omega (arith, t3.1, small)); fields = t2.2 };
      range = all_bytes d.0.0 t3.2;
    })

pub method_again : (header : ℤ) (literals : List Value) (code rest : List ℕ) → IsBody (Method header literals code) → method_at (length code) (contents_text (Method header literals code) ++ rest) ≡ Ok (Method header literals code, rest)
unfolding method_at
method_again header literals code rest is =
    let regrouped : contents_text (Method header literals code) ++ rest ≡ four_bytes (length literals) ++ (four_bytes (long_word (Int header)) ++ (values_text literals ++ (code ++ rest))) = simp append_assoc in
    let few : length literals < 2 ^ 32 = omega (arith, is.size.1, few_literals header) in
    ap (method_at (length code)) regrouped ∙ rw (number_again w32 (2 ^ 32) four_bytes wide32 (length literals) (four_bytes (long_word (Int header)) ++ (values_text literals ++ (code ++ rest))) few, is.size.1, header_again header (values_text literals ++ (code ++ rest)) is.size.0, ← is.size.1, values_again literals (code ++ rest) is.fields, octets_again (length code) code rest refl) refl

pub body_takes : (k : Kind) (size : ℕ) (bytes : List ℕ) (x : Body × List ℕ) → size < 2 ^ 16 → is_size k size ≡ true → AreBytes bytes → body_at k size bytes ≡ Ok x → Reads k size bytes x.0 x.1
unfolding body_at
body_takes kind.Pointers size bytes x lt may fits e =
    let a = bind_ok (values_at size bytes) (λ values. Ok (Pointers values.0, values.1)) x e in
    let t = values_take size bytes a.0 fits a.1 in
    let P : Body × List ℕ → Type 0 = λ y. Reads kind.Pointers size bytes y.0 y.1 in
    subst P (ok_is (Pointers a.0.0, a.0.1) x a.2) (record { takes = t.0; kind = refl; len = t.1; is = record { size = omega (arith, t.1, lt); fields = t.2 }; range = tt })
body_takes kind.Words size bytes x lt may fits e =
    let a = bind_ok (words_at size bytes) (λ words. Ok (Words words.0, words.1)) x e in
    let t = words_take size bytes a.0 fits a.1 in
    let P : Body × List ℕ → Type 0 = λ y. Reads kind.Words size bytes y.0 y.1 in
    subst P (ok_is (Words a.0.0, a.0.1) x a.2) (record { takes = t.0; kind = refl; len = t.1; is = record { size = omega (arith, t.1, lt); fields = All-nil IsValue }; range = t.2 })
body_takes kind.Bytes size bytes x lt may fits e =
    let a = bind_ok (octets_at size bytes) (λ octets. Ok (Bytes octets.0, octets.1)) x e in
    let t = octets_take size bytes a.0.0 a.0.1 fits a.1 in
    let P : Body × List ℕ → Type 0 = λ y. Reads kind.Bytes size bytes y.0 y.1 in
    subst P (ok_is (Bytes a.0.0, a.0.1) x a.2) (record { takes = t.0; kind = refl; len = t.1; is = record { size = omega (arith, t.1, lt); fields = All-nil IsValue }; range = all_bytes a.0.0 t.2 })
body_takes kind.Method size bytes x lt may fits e = method_takes size bytes x fits (leb-true size 16000 may) e

pub body_again : (body : Body) (rest : List ℕ) → IsBody body → HasRange body → body_at (kind_of body) (len_of body) (contents_text body ++ rest) ≡ Ok (body, rest)
unfolding body_at
body_again (Pointers values) rest is range = rw (values_again values rest is.fields) refl
body_again (Words words) rest is range = rw (words_again words rest range) refl
body_again (Bytes bytes) rest is range = rw (octets_again (length bytes) bytes rest refl) refl
body_again (Method header literals code) rest is range = method_again header literals code rest is

pub size_fits : (body : Body) → IsBody body → len_of body < 2 ^ 16
size_fits (Pointers values) is = omega (arith, is.size)
size_fits (Words words) is = omega (arith, is.size)
size_fits (Bytes bytes) is = omega (arith, is.size)
size_fits (Method header literals code) is = omega (arith, is.size.2)

may_have : (body : Body) → IsBody body → is_size (kind_of body) (len_of body) ≡ true
may_have (Pointers values) is = refl
may_have (Words words) is = refl
may_have (Bytes bytes) is = refl
may_have (Method header literals code) is = le-leb _ _ is.size.2

pub size_takes : (k : Kind) (bytes : List ℕ) (n : ℕ) (rest : List ℕ) → AreBytes bytes → size_at k bytes ≡ Ok (n, rest) → Takes bytes (two_bytes n) rest × (n < 2 ^ 16) × (is_size k n ≡ true)
unfolding size_at
size_takes k bytes n rest fits e =
    let a = bind_ok (number_at w16 bytes) _ (n, rest) e in
    let t = number_takes w16 (2 ^ 16) two_bytes wide16 bytes a.0.0 a.0.1 fits a.1 in
    let g = passed_ok (is_size k a.0.0) (Ok a.0) _ (n, rest) a.2 in
    let P : ℕ × List ℕ → Type 0 = λ p. Takes bytes (two_bytes p.0) p.1 × (p.0 < 2 ^ 16) × (is_size k p.0 ≡ true) in
    subst P (ok_is a.0 (n, rest) g.1) (t.0, t.1, g.0)

size_again : (body : Body) (rest : List ℕ) → IsBody body → size_at (kind_of body) (two_bytes (len_of body) ++ rest) ≡ Ok (len_of body, rest)
unfolding size_at
size_again body rest is =
    rw (number_again w16 (2 ^ 16) two_bytes wide16 (len_of body) rest (size_fits body is), may_have body is) refl

-- the steps up to the body, each with what it gave and what it left
pub record Steps (r : Rec) (k : Kind) (size : ℕ) (bytes after_name after_class after_count after_kind after_size after_body : List ℕ) : Type 0 where
  pub name : name_at 4 bytes ≡ Ok (r.name, after_name)
  pub class : name_at 6 after_name ≡ Ok (r.class, after_class)
  pub count : number_at w64 after_class ≡ Ok (r.count, after_count)
  pub kind : kind_at after_count ≡ Ok (k, after_kind)
  pub size_is : size_at k after_kind ≡ Ok (size, after_size)
  pub body : body_at k size after_size ≡ Ok (r.body, after_body)

pub steps_take : (r : Rec) (k : Kind) (size : ℕ) (bytes b0 b1 b2 b3 b4 b5 : List ℕ) → AreBytes bytes → Steps r k size bytes b0 b1 b2 b3 b4 b5 → Takes bytes (record_head r ++ contents_text r.body) b5 × IsRecord r
steps_take r k size bytes b0 b1 b2 b3 b4 b5 fits s =
    let t0 = name_takes 4 bytes r.name b0 fits s.name in
    let t1 = name_takes 6 b0 r.class b1 t0.0.unread s.class in
    let t2 = number_takes w64 (2 ^ 64) eight_bytes wide64 b1 r.count b2 t1.0.unread s.count in
    let t3 = kind_takes b2 k b3 t2.0.unread s.kind in
    let t4 = size_takes k b3 size b4 t3.unread s.size_is in
    let t5 = body_takes k size b4 (r.body, b5) t4.1 t4.2 t4.0.unread s.body in
    let e34 = takes_then b2 (two_bytes (kind_number k)) b3 (two_bytes size) b4 t3 t4.0 in
    let e24 = takes_then b1 (eight_bytes r.count) b2 _ b4 t2.0 e34 in
    let e14 = takes_then b0 (four_bytes r.class) b1 _ b4 t1.0 e24 in
    let e04 = takes_then bytes (four_bytes r.name) b0 _ b4 t0.0 e14 in
    let head : Takes bytes (record_head r) b4 = rw (t5.kind, t5.len) e04 in
    (takes_then bytes (record_head r) b4 (contents_text r.body) b5 head t5.takes, record { name = t0.1; class = t1.1; count = t2.1; body = t5.is; range = t5.range })

-- steps that each gave what a record has give the record
pub record_from_steps : (r : Rec) (k : Kind) (size : ℕ) (bytes b0 b1 b2 b3 b4 b5 rest : List ℕ) → Steps r k size bytes b0 b1 b2 b3 b4 b5 → zeros_at (padding (length bytes - length b5)) b5 ≡ Ok (tt, rest) → record_at bytes ≡ Ok (r, rest)
unfolding record_at
record_from_steps r k size bytes b0 b1 b2 b3 b4 b5 rest s zeros = rw (s.name, s.class, s.count, s.kind, s.size_is, s.body, zeros) refl

-- and a record that was read came of such steps
steps_of : (bytes : List ℕ) (x : Rec × List ℕ) → record_at bytes ≡ Ok x
    → (k : Kind) × (size : ℕ) × (b0 : List ℕ) × (b1 : List ℕ) × (b2 : List ℕ) × (b3 : List ℕ) × (b4 : List ℕ) × (b5 : List ℕ) × Steps x.0 k size bytes b0 b1 b2 b3 b4 b5 × (zeros_at (padding (length bytes - length b5)) b5 ≡ Ok (tt, x.1))
unfolding record_at
steps_of bytes x e =
    let a = bind_ok (name_at 4 bytes) _ x e in
    let b = bind_ok (name_at 6 a.0.1) _ x a.2 in
    let c = bind_ok (number_at w64 b.0.1) _ x b.2 in
    let d = bind_ok (kind_at c.0.1) _ x c.2 in
    let f = bind_ok (size_at d.0.0 d.0.1) _ x d.2 in
    let g = bind_ok (body_at d.0.0 f.0.0 f.0.1) _ x f.2 in
    let r : Rec = record { name = a.0.0; class = b.0.0; count = c.0.0; body = g.0.0 } in
    let h = bind_ok (zeros_at (padding (length bytes - length g.0.1)) g.0.1) (λ rest. Ok (r, rest.1)) x g.2 in
    let P : Rec × List ℕ → Type 0 = λ y. Steps y.0 d.0.0 f.0.0 bytes a.0.1 b.0.1 c.0.1 d.0.1 f.0.1 g.0.1 × (zeros_at (padding (length bytes - length g.0.1)) g.0.1 ≡ Ok (tt, y.1)) in
    let both = subst P (ok_is (r, h.0.1) x h.2) (record { name = a.1; class = b.1; count = c.1; kind = d.1; size_is = f.1; body = g.1 }, h.1) in
    (d.0.0, f.0.0, a.0.1, b.0.1, c.0.1, d.0.1, f.0.1, g.0.1, both.0, both.1)

-- a record begins with its name
pub name_of_record : (bytes : List ℕ) (x : Rec × List ℕ) → record_at bytes ≡ Ok x → (rest : List ℕ) × (name_at 4 bytes ≡ Ok (x.0.name, rest))
name_of_record bytes x e =
    let (k, size, b0, b1, b2, b3, b4, b5, steps, zeros) = steps_of bytes x e in
    (b0, steps.name)

pub with_zeros : (text bytes b5 rest : List ℕ) → Takes bytes text b5 → zeros_at (padding (length bytes - length b5)) b5 ≡ Ok (tt, rest) → Takes bytes (padded text) rest
with_zeros text bytes b5 rest takes zeros =
    let len : length bytes - length b5 ≡ length text = omega (arith, ap length takes.parts, length-append text b5) in
    let t = zeros_take (padding (length bytes - length b5)) b5 (tt, rest) takes.unread zeros in
    takes_then bytes text b5 _ rest takes (rw len at t)

pub record_takes : (bytes : List ℕ) (x : Rec × List ℕ) → AreBytes bytes → record_at bytes ≡ Ok x → (bytes ≡ record_text x.0 ++ x.1) × IsRecord x.0
unfolding record_text
record_takes bytes x fits e =
    let (k, size, b0, b1, b2, b3, b4, b5, steps, zeros) = steps_of bytes x e in
    let t = steps_take x.0 k size bytes b0 b1 b2 b3 b4 b5 fits steps in
    ((with_zeros (record_head x.0 ++ contents_text x.0.body) bytes b5 x.1 t.0 zeros).parts, t.1)

pub record_again : (r : Rec) (rest : List ℕ) → IsRecord r → record_at (record_text r ++ rest) ≡ Ok (r, rest)
unfolding record_text
record_again r rest is =
    let zeros : List ℕ = replicate (padding (length (record_head r ++ contents_text r.body))) 0 in
    let b5 : List ℕ = zeros ++ rest in
    let b4 : List ℕ = contents_text r.body ++ b5 in
    let b3 : List ℕ = two_bytes (len_of r.body) ++ b4 in
    let b2 : List ℕ = two_bytes (kind_number (kind_of r.body)) ++ b3 in
    let b1 : List ℕ = eight_bytes r.count ++ b2 in
    let b0 : List ℕ = four_bytes r.class ++ b1 in
    let whole : List ℕ = ((record_head r ++ contents_text r.body) ++ zeros) ++ rest in
    let regrouped : whole ≡ four_bytes r.name ++ b0 = simp append_assoc in
    let ends : whole ≡ (record_head r ++ contents_text r.body) ++ b5 = append_assoc (record_head r ++ contents_text r.body) zeros rest in
    let len : length whole - length b5 ≡ length (record_head r ++ contents_text r.body) = omega (arith, ap length ends, length-append (record_head r ++ contents_text r.body) b5) in
    record_from_steps r (kind_of r.body) (len_of r.body) whole b0 b1 b2 b3 b4 b5 rest (record {
      name = ap (name_at 4) regrouped ∙ name_again 4 r.name b0 is.name;
      class = name_again 6 r.class b1 is.class;
      count = number_again w64 (2 ^ 64) eight_bytes wide64 r.count b2 is.count;
      kind = kind_again (kind_of r.body) b3;
      size_is = size_again r.body b4 is.body;
      body = body_again r.body b5 is.body is.range;
    })
    (ap (λ (k : ℕ). zeros_at (padding k) b5) len ∙ zeros_again (padding (length (record_head r ++ contents_text r.body))) rest)

pub same_record : (a b : Rec) (x y : List ℕ) → IsRecord a → IsRecord b → record_text a ++ x ≡ record_text b ++ y → (a ≡ b) × (x ≡ y)
same_record a b x y is-a is-b e =
    pair_is a b x y (sym (record_again a x is-a) ∙ ap record_at e ∙ record_again b y is-b)

pub shorter : {bytes text rest : List ℕ} → Takes bytes text rest → length rest ≤ length bytes
shorter {bytes} {text} {rest} t = omega (arith, ap length t.parts, length-append text rest)

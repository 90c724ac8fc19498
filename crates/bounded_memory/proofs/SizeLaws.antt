-- Sizes of objects.
use Rattle.std.proofs.Common.{◌≡◌, ℕ, ℤ, pos, negsuc, ◌+◌, ◌/◌, length, Option, Some, IsTrue, refl, sym, ◌∙◌, ap, ap₂, subst, arith}
use Rattle.std.proofs.lemmas.Int.{to_z-of_z}
use Rattle.std.proofs.lemmas.List.{length-replicate}
use mir.Val.{SFits, of_z, to_z}
use mir.Syntax.{w16}
use Rattle.long_names.specs.Words.{IsSmallInteger, literal_count}
use Rattle.std.specs.Option.{option_map_or, option_and_then}
use Rattle.long_names.specs.declared.value.Value.{Value}
use Rattle.long_names.specs.declared.value.Value.TheVariants.{Int, Ref}
use Rattle.long_names.specs.declared.object.Kind.{Kind}
use Rattle.long_names.specs.declared.object.Kind.TheVariants as kind
use Rattle.long_names.specs.declared.object.Body.{Body}
use Rattle.long_names.specs.declared.object.Body.TheVariants.{Pointers, Words, Bytes, Method}
use Rattle.long_names.specs.declared.object.Object.{Object}
use Rattle.long_names.specs.Objects.{kind_of, len_of, fields_of, body_words, header_of, body_made, OfPointers, OfWords, OfBytes, OfMethod}
use Rattle.long_names.specs.Names.{NIL}
use Rattle.long_names.specs.Heap.{Heap}
use Rattle.long_names.specs.Need.{words_at, entries_at}
use Rattle.long_names.specs.State.{IsRef, name_at, object_at, part_at}
use Rattle.long_names.specs.Access.{KindOf, Length, Header, OfKind, OfNumber, answer_of}
use Rattle.long_names.proofs.ThinLemmas.{has}
use Rattle.object_memory.specs.Told.{Told, IsReady}
use Rattle.object_memory.specs.Contract.{MayDo}
use Rattle.bounded_memory.specs.Sizes.{words_for, entries_for}

-- ---- the object of a register

-- the object that a register names, and that it stands under its name
pub record Named (t : Told) (of : ℕ) : Type 0 where
  pub object : Object
  pub at : t.heap.at (name_at (t.regs of)) ≡ Some object
  pub there : object_at t.heap (t.regs of) ≡ Some object

pub named : (t : Told) (of : ℕ) → IsReady t → IsTrue t.tells → IsRef (t.regs of) → Named t of
named t of ready told is = go (t.regs of) refl is
  where
    go : (v : Value) → t.regs of ≡ v → IsRef v → Named t of
    go (Int z) e is = absurd is
    go (Ref n) e is =
        let it = has t.heap n ((ready.whole told).rooted of n e) in
        record {
          object = it.0;
          at = ap (λ v. t.heap.at (name_at v)) e ∙ it.1;
          there = ap (λ v. object_at t.heap v) e ∙ it.1;
        }

pub part : {A : Type 0} (t : Told) (of : ℕ) (f : Body → Option A) (o : Object) → object_at t.heap (t.regs of) ≡ Some o → part_at t.heap (t.regs of) f ≡ f o.body
part t of f o e = ap (option_and_then (λ (o : Object). f o.body)) e

pub may-kind : (t : Told) (of : ℕ) → IsReady t → IsTrue t.tells → IsRef (t.regs of) → MayDo t (KindOf of)
may-kind t of ready told is = (let it = named t of ready told is in record { heap = λ _. (kind_of it.object.body, part t of (λ b. Some (kind_of b)) it.object it.there, tt); names = is; slots = tt; ranges = tt })

pub may-len : (t : Told) (of : ℕ) → IsReady t → IsTrue t.tells → IsRef (t.regs of) → MayDo t (Length of)
may-len t of ready told is = (let it = named t of ready told is in record { heap = λ _. (len_of it.object.body, part t of (λ b. Some (len_of b)) it.object it.there, tt); names = is; slots = tt; ranges = tt })

-- ---- by kind, length and literals

pub words-for : (b : Body) (literals : ℕ) → (kind_of b ≡ kind.Method → length (fields_of b) ≡ literals) → words_for (kind_of b) (len_of b) literals ≡ 4 + body_words b
words-for (Pointers values) literals e = refl
words-for (Words words) literals e = refl
words-for (Bytes bytes) literals e = refl
words-for (Method header fields code) literals e = ap (λ n. 4 + (1 + n + (length code + 1) / 2)) (sym (e refl))

pub entries-for : (b : Body) (literals : ℕ) → (kind_of b ≡ kind.Method → length (fields_of b) ≡ literals) → entries_for (kind_of b) (len_of b) literals ≡ 2 + length (fields_of b)
entries-for (Pointers values) literals e = refl
entries-for (Words words) literals e = refl
entries-for (Bytes bytes) literals e = refl
entries-for (Method header fields code) literals e = ap (λ n. 2 + n) (sym (e refl))

pub words-at : (h : Heap) (n : ℕ) (o : Object) → h.at n ≡ Some o → words_at h n ≡ 4 + body_words o.body
words-at h n o e = ap (λ x. option_map_or (λ (o : Object). 4 + body_words o.body) x 0) e

pub entries-at : (h : Heap) (n : ℕ) (o : Object) → h.at n ≡ Some o → entries_at h n ≡ 2 + length (fields_of o.body)
entries-at h n o e = ap (λ x. option_map_or (λ (o : Object). 2 + length (fields_of o.body)) x 0) e

-- an object's size, by what was asked of it
pub words-of : (h : Heap) (n : ℕ) (o : Object) (k : Kind) (len literals : ℕ) → h.at n ≡ Some o → kind_of o.body ≡ k → len_of o.body ≡ len → (k ≡ kind.Method → length (fields_of o.body) ≡ literals) → words_for k len literals ≡ words_at h n
words-of h n o k len literals at is long e =
    ap (λ k. words_for k len literals) (sym is)
    ∙ ap (λ l. words_for (kind_of o.body) l literals) (sym long)
    ∙ words-for o.body literals (λ m. e (sym is ∙ m))
    ∙ sym (words-at h n o at)

pub entries-of : (h : Heap) (n : ℕ) (o : Object) (k : Kind) (len literals : ℕ) → h.at n ≡ Some o → kind_of o.body ≡ k → len_of o.body ≡ len → (k ≡ kind.Method → length (fields_of o.body) ≡ literals) → entries_for k len literals ≡ entries_at h n
entries-of h n o k len literals at is long e =
    ap (λ k. entries_for k len literals) (sym is)
    ∙ ap (λ l. entries_for (kind_of o.body) l literals) (sym long)
    ∙ entries-for o.body literals (λ m. e (sym is ∙ m))
    ∙ sym (entries-at h n o at)

-- ---- what was answered

pub kind-is : (a b : Kind) (x : Option Kind) → x ≡ Some a → option_and_then (λ k. Some (OfKind k)) x ≡ Some (OfKind b) → a ≡ b
kind-is a b x e f = cc (ap (option_and_then (λ k. Some (OfKind k))) e)

pub len-is : (a b : ℕ) (x : Option ℕ) → x ≡ Some a → option_and_then (λ n. Some (OfNumber n)) x ≡ Some (OfNumber b) → a ≡ b
len-is a b x e f = cc (ap (option_and_then (λ n. Some (OfNumber n))) e)

pub may-header : (t : Told) (of : ℕ) (o : Object) → object_at t.heap (t.regs of) ≡ Some o → IsRef (t.regs of) → kind_of o.body ≡ kind.Method → MayDo t (Header of)
may-header t of o there is method = record { heap = λ _. go o.body refl; names = is; slots = tt; ranges = tt }
  where
    go : (b : Body) → o.body ≡ b → (z : _) × (part_at t.heap (t.regs of) header_of ≡ Some z) × Unit {0}
    go (Pointers values) e = absurd (cc (sym method ∙ ap kind_of e))
    go (Words words) e = absurd (cc (sym method ∙ ap kind_of e))
    go (Bytes bytes) e = absurd (cc (sym method ∙ ap kind_of e))
    go (Method header fields code) e = (header, part t of header_of o there ∙ ap header_of e, tt)

-- what the kind and the length of an object were answered
pub record Asked (t : Told) (of : ℕ) (k : Kind) (len : ℕ) : Type 0 where
  pub object : Object
  pub at : t.heap.at (name_at (t.regs of)) ≡ Some object
  pub there : object_at t.heap (t.regs of) ≡ Some object
  pub is : kind_of object.body ≡ k
  pub long : len_of object.body ≡ len

pub asked : (t u : Told) (of : ℕ) (k : Kind) (len : ℕ) → IsReady t → IsTrue t.tells → IsRef (t.regs of) → u ≡ t → answer_of t.heap t.regs (KindOf of) ≡ Some (OfKind k) → answer_of u.heap u.regs (Length of) ≡ Some (OfNumber len) → Asked t of k len
asked t u of k len ready told is same answer answer' =
    let it = named t of ready told is in
    record {
      object = it.object;
      at = it.at;
      there = it.there;
      is = kind-is (kind_of it.object.body) k _ (part t of (λ b. Some (kind_of b)) it.object it.there) answer;
      long = len-is (len_of it.object.body) len _ (part t of (λ b. Some (len_of b)) it.object it.there) (subst (λ (w : Told). answer_of w.heap w.regs (Length of) ≡ Some (OfNumber len)) same answer');
    }

pub asked-words : (t : Told) (of : ℕ) (k : Kind) (len literals : ℕ) → (it : Asked t of k len) → (k ≡ kind.Method → length (fields_of it.object.body) ≡ literals) → words_for k len literals ≡ words_at t.heap (name_at (t.regs of))
asked-words t of k len literals it e = words-of t.heap (name_at (t.regs of)) it.object k len literals it.at it.is it.long e

pub asked-entries : (t : Told) (of : ℕ) (k : Kind) (len literals : ℕ) → (it : Asked t of k len) → (k ≡ kind.Method → length (fields_of it.object.body) ≡ literals) → entries_for k len literals ≡ entries_at t.heap (name_at (t.regs of))
asked-entries t of k len literals it e = entries-of t.heap (name_at (t.regs of)) it.object k len literals it.at it.is it.long e

-- how many literals a method was answered to have
pub literals-are : (t u : Told) (of : ℕ) (o : Object) (n : ℕ) → object_at t.heap (t.regs of) ≡ Some o → u ≡ t → part_at u.heap (u.regs of) (λ b. Some (length (fields_of b))) ≡ Some n → length (fields_of o.body) ≡ n
literals-are t u of o n there same e =
    let f : part_at t.heap (t.regs of) (λ b. Some (length (fields_of b))) ≡ Some n = subst (λ (w : Told). part_at w.heap (w.regs of) (λ b. Some (length (fields_of b))) ≡ Some n) same e in
    let g : Some (length (fields_of o.body)) ≡ Some n = sym (part t of (λ b. Some (length (fields_of b))) o there) ∙ f in
    cc

small-fits : (z : ℤ) → IsSmallInteger z → SFits w16 z
small-fits (pos n) small = omega arith
small-fits (negsuc n) small = omega arith

-- the literals of a header that was kept in a variable
pub literals-is : (z : ℤ) (n : ℕ) → IsSmallInteger z → n ≡ literal_count (to_z w16 (of_z w16 z)) → Some (literal_count z) ≡ Some n
literals-is z n small e = ap (λ n. Some n) (sym (e ∙ ap literal_count (to_z-of_z w16 z (small-fits z small))))

-- ---- the sizes of what is made

pub pointers-size : (n : ℕ) → words_for kind.Pointers n 0 ≡ 4 + body_words (body_made (OfPointers n))
pointers-size n = ap (λ k. 4 + k) (sym (length-replicate n (Ref NIL)))

pub words-size : (n : ℕ) → words_for kind.Words n 0 ≡ 4 + body_words (body_made (OfWords n))
words-size n = ap (λ k. 4 + k) (sym (length-replicate n 0))

pub bytes-size : (n : ℕ) → words_for kind.Bytes n 0 ≡ 4 + body_words (body_made (OfBytes n))
bytes-size n = ap (λ k. 4 + (k + 1) / 2) (sym (length-replicate n 0))

made-method : (header : ℤ) (code : ℕ) → words_for kind.Method code (literal_count header) ≡ 4 + body_words (body_made (OfMethod header code))
made-method header code = ap₂ (λ l k. 4 + (1 + l + (k + 1) / 2)) (sym (length-replicate (literal_count header) (Ref NIL))) (sym (length-replicate code 0))

-- the header is one that was kept in a variable
pub method-size : (header : ℤ) (code literals : ℕ) → SFits w16 header → literals ≡ literal_count (to_z w16 (of_z w16 header)) → words_for kind.Method code literals ≡ 4 + body_words (body_made (OfMethod header code))
method-size header code literals fits e = ap (words_for kind.Method code) (e ∙ ap literal_count (to_z-of_z w16 header fits)) ∙ made-method header code

-- The fields of a record: what is read is spelled so, and what is spelled so is read.
use Rattle.std.proofs.Common.{◌≡◌, ℕ, ℤ, zero, suc, ◌%◌, ◌^◌, ◌<◌, true, eqb, ltb, List, [], ◌∷◌, ◌++◌, length, replicate, Option, Some, None, Result, Ok, refl, sym, ap, subst, ◌∙◌, append_assoc, arith, ◌&&◌, inl, inr}
use Rattle.std.specs.Prelude.{All}
use Rattle.std.specs.Int.{w16, w32}
use Rattle.std.specs.List.{list_all, flat_map}
use Rattle.std.proofs.lemmas.Bool.{and_parts, and_from, eqb-true, eq-eqb, ltb-true, lt-ltb}
use Rattle.std.proofs.lemmas.List.{length-replicate}
use Rattle.std.proofs.lemmas.List.Concat.{flat_map-cons}
use Rattle.std.proofs.lemmas.List.Elements.{All-nil, All-cons, All-head, All-tail}
use Rattle.long_names.specs.Words.{IsSmallInteger, IsValue, long_word, value_of, literal_count}
use Rattle.image_format.specs.declared.fault.Halt.{Halt}
use Rattle.long_names.specs.declared.value.Value.{Value}
use Rattle.long_names.specs.declared.value.Value.TheVariants.{Int, Ref}
use Rattle.long_names.specs.declared.object.Kind.{Kind}
use Rattle.long_names.specs.declared.object.Kind.TheVariants as kind
use Rattle.long_names.specs.Names.{IsLongName}
use Rattle.long_names.specs.Record.{two_bytes, four_bytes, kind_number, values_text, words_text}
use Rattle.image_format.specs.Reading.{judged, number_at, name_at, kind_of_number, kind_at, value_at, many_at, values_at, words_at, octets_at, header_in, header_at, zeros_at}
use Rattle.image_format.proofs.Numbers.{AreBytes, Takes, takes_then, bind_ok, ok_is, some_is, passed_ok, judged_ok, octets_take, octets_again, wide16, wide32, number_takes, number_again}
use Rattle.image_format.proofs.Values.{chosen, none_is, value_back, value_again, word_fits}

-- ---- names

pub name_takes : (rule : ℕ) (bytes : List ℕ) (n : ℕ) (rest : List ℕ) → AreBytes bytes → name_at rule bytes ≡ Ok (n, rest) → Takes bytes (four_bytes n) rest × IsLongName n
unfolding name_at
name_takes rule bytes n rest fits e =
    let a = bind_ok (number_at w32 bytes) _ (n, rest) e in
    let t = number_takes w32 (2 ^ 32) four_bytes wide32 bytes a.0.0 a.0.1 fits a.1 in
    let g = passed_ok (eqb (a.0.0 % 2) 0 && ltb 0 a.0.0) (Ok a.0) _ (n, rest) a.2 in
    let tests = and_parts (eqb (a.0.0 % 2) 0) (ltb 0 a.0.0) g.0 in
    let P : ℕ × List ℕ → Type 0 = λ p. Takes bytes (four_bytes p.0) p.1 × IsLongName p.0 in
    subst P (ok_is a.0 (n, rest) g.1) (t.0, (record { even = eqb-true _ _ tests.0; above = ltb-true _ _ tests.1 }, t.1))

pub name_again : (rule : ℕ) (n : ℕ) (rest : List ℕ) → IsLongName n → name_at rule (four_bytes n ++ rest) ≡ Ok (n, rest)
unfolding name_at
name_again rule n rest is =
    let test : (eqb (n % 2) 0 && ltb 0 n) ≡ true = and_from _ _ (eq-eqb _ _ is.0.even) (lt-ltb _ _ is.0.above) in
    rw (number_again w32 (2 ^ 32) four_bytes wide32 n rest is.1, test) refl

-- ---- kinds

kind_back : (n : ℕ) (k : Kind) → kind_of_number n ≡ Some k → kind_number k ≡ n
kind_back n k e = elim (chosen (eqb n 0) (Some kind.Pointers) _ (Some k) e) [
  | inl p ↦ sym (eqb-true n 0 p.0 ∙ ap kind_number (some_is kind.Pointers k p.1))
  | inr p ↦ elim (chosen (eqb n 1) (Some kind.Words) _ (Some k) p.1) [
    | inl q ↦ sym (eqb-true n 1 q.0 ∙ ap kind_number (some_is kind.Words k q.1))
    | inr q ↦ elim (chosen (eqb n 2) (Some kind.Bytes) _ (Some k) q.1) [
      | inl r ↦ sym (eqb-true n 2 r.0 ∙ ap kind_number (some_is kind.Bytes k r.1))
      | inr r ↦ elim (chosen (eqb n 3) (Some kind.Method) None (Some k) r.1) [
        | inl s ↦ sym (eqb-true n 3 s.0 ∙ ap kind_number (some_is kind.Method k s.1))
        | inr s ↦ none_is k s.1
      ]
    ]
  ]
]

kind_again_number : (k : Kind) → kind_of_number (kind_number k) ≡ Some k
kind_again_number kind.Pointers = refl
kind_again_number kind.Words = refl
kind_again_number kind.Bytes = refl
kind_again_number kind.Method = refl

kind_fits : (k : Kind) → kind_number k < 2 ^ 16
kind_fits kind.Pointers = omega arith
kind_fits kind.Words = omega arith
kind_fits kind.Bytes = omega arith
kind_fits kind.Method = omega arith

pub kind_takes : (bytes : List ℕ) (k : Kind) (rest : List ℕ) → AreBytes bytes → kind_at bytes ≡ Ok (k, rest) → Takes bytes (two_bytes (kind_number k)) rest
unfolding kind_at
kind_takes bytes k rest fits e =
    let a = bind_ok (number_at w16 bytes) _ (k, rest) e in
    let b = bind_ok (judged 5 bytes (kind_of_number a.0.0)) (λ kind. Ok (kind, a.0.1)) (k, rest) a.2 in
    let t = number_takes w16 (2 ^ 16) two_bytes wide16 bytes a.0.0 a.0.1 fits a.1 in
    let P : Kind × List ℕ → Type 0 = λ p. Takes bytes (two_bytes (kind_number p.0)) p.1 in
    subst P (ok_is (b.0, a.0.1) (k, rest) b.2) (rw (kind_back a.0.0 b.0 (judged_ok 5 bytes (kind_of_number a.0.0) b.0 b.1)) t.0)

pub kind_again : (k : Kind) (rest : List ℕ) → kind_at (two_bytes (kind_number k) ++ rest) ≡ Ok (k, rest)
unfolding kind_at
kind_again k rest =
    rw (number_again w16 (2 ^ 16) two_bytes wide16 (kind_number k) rest (kind_fits k), kind_again_number k) refl

-- ---- values

pub value_takes : (bytes : List ℕ) (v : Value) (rest : List ℕ) → AreBytes bytes → value_at bytes ≡ Ok (v, rest) → Takes bytes (four_bytes (long_word v)) rest × IsValue v
unfolding value_at
value_takes bytes v rest fits e =
    let a = bind_ok (number_at w32 bytes) _ (v, rest) e in
    let b = bind_ok (judged 6 bytes (value_of a.0.0)) (λ value. Ok (value, a.0.1)) (v, rest) a.2 in
    let t = number_takes w32 (2 ^ 32) four_bytes wide32 bytes a.0.0 a.0.1 fits a.1 in
    let back = value_back a.0.0 b.0 t.1 (judged_ok 6 bytes (value_of a.0.0) b.0 b.1) in
    let P : Value × List ℕ → Type 0 = λ p. Takes bytes (four_bytes (long_word p.0)) p.1 × IsValue p.0 in
    subst P (ok_is (b.0, a.0.1) (v, rest) b.2) (rw back.1 t.0, back.0)

pub value_read_again : (v : Value) (rest : List ℕ) → IsValue v → value_at (four_bytes (long_word v) ++ rest) ≡ Ok (v, rest)
unfolding value_at
value_read_again v rest is =
    rw (number_again w32 (2 ^ 32) four_bytes wide32 (long_word v) rest (word_fits v is), value_again v is) refl

-- ---- many fields

pub many_take : {X : Type 0} (read : List ℕ → Result (X × List ℕ) Halt) (text : X → List ℕ) (Fits : X → Type 0)
    → ((bytes : List ℕ) (x : X) (rest : List ℕ) → AreBytes bytes → read bytes ≡ Ok (x, rest) → Takes bytes (text x) rest × Fits x)
    → (n : ℕ) (bytes : List ℕ) (x : List X × List ℕ) → AreBytes bytes → many_at read n bytes ≡ Ok x → Takes bytes (flat_map text x.0) x.1 × (length x.0 ≡ n) × All Fits x.0
unfolding many_at
many_take {X = X} read text Fits takes zero bytes x fits e =
    let P : List X × List ℕ → Type 0 = λ y. Takes bytes (flat_map text y.0) y.1 × (length y.0 ≡ 0) × All Fits y.0 in
    subst P (ok_is ([], bytes) x e) (record { parts = refl; unread = fits }, refl, All-nil Fits)
many_take {X = X} read text Fits takes (suc n) bytes x fits e =
    let a = bind_ok (read bytes) _ x e in
    let b = bind_ok (many_at read n a.0.1) (λ others. Ok (a.0.0 ∷ others.0, others.1)) x a.2 in
    let first = takes bytes a.0.0 a.0.1 fits a.1 in
    let second = many_take read text Fits takes n a.0.1 b.0 first.0.unread b.1 in
    let both = takes_then bytes (text a.0.0) a.0.1 (flat_map text b.0.0) b.0.1 first.0 second.0 in
    let P : List X × List ℕ → Type 0 = λ y. Takes bytes (flat_map text y.0) y.1 × (length y.0 ≡ suc n) × All Fits y.0 in
    subst P (ok_is (a.0.0 ∷ b.0.0, b.0.1) x b.2) (rw flat_map-cons both, ap suc second.1, All-cons Fits a.0.0 b.0.0 first.1 second.2)

pub many_again : {X : Type 0} (read : List ℕ → Result (X × List ℕ) Halt) (text : X → List ℕ) (Fits : X → Type 0)
    → ((x : X) (rest : List ℕ) → Fits x → read (text x ++ rest) ≡ Ok (x, rest))
    → (xs : List X) (rest : List ℕ) → All Fits xs → many_at read (length xs) (flat_map text xs ++ rest) ≡ Ok (xs, rest)
unfolding many_at
many_again read text Fits again [] rest all = refl
many_again read text Fits again (x ∷ xs) rest all =
    let regrouped : flat_map text (x ∷ xs) ++ rest ≡ text x ++ (flat_map text xs ++ rest) = append_assoc (text x) (flat_map text xs) rest in
    ap (many_at read (suc (length xs))) regrouped ∙ rw (again x (flat_map text xs ++ rest) (All-head Fits x xs all), many_again read text Fits again xs rest (All-tail Fits x xs all)) refl

pub values_take : (n : ℕ) (bytes : List ℕ) (x : List Value × List ℕ) → AreBytes bytes → values_at n bytes ≡ Ok x → Takes bytes (values_text x.0) x.1 × (length x.0 ≡ n) × All IsValue x.0
values_take = many_take value_at (λ v. four_bytes (long_word v)) IsValue value_takes

pub values_again : (vs : List Value) (rest : List ℕ) → All IsValue vs → values_at (length vs) (values_text vs ++ rest) ≡ Ok (vs, rest)
values_again = many_again value_at (λ v. four_bytes (long_word v)) IsValue value_read_again

abbrev pub IsWord : ℕ → Type 0
IsWord w = w < 2 ^ 16

pub words_take : (n : ℕ) (bytes : List ℕ) (x : List ℕ × List ℕ) → AreBytes bytes → words_at n bytes ≡ Ok x → Takes bytes (words_text x.0) x.1 × (length x.0 ≡ n) × All IsWord x.0
words_take = many_take (number_at w16) two_bytes IsWord (number_takes w16 (2 ^ 16) two_bytes wide16)

pub words_again : (ws : List ℕ) (rest : List ℕ) → All IsWord ws → words_at (length ws) (words_text ws ++ rest) ≡ Ok (ws, rest)
words_again = many_again (number_at w16) two_bytes IsWord (number_again w16 (2 ^ 16) two_bytes wide16)

-- ---- headers

stated_in : (count : ℕ) (o : Option Value) (z : ℤ) → header_in count o ≡ Some z → (o ≡ Some (Int z)) × (literal_count z ≡ count)
stated_in count (Some (Int y)) z e = elim (chosen (eqb (literal_count y) count) (Some y) None (Some z) e) [
  | inl p ↦ subst (λ (x : ℤ). (◌≡◌ {A = Option Value} (Some (Int y)) (Some (Int x))) × (literal_count x ≡ count)) (some_is y z p.1) (refl, eqb-true _ _ p.0)
  | inr p ↦ none_is z p.1
]
stated_in count (Some (Ref n)) z e = none_is z e
stated_in count None z e = none_is z e

pub header_takes : (count : ℕ) (bytes : List ℕ) (z : ℤ) (rest : List ℕ) → AreBytes bytes → header_at count bytes ≡ Ok (z, rest) → Takes bytes (four_bytes (long_word (Int z))) rest × IsSmallInteger z × (literal_count z ≡ count)
unfolding header_at
header_takes count bytes z rest fits e =
    let a = bind_ok (number_at w32 bytes) _ (z, rest) e in
    let b = bind_ok (judged 7 bytes (header_in count (value_of a.0.0))) (λ header. Ok (header, a.0.1)) (z, rest) a.2 in
    let t = number_takes w32 (2 ^ 32) four_bytes wide32 bytes a.0.0 a.0.1 fits a.1 in
    let stated = stated_in count (value_of a.0.0) b.0 (judged_ok 7 bytes (header_in count (value_of a.0.0)) b.0 b.1) in
    let back = value_back a.0.0 (Int b.0) t.1 stated.0 in
    let P : ℤ × List ℕ → Type 0 = λ p. Takes bytes (four_bytes (long_word (Int p.0))) p.1 × IsSmallInteger p.0 × (literal_count p.0 ≡ count) in
    subst P (ok_is (b.0, a.0.1) (z, rest) b.2) (rw back.1 t.0, back.0, stated.1)

pub header_stated : (count : ℕ) (bytes : List ℕ) (x : ℤ × List ℕ) → header_at count bytes ≡ Ok x → literal_count x.0 ≡ count
unfolding header_at
header_stated count bytes x e =
    let a = bind_ok (number_at w32 bytes) _ x e in
    let b = bind_ok (judged 7 bytes (header_in count (value_of a.0.0))) (λ header. Ok (header, a.0.1)) x a.2 in
    let stated = stated_in count (value_of a.0.0) b.0 (judged_ok 7 bytes (header_in count (value_of a.0.0)) b.0 b.1) in
    let P : ℤ × List ℕ → Type 0 = λ p. literal_count p.0 ≡ count in
    subst P (ok_is (b.0, a.0.1) x b.2) stated.1

pub header_again : (z : ℤ) (rest : List ℕ) → IsSmallInteger z → header_at (literal_count z) (four_bytes (long_word (Int z)) ++ rest) ≡ Ok (z, rest)
unfolding header_at
header_again z rest is =
    let same : eqb (literal_count z) (literal_count z) ≡ true = eq-eqb _ _ refl in
    rw (number_again w32 (2 ^ 32) four_bytes wide32 (long_word (Int z)) rest (word_fits (Int z) is), value_again (Int z) is, same) refl

-- ---- zeros

all_zeros : (zeros : List ℕ) → list_all (λ b. eqb b 0) zeros ≡ true → zeros ≡ replicate (length zeros) 0
all_zeros [] e = refl
all_zeros (b ∷ bs) e =
    let both = and_parts (eqb b 0) (list_all (λ b. eqb b 0) bs) e in
    let first : b ≡ 0 = eqb-true _ _ both.0 in
    let others = all_zeros bs both.1 in
    cc

zeros_all : (n : ℕ) → list_all (λ b. eqb b 0) (replicate n 0) ≡ true
zeros_all zero = refl
zeros_all (suc n) = zeros_all n

pub zeros_take : (n : ℕ) (bytes : List ℕ) (x : Unit {0} × List ℕ) → AreBytes bytes → zeros_at n bytes ≡ Ok x → Takes bytes (replicate n 0) x.1
unfolding zeros_at
zeros_take n bytes x fits e =
    let a = bind_ok (octets_at n bytes) _ x e in
    let t = octets_take n bytes a.0.0 a.0.1 fits a.1 in
    let g = passed_ok (list_all (λ b. eqb b 0) a.0.0) (Ok (tt, a.0.1)) _ x a.2 in
    let zeros : a.0.0 ≡ replicate n 0 = all_zeros a.0.0 g.0 ∙ ap (λ (k : ℕ). replicate k 0) t.1 in
    let P : Unit {0} × List ℕ → Type 0 = λ y. Takes bytes (replicate n 0) y.1 in
    subst P (ok_is (tt, a.0.1) x g.1) (rw (← zeros) t.0)

pub zeros_again : (n : ℕ) (rest : List ℕ) → zeros_at n (replicate n 0 ++ rest) ≡ Ok (tt, rest)
unfolding zeros_at
zeros_again n rest = rw (octets_again n (replicate n 0) rest (length-replicate n 0), zeros_all n) refl

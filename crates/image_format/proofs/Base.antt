-- The base image: a small heap, its text by its bytes, and that it is valid. So the definitions say of it what they are to say, and there are valid images.
use Rattle.std.proofs.Common.{◌≡◌, ℕ, zero, suc, ◌%◌, ◌^◌, ◌<◌, ◌≤◌, ◌&&◌, ◌||◌, Bool, true, false, cond, not, eqb, ltb, List, [], ◌∷◌, ◌++◌, length, take, drop, Option, Some, None, is_some, refl, sym, ap, subst, ◌∙◌, pos, negsuc, arith, inl, inr}
use Rattle.std.specs.Prelude.{All}
use Rattle.std.specs.List.{list_any, list_all}
use Rattle.std.proofs.lemmas.Bool.{cases_lt, eq-eqb, eqb-true, ltb-true, le-ltb, and_parts, or_cases}
use Rattle.std.proofs.lemmas.List.Elements.{All-nil, All-cons}
use Rattle.long_names.specs.Names.{IsName, is_known, known_names, IsLongName}
use Rattle.long_names.specs.Words.{IsValue}
use Rattle.long_names.specs.Objects.{is_ref, holds, fields_of, IsObject}
use Rattle.long_names.specs.Heap.{Heap, Has, object_count, count_of}
use Rattle.long_names.specs.declared.value.Value.{Value}
use Rattle.long_names.specs.declared.value.Value.TheVariants.{Int, Ref}
use Rattle.long_names.specs.declared.object.Body.TheVariants.{Pointers, Method}
use Rattle.long_names.specs.declared.object.Object.{Object}
use Rattle.long_names.specs.Record.{two_bytes, four_bytes, eight_bytes, record_text}
use Rattle.image_format.specs.Text.{image_text}
use Rattle.image_format.specs.Reading.{record_at, name_at, number_at, octets_at, kind_at, size_at, body_at, method_at, header_at, value_at, many_at, zeros_at}
use Rattle.image_format.specs.Heads.{head_at, opening_at, state_at, checked_at}
use Rattle.image_format.specs.Rules.{break, first_break, image_at, records_at, next_record_at}
use Rattle.image_format.specs.Valid.{IsImageHeap, IsValid}
use Rattle.image_format.proofs.Values.{chosen, none_is}
use Rattle.image_format.proofs.Numbers.{some_is}

-- ---- the heap

abbrev pointers : ℕ → List Value → Object
pointers class values = record { class = class; body = Pointers values }

-- the scheduler's association, the scheduler, its process, the process's method and context, and the known objects
abbrev association : Object
association = pointers 16 (Ref 2 ∷ Ref 60 ∷ [])

abbrev scheduler : Object
scheduler = pointers 16 (Ref 2 ∷ Ref 62 ∷ [])

abbrev process : Object
process = pointers 16 (Ref 2 ∷ Ref 66 ∷ Int (pos 1) ∷ Ref 2 ∷ [])

abbrev method : Object
method = record { class = 34; body = Method (pos 0) [] (112 ∷ 135 ∷ 163 ∷ 252 ∷ []) }

abbrev context : Object
context = pointers 22 (Ref 2 ∷ Int (pos 3) ∷ Int (pos 0) ∷ Ref 64 ∷ Ref 2 ∷ Ref 2 ∷ Ref 2 ∷ Ref 2 ∷ Ref 2 ∷ Ref 2 ∷ Ref 2 ∷ Ref 2 ∷ Ref 2 ∷ Ref 2 ∷ Ref 2 ∷ Ref 2 ∷ Ref 2 ∷ Ref 2 ∷ [])

abbrev empty : Object
empty = pointers 16 []

abbrev base_at : ℕ → Option Object
base_at n = cond (ltb n 68) (cond (eqb n 8) (Some association) (cond (eqb n 60) (Some scheduler) (cond (eqb n 62) (Some process) (cond (eqb n 64) (Some method) (cond (eqb n 66) (Some context) (cond (is_known n) (Some empty) None)))))) None

abbrev base : Heap
base = record { at = base_at; next = 68 }

-- ---- its text

abbrev base_bytes : List ℕ
base_bytes = 76 ∷ 79 ∷ 79 ∷ 77 ∷ 0 ∷ 0 ∷ 0 ∷ 1 ∷ 0 ∷ 0 ∷ 0 ∷ 26 ∷ 0 ∷ 0 ∷ 0 ∷ 68 ∷ 0 ∷ 0 ∷ 0 ∷ 2 ∷ 0 ∷ 0 ∷ 0 ∷ 16 ∷ 0 ∷ 0 ∷ 0 ∷ 0 ∷ 0 ∷ 0 ∷ 0 ∷ 19 ∷ 0 ∷ 0 ∷ 0 ∷ 0 ∷ 0 ∷ 0 ∷ 0 ∷ 4 ∷ 0 ∷ 0 ∷ 0 ∷ 16 ∷ 0 ∷ 0 ∷ 0 ∷ 0 ∷ 0 ∷ 0 ∷ 0 ∷ 0 ∷ 0 ∷ 0 ∷ 0 ∷ 0 ∷ 0 ∷ 0 ∷ 0 ∷ 6 ∷ 0 ∷ 0 ∷ 0 ∷ 16 ∷ 0 ∷ 0 ∷ 0 ∷ 0 ∷ 0 ∷ 0 ∷ 0 ∷ 0 ∷ 0 ∷ 0 ∷ 0 ∷ 0 ∷ 0 ∷ 0 ∷ 0 ∷ 8 ∷ 0 ∷ 0 ∷ 0 ∷ 16 ∷ 0 ∷ 0 ∷ 0 ∷ 0 ∷ 0 ∷ 0 ∷ 0 ∷ 0 ∷ 0 ∷ 0 ∷ 0 ∷ 2 ∷ 0 ∷ 0 ∷ 0 ∷ 2 ∷ 0 ∷ 0 ∷ 0 ∷ 60 ∷ 0 ∷ 0 ∷ 0 ∷ 12 ∷ 0 ∷ 0 ∷ 0 ∷ 16 ∷ 0 ∷ 0 ∷ 0 ∷ 0 ∷ 0 ∷ 0 ∷ 0 ∷ 0 ∷ 0 ∷ 0 ∷ 0 ∷ 0 ∷ 0 ∷ 0 ∷ 0 ∷ 14 ∷ 0 ∷ 0 ∷ 0 ∷ 16 ∷ 0 ∷ 0 ∷ 0 ∷ 0 ∷ 0 ∷ 0 ∷ 0 ∷ 0 ∷ 0 ∷ 0 ∷ 0 ∷ 0 ∷ 0 ∷ 0 ∷ 0 ∷ 16 ∷ 0 ∷ 0 ∷ 0 ∷ 16 ∷ 0 ∷ 0 ∷ 0 ∷ 0 ∷ 0 ∷ 0 ∷ 0 ∷ 24 ∷ 0 ∷ 0 ∷ 0 ∷ 0 ∷ 0 ∷ 0 ∷ 0 ∷ 22 ∷ 0 ∷ 0 ∷ 0 ∷ 16 ∷ 0 ∷ 0 ∷ 0 ∷ 0 ∷ 0 ∷ 0 ∷ 0 ∷ 1 ∷ 0 ∷ 0 ∷ 0 ∷ 0 ∷ 0 ∷ 0 ∷ 0 ∷ 24 ∷ 0 ∷ 0 ∷ 0 ∷ 16 ∷ 0 ∷ 0 ∷ 0 ∷ 0 ∷ 0 ∷ 0 ∷ 0 ∷ 0 ∷ 0 ∷ 0 ∷ 0 ∷ 0 ∷ 0 ∷ 0 ∷ 0 ∷ 26 ∷ 0 ∷ 0 ∷ 0 ∷ 16 ∷ 0 ∷ 0 ∷ 0 ∷ 0 ∷ 0 ∷ 0 ∷ 0 ∷ 0 ∷ 0 ∷ 0 ∷ 0 ∷ 0 ∷ 0 ∷ 0 ∷ 0 ∷ 28 ∷ 0 ∷ 0 ∷ 0 ∷ 16 ∷ 0 ∷ 0 ∷ 0 ∷ 0 ∷ 0 ∷ 0 ∷ 0 ∷ 0 ∷ 0 ∷ 0 ∷ 0 ∷ 0 ∷ 0 ∷ 0 ∷ 0 ∷ 30 ∷ 0 ∷ 0 ∷ 0 ∷ 16 ∷ 0 ∷ 0 ∷ 0 ∷ 0 ∷ 0 ∷ 0 ∷ 0 ∷ 0 ∷ 0 ∷ 0 ∷ 0 ∷ 0 ∷ 0 ∷ 0 ∷ 0 ∷ 32 ∷ 0 ∷ 0 ∷ 0 ∷ 16 ∷ 0 ∷ 0 ∷ 0 ∷ 0 ∷ 0 ∷ 0 ∷ 0 ∷ 0 ∷ 0 ∷ 0 ∷ 0 ∷ 0 ∷ 0 ∷ 0 ∷ 0 ∷ 34 ∷ 0 ∷ 0 ∷ 0 ∷ 16 ∷ 0 ∷ 0 ∷ 0 ∷ 0 ∷ 0 ∷ 0 ∷ 0 ∷ 1 ∷ 0 ∷ 0 ∷ 0 ∷ 0 ∷ 0 ∷ 0 ∷ 0 ∷ 38 ∷ 0 ∷ 0 ∷ 0 ∷ 16 ∷ 0 ∷ 0 ∷ 0 ∷ 0 ∷ 0 ∷ 0 ∷ 0 ∷ 0 ∷ 0 ∷ 0 ∷ 0 ∷ 0 ∷ 0 ∷ 0 ∷ 0 ∷ 40 ∷ 0 ∷ 0 ∷ 0 ∷ 16 ∷ 0 ∷ 0 ∷ 0 ∷ 0 ∷ 0 ∷ 0 ∷ 0 ∷ 0 ∷ 0 ∷ 0 ∷ 0 ∷ 0 ∷ 0 ∷ 0 ∷ 0 ∷ 42 ∷ 0 ∷ 0 ∷ 0 ∷ 16 ∷ 0 ∷ 0 ∷ 0 ∷ 0 ∷ 0 ∷ 0 ∷ 0 ∷ 0 ∷ 0 ∷ 0 ∷ 0 ∷ 0 ∷ 0 ∷ 0 ∷ 0 ∷ 44 ∷ 0 ∷ 0 ∷ 0 ∷ 16 ∷ 0 ∷ 0 ∷ 0 ∷ 0 ∷ 0 ∷ 0 ∷ 0 ∷ 0 ∷ 0 ∷ 0 ∷ 0 ∷ 0 ∷ 0 ∷ 0 ∷ 0 ∷ 48 ∷ 0 ∷ 0 ∷ 0 ∷ 16 ∷ 0 ∷ 0 ∷ 0 ∷ 0 ∷ 0 ∷ 0 ∷ 0 ∷ 0 ∷ 0 ∷ 0 ∷ 0 ∷ 0 ∷ 0 ∷ 0 ∷ 0 ∷ 50 ∷ 0 ∷ 0 ∷ 0 ∷ 16 ∷ 0 ∷ 0 ∷ 0 ∷ 0 ∷ 0 ∷ 0 ∷ 0 ∷ 0 ∷ 0 ∷ 0 ∷ 0 ∷ 0 ∷ 0 ∷ 0 ∷ 0 ∷ 52 ∷ 0 ∷ 0 ∷ 0 ∷ 16 ∷ 0 ∷ 0 ∷ 0 ∷ 0 ∷ 0 ∷ 0 ∷ 0 ∷ 0 ∷ 0 ∷ 0 ∷ 0 ∷ 0 ∷ 0 ∷ 0 ∷ 0 ∷ 58 ∷ 0 ∷ 0 ∷ 0 ∷ 16 ∷ 0 ∷ 0 ∷ 0 ∷ 0 ∷ 0 ∷ 0 ∷ 0 ∷ 0 ∷ 0 ∷ 0 ∷ 0 ∷ 0 ∷ 0 ∷ 0 ∷ 0 ∷ 60 ∷ 0 ∷ 0 ∷ 0 ∷ 16 ∷ 0 ∷ 0 ∷ 0 ∷ 0 ∷ 0 ∷ 0 ∷ 0 ∷ 1 ∷ 0 ∷ 0 ∷ 0 ∷ 2 ∷ 0 ∷ 0 ∷ 0 ∷ 2 ∷ 0 ∷ 0 ∷ 0 ∷ 62 ∷ 0 ∷ 0 ∷ 0 ∷ 62 ∷ 0 ∷ 0 ∷ 0 ∷ 16 ∷ 0 ∷ 0 ∷ 0 ∷ 0 ∷ 0 ∷ 0 ∷ 0 ∷ 1 ∷ 0 ∷ 0 ∷ 0 ∷ 4 ∷ 0 ∷ 0 ∷ 0 ∷ 2 ∷ 0 ∷ 0 ∷ 0 ∷ 66 ∷ 0 ∷ 0 ∷ 0 ∷ 3 ∷ 0 ∷ 0 ∷ 0 ∷ 2 ∷ 0 ∷ 0 ∷ 0 ∷ 64 ∷ 0 ∷ 0 ∷ 0 ∷ 34 ∷ 0 ∷ 0 ∷ 0 ∷ 0 ∷ 0 ∷ 0 ∷ 0 ∷ 1 ∷ 0 ∷ 3 ∷ 0 ∷ 4 ∷ 0 ∷ 0 ∷ 0 ∷ 0 ∷ 0 ∷ 0 ∷ 0 ∷ 1 ∷ 112 ∷ 135 ∷ 163 ∷ 252 ∷ 0 ∷ 0 ∷ 0 ∷ 66 ∷ 0 ∷ 0 ∷ 0 ∷ 22 ∷ 0 ∷ 0 ∷ 0 ∷ 0 ∷ 0 ∷ 0 ∷ 0 ∷ 1 ∷ 0 ∷ 0 ∷ 0 ∷ 18 ∷ 0 ∷ 0 ∷ 0 ∷ 2 ∷ 0 ∷ 0 ∷ 0 ∷ 7 ∷ 0 ∷ 0 ∷ 0 ∷ 1 ∷ 0 ∷ 0 ∷ 0 ∷ 64 ∷ 0 ∷ 0 ∷ 0 ∷ 2 ∷ 0 ∷ 0 ∷ 0 ∷ 2 ∷ 0 ∷ 0 ∷ 0 ∷ 2 ∷ 0 ∷ 0 ∷ 0 ∷ 2 ∷ 0 ∷ 0 ∷ 0 ∷ 2 ∷ 0 ∷ 0 ∷ 0 ∷ 2 ∷ 0 ∷ 0 ∷ 0 ∷ 2 ∷ 0 ∷ 0 ∷ 0 ∷ 2 ∷ 0 ∷ 0 ∷ 0 ∷ 2 ∷ 0 ∷ 0 ∷ 0 ∷ 2 ∷ 0 ∷ 0 ∷ 0 ∷ 2 ∷ 0 ∷ 0 ∷ 0 ∷ 2 ∷ 0 ∷ 0 ∷ 0 ∷ 2 ∷ 0 ∷ 0 ∷ 0 ∷ 2 ∷ []

base_text : image_text base ≡ base_bytes
unfolding image_text record_text two_bytes four_bytes eight_bytes object_count count_of
base_text = refl

-- ---- it is valid

-- what holds of each object of the heap
each_object : (P : Object → Type 0) → P association → P scheduler → P process → P method → P context → P empty → (n : ℕ) (o : Object) → base_at n ≡ Some o → P o
each_object P p8 p60 p62 p64 p66 p n o e = elim (chosen (ltb n 68) _ None (Some o) e) [
  | inr q ↦ none_is o q.1
  | inl a ↦ elim (chosen (eqb n 8) _ _ (Some o) a.1) [
    | inl q ↦ subst P (some_is association o q.1) p8
    | inr b ↦ elim (chosen (eqb n 60) _ _ (Some o) b.1) [
      | inl q ↦ subst P (some_is scheduler o q.1) p60
      | inr d ↦ elim (chosen (eqb n 62) _ _ (Some o) d.1) [
        | inl q ↦ subst P (some_is process o q.1) p62
        | inr f ↦ elim (chosen (eqb n 64) _ _ (Some o) f.1) [
          | inl q ↦ subst P (some_is method o q.1) p64
          | inr g ↦ elim (chosen (eqb n 66) _ _ (Some o) g.1) [
            | inl q ↦ subst P (some_is context o q.1) p66
            | inr h ↦ elim (chosen (is_known n) _ None (Some o) h.1) [
              | inl q ↦ subst P (some_is empty o q.1) p
              | inr q ↦ none_is o q.1
            ]
          ]
        ]
      ]
    ]
  ]
]

abbrev all_below : ℕ → (ℕ → Bool) → Bool
all_below zero f = true
all_below (suc n) f = f n && all_below n f

below_at : (f : ℕ → Bool) (n k : ℕ) → all_below n f ≡ true → k < n → f k ≡ true
below_at f zero k all lt = absurd (omega (arith, lt))
below_at f (suc n) k all lt =
    let parts = and_parts (f n) (all_below n f) all in
    elim (cases_lt k n) [
      | inl below ↦ below_at f n k parts.1 below
      | inr past ↦ let same : n ≡ k = omega (arith, past, lt) in subst (λ (i : ℕ). f i ≡ true) same parts.0
    ]

none_from : (n : ℕ) → 68 ≤ n → base_at n ≡ None
none_from n le = let test : ltb n 68 ≡ false = le-ltb n 68 le in rw test refl

nothing_some : false ≡ true → ⊥
nothing_some e = cc

implied : (a b : Bool) → (not a || b) ≡ true → a ≡ true → b ≡ true
implied true b e h = e
implied false b e h = absurd (nothing_some h)

has_low : (n : ℕ) → Has base n → n < 68
has_low n has = elim (cases_lt n 68) [
  | inl lt ↦ lt
  | inr le ↦ absurd (nothing_some (sym (ap is_some (none_from n le)) ∙ has))
]

-- all that an object holds is below 68 and in the heap
abbrev low_ref : Value → Bool
low_ref (Int z) = true
low_ref (Ref n) = ltb n 68

held_low : (held : ℕ) (fields : List Value) → list_all low_ref fields ≡ true → list_any (is_ref held) fields ≡ true → held < 68
held_low held [] low any = absurd (nothing_some any)
held_low held (Int z ∷ fields) low any = held_low held fields low any
held_low held (Ref n ∷ fields) low any =
    let lows = and_parts (ltb n 68) (list_all low_ref fields) low in
    elim (or_cases (eqb n held) (list_any (is_ref held) fields) any) [
      | inl here ↦ omega (arith, eqb-true n held here, ltb-true n 68 lows.0)
      | inr there ↦ held_low held fields lows.1 there
    ]

abbrev Closed : Object → Type 0
Closed o = (held : ℕ) → holds o held ≡ true → Has base held

closed : (o : Object) → o.class < 68 → list_all low_ref (fields_of o.body) ≡ true → all_below 68 (λ held. not (holds o held) || is_some (base_at held)) ≡ true → Closed o
closed o class low all held h =
    let lt : held < 68 = elim (or_cases (eqb o.class held) (list_any (is_ref held) (fields_of o.body)) h) [
      | inl here ↦ omega (arith, eqb-true o.class held here, class)
      | inr there ↦ held_low held (fields_of o.body) low there
    ] in
    implied (holds o held) (is_some (base_at held)) (below_at (λ k. not (holds o k) || is_some (base_at k)) 68 held all lt) h

known_low : (n : ℕ) (names : List ℕ) → list_all (λ k. ltb k 68) names ≡ true → list_any (λ k. eqb n k) names ≡ true → n < 68
known_low n [] low any = absurd (nothing_some any)
known_low n (k ∷ names) low any =
    let lows = and_parts (ltb k 68) (list_all (λ k. ltb k 68) names) low in
    elim (or_cases (eqb n k) (list_any (λ k. eqb n k) names) any) [
      | inl here ↦ omega (arith, eqb-true n k here, ltb-true k 68 lows.0)
      | inr there ↦ known_low n names lows.1 there
    ]

name_of_even : (n : ℕ) → (eqb (n % 2) 0 && ltb 0 n) ≡ true → IsName n
name_of_even n e =
    let parts = and_parts (eqb (n % 2) 0) (ltb 0 n) e in
    record { even = eqb-true _ _ parts.0; above = ltb-true _ _ parts.1 }

long : (n : ℕ) → (eqb (n % 2) 0 && ltb 0 n) ≡ true → n < 2 ^ 32 → IsLongName n
long n e lt = (name_of_even n e, lt)

abbrev is_value : Value → Bool
is_value (Int (pos n)) = ltb n 16384
is_value (Int (negsuc n)) = ltb n 16384
is_value (Ref n) = (eqb (n % 2) 0 && ltb 0 n) && ltb n (2 ^ 32)

one_value : (v : Value) → is_value v ≡ true → IsValue v
one_value (Int (pos n)) e = ltb-true n 16384 e
one_value (Int (negsuc n)) e = ltb-true n 16384 e
one_value (Ref n) e =
    let parts = and_parts (eqb (n % 2) 0 && ltb 0 n) (ltb n (2 ^ 32)) e in
    (name_of_even n parts.0, ltb-true n (2 ^ 32) parts.1)

all_values : (vs : List Value) → list_all is_value vs ≡ true → All IsValue vs
all_values [] e = All-nil IsValue
all_values (v ∷ vs) e =
    let parts = and_parts (is_value v) (list_all is_value vs) e in
    All-cons IsValue v vs (one_value v parts.0) (all_values vs parts.1)

array_is : (class : ℕ) (values : List Value) → (eqb (class % 2) 0 && ltb 0 class) ≡ true → class < 2 ^ 32 → length values < 65536 → list_all is_value values ≡ true → IsObject (pointers class values)
array_is class values name lt few all = record { class = long class name lt; body = record { size = few; fields = all_values values all }; range = tt }

all_small : (bytes : List ℕ) → list_all (λ b. ltb b (2 ^ 8)) bytes ≡ true → All (λ b. b < 2 ^ 8) bytes
all_small [] e = All-nil (λ b. b < 2 ^ 8)
all_small (b ∷ bytes) e =
    let parts = and_parts (ltb b (2 ^ 8)) (list_all (λ b. ltb b (2 ^ 8)) bytes) e in
    All-cons (λ b. b < 2 ^ 8) b bytes (ltb-true b (2 ^ 8) parts.0) (all_small bytes parts.1)

method_is : IsObject method
method_is = record { class = long 34 refl (omega arith); body = record { size = (omega arith, refl, omega arith); fields = All-nil IsValue }; range = all_small (112 ∷ 135 ∷ 163 ∷ 252 ∷ []) refl }

base_is : IsImageHeap base
unfolding object_count count_of
base_is = record {
  head = record { enough = omega arith; few = omega arith; even = refl; low = omega arith; high = omega arith };
  bounded = record { bounded = none_from };
  names = λ n has. name_of_even n (implied (is_some (base_at n)) (eqb (n % 2) 0 && ltb 0 n) (below_at (λ k. not (is_some (base_at k)) || (eqb (k % 2) 0 && ltb 0 k)) 68 n refl (has_low n has)) has);
  objects = each_object IsObject (array_is 16 _ refl (omega arith) (omega arith) refl) (array_is 16 _ refl (omega arith) (omega arith) refl) (array_is 16 _ refl (omega arith) (omega arith) refl) method_is (array_is 22 _ refl (omega arith) (omega arith) refl) (array_is 16 _ refl (omega arith) (omega arith) refl);
  closed = λ n held o at h. each_object Closed (closed association (omega arith) refl refl) (closed scheduler (omega arith) refl refl) (closed process (omega arith) refl refl) (closed method (omega arith) refl refl) (closed context (omega arith) refl refl) (closed empty (omega arith) refl refl) n o at held h;
  counted = λ n has none. implied (eqb (count_of base n) 0) (is_known n) (implied (is_some (base_at n)) (not (eqb (count_of base n) 0) || is_known n) (below_at (λ k. not (is_some (base_at k)) || (not (eqb (count_of base k) 0) || is_known k)) 68 n refl (has_low n has)) has) (eq-eqb _ _ none);
  known = λ n is. implied (is_known n) (is_some (base_at n)) (below_at (λ k. not (is_known k) || is_some (base_at k)) 68 n refl (known_low n known_names refl is)) is;
}

pub base_is_valid : IsValid base_bytes
base_is_valid = record { heap = base; is = base_is; text = sym base_text }

-- ---- rules that are broken where it is damaged

-- without its last byte
pub cut : first_break (take 651 base_bytes) ≡ Some (break 9 651)
unfolding first_break image_at head_at opening_at state_at checked_at records_at next_record_at record_at name_at number_at octets_at kind_at size_at body_at method_at header_at value_at many_at zeros_at
cut = refl

-- its first three bytes
pub cut_short : first_break (take 3 base_bytes) ≡ Some (break 9 3)
unfolding first_break image_at head_at opening_at state_at checked_at records_at next_record_at record_at name_at number_at octets_at kind_at size_at body_at method_at header_at value_at many_at zeros_at
cut_short = refl

-- with a byte more
pub longer : first_break (base_bytes ++ 0 ∷ []) ≡ Some (break 9 652)
unfolding first_break image_at head_at opening_at state_at checked_at records_at next_record_at record_at name_at number_at octets_at kind_at size_at body_at method_at header_at value_at many_at zeros_at
longer = refl

-- with X as its first byte
pub no_loom : first_break (88 ∷ drop 1 base_bytes) ≡ Some (break 1 0)
unfolding first_break image_at head_at opening_at state_at checked_at records_at next_record_at record_at name_at number_at octets_at kind_at size_at body_at method_at header_at value_at many_at zeros_at
no_loom = refl

-- as version 3
pub third_version : first_break (take 7 base_bytes ++ (3 ∷ drop 8 base_bytes)) ≡ Some (break 2 4)
unfolding first_break image_at head_at opening_at state_at checked_at records_at next_record_at record_at name_at number_at octets_at kind_at size_at body_at method_at header_at value_at many_at zeros_at
third_version = refl

-- as version 2, with the display 69
pub odd_display : first_break (take 7 base_bytes ++ (2 ∷ (take 8 (drop 8 base_bytes) ++ (0 ∷ 0 ∷ 0 ∷ 0 ∷ 0 ∷ 0 ∷ 0 ∷ 69 ∷ 0 ∷ 0 ∷ 0 ∷ 0 ∷ 0 ∷ 0 ∷ 0 ∷ 0 ∷ 0 ∷ 0 ∷ 0 ∷ 0 ∷ drop 16 base_bytes)))) ≡ Some (break 13 20)
unfolding first_break image_at head_at opening_at state_at checked_at records_at next_record_at record_at name_at number_at octets_at kind_at size_at body_at method_at header_at value_at many_at zeros_at
odd_display = refl

-- with 21 objects
pub few_objects : first_break (take 11 base_bytes ++ (21 ∷ drop 12 base_bytes)) ≡ Some (break 3 8)
unfolding first_break image_at head_at opening_at state_at checked_at records_at next_record_at record_at name_at number_at octets_at kind_at size_at body_at method_at header_at value_at many_at zeros_at
few_objects = refl

-- with the next name 69
pub odd_next : first_break (take 15 base_bytes ++ (69 ∷ drop 16 base_bytes)) ≡ Some (break 3 12)
unfolding first_break image_at head_at opening_at state_at checked_at records_at next_record_at record_at name_at number_at octets_at kind_at size_at body_at method_at header_at value_at many_at zeros_at
odd_next = refl

-- the first object with the class 0
pub no_class : first_break (take 23 base_bytes ++ (0 ∷ drop 24 base_bytes)) ≡ Some (break 6 20)
unfolding first_break image_at head_at opening_at state_at checked_at records_at next_record_at record_at name_at number_at octets_at kind_at size_at body_at method_at header_at value_at many_at zeros_at
no_class = refl

-- the second object with the first one's name
pub falling_name : first_break (take 39 base_bytes ++ (2 ∷ drop 40 base_bytes)) ≡ Some (break 4 36)
unfolding first_break image_at head_at opening_at state_at checked_at records_at next_record_at record_at name_at number_at octets_at kind_at size_at body_at method_at header_at value_at many_at zeros_at
falling_name = refl

-- the first object with the kind 4
pub fifth_kind : first_break (take 33 base_bytes ++ (4 ∷ drop 34 base_bytes)) ≡ Some (break 5 32)
unfolding first_break image_at head_at opening_at state_at checked_at records_at next_record_at record_at name_at number_at octets_at kind_at size_at body_at method_at header_at value_at many_at zeros_at
fifth_kind = refl

-- with the field 0
pub no_value : first_break (take 99 base_bytes ++ (0 ∷ drop 100 base_bytes)) ≡ Some (break 6 96)
unfolding first_break image_at head_at opening_at state_at checked_at records_at next_record_at record_at name_at number_at octets_at kind_at size_at body_at method_at header_at value_at many_at zeros_at
no_value = refl

-- the method with 16,001 bytes of code
pub long_code : first_break (take 546 base_bytes ++ (62 ∷ 129 ∷ drop 548 base_bytes)) ≡ Some (break 7 546)
unfolding first_break image_at head_at opening_at state_at checked_at records_at next_record_at record_at name_at number_at octets_at kind_at size_at body_at method_at header_at value_at many_at zeros_at
long_code = refl

-- the method with one literal more than its header says
pub other_header : first_break (take 551 base_bytes ++ (1 ∷ drop 552 base_bytes)) ≡ Some (break 7 552)
unfolding first_break image_at head_at opening_at state_at checked_at records_at next_record_at record_at name_at number_at octets_at kind_at size_at body_at method_at header_at value_at many_at zeros_at
other_header = refl

-- the first object with a class that isn't there
pub held_by_none : first_break (take 23 base_bytes ++ (10 ∷ drop 24 base_bytes)) ≡ Some (break 10 2)
unfolding first_break image_at head_at opening_at state_at checked_at records_at next_record_at record_at name_at number_at octets_at kind_at size_at body_at method_at header_at value_at many_at zeros_at
held_by_none = refl

-- the first object with a count that is one too large
pub miscounted : first_break (take 31 base_bytes ++ (20 ∷ drop 32 base_bytes)) ≡ Some (break 11 2)
unfolding first_break image_at head_at opening_at state_at checked_at records_at next_record_at record_at name_at number_at octets_at kind_at size_at body_at method_at header_at value_at many_at zeros_at
miscounted = refl

-- without the object 58, and with the count of its class one less
pub unknown_known : first_break (take 11 base_bytes ++ (25 ∷ (take 147 (drop 12 base_bytes) ++ (23 ∷ (take 284 (drop 160 base_bytes) ++ drop 464 base_bytes))))) ≡ Some (break 12 58)
unfolding first_break image_at head_at opening_at state_at checked_at records_at next_record_at record_at name_at number_at octets_at kind_at size_at body_at method_at header_at value_at many_at zeros_at
unknown_known = refl

-- as version 2, with the display 10
pub lost_display : first_break (take 7 base_bytes ++ (2 ∷ (take 8 (drop 8 base_bytes) ++ (0 ∷ 0 ∷ 0 ∷ 0 ∷ 0 ∷ 0 ∷ 0 ∷ 10 ∷ 0 ∷ 0 ∷ 0 ∷ 0 ∷ 0 ∷ 0 ∷ 0 ∷ 0 ∷ 0 ∷ 0 ∷ 0 ∷ 0 ∷ drop 16 base_bytes)))) ≡ Some (break 14 10)
unfolding first_break image_at head_at opening_at state_at checked_at records_at next_record_at record_at name_at number_at octets_at kind_at size_at body_at method_at header_at value_at many_at zeros_at
lost_display = refl

-- the method with three bytes of code, so that its fourth is no zero
pub no_zero : first_break (take 547 base_bytes ++ (3 ∷ drop 548 base_bytes)) ≡ Some (break 8 559)
unfolding first_break image_at head_at opening_at state_at checked_at records_at next_record_at record_at name_at number_at octets_at kind_at size_at body_at method_at header_at value_at many_at zeros_at
no_zero = refl

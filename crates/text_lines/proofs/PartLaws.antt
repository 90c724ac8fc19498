-- Lines that are cut at a space, numbers that are capped, and hexadecimal digits.
use Rattle.std.proofs.Common.{◌≡◌, ◌≢◌, ℕ, ◌+◌, ◌-◌, ◌*◌, ◌^◌, ◌<◌, ◌≤◌, Bool, true, false, cond, not, ◌&&◌, eqb, ltb, List, [], ◌∷◌, ◌++◌, length, get_or, take, drop, min, Option, Some, None, refl, sym, ap, ◌∙◌, inl, inr, add-one, arith}
use Rattle.std.proofs.Math.Seq.{drop-cons}
use Rattle.std.proofs.Math.ListN.{drop_of_length-le}
use Rattle.std.proofs.lemmas.Bool.{cases_lt, eq-eqb, le-ltb, lt-ltb, ne_eqb}
use Rattle.std.proofs.lemmas.Bool.Decides.{nat_tests}
use Rattle.std.proofs.lemmas.List.{take_all}
use Rattle.std.proofs.lemmas.List.Splits.{slice_split_first, slice_split_none}
use Rattle.std.proofs.lemmas.List.Sums.{fails_before_first, prefix_len-le-length}
use Rattle.std.specs.Char.{digit_value, is_ascii_digit}
use Rattle.std.specs.List.{position, position_or_len, slice_split}
use Rattle.std.specs.Option.{option_and_then, option_map, unwrap_or}
use Rattle.text_lines.specs.Parts.{is_space, parts_behind, before_i, byte_of, is_hex, is_small, signed_of, small_of, that_is, word_of}

-- ---- cutting

behind-space : (xs : List ℕ) (i : ℕ) → i < length xs → slice_split is_space (drop (i + 1) xs) ≡ parts_behind (drop i xs)
behind-space xs i lt = rw (add-one, drop-cons xs i 0) refl

pub cut-first : (xs : List ℕ) → slice_split is_space xs ≡ take (position_or_len is_space xs) xs ∷ parts_behind (drop (position_or_len is_space xs) xs)
cut-first xs = elim (cases_lt (position_or_len is_space xs) (length xs)) [
  | inl lt ↦ slice_split_first is_space xs 0 lt ∙ ap (λ (ps : List (List ℕ)). take (position_or_len is_space xs) xs ∷ ps) (behind-space xs (position_or_len is_space xs) lt)
  | inr ge ↦
      let none : slice_split is_space xs ≡ xs ∷ [] = slice_split_none is_space xs (λ k d below. fails_before_first is_space xs k d (omega arith)) in
      none ∙ ap (λ (p : List ℕ). p ∷ []) (sym (take_all (position_or_len is_space xs) xs ge)) ∙ ap (λ (t : List ℕ). take (position_or_len is_space xs) xs ∷ parts_behind t) (sym (drop_of_length-le xs ge))
]

pub first-or-end : (xs : List ℕ) → unwrap_or (position is_space xs) (length xs) ≡ position_or_len is_space xs
first-or-end xs = elim (cases_lt (position_or_len is_space xs) (length xs)) [
  | inl lt ↦ let test : ltb (position_or_len is_space xs) (length xs) ≡ true = lt-ltb _ _ lt in rw test refl
  | inr ge ↦
      let test : ltb (position_or_len is_space xs) (length xs) ≡ false = le-ltb _ _ ge in
      let most = prefix_len-le-length (λ b. not (is_space b)) xs in
      rw test (omega arith)
]

pub within-line : (xs : List ℕ) → position_or_len is_space xs ≤ length xs
within-line xs = prefix_len-le-length (λ b. not (is_space b)) xs

-- ---- what stands before an i

pub before-last : (front : List ℕ) (x : ℕ) → before_i (front ++ x ∷ []) ≡ cond (eqb x 105) (Some front) None
before-last [] x = refl
before-last (b ∷ []) x = before-one (eqb x 105)
  where
    before-one : (i : Bool) → option_map (λ (front : List ℕ). b ∷ front) (cond i (Some []) None) ≡ cond i (Some (b ∷ [])) None
    before-one true = refl
    before-one false = refl
before-last (b ∷ c ∷ bs) x = ap (option_map (λ (front : List ℕ). b ∷ front)) (before-last (c ∷ bs) x) ∙ before-more (eqb x 105)
  where
    before-more : (i : Bool) → option_map (λ (front : List ℕ). b ∷ front) (cond i (Some (c ∷ bs)) None) ≡ cond i (Some (b ∷ c ∷ bs)) None
    before-more true = refl
    before-more false = refl

pub small-before : (part front : List ℕ) (x : ℕ) → part ≡ front ++ x ∷ [] → x ≡ 105 → small_of part ≡ that_is is_small (signed_of front)
small-before part front x e is =
    let test : eqb x 105 ≡ true = eq-eqb x 105 is in
    ap (λ (o : Option (List ℕ)). that_is is_small (option_and_then signed_of o)) (ap before_i e ∙ before-last front x ∙ ap (λ (b : Bool). cond b (Some front) None) test)

pub small-other : (part front : List ℕ) (x : ℕ) → part ≡ front ++ x ∷ [] → x ≢ 105 → small_of part ≡ None
small-other part front x e other =
    let test : eqb x 105 ≡ false = ne_eqb x 105 other in
    ap (λ (o : Option (List ℕ)). that_is is_small (option_and_then signed_of o)) (ap before_i e ∙ before-last front x ∙ ap (λ (b : Bool). cond b (Some front) None) test)

-- ---- capping

pub capped-more : (v d : ℕ) → min (min v (2 ^ 32) * 10 + d) (2 ^ 32) ≡ min (v * 10 + d) (2 ^ 32)
capped-more v d = omega arith

pub digit-is : (c : ℕ) → is_ascii_digit c ≡ true → digit_value c ≡ c - 48
digit-is c is = grind (arith, nat_tests)

-- ---- hexadecimal digits

hex-two : (a b : ℕ) → byte_of (a ∷ b ∷ []) ≡ cond (is_hex a && is_hex b) (Some (16 * digit_value a + digit_value b)) None
hex-two a b = tested (is_hex a) (is_hex b)
  where
    tested : (p q : Bool) → cond (p && (q && true)) (Some ((0 * 16 + digit_value a) * 16 + digit_value b)) None ≡ cond (p && q) (Some (16 * digit_value a + digit_value b)) None
    tested true true = ap Some (omega arith)
    tested true false = refl
    tested false q = refl

hex-four : (a b c d : ℕ) → word_of (a ∷ b ∷ c ∷ d ∷ []) ≡ cond ((is_hex a && is_hex b) && (is_hex c && is_hex d)) (Some (256 * (16 * digit_value a + digit_value b) + (16 * digit_value c + digit_value d))) None
hex-four a b c d = tested (is_hex a) (is_hex b) (is_hex c) (is_hex d)
  where
    tested : (p q r s : Bool) → cond (p && (q && (r && (s && true)))) (Some ((((0 * 16 + digit_value a) * 16 + digit_value b) * 16 + digit_value c) * 16 + digit_value d)) None ≡ cond ((p && q) && (r && s)) (Some (256 * (16 * digit_value a + digit_value b) + (16 * digit_value c + digit_value d))) None
    tested true true true true = ap Some (omega arith)
    tested true true true false = refl
    tested true true false s = refl
    tested true false r s = refl
    tested false q r s = refl

joined : (p q : Bool) (m n h l : ℕ) → cond p (Some m) None ≡ Some h → cond q (Some n) None ≡ Some l → cond (p && q) (Some (256 * m + n)) None ≡ Some (256 * h + l)
joined true true m n h l eh el = let high : m ≡ h = cc in let low : n ≡ l = cc in ap Some (omega arith)
joined true false m n h l eh el = absurd (cc)
joined false q m n h l eh el = absurd (cc)

joined-none : (p q : Bool) (m n : ℕ) → cond q (Some n) None ≡ None → cond (p && q) (Some (256 * m + n)) None ≡ None
joined-none true true m n e = absurd (cc)
joined-none true false m n e = refl
joined-none false q m n e = refl

front-none : (p q : Bool) (m n : ℕ) → cond p (Some m) None ≡ None → cond (p && q) (Some (256 * m + n)) None ≡ None
front-none true q m n e = absurd (cc)
front-none false q m n e = refl

pub word-some : (part : List ℕ) (h l : ℕ) → length part ≡ 4 → byte_of (get_or part 0 0 ∷ get_or part 1 0 ∷ []) ≡ Some h → byte_of (get_or part 2 0 ∷ get_or part 3 0 ∷ []) ≡ Some l → word_of part ≡ Some (256 * h + l)
word-some (a ∷ b ∷ c ∷ d ∷ []) h l len eh el = hex-four a b c d ∙ joined (is_hex a && is_hex b) (is_hex c && is_hex d) _ _ h l (sym (hex-two a b) ∙ eh) (sym (hex-two c d) ∙ el)
word-some (a ∷ b ∷ c ∷ d ∷ e ∷ es) h l len eh el = absurd (omega arith)
word-some (a ∷ b ∷ c ∷ []) h l len eh el = absurd (omega arith)
word-some (a ∷ b ∷ []) h l len eh el = absurd (omega arith)
word-some (a ∷ []) h l len eh el = absurd (omega arith)
word-some [] h l len eh el = absurd (omega arith)

pub word-none : (part : List ℕ) → length part ≡ 4 → byte_of (get_or part 2 0 ∷ get_or part 3 0 ∷ []) ≡ None → word_of part ≡ None
word-none (a ∷ b ∷ c ∷ d ∷ []) len e = hex-four a b c d ∙ joined-none (is_hex a && is_hex b) (is_hex c && is_hex d) _ _ (sym (hex-two c d) ∙ e)
word-none (a ∷ b ∷ c ∷ d ∷ e ∷ es) len el = absurd (omega arith)
word-none (a ∷ b ∷ c ∷ []) len e = absurd (omega arith)
word-none (a ∷ b ∷ []) len e = absurd (omega arith)
word-none (a ∷ []) len e = absurd (omega arith)
word-none [] len e = absurd (omega arith)

-- A head of a PBM is read as it is spelled.
use Rattle.std.proofs.Common.{◌≡◌, ℕ, suc, ◌+◌, ◌<◌, ◌≤◌, ◌^◌, Bool, true, false, cond, eqb, ltb, List, [], ◌∷◌, ◌++◌, length, take, drop, get_or, codes, decimal, Some, None, refl, sym, ap, ap₂, ◌∙◌, subst, append_assoc, length-append, take-append-drop, add-one, drop-cons, arith}
use Rattle.std.proofs.lemmas.Bool.{eq-eqb, lt-ltb, ne_eqb}
use Rattle.std.proofs.lemmas.Bool.Decides.{nat_tests}
use Rattle.std.proofs.lemmas.List.{drop_at, take_at, get_or_append_left}
use Rattle.std.proofs.lemmas.List.Quantifiers.{position-Some}
use Rattle.std.proofs.lemmas.List.Sums.{AllPass-from_list_all, position_or_len_is}
use Rattle.std.proofs.Math.Seq.{get_or-append_seam}
use Rattle.std.specs.Cmp.Lexicographic.{other_text, same_text}
use Rattle.std.specs.List.{position, position_or_len, starts_with}
use Rattle.text_lines.specs.Parts.{long_of}
use Rattle.text_lines.proofs.LineBack.{long-part}
use Rattle.text_lines.proofs.OneSpelling.{long_one, some_is}
use Rattle.text_lines.proofs.SpellingLaws.{long-again}
use Rattle.st80_picture.specs.Pictures.{pbm}

abbrev pub is_byte : ℕ → ℕ → Bool
is_byte e b = eqb b e

-- what was read is what stands there
pub spelled : (e : ℕ) (bytes : List ℕ) (at n : ℕ) → position (is_byte e) bytes ≡ Some at → long_of (take at bytes) ≡ Some n → bytes ≡ decimal n ++ e ∷ drop (at + 1) bytes
spelled e bytes at n found read =
    let first = position-Some (is_byte e) bytes at 0 found in
    let byte : get_or bytes at 0 ≡ e = let test = first.1 in grind (arith, nat_tests) in
    let cut : drop at bytes ≡ e ∷ drop (at + 1) bytes = rw add-one (drop-cons bytes at 0 first.0 ∙ ap (λ (b : ℕ). b ∷ drop (suc at) bytes) byte) in
    sym (take-append-drop at bytes) ∙ ap₂ (λ (x y : List ℕ). x ++ y) (long_one (take at bytes) n read).1 cut

-- and what stands there is read
pub record IsFound (e n : ℕ) (bytes : List ℕ) : Type 0 where
  pub place : position (is_byte e) bytes ≡ Some (length (decimal n))
  pub part : long_of (take (length (decimal n)) bytes) ≡ Some n

found_as : (e n : ℕ) (rest : List ℕ) → e ≤ 32 → n < 2 ^ 31 → IsFound e n (decimal n ++ e ∷ rest)
found_as e n rest low small =
    let text : List ℕ = decimal n ++ e ∷ rest in
    let inner = AllPass-from_list_all (λ b. ltb 32 b) (decimal n) (long-part n (omega (arith, small))).inner in
    let longer : length (decimal n) < length text = omega (arith, length-append (decimal n) (e ∷ rest)) in
    let before : (k : ℕ) → k < length (decimal n) → is_byte e (get_or text k 0) ≡ false = λ k lt. rw (get_or_append_left (decimal n) (e ∷ rest) 0 k lt) (let above = inner k 0 lt in ne_eqb _ _ (λ same. grind (arith, nat_tests, above, same, low))) in
    let here : is_byte e (get_or text (length (decimal n)) 0) ≡ true = rw (get_or-append_seam (decimal n) e rest 0) (eq-eqb e e refl) in
    let at : position_or_len (is_byte e) text ≡ length (decimal n) = position_or_len_is (is_byte e) text (length (decimal n)) 0 (omega (arith, longer)) before (λ lt. here) in
    record {
      place = ap (λ (i : ℕ). cond (ltb i (length text)) (Some i) None) at ∙ ap (λ (b : Bool). cond b (Some (length (decimal n))) None) (lt-ltb _ _ longer);
      part = ap long_of (take_at (decimal n) (e ∷ rest) (length (decimal n)) refl) ∙ long-again n (omega (arith, small));
    }

pub found : (e n : ℕ) (bytes rest : List ℕ) → e ≤ 32 → n < 2 ^ 31 → bytes ≡ decimal n ++ e ∷ rest → IsFound e n bytes
found e n bytes rest low small is = subst (IsFound e n) (sym is) (found_as e n rest low small)

-- ---- the head

pub head_spelled : (width height : ℕ) (rest : List ℕ) → pbm width height rest ≡ 80 ∷ 52 ∷ 10 ∷ (decimal width ++ 32 ∷ (decimal height ++ 10 ∷ rest))
unfolding pbm
head_spelled width height rest =
    append_assoc (codes "P4\n" ++ decimal width ++ codes " " ++ decimal height) (codes "\n") rest
    ∙ append_assoc (codes "P4\n" ++ decimal width ++ codes " ") (decimal height) (10 ∷ rest)
    ∙ append_assoc (codes "P4\n" ++ decimal width) (codes " ") (decimal height ++ 10 ∷ rest)
    ∙ append_assoc (codes "P4\n") (decimal width) (32 ∷ (decimal height ++ 10 ∷ rest))

-- bytes that begin with it
pub begun : (bytes : List ℕ) → true ≡ starts_with eqb bytes (80 ∷ 52 ∷ 10 ∷ []) → bytes ≡ 80 ∷ 52 ∷ 10 ∷ drop 3 bytes
begun bytes e = sym (take-append-drop 3 bytes) ∙ ap (λ (t : List ℕ). t ++ drop 3 bytes) (sym (same_text (80 ∷ 52 ∷ 10 ∷ []) (take 3 bytes) e))

pub not_begun : (bytes : List ℕ) (width height : ℕ) (rest : List ℕ) → false ≡ starts_with eqb bytes (80 ∷ 52 ∷ 10 ∷ []) → bytes ≡ pbm width height rest → ⊥
not_begun bytes width height rest e is = other_text (80 ∷ 52 ∷ 10 ∷ []) (take 3 bytes) e (sym (ap (take 3) (is ∙ head_spelled width height rest)))

pub behind_begin : (bytes : List ℕ) (width height : ℕ) (rest : List ℕ) → bytes ≡ pbm width height rest → drop 3 bytes ≡ decimal width ++ 32 ∷ (decimal height ++ 10 ∷ rest)
behind_begin bytes width height rest is = ap (drop 3) (is ∙ head_spelled width height rest)

-- a text has one number before such a byte
pub one_split : (e a b : ℕ) (x y : List ℕ) → e ≤ 32 → a < 2 ^ 31 → b < 2 ^ 31 → decimal a ++ e ∷ x ≡ decimal b ++ e ∷ y → x ≡ y
one_split e a b x y low sa sb same =
    let f = found e b (decimal a ++ e ∷ x) y low sb same in
    let g = found_as e a x low sa in
    let lens : length (decimal a) ≡ length (decimal b) = some_is _ _ (sym g.place ∙ f.place) in
    let cut : e ∷ x ≡ e ∷ y = sym (drop_at (decimal a) (e ∷ x) (length (decimal a)) refl) ∙ ap₂ (λ (k : ℕ) (t : List ℕ). drop k t) lens same ∙ drop_at (decimal b) (e ∷ y) (length (decimal b)) refl in
    cc

pub whole_head : (bytes rest₁ rest : List ℕ) (width height : ℕ) → bytes ≡ 80 ∷ 52 ∷ 10 ∷ drop 3 bytes → drop 3 bytes ≡ decimal width ++ 32 ∷ rest₁ → rest₁ ≡ decimal height ++ 10 ∷ rest → bytes ≡ pbm width height rest
whole_head bytes rest₁ rest width height e w h =
    e ∙ ap (λ (t : List ℕ). 80 ∷ 52 ∷ 10 ∷ t) (w ∙ ap (λ (t : List ℕ). decimal width ++ 32 ∷ t) h) ∙ sym (head_spelled width height rest)

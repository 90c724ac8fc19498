-- Where no chunk begins: what is read to the end of a text has no mark that stands alone.
use Rattle.std.proofs.Common.{◌≡◌, ◌≢◌, ℕ, suc, ◌+◌, ◌<◌, ◌≤◌, ◌==◌, Bool, true, false, List, [], ◌∷◌, ◌++◌, length, take, drop, get_or, slice_get, Some, refl, sym, ap, ◌∙◌, append_assoc, arith, if◌then◌else◌, length-drop, drop-cons}
use Rattle.std.proofs.lemmas.List.{take-append-drop, take_all, append_cancel_left, get_or-drop}
use Rattle.std.proofs.lemmas.Option.{slice_get_within, get_or_from_slice_get, slice_get-get_or}
use Rattle.st80_source.specs.declared.chunks.TheConstants.{MARK}
use Rattle.st80_source.specs.declared.chunks.Chunk.{Chunk}
use Rattle.st80_source.specs.Chunks.{IsChunk, doubled, written}

written_as : (x : ℕ) (b : Bool) → (x == MARK) ≡ b → written x ≡ (if b then x ∷ x ∷ [] else x ∷ [])
written_as x b e = ap (λ (c : Bool). if c then x ∷ x ∷ [] else x ∷ []) e

-- by what one byte and another are written as, the rest is the same
same_rest : (b c : Bool) (x y : ℕ) (xs ys : List ℕ) → (x == MARK) ≡ b → (y == MARK) ≡ c
    → (if b then x ∷ x ∷ [] else x ∷ []) ++ xs ≡ (if c then y ∷ y ∷ [] else y ∷ []) ++ ys → xs ≡ ys
same_rest true true x y xs ys e f same = cc
same_rest false false x y xs ys e f same = cc
same_rest true false x y xs ys e f same = let heads : x ≡ y = cc in let tests : (x == MARK) ≡ (y == MARK) = ap (λ (n : ℕ). n == MARK) heads in cc
same_rest false true x y xs ys e f same = let heads : x ≡ y = cc in let tests : (x == MARK) ≡ (y == MARK) = ap (λ (n : ℕ). n == MARK) heads in cc

rest_of : (x y : ℕ) (xs ys : List ℕ) → written x ++ xs ≡ written y ++ ys → xs ≡ ys
rest_of x y xs ys same = same_rest (x == MARK) (y == MARK) x y xs ys refl refl same

-- a byte and what is behind it aren't a mark that stands alone
not_lone : (b : Bool) (x : ℕ) (xs rest : List ℕ) → (x == MARK) ≡ b → (if b then x ∷ x ∷ [] else x ∷ []) ++ xs ≡ MARK ∷ rest → slice_get rest 0 ≢ Some MARK → ⊥
not_lone true x xs rest e same alone = let head : x ≡ MARK = cc in let tail : rest ≡ x ∷ xs = cc in alone (ap (λ (zs : List ℕ). slice_get zs 0) tail ∙ ap Some head)
not_lone false x xs rest e same alone = let head : x ≡ MARK = cc in let test : (MARK == MARK) ≡ false = ap (λ (n : ℕ). n == MARK) (sym head) ∙ e in cc

no_bytes : (b : Bool) (y : ℕ) (ys rest : List ℕ) → [] ≡ ((if b then y ∷ y ∷ [] else y ∷ []) ++ ys) ++ rest → ⊥
no_bytes true y ys rest same = cc
no_bytes false y ys rest same = cc

-- bytes with each mark twice have no mark that stands alone behind such bytes
pub never_lone : (xs ys rest : List ℕ) → doubled xs ≡ doubled ys ++ MARK ∷ rest → slice_get rest 0 ≢ Some MARK → ⊥
unfolding doubled
never_lone [] [] rest same alone = cc
never_lone [] (y ∷ ys) rest same alone = no_bytes (y == MARK) y (doubled ys) (MARK ∷ rest) same
never_lone (x ∷ xs) [] rest same alone = not_lone (x == MARK) x (doubled xs) rest refl same alone
never_lone (x ∷ xs) (y ∷ ys) rest same alone =
    never_lone xs ys rest (rest_of x y (doubled xs) (doubled ys ++ MARK ∷ rest) (same ∙ append_assoc (written y) (doubled ys) (MARK ∷ rest))) alone

-- what stands at a place, and behind it
parted : (text : List ℕ) (k : ℕ) → slice_get text k ≡ Some MARK → text ≡ take k text ++ MARK ∷ drop (suc k) text
parted text k here =
    let within : k < length text = slice_get_within text k MARK here in
    sym (take-append-drop k text) ∙ ap (λ (zs : List ℕ). take k text ++ zs) (drop-cons text k 0 within ∙ ap (λ (n : ℕ). n ∷ drop (suc k) text) (get_or_from_slice_get text k MARK 0 here))

behind : (text : List ℕ) (k : ℕ) → slice_get (drop (suc k) text) 0 ≡ Some MARK → slice_get text (k + 1) ≡ Some MARK
behind text k here =
    let some : 0 < length (drop (suc k) text) = slice_get_within _ 0 MARK here in
    let within : k + 1 < length text = omega (arith, length-drop (suc k) text) in
    let read : get_or (drop (suc k) text) 0 0 ≡ MARK = get_or_from_slice_get _ 0 MARK 0 here in
    let place : suc k + 0 ≡ k + 1 = omega arith in
    let is : get_or text (k + 1) 0 ≡ MARK = ap (λ (i : ℕ). get_or text i 0) (sym place) ∙ sym (get_or-drop (suc k) text 0 0) ∙ read in
    slice_get-get_or text (k + 1) 0 within ∙ ap Some is

-- where a text is read to its end, no chunk begins where that began
pub no_chunk : (text bytes : List ℕ) (from at : ℕ) → length text ≤ at → take at text ≡ take from text ++ doubled bytes → (chunk : Chunk) → IsChunk text from chunk → ⊥
no_chunk text bytes from at end read chunk is =
    let whole : text ≡ take from text ++ doubled bytes = sym (take_all at text end) ∙ read in
    let parts : text ≡ (take from text ++ doubled chunk.bytes.items) ++ MARK ∷ drop (suc is.at) text =
    parted text is.at is.lone.mark ∙ ap (λ (zs : List ℕ). zs ++ MARK ∷ drop (suc is.at) text) is.text_is in
    never_lone bytes chunk.bytes.items (drop (suc is.at) text)
    (append_cancel_left (take from text) (doubled bytes) (doubled chunk.bytes.items ++ MARK ∷ drop (suc is.at) text)
    (sym whole ∙ parts ∙ append_assoc (take from text) (doubled chunk.bytes.items) (MARK ∷ drop (suc is.at) text)))
    (λ here. is.lone.alone (behind text is.at here))

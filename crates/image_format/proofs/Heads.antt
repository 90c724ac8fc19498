-- The head of an image, long word by long word.
use Rattle.std.proofs.Common.{zero, suc, ◌≡◌, ℕ, ◌+◌, ◌<◌, ◌≤◌, ◌^◌, List, [], ◌∷◌, ◌++◌, length, take, drop, get_or, refl, sym, ◌∙◌, ap, arith, drop-cons, codes, Bool, true, false, IsTrue, length-append}
use Rattle.std.proofs.lemmas.List.{take-append-le, take_at, drop_at}
use Rattle.std.specs.Int.{w32, from_be_bytes}
use Rattle.long_names.specs.Record.{four_bytes}
use Rattle.image_format.proofs.Numbers.{wide32}
use Rattle.image_format.specs.Text.{head_text}

abbrev pub four_at : List ℕ → ℕ → List ℕ
four_at bytes at = get_or bytes at 0 ∷ get_or bytes (at + 1) 0 ∷ get_or bytes (at + 2) 0 ∷ get_or bytes (at + 3) 0 ∷ []

four-taken : (bytes : List ℕ) (a b c d : ℕ) → b ≡ suc a → c ≡ suc b → d ≡ suc c → d < length bytes → take 4 (drop a bytes) ≡ get_or bytes a 0 ∷ get_or bytes b 0 ∷ get_or bytes c 0 ∷ get_or bytes d 0 ∷ []
four-taken bytes a b c d eb ec ed low =
    let la : a < length bytes = omega arith in
    let lb : b < length bytes = omega arith in
    let lc : c < length bytes = omega arith in
    let first = drop-cons bytes a 0 la ∙ ap (λ n. get_or bytes a 0 ∷ drop n bytes) (sym eb) in
    let second = drop-cons bytes b 0 lb ∙ ap (λ n. get_or bytes b 0 ∷ drop n bytes) (sym ec) in
    let third = drop-cons bytes c 0 lc ∙ ap (λ n. get_or bytes c 0 ∷ drop n bytes) (sym ed) in
    let fourth = drop-cons bytes d 0 low in
    ap (λ s. take 4 s) (first ∙ ap (λ s. get_or bytes a 0 ∷ s) (second ∙ ap (λ s. get_or bytes b 0 ∷ s) (third ∙ ap (λ s. get_or bytes c 0 ∷ s) fourth)))

-- a long word is its four bytes
pub word-back : (bytes : List ℕ) (at : ℕ) → ((i : ℕ) → get_or bytes i 0 < 256) → at + 4 ≤ length bytes → four_bytes (from_be_bytes w32 (four_at bytes at)) ≡ take 4 (drop at bytes)
word-back bytes at fits long =
    wide32.back (four_at bytes at) refl (record { below = λ i. go i })
    ∙ sym (four-taken bytes at (at + 1) (at + 2) (at + 3) (omega arith) (omega arith) (omega arith) (omega arith))
  where
    go : (i : ℕ) → get_or (four_at bytes at) i 0 < 256
    go zero = fits at
    go (suc zero) = fits (at + 1)
    go (suc (suc zero)) = fits (at + 2)
    go (suc (suc (suc zero))) = fits (at + 3)
    go (suc (suc (suc (suc i)))) = omega arith

-- two long words with the same four bytes
pub word-same : (a b : ℕ) → a < 2 ^ 32 → b < 2 ^ 32 → four_bytes a ≡ four_bytes b → a ≡ b
word-same a b la lb e = sym (wide32.again a la) ∙ ap (λ s. from_be_bytes w32 s) e ∙ wide32.again b lb

-- the four parts of a head
pub head-word : (count next : ℕ) → take 4 (head_text count next) ≡ codes "LOOM"
unfolding four_bytes
head-word count next = refl

pub head-version : (count next : ℕ) → take 4 (drop 4 (head_text count next)) ≡ four_bytes 1
unfolding four_bytes
head-version count next = refl

pub head-count : (count next : ℕ) → take 4 (drop 8 (head_text count next)) ≡ four_bytes count
unfolding four_bytes
head-count count next = refl

pub head-next : (count next : ℕ) → take 4 (drop 12 (head_text count next)) ≡ four_bytes next
unfolding four_bytes
head-next count next = refl

pub length-head : (count next : ℕ) → length (head_text count next) ≡ 16
unfolding four_bytes
length-head count next = refl

-- bytes that begin with a head have it whole, unless they are too few
pub head-front : (bytes left rest : List ℕ) (count next : ℕ) → bytes ++ left ≡ head_text count next ++ rest → 16 ≤ length bytes → take 16 bytes ≡ head_text count next
head-front bytes left rest count next e long =
    sym (take-append-le 16 bytes left long) ∙ ap (take 16) e ∙ take_at (head_text count next) rest 16 (length-head count next)

pub head-short : (bytes left rest : List ℕ) (count next : ℕ) (ended : Bool) → (ended ≡ false → 16 ≤ length bytes) → length bytes < 16 → (IsTrue ended → left ≡ []) → bytes ++ left ≡ head_text count next ++ rest → ⊥
head-short bytes left rest count next true enough short ends e =
    let none = ap length (ends refl) in
    let all = ap length e in
    let one = length-append bytes left in
    let other = length-append (head_text count next) rest in
    let head = length-head count next in
    omega arith
head-short bytes left rest count next false enough short ends e = let long = enough refl in omega arith

-- a text begins with one head
pub head-same : (a b c d : ℕ) (x y : List ℕ) → a < 2 ^ 32 → b < 2 ^ 32 → c < 2 ^ 32 → d < 2 ^ 32 → head_text a b ++ x ≡ head_text c d ++ y → (a ≡ c) × (b ≡ d) × (x ≡ y)
head-same a b c d x y la lb lc ld e =
    let heads : head_text a b ≡ head_text c d = sym (take_at (head_text a b) x 16 (length-head a b)) ∙ ap (take 16) e ∙ take_at (head_text c d) y 16 (length-head c d) in
    let rests : x ≡ y = sym (drop_at (head_text a b) x 16 (length-head a b)) ∙ ap (drop 16) e ∙ drop_at (head_text c d) y 16 (length-head c d) in (
      word-same a c la lc (sym (head-count a b) ∙ ap (λ s. take 4 (drop 8 s)) heads ∙ head-count c d),
      word-same b d lb ld (sym (head-next a b) ∙ ap (λ s. take 4 (drop 12 s)) heads ∙ head-next c d),
      rests,
    )

-- What a file begins with: its first line, and that each image, each text and each picture is known by its head.
use Rattle.std.proofs.Common.{◌≡◌, ℕ, ◌+◌, ◌*◌, ◌^◌, ◌<◌, ◌≤◌, Bool, true, false, ◌&&◌, eqb, ltb, List, [], ◌∷◌, ◌++◌, length, take, codes, decimal, Option, Some, None, Result, Ok, Err, is_some, is_ok, IfNone, refl, sym, ap, ap₂, ◌∙◌, append_assoc, inl, inr, arith}
use Rattle.std.proofs.lemmas.Bool.{and_parts, cases_lt, le-ltb, lt-ltb, ne_eqb}
use Rattle.std.proofs.lemmas.Bool.Decides.{nat_tests}
use Rattle.std.proofs.lemmas.List.Elements.{All-append, All-cons, All-nil}
use Rattle.std.proofs.lemmas.List.Splits.{join_with_byte-slice_split, length-slice_split, slice_split_at, slice_split_first, slice_split_none}
use Rattle.std.proofs.lemmas.List.Sums.{fails_before_first}
use Rattle.std.specs.List.{All, after_first, join_with_byte, list_all, position, position_or_len, slice_split}
use Rattle.std.specs.Option.{option_and_then}
use Rattle.image_format.specs.declared.fault.Halt.{Halt}
use Rattle.image_format.specs.declared.opening.ImageHead.{ImageHead}
use Rattle.image_format.specs.Heads.{checked_at, head_at, opening_at}
use Rattle.image_format.specs.Reading.{number_at, octets_at}
use Rattle.image_format.specs.Rules.{first_break, image_at}
use Rattle.text_lines.specs.Parts.{is_space}
use Rattle.text_lines.specs.Breaks.{first_break_of, lines_at, text_break}
use Rattle.text_lines.specs.Breaks as breaks
use Rattle.text_lines.specs.Grammar.{Head, head_of, line_head}
use Rattle.text_lines.proofs.LineBack.{IsInner, long-part}
use Rattle.text_lines.proofs.OneSpelling.{line_head_one}
use Rattle.text_lines.proofs.SpellingLaws.{long-again}
use Rattle.loom_outside.specs.declared.precious.Precious.TheVariants.{Image, Text, Picture}
use Rattle.loom_outside.specs.Precious.{are_two_numbers, begins_image, begins_picture, begins_text, ended, first_line, is_extent, is_newline, precious_in}

-- ---- the first line

abbrev place : List ℕ → ℕ
place xs = position_or_len is_newline xs

ended-more : (line : List ℕ) (parts : List (List ℕ)) → 0 < length parts → ended (line ∷ parts) ≡ Some line
ended-more line [] some = absurd (omega arith)
ended-more line (part ∷ parts) some = refl

split-some : (xs : List ℕ) → 0 < length (slice_split is_newline xs)
split-some xs = omega (arith, length-slice_split is_newline xs)

found : (xs : List ℕ) → place xs < length xs → position is_newline xs ≡ Some (place xs)
found xs lt = let test : ltb (place xs) (length xs) ≡ true = lt-ltb _ _ lt in rw test refl

missed : (xs : List ℕ) → length xs ≤ place xs → position is_newline xs ≡ None
missed xs ge = let test : ltb (place xs) (length xs) ≡ false = le-ltb _ _ ge in rw test refl

some-is : (m n : ℕ) → ◌≡◌ {A = Option ℕ} (Some m) (Some n) → m ≡ n
some-is m n e = cc

pub first-some : (xs : List ℕ) (n : ℕ) → position is_newline xs ≡ Some n → first_line xs ≡ Some (take n xs)
first-some xs n is = elim (cases_lt (place xs) (length xs)) [
  | inl lt ↦
      let at : place xs ≡ n = some-is _ _ (sym (found xs lt) ∙ is) in
      ap ended (slice_split_first is_newline xs 0 lt) ∙ ended-more _ _ (split-some (after_first is_newline xs)) ∙ ap (λ (k : ℕ). Some (take k xs)) at
  | inr ge ↦ let none = missed xs ge in absurd (cc)
]

pub first-none : (xs : List ℕ) → position is_newline xs ≡ None → first_line xs ≡ None
first-none xs is = elim (cases_lt (place xs) (length xs)) [
  | inl lt ↦ let some = found xs lt in absurd (cc)
  | inr ge ↦ ap ended (slice_split_none is_newline xs (λ k d below. fails_before_first is_newline xs k d (omega arith)))
]

pub if-none : {X : Type 0} {P : Type 0} (o : Option X) → P → IfNone o P
if-none (Some x) p = tt
if-none None p = p

-- a line and its newline
line-first : (line rest : List ℕ) → All (λ b. is_newline b ≡ false) line → first_line (line ++ 10 ∷ rest) ≡ Some line
line-first line rest all = ap ended (slice_split_at is_newline line 10 rest all refl) ∙ ended-more line _ (split-some rest)

-- ---- images

head-kept : (bytes : List ℕ) (r : Result (ImageHead × List ℕ) Halt) → head_at bytes ≡ r → first_break bytes ≡ None → is_ok r ≡ true
unfolding image_at first_break
head-kept bytes (Ok x) e none = refl
head-kept bytes (Err h) e none = absurd (let broke = rw e at none in cc)

pub image-precious : (bytes : List ℕ) → first_break bytes ≡ None → precious_in bytes ≡ Some Image
image-precious bytes none = let head : begins_image bytes ≡ true = head-kept bytes (head_at bytes) refl none in rw head refl

-- four bytes that aren't LOOM
text-no-image : (rest : List ℕ) → begins_image (108 ∷ 111 ∷ 111 ∷ 109 ∷ rest) ≡ false
unfolding head_at opening_at checked_at number_at octets_at
text-no-image rest = let test : ltb (length (108 ∷ 111 ∷ 111 ∷ 109 ∷ rest)) 4 ≡ false = le-ltb _ _ (omega arith) in rw test refl

-- ---- texts

stated-line : (line more : List ℕ) (lines : List (List ℕ)) (o : Option Head) → line_head line ≡ o → first_break_of (lines_at (line ∷ more ∷ lines)) ≡ None → is_some o ≡ true
unfolding breaks.head_at lines_at
stated-line line more lines (Some h) is none = refl
stated-line line more lines None is none = absurd (let broke = rw is at none in cc)

has-some : {X : Type 0} (o : Option X) → is_some o ≡ true → (x : X) × (o ≡ Some x)
has-some (Some x) e = (x, refl)
has-some None e = absurd (cc)

starts-loom : (line : List ℕ) (h : Head) → line_head line ≡ Some h → (rest : List ℕ) × (line ++ 10 ∷ [] ≡ 108 ∷ 111 ∷ 111 ∷ 109 ∷ rest)
starts-loom line h is = (_, (line_head_one line h is).line_is)

text-by : (text : List ℕ) (parts : List (List ℕ)) → slice_split is_newline text ≡ parts → first_break_of (lines_at parts) ≡ None → precious_in text ≡ Some Text
unfolding lines_at
text-by text [] e none = absurd (cc)
text-by text (line ∷ []) e none = absurd (cc)
text-by text (line ∷ more ∷ lines) e none =
    let head = has-some (line_head line) (stated-line line more lines (line_head line) refl none) in
    let start = starts-loom line head.0 head.1 in
    let joined : text ≡ line ++ 10 ∷ join_with_byte 10 (more ∷ lines) = sym (join_with_byte-slice_split 10 text) ∙ ap (join_with_byte 10) e in
    let loom : text ≡ 108 ∷ 111 ∷ 111 ∷ 109 ∷ (start.0 ++ join_with_byte 10 (more ∷ lines)) =
    joined ∙ sym (append_assoc line (10 ∷ []) (join_with_byte 10 (more ∷ lines))) ∙ ap (λ (xs : List ℕ). xs ++ join_with_byte 10 (more ∷ lines)) start.1 in
    let no : begins_image text ≡ false = ap begins_image loom ∙ text-no-image _ in
    let yes : begins_text text ≡ true = ap (λ (ps : List (List ℕ)). is_some (option_and_then line_head (ended ps))) e ∙ ap is_some head.1 in
    rw no (rw yes refl)

pub text-precious : (text : List ℕ) → text_break text ≡ None → precious_in text ≡ Some Text
unfolding text_break
text-precious text none = text-by text (slice_split is_newline text) refl none

-- ---- pictures

inner-all : (p : ℕ → Bool) (xs : List ℕ) → ((b : ℕ) → ltb 32 b ≡ true → p b ≡ false) → IsInner xs → All (λ b. p b ≡ false) xs
inner-all p [] apart all = All-nil (λ b. p b ≡ false)
inner-all p (x ∷ xs) apart all =
    let both = and_parts (ltb 32 x) (list_all (λ b. ltb 32 b) xs) all in
    All-cons (λ b. p b ≡ false) x xs (apart x both.0) (inner-all p xs apart both.1)

no-newline : (b : ℕ) → ltb 32 b ≡ true → is_newline b ≡ false
no-newline b above = grind (arith, nat_tests)

no-space : (b : ℕ) → ltb 32 b ≡ true → is_space b ≡ false
no-space b above = grind (arith, nat_tests)

abbrev extent-line : ℕ → ℕ → List ℕ
extent-line width height = decimal width ++ 32 ∷ decimal height

extent-plain : (width height : ℕ) → width < 2 ^ 32 → height < 2 ^ 32 → All (λ b. is_newline b ≡ false) (extent-line width height)
extent-plain width height w h =
    All-append (λ b. is_newline b ≡ false) (decimal width) (32 ∷ decimal height) (inner-all is_newline (decimal width) no-newline (long-part width w).inner)
    (All-cons (λ b. is_newline b ≡ false) 32 (decimal height) refl (inner-all is_newline (decimal height) no-newline (long-part height h).inner))

extent-split : (width height : ℕ) → width < 2 ^ 32 → height < 2 ^ 32 → slice_split is_space (extent-line width height) ≡ decimal width ∷ decimal height ∷ []
extent-split width height w h =
    slice_split_at is_space (decimal width) 32 (decimal height) (inner-all is_space (decimal width) no-space (long-part width w).inner) refl
    ∙ ap (λ (ps : List (List ℕ)). decimal width ∷ ps) (slice_split_none is_space (decimal height) (inner-all is_space (decimal height) no-space (long-part height h).inner))

extent-is : (width height : ℕ) → width < 2 ^ 32 → height < 2 ^ 32 → is_extent (Some (extent-line width height)) ≡ true
extent-is width height w h =
    ap are_two_numbers (extent-split width height w h)
    ∙ ap₂ (λ (a b : Option ℕ). is_some a && is_some b) (long-again width w) (long-again height h)

picture-no-image : (rest : List ℕ) → begins_image (80 ∷ 52 ∷ 10 ∷ rest) ≡ false
unfolding head_at opening_at checked_at number_at octets_at
picture-no-image [] = refl
picture-no-image (c ∷ rest) =
    let test : ltb (length (80 ∷ 52 ∷ 10 ∷ c ∷ rest)) 4 ≡ false = le-ltb _ _ (omega arith) in
    let other : eqb (((80 * 256 + 52) * 256 + 10) * 256 + c) 1280266061 ≡ false = ne_eqb _ _ (λ is. omega (arith, is)) in
    rw test (rw other refl)

picture-no-text : (rest : List ℕ) → begins_text (80 ∷ 52 ∷ 10 ∷ rest) ≡ false
unfolding head_of
picture-no-text rest = ap (λ (o : Option (List ℕ)). is_some (option_and_then line_head o)) (line-first (80 ∷ 52 ∷ []) rest (All-cons (λ b. is_newline b ≡ false) 80 (52 ∷ []) refl (All-cons (λ b. is_newline b ≡ false) 52 [] refl (All-nil (λ b. is_newline b ≡ false)))))

pub picture-precious : (width height : ℕ) (rows : List ℕ) → width < 2 ^ 32 → height < 2 ^ 32 → precious_in (codes "P4\n" ++ decimal width ++ codes " " ++ decimal height ++ codes "\n" ++ rows) ≡ Some Picture
picture-precious width height rows w h =
    let bytes : List ℕ = codes "P4\n" ++ decimal width ++ codes " " ++ decimal height ++ codes "\n" ++ rows in
    let rest : List ℕ = decimal width ++ 32 ∷ (decimal height ++ 10 ∷ rows) in
    let shape : bytes ≡ 80 ∷ 52 ∷ 10 ∷ rest =
    append_assoc (codes "P4\n" ++ decimal width ++ codes " " ++ decimal height) (codes "\n") rows
    ∙ append_assoc (codes "P4\n" ++ decimal width ++ codes " ") (decimal height) (10 ∷ rows)
    ∙ append_assoc (codes "P4\n" ++ decimal width) (codes " ") (decimal height ++ 10 ∷ rows)
    ∙ append_assoc (codes "P4\n") (decimal width) (32 ∷ (decimal height ++ 10 ∷ rows)) in
    let line : first_line rest ≡ Some (extent-line width height) =
    ap first_line (sym (append_assoc (decimal width) (32 ∷ decimal height) (10 ∷ rows))) ∙ line-first (extent-line width height) rows (extent-plain width height w h) in
    let image : begins_image (80 ∷ 52 ∷ 10 ∷ rest) ≡ false = picture-no-image rest in
    let text : begins_text (80 ∷ 52 ∷ 10 ∷ rest) ≡ false = picture-no-text rest in
    let picture : begins_picture (80 ∷ 52 ∷ 10 ∷ rest) ≡ true = ap is_extent line ∙ extent-is width height w h in
    ap precious_in shape ∙ rw image (rw text (rw picture refl))

-- Which bytes stand in a line, and that a text has one line at its front.
use Rattle.std.proofs.Common.{◌≡◌, ◌≢◌, ℕ, ◌<◌, ◌≤◌, ◌+◌, ◌%◌, ◌^◌, ◌&&◌, nat_le, List, [], ◌∷◌, ◌++◌, length, All, codes, decimal, refl, ◌∙◌, sym, ap, ap₂, arith, append_assoc, length-append, get_or, Bool, true, Result, Ok, Option, Bor}
use Rattle.std.proofs.lemmas.Bool.Decides.{nat_tests}
use Rattle.std.proofs.lemmas.List.Elements.{All-nil, All-cons, All-head, All-tail, All-weaker, All-get_or}
use Rattle.std.proofs.lemmas.Str.Pattern.{IsSplitOnceResult, split_after}
use Rattle.std.specs.Option.{MatchOption}
use Rattle.std.proofs.lemmas.Fmt.{decimal_by_steps, decimal_injective, length-decimal-le, parse-decimal}
use Rattle.std.specs.Str.Parse.{ParsesUnsigned}
use Rattle.std.proofs.lemmas.Str.{IsUtf8-from_ascii}
use Rattle.std.proofs.lemmas.Str.Ascii.{IsAscii-from_all}
use Rattle.std.specs.Str.{IsUtf8}
use Rattle.blue_model.specs.declared.event.Event.{Event}
use Rattle.blue_model.specs.declared.event.Event.TheVariants.{Word, Purge, Compact}
use Rattle.blue_model.specs.declared.event.Line.{Line}
use Rattle.event_file.specs.declared.limits.TheConstants.{LONGEST}
use Rattle.event_file.specs.Text.{IsEvent, IsLine, event_text, line_body, line_text}

-- ---- lists that are cut at their first stop

abbrev pub IsFree : ℕ → List ℕ → Type 0
IsFree stop xs = All (λ b. b ≢ stop) xs

pub record IsCut (x y s t : List ℕ) : Type 0 where
  pub front : x ≡ y
  pub rest : s ≡ t

pub cut : (stop : ℕ) (x y s t : List ℕ) → IsFree stop x → IsFree stop y → x ++ stop ∷ s ≡ y ++ stop ∷ t → IsCut x y s t
cut stop [] [] s t fx fy e = record { front = refl; rest = cc }
cut stop [] (b ∷ y) s t fx fy e = let first : stop ≡ b = cc in absurd (All-head (λ c. c ≢ stop) b y fy (sym first))
cut stop (a ∷ x) [] s t fx fy e = let first : a ≡ stop = cc in absurd (All-head (λ c. c ≢ stop) a x fx first)
cut stop (a ∷ x) (b ∷ y) s t fx fy e =
    let first : a ≡ b = cc in
    let others : x ++ stop ∷ s ≡ y ++ stop ∷ t = cc in
    let c = cut stop x y s t (All-tail (λ c. c ≢ stop) a x fx) (All-tail (λ c. c ≢ stop) b y fy) others in
    record { front = ap₂ (λ (d : ℕ) (ds : List ℕ). d ∷ ds) first c.front; rest = c.rest }

-- where there is no stop in x, the first one comes behind it
pub stops-behind : (stop : ℕ) (x y s t : List ℕ) → IsFree stop x → x ++ s ≡ y ++ stop ∷ t → length x ≤ length y
stops-behind stop [] y s t fx e = omega arith
stops-behind stop (a ∷ x) [] s t fx e = let first : a ≡ stop = cc in absurd (All-head (λ c. c ≢ stop) a x fx first)
stops-behind stop (a ∷ x) (b ∷ y) s t fx e =
    let others : x ++ s ≡ y ++ stop ∷ t = cc in
    let h = stops-behind stop x y s t (All-tail (λ c. c ≢ stop) a x fx) others in
    omega arith

-- ---- the bytes of numbers and lines

within : ℕ → ℕ → List ℕ → Bool
within low high [] = true
within low high (b ∷ bs) = nat_le low b && nat_le b high && within low high bs

within-append : (low high : ℕ) (xs ys : List ℕ) → within low high xs ≡ true → within low high ys ≡ true → within low high (xs ++ ys) ≡ true
unfolding within
within-append low high [] ys hx hy = hy
within-append low high (b ∷ xs) ys hx hy =
    let tail : within low high xs ≡ true = grind (arith, nat_tests) in
    let both = within-append low high xs ys tail hy in
    grind (arith, nat_tests)

within-all : (low high : ℕ) (xs : List ℕ) → within low high xs ≡ true → All (λ b. (low ≤ b) × (b ≤ high)) xs
unfolding within
within-all low high [] h = All-nil (λ b. (low ≤ b) × (b ≤ high))
within-all low high (b ∷ xs) h =
    let tail : within low high xs ≡ true = grind (arith, nat_tests) in
    All-cons (λ b. (low ≤ b) × (b ≤ high)) b xs (let above : low ≤ b = grind (arith, nat_tests) in let below : b ≤ high = grind (arith, nat_tests) in (above, below)) (within-all low high xs tail)

within-wider : (low high : ℕ) (xs : List ℕ) → low ≤ 48 → 57 ≤ high → within 48 57 xs ≡ true → within low high xs ≡ true
unfolding within
within-wider low high [] under above h = refl
within-wider low high (b ∷ xs) under above h =
    let tail : within 48 57 xs ≡ true = grind (arith, nat_tests) in
    let others = within-wider low high xs under above tail in
    grind (arith, nat_tests)

digit-within : (n : ℕ) → n < 10 → within 48 57 ((48 + n) ∷ []) ≡ true
unfolding within
digit-within n h = grind (arith, nat_tests)

decimal-within : (n : ℕ) → n < 2 ^ 64 → within 48 57 (decimal n) ≡ true
decimal-within n small = decimal_by_steps (λ k ds. within 48 57 ds ≡ true) digit-within (λ k ds big h. within-append 48 57 ds ((48 + k % 10) ∷ []) h (digit-within (k % 10) (omega arith))) n small

free-within : (stop low high : ℕ) (xs : List ℕ) → stop < low → within low high xs ≡ true → IsFree stop xs
free-within stop low high xs under h = All-weaker (λ b. (low ≤ b) × (b ≤ high)) (λ b. b ≢ stop) (λ b is same. let low_b = is.0 in omega arith) xs (within-all low high xs h)

pub decimal-free : (n : ℕ) → n < 2 ^ 64 → IsFree 32 (decimal n)
decimal-free n small = free-within 32 48 57 (decimal n) (omega arith) (decimal-within n small)

event-within : (e : Event) → IsEvent e → within 32 122 (event_text e) ≡ true
unfolding within
event-within (Word w) is = within-append 32 122 (codes "word ") (decimal w) refl (within-wider 32 122 (decimal w) (omega arith) (omega arith) (decimal-within w (omega arith)))
event-within Purge is = refl
event-within Compact is = refl

line-within : (l : Line) → IsLine l → within 32 122 (line_body l) ≡ true
unfolding within
line-within l is =
    within-append 32 122 (decimal l.count) (32 ∷ event_text l.event) (let small = is.count in within-wider 32 122 (decimal l.count) (omega arith) (omega arith) (decimal-within l.count (omega arith)))
    (event-within l.event is.event)

-- no newline stands in a line
pub line-free : (l : Line) → IsLine l → IsFree 10 (line_body l)
line-free l is = free-within 10 32 122 (line_body l) (omega arith) (line-within l is)

-- and it is text
ascii-within : (xs : List ℕ) → within 32 122 xs ≡ true → IsUtf8 xs
ascii-within xs h = IsUtf8-from_ascii xs (IsAscii-from_all xs (All-weaker (λ b. (32 ≤ b) × (b ≤ 122)) (λ b. b < 128) (λ b is. let high = is.1 in omega arith) xs (within-all 32 122 xs h)))

pub line-utf8 : (l : Line) → IsLine l → IsUtf8 (line_body l)
line-utf8 l is = ascii-within (line_body l) (line-within l is)

-- ---- how long a line is

event-length : (e : Event) → IsEvent e → length (event_text e) ≤ 10
event-length (Word w) is = let digits = length-decimal-le 5 w (omega arith) (omega arith) (omega arith) in omega (arith, length-append (codes "word ") (decimal w))
event-length Purge is = omega arith
event-length Compact is = omega arith

pub line-length : (l : Line) → IsLine l → length (line_body l) ≤ LONGEST
line-length l is =
    let small = is.count in
    let digits = length-decimal-le 10 l.count (omega arith) (omega arith) (omega arith) in
    let event = event-length l.event is.event in
    omega (arith, length-append (decimal l.count) (32 ∷ event_text l.event))

-- ---- no two lines have the same text

event-same : (d e : Event) → IsEvent d → IsEvent e → event_text d ≡ event_text e → d ≡ e
event-same (Word v) (Word w) isd ise same = let digits : decimal v ≡ decimal w = cc in ap Word (decimal_injective v w (omega arith) (omega arith) digits)
event-same (Word v) Purge isd ise same = let first : ◌≡◌ {A = ℕ} 119 112 = ap (λ (xs : List ℕ). get_or xs 0 0) same in absurd (omega arith)
event-same (Word v) Compact isd ise same = let first : ◌≡◌ {A = ℕ} 119 99 = ap (λ (xs : List ℕ). get_or xs 0 0) same in absurd (omega arith)
event-same Purge (Word w) isd ise same = let first : ◌≡◌ {A = ℕ} 112 119 = ap (λ (xs : List ℕ). get_or xs 0 0) same in absurd (omega arith)
event-same Purge Purge isd ise same = refl
event-same Purge Compact isd ise same = let first : ◌≡◌ {A = ℕ} 112 99 = ap (λ (xs : List ℕ). get_or xs 0 0) same in absurd (omega arith)
event-same Compact (Word w) isd ise same = let first : ◌≡◌ {A = ℕ} 99 119 = ap (λ (xs : List ℕ). get_or xs 0 0) same in absurd (omega arith)
event-same Compact Purge isd ise same = let first : ◌≡◌ {A = ℕ} 99 112 = ap (λ (xs : List ℕ). get_or xs 0 0) same in absurd (omega arith)
event-same Compact Compact isd ise same = refl

pub body-same : (k l : Line) → IsLine k → IsLine l → line_body k ≡ line_body l → k ≡ l
body-same k l isk isl same =
    let small = isk.count in
    let other = isl.count in
    let c = cut 32 (decimal k.count) (decimal l.count) (event_text k.event) (event_text l.event) (decimal-free k.count (omega arith)) (decimal-free l.count (omega arith)) same in
    let count = decimal_injective k.count l.count (omega arith) (omega arith) c.front in
    let event = event-same k.event l.event isk.event isl.event c.rest in
    ap₂ (λ (n : ℕ) (e : Event). record { count = n; event = e }) count event

pub record IsFirst (k l : Line) (s t : List ℕ) : Type 0 where
  pub line : k ≡ l
  pub rest : s ≡ t

pub line-same : (k l : Line) (s t : List ℕ) → IsLine k → IsLine l → line_text k ++ s ≡ line_text l ++ t → IsFirst k l s t
line-same k l s t isk isl same =
    let c = cut 10 (line_body k) (line_body l) s t (line-free k isk) (line-free l isl) (sym (append_assoc (line_body k) (10 ∷ []) s) ∙ same ∙ append_assoc (line_body l) (10 ∷ []) t) in
    record { line = body-same k l isk isl c.front; rest = c.rest }

-- ---- numbers that are read

pub reads-decimal : {E : Type 0} (n : ℕ) (text : List ℕ) (r : Result ℕ E) → n < 2 ^ 32 → text ≡ decimal n → ParsesUnsigned 32 10 text r → r ≡ Ok n
reads-decimal n text r small same parsed = parse-decimal 32 n text r small (omega arith) same parsed

-- ---- a line that is cut at its space

pub at-space : (l : Line) (text : List ℕ) (r : Option (Bor (List ℕ) × Bor (List ℕ))) → IsLine l → IsSplitOnceResult 32 text r → text ≡ line_body l → MatchOption r ⊥ (λ x. (x.0.now ≡ decimal l.count) × (x.1.now ≡ event_text l.event))
at-space l text r is split same =
    let small = is.count in
    split_after 32 text (decimal l.count) (event_text l.event) r split (omega arith) same (λ i h. All-get_or (λ b. b ≢ 32) (decimal l.count) i 0 h (decimal-free l.count (omega arith)))

-- Eight pixels in a byte, and rows of such bytes.
use Rattle.std.proofs.Common.{◌≡◌, ℕ, zero, suc, ◌+◌, ◌-◌, ◌*◌, ◌/◌, ◌%◌, ◌^◌, ◌<◌, ◌≤◌, Bool, true, false, eqb, ltb, ◌&&◌, List, [], ◌∷◌, ◌++◌, length, get_or, refl, sym, ap, ap₂, ◌∙◌, subst, length-append, arith}
use Rattle.std.proofs.lemmas.Bool.{eq-eqb, lt-ltb, ltb-false, ltb-true, ne_eqb}
use Rattle.std.proofs.lemmas.List.{get_or_append_left}
use Rattle.std.proofs.Math.Nat.{div-div-eq-div-mul, div-lt_iff_lt-mul, mod-eq_of_lt, mul-add-mod_self_right, mul-le-mul_left}
use Rattle.std.proofs.lemmas.Nat.{div-mul-add}
use Rattle.std.proofs.Math.Seq.{get_or-append_seam}
use Rattle.std.specs.Int.{from_bool}
use Rattle.st80_picture.specs.Pictures.{HasBits, HasPixels, black_in, has_bit, larger_of, row_bytes}

-- a bit behind others shifts them by one
shifted : (byte c m : ℕ) → c < 2 → (byte * 2 + c) / (2 * m) ≡ byte / m
shifted byte c m small =
    let half : (byte * 2 + c) / 2 ≡ byte = omega (arith, small) in
    sym (div-div-eq-div-mul (byte * 2 + c) 2 m) ∙ ap (λ (n : ℕ). n / m) half

bool_small : (b : Bool) → from_bool b < 2
bool_small true = omega arith
bool_small false = omega arith

power : (n : ℕ) → 2 ^ suc n ≡ 2 * 2 ^ n
power n = omega arith

pub bit_more : (byte n c : ℕ) (is : ℕ → Bool) → HasBits byte is n → c ≡ from_bool (is n) → HasBits (byte * 2 + c) is (n + 1)
bit_more byte n c is bits value i lt = go (n - i) refl
  where
    small : c < 2
    small = let b = bool_small (is n) in omega (arith, b, value)

    go : (d : ℕ) → n - i ≡ d → ((byte * 2 + c) / 2 ^ (n + 1 - 1 - i)) % 2 ≡ from_bool (is i)
    go zero e =
        let last : i ≡ n = omega (arith, e, lt) in
        let none : n + 1 - 1 - i ≡ 0 = omega (arith, e) in
        let one : (byte * 2 + c) / 2 ^ (n + 1 - 1 - i) ≡ byte * 2 + c = rw none (let x : (byte * 2 + c) / 1 ≡ byte * 2 + c = omega arith in x) in
        let rest : (byte * 2 + c) % 2 ≡ c = omega (arith, small) in
        ap (λ (k : ℕ). k % 2) one ∙ rest ∙ value ∙ ap (λ (k : ℕ). from_bool (is k)) (sym last)
    go (suc d) e =
        let above : n + 1 - 1 - i ≡ suc d = omega (arith, e) in
        let below : n - 1 - i ≡ d = omega (arith, e) in
        let before : i < n = omega (arith, e) in
        ap (λ (k : ℕ). ((byte * 2 + c) / 2 ^ k) % 2) above
        ∙ ap (λ (k : ℕ). ((byte * 2 + c) / k) % 2) (power d)
        ∙ ap (λ (k : ℕ). k % 2) (shifted byte c (2 ^ d) small)
        ∙ ap (λ (k : ℕ). (byte / 2 ^ k) % 2) (sym below)
        ∙ bits i before

pub byte_room : (byte n c : ℕ) (b : Bool) → byte < 2 ^ n → c ≡ from_bool b → byte * 2 + c < 2 ^ (n + 1)
byte_room byte n c b small value =
    let bit = bool_small b in
    let double : 2 ^ (n + 1) ≡ 2 * 2 ^ n = ap (λ (k : ℕ). 2 ^ k) (let e : n + 1 ≡ suc n = omega arith in e) ∙ power n in
    omega (arith, small, bit, value, double)

pub below_power : (n byte : ℕ) → n < 8 → byte < 2 ^ n → byte < 128
below_power zero byte lt small = omega (arith, small)
below_power (suc zero) byte lt small = omega (arith, small)
below_power (suc (suc zero)) byte lt small = omega (arith, small)
below_power (suc (suc (suc zero))) byte lt small = omega (arith, small)
below_power (suc (suc (suc (suc zero)))) byte lt small = omega (arith, small)
below_power (suc (suc (suc (suc (suc zero))))) byte lt small = omega (arith, small)
below_power (suc (suc (suc (suc (suc (suc zero)))))) byte lt small = omega (arith, small)
below_power (suc (suc (suc (suc (suc (suc (suc zero))))))) byte lt small = omega (arith, small)
below_power (suc (suc (suc (suc (suc (suc (suc (suc n)))))))) byte lt small = absurd (omega (arith, lt))

-- a byte more, at its place of a row
pub pixels_more : (rows : List ℕ) (stride first y byte : ℕ) (is : ℕ → ℕ → Bool) → HasPixels rows stride is → length rows ≡ y * stride + first → first < stride → HasBits byte (λ i. is (8 * first + i) y) 8 → HasPixels (rows ++ byte ∷ []) stride is
pixels_more rows stride first y byte is pixels len lt bits j below = go (ltb j (length rows)) refl
  where
    go : (b : Bool) → ltb j (length rows) ≡ b → HasBits (get_or (rows ++ byte ∷ []) j 0) (λ i. is (8 * (j % stride) + i) (j / stride)) 8
    go true e = rw (get_or_append_left rows (byte ∷ []) 0 j (ltb-true _ _ e)) (pixels j (ltb-true _ _ e))
    go false e =
        let end : j ≡ length rows = omega (arith, ltb-false _ _ e, below, length-append rows (byte ∷ [])) in
        let place : j ≡ y * stride + first = end ∙ len in
        let column : j % stride ≡ first = ap (λ (k : ℕ). k % stride) place ∙ mul-add-mod_self_right y stride first ∙ mod-eq_of_lt lt in
        let row : j / stride ≡ y = ap (λ (k : ℕ). k / stride) place ∙ div-mul-add y stride first lt in
        let last : get_or (rows ++ byte ∷ []) j 0 ≡ byte = ap (λ (k : ℕ). get_or (rows ++ byte ∷ []) k 0) end ∙ get_or-append_seam rows byte [] 0 in
        λ i small. ap (λ (b : ℕ). (b / 2 ^ (8 - 1 - i)) % 2) last ∙ bits i small ∙ ap₂ (λ (a b : ℕ). from_bool (is (8 * a + i) b)) (sym column) (sym row)

pub none_yet : (rows : List ℕ) (stride : ℕ) (is : ℕ → ℕ → Bool) → rows ≡ [] → HasPixels rows stride is
none_yet rows stride is none j lt = absurd (omega (arith, ap length none, lt))

-- ---- the whole

same_test : (a b : Bool) → (a ≡ true → b ≡ true) → (b ≡ true → a ≡ true) → a ≡ b
same_test true b ab ba = sym (ab refl)
same_test false true ab ba = ba refl
same_test false false ab ba = refl

within : (x width times : ℕ) → 0 < times → ltb x (width * times) ≡ ltb (x / times) width
within x width times some =
    let both = div-lt_iff_lt-mul {k = times} {x = x} {y = width} some in
    same_test (ltb x (width * times)) (ltb (x / times) width) (λ e. lt-ltb _ _ (both.1 (ltb-true _ _ e))) (λ e. lt-ltb _ _ (both.0 (ltb-true _ _ e)))

one_bit : (n : ℕ) (b : Bool) → n ≡ from_bool b → eqb n 1 ≡ b
one_bit n true e = eq-eqb n 1 e
one_bit n false e = ne_eqb n 1 (λ one. omega (arith, e, one))

module _ (width height times : ℕ) (rows larger : List ℕ) (some : 0 < times) (pixels : HasPixels larger (row_bytes (width * times)) (larger_of width height rows times)) (len : length larger ≡ height * times * row_bytes (width * times)) (x y : ℕ) where
  inside : x < width * times → y < height * times → has_bit (get_or larger (y * row_bytes (width * times) + x / 8) 0) (x % 8) ≡ black_in width height rows (x / times) (y / times)
  inside x_lt y_lt =
      let first : x / 8 < row_bytes (width * times) = omega (arith, x_lt) in
      let all : row_bytes (width * times) * (y + 1) ≤ row_bytes (width * times) * (height * times) = mul-le-mul_left (row_bytes (width * times)) (omega (arith, y_lt)) in
      let below : y * row_bytes (width * times) + x / 8 < length larger = rw len (omega (arith, all, first)) in
      let column : (y * row_bytes (width * times) + x / 8) % row_bytes (width * times) ≡ x / 8 = mul-add-mod_self_right y (row_bytes (width * times)) (x / 8) ∙ mod-eq_of_lt first in
      let row : (y * row_bytes (width * times) + x / 8) / row_bytes (width * times) ≡ y = div-mul-add y (row_bytes (width * times)) (x / 8) first in
      let place : 8 * (x / 8) + x % 8 ≡ x = omega arith in
      let bit = pixels (y * row_bytes (width * times) + x / 8) below (x % 8) (omega arith) in
      one_bit _ _ (bit ∙ ap₂ (λ (a b : ℕ). from_bool (larger_of width height rows times (8 * a + x % 8) b)) column row ∙ ap (λ (a : ℕ). from_bool (larger_of width height rows times a y)) place)

  pub larger_black : black_in (width * times) (height * times) larger x y ≡ black_in width height rows (x / times) (y / times)
  larger_black = go (ltb x (width * times)) (ltb y (height * times)) refl refl
    where
      go : (a b : Bool) → ltb x (width * times) ≡ a → ltb y (height * times) ≡ b → black_in (width * times) (height * times) larger x y ≡ black_in width height rows (x / times) (y / times)
      go true true ex ey =
          ap₂ (λ (a b : Bool). a && (b && has_bit (get_or larger (y * row_bytes (width * times) + x / 8) 0) (x % 8))) ex ey ∙ inside (ltb-true _ _ ex) (ltb-true _ _ ey)
      go true false ex ey =
          ap₂ (λ (a b : Bool). a && (b && has_bit (get_or larger (y * row_bytes (width * times) + x / 8) 0) (x % 8))) ex ey
          ∙ sym (ap₂ (λ (a b : Bool). a && (b && has_bit (get_or rows (y / times * row_bytes width + x / times / 8) 0) (x / times % 8))) (sym (within x width times some) ∙ ex) (sym (within y height times some) ∙ ey))
      go false b ex ey =
          ap (λ (a : Bool). a && (ltb y (height * times) && has_bit (get_or larger (y * row_bytes (width * times) + x / 8) 0) (x % 8))) ex
          ∙ sym (ap (λ (a : Bool). a && (ltb (y / times) height && has_bit (get_or rows (y / times * row_bytes width + x / times / 8) 0) (x / times % 8))) (sym (within x width times some) ∙ ex))

-- with its sides as they were reckoned
pub larger_at : (width height times : ℕ) (rows larger : List ℕ) (w h : ℕ) → w ≡ width * times → h ≡ height * times → 0 < times → HasPixels larger (row_bytes w) (larger_of width height rows times) → length larger ≡ h * row_bytes w
    → (x y : ℕ) → black_in w h larger x y ≡ black_in width height rows (x / times) (y / times)
larger_at width height times rows larger w h ew eh some pixels len x y =
    let wide : HasPixels larger (row_bytes (width * times)) (larger_of width height rows times) = subst (λ (k : ℕ). HasPixels larger (row_bytes k) (larger_of width height rows times)) ew pixels in
    let long : length larger ≡ height * times * row_bytes (width * times) = len ∙ ap₂ (λ (a b : ℕ). a * row_bytes b) eh ew in
    ap₂ (λ (a b : ℕ). black_in a b larger x y) ew eh ∙ larger_black width height times rows larger some wide long x y

-- Numbers of two, four and eight bytes: what is read is what was written, both ways.
-- `two_bytes`, `four_bytes` and `eight_bytes` stay folded; facts on them are lemmas here.
use Rattle.std.proofs.Common.{◌≡◌, ℕ, ◌+◌, ◌^◌, ◌<◌, Bool, true, false, cond, ltb, List, ◌++◌, length, get_or, take, drop, Option, Some, None, Result, Ok, Err, refl, sym, ap, subst, ◌∙◌, append_assoc, arith, inl, inr}
use Rattle.std.specs.Prelude.{All}
use Rattle.std.specs.Int.{Width, w16, w32, w64, byte_len, from_be_bytes}
use Rattle.std.proofs.lemmas.Bool.{cases_lt, ltb-false, le-ltb}
use Rattle.std.proofs.lemmas.List.{take_at, drop_at, take-append-drop, length-append, length-take, get_or-drop, get_or-take, get_or_past}
use Rattle.std.proofs.lemmas.List.Elements.{All-from_get_or}
use Rattle.std.proofs.lemmas.Nat.{be_bytes_2, be_bytes_4, be_bytes_8, from_be_bytes-to_be_bytes_2, from_be_bytes-to_be_bytes_4, from_be_bytes-to_be_bytes_8}
use Rattle.long_names.specs.Record.{two_bytes, four_bytes, eight_bytes}
use Rattle.image_format.specs.declared.fault.Halt.{Halt}
use Rattle.image_format.specs.Reading.{◌>>=◌, judged, octets_at, number_at}

pub record AreBytes (bytes : List ℕ) : Type 0 where
  pub below : (i : ℕ) → get_or bytes i 0 < 256

pub AreBytes-drop : (n : ℕ) (bytes : List ℕ) → AreBytes bytes → AreBytes (drop n bytes)
AreBytes-drop n bytes h = record { below = λ i. rw get_or-drop (h.below (n + i)) }

AreBytes-take : (n : ℕ) (bytes : List ℕ) → AreBytes bytes → AreBytes (take n bytes)
AreBytes-take n bytes h =
    record {
      below = λ i. elim (cases_lt i n) [
        | inl lt ↦ rw (get_or-take n bytes i 0 lt) (h.below i)
        | inr le ↦ rw (get_or_past (take n bytes) i 0 (omega (arith, length-take n bytes))) (omega arith)
      ];
    }

pub all_bytes : (bytes : List ℕ) → AreBytes bytes → All (λ b. b < 2 ^ 8) bytes
all_bytes bytes h = All-from_get_or (λ b. b < 2 ^ 8) bytes 0 (λ i lt. omega (arith, h.below i))

-- the value of a step that did not break off
pub bind_ok : {A B : Type 0} (r : Result A Halt) (f : A → Result B Halt) (y : B) → (r >>= f) ≡ Ok y → (x : A) × (r ≡ Ok x) × (f x ≡ Ok y)
bind_ok (Ok x) f y e = (x, refl, e)
bind_ok (Err h) f y e = absurd cc

abbrev done : {A : Type 0} → A → Option A
done x = Some x

pub some_is : {A : Type 0} (x y : A) → done x ≡ done y → x ≡ y
some_is x y e = cc

abbrev pub read_as : {A : Type 0} → A → Result A Halt
read_as x = Ok x

pub ok_is : {A : Type 0} (x y : A) → read_as x ≡ read_as y → x ≡ y
ok_is x y e = cc

pub never_ok : {A P : Type 0} (h : Halt) (x : A) → ◌≡◌ {A = Result A Halt} (Err h) (Ok x) → P
never_ok h x e = absurd cc

-- a test that did not fail
pub guard_ok : {A : Type 0} (b : Bool) (h : Halt) (x : Result A Halt) (y : A) → cond b (Err h) x ≡ Ok y → (b ≡ false) × (x ≡ Ok y)
guard_ok true h x y e = absurd cc
guard_ok false h x y e = (refl, e)

pub passed_ok : {A : Type 0} (b : Bool) (x : Result A Halt) (h : Halt) (y : A) → cond b x (Err h) ≡ Ok y → (b ≡ true) × (x ≡ Ok y)
passed_ok true x h y e = (refl, e)
passed_ok false x h y e = absurd cc

pub judged_ok : {A : Type 0} (rule : ℕ) (bytes : List ℕ) (o : Option A) (y : A) → judged rule bytes o ≡ Ok y → o ≡ Some y
judged_ok rule bytes (Some x) y e = ap (λ z. done z) (ok_is x y e)
judged_ok rule bytes None y e = absurd cc

-- what a reader took from the front
pub record Takes (bytes text rest : List ℕ) : Type 0 where
  pub parts : bytes ≡ text ++ rest
  pub unread : AreBytes rest

pub takes_then : (a x b y c : List ℕ) → Takes a x b → Takes b y c → Takes a (x ++ y) c
takes_then a x b y c p q = record { parts = p.parts ∙ ap (λ (t : List ℕ). x ++ t) q.parts ∙ sym (append_assoc x y c); unread = q.unread }

-- ---- bytes as they are

pub octets_take : (n : ℕ) (bytes text rest : List ℕ) → AreBytes bytes → octets_at n bytes ≡ Ok (text, rest) → Takes bytes text rest × (length text ≡ n) × AreBytes text
unfolding octets_at
octets_take n bytes text rest fits e =
    let g = guard_ok (ltb (length bytes) n) _ (Ok (take n bytes, drop n bytes)) (text, rest) e in
    let pair : (take n bytes, drop n bytes) ≡ (text, rest) = ok_is (take n bytes, drop n bytes) (text, rest) g.1 in
    let P : List ℕ × List ℕ → Type 0 = λ p. Takes bytes p.0 p.1 × (length p.0 ≡ n) × AreBytes p.0 in
    subst P pair (record { parts = sym (take-append-drop n bytes); unread = AreBytes-drop n bytes fits }, omega (arith, length-take n bytes, ltb-false (length bytes) n g.0), AreBytes-take n bytes fits)

pub octets_again : (n : ℕ) (text rest : List ℕ) → length text ≡ n → octets_at n (text ++ rest) ≡ Ok (text, rest)
unfolding octets_at
octets_again n text rest len =
    let long : ltb (length (text ++ rest)) n ≡ false = le-ltb _ _ (omega (arith, length-append text rest)) in
    rw (long, take_at text rest n len, drop_at text rest n len) refl

-- ---- numbers

pub record IsWide (w : Width) (limit : ℕ) (text : ℕ → List ℕ) : Type 0 where
  pub len : (n : ℕ) → length (text n) ≡ byte_len w
  pub back : (bytes : List ℕ) → length bytes ≡ byte_len w → AreBytes bytes → text (from_be_bytes w bytes) ≡ bytes
  pub again : (n : ℕ) → n < limit → from_be_bytes w (text n) ≡ n
  pub below : (bytes : List ℕ) → AreBytes bytes → from_be_bytes w bytes < limit

pub wide16 : IsWide w16 (2 ^ 16) two_bytes
unfolding two_bytes
wide16 = record {
  len = λ n. refl;
  back = λ bytes len fits. be_bytes_2 bytes _ len fits.below refl;
  again = λ n lt. from_be_bytes-to_be_bytes_2 n lt;
  below = λ bytes fits. omega (arith, fits.below 0, fits.below 1);
}

pub wide32 : IsWide w32 (2 ^ 32) four_bytes
unfolding four_bytes
wide32 = record {
  len = λ n. refl;
  back = λ bytes len fits. be_bytes_4 bytes _ len fits.below refl;
  again = λ n lt. from_be_bytes-to_be_bytes_4 n lt;
  below = λ bytes fits. omega (arith, fits.below 0, fits.below 1, fits.below 2, fits.below 3);
}

pub wide64 : IsWide w64 (2 ^ 64) eight_bytes
unfolding eight_bytes
wide64 = record {
  len = λ n. refl;
  back = λ bytes len fits. be_bytes_8 bytes _ len fits.below refl;
  again = λ n lt. from_be_bytes-to_be_bytes_8 n lt;
  below = λ bytes fits. omega (arith, fits.below 0, fits.below 1, fits.below 2, fits.below 3, fits.below 4, fits.below 5, fits.below 6, fits.below 7);
}

pub number_takes : (w : Width) (limit : ℕ) (text : ℕ → List ℕ) (wide : IsWide w limit text) (bytes : List ℕ) (n : ℕ) (rest : List ℕ) → AreBytes bytes → number_at w bytes ≡ Ok (n, rest) → Takes bytes (text n) rest × (n < limit)
unfolding number_at
number_takes w limit text wide bytes n rest fits e =
    let a = bind_ok (octets_at (byte_len w) bytes) (λ front. Ok (from_be_bytes w front.0, front.1)) (n, rest) e in
    let t = octets_take (byte_len w) bytes a.0.0 a.0.1 fits a.1 in
    let pair : (from_be_bytes w a.0.0, a.0.1) ≡ (n, rest) = ok_is (from_be_bytes w a.0.0, a.0.1) (n, rest) a.2 in
    let P : ℕ × List ℕ → Type 0 = λ p. Takes bytes (text p.0) p.1 × (p.0 < limit) in
    subst P pair (rw (wide.back a.0.0 t.1 t.2) t.0, wide.below a.0.0 t.2)

pub number_again : (w : Width) (limit : ℕ) (text : ℕ → List ℕ) (wide : IsWide w limit text) (n : ℕ) (rest : List ℕ) → n < limit → number_at w (text n ++ rest) ≡ Ok (n, rest)
unfolding number_at
number_again w limit text wide n rest lt =
    rw (octets_again (byte_len w) (text n) rest (wide.len n), wide.again n lt) refl

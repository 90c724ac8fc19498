-- The bytes of a number, turn by turn, and its object.
use Rattle.std.proofs.Common.{zero, suc, ◌≡◌, ℕ, ℤ, pos, negsuc, ◌+◌, ◌-◌, ◌*◌, ◌/◌, ◌%◌, ◌^◌, ◌<◌, ◌≤◌, nat_lt, Bool, true, false, eqb, List, [], ◌∷◌, length, drop, get_or, Option, Some, None, Ok, is_some, IfSome, refl, sym, ◌∙◌, ap, subst, if◌then◌else◌, arith}
use Rattle.std.proofs.lemmas.Grind.{common_steps}
use Rattle.std.proofs.lemmas.Bool.Decides.{nat_tests}
use Rattle.std.specs.Option.{option_and_then}
use mir.Syntax.{w128}
use Rattle.std.specs.Int.RustNames.{FitsSigned}
use Rattle.long_names.specs.declared.value.Value.{Value}
use Rattle.long_names.specs.declared.value.Value.TheVariants.{Int, Ref}
use Rattle.long_names.specs.Objects.{bytes_of}
use Rattle.long_names.specs.State.{IsRef, set_register}
use Rattle.object_memory.specs.Told.{Told, IsReady}
use Rattle.object_memory.specs.Shape.{HasPartAt}
use Rattle.object_memory.proofs.LooksLaws.{put_value}
use Rattle.blue_model.specs.declared.cpu.Cpu.{Cpu}
use Rattle.blue_model.specs.Machine.{done}
use Rattle.long_names.specs.declared.limits.TheConstants.{MACHINE_REGISTERS}
use Rattle.blue_model.specs.Contexts.{stated}
use Rattle.blue_model.specs.LargeInts.{digits, fewest_bytes, in_range, large_result}
use Rattle.contexts.specs.Serves.{Serves}
use Rattle.contexts.proofs.RegisterLaws.{int_quiet}
use Rattle.contexts.proofs.Steps.{done_same, read_last}

-- ---- a byte more

digits_none : (most : ℕ) → digits most 0 ≡ []
digits_none zero = refl
digits_none (suc most) = refl

digits_more : (most rest : ℕ) → 0 < rest → digits (suc most) rest ≡ rest % 256 ∷ digits most (rest / 256)
digits_more most rest more = let other : eqb rest 0 ≡ false = grind (arith, nat_tests, common_steps) in ap (λ b. if b then [] else rest % 256 ∷ digits most (rest / 256)) other

-- there is room for one more, and the rest has room behind it
turn : (k rest : ℕ) → rest < 256 ^ (16 - k) → 0 < rest → (most : ℕ) × (16 - k ≡ suc most) × (rest / 256 < 256 ^ most)
turn k rest low more = go (16 - k) refl low
  where
    go : (room : ℕ) → 16 - k ≡ room → rest < 256 ^ room → (most : ℕ) × (room ≡ suc most) × (rest / 256 < 256 ^ most)
    go zero e low = absurd (omega arith)
    go (suc most) e low = (most, refl, (let grows : 256 ^ suc most ≡ 256 * 256 ^ most = omega arith in omega arith))

-- what a loop over the bytes keeps: k of them were taken, and these are left
pub record IsLeft (n k rest : ℕ) : Type 0 where
  pub few : k ≤ 16
  pub low : rest < 256 ^ (16 - k)
  pub left : drop k (fewest_bytes n) ≡ digits (16 - k) rest
  pub within : k ≤ length (fewest_bytes n)

pub left_first : (n : ℕ) → n < 2 ^ 128 → IsLeft n 0 n
left_first n low = record { few = omega arith; low = omega arith; left = refl; within = omega arith }

front : (xs : List ℕ) (i b : ℕ) (ys : List ℕ) → drop i xs ≡ b ∷ ys → (i < length xs) × (get_or xs i 0 ≡ b) × (drop (i + 1) xs ≡ ys)
front [] zero b ys e = let no : ◌≡◌ {A = List ℕ} [] (b ∷ ys) = e in absurd (cc)
front [] (suc i) b ys e = let no : ◌≡◌ {A = List ℕ} [] (b ∷ ys) = e in absurd (cc)
front (x ∷ xs) zero b ys e = (omega arith, (let same : x ≡ b = cc in same), (let same : xs ≡ ys = cc in same))
front (x ∷ xs) (suc i) b ys e = (let it = front xs i b ys e in let more : suc i + 1 ≡ suc (i + 1) = omega arith in let low = it.0 in (omega arith, it.1, ap (λ k. drop k (x ∷ xs)) more ∙ it.2))

ends : (xs : List ℕ) (i : ℕ) → drop i xs ≡ [] → length xs ≤ i
ends [] i e = omega arith
ends (x ∷ xs) zero e = let no : ◌≡◌ {A = List ℕ} (x ∷ xs) [] = e in absurd (cc)
ends (x ∷ xs) (suc i) e = let it = ends xs i e in omega arith

taken : (n k rest : ℕ) → 0 < rest → IsLeft n k rest → (k < length (fewest_bytes n)) × (get_or (fewest_bytes n) k 0 ≡ rest % 256) × IsLeft n (k + 1) (rest / 256)
taken n k rest more x =
    let it = turn k rest x.low more in
    let room = it.1 in
    let next : 16 - (k + 1) ≡ it.0 = omega arith in
    let here = front (fewest_bytes n) k (rest % 256) (digits it.0 (rest / 256)) (x.left ∙ ap (λ j. digits j rest) room ∙ digits_more it.0 rest more) in
    let low = here.0 in (
      here.0,
      here.1,
      record {
        few = omega arith;
        low = subst (λ j. rest / 256 < 256 ^ j) (sym next) it.2;
        left = here.2 ∙ ap (λ j. digits j (rest / 256)) (sym next);
        within = omega arith;
      },
    )

-- the byte that is next, and what is left behind it
pub next_byte : (n k rest : ℕ) → 0 < rest → IsLeft n k rest → get_or (fewest_bytes n) k 0 ≡ rest % 256
next_byte n k rest more x = (taken n k rest more x).1

pub next_low : (n k rest : ℕ) → 0 < rest → IsLeft n k rest → k < length (fewest_bytes n)
next_low n k rest more x = (taken n k rest more x).0

pub left_next : (n k rest : ℕ) → 0 < rest → IsLeft n k rest → IsLeft n (k + 1) (rest / 256)
left_next n k rest more x = (taken n k rest more x).2

-- all were taken
pub left_none : (n k rest : ℕ) → rest ≡ 0 → IsLeft n k rest → k ≡ length (fewest_bytes n)
left_none n k rest e x =
    let past = ends (fewest_bytes n) k (x.left ∙ ap (digits (16 - k)) e ∙ digits_none (16 - k)) in
    let within = x.within in
    omega arith

-- ---- the object

pub has_size : {t : Told} {r : ℕ} (P Q : ℕ → Type 0) → ((n : ℕ) → P n → Q n) → HasPartAt t r bytes_of (λ xs. P (length xs)) → HasPartAt t r bytes_of (λ xs. Q (length xs))
has_size P Q f known = record { name = known.name; there = λ told. (let it = known.there told in (it.0, it.1, f (length it.0) it.2)) }

pub named_by : (v : Value) (n : ℕ) → v ≡ Ref n → IsRef v
named_by v n e = subst IsRef (sym e) tt

-- ---- SmallIntegers

-- A number came into a scratch register, and is the answer.
pub number_serves : {old new : Told} {cpu : Cpu} (to : ℕ) (y z : ℤ) → MACHINE_REGISTERS ≤ to → y ≡ z → IsReady old → IsReady new → new ≡ (record old { regs = set_register old.regs to (Int y) }) → Serves old cpu new cpu (done (Int z)) (Ok (new.regs to))
number_serves {old} {new} {cpu} to y z above same before ready put = read_last (done_same (put_value old new to (Int y) put ∙ ap (λ x. Int x) same) before) (int_quiet old new to y above before ready put)

pub stated_number : (z y : ℤ) → stated z ≡ Some y → (is_some (stated z) ≡ true) × (y ≡ z)
stated_number z y e = (ap is_some e, sym (same z e))
  where
    pick : (b : Bool) (x : ℤ) → ◌≡◌ {A = Option ℤ} (if b then Some x else None) (Some y) → x ≡ y
    pick true x e = cc
    pick false x e = let no : ◌≡◌ {A = Option ℤ} None (Some y) = e in absurd (cc)

    same : (z : ℤ) → stated z ≡ Some y → z ≡ y
    same (pos n) e = pick (nat_lt n 16384) (pos n) e
    same (negsuc n) e = pick (nat_lt n 16384) (negsuc n) e

-- ---- results in range

in_range_fits : (z : ℤ) → IfSome (in_range z) (FitsSigned w128)
in_range_fits (pos n) = go (nat_lt n (2 ^ 127)) refl
  where
    go : (b : Bool) → nat_lt n (2 ^ 127) ≡ b → IfSome (if b then Some (pos n) else None) (FitsSigned w128)
    go true e = record { sfits = grind (arith, nat_tests) }
    go false e = tt
in_range_fits (negsuc n) = go (nat_lt n (2 ^ 127)) refl
  where
    go : (b : Bool) → nat_lt n (2 ^ 127) ≡ b → IfSome (if b then Some (negsuc n) else None) (FitsSigned w128)
    go true e = record { sfits = grind (arith, nat_tests) }
    go false e = tt

pub result_fits : (f : ℤ → ℤ → Option ℤ) (a b z : ℤ) → Some z ≡ large_result f a b → FitsSigned w128 z
result_fits f a b z e = go (f a b) e
  where
    go : (x : Option ℤ) → Some z ≡ option_and_then in_range x → FitsSigned w128 z
    go None e = let no : ◌≡◌ {A = Option ℤ} (Some z) None = e in absurd (cc)
    go (Some y) e = subst (λ o. IfSome o (FitsSigned w128)) (sym e) (in_range_fits y)

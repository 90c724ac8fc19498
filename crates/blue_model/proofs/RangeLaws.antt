-- Each byte is in one range of the table, and does what that range says.
use Rattle.blue_model.specs.declared.event.Line.{Line}
use Rattle.std.proofs.Common.{◌≡◌, ℕ, zero, suc, ◌+◌, ◌-◌, ◌^◌, ◌<◌, ◌≤◌, Bool, true, false, eqb, cond, ◌&&◌, List, [], ◌∷◌, length, refl, sym, ap, ◌∙◌, subst, arith}
use Rattle.std.proofs.lemmas.Grind.{common_steps}
use Rattle.std.specs.List.{slice_index_or, count_by}
use Rattle.std.proofs.lemmas.List.Sums.{sum_by-cons}
use Rattle.long_names.proofs.ThinLemmas.{both}
use Rattle.blue_model.specs.Machine.{pick}
use Rattle.blue_model.specs.Bytecodes.{Range, bytecodes, has_byte, ruled, bytecode}

-- each byte below n is in one range
ones_below : List Line → ℕ → Bool
unfolding bytecodes
ones_below events zero = true
ones_below events (suc n) = eqb (count_by (has_byte n) (bytecodes events)) 1 && ones_below events n

all_bytes : (events : List Line) → ones_below events 256 ≡ true
unfolding ones_below bytecodes
all_bytes events = refl

named : (x y : ℕ) → eqb x y ≡ true → x ≡ y
named x y f = grind (arith, common_steps)

other : (x y : ℕ) → eqb x y ≡ false → x < suc y → x < y
other x y f g = grind (arith, common_steps)

below : (events : List Line) (n byte : ℕ) → ones_below events n ≡ true → byte < n → count_by (has_byte byte) (bytecodes events) ≡ 1
unfolding ones_below
below events zero byte e low = absurd (omega arith)
below events (suc n) byte e low = go (eqb byte n) refl (below events n byte parts.1)
  where
    parts : (eqb (count_by (has_byte n) (bytecodes events)) 1 ≡ true) × (ones_below events n ≡ true)
    parts = both (eqb (count_by (has_byte n) (bytecodes events)) 1) (ones_below events n) e

    go : (b : Bool) → eqb byte n ≡ b → (byte < n → count_by (has_byte byte) (bytecodes events) ≡ 1) → count_by (has_byte byte) (bytecodes events) ≡ 1
    go true f next = subst (λ k. count_by (has_byte k) (bytecodes events) ≡ 1) (sym (named byte n f)) (named (count_by (has_byte n) (bytecodes events)) 1 parts.0)
    go false f next = next (other byte n f low)

-- a row that has the byte counts
counted : (byte : ℕ) (rs : List Range) (i : ℕ) (r : Range) → i < length rs → slice_index_or rs i r ≡ r → has_byte byte r ≡ true → 1 ≤ count_by (has_byte byte) rs
counted byte [] i r low e f = absurd (omega arith)
counted byte (q ∷ rs) zero r low e f =
    let same : q ≡ r = e in
    let first : has_byte byte q ≡ true = ap (has_byte byte) same ∙ f in
    let is : count_by (has_byte byte) (q ∷ rs) ≡ cond (has_byte byte q) 1 0 + count_by (has_byte byte) rs = sum_by-cons (λ x. cond (has_byte byte x) 1 0) q rs in
    let one : ◌≡◌ {A = ℕ} (cond (has_byte byte q) 1 0) 1 = ap (λ b. cond b 1 0) first in
    omega arith
counted byte (q ∷ rs) (suc i) r low e f =
    let is : count_by (has_byte byte) (q ∷ rs) ≡ cond (has_byte byte q) 1 0 + count_by (has_byte byte) rs = sum_by-cons (λ x. cond (has_byte byte x) 1 0) q rs in
    let within : i < length rs = omega arith in
    let rest : 1 ≤ count_by (has_byte byte) rs = counted byte rs i r within e f in
    omega arith

ruled_by : (byte : ℕ) (rs : List Range) (i : ℕ) (r : Range) → count_by (has_byte byte) rs ≡ 1 → i < length rs → slice_index_or rs i r ≡ r → has_byte byte r ≡ true → ruled rs byte ≡ r.rule (byte - r.first)
unfolding pick
ruled_by byte [] i r one low e f = absurd (omega arith)
ruled_by byte (q ∷ rs) zero r one low e f =
    let same : q ≡ r = e in
    let first : has_byte byte q ≡ true = ap (has_byte byte) same ∙ f in
    ap (λ b. pick b (q.rule (byte - q.first)) (ruled rs byte)) first ∙ ap (λ (x : Range). x.rule (byte - x.first)) same
ruled_by byte (q ∷ rs) (suc i) r one low e f = go (has_byte byte q) refl (λ rest. ruled_by byte rs i r rest within e f)
  where
    within : i < length rs
    within = omega arith

    is : count_by (has_byte byte) (q ∷ rs) ≡ cond (has_byte byte q) 1 0 + count_by (has_byte byte) rs
    is = sum_by-cons (λ x. cond (has_byte byte x) 1 0) q rs

    go : (b : Bool) → has_byte byte q ≡ b → (count_by (has_byte byte) rs ≡ 1 → ruled rs byte ≡ r.rule (byte - r.first)) → ruled (q ∷ rs) byte ≡ r.rule (byte - r.first)
    go true g next =
        let this : ◌≡◌ {A = ℕ} (cond (has_byte byte q) 1 0) 1 = ap (λ b. cond b 1 0) g in
        let rest : 1 ≤ count_by (has_byte byte) rs = counted byte rs i r within e f in
        let sum = is in
        absurd (omega arith)
    go false g next =
        let this : ◌≡◌ {A = ℕ} (cond (has_byte byte q) 1 0) 0 = ap (λ b. cond b 1 0) g in
        let sum = is in
        let rest : count_by (has_byte byte) rs ≡ 1 = omega arith in
        ap (λ b. pick b (q.rule (byte - q.first)) (ruled rs byte)) g ∙ next rest

pub one_range : (events : List Line) (byte : ℕ) → byte < 2 ^ 8 → count_by (has_byte byte) (bytecodes events) ≡ 1
one_range events byte low = below events 256 byte (all_bytes events) low

-- the rule of a byte, by the place of its range in the table
pub bytecode_by : (events : List Line) (byte i : ℕ) (r : Range) → byte < 2 ^ 8 → i < length (bytecodes events) → slice_index_or (bytecodes events) i r ≡ r → has_byte byte r ≡ true → bytecode events byte ≡ r.rule (byte - r.first)
unfolding bytecode
bytecode_by events byte i r low within e f = ruled_by byte (bytecodes events) i r (below events 256 byte (all_bytes events) low) within e f

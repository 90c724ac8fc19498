-- What stands in a vault while the next checkpoint is written beside the last one. Throughout, n is the serial of the next one and s its parity.
use Rattle.std.proofs.Common.{◌≡◌, ◌≢◌, ◌⊎◌, inl, inr, ℕ, zero, suc, ◌+◌, ◌-◌, ◌*◌, ◌%◌, ◌<◌, ◌≤◌, Bool, true, false, cond, List, [], length, get_or, Option, None, Some, refl, sym, ap, ap₂, ◌∙◌, subst, arith}
use Rattle.std.specs.Prelude.{IfSome, nat_lt}
use Rattle.std.proofs.lemmas.Bool.Decides.{nat_tests}
use Rattle.checkpoint.specs.Faults.{IsFailed, LeavesLast}
use Rattle.checkpoint.specs.Inside.{HasHead}
use Rattle.checkpoint.specs.Keeping.{HasEither, HasNext, HasSame, IsLast, serial_of}
use Rattle.checkpoint.specs.Layout.{bad_place, found, gate_in, image_in, image_place, is_bad, is_open, later_of, point_of}
use Rattle.checkpoint.specs.Sparing.{IsApart, IsAreaPlace, IsButByte, IsGatePlace, Spares, Sure}
use Rattle.checkpoint.specs.Vault.{VaultState, MayLeave, Throughout, contents_of, unsynced_of}
use Rattle.checkpoint.specs.declared.fault.VaultFault.{VaultFault}
use Rattle.checkpoint.specs.declared.fault.VaultFault.TheVariants as fault
use Rattle.checkpoint.specs.declared.layout.Gate.{Gate}
use Rattle.checkpoint.specs.declared.layout.TheConstants.{GATE_GAP, LEAST_LENGTH, LENGTH_AT, MOST_LENGTH, SERIAL_AT, SERIAL_END}
use Rattle.checkpoint.specs.declared.point.Point.{Point}
use Rattle.checkpoint.proofs.LayoutLaws.{area_in-same, closed-byte, gate-same, number-same, place-behind, point-closed, whole-closed}
use Rattle.checkpoint.proofs.MomentLaws.{moment-all, throughout-gives, throughout-still, throughout-then}
use Rattle.checkpoint.proofs.SureLaws.{sure-left, sure-part, sure-synced_all}

-- ---- two gates

abbrev says : Gate → Point
says g = record { serial = g.serial; len = g.len }

point-open : (g : Gate) → is_open g ≡ true → point_of g ≡ Some (says g)
point-open g opened = ap (λ (b : Bool). cond b (Some (says g)) None) opened

-- it is closed, or good and of an older checkpoint than the last
abbrev pub IsOld : ℕ → ℕ → Gate → Type 0
IsOld n s g = (is_open g ≡ false) ⊎ ((is_bad s g ≡ false) × (g.serial + 1 < n))

old-good : (n s : ℕ) (g : Gate) → IsOld n s g → is_bad s g ≡ false
old-good n s g (inl closed) = whole-closed s g closed
old-good n s g (inr old) = old.0

-- one gate is of the last checkpoint, and the other isn't newer
abbrev Sides : Gate → Gate → Option Point → Type 0
Sides g h last =
    (((serial_of last + 1) % 2 ≡ 0) × (point_of h ≡ last) × IsOld (serial_of last + 1) 0 g)
    ⊎ (((serial_of last + 1) % 2 ≡ 1) × (point_of g ≡ last) × IsOld (serial_of last + 1) 1 h)

good-parity : (s : ℕ) (g : Gate) → is_open g ≡ true → is_bad s g ≡ false → g.serial % 2 ≡ s
good-parity s g opened good = grind (arith, nat_tests)

less_is : (a b : ℕ) → nat_lt a b ≡ true → a < b
less_is a b e = grind (arith, nat_tests)

not_less_is : (a b : ℕ) → nat_lt a b ≡ false → b ≤ a
not_less_is a b e = grind (arith, nat_tests)

is_less : (a b : ℕ) → a < b → nat_lt a b ≡ true
is_less a b h = grind (arith, nat_tests)

is_not_less : (a b : ℕ) → b ≤ a → nat_lt a b ≡ false
is_not_less a b h = grind (arith, nat_tests)

sides : (g h : Gate) (last : Option Point) → is_bad 0 g ≡ false → is_bad 1 h ≡ false → later_of (point_of g) (point_of h) ≡ last → Sides g h last
sides g h last good also is = go (is_open g) (is_open h) (nat_lt g.serial h.serial) refl refl refl where
  go : (a b c : Bool) → is_open g ≡ a → is_open h ≡ b → nat_lt g.serial h.serial ≡ c → Sides g h last
  go true true true p q r =
      let first = point-open g p in
      let second = point-open h q in
      let odd = good-parity 1 h q also in
      let less = less_is g.serial h.serial r in
      subst (λ (o : Option Point). Sides g h o)
      (sym (ap₂ later_of first second ∙ ap (λ (b : Bool). Some (cond b (says h) (says g))) r) ∙ is)
      (inl (omega arith, second, inr (good, omega arith)))
  go true true false p q r =
      let first = point-open g p in
      let second = point-open h q in
      let even = good-parity 0 g p good in
      let odd = good-parity 1 h q also in
      let least = not_less_is g.serial h.serial r in
      subst (λ (o : Option Point). Sides g h o)
      (sym (ap₂ later_of first second ∙ ap (λ (b : Bool). Some (cond b (says h) (says g))) r) ∙ is)
      (inr (omega arith, first, inr (also, omega arith)))
  go true false c p q r =
      let first = point-open g p in
      let even = good-parity 0 g p good in
      subst (λ (o : Option Point). Sides g h o) (sym (ap₂ later_of first (point-closed h q)) ∙ is) (inr (omega arith, first, inl q))
  go false true c p q r =
      let second = point-open h q in
      let odd = good-parity 1 h q also in
      subst (λ (o : Option Point). Sides g h o) (sym (ap₂ later_of (point-closed g p) second) ∙ is) (inl (omega arith, second, inl p))
  go false false c p q r =
      subst (λ (o : Option Point). Sides g h o) (sym (ap₂ later_of (point-closed g p) (point-closed h q)) ∙ is) (inr (refl, point-closed g p, inl q))

-- the older of them isn't found
older-first : (g : Gate) (p : Point) → IsOld (p.serial + 1) 0 g → later_of (point_of g) (Some p) ≡ Some p
older-first g p (inl closed) = ap (λ (o : Option Point). later_of o (Some p)) (point-closed g closed)
older-first g p (inr old) = go (is_open g) where
  go : (b : Bool) → later_of (cond b (Some (says g)) None) (Some p) ≡ Some p
  go true = ap (λ (c : Bool). Some (cond c p (says g))) (is_less g.serial p.serial (let less = old.1 in omega arith))
  go false = refl

older-second : (g : Gate) (p : Point) → IsOld (p.serial + 1) 1 g → later_of (Some p) (point_of g) ≡ Some p
older-second g p (inl closed) = ap (λ (o : Option Point). later_of (Some p) o) (point-closed g closed)
older-second g p (inr old) = go (is_open g) where
  go : (b : Bool) → later_of (Some p) (cond b (Some (says g)) None) ≡ Some p
  go true = ap (λ (c : Bool). Some (cond c (says g) p)) (is_not_less p.serial g.serial (let less = old.1 in omega arith))
  go false = refl

none-old : (s : ℕ) (g : Gate) → IsOld 1 s g → point_of g ≡ None
none-old s g (inl closed) = point-closed g closed
none-old s g (inr old) = absurd (let less = old.1 in omega arith)

last-first : (g : Gate) (last : Option Point) → IsOld (serial_of last + 1) 0 g → later_of (point_of g) last ≡ last
last-first g None old = ap (λ (o : Option Point). later_of o None) (none-old 0 g old)
last-first g (Some p) old = older-first g p old

last-second : (g : Gate) (last : Option Point) → IsOld (serial_of last + 1) 1 g → later_of last (point_of g) ≡ last
last-second g None old = none-old 1 g old
last-second g (Some p) old = older-second g p old

-- the newer of them is found
next-first : (p : Point) (last : Option Point) → p.serial ≡ serial_of last + 1 → later_of (Some p) last ≡ Some p
next-first p None next = refl
next-first p (Some q) next = ap (λ (c : Bool). Some (cond c q p)) (is_not_less p.serial q.serial (omega arith))

next-second : (p : Point) (last : Option Point) → p.serial ≡ serial_of last + 1 → later_of last (Some p) ≡ Some p
next-second p None next = refl
next-second p (Some q) next = ap (λ (c : Bool). Some (cond c p q)) (is_less q.serial p.serial (omega arith))

-- ---- bytes

-- their other gate is of the last checkpoint
record IsBeside (s : ℕ) (last : Option Point) (w : List ℕ) : Type 0 where
  good : is_bad (1 - s) (gate_in w (1 - s)) ≡ false
  newest : point_of (gate_in w (1 - s)) ≡ last

both-good : (a b : Bool) → cond a (Some 0) (cond b (Some GATE_GAP) None) ≡ None → (a ≡ false) × (b ≡ false)
both-good true b e = absurd (cc)
both-good false true e = absurd (cc)
both-good false false e = (refl, refl)

none-bad : (a b : Bool) → a ≡ false → b ≡ false → cond a (Some 0) (cond b (Some GATE_GAP) None) ≡ None
none-bad a b p q = rw (p, q) refl

beside-found : (w : List ℕ) (last : Option Point) → bad_place w ≡ None → found w ≡ last
    → IsBeside ((serial_of last + 1) % 2) last w × IsOld (serial_of last + 1) ((serial_of last + 1) % 2) (gate_in w ((serial_of last + 1) % 2))
beside-found w last whole is = elim (sides (gate_in w 0) (gate_in w 1) last good.0 good.1 is) [
  | inl even ↦ subst Such (sym even.0) (record { good = good.1; newest = even.1 }, even.2)
  | inr odd ↦ subst Such (sym odd.0) (record { good = good.0; newest = odd.1 }, odd.2)
] where
  good : (is_bad 0 (gate_in w 0) ≡ false) × (is_bad 1 (gate_in w 1) ≡ false)
  good = both-good (is_bad 0 (gate_in w 0)) (is_bad 1 (gate_in w 1)) whole

  Such : ℕ → Type 0
  Such s = IsBeside s last w × IsOld (serial_of last + 1) s (gate_in w s)

-- with an older gate beside it, it is found
last-found : (w : List ℕ) (s : ℕ) (last : Option Point) → s < 2 → IsBeside s last w → IsOld (serial_of last + 1) s (gate_in w s)
    → (bad_place w ≡ None) × (found w ≡ last)
last-found w zero last which beside old = (
  none-bad _ _ (old-good _ 0 (gate_in w 0) old) beside.good,
  ap (λ (o : Option Point). later_of (point_of (gate_in w 0)) o) beside.newest ∙ last-first (gate_in w 0) last old,
)
last-found w (suc zero) last which beside old = (
  none-bad _ _ beside.good (old-good _ 1 (gate_in w 1) old),
  ap (λ (o : Option Point). later_of o (point_of (gate_in w 1))) beside.newest ∙ last-second (gate_in w 1) last old,
)
last-found w (suc (suc s)) last which beside old = absurd (omega arith)

-- a gate that is open at a point
record IsAt (g : Gate) (p : Point) : Type 0 where
  byte : g.byte ≡ 1
  serial : g.serial ≡ p.serial
  len : g.len ≡ p.len

gate-at : (g : Gate) (p : Point) → IsAt g p → g ≡ record { byte = 1; serial = p.serial; len = p.len }
gate-at g p at = let b = at.byte in let s = at.serial in let l = at.len in λ i. record { byte = b i; serial = s i; len = l i }

-- what a point of the next checkpoint is
pub record IsNext (n s : ℕ) (last : Option Point) (p : Point) : Type 0 where
  pub next : n ≡ serial_of last + 1
  pub which : s ≡ n % 2
  pub below : n < SERIAL_END
  pub serial : p.serial ≡ n
  pub least : LEAST_LENGTH ≤ p.len
  pub most : p.len ≤ MOST_LENGTH

open-at : (serial len : ℕ) → 0 < serial → is_open (record { byte = 1; serial = serial; len = len }) ≡ true
open-at serial len some = grind (arith, nat_tests)

good-at : (s serial len : ℕ) → serial % 2 ≡ s → serial < SERIAL_END → LEAST_LENGTH ≤ len → len ≤ MOST_LENGTH
    → is_bad s (record { byte = 1; serial = serial; len = len }) ≡ false
good-at s serial len parity below least most = grind (arith, nat_tests)

next-good : (n s : ℕ) (last : Option Point) (p : Point) (g : Gate) → IsNext n s last p → IsAt g p → is_bad s g ≡ false
next-good n s last p g next at =
    let one = next.which in let two = next.serial in let three = next.below in
    ap (is_bad s) (gate-at g p at) ∙ good-at s p.serial p.len (omega arith) (omega arith) next.least next.most

next-point : (n s : ℕ) (last : Option Point) (p : Point) (g : Gate) → IsNext n s last p → IsAt g p → point_of g ≡ Some p
next-point n s last p g next at =
    let one = next.next in let two = next.serial in
    ap point_of (gate-at g p at) ∙ ap (λ (b : Bool). cond b (Some p) None) (open-at p.serial p.len (omega arith))

-- with the next gate beside it, that is found
next-found : (w : List ℕ) (n s : ℕ) (last : Option Point) (p : Point) → s < 2 → IsNext n s last p → IsBeside s last w → IsAt (gate_in w s) p
    → (bad_place w ≡ None) × (found w ≡ Some p)
next-found w n zero last p which next beside at = (
  none-bad _ _ (next-good n 0 last p (gate_in w 0) next at) beside.good,
  ap₂ later_of (next-point n 0 last p (gate_in w 0) next at) beside.newest ∙ next-first p last (next.serial ∙ next.next),
)
next-found w n (suc zero) last p which next beside at = (
  none-bad _ _ beside.good (next-good n 1 last p (gate_in w 1) next at),
  ap₂ later_of beside.newest (next-point n 1 last p (gate_in w 1) next at) ∙ next-second p last (next.serial ∙ next.next),
)
next-found w n (suc (suc s)) last p which next beside at = absurd (omega arith)

-- ---- bytes that agree

-- on the places of the other gate and area
abbrev AgreesBeside : ℕ → List ℕ → List ℕ → Type 0
AgreesBeside s w v = (i : ℕ) → IsGatePlace (1 - s) i ⊎ IsAreaPlace (1 - s) i → get_or w i 0 ≡ get_or v i 0

-- but for the byte of the gate
abbrev AgreesButByte : ℕ → List ℕ → List ℕ → Type 0
AgreesButByte s w v = (i : ℕ) → IsButByte s i → get_or w i 0 ≡ get_or v i 0

but_byte-gate : (s i : ℕ) → s < 2 → IsGatePlace (1 - s) i → IsButByte s i
but_byte-gate s i which gate is = let low = gate.0 in let high = gate.1 in omega arith

but_byte-area : (s t i : ℕ) → s < 2 → IsAreaPlace t i → IsButByte s i
but_byte-area s t i which area is = let here = area.1 in let behind = place-behind t area.0 in omega arith

but_byte-beside : (s : ℕ) (w v : List ℕ) → s < 2 → AgreesButByte s w v → AgreesBeside s w v
but_byte-beside s w v which same i (inl gate) = same i (but_byte-gate s i which gate)
but_byte-beside s w v which same i (inr area) = same i (but_byte-area s (1 - s) i which area)

beside-same : (s : ℕ) (last : Option Point) (w v : List ℕ) → AgreesBeside s w v → IsBeside s last v → IsBeside s last w
beside-same s last w v same beside =
    let gate = gate-same w v (1 - s) (λ k low high. same k (inl (low, high))) in
    record { good = ap (is_bad (1 - s)) gate ∙ beside.good; newest = ap point_of gate ∙ beside.newest }

serial-same : (s : ℕ) (w v : List ℕ) → AgreesButByte s w v → (gate_in w s).serial ≡ (gate_in v s).serial
serial-same s w v same = number-same w v (GATE_GAP * s + SERIAL_AT) (λ k low high. same k (λ is. omega arith))

len-same : (s : ℕ) (w v : List ℕ) → AgreesButByte s w v → (gate_in w s).len ≡ (gate_in v s).len
len-same s w v same = number-same w v (GATE_GAP * s + LENGTH_AT) (λ k low high. same k (λ is. omega arith))

is_one : (b : ℕ) → (b ≡ 1) ⊎ (b ≢ 1)
is_one b = grind (arith)

-- a gate that was open, and whose byte is torn
old-torn : (n s : ℕ) (g h : Gate) → h.byte ≡ 1 → g.serial ≡ h.serial → g.len ≡ h.len → IsOld n s h → IsOld n s g
old-torn n s g h one serial len old = elim (is_one g.byte) [
  | inl same ↦ let byte = same ∙ sym one in
      subst (IsOld n s) (sym (let e : g ≡ h = λ i. record { byte = byte i; serial = serial i; len = len i } in e)) old
  | inr other ↦ inl (closed-byte g other)
]

-- ---- what stands there, from the last checkpoint on

module _ (a : VaultState) (last : Option Point) (is : IsLast a last) (n s : ℕ) (next : n ≡ serial_of last + 1) (which : s ≡ n % 2) (IsText : List ℕ → Type 0) where
  low : s < 2
  low = omega arith

  begun : IsBeside s last (contents_of a) × IsOld n s (gate_in (contents_of a) s)
  begun =
      let parity : (serial_of last + 1) % 2 ≡ s = ap (λ (m : ℕ). m % 2) (sym next) ∙ sym which in
      subst (λ (m : ℕ). IsBeside s last (contents_of a) × IsOld m s (gate_in (contents_of a) s)) (sym next)
      (subst (λ (t : ℕ). IsBeside t last (contents_of a) × IsOld (serial_of last + 1) t (gate_in (contents_of a) t)) parity
      (beside-found (contents_of a) last is.whole is.found_is))

  same-image : (w : List ℕ) (o : Option Point) → o ≡ last → AgreesBeside s w (contents_of a) → IfSome o (λ p. image_in w p ≡ image_in (contents_of a) p)
  same-image w None e same = tt
  same-image w (Some p) e same =
      let parity : p.serial % 2 ≡ 1 - s = let f : n ≡ p.serial + 1 = next ∙ ap (λ (o : Option Point). serial_of o + 1) (sym e) in omega arith in
      area_in-same w (contents_of a) (p.serial % 2) p.len (λ j below.
      same (image_place (p.serial % 2) j) (inr (j, ap (λ (t : ℕ). image_place t j) parity)))

  -- an older gate, beside the last checkpoint
  has-same : (w : List ℕ) → AgreesBeside s w (contents_of a) → IsOld n s (gate_in w s) → HasSame (contents_of a) w
  has-same w same old =
      let two = last-found w s last low (beside-same s last w (contents_of a) same begun.0) (subst (λ (m : ℕ). IsOld m s (gate_in w s)) next old) in
      record {
        whole = two.0;
        found_is = two.1 ∙ sym is.found_is;
        image = same-image w (found (contents_of a)) is.found_is same;
      }

  has-next : (w : List ℕ) (p : Point) → AgreesBeside s w (contents_of a) → IsNext n s last p → IsAt (gate_in w s) p → IsText (image_in w p) → HasNext n IsText w
  has-next w p same point at text =
      let two = next-found w n s last p low point (beside-same s last w (contents_of a) same begun.0) at in
      record { whole = two.0; point = p; found_is = two.1; serial_is = point.serial; text = text }

  -- before it begins
  pub still-stops : Throughout a a (HasEither (contents_of a) n IsText)
  still-stops = throughout-still a a (HasEither (contents_of a) n IsText) refl (λ w may. inl (begun-left w may)) where
    begun-left : (w : List ℕ) → MayLeave a w → HasSame (contents_of a) w
    begun-left w may =
        let same = sure-left a (λ i. Unit {0}) _ w (sure-synced_all a is.synced) may in
        has-same w (λ i at. same i tt) (subst (IsOld n s) (sym (gate-same w (contents_of a) s (λ k first behind. same k tt))) begun.1)

  -- ---- the gate is closed

  closing-left : (w : List ℕ) → get_or (contents_of a) (GATE_GAP * s) 0 ≡ 1 → AgreesButByte s w (contents_of a) → HasSame (contents_of a) w
  closing-left w one same =
      has-same w (but_byte-beside s w (contents_of a) low same)
      (old-torn n s (gate_in w s) (gate_in (contents_of a) s) one (serial-same s w (contents_of a) same) (len-same s w (contents_of a) same) begun.1)

  closed-left : (w : List ℕ) → get_or w (GATE_GAP * s) 0 ≢ 1 → AgreesBeside s w (contents_of a) → HasSame (contents_of a) w
  closed-left w closed same = has-same w same (inl (closed-byte (gate_in w s) closed))

  pub closing-stops : (b : VaultState) → Spares (IsButByte s) a b → (get_or (contents_of a) (GATE_GAP * s) 0 ≢ 1 → Spares (λ i. Unit {0}) a b)
      → Throughout a b (HasEither (contents_of a) n IsText)
  closing-stops b spares left = elim (is_one (get_or (contents_of a) (GATE_GAP * s) 0)) [
    | inl one ↦ throughout-gives a b _ (HasEither (contents_of a) n IsText) (λ w same. inl (closing-left w one same))
        (spares.throughout (λ i. get_or (contents_of a) i 0) (sure-part a (λ i. Unit {0}) (IsButByte s) _ (λ i at. tt) (sure-synced_all a is.synced)))
    | inr other ↦ throughout-gives a b _ (HasEither (contents_of a) n IsText)
        (λ w same. inl (closed-left w (subst (λ (x : ℕ). x ≢ 1) (sym (same (GATE_GAP * s) tt)) other) (λ i at. same i tt)))
        ((left other).throughout (λ i. get_or (contents_of a) i 0) (sure-synced_all a is.synced))
  ]

  -- the gate is closed, and all else as it was
  pub record IsReady (b : VaultState) : Type 0 where
    pub synced : unsynced_of b ≡ []
    pub closed : get_or (contents_of b) (GATE_GAP * s) 0 ≢ 1
    pub same : AgreesButByte s (contents_of b) (contents_of a)

  pub closing-ready : (b : VaultState) → Spares (IsButByte s) a b → get_or (contents_of b) (GATE_GAP * s) 0 ≢ 1 → unsynced_of b ≡ [] → IsReady b
  closing-ready b spares closed synced = record {
    synced = synced;
    closed = closed;
    same = (spares.sure (λ i. get_or (contents_of a) i 0) (sure-part a (λ i. Unit {0}) (IsButByte s) _ (λ i at. tt) (sure-synced_all a is.synced))).held;
  }

  -- ---- the next checkpoint is written

  sure-ready : (b : VaultState) → IsReady b → Sure b (IsApart s) (λ i. get_or (contents_of b) i 0)
  sure-ready b ready = sure-part b (λ i. Unit {0}) (IsApart s) _ (λ i at. tt) (sure-synced_all b ready.synced)

  apart-beside : (b : VaultState) (w : List ℕ) → IsReady b → ((i : ℕ) → IsApart s i → get_or w i 0 ≡ get_or (contents_of b) i 0) → AgreesBeside s w (contents_of a)
  apart-beside b w ready same i at = same i (inr at) ∙ but_byte-beside s (contents_of b) (contents_of a) low ready.same i at

  pub writing-stops : (b c : VaultState) → IsReady b → Spares (IsApart s) b c → Throughout b c (HasEither (contents_of a) n IsText)
  writing-stops b c ready spares =
      throughout-gives b c _ (HasEither (contents_of a) n IsText)
      (λ w same. inl (closed-left w (subst (λ (x : ℕ). x ≢ 1) (sym (same (GATE_GAP * s) (inl refl))) ready.closed) (apart-beside b w ready same)))
      (spares.throughout (λ i. get_or (contents_of b) i 0) (sure-ready b ready))

  -- the next one is there, with its gate still closed
  pub record IsWhole (c : VaultState) (p : Point) : Type 0 where
    pub synced : unsynced_of c ≡ []
    pub beside : AgreesBeside s (contents_of c) (contents_of a)
    pub head : HasHead (contents_of c) s p
    pub point : IsNext n s last p
    pub text : IsText (image_in (contents_of c) p)

  pub writing-whole : (b c : VaultState) (p : Point) → IsReady b → Spares (IsApart s) b c → unsynced_of c ≡ [] → HasHead (contents_of c) s p → IsNext n s last p
      → IsText (image_in (contents_of c) p) → IsWhole c p
  writing-whole b c p ready spares synced head point text = record {
    synced = synced;
    beside = apart-beside b (contents_of c) ready (spares.sure (λ i. get_or (contents_of b) i 0) (sure-ready b ready)).held;
    head = head;
    point = point;
    text = text;
  }

  -- ---- the gate is opened

  sure-whole : (c : VaultState) (p : Point) → IsWhole c p → Sure c (IsButByte s) (λ i. get_or (contents_of c) i 0)
  sure-whole c p whole = sure-part c (λ i. Unit {0}) (IsButByte s) _ (λ i at. tt) (sure-synced_all c whole.synced)

  opening-beside : (c : VaultState) (p : Point) (w : List ℕ) → IsWhole c p → AgreesButByte s w (contents_of c) → AgreesBeside s w (contents_of a)
  opening-beside c p w whole same i at = but_byte-beside s w (contents_of c) low same i at ∙ whole.beside i at

  opened-at : (c : VaultState) (p : Point) (w : List ℕ) → IsWhole c p → AgreesButByte s w (contents_of c) → get_or w (GATE_GAP * s) 0 ≡ 1 → IsAt (gate_in w s) p
  opened-at c p w whole same one = record {
    byte = one;
    serial = serial-same s w (contents_of c) same ∙ whole.head.serial;
    len = len-same s w (contents_of c) same ∙ whole.head.len;
  }

  pub opened-image : (c : VaultState) (p : Point) (w : List ℕ) → AgreesButByte s w (contents_of c) → image_in w p ≡ image_in (contents_of c) p
  opened-image c p w same =
      area_in-same w (contents_of c) (p.serial % 2) p.len (λ j below. same (image_place (p.serial % 2) j) (but_byte-area s (p.serial % 2) _ low (j, refl)))

  opening-left : (c : VaultState) (p : Point) (w : List ℕ) → IsWhole c p → AgreesButByte s w (contents_of c) → HasEither (contents_of a) n IsText w
  opening-left c p w whole same = elim (is_one (get_or w (GATE_GAP * s) 0)) [
    | inl one ↦ inr (has-next w p (opening-beside c p w whole same) whole.point (opened-at c p w whole same one)
        (subst IsText (sym (opened-image c p w same)) whole.text))
    | inr other ↦ inl (closed-left w other (opening-beside c p w whole same))
  ]

  pub opening-stops : (c d : VaultState) (p : Point) → IsWhole c p → Spares (IsButByte s) c d → Throughout c d (HasEither (contents_of a) n IsText)
  opening-stops c d p whole spares =
      throughout-gives c d _ (HasEither (contents_of a) n IsText) (λ w same. opening-left c p w whole same)
      (spares.throughout (λ i. get_or (contents_of c) i 0) (sure-whole c p whole))

  opening-held : (c d : VaultState) (p : Point) → IsWhole c p → Spares (IsButByte s) c d → AgreesButByte s (contents_of d) (contents_of c)
  opening-held c d p whole spares = (spares.sure (λ i. get_or (contents_of c) i 0) (sure-whole c p whole)).held

  pub opening-last : (c d : VaultState) (p : Point) → IsWhole c p → Spares (IsButByte s) c d → get_or (contents_of d) (GATE_GAP * s) 0 ≡ 1 → unsynced_of d ≡ []
      → IsLast d (Some p)
  opening-last c d p whole spares one synced =
      let same = opening-held c d p whole spares in
      let two = next-found (contents_of d) n s last p low whole.point (beside-same s last (contents_of d) (contents_of a) (opening-beside c p (contents_of d) whole same) begun.0)
      (opened-at c p (contents_of d) whole same one) in
      record { synced = synced; whole = two.0; found_is = two.1 }

  pub opening-text : (c d : VaultState) (p : Point) → IsWhole c p → Spares (IsButByte s) c d → IsText (image_in (contents_of d) p)
  opening-text c d p whole spares = subst IsText (sym (opened-image c p (contents_of d) (opening-held c d p whole spares))) whole.text

  -- ---- the steps together

  -- the gate was closed
  pub record HasClosed (b : VaultState) : Type 0 where
    pub spares : Spares (IsButByte s) a b
    pub left : get_or (contents_of a) (GATE_GAP * s) 0 ≢ 1 → Spares (λ i. Unit {0}) a b
    pub closed : get_or (contents_of b) (GATE_GAP * s) 0 ≢ 1
    pub synced : unsynced_of b ≡ []

  -- then the next checkpoint was written
  pub record HasWritten (b c : VaultState) (p : Point) : Type 0 where
    pub spares : Spares (IsApart s) b c
    pub synced : unsynced_of c ≡ []
    pub head : HasHead (contents_of c) s p
    pub point : IsNext n s last p
    pub text : IsText (image_in (contents_of c) p)

  closed-ready : (b : VaultState) → HasClosed b → IsReady b
  closed-ready b closed = closing-ready b closed.spares closed.closed closed.synced

  written-whole : (b c : VaultState) (p : Point) → HasClosed b → HasWritten b c p → IsWhole c p
  written-whole b c p closed written = writing-whole b c p (closed-ready b closed) written.spares written.synced written.head written.point written.text

  pub written-stops : (b c : VaultState) → HasClosed b → Spares (IsApart s) b c → Throughout a c (HasEither (contents_of a) n IsText)
  written-stops b c closed spares =
      throughout-then a b c (HasEither (contents_of a) n IsText) spares.extends (closing-stops b closed.spares closed.left)
      (writing-stops b c (closed-ready b closed) spares)

  pub all-stops : (b c d : VaultState) (p : Point) → HasClosed b → HasWritten b c p → Spares (IsButByte s) c d → Throughout a d (HasEither (contents_of a) n IsText)
  all-stops b c d p closed written spares =
      throughout-then a c d (HasEither (contents_of a) n IsText) spares.extends (written-stops b c closed written.spares)
      (opening-stops c d p (written-whole b c p closed written) spares)

  pub all-last : (b c d : VaultState) (p : Point) → HasClosed b → HasWritten b c p → Spares (IsButByte s) c d → get_or (contents_of d) (GATE_GAP * s) 0 ≡ 1
      → unsynced_of d ≡ [] → IsLast d (Some p)
  all-last b c d p closed written spares one synced = opening-last c d p (written-whole b c p closed written) spares one synced

  pub all-text : (b c d : VaultState) (p : Point) → HasClosed b → HasWritten b c p → Spares (IsButByte s) c d → IsText (image_in (contents_of d) p)
  all-text b c d p closed written spares = opening-text c d p (written-whole b c p closed written) spares

-- ---- a refusal that isn't a failure of the vault

same-only : (old bytes : List ℕ) (n : ℕ) → HasEither old n (λ text. ⊥) bytes → HasSame old bytes
same-only old bytes n (inl same) = same
same-only old bytes n (inr next) = absurd next.text

-- where no stop can leave a next one
pub leaves-last : (a c : VaultState) (n : ℕ) (f : VaultFault) → Throughout a c (HasEither (contents_of a) n (λ text. ⊥)) → LeavesLast a c f
leaves-last a c n f stops = go f
  where
    left : (bytes : List ℕ) → MayLeave c bytes → HasSame (contents_of a) bytes
    left bytes may = same-only (contents_of a) bytes n (stops (length a.calls + length c.calls) (omega arith) bytes (subst (λ (s : VaultState). MayLeave s bytes) (sym (moment-all (length a.calls + length c.calls) c (omega arith))) may))

    go : (f : VaultFault) → LeavesLast a c f
    go (fault.Failed count) = tt
    go (fault.Bad place) = tt
    go (fault.Disk f) = left
    go fault.Memory = left

pub failed-leaves : (before now : ℕ) (a c : VaultState) (f : VaultFault) → IsFailed before now f → LeavesLast a c f
failed-leaves before now a c (fault.Failed count) h = tt
failed-leaves before now a c (fault.Bad place) h = absurd h
failed-leaves before now a c (fault.Disk f) h = absurd h
failed-leaves before now a c fault.Memory h = absurd h

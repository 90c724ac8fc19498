-- The byte of a gate once it is written, and serial and length behind it.
use Rattle.std.proofs.Common.{◌≡◌, ◌≢◌, ◌==◌, ◌⊎◌, Bool, true, false, inl, inr, ℕ, ◌+◌, ◌-◌, ◌*◌, ◌^◌, ◌<◌, ◌≤◌, List, [], ◌∷◌, length, drop, get_or, Result, Ok, Err, OnOk, refl, sym, ap, ◌∙◌, subst, arith}
use Rattle.std.proofs.lemmas.Bool.Decides.{nat_tests}
use Rattle.byteorder.specs.Endian.{big_bytes, big_number}
use Rattle.byteorder.specs.Numbers.{big_number-reads_back}
use Rattle.loom_host.specs.Bytes.{overwritten, window}
use Rattle.loom_host.proofs.Windows.{get_or-overwritten, get_or-window, byte_after_inside, window-overwritten_same}
use Rattle.checkpoint.specs.Inside.{HasHead, head_of}
use Rattle.checkpoint.specs.Layout.{area_in, image_place, number_at}
use Rattle.checkpoint.specs.Sparing.{IsApart, IsButByte, Spares}
use Rattle.checkpoint.specs.Vault.{VaultState, IsSynced, IsWritten, contents_of}
use Rattle.checkpoint.specs.declared.layout.TheConstants.{GATE_GAP, LENGTH_AT, SERIAL_AT}
use Rattle.checkpoint.specs.declared.point.Point.{Point}
use Rattle.checkpoint.proofs.LayoutLaws.{area_in-same, number-dropped, number-windowed, place-behind}
use Rattle.checkpoint.proofs.SparesLaws.{spares-synced, spares-then, spares-written}
use Rattle.checkpoint.proofs.SureLaws.{contents-synced, contents-written, outside-written}

-- ---- the byte

pub byte-read : (w bytes : List ℕ) (place : ℕ) → bytes ≡ window w place 1 → get_or bytes 0 0 ≡ get_or w place 0
byte-read w bytes place is =
    ap (λ (l : List ℕ). get_or l 0 0) is ∙ get_or-window w place 1 0 (omega arith)
    ∙ ap (λ (k : ℕ). get_or w k 0) (let e : place + 0 ≡ place = omega arith in e)

pub byte-written : {T E : Type 0} (r : Result T E) (place byte : ℕ) (old new : VaultState) → IsWritten place (byte ∷ []) r old new
    → OnOk r (get_or (contents_of new) place 0 ≡ byte)
byte-written {T = T} {E = E} (Ok x) place byte old new w =
    ap (λ (l : List ℕ). get_or l place 0) (contents-written {T = T} {E = E} (Ok x) place (byte ∷ []) old new w)
    ∙ get_or-overwritten (contents_of old) place (byte ∷ []) place
    ∙ byte_after_inside (contents_of old) place (byte ∷ []) place (omega arith) (omega arith)
    ∙ ap (λ (k : ℕ). get_or (byte ∷ []) k 0) (let e : place - place ≡ 0 = omega arith in e)
byte-written (Err e) place byte old new w = tt

pub byte-spares : {T E : Type 0} (r : Result T E) (s byte : ℕ) (old new : VaultState) → IsWritten (GATE_GAP * s) (byte ∷ []) r old new
    → Spares (IsButByte s) old new
byte-spares {T = T} {E = E} r s byte old new w = spares-written {T = T} {E = E} (IsButByte s) r (GATE_GAP * s) (byte ∷ []) old new out w where
  out : (i : ℕ) → IsButByte s i → (i < GATE_GAP * s) ⊎ (GATE_GAP * s + 1 ≤ i)
  out i other = grind (arith)

pub marked-is : (b : ℕ) (marked : Bool) → marked ≡ (b == 1) → marked ≡ true → b ≡ 1
marked-is b marked test so = grind (arith, nat_tests)

pub marked-is_not : (b : ℕ) (marked : Bool) → marked ≡ (b == 1) → marked ≡ false → b ≢ 1
marked-is_not b marked test so is = grind (arith, nat_tests)

pub zero-is_not : (b : ℕ) → b ≡ 0 → b ≢ 1
zero-is_not b zero one = omega arith

pub byte-same : (s t : VaultState) (place : ℕ) → s ≡ t → get_or (contents_of s) place 0 ≡ get_or (contents_of t) place 0
byte-same s t place same = ap (λ (v : VaultState). get_or (contents_of v) place 0) same

-- ---- a sync behind it

pub byte-kept : {T E : Type 0} (r : Result T E) (place : ℕ) (P : ℕ → Type 0) (old new : VaultState) → IsSynced r old new → P (get_or (contents_of old) place 0)
    → OnOk r (P (get_or (contents_of new) place 0))
byte-kept {T = T} {E = E} (Ok x) place P old new s holds =
    subst P (sym (ap (λ (l : List ℕ). get_or l place 0) (contents-synced {T = T} {E = E} (Ok x) old new s))) holds
byte-kept (Err e) place P old new s holds = tt

pub spares-sync : {T E : Type 0} (At : ℕ → Type 0) (r : Result T E) (old mid new : VaultState) → Spares At old mid → IsSynced r mid new → Spares At old new
spares-sync {T = T} {E = E} At r old mid new spares s = spares-then At old mid new spares (spares-synced {T = T} {E = E} At r mid new s)

-- ---- serial and length

number-put : (w bytes : List ℕ) (p q : ℕ) → length bytes ≡ 16 → q + 8 ≤ 16 → number_at (overwritten w p bytes) (p + q) ≡ big_number 8 (drop q bytes)
number-put w bytes p q size within =
    let shown : window (overwritten w p bytes) p 16 ≡ bytes =
    ap (λ (n : ℕ). window (overwritten w p bytes) p n) (sym size) ∙ window-overwritten_same w p bytes in
    sym (number-windowed (overwritten w p bytes) p 16 q within) ∙ ap (λ (l : List ℕ). number_at l q) shown ∙ sym (number-dropped bytes q)

head-put : (w : List ℕ) (s place : ℕ) (p : Point) → place ≡ GATE_GAP * s + SERIAL_AT → p.serial < 256 ^ 8 → p.len < 256 ^ 8
    → HasHead (overwritten w place (head_of p)) s p
head-put w s place p at serial len = record {
  serial = ap (number_at (overwritten w place (head_of p))) (let e : GATE_GAP * s + SERIAL_AT ≡ place + 0 = omega arith in e)
      ∙ number-put w (head_of p) place 0 refl (omega arith) ∙ big_number-reads_back 8 p.serial (big_bytes 8 p.len) serial;
  len = ap (number_at (overwritten w place (head_of p))) (let e : GATE_GAP * s + LENGTH_AT ≡ place + 8 = omega arith in e)
      ∙ number-put w (head_of p) place 8 refl (omega arith) ∙ big_number-reads_back 8 p.len [] len;
}

pub head-written : {T E : Type 0} (r : Result T E) (place s : ℕ) (bytes : List ℕ) (p : Point) (old new : VaultState) → IsWritten place bytes r old new
    → bytes ≡ head_of p → place ≡ GATE_GAP * s + SERIAL_AT → p.serial < 256 ^ 8 → p.len < 256 ^ 8 → OnOk r (HasHead (contents_of new) s p)
head-written {T = T} {E = E} (Ok x) place s bytes p old new w spelled at serial len =
    subst (λ (l : List ℕ). HasHead l s p)
    (sym (contents-written {T = T} {E = E} (Ok x) place bytes old new w ∙ ap (overwritten (contents_of old) place) spelled))
    (head-put (contents_of old) s place p at serial len)
head-written (Err e) place s bytes p old new w spelled at serial len = tt

-- it stands before the areas, and apart from what the checkpoint leaves alone
pub head-apart : (s place n : ℕ) → s < 2 → place ≡ GATE_GAP * s + SERIAL_AT → n ≡ 16 → (i : ℕ) → IsApart s i → (i < place) ⊎ (place + n ≤ i)
head-apart s place n which at size i (inl byte) = inl (omega arith)
head-apart s place n which at size i (inr (inl gate)) = let low = gate.0 in let high = gate.1 in grind (arith)
head-apart s place n which at size i (inr (inr area)) = let here = area.1 in let behind = place-behind (1 - s) area.0 in inr (omega arith)

pub head-image : {T E : Type 0} (r : Result T E) (place s n : ℕ) (bytes : List ℕ) (old new : VaultState) → IsWritten place bytes r old new
    → s < 2 → place ≡ GATE_GAP * s + SERIAL_AT → length bytes ≡ 16 → area_in (contents_of new) s n ≡ area_in (contents_of old) s n
head-image {T = T} {E = E} r place s n bytes old new w which at size =
    area_in-same (contents_of new) (contents_of old) s n (λ j below.
    outside-written {T = T} {E = E} r place bytes old new w (image_place s j) (inr (let behind = place-behind s j in omega arith)))

-- the same parity in other words
pub apart-in : (s t : ℕ) (a b : VaultState) → s ≡ t → Spares (IsApart s) a b → Spares (IsApart t) a b
apart-in s t a b same spares = subst (λ (u : ℕ). Spares (IsApart u) a b) same spares

-- A vault where nothing stands but maybe at the bytes of the gates: no stop leaves a checkpoint.
use Rattle.std.proofs.Common.{◌≡◌, ◌≢◌, ◌⊎◌, inl, inr, ℕ, ◌+◌, ◌-◌, ◌<◌, ◌≤◌, max, List, [], ◌∷◌, length, get_or, None, true, Result, Ok, Err, is_ok, OnOk, sym, ap, subst, ◌∙◌, arith}
use Rattle.std.proofs.lemmas.Bool.{false≢true}
use Rattle.loom_host.proofs.Windows.{get_or-overwritten, byte_after_inside, length-overwritten}
use Rattle.checkpoint.specs.Layout.{found, gate_in}
use Rattle.checkpoint.specs.Vault.{VaultState, Extends, IsEmpty, IsSynced, IsWritten, MayLeave, Throughout, contents_of}
use Rattle.checkpoint.specs.declared.layout.TheConstants.{GATE_GAP}
use Rattle.checkpoint.proofs.LayoutLaws.{closed-byte, found-blank, found-closed}
use Rattle.checkpoint.proofs.MomentLaws.{extends-synced, extends-then, extends-written, throughout-synced, throughout-then, throughout-written}
use Rattle.checkpoint.specs.Sparing.{Sure}
use Rattle.checkpoint.proofs.SureLaws.{contents-synced, contents-written, outside-written, sure-empty, sure-left, sure-part, sure-synced, sure-written}

abbrev IsElse : ℕ → Type 0
IsElse i = (i ≢ 0) × (i ≢ GATE_GAP)

abbrev IsBlank : VaultState → Type 0
IsBlank s = Sure s IsElse (λ i. 0)

abbrev HasNone : List ℕ → Type 0
HasNone bytes = found bytes ≡ None

none-blank : (s : VaultState) → IsBlank s → (bytes : List ℕ) → MayLeave s bytes → HasNone bytes
none-blank s blank bytes may = found-blank bytes (λ i first second. sure-left s IsElse (λ i. 0) bytes blank may i (first, second))

-- calls that leave it so
pub record Goes (old new : VaultState) : Type 0 where
  pub extends : Extends old new
  pub same : (i : ℕ) → IsElse i → get_or (contents_of new) i 0 ≡ get_or (contents_of old) i 0
  pub blank : IsBlank old → IsBlank new
  pub none : IsBlank old → Throughout old new HasNone

pub goes-then : (a b c : VaultState) → Goes a b → Goes b c → Goes a c
goes-then a b c g h = record {
  extends = extends-then a b c g.extends h.extends;
  same = λ i away. h.same i away ∙ g.same i away;
  blank = λ blank. h.blank (g.blank blank);
  none = λ blank. throughout-then a b c HasNone h.extends (g.none blank) (h.none (g.blank blank));
}

pub goes-written : {T E : Type 0} (r : Result T E) (place : ℕ) (old new : VaultState) → (place ≡ 0) ⊎ (place ≡ GATE_GAP) → IsWritten place (0 ∷ []) r old new → Goes old new
goes-written {T = T} {E = E} r place old new at w = record {
  extends = extends-written {T = T} {E = E} r place (0 ∷ []) old new w;
  same = λ i away. outside-written {T = T} {E = E} r place (0 ∷ []) old new w i (out place at i away);
  blank = λ blank. sure-written {T = T} {E = E} r place (0 ∷ []) old new IsElse (λ i. 0) w (out place at) blank;
  none = λ blank. throughout-written {T = T} {E = E} r place (0 ∷ []) old new HasNone w (none-blank old blank)
      (none-blank new (sure-written {T = T} {E = E} r place (0 ∷ []) old new IsElse (λ i. 0) w (out place at) blank));
} where
  out : (place : ℕ) → (place ≡ 0) ⊎ (place ≡ GATE_GAP) → (i : ℕ) → IsElse i → (i < place) ⊎ (place + 1 ≤ i)
  out place (inl first) i away = let ne = away.0 in grind arith
  out place (inr second) i away = let ne = away.1 in grind arith

pub goes-synced : {T E : Type 0} (r : Result T E) (old new : VaultState) → IsSynced r old new → Goes old new
goes-synced {T = T} {E = E} r old new s = record {
  extends = extends-synced {T = T} {E = E} r old new s;
  same = λ i away. ap (λ (l : List ℕ). get_or l i 0) (contents-synced {T = T} {E = E} r old new s);
  blank = λ blank. sure-synced {T = T} {E = E} r old new IsElse (λ i. 0) s blank;
  none = λ blank. throughout-synced {T = T} {E = E} r old new HasNone s (none-blank old blank) (none-blank new (sure-synced {T = T} {E = E} r old new IsElse (λ i. 0) s blank));
}

pub goes-empty : (old new : VaultState) → Goes old new → IsEmpty old → Throughout old new HasNone
goes-empty old new g empty = g.none (sure-part old (λ i. Unit {0}) IsElse (λ i. 0) (λ i away. tt) (sure-empty old empty))

-- both gates were closed
zero-written : {T E : Type 0} (r : Result T E) (place : ℕ) (old new : VaultState) → IsWritten place (0 ∷ []) r old new → is_ok r ≡ true → get_or (contents_of new) place 0 ≡ 0
zero-written {T = T} {E = E} (Ok x) place old new w ok =
    ap (λ (l : List ℕ). get_or l place 0) (contents-written {T = T} {E = E} (Ok x) place (0 ∷ []) old new w)
    ∙ get_or-overwritten (contents_of old) place (0 ∷ []) place ∙ byte_after_inside (contents_of old) place (0 ∷ []) place (omega arith) (omega arith)
    ∙ ap (λ (k : ℕ). get_or (0 ∷ []) k 0) (let e : place - place ≡ 0 = omega arith in e)
zero-written (Err e) place old new w ok = absurd (false≢true ok)

not_open : (byte : ℕ) → byte ≡ 0 → byte ≢ 1
not_open byte zero one = omega arith

reaches-written : {T E : Type 0} (r : Result T E) (place : ℕ) (old new : VaultState) → IsWritten place (0 ∷ []) r old new → is_ok r ≡ true → place < length (contents_of new)
reaches-written {T = T} {E = E} (Ok x) place old new w ok =
    let long : length (contents_of new) ≡ max (length (contents_of old)) (place + 1) = ap length (contents-written {T = T} {E = E} (Ok x) place (0 ∷ []) old new w) ∙ length-overwritten (contents_of old) place (0 ∷ []) in
    omega (arith, long)
reaches-written (Err e) place old new w ok = absurd (false≢true ok)

-- The calls of `fresh`, where both writes answered Ok.
module _ {T E R S : Type 0} (p q : Result T E) (r : Result R S) (a b c d : VaultState) (first : IsWritten 0 (0 ∷ []) p a b) (one : is_ok p ≡ true)
    (second : IsWritten GATE_GAP (0 ∷ []) q b c) (two : is_ok q ≡ true) (sync : IsSynced r c d) where
  same-synced : contents_of d ≡ contents_of c
  same-synced = contents-synced {T = R} {E = S} r c d sync

  pub second-zero : get_or (contents_of d) GATE_GAP 0 ≡ 0
  second-zero = ap (λ (l : List ℕ). get_or l GATE_GAP 0) same-synced ∙ zero-written {T = T} {E = E} q GATE_GAP b c second two

  pub second-stands : GATE_GAP < length (contents_of d)
  second-stands = subst (λ (l : List ℕ). GATE_GAP < length l) (sym same-synced) (reaches-written {T = T} {E = E} q GATE_GAP b c second two)

  pub first-zero : get_or (contents_of d) 0 0 ≡ 0
  first-zero =
      ap (λ (l : List ℕ). get_or l 0 0) same-synced ∙ outside-written {T = T} {E = E} q GATE_GAP (0 ∷ []) b c second 0 (inl (omega arith))
      ∙ zero-written {T = T} {E = E} p 0 a b first one

  pub none-written : found (contents_of d) ≡ None
  none-written =
      found-closed (contents_of d) (closed-byte (gate_in (contents_of d) 0) (not_open _ first-zero)) (closed-byte (gate_in (contents_of d) 1) (not_open _ second-zero))

pub on_ok : {T E P : Type 0} (r : Result T E) → P → OnOk r P
on_ok (Ok x) p = p
on_ok (Err e) p = tt

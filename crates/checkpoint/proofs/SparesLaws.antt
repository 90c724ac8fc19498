-- Calls that leave some places of a vault alone, one after the other.
use Rattle.std.proofs.Common.{◌≡◌, ◌⊎◌, inl, inr, ℕ, ◌+◌, ◌-◌, ◌*◌, ◌<◌, ◌≤◌, List, length, get_or, Result, sym, ◌∙◌, subst, ⊎_elim, arith}
use Rattle.std.proofs.lemmas.Bool.{cases_lt}
use Rattle.checkpoint.specs.Layout.{block_place, image_place}
use Rattle.checkpoint.specs.Sparing.{IsApart, Spares}
use Rattle.checkpoint.specs.Vault.{VaultState, IsSynced, IsWritten}
use Rattle.checkpoint.specs.declared.layout.TheConstants.{BLOCK}
use Rattle.checkpoint.proofs.LayoutLaws.{place-apart, place-in_block}
use Rattle.checkpoint.proofs.MomentLaws.{extends-still, extends-synced, extends-then, extends-written, throughout-still, throughout-synced, throughout-then, throughout-written}
use Rattle.checkpoint.proofs.SureLaws.{sure-left, sure-same, sure-synced, sure-written}

-- ---- nothing, one call, and one after the other

pub spares-still : (At : ℕ → Type 0) (old new : VaultState) → new ≡ old → Spares At old new
spares-still At old new same = record {
  extends = extends-still old new same;
  sure = λ byte sure. sure-same old new At byte same sure;
  throughout = λ byte sure. throughout-still old new (λ bytes. (i : ℕ) → At i → get_or bytes i 0 ≡ byte i) same (λ bytes may. sure-left old At byte bytes sure may);
}

pub spares-written : {T E : Type 0} (At : ℕ → Type 0) (r : Result T E) (place : ℕ) (bytes : List ℕ) (old new : VaultState)
    → ((i : ℕ) → At i → (i < place) ⊎ (place + length bytes ≤ i)) → IsWritten place bytes r old new → Spares At old new
spares-written {T = T} {E = E} At r place bytes old new out w = record {
  extends = extends-written {T = T} {E = E} r place bytes old new w;
  sure = λ byte sure. sure-written {T = T} {E = E} r place bytes old new At byte w out sure;
  throughout = λ byte sure. throughout-written {T = T} {E = E} r place bytes old new (λ left. (i : ℕ) → At i → get_or left i 0 ≡ byte i) w
      (λ left may. sure-left old At byte left sure may)
      (λ left may. sure-left new At byte left (sure-written {T = T} {E = E} r place bytes old new At byte w out sure) may);
}

pub spares-synced : {T E : Type 0} (At : ℕ → Type 0) (r : Result T E) (old new : VaultState) → IsSynced r old new → Spares At old new
spares-synced {T = T} {E = E} At r old new s = record {
  extends = extends-synced {T = T} {E = E} r old new s;
  sure = λ byte sure. sure-synced {T = T} {E = E} r old new At byte s sure;
  throughout = λ byte sure. throughout-synced {T = T} {E = E} r old new (λ left. (i : ℕ) → At i → get_or left i 0 ≡ byte i) s
      (λ left may. sure-left old At byte left sure may)
      (λ left may. sure-left new At byte left (sure-synced {T = T} {E = E} r old new At byte s sure) may);
}

pub spares-then : (At : ℕ → Type 0) (a b c : VaultState) → Spares At a b → Spares At b c → Spares At a c
spares-then At a b c p q = record {
  extends = extends-then a b c p.extends q.extends;
  sure = λ byte sure. q.sure byte (p.sure byte sure);
  throughout = λ byte sure. throughout-then a b c (λ left. (i : ℕ) → At i → get_or left i 0 ≡ byte i) q.extends (p.throughout byte sure) (q.throughout byte (p.sure byte sure));
}

-- the same vaults in other words
pub spares-same : (At : ℕ → Type 0) (a b c d : VaultState) → c ≡ a → d ≡ b → Spares At a b → Spares At c d
spares-same At a b c d first second p = subst (λ (s : VaultState). Spares At s d) (sym first) (subst (λ (s : VaultState). Spares At a s) (sym second) p)

-- ---- what a checkpoint leaves alone while it is written

-- a block of its own area, or a part of one
apart-area : (s b n j i : ℕ) → s < 2 → n ≤ BLOCK → i ≡ image_place (1 - s) j → (i < block_place s b) ⊎ (block_place s b + n ≤ i)
apart-area s b n j i which most is = ⊎_elim
    (λ (h : i < block_place s b). inl h)
    (λ (h : block_place s b ≤ i). ⊎_elim
    (λ (k : i < block_place s b + n). absurd (clash h k))
    (λ (k : block_place s b + n ≤ i). inr k)
    (cases_lt i (block_place s b + n)))
    (cases_lt i (block_place s b)) where
      other : (s : ℕ) → s < 2 → s ≡ 1 - s → ⊥
      other s which same = omega arith

      clash : block_place s b ≤ i → i < block_place s b + n → ⊥
      clash low high =
          let within : i - block_place s b < BLOCK = omega arith in
          let here : block_place s b + (i - block_place s b) ≡ i = omega arith in
          other s which (place-apart s (1 - s) (b * BLOCK + (i - block_place s b)) j which (omega arith) (place-in_block s b (i - block_place s b) within ∙ here ∙ is)).0

pub apart-block : (s b n : ℕ) → s < 2 → n ≤ BLOCK → (i : ℕ) → IsApart s i → (i < block_place s b) ⊎ (block_place s b + n ≤ i)
apart-block s b n which most i (inl byte) = inl (omega arith)
apart-block s b n which most i (inr (inl gate)) = inl (let low = gate.0 in let high = gate.1 in omega arith)
apart-block s b n which most i (inr (inr area)) = apart-area s b n area.0 i which most area.1

-- one after the other, of the same parity
pub apart-then : (s t : ℕ) (a b c : VaultState) → t ≡ s → Spares (IsApart s) a b → Spares (IsApart t) b c → Spares (IsApart s) a c
apart-then s t a b c same p q = spares-then (IsApart s) a b c p (subst (λ (u : ℕ). Spares (IsApart u) b c) same q)

-- a write of a block, or of a part of one
pub spares-block : {T E : Type 0} (s b : ℕ) (r : Result T E) (place : ℕ) (bytes : List ℕ) (old new : VaultState) → s < 2 → length bytes ≤ BLOCK → place ≡ block_place s b
    → IsWritten place bytes r old new → Spares (IsApart s) old new
spares-block {T = T} {E = E} s b r place bytes old new which most at w =
    spares-written {T = T} {E = E} (IsApart s) r place bytes old new (λ i apart. let out = apart-block s b (length bytes) which most i apart in subst (λ p. (i < p) ⊎ (p + length bytes ≤ i)) (sym at) out) w

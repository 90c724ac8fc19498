-- A vault that was opened: new, or as it was left.
use Rattle.std.proofs.Common.{◌≡◌, ◌<◌, ◌≤◌, ℕ, List, [], ◌∷◌, ◌++◌, Option, Result, Ok, Err, None, true, false, inl, inr, is_err, length, refl, slice_index, sym, ◌∙◌, ap, subst, arith}
use Rattle.std.proofs.lemmas.Bool.{false≢true}
use Rattle.checkpoint.specs.History.{HasSerial}
use Rattle.checkpoint.specs.Keeping.{HasSame, IsLast, serial_of}
use Rattle.checkpoint.specs.Layout.{found}
use Rattle.checkpoint.specs.Vault.{Extends, IsEmpty, IsOpened, MayLeave, Opened, Span, Throughout, VaultState, contents_after, contents_of, is_synced, unsynced_after, unsynced_of}
use Rattle.checkpoint.specs.declared.point.Point.{Point}
use Rattle.checkpoint.proofs.HistoryLaws.{keeps-still}
use Rattle.checkpoint.proofs.MomentLaws.{empty-opened, moment-all}
use Rattle.loom_guard.specs.Vaults.{HasLast, IsEmptied, IsKept, IsNew, LeavesVault, SECOND_GATE}
use Rattle.loom_guard.specs.Ways.{Guarding}

emptied-opened : {T E : Type 0} (text : List ℕ) (result : Result T E) (a b c : VaultState) → is_err result ≡ false → IsOpened true text result a b → Extends b c → (IsEmpty b → Throughout b c (λ bytes. found bytes ≡ None)) → IsEmptied a c
emptied-opened {T = T} {E = E} text (Ok x) a b c fine o extends none = elim o.calls [
  | inl opens ↦ record {
    opened = b;
    began = o.began;
    calls = opens.calls ∙ ap (λ (left : List ℕ). a.calls ++ Opened true left ∷ []) opens.empty;
    extends = extends;
    none = none (empty-opened {T = T} {E = E} text (Ok x) a b o);
  }
  | inr nothing ↦ absurd (false≢true nothing.0)
]
emptied-opened text (Err e) a b c fine o extends none = absurd (false≢true (sym fine))

-- and both gates were written
pub new-opened : {T E : Type 0} (text : List ℕ) (result : Result T E) (a b c : VaultState) → is_err result ≡ false → IsOpened true text result a b → Extends b c → (IsEmpty b → Throughout b c (λ bytes. found bytes ≡ None)) → SECOND_GATE < length (contents_of c) → IsNew a c
new-opened {T = T} {E = E} text result a b c fine o extends none gates = record { emptied = emptied-opened {T = T} {E = E} text result a b c fine o extends none; gates = gates }

module _ {T E : Type 0} (text : List ℕ) (result : Result T E) (a b c : VaultState) (o : IsOpened false text result a b) where
  pub contents-opened : contents_of b ≡ contents_of a
  contents-opened = ap (λ (began : List ℕ). contents_after began b.calls) o.began ∙ ap (contents_after a.began) o.calls

  unsynced-opened : unsynced_of b ≡ unsynced_of a
  unsynced-opened = ap (unsynced_after []) o.calls

  pub kept-opened : contents_of c ≡ contents_of b → Throughout b c (MayLeave b) → IsKept a c
  kept-opened same stops = record {
    same = same ∙ contents-opened;
    stops = λ k late bytes may i synced.
        stops k (subst (λ calls. length calls ≤ k) (sym o.calls) late) bytes may i (subst (λ (spans : List Span). is_synced spans i ≡ true) (sym unsynced-opened) synced)
        ∙ ap (λ (left : List ℕ). slice_index left i) contents-opened;
  }

-- ---- a run that went through

-- its checkpoint is the one that it had, and nothing was written since that was synced
pub has-last : (s : VaultState) (last : Option Point) (serial : ℕ) → IsLast s last → serial_of last ≡ serial → HasLast s serial
has-last s last serial is same = record {
  has = ap serial_of is.found_is ∙ same;
  outlives = λ bytes may. elim ((keeps-still s last NoImage is).leaves (length s.calls) (omega arith) bytes (subst (λ (m : VaultState). MayLeave m bytes) (sym (moment-all (length s.calls) s (omega arith))) may)) [
    | inl here ↦ only _ bytes here
    | inr next ↦ only _ bytes next
  ];
} where
  NoImage : ℕ → List ℕ → Type 0
  NoImage n image = ⊥

  only : (n : ℕ) (bytes : List ℕ) → HasSerial (contents_of s) NoImage n bytes → HasSame (contents_of s) bytes
  only n bytes (inl same) = same.1
  only n bytes (inr next) = absurd next.1.text

-- ---- a run that is refused

-- its opening failed
pub unopened : {T E : Type 0} (text : List ℕ) (result : Result T E) (a b : VaultState) → is_err result ≡ true → IsOpened true text result a b → LeavesVault Guarding a b
unopened {T = T} {E = E} text (Ok x) a b err o = absurd (false≢true err)
unopened {T = T} {E = E} text (Err e) a b err o = elim o.calls [
  | inl opens ↦ inr record { began = o.began; calls = inr (opens.left, opens.calls) }
  | inr nothing ↦ inr record { began = o.began; calls = inl nothing.1 }
]

-- it had no failure until then
pub new-left : {T E : Type 0} (text : List ℕ) (result : Result T E) (a b c : VaultState) → is_err result ≡ false → IsOpened true text result a b → Extends b c → (IsEmpty b → Throughout b c (λ bytes. found bytes ≡ None)) → LeavesVault Guarding a c
new-left {T = T} {E = E} text result a b c fine o extends none = inl (emptied-opened {T = T} {E = E} text result a b c fine o extends none)

stays : (s : VaultState) → Throughout s s (MayLeave s)
stays s k late bytes may = subst (λ (m : VaultState). MayLeave m bytes) (moment-all k s late) may

-- an opening that failed did nothing to it
pub kept-unopened : {T E : Type 0} (text : List ℕ) (result : Result T E) (a b : VaultState) → IsOpened false text result a b → IsKept a b
kept-unopened {T = T} {E = E} text result a b o = kept-opened {T = T} {E = E} text result a b b o refl (stays b)

-- as it was found
pub kept-recovered : {T E : Type 0} (text : List ℕ) (result : Result T E) (a b c : VaultState) → IsOpened false text result a b → contents_of c ≡ contents_of b → Throughout b c (MayLeave b) → IsKept a c
kept-recovered {T = T} {E = E} text result a b c o same stops = kept-opened {T = T} {E = E} text result a b c o same stops

pub kept-read : {T E : Type 0} (text : List ℕ) (result : Result T E) (a b c d : VaultState) → IsOpened false text result a b → contents_of c ≡ contents_of b → Throughout b c (MayLeave b) → d ≡ c → IsKept a d
kept-read {T = T} {E = E} text result a b c d o same stops still = subst (IsKept a) (sym still) (kept-opened {T = T} {E = E} text result a b c o same stops)

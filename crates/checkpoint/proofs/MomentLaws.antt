-- What a stop may leave, call by call. What holds of all bytes that a stop may leave before a call and behind it holds throughout it, and calls
-- are put together by `throughout-then`.
use Rattle.std.proofs.Common.{◌≡◌, inl, inr, ⊎_elim, ℕ, ◌<◌, ◌≤◌, List, [], ◌∷◌, ◌++◌, length, true, Result, Ok, Err, OnOk, refl, sym, ap, ◌∙◌, subst, append_assoc, arith}
use Rattle.std.proofs.lemmas.List.{append-nil, length_push, take_all, take-append-le}
use Rattle.std.proofs.lemmas.Bool.{cases_lt, false≢true}
use Rattle.checkpoint.specs.Vault.{Call, Span, VaultState, Extends, IsEmpty, IsOpened, IsSynced, IsWritten, MayLeave, Opened, Throughout, behind, contents_after, contents_of, left_by, moment, unsynced_after, unsynced_by, unsynced_of}

-- ---- one call more

pub contents-push : (left : List ℕ) (calls : List Call) (call : Call) → contents_after left (calls ++ call ∷ []) ≡ left_by call
contents-push left [] call = refl
contents-push left (first ∷ rest) call = contents-push (left_by first) rest call

pub unsynced-push : (spans : List Span) (calls : List Call) (call : Call) → unsynced_after spans (calls ++ call ∷ []) ≡ unsynced_by (unsynced_after spans calls) call
unsynced-push spans [] call = refl
unsynced-push spans (first ∷ rest) call = unsynced-push (unsynced_by spans first) rest call

pub contents-behind : (s : VaultState) (call : Call) → contents_of (behind s (call ∷ [])) ≡ left_by call
contents-behind s call = contents-push s.began s.calls call

pub unsynced-behind : (s : VaultState) (call : Call) → unsynced_of (behind s (call ∷ [])) ≡ unsynced_by (unsynced_of s) call
unsynced-behind s call = unsynced-push [] s.calls call

-- ---- more calls

with_calls : VaultState → List Call → VaultState
with_calls s calls = record s { calls = calls }

pub behind-none : (s : VaultState) → behind s [] ≡ s
unfolding with_calls
behind-none s = ap (with_calls s) (append-nil s.calls)

pub behind-behind : (s : VaultState) (a b : List Call) → behind (behind s a) b ≡ behind s (a ++ b)
unfolding with_calls
behind-behind s a b = ap (with_calls s) (append_assoc s.calls a b)

pub extends-still : (old new : VaultState) → new ≡ old → Extends old new
extends-still old new same = record { more = []; is = same ∙ sym (behind-none old) }

pub extends-written : {T E : Type 0} (r : Result T E) (place : ℕ) (bytes : List ℕ) (old new : VaultState) → IsWritten place bytes r old new → Extends old new
extends-written r place bytes old new (inl w) = record { more = _; is = w.is }
extends-written r place bytes old new (inr nothing) = extends-still old new nothing.1

pub extends-synced : {T E : Type 0} (r : Result T E) (old new : VaultState) → IsSynced r old new → Extends old new
extends-synced r old new (inl s) = record { more = _; is = s.is }
extends-synced r old new (inr nothing) = extends-still old new nothing.1

pub extends-then : (a b c : VaultState) → Extends a b → Extends b c → Extends a c
extends-then a b c e f = record {
  more = e.more ++ f.more;
  is = f.is ∙ ap (λ (s : VaultState). behind s f.more) e.is ∙ behind-behind a e.more f.more;
}

-- ---- moments

pub moment-all : (k : ℕ) (s : VaultState) → length s.calls ≤ k → moment k s ≡ s
unfolding with_calls
moment-all k s all = ap (with_calls s) (take_all k s.calls all)

moment-behind : (k : ℕ) (s : VaultState) (more : List Call) → k ≤ length s.calls → moment k (behind s more) ≡ moment k s
unfolding with_calls
moment-behind k s more within = ap (with_calls s) (take-append-le k s.calls more within)

-- up to where more calls came the moments are the same
pub moment-before : (k : ℕ) (old new : VaultState) → Extends old new → k ≤ length old.calls → moment k new ≡ moment k old
moment-before k old new e within = ap (moment k) e.is ∙ moment-behind k old e.more within

-- ---- from one moment to another

pub throughout-still : (old new : VaultState) (P : List ℕ → Type 0) → new ≡ old → ((bytes : List ℕ) → MayLeave old bytes → P bytes) → Throughout old new P
throughout-still old new P same holds = λ k late bytes may.
    holds bytes (subst (λ (s : VaultState). MayLeave s bytes) (ap (moment k) same ∙ moment-all k old late) may)

-- one call: what holds before it and behind it
throughout-call : (old new : VaultState) (call : Call) (P : List ℕ → Type 0) → new ≡ behind old (call ∷ [])
    → ((bytes : List ℕ) → MayLeave old bytes → P bytes) → ((bytes : List ℕ) → MayLeave new bytes → P bytes) → Throughout old new P
throughout-call old new call P is before after = λ k late bytes may. ⊎_elim
    (λ (h : length old.calls < k). after bytes (subst (λ (s : VaultState). MayLeave s bytes)
    (moment-all k new (let long = ap (λ (s : VaultState). length s.calls) is ∙ length_push old.calls call in omega arith)) may))
    (λ (h : k ≤ length old.calls). before bytes (subst (λ (s : VaultState). MayLeave s bytes)
    (ap (moment k) is ∙ moment-behind k old (call ∷ []) h ∙ moment-all k old late) may))
    (cases_lt (length old.calls) k)

pub throughout-written : {T E : Type 0} (r : Result T E) (place : ℕ) (bytes : List ℕ) (old new : VaultState) (P : List ℕ → Type 0) → IsWritten place bytes r old new
    → ((bytes : List ℕ) → MayLeave old bytes → P bytes) → ((bytes : List ℕ) → MayLeave new bytes → P bytes) → Throughout old new P
throughout-written r place bytes old new P (inl w) before after = throughout-call old new _ P w.is before after
throughout-written r place bytes old new P (inr nothing) before after = throughout-still old new P nothing.1 before

pub throughout-synced : {T E : Type 0} (r : Result T E) (old new : VaultState) (P : List ℕ → Type 0) → IsSynced r old new
    → ((bytes : List ℕ) → MayLeave old bytes → P bytes) → ((bytes : List ℕ) → MayLeave new bytes → P bytes) → Throughout old new P
throughout-synced r old new P (inl s) before after = throughout-call old new _ P s.is before after
throughout-synced r old new P (inr nothing) before after = throughout-still old new P nothing.1 before

pub throughout-then : (a b c : VaultState) (P : List ℕ → Type 0) → Extends b c → Throughout a b P → Throughout b c P → Throughout a c P
throughout-then a b c P e first second = λ k late bytes may. ⊎_elim
    (λ (h : length b.calls < k). second k (omega arith) bytes may)
    (λ (h : k ≤ length b.calls). first k late bytes (subst (λ (s : VaultState). MayLeave s bytes) (moment-before k b c e h) may))
    (cases_lt (length b.calls) k)

-- what follows from what holds throughout
pub throughout-gives : (a b : VaultState) (P Q : List ℕ → Type 0) → ((bytes : List ℕ) → P bytes → Q bytes) → Throughout a b P → Throughout a b Q
throughout-gives a b P Q gives all = λ k late bytes may. gives bytes (all k late bytes may)

-- ---- where all is synced

-- a fresh opening that answered Ok leaves nothing, and nothing that a stop could bring back
pub empty-opened : {T E : Type 0} (text : List ℕ) (result : Result T E) (old new : VaultState) → IsOpened true text result old new → OnOk result (IsEmpty new)
empty-opened text (Err e) old new o = tt
empty-opened text (Ok x) old new o = elim o.calls [
  | inl opens ↦ record {
    contents = ap (contents_after new.began) opens.calls ∙ contents-push new.began old.calls (Opened true opens.left) ∙ opens.empty;
    synced = ap (unsynced_after []) opens.calls ∙ unsynced-push [] old.calls (Opened true opens.left);
  }
  | inr nothing ↦ absurd (false≢true nothing.0)
]

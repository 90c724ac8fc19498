-- The calls that are noted, as pieces join those that stand already.
use Rattle.std.proofs.Common.{◌≡◌, ℕ, ◌+◌, ◌≤◌, max, Bool, true, false, cond, List, [], ◌∷◌, ◌++◌, length, take, drop, refl, ap, ◌∙◌, arith, length-append, length-drop}
use Rattle.std.proofs.Math.Seq.{drop-append_seam, take-length}
use Rattle.std.proofs.lemmas.List.{drop-append-le, take-append-le}
use Rattle.loom_host.specs.Bytes.{overwritten}
use Rattle.checkpoint.specs.Noted.{call_by, calls_from, reach, reach_of}
use Rattle.checkpoint.specs.Vault.{Call, Written, left_by}
use Rattle.checkpoint.specs.declared.noted.Noted.{Noted}
use Rattle.checkpoint.specs.declared.noted.Noted.TheVariants as noted

piece-kept : (pieces more : List ℕ) (from len : ℕ) → from + len ≤ length pieces → take len (drop from (pieces ++ more)) ≡ take len (drop from pieces)
piece-kept pieces more from len within =
    ap (take len) (drop-append-le from pieces more (omega arith)) ∙ take-append-le len (drop from pieces) more (omega (arith, length-drop from pieces))

call-kept : (pieces more bytes : List ℕ) (call : Noted) → reach_of call ≤ length pieces → call_by (pieces ++ more) bytes call ≡ call_by pieces bytes call
call-kept pieces more bytes noted.Opened within = refl
call-kept pieces more bytes (noted.Written place from len) within = ap (λ (l : List ℕ). Written true place len (overwritten bytes place l)) (piece-kept pieces more from len within)
call-kept pieces more bytes (noted.Failed range) within = refl
call-kept pieces more bytes noted.Synced within = refl

pub calls-kept : (pieces more bytes : List ℕ) (calls : List Noted) → reach calls ≤ length pieces → calls_from (pieces ++ more) bytes calls ≡ calls_from pieces bytes calls
calls-kept pieces more bytes [] within = refl
calls-kept pieces more bytes (call ∷ calls) within =
    ap (λ (t : Call). t ∷ calls_from (pieces ++ more) (left_by t) calls) (call-kept pieces more bytes call (omega arith))
    ∙ ap (λ (l : List Call). call_by pieces bytes call ∷ l) (calls-kept pieces more (left_by (call_by pieces bytes call)) calls (omega arith))

-- one call more
pub reach-push : (calls : List Noted) (call : Noted) → reach (calls ++ call ∷ []) ≡ max (reach calls) (reach_of call)
reach-push [] call = omega arith
reach-push (first ∷ rest) call = let tail = reach-push rest call in omega arith

pub within-push : (n : ℕ) (calls more : List Noted) (call : Noted) → reach calls ≤ n → more ≡ calls ++ call ∷ [] → reach_of call ≤ n → reach more ≤ n
within-push n calls more call within is last = let all : reach more ≡ max (reach calls) (reach_of call) = ap reach is ∙ reach-push calls call in omega arith

-- the piece that joined is found behind them
pub piece-joined : (pieces piece : List ℕ) → take (length piece) (drop (length pieces) (pieces ++ piece)) ≡ piece
piece-joined pieces piece = ap (take (length piece)) (drop-append_seam pieces piece) ∙ take-length piece

-- a piece that may have joined leaves what is told
pub calls-joined : (pieces now : List ℕ) (bytes : List ℕ) (calls : List Noted) (piece : List ℕ) (ok : Bool) → reach calls ≤ length pieces → now ≡ cond ok (pieces ++ piece) pieces → calls_from now bytes calls ≡ calls_from pieces bytes calls
calls-joined pieces now bytes calls piece true within is = ap (λ (l : List ℕ). calls_from l bytes calls) is ∙ calls-kept pieces piece bytes calls within
calls-joined pieces now bytes calls piece false within is = ap (λ (l : List ℕ). calls_from l bytes calls) is

pub reach-joined : (pieces now : List ℕ) (calls : List Noted) (piece : List ℕ) (ok : Bool) → reach calls ≤ length pieces → now ≡ cond ok (pieces ++ piece) pieces → reach calls ≤ length now
reach-joined pieces now calls piece true within is = let long : length now ≡ length (pieces ++ piece) = ap length is in omega (arith, length-append pieces piece)
reach-joined pieces now calls piece false within is = let long : length now ≡ length pieces = ap length is in omega arith

-- What is told, as one call more is noted.
use Rattle.std.proofs.Common.{◌≡◌, ℕ, zero, suc, inl, inr, ◌+◌, ◌-◌, ◌<◌, min, Bool, true, not, cond, List, [], ◌∷◌, ◌++◌, length, map, get_or, take, drop, reverse, None, refl, sym, ap, ◌∙◌, arith}
use Rattle.std.proofs.lemmas.Bool.{and_parts, and_from}
use Rattle.std.proofs.lemmas.List.{get_or_past, length-drop, length-map, length-reverse, map-append, reverse-append, take-append-drop, take_at, take_more, take_rest}
use Rattle.loom_host.specs.Bytes.{overwritten}
use Rattle.checkpoint.specs.Noted.{began_of, call_by, calls_from, run_of, spans}
use Rattle.checkpoint.specs.Torn.{but_first, torn}
use Rattle.checkpoint.specs.Vault.{Call, Written, Span, VaultState, MayLeave, behind, contents_after, contents_of, is_in, is_synced, left_by, unsynced_after, unsynced_by, unsynced_of}
use Rattle.checkpoint.specs.declared.noted.Noted.{Noted}
use Rattle.checkpoint.specs.declared.noted.Range.{Range}
use Rattle.checkpoint.proofs.Losses.{get_or-torn, length-torn, torn-more}
use Rattle.checkpoint.proofs.MomentLaws.{contents-push, unsynced-push}
use Rattle.loom_host.proofs.Windows.{below_or_past}

abbrev pub state_with : List ℕ → List ℕ → List ℕ → List Noted → VaultState
state_with pieces bytes began noted = record { openings = 0; name = None; began = began_of bytes began noted; calls = calls_from pieces began noted }

pub state-told : (now pieces bytes began : List ℕ) (noted : List Noted) → calls_from now began noted ≡ calls_from pieces began noted → state_with now bytes began noted ≡ state_with pieces bytes began noted
state-told now pieces bytes began noted told = ap (λ (l : List Call). record { openings = 0; name = None; began = began_of bytes began noted; calls = l }) told

calls-push : (pieces : List ℕ) (w : List ℕ) (noted : List Noted) (call : Noted) → calls_from pieces w (noted ++ call ∷ []) ≡ calls_from pieces w noted ++ call_by pieces (contents_after w (calls_from pieces w noted)) call ∷ []
calls-push pieces w [] call = refl
calls-push pieces w (first ∷ rest) call = ap (λ (l : List Call). call_by pieces w first ∷ l) (calls-push pieces (left_by (call_by pieces w first)) rest call)

began-push : (bytes began : List ℕ) (noted : List Noted) (call : Noted) → began_of bytes began (noted ++ call ∷ []) ≡ began
began-push bytes began [] call = refl
began-push bytes began (first ∷ rest) call = refl

-- the contents before the next call
held-now : (pieces : List ℕ) (bytes began : List ℕ) (noted : List Noted) → began_of bytes began noted ≡ began → bytes ≡ contents_after (began_of bytes began noted) (calls_from pieces began noted) → contents_after began (calls_from pieces began noted) ≡ bytes
held-now pieces bytes began noted kept held = sym (held ∙ ap (λ (l : List ℕ). contents_after l (calls_from pieces began noted)) kept)

calls-more : (pieces : List ℕ) (bytes began : List ℕ) (noted more : List Noted) (call : Noted) → began_of bytes began noted ≡ began → bytes ≡ contents_after (began_of bytes began noted) (calls_from pieces began noted) → more ≡ noted ++ call ∷ []
    → calls_from pieces began more ≡ calls_from pieces began noted ++ call_by pieces bytes call ∷ []
calls-more pieces bytes began noted more call kept held is =
    ap (calls_from pieces began) is ∙ calls-push pieces began noted call ∙ ap (λ (l : List ℕ). calls_from pieces began noted ++ call_by pieces l call ∷ []) (held-now pieces bytes began noted kept held)

began-more : (bytes began : List ℕ) (noted more : List Noted) (call : Noted) → more ≡ noted ++ call ∷ [] → began_of bytes began more ≡ began
began-more bytes began noted more call is = ap (began_of bytes began) is ∙ began-push bytes began noted call

pub held-more : (pieces : List ℕ) (bytes began after : List ℕ) (noted more : List Noted) (call : Noted) → began_of bytes began noted ≡ began → bytes ≡ contents_after (began_of bytes began noted) (calls_from pieces began noted) → more ≡ noted ++ call ∷ []
    → after ≡ left_by (call_by pieces bytes call) → after ≡ contents_after (began_of after began more) (calls_from pieces began more)
held-more pieces bytes began after noted more call kept held is left =
    left ∙ sym (contents-push began (calls_from pieces began noted) (call_by pieces bytes call))
    ∙ ap (contents_after began) (sym (calls-more pieces bytes began noted more call kept held is))
    ∙ ap (λ (l : List ℕ). contents_after l (calls_from pieces began more)) (sym (began-more after began noted more call is))

pub ranges-more : (pieces : List ℕ) (bytes began : List ℕ) (noted more : List Noted) (call : Noted) (now after : List Span) → began_of bytes began noted ≡ began → bytes ≡ contents_after (began_of bytes began noted) (calls_from pieces began noted)
    → more ≡ noted ++ call ∷ [] → unsynced_after [] (calls_from pieces began noted) ≡ now → unsynced_by now (call_by pieces bytes call) ≡ after → unsynced_after [] (calls_from pieces began more) ≡ after
ranges-more pieces bytes began noted more call now after kept held is ranges next =
    ap (unsynced_after []) (calls-more pieces bytes began noted more call kept held is) ∙ unsynced-push [] (calls_from pieces began noted) (call_by pieces bytes call)
    ∙ ap (λ (l : List Span). unsynced_by l (call_by pieces bytes call)) ranges ∙ next

abbrev pub with_both : VaultState → List ℕ → List Call → VaultState
with_both s began calls = record s { began = began; calls = calls }

pub state-more : (pieces : List ℕ) (bytes began after : List ℕ) (noted more : List Noted) (call : Noted) (old : VaultState) (told : Call) → began_of bytes began noted ≡ began
    → bytes ≡ contents_after (began_of bytes began noted) (calls_from pieces began noted) → more ≡ noted ++ call ∷ [] → state_with pieces bytes began noted ≡ old → call_by pieces bytes call ≡ told
    → state_with pieces after began more ≡ behind old (told ∷ [])
state-more pieces bytes began after noted more call old told kept held is same as_told =
    ap (λ (l : List ℕ). with_both (state_with pieces bytes began noted) l (calls_from pieces began more)) (began-more after began noted more call is ∙ sym kept)
    ∙ ap (λ (l : List Call). with_both (state_with pieces bytes began noted) (began_of bytes began noted) l) (calls-more pieces bytes began noted more call kept held is)
    ∙ ap (λ (s : VaultState). behind s (call_by pieces bytes call ∷ [])) same ∙ ap (λ (t : Call). behind old (t ∷ [])) as_told

-- the contents are those that are told
pub contents-told : (pieces : List ℕ) (bytes began : List ℕ) (noted : List Noted) (old : VaultState) → bytes ≡ contents_after (began_of bytes began noted) (calls_from pieces began noted) → state_with pieces bytes began noted ≡ old → bytes ≡ contents_of old
contents-told pieces bytes began noted old held same = held ∙ ap contents_of same

pub written-told : (bytes now piece copy : List ℕ) (place len : ℕ) → copy ≡ piece → bytes ≡ now → Written true place len (overwritten bytes place copy) ≡ Written true place len (overwritten now place piece)
written-told bytes now piece copy place len same held =
    ap (λ (l : List ℕ). Written true place len (overwritten bytes place l)) same ∙ ap (λ (l : List ℕ). Written true place len (overwritten l place piece)) held

pub spans-push : (ranges more : List Range) (range : Range) → more ≡ ranges ++ range ∷ [] → run_of range ∷ spans ranges ≡ spans more
spans-push ranges more range is = sym (ap spans is ∙ ap reverse (map-append run_of ranges (range ∷ [])) ∙ reverse-append (map run_of ranges) (run_of range ∷ []))

-- ---- a stop

length-spans : (ranges : List Range) → length (spans ranges) ≡ length ranges
length-spans ranges = length-reverse (map run_of ranges) ∙ length-map ranges run_of

spans-append : (a b : List Range) → spans (a ++ b) ≡ spans b ++ spans a
spans-append a b = ap reverse (map-append run_of a b) ∙ reverse-append (map run_of a) (map run_of b)

pub spans-but_first : (ranges : List Range) (kept first : ℕ) → first ≡ min kept (length ranges) → spans (drop first ranges) ≡ but_first kept (spans ranges)
spans-but_first ranges kept first is =
    let long : length (spans (drop first ranges)) ≡ length (spans ranges) - kept = omega (arith, length-spans (drop first ranges), length-spans ranges, length-drop first ranges) in
    sym (ap (take (length (spans ranges) - kept)) (ap spans (sym (take-append-drop first ranges)) ∙ spans-append (take first ranges) (drop first ranges))
    ∙ take_at (spans (drop first ranges)) (spans (take first ranges)) (length (spans ranges) - kept) long)

synced-taken : (n i : ℕ) (all : List Span) → is_synced all i ≡ true → is_synced (take n all) i ≡ true
synced-taken zero i all synced = refl
synced-taken (suc n) i [] synced = refl
synced-taken (suc n) i (span ∷ rest) synced =
    let both = and_parts (not (is_in i span)) (is_synced rest i) synced in
    and_from (not (is_in i span)) (is_synced (take n rest) i) both.0 (synced-taken n i rest both.1)

-- what it leaves is what a stop may leave
pub torn-may : (s : VaultState) (kept fill : ℕ) → MayLeave s (torn (but_first kept (unsynced_of s)) fill (contents_of s))
torn-may s kept fill i synced = elim (below_or_past i (length (contents_of s))) [
  | inl below ↦ get_or-torn (but_first kept (unsynced_of s)) fill (contents_of s) i below
      ∙ ap (λ (b : Bool). cond b (get_or (contents_of s) i 0) fill) (synced-taken (length (unsynced_of s) - kept) i (unsynced_of s) synced)
  | inr past ↦ get_or_past (torn (but_first kept (unsynced_of s)) fill (contents_of s)) i 0 (let long = length-torn (but_first kept (unsynced_of s)) fill (contents_of s) in omega arith)
      ∙ sym (get_or_past (contents_of s) i 0 past)
]

-- one range more is lost
pub lose-step : (ranges : List Range) (i : ℕ) (default : Range) (fill : ℕ) (w v u : List ℕ) → i < length ranges → v ≡ torn (spans (take i ranges)) fill w
    → u ≡ torn (run_of (get_or ranges i default) ∷ []) fill v → u ≡ torn (spans (take (i + 1) ranges)) fill w
lose-step ranges i default fill w v u within so_far is =
    is ∙ ap (torn (run_of (get_or ranges i default) ∷ []) fill) so_far ∙ torn-more (run_of (get_or ranges i default)) (spans (take i ranges)) fill w
    ∙ ap (λ (l : List Span). torn l fill w) (spans-push (take i ranges) (take (i + 1) ranges) (get_or ranges i default) (take_more ranges i default within))

-- a stop, by what was copied and lent on the way
pub stop-state : (pieces pieces' : List ℕ) (began bytes b after now : List ℕ) (noted none : List Noted) (ranges lent : List Range) (kept first fill : ℕ) → none ≡ [] → now ≡ after
    → after ≡ torn (spans (take (length lent - first) (drop first lent))) fill b → b ≡ bytes → lent ≡ ranges → first ≡ min kept (length ranges)
    → bytes ≡ contents_after (began_of bytes began noted) (calls_from pieces began noted) → unsynced_after [] (calls_from pieces began noted) ≡ spans ranges
    → state_with pieces' now began none
    ≡ with_both (state_with pieces bytes began noted) (torn (but_first kept (unsynced_of (state_with pieces bytes began noted))) fill (contents_of (state_with pieces bytes began noted))) []
stop-state pieces pieces' began bytes b after now noted none ranges lent kept first fill cleared is lost copied lends at held unsynced =
    let tail : spans (take (length lent - first) (drop first lent)) ≡ but_first kept (unsynced_of (state_with pieces bytes began noted)) =
    ap spans (take_rest lent first) ∙ ap (λ (l : List Range). spans (drop first l)) lends ∙ spans-but_first ranges kept first at ∙ ap (but_first kept) (sym unsynced) in
    ap (state_with pieces' now began) cleared
    ∙ ap (λ (l : List ℕ). state_with pieces' l began [])
    (is ∙ lost ∙ ap (λ (l : List Span). torn l fill b) tail ∙ ap (torn (but_first kept (unsynced_of (state_with pieces bytes began noted))) fill) (copied ∙ held))

pub stopped-may : (old new : VaultState) (kept fill : ℕ) → new ≡ with_both old (torn (but_first kept (unsynced_of old)) fill (contents_of old)) [] → MayLeave old (contents_of new)
stopped-may old new kept fill is i synced = ap (λ (s : VaultState). get_or (contents_of s) i 0) is ∙ torn-may old kept fill i synced

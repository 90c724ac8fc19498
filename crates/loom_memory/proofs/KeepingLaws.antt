-- Calls that leave the method cache as it was: what they store into, or what goes, isn't marked.
use Rattle.std.proofs.Common.{◌≡◌, ◌⊎◌, ℕ, Bool, false, sym, ◌∙◌, ap, subst, Result, Ok, Err, ⊎_elim}
use Rattle.std.specs.Result.{OnOk}
use Rattle.long_names.specs.declared.value.Value.{Value}
use Rattle.long_names.specs.State.{name_at, IsRef}
use Rattle.loom_host.specs.declared.outside.Host.{Ghosts}
use Rattle.object_memory.specs.declared.fault.MemFault.{MemFault}
use Rattle.object_memory.specs.Told.{Told, Cache}
use Rattle.core_view.specs.Counts.{marked_of}
use Rattle.core_view.specs.Kept.{IsCore}
use Rattle.leaf_lambda.specs.Parts.{core_of}
use Rattle.method_cache.specs.Found.{found}
use Rattle.purger.specs.Marks.{KeepsMarks}
use Rattle.purger.proofs.MarkLaws.{marked-at}
use Rattle.loom_memory.specs.declared.memory.LoomMemory.{LoomMemory}
use Rattle.loom_memory.specs.Cache.{cache_of}
use Rattle.loom_memory.specs.Makings.{HasThinned}
use Rattle.loom_memory.specs.Memory.{loom_told, word_in, IsSound}
use Rattle.loom_memory.specs.Gentle.{IsQuiet}
use Rattle.loom_memory.specs.Own.{HasSpace, IsAtHand, IsUnmarked}
use Rattle.loom_memory.specs.Gentle.{KeepsCache}
use Rattle.loom_memory.proofs.CacheLaws.{cache-same}
use Rattle.loom_memory.proofs.GentleLaws.{entry-at}

-- the entry of a register whose object isn't marked
pub flag-off : {H : Type 0} (host : Ghosts H) (m : LoomMemory H host) (of s : ℕ) → IsSound host m → IsRef ((loom_told host m).regs of) → s ≡ word_in m.regs of → IsUnmarked host m (name_at ((loom_told host m).regs of)) → ((core_of m.pager.levels.parts).entries s).flags.marked ≡ false
unfolding loom_told
flag-off {H} host m of s sound ref same off =
    let it = entry-at host m of s sound ref same in
    sym (marked-at (core_of m.pager.levels.parts) s m.pager.levels.whole.parts.core it.used) ∙ ap (λ (v : Value). marked_of (core_of m.pager.levels.parts) (name_at v)) (sym it.name) ∙ off

-- and counts differ
pub counts-keep : {H : Type 0} (host : Ghosts H) (m n : LoomMemory H host) → IsSound host m → IsCore (core_of n.pager.levels.parts) → KeepsMarks (core_of m.pager.levels.parts) (core_of n.pager.levels.parts) → n.ledger.rows ≡ m.ledger.rows → n.ledger.mark ≡ m.ledger.mark → n.ledger.begun ≡ m.ledger.begun → KeepsCache host m n
unfolding loom_told
counts-keep {H} host m n sound core keeps rows mark begun =
    ap (λ r. cache_of (core_of n.pager.levels.parts) (found r) n.ledger.mark n.ledger.begun) rows
    ∙ ap (λ (k : ℕ). cache_of (core_of n.pager.levels.parts) (found m.ledger.rows) k n.ledger.begun) mark
    ∙ ap (λ (b : Bool). cache_of (core_of n.pager.levels.parts) (found m.ledger.rows) m.ledger.mark b) begun
    ∙ cache-same (core_of m.pager.levels.parts) (core_of n.pager.levels.parts) (found m.ledger.rows) m.ledger.mark m.ledger.begun m.pager.levels.whole.parts.core core keeps sound.kept.cached

-- it was opened to be stored into
pub opened-keeps : {H P : Type 0} (host : Ghosts H) (m u v : LoomMemory H host) (of s : ℕ) → IsSound host u → HasThinned (loom_told host m) (loom_told host u) → IsRef ((loom_told host m).regs of) → s ≡ word_in u.regs of → (P → KeepsCache host m u) → (((core_of u.pager.levels.parts).entries s).flags.marked ≡ false → v ≡ u)
    → P → IsUnmarked host m (name_at ((loom_told host m).regs of)) → KeepsCache host m v
opened-keeps {H} {P} host m u v of s sound thin ref word first last = λ p off.
    let same = first p in
    let regs : (loom_told host u).regs of ≡ (loom_told host m).regs of = ap (λ (z : Told). z.regs of) thin.same in
    let now : IsUnmarked host u (name_at ((loom_told host u).regs of)) = ap (λ (z : Cache). z.marks (name_at ((loom_told host u).regs of))) same ∙ ap (λ (x : Value). (loom_told host m).cache.marks (name_at x)) regs ∙ off in
    let idle = last (flag-off host u of s sound (subst IsRef (sym regs) ref) word now) in
    ap (λ (z : LoomMemory H host). (loom_told host z).cache) idle ∙ same

pub then-keeps : {T H P Q : Type 0} (r : Result T MemFault) (host : Ghosts H) (m u v : LoomMemory H host) → (P → Q → KeepsCache host m u) → OnOk r (KeepsCache host u v) → OnOk r (P → Q → KeepsCache host m v)
then-keeps {T} {H} {P} {Q} (Ok x) host m u v first last = λ p q. last ∙ first p q
then-keeps {T} {H} {P} {Q} (Err f) host m u v first last = tt

-- of a field that isn't at hand
pub other-keeps : {T H : Type 0} (r : Result T MemFault) (host : Ghosts H) (m v : LoomMemory H host) (n i : ℕ) → (IsAtHand m n i → ⊥) → OnOk r (HasSpace host m n → IsUnmarked host m n → KeepsCache host m v) → OnOk r (IsAtHand m n i ⊎ HasSpace host m n → IsUnmarked host m n → KeepsCache host m v)
other-keeps {T} {H} (Ok x) host m v n i none keeps = λ either off. ⊎_elim (λ (h : IsAtHand m n i). absurd (none h)) (λ (space : HasSpace host m n). keeps space off) either
other-keeps {T} {H} (Err f) host m v n i none keeps = tt

pub room-keeps : {T H P : Type 0} (r : Result T MemFault) (host : Ghosts H) (m u v : LoomMemory H host) → (P → KeepsCache host m u) → OnOk r (KeepsCache host u v) → OnOk r (P → KeepsCache host m v)
room-keeps {T} {H} {P} (Ok x) host m u v first last = λ p. last ∙ first p
room-keeps {T} {H} {P} (Err f) host m u v first last = tt

-- ---- two objects that leave

pub both-keep : {T H : Type 0} (r : Result T MemFault) (host : Ghosts H) (m u v w : LoomMemory H host) (b : ℕ) → IsQuiet (loom_told host m) (loom_told host u) → (P : Type 0) → (P → KeepsCache host m u) → (IsUnmarked host u (name_at ((loom_told host u).regs b)) → KeepsCache host u v) → OnOk r (KeepsCache host v w)
    → OnOk r (P → IsUnmarked host m (name_at ((loom_told host m).regs b)) → KeepsCache host m w)
both-keep {T} {H} (Ok x) host m u v w b quiet P first second last = λ p off.
    let same = first p in
    let regs : (loom_told host u).regs b ≡ (loom_told host m).regs b = ap (λ (z : Told). z.regs b) quiet.same in
    last ∙ second (ap (λ (z : Cache). z.marks (name_at ((loom_told host u).regs b))) same ∙ ap (λ (x : Value). (loom_told host m).cache.marks (name_at x)) regs ∙ off) ∙ same
both-keep {T} {H} (Err f) host m u v w b quiet P first second last = tt

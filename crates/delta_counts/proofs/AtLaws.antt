-- Parts and a disk that stand for levels, when a count is lowered.
use Rattle.std.proofs.Common.{◌≡◌, ℕ, ◌+ℤ◌, true, List, Option, Some, None, sym, ◌∙◌, ap, subst}
use Rattle.std.specs.Prelude.{negsuc}
use Rattle.loom_host.specs.declared.outside.Host.{Ghosts}
use Rattle.disk_objects.specs.declared.rest.DiskRest.{DiskRest}
use Rattle.object_table.specs.declared.entry.Entry.{Entry}
use Rattle.object_table.specs.Entries.{is_used}
use Rattle.object_table.specs.Table.{entry_at}
use Rattle.core_segment.specs.Chunks.{Chunk}
use Rattle.core_view.specs.Core.{Core}
use Rattle.resident_table.specs.Resident.{short_of}
use Rattle.resident_table.specs.declared.Parts2.{Parts2}
use Rattle.core_view.specs.Levels.{Stored, Levels}
use Rattle.core_view.specs.LevelSteps.{changed_at, lowered_by, lowered}
use Rattle.delta_counts.specs.Parts.{core_with, IsNames, IsChange}
use Rattle.delta_counts.specs.At.{IsStoredAt, IsAt, can_lower, CanLower}
use Rattle.core_view.specs.Dead.{HasCount}

pub found-used : (p : Parts2) (n s : ℕ) → IsNames p → Some s ≡ short_of p.resident n → is_used (entry_at p.table s).state ≡ true
unfolding core_with
found-used p n s names e = names.1.used n s (sym e)

pub find-is : {H : Type 0} (host : Ghosts H) (chunks : ℕ → Chunk) (p : Parts2) (now : H) (rest : DiskRest) (t : Levels) (n : ℕ) → IsAt host chunks p now rest t → t.core.find n ≡ short_of p.resident n
unfolding core_with
find-is host chunks p now rest t n at = ap (λ (c : Core). c.find n) (sym at.core)

pub entry-is : {H : Type 0} (host : Ghosts H) (chunks : ℕ → Chunk) (p : Parts2) (now : H) (rest : DiskRest) (t : Levels) (s : ℕ) → IsAt host chunks p now rest t → t.core.entries s ≡ entry_at p.table s
unfolding core_with
entry-is host chunks p now rest t s at = ap (λ (c : Core). c.entries s) (sym at.core)

pub can-stored : {H : Type 0} (host : Ghosts H) (p : Parts2) (now : H) (rest : DiskRest) (n : ℕ) → None ≡ short_of p.resident n → ((chunks : ℕ → Chunk) × (t : Levels) × IsAt host chunks p now rest t × CanLower n t)
    → (stored : ℕ → Option Stored) × (pending : List ℕ) × IsStoredAt host now rest stored pending × HasCount stored pending n
can-stored host p now rest n e x = (x.1.stored, x.1.pending, x.2.disk, subst (λ o. can_lower x.1 n o) (find-is host x.0 p now rest x.1 n x.2 ∙ sym e) x.3)

pub lowered-some : {H : Type 0} (host : Ghosts H) (chunks : ℕ → Chunk) (p new : Parts2) (now : H) (rest : DiskRest) (t : Levels) (n s : ℕ) → Some s ≡ short_of p.resident n → IsAt host chunks p now rest t → CanLower n t
    → (IsChange ((entry_at p.table s).change +ℤ negsuc 0) → core_with chunks new ≡ changed_at (core_with chunks p) s ((entry_at p.table s).change +ℤ negsuc 0))
    → IsAt host chunks new now rest (lowered t n)
lowered-some host chunks p new now rest t n s e at can f = subst (λ o. IsAt host chunks new now rest (lowered_by t n o)) (sym found) (record {
  core = f (subst (λ z. IsChange (z +ℤ negsuc 0)) entry (subst (λ o. can_lower t n o) found can)) ∙ ap (λ (c : Core). changed_at c s ((entry_at p.table s).change +ℤ negsuc 0)) at.core ∙ ap (λ z. changed_at t.core s (z +ℤ negsuc 0)) (sym entry);
  disk = at.disk;
})
  where
    found : t.core.find n ≡ Some s
    found = find-is host chunks p now rest t n at ∙ sym e

    entry : (t.core.entries s).change ≡ (entry_at p.table s).change
    entry = ap (λ (x : Entry). x.change) (entry-is host chunks p now rest t s at)

pub lowered-none : {H : Type 0} (host : Ghosts H) (chunks : ℕ → Chunk) (p : Parts2) (was now : H) (before rest : DiskRest) (t : Levels) (n : ℕ) → None ≡ short_of p.resident n → (at : IsAt host chunks p was before t) → CanLower n t
    → ((can : HasCount t.stored t.pending n) → IsStoredAt host now rest (lowered_by t n None).stored (lowered_by t n None).pending)
    → IsAt host chunks p now rest (lowered t n)
lowered-none host chunks p was now before rest t n e at can f = subst (λ o. IsAt host chunks p now rest (lowered_by t n o)) (sym found) (record { core = at.core; disk = f (subst (λ o. can_lower t n o) found can) })
  where
    found : t.core.find n ≡ None
    found = find-is host chunks p was before t n at ∙ sym e

-- Entries whose changes of counts differ, or their references.
use Rattle.std.proofs.Common.{◌≡◌, ℕ, ℤ, ◌+◌, ◌-◌, ◌*◌, ◌<◌, true, refl, sym, ◌∙◌, ap, subst}
use Rattle.object_table.specs.declared.entry.Entry.{Entry}
use Rattle.object_table.specs.Entries.{put, is_short, is_used}
use Rattle.object_table.specs.Table.{entry_at, bound_of, entries_of, free_of}
use Rattle.core_segment.specs.Chunks.{Chunk}
use Rattle.core_view.specs.Core.{Core}
use Rattle.core_view.specs.Counts.{outside}
use Rattle.core_view.specs.Kept.{IsCore, Keeps}
use Rattle.core_view.proofs.Entries.{at-entry}
use Rattle.core_view.proofs.Steps.{Stays-refl, Stays-trans}
use Rattle.resident_table.specs.Resident.{short_of}
use Rattle.resident_table.specs.declared.Parts2.{Parts2}
use Rattle.core_view.specs.LevelSteps.{with_change, changed_at}
use Rattle.core_view.proofs.ChangeLaws.{change-core, change-backed, change-held, change-outside}
use Rattle.delta_counts.specs.Parts.{core_with, IsNames, IsCounting}

pub names-short : (p : Parts2) (s : ℕ) → IsNames p → is_used (entry_at p.table s).state ≡ true → is_short s ≡ true
unfolding core_with
names-short p s names used = names.1.short s used

pub names-within : (p : Parts2) (s : ℕ) → IsNames p → is_used (entry_at p.table s).state ≡ true → s < bound_of p.table
unfolding core_with
names-within p s names used = names.1.within s used

pub set-core : (p now : Parts2) (s : ℕ) (x : ℤ) (chunks : ℕ → Chunk) → entry_at now.table ≡ put (entry_at p.table) s (with_change (entry_at p.table s) x) → entries_of now.table ≡ entries_of p.table → now.resident ≡ p.resident
    → core_with chunks now ≡ changed_at (core_with chunks p) s x
unfolding core_with
set-core p now s x chunks entries size resident = λ i. record { entries = entries i; find = short_of (resident i); chunks = chunks; bound = 2 * size i + 2 }

pub set-counting : (p now : Parts2) (s : ℕ) (x : ℤ) → IsNames p → is_used (entry_at p.table s).state ≡ true → entry_at now.table ≡ put (entry_at p.table) s (with_change (entry_at p.table s) x)
    → entries_of now.table ≡ entries_of p.table → free_of now.table ≡ free_of p.table → now.resident ≡ p.resident → IsCounting p now
unfolding core_with
set-counting p now s x names used entries size free resident = record {
  core = λ chunks core. subst (λ (c : Core). IsCore c) (sym (is chunks)) (change-core (core_with chunks p) s x core used);
  stays = λ chunks core disk backed. subst (λ (c : Core). Keeps disk (core_with chunks p) c) (sym (is chunks)) (record { backed = change-backed (core_with chunks p) disk s x core backed used; held = change-held (core_with chunks p) disk s x core used });
  outside = λ chunks core t. ap (λ (c : Core). outside c t) (is chunks) ∙ change-outside (core_with chunks p) s x t core used;
  entries = λ q. subst (λ (f : ℕ → Entry). f q ≡ with_change (entry_at p.table q) (f q).change) (sym entries) (at-entry (entry_at p.table) s (with_change (entry_at p.table s) x) (λ r e. e ≡ with_change (entry_at p.table r) e.change) refl (λ r away. refl) q);
  resident = resident;
  bound = ap (λ (n : ℕ). 2 * n + 2) size;
  free = free;
}
  where
    is : (chunks : ℕ → Chunk) → core_with chunks now ≡ changed_at (core_with chunks p) s x
    is chunks = set-core p now s x chunks entries size resident

pub counting-refl : (p : Parts2) → IsCounting p p
counting-refl p = record {
  core = λ chunks core. core;
  stays = λ chunks core. Stays-refl (core_with chunks p);
  outside = λ chunks core t. refl;
  entries = λ s. refl;
  resident = refl;
  bound = refl;
  free = refl;
}

pub counting-trans : (p q r : Parts2) → IsCounting p q → IsCounting q r → IsCounting p r
counting-trans p q r a b = record {
  core = λ chunks core. b.core chunks (a.core chunks core);
  stays = λ chunks core. Stays-trans (core_with chunks p) (core_with chunks q) (core_with chunks r) (a.stays chunks core) (b.stays chunks (a.core chunks core));
  outside = λ chunks core t. b.outside chunks (a.core chunks core) t ∙ a.outside chunks core t;
  entries = λ s. b.entries s ∙ ap (λ (e : Entry). with_change e (entry_at r.table s).change) (a.entries s);
  resident = b.resident ∙ a.resident;
  bound = b.bound ∙ a.bound;
  free = b.free ∙ a.free;
}

pub counting-names : (p q : Parts2) → IsCounting p q → IsNames p → IsNames q
counting-names p q a names = (names.0, a.core names.0 names.1)

-- What goes while room is made, and what stays.
use Rattle.std.specs.Prelude.{◌≡◌, ℕ, ◌≤◌, ◌&&◌, true, None, Some, is_some, if◌then◌else◌}
use Rattle.object_table.specs.declared.entry.Entry.{Entry}
use Rattle.object_table.specs.Entries.{is_used, place_of, sum_below}
use Rattle.core_view.specs.Core.{Core}
use Rattle.core_view.specs.Counts.{outside}
use Rattle.core_view.specs.Room.{is_among}

-- 1 for an object that has no record
abbrev pub fresh_by : Entry → ℕ
fresh_by e = if is_some (place_of e.state) && e.flags.fresh then 1 else 0

-- how many there are in a core
unfoldable pub fresh_of : Core → ℕ
fresh_of c = sum_below c.bound (λ s. fresh_by (c.entries s))

-- the body is there with its words, kind and length, wherever it lies
pub record IsSameBody (old new : Core) (s p : ℕ) : Type 0 where
  pub at : ℕ
  pub place : place_of (new.entries s).state ≡ Some at
  pub kind : (new.entries s).kind ≡ (old.entries s).kind
  pub len : (new.entries s).len ≡ (old.entries s).len
  pub name : (new.entries s).name ≡ (old.entries s).name
  pub words : (new.chunks at).words ≡ (old.chunks p).words

-- bodies went but those of three entries, and leaves to which nothing refers
pub record IsPurged (a b d : ℕ) (old new : Core) : Type 0 where
  pub bound : new.bound ≡ old.bound
  pub same_outside : (t : ℕ) → outside new t ≡ outside old t
  pub live : (t : ℕ) → 1 ≤ outside old t → (new.entries t).name ≡ (old.entries t).name
  pub leaves : (t : ℕ) → place_of (old.entries t).state ≡ None → place_of (new.entries t).state ≡ None
  pub pinned : (t p : ℕ) → is_among a b d t ≡ true → place_of (old.entries t).state ≡ Some p → IsSameBody old new t p

-- no leaf is in use to which nothing refers
abbrev pub HasNoIdle : Core → Type 0
HasNoIdle c = (s : ℕ) → is_used (c.entries s).state ≡ true → place_of (c.entries s).state ≡ None → 1 ≤ (c.entries s).refs

-- leaves to which nothing refers went
pub record IsFreed (old new : Core) : Type 0 where
  pub bound : new.bound ≡ old.bound
  pub chunks : new.chunks ≡ old.chunks
  pub same : (q : ℕ) → is_used (new.entries q).state ≡ true → new.entries q ≡ old.entries q
  pub bodies : (q p : ℕ) → place_of (old.entries q).state ≡ Some p → new.entries q ≡ old.entries q
  pub leaves : (q : ℕ) → place_of (old.entries q).state ≡ None → place_of (new.entries q).state ≡ None
  pub same_outside : (t : ℕ) → outside new t ≡ outside old t

-- What a row of windows over Work shows, and what it keeps back of it.
use Rattle.std.specs.Prelude.{◌≡◌, ◌<◌, ◌≤◌, ◌-◌, ◌^◌, ◌%◌, ◌/◌, ◌==◌, ℕ, List, Bool, false, Option, None, Some, length, map, max, min, take, nat_lt, slice_index, slice_index_or, if◌then◌else◌}
use Rattle.std.specs.List.{range_with_len, slice_get}
use Rattle.std.specs.Option.{ForSome, unwrap_or}
use Rattle.loom_host.specs.Bytes.{window, overwritten}
use Rattle.work_windows.specs.declared.window.TheConstants.{WIDTH}
use Rattle.work_windows.specs.declared.window.Window.{Window}
use Rattle.work_windows.specs.declared.windows.TheConstants.{WRITTEN}

-- ---- a row of so many windows

module _ (count : ℕ) where
  -- a page begins at this place, and it is shown by window i or by none
  abbrev pub IsPageOf : ℕ → ℕ → Type 0
  IsPageOf i place = (place % WIDTH ≡ 0) × (place / WIDTH % count ≡ i) × (place < 2 ^ 64)

  -- window i is a window of nothing, or its bytes are those of Work from its place on, where a page of it begins
  abbrev pub Shows : List ℕ → ℕ → Window → Type 0
  Shows work i w = ForSome w.place (λ place. IsPageOf i place × (w.bytes ≡ window work place WIDTH))

  -- each window of the row is so, by its index
  pub record AllShow (work : List ℕ) (ws : List Window) : Type 0 where
    pub each : (i : ℕ) (d : Window) → i < length ws → Shows work i (slice_index_or ws i d)

  -- the page that a place lies in is shown
  pub record IsShown (ws : List Window) (place : ℕ) : Type 0 where
    pub there : place / WIDTH % count < length ws
    pub shown : (d : Window) → (slice_index_or ws (place / WIDTH % count) d).place ≡ Some (place - place % WIDTH)

-- window i is one of nothing
abbrev pub IsUnread : List Window → ℕ → Type 0
IsUnread ws i = (d : Window) → (slice_index_or ws i d).place ≡ None

-- ---- bytes that are kept back

abbrev pub is_place : Option ℕ → ℕ → Bool
is_place None place = false
is_place (Some own) place = own == place

-- the byte at k, if a window with these bytes from this place on shows its page
abbrev pub kept_part : ℕ → Option ℕ → List ℕ → Option ℕ
kept_part k place bytes = if is_place place (k - k % WIDTH) then Some (slice_index bytes (k % WIDTH)) else None

-- the byte at k, if a window shows its page
abbrev pub kept_in : ℕ → Option Window → Option ℕ
kept_in k None = None
kept_in k (Some w) = kept_part k w.place w.bytes

-- the byte at k that a row of so many windows keeps back, or None
unfoldable pub kept_at : ℕ → List Window → ℕ → Option ℕ
kept_at count ws k = kept_in k (slice_get ws (k / WIDTH % count))

-- what Work holds where the host inside holds this, these windows are those of written pages, and no byte past a limit is kept back
unfoldable pub overlaid : List ℕ → List Window → ℕ → List ℕ
overlaid work ws limit = map (λ k. unwrap_or (kept_at WRITTEN ws k) (slice_index work k)) (range_with_len 0 (max (length work) limit))

-- Where the host inside holds `work`, Work holds `all`: that is what the windows of written pages show, and it differs from what is inside
-- only in bytes that are kept back, before the limit.
pub record Over (work : List ℕ) (ws : List Window) (limit : ℕ) (all : List ℕ) : Type 0 where
  pub shows : AllShow WRITTEN all ws
  pub long : length all ≡ max (length work) limit
  pub unkept : (k : ℕ) → kept_at WRITTEN ws k ≡ None → slice_index all k ≡ slice_index work k
  pub behind : (k : ℕ) → limit ≤ k → slice_index all k ≡ slice_index work k

-- ---- a window that is written to the host inside

abbrev pub saved_at : List ℕ → ℕ → List ℕ → Option ℕ → List ℕ
saved_at work limit bytes None = work
saved_at work limit bytes (Some place) = if nat_lt place limit then overwritten work place (take (min (limit - place) WIDTH) bytes) else work

-- what the host inside holds then
abbrev pub saved : List ℕ → ℕ → Window → List ℕ
saved work limit w = saved_at work limit w.bytes w.place

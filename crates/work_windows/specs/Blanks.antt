-- Which pages of Work hold nothing in the host inside.
use Rattle.std.specs.Prelude.{◌≡◌, ℕ, ◌/◌, ◌%◌, ◌==◌, ◌||◌, not, nat_le, Bool, false, List, slice_index}
use Rattle.std.specs.Int.{bit_at}
use Rattle.work_windows.specs.declared.blanks.Blanks.{Blanks}
use Rattle.work_windows.specs.declared.blanks.TheConstants.{PAGES}
use Rattle.work_windows.specs.declared.window.TheConstants.{WIDTH}

-- the host inside may hold something on a page: nothing is known of it, or it was written
unfoldable pub may_hold : Blanks → ℕ → Bool
may_hold b page = not b.known || (nat_le PAGES page || (bit_at (slice_index b.words (page / 64)) (page % 64) == 1))

-- on each other page it holds zeros
pub record AreBlank (work : List ℕ) (b : Blanks) : Type 0 where
  pub zeros : (k : ℕ) → may_hold b (k / WIDTH) ≡ false → slice_index work k ≡ 0

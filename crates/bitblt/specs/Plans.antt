-- A copy as it is asked for, and the transfer that does it.
use Rattle.std.specs.Prelude.{ℕ, pos, Bool, ◌≡◌, ◌≤◌, ◌+◌, ◌-◌, ◌*◌, ◌+ℤ◌, ◌-ℤ◌, List, Option, Some, None, is_some, option_map}
use Rattle.object_memory.specs.Told.{Told}
use Rattle.blue_model.specs.Forms.{row_words}
use Rattle.blue_model.specs.BitBlt.{is_changed_place, black}
use Rattle.bit_rows.specs.Rows.{within}
use Rattle.bitblt.specs.declared.transfer.Transfer.{Transfer}
use Rattle.forms.specs.declared.form.Extent.{Extent}
use Rattle.bitblt.specs.declared.asked.Asked.{Asked}
use Rattle.bitblt.specs.Blits.{words_at}

abbrev pub HALFTONE_BITS : ℕ
HALFTONE_BITS = 15

abbrev pub widths : Option Extent → Option ℕ
widths source = option_map (λ (e : Extent). e.width) source

abbrev pub heights : Option Extent → Option ℕ
heights source = option_map (λ (e : Extent). e.height) source

-- the columns and the rows of the pixels changed
abbrev pub is_column : Asked → Extent → Option Extent → ℕ → Bool
is_column q dest source = is_changed_place q.dest.x q.extent.x q.clip.x q.clip_extent.x dest.width q.source.x (widths source)

abbrev pub is_row : Asked → Extent → Option Extent → ℕ → Bool
is_row q dest source = is_changed_place q.dest.y q.extent.y q.clip.y q.clip_extent.y dest.height q.source.y (heights source)

-- the halftone's words, black without one
abbrev pub tone_words : Option Extent → Told → List ℕ
tone_words None t = black
tone_words (Some e) t = words_at t.heap (t.regs HALFTONE_BITS)

-- the transfer does what is asked
pub record IsPlanOf (q : Asked) (dest : Extent) (source : Option Extent) (t : Transfer) : Type 0 where
  pub rule : t.rule ≡ q.rule
  pub stride : t.stride ≡ row_words dest.width
  pub has_source : t.has_source ≡ is_some source
  pub source_stride : (e : Extent) → source ≡ Some e → t.source_stride ≡ row_words e.width
  pub columns : (x : ℕ) → is_column q dest source x ≡ within t.left t.right x
  pub rows : (y : ℕ) → is_row q dest source y ≡ within t.top t.bottom y
  pub source_left : (e : Extent) → source ≡ Some e → pos t.source_left ≡ pos t.left -ℤ q.dest.x +ℤ q.source.x
  pub source_top : (e : Extent) → source ≡ Some e → pos t.source_top ≡ pos t.top -ℤ q.dest.y +ℤ q.source.y
  pub tall : t.stride * t.bottom ≤ row_words dest.width * dest.height
  pub source_tall : (e : Extent) → source ≡ Some e → t.source_stride * (t.source_top + (t.bottom - t.top)) ≤ row_words e.width * e.height

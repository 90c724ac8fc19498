-- What a stop leaves where each range that was lost holds one byte.
use Rattle.std.specs.Prelude.{ℕ, ◌-◌, List, length, map, take, slice_index, if◌then◌else◌}
use Rattle.std.specs.List.{range_with_len}
use Rattle.checkpoint.specs.Vault.{Span, is_synced}

-- all but the first ones, where the newest stands first
abbrev pub but_first : ℕ → List Span → List Span
but_first kept spans = take (length spans - kept) spans

-- these bytes, but for those of the spans
unfoldable pub torn : List Span → ℕ → List ℕ → List ℕ
torn spans fill bytes = map (λ i. if is_synced spans i then slice_index bytes i else fill) (range_with_len 0 (length bytes))

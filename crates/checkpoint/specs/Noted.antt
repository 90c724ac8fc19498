-- What is told of calls that were noted.
use Rattle.std.specs.Prelude.{ℕ, ◌+◌, max, true, false, List, [], ◌∷◌, map, take, drop, reverse}
use Rattle.loom_host.specs.Bytes.{overwritten}
use Rattle.checkpoint.specs.Vault.{Call, Opened, Written, Synced, Span, Run, left_by}
use Rattle.checkpoint.specs.declared.noted.Noted.{Noted}
use Rattle.checkpoint.specs.declared.noted.Noted.TheVariants as noted
use Rattle.checkpoint.specs.declared.noted.Range.{Range}

-- a call, by the pieces of all writes and the contents before it. A write that failed left zeros up to its end, and no more
abbrev pub call_by : List ℕ → List ℕ → Noted → Call
call_by pieces bytes noted.Opened = Opened true []
call_by pieces bytes (noted.Written place from len) = Written true place len (overwritten bytes place (take len (drop from pieces)))
call_by pieces bytes (noted.Failed range) = Written false range.place range.len (overwritten bytes (range.place + range.len) [])
call_by pieces bytes noted.Synced = Synced true bytes

abbrev pub calls_from : List ℕ → List ℕ → List Noted → List Call
calls_from pieces bytes [] = []
calls_from pieces bytes (call ∷ calls) = call_by pieces bytes call ∷ calls_from pieces (left_by (call_by pieces bytes call)) calls

-- how far a call reads the pieces
abbrev pub reach_of : Noted → ℕ
reach_of noted.Opened = 0
reach_of (noted.Written place from len) = from + len
reach_of (noted.Failed range) = 0
reach_of noted.Synced = 0

abbrev pub reach : List Noted → ℕ
reach [] = 0
reach (call ∷ calls) = max (reach_of call) (reach calls)

-- the contents that it began with: those of now, where nothing is noted
abbrev pub began_of : List ℕ → List ℕ → List Noted → List ℕ
began_of bytes began [] = bytes
began_of bytes began (call ∷ calls) = began

abbrev pub run_of : Range → Span
run_of range = Run range.place range.len

-- the newest first
abbrev pub spans : List Range → List Span
spans ranges = reverse (map run_of ranges)

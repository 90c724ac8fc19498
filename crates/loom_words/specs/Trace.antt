-- The line of one bytecode in the trace of a run.
use Rattle.std.specs.Prelude.{ℕ, List, ◌++◌, codes, decimal}

-- `k CONTEXT IP BYTE`, with its newline: the number of the cycle, from 1; the name of the active context; the place of the next bytecode in the
-- context's method, and the byte that stands there
abbrev pub trace_text : ℕ → ℕ → ℕ → ℕ → List ℕ
trace_text k context ip byte = decimal k ++ codes " " ++ decimal context ++ codes " " ++ decimal ip ++ codes " " ++ decimal byte ++ codes "\n"

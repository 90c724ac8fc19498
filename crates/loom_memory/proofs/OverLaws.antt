-- A memory over other parts, or over another pager.
use Rattle.loom_host.specs.declared.outside.Host.{Ghosts}
use Rattle.std.proofs.Common.{◌≡◌, sym, ap, subst}
use Rattle.leaf_lambda.specs.declared.parts.Parts.{Parts}
use Rattle.leaf_lambda.specs.Whole.{IsWhole, IsWhole-prop}
use Rattle.purger.specs.declared.pager.Pager.{Pager}
use Rattle.loom_memory.specs.declared.memory.LoomMemory.{LoomMemory}

abbrev pub over_pager : {H : Type 0} {host : Ghosts H} → LoomMemory H host → Pager H host → LoomMemory H host
over_pager m p = record m { pager = p }

abbrev pub over_parts : {H : Type 0} {host : Ghosts H} → LoomMemory H host → (q : Parts) → IsWhole q → LoomMemory H host
over_parts m q whole = record m { pager = record m.pager { levels = record m.pager.levels { parts = q; whole = whole } } }

-- the same parts are the same memory
pub over-same : {H : Type 0} {host : Ghosts H} (m : LoomMemory H host) (q : Parts) (whole : IsWhole q) → q ≡ m.pager.levels.parts → over_parts m q whole ≡ m
over-same {H} {host} m q whole same = subst (λ (r : Parts). (w : IsWhole r) → over_parts m r w ≡ m) (sym same)
    (λ w. ap (λ (z : IsWhole m.pager.levels.parts). over_parts m m.pager.levels.parts z) (IsWhole-prop m.pager.levels.parts w m.pager.levels.whole)) whole

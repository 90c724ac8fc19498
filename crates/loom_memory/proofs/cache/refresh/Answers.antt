use Rattle.std.proofs.Common.{inl, inr, Bool, refl, sym, ◌∙◌, ap}
use Rattle.leaf_lambda.specs.Parts.{core_of}
use Rattle.method_cache.specs.Found.{found}
use Rattle.loom_memory.specs.Cache.{cache_of}
use Rattle.loom_memory.proofs.RowLaws.{cache-cleared, cached-cleared}
use Rattle.loom_memory.proofs.cache.refresh.Goals as goal

pub returns-then-names_marked-clause-cache : goal.returns-then-names_marked-clause-cache
returns-then-names_marked-clause-cache c = refl

pub returns-then-names_marked-clause-fresh : goal.returns-then-names_marked-clause-fresh
returns-then-names_marked-clause-fresh c = inl (sym c.names_marked.ensures ∙ c.if-names_marked.true)

pub returns-clause-cache : goal.returns-clause-cache
returns-clause-cache c =
    ap (λ (b : Bool). cache_of (core_of c.args.p.now) (found c.clear.new.self) 0 b) c.both-k.ensures
    ∙ cache-cleared (core_of c.args.p.now) (found c.args.k.now.rows) (found c.clear.new.self) c.args.k.now.mark c.args.k.now.begun c.requires.parts.core (sym c.names_marked.ensures ∙ c.if-names_marked.false)

pub returns-clause-cached : goal.returns-clause-cached
returns-clause-cached c = cached-cleared (core_of c.args.p.now) (found c.args.k.now.rows) (found c.clear.new.self) c.args.k.now.mark c.requires.parts.core c.requires.cached (sym c.names_marked.ensures ∙ c.if-names_marked.false)

pub returns-clause-fresh : goal.returns-clause-fresh
returns-clause-fresh c = inr (refl, c.clear.ensures)

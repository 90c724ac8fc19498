use Rattle.std.proofs.Common.{◌≡◌, ℕ, Option, Some, None, sym, ◌∙◌, inr}
use Rattle.std.specs.Prelude.{IfSome, IsSome, OnSome}
use Rattle.long_names.specs.State.{IsRef}
use Rattle.loom_host.specs.declared.outside.Host.{Ghosts}
use Rattle.object_memory.specs.Shape.{field_count, IsPartAt}
use Rattle.object_table.specs.Entries.{place_of}
use Rattle.leaf_lambda.specs.Parts.{core_of}
use Rattle.loom_memory.specs.declared.memory.LoomMemory.{LoomMemory}
use Rattle.loom_memory.specs.Bodies.{OfBody}
use Rattle.loom_memory.specs.Memory.{loom_told, word_in, IsSound}
use Rattle.loom_memory.proofs.GlanceLaws.{found-told, name-told, none-told, number-told}
use Rattle.loom_memory.proofs.memory.LoomMemory.field_count.Goals as goal

count-told : {H : Type 0} (host : Ghosts H) (m : LoomMemory H host) (of w : ℕ) (found : Option ℕ) → IsSound host m → w ≡ word_in m.regs of → IsRef ((loom_told host m).regs of) → OfBody (core_of m.pager.levels.parts) w (λ b. found ≡ field_count b) → OnSome found (IsSome (place_of ((core_of m.pager.levels.parts).entries w).state))
    → IfSome found (λ n. IsPartAt (loom_told host m) of field_count (Some n))
count-told {H} host m of w None sound same ref body there = tt
count-told {H} host m of w (Some n) sound same ref body there = record { name = λ some. ref; there = found-told host m of w field_count (Some n) sound same there body }

pub returns-then-not-is_name-clause-away : goal.returns-then-not-is_name-clause-away
returns-then-not-is_name-clause-away g c = inr (λ told. number-told g.H.Host c.args.self.now c.args.of c.word_of-w.result field_count c.word_of-w.ensures.word c.word_of-w.ensures.some (sym c.is_name.ensures ∙ c.if-not-is_name.true))

pub field_count_at-requires-clause-used : goal.field_count_at-requires-clause-used
field_count_at-requires-clause-used g c = c.word_of-w.ensures.used (sym c.is_name.ensures ∙ c.if-not-is_name.false)

pub returns-clause-fields : goal.returns-clause-fields
returns-clause-fields g c = count-told g.H.Host c.args.self.now c.args.of c.word_of-w.result c.field_count_at.result c.requires c.word_of-w.ensures.word (name-told g.H.Host c.args.self.now c.args.of c.word_of-w.result c.word_of-w.ensures.word (sym c.is_name.ensures ∙ c.if-not-is_name.false)) c.field_count_at.ensures.count c.field_count_at.ensures.there

pub returns-clause-away : goal.returns-clause-away
returns-clause-away g c = none-told g.H.Host c.args.self.now c.args.of c.word_of-w.result field_count c.field_count_at.result c.requires c.word_of-w.ensures.word (name-told g.H.Host c.args.self.now c.args.of c.word_of-w.result c.word_of-w.ensures.word (sym c.is_name.ensures ∙ c.if-not-is_name.false)) c.field_count_at.ensures.count

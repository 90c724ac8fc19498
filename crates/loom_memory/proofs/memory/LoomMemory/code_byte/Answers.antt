use Rattle.std.proofs.Common.{◌≡◌, ℕ, Option, Some, None, IsTrue, sym, ◌∙◌, inr}
use Rattle.std.specs.Prelude.{IfSome, IsSome, OnSome}
use Rattle.long_names.specs.State.{part_at}
use Rattle.loom_host.specs.declared.outside.Host.{Ghosts}
use Rattle.object_memory.specs.Shape.{code_at}
use Rattle.object_table.specs.Entries.{place_of}
use Rattle.leaf_lambda.specs.Parts.{core_of}
use Rattle.loom_memory.specs.declared.memory.LoomMemory.{LoomMemory}
use Rattle.loom_memory.specs.Bodies.{OfBody}
use Rattle.loom_memory.specs.Memory.{loom_told, word_in, IsSound}
use Rattle.loom_memory.proofs.GlanceLaws.{found-told, name-told, none-told, number-told}
use Rattle.loom_memory.proofs.memory.LoomMemory.code_byte.Goals as goal

byte-told : {H : Type 0} (host : Ghosts H) (m : LoomMemory H host) (of w place : ℕ) (found : Option ℕ) → IsSound host m → w ≡ word_in m.regs of → OfBody (core_of m.pager.levels.parts) w (λ b. found ≡ code_at place b) → OnSome found (IsSome (place_of ((core_of m.pager.levels.parts).entries w).state))
    → IfSome found (λ byte. IsTrue (loom_told host m).tells → part_at (loom_told host m).heap ((loom_told host m).regs of) (code_at place) ≡ Some byte)
byte-told {H} host m of w place None sound same body there = tt
byte-told {H} host m of w place (Some byte) sound same body there = found-told host m of w (code_at place) (Some byte) sound same there body

pub returns-then-not-is_name-clause-away : goal.returns-then-not-is_name-clause-away
returns-then-not-is_name-clause-away g c = inr (λ told. number-told g.H.Host c.args.self.now c.args.of c.word_of-w.result (code_at c.args.place) c.word_of-w.ensures.word c.word_of-w.ensures.some (sym c.is_name.ensures ∙ c.if-not-is_name.true))

pub code_byte_at-requires-clause-used : goal.code_byte_at-requires-clause-used
code_byte_at-requires-clause-used g c = c.word_of-w.ensures.used (sym c.is_name.ensures ∙ c.if-not-is_name.false)

pub returns-clause-byte : goal.returns-clause-byte
returns-clause-byte g c = byte-told g.H.Host c.args.self.now c.args.of c.word_of-w.result c.args.place c.code_byte_at.result c.requires c.word_of-w.ensures.word c.code_byte_at.ensures.byte c.code_byte_at.ensures.there

pub returns-clause-away : goal.returns-clause-away
returns-clause-away g c = none-told g.H.Host c.args.self.now c.args.of c.word_of-w.result (code_at c.args.place) c.code_byte_at.result c.requires c.word_of-w.ensures.word (name-told g.H.Host c.args.self.now c.args.of c.word_of-w.result c.word_of-w.ensures.word (sym c.is_name.ensures ∙ c.if-not-is_name.false)) c.code_byte_at.ensures.byte

use Rattle.std.proofs.Common.{◌≡◌, true, false, refl, sym, ◌∙◌}
use Rattle.core_segment.specs.Segment.{chunk_at}
use Rattle.leaf_lambda.specs.Parts.{core_of}
use Rattle.purger.proofs.SoundLaws.{parts-names}
use Rattle.purger.proofs.GivingLaws.{used-entry}
use Rattle.loom_memory.proofs.RecountLaws.{Recount-refl, counting-parts, counting-recount, counting-changed}
use Rattle.loom_memory.proofs.stores.raise_word.Goals as goal

pub add_change-requires-clause-names : goal.add_change-requires-clause-names
add_change-requires-clause-names c = parts-names c.args.p.now c.requires.parts

pub add_change-requires-clause-used : goal.add_change-requires-clause-used
add_change-requires-clause-used c = used-entry c.args.p.now c.args.w (c.requires.used (sym c.is_name.ensures ∙ c.if-is_name.true))

pub returns-then-is_name-clause-parts : goal.returns-then-is_name-clause-parts
returns-then-is_name-clause-parts c = counting-parts c.args.p.now (record { segment = c.args.p.now.segment; names = c.add_change.new.p }) c.requires.parts refl c.add_change.ensures.counting

pub returns-then-is_name-clause-recount : goal.returns-then-is_name-clause-recount
returns-then-is_name-clause-recount c = counting-recount c.args.p.now (record { segment = c.args.p.now.segment; names = c.add_change.new.p }) c.requires.parts refl c.add_change.ensures.counting

pub returns-then-is_name-clause-raised : goal.returns-then-is_name-clause-raised
unfolding core_of
returns-then-is_name-clause-raised c = λ short fits. counting-changed c.args.p.now (record { segment = c.args.p.now.segment; names = c.add_change.new.p }) c.args.w _ refl (c.add_change.ensures.changed (chunk_at c.args.p.now.segment) fits)

pub returns-then-is_name-clause-same : goal.returns-then-is_name-clause-same
returns-then-is_name-clause-same c = λ off. absurd (let both : true ≡ false = sym (sym c.is_name.ensures ∙ c.if-is_name.true) ∙ off in cc)

pub returns-else-is_name-clause-recount : goal.returns-else-is_name-clause-recount
returns-else-is_name-clause-recount c = Recount-refl (core_of c.args.p.now)

pub returns-else-is_name-clause-raised : goal.returns-else-is_name-clause-raised
returns-else-is_name-clause-raised c = λ short fits. absurd (let both : true ≡ false = sym short ∙ sym c.is_name.ensures ∙ c.if-is_name.false in cc)

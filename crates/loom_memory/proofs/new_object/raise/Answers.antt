use Rattle.std.specs.Int.{w64}
use Rattle.std.proofs.lemmas.Int.{to_z-of_z}
use mir.Val.{SFits}
use Rattle.std.proofs.Common.{◌≡◌, ◌<◌, ◌^◌, ℕ, ℤ, pos, ◌+ℤ◌, ◌∙◌, rules, refl, subst, arith}
use Rattle.object_table.specs.Table.{entry_at}
use Rattle.core_segment.specs.Chunks.{Chunk}
use Rattle.core_view.specs.LevelSteps.{changed_at}
use Rattle.delta_counts.specs.Parts.{core_with, IsChange}
use Rattle.leaf_lambda.specs.declared.parts.Parts.{Parts}
use Rattle.purger.proofs.GivingLaws.{used-entry}
use Rattle.purger.proofs.SoundLaws.{parts-names}
use Rattle.loom_memory.proofs.NewLaws.{counting-parts, counting-readied, raise-core, raised-at}
use Rattle.loom_memory.proofs.new_object.raise.Goals as goal

pub add_change-requires-clause-names : goal.add_change-requires-clause-names
add_change-requires-clause-names c = parts-names c.args.p.now c.requires.parts

pub add_change-requires-clause-used : goal.add_change-requires-clause-used
add_change-requires-clause-used c = used-entry c.args.p.now c.args.s.0 c.requires.used

pub returns-clause-parts : goal.returns-clause-parts
returns-clause-parts c =
    let q : Parts = record { segment = c.args.p.now.segment; names = c.add_change.new.p } in
    counting-parts c.args.p.now q c.requires.parts refl c.add_change.ensures.counting

pub returns-clause-readied : goal.returns-clause-readied
returns-clause-readied c =
    let q : Parts = record { segment = c.args.p.now.segment; names = c.add_change.new.p } in
    counting-readied c.args.p.now q c.requires.parts refl c.add_change.ensures.counting

pub returns-clause-spare : goal.returns-clause-spare
returns-clause-spare c = c.add_change.ensures.counting.free

pub returns-clause-sound : goal.returns-clause-sound
returns-clause-sound c = λ t owed is x few.
    let p = c.args.p.now in
    let q : Parts = record { segment = c.args.p.now.segment; names = c.add_change.new.p } in
    let fits : SFits w64 c.from.result = search rules in
    let same = to_z-of_z w64 c.from.result fits in
    let small : c.args.n < 2 ^ 62 = (let low = c.requires.few in omega (arith, low)) in
    raised-at c.args.p.now q t c.args.s.0 c.args.n owed refl is x c.requires.used few small
    (raise-core c.args.p.now q c.args.s.0 (pos c.args.n) refl
    (subst (λ (z : ℤ). (chunks : ℕ → Chunk) → IsChange ((entry_at c.args.p.now.names.table c.args.s.0).change +ℤ z) → core_with chunks c.add_change.new.p ≡ changed_at (core_with chunks c.args.p.now.names) c.args.s.0 ((entry_at c.args.p.now.names.table c.args.s.0).change +ℤ z)) (same ∙ c.from.ensures) (λ chunks. c.add_change.ensures.changed chunks)))

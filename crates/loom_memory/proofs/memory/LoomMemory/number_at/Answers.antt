use Rattle.std.proofs.Common.{◌≡◌, ◌%◌, ◌<◌, ℤ, pos, negsuc, [], Some, IsTrue, refl, sym, ◌∙◌, ap, subst, arith}
use Rattle.long_names.specs.Access.{Field, brought}
use Rattle.long_names.specs.declared.value.Value.TheVariants.{Int}
use Rattle.loom_host.specs.declared.outside.Role.TheVariants.{Work}
use Rattle.object_memory.specs.Shape.{field_count}
use Rattle.std.proofs.lemmas.Int.{to_z-of_z}
use lib.Signed.{mag}
use mir.Syntax.{w16}
use mir.Val.{SFits}
use Rattle.core_view.specs.Words.{meant, int_of_short}
use Rattle.core_view.proofs.Words.{meant-odd}
use Rattle.disk_objects.specs.Function.{disk_of}
use Rattle.leaf_lambda.specs.Parts.{core_of}
use Rattle.loom_memory.specs.Memory.{loom_told}
use Rattle.loom_memory.proofs.GlanceLaws.{found-told, name-told}
use Rattle.loom_memory.proofs.LoadLaws.{field-told}
use Rattle.loom_memory.proofs.ScratchLaws.{number-here, counted-told}
use Rattle.loom_memory.proofs.memory.LoomMemory.number_at.Goals as goal
use Rattle.loom_memory.proofs.memory.LoomMemory.number_at.Given as given

pub field_count_at-requires-clause-used : goal.field_count_at-requires-clause-used
field_count_at-requires-clause-used g c = c.word_of-w.ensures.used (sym c.is_name.ensures ∙ c.if-not-is_name.false)

fits : (z : ℤ) → mag z < 32768 → SFits w16 z
fits (pos n) low = omega arith
fits (negsuc n) low = omega arith

value-told : (g : given.Over) (c : goal.After-int_short g) → IsTrue (loom_told g.H.Host c.args.self.now).tells → brought (loom_told g.H.Host c.args.self.now).heap (loom_told g.H.Host c.args.self.now).regs (Field 0 c.args.of c.args.i) ≡ Some (Int c.int_short.result)
unfolding loom_told
value-told g c = λ told.
    let m = c.args.self.now in
    let at = c.in-Some-word_in_body.ensures.word in
    let odd : c.in-Some-word_in_body.value % 2 ≡ 1 = omega (arith, c.if-value-eq0.false) in
    field-told (g.H.Host.tells Work) (core_of m.pager.levels.parts) (disk_of g.H.Host m.pager.levels.disk.host.now m.pager.levels.disk.rest) m.ledger.next c.word_of-w.result at.0 0 c.args.of c.args.i c.in-Some-word_in_body.value (loom_told g.H.Host m).regs told m.pager.levels.whole.parts.core at.1 at.2 (ap (meant (core_of m.pager.levels.parts).entries [] 0) (sym c.word_of-w.ensures.word))
    ∙ ap Some (meant-odd (core_of m.pager.levels.parts).entries [] 0 c.in-Some-word_in_body.value odd ∙ ap Int (sym c.int_short.ensures))

pub returns-clause-number : goal.returns-clause-number
returns-clause-number g c =
    rw (to_z-of_z w16 c.int_short.result (fits c.int_short.result c.int_short.type_inv)) (record {
      name = λ some. name-told g.H.Host c.args.self.now c.args.of c.word_of-w.result c.word_of-w.ensures.word (sym c.is_name.ensures ∙ c.if-not-is_name.false);
      there = λ told. number-here (loom_told g.H.Host c.args.self.now).heap ((loom_told g.H.Host c.args.self.now).regs c.args.of) c.args.i c.in-Some._count c.int_short.result (counted-told g.H.Host c.args.self.now c.args.of c.word_of-w.result c.field_count_at.result c.in-Some._count c.requires c.word_of-w.ensures.word c.in-Some.is c.field_count_at.ensures.count c.field_count_at.ensures.there told) (value-told g c told);
    })

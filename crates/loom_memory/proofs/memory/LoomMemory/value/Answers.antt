use Rattle.std.proofs.Common.{[], refl, sym, ◌∙◌, ap, subst, arith}
use Rattle.long_names.specs.Words.{IsSmallInteger}
use Rattle.object_memory.proofs.ShapeLaws.{small_number}
use Rattle.long_names.specs.declared.value.Value.TheVariants.{Int, Ref}
use Rattle.object_table.specs.declared.entry.Entry.{Entry}
use Rattle.core_view.specs.Words.{meant, int_of_short}
use Rattle.core_view.proofs.Words.{meant-short}
use Rattle.leaf_lambda.specs.Parts.{core_of}
use Rattle.leaf_lambda.proofs.WordLaws.{odd-small}
use Rattle.loom_memory.specs.Memory.{loom_told}
use Rattle.loom_memory.proofs.WordLaws.{odd-else, number-means}
use Rattle.loom_memory.proofs.memory.LoomMemory.value.Goals as goal
use Rattle.loom_memory.proofs.memory.LoomMemory.value.Given as given

small-of : (g : given.Over) (c : goal.After-int_short g) → IsSmallInteger c.int_short.result
small-of g c = subst IsSmallInteger (sym c.int_short.ensures) (odd-small c.word_of-w.result (omega arith))

pub used_entry-requires : goal.used_entry-requires
unfolding core_of
used_entry-requires g c = c.word_of-w.ensures.used (sym c.is_name.ensures ∙ c.if-is_name.true)

pub returns-then-is_name-clause-value : goal.returns-then-is_name-clause-value
unfolding loom_told core_of
returns-then-is_name-clause-value g c =
    let m = c.args.self.now in
    c.from.ensures.0 ∙ ap Ref (ap (λ (e : Entry). e.name) c.used_entry.ensures)
    ∙ sym (ap (meant (core_of m.pager.levels.parts).entries [] 0) (sym c.word_of-w.ensures.word) ∙ meant-short (core_of m.pager.levels.parts).entries [] 0 c.word_of-w.result (sym c.is_name.ensures ∙ c.if-is_name.true))

pub returns-clause-value : goal.returns-clause-value
unfolding loom_told
returns-clause-value g c =
    let m = c.args.self.now in
    ap Int (small_number c.int_short.result (small-of g c)) ∙ ap Int c.int_short.ensures
    ∙ sym (ap (meant (core_of m.pager.levels.parts).entries [] 0) (sym c.word_of-w.ensures.word)
    ∙ number-means (core_of m.pager.levels.parts).entries c.word_of-w.result (int_of_short c.word_of-w.result) (odd-else c.word_of-w.result c.word_of-w.ensures.some (sym c.is_name.ensures ∙ c.if-is_name.false)) refl)

pub returns-then-is_name-clause-range : goal.returns-then-is_name-clause-range
returns-then-is_name-clause-range g c = c.from.ensures.1

pub returns-clause-range : goal.returns-clause-range
returns-clause-range g c = subst IsSmallInteger (sym (small_number c.int_short.result (small-of g c))) (small-of g c)

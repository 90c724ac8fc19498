use Rattle.std.proofs.Common.{◌≡◌, ◌≢◌, ℕ, ◌%◌, ◌<◌, true, sym, ◌∙◌, ap, arith}
use Rattle.std.proofs.lemmas.Grind.{common_steps}
use Rattle.long_names.specs.declared.value.Value.TheVariants.{Int, Ref}
use Rattle.object_record.specs.Objects.{value_in}
use Rattle.object_table.specs.declared.entry.Entry.{Entry}
use Rattle.object_table.specs.Entries.{is_short}
use Rattle.core_view.proofs.Words.{meant-odd, meant-short}
use Rattle.leaf_lambda.specs.Parts.{core_of}
use Rattle.leaf_lambda.proofs.MergeLaws.{value-odd, value-name}
use Rattle.leaf_lambda.proofs.merge.word_long.Goals as goal

short : (w : ℕ) → w % 2 ≡ 0 → w ≢ 0 → is_short w ≡ true
short w even some = let above : 0 < w = omega arith in grind (arith, common_steps)

pub used_entry-name-requires : goal.used_entry-name-requires
unfolding core_of
used_entry-name-requires c = c.requires.used (short c.args.w c.if-w-eq0.true c.requires.some)

pub returns-then-w-eq0 : goal.returns-then-w-eq0
unfolding core_of
returns-then-w-eq0 c = λ old i.
    ap value_in c.get.ensures.value ∙ value-name c.used_entry-name.result.name c.get.ensures.name ∙ ap (λ (e : Entry). Ref e.name) c.used_entry-name.ensures
    ∙ sym (meant-short (core_of c.args.p.now).entries old i c.args.w (short c.args.w c.if-w-eq0.true c.requires.some))

pub returns-else-w-eq0 : goal.returns-else-w-eq0
returns-else-w-eq0 c = λ old i.
    let odd : c.args.w % 2 ≡ 1 = let not = c.if-w-eq0.false in omega arith in
    value-odd c.number_long.result c.number_long.ensures.odd ∙ ap Int c.number_long.ensures.number ∙ sym (meant-odd (core_of c.args.p.now).entries old i c.args.w odd)

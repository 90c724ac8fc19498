use Rattle.std.proofs.Common.{◌≡◌, ◌≢◌, ℕ, [], ◌%◌, false, sym, ◌∙◌, ap, subst, arith}
use Rattle.std.proofs.lemmas.Grind.{common_steps}
use Rattle.long_names.specs.Words.{IsValue}
use Rattle.long_names.specs.declared.value.Value.TheVariants.{Ref}
use Rattle.object_table.specs.declared.entry.Entry.{Entry}
use Rattle.object_table.specs.Entries.{is_short}
use Rattle.core_view.proofs.Words.{meant-odd, meant-short}
use Rattle.leaf_lambda.specs.Parts.{core_of}
use Rattle.leaf_lambda.proofs.WordLaws.{odd-small}
use Rattle.leaf_lambda.proofs.fields.words_mean_values.Goals as goal

odd : (w : ℕ) → w ≢ 0 → is_short w ≡ false → w % 2 ≡ 1
odd w some not = grind (arith, common_steps)

pub used_entry-requires : goal.used_entry-requires
unfolding core_of
used_entry-requires c = c.requires.used (sym c.is_name.ensures ∙ c.if-is_name.true)

pub returns-then-is_name : goal.returns-then-is_name
unfolding core_of
returns-then-is_name c =
    let name : IsValue (Ref c.used_entry.result.name) = subst IsValue c.from-value.ensures.0 c.from-value.ensures.1 in
    subst IsValue (ap (λ (e : Entry). Ref e.name) c.used_entry.ensures ∙ sym (meant-short (core_of c.args.p.now).entries [] 0 c.args.w (sym c.is_name.ensures ∙ c.if-is_name.true))) name

pub returns-else-is_name : goal.returns-else-is_name
returns-else-is_name c =
    let is = odd c.args.w c.requires.some (sym c.is_name.ensures ∙ c.if-is_name.false) in
    subst IsValue (sym (meant-odd (core_of c.args.p.now).entries [] 0 c.args.w is)) (odd-small c.args.w (omega arith))

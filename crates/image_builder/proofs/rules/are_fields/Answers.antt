use Rattle.std.proofs.Common.{take, sym, subst, ◌∙◌, List}
use Rattle.std.proofs.lemmas.List.Elements.{All-push}
use Rattle.std.specs.List.{All}
use Rattle.long_names.specs.Words.{IsValue}
use Rattle.long_names.specs.declared.value.Value.{Value}
use Rattle.image_format.proofs.Writing.{push_taken}
use Rattle.image_builder.specs.Rules.{is_field}
use Rattle.image_builder.proofs.Firsts.{all-fails, all-more}
use Rattle.image_builder.proofs.rules.are_fields.Goals as goal

pub returns-then-not-is_field-clause-are : goal.returns-then-not-is_field-clause-are
returns-then-not-is_field-clause-are c = sym (all-fails is_field c.args.values.now c.loop-i.i c.item.result.now c.item.ensures (sym c.is_field.ensures.is ∙ c.if-not-is_field.true))

pub loop-i-preserved : goal.loop-i-preserved
loop-i-preserved c =
    let values = c.args.values.now in
    let i = c.loop-i.i in
    let v = c.item.result.now in
    record {
      are = all-more is_field values i v c.item.ensures c.loop-i.invariant.are (sym c.is_field.ensures.is ∙ c.if-not-is_field.false);
      values = subst (λ (vs : List Value). All IsValue vs) (sym (push_taken values i v c.item.ensures)) (All-push IsValue (take i values) v c.loop-i.invariant.values (c.is_field.ensures.value c.if-not-is_field.false));
    }

use Rattle.std.proofs.Common.{ℕ, List, sym, subst, ◌∙◌}
use Rattle.std.proofs.lemmas.Map.Views.{All-turn}
use Rattle.std.proofs.lemmas.List.Elements.{All-cons}
use Rattle.std.specs.List.{All}
use Rattle.std.specs.Map.Iter.{deref_pair}
use Rattle.long_names.specs.declared.object.Object.{Object}
use Rattle.image_builder.specs.Rules.{record_breaks}
use Rattle.image_builder.specs.Sizes.{Fits}
use Rattle.image_builder.specs.Parts.{IsEntry}
use Rattle.image_builder.proofs.Firsts.{goes-on}
use Rattle.image_builder.proofs.Kept.{entries-fit}
use Rattle.image_builder.proofs.builder.Builder.judge_reading.Goals as goal

pub judge_record-requires : goal.judge_record-requires
judge_record-requires c =
    let gives = c.into_iter-name-iterator.ensures.into_iter_gives in
    All-turn deref_pair (λ (e : ℕ × Object). Fits e.1.body) _ _ _ _ _ _ _ (entries-fit c.args.self.now) gives.0 c.loop-name.yielded_by c.in-Some.is c.next.ensures.steps

pub loop-name-preserved : goal.loop-name-preserved
loop-name-preserved c =
    let e : ℕ × Object = (c.in-Some.name.now, c.in-Some.object.now) in
    record {
      first = goes-on (record_breaks c.args.next) c.args.self.now.objects.entries c.loop-name.name-iterator c.next.new.self e c.loop-name.invariant.first c.in-Some.ensures.steps (sym c.judge_record.ensures.rule ∙ c.in_default.is);
      entries = λ rest. c.loop-name.invariant.entries (subst (λ (es : List (ℕ × Object)). All IsEntry es) (sym c.in-Some.ensures.steps) (All-cons IsEntry e c.next.new.self c.in_default.ensures.entry rest));
    }

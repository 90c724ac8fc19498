use Rattle.std.proofs.Common.{ℕ, sym, subst, arith}
use Rattle.leaf_lambda.proofs.ValueLaws.{is-ref}
use Rattle.core_view.proofs.Words.{one-odd}
use Rattle.leaf_lambda.specs.Parts.{core_of, spare_of, IsHolding}
use Rattle.leaf_lambda.proofs.TranslateLaws.{none-held, Sparing-refl, word-means, word-lambda, may-be}
use Rattle.leaf_lambda.proofs.translate.short_for_value.Goals as goal

pub returns-in-Some-clause-held : goal.returns-in-Some-clause-held
returns-in-Some-clause-held c = none-held (core_of c.args.p.now) c.short_int.result (λ t. one-odd t c.short_int.result c.short_int.ensures.odd)

pub returns-in-Some-clause-lambda : goal.returns-in-Some-clause-lambda
returns-in-Some-clause-lambda c = λ zero_. let odd = c.short_int.ensures.odd in absurd (omega arith)

pub returns-in-Some-clause-sparing : goal.returns-in-Some-clause-sparing
returns-in-Some-clause-sparing c = Sparing-refl c.args.p.now

pub returns-in-Some-name-clause-held : goal.returns-in-Some-name-clause-held
returns-in-Some-name-clause-held c = subst (λ (w : ℕ). IsHolding w (core_of c.args.p.now) (core_of c.short_for_name-short.new.p)) (sym c.word_for.ensures) c.short_for_name-short.ensures.held

pub returns-in-Some-name-clause-means : goal.returns-in-Some-name-clause-means
returns-in-Some-name-clause-means c = word-means c.short_for_name-short.result c.word_for.result c.in-Some-name.name c.args.v.now (core_of c.short_for_name-short.new.p).entries c.word_for.ensures c.short_for_name-short.ensures.short (is-ref c.args.v.now c.in-Some-name.name (sym c.in-Some-name.ensures))

pub returns-in-Some-name-clause-lambda : goal.returns-in-Some-name-clause-lambda
returns-in-Some-name-clause-lambda c = λ zero_. may-be (core_of c.args.p.now).find (spare_of c.args.p.now) c.in-Some-name.name c.args.v.now (is-ref c.args.v.now c.in-Some-name.name (sym c.in-Some-name.ensures))
    (word-lambda c.short_for_name-short.result c.word_for.result c.in-Some-name.name (core_of c.short_for_name-short.new.p).entries c.word_for.ensures c.short_for_name-short.ensures.short c.short_for_name-short.ensures.none zero_)

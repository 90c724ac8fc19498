use Rattle.std.proofs.Common.{◌≡◌, ◌∙◌, ℕ, List, None, ap, length, sym, subst}
use Rattle.image_format.proofs.Writing.{on_ok}
use Rattle.image_reader.specs.Frames.{IsPartFault}
use Rattle.image_reader.specs.Inside.{IsRuleFault}
use Rattle.image_reader.specs.Judged.{IsJudged, IsOfWhole, counts_broken, words_broken}
use Rattle.image_reader.specs.Tally.{IsFresh}
use Rattle.image_reader.proofs.Frames.{each_fault, leaves, rule_fault}
use Rattle.image_reader.proofs.JudgeLaws.{judged-counts, judged-fields, words-none}
use Rattle.image_reader.proofs.judging.judge_words.Goals as goal

pub returns-in_err-judge_fields-clause-bad : goal.returns-in_err-judge_fields-clause-bad
returns-in_err-judge_fields-clause-bad g c = λ recs next told are beside.
    let f = c.in_err-judge_fields.field-0.0 in
    leaves (IsJudged (words_broken recs)) c.from_residual.result f c.from_residual.ensures.1 (judged-fields recs f (c.in_err-judge_fields.ensures.bad recs next told are))

pub returns-in_err-judge_fields-clause-fault : goal.returns-in_err-judge_fields-clause-fault
returns-in_err-judge_fields-clause-fault g c =
    leaves (IsPartFault g.H.Host c.args.disk.now.host.now c.judge_fields.new.disk.host.now) c.from_residual.result c.in_err-judge_fields.field-0.0 c.from_residual.ensures.1 c.in_err-judge_fields.ensures.fault

pub judge_counts-requires : goal.judge_counts-requires
judge_counts-requires g c = record { beside = c.requires.beside ∙ ap length (sym c.judge_fields.ensures.names) }

pub returns-clause-ok : goal.returns-clause-ok
returns-clause-ok g c = λ recs next told are beside.
    let x = c.in_ok-judge_fields.ensures.ok recs next told are in
    on_ok c.judge_counts.result (λ (none : counts_broken recs ≡ None). (words-none recs x.0 none, x.1))
    (c.judge_counts.ensures.ok recs next c.args.tally.now (record { last = are.last; names_are = c.judge_fields.ensures.names ∙ are.names_are; stated_are = beside; listed = are.listed })
    (subst (λ (ns : List ℕ). IsFresh ns c.args.tally.now) (sym c.judge_fields.ensures.names) c.requires.fresh) x.1)

pub returns-clause-bad : goal.returns-clause-bad
returns-clause-bad g c = λ recs next told are beside.
    let x = c.in_ok-judge_fields.ensures.ok recs next told are in
    each_fault (IsJudged (counts_broken recs)) (IsJudged (words_broken recs)) c.judge_counts.result (λ f h. judged-counts recs f x.0 h)
    (c.judge_counts.ensures.bad recs next c.args.tally.now (record { last = are.last; names_are = c.judge_fields.ensures.names ∙ are.names_are; stated_are = beside; listed = are.listed })
    (subst (λ (ns : List ℕ). IsFresh ns c.args.tally.now) (sym c.judge_fields.ensures.names) c.requires.fresh) x.1)

pub returns-clause-fault : goal.returns-clause-fault
returns-clause-fault g c =
    each_fault IsRuleFault (IsPartFault g.H.Host c.args.disk.now.host.now c.judge_fields.new.disk.host.now) c.judge_counts.result
    (λ f h. rule_fault g.H.Host c.args.disk.now.host.now c.judge_fields.new.disk.host.now f h) c.judge_counts.ensures.fault

pub returns-in_err-judge_fields-clause-rule : goal.returns-in_err-judge_fields-clause-rule
returns-in_err-judge_fields-clause-rule g c = leaves IsOfWhole c.from_residual.result c.in_err-judge_fields.field-0.0 c.from_residual.ensures.1 c.in_err-judge_fields.ensures.rule

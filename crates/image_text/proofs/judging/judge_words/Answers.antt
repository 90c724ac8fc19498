use Rattle.std.proofs.Common.{◌≡◌, length, None, ap, ◌∙◌, arith}
use Rattle.image_format.proofs.Writing.{on_ok}
use Rattle.image_format.specs.Rules.{break}
use Rattle.std.specs.Prelude.{option_map}
use Rattle.image_reader.specs.Judged.{words_broken}
use Rattle.image_reader.proofs.Frames.{leaves}
use Rattle.image_reader.proofs.JudgeLaws.{fresh-of}
use Rattle.image_reader.proofs.LookLaws.{read_none}
use Rattle.text_lines.specs.Breaks.{with_counts}
use Rattle.image_text.specs.declared.fault.TextFault.TheVariants.{Memory}
use Rattle.image_text.specs.Assembled.{IsPartTextFault}
use Rattle.image_text.specs.Inside.{IsTextOfWhole}
use Rattle.image_text.specs.Judged.{IsPlaced, IsTextRule, unheld_among, words_of}
use Rattle.image_text.proofs.JudgeTexts.{each_text, fields_words, held_none, held_placed, rule_text}
use Rattle.image_text.proofs.judging.judge_words.Goals as goal

pub returns-in_err-buf-clause-bad : goal.returns-in_err-buf-clause-bad
returns-in_err-buf-clause-bad g c = λ recs next told are. leaves (IsPlaced c.args.tally.now.names (words_broken (with_counts recs))) c.from_residual.result Memory c.from_residual.ensures.1 tt

pub returns-in_err-buf-clause-read : goal.returns-in_err-buf-clause-read
returns-in_err-buf-clause-read g c = read_none g.H.Host c.args.disk.now.host.now

pub returns-in_err-buf-clause-rule : goal.returns-in_err-buf-clause-rule
returns-in_err-buf-clause-rule g c = leaves IsTextOfWhole c.from_residual.result Memory c.from_residual.ensures.1 tt

pub returns-in_err-buf-clause-fault : goal.returns-in_err-buf-clause-fault
returns-in_err-buf-clause-fault g c = leaves (IsPartTextFault g.H.Host c.args.disk.now.host.now c.args.disk.now.host.now) c.from_residual.result Memory c.from_residual.ensures.1 tt

pub returns-in_err-judge_fields-clause-bad : goal.returns-in_err-judge_fields-clause-bad
returns-in_err-judge_fields-clause-bad g c = λ recs next told are.
    let f = c.in_err-judge_fields.field-0.0 in
    leaves (IsPlaced c.args.tally.now.names (words_broken (with_counts recs))) c.from_residual-in_err-judge_fields.result f c.from_residual-in_err-judge_fields.ensures.1
    (fields_words c.args.tally.now.names recs f (c.in_err-judge_fields.ensures.bad recs next told are))

pub returns-in_err-judge_fields-clause-rule : goal.returns-in_err-judge_fields-clause-rule
returns-in_err-judge_fields-clause-rule g c = leaves IsTextOfWhole c.from_residual-in_err-judge_fields.result c.in_err-judge_fields.field-0.0 c.from_residual-in_err-judge_fields.ensures.1 c.in_err-judge_fields.ensures.rule

pub returns-in_err-judge_fields-clause-fault : goal.returns-in_err-judge_fields-clause-fault
returns-in_err-judge_fields-clause-fault g c =
    leaves (IsPartTextFault g.H.Host c.args.disk.now.host.now c.judge_fields.new.disk.host.now) c.from_residual-in_err-judge_fields.result c.in_err-judge_fields.field-0.0 c.from_residual-in_err-judge_fields.ensures.1 c.in_err-judge_fields.ensures.fault

pub judge_held-requires : goal.judge_held-requires
judge_held-requires g c = let same = ap length c.judge_fields.ensures.names in omega (arith, same, c.requires.few)

pub returns-clause-ok : goal.returns-clause-ok
returns-clause-ok g c = λ recs next told are.
    let x = c.in_ok-judge_fields.ensures.ok recs next told are in
    let now = c.judge_fields.new.tally in
    let fresh = fresh-of c.args.tally.now.names recs c.args.tally.now are.names_are c.requires.fresh in
    on_ok c.judge_held.result (λ (none : unheld_among (words_of now) now.names ≡ None). (held_none recs c.args.tally.now now fresh x.1 are.listed.own now.names (c.judge_fields.ensures.names ∙ are.names_are) x.0 none, x.1)) c.judge_held.ensures.ok

pub returns-clause-bad : goal.returns-clause-bad
returns-clause-bad g c = λ recs next told are.
    let x = c.in_ok-judge_fields.ensures.ok recs next told are in
    let now = c.judge_fields.new.tally in
    let fresh = fresh-of c.args.tally.now.names recs c.args.tally.now are.names_are c.requires.fresh in
    each_text (IsPlaced now.names (option_map (break 11) (unheld_among (words_of now) now.names))) (IsPlaced c.args.tally.now.names (words_broken (with_counts recs))) c.judge_held.result
    (λ f h. held_placed recs c.args.tally.now now fresh x.1 are.listed.own c.args.tally.now.names now.names f are.names_are c.judge_fields.ensures.names x.0 h) c.judge_held.ensures.bad

pub returns-clause-fault : goal.returns-clause-fault
returns-clause-fault g c =
    each_text IsTextRule (IsPartTextFault g.H.Host c.args.disk.now.host.now c.judge_fields.new.disk.host.now) c.judge_held.result (λ f h. rule_text g.H.Host c.args.disk.now.host.now c.judge_fields.new.disk.host.now f h) c.judge_held.ensures.plain

use Rattle.std.proofs.Common.{◌≡◌, ◌∙◌, ℕ, List, length, None, Option, ap, sym, subst, arith}
use Rattle.image_format.specs.declared.fault.Break.{Break}
use Rattle.image_format.specs.Rules.{words_in}
use Rattle.image_format.proofs.Writing.{on_ok}
use Rattle.image_reader.specs.declared.fault.LoadFault.TheVariants.{Memory}
use Rattle.image_reader.specs.Frames.{IsPartFault}
use Rattle.image_reader.specs.Inside.{IsRuleFault}
use Rattle.image_reader.specs.Judged.{IsJudged, IsOfWhole, broken_in, names_missed}
use Rattle.image_reader.specs.Tally.{counted, IsFresh}
use Rattle.image_reader.proofs.Frames.{each_fault, leaves, rule_fault}
use Rattle.image_reader.proofs.JudgeLaws.{are_of, are_stored, fresh-of, judged-first, judged-rest, missed-is, names-held, rest-judged}
use Rattle.image_reader.proofs.LookLaws.{read_none}
use Rattle.image_reader.proofs.judging.judge.Goals as goal

pub returns-in_err-buf-clause-bad : goal.returns-in_err-buf-clause-bad
returns-in_err-buf-clause-bad g c = λ recs next told are beside. leaves (IsJudged (broken_in recs c.args.state.now)) c.from_residual.result Memory c.from_residual.ensures.1 tt

pub returns-in_err-buf-clause-read : goal.returns-in_err-buf-clause-read
returns-in_err-buf-clause-read g c = read_none g.H.Host c.args.disk.now.host.now

pub returns-in_err-buf-clause-fault : goal.returns-in_err-buf-clause-fault
returns-in_err-buf-clause-fault g c = leaves (IsPartFault g.H.Host c.args.disk.now.host.now c.args.disk.now.host.now) c.from_residual.result Memory c.from_residual.ensures.1 tt

pub returns-in_err-tally-clause-bad : goal.returns-in_err-tally-clause-bad
returns-in_err-tally-clause-bad g c = λ recs next told are beside. leaves (IsJudged (broken_in recs c.args.state.now)) c.from_residual-in_err-tally.result Memory c.from_residual-in_err-tally.ensures.1 tt

pub returns-in_err-tally-clause-read : goal.returns-in_err-tally-clause-read
returns-in_err-tally-clause-read g c = read_none g.H.Host c.args.disk.now.host.now

pub returns-in_err-tally-clause-fault : goal.returns-in_err-tally-clause-fault
returns-in_err-tally-clause-fault g c = leaves (IsPartFault g.H.Host c.args.disk.now.host.now c.args.disk.now.host.now) c.from_residual-in_err-tally.result Memory c.from_residual-in_err-tally.ensures.1 tt

pub judge_words-requires : goal.judge_words-requires
judge_words-requires g c =
    let host = g.H.Host in
    let now = c.args.disk.now.host.now in
    let rest = c.args.disk.now.rest in
    let x = c.requires.read in
    let held = c.in_ok-tally.tally.names in
    let same = c.in_ok-tally.ensures.names in
    let are = are_of host now rest c.args.listed.names held x.0 x.1 same x.2 in
    record {
      stands = are_stored host now rest held x.0 x.1 are;
      held = names-held host now rest held x.0 x.1 are;
      fresh = subst (λ (ns : List ℕ). IsFresh ns c.in_ok-tally.tally) (sym same) c.in_ok-tally.ensures.fresh;
      few = omega (arith, c.requires.few, ap length same);
      beside = ap length c.deref.ensures.value ∙ c.requires.beside ∙ ap length (sym same);
    }

pub returns-in_err-judge_words-clause-bad : goal.returns-in_err-judge_words-clause-bad
returns-in_err-judge_words-clause-bad g c = λ recs next told are beside.
    let f = c.in_err-judge_words.field-0.0 in
    leaves (IsJudged (broken_in recs c.args.state.now)) c.from_residual-in_err-judge_words.result f c.from_residual-in_err-judge_words.ensures.1 (judged-first recs c.args.state.now f (c.in_err-judge_words.ensures.bad recs next told (are_of g.H.Host c.args.disk.now.host.now c.args.disk.now.rest c.args.listed.names c.in_ok-tally.tally.names recs next c.in_ok-tally.ensures.names are) (c.deref.ensures.value ∙ beside)))

pub returns-in_err-judge_words-clause-fault : goal.returns-in_err-judge_words-clause-fault
returns-in_err-judge_words-clause-fault g c =
    leaves (IsPartFault g.H.Host c.args.disk.now.host.now c.judge_words.new.disk.host.now) c.from_residual-in_err-judge_words.result c.in_err-judge_words.field-0.0 c.from_residual-in_err-judge_words.ensures.1 c.in_err-judge_words.ensures.fault

pub returns-clause-ok : goal.returns-clause-ok
returns-clause-ok g c = λ recs next told are beside.
    let x = c.in_ok-judge_words.ensures.ok recs next told (are_of g.H.Host c.args.disk.now.host.now c.args.disk.now.rest c.args.listed.names c.in_ok-tally.tally.names recs next c.in_ok-tally.ensures.names are) (c.deref.ensures.value ∙ beside) in
    let same = missed-is (words_in recs) recs c.in_ok-tally.tally c.judge_words.new.tally c.args.state.now (fresh-of c.args.listed.names recs c.in_ok-tally.tally are.names_are c.in_ok-tally.ensures.fresh) x.1 in
    on_ok c.judge_names.result (λ (none : names_missed (counted c.judge_words.new.tally) c.args.state.now ≡ None). rest-judged recs c.args.state.now x.0 ∙ sym same ∙ none) c.judge_names.ensures.ok

pub returns-clause-bad : goal.returns-clause-bad
returns-clause-bad g c = λ recs next told are beside.
    let x = c.in_ok-judge_words.ensures.ok recs next told (are_of g.H.Host c.args.disk.now.host.now c.args.disk.now.rest c.args.listed.names c.in_ok-tally.tally.names recs next c.in_ok-tally.ensures.names are) (c.deref.ensures.value ∙ beside) in
    let same = missed-is (words_in recs) recs c.in_ok-tally.tally c.judge_words.new.tally c.args.state.now (fresh-of c.args.listed.names recs c.in_ok-tally.tally are.names_are c.in_ok-tally.ensures.fresh) x.1 in
    each_fault (IsJudged (names_missed (counted c.judge_words.new.tally) c.args.state.now)) (IsJudged (broken_in recs c.args.state.now)) c.judge_names.result
    (λ f h. judged-rest recs c.args.state.now f x.0 (subst (λ (b : Option Break). IsJudged b f) same h)) c.judge_names.ensures.bad

pub returns-clause-fault : goal.returns-clause-fault
returns-clause-fault g c =
    each_fault IsRuleFault (IsPartFault g.H.Host c.args.disk.now.host.now c.judge_words.new.disk.host.now) c.judge_names.result (λ f h. rule_fault g.H.Host c.args.disk.now.host.now c.judge_words.new.disk.host.now f h) c.judge_names.ensures.fault

pub returns-in_err-buf-clause-rule : goal.returns-in_err-buf-clause-rule
returns-in_err-buf-clause-rule g c = leaves IsOfWhole c.from_residual.result Memory c.from_residual.ensures.1 tt

pub returns-in_err-tally-clause-rule : goal.returns-in_err-tally-clause-rule
returns-in_err-tally-clause-rule g c = leaves IsOfWhole c.from_residual-in_err-tally.result Memory c.from_residual-in_err-tally.ensures.1 tt

pub returns-in_err-judge_words-clause-rule : goal.returns-in_err-judge_words-clause-rule
returns-in_err-judge_words-clause-rule g c = leaves IsOfWhole c.from_residual-in_err-judge_words.result c.in_err-judge_words.field-0.0 c.from_residual-in_err-judge_words.ensures.1 c.in_err-judge_words.ensures.rule

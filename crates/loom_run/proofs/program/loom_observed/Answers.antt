-- The line is that of the answer of a command.
use Rattle.std.proofs.Common.{sym, ◌∙◌, ap, subst}
use Rattle.loom_words.specs.Command.{IsAsked}
use Rattle.loom_run.specs.Following.{TraceEnds}
use Rattle.loom_run.specs.Meanings.{meanings}
use Rattle.loom_run.specs.declared.converting.Way.TheVariants.{Listing, Assembling}
use Rattle.loom_run.specs.Steps.{ConversionEnds, MakeEnds, RunEnds}
use Rattle.loom_words.specs.Words.{error_of, texts_of}
use Rattle.loom_run.proofs.ConvertLaws.{promise-converted}
use Rattle.loom_run.proofs.HeadlineLaws.{headline_from}
use Rattle.loom_run.proofs.MakingLaws.{promise-made}
use Rattle.loom_run.proofs.TellingLaws.{promise-told, promise-usage}
use Rattle.loom_run.proofs.TracedTelling.{promise-traced}
use Rattle.loom_run.proofs.program.loom_observed.Goals as goal

pub returns-in-Ok-Run : goal.returns-in-Ok-Run
returns-in-Ok-Run g c =
    let tells = g.H.Host.tells in
    let before = meanings g.H.Host c.args.host.now in
    let mid = meanings g.H.Host c.run_command-status.new.host in
    let words = texts_of c.args.words.now in
    let asked = subst (IsAsked words) c.in-Ok-Run.field-0-is c.in-Ok-Run.ensures.asked in
    let promise = promise-told tells before mid (meanings g.H.Host c.tell.new.host) words c.run_command-status.result c.tell.result asked.0 (sym c.asked_of.ensures.bad ∙ ap error_of c.in-Ok-Run.is)
    (subst (λ row. RunEnds tells before mid row c.run_command-status.result) asked.1 c.run_command-status.ensures.ends) c.tell.ensures.others c.tell.ensures.told in
    record { promise = promise; headline = headline_from tells before (meanings g.H.Host c.tell.new.host) words c.tell.result promise }

pub returns-in-Ok-Make : goal.returns-in-Ok-Make
returns-in-Ok-Make g c =
    let tells = g.H.Host.tells in
    let before = meanings g.H.Host c.args.host.now in
    let mid = meanings g.H.Host c.make_image-status.new.host in
    let words = texts_of c.args.words.now in
    let asked = subst (IsAsked words) c.in-Ok-Make.field-0-is c.in-Ok-Make.ensures.asked in
    let promise = promise-made tells before mid (meanings g.H.Host c.tell-in-Ok-Make.new.host) words c.make_image-status.result c.tell-in-Ok-Make.result asked.0 (sym c.asked_of.ensures.bad ∙ ap error_of c.in-Ok-Make.is)
    (subst (λ row. MakeEnds tells before mid row c.make_image-status.result) asked.1 c.make_image-status.ensures.ends) c.tell-in-Ok-Make.ensures.others c.tell-in-Ok-Make.ensures.told in
    record { promise = promise; headline = headline_from tells before (meanings g.H.Host c.tell-in-Ok-Make.new.host) words c.tell-in-Ok-Make.result promise }

pub returns-in-Ok-Trace : goal.returns-in-Ok-Trace
returns-in-Ok-Trace g c =
    let tells = g.H.Host.tells in
    let before = meanings g.H.Host c.args.host.now in
    let mid = meanings g.H.Host c.trace_command-status.new.host in
    let words = texts_of c.args.words.now in
    let asked = subst (IsAsked words) c.in-Ok-Trace.field-0-is c.in-Ok-Trace.ensures.asked in
    let promise = promise-traced tells before mid (meanings g.H.Host c.tell-in-Ok-Trace.new.host) words c.trace_command-status.result c.tell-in-Ok-Trace.result asked.0 (sym c.asked_of.ensures.bad ∙ ap error_of c.in-Ok-Trace.is)
    (subst (λ row. TraceEnds tells before mid row c.trace_command-status.result) asked.1 c.trace_command-status.ensures.ends) c.tell-in-Ok-Trace.ensures.others c.tell-in-Ok-Trace.ensures.told in
    record { promise = promise; headline = headline_from tells before (meanings g.H.Host c.tell-in-Ok-Trace.new.host) words c.tell-in-Ok-Trace.result promise }

pub returns-in-Ok-List : goal.returns-in-Ok-List
returns-in-Ok-List g c =
    let tells = g.H.Host.tells in
    let before = meanings g.H.Host c.args.host.now in
    let mid = meanings g.H.Host c.convert-status.new.host in
    let words = texts_of c.args.words.now in
    let asked = subst (IsAsked words) c.in-Ok-List.field-0-is c.in-Ok-List.ensures.asked in
    let promise = promise-converted tells before mid (meanings g.H.Host c.tell-in-Ok-List.new.host) words Listing c.convert-status.result c.tell-in-Ok-List.result asked.0 (sym c.asked_of.ensures.bad ∙ ap error_of c.in-Ok-List.is)
    (subst (λ paths. ConversionEnds tells before mid Listing paths c.convert-status.result) asked.1 c.convert-status.ensures.ends) c.tell-in-Ok-List.ensures.others c.tell-in-Ok-List.ensures.told in
    record { promise = promise; headline = headline_from tells before (meanings g.H.Host c.tell-in-Ok-List.new.host) words c.tell-in-Ok-List.result promise }

pub returns-in-Ok-Assemble : goal.returns-in-Ok-Assemble
returns-in-Ok-Assemble g c =
    let tells = g.H.Host.tells in
    let before = meanings g.H.Host c.args.host.now in
    let mid = meanings g.H.Host c.convert-status-in-Ok-Assemble.new.host in
    let words = texts_of c.args.words.now in
    let asked = subst (IsAsked words) c.in-Ok-Assemble.field-0-is c.in-Ok-Assemble.ensures.asked in
    let promise = promise-converted tells before mid (meanings g.H.Host c.tell-in-Ok-Assemble.new.host) words Assembling c.convert-status-in-Ok-Assemble.result c.tell-in-Ok-Assemble.result asked.0 (sym c.asked_of.ensures.bad ∙ ap error_of c.in-Ok-Assemble.is)
    (subst (λ paths. ConversionEnds tells before mid Assembling paths c.convert-status-in-Ok-Assemble.result) asked.1 c.convert-status-in-Ok-Assemble.ensures.ends) c.tell-in-Ok-Assemble.ensures.others c.tell-in-Ok-Assemble.ensures.told in
    record { promise = promise; headline = headline_from tells before (meanings g.H.Host c.tell-in-Ok-Assemble.new.host) words c.tell-in-Ok-Assemble.result promise }

pub returns-in-Err : goal.returns-in-Err
returns-in-Err g c =
    let tells = g.H.Host.tells in
    let before = meanings g.H.Host c.args.host.now in
    let now = meanings g.H.Host c.tell-in-Err.new.host in
    let words = texts_of c.args.words.now in
    let promise = promise-usage tells before now words c.in-Err.word c.tell-in-Err.result (sym (ap error_of c.in-Err.is) ∙ c.asked_of.ensures.bad) c.tell-in-Err.ensures.told c.tell-in-Err.ensures.others in
    record { promise = promise; headline = headline_from tells before now words c.tell-in-Err.result promise }

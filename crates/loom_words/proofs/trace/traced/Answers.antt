use Rattle.std.proofs.Common.{rules, ◌≡◌}
use Rattle.loom_words.specs.Trace.{trace_text}
use Rattle.loom_words.proofs.Lines.{trace-short}
use Rattle.loom_words.proofs.trace.traced.Goals as goal

pub returns-clause-short : goal.returns-clause-short
returns-clause-short c =
    let is : c.push_str-4.new.self.bytes ≡ trace_text c.args.k c.args.context c.args.ip c.args.byte = search rules in
    rw is (trace-short c.args.k c.args.context c.args.ip c.args.byte (search rules) (search rules) (search rules) (search rules))

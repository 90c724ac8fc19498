use Rattle.std.proofs.Common.{List, ℕ, Result, Ok, take, drop, sym, ap, ◌∙◌}
use Rattle.long_names.specs.declared.object.Rec.{Rec}
use Rattle.image_format.specs.declared.fault.Halt.{Halt}
use Rattle.image_format.specs.Rules.{next_record_at}
use Rattle.image_reader.proofs.Stored.{buffer_has}
use Rattle.image_reader.proofs.records.take_record.Goals as goal

pub returns-clause-taken : goal.returns-clause-taken
returns-clause-taken c =
    let n = c.in_ok-measure.ensures.next in
    record {
      rec = n.rec;
      is = n.is;
      read = ap (next_record_at c.args.last c.args.next) (sym c.bytes.ensures) ∙ n.read ∙ ap (λ (b : List ℕ). let x : Result (Rec × List ℕ) Halt = Ok (n.rec, b) in x) (ap (drop c.in_ok-measure.measure.len) c.bytes.ensures ∙ sym c.skip.ensures.bytes);
      buffer = buffer_has _ _ _ _ n.is.0 (ap (take _) (c.bytes-2.ensures ∙ sym c.bytes.ensures) ∙ n.text) c.fill.ensures;
      named = n.named;
      stated = n.stated;
    }

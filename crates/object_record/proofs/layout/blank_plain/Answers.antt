use Rattle.object_record.proofs.Blanks.{plain-made}
use Rattle.std.proofs.Common.{◌≡◌, ℕ, ◌+◌, ◌-◌, ◌∙◌, List, ◌++◌, take, drop, replicate, ap}
use Rattle.object_record.specs.Buffer.{raw_of, HasRecord}
use Rattle.object_record.specs.Raw.{blank_record}
use Rattle.object_record.proofs.layout.blank_plain.Goals as goal

made : (c : goal.After-clear) → HasRecord c.clear.new.bytes.items × (raw_of c.clear.new.bytes.items ≡ blank_record c.args.name c.args.class c.args.kind c.args.len 0)
made c =
    let end : ℕ = 20 + c.plain_size-end.result in
    let head : List ℕ = c.write_head.new.bytes.items in
    plain-made c.clear.new.bytes.items head (drop 20 c.args.bytes.now.items) c.args.name c.args.class c.args.len end c.args.kind c.write_head.ensures.names.0 c.write_head.ensures.names.1 c.requires.plain c.ranges.len.fits c.write_head.ensures.head (ap (λ (n : ℕ). 20 + n) c.plain_size-end.ensures.size)
    (c.clear.ensures.bytes ∙ ap (λ (n : ℕ). take 20 head ++ (replicate {A = ℕ} (end + n - 20) 0 ++ drop (end + n) head)) c.padding_of.ensures)

pub returns-clause-record : goal.returns-clause-record
returns-clause-record c = (made c).0

pub returns-clause-blank : goal.returns-clause-blank
returns-clause-blank c = (made c).1

use Rattle.object_record.proofs.Blanks.{method-made}
use Rattle.std.proofs.Common.{◌≡◌, ℕ, ◌+◌, ◌*◌, ◌-◌, ◌∙◌, List, ◌++◌, take, drop, replicate, ap}
use Rattle.long_names.specs.declared.object.Kind.TheVariants as kind
use Rattle.object_record.specs.Buffer.{raw_of, HasRecord}
use Rattle.object_record.specs.Raw.{blank_record}
use Rattle.object_record.proofs.layout.blank_method.Goals as goal

made : (c : goal.After-clear) → HasRecord c.clear.new.bytes.items × (raw_of c.clear.new.bytes.items ≡ blank_record c.args.name c.args.class kind.Method c.args.len c.args.literals)
made c =
    let end : ℕ = 28 + 4 * c.args.literals + c.args.len in
    let both : List ℕ = c.write_header.new.bytes.items in
    method-made c.clear.new.bytes.items c.write_head.new.bytes.items both (drop 20 c.args.bytes.now.items) c.args.name c.args.class c.args.len c.args.literals c.write_head.ensures.names.0 c.write_head.ensures.names.1 c.requires.size c.requires.few c.write_head.ensures.head c.write_header.ensures.header
    (c.clear.ensures.bytes ∙ ap (λ (n : ℕ). take 28 both ++ (replicate {A = ℕ} (end + n - 28) 0 ++ drop (end + n) both)) c.padding_of.ensures)

pub returns-clause-record : goal.returns-clause-record
returns-clause-record c = (made c).0

pub returns-clause-blank : goal.returns-clause-blank
returns-clause-blank c = (made c).1

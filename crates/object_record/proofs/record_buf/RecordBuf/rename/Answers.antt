use Rattle.std.proofs.Common.{◌≡◌, ℕ, List, ◌∙◌, ap, sym, subst, arith}
use Rattle.long_names.specs.Objects.{put_run}
use Rattle.long_names.specs.Record.{four_bytes}
use Rattle.object_record.specs.Buffer.{raw_of, HasRecord}
use Rattle.object_record.specs.Raw.{with_name}
use Rattle.object_record.proofs.Calls.{set-name}
use Rattle.object_record.proofs.record_buf.RecordBuf.rename.Goals as goal

abbrev Done : goal.After-put → Type 0
Done c = HasRecord c.put.new.bytes.items × (raw_of c.put.new.bytes.items ≡ with_name (raw_of c.args.self.now) c.args.name)

done : (c : goal.After-put) → Done c
unfolding four_bytes
done c =
    let set = set-name c.args.self.now c.args.name c.requires (c.get.ensures.name, omega arith) in
    let bytes = c.to_be_bytes.ensures ∙ ap four_bytes c.get.ensures.value in
    let same : c.put.new.bytes.items ≡ put_run c.args.self.now 0 (four_bytes c.args.name) = c.put.ensures.bytes ∙ ap (λ (t : List ℕ). put_run t 0 c.to_be_bytes.result) c.self.view_is ∙ ap (λ (t : List ℕ). put_run c.args.self.now 0 t) bytes in
    (subst HasRecord (sym same) set.0, ap raw_of same ∙ set.1)

pub returns-clause-record : goal.returns-clause-record
returns-clause-record c = (done c).0

pub returns-clause-set : goal.returns-clause-set
returns-clause-set c = (done c).1

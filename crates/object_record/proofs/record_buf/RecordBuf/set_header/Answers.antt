use Rattle.std.proofs.Common.{◌≡◌, ℕ, List, ◌∙◌, ap, sym, subst}
use Rattle.long_names.specs.Objects.{put_run}
use Rattle.long_names.specs.Record.{four_bytes}
use Rattle.object_record.specs.Buffer.{raw_of, HasRecord}
use Rattle.object_record.specs.Raw.{with_header}
use Rattle.object_record.proofs.Calls.{set-header}
use Rattle.object_record.proofs.record_buf.RecordBuf.set_header.Goals as goal

abbrev Done : goal.After-put → Type 0
Done c = HasRecord c.put.new.bytes.items × (raw_of c.put.new.bytes.items ≡ with_header (raw_of c.args.self.now) c.args.word)

done : (c : goal.After-put) → Done c
unfolding four_bytes
done c =
    let set = set-header c.args.self.now c.args.word c.requires.record c.requires.method c.requires.states c.ranges.word.fits in
    let same : c.put.new.bytes.items ≡ put_run c.args.self.now 24 (four_bytes c.args.word) = c.put.ensures.bytes ∙ ap (λ (t : List ℕ). put_run t 24 c.to_be_bytes.result) c.self.view_is ∙ ap (λ (t : List ℕ). put_run c.args.self.now 24 t) c.to_be_bytes.ensures in
    (subst HasRecord (sym same) set.0, ap raw_of same ∙ set.1)

pub returns-clause-record : goal.returns-clause-record
returns-clause-record c = (done c).0

pub returns-clause-set : goal.returns-clause-set
returns-clause-set c = (done c).1

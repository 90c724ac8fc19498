use Rattle.std.proofs.Common.{◌≡◌, ◌++◌, ℕ, List, length, drop, ap, ◌∙◌, arith}
use Rattle.long_names.specs.Record.{record_text}
use Rattle.image_format.proofs.Lengths.{longest}
use Rattle.image_reader.proofs.Stored.{buffer_has}
use Rattle.image_text.proofs.reading.fill_record.Goals as goal

pub fill-requires : goal.fill-requires
fill-requires c =
    let text : c.bytes.result.now ≡ record_text c.args.rec.now = c.bytes.ensures ∙ c.in_ok-encode_rec.ensures.ok ∙ ap (λ (t : List ℕ). t ++ record_text c.args.rec.now) c.new-out.ensures in
    let len = ap length text in
    let most = longest c.args.rec.now c.in_ok-encode_rec.ensures.record in
    omega (arith, len, most)

pub returns-clause-buffer : goal.returns-clause-buffer
returns-clause-buffer c =
    let text : c.bytes.result.now ≡ record_text c.args.rec.now = c.bytes.ensures ∙ c.in_ok-encode_rec.ensures.ok ∙ ap (λ (t : List ℕ). t ++ record_text c.args.rec.now) c.new-out.ensures in
    buffer_has c.bytes.result.now (drop (length c.bytes.result.now) c.args.buf.now) c.fill.new.self c.args.rec.now c.in_ok-encode_rec.ensures.record text c.fill.ensures

use Rattle.std.proofs.Common.{◌≡◌, ℕ, List, ◌++◌, ◌≤◌, length, take, drop, ap, sym, subst, ◌∙◌, arith}
use Rattle.std.proofs.lemmas.List.{length-take}
use Rattle.long_names.specs.Record.{eight_bytes}
use Rattle.object_record.specs.Buffer.{raw_of}
use Rattle.object_record.specs.Raw.{raw_text}
use Rattle.disk_objects.specs.Disk.{with_count}
use Rattle.image_writer.proofs.GatherLaws.{then_gathers, stop_gathers, gathers_of}
use Rattle.image_writer.proofs.RecordTexts.{recounted, long_text}
use Rattle.image_writer.proofs.pieces.put_counted.Goals as goal

pub split_at-requires : goal.split_at-requires
split_at-requires g c = subst (λ (s : List ℕ). 16 ≤ length s) (sym c.bytes-bytes.ensures) (long_text (raw_of c.args.buf.now))

pub slice_bounds-put-end : goal.slice_bounds-put-end
slice_bounds-put-end g c =
    let long = subst (λ (s : List ℕ). 16 ≤ length s) (sym c.bytes-bytes.ensures) (long_text (raw_of c.args.buf.now)) in
    omega (arith, long, length-take 8 c.bytes-bytes.result.now)

pub returns-in_err-put-clause-gathers : goal.returns-in_err-put-clause-gathers
returns-in_err-put-clause-gathers g c =
    let text = subst (λ (s : List ℕ). take 8 s ++ (eight_bytes c.args.count ++ drop 16 s) ≡ raw_text (with_count (raw_of c.args.buf.now) c.args.count)) (sym c.bytes-bytes.ensures) (recounted (raw_of c.args.buf.now) c.args.count) in
    gathers_of g.H.Host _ _ _ _ _ _ c.from_residual.result text
    (stop_gathers g.H.Host _ _ _ _ _ (take 8 c.bytes-bytes.result.now) (eight_bytes c.args.count ++ drop 16 c.bytes-bytes.result.now) c.in_err-put.field-0.0 c.from_residual.result c.in_err-put.ensures.gathers c.from_residual.ensures.1)

pub returns-in_err-put-2-clause-gathers : goal.returns-in_err-put-2-clause-gathers
returns-in_err-put-2-clause-gathers g c =
    let text = subst (λ (s : List ℕ). take 8 s ++ (eight_bytes c.args.count ++ drop 16 s) ≡ raw_text (with_count (raw_of c.args.buf.now) c.args.count)) (sym c.bytes-bytes.ensures) (recounted (raw_of c.args.buf.now) c.args.count) in
    let count = ap (λ (s : List ℕ). take 8 c.bytes-bytes.result.now ++ (s ++ drop 16 c.bytes-bytes.result.now)) c.bytes_of_u64.ensures in
    gathers_of g.H.Host _ _ _ _ _ _ c.from_residual-in_err-put-2.result (count ∙ text)
    (then_gathers g.H.Host _ _ _ _ _ _ (take 8 c.bytes-bytes.result.now) (c.bytes_of_u64.result ++ drop 16 c.bytes-bytes.result.now) _ c.from_residual-in_err-put-2.result c.in_ok-put.ensures.gathers
    (stop_gathers g.H.Host _ _ _ _ _ c.bytes_of_u64.result (drop 16 c.bytes-bytes.result.now) c.in_err-put-2.field-0.0 c.from_residual-in_err-put-2.result c.in_err-put-2.ensures.gathers c.from_residual-in_err-put-2.ensures.1))

pub returns-clause-gathers : goal.returns-clause-gathers
returns-clause-gathers g c =
    let text = subst (λ (s : List ℕ). take 8 s ++ (eight_bytes c.args.count ++ drop 16 s) ≡ raw_text (with_count (raw_of c.args.buf.now) c.args.count)) (sym c.bytes-bytes.ensures) (recounted (raw_of c.args.buf.now) c.args.count) in
    let count = ap (λ (s : List ℕ). take 8 c.bytes-bytes.result.now ++ (s ++ drop 16 c.bytes-bytes.result.now)) c.bytes_of_u64.ensures in
    let tail : c.split_at.result.1.now ≡ drop 16 c.bytes-bytes.result.now = search in
    gathers_of g.H.Host _ _ _ _ _ _ c.put-3.result (ap (λ (s : List ℕ). take 8 c.bytes-bytes.result.now ++ (c.bytes_of_u64.result ++ s)) tail ∙ count ∙ text)
    (then_gathers g.H.Host _ _ _ _ _ _ (take 8 c.bytes-bytes.result.now) (c.bytes_of_u64.result ++ c.split_at.result.1.now) _ c.put-3.result c.in_ok-put.ensures.gathers
    (then_gathers g.H.Host _ _ _ _ _ _ c.bytes_of_u64.result c.split_at.result.1.now _ c.put-3.result c.in_ok-put-2.ensures.gathers c.put-3.ensures.gathers))

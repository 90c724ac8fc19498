use Rattle.std.proofs.Common.{length, ap, ◌∙◌, arith}
use Rattle.object_record.specs.Buffer.{raw_of}
use Rattle.object_record.proofs.Calls.{length-text}
use Rattle.object_record.proofs.Records.{longest-raw}
use Rattle.disk_objects.proofs.ClassLaws.{class-some, class-is}
use Rattle.disk_objects.proofs.record.size_class_for.Goals as goal

pub unwrap-requires : goal.unwrap-requires
unwrap-requires c =
    let most = longest-raw (raw_of c.args.buf.now) c.requires.is in
    let all = ap length c.bytes.ensures in
    class-some _ c.size_class_of.result c.size_class_of.ensures.none (omega arith)

pub returns : goal.returns
returns c = class-is _ _ c.size_class_of.result c.unwrap.result (ap length c.bytes.ensures ∙ length-text (raw_of c.args.buf.now)) c.unwrap.ensures
    c.size_class_of.ensures.class c.size_class_of.ensures.room c.size_class_of.ensures.smallest

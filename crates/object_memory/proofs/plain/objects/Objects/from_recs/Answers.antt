use Rattle.std.proofs.Common.{◌∙◌, sym, take, ap, add-one}
use Rattle.long_names.specs.Heap.{Heap, put_object}
use Rattle.long_names.specs.declared.object.Body.{Body}
use Rattle.object_memory.specs.Records.{heap_of_recs}
use Rattle.object_memory.proofs.RecordLaws.{heap_of_recs-more}
use Rattle.object_memory.proofs.plain.objects.Objects.from_recs.Goals as goal

pub loop-i-preserved : goal.loop-i-preserved
loop-i-preserved c =
    let rec = c.item-rec.result.now in
    let recs = c.args.recs.now in
    let i = c.loop-i.i in
    c.in_ok-put.ensures.ok
    ∙ ap (λ (h : Heap). put_object h rec.name (record { class = rec.class; body = c.in_ok-clone.field-0 })) c.loop-i.invariant
    ∙ ap (λ (b : Body). put_object (heap_of_recs (take i recs) c.args.next) rec.name (record { class = rec.class; body = b })) c.in_ok-clone.ensures.cases.0
    ∙ heap_of_recs-more 0 recs c.args.next i rec c.requires.rise c.item-rec.ensures
    ∙ ap (λ n. heap_of_recs (take n recs) c.args.next) (sym (add-one i))

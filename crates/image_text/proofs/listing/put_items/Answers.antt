use Rattle.std.proofs.Common.{◌≡◌, ◌+◌, ◌<◌, length, get_or, take, drop, Some, refl, ◌∙◌, arith}
use Rattle.std.specs.Prelude.{slice_get}
use Rattle.std.specs.List.{flat_map}
use Rattle.std.proofs.lemmas.Option.{slice_get-get_or}
use Rattle.object_record.specs.Buffer.{raw_of}
use Rattle.image_writer.proofs.GatherLaws.{gathers_of, no_gathers}
use Rattle.image_writer.proofs.PutsLaws.{more_text, rest_text, all_text}
use Rattle.image_text.specs.Items.{item_text, items_of}
use Rattle.image_text.proofs.PutSteps.{then_part, stop_part}
use Rattle.image_text.proofs.listing.put_items.Goals as goal

pub loop-i-init : goal.loop-i-init
loop-i-init g c = record { rest = refl; same_host = refl; gathers = no_gathers g.H.Host c.args.disk.now.host.now c.args.gathered.now (tt {0}) }

pub loop-i-preserved : goal.loop-i-preserved
loop-i-preserved g c =
    let xs = items_of c.args.items (raw_of c.args.buf.now).body in
    let x = get_or xs c.loop-i.i 0 in
    let lt : c.loop-i.i < length xs = omega arith in
    let there : slice_get xs c.loop-i.i ≡ Some x = slice_get-get_or xs c.loop-i.i 0 lt in
    record {
      rest = c.in_ok-put.ensures.rest ∙ c.loop-i.invariant.rest;
      same_host = c.in_ok-put.ensures.same_host ∙ c.loop-i.invariant.same_host;
      gathers = then_part g.H.Host _ _ _ _ _ _ (flat_map (item_text c.args.items) (take c.loop-i.i xs)) _ (item_text c.args.items x) _ (tt {0}) _
          (c.as_bytes.ensures.value ∙ c.as_str.ensures.value ∙ c.item_part-part.ensures) (more_text (item_text c.args.items) xs c.loop-i.i x there) c.loop-i.invariant.gathers c.in_ok-put.ensures.gathers;
    }

pub returns-in_err-put-clause-gathers : goal.returns-in_err-put-clause-gathers
returns-in_err-put-clause-gathers g c =
    let xs = items_of c.args.items (raw_of c.args.buf.now).body in
    let x = get_or xs c.loop-i.i 0 in
    let lt : c.loop-i.i < length xs = omega arith in
    let there : slice_get xs c.loop-i.i ≡ Some x = slice_get-get_or xs c.loop-i.i 0 lt in
    stop_part g.H.Host _ _ _ _ _ _ _ (flat_map (item_text c.args.items) (take c.loop-i.i xs)) _ (item_text c.args.items x) (flat_map (item_text c.args.items) (drop (c.loop-i.i + 1) xs)) _ (tt {0}) c.in_err-put.field-0.0 c.from_residual.result
    (c.as_bytes.ensures.value ∙ c.as_str.ensures.value ∙ c.item_part-part.ensures) (rest_text (item_text c.args.items) xs c.loop-i.i x there) c.loop-i.invariant.gathers c.in_err-put.ensures.gathers c.from_residual.ensures.1

pub returns-clause-gathers : goal.returns-clause-gathers
returns-clause-gathers g c =
    let xs = items_of c.args.items (raw_of c.args.buf.now).body in
    gathers_of g.H.Host _ _ _ _ _ _ _ (all_text (item_text c.args.items) xs c.loop-i.i (omega arith)) c.loop-i.invariant.gathers

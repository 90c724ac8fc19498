use Rattle.std.proofs.Common.{◌++◌, codes, refl, ap, ◌∙◌, append_assoc}
use Rattle.std.specs.List.{flat_map}
use Rattle.object_record.specs.Buffer.{raw_of}
use Rattle.object_record.specs.Raw.{longs_of, raw_bytes, raw_header}
use Rattle.image_text.specs.Items.{item_text}
use Rattle.image_text.specs.declared.spelling.Items.TheVariants.{Values, Bytes}
use Rattle.image_text.proofs.LineLaws.{code_length, literals_length, method_contents}
use Rattle.image_text.proofs.PutSteps.{then_part, stop_part, stop_first}
use Rattle.image_text.proofs.listing.put_method.Goals as goal

pub put_items-requires : goal.put_items-requires
put_items-requires g c = record { «record» = c.requires.record; count = c.literals.ensures ∙ literals_length (raw_of c.args.buf.now).body c.requires.method }

pub put_items-requires-2 : goal.put_items-requires-2
put_items-requires-2 g c = record { «record» = c.requires.record; count = c.len.ensures ∙ code_length (raw_of c.args.buf.now).body c.requires.method }

pub returns-in_err-put-clause-gathers : goal.returns-in_err-put-clause-gathers
returns-in_err-put-clause-gathers g c =
    let b = (raw_of c.args.buf.now).body in
    let a1 = item_text Values (raw_header b) in
    let a2 = flat_map (item_text Values) (longs_of b) in
    let a4 = flat_map (item_text Bytes) (raw_bytes b) in
    stop_first g.H.Host _ _ _ _ _ _ a1 (a2 ++ (codes " code" ++ a4)) _ c.in_err-put.field-0.0 c.from_residual.result
    (c.as_bytes.ensures.value ∙ c.as_str.ensures.value ∙ c.value_part-header.ensures ∙ ap (item_text Values) c.header.ensures) (method_contents b c.requires.method) c.in_err-put.ensures.gathers c.from_residual.ensures.1

pub returns-in_err-put_items-clause-gathers : goal.returns-in_err-put_items-clause-gathers
returns-in_err-put_items-clause-gathers g c =
    let b = (raw_of c.args.buf.now).body in
    let a1 = item_text Values (raw_header b) in
    let a2 = flat_map (item_text Values) (longs_of b) in
    let a4 = flat_map (item_text Bytes) (raw_bytes b) in
    stop_part g.H.Host _ _ _ _ _ _ _ _ _ a2 (codes " code" ++ a4) _ _ c.in_err-put_items.field-0.0 c.from_residual-in_err-put_items.result
    refl (rw (c.as_bytes.ensures.value ∙ c.as_str.ensures.value ∙ c.value_part-header.ensures ∙ ap (item_text Values) c.header.ensures) (method_contents b c.requires.method)) c.in_ok-put.ensures.gathers c.in_err-put_items.ensures.gathers c.from_residual-in_err-put_items.ensures.1

pub returns-in_err-put-2-clause-gathers : goal.returns-in_err-put-2-clause-gathers
returns-in_err-put-2-clause-gathers g c =
    let b = (raw_of c.args.buf.now).body in
    let a1 = item_text Values (raw_header b) in
    let a2 = flat_map (item_text Values) (longs_of b) in
    let a4 = flat_map (item_text Bytes) (raw_bytes b) in
    let first = c.as_bytes.ensures.value ∙ c.as_str.ensures.value ∙ c.value_part-header.ensures ∙ ap (item_text Values) c.header.ensures in
    stop_part g.H.Host _ _ _ _ _ _ _ (a1 ++ a2) _ (codes " code") a4 _ _ c.in_err-put-2.field-0.0 c.from_residual-in_err-put-2.result
    refl (append_assoc a1 a2 (codes " code" ++ a4) ∙ method_contents b c.requires.method)
    (then_part g.H.Host _ _ _ _ _ _ _ _ a2 (a1 ++ a2) _ _ refl (rw first refl) c.in_ok-put.ensures.gathers c.in_ok-put_items.ensures.gathers)
    c.in_err-put-2.ensures.gathers c.from_residual-in_err-put-2.ensures.1

pub returns-clause-gathers : goal.returns-clause-gathers
returns-clause-gathers g c =
    let b = (raw_of c.args.buf.now).body in
    let a1 = item_text Values (raw_header b) in
    let a2 = flat_map (item_text Values) (longs_of b) in
    let a4 = flat_map (item_text Bytes) (raw_bytes b) in
    let first = c.as_bytes.ensures.value ∙ c.as_str.ensures.value ∙ c.value_part-header.ensures ∙ ap (item_text Values) c.header.ensures in
    then_part g.H.Host _ _ _ _ _ _ ((a1 ++ a2) ++ codes " code") _ a4 _ _ _
    refl (append_assoc (a1 ++ a2) (codes " code") a4 ∙ append_assoc a1 a2 (codes " code" ++ a4) ∙ method_contents b c.requires.method)
    (then_part g.H.Host _ _ _ _ _ _ (a1 ++ a2) _ (codes " code") ((a1 ++ a2) ++ codes " code") _ _ refl refl
    (then_part g.H.Host _ _ _ _ _ _ _ _ a2 (a1 ++ a2) _ _ refl (rw first refl) c.in_ok-put.ensures.gathers c.in_ok-put_items.ensures.gathers)
    c.in_ok-put-2.ensures.gathers)
    c.put_items-2.ensures.gathers

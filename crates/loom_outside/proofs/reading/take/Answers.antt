use Rattle.std.proofs.Common.{ℕ, List, ◌+◌, ◌-◌, ◌<◌, [], ◌≡◌, ◌∙◌, ap, sym, take, drop, length, length-take, arith}
use Rattle.std.proofs.lemmas.List.{get_or-map, length-map}
use Rattle.loom_outside.specs.Files.{contents, bytes_at}
use Rattle.loom_outside.specs.declared.files.File.{File}
use Rattle.loom_outside.proofs.Taken.{Took-part}
use Rattle.loom_outside.proofs.reading.take.Goals as goal

pub returns-clause-took : goal.returns-clause-took
returns-clause-took c =
    let r = c.args.reader.now in
    let n = c.min-n.result in
    let bytes = bytes_at (contents c.args.files.now) r.file in
    let there : r.file < length c.args.files.now = rw (length-map c.args.files.now (λ (f : File). f.bytes.items)) at c.requires.0 in
    let read : c.deref.result.now ≡ bytes = c.deref.ensures.value ∙ sym (get_or-map (λ (f : File). f.bytes.items) c.args.files.now r.file c.index-files-reader.result [] there) in
    let count : r.taken + n - r.taken ≡ n = omega arith in
    let sized : length c.copy_from_slice.new.self ≡ n = omega (arith, c.copy_from_slice.ensures.len, length-take n c.args.buf.now, c.min-n.ensures, c.min.ensures) in
    let copied = c.copy_from_slice.ensures.after ∙ ap (λ (k : ℕ). take k (drop r.taken c.deref.result.now)) count ∙ ap (λ (l : List ℕ). take n (drop r.taken l)) read in
    Took-part _ r.taken n r.end bytes _ _ r.order (omega (arith, c.min-n.ensures)) c.requires.1 sized copied

use Rattle.std.proofs.Common.{◌++◌, ℕ, List, [], ap, arith}
use Rattle.loom_host.specs.declared.outside.Role.TheVariants.{Image, Work}
use Rattle.image_reader.proofs.Frames.{leaves, loading_then, reads_loading}
use Rattle.image_reader.proofs.Stored.{still_stored, stored_none}
use Rattle.image_text.specs.Assembled.{IsPartTextFault}
use Rattle.image_text.specs.Inside.{IsUnread}
use Rattle.image_text.proofs.ReadLaws.{few_unread, head_unread, objects_unread, reads_text, text_later}
use Rattle.image_text.proofs.reading.read_text.Goals as goal

pub returns-in_err-head-clause-bad : goal.returns-in_err-head-clause-bad
returns-in_err-head-clause-bad g c =
    let old = c.args.disk.now.host.now in
    let begun = ap (λ (s : List ℕ). s ++ (g.H.Host.roles old Image).left) c.new-window.ensures.bytes in
    leaves (IsUnread g.H.Host old) c.from_residual.result c.in_err-head.field-0.0 c.from_residual.ensures.1
    (head_unread g.H.Host old c.new-window.result c.in_err-head.field-0.0 begun c.in_err-head.ensures.bad)

pub read_objects-requires-clause-empty : goal.read_objects-requires-clause-empty
read_objects-requires-clause-empty g c = λ told.
    let old = c.args.disk.now.host.now in
    let rest = c.args.disk.now.rest in
    still_stored g.H.Host old c.read_head.new.disk.host.now rest c.read_head.new.disk.rest [] (c.read_head.ensures.reads_image.others Work (λ e. cc)) c.read_head.ensures.same_rest (stored_none g.H.Host old rest (c.requires.empty told))

pub returns-in_err-names-clause-bad : goal.returns-in_err-names-clause-bad
returns-in_err-names-clause-bad g c =
    let old = c.args.disk.now.host.now in
    let begun = ap (λ (s : List ℕ). s ++ (g.H.Host.roles old Image).left) c.new-window.ensures.bytes in
    leaves (IsUnread g.H.Host old) c.from_residual-in_err-names.result c.in_err-names.field-0.0 c.from_residual-in_err-names.ensures.1
    (objects_unread g.H.Host old c.read_head.new.disk.host.now c.new-window.result c.read_head.new.window c.in_ok-head.head begun c.in_err-names.field-0.0 c.in_ok-head.ensures.reads c.in_err-names.ensures.bad)

pub returns-then-len-clause-bad : goal.returns-then-len-clause-bad
returns-then-len-clause-bad g c =
    let old = c.args.disk.now.host.now in
    let begun = ap (λ (s : List ℕ). s ++ (g.H.Host.roles old Image).left) c.new-window.ensures.bytes in
    few_unread g.H.Host old c.read_head.new.disk.host.now c.new-window.result c.read_head.new.window c.in_ok-head.head begun c.read_objects.new.disk.host.now c.read_objects.new.disk.rest c.in_ok-names.names
    c.in_ok-head.ensures.reads c.in_ok-names.ensures.reads (omega (arith, c.if-len.true, c.len.ensures))

pub returns-in_err-head-clause-loading : goal.returns-in_err-head-clause-loading
returns-in_err-head-clause-loading g c = reads_loading g.H.Host c.args.disk.now.host.now c.read_head.new.disk.host.now c.read_head.ensures.reads_image

pub returns-in_err-names-clause-loading : goal.returns-in_err-names-clause-loading
returns-in_err-names-clause-loading g c = loading_then g.H.Host c.args.disk.now.host.now c.read_head.new.disk.host.now c.read_objects.new.disk.host.now (reads_loading g.H.Host c.args.disk.now.host.now c.read_head.new.disk.host.now c.read_head.ensures.reads_image) c.read_objects.ensures.loading

pub returns-then-len-clause-loading : goal.returns-then-len-clause-loading
returns-then-len-clause-loading g c = loading_then g.H.Host c.args.disk.now.host.now c.read_head.new.disk.host.now c.read_objects.new.disk.host.now (reads_loading g.H.Host c.args.disk.now.host.now c.read_head.new.disk.host.now c.read_head.ensures.reads_image) c.read_objects.ensures.loading

pub returns-clause-loading : goal.returns-clause-loading
returns-clause-loading g c = loading_then g.H.Host c.args.disk.now.host.now c.read_head.new.disk.host.now c.read_objects.new.disk.host.now (reads_loading g.H.Host c.args.disk.now.host.now c.read_head.new.disk.host.now c.read_head.ensures.reads_image) c.read_objects.ensures.loading

pub returns-in_err-names-clause-fault : goal.returns-in_err-names-clause-fault
returns-in_err-names-clause-fault g c =
    let old = c.args.disk.now.host.now in
    let mid = c.read_head.new.disk.host.now in
    let new = c.read_objects.new.disk.host.now in
    leaves (IsPartTextFault g.H.Host old new) c.from_residual-in_err-names.result c.in_err-names.field-0.0 c.from_residual-in_err-names.ensures.1
    (text_later g.H.Host old mid new c.in_err-names.field-0.0 (reads_loading g.H.Host old mid c.read_head.ensures.reads_image) c.in_err-names.ensures.fault)

pub returns-clause-reads : goal.returns-clause-reads
returns-clause-reads g c =
    let old = c.args.disk.now.host.now in
    let begun = ap (λ (s : List ℕ). s ++ (g.H.Host.roles old Image).left) c.new-window.ensures.bytes in
    reads_text g.H.Host old c.read_head.new.disk.host.now c.new-window.result c.read_head.new.window c.in_ok-head.head begun c.read_objects.new.disk.host.now c.read_objects.new.disk.rest c.in_ok-names.names
    c.in_ok-head.ensures.reads c.in_ok-names.ensures.reads (omega (arith, c.if-len.false, c.len.ensures))

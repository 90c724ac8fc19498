use Rattle.std.proofs.Common.{ap, ◌∙◌, arith}
use Rattle.loom_host.specs.declared.outside.Role.TheVariants.{Image}
use Rattle.loom_host.specs.Outside.{RoleState}
use Rattle.image_format.specs.Heads.{is_next}
use Rattle.image_reader.proofs.Frames.{leaves, loading_then}
use Rattle.image_reader.proofs.JudgeLaws.{many-of}
use Rattle.text_lines.specs.Breaks.{image_of}
use Rattle.image_text.specs.Assembled.{IsTextFault}
use Rattle.image_text.specs.Lines.{head_read}
use Rattle.image_text.proofs.AssembleLaws.{assembled_heap, assembled_state, assembled_text, judged_fault, read_fault, stated_read}
use Rattle.image_text.proofs.JudgeTexts.{text_later}
use Rattle.image_text.proofs.assembling.assemble.Goals as goal

pub returns-in_err-head-clause-fault : goal.returns-in_err-head-clause-fault
returns-in_err-head-clause-fault g c =
    let f = c.in_err-head.field-0.0 in
    leaves (IsTextFault g.H.Host c.args.disk.now.host.now c.read_text.new.disk.host.now) c.from_residual.result f c.from_residual.ensures.1
    (read_fault g.H.Host c.args.disk.now.host.now c.read_text.new.disk.host.now f c.in_err-head.ensures.bad c.in_err-head.ensures.fault)

pub judge_text-requires : goal.judge_text-requires
judge_text-requires g c = let x = c.in_ok-head.ensures.reads in record { few = x.few; read = (x.recs, x.are, x.uncounted) }

pub returns-in_err-judge_text-clause-loading : goal.returns-in_err-judge_text-clause-loading
returns-in_err-judge_text-clause-loading g c = loading_then g.H.Host c.args.disk.now.host.now c.read_text.new.disk.host.now c.judge_text.new.disk.host.now c.read_text.ensures.loading c.judge_text.ensures.loading

pub returns-in_err-judge_text-clause-fault : goal.returns-in_err-judge_text-clause-fault
returns-in_err-judge_text-clause-fault g c =
    let f = c.in_err-judge_text.field-0.0 in
    let x = c.in_ok-head.ensures.reads in
    leaves (IsTextFault g.H.Host c.args.disk.now.host.now c.judge_text.new.disk.host.now) c.from_residual-in_err-judge_text.result f c.from_residual-in_err-judge_text.ensures.1
    (judged_fault g.H.Host c.args.disk.now.host.now c.judge_text.new.disk.host.now (head_read c.in_ok-head.head) x.recs f x.read (λ told. c.in_err-judge_text.ensures.bad x.recs told x.are x.uncounted) c.in_err-judge_text.ensures.rule
    (text_later g.H.Host c.args.disk.now.host.now c.read_text.new.disk.host.now c.judge_text.new.disk.host.now f c.read_text.ensures.loading c.in_err-judge_text.ensures.fault))

pub returns-clause-text : goal.returns-clause-text
returns-clause-text g c = λ image told.
    let x = c.in_ok-head.ensures.reads in
    let ok = c.in_ok-judge_text.ensures.ok x.recs told x.are x.uncounted in
    assembled_text g.H.Host c.judge_text.new.disk.host.now c.judge_text.new.disk.rest (head_read c.in_ok-head.head) x.recs ok.1 ok.0 (g.H.Host.roles c.args.disk.now.host.now Image).left c.loaded.result.next c.loaded.result.state c.loaded.ensures.next c.loaded.ensures.state (x.read image)

pub returns-clause-stated : goal.returns-clause-stated
returns-clause-stated g c = λ image.
    let x = c.in_ok-head.ensures.reads in
    let many = many-of c.in_ok-head.names x.recs x.are.names_are in
    record {
      image = image_of (head_read c.in_ok-head.head) x.recs;
      read = x.read image;
      objects_fit = omega (arith, many, x.held, c.judge_text.ensures.held, c.len.ensures.value, c.loaded.ensures.objects);
      next_is = c.loaded.ensures.next;
      state_is = c.loaded.ensures.state;
    }

pub returns-clause-heap : goal.returns-clause-heap
returns-clause-heap g c = λ told.
    let x = c.in_ok-head.ensures.reads in
    let ok = c.in_ok-judge_text.ensures.ok x.recs told x.are x.uncounted in
    assembled_heap g.H.Host c.judge_text.new.disk.host.now c.judge_text.new.disk.rest (head_read c.in_ok-head.head) x.recs ok.1 ok.0 c.loaded.result.next c.loaded.ensures.next
    (stated_read g.H.Host c.args.disk.now.host.now c.read_text.new.disk.host.now c.read_text.new.disk.rest (head_read c.in_ok-head.head) c.in_ok-head.names x c.loaded.ensures.fits)

pub returns-clause-state : goal.returns-clause-state
returns-clause-state g c = λ told.
    let x = c.in_ok-head.ensures.reads in
    let ok = c.in_ok-judge_text.ensures.ok x.recs told x.are x.uncounted in
    assembled_state g.H.Host c.judge_text.new.disk.host.now c.judge_text.new.disk.rest (head_read c.in_ok-head.head) x.recs ok.1 ok.0 c.loaded.result.next c.loaded.result.state c.loaded.ensures.next c.loaded.ensures.state
    (stated_read g.H.Host c.args.disk.now.host.now c.read_text.new.disk.host.now c.read_text.new.disk.rest (head_read c.in_ok-head.head) c.in_ok-head.names x c.loaded.ensures.fits)

pub returns-clause-idle : goal.returns-clause-idle
returns-clause-idle g c = λ told.
    let x = c.in_ok-head.ensures.reads in
    let stored = (c.in_ok-judge_text.ensures.ok x.recs told x.are x.uncounted).1 in
    (stored.objects, stored.is)

pub returns-clause-next : goal.returns-clause-next
returns-clause-next g c = ap is_next c.loaded.ensures.next ∙ c.in_ok-head.ensures.reads.next

pub returns-clause-end : goal.returns-clause-end
returns-clause-end g c = λ image. ap (λ (s : RoleState). s.left) c.judge_text.ensures.image ∙ c.in_ok-head.ensures.reads.end image

pub returns-clause-loading : goal.returns-clause-loading
returns-clause-loading g c = loading_then g.H.Host c.args.disk.now.host.now c.read_text.new.disk.host.now c.judge_text.new.disk.host.now c.read_text.ensures.loading c.judge_text.ensures.loading

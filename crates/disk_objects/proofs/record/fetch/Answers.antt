use Rattle.std.proofs.Common.{ℕ, List, drop, ap, ◌++◌, ◌∙◌}
use Rattle.loom_host.specs.Work.{work_of}
use Rattle.disk_objects.proofs.RecordLaws.{front-taken}
use Rattle.disk_objects.proofs.record.fetch.Goals as goal

pub returns-then-size-le-FRONT_BYTES-clause-bytes : goal.returns-then-size-le-FRONT_BYTES-clause-bytes
returns-then-size-le-FRONT_BYTES-clause-bytes g c told is =
    let rest : List ℕ = drop c.args.size c.args.bytes.now in
    ap (λ (t : List ℕ). t ++ rest) c.copy_from_slice.ensures.after
    ∙ front-taken (work_of g.H.Host c.args.host.now) c.args.front.now rest c.args.place c.args.size c.if-size-le-FRONT_BYTES.true is

-- What was read and what was written, put together.
use Rattle.image_reader.specs.Loaded.{heap_on}
use Rattle.loom_words.specs.Command.{paths_for}
use Rattle.loom_run.specs.Meanings.{meanings}
use Rattle.loom_run.proofs.ConvertLaws.{conversion-reading, conversion-saving, conversion-put}
use Rattle.loom_run.proofs.converting.convert_on.Goals as goal

pub returns-in-Err-clause-ends : goal.returns-in-Err-clause-ends
returns-in-Err-clause-ends g c = λ before opened.
    conversion-reading g.H.Host.tells before c.args.way (paths_for c.args.conversion.now) (meanings g.H.Host c.args.disk.now.host.now) (meanings g.H.Host c.read_source.new.disk.host.now) opened
    c.read_source.ensures.attached c.read_source.ensures.file c.read_source.ensures.others c.in-Err.status c.in-Err.ensures.refused c.in-Err.ensures.judged

pub returns-in-Ok-write_target-clause-put : goal.returns-in-Ok-write_target-clause-put
returns-in-Ok-write_target-clause-put g c = λ before opened.
    let mid = c.read_source.new.disk in
    let x = c.in-Ok.loaded in
    conversion-put g.H.Host.tells before c.args.way (paths_for c.args.conversion.now) (meanings g.H.Host c.args.disk.now.host.now) (meanings g.H.Host mid.host.now) opened
    c.read_source.ensures.attached c.read_source.ensures.file c.read_source.ensures.others (heap_on g.H.Host mid.host.now mid.rest x.next) x.state x.objects c.in-Ok.ensures.read c.in-Ok.ensures.end
    (meanings g.H.Host c.write_target.new.disk.host.now) c.write_target.ensures.attached c.write_target.ensures.file c.write_target.ensures.others c.in-Ok-write_target.ensures.put

pub returns-in-Err-write_target-clause-ends : goal.returns-in-Err-write_target-clause-ends
returns-in-Err-write_target-clause-ends g c = λ before opened.
    let mid = c.read_source.new.disk in
    let x = c.in-Ok.loaded in
    conversion-saving g.H.Host.tells before c.args.way (paths_for c.args.conversion.now) (meanings g.H.Host c.args.disk.now.host.now) (meanings g.H.Host mid.host.now) opened
    c.read_source.ensures.attached c.read_source.ensures.file c.read_source.ensures.others (heap_on g.H.Host mid.host.now mid.rest x.next) x.state x.objects c.in-Ok.ensures.read c.in-Ok.ensures.end
    (meanings g.H.Host c.write_target.new.disk.host.now) c.write_target.ensures.attached c.write_target.ensures.file c.write_target.ensures.others c.in-Err-write_target.status c.in-Err-write_target.ensures.refused c.in-Err-write_target.ensures.put

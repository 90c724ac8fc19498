use Rattle.std.proofs.Common.{◌≡◌, ◌-◌, length, refl}
use Rattle.long_names.specs.Record.{padding}
use Rattle.image_format.proofs.Writing.{on_ok, finished}
use Rattle.image_format.proofs.encoding.append.Goals as goal

pub returns-clause-ok : goal.returns-clause-ok
returns-clause-ok c =
    let n : c.padding_of-zeros.result ≡ padding (length c.put_contents.new.out - length c.args.out.now) = rw (← c.len.ensures, ← c.len-start.ensures) c.padding_of-zeros.ensures in
    on_ok c.extend.result (λ e. finished (record { name = c.args.name; class = c.args.class; count = c.args.count; body = c.args.body.now }) c.args.out.now c.put_head.new.out c.put_contents.new.out c.extend.new.self _ c.padding_of-zeros.result c.in_ok-put_head.ensures.ok c.in_ok-put_contents.ensures.ok n refl e) c.extend.ensures.ok

pub returns-clause-record : goal.returns-clause-record
returns-clause-record c =
    on_ok c.extend.result (λ e. record { name = c.in_ok-put_head.ensures.names.0; class = c.in_ok-put_head.ensures.names.1; count = c.ranges.count.fits; body = c.requires; range = c.in_ok-put_contents.ensures.range }) c.extend.ensures.ok

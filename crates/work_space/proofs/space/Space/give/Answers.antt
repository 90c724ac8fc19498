use Rattle.std.proofs.Common.{◌<◌, length, refl, ap, arith}
use Rattle.std.proofs.lemmas.List.{get_or-set_same, get_or-set_other}
use Rattle.byteorder.specs.Endian.{big_bytes}
use Rattle.loom_host.specs.Work.{work_of}
use Rattle.work_space.specs.Space.{from_of, end_of, first_of}
use Rattle.work_space.proofs.SpaceLaws.{give-gives}
use Rattle.work_space.proofs.space.Space.give.Goals as goal

pub returns-clause-gives : goal.returns-clause-gives
unfolding from_of end_of first_of
returns-clause-gives g c told laid out b gone =
    let heads = c.args.self.now.heads in
    let low : c.args.c < length heads = omega arith in
    give-gives c.args.self.now _ (work_of g.H.Host c.args.host.now) _ laid out c.args.c c.args.place
    (big_bytes 8 (first_of c.args.self.now c.args.c)) gone refl
    (ap (λ s. s.contents) (c.in_ok-write_link.ensures.written told)) (c.in_ok-write_link.ensures.link told)
    (get_or-set_same heads c.args.c c.args.place 0 low)
    (λ d away. get_or-set_other heads c.args.c d c.args.place 0 away)
    refl refl b

pub returns-clause-from : goal.returns-clause-from
unfolding from_of
returns-clause-from g c = refl

pub returns-clause-end : goal.returns-clause-end
unfolding end_of
returns-clause-end g c = refl

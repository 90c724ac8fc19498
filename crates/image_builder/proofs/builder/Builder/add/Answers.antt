use Rattle.std.proofs.Common.{Some}
use Rattle.object_memory.proofs.MapLaws.{updated}
use Rattle.image_builder.proofs.Kept.{kept-insert}
use Rattle.image_builder.proofs.builder.Builder.add.Goals as goal

pub invariant_of-self : goal.invariant_of-self
invariant_of-self c =
    let m = c.args.self.now in
    record { kept = kept-insert c.insert.result m.objects c.insert.new.self c.args.name (record { class = c.args.class; body = c.args.body }) c.insert.ensures.updates c.insert.ensures.err c.insert.ensures.ordered m.kept c.requires }

pub returns-clause-ok : goal.returns-clause-ok
returns-clause-ok c = λ n. updated c.args.self.now.objects c.insert.new.self c.args.name (Some (record { class = c.args.class; body = c.args.body })) c.in_ok-insert.ensures.updates n

use Rattle.std.proofs.Common.{◌<◌, arith}
use Rattle.blue_model.specs.Parts.{field}
use Rattle.blue_model.specs.Contexts.{store_field}
use Rattle.contexts.proofs.ServesLaws.{serves_stop, exits}
use Rattle.contexts.proofs.ReadLaws.{part_stuck}
use Rattle.contexts.proofs.PartLaws.{field_beyond, sized_within}
use Rattle.contexts.proofs.parts.store_below.Goals as goal

pub returns-then-len-i-clause-serves : goal.returns-then-len-i-clause-serves
unfolding store_field
returns-then-len-i-clause-serves g c = λ cpu. serves_stop _ (part_stuck (field 0 c.args.i) c.args.of c.requires.fit.ready (field_beyond c.args.len c.args.i c.requires.counted c.if-len-i.true))

pub store_within-requires-clause-within : goal.store_within-requires-clause-within
store_within-requires-clause-within g c =
    let within : c.args.i < c.args.len = omega (arith, c.if-len-i.false) in
    sized_within c.args.len c.args.i within c.requires.counted

pub returns-in_err-store_within-clause-serves : goal.returns-in_err-store_within-clause-serves
returns-in_err-store_within-clause-serves g c = λ cpu. exits _ c.from_residual.ensures.1 (c.in_err-store_within.ensures.serves cpu)

pub returns-clause-serves : goal.returns-clause-serves
returns-clause-serves g c = c.in_ok-store_within.ensures.serves

pub returns-clause-counted : goal.returns-clause-counted
returns-clause-counted g c = c.in_ok-store_within.ensures.counted c.args.len c.requires.counted

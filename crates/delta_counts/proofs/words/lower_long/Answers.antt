use Rattle.std.proofs.Common.{inr, refl, sym, subst}
use Rattle.std.specs.Prelude.{◌∷◌, []}
use Rattle.long_names.specs.declared.value.Value.{Value}
use Rattle.loom_host.specs.declared.outside.Role.TheVariants.{Work}
use Rattle.core_view.specs.Counted.{IsSound}
use Rattle.delta_counts.specs.Faults.{IsWordsFault}
use Rattle.delta_counts.proofs.FaultLaws.{err-map}
use Rattle.delta_counts.proofs.WordLaws.{value-is, value-there, owes-same}
use Rattle.delta_counts.proofs.words.lower_long.Goals as goal

pub lower_value-requires-clause-sound : goal.lower_value-requires-clause-sound
lower_value-requires-clause-sound g c = owes-same g.H.Host c.args.p.now c.args.disk.now.host.now c.args.disk.now.rest c.in-Some.v _ (value-is c.args.long c.in-Some.v c.in-Some.ensures.word.0 c.in-Some.ensures.word.1) c.requires.sound

pub returns-in-Some-clause-lowered : goal.returns-in-Some-clause-lowered
returns-in-Some-clause-lowered g c told chunks t owed at x =
    let is = value-is c.args.long c.in-Some.v c.in-Some.ensures.word.0 c.in-Some.ensures.word.1 in
    c.lower_value.ensures.lowered told chunks t owed at (subst (λ v. IsSound t (v ∷ owed)) is x)

pub returns-in-Some-clause-fault : goal.returns-in-Some-clause-fault
returns-in-Some-clause-fault g c =
    let is = value-is c.args.long c.in-Some.v c.in-Some.ensures.word.0 c.in-Some.ensures.word.1 in
    err-map c.lower_value.result
    (λ f x. subst (λ (v : Value). IsWordsFault (g.H.Host.tells Work) (g.H.Host.faults c.args.disk.now.host.now Work) (g.H.Host.faults c.lower_value.new.disk.host.now Work) c.args.disk.now.rest (v ∷ []) c.args.place c.args.of f) (sym is) x)
    (c.lower_value.ensures.fault c.args.place c.args.of)

pub returns-in-None-clause-fault : goal.returns-in-None-clause-fault
returns-in-None-clause-fault g c = (λ told. value-there c.args.long (c.requires.value told) (sym c.in-None.ensures.value), inr (refl, c.get.ensures.value))

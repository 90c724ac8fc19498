use Rattle.std.proofs.Common.{subst}
use Rattle.std.specs.Prelude.{◌∷◌, []}
use Rattle.core_view.specs.Counted.{IsSound}
use Rattle.delta_counts.proofs.LowerLaws.{ok-map}
use Rattle.delta_counts.proofs.FaultLaws.{err-map, fault-words}
use Rattle.delta_counts.proofs.WordLaws.{is-ref, sound-can, owes-can, reached-number, reached-lowered, word-some}
use Rattle.delta_counts.proofs.words.lower_value.Goals as goal

pub lower-requires-clause-can : goal.lower-requires-clause-can
lower-requires-clause-can g c = owes-can g.H.Host c.args.p.now c.args.disk.now.host.now c.args.disk.now.rest c.args.v.now c.in-Some.name (is-ref c.args.v.now c.in-Some.name c.in-Some.ensures) c.requires.sound

pub returns-in-Some-clause-lowered : goal.returns-in-Some-clause-lowered
returns-in-Some-clause-lowered g c told chunks t owed at x =
    let is = is-ref c.args.v.now c.in-Some.name c.in-Some.ensures in
    ok-map c.lower.result (λ now. reached-lowered g.H.Host chunks c.lower.new.p c.lower.new.disk.host.now c.lower.new.disk.rest t c.args.v.now c.in-Some.name owed is x now)
    (c.lower.ensures.lowered told chunks t at (sound-can t c.in-Some.name owed (subst (λ v. IsSound t (v ∷ owed)) is x)))

pub returns-in-Some-clause-fault : goal.returns-in-Some-clause-fault
returns-in-Some-clause-fault g c place name = err-map c.lower.result
    (λ f x. fault-words _ _ _ c.args.disk.now.rest (c.args.v.now ∷ []) place name c.in-Some.name f (word-some c.args.v.now c.in-Some.name (is-ref c.args.v.now c.in-Some.name c.in-Some.ensures)) x) c.lower.ensures.fault

pub returns-in-None-clause-lowered : goal.returns-in-None-clause-lowered
returns-in-None-clause-lowered g c told chunks t owed at x = reached-number g.H.Host chunks c.args.p.now c.args.disk.now.host.now c.args.disk.now.rest t c.args.v.now owed c.in-None.ensures at x

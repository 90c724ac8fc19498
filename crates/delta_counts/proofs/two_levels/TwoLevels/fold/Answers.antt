use Rattle.std.proofs.Common.{refl}
use Rattle.delta_counts.proofs.DrainLaws.{counting-giving}
use Rattle.delta_counts.proofs.EffectLaws.{names-of, given-whole, leaf-counts, leaf-some, leaf-zero}
use Rattle.delta_counts.proofs.two_levels.TwoLevels.fold.Goals as goal

pub fold-requires-clause-names : goal.fold-requires-clause-names
fold-requires-clause-names g c = names-of c.args.self.now.parts c.args.self.now.whole.parts

pub fold-requires-clause-can : goal.fold-requires-clause-can
fold-requires-clause-can g c = leaf-some c.args.self.now c.args.s.0 c.requires.used c.requires.leaf c.requires.sound

pub invariant_of-self : goal.invariant_of-self
invariant_of-self g c =
    let p = c.args.self.now.parts in
    record { whole = given-whole p (record { segment = p.segment; names = c.fold.new.p }) c.args.self.now.whole refl (counting-giving p.names c.fold.new.p c.fold.ensures.counting) }

pub returns-clause-counts : goal.returns-clause-counts
returns-clause-counts g c =
    let e = c.fold.ensures in
    leaf-counts c.args.self.now _ c.args.s.0 _ c.fold.result c.requires.used c.requires.leaf refl (counting-giving c.args.self.now.parts.names c.fold.new.p e.counting)
    (record { work = e.work; lender = e.same_host; limit = e.room }) e.held e.folded e.fault

pub returns-clause-none : goal.returns-clause-none
returns-clause-none g c = λ told. leaf-zero c.args.self.now c.fold.new.p c.fold.new.disk.host.now c.fold.new.disk.rest c.args.s.0 c.fold.result c.requires.used c.requires.leaf c.requires.sound told (c.fold.ensures.folded told)

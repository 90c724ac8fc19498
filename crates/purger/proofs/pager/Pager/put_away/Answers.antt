use Rattle.std.proofs.Common.{◌≡◌, ◌∙◌, [], refl, ap, arith}
use Rattle.core_segment.specs.declared.segment.TheConstants.{HEADER}
use Rattle.core_segment.specs.Segment.{free_of}
use Rattle.leaf_lambda.specs.Parts.{core_of}
use Rattle.leaf_lambda.proofs.TranslateLaws.{Within-trans}
use Rattle.delta_counts.specs.Effects.{Same}
use Rattle.delta_counts.proofs.EffectLaws.{keeps-then}
use Rattle.purger.specs.Pager.{core_in}
use Rattle.purger.proofs.NamingLaws.{counts-free, within-counts}
use Rattle.purger.proofs.PagerLaws.{keeps-of}
use Rattle.purger.proofs.SoundLaws.{core-sound}
use Rattle.purger.proofs.pager.Pager.put_away.Goals as goal

pub returns-clause-evicts : goal.returns-clause-evicts
returns-clause-evicts g c =
    let s = c.args.s.0 in
    let a = c.args.self.now in
    let b = c.clean.new.self in
    let x = c.clean.ensures.evicts.leaves in
    let d = c.drop_body.ensures in
    let q = c.drop_body.new.p in
    record {
      leaves = record { disk = x.disk; pinned = x.pinned; size = d.size ∙ x.size; spare = d.spare ∙ x.spare; within = Within-trans s (core_in a) (core_in b) (core_of q) x.within d.within };
      keeps = keeps-then Same [] [] [] a.levels b.levels _ c.in_ok-clean.ensures.evicts.keeps (keeps-of b.levels _ (λ told.
          core-sound g.H.Host b.levels.parts q b.levels.disk.host.now b.levels.disk.rest d.parts.core d.stays (counts-free (core_in b) (core_of q) (within-counts (core_in b) (core_of q) s d.find d.within))));
      fault = tt;
    }

pub returns-clause-wider : goal.returns-clause-wider
returns-clause-wider g c =
    let more = c.drop_body.ensures.free c.requires.body.0 (c.in_ok-clean.ensures.body ∙ c.requires.body.1) in
    let same = ap free_of c.clean.ensures.segment in
    let four : HEADER ≡ 4 = refl in
    omega arith

use Rattle.std.proofs.Common.{◌≡◌, ◌-◌, ◌<◌, ◌^◌, Some, arith}
use Rattle.std.proofs.lemmas.Grind.{common_steps}
use Rattle.std.specs.Ordering.{nat_cmp}
use Rattle.std.specs.BTreeMap.{get}
use Rattle.object_memory.proofs.MapLaws.{written, small-put}
use Rattle.object_memory.proofs.plain.counts.Counts.lower.Goals as goal

pub invariant_of-self : goal.invariant_of-self
invariant_of-self c =
    let words = c.args.self.now.words in
    let old = c.in-Some.count.now in
    let there : get nat_cmp words c.args.name ≡ Some old = grind (arith, common_steps) in
    let was = c.args.self.now.small c.args.name in
    let fits : old - 1 < 2 ^ 64 = grind (arith, common_steps) in
    record { small = small-put words (c.get_mut.follows.lender (old - 1)) c.args.name (old - 1) (written words (c.get_mut.follows.lender (old - 1)) c.args.name old (old - 1) (c.get_mut.follows.holds (old - 1)) there) c.args.self.now.small fits }

use Rattle.std.proofs.Common.{◌*◌, ap, arith}
use Rattle.std.specs.Ordering.{nat_cmp}
use Rattle.std.specs.BTreeMap.{is_at}
use Rattle.std.specs.Map.{lookup}
use Rattle.image_builder.specs.Builder.{object_at}
use Rattle.loom_gen.proofs.BuildLaws.{starts, absent-at, goes-on, ends}
use Rattle.loom_gen.proofs.generator.objects.Goals as goal

pub loop-index-init : goal.loop-index-init
loop-index-init c = starts c.args.number _ (λ n. ap (λ es. lookup (is_at (nat_cmp n)) es) c.in_ok-builder.ensures)

pub add_object-requires-clause-absent : goal.add_object-requires-clause-absent
add_object-requires-clause-absent c = absent-at c.args.number (2 * c.loop-index.index) _ _ c.name.ensures c.loop-index.invariant

pub loop-index-preserved : goal.loop-index-preserved
loop-index-preserved c = goes-on c.args.number c.loop-index.index _ (object_at c.loop-index.builder) _ c.name.ensures c.loop-index.invariant c.in_ok-add_object.ensures

pub returns : goal.returns
returns c = ends c.args.number (2 * c.loop-index.index) _ (omega arith) c.loop-index.invariant

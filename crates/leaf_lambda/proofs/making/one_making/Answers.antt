use Rattle.long_names.specs.declared.object.Kind.TheVariants as kind
use Rattle.leaf_lambda.specs.Parts.{core_of}
use Rattle.leaf_lambda.proofs.MakeLaws.{leaf-made}
use Rattle.leaf_lambda.proofs.making.one_making.Goals as goal

pub returns-in-Some : goal.returns-in-Some
returns-in-Some c = record { held = leaf-made (core_of c.args.p.now) (core_of c.leaf.new.p) (core_of c.make_body.new.p) c.in-Some.s.0 c.args.name c.args.class.0 c.args.nil.0 kind.Pointers c.args.len 1 c.requires.parts.core c.in-Some.ensures.leaf.1 c.leaf.ensures.step c.requires.class c.requires.nil.0 c.requires.nil.1 (λ disk backed. (c.make_body.ensures.makes disk backed).heap) }

use Rattle.std.proofs.Common.{refl, ◌∙◌, arith}
use Rattle.leaf_lambda.specs.Parts.{core_of}
use Rattle.loom_memory.proofs.NewLaws.{ahead-sound, readied-trans}
use Rattle.core_view.specs.LevelSteps.{with_core}
use Rattle.std.proofs.Common.{[], ◌∷◌}
use Rattle.long_names.specs.declared.value.Value.TheVariants.{Ref}
use Rattle.loom_memory.proofs.new_object.count_ahead.Goals as goal

pub raise-requires-clause-used : goal.raise-requires-clause-used
raise-requires-clause-used c = (c.entry_of_nil-nil.ensures.readied.live c.args.class.0 c.requires.class).0

pub raise-requires-2-clause-used : goal.raise-requires-2-clause-used
raise-requires-2-clause-used c = (c.raise.ensures.readied.live c.entry_of_nil-nil.result.0 c.entry_of_nil-nil.ensures.nil.0).0

pub returns-clause-nil : goal.returns-clause-nil
returns-clause-nil c =
    let first = c.raise.ensures.readied.live c.entry_of_nil-nil.result.0 c.entry_of_nil-nil.ensures.nil.0 in
    let then = c.raise-2.ensures.readied.live c.entry_of_nil-nil.result.0 first.0 in
    (then.0, then.1 ∙ first.1 ∙ c.entry_of_nil-nil.ensures.nil.1)

pub returns-clause-readied : goal.returns-clause-readied
returns-clause-readied c = readied-trans (core_of c.args.p.now) (core_of c.raise.new.p) (core_of c.raise-2.new.p)
    (readied-trans (core_of c.args.p.now) (core_of c.entry_of_nil-nil.new.p) (core_of c.raise.new.p) c.entry_of_nil-nil.ensures.readied c.raise.ensures.readied) c.raise-2.ensures.readied

pub returns-clause-sound : goal.returns-clause-sound
returns-clause-sound c = λ t is x few.
    ahead-sound t (core_of c.args.p.now) (core_of c.entry_of_nil-nil.new.p) (core_of c.raise.new.p) (core_of c.raise-2.new.p) c.args.class.0 c.entry_of_nil-nil.result.0 c.args.n is x few c.requires.few
    c.entry_of_nil-nil.ensures.readied c.raise.ensures.readied c.requires.class c.entry_of_nil-nil.ensures.nil.0 c.entry_of_nil-nil.ensures.nil.1
    (λ less. c.raise.ensures.sound (with_core t (core_of c.entry_of_nil-nil.new.p)) [] refl (c.entry_of_nil-nil.ensures.sound t [] is x) less)
    (λ less s. c.raise-2.ensures.sound (with_core t (core_of c.raise.new.p)) (Ref ((core_of c.entry_of_nil-nil.new.p).entries c.args.class.0).name ∷ []) refl s less)

pub returns-clause-spare : goal.returns-clause-spare
returns-clause-spare c = let a = c.entry_of_nil-nil.ensures.spare in let b = c.raise.ensures.spare in let d = c.raise-2.ensures.spare in omega (arith, a, b, d)

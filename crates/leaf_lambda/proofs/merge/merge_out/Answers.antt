use Rattle.std.proofs.Common.{◌≡◌, ℕ, List, true, false, Some, refl, sym, ◌∙◌, ap, subst}
use Rattle.object_record.specs.Buffer.{raw_of}
use Rattle.leaf_lambda.specs.Parts.{core_of}
use Rattle.leaf_lambda.specs.Records.{IsCopy}
use Rattle.leaf_lambda.proofs.CopyLaws.{old-object, fresh-object}
use Rattle.leaf_lambda.proofs.merge.merge_out.Goals as goal
use Rattle.std.proofs.Common.{Bool}
use Rattle.object_record.specs.Objects.{object_in}
use Rattle.core_view.specs.Held.{object_at}
use Rattle.leaf_lambda.specs.Records.{IsMerged}

some-same : (x y : ℕ) → Some x ≡ Some y → x ≡ y
some-same x y e = cc

pub place_of_body-at-requires-clause-there : goal.place_of_body-at-requires-clause-there
place_of_body-at-requires-clause-there c = (c.requires.copy.0, c.requires.copy.1)

pub ready_copy-requires-clause-copy : goal.ready_copy-requires-clause-copy
ready_copy-requires-clause-copy c = λ not.
    let same : c.requires.copy.0 ≡ c.place_of_body-at.result.place = some-same c.requires.copy.0 c.place_of_body-at.result.place (sym c.requires.copy.1 ∙ c.place_of_body-at.ensures) in
    subst (λ (z : ℕ). IsCopy c.args.buf.now ((core_of c.args.p.now).entries c.args.s.0) ((core_of c.args.p.now).chunks z).words) same (c.requires.copy.2 not)

by-cases : (b : Bool) (P : Type 0) → (b ≡ true → P) → (b ≡ false → P) → P
by-cases true = λ P yes no. yes refl
by-cases false = λ P yes no. no refl

pub returns-clause-object : goal.returns-clause-object
returns-clause-object c = λ disk at backed place there.
    let same : c.place_of_body-at.result.place ≡ at = some-same c.place_of_body-at.result.place at (sym c.place_of_body-at.ensures ∙ place) in
    let merged : IsMerged (core_of c.args.p.now) c.args.s.0 at c.ready_copy.new.buf c.merge_into.new.buf = subst (λ (z : ℕ). IsMerged (core_of c.args.p.now) c.args.s.0 z c.ready_copy.new.buf c.merge_into.new.buf) same c.merge_into.ensures.merged in
    let fresh_ = λ (is : ((core_of c.args.p.now).entries c.args.s.0).flags.fresh ≡ true). fresh-object (core_of c.args.p.now) disk c.args.s.0 at c.ready_copy.new.buf c.merge_into.new.buf backed place is (c.ready_copy.ensures.class is) merged in
    let old_ = λ (not : ((core_of c.args.p.now).entries c.args.s.0).flags.fresh ≡ false). old-object (core_of c.args.p.now) disk c.args.s.0 at c.ready_copy.new.buf c.merge_into.new.buf backed place not (there not ∙ ap (λ (b : List ℕ). Some (object_in (raw_of b))) (sym (c.ready_copy.ensures.same not))) merged in
    by-cases ((core_of c.args.p.now).entries c.args.s.0).flags.fresh (object_in (raw_of c.merge_into.new.buf) ≡ object_at (core_of c.args.p.now) disk ((core_of c.args.p.now).entries c.args.s.0) at) fresh_ old_

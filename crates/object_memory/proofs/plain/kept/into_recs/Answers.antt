use Rattle.std.proofs.Common.{◌≡◌, ◌++◌, List, sym, ap, ◌∙◌, subst, map}
use Rattle.std.specs.List.{All}
use Rattle.std.proofs.lemmas.List.{append-nil}
use Rattle.long_names.specs.declared.object.Rec.{Rec}
use Rattle.object_memory.specs.Counts.{count_in}
use Rattle.long_names.specs.Objects.{IsRecord}
use Rattle.object_memory.proofs.WordLaws.{rec_with, recs-are, records-are}
use Rattle.object_memory.proofs.plain.kept.into_recs.Goals as goal

pub returns-clause-recs : goal.returns-clause-recs
returns-clause-recs c =
    let counts = count_in c.args.counts.now in
    sym (append-nil c.loop-name.recs)
    ∙ ap (λ es. c.loop-name.recs ++ map (rec_with counts) es) (sym c.in-None.ensures.steps.0)
    ∙ c.loop-name.invariant
    ∙ sym (recs-are c.args.heap counts c.requires)

pub returns-clause-records : goal.returns-clause-records
returns-clause-records c =
    let counts = count_in c.args.counts.now in
    let is : c.loop-name.recs ≡ map (rec_with counts) c.args.heap.objects.entries =
    (sym (append-nil c.loop-name.recs)
    ∙ ap (λ es. c.loop-name.recs ++ map (rec_with counts) es) (sym c.in-None.ensures.steps.0)
    ∙ c.loop-name.invariant) in
    subst (λ (rs : List Rec). All IsRecord rs) (sym is) (records-are c.args.heap counts c.args.counts.now.small)

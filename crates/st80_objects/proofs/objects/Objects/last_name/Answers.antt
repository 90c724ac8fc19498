use Rattle.std.proofs.Common.{Some, refl, sym, ◌∙◌}
use Rattle.st80_objects.proofs.Places.{above_last, name_of_last}
use Rattle.st80_objects.proofs.objects.Objects.last_name.Goals as goal

pub returns-in-Some-clause-value : goal.returns-in-Some-clause-value
returns-in-Some-clause-value c =
    let rec = c.in-Some.rec.now in
    rw (← c.self.view_is, ← c.deref.ensures.value) (c.get.ensures.value ∙ sym (name_of_last c.deref.result.now (Some rec) rec c.in-Some.ensures.value refl))

pub returns-in-Some-clause-above : goal.returns-in-Some-clause-above
returns-in-Some-clause-above c = λ n. rw (← c.self.view_is) (above_last c.self.inside.recs.items c.self.invariant n)

pub returns-in-None-clause-above : goal.returns-in-None-clause-above
returns-in-None-clause-above c = λ n. rw (← c.self.view_is) (above_last c.self.inside.recs.items c.self.invariant n)

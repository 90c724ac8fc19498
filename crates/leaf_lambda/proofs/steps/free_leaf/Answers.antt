use Rattle.std.proofs.Common.{◌≡◌, ℕ, ◌+◌, ◌*◌, Option, Some, None, refl, sym, ◌∙◌, ap, subst, arith}
use Rattle.std.specs.Option.{IsSome}
use Rattle.object_table.specs.declared.entry.Entry.{Entry}
use Rattle.object_table.specs.Entries.{put}
use Rattle.core_view.specs.Core.{Core, without_leaf}
use Rattle.core_view.specs.Counts.{outside}
use Rattle.core_view.specs.Kept.{IsCore, Stays}
use Rattle.core_view.specs.Steps.{IsRefStep}
use Rattle.core_view.proofs.Leaves.{idle-core, idle-outside}
use Rattle.core_view.proofs.Steps.{idle-stays, idle-step}
use Rattle.resident_table.specs.Resident.{short_of}
use Rattle.leaf_lambda.specs.Parts.{core_of}
use Rattle.leaf_lambda.proofs.StepLaws.{core-is}
use Rattle.leaf_lambda.proofs.steps.free_leaf.Goals as goal

some-there : (o : Option ℕ) (s : ℕ) → o ≡ Some s → IsSome o
some-there None s e = cc
some-there (Some x) s e = refl

pub used_entry-name-requires : goal.used_entry-name-requires
unfolding core_of
used_entry-name-requires c = c.requires.idle.used

pub remove-requires : goal.remove-requires
unfolding core_of
remove-requires c = record { there = some-there (short_of c.args.p.now.names.resident c.used_entry-name.result.name) c.args.s.0 (ap (λ (e : Entry). short_of c.args.p.now.names.resident e.name) c.used_entry-name.ensures ∙ c.requires.parts.core.found c.args.s.0 c.requires.idle.used) }

pub give-requires-clause-short : goal.give-requires-clause-short
unfolding core_of
give-requires-clause-short c = c.requires.parts.core.short c.args.s.0 c.requires.idle.used

pub give-requires-clause-within : goal.give-requires-clause-within
unfolding core_of
give-requires-clause-within c = c.requires.parts.core.within c.args.s.0 c.requires.idle.used

pub give-requires-clause-used : goal.give-requires-clause-used
unfolding core_of
give-requires-clause-used c = c.requires.idle.used

pub returns-clause-core : goal.returns-clause-core
unfolding core_of
returns-clause-core c =
    core-is _ (without_leaf (core_of c.args.p.now) c.args.s.0 ((core_of c.args.p.now).entries c.args.s.0).name) c.give.ensures.entry
    (c.remove.ensures.find ∙ ap (λ (e : Entry). put (short_of c.args.p.now.names.resident) e.name None) c.used_entry-name.ensures) refl (ap (λ (n : ℕ). 2 * n + 2) c.give.ensures.entries)

pub returns-clause-parts : goal.returns-clause-parts
returns-clause-parts c = record {
  core = subst IsCore (sym (returns-clause-core c)) (idle-core (core_of c.args.p.now) c.args.s.0 ((core_of c.args.p.now).entries c.args.s.0).name c.requires.parts.core c.requires.idle);
  room = let room = c.requires.parts.room in let free = c.give.ensures.free in let held = c.remove.ensures.held in let same = c.remove.ensures.room in omega arith;
}

pub returns-clause-stays : goal.returns-clause-stays
returns-clause-stays c = subst (λ (d : Core). Stays (core_of c.args.p.now) d) (sym (returns-clause-core c)) (idle-stays (core_of c.args.p.now) c.args.s.0 ((core_of c.args.p.now).entries c.args.s.0).name c.requires.parts.core c.requires.idle)

pub returns-clause-outside : goal.returns-clause-outside
returns-clause-outside c = λ t. subst (λ (d : Core). outside d t ≡ outside (core_of c.args.p.now) t) (sym (returns-clause-core c)) (idle-outside (core_of c.args.p.now) c.args.s.0 ((core_of c.args.p.now).entries c.args.s.0).name t c.requires.parts.core c.requires.idle)

pub returns-clause-step : goal.returns-clause-step
returns-clause-step c = subst (λ (d : Core). IsRefStep (core_of c.args.p.now) d) (sym (returns-clause-core c)) (idle-step (core_of c.args.p.now) c.args.s.0 ((core_of c.args.p.now).entries c.args.s.0).name c.requires.idle)

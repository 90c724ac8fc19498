use Rattle.std.proofs.Common.{◌≡◌, ◌≤◌, true, inl, inr, ⊎_elim, sym, ◌∙◌, ap, arith}
use Rattle.long_names.specs.Names.{is_known}
use Rattle.object_table.specs.declared.entry.Entry.{Entry}
use Rattle.leaf_lambda.specs.Parts.{core_of}
use Rattle.loom_memory.proofs.thinned.is_named.Goals as goal

pub returns-then-e-gt0-clause-yes : goal.returns-then-e-gt0-clause-yes
unfolding core_of
returns-then-e-gt0-clause-yes c = λ yes_ is. inr (let some = c.if-e-gt0.true in let same = ap (λ (e : Entry). e.refs) c.used_entry-e.ensures in omega (arith, some, same))

pub returns-clause-yes : goal.returns-clause-yes
unfolding core_of
returns-clause-yes c = λ yes_ is. inl (ap (λ (e : Entry). is_known e.name) (sym c.used_entry-e.ensures) ∙ sym c.is_known.ensures ∙ yes_)

pub used_entry-e-requires : goal.used_entry-e-requires
unfolding core_of
used_entry-e-requires c = c.requires.used (sym c.is_name.ensures ∙ c.if-not-is_name.false)

pub returns-clause-no : goal.returns-clause-no
unfolding core_of
returns-clause-no c = λ named. ⊎_elim
    (λ (known : is_known ((core_of c.args.p.now).entries c.args.w).name ≡ true). c.is_known.ensures ∙ ap (λ (e : Entry). is_known e.name) c.used_entry-e.ensures ∙ known)
    (λ (some : 1 ≤ ((core_of c.args.p.now).entries c.args.w).refs). absurd (let none = c.if-e-gt0.false in let same = ap (λ (e : Entry). e.refs) c.used_entry-e.ensures in omega (arith, none, same, some)))
    (named (sym c.is_name.ensures ∙ c.if-not-is_name.false))

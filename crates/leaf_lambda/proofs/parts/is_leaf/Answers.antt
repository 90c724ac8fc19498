use Rattle.std.proofs.Common.{◌≡◌, ℕ, true, false, Bool, Option, Some, None, IsTrue, refl, sym, ◌∙◌, ap}
use Rattle.std.specs.Option.{is_some}
use Rattle.std.proofs.Common.{not}
use Rattle.object_table.specs.declared.entry.Entry.{Entry}
use Rattle.object_table.specs.Entries.{place_of}
use Rattle.leaf_lambda.specs.Parts.{core_of}
use Rattle.leaf_lambda.proofs.parts.is_leaf.Goals as goal

pub used_entry-requires : goal.used_entry-requires
unfolding core_of
used_entry-requires c = c.requires.used

by-cases : (o : Option ℕ) (b : Bool) (p : Option ℕ) → is_some o ≡ not b → o ≡ p → (IsTrue b → p ≡ None) × (p ≡ None → IsTrue b)
by-cases None true p e f = (λ is. sym f, λ is. refl)
by-cases None false p e f = cc
by-cases (Some x) true p e f = cc
by-cases (Some x) false p e f = (λ is. cc, λ is. absurd (let no = f in cc))

pub returns : goal.returns
unfolding core_of
returns c = by-cases c.place.result c.is_none.result (place_of ((core_of c.args.p.now).entries c.args.s.0).state) c.is_none.ensures (c.place.ensures ∙ ap (λ (e : Entry). place_of e.state) c.used_entry.ensures)

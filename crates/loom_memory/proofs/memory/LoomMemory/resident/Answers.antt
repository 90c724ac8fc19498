use Rattle.std.proofs.Common.{ℕ, Option, sym, ◌∙◌, ap}
use Rattle.std.specs.Option.{is_some}
use Rattle.object_table.specs.declared.entry.Entry.{Entry}
use Rattle.object_table.specs.Entries.{place_of}
use Rattle.leaf_lambda.specs.Parts.{core_of}
use Rattle.loom_memory.specs.Residents.{has_body, is_resident}
use Rattle.loom_memory.proofs.memory.LoomMemory.resident.Goals as goal

pub used_entry-requires : goal.used_entry-requires
unfolding core_of
used_entry-requires g c = c.args.self.now.pager.levels.whole.parts.core.used c.args.name c.in-Some.s.0 (sym c.in-Some.ensures)

pub returns-in-Some : goal.returns-in-Some
unfolding core_of is_resident
returns-in-Some g c = c.is_some.ensures ∙ ap (λ (x : Option ℕ). is_some x) (c.place.ensures ∙ ap (λ (e : Entry). place_of e.state) c.used_entry.ensures) ∙ sym (ap (λ (x : Option ℕ). has_body (core_of c.args.self.now.pager.levels.parts) x) (sym c.in-Some.ensures))

pub returns-in-None : goal.returns-in-None
unfolding core_of is_resident
returns-in-None g c = sym (ap (λ (x : Option ℕ). has_body (core_of c.args.self.now.pager.levels.parts) x) (sym c.in-None.ensures))

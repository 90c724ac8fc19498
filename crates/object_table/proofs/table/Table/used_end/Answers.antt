use Rattle.std.proofs.Common.{◌≡◌, ◌≤◌, ◌*◌, ◌/◌, ◌-◌, ℕ, Bool, true, false, List, length, get_or, refl, cond, sym, ◌∙◌, ap, arith}
use Rattle.object_table.specs.declared.entry.Entry.{Entry}
use Rattle.object_table.specs.Entries.{is_short, is_used, free_entry}
use Rattle.object_table.specs.Table.{entry_at, entries_of}
use Rattle.object_table.proofs.ShortLaws.{at_short, short-even}
use Rattle.object_table.proofs.VacantLaws.{used-within}
use Rattle.object_table.proofs.table.Table.used_end.Goals as goal

-- what is in use has a short name in the list
below : (entries : List Entry) (s : ℕ) → is_used (at_short free_entry entries s).state ≡ true → s ≤ 2 * length entries
below entries s used = go (is_short s) refl
  where
    clash : false ≡ true → ⊥
    clash h = cc

    go : (b : Bool) → is_short s ≡ b → s ≤ 2 * length entries
    go true short = let parts = short-even s short in let low = used-within entries s (s / 2 - 1) refl short used in omega (arith, parts.0, parts.1)
    go false odd = absurd (clash (sym (ap (λ b. is_used (cond b (get_or entries (s / 2 - 1) free_entry) free_entry).state) odd) ∙ used))

pub returns-clause-used : goal.returns-clause-used
unfolding entry_at
returns-clause-used c = λ s used.
    let t = c.args.self.now in
    let low = below t.entries.items s used in
    let size = t.entries.ok.0 in
    let small = t.small in
    let within = t.within in
    omega (arith, c.len.ensures)

pub returns-clause-most : goal.returns-clause-most
unfolding entries_of
returns-clause-most c =
    let t = c.args.self.now in
    let size = t.entries.ok.0 in
    let small = t.small in
    let within = t.within in
    omega (arith, c.len.ensures)

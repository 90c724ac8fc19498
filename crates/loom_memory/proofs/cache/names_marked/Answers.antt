use Rattle.std.proofs.Common.{◌≡◌, ◌&&◌, Bool, true, false, sym, ◌∙◌, ap, arith}
use Rattle.object_table.specs.declared.entry.Entry.{Entry}
use Rattle.object_table.specs.Entries.{is_used}
use Rattle.leaf_lambda.specs.Parts.{core_of}
use Rattle.loom_memory.proofs.WordLaws.{odd-apart}
use Rattle.loom_memory.proofs.RowLaws.{marked-short, marked-within}
use Rattle.loom_memory.proofs.cache.names_marked.Goals as goal

pub returns-then-not-is_name : goal.returns-then-not-is_name
returns-then-not-is_name c = sym (marked-short (core_of c.args.p.now) c.args.w c.requires.core (sym c.is_name.ensures ∙ c.if-not-is_name.true))

pub returns-then-from-last : goal.returns-then-from-last
unfolding core_of
returns-then-from-last c = sym (marked-within (core_of c.args.p.now) c.args.w c.requires.core (λ low. odd-apart c.args.w (omega (arith, low, c.if-from-last.true, c.from.ensures, c.from-last.ensures, c.entries.ensures.entries)) (sym c.is_name.ensures ∙ c.if-not-is_name.false)))

pub returns-then-not-is_used : goal.returns-then-not-is_used
unfolding core_of
returns-then-not-is_used c =
    let off : is_used ((core_of c.args.p.now).entries c.args.w).state ≡ false = ap (λ (e : Entry). is_used e.state) (sym c.entry-e.ensures) ∙ sym c.is_used.ensures ∙ c.if-not-is_used.true in
    sym (ap (λ (b : Bool). b && ((core_of c.args.p.now).entries c.args.w).flags.marked) off)

pub returns : goal.returns
unfolding core_of
returns c =
    let used : is_used ((core_of c.args.p.now).entries c.args.w).state ≡ true = ap (λ (e : Entry). is_used e.state) (sym c.entry-e.ensures) ∙ sym c.is_used.ensures ∙ c.if-not-is_used.false in
    ap (λ (e : Entry). e.flags.marked) c.entry-e.ensures ∙ sym (ap (λ (b : Bool). b && ((core_of c.args.p.now).entries c.args.w).flags.marked) used)

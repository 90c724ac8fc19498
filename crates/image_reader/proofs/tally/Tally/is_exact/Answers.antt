use Rattle.std.proofs.Common.{true, false, sym, ap, refl, ◌∙◌}
use Rattle.std.proofs.lemmas.Bool.{eq-eqb, le-ltb, lt-ltb, ne_eqb}
use Rattle.long_names.specs.Names.{is_known}
use Rattle.image_reader.specs.Tally.{counted}
use Rattle.image_reader.proofs.TallyLaws.{counted-at, exact-of, or-held, or-not-held, same-name}
use Rattle.image_reader.proofs.tally.Tally.is_exact.Goals as goal

pub returns-then-stated-gt0 : goal.returns-then-stated-gt0
returns-then-stated-gt0 c = λ name at.
    let held = lt-ltb 0 c.args.stated c.if-stated-gt0.true in
    held ∙ sym (exact-of (counted c.args.self.now name) c.index.result.now name c.args.stated true (is_known name) true (counted-at c.args.self.now c.args.i name c.index.result.now at c.index.ensures) (eq-eqb c.args.stated c.index.result.now c.if-stated-index.true) refl held ∙ or-held (is_known name))

pub returns-else-stated-gt0 : goal.returns-else-stated-gt0
returns-else-stated-gt0 c = λ name at.
    c.is_known.ensures
    ∙ ap is_known (same-name _ c.name.result name c.name.ensures at)
    ∙ sym (exact-of (counted c.args.self.now name) c.index.result.now name c.args.stated true (is_known name) false (counted-at c.args.self.now c.args.i name c.index.result.now at c.index.ensures) (eq-eqb c.args.stated c.index.result.now c.if-stated-index.true) refl (le-ltb 0 c.args.stated c.if-stated-gt0.false) ∙ or-not-held (is_known name))

pub returns-else-stated-index : goal.returns-else-stated-index
returns-else-stated-index c = λ name at.
    let other = ne_eqb c.args.stated c.index.result.now c.if-stated-index.false in
    other ∙ sym (exact-of (counted c.args.self.now name) c.index.result.now name c.args.stated false (is_known name) _ (counted-at c.args.self.now c.args.i name c.index.result.now at c.index.ensures) other refl refl)

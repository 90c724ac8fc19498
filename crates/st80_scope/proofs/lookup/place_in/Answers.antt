use Rattle.std.proofs.Common.{◌≡◌, ◌≢◌, ◌+◌, true, false, sym, ap, ◌∙◌, arith}
use Rattle.std.proofs.lemmas.Bool.Decides.{Decides-eqb}
use Rattle.std.proofs.lemmas.Slice.Eq.{slice_eq-Decides}
use Rattle.st80_scope.proofs.NameLaws.{has_name, more_absent, not_there, none_behind}
use Rattle.st80_scope.proofs.lookup.place_in.Goals as goal

pub returns-then-eq-clause-some : goal.returns-then-eq-clause-some
returns-then-eq-clause-some c =
    let same = (slice_eq-Decides Decides-eqb _ _ _ c.eq.ensures).0 c.if-eq.true in
    let at = c.each.invariant.0 in
    let low = c.each-test.true in
    record {
      has = rw at (has_name c.args.names.now c.args.name.now c.each.other-index c.other-item.result c.other-item.is low (sym c.as_slice.ensures.value ∙ same));
      first = c.each.invariant.1;
    }

pub each-preserved : goal.each-preserved
each-preserved c =
    let at = c.each.invariant.0 in
    let low = c.each-test.true in
    let other : c.other-item.result.items ≢ c.args.name.now = (λ same. let no : false ≡ true = sym c.if-eq.false ∙ (slice_eq-Decides Decides-eqb _ _ _ c.eq.ensures).1 (c.as_slice.ensures.value ∙ same) in absurd (cc)) in
    (ap (λ n. n + 1) at, more_absent c.args.names.now c.args.name.now c.each.at c.each.invariant.1 (rw at (not_there c.args.names.now c.args.name.now c.each.other-index c.other-item.result c.other-item.is low other)))

pub returns-clause-none : goal.returns-clause-none
returns-clause-none c = λ some k h.
    let low = none_behind c.args.names.now c.args.name.now k h in
    let end = c.each-test.false in
    let at = c.each.invariant.0 in
    c.each.invariant.1 k (omega (arith, low, end, at)) h

use Rattle.std.proofs.Common.{◌<◌, ℕ, length, refl, sym, ◌∙◌, subst, arith}
use Rattle.std.proofs.lemmas.List.{get_or_default}
use Rattle.object_table.proofs.NoteLaws.{left-begin, left-step, left-end}
use Rattle.object_table.proofs.table.unmark.Goals as goal

pub loop-i-init : goal.loop-i-init
loop-i-init c = record {
  left = left-begin c.args.entries.now.items c.args.listed.now.items c.args.noted.now.items c.requires;
  entries = refl;
  listed = refl;
  end = c.len-i-end.ensures ∙ c.args.noted.now.ok.0;
}

pub loop-i-preserved : goal.loop-i-preserved
loop-i-preserved c =
    let places = c.args.noted.now.items in
    let p = c.index.result.now in
    let end = c.loop-i.invariant.end in
    let test = c.loop-i-test.true in
    let more : c.loop-i.i < length places = omega arith in
    let here = get_or_default places c.loop-i.i p 0 more in
    let low : p < length c.loop-i.entries.items =
    subst (λ (z : ℕ). p < z) (sym c.loop-i.invariant.left.size) (subst (λ (z : ℕ). z < length c.args.entries.now.items) (sym (c.index.ensures ∙ here)) (c.requires.within c.loop-i.i more)) in
    record {
      left = left-step c.args.entries.now.items c.loop-i.entries.items c.loop-i.listed.items places c.loop-i.i p c.index-entry.result.now
          c.loop-i.invariant.left more c.index.ensures low c.index-entry.ensures;
      entries = c.loop-i.invariant.entries;
      listed = c.loop-i.invariant.listed;
      end = c.loop-i.invariant.end;
    }

pub returns-clause-entries : goal.returns-clause-entries
returns-clause-entries c =
    let end = c.loop-i.invariant.end in
    (left-end c.args.entries.now.items c.loop-i.entries.items c.loop-i.listed.items c.args.noted.now.items c.loop-i.i c.loop-i.invariant.left (omega (arith, c.loop-i-test.false))).0

pub returns-clause-marks : goal.returns-clause-marks
returns-clause-marks c =
    let end = c.loop-i.invariant.end in
    rw c.clear.ensures.items (left-end c.args.entries.now.items c.loop-i.entries.items c.loop-i.listed.items c.args.noted.now.items c.loop-i.i c.loop-i.invariant.left (omega (arith, c.loop-i-test.false))).1

pub returns-clause-rooms : goal.returns-clause-rooms
returns-clause-rooms c = (c.loop-i.invariant.entries, c.clear.ensures.capacity, c.loop-i.invariant.listed)

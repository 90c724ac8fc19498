use Rattle.std.proofs.Common.{ℤ, pos, ◌+ℤ◌, rules, IsTrue, ◌≡◌, true, false, ap, subst, arith}
use Rattle.std.specs.Int.{w64}
use Rattle.std.proofs.lemmas.Int.{to_z-of_z}
use mir.Val.{SFits}
use Rattle.object_table.specs.declared.entry.Entry.{Entry}
use Rattle.leaf_lambda.specs.Parts.{core_of}
use Rattle.purger.proofs.RoomLaws.{none-of, some-of}
use Rattle.purger.proofs.SoundLaws.{core-at, has-objects}
use Rattle.purger.proofs.DrainLaws.{dead-if, entry-at, fresh-none, not-loose, not-placed, not-unknown}
use Rattle.purger.proofs.pager.Pager.is_dead.Goals as goal

pub count_behind-requires : goal.count_behind-requires
count_behind-requires g c = record { stands = has-objects g.H.Host c.args.self.now.levels.parts c.args.self.now.levels.disk.host.now c.args.self.now.levels.disk.rest c.requires.sound }

pub returns-then-not-is_some-clause-body : goal.returns-then-not-is_some-clause-body
returns-then-not-is_some-clause-body g c = λ on. absurd (let both : false ≡ true = on in cc)

pub returns-then-not-is_some-clause-loose : goal.returns-then-not-is_some-clause-loose
returns-then-not-is_some-clause-loose g c = λ on. absurd (let both : false ≡ true = on in cc)

pub returns-then-e-gt0-clause-body : goal.returns-then-e-gt0-clause-body
returns-then-e-gt0-clause-body g c = λ on. absurd (let both : false ≡ true = on in cc)

pub returns-then-e-gt0-clause-loose : goal.returns-then-e-gt0-clause-loose
returns-then-e-gt0-clause-loose g c = λ on. absurd (let both : false ≡ true = on in cc)

pub returns-then-is_known-clause-body : goal.returns-then-is_known-clause-body
returns-then-is_known-clause-body g c = λ on. absurd (let both : false ≡ true = on in cc)

pub returns-then-is_known-clause-loose : goal.returns-then-is_known-clause-loose
returns-then-is_known-clause-loose g c = λ on. absurd (let both : false ≡ true = on in cc)

pub returns-then-not-is_some-clause-dead : goal.returns-then-not-is_some-clause-dead
unfolding core_of
returns-then-not-is_some-clause-dead g c = λ told t at x. not-placed t c.args.s.0 c.entry-e.result (entry-at c.args.self.now.levels.parts t c.args.s.0 c.entry-e.result (core-at g.H.Host c.args.self.now.levels.parts c.args.self.now.levels.disk.host.now c.args.self.now.levels.disk.rest t at) c.entry-e.ensures)
    (let none = none-of c.place.result c.is_some.result c.is_some.ensures c.if-not-is_some.true in let is = c.place.ensures in cc)

pub returns-then-e-gt0-clause-dead : goal.returns-then-e-gt0-clause-dead
unfolding core_of
returns-then-e-gt0-clause-dead g c = λ told t at x. not-loose t c.args.s.0 c.entry-e.result x (entry-at c.args.self.now.levels.parts t c.args.s.0 c.entry-e.result (core-at g.H.Host c.args.self.now.levels.parts c.args.self.now.levels.disk.host.now c.args.self.now.levels.disk.rest t at) c.entry-e.ensures) c.if-e-gt0.true

pub returns-then-is_known-clause-dead : goal.returns-then-is_known-clause-dead
unfolding core_of
returns-then-is_known-clause-dead g c = λ told t at x. not-unknown t c.args.s.0 c.entry-e.result (entry-at c.args.self.now.levels.parts t c.args.s.0 c.entry-e.result (core-at g.H.Host c.args.self.now.levels.parts c.args.self.now.levels.disk.host.now c.args.self.now.levels.disk.rest t at) c.entry-e.ensures)
    (let on = c.if-is_known.true in let is = c.is_known.ensures in cc)

pub returns-clause-dead : goal.returns-clause-dead
unfolding core_of
returns-clause-dead g c = λ told t at x.
    let there = some-of c.place.result c.is_some.result c.is_some.ensures c.if-not-is_some.false in
    let fits : SFits w64 c.entry-e.result.change = search rules in
    let same = to_z-of_z w64 c.entry-e.result.change fits in
    dead-if t c.args.s.0 there.0 c.in_ok-count.count c.entry-e.result c.comes_to_none.result x (entry-at c.args.self.now.levels.parts t c.args.s.0 c.entry-e.result (core-at g.H.Host c.args.self.now.levels.parts c.args.self.now.levels.disk.host.now c.args.self.now.levels.disk.rest t at) c.entry-e.ensures)
    (let is = c.place.ensures in let some = there.1 in cc) c.if-e-gt0.false (let off = c.if-is_known.false in let is = c.is_known.ensures in cc)
    (c.in_ok-count.ensures.count told t.stored t.pending at.disk (λ fresh. fresh-none t c.args.s.0 there.0 c.entry-e.result x (entry-at c.args.self.now.levels.parts t c.args.s.0 c.entry-e.result (core-at g.H.Host c.args.self.now.levels.parts c.args.self.now.levels.disk.host.now c.args.self.now.levels.disk.rest t at) c.entry-e.ensures)
    (let is = c.place.ensures in let some = there.1 in cc) fresh)) (subst (λ (z : ℤ). IsTrue c.comes_to_none.result → z +ℤ pos c.in_ok-count.count ≡ pos 0) same c.comes_to_none.ensures.0)
    (subst (λ (z : ℤ). z +ℤ pos c.in_ok-count.count ≡ pos 0 → IsTrue c.comes_to_none.result) same c.comes_to_none.ensures.1)

pub returns-clause-body : goal.returns-clause-body
unfolding core_of
returns-clause-body g c = λ on. let there = some-of c.place.result c.is_some.result c.is_some.ensures c.if-not-is_some.false in (there.0, (let is = c.place.ensures in let some = there.1 in let e = c.entry-e.ensures in cc))

pub returns-clause-loose : goal.returns-clause-loose
unfolding core_of
returns-clause-loose g c = λ on. let few = c.if-e-gt0.false in let same = ap (λ (e : Entry). e.refs) c.entry-e.ensures in omega arith

use Rattle.loom_memory.proofs.TimeLaws.{time-same}
use Rattle.std.proofs.Common.{◌≡◌, ◌≤◌, true, None, Some, refl, sym, ◌∙◌, ap, subst}
use Rattle.object_table.specs.declared.entry.Entry.{Entry}
use Rattle.object_table.specs.Entries.{place_of}
use Rattle.core_view.specs.Counts.{outside}
use Rattle.core_view.proofs.Steps.{outside-used}
use Rattle.leaf_lambda.specs.declared.parts.Parts.{Parts}
use Rattle.leaf_lambda.specs.Parts.{core_of}
use Rattle.loom_memory.specs.Memory.{loom_told}
use Rattle.loom_memory.proofs.AccessLaws.{quiet-ready}
use Rattle.purger.proofs.RoomLaws.{some-of, none-of}
use Rattle.loom_memory.proofs.BringLaws.{err-at, quiet-same}
use Rattle.loom_memory.proofs.FirstRoomLaws.{gone-read}
use Rattle.loom_memory.proofs.MakingLaws.{quiet-thinned}
use Rattle.object_table.specs.Entries.{is_used}
use Rattle.loom_memory.specs.Residents.{fetched}
use Rattle.loom_memory.proofs.GentleLaws.{count-after, fetched-same, brought-gentle, no-body}
use Rattle.loom_memory.proofs.BelowLaws.{tested-after}
use Rattle.loom_memory.proofs.DamageLaws.{damage-read}
use Rattle.loom_memory.specs.Own.{IsBrought}
use Rattle.loom_memory.proofs.MindLaws.{minds-refl}
use Rattle.loom_memory.proofs.OneLaws.{brings-leaf, brings-none}
use Rattle.loom_memory.proofs.memory.LoomMemory.bring.Goals as goal
use Rattle.delta_counts.proofs.LowerLaws.{ok-map}
use Rattle.loom_memory.specs.Effects.{Comes, MayThin}
use Rattle.loom_memory.proofs.EffectLaws.{comes-both, thins-read}
use Rattle.loom_memory.proofs.memory.LoomMemory.bring.Given as given

pub used_entry-requires : goal.used_entry-requires
unfolding core_of
used_entry-requires g c = outside-used (core_of c.args.self.now.pager.levels.parts) c.args.s.0 c.args.self.now.pager.levels.whole.parts.core c.requires.out

pub returns-then-is_some-clause-thins : goal.returns-then-is_some-clause-thins
returns-then-is_some-clause-thins g c = record {
  thinned = quiet-thinned (loom_told g.H.Host c.args.self.now) (loom_told g.H.Host c.args.self.now) (quiet-same g.H.Host c.args.self.now) c.requires.fit.ready;
  minds = minds-refl g.H.Host c.args.self.now (IsBrought c.args.self.now c.args.self.now ((core_of c.args.self.now.pager.levels.parts).entries c.args.s.0).name) c.requires.fit.sound;
  regs = refl;
  pins = refl;
  next = refl;
  due = time-same g.H.Host c.args.self.now c.args.self.now refl;
  flag = λ on. on;
}

pub returns-then-is_some-clause-comes : goal.returns-then-is_some-clause-comes
unfolding core_of
returns-then-is_some-clause-comes g c = λ told leaf.
    let there = some-of c.place.result c.is_some.result c.is_some.ensures c.if-is_some.true in
    let both : None ≡ Some there.0 = sym leaf ∙ ap (λ (e : Entry). place_of e.state) (sym c.used_entry.ensures) ∙ sym c.place.ensures ∙ there.1 in
    absurd (cc)

pub returns-then-is_some-clause-there : goal.returns-then-is_some-clause-there
unfolding core_of
returns-then-is_some-clause-there g c = let there = some-of c.place.result c.is_some.result c.is_some.ensures c.if-is_some.true in (there.0, ap (λ (e : Entry). place_of e.state) (sym c.used_entry.ensures) ∙ sym c.place.ensures ∙ there.1)

pub look-requires-clause-leaf : goal.look-requires-clause-leaf
unfolding core_of
look-requires-clause-leaf g c = (outside-used (core_of c.args.self.now.pager.levels.parts) c.args.s.0 c.args.self.now.pager.levels.whole.parts.core c.requires.out, ap (λ (e : Entry). place_of e.state) (sym c.used_entry.ensures) ∙ sym c.place.ensures ∙ none-of c.place.result c.is_some.result c.is_some.ensures c.if-is_some.false)

pub bring_leaf-requires-clause-fit : goal.bring_leaf-requires-clause-fit
bring_leaf-requires-clause-fit g c = record {
  sound = c.in-Ok.ensures.leaves.sound;
  ready = quiet-ready (loom_told g.H.Host c.args.self.now) (loom_told g.H.Host c.look.new.self) c.in-Ok.ensures.reads.quiet c.requires.fit.ready;
}

pub bring_leaf-requires-clause-out : goal.bring_leaf-requires-clause-out
bring_leaf-requires-clause-out g c = subst (λ (p : Parts). 1 ≤ outside (core_of p) c.args.s.0) (sym c.in-Ok.ensures.reads.parts) c.requires.out

pub bring_leaf-requires-clause-leaf : goal.bring_leaf-requires-clause-leaf
unfolding core_of
bring_leaf-requires-clause-leaf g c = subst (λ (p : Parts). place_of ((core_of p).entries c.args.s.0).state ≡ None) (sym c.in-Ok.ensures.reads.parts) (ap (λ (e : Entry). place_of e.state) (sym c.used_entry.ensures) ∙ sym c.place.ensures ∙ none-of c.place.result c.is_some.result c.is_some.ensures c.if-is_some.false)

pub returns-in-Ok-clause-thins : goal.returns-in-Ok-clause-thins
returns-in-Ok-clause-thins g c =
    let m = c.args.self.now in
    let u = c.look.new.self in
    let s = c.args.s.0 in
    thins-read c.bring_leaf.result g.H.Host m u c.bring_leaf.new.self ((core_of m.pager.levels.parts).entries s).name ((core_of u.pager.levels.parts).entries s).name c.requires.fit.sound c.requires.fit.ready c.in-Ok.ensures.reads (ap (λ (p : Parts). ((core_of p).entries s).name) c.in-Ok.ensures.reads.parts)
    c.bring_leaf.ensures.counted c.bring_leaf.ensures.thins

pub returns-in-Ok-clause-comes : goal.returns-in-Ok-clause-comes
returns-in-Ok-clause-comes g c =
    let m = c.args.self.now in
    let u = c.look.new.self in
    let n = c.bring_leaf.new.self in
    let r = c.bring_leaf.result in
    let s = c.args.s.0 in
    let used = subst (λ (p : Parts). is_used ((core_of p).entries s).state ≡ true) (sym c.in-Ok.ensures.reads.parts) (outside-used (core_of m.pager.levels.parts) s c.args.self.now.pager.levels.whole.parts.core c.requires.out) in
    comes-both _ _ r g.H.Host m n _
    (gone-read r g.H.Host m u n s c.in-Ok.words c.in-Ok.ensures.leaves.sound used c.in-Ok.ensures.reads.parts c.in-Ok.ensures.reads.quiet c.in-Ok.ensures.sized c.in-Ok.ensures.reads.ledger c.in-Ok.ensures.reads.due
    (ok-map r (λ (x : Comes g.H.Host c.in-Ok.words u n). x.gone) c.bring_leaf.ensures.comes))
    (brought-gentle r g.H.Host m u n s c.in-Ok.words c.in-Ok.ensures.leaves.sound used c.in-Ok.ensures.reads.parts c.in-Ok.ensures.reads.quiet c.in-Ok.ensures.sized c.in-Ok.ensures.reads.gentle
    (ok-map r (λ (x : Comes g.H.Host c.in-Ok.words u n). x.gentle) c.bring_leaf.ensures.comes))

pub returns-in-Ok-clause-err : goal.returns-in-Ok-clause-err
returns-in-Ok-clause-err g c = err-at c.bring_leaf.result (loom_told g.H.Host c.args.self.now) (loom_told g.H.Host c.look.new.self) (loom_told g.H.Host c.bring_leaf.new.self) ((core_of c.args.self.now.pager.levels.parts).entries c.args.s.0).name ((core_of c.look.new.self.pager.levels.parts).entries c.args.s.0).name
    (ap (λ (p : Parts). ((core_of p).entries c.args.s.0).name) c.in-Ok.ensures.reads.parts) c.in-Ok.ensures.reads.quiet c.bring_leaf.ensures.err

pub returns-in-Err-clause-err : goal.returns-in-Err-clause-err
returns-in-Err-clause-err g c = λ a of target named silent none. c.in-Err.ensures.err a silent none

pub returns-then-is_some-clause-counted : goal.returns-then-is_some-clause-counted
unfolding core_of
returns-then-is_some-clause-counted g c = λ leaf.
    let there = some-of c.place.result c.is_some.result c.is_some.ensures c.if-is_some.true in
    let both : None ≡ Some there.0 = sym leaf ∙ ap (λ (e : Entry). place_of e.state) (sym c.used_entry.ensures) ∙ sym c.place.ensures ∙ there.1 in
    absurd (cc)

pub returns-in-Ok-clause-counted : goal.returns-in-Ok-clause-counted
returns-in-Ok-clause-counted g c = count-after (place_of ((core_of c.args.self.now.pager.levels.parts).entries c.args.s.0).state ≡ None) c.bring_leaf.result (fetched c.args.self.now) (fetched c.look.new.self) (fetched c.bring_leaf.new.self) (fetched-same c.args.self.now c.look.new.self c.in-Ok.ensures.reads.ledger) c.bring_leaf.ensures.counted

pub returns-then-is_some-clause-idle : goal.returns-then-is_some-clause-idle
returns-then-is_some-clause-idle g c = λ at is. refl

pub returns-in-Ok-clause-idle : goal.returns-in-Ok-clause-idle
unfolding core_of
returns-in-Ok-clause-idle g c = no-body (c.bring_leaf.new.self ≡ c.args.self.now) c.bring_leaf.result (place_of ((core_of c.args.self.now.pager.levels.parts).entries c.args.s.0).state) (ap (λ (e : Entry). place_of e.state) (sym c.used_entry.ensures) ∙ sym c.place.ensures ∙ none-of c.place.result c.is_some.result c.is_some.ensures c.if-is_some.false)

pub returns-then-is_some-clause-tested : goal.returns-then-is_some-clause-tested
unfolding core_of
returns-then-is_some-clause-tested g c = λ leaf.
    let there = some-of c.place.result c.is_some.result c.is_some.ensures c.if-is_some.true in
    let both : None ≡ Some there.0 = sym leaf ∙ ap (λ (e : Entry). place_of e.state) (sym c.used_entry.ensures) ∙ sym c.place.ensures ∙ there.1 in
    absurd (cc)

pub returns-in-Ok-clause-tested : goal.returns-in-Ok-clause-tested
returns-in-Ok-clause-tested g c = tested-after _ c.bring_leaf.result c.look.new.self c.bring_leaf.new.self ((core_of c.args.self.now.pager.levels.parts).entries c.args.s.0).name c.bring_leaf.ensures.buf (ok-map c.bring_leaf.result (λ (x : MayThin g.H.Host (λ k. k ≡ ((core_of c.look.new.self.pager.levels.parts).entries c.args.s.0).name) c.look.new.self c.bring_leaf.new.self). x.next) c.bring_leaf.ensures.thins) c.in-Ok.ensures.tested

pub returns-in-Ok-clause-damage : goal.returns-in-Ok-clause-damage
returns-in-Ok-clause-damage g c = damage-read c.bring_leaf.result c.args.self.now c.look.new.self c.bring_leaf.new.self c.args.s.0 c.in-Ok.words c.in-Ok.ensures.reads.parts c.bring_leaf.ensures.buf c.in-Ok.ensures.record.sized c.bring_leaf.ensures.damage

pub returns-in-Err-clause-damage : goal.returns-in-Err-clause-damage
returns-in-Err-clause-damage g c = λ room. c.in-Err.ensures.damage

pub returns-then-is_some-clause-brings : goal.returns-then-is_some-clause-brings
returns-then-is_some-clause-brings g c = brings-none c.args.self.now c.args.self.now _ refl

leaf-of : (g : given.Over) (c : goal.After-bring_leaf g) → place_of ((core_of c.args.self.now.pager.levels.parts).entries c.args.s.0).state ≡ None
unfolding core_of
leaf-of g c = ap (λ (e : Entry). place_of e.state) (sym c.used_entry.ensures) ∙ sym c.place.ensures ∙ none-of c.place.result c.is_some.result c.is_some.ensures c.if-is_some.false

pub returns-in-Ok-clause-brings : goal.returns-in-Ok-clause-brings
returns-in-Ok-clause-brings g c = brings-leaf c.bring_leaf.result c.args.self.now c.look.new.self c.bring_leaf.new.self _ c.look.ensures.leaves.fetches (leaf-of g c) c.bring_leaf.ensures.counted c.bring_leaf.ensures.away

pub returns-in-Err-clause-brings : goal.returns-in-Err-clause-brings
returns-in-Err-clause-brings g c = brings-none c.args.self.now c.look.new.self _ c.look.ensures.leaves.fetches

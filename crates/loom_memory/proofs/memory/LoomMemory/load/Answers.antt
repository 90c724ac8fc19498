use Rattle.std.proofs.Common.{◌≡◌, true, false, refl, sym, ◌∙◌}
use Rattle.long_names.specs.State.{name_at}
use Rattle.loom_memory.specs.Memory.{loom_told}
use Rattle.loom_memory.proofs.BringLaws.{quiet-same}
use Rattle.loom_memory.proofs.ReachLaws.{freed-came, freed-here}
use Rattle.loom_memory.proofs.MakingLaws.{quiet-thinned}
use Rattle.loom_memory.proofs.GentleLaws.{here-sparing, come-sparing}
use Rattle.loom_memory.proofs.BelowLaws.{tested-where}
use Rattle.loom_memory.proofs.OneLaws.{brings-none, brings-where}
use Rattle.delta_counts.proofs.LowerLaws.{ok-map}
use Rattle.loom_memory.specs.Effects.{IsHere, MayThin}
use Rattle.loom_memory.specs.Own.{IsBrought}
use Rattle.loom_memory.proofs.EffectLaws.{comes-gentle, comes-gone, if-on}
use Rattle.loom_memory.proofs.memory.LoomMemory.load.Goals as goal

pub returns-in-Some-clause-thinned : goal.returns-in-Some-clause-thinned
returns-in-Some-clause-thinned g c = quiet-thinned (loom_told g.H.Host c.args.self.now) (loom_told g.H.Host c.args.self.now) (quiet-same g.H.Host c.args.self.now) c.requires.fit.ready

pub returns-in-Some-clause-own : goal.returns-in-Some-clause-own
returns-in-Some-clause-own g c = here-sparing g.H.Host c.args.self.now (name_at ((loom_told g.H.Host c.args.self.now).regs c.args.of)) _ c.requires.fit.sound c.in-Some.ensures.here.there c.in-Some.ensures.here.bounded

pub returns-in-None-clause-idle : goal.returns-in-None-clause-idle
returns-in-None-clause-idle g c = λ here. absurd (let both : true ≡ false = sym here ∙ c.in-None.ensures.away in cc)

pub returns-in-None-clause-own : goal.returns-in-None-clause-own
returns-in-None-clause-own g c =
    let m = c.args.self.now in
    let r = c.load_with_room.result in
    let all = c.load_with_room.ensures in
    let n = c.load_with_room.new.self in
    let t = loom_told g.H.Host m in
    let k = name_at (t.regs c.args.of) in
    come-sparing r g.H.Host m n k c.args.self.now.pager.levels.whole.parts.core all.leaves.sound c.in-None.ensures.away c.in-None.ensures.leaf (if-on r (λ s (x : IsHere g.H.Host t n c.args.of s.0). x.there) all.here) (if-on r (λ s (x : IsHere g.H.Host t n c.args.of s.0). x.bounded) all.here) all.counted (comes-gentle _ _ r g.H.Host m n _ all.comes) (ok-map r (λ (x : MayThin g.H.Host (IsBrought m n k) m n). x.minds) all.thins)

pub returns-in-Some-clause-tested : goal.returns-in-Some-clause-tested
returns-in-Some-clause-tested g c = λ away. absurd (let both : true ≡ false = sym c.in-Some.ensures.here.there ∙ away in cc)

pub returns-in-None-clause-tested : goal.returns-in-None-clause-tested
returns-in-None-clause-tested g c = tested-where _ _ _ c.load_with_room.result c.load_with_room.ensures.tested c.in-None.ensures.leaf

pub returns-in-Some-clause-brings : goal.returns-in-Some-clause-brings
returns-in-Some-clause-brings g c = brings-none c.args.self.now c.args.self.now _ refl

pub returns-in-None-clause-brings : goal.returns-in-None-clause-brings
returns-in-None-clause-brings g c = brings-where c.args.self.now c.load_with_room.new.self _ _ (λ any. c.in-None.ensures.away) c.load_with_room.ensures.brings

pub returns-in-Some-clause-gone : goal.returns-in-Some-clause-gone
returns-in-Some-clause-gone g c = freed-here g.H.Host c.args.self.now (name_at ((loom_told g.H.Host c.args.self.now).regs c.args.of)) c.in-Some.ensures.here.there

pub returns-in-None-clause-gone : goal.returns-in-None-clause-gone
returns-in-None-clause-gone g c =
    let m = c.args.self.now in
    let n = c.load_with_room.new.self in
    let r = c.load_with_room.result in
    let k = name_at ((loom_told g.H.Host m).regs c.args.of) in
    freed-came r g.H.Host m n c.args.of k c.in-None.ensures.leaf (comes-gone _ _ r g.H.Host m n _ c.load_with_room.ensures.comes) (ok-map r (λ (x : MayThin g.H.Host (IsBrought m n k) m n). x.due) c.load_with_room.ensures.thins) (ok-map r (λ (x : MayThin g.H.Host (IsBrought m n k) m n). x.flag) c.load_with_room.ensures.thins)

pub returns-in-None-clause-thinned : goal.returns-in-None-clause-thinned
returns-in-None-clause-thinned g c =
    let m = c.args.self.now in
    let n = c.load_with_room.new.self in
    ok-map c.load_with_room.result (λ (x : MayThin g.H.Host (IsBrought m n (name_at ((loom_told g.H.Host m).regs c.args.of))) m n). x.thinned) c.load_with_room.ensures.thins

pub returns-in-None-clause-regs : goal.returns-in-None-clause-regs
returns-in-None-clause-regs g c =
    let m = c.args.self.now in
    let n = c.load_with_room.new.self in
    ok-map c.load_with_room.result (λ (x : MayThin g.H.Host (IsBrought m n (name_at ((loom_told g.H.Host m).regs c.args.of))) m n). x.regs) c.load_with_room.ensures.thins

pub returns-in-None-clause-pins : goal.returns-in-None-clause-pins
returns-in-None-clause-pins g c =
    let m = c.args.self.now in
    let n = c.load_with_room.new.self in
    ok-map c.load_with_room.result (λ (x : MayThin g.H.Host (IsBrought m n (name_at ((loom_told g.H.Host m).regs c.args.of))) m n). x.pins) c.load_with_room.ensures.thins

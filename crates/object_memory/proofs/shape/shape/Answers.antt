use Rattle.std.proofs.Common.{Some, is_some, refl, sym, ◌∙◌, ap}
use Rattle.long_names.specs.Objects.{len_of}
use Rattle.long_names.specs.Access.{Length}
use Rattle.object_memory.specs.Shape.{shape_of}
use Rattle.object_memory.proofs.Callers.{may_length}
use Rattle.object_memory.proofs.LooksLaws.{Looks-trans, Looks-access, Looks-read, part_looked, ref_looked}
use Rattle.object_memory.proofs.RefusedLaws.{read_ok, read_err}
use Rattle.object_memory.proofs.ShapeLaws.{finds_part, number_answer, shape_there}
use Rattle.object_memory.proofs.shape.shape.Goals as goal

pub len-requires-clause-may : goal.len-requires-clause-may
len-requires-clause-may g c =
    let t = g.M.ObjectMemory.told c.args.m.now in
    let u = g.M.ObjectMemory.told c.kind_of.new.m in
    let kind = c.in_ok-kind.ensures in
    may_length u c.args.of kind.fit.ready (ref_looked _ t u c.args.of (Looks-read t u c.args.of kind.read) refl (kind.named.0 (ap is_some c.in-Some.is)))

pub returns-in_err-len-clause-read : goal.returns-in_err-len-clause-read
returns-in_err-len-clause-read g c =
    let t = g.M.ObjectMemory.told c.args.m.now in
    let u = g.M.ObjectMemory.told c.kind_of.new.m in
    let w = g.M.ObjectMemory.told c.len.new.self in
    let kind = c.in_ok-kind.ensures in
    read_err t u w c.args.of (Length c.args.of) _ _ c.from_residual-in_err-len.ensures.1 c.requires.fit.ready kind.fit.ready (kind.named.0 (ap is_some c.in-Some.is)) kind.read refl c.in_err-len.ensures.access.called

pub returns-clause-read : goal.returns-clause-read
returns-clause-read g c =
    let t = g.M.ObjectMemory.told c.args.m.now in
    let u = g.M.ObjectMemory.told c.kind_of.new.m in
    let w = g.M.ObjectMemory.told c.len.new.self in
    read_ok t u w c.args.of (Length c.args.of) _ c.in_ok-kind.ensures.fit.ready c.in_ok-kind.ensures.read refl c.in_ok-len.ensures.access.called

pub returns-clause-shape : goal.returns-clause-shape
returns-clause-shape g c =
    let t = g.M.ObjectMemory.told c.args.m.now in
    let u = g.M.ObjectMemory.told c.kind_of.new.m in
    let w = g.M.ObjectMemory.told c.len.new.self in
    let of = c.args.of in
    let kind = c.in_ok-kind.ensures in
    let len = c.in_ok-len.ensures in
    let first = Looks-read t u of kind.read in
    let both = Looks-trans _ _ t u w kind.fit.ready first (Looks-access u w (Length of) refl len.access.called) in
    finds_part t w of shape_of (c.in-Some.kind, c.in_ok-len.len) len.fit.ready both (kind.named.0 (ap is_some c.in-Some.is)) (λ told.
    shape_there t.heap (t.regs of) c.in-Some.kind c.in_ok-len.len
    (kind.kind.before.there told ∙ c.in-Some.is)
    (sym (part_looked _ t u of (λ b. Some (len_of b)) kind.fit.ready first refl told) ∙ number_answer _ _ (len.access.answer (first.later.tells ∙ told))))

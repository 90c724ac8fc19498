use Rattle.std.proofs.Common.{Some, refl}
use Rattle.long_names.specs.Objects.{kind_of}
use Rattle.object_memory.proofs.Callers.{may_kind}
use Rattle.object_memory.proofs.RefusedLaws.{read_none, read_first}
use Rattle.object_memory.proofs.LooksLaws.{Looks-read}
use Rattle.object_memory.proofs.ShapeLaws.{finds_part, kind_answer}
use Rattle.object_memory.proofs.shape.kind_of.Goals as goal

pub kind-requires-clause-may : goal.kind-requires-clause-may
kind-requires-clause-may g c = may_kind (g.M.ObjectMemory.told c.args.m.now) c.args.of c.requires.fit.ready (c.if-not-is_name.ensures.0 refl)

pub returns-then-not-is_name-clause-read : goal.returns-then-not-is_name-clause-read
returns-then-not-is_name-clause-read g c = read_none (g.M.ObjectMemory.told c.args.m.now) c.args.of _ (λ ref. (let no = c.if-not-is_name.ensures.1 ref in cc))

pub returns-clause-kind : goal.returns-clause-kind
returns-clause-kind g c =
    let t = g.M.ObjectMemory.told c.args.m.now in
    let u = g.M.ObjectMemory.told c.kind.new.self in
    let access = c.in_ok-kind.ensures.access in
    let ref = c.if-not-is_name.ensures.0 refl in
    finds_part t u c.args.of (λ b. Some (kind_of b)) c.in_ok-kind.kind c.in_ok-kind.ensures.fit.ready (Looks-read t u c.args.of (read_first t u c.args.of c.in_ok-kind.kind c.in_ok-kind.kind access)) ref (λ told. kind_answer _ _ (access.answer told))

use Rattle.std.proofs.Common.{◌≡◌, length, Some, is_some, refl, sym, ◌∙◌, ap}
use Rattle.long_names.specs.Words.{literal_count}
use Rattle.long_names.specs.Objects.{fields_of}
use Rattle.long_names.specs.Access.{Header}
use Rattle.object_memory.specs.Shape.{literals_count}
use Rattle.object_memory.proofs.Callers.{may_header}
use Rattle.object_memory.proofs.LooksLaws.{Looks-trans, Looks-access, Looks-read, part_looked}
use Rattle.object_memory.proofs.RefusedLaws.{read_ok, read_err}
use Rattle.object_memory.proofs.ShapeLaws.{finds_part, method_found, literals_there, small_number}
use Rattle.object_memory.proofs.shape.literals.Goals as goal

pub header-requires-clause-may : goal.header-requires-clause-may
header-requires-clause-may g c =
    may_header (g.M.ObjectMemory.told c.kind_of.new.m) c.args.of (λ xs. Unit {0}) (method_found _ c.args.of _ c.in_ok-kind.ensures.kind.after (c.if-not-is_kind.ensures.0 refl))

pub returns-in_err-header-clause-read : goal.returns-in_err-header-clause-read
returns-in_err-header-clause-read g c =
    let t = g.M.ObjectMemory.told c.args.m.now in
    let u = g.M.ObjectMemory.told c.kind_of.new.m in
    let w = g.M.ObjectMemory.told c.header.new.self in
    let kind = c.in_ok-kind.ensures in
    read_err t u w c.args.of (Header c.args.of) _ _ c.from_residual-in_err-header.ensures.1 c.requires.fit.ready kind.fit.ready (kind.named.0 (ap is_some (c.if-not-is_kind.ensures.0 refl))) kind.read refl c.in_err-header.ensures.access.called

pub returns-clause-read : goal.returns-clause-read
returns-clause-read g c =
    let t = g.M.ObjectMemory.told c.args.m.now in
    let u = g.M.ObjectMemory.told c.kind_of.new.m in
    let w = g.M.ObjectMemory.told c.header.new.self in
    read_ok t u w c.args.of (Header c.args.of) _ c.in_ok-kind.ensures.fit.ready c.in_ok-kind.ensures.read refl c.in_ok-header.ensures.access.called

pub returns-clause-literals : goal.returns-clause-literals
returns-clause-literals g c =
    let t = g.M.ObjectMemory.told c.args.m.now in
    let u = g.M.ObjectMemory.told c.kind_of.new.m in
    let w = g.M.ObjectMemory.told c.header.new.self in
    let of = c.args.of in
    let kind = c.in_ok-kind.ensures in
    let header = c.in_ok-header.ensures in
    let method = c.if-not-is_kind.ensures.0 refl in
    let first = Looks-read t u of kind.read in
    let both = Looks-trans _ _ t u w kind.fit.ready first (Looks-access u w (Header of) refl header.access.called) in
    let count : c.literal_count.result ≡ literal_count c.in_ok-header.header = c.literal_count.ensures ∙ ap literal_count (small_number c.in_ok-header.header header.range) in
    finds_part t w of literals_count c.literal_count.result header.fit.ready both (kind.named.0 (ap is_some method)) (λ told.
    literals_there t.heap (t.regs of) c.literal_count.result
    (kind.kind.before.there told ∙ method)
    (sym (part_looked _ t u of (λ b. Some (length (fields_of b))) kind.fit.ready first refl told) ∙ header.literals (first.later.tells ∙ told) ∙ ap (λ n. Some n) (sym count)))

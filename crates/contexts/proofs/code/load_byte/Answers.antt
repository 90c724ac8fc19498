use Rattle.std.proofs.Common.{◌≡◌, ℕ, ◌<◌, List, [], Option, Some, Ok, Err, IsTrue, is_some, refl, sym, ◌∙◌, ap}
use Rattle.std.specs.List.{slice_get}
use Rattle.std.specs.Option.{option_and_then}
use Rattle.long_names.specs.declared.object.Body.{Body}
use Rattle.long_names.specs.Objects.{bytes_of}
use Rattle.long_names.specs.State.{part_at}
use Rattle.long_names.specs.Access.{Length, Byte}
use Rattle.object_memory.proofs.Callers.{may_length, may_byte}
use Rattle.object_memory.proofs.LooksLaws.{Looks-read, Looks-trans, Looks-access, part_looked, ref_looked, found_looked}
use Rattle.object_memory.proofs.ShapeLaws.{number_answer, has_sized}
use Rattle.blue_model.specs.declared.cause.Cause.TheVariants.{Pointer, Shape}
use Rattle.blue_model.specs.Machine.{given}
use Rattle.contexts.specs.declared.stop.Stop.TheVariants.{Stuck}
use Rattle.contexts.specs.Serves.{Serves}
use Rattle.blue_model.specs.Parts.{code_of, byte_at}
use Rattle.blue_model.specs.Contexts.{byte_of}
use Rattle.contexts.proofs.ServesLaws.{serves_stop, exits}
use Rattle.contexts.proofs.Steps.{read_first, read_last, stuck_last}
use Rattle.contexts.proofs.ReadLaws.{quiet, read_refused, later_refused}
use Rattle.contexts.proofs.CodeLaws.{byte_serves, byte_past, byte_none, length_is}
use Rattle.contexts.proofs.code.load_byte.Goals as goal
use Rattle.contexts.proofs.code.load_byte.Goals.{In_ok-len}
use Rattle.contexts.proofs.code.load_byte.Given.{Over}
use Rattle.object_memory.specs.Shape.{IsPartAt, Looks, byte_count}

-- the byte of a body at an index
abbrev byte_at_index : ℕ → Body → Option ℕ
byte_at_index i b = option_and_then (λ (bytes : List ℕ). slice_get bytes i) (bytes_of b)

pub returns-in_err-literals-clause-serves : goal.returns-in_err-literals-clause-serves
unfolding byte_of
returns-in_err-literals-clause-serves g c = λ cpu ip place. exits _ c.from_residual.ensures.1 (serves_stop (λ code. given Pointer (byte_at ip code)) (read_refused Shape code_of c.args.method c.requires.fit.ready c.in_err-literals.ensures.read))

pub returns-in_default-clause-serves : goal.returns-in_default-clause-serves
returns-in_default-clause-serves g c = λ cpu ip place.
    let found = c.in_ok-literals.ensures in
    stuck_last (byte_none c.args.method ip c.requires.fit.ready found.literals.before c.in_default.is) (quiet [] _ _ refl c.requires.fit.ready found.fit.ready (Looks-read _ _ c.args.method found.read))

-- what the length says of the code, before it was asked for
sized : (g : Over) (c : In_ok-len g) → IsPartAt (g.M.ObjectMemory.told c.literals.new.m) c.args.method byte_count (Some c.in_ok-len.len)
sized g c = length_is c.in-Some.literals c.in_ok-len.len c.in_ok-literals.ensures.literals.after c.in-Some.is (λ told. number_answer _ _ (c.in_ok-len.ensures.access.answer told))

looks : (g : Over) (c : In_ok-len g) → Looks [] (g.M.ObjectMemory.told c.literals.new.m) (g.M.ObjectMemory.told c.len.new.self)
looks g c = Looks-access _ _ (Length c.args.method) refl c.in_ok-len.ensures.access.called

pub len-requires-clause-may : goal.len-requires-clause-may
len-requires-clause-may g c = may_length _ c.args.method c.in_ok-literals.ensures.fit.ready (c.in_ok-literals.ensures.literals.after.name (ap is_some c.in-Some.is))

pub returns-in_err-len-clause-serves : goal.returns-in_err-len-clause-serves
unfolding byte_of
returns-in_err-len-clause-serves g c = λ cpu ip place.
    let found = c.in_ok-literals.ensures in
    exits _ c.from_residual-in_err-len.ensures.1 (serves_stop (λ code. given Pointer (byte_at ip code))
    (later_refused [] Shape code_of c.args.method (Length c.args.method) refl refl refl c.requires.fit.ready found.fit.ready (Looks-read _ _ c.args.method found.read) (found.literals.after.name (ap is_some c.in-Some.is)) c.in_err-len.ensures.access.called))

pub returns-in_default-index_of-clause-serves : goal.returns-in_default-index_of-clause-serves
returns-in_default-index_of-clause-serves g c = λ cpu ip place.
    let before = (goal.at.returns-in_default-index_of-clause-serves g c).In_ok-len in
    let u = g.M.ObjectMemory.told c.literals.new.m in
    let found = c.in_ok-literals.ensures in
    let first = Looks-read _ u c.args.method found.read in
    let past : Serves u cpu u cpu (byte_of ip (u.regs c.args.method)) (Err (Stuck Pointer)) = byte_past c.args.method ip c.args.place c.in-Some.literals c.in_ok-len.len found.fit.ready found.literals.after c.in-Some.is (sized g before) refl place c.in_default-index_of.ensures.index in
    stuck_last (read_first c.requires.fit.ready (quiet [] _ u refl c.requires.fit.ready found.fit.ready first) (rw (first.regs c.args.method refl) at past))
    (quiet [] u _ refl found.fit.ready c.in_ok-len.ensures.fit.ready (looks g before))

pub byte-requires-clause-may : goal.byte-requires-clause-may
byte-requires-clause-may g c =
    let before = (goal.at.byte-requires-clause-may g c).In_ok-len in
    let w = g.M.ObjectMemory.told c.len.new.self in
    let after = found_looked [] _ w c.args.method byte_count (Some c.in_ok-len.len) c.in_ok-len.ensures.fit.ready (looks g before) refl (sized g before) in
    may_byte w c.args.method c.in-Some-index_of.i (has_sized w c.args.method bytes_of (λ n. c.in-Some-index_of.i < n) _ _ after refl c.in-Some-index_of.ensures.within)

pub returns-in_err-byte-clause-serves : goal.returns-in_err-byte-clause-serves
unfolding byte_of
returns-in_err-byte-clause-serves g c = λ cpu ip place.
    let before = (goal.at.returns-in_err-byte-clause-serves g c).In_ok-len in
    let u = g.M.ObjectMemory.told c.literals.new.m in
    let w = g.M.ObjectMemory.told c.len.new.self in
    let found = c.in_ok-literals.ensures in
    let len = c.in_ok-len.ensures in
    let first = Looks-read _ u c.args.method found.read in
    let all = Looks-trans [] [] _ u w found.fit.ready first (looks g before) in
    exits _ c.from_residual-in_err-byte.ensures.1 (serves_stop (λ code. given Pointer (byte_at ip code))
    (later_refused [] Shape code_of c.args.method (Byte c.args.method c.in-Some-index_of.i) refl refl refl c.requires.fit.ready len.fit.ready all (ref_looked [] u w c.args.method (looks g before) refl (found.literals.after.name (ap is_some c.in-Some.is))) c.in_err-byte.ensures.access.called))

pub returns-clause-serves : goal.returns-clause-serves
returns-clause-serves g c = λ cpu ip place.
    let before = (goal.at.returns-clause-serves g c).In_ok-len in
    let t = g.M.ObjectMemory.told c.args.m.now in
    let u = g.M.ObjectMemory.told c.literals.new.m in
    let w = g.M.ObjectMemory.told c.len.new.self in
    let found = c.in_ok-literals.ensures in
    let len = c.in_ok-len.ensures in
    let got = c.in_ok-byte.ensures in
    let first = Looks-read t u c.args.method found.read in
    let second = looks g before in
    let third = Looks-access w _ (Byte c.args.method c.in-Some-index_of.i) refl got.access.called in
    let answer : IsTrue u.tells → part_at u.heap (u.regs c.args.method) (byte_at_index c.in-Some-index_of.i) ≡ Some c.in_ok-byte.byte = λ told. sym (part_looked [] u w c.args.method (byte_at_index c.in-Some-index_of.i) len.fit.ready second refl told) ∙ number_answer _ _ (got.access.answer (second.later.tells ∙ told)) in
    let serves : Serves u cpu u cpu (byte_of ip (u.regs c.args.method)) (Ok c.in_ok-byte.byte) = byte_serves c.args.method ip c.args.place c.in-Some.literals c.in_ok-len.len c.in-Some-index_of.i c.in_ok-byte.byte found.fit.ready found.literals.after c.in-Some.is place c.in-Some-index_of.ensures.index answer in
    read_last (read_first c.requires.fit.ready (quiet [] t u refl c.requires.fit.ready found.fit.ready first) (rw (first.regs c.args.method refl) at serves))
    (quiet [] _ _ refl found.fit.ready got.fit.ready (Looks-trans [] [] u w _ len.fit.ready second third))

pub returns-clause-looks : goal.returns-clause-looks
returns-clause-looks g c =
    let before = (goal.at.returns-clause-looks g c).In_ok-len in
    let found = c.in_ok-literals.ensures in
    Looks-trans [] [] _ _ _ c.in_ok-len.ensures.fit.ready (Looks-trans [] [] _ _ _ found.fit.ready (Looks-read _ _ c.args.method found.read) (looks g before)) (Looks-access _ _ (Byte c.args.method c.in-Some-index_of.i) refl c.in_ok-byte.ensures.access.called)

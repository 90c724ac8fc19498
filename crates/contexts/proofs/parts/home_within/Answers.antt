use Rattle.std.proofs.Common.{◌≡◌, true, false, [], ◌∷◌, length, ◌<◌, Some, is_some, refl, sym, ◌∙◌, ap, ap₂, arith}
use Rattle.long_names.specs.declared.value.Value.{Value}
use Rattle.long_names.specs.Objects.{int_of, field_of, pointers_of}
use Rattle.long_names.specs.State.{part_at}
use Rattle.long_names.specs.Access.{Field}
use Rattle.object_memory.specs.Shape.{Looks, is_among}
use Rattle.object_memory.proofs.Callers.{may_field}
use Rattle.object_memory.proofs.LooksLaws.{Looks-trans, Looks-access, Looks-put, put_value, not_among, has_looked, ref_looked}
use Rattle.blue_model.specs.declared.cause.Cause.TheVariants.{Shape}
use Rattle.blue_model.specs.Parts.{home_of, home_by}
use Rattle.contexts.proofs.ReadLaws.{scratch, read_serves, part_refused, later_refused, loaded, looks_loaded, looks_once, exits_with}
use Rattle.contexts.proofs.PartLaws.{sized_more, home_tested, home_of_block, home_of_method}
use Rattle.contexts.proofs.parts.home_within.Goals as goal
use Rattle.contexts.proofs.parts.home_within.Goals.{In_ok-field}
use Rattle.contexts.proofs.parts.home_within.Given.{Over}

-- field 3 was loaded, and nothing else read
read_first : (g : Over) (c : In_ok-field g) → Looks (c.args.to ∷ []) (g.M.ObjectMemory.told c.args.m.now) (g.M.ObjectMemory.told c.field.new.self)
read_first g c = Looks-access _ _ (Field c.args.to c.args.context 3) refl c.in_ok-field.ensures.access.called

-- the register is not the context's
apart : (g : Over) (c : In_ok-field g) → is_among (c.args.to ∷ []) c.args.context ≡ false
apart g c = not_among c.args.to c.args.context (λ e. c.requires.apart (sym e))

pub field-requires-clause-may : goal.field-requires-clause-may
field-requires-clause-may g c = may_field _ c.args.to c.args.context 3 (sized_more 6 3 (omega arith) c.requires.within)

pub returns-in_err-field-clause-serves : goal.returns-in_err-field-clause-serves
returns-in_err-field-clause-serves g c = λ cpu. exits_with _ _ c.from_residual.ensures.1 (part_refused Shape (home_of _) c.args.context (Field c.args.to c.args.context 3) refl c.requires.fit.ready (λ told. c.requires.within.name) c.in_err-field.ensures.access.called)

pub field-requires-then-is_some-clause-may : goal.field-requires-then-is_some-clause-may
field-requires-then-is_some-clause-may g c =
    let before = (goal.at.field-requires-then-is_some-clause-may g c).In_ok-field in
    let t = g.M.ObjectMemory.told c.args.m.now in
    let w = g.M.ObjectMemory.told c.field.new.self in
    may_field w c.args.to c.args.context 5 (has_looked (c.args.to ∷ []) t w c.args.context pointers_of (λ xs. 5 < length xs) c.in_ok-field.ensures.fit.ready (read_first g before) (apart g before) (sized_more 6 5 (omega arith) c.requires.within))

pub returns-in_err-field-2-clause-serves : goal.returns-in_err-field-2-clause-serves
returns-in_err-field-2-clause-serves g c = λ cpu.
    let before = (goal.at.returns-in_err-field-2-clause-serves g c).In_ok-field in
    let t = g.M.ObjectMemory.told c.args.m.now in
    let w = g.M.ObjectMemory.told c.field.new.self in
    let to = c.args.to in
    let looks = read_first g before in
    let ref = ref_looked (to ∷ []) t w c.args.context looks (apart g before) c.requires.within.name in
    exits_with _ _ c.from_residual-in_err-field-2.ensures.1 (later_refused (to ∷ []) Shape (home_of _) c.args.context (Field to c.args.context 5) (scratch to c.requires.scratch) (apart g before) refl c.requires.fit.ready c.in_ok-field.ensures.fit.ready looks ref c.in_err-field-2.ensures.access.called)

pub returns-in_ok-field-2-clause-looks : goal.returns-in_ok-field-2-clause-looks
returns-in_ok-field-2-clause-looks g c =
    let before = (goal.at.returns-in_ok-field-2-clause-looks g c).In_ok-field in
    let t = g.M.ObjectMemory.told c.args.m.now in
    let w = g.M.ObjectMemory.told c.field.new.self in
    let x = g.M.ObjectMemory.told c.field-then-is_some.new.self in
    looks_once c.args.to t x (looks_loaded (c.args.to ∷ []) t w x c.args.to c.args.context 5 c.in_ok-field.ensures.fit.ready (read_first g before) c.in_ok-field-2.ensures.access.called)

pub returns-in_ok-field-2-clause-serves : goal.returns-in_ok-field-2-clause-serves
returns-in_ok-field-2-clause-serves g c = λ cpu.
    let before = (goal.at.returns-in_ok-field-2-clause-serves g c).In_ok-field in
    let t = g.M.ObjectMemory.told c.args.m.now in
    let w = g.M.ObjectMemory.told c.field.new.self in
    let x = g.M.ObjectMemory.told c.field-then-is_some.new.self in
    let to = c.args.to in
    let of = c.args.context in
    let load = c.in_ok-field.ensures in
    let again = c.in_ok-field-2.ensures in
    let looks = read_first g before in
    let block : is_some (int_of (w.regs to)) ≡ true = ap is_some (sym c.as_int.ensures.number) ∙ sym c.if-is_some.ensures in
    read_serves (to ∷ []) Shape (home_of (t.regs of)) of (x.regs to) (scratch to c.requires.scratch) c.requires.fit.ready again.fit.ready (returns-in_ok-field-2-clause-looks g c)
    (λ told. home_tested (t.regs of) c.requires.within told
    ∙ ap₂ (home_by (t.regs of)) (load.access.called.ok.brings told) (loaded (to ∷ []) t w x to of 5 load.fit.ready looks (apart g before) again.access.called told)
    ∙ home_of_block (t.regs of) (w.regs to) (Some (x.regs to)) block)

pub returns-else-is_some-clause-looks : goal.returns-else-is_some-clause-looks
returns-else-is_some-clause-looks g c =
    let before = (goal.at.returns-else-is_some-clause-looks g c).In_ok-field in
    let t = g.M.ObjectMemory.told c.args.m.now in
    let w = g.M.ObjectMemory.told c.field.new.self in
    let y = g.M.ObjectMemory.told c.copy.new.self in
    looks_once c.args.to t y (Looks-trans (c.args.to ∷ []) (c.args.to ∷ []) t w y c.in_ok-field.ensures.fit.ready (read_first g before) (Looks-put w y c.args.to _ c.copy.ensures.told))

pub returns-else-is_some-clause-serves : goal.returns-else-is_some-clause-serves
returns-else-is_some-clause-serves g c = λ cpu.
    let before = (goal.at.returns-else-is_some-clause-serves g c).In_ok-field in
    let t = g.M.ObjectMemory.told c.args.m.now in
    let w = g.M.ObjectMemory.told c.field.new.self in
    let y = g.M.ObjectMemory.told c.copy.new.self in
    let to = c.args.to in
    let of = c.args.context in
    let load = c.in_ok-field.ensures in
    let looks = read_first g before in
    let method : is_some (int_of (w.regs to)) ≡ false = ap is_some (sym c.as_int.ensures.number) ∙ sym c.if-is_some.ensures in
    let copied : y.regs to ≡ t.regs of = put_value w y to (w.regs of) c.copy.ensures.told ∙ looks.regs of (apart g before) in
    read_serves (to ∷ []) Shape (home_of (t.regs of)) of (y.regs to) (scratch to c.requires.scratch) c.requires.fit.ready (c.copy.ensures.fit.ready load.fit.ready) (returns-else-is_some-clause-looks g c)
    (λ told. home_tested (t.regs of) c.requires.within told
    ∙ ap (λ x. home_by (t.regs of) x (part_at t.heap (t.regs of) (λ b. field_of b 5))) (load.access.called.ok.brings told)
    ∙ home_of_method (t.regs of) (w.regs to) (part_at t.heap (t.regs of) (λ b. field_of b 5)) method
    ∙ ap (λ (v : Value). Some v) (sym copied))

use Rattle.std.proofs.Common.{pos, ◌+ℤ◌, ◌<◌, [], ◌∷◌, length, Some, refl, sym, ◌∙◌, ap}
use Rattle.long_names.specs.declared.value.Value.TheVariants.{Int}
use Rattle.long_names.specs.Objects.{field_of, pointers_of}
use Rattle.long_names.specs.State.{set_register}
use Rattle.long_names.specs.Access.{Field}
use Rattle.object_memory.specs.Shape.{Looks}
use Rattle.object_memory.proofs.Callers.{may_field, may_store}
use Rattle.object_memory.proofs.LooksLaws.{Looks-trans, Looks-read, Looks-access, Looks-put, put_value, part_looked, has_looked, below_among}
use Rattle.object_memory.proofs.LeftLaws.{store_over}
use Rattle.object_memory.proofs.ShapeLaws.{has_passed, int_is, small_number}
use Rattle.object_memory.proofs.caller.bump.Goals as goal
use Rattle.object_memory.proofs.caller.bump.Goals.{In_ok-field}
use Rattle.object_memory.proofs.caller.bump.Given.{Over}

pub field-requires-clause-may : goal.field-requires-clause-may
field-requires-clause-may g c = may_field _ _ _ _ (has_passed c.in_ok-has_field.ensures.field.after c.if-not-branch.false)

pub set_field-requires-clause-may : goal.set_field-requires-clause-may
set_field-requires-clause-may g c =
    let u = g.M.ObjectMemory.told c.has_field.new.m in
    let w = g.M.ObjectMemory.told c.field.new.self in
    let x = g.M.ObjectMemory.told c.int.new.self in
    let of = c.args.of in
    let load = c.in_ok-field.ensures in
    let looks = Looks-trans _ _ u w x load.fit.ready (Looks-access u w (Field 10 of 1) refl load.access.called) (Looks-put w x 10 _ c.int.ensures.told) in
    may_store x of 1 10 (has_looked _ u x of pointers_of (λ xs. 1 < length xs) (c.int.ensures.fit.ready load.fit.ready) looks (below_among 10 (10 ∷ 10 ∷ []) of c.requires.of refl)
    (has_passed c.in_ok-has_field.ensures.field.after c.if-not-branch.false))

-- the field was read, and nothing stored
read_field : (g : Over) (c : In_ok-field g) → Looks (10 ∷ []) (g.M.ObjectMemory.told c.args.m.now) (g.M.ObjectMemory.told c.field.new.self)
read_field g c =
    let t = g.M.ObjectMemory.told c.args.m.now in
    let u = g.M.ObjectMemory.told c.has_field.new.m in
    let w = g.M.ObjectMemory.told c.field.new.self in
    let test = c.in_ok-has_field.ensures in
    Looks-trans _ _ t u w test.fit.ready (Looks-read t u c.args.of test.read) (Looks-access u w (Field 10 c.args.of 1) refl c.in_ok-field.ensures.access.called)

pub returns-in_default-clause-looked : goal.returns-in_default-clause-looked
returns-in_default-clause-looked g c = λ none. read_field g (goal.at.returns-in_default-clause-looked g c).In_ok-field

pub returns-in_default-next_number-clause-looked : goal.returns-in_default-next_number-clause-looked
returns-in_default-next_number-clause-looked g c = λ none. read_field g (goal.at.returns-in_default-next_number-clause-looked g c).In_ok-field

pub returns-clause-bumped : goal.returns-clause-bumped
returns-clause-bumped g c = λ done told.
    let t = g.M.ObjectMemory.told c.args.m.now in
    let u = g.M.ObjectMemory.told c.has_field.new.m in
    let w = g.M.ObjectMemory.told c.field.new.self in
    let x = g.M.ObjectMemory.told c.int.new.self in
    let y = g.M.ObjectMemory.told c.set_field.new.self in
    let of = c.args.of in
    let test = c.in_ok-has_field.ensures in
    let load = c.in_ok-field.ensures in
    let number = c.in-Some.number in
    let next = c.in-Some-next_number.ensures in
    let first = Looks-read t u of test.read in
    let looks = Looks-trans _ _ t u x test.fit.ready first (Looks-trans _ _ u w x load.fit.ready (Looks-access u w (Field 10 of 1) refl load.access.called) (Looks-put w x 10 _ c.int.ensures.told)) in
    record {
      number = number;
      was = sym (part_looked _ t u of (λ b. field_of b 1) test.fit.ready first refl told) ∙ load.access.called.ok.brings (first.later.tells ∙ told) ∙ ap (λ v. Some v) (int_is (w.regs 10) number (sym c.as_int.ensures.number ∙ c.in-Some.is));
      heap = store_over _ t x y of 1 10 (Int (number +ℤ pos 1)) looks (below_among 10 (10 ∷ 10 ∷ []) of c.requires.of refl)
          (put_value w x 10 (Int (number +ℤ pos 1)) (c.int.ensures.told ∙ ap (λ z. record w { regs = set_register w.regs 10 (Int z) }) (small_number c.in-Some-next_number.next next.range ∙ next.next ∙ ap (λ z. z +ℤ pos 1) (small_number number c.in-Some.ensures.range))))
          (c.int.ensures.fit.ready load.fit.ready) c.in_ok-set_field.ensures.access.called told;
    }

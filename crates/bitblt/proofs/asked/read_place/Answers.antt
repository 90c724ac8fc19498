use Rattle.std.proofs.Common.{ℤ, ◌+◌, Option, Some, Ok, [], ◌∷◌, refl, sym, ◌∙◌, ap, subst}
use mir.Val.{to_z, of_z}
use Rattle.std.specs.Int.{w16}
use Rattle.long_names.specs.Words.{IsSmallInteger}
use Rattle.object_memory.proofs.ShapeLaws.{small_number}
use Rattle.blue_model.specs.Parts.{number}
use Rattle.blue_model.specs.Trials.{peek}
use Rattle.contexts.specs.Serves.{Serves}
use Rattle.contexts.proofs.ReadLaws.{looks_again}
use Rattle.bitblt.specs.Asking.{both, place_at}
use Rattle.contexts.proofs.PeekPairs.{peek_fault, later_fault, peek_join, peek_none, exits_by, of_some}
use Rattle.bitblt.proofs.AskedLaws.{place_makes, place_lacks}
use Rattle.bitblt.proofs.asked.read_place.Goals as goal

pub returns-in_err-x-clause-serves : goal.returns-in_err-x-clause-serves
returns-in_err-x-clause-serves g c = λ cpu. exits_by _ _ c.from_residual.ensures.1 (peek_fault (number 14 c.args.i) (place_at c.args.i) 10 c.requires.fit.ready (c.in_err-x.ensures.serves cpu))

pub returns-in_default-clause-serves : goal.returns-in_default-clause-serves
returns-in_default-clause-serves g c = λ cpu. peek_none (number 14 c.args.i) (place_at c.args.i) 10 _ c.in_default.is (place_lacks c.args.i) c.requires.fit.ready (c.in_ok-x.ensures.serves cpu)

pub returns-in_err-y-clause-serves : goal.returns-in_err-y-clause-serves
returns-in_err-y-clause-serves g c = λ cpu. exits_by _ _ c.from_residual-in_err-y.ensures.1 (later_fault (12 ∷ []) (number 14 (c.args.i + 1)) (place_at c.args.i) 10 refl refl c.requires.fit.ready c.in_ok-x.ensures.fit.ready c.in_ok-x.ensures.looks (c.in_err-y.ensures.serves cpu))

pub returns-in_default-2-clause-serves : goal.returns-in_default-2-clause-serves
returns-in_default-2-clause-serves g c = λ cpu.
    let whole = peek_join (number 14 c.args.i) (number 14 (c.args.i + 1)) (place_at c.args.i) both 10 _ _ (place_makes c.args.i) refl (c.in_ok-x.ensures.looks.regs 10 refl) c.requires.fit.ready (c.in_ok-x.ensures.serves cpu) (c.in_ok-y.ensures.serves cpu) in
    subst (λ (x : Option (ℤ × ℤ)). Serves (g.M.ObjectMemory.told c.args.m.now) cpu (g.M.ObjectMemory.told c.peek_number-2.new.m) cpu (peek (place_at c.args.i) ((g.M.ObjectMemory.told c.args.m.now).regs 10)) (Ok x)) (ap (λ a. both a c.in_ok-y.field-0) c.in-Some.is ∙ ap (λ b. both (Some c.in-Some.x) b) c.in_default-2.is) whole

pub returns-in_default-2-clause-looks : goal.returns-in_default-2-clause-looks
returns-in_default-2-clause-looks g c = looks_again 12 _ _ _ c.in_ok-x.ensures.fit.ready c.in_ok-x.ensures.looks c.in_ok-y.ensures.looks

pub returns-clause-serves : goal.returns-clause-serves
returns-clause-serves g c = λ cpu.
    let x = small_number _ (of_some IsSmallInteger _ _ c.in-Some.is c.in_ok-x.ensures.range) in
    let y = small_number _ (of_some IsSmallInteger _ _ c.in-Some-2.is c.in_ok-y.ensures.range) in
    let whole = peek_join (number 14 c.args.i) (number 14 (c.args.i + 1)) (place_at c.args.i) both 10 _ _ (place_makes c.args.i) refl (c.in_ok-x.ensures.looks.regs 10 refl) c.requires.fit.ready (c.in_ok-x.ensures.serves cpu) (c.in_ok-y.ensures.serves cpu) in
    subst (λ (x : Option (ℤ × ℤ)). Serves (g.M.ObjectMemory.told c.args.m.now) cpu (g.M.ObjectMemory.told c.peek_number-2.new.m) cpu (peek (place_at c.args.i) ((g.M.ObjectMemory.told c.args.m.now).regs 10)) (Ok x))
    (ap (λ a. both a c.in_ok-y.field-0) c.in-Some.is ∙ ap (λ b. both (Some c.in-Some.x) b) c.in-Some-2.is ∙ ap (λ z. Some (z, c.in-Some-2.y)) (sym x) ∙ ap (λ z. Some (to_z w16 (of_z w16 c.in-Some.x), z)) (sym y)) whole

pub returns-clause-looks : goal.returns-clause-looks
returns-clause-looks g c = looks_again 12 _ _ _ c.in_ok-x.ensures.fit.ready c.in_ok-x.ensures.looks c.in_ok-y.ensures.looks

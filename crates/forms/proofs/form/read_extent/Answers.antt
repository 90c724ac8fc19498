use Rattle.std.proofs.Common.{Option, Some, Ok, [], ◌∷◌, refl, ◌∙◌, ap, subst}
use Rattle.std.specs.Option.{option_and_then}
use Rattle.long_names.specs.Words.{IsSmallInteger}
use Rattle.object_memory.proofs.ShapeLaws.{small_number}
use Rattle.blue_model.specs.Parts.{number}
use Rattle.blue_model.specs.Trials.{peek}
use Rattle.blue_model.specs.Forms.{extent_of, positive}
use Rattle.blue_model.specs.Forms as model
use Rattle.contexts.specs.Serves.{Serves}
use Rattle.contexts.proofs.ReadLaws.{looks_again}
use Rattle.contexts.proofs.PeekPairs.{peek_fault, later_fault, peek_join, peek_none, exits_by, of_some}
use Rattle.forms.proofs.FormLaws.{extent_makes, extent_lacks, no_height, by_number}
use Rattle.forms.proofs.form.read_extent.Goals as goal

pub returns-in_err-x-clause-serves : goal.returns-in_err-x-clause-serves
returns-in_err-x-clause-serves g c = λ cpu. exits_by _ _ c.from_residual.ensures.1 (peek_fault (number 3 1) extent_of 11 c.requires.fit.ready (c.in_err-x.ensures.serves cpu))

pub returns-in_default-clause-serves : goal.returns-in_default-clause-serves
returns-in_default-clause-serves g c = λ cpu. peek_none (number 3 1) extent_of 11 _ c.in_default.is extent_lacks c.requires.fit.ready (c.in_ok-x.ensures.serves cpu)

pub returns-in_err-y-clause-serves : goal.returns-in_err-y-clause-serves
returns-in_err-y-clause-serves g c = λ cpu. exits_by _ _ c.from_residual-in_err-y.ensures.1 (later_fault (12 ∷ []) (number 3 2) extent_of 11 refl refl c.requires.fit.ready c.in_ok-x.ensures.fit.ready c.in_ok-x.ensures.looks (c.in_err-y.ensures.serves cpu))

pub returns-in_default-2-clause-serves : goal.returns-in_default-2-clause-serves
returns-in_default-2-clause-serves g c = λ cpu.
    let whole = peek_join (number 3 1) (number 3 2) extent_of (λ x y. model.extent_by (option_and_then positive x) (option_and_then positive y)) 11 c.in_ok-x.field-0 c.in_ok-y.field-0 extent_makes refl (c.in_ok-x.ensures.looks.regs 11 refl) c.requires.fit.ready (c.in_ok-x.ensures.serves cpu) (c.in_ok-y.ensures.serves cpu) in
    subst (λ (x : Option model.Extent). Serves (g.M.ObjectMemory.told c.args.m.now) cpu (g.M.ObjectMemory.told c.peek_number-2.new.m) cpu (peek extent_of ((g.M.ObjectMemory.told c.args.m.now).regs 11)) (Ok x)) (ap (λ y. model.extent_by (option_and_then positive c.in_ok-x.field-0) (option_and_then positive y)) c.in_default-2.is ∙ no_height _) whole

pub returns-in_default-2-clause-looks : goal.returns-in_default-2-clause-looks
returns-in_default-2-clause-looks g c = looks_again 12 _ _ _ c.in_ok-x.ensures.fit.ready c.in_ok-x.ensures.looks c.in_ok-y.ensures.looks

pub returns-in_default-positive-clause-serves : goal.returns-in_default-positive-clause-serves
returns-in_default-positive-clause-serves g c = λ cpu.
    let whole = peek_join (number 3 1) (number 3 2) extent_of (λ x y. model.extent_by (option_and_then positive x) (option_and_then positive y)) 11 c.in_ok-x.field-0 c.in_ok-y.field-0 extent_makes refl (c.in_ok-x.ensures.looks.regs 11 refl) c.requires.fit.ready (c.in_ok-x.ensures.serves cpu) (c.in_ok-y.ensures.serves cpu) in
    subst (λ (x : Option model.Extent). Serves (g.M.ObjectMemory.told c.args.m.now) cpu (g.M.ObjectMemory.told c.peek_number-2.new.m) cpu (peek extent_of ((g.M.ObjectMemory.told c.args.m.now).regs 11)) (Ok x)) (ap (λ x. model.extent_by x (option_and_then positive c.in_ok-y.field-0)) (by_number positive c.in_ok-x.field-0 _ _ _ c.in-Some.is c.positive.ensures (small_number _ (of_some IsSmallInteger _ _ c.in-Some.is c.in_ok-x.ensures.range)) ∙ c.in_default-positive.is)) whole

pub returns-in_default-positive-clause-looks : goal.returns-in_default-positive-clause-looks
returns-in_default-positive-clause-looks g c = looks_again 12 _ _ _ c.in_ok-x.ensures.fit.ready c.in_ok-x.ensures.looks c.in_ok-y.ensures.looks

pub returns-in_default-positive-2-clause-serves : goal.returns-in_default-positive-2-clause-serves
returns-in_default-positive-2-clause-serves g c = λ cpu.
    let whole = peek_join (number 3 1) (number 3 2) extent_of (λ x y. model.extent_by (option_and_then positive x) (option_and_then positive y)) 11 c.in_ok-x.field-0 c.in_ok-y.field-0 extent_makes refl (c.in_ok-x.ensures.looks.regs 11 refl) c.requires.fit.ready (c.in_ok-x.ensures.serves cpu) (c.in_ok-y.ensures.serves cpu) in
    subst (λ (x : Option model.Extent). Serves (g.M.ObjectMemory.told c.args.m.now) cpu (g.M.ObjectMemory.told c.peek_number-2.new.m) cpu (peek extent_of ((g.M.ObjectMemory.told c.args.m.now).regs 11)) (Ok x)) (ap (λ y. model.extent_by (option_and_then positive c.in_ok-x.field-0) y) (by_number positive c.in_ok-y.field-0 _ _ _ c.in-Some-2.is c.positive-2.ensures (small_number _ (of_some IsSmallInteger _ _ c.in-Some-2.is c.in_ok-y.ensures.range)) ∙ c.in_default-positive-2.is) ∙ no_height _) whole

pub returns-in_default-positive-2-clause-looks : goal.returns-in_default-positive-2-clause-looks
returns-in_default-positive-2-clause-looks g c = looks_again 12 _ _ _ c.in_ok-x.ensures.fit.ready c.in_ok-x.ensures.looks c.in_ok-y.ensures.looks

pub returns-clause-serves : goal.returns-clause-serves
returns-clause-serves g c = λ cpu.
    let whole = peek_join (number 3 1) (number 3 2) extent_of (λ x y. model.extent_by (option_and_then positive x) (option_and_then positive y)) 11 c.in_ok-x.field-0 c.in_ok-y.field-0 extent_makes refl (c.in_ok-x.ensures.looks.regs 11 refl) c.requires.fit.ready (c.in_ok-x.ensures.serves cpu) (c.in_ok-y.ensures.serves cpu) in
    subst (λ (x : Option model.Extent). Serves (g.M.ObjectMemory.told c.args.m.now) cpu (g.M.ObjectMemory.told c.peek_number-2.new.m) cpu (peek extent_of ((g.M.ObjectMemory.told c.args.m.now).regs 11)) (Ok x)) (ap (λ x. model.extent_by x (option_and_then positive c.in_ok-y.field-0)) (by_number positive c.in_ok-x.field-0 _ _ _ c.in-Some.is c.positive.ensures (small_number _ (of_some IsSmallInteger _ _ c.in-Some.is c.in_ok-x.ensures.range)) ∙ c.in-Some-positive.is) ∙ ap (λ y. model.extent_by (Some c.in-Some-positive.width) y) (by_number positive c.in_ok-y.field-0 _ _ _ c.in-Some-2.is c.positive-2.ensures (small_number _ (of_some IsSmallInteger _ _ c.in-Some-2.is c.in_ok-y.ensures.range)) ∙ c.in-Some-positive-2.is)) whole

pub returns-clause-looks : goal.returns-clause-looks
returns-clause-looks g c = looks_again 12 _ _ _ c.in_ok-x.ensures.fit.ready c.in_ok-x.ensures.looks c.in_ok-y.ensures.looks

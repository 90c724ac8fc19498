use Rattle.std.proofs.Common.{◌≡◌, [], ◌∷◌, refl, ◌∙◌, ap, false, true}
use Rattle.std.specs.Option.{option_map}
use Rattle.long_names.specs.Objects.{words_of}
use Rattle.object_memory.proofs.LooksLaws.{has_looked}
use Rattle.blue_model.specs.declared.answer.Answer.TheVariants.{Done}
use Rattle.blue_model.specs.Machine.{◌>>◌, done}
use Rattle.blue_model.specs.Parts.{field}
use Rattle.blue_model.specs.Trials.{◌>>?◌, peek}
use Rattle.blue_model.specs.Forms.{form_of, form_where}
use Rattle.blue_model.specs.BitBlt.{has_sixteen, form_or_nil, copy}
use Rattle.contexts.proofs.PeekLaws.{found_one, found_none}
use Rattle.bitblt.specs.Asking.{asked_by}
use Rattle.forms.specs.Shapes.{form_by}
use Rattle.bitblt.specs.Shapes.{optional_by, OptionalRoom}
use Rattle.contexts.proofs.PeekPairs.{of_some}
use Rattle.bitblt.proofs.TrialSteps.{after_source, after_dest, after_asked, come_first, never_came, come_some, come_none, come_stop, come_copy, come_copy_stop, at_value, at_bits, optional_looked}
use Rattle.bitblt.proofs.table.copy_bits.Goals as goal

pub returns-in_err-stack-clause-serves : goal.returns-in_err-stack-clause-serves
returns-in_err-stack-clause-serves g c =
    never_came _ c.in_err-stack.ensures.serves c.from_residual.ensures.1

pub returns-in_err-q-clause-serves : goal.returns-in_err-q-clause-serves
unfolding form_of
returns-in_err-q-clause-serves g c =
    let t0 = g.M.ObjectMemory.told c.args.m.now in
    let t1 = g.M.ObjectMemory.told c.stack.new.m in
    let cpu = c.args.cpu.now in
    let blit = t1.regs 10 in
    let come1 = come_first blit c.in_ok-stack.ensures.serves in
    come_stop (λ q. after_asked blit q) _ come1 c.from_residual-in_err-q.ensures.1 (c.in_err-q.ensures.serves cpu)

pub returns-in_default-clause-serves : goal.returns-in_default-clause-serves
unfolding form_of
returns-in_default-clause-serves g c =
    let t0 = g.M.ObjectMemory.told c.args.m.now in
    let t1 = g.M.ObjectMemory.told c.stack.new.m in
    let cpu = c.args.cpu.now in
    let blit = t1.regs 10 in
    let come1 = come_first blit c.in_ok-stack.ensures.serves in
    come_none (λ q. after_asked blit q) come1 (ap (option_map asked_by) c.in_default.is) (c.in_ok-q.ensures.serves cpu)

pub returns-in_err-peek_field-clause-serves : goal.returns-in_err-peek_field-clause-serves
unfolding form_of
returns-in_err-peek_field-clause-serves g c =
    let t0 = g.M.ObjectMemory.told c.args.m.now in
    let t1 = g.M.ObjectMemory.told c.stack.new.m in
    let cpu = c.args.cpu.now in
    let blit = t1.regs 10 in
    let come1 = come_first blit c.in_ok-stack.ensures.serves in
    let t2 = g.M.ObjectMemory.told c.read_asked.new.m in
    let q = asked_by c.in-Some.q in
    let come2 = come_some (λ q. after_asked blit q) come1 (ap (option_map asked_by) c.in-Some.is) (c.in_ok-q.ensures.serves cpu) in
    let same2 : t2.regs 10 ≡ blit = c.in_ok-q.ensures.looks.regs 10 refl in
    come_stop (λ dest_form. form_of dest_form >>? λ dest. after_dest blit q dest) _ come2 c.from_residual-in_err-peek_field.ensures.1 (at_value (peek (field 14 0)) same2 (c.in_err-peek_field.ensures.serves cpu))

pub returns-then-not-branch-clause-serves : goal.returns-then-not-branch-clause-serves
unfolding form_of
returns-then-not-branch-clause-serves g c =
    let t0 = g.M.ObjectMemory.told c.args.m.now in
    let t1 = g.M.ObjectMemory.told c.stack.new.m in
    let cpu = c.args.cpu.now in
    let blit = t1.regs 10 in
    let come1 = come_first blit c.in_ok-stack.ensures.serves in
    let t2 = g.M.ObjectMemory.told c.read_asked.new.m in
    let q = asked_by c.in-Some.q in
    let come2 = come_some (λ q. after_asked blit q) come1 (ap (option_map asked_by) c.in-Some.is) (c.in_ok-q.ensures.serves cpu) in
    let same2 : t2.regs 10 ≡ blit = c.in_ok-q.ensures.looks.regs 10 refl in
    come_none (λ dest_form. form_of dest_form >>? λ dest. after_dest blit q dest) come2 refl (at_value (peek (field 14 0)) same2 (found_none c.in_ok-peek_field.field-0 ((g.M.ObjectMemory.told c.peek_field.new.m).regs 11) c.if-not-branch.true (c.in_ok-peek_field.ensures.serves cpu)))

pub returns-in_err-dest-clause-serves : goal.returns-in_err-dest-clause-serves
unfolding form_of
returns-in_err-dest-clause-serves g c =
    let t0 = g.M.ObjectMemory.told c.args.m.now in
    let t1 = g.M.ObjectMemory.told c.stack.new.m in
    let cpu = c.args.cpu.now in
    let blit = t1.regs 10 in
    let come1 = come_first blit c.in_ok-stack.ensures.serves in
    let t2 = g.M.ObjectMemory.told c.read_asked.new.m in
    let q = asked_by c.in-Some.q in
    let come2 = come_some (λ q. after_asked blit q) come1 (ap (option_map asked_by) c.in-Some.is) (c.in_ok-q.ensures.serves cpu) in
    let same2 : t2.regs 10 ≡ blit = c.in_ok-q.ensures.looks.regs 10 refl in
    let t3 = g.M.ObjectMemory.told c.peek_field.new.m in
    let come3 = come_some (λ dest_form. form_of dest_form >>? λ dest. after_dest blit q dest) come2 refl (at_value (peek (field 14 0)) same2 (found_one c.in_ok-peek_field.field-0 (t3.regs 11) c.if-not-branch.false (c.in_ok-peek_field.ensures.serves cpu))) in
    let same3 : t3.regs 10 ≡ blit = c.in_ok-peek_field.ensures.looks.regs 10 refl ∙ same2 in
    come_stop (λ dest. after_dest blit q dest) _ come3 c.from_residual-in_err-dest.ensures.1 (c.in_err-dest.ensures.serves cpu)

pub returns-in_default-2-clause-serves : goal.returns-in_default-2-clause-serves
unfolding form_of
returns-in_default-2-clause-serves g c =
    let t0 = g.M.ObjectMemory.told c.args.m.now in
    let t1 = g.M.ObjectMemory.told c.stack.new.m in
    let cpu = c.args.cpu.now in
    let blit = t1.regs 10 in
    let come1 = come_first blit c.in_ok-stack.ensures.serves in
    let t2 = g.M.ObjectMemory.told c.read_asked.new.m in
    let q = asked_by c.in-Some.q in
    let come2 = come_some (λ q. after_asked blit q) come1 (ap (option_map asked_by) c.in-Some.is) (c.in_ok-q.ensures.serves cpu) in
    let same2 : t2.regs 10 ≡ blit = c.in_ok-q.ensures.looks.regs 10 refl in
    let t3 = g.M.ObjectMemory.told c.peek_field.new.m in
    let come3 = come_some (λ dest_form. form_of dest_form >>? λ dest. after_dest blit q dest) come2 refl (at_value (peek (field 14 0)) same2 (found_one c.in_ok-peek_field.field-0 (t3.regs 11) c.if-not-branch.false (c.in_ok-peek_field.ensures.serves cpu))) in
    let same3 : t3.regs 10 ≡ blit = c.in_ok-peek_field.ensures.looks.regs 10 refl ∙ same2 in
    come_none (λ dest. after_dest blit q dest) come3 (ap (option_map (form_by ((g.M.ObjectMemory.told c.read_form.new.m).regs 13))) c.in_default-2.is) (c.in_ok-dest.ensures.serves cpu)

pub returns-in_err-peek_field-2-clause-serves : goal.returns-in_err-peek_field-2-clause-serves
unfolding form_of
returns-in_err-peek_field-2-clause-serves g c =
    let t0 = g.M.ObjectMemory.told c.args.m.now in
    let t1 = g.M.ObjectMemory.told c.stack.new.m in
    let cpu = c.args.cpu.now in
    let blit = t1.regs 10 in
    let come1 = come_first blit c.in_ok-stack.ensures.serves in
    let t2 = g.M.ObjectMemory.told c.read_asked.new.m in
    let q = asked_by c.in-Some.q in
    let come2 = come_some (λ q. after_asked blit q) come1 (ap (option_map asked_by) c.in-Some.is) (c.in_ok-q.ensures.serves cpu) in
    let same2 : t2.regs 10 ≡ blit = c.in_ok-q.ensures.looks.regs 10 refl in
    let t3 = g.M.ObjectMemory.told c.peek_field.new.m in
    let come3 = come_some (λ dest_form. form_of dest_form >>? λ dest. after_dest blit q dest) come2 refl (at_value (peek (field 14 0)) same2 (found_one c.in_ok-peek_field.field-0 (t3.regs 11) c.if-not-branch.false (c.in_ok-peek_field.ensures.serves cpu))) in
    let same3 : t3.regs 10 ≡ blit = c.in_ok-peek_field.ensures.looks.regs 10 refl ∙ same2 in
    let t4 = g.M.ObjectMemory.told c.read_form.new.m in
    let dest = form_by (t4.regs 13) c.in-Some-2.dest in
    let come4 = come_some (λ dest. after_dest blit q dest) come3 (ap (option_map (form_by (t4.regs 13))) c.in-Some-2.is) (c.in_ok-dest.ensures.serves cpu) in
    let same4 : t4.regs 10 ≡ blit = c.in_ok-dest.ensures.looks.regs 10 refl ∙ same3 in
    come_stop (λ source_form. form_or_nil form_of source_form >>? λ source. after_source blit q dest source) _ come4 c.from_residual-in_err-peek_field-2.ensures.1 (at_value (peek (field 14 1)) same4 (c.in_err-peek_field-2.ensures.serves cpu))

pub returns-then-not-branch-2-clause-serves : goal.returns-then-not-branch-2-clause-serves
unfolding form_of
returns-then-not-branch-2-clause-serves g c =
    let t0 = g.M.ObjectMemory.told c.args.m.now in
    let t1 = g.M.ObjectMemory.told c.stack.new.m in
    let cpu = c.args.cpu.now in
    let blit = t1.regs 10 in
    let come1 = come_first blit c.in_ok-stack.ensures.serves in
    let t2 = g.M.ObjectMemory.told c.read_asked.new.m in
    let q = asked_by c.in-Some.q in
    let come2 = come_some (λ q. after_asked blit q) come1 (ap (option_map asked_by) c.in-Some.is) (c.in_ok-q.ensures.serves cpu) in
    let same2 : t2.regs 10 ≡ blit = c.in_ok-q.ensures.looks.regs 10 refl in
    let t3 = g.M.ObjectMemory.told c.peek_field.new.m in
    let come3 = come_some (λ dest_form. form_of dest_form >>? λ dest. after_dest blit q dest) come2 refl (at_value (peek (field 14 0)) same2 (found_one c.in_ok-peek_field.field-0 (t3.regs 11) c.if-not-branch.false (c.in_ok-peek_field.ensures.serves cpu))) in
    let same3 : t3.regs 10 ≡ blit = c.in_ok-peek_field.ensures.looks.regs 10 refl ∙ same2 in
    let t4 = g.M.ObjectMemory.told c.read_form.new.m in
    let dest = form_by (t4.regs 13) c.in-Some-2.dest in
    let come4 = come_some (λ dest. after_dest blit q dest) come3 (ap (option_map (form_by (t4.regs 13))) c.in-Some-2.is) (c.in_ok-dest.ensures.serves cpu) in
    let same4 : t4.regs 10 ≡ blit = c.in_ok-dest.ensures.looks.regs 10 refl ∙ same3 in
    come_none (λ source_form. form_or_nil form_of source_form >>? λ source. after_source blit q dest source) come4 refl (at_value (peek (field 14 1)) same4 (found_none c.in_ok-peek_field-2.field-0 ((g.M.ObjectMemory.told c.peek_field-2.new.m).regs 11) c.if-not-branch-2.true (c.in_ok-peek_field-2.ensures.serves cpu)))

pub returns-in_err-source-clause-serves : goal.returns-in_err-source-clause-serves
unfolding form_of
returns-in_err-source-clause-serves g c =
    let t0 = g.M.ObjectMemory.told c.args.m.now in
    let t1 = g.M.ObjectMemory.told c.stack.new.m in
    let cpu = c.args.cpu.now in
    let blit = t1.regs 10 in
    let come1 = come_first blit c.in_ok-stack.ensures.serves in
    let t2 = g.M.ObjectMemory.told c.read_asked.new.m in
    let q = asked_by c.in-Some.q in
    let come2 = come_some (λ q. after_asked blit q) come1 (ap (option_map asked_by) c.in-Some.is) (c.in_ok-q.ensures.serves cpu) in
    let same2 : t2.regs 10 ≡ blit = c.in_ok-q.ensures.looks.regs 10 refl in
    let t3 = g.M.ObjectMemory.told c.peek_field.new.m in
    let come3 = come_some (λ dest_form. form_of dest_form >>? λ dest. after_dest blit q dest) come2 refl (at_value (peek (field 14 0)) same2 (found_one c.in_ok-peek_field.field-0 (t3.regs 11) c.if-not-branch.false (c.in_ok-peek_field.ensures.serves cpu))) in
    let same3 : t3.regs 10 ≡ blit = c.in_ok-peek_field.ensures.looks.regs 10 refl ∙ same2 in
    let t4 = g.M.ObjectMemory.told c.read_form.new.m in
    let dest = form_by (t4.regs 13) c.in-Some-2.dest in
    let come4 = come_some (λ dest. after_dest blit q dest) come3 (ap (option_map (form_by (t4.regs 13))) c.in-Some-2.is) (c.in_ok-dest.ensures.serves cpu) in
    let same4 : t4.regs 10 ≡ blit = c.in_ok-dest.ensures.looks.regs 10 refl ∙ same3 in
    let t5 = g.M.ObjectMemory.told c.peek_field-2.new.m in
    let come5 = come_some (λ source_form. form_or_nil form_of source_form >>? λ source. after_source blit q dest source) come4 refl (at_value (peek (field 14 1)) same4 (found_one c.in_ok-peek_field-2.field-0 (t5.regs 11) c.if-not-branch-2.false (c.in_ok-peek_field-2.ensures.serves cpu))) in
    let same5 : t5.regs 10 ≡ blit = c.in_ok-peek_field-2.ensures.looks.regs 10 refl ∙ same4 in
    come_stop (λ source. after_source blit q dest source) _ come5 c.from_residual-in_err-source.ensures.1 (c.in_err-source.ensures.serves cpu)

pub returns-in_default-3-clause-serves : goal.returns-in_default-3-clause-serves
unfolding form_of
returns-in_default-3-clause-serves g c =
    let t0 = g.M.ObjectMemory.told c.args.m.now in
    let t1 = g.M.ObjectMemory.told c.stack.new.m in
    let cpu = c.args.cpu.now in
    let blit = t1.regs 10 in
    let come1 = come_first blit c.in_ok-stack.ensures.serves in
    let t2 = g.M.ObjectMemory.told c.read_asked.new.m in
    let q = asked_by c.in-Some.q in
    let come2 = come_some (λ q. after_asked blit q) come1 (ap (option_map asked_by) c.in-Some.is) (c.in_ok-q.ensures.serves cpu) in
    let same2 : t2.regs 10 ≡ blit = c.in_ok-q.ensures.looks.regs 10 refl in
    let t3 = g.M.ObjectMemory.told c.peek_field.new.m in
    let come3 = come_some (λ dest_form. form_of dest_form >>? λ dest. after_dest blit q dest) come2 refl (at_value (peek (field 14 0)) same2 (found_one c.in_ok-peek_field.field-0 (t3.regs 11) c.if-not-branch.false (c.in_ok-peek_field.ensures.serves cpu))) in
    let same3 : t3.regs 10 ≡ blit = c.in_ok-peek_field.ensures.looks.regs 10 refl ∙ same2 in
    let t4 = g.M.ObjectMemory.told c.read_form.new.m in
    let dest = form_by (t4.regs 13) c.in-Some-2.dest in
    let come4 = come_some (λ dest. after_dest blit q dest) come3 (ap (option_map (form_by (t4.regs 13))) c.in-Some-2.is) (c.in_ok-dest.ensures.serves cpu) in
    let same4 : t4.regs 10 ≡ blit = c.in_ok-dest.ensures.looks.regs 10 refl ∙ same3 in
    let t5 = g.M.ObjectMemory.told c.peek_field-2.new.m in
    let come5 = come_some (λ source_form. form_or_nil form_of source_form >>? λ source. after_source blit q dest source) come4 refl (at_value (peek (field 14 1)) same4 (found_one c.in_ok-peek_field-2.field-0 (t5.regs 11) c.if-not-branch-2.false (c.in_ok-peek_field-2.ensures.serves cpu))) in
    let same5 : t5.regs 10 ≡ blit = c.in_ok-peek_field-2.ensures.looks.regs 10 refl ∙ same4 in
    come_none (λ source. after_source blit q dest source) come5 (ap (option_map (optional_by ((g.M.ObjectMemory.told c.read_optional_form.new.m).regs 14))) c.in_default-3.is) (c.in_ok-source.ensures.serves cpu)

pub returns-in_err-peek_field-3-clause-serves : goal.returns-in_err-peek_field-3-clause-serves
unfolding form_of
returns-in_err-peek_field-3-clause-serves g c =
    let t0 = g.M.ObjectMemory.told c.args.m.now in
    let t1 = g.M.ObjectMemory.told c.stack.new.m in
    let cpu = c.args.cpu.now in
    let blit = t1.regs 10 in
    let come1 = come_first blit c.in_ok-stack.ensures.serves in
    let t2 = g.M.ObjectMemory.told c.read_asked.new.m in
    let q = asked_by c.in-Some.q in
    let come2 = come_some (λ q. after_asked blit q) come1 (ap (option_map asked_by) c.in-Some.is) (c.in_ok-q.ensures.serves cpu) in
    let same2 : t2.regs 10 ≡ blit = c.in_ok-q.ensures.looks.regs 10 refl in
    let t3 = g.M.ObjectMemory.told c.peek_field.new.m in
    let come3 = come_some (λ dest_form. form_of dest_form >>? λ dest. after_dest blit q dest) come2 refl (at_value (peek (field 14 0)) same2 (found_one c.in_ok-peek_field.field-0 (t3.regs 11) c.if-not-branch.false (c.in_ok-peek_field.ensures.serves cpu))) in
    let same3 : t3.regs 10 ≡ blit = c.in_ok-peek_field.ensures.looks.regs 10 refl ∙ same2 in
    let t4 = g.M.ObjectMemory.told c.read_form.new.m in
    let dest = form_by (t4.regs 13) c.in-Some-2.dest in
    let come4 = come_some (λ dest. after_dest blit q dest) come3 (ap (option_map (form_by (t4.regs 13))) c.in-Some-2.is) (c.in_ok-dest.ensures.serves cpu) in
    let same4 : t4.regs 10 ≡ blit = c.in_ok-dest.ensures.looks.regs 10 refl ∙ same3 in
    let t5 = g.M.ObjectMemory.told c.peek_field-2.new.m in
    let come5 = come_some (λ source_form. form_or_nil form_of source_form >>? λ source. after_source blit q dest source) come4 refl (at_value (peek (field 14 1)) same4 (found_one c.in_ok-peek_field-2.field-0 (t5.regs 11) c.if-not-branch-2.false (c.in_ok-peek_field-2.ensures.serves cpu))) in
    let same5 : t5.regs 10 ≡ blit = c.in_ok-peek_field-2.ensures.looks.regs 10 refl ∙ same4 in
    let t6 = g.M.ObjectMemory.told c.read_optional_form.new.m in
    let source = optional_by (t6.regs 14) c.in-Some-3.source in
    let come6 = come_some (λ source. after_source blit q dest source) come5 (ap (option_map (optional_by (t6.regs 14))) c.in-Some-3.is) (c.in_ok-source.ensures.serves cpu) in
    let same6 : t6.regs 10 ≡ blit = c.in_ok-source.ensures.looks.regs 10 refl ∙ same5 in
    come_stop (λ tone_form. form_or_nil (form_where has_sixteen) tone_form >>? λ tone. copy q dest source tone >> done Done) _ come6 c.from_residual-in_err-peek_field-3.ensures.1 (at_value (peek (field 14 2)) same6 (c.in_err-peek_field-3.ensures.serves cpu))

pub returns-then-not-branch-3-clause-serves : goal.returns-then-not-branch-3-clause-serves
unfolding form_of
returns-then-not-branch-3-clause-serves g c =
    let t0 = g.M.ObjectMemory.told c.args.m.now in
    let t1 = g.M.ObjectMemory.told c.stack.new.m in
    let cpu = c.args.cpu.now in
    let blit = t1.regs 10 in
    let come1 = come_first blit c.in_ok-stack.ensures.serves in
    let t2 = g.M.ObjectMemory.told c.read_asked.new.m in
    let q = asked_by c.in-Some.q in
    let come2 = come_some (λ q. after_asked blit q) come1 (ap (option_map asked_by) c.in-Some.is) (c.in_ok-q.ensures.serves cpu) in
    let same2 : t2.regs 10 ≡ blit = c.in_ok-q.ensures.looks.regs 10 refl in
    let t3 = g.M.ObjectMemory.told c.peek_field.new.m in
    let come3 = come_some (λ dest_form. form_of dest_form >>? λ dest. after_dest blit q dest) come2 refl (at_value (peek (field 14 0)) same2 (found_one c.in_ok-peek_field.field-0 (t3.regs 11) c.if-not-branch.false (c.in_ok-peek_field.ensures.serves cpu))) in
    let same3 : t3.regs 10 ≡ blit = c.in_ok-peek_field.ensures.looks.regs 10 refl ∙ same2 in
    let t4 = g.M.ObjectMemory.told c.read_form.new.m in
    let dest = form_by (t4.regs 13) c.in-Some-2.dest in
    let come4 = come_some (λ dest. after_dest blit q dest) come3 (ap (option_map (form_by (t4.regs 13))) c.in-Some-2.is) (c.in_ok-dest.ensures.serves cpu) in
    let same4 : t4.regs 10 ≡ blit = c.in_ok-dest.ensures.looks.regs 10 refl ∙ same3 in
    let t5 = g.M.ObjectMemory.told c.peek_field-2.new.m in
    let come5 = come_some (λ source_form. form_or_nil form_of source_form >>? λ source. after_source blit q dest source) come4 refl (at_value (peek (field 14 1)) same4 (found_one c.in_ok-peek_field-2.field-0 (t5.regs 11) c.if-not-branch-2.false (c.in_ok-peek_field-2.ensures.serves cpu))) in
    let same5 : t5.regs 10 ≡ blit = c.in_ok-peek_field-2.ensures.looks.regs 10 refl ∙ same4 in
    let t6 = g.M.ObjectMemory.told c.read_optional_form.new.m in
    let source = optional_by (t6.regs 14) c.in-Some-3.source in
    let come6 = come_some (λ source. after_source blit q dest source) come5 (ap (option_map (optional_by (t6.regs 14))) c.in-Some-3.is) (c.in_ok-source.ensures.serves cpu) in
    let same6 : t6.regs 10 ≡ blit = c.in_ok-source.ensures.looks.regs 10 refl ∙ same5 in
    come_none (λ tone_form. form_or_nil (form_where has_sixteen) tone_form >>? λ tone. copy q dest source tone >> done Done) come6 refl (at_value (peek (field 14 2)) same6 (found_none c.in_ok-peek_field-3.field-0 ((g.M.ObjectMemory.told c.peek_field-3.new.m).regs 11) c.if-not-branch-3.true (c.in_ok-peek_field-3.ensures.serves cpu)))

pub returns-in_err-halftone-clause-serves : goal.returns-in_err-halftone-clause-serves
unfolding form_of
returns-in_err-halftone-clause-serves g c =
    let t0 = g.M.ObjectMemory.told c.args.m.now in
    let t1 = g.M.ObjectMemory.told c.stack.new.m in
    let cpu = c.args.cpu.now in
    let blit = t1.regs 10 in
    let come1 = come_first blit c.in_ok-stack.ensures.serves in
    let t2 = g.M.ObjectMemory.told c.read_asked.new.m in
    let q = asked_by c.in-Some.q in
    let come2 = come_some (λ q. after_asked blit q) come1 (ap (option_map asked_by) c.in-Some.is) (c.in_ok-q.ensures.serves cpu) in
    let same2 : t2.regs 10 ≡ blit = c.in_ok-q.ensures.looks.regs 10 refl in
    let t3 = g.M.ObjectMemory.told c.peek_field.new.m in
    let come3 = come_some (λ dest_form. form_of dest_form >>? λ dest. after_dest blit q dest) come2 refl (at_value (peek (field 14 0)) same2 (found_one c.in_ok-peek_field.field-0 (t3.regs 11) c.if-not-branch.false (c.in_ok-peek_field.ensures.serves cpu))) in
    let same3 : t3.regs 10 ≡ blit = c.in_ok-peek_field.ensures.looks.regs 10 refl ∙ same2 in
    let t4 = g.M.ObjectMemory.told c.read_form.new.m in
    let dest = form_by (t4.regs 13) c.in-Some-2.dest in
    let come4 = come_some (λ dest. after_dest blit q dest) come3 (ap (option_map (form_by (t4.regs 13))) c.in-Some-2.is) (c.in_ok-dest.ensures.serves cpu) in
    let same4 : t4.regs 10 ≡ blit = c.in_ok-dest.ensures.looks.regs 10 refl ∙ same3 in
    let t5 = g.M.ObjectMemory.told c.peek_field-2.new.m in
    let come5 = come_some (λ source_form. form_or_nil form_of source_form >>? λ source. after_source blit q dest source) come4 refl (at_value (peek (field 14 1)) same4 (found_one c.in_ok-peek_field-2.field-0 (t5.regs 11) c.if-not-branch-2.false (c.in_ok-peek_field-2.ensures.serves cpu))) in
    let same5 : t5.regs 10 ≡ blit = c.in_ok-peek_field-2.ensures.looks.regs 10 refl ∙ same4 in
    let t6 = g.M.ObjectMemory.told c.read_optional_form.new.m in
    let source = optional_by (t6.regs 14) c.in-Some-3.source in
    let come6 = come_some (λ source. after_source blit q dest source) come5 (ap (option_map (optional_by (t6.regs 14))) c.in-Some-3.is) (c.in_ok-source.ensures.serves cpu) in
    let same6 : t6.regs 10 ≡ blit = c.in_ok-source.ensures.looks.regs 10 refl ∙ same5 in
    let t7 = g.M.ObjectMemory.told c.peek_field-3.new.m in
    let come7 = come_some (λ tone_form. form_or_nil (form_where has_sixteen) tone_form >>? λ tone. copy q dest source tone >> done Done) come6 refl (at_value (peek (field 14 2)) same6 (found_one c.in_ok-peek_field-3.field-0 (t7.regs 11) c.if-not-branch-3.false (c.in_ok-peek_field-3.ensures.serves cpu))) in
    come_stop (λ tone. copy q dest source tone >> done Done) _ come7 c.from_residual-in_err-halftone.ensures.1 (c.in_err-halftone.ensures.serves cpu)

pub returns-in_default-4-clause-serves : goal.returns-in_default-4-clause-serves
unfolding form_of
returns-in_default-4-clause-serves g c =
    let t0 = g.M.ObjectMemory.told c.args.m.now in
    let t1 = g.M.ObjectMemory.told c.stack.new.m in
    let cpu = c.args.cpu.now in
    let blit = t1.regs 10 in
    let come1 = come_first blit c.in_ok-stack.ensures.serves in
    let t2 = g.M.ObjectMemory.told c.read_asked.new.m in
    let q = asked_by c.in-Some.q in
    let come2 = come_some (λ q. after_asked blit q) come1 (ap (option_map asked_by) c.in-Some.is) (c.in_ok-q.ensures.serves cpu) in
    let same2 : t2.regs 10 ≡ blit = c.in_ok-q.ensures.looks.regs 10 refl in
    let t3 = g.M.ObjectMemory.told c.peek_field.new.m in
    let come3 = come_some (λ dest_form. form_of dest_form >>? λ dest. after_dest blit q dest) come2 refl (at_value (peek (field 14 0)) same2 (found_one c.in_ok-peek_field.field-0 (t3.regs 11) c.if-not-branch.false (c.in_ok-peek_field.ensures.serves cpu))) in
    let same3 : t3.regs 10 ≡ blit = c.in_ok-peek_field.ensures.looks.regs 10 refl ∙ same2 in
    let t4 = g.M.ObjectMemory.told c.read_form.new.m in
    let dest = form_by (t4.regs 13) c.in-Some-2.dest in
    let come4 = come_some (λ dest. after_dest blit q dest) come3 (ap (option_map (form_by (t4.regs 13))) c.in-Some-2.is) (c.in_ok-dest.ensures.serves cpu) in
    let same4 : t4.regs 10 ≡ blit = c.in_ok-dest.ensures.looks.regs 10 refl ∙ same3 in
    let t5 = g.M.ObjectMemory.told c.peek_field-2.new.m in
    let come5 = come_some (λ source_form. form_or_nil form_of source_form >>? λ source. after_source blit q dest source) come4 refl (at_value (peek (field 14 1)) same4 (found_one c.in_ok-peek_field-2.field-0 (t5.regs 11) c.if-not-branch-2.false (c.in_ok-peek_field-2.ensures.serves cpu))) in
    let same5 : t5.regs 10 ≡ blit = c.in_ok-peek_field-2.ensures.looks.regs 10 refl ∙ same4 in
    let t6 = g.M.ObjectMemory.told c.read_optional_form.new.m in
    let source = optional_by (t6.regs 14) c.in-Some-3.source in
    let come6 = come_some (λ source. after_source blit q dest source) come5 (ap (option_map (optional_by (t6.regs 14))) c.in-Some-3.is) (c.in_ok-source.ensures.serves cpu) in
    let same6 : t6.regs 10 ≡ blit = c.in_ok-source.ensures.looks.regs 10 refl ∙ same5 in
    let t7 = g.M.ObjectMemory.told c.peek_field-3.new.m in
    let come7 = come_some (λ tone_form. form_or_nil (form_where has_sixteen) tone_form >>? λ tone. copy q dest source tone >> done Done) come6 refl (at_value (peek (field 14 2)) same6 (found_one c.in_ok-peek_field-3.field-0 (t7.regs 11) c.if-not-branch-3.false (c.in_ok-peek_field-3.ensures.serves cpu))) in
    come_none (λ tone. copy q dest source tone >> done Done) come7 (ap (option_map (optional_by ((g.M.ObjectMemory.told c.read_optional_form-2.new.m).regs 15))) c.in_default-4.is) (c.in_ok-halftone.ensures.serves cpu)

pub returns-in_err-copy_pixels-clause-serves : goal.returns-in_err-copy_pixels-clause-serves
unfolding form_of
returns-in_err-copy_pixels-clause-serves g c =
    let t0 = g.M.ObjectMemory.told c.args.m.now in
    let t1 = g.M.ObjectMemory.told c.stack.new.m in
    let cpu = c.args.cpu.now in
    let blit = t1.regs 10 in
    let come1 = come_first blit c.in_ok-stack.ensures.serves in
    let t2 = g.M.ObjectMemory.told c.read_asked.new.m in
    let q = asked_by c.in-Some.q in
    let come2 = come_some (λ q. after_asked blit q) come1 (ap (option_map asked_by) c.in-Some.is) (c.in_ok-q.ensures.serves cpu) in
    let same2 : t2.regs 10 ≡ blit = c.in_ok-q.ensures.looks.regs 10 refl in
    let t3 = g.M.ObjectMemory.told c.peek_field.new.m in
    let come3 = come_some (λ dest_form. form_of dest_form >>? λ dest. after_dest blit q dest) come2 refl (at_value (peek (field 14 0)) same2 (found_one c.in_ok-peek_field.field-0 (t3.regs 11) c.if-not-branch.false (c.in_ok-peek_field.ensures.serves cpu))) in
    let same3 : t3.regs 10 ≡ blit = c.in_ok-peek_field.ensures.looks.regs 10 refl ∙ same2 in
    let t4 = g.M.ObjectMemory.told c.read_form.new.m in
    let dest = form_by (t4.regs 13) c.in-Some-2.dest in
    let come4 = come_some (λ dest. after_dest blit q dest) come3 (ap (option_map (form_by (t4.regs 13))) c.in-Some-2.is) (c.in_ok-dest.ensures.serves cpu) in
    let same4 : t4.regs 10 ≡ blit = c.in_ok-dest.ensures.looks.regs 10 refl ∙ same3 in
    let t5 = g.M.ObjectMemory.told c.peek_field-2.new.m in
    let come5 = come_some (λ source_form. form_or_nil form_of source_form >>? λ source. after_source blit q dest source) come4 refl (at_value (peek (field 14 1)) same4 (found_one c.in_ok-peek_field-2.field-0 (t5.regs 11) c.if-not-branch-2.false (c.in_ok-peek_field-2.ensures.serves cpu))) in
    let same5 : t5.regs 10 ≡ blit = c.in_ok-peek_field-2.ensures.looks.regs 10 refl ∙ same4 in
    let t6 = g.M.ObjectMemory.told c.read_optional_form.new.m in
    let source = optional_by (t6.regs 14) c.in-Some-3.source in
    let come6 = come_some (λ source. after_source blit q dest source) come5 (ap (option_map (optional_by (t6.regs 14))) c.in-Some-3.is) (c.in_ok-source.ensures.serves cpu) in
    let same6 : t6.regs 10 ≡ blit = c.in_ok-source.ensures.looks.regs 10 refl ∙ same5 in
    let t7 = g.M.ObjectMemory.told c.peek_field-3.new.m in
    let come7 = come_some (λ tone_form. form_or_nil (form_where has_sixteen) tone_form >>? λ tone. copy q dest source tone >> done Done) come6 refl (at_value (peek (field 14 2)) same6 (found_one c.in_ok-peek_field-3.field-0 (t7.regs 11) c.if-not-branch-3.false (c.in_ok-peek_field-3.ensures.serves cpu))) in
    let t8 = g.M.ObjectMemory.told c.read_optional_form-2.new.m in
    let tone = optional_by (t8.regs 15) c.in-Some-4.halftone in
    let come8 = come_some (λ tone. copy q dest source tone >> done Done) come7 (ap (option_map (optional_by (t8.regs 15))) c.in-Some-4.is) (c.in_ok-halftone.ensures.serves cpu) in
    let kept_dest : t8.regs 13 ≡ t4.regs 13 = c.in_ok-halftone.ensures.looks.regs 13 refl ∙ c.in_ok-peek_field-3.ensures.looks.regs 13 refl ∙ c.in_ok-source.ensures.looks.regs 13 refl ∙ c.in_ok-peek_field-2.ensures.looks.regs 13 refl in
    let kept_source : t8.regs 14 ≡ t6.regs 14 = c.in_ok-halftone.ensures.looks.regs 14 refl ∙ c.in_ok-peek_field-3.ensures.looks.regs 14 refl in
    come_copy_stop _ come8 c.from_residual-in_err-copy_pixels.ensures.1 (at_bits q c.in-Some-2.dest c.in-Some-3.source tone kept_dest kept_source (c.in_err-copy_pixels.ensures.serves cpu))

pub returns-clause-serves : goal.returns-clause-serves
unfolding form_of
returns-clause-serves g c =
    let t0 = g.M.ObjectMemory.told c.args.m.now in
    let t1 = g.M.ObjectMemory.told c.stack.new.m in
    let cpu = c.args.cpu.now in
    let blit = t1.regs 10 in
    let come1 = come_first blit c.in_ok-stack.ensures.serves in
    let t2 = g.M.ObjectMemory.told c.read_asked.new.m in
    let q = asked_by c.in-Some.q in
    let come2 = come_some (λ q. after_asked blit q) come1 (ap (option_map asked_by) c.in-Some.is) (c.in_ok-q.ensures.serves cpu) in
    let same2 : t2.regs 10 ≡ blit = c.in_ok-q.ensures.looks.regs 10 refl in
    let t3 = g.M.ObjectMemory.told c.peek_field.new.m in
    let come3 = come_some (λ dest_form. form_of dest_form >>? λ dest. after_dest blit q dest) come2 refl (at_value (peek (field 14 0)) same2 (found_one c.in_ok-peek_field.field-0 (t3.regs 11) c.if-not-branch.false (c.in_ok-peek_field.ensures.serves cpu))) in
    let same3 : t3.regs 10 ≡ blit = c.in_ok-peek_field.ensures.looks.regs 10 refl ∙ same2 in
    let t4 = g.M.ObjectMemory.told c.read_form.new.m in
    let dest = form_by (t4.regs 13) c.in-Some-2.dest in
    let come4 = come_some (λ dest. after_dest blit q dest) come3 (ap (option_map (form_by (t4.regs 13))) c.in-Some-2.is) (c.in_ok-dest.ensures.serves cpu) in
    let same4 : t4.regs 10 ≡ blit = c.in_ok-dest.ensures.looks.regs 10 refl ∙ same3 in
    let t5 = g.M.ObjectMemory.told c.peek_field-2.new.m in
    let come5 = come_some (λ source_form. form_or_nil form_of source_form >>? λ source. after_source blit q dest source) come4 refl (at_value (peek (field 14 1)) same4 (found_one c.in_ok-peek_field-2.field-0 (t5.regs 11) c.if-not-branch-2.false (c.in_ok-peek_field-2.ensures.serves cpu))) in
    let same5 : t5.regs 10 ≡ blit = c.in_ok-peek_field-2.ensures.looks.regs 10 refl ∙ same4 in
    let t6 = g.M.ObjectMemory.told c.read_optional_form.new.m in
    let source = optional_by (t6.regs 14) c.in-Some-3.source in
    let come6 = come_some (λ source. after_source blit q dest source) come5 (ap (option_map (optional_by (t6.regs 14))) c.in-Some-3.is) (c.in_ok-source.ensures.serves cpu) in
    let same6 : t6.regs 10 ≡ blit = c.in_ok-source.ensures.looks.regs 10 refl ∙ same5 in
    let t7 = g.M.ObjectMemory.told c.peek_field-3.new.m in
    let come7 = come_some (λ tone_form. form_or_nil (form_where has_sixteen) tone_form >>? λ tone. copy q dest source tone >> done Done) come6 refl (at_value (peek (field 14 2)) same6 (found_one c.in_ok-peek_field-3.field-0 (t7.regs 11) c.if-not-branch-3.false (c.in_ok-peek_field-3.ensures.serves cpu))) in
    let t8 = g.M.ObjectMemory.told c.read_optional_form-2.new.m in
    let tone = optional_by (t8.regs 15) c.in-Some-4.halftone in
    let come8 = come_some (λ tone. copy q dest source tone >> done Done) come7 (ap (option_map (optional_by (t8.regs 15))) c.in-Some-4.is) (c.in_ok-halftone.ensures.serves cpu) in
    let kept_dest : t8.regs 13 ≡ t4.regs 13 = c.in_ok-halftone.ensures.looks.regs 13 refl ∙ c.in_ok-peek_field-3.ensures.looks.regs 13 refl ∙ c.in_ok-source.ensures.looks.regs 13 refl ∙ c.in_ok-peek_field-2.ensures.looks.regs 13 refl in
    let kept_source : t8.regs 14 ≡ t6.regs 14 = c.in_ok-halftone.ensures.looks.regs 14 refl ∙ c.in_ok-peek_field-3.ensures.looks.regs 14 refl in
    come_copy come8 c.in_ok-copy_pixels.ensures.fit.ready (at_bits q c.in-Some-2.dest c.in-Some-3.source tone kept_dest kept_source (c.in_ok-copy_pixels.ensures.serves cpu))

pub copy_pixels-requires-clause-dest_room : goal.copy_pixels-requires-clause-dest_room
copy_pixels-requires-clause-dest_room g c =
    let one = c.in_ok-dest.ensures in
    let two = c.in_ok-peek_field-2.ensures in
    let three = c.in_ok-source.ensures in
    let four = c.in_ok-peek_field-3.ensures in
    let five = c.in_ok-halftone.ensures in
    has_looked (15 ∷ 12 ∷ []) _ _ 13 words_of _ five.fit.ready five.looks refl
    (has_looked (11 ∷ []) _ _ 13 words_of _ four.fit.ready four.looks refl
    (has_looked (14 ∷ 12 ∷ []) _ _ 13 words_of _ three.fit.ready three.looks refl
    (has_looked (11 ∷ []) _ _ 13 words_of _ two.fit.ready two.looks refl
    (of_some _ _ _ c.in-Some-2.is one.room))))

pub copy_pixels-requires-clause-source_room : goal.copy_pixels-requires-clause-source_room
copy_pixels-requires-clause-source_room g c =
    let four = c.in_ok-peek_field-3.ensures in
    let five = c.in_ok-halftone.ensures in
    optional_looked (15 ∷ 12 ∷ []) _ _ 14 false c.in-Some-3.source five.fit.ready five.looks refl
    (optional_looked (11 ∷ []) _ _ 14 false c.in-Some-3.source four.fit.ready four.looks refl
    (of_some (OptionalRoom (g.M.ObjectMemory.told c.read_optional_form.new.m) 14 false) _ _ c.in-Some-3.is c.in_ok-source.ensures.room))

pub copy_pixels-requires-clause-halftone_room : goal.copy_pixels-requires-clause-halftone_room
copy_pixels-requires-clause-halftone_room g c =
    of_some (OptionalRoom (g.M.ObjectMemory.told c.read_optional_form-2.new.m) 15 true) _ _ c.in-Some-4.is c.in_ok-halftone.ensures.room

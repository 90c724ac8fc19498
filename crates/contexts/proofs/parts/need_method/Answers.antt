use Rattle.std.proofs.Common.{◌≡◌, ℕ, Bool, true, false, [], Option, Some, None, is_some, not, refl, ◌∙◌, ap}
use Rattle.object_memory.proofs.LooksLaws.{Looks-read}
use Rattle.blue_model.specs.declared.cause.Cause.TheVariants.{Shape}
use Rattle.blue_model.specs.Machine.{done}
use Rattle.blue_model.specs.Parts.{code_of}
use Rattle.blue_model.specs.Contexts.{need_method}
use Rattle.contexts.proofs.ServesLaws.{serves_stop, exits}
use Rattle.contexts.proofs.Steps.{done_serves, read_last}
use Rattle.contexts.proofs.ReadLaws.{quiet, part_first, read_stuck, read_refused}
use Rattle.contexts.proofs.PartLaws.{code_is, code_none}
use Rattle.contexts.proofs.parts.need_method.Goals as goal

absent : (x : Option ℕ) → is_some x ≡ false → x ≡ None
absent None e = refl
absent (Some n) e = let no : ◌≡◌ {A = Bool} true false = e in absurd (cc)

present : (x : Option ℕ) → is_some x ≡ true → (n : ℕ) × (x ≡ Some n)
present None e = let no : ◌≡◌ {A = Bool} false true = e in absurd (cc)
present (Some n) e = (n, refl)

pub returns-in_err-literals-clause-serves : goal.returns-in_err-literals-clause-serves
unfolding need_method
returns-in_err-literals-clause-serves g c = λ cpu. exits _ c.from_residual.ensures.1 (serves_stop (λ _. done (tt {0})) (read_refused Shape code_of c.args.of c.requires.fit.ready c.in_err-literals.ensures.read))

pub returns-then-is_none-clause-serves : goal.returns-then-is_none-clause-serves
unfolding need_method
returns-then-is_none-clause-serves g c = λ cpu.
    let found = c.in_ok-literals.ensures in
    let none = absent c.in_ok-literals.field-0 (c.is_none.ensures ∙ ap not c.if-is_none.true) in
    serves_stop (λ _. done (tt {0})) (read_stuck [] code_of c.args.of refl c.requires.fit.ready found.fit.ready (Looks-read _ _ c.args.of found.read) (code_none found.literals.before none))

pub returns-clause-serves : goal.returns-clause-serves
unfolding need_method
returns-clause-serves g c = λ cpu.
    let found = c.in_ok-literals.ensures in
    let some = present c.in_ok-literals.field-0 (c.is_none.ensures ∙ ap not c.if-is_none.false) in
    read_last (part_first Shape code_of c.args.of (λ told. (let code = code_is some.0 found.literals.before some.1 told in (_, code.1))) (done_serves c.requires.fit.ready)) (quiet [] _ _ refl c.requires.fit.ready found.fit.ready (Looks-read _ _ c.args.of found.read))

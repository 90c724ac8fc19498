use Rattle.std.proofs.Common.{◌≡◌, ◌*◌, ℕ, [], refl, sym, ◌∙◌, subst₂, ap₂, take, drop, arith}
use Rattle.std.proofs.lemmas.Bool.Decides.{nat_tests}
use Rattle.long_names.specs.Access.{ReadWords}
use Rattle.object_memory.specs.Contract.{MayDo}
use Rattle.object_memory.proofs.LooksLaws.{Looks-access}
use Rattle.object_memory.proofs.Callers.{may_words}
use Rattle.blue_model.specs.declared.cause.Cause.TheVariants.{Shape}
use Rattle.blue_model.specs.BitBlt.{words_in}
use Rattle.blue_model.specs.Forms.{row_words}
use Rattle.contexts.proofs.ReadLaws.{read_serves, part_refused, exits_with}
use Rattle.devices.specs.Inside.{words_told}
use Rattle.devices.proofs.PictureLaws.{words_found, words_read}
use Rattle.devices.proofs.drawing.read_row.Goals as goal

pub read_words-requires-clause-may : goal.read_words-requires-clause-may
read_words-requires-clause-may g c =
    let at : row_words c.args.width ≡ c.div_ceil.result = grind (arith, nat_tests, c.div_ceil.ensures) in
    subst₂ (λ (a n : ℕ). MayDo (g.M.ObjectMemory.told c.args.m.now) (ReadWords 13 (a * c.args.y) n)) at (sym c.requires.words)
    (may_words _ 13 (row_words c.args.width * c.args.y) (row_words c.args.width) c.requires.row)

pub returns-in_err-read_words-clause-serves : goal.returns-in_err-read_words-clause-serves
returns-in_err-read_words-clause-serves g c = λ cpu.
    exits_with _ _ c.from_residual.ensures.1 (part_refused Shape words_in 13 (ReadWords 13 _ _) refl c.requires.fit.ready (λ told. c.requires.row.name) c.in_err-read_words.ensures.access.called)

pub returns-clause-serves : goal.returns-clause-serves
returns-clause-serves g c = λ cpu.
    let t = g.M.ObjectMemory.told c.args.m.now in
    let u = g.M.ObjectMemory.told c.read_words.new.self in
    read_serves [] Shape words_in 13 (words_told t 13) refl c.requires.fit.ready c.in_ok-read_words.ensures.fit.ready (Looks-access t u (ReadWords 13 _ _) refl c.in_ok-read_words.ensures.access.called) (words_found c.requires.row)

pub returns-clause-words : goal.returns-clause-words
returns-clause-words g c = λ told.
    let t = g.M.ObjectMemory.told c.args.m.now in
    let at : row_words c.args.width ≡ c.div_ceil.result = grind (arith, nat_tests, c.div_ceil.ensures) in
    words_read _ _ c.read_words.new.out c.requires.row told (c.in_ok-read_words.ensures.access.answer told)
    ∙ ap₂ (λ (a n : ℕ). take n (drop (a * c.args.y) (words_told t 13))) (sym at) c.requires.words

pub returns-clause-looks : goal.returns-clause-looks
returns-clause-looks g c = Looks-access _ _ (ReadWords 13 _ _) refl c.in_ok-read_words.ensures.access.called

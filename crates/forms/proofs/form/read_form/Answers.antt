use Rattle.std.proofs.Common.{ℕ, ◌≡◌, ◌<◌, ◌≤◌, Option, Some, Ok, [], ◌∷◌, refl, sym, ◌∙◌, ap, subst, arith}
use Rattle.std.specs.Option.{option_map}
use Rattle.forms.specs.declared.form.Extent.{Extent}
use Rattle.long_names.specs.Objects.{words_of}
use Rattle.object_memory.specs.Shape.{Looks}
use Rattle.object_memory.proofs.LooksLaws.{Looks-read, Looks-trans, has_looked}
use Rattle.object_memory.proofs.ShapeLaws.{has_sized}
use Rattle.blue_model.specs.Trials.{peek}
use Rattle.blue_model.specs.Forms.{word_count, extent_of, form_where}
use Rattle.blue_model.specs.Forms as model
use Rattle.contexts.specs.Serves.{Serves}
use Rattle.contexts.proofs.PeekLaws.{peek_serves, first_refused, found_one, found_none}
use Rattle.forms.specs.Shapes.{extent_by, form_by, enough, least_words}
use Rattle.contexts.proofs.PeekPairs.{exits_by}
use Rattle.forms.proofs.FormLaws.{form_serves, no_bits, no_words, bits_stopped, words_stopped, extent_stopped, count_is, formed_some, formed_none, form_apart, bits_apart, wider}
use Rattle.forms.proofs.form.read_form.Goals as goal

pub returns-in_err-peek_field-clause-serves : goal.returns-in_err-peek_field-clause-serves
returns-in_err-peek_field-clause-serves g c = λ cpu. exits_by _ _ c.from_residual.ensures.1 (bits_stopped (enough c.args.halftone) _ (c.in_err-peek_field.ensures.serves cpu))

pub returns-then-not-branch-clause-serves : goal.returns-then-not-branch-clause-serves
returns-then-not-branch-clause-serves g c = λ cpu.
    let t = g.M.ObjectMemory.told c.args.m.now in
    let a = g.M.ObjectMemory.told c.peek_field.new.m in
    let one = c.in_ok-peek_field.ensures in
    no_bits (enough c.args.halftone) (t.regs 11) (one.looks.regs 11 (form_apart c.args.bits c.requires.bits)) one.fit.ready (found_none c.in_ok-peek_field.field-0 (a.regs c.args.bits) c.if-not-branch.true (one.serves cpu))

pub returns-in_err-count-clause-serves : goal.returns-in_err-count-clause-serves
returns-in_err-count-clause-serves g c = λ cpu.
    let t = g.M.ObjectMemory.told c.args.m.now in
    let a = g.M.ObjectMemory.told c.peek_field.new.m in
    let one = c.in_ok-peek_field.ensures in
    exits_by _ _ c.from_residual-in_err-count.ensures.1
    (words_stopped (enough c.args.halftone) (t.regs 11) (a.regs c.args.bits) (found_one c.in_ok-peek_field.field-0 (a.regs c.args.bits) c.if-not-branch.false (one.serves cpu)) (first_refused word_count c.args.bits one.fit.ready c.in_err-count.ensures.read))

pub returns-in_default-clause-serves : goal.returns-in_default-clause-serves
returns-in_default-clause-serves g c = λ cpu.
    let t = g.M.ObjectMemory.told c.args.m.now in
    let a = g.M.ObjectMemory.told c.peek_field.new.m in
    let b = g.M.ObjectMemory.told c.words.new.m in
    let bits = c.args.bits in
    let one = c.in_ok-peek_field.ensures in
    let two = c.in_ok-count.ensures in
    let looked : Looks [] a b = Looks-read a b bits two.read in
    let found = found_one c.in_ok-peek_field.field-0 (a.regs bits) c.if-not-branch.false (one.serves cpu) in
    let counted = peek_serves [] word_count bits c.in_ok-count.field-0 refl one.fit.ready two.fit.ready looked (count_is two.words.before) in
    let same : b.regs 11 ≡ t.regs 11 = looked.regs 11 refl ∙ one.looks.regs 11 (form_apart bits c.requires.bits) in
    no_words (enough c.args.halftone) (t.regs 11) (a.regs bits) same two.fit.ready found (subst (λ (x : Option ℕ). Serves a cpu b cpu (peek word_count (a.regs bits)) (Ok x)) c.in_default.is counted)

pub returns-in_default-clause-looks : goal.returns-in_default-clause-looks
returns-in_default-clause-looks g c =
    let t = g.M.ObjectMemory.told c.args.m.now in
    let a = g.M.ObjectMemory.told c.peek_field.new.m in
    let b = g.M.ObjectMemory.told c.words.new.m in
    let bits = c.args.bits in
    let one = c.in_ok-peek_field.ensures in
    let two = c.in_ok-count.ensures in
    let looked : Looks [] a b = Looks-read a b bits two.read in
    wider bits t b (Looks-trans (bits ∷ []) [] t a b one.fit.ready one.looks looked)

pub returns-in_err-extent-clause-serves : goal.returns-in_err-extent-clause-serves
returns-in_err-extent-clause-serves g c = λ cpu.
    let t = g.M.ObjectMemory.told c.args.m.now in
    let a = g.M.ObjectMemory.told c.peek_field.new.m in
    let b = g.M.ObjectMemory.told c.words.new.m in
    let bits = c.args.bits in
    let one = c.in_ok-peek_field.ensures in
    let two = c.in_ok-count.ensures in
    let looked : Looks [] a b = Looks-read a b bits two.read in
    let found = found_one c.in_ok-peek_field.field-0 (a.regs bits) c.if-not-branch.false (one.serves cpu) in
    let counted = peek_serves [] word_count bits c.in_ok-count.field-0 refl one.fit.ready two.fit.ready looked (count_is two.words.before) in
    let same : b.regs 11 ≡ t.regs 11 = looked.regs 11 refl ∙ one.looks.regs 11 (form_apart bits c.requires.bits) in
    let counted_some = subst (λ (x : Option ℕ). Serves a cpu b cpu (peek word_count (a.regs bits)) (Ok x)) c.in-Some.is counted in
    exits_by _ _ c.from_residual-in_err-extent.ensures.1 (extent_stopped (enough c.args.halftone) (t.regs 11) (a.regs bits) c.in-Some.count same found counted_some (c.in_err-extent.ensures.serves cpu))

pub returns-in_default-2-clause-serves : goal.returns-in_default-2-clause-serves
returns-in_default-2-clause-serves g c = λ cpu.
    let t = g.M.ObjectMemory.told c.args.m.now in
    let a = g.M.ObjectMemory.told c.peek_field.new.m in
    let b = g.M.ObjectMemory.told c.words.new.m in
    let bits = c.args.bits in
    let one = c.in_ok-peek_field.ensures in
    let two = c.in_ok-count.ensures in
    let looked : Looks [] a b = Looks-read a b bits two.read in
    let found = found_one c.in_ok-peek_field.field-0 (a.regs bits) c.if-not-branch.false (one.serves cpu) in
    let counted = peek_serves [] word_count bits c.in_ok-count.field-0 refl one.fit.ready two.fit.ready looked (count_is two.words.before) in
    let same : b.regs 11 ≡ t.regs 11 = looked.regs 11 refl ∙ one.looks.regs 11 (form_apart bits c.requires.bits) in
    let counted_some = subst (λ (x : Option ℕ). Serves a cpu b cpu (peek word_count (a.regs bits)) (Ok x)) c.in-Some.is counted in
    let d = g.M.ObjectMemory.told c.read_extent.new.m in
    let three = c.in_ok-extent.ensures in
    let extent = subst (λ v. Serves b cpu d cpu (peek extent_of v) (Ok (option_map extent_by c.in_ok-extent.field-0))) same (three.serves cpu) in
    let whole = form_serves (enough c.args.halftone) (t.regs 11) (Some (a.regs bits)) (Some c.in-Some.count) (option_map extent_by c.in_ok-extent.field-0) three.fit.ready found counted_some extent in
    subst (λ (x : Option model.Form). Serves t cpu d cpu (form_where (enough c.args.halftone) (t.regs 11)) (Ok x)) (ap (λ (x : Option Extent). model.form_by (enough c.args.halftone) (Some (a.regs bits)) (Some c.in-Some.count) (option_map extent_by x)) c.in_default-2.is) whole

pub returns-in_default-2-clause-looks : goal.returns-in_default-2-clause-looks
returns-in_default-2-clause-looks g c =
    let t = g.M.ObjectMemory.told c.args.m.now in
    let a = g.M.ObjectMemory.told c.peek_field.new.m in
    let b = g.M.ObjectMemory.told c.words.new.m in
    let bits = c.args.bits in
    let one = c.in_ok-peek_field.ensures in
    let two = c.in_ok-count.ensures in
    let looked : Looks [] a b = Looks-read a b bits two.read in
    let d = g.M.ObjectMemory.told c.read_extent.new.m in
    let three = c.in_ok-extent.ensures in
    Looks-trans (bits ∷ []) (12 ∷ []) t b d two.fit.ready (Looks-trans (bits ∷ []) [] t a b one.fit.ready one.looks looked) three.looks

pub returns-then-count-least_words-clause-serves : goal.returns-then-count-least_words-clause-serves
returns-then-count-least_words-clause-serves g c = λ cpu.
    let t = g.M.ObjectMemory.told c.args.m.now in
    let a = g.M.ObjectMemory.told c.peek_field.new.m in
    let b = g.M.ObjectMemory.told c.words.new.m in
    let bits = c.args.bits in
    let one = c.in_ok-peek_field.ensures in
    let two = c.in_ok-count.ensures in
    let looked : Looks [] a b = Looks-read a b bits two.read in
    let found = found_one c.in_ok-peek_field.field-0 (a.regs bits) c.if-not-branch.false (one.serves cpu) in
    let counted = peek_serves [] word_count bits c.in_ok-count.field-0 refl one.fit.ready two.fit.ready looked (count_is two.words.before) in
    let same : b.regs 11 ≡ t.regs 11 = looked.regs 11 refl ∙ one.looks.regs 11 (form_apart bits c.requires.bits) in
    let counted_some = subst (λ (x : Option ℕ). Serves a cpu b cpu (peek word_count (a.regs bits)) (Ok x)) c.in-Some.is counted in
    let d = g.M.ObjectMemory.told c.read_extent.new.m in
    let three = c.in_ok-extent.ensures in
    let extent = subst (λ v. Serves b cpu d cpu (peek extent_of v) (Ok (option_map extent_by c.in_ok-extent.field-0))) same (three.serves cpu) in
    let whole = form_serves (enough c.args.halftone) (t.regs 11) (Some (a.regs bits)) (Some c.in-Some.count) (option_map extent_by c.in_ok-extent.field-0) three.fit.ready found counted_some extent in
    let few : c.in-Some.count < least_words c.args.halftone c.in-Some-2.extent = omega (arith, c.if-count-least_words.true, c.least_words.ensures) in
    subst (λ (x : Option model.Form). Serves t cpu d cpu (form_where (enough c.args.halftone) (t.regs 11)) (Ok x))
    (ap (λ (x : Option Extent). model.form_by (enough c.args.halftone) (Some (a.regs bits)) (Some c.in-Some.count) (option_map extent_by x)) c.in-Some-2.is ∙ formed_none c.args.halftone (a.regs bits) c.in-Some.count c.in-Some-2.extent few) whole

pub returns-then-count-least_words-clause-looks : goal.returns-then-count-least_words-clause-looks
returns-then-count-least_words-clause-looks g c =
    let t = g.M.ObjectMemory.told c.args.m.now in
    let a = g.M.ObjectMemory.told c.peek_field.new.m in
    let b = g.M.ObjectMemory.told c.words.new.m in
    let bits = c.args.bits in
    let one = c.in_ok-peek_field.ensures in
    let two = c.in_ok-count.ensures in
    let looked : Looks [] a b = Looks-read a b bits two.read in
    let d = g.M.ObjectMemory.told c.read_extent.new.m in
    let three = c.in_ok-extent.ensures in
    Looks-trans (bits ∷ []) (12 ∷ []) t b d two.fit.ready (Looks-trans (bits ∷ []) [] t a b one.fit.ready one.looks looked) three.looks

pub returns-clause-serves : goal.returns-clause-serves
returns-clause-serves g c = λ cpu.
    let t = g.M.ObjectMemory.told c.args.m.now in
    let a = g.M.ObjectMemory.told c.peek_field.new.m in
    let b = g.M.ObjectMemory.told c.words.new.m in
    let bits = c.args.bits in
    let one = c.in_ok-peek_field.ensures in
    let two = c.in_ok-count.ensures in
    let looked : Looks [] a b = Looks-read a b bits two.read in
    let found = found_one c.in_ok-peek_field.field-0 (a.regs bits) c.if-not-branch.false (one.serves cpu) in
    let counted = peek_serves [] word_count bits c.in_ok-count.field-0 refl one.fit.ready two.fit.ready looked (count_is two.words.before) in
    let same : b.regs 11 ≡ t.regs 11 = looked.regs 11 refl ∙ one.looks.regs 11 (form_apart bits c.requires.bits) in
    let counted_some = subst (λ (x : Option ℕ). Serves a cpu b cpu (peek word_count (a.regs bits)) (Ok x)) c.in-Some.is counted in
    let d = g.M.ObjectMemory.told c.read_extent.new.m in
    let three = c.in_ok-extent.ensures in
    let extent = subst (λ v. Serves b cpu d cpu (peek extent_of v) (Ok (option_map extent_by c.in_ok-extent.field-0))) same (three.serves cpu) in
    let whole = form_serves (enough c.args.halftone) (t.regs 11) (Some (a.regs bits)) (Some c.in-Some.count) (option_map extent_by c.in_ok-extent.field-0) three.fit.ready found counted_some extent in
    let low : least_words c.args.halftone c.in-Some-2.extent ≤ c.in-Some.count = omega (arith, c.if-count-least_words.false, c.least_words.ensures) in
    let kept : a.regs bits ≡ d.regs bits = sym (three.looks.regs bits (bits_apart bits c.requires.bits) ∙ looked.regs bits refl) in
    subst (λ (x : Option model.Form). Serves t cpu d cpu (form_where (enough c.args.halftone) (t.regs 11)) (Ok x))
    (ap (λ (x : Option Extent). model.form_by (enough c.args.halftone) (Some (a.regs bits)) (Some c.in-Some.count) (option_map extent_by x)) c.in-Some-2.is ∙ formed_some c.args.halftone (a.regs bits) c.in-Some.count c.in-Some-2.extent low ∙ ap (λ v. Some (form_by v c.in-Some-2.extent)) kept) whole

pub returns-clause-looks : goal.returns-clause-looks
returns-clause-looks g c =
    let t = g.M.ObjectMemory.told c.args.m.now in
    let a = g.M.ObjectMemory.told c.peek_field.new.m in
    let b = g.M.ObjectMemory.told c.words.new.m in
    let bits = c.args.bits in
    let one = c.in_ok-peek_field.ensures in
    let two = c.in_ok-count.ensures in
    let looked : Looks [] a b = Looks-read a b bits two.read in
    let d = g.M.ObjectMemory.told c.read_extent.new.m in
    let three = c.in_ok-extent.ensures in
    Looks-trans (bits ∷ []) (12 ∷ []) t b d two.fit.ready (Looks-trans (bits ∷ []) [] t a b one.fit.ready one.looks looked) three.looks

pub returns-clause-room : goal.returns-clause-room
returns-clause-room g c =
    let t = g.M.ObjectMemory.told c.args.m.now in
    let a = g.M.ObjectMemory.told c.peek_field.new.m in
    let b = g.M.ObjectMemory.told c.words.new.m in
    let bits = c.args.bits in
    let one = c.in_ok-peek_field.ensures in
    let two = c.in_ok-count.ensures in
    let looked : Looks [] a b = Looks-read a b bits two.read in
    let d = g.M.ObjectMemory.told c.read_extent.new.m in
    let three = c.in_ok-extent.ensures in
    let low : least_words c.args.halftone c.in-Some-2.extent ≤ c.in-Some.count = omega (arith, c.if-count-least_words.false, c.least_words.ensures) in
    has_looked (12 ∷ []) b d bits words_of _ three.fit.ready three.looks (bits_apart bits c.requires.bits)
    (has_sized b bits words_of (λ n. least_words c.args.halftone c.in-Some-2.extent ≤ n) _ c.in-Some.count two.words.after c.in-Some.is low)

use Rattle.std.proofs.Common.{◌≡◌, ℕ, Some, None, sym, ◌∙◌, ap}
use Rattle.std.proofs.lemmas.List.Elements.{All-weaker}
use Rattle.long_names.specs.Objects.{IsBody}
use Rattle.long_names.specs.declared.object.Object.{Object}
use Rattle.image_builder.specs.Builder.{built_heap}
use Rattle.image_builder.specs.Parts.{IsEntry, count_in}
use Rattle.image_builder.specs.Rules.{reading_breaks, whole_breaks}
use Rattle.image_builder.proofs.Images.{read-entries, counts-are, broken-reading, broken-whole, not-image, tells-broken, makes-image}
use Rattle.image_builder.proofs.builder.Builder.judge.Goals as goal

pub returns-in_err-judge_reading-clause-broken : goal.returns-in_err-judge_reading-clause-broken
returns-in_err-judge_reading-clause-broken c =
    let b = c.in_err-judge_reading.field-0.0 in
    tells-broken c.from_residual.result _ b.rule b.name c.from_residual.ensures.1 (broken-reading c.args.self.now c.args.next (b.rule, b.name) c.in_err-judge_reading.ensures.broken)

pub returns-in_err-judge_reading-clause-refused : goal.returns-in_err-judge_reading-clause-refused
returns-in_err-judge_reading-clause-refused c = λ refused.
    let b = c.in_err-judge_reading.field-0.0 in
    not-image c.args.self.now c.args.next (b.rule, b.name) (broken-reading c.args.self.now c.args.next (b.rule, b.name) c.in_err-judge_reading.ensures.broken)

pub returns-in_err-judge_whole-clause-broken : goal.returns-in_err-judge_whole-clause-broken
returns-in_err-judge_whole-clause-broken c =
    let self = c.args.self.now in
    let next = c.args.next in
    let counts = count_in c.in_ok-counts.counts in
    let b = c.in_err-judge_whole.field-0.0 in
    let read : reading_breaks self.objects.entries next ≡ None = sym c.in_ok-judge_reading.ensures.broken in
    let same = counts-are self next counts (read-entries self next read) c.in_ok-counts.ensures in
    tells-broken c.from_residual-in_err-judge_whole.result _ b.rule b.name c.from_residual-in_err-judge_whole.ensures.1 (broken-whole self next counts (Some (b.rule, b.name)) read same c.in_err-judge_whole.ensures)

pub returns-in_err-judge_whole-clause-refused : goal.returns-in_err-judge_whole-clause-refused
returns-in_err-judge_whole-clause-refused c = λ refused.
    let self = c.args.self.now in
    let next = c.args.next in
    let counts = count_in c.in_ok-counts.counts in
    let b = c.in_err-judge_whole.field-0.0 in
    let read : reading_breaks self.objects.entries next ≡ None = sym c.in_ok-judge_reading.ensures.broken in
    let same = counts-are self next counts (read-entries self next read) c.in_ok-counts.ensures in
    not-image self next (b.rule, b.name) (broken-whole self next counts (Some (b.rule, b.name)) read same c.in_err-judge_whole.ensures)

pub count_words-requires-clause-bodies : goal.count_words-requires-clause-bodies
count_words-requires-clause-bodies c = All-weaker IsEntry (λ (e : ℕ × Object). IsBody e.1.body) (λ e is. is.1.body) c.args.self.now.objects.entries c.in_ok-judge_reading.ensures.entries

pub returns-clause-counts : goal.returns-clause-counts
returns-clause-counts c = λ q.
    let self = c.args.self.now in
    let next = c.args.next in
    let read : reading_breaks self.objects.entries next ≡ None = sym c.in_ok-judge_reading.ensures.broken in
    ap (λ (f : ℕ → ℕ). f q) (counts-are self next (count_in c.in_ok-counts.counts) (read-entries self next read) c.in_ok-counts.ensures)

pub returns-clause-image : goal.returns-clause-image
returns-clause-image c =
    let self = c.args.self.now in
    let next = c.args.next in
    let counts = count_in c.in_ok-counts.counts in
    let read : reading_breaks self.objects.entries next ≡ None = sym c.in_ok-judge_reading.ensures.broken in
    let same = counts-are self next counts (read-entries self next read) c.in_ok-counts.ensures in
    makes-image self next c.ranges.next.fits read (ap (whole_breaks self.objects.entries (built_heap self next).at) (sym same) ∙ sym c.in_ok-judge_whole.ensures) c.in_ok-judge_reading.ensures.entries

pub returns-clause-broken : goal.returns-clause-broken
returns-clause-broken c =
    let self = c.args.self.now in
    let next = c.args.next in
    let counts = count_in c.in_ok-counts.counts in
    let read : reading_breaks self.objects.entries next ≡ None = sym c.in_ok-judge_reading.ensures.broken in
    let same = counts-are self next counts (read-entries self next read) c.in_ok-counts.ensures in
    broken-whole self next counts None read same c.in_ok-judge_whole.ensures

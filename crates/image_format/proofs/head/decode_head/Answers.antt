use Rattle.std.proofs.Common.{◌≡◌, ◌∙◌, ap, ap₂, sym, subst₂, arith, take, drop, codes, Bool, true, false, not, eqb}
use Rattle.std.specs.Cmp.Lexicographic.{pointwise}
use Rattle.image_format.specs.Text.{IsHead}
use Rattle.image_format.proofs.Heads.{word-same, head-word, head-version, head-count, head-next}
use Rattle.image_format.proofs.head.decode_head.Goals as goal
use Rattle.image_format.proofs.head.decode_head.Goals.{then-ne-via-then-ne, then-ne-via-else-ne+then-word_at-ne-VERSION}

pub returns-then-ne-clause-none : goal.returns-then-ne-clause-none
returns-then-ne-clause-none c = λ count next is e. elim c.then-ne.branch [
  | then-ne-via-then-ne w ↦ (let word : take 4 c.args.bytes.now ≡ codes "LOOM" = ap (take 4) e ∙ head-word count next in
      let same : not (pointwise eqb (take 4 c.args.bytes.now) c.as_slice.result.now) ≡ false = ap₂ (λ a b. not (pointwise eqb a b)) word c.as_slice.ensures in
      let differ = w.if-ne.true in
      let answer = c.ne.ensures in
      absurd (cc))
  | then-ne-via-else-ne+then-word_at-ne-VERSION w ↦ (let same = word-same w.word_at.result 1 w.word_at.type_inv (omega arith) (w.word_at.ensures ∙ ap (λ s. take 4 (drop 4 s)) e ∙ head-version count next) in w.if-word_at-ne-VERSION.true same)
]

pub returns-else-is_in_range-clause-none : goal.returns-else-is_in_range-clause-none
returns-else-is_in_range-clause-none c = λ count next is e.
    let same_count = word-same c.word_at-2.result count c.word_at-2.type_inv (let few = is.few in omega arith) (c.word_at-2.ensures ∙ ap (λ s. take 4 (drop 8 s)) e ∙ head-count count next) in
    let same_next = word-same c.word_at-3.result next c.word_at-3.type_inv is.high (c.word_at-3.ensures ∙ ap (λ s. take 4 (drop 12 s)) e ∙ head-next count next) in
    let also : IsHead c.word_at-2.result c.word_at-3.result = subst₂ IsHead (sym same_count) (sym same_next) is in
    let no : ◌≡◌ {A = Bool} false true = c.if-is_in_range.ensures.1 also in
    cc

use Rattle.std.proofs.Common.{◌≡◌, ◌++◌, [], List, ℕ, ◌∙◌, ap, ap₂, map, arith}
use Rattle.std.specs.List.{concat, range_with_len}
use Rattle.object_memory.proofs.LooksLaws.{Looks-trans}
use Rattle.blue_model.specs.Forms.{row_bytes}
use Rattle.devices.specs.declared.fault.PictureFault.TheVariants as fault
use Rattle.devices.specs.Inside.{words_told}
use Rattle.devices.proofs.PictureLaws.{exits_drawn, form_fails, head_fails, row_fails, drawn, drawn_none, row_there, rows_more, words_stay}
use Rattle.devices.proofs.drawing.picture.Goals as goal

pub returns-in_err-width-clause-drawn : goal.returns-in_err-width-clause-drawn
returns-in_err-width-clause-drawn g c = exits_drawn _ _ _ (fault.Stop c.in_err-width.field-0.0) _ c.from_residual.ensures.1 (form_fails c.in_err-width.ensures.serves)

pub returns-in_default-clause-drawn : goal.returns-in_default-clause-drawn
returns-in_default-clause-drawn g c = drawn_none _ c.new.ensures (rw c.in_default.is at c.in_ok-width.ensures.serves)

pub returns-in_err-text-clause-drawn : goal.returns-in_err-text-clause-drawn
returns-in_err-text-clause-drawn g c = exits_drawn _ _ _ fault.Memory _ c.from_residual-in_err-text.ensures.1
    (head_fails c.in-Some.width c.in-Some.height (rw c.in-Some.is at c.in_ok-width.ensures.serves) c.in_ok-width.ensures.fit.ready (rw c.in-Some.is at c.in_ok-width.ensures.rows))

pub append_row-requires-clause-row : goal.append_row-requires-clause-row
append_row-requires-clause-row g c =
    let here = c.rows.invariant in
    row_there _ _ c.in-Some.width c.in-Some.height c.rows.y here.fit.ready here.looks (rw c.in-Some.is at c.in_ok-width.ensures.rows) c.rows-test.true

pub returns-in_err-append_row-clause-drawn : goal.returns-in_err-append_row-clause-drawn
returns-in_err-append_row-clause-drawn g c =
    let here = c.rows.invariant in
    exits_drawn _ _ _ c.in_err-append_row.field-0.0 _ c.from_residual-in_err-append_row.ensures.1
    (row_fails c.in-Some.width c.in-Some.height (rw c.in-Some.is at c.in_ok-width.ensures.serves) c.in_ok-width.ensures.fit.ready _ _ c.in_err-append_row.field-0.0 here.fit.ready here.looks (rw c.in-Some.is at c.in_ok-width.ensures.rows) c.in_err-append_row.ensures.reads)

pub rows-preserved : goal.rows-preserved
rows-preserved g c =
    let u = g.M.ObjectMemory.told c.display_form.new.m in
    let v = g.M.ObjectMemory.told c.rows.m in
    let w = g.M.ObjectMemory.told c.append_row.new.m in
    let here = c.rows.invariant in
    let row = c.in_ok-append_row.ensures in
    let width = c.in-Some.width in
    let y = c.rows.y in
    record {
      text = λ told.
          row.text (here.looks.later.tells ∙ told)
          ∙ rows_more width y (words_told u 13) c.in_ok-text.text c.rows.text (row_bytes width (words_told v 13) y) (here.text told) (ap (λ (words : List ℕ). row_bytes width words y) (words_stay u v here.fit.ready here.looks told));
      looks = Looks-trans [] [] u v w here.fit.ready here.looks row.reads;
      fit = record { sound = row.fit.sound; ready = row.fit.ready };
      lender = row.fit.lender ∙ here.lender;
      outside = row.fit.outside ∙ here.outside;
    }

pub returns-clause-drawn : goal.returns-clause-drawn
returns-clause-drawn g c =
    let u = g.M.ObjectMemory.told c.display_form.new.m in
    let here = c.rows.invariant in
    let end = c.rows.auto.y-end in
    let past = c.rows-test.false in
    let all : c.rows.y ≡ c.in-Some.height = omega arith in
    drawn c.in-Some.width c.in-Some.height (rw c.in-Some.is at c.in_ok-width.ensures.serves) c.in_ok-width.ensures.fit.ready _ c.rows.text here.fit.ready here.looks (rw c.in-Some.is at c.in_ok-width.ensures.rows)
    (λ told. here.text told ∙ ap₂ (λ (front : List ℕ) (n : ℕ). front ++ concat (map (row_bytes c.in-Some.width (words_told u 13)) (range_with_len 0 n))) c.in_ok-text.ensures all)

use Rattle.std.proofs.Common.{◌≡◌, ℕ, ◌≤◌, ◌<◌, List, length, take, Option, Some, None, rules, sym, ap, ◌∙◌, length-take, length-set, arith}
use Rattle.std.proofs.lemmas.List.{take_all, take_more_set}
use Rattle.text_lines.specs.Grammar.{each_of}
use Rattle.text_lines.specs.Inside.{in_front}
use Rattle.text_lines.specs.Parts.{parts_behind, long_of}
use Rattle.text_lines.proofs.EachLaws.{front_end, front_more, front_none, front_stop, not_all}
use Rattle.text_lines.proofs.LineLaws.{if_is_none}
use Rattle.text_lines.proofs.line.six_longs.Goals as goal

pub loop-i-init : goal.loop-i-init
loop-i-init c = record { read = sym (front_none (each_of long_of (parts_behind c.args.parts.tail.now))); many = search rules }

pub loop-i-preserved : goal.loop-i-preserved
loop-i-preserved c =
    let many : length c.loop-i.longs ≡ 6 = c.loop-i.invariant.many in
    let lt : c.loop-i.i < length c.loop-i.longs = omega arith in
    record {
      read = c.loop-i.invariant.read
          ∙ front_more long_of (take c.loop-i.i c.loop-i.longs) c.in_ok-long.long _ _ c.in_ok-part.part.now c.in_ok-part.ensures.some (sym c.in_ok-long.ensures)
          ∙ ap (λ (xs : List ℕ). in_front xs (each_of long_of (parts_behind c.next.new.self.tail.now))) (sym (take_more_set c.loop-i.longs c.loop-i.i c.in_ok-long.long lt));
      many = length-set c.loop-i.longs c.loop-i.i c.in_ok-long.long ∙ many;
    }

pub returns-in_err-part-clause-none : goal.returns-in_err-part-clause-none
returns-in_err-part-clause-none c = if_is_none c.from_residual.result (λ _ longs len.
    let none : length (parts_behind c.loop-i.parts.tail.now) ≡ 0 = ap (λ (ps : List (List ℕ)). length ps) c.in_err-part.ensures.none in
    let many : length c.loop-i.longs ≡ 6 = c.loop-i.invariant.many in
    not_all long_of _ _ (take c.loop-i.i c.loop-i.longs) 6 c.loop-i.invariant.read (λ e. omega (arith, e, none, many, length-take c.loop-i.i c.loop-i.longs)) longs len)

pub returns-in_err-long-clause-none : goal.returns-in_err-long-clause-none
returns-in_err-long-clause-none c = if_is_none c.from_residual-in_err-long.result (λ _ longs len is.
    let stop = c.loop-i.invariant.read ∙ front_stop long_of (take c.loop-i.i c.loop-i.longs) _ _ c.in_ok-part.part.now c.in_ok-part.ensures.some (sym c.in_err-long.ensures) in
    let clash : ◌≡◌ {A = Option (List ℕ)} None (Some longs) = sym stop ∙ is in cc)

pub returns-in-Some-clause-none : goal.returns-in-Some-clause-none
returns-in-Some-clause-none c = λ longs len.
    let more : length (parts_behind c.loop-i.parts.tail.now) ≡ _ = ap (λ (ps : List (List ℕ)). length ps) c.in-Some.ensures.some in
    let many : length c.loop-i.longs ≡ 6 = c.loop-i.invariant.many in
    not_all long_of _ _ (take c.loop-i.i c.loop-i.longs) 6 c.loop-i.invariant.read (λ e. omega (arith, e, more, many, length-take c.loop-i.i c.loop-i.longs)) longs len

pub returns-in-None-clause-some : goal.returns-in-None-clause-some
returns-in-None-clause-some c =
    let many : length c.loop-i.longs ≡ 6 = c.loop-i.invariant.many in
    let all : length c.loop-i.longs ≤ c.loop-i.i = omega arith in
    (c.loop-i.invariant.read ∙ front_end long_of (take c.loop-i.i c.loop-i.longs) _ c.in-None.ensures.none ∙ ap Some (take_all c.loop-i.i c.loop-i.longs all), many)

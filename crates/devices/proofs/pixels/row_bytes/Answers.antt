use Rattle.std.proofs.Common.{◌≡◌, ◌+◌, ◌/◌, map, take, subst, arith, rules}
use Rattle.std.specs.List.{range_with_len}
use Rattle.std.proofs.lemmas.Bool.Decides.{nat_tests}
use Rattle.blue_model.specs.Forms.{row_byte, row_bytes}
use Rattle.devices.proofs.PixelLaws.{bytes_more}
use Rattle.devices.proofs.pixels.row_bytes.Goals as goal

pub bytes-preserved : goal.bytes-preserved
bytes-preserved c =
    let size = c.bytes.invariant.length in
    let below = c.bytes-test.true in
    let count : c.div_ceil-count.result ≡ (c.args.width + 7) / 8 = grind (arith, nat_tests, c.div_ceil-count.ensures) in
    record {
      bytes = bytes_more c.bytes.out c.args.width c.bytes.j c.row_byte.result c.args.words.now (omega arith) c.bytes.invariant.bytes c.row_byte.ensures;
      length = search rules;
    }

pub returns-clause-bytes : goal.returns-clause-bytes
unfolding row_bytes
returns-clause-bytes c =
    let count : c.div_ceil-count.result ≡ (c.args.width + 7) / 8 = grind (arith, nat_tests, c.div_ceil-count.ensures) in
    let end = c.bytes.auto.j-end in
    let past = c.bytes-test.false in
    let all : c.bytes.j ≡ c.div_ceil-count.result = omega arith in
    subst (λ n. take c.div_ceil-count.result c.bytes.out ≡ map (row_byte c.args.width c.args.words.now 0) (range_with_len 0 n)) count
    (subst (λ n. take n c.bytes.out ≡ map (row_byte c.args.width c.args.words.now 0) (range_with_len 0 n)) all c.bytes.invariant.bytes)

use Rattle.std.proofs.Common.{◌≡◌, ℕ, ◌+◌, ◌*◌, List, ap, ◌∙◌}
use Rattle.long_names.specs.Objects.{put_run}
use Rattle.long_names.specs.Record.{four_bytes}
use Rattle.object_record.proofs.Numbers.{wide32}
use Rattle.object_record.proofs.Blanks.{header-written}
use Rattle.object_record.proofs.layout.write_header.Goals as goal

first : (c : goal.After-put-2) → c.to_be_bytes.result ≡ four_bytes c.args.literals
unfolding four_bytes
first c = c.to_be_bytes.ensures

second : (c : goal.After-put-2) → c.to_be_bytes-2.result ≡ four_bytes (2 * c.args.literals + 1)
unfolding four_bytes
second c = c.to_be_bytes-2.ensures

pub returns-clause-header : goal.returns-clause-header
returns-clause-header c =
    let old : List ℕ = c.args.bytes.now.items in
    let p : List ℕ = four_bytes c.args.literals in
    let q : List ℕ = four_bytes (2 * c.args.literals + 1) in
    let e1 = c.put.ensures.bytes ∙ ap (λ (u : List ℕ). put_run old 20 u) (first c) in
    let e2 = c.put-2.ensures.bytes ∙ ap (λ (u : List ℕ). put_run c.put.new.bytes.items 24 u) (second c) ∙ ap (λ (v : List ℕ). put_run v 24 q) e1 in
    e2 ∙ header-written old p q c.requires.room (wide32.len c.args.literals) (wide32.len (2 * c.args.literals + 1))

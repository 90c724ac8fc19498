use Rattle.std.proofs.Common.{◌≡◌, ℕ, List, ap, ◌∙◌}
use Rattle.long_names.specs.Objects.{put_run}
use Rattle.long_names.specs.Record.{two_bytes, four_bytes, eight_bytes, kind_number}
use Rattle.object_record.proofs.Numbers.{wide16, wide32, wide64}
use Rattle.object_record.proofs.Blanks.{head-written}
use Rattle.object_record.proofs.layout.write_head.Goals as goal

name-bytes : (c : goal.After-put-5) → c.to_be_bytes.result ≡ four_bytes c.args.name
unfolding four_bytes
name-bytes c = c.to_be_bytes.ensures ∙ ap four_bytes c.get.ensures.value

class-bytes : (c : goal.After-put-5) → c.to_be_bytes-2.result ≡ four_bytes c.args.class
unfolding four_bytes
class-bytes c = c.to_be_bytes-2.ensures ∙ ap four_bytes c.get-2.ensures.value

count-bytes : (c : goal.After-put-5) → c.to_be_bytes-3.result ≡ eight_bytes 0
unfolding eight_bytes
count-bytes c = c.to_be_bytes-3.ensures

kind-bytes : (c : goal.After-put-5) → c.to_be_bytes-4.result ≡ two_bytes (kind_number c.args.kind)
unfolding two_bytes
kind-bytes c = c.to_be_bytes-4.ensures ∙ ap two_bytes c.number_of.ensures

size-bytes : (c : goal.After-put-5) → c.to_be_bytes-5.result ≡ two_bytes c.args.size
unfolding two_bytes
size-bytes c = c.to_be_bytes-5.ensures

pub returns-clause-head : goal.returns-clause-head
returns-clause-head c =
    let old : List ℕ = c.args.bytes.now.items in
    let p : List ℕ = four_bytes c.args.name in
    let q : List ℕ = four_bytes c.args.class in
    let r : List ℕ = eight_bytes 0 in
    let s : List ℕ = two_bytes (kind_number c.args.kind) in
    let t : List ℕ = two_bytes c.args.size in
    let e1 = c.put.ensures.bytes ∙ ap (λ (u : List ℕ). put_run old 0 u) (name-bytes c) in
    let e2 = c.put-2.ensures.bytes ∙ ap (λ (u : List ℕ). put_run c.put.new.bytes.items 4 u) (class-bytes c) ∙ ap (λ (v : List ℕ). put_run v 4 q) e1 in
    let e3 = c.put-3.ensures.bytes ∙ ap (λ (u : List ℕ). put_run c.put-2.new.bytes.items 8 u) (count-bytes c) ∙ ap (λ (v : List ℕ). put_run v 8 r) e2 in
    let e4 = c.put-4.ensures.bytes ∙ ap (λ (u : List ℕ). put_run c.put-3.new.bytes.items 16 u) (kind-bytes c) ∙ ap (λ (v : List ℕ). put_run v 16 s) e3 in
    let e5 = c.put-5.ensures.bytes ∙ ap (λ (u : List ℕ). put_run c.put-4.new.bytes.items 18 u) (size-bytes c) ∙ ap (λ (v : List ℕ). put_run v 18 t) e4 in
    e5 ∙ head-written old p q r s t (wide32.len c.args.name) (wide32.len c.args.class) (wide64.len 0) (wide16.len (kind_number c.args.kind)) (wide16.len c.args.size)

use Rattle.std.proofs.Common.{ℕ, ◌≡◌, ◌++◌, ◌∷◌, [], length, drop, Bool, true, cond, ltb, arith, sym, ◌∙◌, ap}
use Rattle.std.proofs.lemmas.Bool.{lt-ltb}
use Rattle.st80_objects.specs.Inside.{IsHalted, objects_at}
use Rattle.st80_objects.proofs.ReadLaws.{goes_on, is_longer, is_whole, leaves, stops}
use Rattle.st80_objects.proofs.reading.read_objects.Goals as goal

pub returns-in_err-rec-clause-fault : goal.returns-in_err-rec-clause-fault
returns-in_err-rec-clause-fault c =
    let opening = c.args.opening.now in
    let bytes = c.args.bytes.now in
    leaves (IsHalted (length bytes) (objects_at opening (drop c.args.start bytes))) c.from_residual.result c.in_err-rec.field-0.0 c.from_residual.ensures.1
    (stops opening bytes c.args.start c.records.at c.records.counter c.last_name.result c.records.objects c.in_err-rec.field-0.0 c.records.invariant c.records-test.true c.last_name.ensures.value c.in_err-rec.ensures.fault)

pub records-preserved : goal.records-preserved
records-preserved c =
    let read = c.in_ok-rec.ensures in
    let above = lt-ltb c.last_name.result c.in_ok-rec.rec.name read.above in
    let added : c.in_ok-push.field-0 ≡ true = c.in_ok-push.ensures.added ∙ ap (λ (n : ℕ). ltb n c.in_ok-rec.rec.name) (sym c.last_name.ensures.value) ∙ above in
    let more : c.push.new.self ≡ c.records.objects ++ c.in_ok-rec.rec ∷ [] = c.in_ok-push.ensures.objects ∙ ap (λ (b : Bool). cond b (c.records.objects ++ c.in_ok-rec.rec ∷ []) c.records.objects) added in
    goes_on c.args.opening.now c.args.bytes.now c.args.start c.records.at c.in_ok-rec.behind c.records.counter c.last_name.result c.records.objects c.push.new.self c.in_ok-rec.rec c.records.invariant c.records-test.true c.last_name.ensures.value read.read read.within more

pub returns-then-at-bytes-clause-fault : goal.returns-then-at-bytes-clause-fault
returns-then-at-bytes-clause-fault c =
    let end = c.records-test.false in
    let longer = c.if-at-bytes.true in
    rw c.broken.ensures (is_longer c.args.opening.now c.args.bytes.now c.args.start c.records.at c.records.counter c.records.objects c.records.invariant (omega (arith, end)) (omega (arith, longer)))

pub returns-clause-read : goal.returns-clause-read
returns-clause-read c =
    let end = c.records-test.false in
    let whole = c.if-at-bytes.false in
    is_whole c.args.opening.now c.args.bytes.now c.args.start c.records.at c.records.counter c.records.objects c.records.invariant (omega (arith, end)) (omega (arith, whole))

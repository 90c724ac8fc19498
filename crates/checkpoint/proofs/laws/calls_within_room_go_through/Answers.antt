use Rattle.std.proofs.Common.{◌≡◌, ◌+◌, ℕ, None, length, sym, ◌∙◌, subst, arith}
use Rattle.std.proofs.lemmas.Bool.{false≢true}
use Rattle.std.proofs.lemmas.Option.{none-some}
use Rattle.checkpoint.specs.Memory.{HasRoom, fuse_of}
use Rattle.checkpoint.proofs.MemoryLaws.{fuse-unset}
use Rattle.checkpoint.proofs.laws.calls_within_room_go_through.Goals as goal

pub returns-in_err-open_named : goal.returns-in_err-open_named
returns-in_err-open_named c =
    absurd (false≢true (c.in_err-open_named.ensures.succeeds (length c.args.name.now) 2 (length c.args.piece.now) (c.args.place + length c.args.piece.now) c.requires.room (omega arith)
    (λ out. none-some _ (sym c.requires.fuse ∙ out))))

pub returns-in_err-write_at : goal.returns-in_err-write_at
returns-in_err-write_at c =
    let end = c.args.place + length c.args.piece.now in
    let alone : length c.args.piece.now ≡ 0 + length c.args.piece.now = omega arith in
    let opened = subst (λ (n : ℕ). HasRoom (length c.args.name.now) 2 n end c.open_named.new.self) alone (c.in_ok-open_named.ensures.room (length c.args.name.now) 2 (length c.args.piece.now) end c.requires.room) in
    let unset : fuse_of c.open_named.new.self ≡ None = fuse-unset _ _ c.requires.fuse c.in_ok-open_named.ensures.call.fuse in
    absurd (false≢true (c.in_err-write_at.ensures.succeeds (length c.args.name.now) 1 0 end opened (omega arith) (λ out. none-some _ (sym unset ∙ out))))

pub returns : goal.returns
returns c =
    let end = c.args.place + length c.args.piece.now in
    let alone : length c.args.piece.now ≡ 0 + length c.args.piece.now = omega arith in
    let opened = subst (λ (n : ℕ). HasRoom (length c.args.name.now) 2 n end c.open_named.new.self) alone (c.in_ok-open_named.ensures.room (length c.args.name.now) 2 (length c.args.piece.now) end c.requires.room) in
    let written = c.in_ok-write_at.ensures.room (length c.args.name.now) 1 0 end opened (omega arith) in
    let unset : fuse_of c.open_named.new.self ≡ None = fuse-unset _ _ c.requires.fuse c.in_ok-open_named.ensures.call.fuse in
    let still : fuse_of c.write_at.new.self ≡ None = fuse-unset _ _ unset c.in_ok-write_at.ensures.call.fuse in
    c.sync.ensures.succeeds (length c.args.name.now) 0 0 end written (λ out. none-some _ (sym still ∙ out))

use Rattle.std.proofs.Common.{refl, sym, true, ◌∙◌, string_bytes}
use Rattle.file_system.specs.World.{Throughout, all, put_at}
use Rattle.file_saving.proofs.SavingLaws.{from-ok}
use Rattle.file_saving.specs.Saving.{IsMovedForGood, IsStillOrMoved}
use Rattle.file_host.proofs.HostLaws.{state-ends, told-over}
use Rattle.file_host.proofs.RoleLaws.{none-taken, of-taken, on-err, saved-ended, stands-none}
use Rattle.file_host.proofs.host.FileHost.end_saved.Goals as goal

pub invariant_of-self : goal.invariant_of-self
invariant_of-self g c = record { stands = λ told. stands-none _ _ _ _ _ _ _ _ (g.S.System.moments c.args.self.now.system) (g.S.System.moments c.args.self.now.system) refl c.take.ensures.after (λ d u is. is) (c.args.self.now.stands told) }

pub invariant_of-self-then-is_err : goal.invariant_of-self-then-is_err
invariant_of-self-then-is_err g c = record {
  stands = λ told.
      let st = c.args.self.now.stands told in
      let has = sym c.take.ensures.value ∙ c.in-Some.is in
      stands-none _ _ _ _ _ _ _ _ (g.S.System.moments c.args.self.now.system) (g.S.System.moments c.finish.new.system) refl c.take.ensures.after (c.finish.ensures.puts told _ (st.saved _ has).unfinished).uses st;
}

pub invariant_of-self-2 : goal.invariant_of-self-2
invariant_of-self-2 g c = record {
  stands = λ told.
      let st = c.args.self.now.stands told in
      let has = sym c.take.ensures.value ∙ c.in-Some.is in
      saved-ended _ _ _ _ _ _ _ _ (g.S.System.moments c.args.self.now.system) (g.S.System.moments c.finish.new.system) c.take.ensures.after (c.finish.ensures.puts told _ (st.saved _ has).unfinished).uses st;
}

pub returns-in_default-clause-moves : goal.returns-in_default-clause-moves
returns-in_default-clause-moves g c told s is =
    let m = g.S.System.moments c.args.self.now.system in
    none-taken (λ s. Throughout (IsStillOrMoved (g.S.System.entry (string_bytes s.path)) s.file (put_at s.descriptor m.now) m.now) (all m) (all m)) _ _ s c.take.ensures.value c.in_default.is is

pub returns-then-is_err-clause-moves : goal.returns-then-is_err-clause-moves
returns-then-is_err-clause-moves g c told s is =
    let m = g.S.System.moments c.args.self.now.system in
    let has = sym c.take.ensures.value ∙ c.in-Some.is in
    of-taken (λ s. Throughout (IsStillOrMoved (g.S.System.entry (string_bytes s.path)) s.file (put_at s.descriptor m.now) m.now) (all m) (all (g.S.System.moments c.finish.new.system))) _ _ _ s c.take.ensures.value c.in-Some.is is
    (c.finish.ensures.moves told _ ((c.args.self.now.stands told).saved _ has).unfinished)

pub returns-clause-moves : goal.returns-clause-moves
returns-clause-moves g c told s is =
    let m = g.S.System.moments c.args.self.now.system in
    let has = sym c.take.ensures.value ∙ c.in-Some.is in
    of-taken (λ s. Throughout (IsStillOrMoved (g.S.System.entry (string_bytes s.path)) s.file (put_at s.descriptor m.now) m.now) (all m) (all (g.S.System.moments c.finish.new.system))) _ _ _ s c.take.ensures.value c.in-Some.is is
    (c.finish.ensures.moves told _ ((c.args.self.now.stands told).saved _ has).unfinished)

pub returns-clause-moved : goal.returns-clause-moved
returns-clause-moved g c told s is =
    let m = g.S.System.moments c.args.self.now.system in
    let has = sym c.take.ensures.value ∙ c.in-Some.is in
    of-taken (λ s. IsMovedForGood (g.S.System.entry (string_bytes s.path)) s.file (put_at s.descriptor m.now) m.now (g.S.System.moments c.finish.new.system).now) _ _ _ s c.take.ensures.value c.in-Some.is is
    (from-ok c.finish.result _ c.is_err.ensures.value c.if-is_err.false (c.finish.ensures.moved told _ ((c.args.self.now.stands told).saved _ has).unfinished))

pub returns-clause-ended : goal.returns-clause-ended
returns-clause-ended g c told =
    let has = sym c.take.ensures.value ∙ c.in-Some.is in
    state-ends c.args.self.now.told (record c.args.self.now.told { ended = true }) (g.S.System.moments c.args.self.now.system).now (g.S.System.moments c.finish.new.system).now refl refl refl refl (c.finish.ensures.puts told _ ((c.args.self.now.stands told).saved _ has).unfinished).is

pub returns-then-is_err-clause-still : goal.returns-then-is_err-clause-still
returns-then-is_err-clause-still g c told =
    let has = sym c.take.ensures.value ∙ c.in-Some.is in
    on-err c.fail-then-is_err.result (told-over _ _ _ (c.finish.ensures.puts told _ ((c.args.self.now.stands told).saved _ has).unfinished))

use Rattle.std.proofs.Common.{◌≢◌, sym, refl, ◌∙◌, string_bytes}
use Rattle.file_system.specs.World.{Entry}
use Rattle.file_saving.proofs.PutLaws.{puts-then}
use Rattle.file_saving.proofs.SavingLaws.{keeps-then, keeps-untouched}
use Rattle.file_saving.specs.Saving.{KeepsName}
use Rattle.file_host.proofs.HostLaws.{told-over}
use Rattle.file_host.proofs.RoleLaws.{none-taken, of-taken, on-err, saved-put, saved-wrote, stands-none}
use Rattle.file_host.proofs.host.FileHost.write_saved.Goals as goal

pub invariant_of-self : goal.invariant_of-self
invariant_of-self g c = record { stands = λ told. stands-none _ _ _ _ _ _ _ _ (g.S.System.moments c.args.self.now.system) (g.S.System.moments c.args.self.now.system) refl c.take.ensures.after (λ d u is. is) (c.args.self.now.stands told) }

pub invariant_of-self-in-Ok : goal.invariant_of-self-in-Ok
invariant_of-self-in-Ok g c = record {
  stands = λ told.
      let st = c.args.self.now.stands told in
      let has = sym c.take.ensures.value ∙ c.in-Some.is in
      let u = (st.saved _ has).unfinished in
      saved-wrote _ _ _ _ _ _ _ (g.S.System.moments c.args.self.now.system) (g.S.System.moments c.write.new.system) has (c.in-Ok.ensures.put told _ u) (c.in-Ok.ensures.others told _ u) st;
}

pub invariant_of-self-in-Err-1 : goal.invariant_of-self-in-Err-1
invariant_of-self-in-Err-1 g c = record {
  stands = λ told.
      let st = c.args.self.now.stands told in
      let has = sym c.take.ensures.value ∙ c.in-Some.is in
      let puts = puts-then _ _ _ (c.in-Err.ensures.puts told _ (st.saved _ has).unfinished) (c.discard.ensures.puts told) in
      stands-none _ _ _ _ _ _ _ _ (g.S.System.moments c.args.self.now.system) (g.S.System.moments c.discard.new.system) refl c.take.ensures.after puts.uses st;
}

pub returns-in-Ok-clause-put : goal.returns-in-Ok-clause-put
returns-in-Ok-clause-put g c told =
    let st = c.args.self.now.stands told in
    let has = sym c.take.ensures.value ∙ c.in-Some.is in
    saved-put _ _ _ _ _ _ _ (g.S.System.moments c.args.self.now.system) (g.S.System.moments c.write.new.system) has st (c.in-Ok.ensures.put told _ (st.saved _ has).unfinished)

pub returns-in-Err-clause-failed : goal.returns-in-Err-clause-failed
returns-in-Err-clause-failed g c told =
    let st = c.args.self.now.stands told in
    let has = sym c.take.ensures.value ∙ c.in-Some.is in
    on-err c.fail-in-Err.result (told-over _ _ _ (puts-then _ _ _ (c.in-Err.ensures.puts told _ (st.saved _ has).unfinished) (c.discard.ensures.puts told)))

pub returns-in_default-clause-keeps : goal.returns-in_default-clause-keeps
returns-in_default-clause-keeps g c told s is =
    let old = g.S.System.moments c.args.self.now.system in
    none-taken (λ s. (e : Entry) → e ≢ g.S.System.entry (string_bytes s.part) → KeepsName e old old) _ _ s c.take.ensures.value c.in_default.is is

pub returns-in-Ok-clause-keeps : goal.returns-in-Ok-clause-keeps
returns-in-Ok-clause-keeps g c told s is =
    let st = c.args.self.now.stands told in
    let has = sym c.take.ensures.value ∙ c.in-Some.is in
    of-taken (λ s. (e : Entry) → e ≢ g.S.System.entry (string_bytes s.part) → KeepsName e (g.S.System.moments c.args.self.now.system) (g.S.System.moments c.write.new.system)) _ _ _ s c.take.ensures.value c.in-Some.is is (c.write.ensures.keeps told _ (st.saved _ has).unfinished)

pub returns-in-Err-clause-keeps : goal.returns-in-Err-clause-keeps
returns-in-Err-clause-keeps g c told s is =
    let st = c.args.self.now.stands told in
    let has = sym c.take.ensures.value ∙ c.in-Some.is in
    of-taken (λ s. (e : Entry) → e ≢ g.S.System.entry (string_bytes s.part) → KeepsName e (g.S.System.moments c.args.self.now.system) (g.S.System.moments c.discard.new.system)) _ _ _ s c.take.ensures.value c.in-Some.is is
    (λ e apart. keeps-then e _ _ _ (c.write.ensures.keeps told _ (st.saved _ has).unfinished e apart) (keeps-untouched e _ _ (c.discard.ensures.untouched told e (λ named. apart))))

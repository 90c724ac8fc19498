use Rattle.file_host.proofs.HostLaws.{if-told}
use Rattle.file_host.proofs.RoleLaws.{output-apart, output-else, still-written, stream-order, told-written}
use Rattle.file_host.proofs.host.FileHost.write_transcript.Goals as goal

pub invariant_of-self : goal.invariant_of-self
invariant_of-self g c = record {
  stands = λ told. let st = c.args.self.now.stands told in let is = st.open_files.output in
      still-written _ _ _ _ _ c.args.self.now.table.output _ _ (output-apart _ _ _ _ _ _ st) (output-else _ _ _ _ _ _ st) (c.put_some.ensures.writes told (stream-order _ is.way) is.used) st;
}

pub invariant_of-self-in-Err : goal.invariant_of-self-in-Err
invariant_of-self-in-Err g c = record {
  stands = λ told. let st = c.args.self.now.stands told in let is = st.open_files.output in
      still-written _ _ _ _ _ c.args.self.now.table.output _ _ (output-apart _ _ _ _ _ _ st) (output-else _ _ _ _ _ _ st) (c.put_some.ensures.writes told (stream-order _ is.way) is.used) st;
}

pub returns-in-Ok-clause-saved : goal.returns-in-Ok-clause-saved
returns-in-Ok-clause-saved g c = if-told g.S.System.tells _ _ _ _ (λ told. let st = c.args.self.now.stands told in let is = st.open_files.output in
    told-written _ _ _ _ _ (output-apart _ _ _ _ _ _ st) (c.put_some.ensures.writes told (stream-order _ is.way) is.used))

pub returns-in-Err-clause-saved : goal.returns-in-Err-clause-saved
returns-in-Err-clause-saved g c = if-told g.S.System.tells _ _ _ _ (λ told. let st = c.args.self.now.stands told in let is = st.open_files.output in
    told-written _ _ _ _ _ (output-apart _ _ _ _ _ _ st) (c.put_some.ensures.writes told (stream-order _ is.way) is.used))

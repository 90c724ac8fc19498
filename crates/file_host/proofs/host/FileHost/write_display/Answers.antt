use Rattle.file_host.proofs.HostLaws.{if-told}
use Rattle.file_host.proofs.RoleLaws.{append-order, display-apart, display-else, still-written, told-written}
use Rattle.file_host.proofs.host.FileHost.write_display.Goals as goal

pub invariant_of-self : goal.invariant_of-self
invariant_of-self g c = record { stands = c.args.self.now.stands }

pub invariant_of-self-in-Ok-1 : goal.invariant_of-self-in-Ok-1
invariant_of-self-in-Ok-1 g c = record {
  stands = λ told. let st = c.args.self.now.stands told in let is = st.open_files.display _ c.in-Some.is in
      still-written _ _ _ _ _ c.in-Some.used _ _ (display-apart _ _ _ _ _ _ _ st c.in-Some.is) (display-else _ _ _ _ _ _ _ st c.in-Some.is) (c.put_through.ensures.writes told (append-order _ is.way) is.used) st;
}

pub invariant_of-self-in-Err : goal.invariant_of-self-in-Err
invariant_of-self-in-Err g c = record {
  stands = λ told. let st = c.args.self.now.stands told in let is = st.open_files.display _ c.in-Some.is in
      still-written _ _ _ _ _ c.in-Some.used _ _ (display-apart _ _ _ _ _ _ _ st c.in-Some.is) (display-else _ _ _ _ _ _ _ st c.in-Some.is) (c.put_through.ensures.writes told (append-order _ is.way) is.used) st;
}

pub returns-in-Ok-clause-saved : goal.returns-in-Ok-clause-saved
returns-in-Ok-clause-saved g c = if-told g.S.System.tells _ _ _ _ (λ told. let st = c.args.self.now.stands told in let is = st.open_files.display _ c.in-Some.is in
    told-written _ _ _ _ _ (display-apart _ _ _ _ _ _ _ st c.in-Some.is) (c.put_through.ensures.writes told (append-order _ is.way) is.used))

pub returns-in-Err-clause-saved : goal.returns-in-Err-clause-saved
returns-in-Err-clause-saved g c = if-told g.S.System.tells _ _ _ _ (λ told. let st = c.args.self.now.stands told in let is = st.open_files.display _ c.in-Some.is in
    told-written _ _ _ _ _ (display-apart _ _ _ _ _ _ _ st c.in-Some.is) (c.put_through.ensures.writes told (append-order _ is.way) is.used))

use Rattle.machine_run.proofs.SightLaws.{sight_serves, sight_stops, stop_fetches}
use Rattle.machine_run.proofs.tracing.look.Goals as goal

pub returns-clause-serves : goal.returns-clause-serves
returns-clause-serves g c = (c.fetch.new.cpu, sight_serves _ _ _ c.active_context-context.ensures c.place_of-ip.ensures c.in_ok-byte.ensures.fit.ready c.in_ok-byte.ensures.serves)

pub returns-in_err-byte-clause-serves : goal.returns-in_err-byte-clause-serves
returns-in_err-byte-clause-serves g c = (c.fetch.new.cpu, sight_stops _ c.from_residual.ensures.1 c.in_err-byte.ensures.serves)

pub returns-in_err-byte-clause-stops : goal.returns-in_err-byte-clause-stops
returns-in_err-byte-clause-stops g c = stop_fetches _ c.from_residual.ensures.1 c.in_err-byte.ensures.serves

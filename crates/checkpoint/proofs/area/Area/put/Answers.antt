use Rattle.std.proofs.Common.{refl, rules, ◌∙◌}
use Rattle.checkpoint.specs.Area.{text_of}
use Rattle.checkpoint.specs.Vault.{contents_of}
use Rattle.checkpoint.proofs.AreaLaws.{all-text, rest-text}
use Rattle.checkpoint.proofs.SparesLaws.{apart-then, spares-still}
use Rattle.checkpoint.proofs.area.Area.put.Goals as goal

pub loop-rest-init : goal.loop-rest-init
loop-rest-init g c = record {
  text = λ told. refl;
  len = refl;
  parity = refl;
  spares = λ told. spares-still _ _ _ refl;
  calm = refl;
}

pub loop-rest-preserved : goal.loop-rest-preserved
loop-rest-preserved g c = record {
  text = λ told. rest-text _ (text_of c.args.self.now (contents_of (g.V.Vault.state c.args.vault.now))) c.args.bytes.now c.loop-rest.rest.now c.split_at.result.0.now c.split_at.result.1.now
      (text_of c.loop-rest.self (contents_of (g.V.Vault.state c.loop-rest.vault))) c.min.result (c.in_ok-put_piece.ensures.text told) (search rules) (search rules) (c.loop-rest.invariant.text told);
  len = search rules;
  parity = search rules;
  spares = λ told. apart-then _ _ _ _ _ c.loop-rest.invariant.parity (c.loop-rest.invariant.spares told) (c.in_ok-put_piece.ensures.spares told);
  calm = c.in_ok-put_piece.ensures.calm ∙ c.loop-rest.invariant.calm;
}

pub returns-in_err-put_piece-clause-spares : goal.returns-in_err-put_piece-clause-spares
returns-in_err-put_piece-clause-spares g c told =
    apart-then _ _ _ _ _ c.loop-rest.invariant.parity (c.loop-rest.invariant.spares told) (c.in_err-put_piece.ensures.spares told)

pub returns-clause-text : goal.returns-clause-text
returns-clause-text g c told =
    all-text (text_of c.loop-rest.self (contents_of (g.V.Vault.state c.loop-rest.vault))) (text_of c.args.self.now (contents_of (g.V.Vault.state c.args.vault.now))) c.args.bytes.now c.loop-rest.rest.now
    (c.loop-rest.invariant.text told) (search rules)

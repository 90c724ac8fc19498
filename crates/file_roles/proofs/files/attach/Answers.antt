use Rattle.std.proofs.Common.{◌≢◌, Some}
use Rattle.file_roles.specs.Share.{IsNoInput, expected_at}
use Rattle.file_roles.specs.Open.{is_of, whatever}
use Rattle.file_roles.proofs.OpenLaws.{both-ok, kept-ok, kept-way, leaves-safer, leaves-shut, leaves-then, opened-later}
use Rattle.file_roles.proofs.files.attach.Goals as goal

pub returns-in_err-used-clause-leaves : goal.returns-in_err-used-clause-leaves
returns-in_err-used-clause-leaves g c told = leaves-safer whatever (is_of c.args.beside.now.saving) _ _ (λ d file safe. tt) (c.in_err-used.ensures.leaves told)

pub returns-clause-leaves : goal.returns-clause-leaves
returns-clause-leaves g c told = leaves-shut (is_of c.args.beside.now.saving) _ _ _ _ (c.in_ok-used.ensures.opened told).free (leaves-then (is_of c.args.beside.now.saving) _ _ _ (leaves-safer whatever (is_of c.args.beside.now.saving) _ _ (λ d file safe. tt) (c.in_ok-used.ensures.leaves told)) (c.empty-emptied.ensures.leaves told (c.in_ok-used.ensures.opened told).used)) (c.or_shut.ensures.leaves told)

pub returns-clause-opened : goal.returns-clause-opened
returns-clause-opened g c told = kept-ok _ _ _ _ c.or_shut.result (opened-later (is_of c.args.beside.now.saving) _ _ _ _ (c.in_ok-used.ensures.opened told) (c.empty-emptied.ensures.leaves told (c.in_ok-used.ensures.opened told).used)) c.or_shut.ensures.same (c.or_shut.ensures.still told)

pub returns-clause-way : goal.returns-clause-way
returns-clause-way g c = kept-way _ _ c.or_shut.result c.in_ok-used.ensures.way c.or_shut.ensures.same

pub returns-clause-apart : goal.returns-clause-apart
returns-clause-apart g c file is = both-ok (λ u. u.found.file ≢ file) _ c.or_shut.result c.empty-emptied.result c.or_shut.ensures.same c.or_shut.ensures.done (c.empty-emptied.ensures.apart file is)

pub returns-clause-kept : goal.returns-clause-kept
returns-clause-kept g c file is = both-ok (λ u. u.found.file ≢ file) _ c.or_shut.result c.empty-emptied.result c.or_shut.ensures.same c.or_shut.ensures.done (c.empty-emptied.ensures.kept file is)

pub returns-clause-expected : goal.returns-clause-expected
returns-clause-expected g c work r = both-ok (λ u. expected_at c.args.beside.now.expected r ≢ Some u.found.file) _ c.or_shut.result c.empty-emptied.result c.or_shut.ensures.same c.or_shut.ensures.done (c.empty-emptied.ensures.expected work r)

pub returns-clause-inputs : goal.returns-clause-inputs
returns-clause-inputs g c = both-ok (λ u. IsNoInput c.args.table.now u.found.file) _ c.or_shut.result c.empty-emptied.result c.or_shut.ensures.same c.or_shut.ensures.done c.empty-emptied.ensures.inputs

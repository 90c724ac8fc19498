use Rattle.std.proofs.Common.{◌∙◌}
use Rattle.disk_objects.proofs.NamesLaws.{ordered-names}
use Rattle.disk_objects.proofs.rest.DiskRest.names.Goals as goal

pub returns-in-Ok-clause-names : goal.returns-in-Ok-clause-names
returns-in-Ok-clause-names g c told objects pending k =
    c.in-Ok.ensures ∙ ordered-names c.order.new.names.items objects c.order.ensures.ordered (λ q. c.order.ensures.noted q ∙ c.in_ok-names.ensures.gathered told objects pending k q)

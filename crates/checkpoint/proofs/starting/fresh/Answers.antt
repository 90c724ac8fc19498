use Rattle.std.proofs.Common.{inl, inr, refl}
use Rattle.checkpoint.proofs.FreshLaws.{first-zero, goes-empty, goes-synced, goes-then, goes-written, none-written, on_ok, second-stands, second-zero}
use Rattle.checkpoint.proofs.SureLaws.{unsynced-synced}
use Rattle.checkpoint.proofs.starting.fresh.Goals as goal

pub returns-in_err-write-clause-extends : goal.returns-in_err-write-clause-extends
returns-in_err-write-clause-extends g c told = (goes-written _ _ _ _ (inl refl) (c.in_err-write.ensures.written told)).extends

pub returns-in_err-write-clause-others : goal.returns-in_err-write-clause-others
returns-in_err-write-clause-others g c told i one two = (goes-written _ _ _ _ (inl refl) (c.in_err-write.ensures.written told)).same i (one, two)

pub returns-in_err-write-clause-stops : goal.returns-in_err-write-clause-stops
returns-in_err-write-clause-stops g c told empty = goes-empty _ _ (goes-written _ _ _ _ (inl refl) (c.in_err-write.ensures.written told)) empty

pub returns-in_err-write-2-clause-extends : goal.returns-in_err-write-2-clause-extends
returns-in_err-write-2-clause-extends g c told =
    (goes-then _ _ _ (goes-written _ _ _ _ (inl refl) (c.in_ok-write.ensures.written told)) (goes-written _ _ _ _ (inr refl) (c.in_err-write-2.ensures.written told))).extends

pub returns-in_err-write-2-clause-others : goal.returns-in_err-write-2-clause-others
returns-in_err-write-2-clause-others g c told i one two =
    (goes-then _ _ _ (goes-written _ _ _ _ (inl refl) (c.in_ok-write.ensures.written told)) (goes-written _ _ _ _ (inr refl) (c.in_err-write-2.ensures.written told))).same i (one, two)

pub returns-in_err-write-2-clause-stops : goal.returns-in_err-write-2-clause-stops
returns-in_err-write-2-clause-stops g c told empty =
    goes-empty _ _ (goes-then _ _ _ (goes-written _ _ _ _ (inl refl) (c.in_ok-write.ensures.written told)) (goes-written _ _ _ _ (inr refl) (c.in_err-write-2.ensures.written told))) empty

pub returns-clause-extends : goal.returns-clause-extends
returns-clause-extends g c told =
    (goes-then _ _ _ (goes-then _ _ _ (goes-written _ _ _ _ (inl refl) (c.in_ok-write.ensures.written told)) (goes-written _ _ _ _ (inr refl) (c.in_ok-write-2.ensures.written told)))
    (goes-synced _ _ _ (c.sync.ensures.synced told))).extends

pub returns-clause-first : goal.returns-clause-first
returns-clause-first g c told = on_ok _ (first-zero _ _ _ _ _ _ _ (c.in_ok-write.ensures.written told) refl (c.in_ok-write-2.ensures.written told) refl (c.sync.ensures.synced told))

pub returns-clause-second : goal.returns-clause-second
returns-clause-second g c told = on_ok _ (second-zero _ _ _ _ _ _ _ (c.in_ok-write.ensures.written told) refl (c.in_ok-write-2.ensures.written told) refl (c.sync.ensures.synced told))

pub returns-clause-others : goal.returns-clause-others
returns-clause-others g c told i one two =
    (goes-then _ _ _ (goes-then _ _ _ (goes-written _ _ _ _ (inl refl) (c.in_ok-write.ensures.written told)) (goes-written _ _ _ _ (inr refl) (c.in_ok-write-2.ensures.written told)))
    (goes-synced _ _ _ (c.sync.ensures.synced told))).same i (one, two)

pub returns-clause-none : goal.returns-clause-none
returns-clause-none g c told =
    on_ok _ (none-written _ _ _ _ _ _ _ (c.in_ok-write.ensures.written told) refl (c.in_ok-write-2.ensures.written told) refl (c.sync.ensures.synced told))

pub returns-clause-synced : goal.returns-clause-synced
returns-clause-synced g c told = unsynced-synced _ _ _ (c.sync.ensures.synced told)

pub returns-clause-stops : goal.returns-clause-stops
returns-clause-stops g c told empty =
    goes-empty _ _ (goes-then _ _ _ (goes-then _ _ _ (goes-written _ _ _ _ (inl refl) (c.in_ok-write.ensures.written told)) (goes-written _ _ _ _ (inr refl) (c.in_ok-write-2.ensures.written told)))
    (goes-synced _ _ _ (c.sync.ensures.synced told))) empty

pub returns-clause-written : goal.returns-clause-written
returns-clause-written g c told = on_ok _ (second-stands _ _ _ _ _ _ _ (c.in_ok-write.ensures.written told) refl (c.in_ok-write-2.ensures.written told) refl (c.sync.ensures.synced told))

-- Parts that are put one after the other.
use Rattle.std.proofs.Common.{◌≡◌, ℕ, List, ◌++◌, Result, Ok, Err, IsErrAnd, ap, ◌∙◌}
use Rattle.loom_host.specs.declared.outside.Host.{Ghosts}
use Rattle.image_writer.specs.declared.fault.SaveFault.{SaveFault}
use Rattle.image_writer.specs.Inside.{Gathers}
use Rattle.image_writer.proofs.GatherLaws.{then_gathers, stop_gathers, gathers_of}

-- a part behind what was put
pub then_part : {H T U : Type 0} (host : Ghosts H) (old mid new : H) (a b c x part y text : List ℕ) (v : T) (r : Result U SaveFault) → part ≡ y → x ++ y ≡ text
    → Gathers {T = T} host old mid a b x (Ok v) → Gathers host mid new b c part r → Gathers host old new a c text r
then_part host old mid new a b c x part y text v r same whole p q =
    gathers_of host old new a c (x ++ part) text r (ap (λ (t : List ℕ). x ++ t) same ∙ whole) (then_gathers host old mid new a b c x part v r p q)

-- a part that was not put whole, so that the rest isn't put
pub stop_part : {H T U V : Type 0} (host : Ghosts H) (old mid new : H) (a b d c x part y rest text : List ℕ) (v : T) (e : SaveFault) (r : Result V SaveFault) → part ≡ y → x ++ (y ++ rest) ≡ text
    → Gathers {T = T} host old mid a b x (Ok v) → Gathers {T = U} host mid new b d part (Err e) → IsErrAnd r (λ f. f ≡ e) → Gathers host old new a c text r
stop_part {U = U} host old mid new a b d c x part y rest text v e r same whole p q is =
    gathers_of host old new a c (x ++ (part ++ rest)) text r (ap (λ (t : List ℕ). x ++ (t ++ rest)) same ∙ whole)
    (then_gathers host old mid new a b c x (part ++ rest) v r p (stop_gathers {T = U} host mid new b d c part rest e r q is))

-- the first part
pub stop_first : {H U V : Type 0} (host : Ghosts H) (old new : H) (a d c part y rest text : List ℕ) (e : SaveFault) (r : Result V SaveFault) → part ≡ y → y ++ rest ≡ text
    → Gathers {T = U} host old new a d part (Err e) → IsErrAnd r (λ f. f ≡ e) → Gathers host old new a c text r
stop_first {U = U} host old new a d c part y rest text e r same whole q is =
    gathers_of host old new a c (part ++ rest) text r (ap (λ (t : List ℕ). t ++ rest) same ∙ whole) (stop_gathers {T = U} host old new a d c part rest e r q is)

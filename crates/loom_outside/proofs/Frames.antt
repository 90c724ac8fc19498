-- What a call leaves of the roles.
-- What a host tells goes by role, and each call has one clause over the other roles (`SameBut`): a caller carries one fact and
-- not six.
use Rattle.std.proofs.Common.{◌≡◌, ◌≢◌, ℕ, List, ◌∙◌, ap, sym, subst, arith, rules, Bool, true, Option, None, Result, Ok, Err, OnErr, is_err, if◌then◌else◌}
use Rattle.std.proofs.lemmas.List.{append-nil}
use Rattle.loom_outside.specs.Memory.{told}
use Rattle.loom_host.specs.Outside.{RoleState, SameBut, CanRead, CanWrite, PutPrefix, holds}
use Rattle.loom_outside.specs.PerRole.{at_role}
use Rattle.loom_outside.specs.Store.{held_of}
use Rattle.loom_outside.specs.declared.calls.Calls.{Calls}
use Rattle.loom_host.specs.declared.outside.Role.{Role}
use Rattle.loom_host.specs.declared.outside.Role.TheVariants.{Work}
use Rattle.loom_outside.specs.declared.per_role.PerRole.{PerRole}
use Rattle.loom_outside.specs.declared.store.Store.{Store}

pub work_not_read : (role : Role) → CanRead role → Work ≢ role
work_not_read role can e = subst CanRead (sym e) can

pub work_not_written : (role : Role) → CanWrite role → Work ≢ role
work_not_written role can e = subst CanWrite (sym e) can

-- another role, where neither its calls nor what it holds changed
pub told-other : (role r : Role) (calls new_calls : PerRole Calls) (s t : Store) → r ≢ role → SameBut role (at_role calls) (at_role new_calls) → SameBut role (held_of s) (held_of t) → told (at_role new_calls r) (held_of t r) ≡ told (at_role calls r) (held_of s r)
told-other role r calls new_calls s t apart same held = ap (λ (c : Calls). told c (held_of t r)) (same r apart) ∙ ap (told (at_role calls r)) (held r apart)

pub told-same : (c d : Calls) (s t : RoleState) → d.attaches ≡ c.attaches → d.named ≡ c.named → d.ended ≡ c.ended → t ≡ s → told d t ≡ told c s
told-same c d s t attaches named ended held =
    ap (told d) held
    ∙ ap (λ (n : ℕ). record s { attaches = n; name = if d.named then s.name else None; ended = d.ended }) attaches
    ∙ ap (λ (b : Bool). record s { attaches = c.attaches; name = if b then s.name else None; ended = d.ended }) named
    ∙ ap (λ (e : Option ℕ). record s { attaches = c.attaches; name = if c.named then s.name else None; ended = e }) ended

pub at_is_err : {T E Q : Type 0} (r : Result T E) → is_err r ≡ true → OnErr r Q → Q
at_is_err (Ok x) is q = absurd (search (rules, is))
at_is_err (Err e) is q = q

pub always_on_err : {T E Q : Type 0} (r : Result T E) → Q → OnErr r Q
always_on_err (Ok x) q = tt
always_on_err (Err e) q = q

pub PutPrefix-none : (bytes : List ℕ) (old new : RoleState) → new ≡ old → PutPrefix bytes old new
PutPrefix-none bytes old new same = (0, omega arith, same ∙ ap (λ (l : List ℕ). record old { put = l }) (sym (append-nil old.put)))

-- Work's contents, whatever they are
pub Holds-some : (old new : RoleState) → new ≡ old → (left : List ℕ) × (new ≡ holds left old)
Holds-some old new same = (old.contents, same)

-- What a name leads to while Saved is begun.
use Rattle.std.proofs.Common.{◌≡◌, ◌≢◌, ℕ, Bool, false, List, [], Option, None, Some, Result, Ok, Err, IfOk, OnOk, sym, ap, ◌∙◌, subst, string_bytes}
use Rattle.file_system.specs.World.{Entry, Moments}
use Rattle.file_system.specs.Calls.{Does, Finds}
use Rattle.file_system.specs.declared.system.Way.{Way}
use Rattle.file_roles.specs.Share.{IsFree, IsNoInput}
use Rattle.file_roles.specs.declared.table.Table.{Table}
use Rattle.file_saving.specs.Saving.{IsStill, IsUnfinished, KeepsName}
use Rattle.file_saving.specs.declared.saving.Saving.{Saving}
use Rattle.file_saving.proofs.SavingLaws.{keeps-then, throughout-does}

pub keeps-found : (e : Entry) (d i : ℕ) (way : Option Way) (old new : Moments) → Does (Finds d i way) old new → KeepsName e old new
keeps-found e d i way old new does =
    throughout-does (IsStill e old.now) (Finds d i way) old new does (record { name = does.does.names.names e; earlier = does.does.names.earlier e; file = λ k is. does.does.files k })

pub keeps-path : (entry : List ℕ → Entry) (path other : List ℕ) (a b c : Moments) → other ≡ path → KeepsName (entry path) a b → KeepsName (entry other) b c → KeepsName (entry path) a c
keeps-path entry path other a b c same first second = keeps-then (entry path) a b c first (subst (λ (p : List ℕ). KeepsName (entry p) b c) same second)

pub same-saving : {E : Type 0} (P : Saving → Type 0) (saving : Saving) (r : Result Saving E) → IfOk r (λ s. s ≡ saving) → P saving → IfOk r P
same-saving P saving (Ok s) same holds = subst P (sym same) holds
same-saving P saving (Err x) same holds = same

pub begun-still : {E : Type 0} (entry : List ℕ → Entry) (saving : Saving) (b c : Moments) (r : Result Saving E) → IfOk r (λ s. s ≡ saving) → OnOk r (c ≡ b) → IsUnfinished (entry (string_bytes saving.part)) saving.descriptor saving.file [] b.now
    → IfOk r (λ s. IsUnfinished (entry (string_bytes s.part)) s.descriptor s.file [] c.now)
begun-still entry saving b c (Ok s) same still u =
    subst (λ (x : Saving). IsUnfinished (entry (string_bytes x.part)) x.descriptor x.file [] c.now) (sym same) (subst (λ (m : Moments). IsUnfinished (entry (string_bytes saving.part)) saving.descriptor saving.file [] m.now) (sym still) u)
begun-still entry saving b c (Err x) same still u = same

pub on-ok : {T E P : Type 0} (r : Result T E) → P → OnOk r P
on-ok (Ok x) holds = holds
on-ok (Err x) holds = tt

or-number : ℕ → Option ℕ → ℕ
or-number n None = n
or-number n (Some m) = m

pub found-same : (names : Option ℕ) (i k : ℕ) → names ≡ Some i → names ≡ Some k → k ≡ i
unfolding or-number
found-same names i k is found = ap (or-number i) (sym found ∙ is)

is-none : Option ℕ → Type 0
is-none None = Unit {0}
is-none (Some n) = ⊥

pub none-found : (names : Option ℕ) (i : ℕ) → names ≡ Some i → names ≡ None → ⊥
unfolding is-none
none-found names i is none = subst is-none (sym none ∙ is) tt

pub free-of : (t : Table) (kept : Option ℕ) (shares : Bool) (file i : ℕ) → file ≡ i → ((k : ℕ) → kept ≡ Some k → file ≢ k) → (shares ≡ false → IsNoInput t file) → IsFree t kept shares i
free-of t kept shares file i same other inputs = subst (IsFree t kept shares) same (record { other = other; inputs = inputs })

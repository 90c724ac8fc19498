-- What was accepted through descriptors, call by call.
use Rattle.std.proofs.Common.{◌≡◌, ◌≢◌, inl, inr, IfOk, take, ⊎_elim, ℕ, List, Option, None, Some, Result, Ok, Err, OnOk, OnErr, refl, sym, ap, ◌∙◌, subst}
use Rattle.std.proofs.lemmas.Bool.{cases_eq}
use Rattle.std.specs.Option.{option_map}
use Rattle.file_system.specs.World.{Entry, FileState, Opening, World, Moments, put_at, put_in}
use Rattle.file_system.specs.Calls.{Appends, Does, MayDo, SameOpened, Takes, Finds, MakesOpen, MakesShut, ChangesBy, Closes, Settles, Spoils, Renames, Removes, closed, unsynced}
use Rattle.file_system.specs.declared.system.Way.{Way}
use Rattle.file_saving.specs.declared.saving.Saving.{Saving}
use Rattle.file_saving.specs.Saving.{IsFinished, IsOpenFolder, KeepsPut, KeepsPutBut, Use, being_written, use_at, use_of}
use Rattle.file_saving.proofs.SavingLaws.{finished-opened, folder-opened}

is-none : Option Use → Type 0
is-none None = Unit {0}
is-none (Some u) = ⊥

pub puts-same : (old new : Moments) → new ≡ old → KeepsPut old new
puts-same old new same = record { is = λ d. ap (λ (m : Moments). put_at d m.now) same; uses = λ d u is. subst (λ (m : Moments). use_at d m.now ≡ Some u) (sym same) is }

pub puts-then : (a b c : Moments) → KeepsPut a b → KeepsPut b c → KeepsPut a c
puts-then a b c first second = record { is = λ d. second.is d ∙ first.is d; uses = λ d u is. second.uses d u (first.uses d u is) }

pub opened-puts : (old new : Moments) → SameOpened old.now new.now → KeepsPut old new
opened-puts old new same = record { is = λ d. ap put_in (same d); uses = λ d u is. ap (option_map use_of) (same d) ∙ is }

-- a use where nothing was open
no-use : (u : Use) (P : Type 0) → None ≡ Some u → P
unfolding is-none
no-use u P is = absurd (subst is-none is tt)

takes-puts : (k i : ℕ) (way : Option Way) (w v : World) → Takes k i way w v → (d : ℕ) → put_at d v ≡ put_at d w
takes-puts k i way w v t d = ⊎_elim
    (λ (h : d ≡ k). subst (λ (x : ℕ). put_at x v ≡ put_at x w) (sym h) (ap put_in t.opened ∙ sym (ap put_in t.free)))
    (λ (h : d ≡ k → ⊥). ap put_in (t.others d h))
    (cases_eq d k)

pub takes-apart : (k i : ℕ) (way : Option Way) (w v : World) → Takes k i way w v → (d : ℕ) (u : Use) → use_at d w ≡ Some u → d ≢ k
takes-apart k i way w v t d u is same = no-use u ⊥ (sym (ap (option_map use_of) (ap w.opened same ∙ t.free)) ∙ is)

takes-uses : (k i : ℕ) (way : Option Way) (w v : World) → Takes k i way w v → (d : ℕ) (u : Use) → use_at d w ≡ Some u → use_at d v ≡ Some u
takes-uses k i way w v t d u is = ap (option_map use_of) (t.others d (takes-apart k i way w v t d u is)) ∙ is

pub takes-keeps : (k i : ℕ) (way : Option Way) (old new : Moments) → Takes k i way old.now new.now → KeepsPut old new
takes-keeps k i way old new t = record { is = takes-puts k i way old.now new.now t; uses = takes-uses k i way old.now new.now t }

closed-put : (o : Option Opening) → put_in (option_map closed o) ≡ put_in o
closed-put None = refl
closed-put (Some o) = refl

closed-use : (o : Option Opening) → option_map use_of (option_map closed o) ≡ option_map use_of o
closed-use None = refl
closed-use (Some o) = refl

closes-puts : (k : ℕ) (w v : World) → Closes k w v → (d : ℕ) → put_at d v ≡ put_at d w
closes-puts k w v c d = ⊎_elim
    (λ (h : d ≡ k). subst (λ (x : ℕ). put_at x v ≡ put_at x w) (sym h) (ap put_in c.opened ∙ closed-put (w.opened k)))
    (λ (h : d ≡ k → ⊥). ap put_in (c.others d h))
    (cases_eq d k)

closes-uses : (k : ℕ) (w v : World) → Closes k w v → (d : ℕ) → use_at d v ≡ use_at d w
closes-uses k w v c d = ⊎_elim
    (λ (h : d ≡ k). subst (λ (x : ℕ). use_at x v ≡ use_at x w) (sym h) (ap (option_map use_of) c.opened ∙ closed-use (w.opened k)))
    (λ (h : d ≡ k → ⊥). ap (option_map use_of) (c.others d h))
    (cases_eq d k)

pub puts-closed : (k : ℕ) (old new : Moments) → MayDo (Closes k) old new → KeepsPut old new
puts-closed k old new (inl same) = puts-same old new same
puts-closed k old new (inr does) = record { is = closes-puts k old.now new.now does.does; uses = λ d u is. closes-uses k old.now new.now does.does d ∙ is }

pub puts-changed : (file : ℕ) (bytes : List ℕ) (change : FileState → FileState) (old new : Moments) → Does (ChangesBy change (being_written file bytes)) old new → KeepsPut old new
puts-changed file bytes change old new c = opened-puts old new c.does.opened

pub puts-unsynced : (file : ℕ) (bytes : List ℕ) (old new : Moments) → MayDo (ChangesBy unsynced (being_written file bytes)) old new → KeepsPut old new
puts-unsynced file bytes old new (inl same) = puts-same old new same
puts-unsynced file bytes old new (inr does) = opened-puts old new does.does.opened

pub puts-removed : {T E : Type 0} (here : Entry) (old new : Moments) (r : Result T E) → OnOk r (Does (Removes here) old new) → OnErr r (MayDo (Removes here) old new) → KeepsPut old new
puts-removed here old new (Ok x) ok err = opened-puts old new ok.does.opened
puts-removed here old new (Err x) ok (inl same) = puts-same old new same
puts-removed here old new (Err x) ok (inr does) = opened-puts old new does.does.opened

pub puts-unmade : (here : Entry) (old new : Moments) → MayDo (MakesShut here) old new → KeepsPut old new
puts-unmade here old new (inl same) = puts-same old new same
puts-unmade here old new (inr does) = opened-puts old new does.does.opened

pub puts-made : (here : Entry) (d i : ℕ) (way : Option Way) (old new : Moments) → Does (MakesOpen here d i way) old new → KeepsPut old new
puts-made here d i way old new does = takes-keeps d i way old new does.does.takes

-- what holds of a saving's descriptor holds of the one that is answered
pub same-apart : {E : Type 0} (saving : Saving) (d : ℕ) (r : Result Saving E) → IfOk r (λ s. s ≡ saving) → d ≢ saving.descriptor → IfOk r (λ s. d ≢ s.descriptor)
same-apart saving d (Ok s) same apart = λ h. apart (h ∙ ap (λ (x : Saving). x.descriptor) same)
same-apart saving d (Err x) same apart = same

pub puts-found : (d i : ℕ) (way : Option Way) (old new : Moments) → Does (Finds d i way) old new → KeepsPut old new
puts-found d i way old new does = takes-keeps d i way old new does.does.takes

-- a folder that is opened before, and closed behind
pub puts-around : (part e : Entry) (file d : ℕ) (bytes : List ℕ) (a b c f : Moments) → IsFinished part file bytes a.now → Does (Finds d e.folder None) a b
    → (IsFinished part file bytes b.now → IsOpenFolder d e.folder b.now → KeepsPut b c) → MayDo (Closes d) c f → KeepsPut a f
puts-around part e file d bytes a b c f finished found puts closed =
    puts-then a b f (puts-found d e.folder None a b found) (puts-then b c f (puts (finished-opened part file d e.folder bytes a b finished found) (folder-opened d e.folder a b found)) (puts-closed d c f closed))

pub puts-unrenamed : (from to : Entry) (old new : Moments) → MayDo (Renames from to) old new → KeepsPut old new
puts-unrenamed from to old new (inl same) = puts-same old new same
puts-unrenamed from to old new (inr does) = opened-puts old new does.does.opened

pub puts-named : {T E : Type 0} (from to : Entry) (folder : ℕ) (a b c : Moments) (r : Result T E) → Does (Renames from to) a b → OnOk r (Does (Settles folder) b c) → OnErr r (c ≡ b) → KeepsPut a c
puts-named from to folder a b c (Ok x) renamed ok err = puts-then a b c (opened-puts a b renamed.does.opened) (opened-puts b c ok.does.opened)
puts-named from to folder a b c (Err x) renamed ok err = puts-then a b c (opened-puts a b renamed.does.opened) (puts-same b c err)

pub puts-spoiled : {T E : Type 0} (i : ℕ) (old new : Moments) (r : Result T E) → OnErr r (MayDo (Spoils i) old new) → OnErr r (KeepsPut old new)
puts-spoiled i old new (Ok x) err = err
puts-spoiled i old new (Err x) (inl same) = puts-same old new same
puts-spoiled i old new (Err x) (inr s) = opened-puts old new s.does.opened

-- what one descriptor accepted is no other one's
appends-uses : (k : ℕ) (o : Opening) (bytes : List ℕ) (w v : World) → w.opened k ≡ Some o → Appends k o bytes w v → (d : ℕ) → use_at d v ≡ use_at d w
appends-uses k o bytes w v is a d = ⊎_elim
    (λ (h : d ≡ k). subst (λ (x : ℕ). use_at x v ≡ use_at x w) (sym h) (ap (option_map use_of) a.opened ∙ sym (ap (option_map use_of) is)))
    (λ (h : d ≡ k → ⊥). ap (option_map use_of) (a.others d h))
    (cases_eq d k)

pub puts-else : (k : ℕ) (o : Opening) (bytes : List ℕ) (old new : Moments) → old.now.opened k ≡ Some o → Does (Appends k o bytes) old new → KeepsPutBut k old new
puts-else k o bytes old new is a = record { is = λ d not. ap put_in (a.does.others d not); uses = λ d u at. appends-uses k o bytes old.now new.now is a.does d ∙ at }

pub puts-else-ok : {E : Type 0} (k : ℕ) (o : Opening) (buf : List ℕ) (old new : Moments) (r : Result ℕ E) → old.now.opened k ≡ Some o → IfOk r (λ n. Does (Appends k o (take n buf)) old new) → OnOk r (KeepsPutBut k old new)
puts-else-ok k o buf old new (Ok n) is does = puts-else k o (take n buf) old new is does
puts-else-ok k o buf old new (Err x) is does = does

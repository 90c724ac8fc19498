-- Bytes that are put one after the other.
use Rattle.std.proofs.Common.{◌≡◌, ℕ, ◌+◌, ◌≤◌, List, [], ◌++◌, length, take, drop, Some, Result, Ok, Err, IsErrAnd, IsTrue, refl, sym, ap, subst, ◌∙◌, append_assoc, length-append, take-append-drop, arith}
use Rattle.std.specs.Prelude.{OnOk, OnErr, All, slice_get}
use Rattle.std.specs.List.{flat_map}
use Rattle.std.proofs.lemmas.List.{append-nil, take_at, take_all, take-append-le, flat_map_more}
use Rattle.std.proofs.lemmas.List.Elements.{All-get_or}
use Rattle.std.proofs.lemmas.Option.{get_or_from_slice_get, slice_get_within}
use Rattle.std.proofs.lemmas.Grind.{flat_map-append}
use Rattle.long_names.specs.Counting.{Rose}
use Rattle.loom_host.specs.declared.outside.Host.{Ghosts}
use Rattle.loom_host.specs.declared.outside.Role.TheVariants.{Saved, Work}
use Rattle.loom_host.specs.declared.outside.DiskFault.TheVariants as disk
use Rattle.loom_host.specs.Outside.{RoleState, PutPrefix, puts}
use Rattle.loom_host.specs.Work.{IsWorkRead}
use Rattle.image_format.proofs.Writing.{push_taken}
use Rattle.image_writer.specs.declared.fault.SaveFault.{SaveFault}
use Rattle.image_writer.specs.declared.fault.SaveFault.TheVariants.{Write, Disk, Memory}
use Rattle.image_writer.specs.Puts.{IsSaveFault, Puts}

-- ---- one role

abbrev pub with_put : RoleState → List ℕ → RoleState
with_put s p = record { attaches = s.attaches; name = s.name; taken = s.taken; left = s.left; put = p; ended = s.ended; contents = s.contents }

pub puts_none : (s : RoleState) → s ≡ puts [] s
puts_none s = ap (with_put s) (sym (append-nil s.put))

pub puts_puts : (a b : List ℕ) (s : RoleState) → puts b (puts a s) ≡ puts (a ++ b) s
puts_puts a b s = ap (with_put s) (append_assoc s.put a b)

-- only the bytes put changed
pub only_same : (s t : RoleState) → t ≡ s → t ≡ with_put s t.put
only_same s t e = e ∙ ap (λ (r : RoleState). with_put s r.put) (sym e)

pub only_puts : (bytes : List ℕ) (s t : RoleState) → t ≡ puts bytes s → t ≡ with_put s t.put
only_puts bytes s t e = e ∙ ap (λ (r : RoleState). with_put s r.put) (sym e)

pub only_prefix : (bytes : List ℕ) (s t : RoleState) → PutPrefix bytes s t → t ≡ with_put s t.put
only_prefix bytes s t p = only_puts (take p.0 bytes) s t p.2

pub only_then : (s t u : RoleState) → t ≡ with_put s t.put → u ≡ with_put t u.put → u ≡ with_put s u.put
only_then s t u p q = q ∙ ap (λ (r : RoleState). with_put r u.put) p

prefix_none : (text : List ℕ) (s : RoleState) → PutPrefix text s s
prefix_none text s = (0, omega arith, puts_none s)

prefix_more : (a b : List ℕ) (s t : RoleState) → PutPrefix a s t → PutPrefix (a ++ b) s t
prefix_more a b s t p = (p.0, omega (arith, p.1, length-append a b), p.2 ∙ ap (λ (x : List ℕ). puts x s) (sym (take-append-le p.0 a b p.1)))

prefix_then : (a b : List ℕ) (s t u : RoleState) → t ≡ puts a s → PutPrefix b t u → PutPrefix (a ++ b) s u
prefix_then a b s t u e p =
    let split : (a ++ take p.0 b) ++ drop p.0 b ≡ a ++ b = append_assoc a (take p.0 b) (drop p.0 b) ∙ ap (λ (x : List ℕ). a ++ x) (take-append-drop p.0 b) in
    let front : take (length (a ++ take p.0 b)) (a ++ b) ≡ a ++ take p.0 b = ap (take (length (a ++ take p.0 b))) (sym split) ∙ take_at (a ++ take p.0 b) (drop p.0 b) (length (a ++ take p.0 b)) refl in
    (length (a ++ take p.0 b), omega (arith, ap length split, length-append (a ++ take p.0 b) (drop p.0 b)), p.2 ∙ ap (puts (take p.0 b)) e ∙ puts_puts a (take p.0 b) s ∙ ap (λ (x : List ℕ). puts x s) (sym front))

-- ---- causes

rose_later : (a b c : ℕ) → a ≤ b → Rose b c → Rose a c
rose_later a b c le rose = omega (arith, le, rose)

-- a fault later on
fault_later : {H : Type 0} (host : Ghosts H) (old mid new : H) (e : SaveFault) → host.faults old Saved ≤ host.faults mid Saved → host.faults old Work ≤ host.faults mid Work → IsSaveFault host mid new e → IsSaveFault host old new e
fault_later host old mid new (Write count) s w f = (f.0, rose_later _ _ _ s f.1)
fault_later host old mid new (Disk (disk.Work count)) s w f = (f.0, rose_later _ _ _ w f.1)
fault_later host old mid new (Disk (disk.Full held room)) s w f = f
fault_later host old mid new (Disk (disk.Damaged place name)) s w f = f
fault_later host old mid new Memory s w f = tt

-- ---- one after the other

pub then_puts : {H T U : Type 0} (host : Ghosts H) (old mid new : H) (a b : List ℕ) (x : T) (r : Result U SaveFault)
    → Puts {T = T} host old mid a (Ok x) → Puts host mid new b r → Puts host old new (a ++ b) r
then_puts host old mid new a b x (Ok y) p q = record {
  put = λ w s. q.put w s ∙ ap (puts b) (p.put w s) ∙ puts_puts a b (host.roles old Saved);
  failed = λ w s. tt;
  only_put = λ s. only_then (host.roles old Saved) (host.roles mid Saved) (host.roles new Saved) (p.only_put s) (q.only_put s);
  others = λ r other. q.others r other ∙ p.others r other;
  other_faults = λ r i j. q.other_faults r i j ∙ p.other_faults r i j;
  later = omega (arith, p.later, q.later);
  later_work = omega (arith, p.later_work, q.later_work);
  fault = tt;
}
then_puts host old mid new a b x (Err e) p q = record {
  put = λ w s. tt;
  failed = λ w s. prefix_then a b (host.roles old Saved) (host.roles mid Saved) (host.roles new Saved) (p.put w s) (q.failed w s);
  only_put = λ s. only_then (host.roles old Saved) (host.roles mid Saved) (host.roles new Saved) (p.only_put s) (q.only_put s);
  others = λ r other. q.others r other ∙ p.others r other;
  other_faults = λ r i j. q.other_faults r i j ∙ p.other_faults r i j;
  later = omega (arith, p.later, q.later);
  later_work = omega (arith, p.later_work, q.later_work);
  fault = fault_later host old mid new e p.later p.later_work q.fault;
}

-- what broke off puts no more
pub stop_puts : {H T U : Type 0} (host : Ghosts H) (old new : H) (a b : List ℕ) (e : SaveFault) (r : Result U SaveFault)
    → Puts {T = T} host old new a (Err e) → IsErrAnd r (λ f. f ≡ e) → Puts host old new (a ++ b) r
stop_puts host old new a b e (Ok y) p is = absurd is
stop_puts {U = U} host old new a b e (Err f) p is = subst (λ (g : SaveFault). Puts {T = U} host old new (a ++ b) (Err g)) (sym is) (record {
  put = λ w s. tt;
  failed = λ w s. prefix_more a b (host.roles old Saved) (host.roles new Saved) (p.failed w s);
  only_put = p.only_put;
  others = p.others;
  other_faults = p.other_faults;
  later = p.later;
  later_work = p.later_work;
  fault = p.fault;
})

-- ---- reading Work

read_same : {H : Type 0} (host : Ghosts H) (old new : H) → IsWorkRead host old new → host.faults old Saved ≤ host.faults new Saved
read_same host old new r = let same = r.other_faults Saved (λ e. cc) in omega (arith, same)

pub read_puts : {H T : Type 0} (host : Ghosts H) (old new : H) (x : T) → IsWorkRead host old new → Puts host old new [] (Ok x)
read_puts host old new x r = record {
  put = λ w s. r.roles Saved ∙ puts_none (host.roles old Saved);
  failed = λ w s. tt;
  only_put = λ s. only_same (host.roles old Saved) (host.roles new Saved) (r.roles Saved);
  others = λ role other. r.roles role;
  other_faults = λ role i j. r.other_faults role j;
  later = read_same host old new r;
  later_work = r.later;
  fault = tt;
}

pub read_stops : {H T : Type 0} (host : Ghosts H) (old new : H) (text : List ℕ) (e : SaveFault) → IsWorkRead host old new → IsSaveFault host old new e → Puts {T = T} host old new text (Err e)
read_stops host old new text e r f = record {
  put = λ w s. tt;
  failed = λ w s. subst (λ (t : RoleState). PutPrefix text (host.roles old Saved) t) (sym (r.roles Saved)) (prefix_none text (host.roles old Saved));
  only_put = λ s. only_same (host.roles old Saved) (host.roles new Saved) (r.roles Saved);
  others = λ role other. r.roles role;
  other_faults = λ role i j. r.other_faults role j;
  later = read_same host old new r;
  later_work = r.later;
  fault = f;
}

-- the same text in other words
pub puts_of : {H T : Type 0} (host : Ghosts H) (old new : H) (a b : List ℕ) (r : Result T SaveFault) → a ≡ b → Puts host old new a r → Puts host old new b r
puts_of host old new a b r e p = subst (λ (t : List ℕ). Puts host old new t r) e p

-- where Work isn't told, any text will do
pub untold_puts : {H T : Type 0} (host : Ghosts H) (old new : H) (a b : List ℕ) (r : Result T SaveFault) → (IsTrue (host.tells Work) → a ≡ b) → Puts host old new a r → Puts host old new b r
untold_puts host old new a b r e p = record {
  put = λ w s. subst (λ (t : List ℕ). OnOk r (host.roles new Saved ≡ puts t (host.roles old Saved))) (e w) (p.put w s);
  failed = λ w s. subst (λ (t : List ℕ). OnErr r (PutPrefix t (host.roles old Saved) (host.roles new Saved))) (e w) (p.failed w s);
  only_put = p.only_put;
  others = p.others;
  other_faults = p.other_faults;
  later = p.later;
  later_work = p.later_work;
  fault = p.fault;
}

-- ---- nothing, and what ends early

pub no_puts : {H T : Type 0} (host : Ghosts H) (now : H) (x : T) → Puts host now now [] (Ok x)
no_puts host now x = record {
  put = λ w s. puts_none (host.roles now Saved);
  failed = λ w s. tt;
  only_put = λ s. refl;
  others = λ role other. refl;
  other_faults = λ role i j. refl;
  later = omega arith;
  later_work = omega arith;
  fault = tt;
}

pub read_then : {H : Type 0} (host : Ghosts H) (old mid new : H) → IsWorkRead host old mid → IsWorkRead host mid new → IsWorkRead host old new
read_then host old mid new p q = record {
  roles = λ r. q.roles r ∙ p.roles r;
  other_faults = λ r other. q.other_faults r other ∙ p.other_faults r other;
  later = omega (arith, p.later, q.later);
  writes = q.writes ∙ p.writes;
}

-- a fault behind reads
pub fault_after : {H : Type 0} (host : Ghosts H) (old mid new : H) (e : SaveFault) → IsWorkRead host old mid → IsSaveFault host mid new e → IsSaveFault host old new e
fault_after host old mid new e r f = fault_later host old mid new e (read_same host old mid r) r.later f

pub exit_read : {H U : Type 0} (host : Ghosts H) (old new : H) (text : List ℕ) (e : SaveFault) (r : Result U SaveFault) → IsWorkRead host old new → IsSaveFault host old new e → IsErrAnd r (λ f. f ≡ e) → Puts host old new text r
exit_read host old new text e (Ok y) read f is = absurd is
exit_read {U = U} host old new text e (Err g) read f is = subst (λ (x : SaveFault). Puts {T = U} host old new text (Err x)) (sym is) (read_stops host old new text e read f)

-- ---- texts of a list, one after the other

pub more_text : (f : ℕ → List ℕ) (names : List ℕ) (i x : ℕ) → slice_get names i ≡ Some x → flat_map f (take i names) ++ f x ≡ flat_map f (take (i + 1) names)
more_text f names i x e = flat_map_more f [] (take i names) x ∙ ap (flat_map f) (sym (push_taken names i x e))

pub rest_text : (f : ℕ → List ℕ) (names : List ℕ) (i x : ℕ) → slice_get names i ≡ Some x → flat_map f (take i names) ++ (f x ++ flat_map f (drop (i + 1) names)) ≡ flat_map f names
rest_text f names i x e =
    sym (append_assoc (flat_map f (take i names)) (f x) (flat_map f (drop (i + 1) names)))
    ∙ ap (λ (s : List ℕ). s ++ flat_map f (drop (i + 1) names)) (more_text f names i x e)
    ∙ sym (flat_map-append f (take (i + 1) names) (drop (i + 1) names))
    ∙ ap (flat_map f) (take-append-drop (i + 1) names)

pub all_text : (f : ℕ → List ℕ) (names : List ℕ) (i : ℕ) → length names ≤ i → flat_map f (take i names) ≡ flat_map f names
all_text f names i le = ap (flat_map f) (take_all i names le)

pub all_at : (P : ℕ → Type 0) (xs : List ℕ) (i x : ℕ) → All P xs → slice_get xs i ≡ Some x → P x
all_at P xs i x all e = subst P (get_or_from_slice_get xs i x x e) (All-get_or P xs i x (slice_get_within xs i x e) all)

-- What is read out of the calls, one call more.
use Rattle.std.proofs.Common.{◌≡◌, ◌≢◌, ℕ, ◌-◌, ◌<◌, ◌==◌, not, List, [], ◌∷◌, ◌&&◌, Bool, true, false, Option, None, Some, refl, sym, ap, ◌∙◌, subst, if◌then◌else◌, nat_lt, arith}
use Rattle.std.proofs.lemmas.Bool.Decides.{Decides-ltb}
use Rattle.std.proofs.lemmas.Slice.Eq.{bytes_eq-Decides}
use Rattle.std.specs.Option.{option_map}
use Rattle.std.specs.Str.{bytes_eq}
use Rattle.file_system.specs.Calls.{closed, opening}
use Rattle.file_system.specs.World.{Entry, Opening, World}
use Rattle.file_system.specs.declared.system.Way.{Way}
use Rattle.file_system.specs.declared.system.Way.TheVariants.{Stream}
use Rattle.memory_files.specs.Memory.{IsThen, adds, at_start, changes, entry_of, first_of, is_none_way, leads_to, loses, makes, next_of, opened_by, opens, opens_folder, opens_to, removes, renames, seen_by, shut_of, step, syncs, view_of, where_open, with_name, world_of}
use Rattle.std.specs.Global.{Vec}
use Rattle.memory_files.specs.declared.calls.Call.{Call}
use Rattle.memory_files.specs.declared.calls.Call.TheVariants.{Opened, Made, Added, On, Synced, Renamed, Removed, Lost}
use Rattle.memory_files.specs.declared.calls.Calls.{Calls}
use Rattle.memory_files.specs.declared.calls.Calls.TheVariants.{Start, Then'}
use Rattle.memory_files.specs.declared.calls.Change.{Change}
use Rattle.memory_files.specs.declared.calls.Change.TheVariants.{Closed, Placed, Put, Written, Cut, Unsynced}
use Rattle.memory_files.specs.declared.calls.View.{View}
use Rattle.memory_files.proofs.Laws.{elsewhere, false-unless, here, opens-is}

-- ---- names

picks : {X : Type 0} (b : Bool) (x y : X) → b ≡ true → (if b then x else y) ≡ x
picks b x y is = ap (λ (c : Bool). if c then x else y) is

drops : {X : Type 0} (b : Bool) (x y : X) → b ≡ false → (if b then x else y) ≡ y
drops b x y is = ap (λ (c : Bool). if c then x else y) is

name-hit : {X : Type 0} (path target : List ℕ) (x : X) (f : Entry → X) → bytes_eq path target ≡ true → with_name path x f (entry_of target) ≡ x
unfolding with_name
name-hit path target x f is = picks (bytes_eq path target) x (f (entry_of target)) is

name-miss : {X : Type 0} (path target : List ℕ) (x : X) (f : Entry → X) → bytes_eq path target ≡ false → with_name path x f (entry_of target) ≡ f (entry_of target)
unfolding with_name
name-miss path target x f is = drops (bytes_eq path target) x (f (entry_of target)) is

pub made-hit : (n : ℕ) (path target : List ℕ) (way : Way) (w : World) → bytes_eq path target ≡ true → leads_to false (entry_of target) (makes n path way w) ≡ Some n
made-hit n path target way w is = name-hit path target (Some n) w.names is

pub made-miss : (n : ℕ) (path target : List ℕ) (way : Way) (w : World) → bytes_eq path target ≡ false → leads_to false (entry_of target) (makes n path way w) ≡ leads_to false (entry_of target) w
made-miss n path target way w is = name-miss path target (Some n) w.names is

same-name : (path target : List ℕ) → bytes_eq path target ≡ true → path ≡ target
same-name path target is = (bytes_eq-Decides path target).0 is

-- where the folder was synced, a new name and an older one make no difference
kept-by : (path target : List ℕ) (x : Option ℕ) (f : Entry → Option ℕ) (g : Entry → List (Option ℕ)) (b : Bool) → bytes_eq path target ≡ b
    → first_of (with_name path x f (entry_of target)) (with_name path (f (entry_of path) ∷ g (entry_of path)) g (entry_of target)) ≡ first_of (f (entry_of target)) (g (entry_of target))
kept-by path target x f g false is = ap (λ (o : Option ℕ). first_of o (with_name path (f (entry_of path) ∷ g (entry_of path)) g (entry_of target))) (name-miss path target x f is)
    ∙ ap (λ (os : List (Option ℕ)). first_of (f (entry_of target)) os) (name-miss path target (f (entry_of path) ∷ g (entry_of path)) g is)
kept-by path target x f g true is = ap (λ (os : List (Option ℕ)). first_of (with_name path x f (entry_of target)) os) (name-hit path target (f (entry_of path) ∷ g (entry_of path)) g is)
    ∙ ap (λ (p : List ℕ). first_of (f (entry_of p)) (g (entry_of p))) (same-name path target is)

kept : (path target : List ℕ) (x : Option ℕ) (f : Entry → Option ℕ) (g : Entry → List (Option ℕ))
    → first_of (with_name path x f (entry_of target)) (with_name path (f (entry_of path) ∷ g (entry_of path)) g (entry_of target)) ≡ first_of (f (entry_of target)) (g (entry_of target))
kept path target x f g = kept-by path target x f g (bytes_eq path target) refl

pub made-settled : (n : ℕ) (path target : List ℕ) (way : Way) (w : World) → leads_to true (entry_of target) (makes n path way w) ≡ leads_to true (entry_of target) w
made-settled n path target way w = kept path target (Some n) w.names w.earlier

pub removed-hit : (path target : List ℕ) (w : World) → bytes_eq path target ≡ true → leads_to false (entry_of target) (removes path w) ≡ None
removed-hit path target w is = name-hit path target None w.names is

pub removed-miss : (path target : List ℕ) (w : World) → bytes_eq path target ≡ false → leads_to false (entry_of target) (removes path w) ≡ leads_to false (entry_of target) w
removed-miss path target w is = name-miss path target None w.names is

pub removed-settled : (path target : List ℕ) (w : World) → leads_to true (entry_of target) (removes path w) ≡ leads_to true (entry_of target) w
removed-settled path target w = kept path target None w.names w.earlier

pub added-hit : (settled : Bool) (n : ℕ) (path target bytes : List ℕ) (w : World) → bytes_eq path target ≡ true → leads_to settled (entry_of target) (adds n path bytes w) ≡ Some n
added-hit false n path target bytes w is = name-hit path target (Some n) w.names is
added-hit true n path target bytes w is = ap (λ (os : List (Option ℕ)). first_of (with_name path (Some n) w.names (entry_of target)) os) (name-hit path target [] w.earlier is) ∙ name-hit path target (Some n) w.names is

pub added-miss : (settled : Bool) (n : ℕ) (path target bytes : List ℕ) (w : World) → bytes_eq path target ≡ false → leads_to settled (entry_of target) (adds n path bytes w) ≡ leads_to settled (entry_of target) w
added-miss false n path target bytes w is = name-miss path target (Some n) w.names is
added-miss true n path target bytes w is = ap (λ (os : List (Option ℕ)). first_of (with_name path (Some n) w.names (entry_of target)) os) (name-miss path target [] w.earlier is)
    ∙ ap (λ (o : Option ℕ). first_of o (w.earlier (entry_of target))) (name-miss path target (Some n) w.names is)

pub renamed-to : (from to target : List ℕ) (w : World) → bytes_eq to target ≡ true → leads_to false (entry_of target) (renames from to w) ≡ leads_to false (entry_of from) w
renamed-to from to target w is = name-hit to target _ _ is

pub renamed-from : (from to target : List ℕ) (w : World) → bytes_eq to target ≡ false → bytes_eq from target ≡ true → leads_to false (entry_of target) (renames from to w) ≡ None
renamed-from from to target w miss is = name-miss to target _ _ miss ∙ name-hit from target _ _ is

pub renamed-miss : (from to target : List ℕ) (w : World) → bytes_eq to target ≡ false → bytes_eq from target ≡ false → leads_to false (entry_of target) (renames from to w) ≡ leads_to false (entry_of target) w
renamed-miss from to target w miss also = name-miss to target _ _ miss ∙ name-miss from target _ _ also

renamed-kept : (from to target : List ℕ) (w : World) (b : Bool) → bytes_eq to target ≡ b → leads_to true (entry_of target) (renames from to w) ≡ leads_to true (entry_of target) w
renamed-kept from to target w false is = ap (λ (os : List (Option ℕ)). first_of ((renames from to w).names (entry_of target)) os) (name-miss to target _ _ is)
    ∙ (ap (λ (o : Option ℕ). first_of o (with_name from (w.names (entry_of from) ∷ w.earlier (entry_of from)) w.earlier (entry_of target))) (name-miss to target _ _ is) ∙ kept from target None w.names w.earlier)
renamed-kept from to target w true is = ap (λ (os : List (Option ℕ)). first_of ((renames from to w).names (entry_of target)) os) (name-hit to target _ _ is)
    ∙ ap (λ (p : List ℕ). first_of (w.names (entry_of p)) (w.earlier (entry_of p))) (same-name to target is)

pub renamed-settled : (from to target : List ℕ) (w : World) → leads_to true (entry_of target) (renames from to w) ≡ leads_to true (entry_of target) w
renamed-settled from to target w = renamed-kept from to target w (bytes_eq to target) refl

pub lost-leads : (settled back : Bool) (fill : Option ℕ) (e : Entry) (w : World) → leads_to settled e (loses back fill w) ≡ leads_to back e w
lost-leads false back fill e w = refl
lost-leads true back fill e w = refl

opens-leads-by : (settled : Bool) (n file : ℕ) (way : Option Way) (e : Entry) (w : World) (b : Bool) → leads_to settled e (if b then opens_to n file way w else w) ≡ leads_to settled e w
opens-leads-by false n file way e w true = refl
opens-leads-by true n file way e w true = refl
opens-leads-by settled n file way e w false = refl

pub opens-leads : (settled : Bool) (n file : ℕ) (way : Option Way) (e : Entry) (w : World) → leads_to settled e (opens n file way w) ≡ leads_to settled e w
opens-leads settled n file way e w = opens-leads-by settled n file way e w (nat_lt file n)

on-leads-by : (settled : Bool) (d : ℕ) (change : Change) (e : Entry) (w : World) (x : Option Opening) → leads_to settled e (where_open (changes d change) x w) ≡ leads_to settled e w
on-leads-by settled d change e w None = refl
on-leads-by false d change e w (Some o) = refl
on-leads-by true d change e w (Some o) = refl

pub on-leads : (settled : Bool) (n d : ℕ) (change : Change) (e : Entry) (w : World) → leads_to settled e (step n (On d change) w) ≡ leads_to settled e w
on-leads settled n d change e w = on-leads-by settled d change e w (w.opened d)

and-true : (b : Bool) → (b && true) ≡ b
and-true true = refl
and-true false = refl

-- a sync of the folder settles its names
folder-leads : (settled b : Bool) (e : Entry) (w : World) (o : Opening) → (o.file == e.folder) ≡ b → leads_to settled e (syncs None o w) ≡ leads_to (settled && not b) e w
folder-leads false b e w o is = refl
folder-leads true true e w o is = ap (λ (c : Bool). first_of (w.names e) (if c then [] else w.earlier e)) is
folder-leads true false e w o is = ap (λ (c : Bool). first_of (w.names e) (if c then [] else w.earlier e)) is

way-leads : (settled : Bool) (way : Option Way) (target : List ℕ) (w : World) (o : Opening) → leads_to settled (entry_of target) (syncs way o w) ≡ leads_to (settled && not (if is_none_way way then o.file == 0 else false)) (entry_of target) w
way-leads settled None target w o = folder-leads settled (o.file == 0) (entry_of target) w o refl
way-leads false (Some way) target w o = refl
way-leads true (Some way) target w o = refl

synced-by : (settled : Bool) (target : List ℕ) (w : World) (x : Option Opening)
    → leads_to settled (entry_of target) (where_open (λ o. syncs o.way o) x w) ≡ leads_to (settled && not (opens_folder (option_map view_of x))) (entry_of target) w
synced-by settled target w None = ap (λ (b : Bool). leads_to b (entry_of target) w) (sym (and-true settled))
synced-by settled target w (Some o) = way-leads settled o.way target w o

pub synced-leads : (settled : Bool) (n d : ℕ) (target : List ℕ) (w : World)
    → leads_to settled (entry_of target) (step n (Synced d) w) ≡ leads_to (settled && not (opens_folder (option_map view_of (w.opened d)))) (entry_of target) w
synced-leads settled n d target w = synced-by settled target w (w.opened d)

-- ---- descriptors

pub opens-hit : (n file : ℕ) (way : Option Way) (w : World) → file < n → option_map view_of ((opens n file way w).opened n) ≡ Some (record { file = file; way = way; place = 0; shut = false })
opens-hit n file way w less = ap (λ (v : World). option_map view_of (v.opened n)) (opens-is n file way w less) ∙ ap (option_map view_of) (here n _ w.opened)

opens-apart-by : (n d file : ℕ) (way : Option Way) (w : World) (b : Bool) → d ≢ n → (if b then opens_to n file way w else w).opened d ≡ w.opened d
opens-apart-by n d file way w true not = elsewhere n d _ w.opened not
opens-apart-by n d file way w false not = refl

pub opens-apart : (n d file : ℕ) (way : Option Way) (w : World) → d ≢ n → (opens n file way w).opened d ≡ w.opened d
opens-apart n d file way w not = opens-apart-by n d file way w (nat_lt file n) not

pub opens-not : (n d file : ℕ) (way : Option Way) (w : World) → (file < n → ⊥) → (opens n file way w).opened d ≡ w.opened d
opens-not n d file way w not = ap (λ (v : World). v.opened d) (drops (nat_lt file n) (opens_to n file way w) w (false-unless (nat_lt file n) (file < n) (Decides-ltb file n) not))

view-changed : (change : Change) (o : Opening) → option_map view_of (Some (opened_by change o)) ≡ option_map (seen_by change) (Some (view_of o))
view-changed Closed o = refl
view-changed (Placed place) o = refl
view-changed (Put bytes) o = refl
view-changed (Written place bytes) o = refl
view-changed Cut o = refl
view-changed Unsynced o = refl

viewed-by : (d : ℕ) (change : Change) (w : World) (x : Option Opening) → w.opened d ≡ x → option_map view_of ((where_open (changes d change) x w).opened d) ≡ option_map (seen_by change) (option_map view_of x)
viewed-by d change w None is = ap (option_map view_of) is
viewed-by d change w (Some o) is = ap (option_map view_of) (here d _ w.opened) ∙ view-changed change o

pub viewed : (n d : ℕ) (change : Change) (w : World) → option_map view_of ((step n (On d change) w).opened d) ≡ option_map (seen_by change) (option_map view_of (w.opened d))
viewed n d change w = viewed-by d change w (w.opened d) refl

view-apart-by : (d k : ℕ) (change : Change) (w : World) (x : Option Opening) → k ≢ d → (where_open (changes d change) x w).opened k ≡ w.opened k
view-apart-by d k change w None not = refl
view-apart-by d k change w (Some o) not = elsewhere d k _ w.opened not

pub view-apart : (n d k : ℕ) (change : Change) (w : World) → k ≢ d → (step n (On d change) w).opened k ≡ w.opened k
view-apart n d k change w not = view-apart-by d k change w (w.opened d) not

synced-open-way : (way : Option Way) (o : Opening) (w : World) (k : ℕ) → (syncs way o w).opened k ≡ w.opened k
synced-open-way None o w k = refl
synced-open-way (Some way) o w k = refl

synced-open-by : (w : World) (x : Option Opening) (k : ℕ) → (where_open (λ o. syncs o.way o) x w).opened k ≡ w.opened k
synced-open-by w None k = refl
synced-open-by w (Some o) k = synced-open-way o.way o w k

pub synced-open : (n d k : ℕ) (w : World) → (step n (Synced d) w).opened k ≡ w.opened k
synced-open n d k w = synced-open-by w (w.opened d) k

lost-by : (x : Option Opening) → option_map view_of (option_map closed x) ≡ option_map shut_of (option_map view_of x)
lost-by None = refl
lost-by (Some o) = refl

pub lost-open : (n d : ℕ) (back : Bool) (fill : Option ℕ) (w : World) → option_map view_of ((step n (Lost back fill) w).opened d) ≡ option_map shut_of (option_map view_of (w.opened d))
lost-open n d back fill w = lost-by (w.opened d)

-- ---- as the code tests

pub opens-apart-at : (n d file : ℕ) (way : Option Way) (call : Call) (now : Option View) (w : World) → call ≡ Opened way file → (n ≡ d → ⊥) → now ≡ option_map view_of (w.opened d) → now ≡ option_map view_of ((step n call w).opened d)
opens-apart-at n d file way call now w at miss is = subst (λ (x : Call). now ≡ option_map view_of ((step n x w).opened d)) (sym at) (is ∙ ap (option_map view_of) (sym (opens-apart n d file way w (λ (h : d ≡ n). miss (sym h)))))

opens-hit-from : (n d file : ℕ) (way : Option Way) (w : World) → n ≡ d → file < n → Some (record { file = file; way = way; place = 0; shut = false }) ≡ option_map view_of ((step n (Opened way file) w).opened d)
opens-hit-from n d file way w is less = subst (λ (k : ℕ). Some (record { file = file; way = way; place = 0; shut = false }) ≡ option_map view_of ((opens n file way w).opened k)) is (sym (opens-hit n file way w less))

pub opens-hit-at : (n d file : ℕ) (way : Option Way) (call : Call) (w : World) → call ≡ Opened way file → n ≡ d → file < n → Some (record { file = file; way = way; place = 0; shut = false }) ≡ option_map view_of ((step n call w).opened d)
opens-hit-at n d file way call w at is less = subst (λ (x : Call). Some (record { file = file; way = way; place = 0; shut = false }) ≡ option_map view_of ((step n x w).opened d)) (sym at) (opens-hit-from n d file way w is less)

pub opens-not-at : (n d file : ℕ) (way : Option Way) (call : Call) (now : Option View) (w : World) → call ≡ Opened way file → (file < n → ⊥) → now ≡ option_map view_of (w.opened d) → now ≡ option_map view_of ((step n call w).opened d)
opens-not-at n d file way call now w at miss is = subst (λ (x : Call). now ≡ option_map view_of ((step n x w).opened d)) (sym at) (is ∙ ap (option_map view_of) (sym (opens-not n d file way w miss)))

made-view : (n : ℕ) (path : List ℕ) (way : Way) (w : World) → option_map view_of ((makes n path way w).opened n) ≡ Some (record { file = n; way = Some way; place = 0; shut = false })
made-view n path way w = ap (option_map view_of) (here n _ w.opened)

made-view-from : (n d : ℕ) (path : Vec ℕ) (way : Way) (w : World) → n ≡ d → Some (record { file = n; way = Some way; place = 0; shut = false }) ≡ option_map view_of ((step n (Made path way) w).opened d)
made-view-from n d path way w is = subst (λ (k : ℕ). Some (record { file = n; way = Some way; place = 0; shut = false }) ≡ option_map view_of ((makes n path.items way w).opened k)) is (sym (made-view n path.items way w))

pub made-view-at : (n d : ℕ) (path : Vec ℕ) (way : Way) (call : Call) (w : World) → call ≡ Made path way → n ≡ d → Some (record { file = n; way = Some way; place = 0; shut = false }) ≡ option_map view_of ((step n call w).opened d)
made-view-at n d path way call w at is = subst (λ (x : Call). Some (record { file = n; way = Some way; place = 0; shut = false }) ≡ option_map view_of ((step n x w).opened d)) (sym at) (made-view-from n d path way w is)

pub made-apart-at : (n d : ℕ) (path : Vec ℕ) (way : Way) (call : Call) (now : Option View) (w : World) → call ≡ Made path way → (n ≡ d → ⊥) → now ≡ option_map view_of (w.opened d) → now ≡ option_map view_of ((step n call w).opened d)
made-apart-at n d path way call now w at miss is = subst (λ (x : Call). now ≡ option_map view_of ((step n x w).opened d)) (sym at) (is ∙ ap (option_map view_of) (sym (elsewhere n d _ w.opened (λ (h : d ≡ n). miss (sym h)))))

viewed-from : (n on d : ℕ) (change : Change) (now result : Option View) (w : World) → on ≡ d → result ≡ option_map (seen_by change) now → now ≡ option_map view_of (w.opened d) → result ≡ option_map view_of ((step n (On on change) w).opened d)
viewed-from n on d change now result w at gives is =
    gives ∙ (ap (option_map (seen_by change)) is ∙ sym (subst (λ (k : ℕ). option_map view_of ((step n (On k change) w).opened d) ≡ option_map (seen_by change) (option_map view_of (w.opened d))) (sym at) (viewed n d change w)))

pub viewed-at : (n on d : ℕ) (change : Change) (call : Call) (now result : Option View) (w : World) → call ≡ On on change → on ≡ d → result ≡ option_map (seen_by change) now → now ≡ option_map view_of (w.opened d) → result ≡ option_map view_of ((step n call w).opened d)
viewed-at n on d change call now result w is at gives shows = subst (λ (x : Call). result ≡ option_map view_of ((step n x w).opened d)) (sym is) (viewed-from n on d change now result w at gives shows)

pub view-apart-at : (n on d : ℕ) (change : Change) (call : Call) (now : Option View) (w : World) → call ≡ On on change → (on ≡ d → ⊥) → now ≡ option_map view_of (w.opened d) → now ≡ option_map view_of ((step n call w).opened d)
view-apart-at n on d change call now w at miss is = subst (λ (x : Call). now ≡ option_map view_of ((step n x w).opened d)) (sym at) (is ∙ ap (option_map view_of) (sym (view-apart n on d change w (λ (h : d ≡ on). miss (sym h)))))

first-two : (d : ℕ) → option_map view_of (at_start.opened 1) ≡ Some (view_of (opening 1 (Some Stream) []))
first-two d = ap (option_map view_of) (here 1 _ _)

pub start-first : (d : ℕ) (v : View) → d ≡ 1 → v ≡ view_of (opening 1 (Some Stream) []) → Some v ≡ option_map view_of (at_start.opened d)
start-first d v is same = ap (λ (x : View). Some x) same ∙ subst (λ (k : ℕ). Some (view_of (opening 1 (Some Stream) [])) ≡ option_map view_of (at_start.opened k)) (sym is) (sym (first-two d))

second-two : option_map view_of (at_start.opened 2) ≡ Some (view_of (opening 2 (Some Stream) []))
second-two = ap (option_map view_of) (elsewhere 1 2 _ _ (λ (h : 2 ≡ 1). omega (arith, h)) ∙ here 2 _ _)

pub start-second : (d : ℕ) (v : View) → d ≡ 2 → v ≡ view_of (opening 2 (Some Stream) []) → Some v ≡ option_map view_of (at_start.opened d)
start-second d v is same = ap (λ (x : View). Some x) same ∙ subst (λ (k : ℕ). Some (view_of (opening 2 (Some Stream) [])) ≡ option_map view_of (at_start.opened k)) (sym is) (sym second-two)

pub start-none : (d : ℕ) → (d ≡ 1 → ⊥) → (d ≡ 2 → ⊥) → None ≡ option_map view_of (at_start.opened d)
start-none d one two = sym (ap (option_map view_of) (elsewhere 1 d _ _ one ∙ elsewhere 2 d _ _ two))

-- ---- names, as the code tests

-- what holds of the newest call over the others
in-call : (P : World → Type 0) (calls rest mid : Calls) (call : Call) → IsThen call rest calls → mid ≡ rest → P (step (next_of mid) call (world_of mid)) → P (world_of calls)
in-call P Start rest mid call is same holds = absurd is
in-call P (Then' d p r) rest mid call is same holds =
    subst (λ (x : Calls). P (step (next_of x) d (world_of x))) (same ∙ sym is.1) (subst (λ (x : Call). P (step (next_of mid) x (world_of mid))) (sym is.0) holds)

at-call : (P : Call → Bool → Type 0) (call c : Call) (settled b : Bool) → call ≡ c → settled ≡ b → P c b → P call settled
at-call P call c settled b at is holds = subst (λ (x : Bool). P call x) (sym is) (subst (λ (x : Call). P x b) (sym at) holds)

-- the answer r in the newest call c, with the test of settled
led-by : (calls rest mid : Calls) (call c : Call) (settled b : Bool) (target : List ℕ) (r : Option ℕ) → IsThen call rest calls → mid ≡ rest → call ≡ c → settled ≡ b
    → r ≡ leads_to b (entry_of target) (step (next_of mid) c (world_of mid)) → r ≡ leads_to settled (entry_of target) (world_of calls)
led-by calls rest mid call c settled b target r is same at test led =
    in-call (λ (w : World). r ≡ leads_to settled (entry_of target) w) calls rest mid call is same
    (at-call (λ (x : Call) (y : Bool). r ≡ leads_to y (entry_of target) (step (next_of mid) x (world_of mid))) call c settled b at test led)

pub hit : (path s target : List ℕ) (b v : Bool) → s ≡ path → b ≡ bytes_eq s target → b ≡ v → bytes_eq path target ≡ v
hit path s target b v same is at = ap (λ (x : List ℕ). bytes_eq x target) (sym same) ∙ (sym is ∙ at)

prior : (calls rest : Calls) (call : Call) (next : ℕ) → IsThen call rest calls → next ≡ next_of calls → Some (next - 1) ≡ Some (next_of rest)
prior Start rest call next is at = absurd is
prior (Then' d p r) rest call next is at = ap (λ (x : ℕ). Some (x - 1)) at ∙ (ap (λ (x : ℕ). Some x) (omega arith) ∙ ap (λ (x : Calls). Some (next_of x)) is.1)

pub led-made-kept : (calls rest mid : Calls) (call : Call) (path : Vec ℕ) (way : Way) (settled : Bool) (target : List ℕ) (r : Option ℕ) → IsThen call rest calls → mid ≡ rest → call ≡ Made path way → settled ≡ true
    → r ≡ leads_to true (entry_of target) (world_of mid) → r ≡ leads_to settled (entry_of target) (world_of calls)
led-made-kept calls rest mid call path way settled target r is same at test led =
    led-by calls rest mid call (Made path way) settled true target r is same at test (led ∙ sym (made-settled (next_of mid) path.items target way (world_of mid)))

pub led-made-hit : (calls rest : Calls) (call : Call) (path : Vec ℕ) (way : Way) (settled : Bool) (target : List ℕ) (next : ℕ) → IsThen call rest calls → call ≡ Made path way → settled ≡ false
    → next ≡ next_of calls → bytes_eq path.items target ≡ true → Some (next - 1) ≡ leads_to settled (entry_of target) (world_of calls)
led-made-hit calls rest call path way settled target next is at test counted same =
    led-by calls rest rest call (Made path way) settled false target (Some (next - 1)) is refl at test (prior calls rest call next is counted ∙ sym (made-hit (next_of rest) path.items target way (world_of rest) same))

pub led-made-miss : (calls rest mid : Calls) (call : Call) (path : Vec ℕ) (way : Way) (settled : Bool) (target : List ℕ) (r : Option ℕ) → IsThen call rest calls → mid ≡ rest → call ≡ Made path way → settled ≡ false
    → bytes_eq path.items target ≡ false → r ≡ leads_to false (entry_of target) (world_of mid) → r ≡ leads_to settled (entry_of target) (world_of calls)
led-made-miss calls rest mid call path way settled target r is same at test miss led =
    led-by calls rest mid call (Made path way) settled false target r is same at test (led ∙ sym (made-miss (next_of mid) path.items target way (world_of mid) miss))

pub led-added-hit : (calls rest : Calls) (call : Call) (path bytes : Vec ℕ) (settled : Bool) (target : List ℕ) (next : ℕ) → IsThen call rest calls → call ≡ Added path bytes
    → next ≡ next_of calls → bytes_eq path.items target ≡ true → Some (next - 1) ≡ leads_to settled (entry_of target) (world_of calls)
led-added-hit calls rest call path bytes settled target next is at counted same =
    led-by calls rest rest call (Added path bytes) settled settled target (Some (next - 1)) is refl at refl (prior calls rest call next is counted ∙ sym (added-hit settled (next_of rest) path.items target bytes.items (world_of rest) same))

pub led-added-miss : (calls rest mid : Calls) (call : Call) (path bytes : Vec ℕ) (settled : Bool) (target : List ℕ) (r : Option ℕ) → IsThen call rest calls → mid ≡ rest → call ≡ Added path bytes
    → bytes_eq path.items target ≡ false → r ≡ leads_to settled (entry_of target) (world_of mid) → r ≡ leads_to settled (entry_of target) (world_of calls)
led-added-miss calls rest mid call path bytes settled target r is same at miss led =
    led-by calls rest mid call (Added path bytes) settled settled target r is same at refl (led ∙ sym (added-miss settled (next_of mid) path.items target bytes.items (world_of mid) miss))

pub led-renamed-kept : (calls rest mid : Calls) (call : Call) (from to : Vec ℕ) (settled : Bool) (target : List ℕ) (r : Option ℕ) → IsThen call rest calls → mid ≡ rest → call ≡ Renamed from to → settled ≡ true
    → r ≡ leads_to true (entry_of target) (world_of mid) → r ≡ leads_to settled (entry_of target) (world_of calls)
led-renamed-kept calls rest mid call from to settled target r is same at test led =
    led-by calls rest mid call (Renamed from to) settled true target r is same at test (led ∙ sym (renamed-settled from.items to.items target (world_of mid)))

pub led-renamed-to : (calls rest mid : Calls) (call : Call) (from to : Vec ℕ) (settled : Bool) (target s : List ℕ) (r : Option ℕ) → IsThen call rest calls → mid ≡ rest → call ≡ Renamed from to → settled ≡ false
    → bytes_eq to.items target ≡ true → s ≡ from.items → r ≡ leads_to false (entry_of s) (world_of mid) → r ≡ leads_to settled (entry_of target) (world_of calls)
led-renamed-to calls rest mid call from to settled target s r is same at test hits like led =
    led-by calls rest mid call (Renamed from to) settled false target r is same at test (led ∙ (ap (λ (x : List ℕ). leads_to false (entry_of x) (world_of mid)) like ∙ sym (renamed-to from.items to.items target (world_of mid) hits)))

pub led-renamed-from : (calls rest : Calls) (call : Call) (from to : Vec ℕ) (settled : Bool) (target : List ℕ) → IsThen call rest calls → call ≡ Renamed from to → settled ≡ false
    → bytes_eq to.items target ≡ false → bytes_eq from.items target ≡ true → None ≡ leads_to settled (entry_of target) (world_of calls)
led-renamed-from calls rest call from to settled target is at test miss hits =
    led-by calls rest rest call (Renamed from to) settled false target None is refl at test (sym (renamed-from from.items to.items target (world_of rest) miss hits))

pub led-renamed-miss : (calls rest mid : Calls) (call : Call) (from to : Vec ℕ) (settled : Bool) (target : List ℕ) (r : Option ℕ) → IsThen call rest calls → mid ≡ rest → call ≡ Renamed from to → settled ≡ false
    → bytes_eq to.items target ≡ false → bytes_eq from.items target ≡ false → r ≡ leads_to false (entry_of target) (world_of mid) → r ≡ leads_to settled (entry_of target) (world_of calls)
led-renamed-miss calls rest mid call from to settled target r is same at test miss also led =
    led-by calls rest mid call (Renamed from to) settled false target r is same at test (led ∙ sym (renamed-miss from.items to.items target (world_of mid) miss also))

pub led-removed-kept : (calls rest mid : Calls) (call : Call) (path : Vec ℕ) (settled : Bool) (target : List ℕ) (r : Option ℕ) → IsThen call rest calls → mid ≡ rest → call ≡ Removed path → settled ≡ true
    → r ≡ leads_to true (entry_of target) (world_of mid) → r ≡ leads_to settled (entry_of target) (world_of calls)
led-removed-kept calls rest mid call path settled target r is same at test led =
    led-by calls rest mid call (Removed path) settled true target r is same at test (led ∙ sym (removed-settled path.items target (world_of mid)))

pub led-removed-hit : (calls rest : Calls) (call : Call) (path : Vec ℕ) (settled : Bool) (target : List ℕ) → IsThen call rest calls → call ≡ Removed path → settled ≡ false
    → bytes_eq path.items target ≡ true → None ≡ leads_to settled (entry_of target) (world_of calls)
led-removed-hit calls rest call path settled target is at test hits =
    led-by calls rest rest call (Removed path) settled false target None is refl at test (sym (removed-hit path.items target (world_of rest) hits))

pub led-removed-miss : (calls rest mid : Calls) (call : Call) (path : Vec ℕ) (settled : Bool) (target : List ℕ) (r : Option ℕ) → IsThen call rest calls → mid ≡ rest → call ≡ Removed path → settled ≡ false
    → bytes_eq path.items target ≡ false → r ≡ leads_to false (entry_of target) (world_of mid) → r ≡ leads_to settled (entry_of target) (world_of calls)
led-removed-miss calls rest mid call path settled target r is same at test miss led =
    led-by calls rest mid call (Removed path) settled false target r is same at test (led ∙ sym (removed-miss path.items target (world_of mid) miss))

pub led-synced : (calls rest mid : Calls) (call : Call) (d : ℕ) (settled folder b : Bool) (target : List ℕ) (r : Option ℕ) → IsThen call rest calls → mid ≡ rest → call ≡ Synced d
    → folder ≡ opens_folder (option_map view_of ((world_of mid).opened d)) → b ≡ (settled && not folder) → r ≡ leads_to b (entry_of target) (world_of mid) → r ≡ leads_to settled (entry_of target) (world_of calls)
led-synced calls rest mid call d settled folder b target r is same at opens both led =
    led-by calls rest mid call (Synced d) settled settled target r is same at refl
    (led ∙ (ap (λ (x : Bool). leads_to x (entry_of target) (world_of mid)) (both ∙ ap (λ (x : Bool). settled && not x) opens) ∙ sym (synced-leads settled (next_of mid) d target (world_of mid))))

pub led-lost : (calls rest mid : Calls) (call : Call) (back settled : Bool) (fill : Option ℕ) (target : List ℕ) (r : Option ℕ) → IsThen call rest calls → mid ≡ rest → call ≡ Lost back fill
    → r ≡ leads_to back (entry_of target) (world_of mid) → r ≡ leads_to settled (entry_of target) (world_of calls)
led-lost calls rest mid call back settled fill target r is same at led =
    led-by calls rest mid call (Lost back fill) settled settled target r is same at refl (led ∙ sym (lost-leads settled back fill (entry_of target) (world_of mid)))

pub led-opened : (calls rest mid : Calls) (call : Call) (way : Option Way) (file : ℕ) (settled : Bool) (target : List ℕ) (r : Option ℕ) → IsThen call rest calls → mid ≡ rest → call ≡ Opened way file
    → r ≡ leads_to settled (entry_of target) (world_of mid) → r ≡ leads_to settled (entry_of target) (world_of calls)
led-opened calls rest mid call way file settled target r is same at led =
    led-by calls rest mid call (Opened way file) settled settled target r is same at refl (led ∙ sym (opens-leads settled (next_of mid) file way (entry_of target) (world_of mid)))

pub led-on : (calls rest mid : Calls) (call : Call) (d : ℕ) (change : Change) (settled : Bool) (target : List ℕ) (r : Option ℕ) → IsThen call rest calls → mid ≡ rest → call ≡ On d change
    → r ≡ leads_to settled (entry_of target) (world_of mid) → r ≡ leads_to settled (entry_of target) (world_of calls)
led-on calls rest mid call d change settled target r is same at led =
    led-by calls rest mid call (On d change) settled settled target r is same at refl (led ∙ sym (on-leads settled (next_of mid) d change (entry_of target) (world_of mid)))

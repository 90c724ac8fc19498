-- An object that goes without being written: what that leaves of a core, and of counts.
use Rattle.std.proofs.Common.{zero, suc, ◌≡◌, ◌≢◌, ℕ, pos, ◌+◌, ◌<◌, ◌≤◌, Bool, true, false, List, [], ◌∷◌, Option, Some, None, refl, sym, ◌∙◌, ap, ap₂, subst, arith, ⊎_elim, count_by}
use Rattle.std.proofs.lemmas.Bool.{cases_eq}
use Rattle.std.specs.Prelude.{option_map}
use Rattle.long_names.specs.declared.object.Object.{Object}
use Rattle.long_names.specs.Names.{is_known}
use Rattle.long_names.specs.Heap.{Heap, Has, without, count_of}
use Rattle.loom_host.specs.declared.outside.Host.{Ghosts}
use Rattle.object_table.specs.declared.entry.Entry.{Entry}
use Rattle.object_table.specs.Entries.{put, place_of, free_entry}
use Rattle.disk_objects.specs.declared.rest.DiskRest.{DiskRest}
use Rattle.core_segment.specs.Chunks.{Chunk}
use Rattle.core_segment.specs.Segment.{free_of, size_of}
use Rattle.core_view.specs.Core.{Core, with_entry, without_leaf}
use Rattle.core_view.specs.Counts.{names, holders_in, holders, tally, uses, outside, marked_of}
use Rattle.core_view.specs.Held.{object_at}
use Rattle.core_view.specs.Kept.{IsCore, IsTight, Keeps, Stays}
use Rattle.core_view.specs.Purge.{IsPurged, IsSameBody}
use Rattle.core_view.specs.Room.{is_among}
use Rattle.core_view.specs.Steps.{IsAbout, IsIdle, written}
use Rattle.core_view.proofs.Core.{placed-used}
use Rattle.core_view.proofs.Lists.{put-here, put-there}
use Rattle.core_view.proofs.Purge.{Purged-trans, about-purged, freed-purged, freed-tight, idle-freed}
use Rattle.leaf_lambda.specs.declared.parts.Parts.{Parts}
use Rattle.leaf_lambda.specs.Parts.{core_of, spare_of, IsParts, IsWithin}
use Rattle.leaf_lambda.proofs.FillLaws.{put-twice}
use Rattle.leaf_lambda.proofs.TranslateLaws.{Within-trans}
use Rattle.core_view.specs.Levels.{Stored, Levels, count_in, records_of, heap_of, sum_of}
use Rattle.core_view.specs.Counted.{words_of, one_if, IsSound}
use Rattle.core_view.specs.Dead.{outside_by, IsDead, CanGo}
use Rattle.core_view.specs.LevelSteps.{changed_at, folded, given, recounted, removed, to_count, with_core, written_at}
use Rattle.core_view.proofs.CameLaws.{came-sound}
use Rattle.core_view.proofs.FreeLaws.{removed-heap, removed-sound}
use Rattle.core_view.proofs.LevelLaws.{heap-same}
use Rattle.core_view.proofs.QueueLaws.{entered-waits, joined-there}
use Rattle.core_view.proofs.StoreLaws.{written-sound}
use Rattle.delta_counts.specs.At.{IsStoredAt}
use Rattle.delta_counts.proofs.GiveLaws.{given-is}
use Rattle.purger.specs.Counts.{StandsFor}
use Rattle.purger.specs.Draining.{AreNamed, IsForgotten, KeepsHeld, LeavesRest, forgotten}
use Rattle.purger.specs.Marks.{AreHere, KeepsMarks}
use Rattle.purger.proofs.MarkLaws.{Kept-trans, Marks-same, leaf-gone-here, leaf-gone-marks, marked-at, within-here, within-marks}
use Rattle.purger.proofs.NamingLaws.{counts-free, within-counts}
use Rattle.purger.proofs.SoundLaws.{core-is}

-- ---- fewer uses where a body goes

tally-least : (n : ℕ) (f g : ℕ → List ℕ) (s : ℕ) → ((q : ℕ) → count_by (names s) (g q) ≤ count_by (names s) (f q)) → tally n g s ≤ tally n f s
tally-least zero f g s less = omega arith
tally-least (suc n) f g s less = let rest = tally-least n f g s less in let last = less n in omega arith

holders-less : (c d : Core) (s t q : ℕ) → IsAbout s c d → place_of (d.entries s).state ≡ None → count_by (names t) (holders d q) ≤ count_by (names t) (holders c q)
unfolding holders
holders-less c d s t q about gone = ⊎_elim (λ (e : q ≡ s). none (ap (λ (k : ℕ). place_of (d.entries k).state) e ∙ gone)) (λ (away : q ≢ s). go away (place_of (c.entries q).state) refl) (cases_eq q s)
  where
    none : place_of (d.entries q).state ≡ None → count_by (names t) (holders_in d.chunks (d.entries q) (place_of (d.entries q).state)) ≤ count_by (names t) (holders_in c.chunks (c.entries q) (place_of (c.entries q).state))
    none e = let z : count_by (names t) (holders_in d.chunks (d.entries q) (place_of (d.entries q).state)) ≡ 0 = ap (λ o. count_by (names t) (holders_in d.chunks (d.entries q) o)) e in omega arith

    go : q ≢ s → (o : Option ℕ) → place_of (c.entries q).state ≡ o → count_by (names t) (holders_in d.chunks (d.entries q) (place_of (d.entries q).state)) ≤ count_by (names t) (holders_in c.chunks (c.entries q) (place_of (c.entries q).state))
    go away None e = none (about.leaves q away e)
    go away (Some p) e =
        let same = about.bodies q p away e in
        let chunk = about.chunks q p away e in
        let there : place_of (d.entries q).state ≡ Some p = ap (λ (x : Entry). place_of x.state) same ∙ e in
        let a : holders_in d.chunks (d.entries q) (place_of (d.entries q).state) ≡ holders_in c.chunks (c.entries q) (place_of (c.entries q).state) =
        ap (λ o. holders_in d.chunks (d.entries q) o) there
        ∙ ap₂ (λ (x : Entry) (k : Chunk). x.class.0 ∷ Rattle.core_view.specs.Words.pointers x.kind k.words) same chunk
        ∙ sym (ap (λ o. holders_in c.chunks (c.entries q) o) e) in
        let z = ap (λ xs. count_by (names t) xs) a in omega arith

uses-less : (c d : Core) (s t : ℕ) → IsAbout s c d → place_of (d.entries s).state ≡ None → uses d t ≤ uses c t
unfolding uses
uses-less c d s t about gone =
    let same = ap (λ (n : ℕ). tally n (holders d) t) about.bound in
    let less = tally-least c.bound (holders c) (holders d) t (λ q. holders-less c d s t q about gone) in
    omega arith

refs-none : (c d : Core) (s : ℕ) → IsCore c → IsCore d → IsAbout s c d → place_of (d.entries s).state ≡ None → outside d s ≡ outside c s → (c.entries s).refs ≡ 0 → (d.entries s).refs ≡ 0
unfolding outside
refs-none c d s core now about gone same none =
    let less = uses-less c d s s about gone in
    let most = core.counted s in
    omega arith

-- ---- the steps

pub written-here : (c w : Core) (s : ℕ) → w ≡ with_entry c s (written (c.entries s)) → w.entries s ≡ written (c.entries s)
written-here c w s is = ap (λ (x : Core). x.entries s) is ∙ put-here c.entries s (written (c.entries s))

pub left-idle : (c w d : Core) (s p : ℕ) → IsCore c → IsCore d → place_of (c.entries s).state ≡ Some p → (c.entries s).refs ≡ 0 → IsWithin s c w → IsWithin s w d → place_of (d.entries s).state ≡ None → IsIdle d s (d.entries s).name
left-idle c w d s p core now at none first then gone =
    let all = Within-trans s c w d first then in
    record {
      used = (all.live s (placed-used (c.entries s).state p at)).0;
      leaf = gone;
      name = refl;
      none = refs-none c d s core now all.about gone (all.same_outside s) none;
    }

pub forgotten-of : (c w d e : Core) (s p : ℕ) → IsCore c → place_of (c.entries s).state ≡ Some p → (c.entries s).refs ≡ 0 → w ≡ with_entry c s (written (c.entries s)) → IsWithin s c w → w.find ≡ c.find
    → IsCore d → Stays w d → IsWithin s w d → d.find ≡ w.find → place_of (d.entries s).state ≡ None → e ≡ without_leaf d s (d.entries s).name → IsForgotten s c e
forgotten-of c w d e s p core at none is first found now stays then find gone last =
    let all = Within-trans s c w d first then in
    let name : (d.entries s).name ≡ (c.entries s).name = (all.live s (placed-used (c.entries s).state p at)).1 in
    let idle = left-idle c w d s p core now at none first then gone in
    record {
      middle = d;
      core = now;
      stays = subst (λ (x : Core). Stays x d) is stays;
      step = subst (λ (x : Core). IsWithin s x d) is then;
      within = all;
      find = find ∙ found;
      idle = subst (λ (n : ℕ). IsIdle d s n) name idle;
      is = last ∙ ap (λ (n : ℕ). without_leaf d s n) name;
    }

-- ---- what is left

pub forgotten-purged : (a b k s p : ℕ) (c d : Core) → IsCore c → IsCore d → IsForgotten s c d → place_of (c.entries s).state ≡ Some p → is_among a b k s ≡ false → IsPurged a b k c d
forgotten-purged a b k s p c d core now f at away = Purged-trans a b k c f.middle d
    (about-purged a b k s p c f.middle core f.within.about f.within.same_outside (λ t on. (f.within.live t on).1) at away)
    (freed-purged a b k f.middle d now (idle-freed f.middle d s (c.entries s).name f.core f.idle f.is))

forgotten-outside : (s : ℕ) (c d : Core) → IsForgotten s c d → (t : ℕ) → outside d t ≡ outside c t
forgotten-outside s c d f t = (idle-freed f.middle d s (c.entries s).name f.core f.idle f.is).same_outside t ∙ f.within.same_outside t

pub forgotten-tight : (s : ℕ) (c d : Core) → IsForgotten s c d → IsTight c → IsTight d
forgotten-tight s c d f tight = freed-tight f.middle d (idle-freed f.middle d s (c.entries s).name f.core f.idle f.is) (f.within.tight tight)

middle-off : (s p : ℕ) (c d : Core) → IsCore c → (f : IsForgotten s c d) → place_of (c.entries s).state ≡ Some p → (c.entries s).flags.marked ≡ false → (f.middle.entries s).flags.marked ≡ false
middle-off s p c d core f at off = sym (marked-at f.middle s f.core f.idle.used) ∙ ap (marked_of f.middle) f.idle.name ∙ f.within.marks (c.entries s).name ∙ marked-at c s core (placed-used (c.entries s).state p at) ∙ off

middle-here : (s p : ℕ) (c d : Core) → IsCore c → (f : IsForgotten s c d) → place_of (c.entries s).state ≡ Some p → (c.entries s).flags.marked ≡ false → AreHere c → AreHere f.middle
middle-here s p c d core f at off here = within-here c f.middle s f.within (middle-off s p c d core f at off) here

pub forgotten-here : (s p : ℕ) (c d : Core) → IsCore c → IsForgotten s c d → place_of (c.entries s).state ≡ Some p → (c.entries s).flags.marked ≡ false → AreHere c → AreHere d
forgotten-here s p c d core f at off here = subst (λ (x : Core). AreHere x) (sym f.is) (leaf-gone-here f.middle s (c.entries s).name (middle-here s p c d core f at off here))

pub forgotten-marks : (s p : ℕ) (c d : Core) → IsCore c → IsForgotten s c d → place_of (c.entries s).state ≡ Some p → (c.entries s).flags.marked ≡ false → AreHere c → KeepsMarks c d
forgotten-marks s p c d core f at off here = Kept-trans c f.middle d (within-marks c f.middle s core f.core f.within)
    (subst (λ (x : Core). KeepsMarks f.middle x) (sym f.is) (leaf-gone-marks f.middle s (c.entries s).name f.core f.idle (middle-here s p c d core f at off here)))

forgotten-body : (s r b : ℕ) (c d : Core) → IsForgotten s c d → r ≢ s → place_of (c.entries r).state ≡ Some b → IsSameBody c d r b
forgotten-body s r b c d f away at =
    let same = ap (λ (x : Core). x.entries r) f.is ∙ put-there f.middle.entries s free_entry r away ∙ f.within.about.bodies r b away at in
    record {
      at = b;
      place = ap (λ (e : Entry). place_of e.state) same ∙ at;
      kind = ap (λ (e : Entry). e.kind) same;
      len = ap (λ (e : Entry). e.len) same;
      name = ap (λ (e : Entry). e.name) same;
      words = ap (λ (x : Core). (x.chunks b).words) f.is ∙ ap (λ (k : Chunk). k.words) (f.within.about.chunks r b away at);
    }

pub forgotten-held : (s : ℕ) (c d : Core) (h : Heap) → IsForgotten s c d → (Has h (c.entries s).name → ⊥) → KeepsHeld c d h
forgotten-held s c d h f gone r b at has = ⊎_elim (λ (e : r ≡ s). absurd (gone (subst (λ (k : ℕ). Has h (c.entries k).name) e has))) (λ (away : r ≢ s). forgotten-body s r b c d f away at) (cases_eq r s)

pub not-among : (c : Core) (a b d s p : ℕ) → AreNamed a b d c → place_of (c.entries s).state ≡ Some p → (c.entries s).refs ≡ 0 → is_among a b d s ≡ false
unfolding outside
not-among c a b d s p named at none = go (is_among a b d s) refl
  where
    go : (x : Bool) → is_among a b d s ≡ x → is_among a b d s ≡ false
    go false e = e
    go true e = let some = named s p e at in absurd (omega arith)

pub forgotten-leaves : (p q : Parts) (s a : ℕ) → IsParts p → IsTight (core_of p) → AreHere (core_of p) → place_of ((core_of p).entries s).state ≡ Some a → ((core_of p).entries s).flags.marked ≡ false → ((core_of p).entries s).refs ≡ 0
    → IsParts q → IsForgotten s (core_of p) (core_of q) → size_of q.segment ≡ size_of p.segment → free_of p.segment < free_of q.segment → spare_of q ≡ spare_of p + 1 → LeavesRest p q
forgotten-leaves p q s a parts tight here at off none now f size wider more = record {
  parts = now;
  tight = forgotten-tight s (core_of p) (core_of q) f tight;
  here = forgotten-here s a (core_of p) (core_of q) parts.core f at off here;
  bound = ap (λ (x : Core). x.bound) f.is ∙ f.within.about.bound;
  same_outside = forgotten-outside s (core_of p) (core_of q) f;
  purged = λ x y z named. forgotten-purged x y z s a (core_of p) (core_of q) parts.core now.core f at (not-among (core_of p) x y z s a named at none);
  marks = Marks-same (core_of p) (core_of q) (forgotten-marks s a (core_of p) (core_of q) parts.core f at off here);
  size = size;
  words = omega arith;
  entries = omega arith;
}

-- ---- counts

abbrev leveled : Core → (ℕ → Option Stored) → List ℕ → ℕ → Levels
leveled c stored pending next = record { core = c; stored = stored; pending = pending; next = next }

same-levels : (c d : Core) (f g : ℕ → Option Stored) (pending : List ℕ) (next : ℕ) → c ≡ d → f ≡ g → (record { core = c; stored = f; pending = pending; next = next }) ≡ leveled d g pending next
same-levels c d f g pending next e h = ap₂ (λ (x : Core) (k : ℕ → Option Stored). leveled x k pending next) e h

-- the entry of a leaf whose change was folded goes as that of the leaf
folded-gone : (d : Core) (s m n : ℕ) → m ≡ n → without_leaf (changed_at d s (pos 0)) s m ≡ without_leaf d s n
folded-gone d s m n e = ap₂ (λ (f : ℕ → Entry) (g : ℕ → Option ℕ). let x : Core = record { entries = f; find = g; chunks = d.chunks; bound = d.bound } in x)
    (put-twice d.entries s (Rattle.core_view.specs.LevelSteps.with_change (d.entries s) (pos 0)) free_entry) (ap (λ (k : ℕ). put d.find k None) e)

put-thrice : (f : ℕ → Option Stored) (m n : ℕ) (a b : Option Stored) → m ≡ n → put (put (put f n a) m b) n None ≡ put f n None
put-thrice f m n a b e = ap (λ (k : ℕ). put (put (put f n a) k b) n None) e ∙ put-twice (put f n a) n b None ∙ put-twice f n a None

pub forgotten-sound : (t : Levels) (d : Core) (s p : ℕ) → IsSound t [] → place_of (t.core.entries s).state ≡ Some p → IsDead t (t.core.entries s).name → IsCore d
    → Stays (with_entry t.core s (written (t.core.entries s))) d → IsWithin s (with_entry t.core s (written (t.core.entries s))) d → d.find ≡ t.core.find → IsIdle d s (t.core.entries s).name
    → IsSound (forgotten t d s (t.core.entries s).name) (words_of (object_at t.core (records_of t) (t.core.entries s) p)) × (heap_of (forgotten t d s (t.core.entries s).name) ≡ without (heap_of t) (t.core.entries s).name)
forgotten-sound t d s p x at dead core stays within find idle = (
  subst (λ (u : Levels). IsSound u (words_of o)) same (removed-sound t4 n r4 t.pending last.0 can),
  ap heap_of (sym same) ∙ removed-heap t4 n r4 t.pending last.0 can ∙ ap (λ (h : Heap). without h n) heap4,
)
  where
    n : ℕ
    n = (t.core.entries s).name

    m : ℕ
    m = (d.entries s).name

    o : Object
    o = object_at t.core (records_of t) (t.core.entries s) p

    r1 : Stored
    r1 = record { object = o; count = count_in (t.stored n) }

    t1 : Levels
    t1 = written_at t s p

    wrote : IsSound t1 [] × (heap_of t1 ≡ heap_of t)
    wrote = written-sound t s p [] x at

    t2 : Levels
    t2 = with_core t1 d

    keeps : Keeps (records_of t1) t1.core d
    keeps = stays (records_of t1) wrote.0.backed

    x2 : IsSound t2 []
    x2 = came-sound t1 d [] wrote.0 core keeps (counts-free t1.core d (within-counts t1.core d s find within))

    t4 : Levels
    t4 = given (folded t2 s) s m

    last : IsSound t4 [] × (heap_of t4 ≡ heap_of t2)
    last = given-is t2 s x2 (record { used = idle.used; leaf = idle.leaf; none = idle.none })

    heap4 : heap_of t4 ≡ heap_of t
    heap4 = last.1 ∙ heap-same t1 t2 keeps.held refl ∙ wrote.1

    k : ℕ
    k = to_count (sum_of t2 m)

    r4 : Stored
    r4 = recounted k r1

    there2 : t2.stored m ≡ Some r1
    there2 = ap t2.stored idle.name ∙ put-here t.stored n (Some r1)

    there4 : t4.stored n ≡ Some r4
    there4 = ap t4.stored (sym idle.name) ∙ put-here t2.stored m (option_map (recounted k) (t2.stored m)) ∙ ap (option_map (recounted k)) there2

    absent4 : t4.core.find n ≡ None
    absent4 = ap t4.core.find (sym idle.name) ∙ put-here d.find m None

    found : t.core.find n ≡ Some s
    found = x.core.found s (placed-used (t.core.entries s).state p at)

    can : CanGo t4 n r4 t.pending
    can = record {
      loose = record {
        dead = record {
          held = subst (λ (h : Heap). Has h n) (sym heap4) dead.held;
          unknown = dead.unknown;
          uncounted = ap (λ (h : Heap). count_of h n) heap4 ∙ dead.uncounted;
          free = ap (outside_by t4.core) absent4;
        };
        no_entry = absent4;
        there = there4;
      };
      gone = x.counted.waiting n ∙ ap one_if (entered-waits (t.core.find n) s (t.stored n) (is_known n) found);
      others = λ q away. sym (joined-there None ((folded t2 s).stored m) m q t.pending (λ e. away (e ∙ idle.name)));
    }

    same : removed t4 n t.pending ≡ forgotten t d s n
    same = same-levels t4.core (without_leaf d s n) (put t4.stored n None) (put t.stored n None) t.pending t.next (folded-gone d s m n idle.name)
        (put-thrice t.stored m n (Some r1) (option_map (recounted k) (t2.stored m)) idle.name)

-- ---- in parts and disk

-- sound levels without the object, whose words are owed
pub record IsOwedAt {H : Type 0} (host : Ghosts H) (q : Parts) (now : H) (rest : DiskRest) (t : Levels) (o : Object) (n : ℕ) : Type 0 where
  pub levels : Levels
  pub at : StandsFor host q now rest levels
  pub sound : IsSound levels (words_of o)
  pub heap : heap_of levels ≡ without (heap_of t) n

pub forgotten-owed : {H : Type 0} (host : Ghosts H) (q : Parts) (now : H) (rest : DiskRest) (t : Levels) (c : Core) (o : Object) (n s a : ℕ) → c ≡ t.core → IsSound t [] → place_of (c.entries s).state ≡ Some a → IsDead t (t.core.entries s).name
    → IsForgotten s c (core_of q) → n ≡ (c.entries s).name → o ≡ object_at c (records_of t) (c.entries s) a → IsStoredAt host now rest (put t.stored n None) t.pending → IsOwedAt host q now rest t o n
forgotten-owed host q now rest t c o n s a is x at dead f name object disk = record {
  levels = forgotten t g.middle s n;
  at = record { core = core-is q ∙ g.is ∙ ap (without_leaf g.middle s) (sym named); disk = disk };
  sound = subst (λ (k : ℕ). IsSound (forgotten t g.middle s k) (words_of o)) (sym named)
      (subst (λ (y : Object). IsSound (forgotten t g.middle s (t.core.entries s).name) (words_of y)) (sym whole) both.0);
  heap = ap (λ (k : ℕ). heap_of (forgotten t g.middle s k)) named ∙ both.1 ∙ ap (without (heap_of t)) (sym named);
}
  where
    g : IsForgotten s t.core (core_of q)
    g = subst (λ (y : Core). IsForgotten s y (core_of q)) is f

    named : n ≡ (t.core.entries s).name
    named = name ∙ ap (λ (y : Core). (y.entries s).name) is

    whole : o ≡ object_at t.core (records_of t) (t.core.entries s) a
    whole = object ∙ ap (λ (y : Core). object_at y (records_of t) (y.entries s) a) is

    both : IsSound (forgotten t g.middle s (t.core.entries s).name) (words_of (object_at t.core (records_of t) (t.core.entries s) a)) × (heap_of (forgotten t g.middle s (t.core.entries s).name) ≡ without (heap_of t) (t.core.entries s).name)
    both = forgotten-sound t g.middle s a x (ap (λ (y : Core). place_of (y.entries s).state) (sym is) ∙ at) dead g.core g.stays g.step g.find g.idle
